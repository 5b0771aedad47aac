-- The definitions of the texts, at worked texts.
use Rattle.std.proofs.Common.{◌≡◌, Ok, Err, codes, refl}
use Rattle.addr_pattern.specs.declared.addr.Addr.{Addr}
use Rattle.addr_pattern.specs.declared.fault.AddrFault.{AddrFault}
use Rattle.addr_pattern.specs.declared.pattern.HostPattern.{HostPattern}
use Rattle.addr_pattern.specs.declared.pattern.PortTest.{PortTest}
use Rattle.addr_pattern.specs.AddressText.{addr_text}
use Rattle.addr_pattern.specs.Reading.{addr_read, endpoint_read}
use Rattle.addr_pattern.specs.PatternText.{pattern_read}

quad : addr_read (codes "192.0.2.1") ≡ Ok (Addr.V4 3221225985)
quad = refl

compressed : addr_read (codes "2001:DB8:0:0::1") ≡ Ok (Addr.V6 0x20010db8000000000000000000000001)
compressed = refl

dotted : addr_read (codes "::ffff:192.0.2.1") ≡ Ok (Addr.V6 0xffffc0000201)
dotted = refl

written : addr_text (Addr.V6 0xffffc0000201) ≡ codes "::ffff:c000:201"
written = refl

first-of-equal-runs : addr_text (Addr.V6 0x00010000000000020003000000000004) ≡ codes "1::2:3:0:0:4"
first-of-equal-runs = refl

two-gaps : addr_read (codes "1::2::3") ≡ Err AddrFault.BadGroup
two-gaps = refl

dotted-before-gap : addr_read (codes "1.2.3.4::") ≡ Err AddrFault.BadGroup
dotted-before-gap = refl

leading-zero : addr_read (codes "01.2.3.4") ≡ Err AddrFault.BadOctet
leading-zero = refl

bracketed : endpoint_read (codes "[::1]:80") ≡ Ok (record { addr = Addr.V6 1; port = 80 })
bracketed = refl

port-before-host : endpoint_read (codes "x:65536") ≡ Err AddrFault.BadPort
port-before-host = refl

host-bits : pattern_read (codes "10.0.0.1/8") ≡ Err AddrFault.HostBits
host-bits = refl

mask-first : pattern_read (codes "10.0.0.1/33") ≡ Err AddrFault.BadMask
mask-first = refl

range : pattern_read (codes "0/0 port 1 - 65535") ≡ Ok (record { host = HostPattern.Any; port = PortTest.Range 1 65535 })
range = refl

turned-range : pattern_read (codes "0/0 port 5-4") ≡ Err AddrFault.BadPort
turned-range = refl

host-before-port : pattern_read (codes "a@b port 5-4") ≡ Err AddrFault.BadName
host-before-port = refl

domain : pattern_read (codes ".Example.COM port neq 1") ≡ Ok (record { host = HostPattern.Domain (codes "Example.COM"); port = PortTest.Ne 1 })
domain = refl
