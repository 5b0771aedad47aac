-- The readers of the messages want more exactly of proper prefixes.
use Rattle.std.proofs.Common.{ℕ, true, not, ◌==◌, ◌||◌, refl}
use Rattle.std.specs.Int.{w128, from_be_bytes}
use Rattle.addr_pattern.specs.declared.front.BadKind.{BadKind}
use Rattle.socks_grammar.specs.Grammar.{done, byte_that, any_byte, any_bytes, bytes_that, number16, number32, number128, name5, is_atyp, host_by_type, host5, greeting, method_answer, request5, reply5_head, udp_header}
use Rattle.addr_pattern.specs.Names.{is_name_byte}
use Rattle.socks_grammar.specs.Prefixes.{StopsExactly}
use Rattle.socks5_codec.specs.Parts.{host_spelled, typed_host, destination, request_spelled, reply5, header_spelled}
use Rattle.socks_grammar.proofs.Exact.{IsExact, done-exact, cond-exact, bind-exact, byte-exact, any_byte-exact, bytes-exact, any_bytes-exact, number16-exact, stops-exactly, number32-exact}

version-exact : IsExact (byte_that (λ b. b == 5) BadKind.Version)
version-exact = byte-exact (λ b. b == 5) BadKind.Version 5 refl refl

number128-exact : IsExact number128
number128-exact = bind-exact (any_bytes 16) (λ bs. done (from_be_bytes w128 bs)) (any_bytes-exact 16) (λ bs. done-exact (from_be_bytes w128 bs))

name5-exact : IsExact name5
name5-exact = bind-exact (byte_that (λ b. not (b == 0)) BadKind.Field) (λ count. bytes_that is_name_byte BadKind.Field count)
    (byte-exact (λ b. not (b == 0)) BadKind.Field 1 refl refl) (λ count. bytes-exact is_name_byte BadKind.Field 97 refl refl count)

-- ---- a host and a port

host_spelled-exact : (atyp : ℕ) → IsExact (host_spelled atyp)
host_spelled-exact atyp = cond-exact (atyp == 1) _ _ (bind-exact number32 _ number32-exact (λ n. done-exact _))
    (cond-exact (atyp == 4) _ _ (bind-exact number128 _ number128-exact (λ n. done-exact _)) (bind-exact name5 _ name5-exact (λ name. done-exact _)))

host_by_type-exact : (atyp : ℕ) → IsExact (host_by_type atyp)
host_by_type-exact atyp = cond-exact (atyp == 1) _ _ (bind-exact number32 _ number32-exact (λ n. done-exact _))
    (cond-exact (atyp == 4) _ _ (bind-exact number128 _ number128-exact (λ n. done-exact _)) (bind-exact name5 _ name5-exact (λ name. done-exact _)))

typed_host-exact : IsExact typed_host
typed_host-exact = bind-exact (byte_that is_atyp BadKind.Atyp) host_spelled (byte-exact is_atyp BadKind.Atyp 1 refl refl) host_spelled-exact

host5-exact : IsExact host5
host5-exact = bind-exact (byte_that is_atyp BadKind.Atyp) host_by_type (byte-exact is_atyp BadKind.Atyp 1 refl refl) host_by_type-exact

destination-exact : IsExact destination
destination-exact = bind-exact typed_host _ typed_host-exact (λ host. bind-exact number16 _ number16-exact (λ port. done-exact _))

-- ---- the messages

pub greeting-exact : IsExact greeting
greeting-exact = bind-exact _ _ version-exact (λ version. bind-exact any_byte _ any_byte-exact (λ count. any_bytes-exact count))

method-exact : IsExact method_answer
method-exact = bind-exact _ _ version-exact (λ version. any_byte-exact)

request_spelled-exact : IsExact request_spelled
request_spelled-exact = bind-exact _ _ version-exact (λ version. bind-exact _ _ (byte-exact (λ b. b == 1 || b == 2 || b == 3) BadKind.Command 1 refl refl) (λ code.
    bind-exact any_byte _ any_byte-exact (λ reserved. bind-exact destination _ destination-exact (λ d. done-exact _))))

pub request5-exact : IsExact request5
request5-exact = bind-exact _ _ version-exact (λ version. bind-exact _ _ (byte-exact (λ b. b == 1 || b == 2 || b == 3) BadKind.Command 1 refl refl) (λ code.
    bind-exact any_byte _ any_byte-exact (λ reserved. bind-exact host5 _ host5-exact (λ host. bind-exact number16 _ number16-exact (λ port. done-exact _)))))

reply5_head-exact : IsExact reply5_head
reply5_head-exact = bind-exact _ _ version-exact (λ version. any_byte-exact)

reply5-exact : IsExact reply5
reply5-exact = bind-exact reply5_head _ reply5_head-exact (λ code. bind-exact any_byte _ any_byte-exact (λ reserved. bind-exact destination _ destination-exact (λ d. done-exact _)))

header_spelled-exact : IsExact header_spelled
header_spelled-exact = bind-exact (any_bytes 2) _ (any_bytes-exact 2) (λ reserved. bind-exact any_byte _ any_byte-exact (λ frag.
    bind-exact destination _ destination-exact (λ d. done-exact _)))

udp_header-exact : IsExact udp_header
udp_header-exact = bind-exact (any_bytes 2) _ (any_bytes-exact 2) (λ reserved. bind-exact any_byte _ any_byte-exact (λ frag.
    bind-exact host5 _ host5-exact (λ host. bind-exact number16 _ number16-exact (λ port. done-exact _))))

pub greetings-stop : StopsExactly greeting
greetings-stop = stops-exactly greeting greeting-exact

pub methods-stop : StopsExactly method_answer
methods-stop = stops-exactly method_answer method-exact

pub spelled_requests-stop : StopsExactly request_spelled
spelled_requests-stop = stops-exactly request_spelled request_spelled-exact

pub requests-stop : StopsExactly request5
requests-stop = stops-exactly request5 request5-exact

pub replies-stop : StopsExactly reply5
replies-stop = stops-exactly reply5 reply5-exact

pub spelled_headers-stop : StopsExactly header_spelled
spelled_headers-stop = stops-exactly header_spelled header_spelled-exact

pub headers-stop : StopsExactly udp_header
headers-stop = stops-exactly udp_header udp_header-exact
