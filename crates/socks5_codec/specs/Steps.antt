-- What a part of a reader answers, by cases.
use Rattle.std.specs.Prelude.{ℕ, ◌+◌, ◌≡◌, ◌≤◌, Result, Ok, Err, List, drop, length}
use Rattle.addr_pattern.specs.declared.host.Host.{Host}
use Rattle.socks_grammar.specs.declared.protocol.Command.{Command}
use Rattle.socks_grammar.specs.Grammar.{Read, Reader, ◌>>=◌, done}
use Rattle.socks5_codec.specs.declared.destination.Towards.{Towards}
use Rattle.socks5_codec.specs.declared.message.HostAt.{HostAt}
use Rattle.socks5_codec.specs.declared.message.Reply5.{Reply5}
use Rattle.socks5_codec.specs.declared.message.Request5.{Request5}
use Rattle.socks5_codec.specs.declared.message.UdpHead.{UdpHead}
use Rattle.socks_grammar.specs.declared.stop.Stop.{Stop}
use Rattle.socks5_codec.specs.Parts.{destination, asked_for, request_spelled, reply5, header_spelled}
use Rattle.socks5_codec.specs.Placed.{IsReply5, NameStands, host_in, request_in, header_in}

-- how a reader stops
abbrev pub stopped : {A : Type 0} → Stop → Read A
stopped Stop.More = Read.Short
stopped (Stop.Bad b) = Read.Wrong b.at b.byte b.kind

-- a host from a place on, which ends before the place behind it; a name begins at its own
pub record IsHostAt (read : Reader Host) (bytes : List ℕ) (at first : ℕ) (host : HostAt) (end : ℕ) : Type 0 where
  pub spelled : read at (drop at bytes) ≡ Read.Got (host_in bytes host) end (drop end bytes)
  pub name_at : NameStands host first (end + 2)
  pub inside : end ≤ length bytes

abbrev pub OnHost : Reader Host → List ℕ → ℕ → ℕ → Result (HostAt × ℕ) Stop → Type 0
OnHost read bytes at first (Ok p) = IsHostAt read bytes at first p.0 p.1
OnHost read bytes at first (Err stop) = read at (drop at bytes) ≡ stopped stop

-- a host and a port from a place on
pub record IsTowards (bytes : List ℕ) (at : ℕ) (d : Towards) : Type 0 where
  pub spelled : destination at (drop at bytes) ≡ Read.Got (record { host = host_in bytes d.host; port = d.port }) d.end (drop d.end bytes)
  pub name_at : NameStands d.host (at + 2) d.end
  pub inside : d.end ≤ length bytes

abbrev pub OnTowards : List ℕ → ℕ → Result Towards Stop → Type 0
OnTowards bytes at (Ok d) = IsTowards bytes at d
OnTowards bytes at (Err stop) = destination at (drop at bytes) ≡ stopped stop

-- version, command and reserved byte, and what is read behind them
pub record IsHead (bytes : List ℕ) (command : Command) : Type 0 where
  pub follows : request_spelled 0 bytes ≡ (destination >>= λ d. done (asked_for command d)) 3 (drop 3 bytes)
  pub inside : 3 ≤ length bytes

abbrev pub OnHead : List ℕ → Result Command Stop → Type 0
OnHead bytes (Ok command) = IsHead bytes command
OnHead bytes (Err stop) = request_spelled 0 bytes ≡ stopped stop

-- a request, as it is spelled
pub record IsWhole (bytes : List ℕ) (r : Request5) (len : ℕ) : Type 0 where
  pub spelled : request_spelled 0 bytes ≡ Read.Got (request_in bytes r) len (drop len bytes)
  pub name_at : NameStands r.host 5 len
  pub inside : len ≤ length bytes

abbrev pub OnWhole : List ℕ → Result (Request5 × ℕ) Stop → Type 0
OnWhole bytes (Ok p) = IsWhole bytes p.0 p.1
OnWhole bytes (Err stop) = request_spelled 0 bytes ≡ stopped stop

abbrev pub OnReply : List ℕ → Result (Reply5 × ℕ) Stop → Type 0
OnReply bytes (Ok p) = IsReply5 bytes p.0 p.1
OnReply bytes (Err stop) = reply5 0 bytes ≡ stopped stop

-- a header, as it is spelled
pub record IsHeader (bytes : List ℕ) (h : UdpHead) (len : ℕ) : Type 0 where
  pub spelled : header_spelled 0 bytes ≡ Read.Got (header_in bytes h) len (drop len bytes)
  pub name_at : NameStands h.host 5 len
  pub inside : len ≤ length bytes

abbrev pub OnHeader : List ℕ → Result (UdpHead × ℕ) Stop → Type 0
OnHeader bytes (Ok p) = IsHeader bytes p.0 p.1
OnHeader bytes (Err stop) = header_spelled 0 bytes ≡ stopped stop
