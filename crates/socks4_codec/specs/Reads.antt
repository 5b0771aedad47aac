-- What a reader answers, by cases.
use Rattle.std.specs.Prelude.{ℕ, ◌+◌, ◌≡◌, ◌≤◌, Result, Ok, Err, List, drop, length}
use Rattle.addr_pattern.specs.declared.front.Front.{Front}
use Rattle.addr_pattern.specs.declared.front.Span.{Span}
use Rattle.socks_grammar.specs.Grammar.{Read, Reader, request4}
use Rattle.socks4_codec.specs.declared.reply.Reply4.{Reply4}
use Rattle.socks4_codec.specs.declared.request.Request4.{Request4}
use Rattle.socks4_codec.specs.declared.read_request.Fixed.{Fixed}
use Rattle.socks_grammar.specs.declared.stop.Stop.{Stop}
use Rattle.socks4_codec.specs.Parts.{parts4, behind_addr, reply4}
use Rattle.socks4_codec.specs.Placed.{IsRequest4, IsPlaced4, bytes_in, parts_in}

abbrev pub OnRequest4 : List ℕ → Front Request4 → Type 0
OnRequest4 bytes (Front.Whole r len) = IsRequest4 bytes r len
OnRequest4 bytes Front.More = request4 0 bytes ≡ Read.Short
OnRequest4 bytes (Front.Bad b) = request4 0 bytes ≡ Read.Wrong b.at b.byte b.kind

abbrev pub OnReply4 : List ℕ → Front Reply4 → Type 0
OnReply4 bytes (Front.Whole r len) = (reply4 0 bytes ≡ Read.Got r len (drop len bytes)) × (len ≤ length bytes)
OnReply4 bytes Front.More = reply4 0 bytes ≡ Read.Short
OnReply4 bytes (Front.Bad b) = reply4 0 bytes ≡ Read.Wrong b.at b.byte b.kind

-- how a reader stops
abbrev pub stopped : {A : Type 0} → Stop → Read A
stopped Stop.More = Read.Short
stopped (Stop.Bad b) = Read.Wrong b.at b.byte b.kind

-- bytes that end with a 00, from a place on
pub record IsEnded (read : Reader (List ℕ)) (bytes : List ℕ) (at : ℕ) (s : Span) : Type 0 where
  pub spelled : read at (drop at bytes) ≡ Read.Got (bytes_in bytes s) (at + s.len + 1) (drop (at + s.len + 1) bytes)
  pub begins : s.at ≡ at
  pub inside : at + s.len + 1 ≤ length bytes

abbrev pub OnEnded : Reader (List ℕ) → List ℕ → ℕ → Result Span Stop → Type 0
OnEnded read bytes at (Ok s) = IsEnded read bytes at s
OnEnded read bytes at (Err stop) = read at (drop at bytes) ≡ stopped stop

-- the part of a request that is always 8 bytes, and what is read behind it
pub record IsFixed4 (bytes : List ℕ) (f : Fixed) : Type 0 where
  pub follows : parts4 0 bytes ≡ behind_addr f.command f.port f.addr 8 (drop 8 bytes)
  pub inside : 8 ≤ length bytes

abbrev pub OnFixed4 : List ℕ → Result Fixed Stop → Type 0
OnFixed4 bytes (Ok f) = IsFixed4 bytes f
OnFixed4 bytes (Err stop) = parts4 0 bytes ≡ stopped stop

-- a request in its parts
pub record IsWhole4 (bytes : List ℕ) (r : Request4) (len : ℕ) : Type 0 where
  pub parts : parts4 0 bytes ≡ Read.Got (parts_in bytes r) len (drop len bytes)
  pub placed : IsPlaced4 r len
  pub inside : len ≤ length bytes

abbrev pub OnWhole4 : List ℕ → Result (Request4 × ℕ) Stop → Type 0
OnWhole4 bytes (Ok p) = IsWhole4 bytes p.0 p.1
OnWhole4 bytes (Err stop) = parts4 0 bytes ≡ stopped stop
