-- What a reader answers, by cases.
use Rattle.std.specs.Prelude.{ℕ, ◌≡◌, ◌≤◌, List, drop, length}
use Rattle.addr_pattern.specs.declared.front.Front.{Front}
use Rattle.socks_grammar.specs.Grammar.{Read, greeting, method_answer, request5, udp_header}
use Rattle.socks5_codec.specs.declared.message.Greeting.{Greeting}
use Rattle.socks5_codec.specs.declared.message.Reply5.{Reply5}
use Rattle.socks5_codec.specs.declared.message.Request5.{Request5}
use Rattle.socks5_codec.specs.declared.message.UdpHead.{UdpHead}
use Rattle.socks5_codec.specs.Parts.{reply5}
use Rattle.socks5_codec.specs.Placed.{IsGreeting, IsRequest5, IsReply5, IsUdpHead}

abbrev pub OnGreeting : List ℕ → Front Greeting → Type 0
OnGreeting bytes (Front.Whole g len) = IsGreeting bytes g len
OnGreeting bytes Front.More = greeting 0 bytes ≡ Read.Short
OnGreeting bytes (Front.Bad b) = greeting 0 bytes ≡ Read.Wrong b.at b.byte b.kind

abbrev pub OnMethod : List ℕ → Front ℕ → Type 0
OnMethod bytes (Front.Whole method len) = (method_answer 0 bytes ≡ Read.Got method len (drop len bytes)) × (len ≤ length bytes)
OnMethod bytes Front.More = method_answer 0 bytes ≡ Read.Short
OnMethod bytes (Front.Bad b) = method_answer 0 bytes ≡ Read.Wrong b.at b.byte b.kind

abbrev pub OnRequest5 : List ℕ → Front Request5 → Type 0
OnRequest5 bytes (Front.Whole r len) = IsRequest5 bytes r len
OnRequest5 bytes Front.More = request5 0 bytes ≡ Read.Short
OnRequest5 bytes (Front.Bad b) = request5 0 bytes ≡ Read.Wrong b.at b.byte b.kind

abbrev pub OnReply5 : List ℕ → Front Reply5 → Type 0
OnReply5 bytes (Front.Whole r len) = IsReply5 bytes r len
OnReply5 bytes Front.More = reply5 0 bytes ≡ Read.Short
OnReply5 bytes (Front.Bad b) = reply5 0 bytes ≡ Read.Wrong b.at b.byte b.kind

abbrev pub OnUdpHead : List ℕ → Front UdpHead → Type 0
OnUdpHead bytes (Front.Whole h len) = IsUdpHead bytes h len
OnUdpHead bytes Front.More = udp_header 0 bytes ≡ Read.Short
OnUdpHead bytes (Front.Bad b) = udp_header 0 bytes ≡ Read.Wrong b.at b.byte b.kind
