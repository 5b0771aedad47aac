-- The definitions of the messages, at worked bytes.
use Rattle.std.proofs.Common.{◌≡◌, ◌++◌, [], ◌∷◌, codes, refl}
use Rattle.addr_pattern.specs.declared.addr.Addr.{Addr}
use Rattle.addr_pattern.specs.declared.host.Host.{Host}
use Rattle.addr_pattern.specs.declared.front.BadKind.{BadKind}
use Rattle.socks_grammar.specs.declared.protocol.Command.{Command}
use Rattle.socks_grammar.specs.Grammar.{Read, greeting, method_answer, request5, spelled_request5}
use Rattle.socks5_codec.specs.Parts.{request_spelled, reply5, header_spelled}
use Rattle.socks5_codec.specs.Writes.{spelled_reply5}

offers-none : greeting 0 (5 ∷ 0 ∷ 7 ∷ []) ≡ Read.Got [] 2 (7 ∷ [])
offers-none = refl

offers-two : greeting 0 (5 ∷ 2 ∷ 0 ∷ 1 ∷ 5 ∷ []) ≡ Read.Got (0 ∷ 1 ∷ []) 4 (5 ∷ [])
offers-two = refl

answers : method_answer 0 (5 ∷ 255 ∷ []) ≡ Read.Got 255 2 []
answers = refl

to-address : request_spelled 0 (5 ∷ 1 ∷ 0 ∷ 1 ∷ 198 ∷ 51 ∷ 100 ∷ 10 ∷ 0 ∷ 80 ∷ [])
    ≡ Read.Got (record { command = Command.Connect; host = Host.Addr (Addr.V4 3325256714); port = 80 }) 10 []
to-address = refl

to-name : request_spelled 0 ((5 ∷ 1 ∷ 9 ∷ 3 ∷ 15 ∷ codes "www.example.com") ++ 1 ∷ 187 ∷ 7 ∷ [])
    ≡ Read.Got (record { command = Command.Connect; host = Host.Name (codes "www.example.com"); port = 443 }) 22 (7 ∷ [])
to-name = refl

spelled-as-name : request5 0 ((5 ∷ 2 ∷ 0 ∷ 3 ∷ 7 ∷ codes "1.2.3.4") ++ 0 ∷ 80 ∷ [])
    ≡ Read.Got (record { command = Command.Bind; host = Host.Addr (Addr.V4 16909060); port = 80 }) 14 []
spelled-as-name = refl

other-command : request_spelled 0 (5 ∷ 4 ∷ []) ≡ Read.Wrong 1 4 BadKind.Command
other-command = refl

other-type : request_spelled 0 (5 ∷ 1 ∷ 0 ∷ 2 ∷ []) ≡ Read.Wrong 3 2 BadKind.Atyp
other-type = refl

empty-name : request_spelled 0 (5 ∷ 1 ∷ 0 ∷ 3 ∷ 0 ∷ []) ≡ Read.Wrong 4 0 BadKind.Field
empty-name = refl

unfit-name : request_spelled 0 (5 ∷ 1 ∷ 0 ∷ 3 ∷ 9 ∷ 97 ∷ 32 ∷ []) ≡ Read.Wrong 6 32 BadKind.Field
unfit-name = refl

bound : reply5 0 (5 ∷ 0 ∷ 0 ∷ 1 ∷ 192 ∷ 0 ∷ 2 ∷ 9 ∷ 156 ∷ 64 ∷ []) ≡ Read.Got (record { code = 0; host = Host.Addr (Addr.V4 3221225993); port = 40000 }) 10 []
bound = refl

written-request : spelled_request5 Command.Connect (Host.Addr (Addr.V4 3325256714)) 80 ≡ 5 ∷ 1 ∷ 0 ∷ 1 ∷ 198 ∷ 51 ∷ 100 ∷ 10 ∷ 0 ∷ 80 ∷ []
written-request = refl

written-reply : spelled_reply5 0 (record { addr = Addr.V6 0x20010db8000000000000000000000009; port = 40000 })
    ≡ 5 ∷ 0 ∷ 0 ∷ 4 ∷ 32 ∷ 1 ∷ 13 ∷ 184 ∷ 0 ∷ 0 ∷ 0 ∷ 0 ∷ 0 ∷ 0 ∷ 0 ∷ 0 ∷ 0 ∷ 0 ∷ 0 ∷ 9 ∷ 156 ∷ 64 ∷ []
written-reply = refl

header : header_spelled 0 (0 ∷ 0 ∷ 1 ∷ 1 ∷ 198 ∷ 51 ∷ 100 ∷ 10 ∷ 0 ∷ 53 ∷ 97 ∷ []) ≡ Read.Got (record { frag = 1; host = Host.Addr (Addr.V4 3325256714); port = 53 }) 10 (97 ∷ [])
header = refl
