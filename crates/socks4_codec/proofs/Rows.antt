-- The definitions of requests and replies, at worked bytes.
use Rattle.std.proofs.Common.{◌≡◌, ◌++◌, Some, None, [], ◌∷◌, codes, refl}
use Rattle.std.specs.Prelude.{replicate}
use Rattle.addr_pattern.specs.declared.addr.Addr.{Addr}
use Rattle.addr_pattern.specs.declared.host.Host.{Host}
use Rattle.addr_pattern.specs.declared.front.BadKind.{BadKind}
use Rattle.socks_grammar.specs.declared.protocol.Command.{Command}
use Rattle.socks_grammar.specs.Grammar.{Read, request4, spelled_request4}
use Rattle.socks4_codec.specs.Parts.{parts4, reply4, spelled_reply4}

to-address : parts4 0 (4 ∷ 1 ∷ 0 ∷ 80 ∷ 198 ∷ 51 ∷ 100 ∷ 10 ∷ 0 ∷ 7 ∷ [])
    ≡ Read.Got (record { command = Command.Connect; port = 80; addr = 3325256714; user = []; name = None }) 9 (7 ∷ [])
to-address = refl

to-name : parts4 0 (4 ∷ 2 ∷ 0 ∷ 80 ∷ 0 ∷ 0 ∷ 0 ∷ 1 ∷ 0 ∷ codes "a.test" ++ 0 ∷ [])
    ≡ Read.Got (record { command = Command.Bind; port = 80; addr = 1; user = []; name = Some (codes "a.test") }) 16 []
to-name = refl

asked-by-name : request4 0 (4 ∷ 1 ∷ 0 ∷ 80 ∷ 0 ∷ 0 ∷ 0 ∷ 9 ∷ 117 ∷ 0 ∷ codes "1.2.3.4" ++ 0 ∷ [])
    ≡ Read.Got (record { command = Command.Connect; host = Host.Addr (Addr.V4 16909060); port = 80 }) 18 []
asked-by-name = refl

to-zeros : parts4 0 (4 ∷ 1 ∷ 0 ∷ 80 ∷ 0 ∷ 0 ∷ 0 ∷ 0 ∷ 0 ∷ [])
    ≡ Read.Got (record { command = Command.Connect; port = 80; addr = 0; user = []; name = None }) 9 []
to-zeros = refl

no-name : parts4 0 (4 ∷ 1 ∷ 0 ∷ 80 ∷ 0 ∷ 0 ∷ 0 ∷ 1 ∷ 0 ∷ 0 ∷ []) ≡ Read.Wrong 9 0 BadKind.Field
no-name = refl

other-command : parts4 0 (4 ∷ 3 ∷ []) ≡ Read.Wrong 1 3 BadKind.Command
other-command = refl

too-few : parts4 0 (4 ∷ 1 ∷ 0 ∷ 80 ∷ 0 ∷ 0 ∷ 0 ∷ 1 ∷ 0 ∷ 97 ∷ []) ≡ Read.Short
too-few = refl

long-user : parts4 0 ((4 ∷ 1 ∷ 0 ∷ 80 ∷ 1 ∷ 2 ∷ 3 ∷ 4 ∷ []) ++ replicate 256 255) ≡ Read.Wrong 263 255 BadKind.Field
long-user = refl

written-name : spelled_request4 Command.Connect (Host.Name (codes "a.test")) 80 (codes "u")
    ≡ (4 ∷ 1 ∷ 0 ∷ 80 ∷ 0 ∷ 0 ∷ 0 ∷ 1 ∷ 117 ∷ 0 ∷ codes "a.test") ++ 0 ∷ []
written-name = refl

granted : reply4 0 (0 ∷ 90 ∷ 156 ∷ 65 ∷ 192 ∷ 0 ∷ 2 ∷ 9 ∷ 1 ∷ [])
    ≡ Read.Got (record { code = 90; port = 40001; addr = 3221225993 }) 8 (1 ∷ [])
granted = refl

written-reply : spelled_reply4 (record { code = 91; port = 40001; addr = 3221225993 }) ≡ 0 ∷ 91 ∷ 156 ∷ 65 ∷ 192 ∷ 0 ∷ 2 ∷ 9 ∷ []
written-reply = refl

other-code : reply4 0 (0 ∷ 94 ∷ []) ≡ Read.Wrong 1 94 BadKind.Field
other-code = refl
