-- The readers of requests and replies want more exactly of proper prefixes.
use Rattle.std.proofs.Common.{ℕ, zero, suc, ◌≡◌, ◌+◌, Bool, true, false, cond, ◌==◌, ◌||◌, ◌&&◌, nat_le, Some, None, List, [], ◌∷◌, refl, sym, ap}
use Rattle.addr_pattern.specs.declared.addr.Addr.{Addr}
use Rattle.addr_pattern.specs.declared.host.Host.{Host}
use Rattle.addr_pattern.specs.declared.front.BadKind.{BadKind}
use Rattle.addr_pattern.specs.AddressText.{host_of}
use Rattle.socks_grammar.specs.declared.protocol.Command.{Command}
use Rattle.socks_grammar.specs.Grammar.{Read, Reader, ◌>>=◌, and_then, done, byte_that, number16, number32, ended_by_zero, means_name, name4, host4, command4, request4, reply4_head}
use Rattle.addr_pattern.specs.Names.{is_name_byte}
use Rattle.socks_grammar.specs.Prefixes.{StopsExactly}
use Rattle.socks4_codec.specs.Parts.{name_part, behind_user, behind_addr, parts4, reply4}
use Rattle.socks_grammar.proofs.Exact.{IsExact, same-exact, done-exact, cond-exact, bind-exact, byte-exact, number16-exact, number32-exact, stops-exactly}

-- ---- bytes that end with a 00

module _ (test : ℕ → Bool) where
  abbrev ends-or-fits : ℕ → Bool
  ends-or-fits b = b == 0 || test b

  -- the bytes behind one that is no 00
  abbrev behind : ℕ → ℕ → Reader (List ℕ)
  behind room b = cond (b == 0) (done []) (ended_by_zero test room >>= λ bs. done (b ∷ bs))

  last-step : (at : ℕ) (bytes : List ℕ) → ended_by_zero test zero at bytes ≡ (byte_that (λ b. b == 0) BadKind.Field >>= λ b. done []) at bytes
  last-step at [] = refl
  last-step at (b ∷ bs) = choice (b == 0)
    where
      choice : (t : Bool) → cond t (Read.Got [] (at + 1) bs) (Read.Wrong at b BadKind.Field)
          ≡ and_then (cond t (Read.Got b (at + 1) bs) (Read.Wrong at b BadKind.Field)) (λ b. done {A = List ℕ} [])
      choice true = refl
      choice false = refl

  ended-step : (room at : ℕ) (bytes : List ℕ) → ended_by_zero test (suc room) at bytes ≡ (byte_that ends-or-fits BadKind.Field >>= behind room) at bytes
  ended-step room at [] = refl
  ended-step room at (b ∷ bs) = choice (b == 0) (test b) refl
    where
      choice : (z t : Bool) → (b == 0) ≡ z → elim z [
        | true ↦ Read.Got [] (at + 1) bs
        | false ↦ elim t [ true ↦ and_then (ended_by_zero test room (at + 1) bs) (λ bs. done (b ∷ bs)) | false ↦ Read.Wrong at b BadKind.Field ]
      ]
          ≡ and_then (cond (z || t) (Read.Got b (at + 1) bs) (Read.Wrong at b BadKind.Field)) (behind room)
      choice true t e = ap (λ z. cond z (done []) (ended_by_zero test room >>= λ bs. done (b ∷ bs)) (at + 1) bs) (sym e)
      choice false true e = ap (λ z. cond z (done []) (ended_by_zero test room >>= λ bs. done (b ∷ bs)) (at + 1) bs) (sym e)
      choice false false e = refl

  pub ended-exact : (room : ℕ) → IsExact (ended_by_zero test room)
  ended-exact zero = same-exact (ended_by_zero test zero) (byte_that (λ b. b == 0) BadKind.Field >>= λ b. done []) last-step
      (bind-exact (byte_that (λ b. b == 0) BadKind.Field) (λ b. done []) (byte-exact (λ b. b == 0) BadKind.Field 0 refl refl) (λ b. done-exact []))
  ended-exact (suc room) = same-exact (ended_by_zero test (suc room)) (byte_that ends-or-fits BadKind.Field >>= behind room) (ended-step room)
      (bind-exact (byte_that ends-or-fits BadKind.Field) (behind room) (byte-exact ends-or-fits BadKind.Field 0 refl refl) (λ b.
      cond-exact (b == 0) (done []) (ended_by_zero test room >>= λ bs. done (b ∷ bs)) (done-exact [])
      (bind-exact (ended_by_zero test room) (λ bs. done (b ∷ bs)) (ended-exact room) (λ bs. done-exact (b ∷ bs)))))

-- ---- the messages

name4-exact : IsExact name4
name4-exact = bind-exact (byte_that is_name_byte BadKind.Field) (λ first. ended_by_zero is_name_byte 254 >>= λ rest. done (first ∷ rest))
    (byte-exact is_name_byte BadKind.Field 97 refl refl) (λ first.
    bind-exact (ended_by_zero is_name_byte 254) (λ rest. done (first ∷ rest)) (ended-exact is_name_byte 254) (λ rest. done-exact (first ∷ rest)))

name_part-exact : (addr : ℕ) → IsExact (name_part addr)
name_part-exact addr = cond-exact (means_name addr) (name4 >>= λ name. done (Some name)) (done None)
    (bind-exact name4 (λ name. done (Some name)) name4-exact (λ name. done-exact (Some name))) (done-exact None)

host4-exact : (addr : ℕ) → IsExact (host4 addr)
host4-exact addr = cond-exact (means_name addr) (name4 >>= λ name. done (host_of name)) (done (Host.Addr (Addr.V4 addr)))
    (bind-exact name4 (λ name. done (host_of name)) name4-exact (λ name. done-exact (host_of name))) (done-exact (Host.Addr (Addr.V4 addr)))

behind_addr-exact : (command : Command) (port addr : ℕ) → IsExact (behind_addr command port addr)
behind_addr-exact command port addr = bind-exact (ended_by_zero (λ _. true) 255) (λ user. behind_user command port addr user) (ended-exact (λ _. true) 255) (λ user.
    bind-exact (name_part addr) _ (name_part-exact addr) (λ name. done-exact _))

parts4-exact : IsExact parts4
parts4-exact = bind-exact _ _ (byte-exact (λ b. b == 4) BadKind.Version 4 refl refl) (λ version.
    bind-exact _ _ (byte-exact (λ b. b == 1 || b == 2) BadKind.Command 1 refl refl) (λ code.
    bind-exact number16 _ number16-exact (λ port. bind-exact number32 _ number32-exact (λ addr. behind_addr-exact (command4 code) port addr))))

pub request4-exact : IsExact request4
request4-exact = bind-exact _ _ (byte-exact (λ b. b == 4) BadKind.Version 4 refl refl) (λ version.
    bind-exact _ _ (byte-exact (λ b. b == 1 || b == 2) BadKind.Command 1 refl refl) (λ code.
    bind-exact number16 _ number16-exact (λ port. bind-exact number32 _ number32-exact (λ addr.
    bind-exact (ended_by_zero (λ _. true) 255) _ (ended-exact (λ _. true) 255) (λ user. bind-exact (host4 addr) _ (host4-exact addr) (λ host. done-exact _))))))

reply4_head-exact : IsExact reply4_head
reply4_head-exact = bind-exact _ _ (byte-exact (λ b. b == 0) BadKind.Version 0 refl refl) (λ version. byte-exact (λ b. nat_le 90 b && nat_le b 93) BadKind.Field 90 refl refl)

reply4-exact : IsExact reply4
reply4-exact = bind-exact reply4_head _ reply4_head-exact (λ code. bind-exact number16 _ number16-exact (λ port. bind-exact number32 _ number32-exact (λ addr. done-exact _)))

pub parts-stop : StopsExactly parts4
parts-stop = stops-exactly parts4 parts4-exact

pub requests-stop : StopsExactly request4
requests-stop = stops-exactly request4 request4-exact

pub replies-stop : StopsExactly reply4
replies-stop = stops-exactly reply4 reply4-exact
