-- A request that is written is read again.
use Rattle.std.proofs.Common.{ℕ, zero, suc, ◌≡◌, ◌+◌, ◌<◌, ◌≤◌, ◌^◌, Bool, true, false, cond, ◌&&◌, not, ◌==◌, nat_le, Some, None, Result, Ok, Err, List, [], ◌∷◌, ◌++◌, length, get_or, refl, ap, ◌∙◌, arith, append_assoc, length-append, rules}
use Rattle.std.specs.Int.{w16, w32, to_be_bytes, from_be_bytes}
use Rattle.std.specs.List.{list_all}
use Rattle.std.proofs.lemmas.Nat.{from_be_bytes-to_be_bytes_2, from_be_bytes-to_be_bytes_4}
use Rattle.std.proofs.lemmas.Bool.{leb-true}
use Rattle.addr_pattern.specs.declared.addr.Addr.{Addr}
use Rattle.addr_pattern.specs.declared.fault.AddrFault.{AddrFault}
use Rattle.addr_pattern.specs.declared.host.Host.{Host}
use Rattle.addr_pattern.specs.Names.{is_name_byte, name_of}
use Rattle.socks_grammar.specs.declared.protocol.Command.{Command}
use Rattle.socks_grammar.specs.Grammar.{Read, ◌>>=◌, and_then, done, means_name, ended_by_zero, name4, command_byte, request4, spelled_request4}
use Rattle.socks4_codec.specs.Laws.{IsSpelledHost4, RequestsReadAgain, parts_of}
use Rattle.socks4_codec.specs.Parts.{Parts4, parts4, behind_addr, behind_user, asked_by}
use Rattle.socks4_codec.specs.Writes.{IsCommand4, IsUser}
use Rattle.socks4_codec.proofs.Ended.{goes-on, name-ended, name_byte-not-zero}

both-true : (a b : Bool) → (a && b) ≡ true → (a ≡ true) × (b ≡ true)
both-true true true h = (refl, refl)
both-true true false h = cc
both-true false b h = cc

not-true : (t : Bool) → not t ≡ true → t ≡ false
not-true true h = cc
not-true false h = refl

-- bytes of which none is 00, and each passes, and a 00 behind them
ended-spelled : (test : ℕ → Bool) (room at end : ℕ) (xs more : List ℕ) → length xs ≤ room → list_all (λ b. not (b == 0)) xs ≡ true → list_all test xs ≡ true → at + suc (length xs) ≡ end
    → ended_by_zero test room at (xs ++ 0 ∷ more) ≡ Read.Got xs end more
ended-spelled test zero at end [] more h others fits e =
    let place : at + 1 ≡ end = omega arith in
    ap (λ n. Read.Got [] n more) place
ended-spelled test (suc room) at end [] more h others fits e =
    let place : at + 1 ≡ end = omega arith in
    ap (λ n. Read.Got [] n more) place
ended-spelled test zero at end (b ∷ xs) more h others fits e = absurd (omega arith)
ended-spelled test (suc room) at end (b ∷ xs) more h others fits e =
    let other = both-true (not (b == 0)) (list_all (λ b. not (b == 0)) xs) others in
    let fit = both-true (test b) (list_all test xs) fits in
    let rest = ended-spelled test room (at + 1) end xs more (omega arith) other.1 fit.1 (omega arith) in
    goes-on at b (xs ++ 0 ∷ more) (ended_by_zero test room (at + 1) (xs ++ 0 ∷ more)) (b == 0) (test b) (not-true _ other.0) fit.0
    ∙ ap (λ r. and_then r (λ bs. done (b ∷ bs))) rest

all-pass : (xs : List ℕ) → list_all (λ _. true) xs ≡ true
all-pass [] = refl
all-pass (b ∷ xs) = all-pass xs

no-zeros : (xs : List ℕ) → list_all is_name_byte xs ≡ true → list_all (λ b. not (b == 0)) xs ≡ true
no-zeros [] h = refl
no-zeros (b ∷ xs) h =
    let fit = both-true (is_name_byte b) (list_all is_name_byte xs) h in
    rw (name_byte-not-zero b fit.0) (no-zeros xs fit.1)

user-spelled : (at : ℕ) (user more : List ℕ) → IsUser user → ended_by_zero (λ _. true) 255 at (user ++ 0 ∷ more) ≡ Read.Got user (at + suc (length user)) more
user-spelled at user more h = ended-spelled (λ _. true) 255 at (at + suc (length user)) user more h.short h.no_zero (all-pass user) refl

-- ---- a name

record IsName (name : List ℕ) : Type 0 where
  pub some : 1 ≤ length name
  pub short : length name ≤ 255
  pub fits : list_all is_name_byte name ≡ true

chosen-name : (t : Bool) (name : List ℕ) → ◌≡◌ {A = Result (List ℕ) AddrFault} (cond t (Ok name) (Err AddrFault.BadName)) (Ok name) → t ≡ true
chosen-name true name e = refl
chosen-name false name e = cc

is-name : (name : List ℕ) → name_of name ≡ Ok name → IsName name
is-name [] e = cc
is-name (b ∷ bs) e =
    let parts = both-true (nat_le (length (b ∷ bs)) 255) (list_all is_name_byte (b ∷ bs)) (chosen-name _ (b ∷ bs) e) in
    record { some = omega arith; short = leb-true _ _ parts.0; fits = parts.1 }

first-other : (name more : List ℕ) → IsName name → (get_or (name ++ 0 ∷ more) 0 0 == 0) ≡ false
first-other [] more h = let some = h.some in absurd (omega arith)
first-other (b ∷ bs) more h = name_byte-not-zero b (both-true (is_name_byte b) (list_all is_name_byte bs) h.fits).0

name-spelled : (at : ℕ) (name more : List ℕ) → IsName name → name4 at (name ++ 0 ∷ more) ≡ Read.Got name (at + suc (length name)) more
name-spelled at name more h =
    name-ended at (name ++ 0 ∷ more) (first-other name more h)
    ∙ ended-spelled is_name_byte 255 at (at + suc (length name)) name more h.short (no-zeros name h.fits) h.fits refl

-- ---- the parts of a request

fixed-spelled : (command : Command) (port addr : ℕ) (rest : List ℕ) → IsCommand4 command → port < 65536 → addr < 2 ^ 32
    → parts4 0 (4 ∷ command_byte command ∷ to_be_bytes w16 port ++ (to_be_bytes w32 addr ++ rest)) ≡ behind_addr command port addr 8 rest
fixed-spelled Command.Connect port addr rest h p q =
    ap (λ n. behind_addr Command.Connect n (from_be_bytes w32 (to_be_bytes w32 addr)) 8 rest) (from_be_bytes-to_be_bytes_2 port p)
    ∙ ap (λ n. behind_addr Command.Connect port n 8 rest) (from_be_bytes-to_be_bytes_4 addr q)
fixed-spelled Command.Bind port addr rest h p q =
    ap (λ n. behind_addr Command.Bind n (from_be_bytes w32 (to_be_bytes w32 addr)) 8 rest) (from_be_bytes-to_be_bytes_2 port p)
    ∙ ap (λ n. behind_addr Command.Bind port n 8 rest) (from_be_bytes-to_be_bytes_4 addr q)
fixed-spelled _ port addr rest h p q = absurd h

module _ (command : Command) (port : ℕ) (user : List ℕ) (known : IsCommand4 command) (port_16 : port < 65536) (fits : IsUser user) where
  user-read : (addr : ℕ) (rest : List ℕ) → behind_addr command port addr 8 (user ++ 0 ∷ rest) ≡ behind_user command port addr user (8 + suc (length user)) rest
  user-read addr rest = ap (λ r. and_then r (behind_user command port addr)) (user-spelled 8 user rest fits)

  without-name : (addr : ℕ) (more : List ℕ) → addr < 2 ^ 32 → means_name addr ≡ false
      → parts4 0 (4 ∷ command_byte command ∷ to_be_bytes w16 port ++ (to_be_bytes w32 addr ++ (user ++ 0 ∷ more)))
      ≡ Read.Got (record { command = command; port = port; addr = addr; user = user; name = None }) (8 + suc (length user)) more
  without-name addr more h plain =
      fixed-spelled command port addr (user ++ 0 ∷ more) known port_16 h ∙ (user-read addr more
      ∙ ap (λ t. and_then (cond t (name4 >>= λ name. done (Some name)) (done None) (8 + suc (length user)) more)
      (λ name. done (record { command = command; port = port; addr = addr; user = user; name = name }))) plain)

  with-name : (name more : List ℕ) → IsName name
      → parts4 0 (4 ∷ command_byte command ∷ to_be_bytes w16 port ++ (to_be_bytes w32 1 ++ (user ++ 0 ∷ (name ++ 0 ∷ more))))
      ≡ Read.Got (record { command = command; port = port; addr = 1; user = user; name = Some name }) (8 + suc (length user) + suc (length name)) more
  with-name name more h =
      fixed-spelled command port 1 (user ++ 0 ∷ (name ++ 0 ∷ more)) known port_16 (omega arith) ∙ (user-read 1 (name ++ 0 ∷ more)
      ∙ ap (λ r. and_then (and_then r (λ name. done (Some name))) (λ name. done (record { command = command; port = port; addr = 1; user = user; name = name })))
      (name-spelled (8 + suc (length user)) name more h))

  abbrev spelled : Host → List ℕ
  spelled host = spelled_request4 command host port user

  parts-again : (host : Host) (more : List ℕ) → IsSpelledHost4 host → parts4 0 (spelled host ++ more) ≡ Read.Got (parts_of command host port user) (length (spelled host)) more
  parts-again (Host.Addr (Addr.V4 n)) more h =
      let all : spelled (Host.Addr (Addr.V4 n)) ++ more ≡ 4 ∷ command_byte command ∷ to_be_bytes w16 port ++ (to_be_bytes w32 n ++ (user ++ 0 ∷ more)) =
      ap (λ (xs : List ℕ). 4 ∷ command_byte command ∷ to_be_bytes w16 port ++ (to_be_bytes w32 n ++ xs)) (append_assoc user (0 ∷ []) more) in
      let size : 8 + suc (length user) ≡ length (spelled (Host.Addr (Addr.V4 n))) = omega (arith, length-append user (0 ∷ [])) in
      ap (parts4 0) all ∙ (without-name n more h.0 h.1
      ∙ ap (λ m. Read.Got (record { command = command; port = port; addr = n; user = user; name = None }) m more) size)
  parts-again (Host.Addr (Addr.V6 n)) more h = absurd h
  parts-again (Host.Name name) more h =
      let tail : ((user ++ 0 ∷ name) ++ 0 ∷ []) ++ more ≡ user ++ 0 ∷ (name ++ 0 ∷ more) =
      append_assoc (user ++ 0 ∷ name) (0 ∷ []) more ∙ append_assoc user (0 ∷ name) (0 ∷ more) in
      let all : spelled (Host.Name name) ++ more ≡ 4 ∷ command_byte command ∷ to_be_bytes w16 port ++ (to_be_bytes w32 1 ++ (user ++ 0 ∷ (name ++ 0 ∷ more))) =
      ap (λ (xs : List ℕ). 4 ∷ command_byte command ∷ to_be_bytes w16 port ++ (to_be_bytes w32 1 ++ xs)) tail in
      let size : 8 + suc (length user) + suc (length name) ≡ length (spelled (Host.Name name)) =
      omega (arith, length-append (user ++ 0 ∷ name) (0 ∷ []), length-append user (0 ∷ name)) in
      ap (parts4 0) all ∙ (with-name name more (is-name name h)
      ∙ ap (λ m. Read.Got (record { command = command; port = port; addr = 1; user = user; name = Some name }) m more) size)

-- what is asked for, of the parts
asked-of : (bytes : List ℕ) (p : Parts4) (n : ℕ) (rest : List ℕ) → parts4 0 bytes ≡ Read.Got p n rest → request4 0 bytes ≡ Read.Got (asked_by p) n rest
asked-of bytes p n rest e = search rules

pub requests-again : RequestsReadAgain
requests-again command host port user more h =
    let parts = parts-again command port user h.known h.port_16 h.user_4 host more h.host_4 in
    record { parts = parts; asked = asked-of (spelled_request4 command host port user ++ more) _ _ _ parts }
