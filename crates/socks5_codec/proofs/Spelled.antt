-- A request that is written is read again.
use Rattle.std.proofs.Common.{ℕ, ◌≡◌, ◌+◌, ◌<◌, ◌≤◌, Bool, true, false, cond, ◌&&◌, not, ◌==◌, nat_le, Result, Ok, Err, List, [], ◌∷◌, ◌++◌, length, refl, ap, ◌∙◌, arith, append_assoc, length-append, eqb-true, rules}
use Rattle.std.specs.Int.{w16, to_be_bytes}
use Rattle.std.specs.List.{list_all}
use Rattle.std.proofs.lemmas.Nat.{from_be_bytes-to_be_bytes_2}
use Rattle.addr_pattern.specs.declared.addr.Addr.{Addr}
use Rattle.addr_pattern.specs.declared.fault.AddrFault.{AddrFault}
use Rattle.addr_pattern.specs.declared.host.Host.{Host}
use Rattle.addr_pattern.specs.declared.front.BadKind.{BadKind}
use Rattle.addr_pattern.specs.Names.{is_name_byte, name_of}
use Rattle.addr_pattern.specs.ReadAgain.{IsAddr}
use Rattle.socks_grammar.specs.declared.protocol.Command.{Command}
use Rattle.socks_grammar.specs.Grammar.{Read, ◌>>=◌, and_then, done, bytes_that, number16, command_byte, spelled_request5}
use Rattle.socks5_codec.specs.Laws.{RequestsReadAgain, asked_of}
use Rattle.socks5_codec.specs.Parts.{destination, name_spelled, request_spelled, asked_for, asked_by}
use Rattle.socks5_codec.specs.Writes.{IsCommand5}
use Rattle.socks5_codec.proofs.Asked.{map-read, request-asked}
use Rattle.socks5_codec.proofs.Bytes.{goes-on}
use Rattle.socks5_codec.proofs.Names.{false-unless}

both-true : (a b : Bool) → (a && b) ≡ true → (a ≡ true) × (b ≡ true)
both-true true true h = (refl, refl)
both-true true false h = cc
both-true false b h = cc

-- ---- a name

bytes-spelled : (test : ℕ → Bool) (kind : BadKind) (at end : ℕ) (xs more : List ℕ) → list_all test xs ≡ true → at + length xs ≡ end
    → bytes_that test kind (length xs) at (xs ++ more) ≡ Read.Got xs end more
bytes-spelled test kind at end [] more fits e =
    let place : at ≡ end = omega arith in
    ap (λ n. Read.Got [] n more) place
bytes-spelled test kind at end (b ∷ xs) more fits e =
    let fit = both-true (test b) (list_all test xs) fits in
    let rest = bytes-spelled test kind (at + 1) end xs more fit.1 (omega arith) in
    goes-on at b kind (bytes_that test kind (length xs) (at + 1) (xs ++ more)) (test b) fit.0 ∙ ap (λ r. and_then r (λ bs. done (b ∷ bs))) rest

record IsName (name : List ℕ) : Type 0 where
  pub some : 1 ≤ length name
  pub fits : list_all is_name_byte name ≡ true

chosen-name : (t : Bool) (name : List ℕ) → ◌≡◌ {A = Result (List ℕ) AddrFault} (cond t (Ok name) (Err AddrFault.BadName)) (Ok name) → t ≡ true
chosen-name true name e = refl
chosen-name false name e = cc

is-name : (name : List ℕ) → name_of name ≡ Ok name → IsName name
is-name [] e = cc
is-name (b ∷ bs) e =
    let parts = both-true (nat_le (length (b ∷ bs)) 255) (list_all is_name_byte (b ∷ bs)) (chosen-name _ (b ∷ bs) e) in
    record { some = omega arith; fits = parts.1 }

name-again : (name more : List ℕ) → IsName name → name_spelled 4 (length name ∷ name ++ more) ≡ Read.Got (Host.Name name) (5 + length name) more
name-again name more h =
    let some = h.some in
    let not-zero = false-unless (length name == 0) (λ e. let none = eqb-true (length name) 0 e in absurd (omega arith)) in
    ap (λ t. and_then (and_then (cond (not t) (Read.Got (length name) 5 (name ++ more)) (Read.Wrong 4 (length name) BadKind.Field)) (bytes_that is_name_byte BadKind.Field)) (λ name. done (Host.Name name))) not-zero
    ∙ ap (λ r. and_then r (λ name. done (Host.Name name))) (bytes-spelled is_name_byte BadKind.Field 5 (5 + length name) name more h.fits refl)

towards-name : (name more : List ℕ) (port : ℕ) → IsName name → port < 65536
    → destination 3 (3 ∷ length name ∷ name ++ (to_be_bytes w16 port ++ more)) ≡ Read.Got (record { host = Host.Name name; port = port }) (7 + length name) more
towards-name name more port h p =
    let place : 5 + length name + 1 + 1 ≡ 7 + length name = omega arith in
    ap (λ r. and_then r (λ host. number16 >>= λ port. done (record { host = host; port = port }))) (name-again name (to_be_bytes w16 port ++ more) h)
    ∙ (ap (λ n. Read.Got (record { host = Host.Name name; port = n }) (5 + length name + 1 + 1) more) (from_be_bytes-to_be_bytes_2 port p)
    ∙ ap (λ n. Read.Got (record { host = Host.Name name; port = port }) n more) place)

-- ---- a request

behind-command : (command : Command) (rest : List ℕ) → IsCommand5 command
    → request_spelled 0 (5 ∷ command_byte command ∷ 0 ∷ rest) ≡ (destination >>= λ d. done (asked_for command d)) 3 rest
behind-command Command.Connect rest h = refl
behind-command Command.Bind rest h = refl
behind-command Command.UdpAssociate rest h = refl
behind-command _ rest h = absurd h

to-address : (command : Command) (a : Addr) (port : ℕ) (more : List ℕ) → IsCommand5 command → IsAddr a → port < 65536
    → request_spelled 0 (spelled_request5 command (Host.Addr a) port ++ more)
    ≡ Read.Got (asked_of command (Host.Addr a) port) (length (spelled_request5 command (Host.Addr a) port)) more
to-address command a port more known h p = search rules

to-name : (command : Command) (name : List ℕ) (port : ℕ) (more : List ℕ) → IsCommand5 command → IsName name → port < 65536
    → request_spelled 0 (spelled_request5 command (Host.Name name) port ++ more)
    ≡ Read.Got (asked_of command (Host.Name name) port) (length (spelled_request5 command (Host.Name name) port)) more
to-name command name port more known h p =
    let all : spelled_request5 command (Host.Name name) port ++ more ≡ 5 ∷ command_byte command ∷ 0 ∷ 3 ∷ length name ∷ name ++ (to_be_bytes w16 port ++ more) =
    ap (λ (xs : List ℕ). 5 ∷ command_byte command ∷ 0 ∷ 3 ∷ length name ∷ xs) (append_assoc name (to_be_bytes w16 port) more) in
    let size : 7 + length name ≡ length (spelled_request5 command (Host.Name name) port) = omega (arith, length-append name (to_be_bytes w16 port)) in
    ap (request_spelled 0) all ∙ (behind-command command (3 ∷ length name ∷ name ++ (to_be_bytes w16 port ++ more)) known
    ∙ (ap (λ r. and_then r (λ d. done (asked_for command d))) (towards-name name more port h p)
    ∙ ap (λ n. Read.Got (asked_of command (Host.Name name) port) n more) size))

pub requests-again : RequestsReadAgain
requests-again command (Host.Addr a) port more h =
    let spelled = to-address command a port more h.known h.host_5 h.port_16 in
    record { spelled = spelled; asked = request-asked (spelled_request5 command (Host.Addr a) port ++ more) ∙ ap (map-read asked_by) spelled }
requests-again command (Host.Name name) port more h =
    let spelled = to-name command name port more h.known (is-name name h.host_5) h.port_16 in
    record { spelled = spelled; asked = request-asked (spelled_request5 command (Host.Name name) port ++ more) ∙ ap (map-read asked_by) spelled }
