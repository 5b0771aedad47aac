-- What a turn takes, and from what: the target first, then the port or the door, then the client.
use Rattle.std.specs.Prelude.{ℕ, ◌+◌, ◌-◌, Bool, true, false, ◌&&◌, ◌||◌, not, ◌==◌, nat_lt, nat_le, if◌then◌else◌, Option, Some, None, List, [], ◌∷◌, ◌++◌, length, take}
use Rattle.std.specs.List.{list_any, list_all}
use Rattle.addr_pattern.specs.declared.endpoint.Endpoint.{Endpoint}
use Rattle.socks_grammar.specs.declared.protocol.Method.{Method}
use Rattle.socks_machine.specs.declared.cause.Cause.{Cause}
use Rattle.socks_machine.specs.declared.record.Chosen.{Chosen}
use Rattle.socks_machine.specs.declared.record.Gram.{Gram}
use Rattle.socks_machine.specs.declared.record.Record.{Record}
use Rattle.socks_machine.specs.declared.world.Object.{Object}
use Rattle.socks_machine.specs.declared.world.TurnEvent.{TurnEvent}
use Rattle.socks_machine.specs.Datagrams.{owed_for}
use Rattle.socks_machine.specs.Decisions.{Grant}
use Rattle.addr_pattern.specs.Equal.{addr_eq, is_unspecified}
use Rattle.socks_machine.specs.Equal.{object_eq}
use Rattle.socks_grammar.specs.Handshake.{offered}
use Rattle.socks_machine.specs.Basis.{Basis}
use Rattle.socks_machine.specs.Phase.{Phase, phase, client_payload}
use Rattle.socks_machine.specs.Replies.{choose}
use Rattle.socks_machine.specs.Settle.{fix, settled}

abbrev pub holds : Object → List Object → Bool
holds o os = list_any (object_eq o) os

abbrev pub some_in : {A : Type 0} → List A → Bool
some_in [] = false
some_in (x ∷ xs) = true

-- ---- what each phase reads

-- fewer bytes than a pipe holds wait
abbrev pub pipe_size : ℕ
pipe_size = 16384

-- all that was owed for these datagrams, but for the last, is sent by the end of the turn
abbrev pub all_but_last : {A : Type 0} → List A → List A
all_but_last xs = take (length xs - 1) xs

abbrev pub port_may_give : Basis → List Gram → ℕ → Record → Bool
port_may_give basis grams sent_u r = nat_le (length (owed_for basis r (all_but_last (r.grams ++ grams)))) (length r.sent_u + sent_u)

abbrev pub port_rests : List Object → List Object → Bool
port_rests idle full = holds Object.Port idle || holds Object.Port full

abbrev pub reads_target : Record → Phase → Bool
reads_target r Phase.Asking = not r.end_t
reads_target r Phase.Relay = not r.end_t
reads_target r _ = false

abbrev pub reads_port : Basis → List Gram → ℕ → Record → Phase → Bool
reads_port basis grams sent_u r Phase.Datagrams = port_may_give basis grams sent_u r
reads_port basis grams sent_u r _ = false

abbrev pub reads_client : Basis → List Object → List Object → Record → Phase → Bool
reads_client basis idle full r Phase.Talk = true
reads_client basis idle full r (Phase.Door g) = holds Object.Door idle && nat_lt (length (client_payload basis r)) pipe_size
reads_client basis idle full r Phase.Relay = not r.end_c
reads_client basis idle full r Phase.Datagrams = port_rests idle full
reads_client basis idle full r _ = false

-- ---- what is taken

-- the method that is chosen in the turn that takes the greeting's last byte
abbrev pub choose_from : ℕ → List Method → Option (List ℕ) → Option Chosen
choose_from generation methods None = None
choose_from generation methods (Some offers) = Some (record { generation = generation; method = choose methods offers })

abbrev pub chosen_after : ℕ → List Method → Option Chosen → List ℕ → Option Chosen
chosen_after generation methods (Some chosen) c = Some chosen
chosen_after generation methods None c = choose_from generation methods (offered c)

abbrev pub with_client_bytes : ℕ → List Method → List ℕ → Record → Record
with_client_bytes generation methods bytes r =
    record r { c = r.c ++ bytes; chosen = chosen_after generation methods r.chosen (r.c ++ bytes) }

abbrev pub is_right_peer : Grant → Endpoint → Bool
is_right_peer g peer = is_unspecified g.facts.to.addr || addr_eq peer.addr g.facts.to.addr

abbrev pub meet_peer : Grant → Endpoint → Record → Record
meet_peer g peer r = if is_right_peer g peer then r else fix (Some (Cause.WrongPeer peer g.facts.to.addr)) r

abbrev pub met_in : Phase → Endpoint → Record → Option Record
met_in (Phase.Door g) peer r = Some (meet_peer g peer r)
met_in _ peer r = None

abbrev pub meet : Basis → Option Endpoint → Record → Option Record
meet basis None r = Some r
meet basis (Some peer) r = met_in (phase basis r) peer r

-- one taking: where there is something to take, the phase has to read it, and the cause that it fixes is fixed
abbrev pub taking : Basis → Bool → (Record → Phase → Bool) → (Record → Record) → Record → Option Record
taking basis any reads change r =
    elim any [ true ↦ elim (reads r (phase basis r)) [ true ↦ Some (settled basis (change r)) | false ↦ None ] | false ↦ Some r ]

infixl 10 ◌>>=◌
abbrev pub ◌>>=◌ : {A B : Type 0} → Option A → (A → Option B) → Option B
None >>= f = None
(Some x) >>= f = f x

abbrev pub of_generation : ℕ → Gram → Bool
of_generation g d = d.generation == g

-- the record behind all that a turn takes, or none where a phase doesn't read it
abbrev pub taken : Basis → ℕ → List Method → TurnEvent → Record → Option Record
taken basis generation methods ev r0 = do
  r1 ← taking basis (some_in ev.t) reads_target (λ r. record r { t = r.t ++ ev.t }) r0
  r2 ← taking basis ev.end_t reads_target (λ r. record r { end_t = true }) r1
  r3 ← taking basis (some_in ev.grams) (λ r p. reads_port basis ev.grams ev.sent_u r p && list_all (of_generation generation) ev.grams)
      (λ r. record r { grams = r.grams ++ ev.grams }) r2
  r4 ← meet basis ev.came r3
  r5 ← taking basis (some_in ev.c) (reads_client basis ev.idle ev.full) (with_client_bytes generation methods ev.c) r4
  taking basis ev.end_c (reads_client basis ev.idle ev.full) (λ r. record r { end_c = true }) r5
