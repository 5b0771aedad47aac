-- Laws of the machine.
use Rattle.std.specs.Prelude.{ℕ, ◌≡◌, Bool, false, Option, Some, None, List, ◌∷◌, ◌++◌, suc, ◌+◌, ◌≤◌, length, take, drop}
use Rattle.socks_machine.specs.declared.record.Record.{Record}
use Rattle.socks_machine.specs.declared.world.TurnEvent.{TurnEvent}
use Rattle.socks_machine.specs.declared.world.Event.{Event}
use Rattle.socks_machine.specs.declared.world.World.{World}
use Rattle.socks_machine.specs.Calls.{Context, keep, call_grant, is_calling}
use Rattle.socks_machine.specs.Fine.{begun_event}
use Rattle.socks_machine.specs.Socks.{socks}
use Rattle.conf_types.specs.declared.entries.Entries.{Entries}
use Rattle.socks_grammar.specs.declared.user.User.{User}
use Rattle.socks_machine.specs.Phase.{Phase, phase, began}
use Rattle.socks_machine.specs.Decisions.{granted}
use Rattle.socks_grammar.specs.declared.protocol.Method.{Method}
use Rattle.socks_machine.specs.declared.cause.Cause.{Cause}
use mathlib.Core.List.{IsPrefix}
use Rattle.socks_machine.specs.Settle.{settled}
use Rattle.socks_machine.specs.Step.{steps}
use Rattle.socks_machine.specs.Taking.{with_client_bytes}
use Rattle.socks_machine.specs.Turn.{ordinary, marked, aged}
use Rattle.socks_machine.specs.Owed.{owed_to_client, owed_to_target}
use Rattle.socks_grammar.specs.Handshake.{Request}
use Rattle.socks_machine.specs.Taking.{taken}
use Rattle.addr_pattern.specs.declared.endpoint.Endpoint.{Endpoint}
use Rattle.socks_machine.specs.declared.record.Gram.{Gram}
use Rattle.socks_machine.specs.declared.world.Object.{Object}
use Rattle.socks_machine.specs.declared.world.Outer.{Outer}
use Rattle.socks_machine.specs.declared.world.NextMark.{NextMark}

-- the record behind bytes of the client
abbrev pub behind_bytes : Context → List ℕ → Record → Record
behind_bytes s bytes r = settled s.basis (with_client_bytes s.generation (s.config).methods bytes r)

abbrev pub Talk : Type 0
Talk = (s : Context) (r : Record) (worker number now b : ℕ) (bytes : List ℕ)
    → phase s.basis r ≡ Phase.Talk → began s.basis (behind_bytes s (b ∷ bytes) r) ≡ false
    → ordinary s (record (begun_event worker number now None) { c = b ∷ bytes }) r ≡ Some (keep s (record (behind_bytes s (b ∷ bytes) r) { done = false }))

abbrev pub RunsOn : Type 0
RunsOn = (w : Option World) (es fs : List Event) → steps w (es ++ fs) ≡ steps (steps w es) fs

-- what a turn has read so far
pub record Readings : Type 0 where
  pub c : List ℕ
  pub t : List ℕ
  pub end_c : Bool
  pub end_t : Bool
  pub grams : List Gram
  pub came : Option Endpoint
  pub idle : List Object

-- a turn that has only read
abbrev pub reading : ℕ → ℕ → ℕ → Readings → TurnEvent
reading worker number now x = record (begun_event worker number now None) {
  c = x.c;
  t = x.t;
  end_c = x.end_c;
  end_t = x.end_t;
  grams = x.grams;
  came = x.came;
  idle = x.idle;
}

-- a turn on old that has only read stands at this record
abbrev pub HasRead : Context → Record → TurnEvent → Record → Type 0
HasRead s old ev r = taken s.basis s.generation (s.config).methods ev old ≡ Some r

abbrev pub Granting : Type 0
Granting = (s : Context) (old r : Record) (worker number now : ℕ) (x : Readings) (q : Request) (logged : Bool)
    → HasRead s old (reading worker number now x) r → phase s.basis r ≡ Phase.Judging q
    → began s.basis (call_grant s r q logged).left ≡ false
    → ordinary s (record (reading worker number now x) { outer = Outer.Desk logged }) old ≡ Some (marked NextMark.Going (call_grant s r q logged))

abbrev pub Writing : Type 0
Writing = (s : Context) (old r : Record) (worker number now n : ℕ) (x : Readings)
    → HasRead s old (reading worker number now x) r → is_calling (phase s.basis r) x.came ≡ false
    → length r.sent_c + suc n ≤ length (owed_to_client s.basis r)
    → ordinary s (record (reading worker number now x) { sent_c = suc n }) old ≡ Some (marked NextMark.Going (keep s
    (aged s.basis (record (reading worker number now x) { sent_c = suc n }) old
    (record r { sent_c = r.sent_c ++ take (suc n) (drop (length r.sent_c) (owed_to_client s.basis r)) }))))

-- what was owed to a client that talks stays owed, whatever it says next and whatever cause that fixes
abbrev pub TalkOwes : Type 0
TalkOwes = (users : List User) (pubs : List Entries) (generation : ℕ) (methods : List Method) (bytes : List ℕ) (r : Record) (cause : Option Cause)
    → granted r.decisions ≡ None → r.cause ≡ None
    → IsPrefix (owed_to_client (socks users pubs) r) (owed_to_client (socks users pubs) (record (with_client_bytes generation methods bytes r) { cause = cause }))

-- the record behind bytes of the target
abbrev pub behind_target : Context → List ℕ → Record → Record
behind_target s bytes r = settled s.basis (record r { t = r.t ++ bytes })

-- a turn that takes from both sides and sends to both
abbrev pub both : ℕ → ℕ → ℕ → List ℕ → List ℕ → ℕ → ℕ → TurnEvent
both worker number now c t n m = record (begun_event worker number now None) { c = c; t = t; sent_c = n; sent_t = m }

-- In Relay a turn may take any bytes of both sides, and send what is owed to both.
abbrev pub relayed : Context → Record → List ℕ → List ℕ → Record
relayed s r c t = behind_bytes s c (behind_target s t r)

abbrev pub Relaying : Type 0
Relaying = (s : Context) (old r : Record) (worker number now n m b d : ℕ) (c t : List ℕ)
    → phase s.basis old ≡ Phase.Relay → old.end_t ≡ false
    → phase s.basis (behind_target s (d ∷ t) old) ≡ Phase.Relay → (behind_target s (d ∷ t) old).end_c ≡ false
    → r ≡ relayed s old (b ∷ c) (d ∷ t) → is_calling (phase s.basis r) None ≡ false
    → length r.sent_c + suc n ≤ length (owed_to_client s.basis r)
    → length r.sent_t + suc m ≤ length (owed_to_target s.basis r)
    → ordinary s (both worker number now (b ∷ c) (d ∷ t) (suc n) (suc m)) old ≡ Some (marked NextMark.Going (keep s
    (aged s.basis (both worker number now (b ∷ c) (d ∷ t) (suc n) (suc m)) old (record r {
      sent_c = r.sent_c ++ take (suc n) (drop (length r.sent_c) (owed_to_client s.basis r));
      sent_t = r.sent_t ++ take (suc m) (drop (length r.sent_t) (owed_to_target s.basis r));
    }))))
