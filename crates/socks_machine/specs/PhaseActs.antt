-- What a phase adds to a lawful turn: its outer call, a shut, the close and the answer.
use Rattle.std.specs.Prelude.{ℕ, ◌≡◌, Bool, true, false, Option, Some, None, List}
use Rattle.addr_pattern.specs.declared.addr.Addr.{Addr}
use Rattle.addr_pattern.specs.declared.endpoint.Endpoint.{Endpoint}
use Rattle.socks_machine.specs.declared.cause.Cause.{Cause}
use Rattle.socks_machine.specs.declared.record.Decision.{Decision}
use Rattle.socks_machine.specs.declared.record.Record.{Record}
use Rattle.socks_machine.specs.declared.world.Outer.{Outer}
use Rattle.socks_machine.specs.declared.world.NextMark.{NextMark}
use Rattle.socks_machine.specs.declared.world.TurnEvent.{TurnEvent}
use Rattle.socks_machine.specs.Calls.{Context, keep, decided, not_found, call_open, call_close, reached_up, reached_not, is_calling, is_connect}
use Rattle.socks_machine.specs.Decisions.{Grant}
use Rattle.socks_machine.specs.InTurn.{InTurn, Reading}
use Rattle.socks_machine.specs.Laws.{HasRead, Readings, reading}
use Rattle.socks_machine.specs.Phase.{Phase, phase, began}
use Rattle.socks_machine.specs.Relaying.{Relaying, due_c, due_t}
use Rattle.socks_machine.specs.Turn.{turn, ordinary, marked, aged, fault_fits, with_memory, close_is_due, took_quantum, rests, is_late}

-- In Accept a turn that has read nothing may have the desk's answer to the open.
abbrev pub Accepting : Type 0
Accepting = (s : Context) (old r : Record) (worker number now : ℕ) (x : Readings) (logged : Bool)
    → HasRead s old (reading worker number now x) r → phase s.basis r ≡ Phase.Accept → began s.basis (call_open s r logged).left ≡ false
    → ordinary s (record (reading worker number now x) { outer = Outer.Desk logged }) old ≡ Some (marked NextMark.Going (call_open s r logged))

-- what a lookup that came out so found, and why it ends the association
abbrev pub lookup_outcome : Outer → Option (Option Addr × Option Cause)
lookup_outcome (Outer.Looked found) = Some (found, not_found found)
lookup_outcome Outer.Failed = Some (None, Some Cause.NetFault)
lookup_outcome _ = None

-- In Seek it may have a lookup of the name: one that found an address, that found none, or that failed.
abbrev pub Seeking : Type 0
Seeking = (s : Context) (old r : Record) (worker number now : ℕ) (x : Readings) (name : List ℕ) (outer : Outer) (found : Option Addr) (cause : Option Cause)
    → HasRead s old (reading worker number now x) r → phase s.basis r ≡ Phase.Seek name → lookup_outcome outer ≡ Some (found, cause)
    → ordinary s (record (reading worker number now x) { outer = outer }) old
    ≡ Some (marked NextMark.Going (keep s (aged s.basis (reading worker number now x) old (decided (Decision.Looked name found) cause r))))

-- In Reach it may have a dial that is up at an endpoint of its own: the relay may begin with it.
abbrev pub Dialling : Type 0
Dialling = (s : Context) (old r : Record) (worker number now : ℕ) (x : Readings) (g : Grant) (at : Endpoint)
    → HasRead s old (reading worker number now x) r → phase s.basis r ≡ Phase.Reach g
    → ordinary s (record (reading worker number now x) { outer = Outer.Up at }) old
    ≡ Some (marked NextMark.Going (keep s (aged s.basis (reading worker number now x) old (reached_up s r g at).left)))

-- why a CONNECT's dial that came out so ends the association
abbrev pub dial_failure : Outer → Option Cause
dial_failure Outer.Refused = Some Cause.Refused
dial_failure Outer.HostUnreachable = Some Cause.HostUnreachable
dial_failure Outer.NetUnreachable = Some Cause.NetUnreachable
dial_failure Outer.Failed = Some Cause.NetFault
dial_failure _ = None

-- .. or, for a CONNECT, one that failed: refused, with no way to the host or to its network, or by a fault of the net itself.
abbrev pub Refusing : Type 0
Refusing = (s : Context) (old r : Record) (worker number now : ℕ) (x : Readings) (g : Grant) (outer : Outer) (cause : Cause)
    → HasRead s old (reading worker number now x) r → phase s.basis r ≡ Phase.Reach g → is_connect g ≡ true → dial_failure outer ≡ Some cause
    → ordinary s (record (reading worker number now x) { outer = outer }) old
    ≡ Some (marked NextMark.Going (keep s (aged s.basis (reading worker number now x) old (reached_not s r g cause).left)))

-- In the relay of a CONNECT it may shut the client's side, where the target has ended and all of it was sent,
abbrev pub ShuttingClient : Type 0
ShuttingClient = (s : Context) (old : Record) (e : TurnEvent) (r : Record) → Relaying s old e r → r.shut_c ≡ false → r.shut_t ≡ false
    → r.end_t ≡ true → r.sent_c ≡ due_c s old e.t
    → turn s (record e { shut_c = true }) old ≡ Some (marked NextMark.Going (keep s (aged s.basis e old (record r { shut_c = true }))))

-- .. and the target's, where the client has.
abbrev pub ShuttingTarget : Type 0
ShuttingTarget = (s : Context) (old : Record) (e : TurnEvent) (r : Record) → Relaying s old e r → r.shut_c ≡ false → r.shut_t ≡ false
    → r.end_c ≡ true → r.sent_t ≡ due_t s old e.c
    → turn s (record e { shut_t = true }) old ≡ Some (marked NextMark.Going (keep s (aged s.basis e old (record r { shut_t = true }))))

-- A turn that has no call to make closes, where the close is due: m stands behind its takings, and r is in hand.
abbrev pub Closing : Type 0
Closing = (s : Context) (old : Record) (e : TurnEvent) (a d r : Record) (cause : Cause) (logged : Bool)
    → InTurn s old e a (keep s (with_memory e.memory a)) d r
    → is_calling (phase s.basis (with_memory e.memory a)) e.came ≡ false → fault_fits s.basis e.fault e.unwritten (with_memory e.memory a) ≡ true
    → close_is_due s e (aged s.basis e old r) ≡ true → r.cause ≡ Some cause
    → turn s (record e { outer = Outer.Desk logged; next = NextMark.Done }) old
    ≡ Some (marked NextMark.Done (call_close s.h s.marks (aged s.basis e old r) cause logged))

-- A turn that rests waits, before its time is over.
abbrev pub Waiting : Type 0
Waiting = (s : Context) (old : Record) (e : TurnEvent) (a r : Record) → Reading s old e a r → r.cause ≡ None → took_quantum e ≡ false
    → rests s.basis e (aged s.basis e old r) ≡ true → is_late s.basis s.config e.now (aged s.basis e old r) ≡ false
    → turn s (record e { next = NextMark.Wait }) old ≡ Some (marked NextMark.Wait (keep s (aged s.basis e old r)))

-- A turn that took a quantum goes on again.
abbrev pub GoingOn : Type 0
GoingOn = (s : Context) (old : Record) (e : TurnEvent) (a r : Record) → Reading s old e a r → r.cause ≡ None → took_quantum e ≡ true
    → turn s (record e { next = NextMark.Again }) old ≡ Some (marked NextMark.Again (keep s (aged s.basis e old r)))
