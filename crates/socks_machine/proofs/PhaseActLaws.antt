-- What a phase adds to a lawful turn.
use Rattle.std.proofs.Common.{◌≡◌, ℕ, true, false, ◌||◌, Some, ◌++◌, ap, ◌∙◌}
use Rattle.socks_machine.specs.declared.record.Decision.{Decision}
use Rattle.socks_machine.specs.declared.record.Record.{Record}
use Rattle.socks_machine.specs.declared.world.Outer.{Outer}
use Rattle.socks_machine.specs.declared.world.NextMark.{NextMark}
use Rattle.socks_machine.specs.declared.world.TurnEvent.{TurnEvent}
use Rattle.socks_machine.specs.Calls.{Context, TurnResult, keep, decided, call, call_open, reached_up, reached_not, is_calling}
use Rattle.socks_machine.specs.InTurn.{Called}
use Rattle.socks_machine.specs.Laws.{HasRead, Readings, reading}
use Rattle.socks_machine.specs.Phase.{Phase, phase}
use Rattle.socks_machine.specs.PhaseActs.{Accepting, Seeking, Dialling, Refusing, ShuttingClient, ShuttingTarget, Closing, Waiting, GoingOn}
use Rattle.socks_machine.specs.Relaying.{Relaying, relayed}
use Rattle.socks_machine.specs.Taking.{◌>>=◌}
use Rattle.socks_machine.specs.Turn.{turn, ordinary, proceed, aged, marked, with_record, after_call, without_call, may_output, is_mute, took_quantum, with_memory}
use Rattle.socks_machine.proofs.CallLaws.{reading-turn, opens, looks-up, dials, fails, closes, calm-fits, or-not}
use Rattle.socks_machine.proofs.PhaseLaws.{aged-fresh}
use Rattle.socks_machine.proofs.RelayActs.{relay-shut-c, relay-shut-t}
use Rattle.socks_machine.proofs.RelayLaws.{relaying-reads, alike}
use Rattle.socks_machine.proofs.TurnStages.{makes-some, sound}
use Rattle.socks_machine.proofs.WaitLaws.{again, waits}

-- a turn that has only read makes the call that is due
calling-turn : (s : Context) (old r : Record) (worker number now : ℕ) (x : Readings) (outer : Outer) (m : TurnResult)
    → HasRead s old (reading worker number now x) r → Called s outer x.came r m
    → ordinary s (record (reading worker number now x) { outer = outer }) old
    ≡ Some (marked NextMark.Going (with_record m (aged s.basis (reading worker number now x) old m.left)))
calling-turn s old r worker number now x outer m read called =
    ap (λ o. o >>= λ r1. proceed s ev old r1) read
    ∙ ap (λ b. elim b [ true ↦ (call s r (phase s.basis r) ev.came ev.outer >>= after_call s ev old) | false ↦ without_call s ev old r ])
    (makes-some s.basis ev r outer called.some ∙ called.due)
    ∙ ap (λ o. o >>= after_call s ev old) called.made
  where
    ev : TurnEvent
    ev = record (reading worker number now x) { outer = outer }

pub accepting : Accepting
accepting s old r worker number now x logged read accepts fresh =
    calling-turn s old r worker number now x (Outer.Desk logged) (call_open s r logged) read (opens s r x.came logged accepts)
    ∙ ap (λ r2. Some (marked NextMark.Going (with_record (call_open s r logged) r2)))
    (aged-fresh s.basis (reading worker number now x) old (call_open s r logged).left fresh)

pub seeking : Seeking
seeking s old r worker number now x name outer found cause read seeks is =
    calling-turn s old r worker number now x outer (keep s (decided (Decision.Looked name found) cause r)) read
    (looks-up s r x.came name outer found cause seeks is)

pub dialling : Dialling
dialling s old r worker number now x g at read reaches =
    calling-turn s old r worker number now x (Outer.Up at) (reached_up s r g at) read (dials s r x.came g at reaches)

pub refusing : Refusing
refusing s old r worker number now x g outer cause read reaches connects is =
    calling-turn s old r worker number now x outer (reached_not s r g cause) read (fails s r x.came g outer cause reaches connects is)

-- a turn in such a relay is lawful
relays : (s : Context) (old : Record) (e : TurnEvent) (r : Record) → Relaying s old e r
    → turn s e old ≡ Some (marked NextMark.Going (keep s (aged s.basis e old r)))
relays s old e r h =
    sound s old e a (keep s a) a r (reading-turn s old e a r (relaying-reads s old e r h)) (λ nothing. first)
    (calm-fits s.basis e.outer e.fault e.unwritten e.memory a h.calm)
  where
    a : Record
    a = relayed old e.c e.t e.end_c e.end_t

    stays : phase s.basis a ≡ Phase.Relay
    stays = alike s.basis old (old.c ++ e.c) (old.t ++ e.t) (e.end_c || old.end_c) (e.end_t || old.end_t) h.facts.direct (h.facts.whole e.c) ∙ h.facts.relays

    first : may_output s.basis e (with_memory e.memory a) ≡ true
    first = ap (λ b. may_output s.basis e (with_memory b a)) h.calm.remembers
        ∙ or-not (is_mute e) (is_calling (phase s.basis a) e.came) (took_quantum e) (ap (λ p. is_calling p e.came) stays)

pub shutting-client : ShuttingClient
shutting-client s old e r h open_c open_t ended all = relays s old (record e { shut_c = true }) (record r { shut_c = true }) (relay-shut-c s old e r h open_c open_t ended all)

pub shutting-target : ShuttingTarget
shutting-target s old e r h open_c open_t ended all = relays s old (record e { shut_t = true }) (record r { shut_t = true }) (relay-shut-t s old e r h open_c open_t ended all)

pub closing : Closing
closing = closes

pub waiting : Waiting
waiting = waits

pub going-on : GoingOn
going-on = again
