-- The answers of a turn that made no call.
use Rattle.std.proofs.Common.{sym, ◌≡◌, refl, Bool, true, false, ◌&&◌, ◌||◌, not, if◌then◌else◌, Option, Some, None, ap, subst, ◌∙◌, is_some, is_none}
use Rattle.socks_machine.specs.declared.record.Record.{Record}
use Rattle.socks_machine.specs.declared.world.NextMark.{NextMark}
use Rattle.socks_machine.specs.declared.world.TurnEvent.{TurnEvent}
use Rattle.socks_machine.specs.Calls.{Context, keep, is_calling}
use Rattle.socks_machine.specs.Decisions.{is_opened}
use Rattle.socks_machine.specs.InTurn.{Reading, InTurn}
use Rattle.socks_machine.specs.Phase.{phase}
use Rattle.socks_machine.specs.Turn.{turn, aged, marked, took_quantum, rests, sinks_rest, sources_rest, sides_rest, close_is_due, times_out, is_late, nothing_pending, is_quiet, with_memory, is_mute, may_output}
use Rattle.socks_machine.proofs.CallLaws.{reading-turn, answers, or-right, or-not, calm-fits}
use Rattle.socks_machine.proofs.TalkLaws.{hand-is}

-- a turn that took a quantum goes on again
pub again : (s : Context) (old : Record) (e : TurnEvent) (a r : Record) → Reading s old e a r → r.cause ≡ None → took_quantum e ≡ true
    → turn s (record e { next = NextMark.Again }) old ≡ Some (marked NextMark.Again (keep s (aged s.basis e old r)))
again s old e a r h none took =
    answers s old e a a r NextMark.Again (subst (λ (b : Bool). InTurn s old e a (keep s (with_memory b a)) a r) (sym h.calm.remembers) (reading-turn s old e a r h)) h.calm.uncalled first (calm-fits s.basis e.outer e.fault e.unwritten e.memory (with_memory e.memory a) h.calm)
    (ap (λ k. if is_some k && not (is_opened x.decisions) then Some NextMark.Done else (if took_quantum e then Some NextMark.Again else rest)) none
    ∙ ap (λ b. if b then Some NextMark.Again else rest) took)
  where
    x : Record
    x = aged s.basis e old r

    rest : Option NextMark
    rest = if rests s.basis e x && not (close_is_due s e x) && not (times_out s e x) then Some NextMark.Wait else None

    first : may_output s.basis e (with_memory e.memory a) ≡ true
    first = ap (λ b. is_mute e || not (is_calling (phase s.basis (with_memory e.memory a)) e.came) || b) took
        ∙ or-right (is_mute e || not (is_calling (phase s.basis (with_memory e.memory a)) e.came))

-- a phase in which a turn rests has no call to make
uncalling : (q c x y z : Bool) → not q && (not c && x && y && z) ≡ true → c ≡ false
uncalling true c x y z h = cc
uncalling false true x y z h = cc
uncalling false false x y z h = refl

-- a turn that rests waits, before its time is over
pub waits : (s : Context) (old : Record) (e : TurnEvent) (a r : Record) → Reading s old e a r → r.cause ≡ None → took_quantum e ≡ false
    → rests s.basis e (aged s.basis e old r) ≡ true → is_late s.basis s.config e.now (aged s.basis e old r) ≡ false
    → turn s (record e { next = NextMark.Wait }) old ≡ Some (marked NextMark.Wait (keep s (aged s.basis e old r)))
waits s old e a r h none took resting early =
    answers s old e a a r NextMark.Wait (subst (λ (b : Bool). InTurn s old e a (keep s (with_memory b a)) a r) (sym h.calm.remembers) (reading-turn s old e a r h)) h.calm.uncalled first (calm-fits s.basis e.outer e.fault e.unwritten e.memory (with_memory e.memory a) h.calm)
    (ap (λ k. if is_some k && not (is_opened x.decisions) then Some NextMark.Done else (if took_quantum e then Some NextMark.Again else rest)) none
    ∙ (ap (λ b. if b then Some NextMark.Again else rest) took
    ∙ ap (λ b. if b then Some NextMark.Wait else None) all))
  where
    x : Record
    x = aged s.basis e old r

    rest : Option NextMark
    rest = if rests s.basis e x && not (close_is_due s e x) && not (times_out s e x) then Some NextMark.Wait else None

    due : Bool
    due = nothing_pending s.basis x || e.unwritten || is_quiet x.cause || (rests s.basis e x && is_late s.basis s.config e.now x)

    all : rests s.basis e x && not (close_is_due s e x) && not (times_out s e x) ≡ true
    all =
        ap (λ k. rests s.basis e x && not (is_some k && is_opened x.decisions && due) && not (is_none k && rests s.basis e x && is_late s.basis s.config e.now x)) none
        ∙ (ap (λ b. b && true && not (b && is_late s.basis s.config e.now x)) resting ∙ ap not early)

    calls_none : is_calling (phase s.basis a) e.came ≡ false
    calls_none = sym (ap (λ z. is_calling (phase s.basis z) e.came) (hand-is s.basis e.shut_c e.shut_t a r h.shuts))
        ∙ uncalling (took_quantum e) (is_calling (phase s.basis x) e.came) (sources_rest s.basis e x (phase s.basis x)) (sinks_rest s.basis e x) (sides_rest s.basis x (phase s.basis x)) resting

    first : may_output s.basis e (with_memory e.memory a) ≡ true
    first = ap (λ b. may_output s.basis e (with_memory b a)) h.calm.remembers
        ∙ or-not (is_mute e) (is_calling (phase s.basis a) e.came) (took_quantum e) calls_none
