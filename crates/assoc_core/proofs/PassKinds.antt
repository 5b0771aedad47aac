-- Which calls of a pass over a relay failed.
use Rattle.std.proofs.Common.{◌≡◌, Bool, true, false, ◌||◌, ◌&&◌, not, if◌then◌else◌, Option, Some, None, is_some, refl, ap, sym, subst, ◌∙◌}
use Rattle.net_ends.specs.declared.kinds.Kind.{Kind}
use Rattle.net_ends.specs.Counts.{Counts}
use Rattle.net_ends.specs.Faults.{Tried}
use Rattle.net_ends.specs.Nets.{NetTold}
use Rattle.socks_machine.specs.declared.world.Object.{Object}
use Rattle.assoc_core.specs.declared.carry.Give.{Give}
use Rattle.assoc_core.specs.declared.carry.Take.{Take}
use Rattle.assoc_core.specs.declared.relay.Pass.{Pass}
use Rattle.assoc_core.specs.Carrying.{first_failed, failed_giving, failed_taking, fault_of, is_read, is_sound, is_unwritten, unwritten_of}
use Rattle.assoc_core.specs.Turns.{FaultIs, TriedTarget, is_write}

-- the target's link is the one that was there
pub target-tried : {L R W S : Type 0} (counts : L → Counts) (net : NetTold) {target target' : Option L} {link link' : L} (failed : Option Kind) → target ≡ Some link → target' ≡ Some link'
    → Tried (counts link) (counts link') R W S failed → TriedTarget counts net target target' R W S failed
target-tried {L} {R} {W} {S} counts net {target} {target'} {link} {link'} failed e e' t =
    subst (λ (z : Option L). TriedTarget counts net z target' R W S failed) (sym e) (subst (λ (z : Option L). TriedTarget counts net (Some link) z R W S failed) (sym e') t)

pub sound-none : (give : Give) → is_sound give ≡ true → failed_giving give ≡ None
sound-none Give.Held h = refl
sound-none Give.All h = refl
sound-none Give.Full h = refl
sound-none Give.Unwritten h = absurd (cc)
sound-none Give.Unshut h = absurd (cc)

-- which of the calls failed first, by the kinds of those that failed
first-kind : (take_c give_t take_t give_c : Option Kind) → FaultIs
    (if is_some take_c then Some Object.Client else (if is_some give_t || is_some take_t then Some Object.Target else (if is_some give_c then Some Object.Client else None)))
    (first_failed take_c give_c) (first_failed give_t take_t)
first-kind (Some k) give_t take_t give_c = refl
first-kind None (Some k) take_t give_c = refl
first-kind None None (Some k) give_c = refl
first-kind None None None (Some k) = refl
first-kind None None None None = (refl, refl)

unread-kind : (take : Take) → not (is_read take) ≡ is_some (failed_taking take)
unread-kind Take.Unread = refl
unread-kind Take.Ended = refl
unread-kind Take.NotYet = refl
unread-kind Take.Quantum = refl
unread-kind Take.Held = refl
unread-kind Take.Failed = refl

pub unsound-kind : (give : Give) → not (is_sound give) ≡ is_some (failed_giving give)
unsound-kind Give.Held = refl
unsound-kind Give.All = refl
unsound-kind Give.Full = refl
unsound-kind Give.Unwritten = refl
unsound-kind Give.Unshut = refl

either-kind : (give : Give) (take : Take) → not (is_sound give && is_read take) ≡ is_some (failed_giving give) || is_some (failed_taking take)
either-kind Give.Held take = unread-kind take
either-kind Give.All take = unread-kind take
either-kind Give.Full take = unread-kind take
either-kind Give.Unwritten take = refl
either-kind Give.Unshut take = refl

pub fault-kinds : (pass : Pass) → FaultIs (fault_of pass) (first_failed (failed_taking pass.took_c) (failed_giving pass.gave_c)) (first_failed (failed_giving pass.gave_t) (failed_taking pass.took_t))
fault-kinds pass = subst (λ (z : Option Object). FaultIs z (first_failed (failed_taking pass.took_c) (failed_giving pass.gave_c)) (first_failed (failed_giving pass.gave_t) (failed_taking pass.took_t)))
    (λ i. if sym (unread-kind pass.took_c) i then Some Object.Client else (if sym (either-kind pass.gave_t pass.took_t) i then Some Object.Target else (if sym (unsound-kind pass.gave_c) i then Some Object.Client else None)))
    (first-kind (failed_taking pass.took_c) (failed_giving pass.gave_t) (failed_taking pass.took_t) (failed_giving pass.gave_c))

unwritten-taken : (take : Take) → false ≡ is_write (failed_taking take)
unwritten-taken Take.Unread = refl
unwritten-taken Take.Ended = refl
unwritten-taken Take.NotYet = refl
unwritten-taken Take.Quantum = refl
unwritten-taken Take.Held = refl
unwritten-taken Take.Failed = refl

unwritten-given : (give : Give) (take : Take) → is_unwritten give ≡ is_write (first_failed (failed_giving give) (failed_taking take))
unwritten-given Give.Held take = unwritten-taken take
unwritten-given Give.All take = unwritten-taken take
unwritten-given Give.Full take = unwritten-taken take
unwritten-given Give.Unwritten take = refl
unwritten-given Give.Unshut take = refl

kind-given : (give : Give) → is_unwritten give ≡ is_write (failed_giving give)
kind-given Give.Held = refl
kind-given Give.All = refl
kind-given Give.Full = refl
kind-given Give.Unwritten = refl
kind-given Give.Unshut = refl

written-taken : (take : Take) (give : Give) → (take ≡ Take.Failed → give ≡ Give.Held) → is_unwritten give ≡ is_write (first_failed (failed_taking take) (failed_giving give))
written-taken Take.Failed give held = ap is_unwritten (held refl)
written-taken Take.Unread give held = kind-given give
written-taken Take.Ended give held = kind-given give
written-taken Take.NotYet give held = kind-given give
written-taken Take.Quantum give held = kind-given give
written-taken Take.Held give held = kind-given give

-- whether a write failed, by the kinds of the calls that failed
pub unwritten-kinds : (pass : Pass) → (pass.took_c ≡ Take.Failed → pass.gave_c ≡ Give.Held)
    → unwritten_of pass ≡ is_write (first_failed (failed_taking pass.took_c) (failed_giving pass.gave_c)) || is_write (first_failed (failed_giving pass.gave_t) (failed_taking pass.took_t))
unwritten-kinds pass held = (λ i. unwritten-given pass.gave_t pass.took_t i || written-taken pass.took_c pass.gave_c held i)
    ∙ or-swap (is_write (first_failed (failed_giving pass.gave_t) (failed_taking pass.took_t))) (is_write (first_failed (failed_taking pass.took_c) (failed_giving pass.gave_c)))
  where
    or-swap : (a b : Bool) → a || b ≡ b || a
    or-swap true true = refl
    or-swap true false = refl
    or-swap false true = refl
    or-swap false false = refl
