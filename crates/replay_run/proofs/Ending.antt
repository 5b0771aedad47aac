-- What became of each association, where all of a script was played.
use Rattle.std.proofs.Common.{ℕ, suc, ◌≡◌, ◌∙◌, sym, ap, subst, refl, List, [], ◌∷◌, ◌++◌, map, Result, Ok, Err}
use Rattle.std.specs.Prelude.{flat_map, IfOk}
use Rattle.socks_grammar.specs.declared.user.User.{User}
use Rattle.socks_machine.specs.declared.record.Record.{Record}
use Rattle.socks_machine.specs.declared.script.ScriptLine.{ScriptLine}
use Rattle.socks_machine.specs.declared.world.World.{World}
use Rattle.socks_machine.specs.Basis.{Basis}
use Rattle.socks_machine.specs.Follows.{IsReplay}
use Rattle.socks_machine.specs.Script.{Outside}
use Rattle.socks_machine.specs.Step.{basis_of}
use Rattle.socks_machine.specs.Transcript.{ends, ends_of}
use Rattle.replay_run.proofs.Tcp.{plain-tcp}
use Rattle.replay_run.specs.declared.slot.Slot.{Slot}
use Rattle.replay_run.specs.declared.state.Replay.{Replay}
use Rattle.replay_run.specs.Behind.{IsPlayedOut}
use Rattle.replay_run.specs.Ends.{AreUngrammed, IsUngrammed, all_ends}
use Rattle.replay_run.specs.Mirrors.{AreSlots, IsSlot, record_of}
use Rattle.replay_run.specs.Shown.{ends_shown}

shown-ends : (basis : Basis) (r : Record) → ends_shown basis r ≡ ends_of basis r
unfolding ends_shown
shown-ends basis r = refl

slots-ends : (basis : Basis) (slots : List Slot) → all_ends basis slots ≡ flat_map (ends_of basis) (map record_of slots)
slots-ends basis [] = refl
slots-ends basis (slot ∷ slots) = ap (λ (z : List ℕ). z ++ all_ends basis slots) (shown-ends basis (record_of slot))
    ∙ ap (λ (z : List ℕ). ends_of basis (record_of slot) ++ z) (slots-ends basis slots)

-- the associations of the replay are those of the world
world-ends : (w : World) (slots : List Slot) → w.records ≡ map record_of slots → all_ends (basis_of w) slots ≡ ends w
world-ends w slots h = slots-ends (basis_of w) slots ∙ ap (flat_map (ends_of (basis_of w))) (sym h)

slot-ungrammed : (basis : Basis) (number : ℕ) (slot : Slot) (o : Outside) → IsSlot basis number slot o → IsUngrammed slot
slot-ungrammed basis number (Slot.Going a net) o h = (plain-tcp basis.users a.state h.stands.plain, h.stands.plain.sent_u)
slot-ungrammed basis number (Slot.Over e) o h = (h.1, h.2)
slot-ungrammed basis number Slot.Away o h = h

slots-ungrammed : (basis : Basis) (number : ℕ) (slots : List Slot) (os : List Outside) → AreSlots basis number slots os → AreUngrammed slots
slots-ungrammed basis number [] os h = tt
slots-ungrammed basis number (slot ∷ slots) [] h = absurd h
slots-ungrammed basis number (slot ∷ slots) (o ∷ os) h = (slot-ungrammed basis number slot o h.0, slots-ungrammed basis (suc number) slots os h.1)

-- with what became of each association, the transcript is whole
pub is-whole : (users : List User) (script : List ScriptLine) (r : Replay) (out : List ℕ) → IsPlayedOut users script r
    → (AreUngrammed r.slots → (basis : Basis) → out ≡ r.out ++ all_ends basis r.slots) → (world : World) × IsReplay script world out
is-whole users script r out played written = (
  played.w,
  subst (IsReplay script played.w)
      (sym (written (slots-ungrammed (basis_of played.w) 1 r.slots (played.s).outsides (played.mirrors).slots') (basis_of played.w)
      ∙ ap (λ (z : List ℕ). r.out ++ z) (world-ends played.w r.slots (played.mirrors).records))) played.done,
)

-- the same, where it was written
pub is-whole-where : {A E : Type 0} (users : List User) (script : List ScriptLine) (r : Replay) (slots : List Slot) (out : List ℕ) (result : Result A E) → IsPlayedOut users script r
    → slots ≡ r.slots → IfOk result (λ _. AreUngrammed slots → (basis : Basis) → out ≡ r.out ++ all_ends basis slots)
    → IfOk result (λ _. (world : World) × IsReplay script world out)
is-whole-where users script r slots out (Ok x) played same written =
    is-whole users script r out played (subst (λ (z : List Slot). AreUngrammed z → (basis : Basis) → out ≡ r.out ++ all_ends basis z) same written)
is-whole-where users script r slots out (Err e) played same written = tt
