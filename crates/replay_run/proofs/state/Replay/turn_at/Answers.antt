use Rattle.std.proofs.Common.{ℕ, ◌≡◌, ◌∙◌, sym, ap, subst, refl, Option, List, true, slice_set}
use Rattle.std.specs.Arc.{arc_value}
use Rattle.conf_types.specs.Plain.{IsPlain}
use Rattle.replay_run.specs.declared.slot.Slot.{Slot}
use Rattle.replay_run.specs.declared.state.Replay.{Replay}
use Rattle.replay_run.specs.AtTurn.{TurnsAt}
use Rattle.replay_run.specs.Taken.{MakesTurn, WritesTurn}
use Rattle.replay_run.proofs.AtTurns.{configured-at, turns-at, turns-over}
use Rattle.replay_run.proofs.Slots.{set-same, set-set}
use Rattle.replay_run.proofs.state.Replay.turn_at.Goals as goal

-- what was put back behind what was taken out
put-back : (old taken new : List Slot) (k : ℕ) (slot : Slot) → taken ≡ slice_set old k Slot.Away → new ≡ slice_set taken k slot → new ≡ slice_set old k slot
put-back old taken new k slot h i = i ∙ (ap (λ (xs : List Slot). slice_set xs k slot) h ∙ set-set old k Slot.Away slot)

pub returns-in_ok-still-in-Going-clause-turned : goal.returns-in_ok-still-in-Going-clause-turned
returns-in_ok-still-in-Going-clause-turned c =
    let new : Replay = record { desk = c.make_turn.new.desk; gens = c.args.self.now.gens; moment = c.args.self.now.moment; slots = c.set.new.self; out = c.write_turn.new.out } in
    let k : IsPlain (arc_value c.snap-snap.result.now.config) =
    configured-at c.args.self.now.gens.configs c.args.self.now.gens.seen (arc_value c.snap-snap.result.now.config) c.requires.seen.plain c.snap-snap.ensures.config' in
    subst (λ (x : Option Slot). TurnsAt c.args.users.now c.args.at c.args.self.now new c.in_ok-still-in-Going.still x) (sym c.in-Going.ensures.value)
    (turns-at c.args.users.now (arc_value c.snap-snap.result.now.config) c.args.at c.args.self.now new c.in-Going.assoc c.in-Going.net c.make_turn.new.net c.in_ok-next-in-Going.next c.in_ok-still-in-Going.still
    c.of-before.result c.in-Going.ensures.value c.of-before.ensures
    (subst (λ (n : ℕ). MakesTurn c.args.users.now n (arc_value c.snap-snap.result.now.config) c.args.self.now.moment c.args.self.now.desk c.make_turn.new.desk c.in-Going.assoc c.in-Going.net c.in_ok-next-in-Going.next c.make_turn.new.net)
    c.snap-snap.ensures.number' c.in_ok-next-in-Going.ensures)
    (subst (λ (n : ℕ). WritesTurn n c.of-before.result c.in_ok-next-in-Going.next c.args.self.now.out c.write_turn.new.out c.in_ok-still-in-Going.still)
    c.snap-snap.ensures.number' c.in_ok-still-in-Going.ensures)
    (put-back c.args.self.now.slots c.replace-slot.new.self c.set.new.self c.args.at _ c.replace-slot.ensures.after (c.set.ensures ∙ ap (slice_set c.replace-slot.new.self c.args.at) c.to_slot.ensures))
    refl refl c.snap-snap.ensures.config' k)

pub returns-in-Over-clause-turned : goal.returns-in-Over-clause-turned
returns-in-Over-clause-turned c =
    let new : Replay = record { desk = c.args.self.now.desk; gens = c.args.self.now.gens; moment = c.args.self.now.moment; slots = c.set-in-Over.new.self; out = c.args.self.now.out } in
    subst (λ (x : Option Slot). TurnsAt c.args.users.now c.args.at c.args.self.now new true x) (sym c.in-Over.ensures.value)
    (turns-over c.args.users.now c.args.at c.args.self.now c.set-in-Over.new.self c.in-Over.ended c.in-Over.ensures.value
    (put-back c.args.self.now.slots c.replace-slot.new.self c.set-in-Over.new.self c.args.at (Slot.Over c.in-Over.ended) c.replace-slot.ensures.after c.set-in-Over.ensures
    ∙ set-same c.args.self.now.slots c.args.at (Slot.Over c.in-Over.ended) c.in-Over.ensures.value))
