use Rattle.std.proofs.Common.{◌∙◌, List, [], sym, subst}
use Rattle.generation.specs.Published.{Generations, none_published}
use Rattle.replay_run.specs.declared.slot.Slot.{Slot}
use Rattle.replay_script.specs.Conditions.{start}
use Rattle.socks_machine.specs.Follows.{users_of}
use Rattle.replay_run.specs.Behind.{IsBehind}
use Rattle.std.proofs.Common.{ℕ}
use Rattle.replay_run.proofs.Beginning.{is-fresh}
use Rattle.replay_run.proofs.state.Replay.make.Goals as goal

pub returns-in-Ok : goal.returns-in-Ok
returns-in-Ok c = λ script served opens.
    subst (λ (z : Generations). IsBehind (users_of script) script [] start (record { desk = c.in-Ok.desk; gens = z; moment = 0; slots = c.make-in-Ok-2.result; out = c.make-in-Ok-3.result })) (sym c.make-in-Ok.ensures)
    (subst (λ (z : List Slot). IsBehind (users_of script) script [] start (record { desk = c.in-Ok.desk; gens = none_published; moment = 0; slots = z; out = c.make-in-Ok-3.result })) (sym c.make-in-Ok-2.ensures)
    (subst (λ (z : List ℕ). IsBehind (users_of script) script [] start (record { desk = c.in-Ok.desk; gens = none_published; moment = 0; slots = []; out = z })) (sym c.make-in-Ok-3.ensures)
    (is-fresh c.in-Ok.desk script c.in-Ok.ensures.stands (c.in-Ok.ensures.cap ∙ opens) served)))
