use Rattle.std.proofs.Common.{◌∙◌, ◌∷◌, ◌++◌, [], ap}
use Rattle.std.proofs.lemmas.Result.{IfOk-weaker}
use Rattle.replay_run.proofs.Happening.{opens}
use Rattle.replay_run.proofs.state.Replay.open.Goals as goal

pub returns-in_ok-push-in-Some : goal.returns-in_ok-push-in-Some
returns-in_ok-push-in-Some c = IfOk-weaker c.show_open.result _ _ (λ done written users script lines state form allowed has behind.
    opens users script lines state c.args.number c.args.peer c.args.local c.args.self.now c.push.new.self c.show_open.new.out
    (c.in_ok-push-in-Some.ensures.ok ∙ ap (λ z. c.args.self.now.slots ++ z ∷ []) c.in-Some.ensures) written allowed has behind) c.show_open.ensures
