use Rattle.std.proofs.Common.{◌∙◌, ap, ℕ, ◌++◌}
use Rattle.std.proofs.lemmas.Result.{IfOk-weaker}
use Rattle.generation.specs.Published.{Generations}
use Rattle.replay_run.specs.Shown.{see_shown}
use Rattle.replay_run.proofs.Happening.{sees}
use Rattle.replay_run.proofs.state.Replay.see.Goals as goal

pub returns : goal.returns
returns c = IfOk-weaker c.show_see.result _ _ (λ done written users script lines state form allowed has behind.
    sees users script lines state c.args.self.now c.see-number.new.self c.show_see.new.out
    (c.see-number.ensures.kept ∙ ap (λ (n : ℕ). let z : Generations = record c.args.self.now.gens { seen = n } in z) c.see-number.ensures.last)
    (written ∙ ap (λ (n : ℕ). c.args.self.now.out ++ see_shown n) c.see-number.ensures.last) c.requires behind) c.show_see.ensures
