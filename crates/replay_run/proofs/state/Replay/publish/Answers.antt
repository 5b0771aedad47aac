use Rattle.std.proofs.Common.{◌∙◌, ap, ℕ, ◌++◌}
use Rattle.std.proofs.lemmas.Result.{IfOk-weaker}
use Rattle.conf_types.specs.declared.entries.Entries.{Entries}
use Rattle.generation.specs.Published.{with_config}
use Rattle.replay_run.specs.Shown.{publish_shown}
use Rattle.replay_run.proofs.Happening.{publishes}
use Rattle.replay_run.proofs.state.Replay.publish.Goals as goal

pub returns-in-Ok : goal.returns-in-Ok
returns-in-Ok c = IfOk-weaker c.show_publish.result _ _ (λ done written users script lines state form allowed has behind.
    publishes users script lines state c.args.config.now c.args.self.now c.push.new.self c.show_publish.new.out
    (c.in-Ok.ensures.published ∙ ap (λ (k : Entries). with_config c.args.self.now.gens k) c.in_ok-copied.ensures)
    (written ∙ ap (λ (n : ℕ). c.args.self.now.out ++ publish_shown n) c.in-Ok.ensures.number) form behind) c.show_publish.ensures
