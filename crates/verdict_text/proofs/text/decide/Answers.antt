use Rattle.std.proofs.Common.{sym, ◌∙◌, ap}
use Rattle.conf_model.proofs.Adding.{whole-text}
use Rattle.verdict_text.specs.Decisions.{text_of_facts}
use Rattle.verdict_text.proofs.text.decide.Goals as goal

pub returns : goal.returns
returns c = whole-text _ _ _ c.make-text.ensures c.in_ok-add_decision.ensures ∙ ap (text_of_facts c.args.config.now) (sym c.facts.ensures)
