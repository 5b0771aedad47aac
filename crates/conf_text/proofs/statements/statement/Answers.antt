use Rattle.std.proofs.Common.{◌∷◌, ap, inl, inr, ◌∙◌}
use Rattle.conf_text.specs.Tokens.{left, seen}
use Rattle.conf_text.proofs.statements.statement.Goals as goal

pub returns-in-Open-clause-read : goal.returns-in-Open-clause-read
returns-in-Open-clause-read c = inl (left c.in-Some.behind, inl (c.in-Some.ensures.0 ∙ ap (λ t. seen t ∷ left c.in-Some.behind) c.in-Open.is))

pub returns-in-Close-clause-read : goal.returns-in-Close-clause-read
returns-in-Close-clause-read c = inl (left c.in-Some.behind, inr (c.in-Some.ensures.0 ∙ ap (λ t. seen t ∷ left c.in-Some.behind) c.in-Close.is))
