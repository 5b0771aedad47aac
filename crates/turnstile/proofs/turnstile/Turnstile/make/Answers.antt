use Rattle.std.proofs.Common.{◌∙◌}
use Rattle.turnstile.proofs.RuleKept.{opens_at}
use Rattle.turnstile.proofs.turnstile.Turnstile.make.Goals as goal

pub vacant-requires : goal.vacant-requires
vacant-requires g c = opens_at c.args.slots c.as_slice.result.now (c.as_slice.ensures.value ∙ c.in-Ok.ensures.items_if_clones_equal (λ y e. e))
