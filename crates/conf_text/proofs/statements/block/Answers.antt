use Rattle.std.proofs.Common.{◌∷◌, refl, inl}
use Rattle.std.specs.List.{join_with_byte}
use Rattle.conf_text.proofs.statements.block.Goals as goal

pub returns-in_default-clause-read : goal.returns-in_default-clause-read
returns-in_default-clause-read c =
    let first = c.args.first.now in
    inl (
      join_with_byte 32 (first ∷ c.in_ok-others.others),
      _,
      record { first = first; others = c.in_ok-others.others; behind = _; begins = refl; goes_on = c.in_ok-others.ensures.read; joined = refl },
      c.in_default.ensures.read,
    )
