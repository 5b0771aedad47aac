use Rattle.std.proofs.Common.{Some, ap, ◌∙◌}
use Rattle.handshake_core.proofs.Hearing.{version-first, first-neither}
use Rattle.handshake_core.proofs.hear.hear_first.Goals as goal

pub hear4-requires-clause-four : goal.hear4-requires-clause-four
hear4-requires-clause-four c =
    version-first c.args.state.now.message c.as_slice.result.now c.of_first_byte.result c.as_slice.ensures c.requires.some c.of_first_byte.ensures ∙ (c.in-Some-V4.is ∙ ap (λ v. Some v) c.in-Some-V4.field-0-is)

pub hear_greeting-requires-clause-five : goal.hear_greeting-requires-clause-five
hear_greeting-requires-clause-five c =
    version-first c.args.state.now.message c.as_slice.result.now c.of_first_byte.result c.as_slice.ensures c.requires.some c.of_first_byte.ensures ∙ (c.in-Some-V5.is ∙ ap (λ v. Some v) c.in-Some-V5.field-0-is)

pub returns-in-Some-V4 : goal.returns-in-Some-V4
returns-in-Some-V4 c = λ users. c.hear4.ensures c.args.methods.now users

pub returns-in-None : goal.returns-in-None
returns-in-None c = λ users.
    first-neither c.args.methods.now users c.args.state.now c.refuse.new.state c.refuse.result c.empty.result c.as_slice.result.now c.requires.at c.as_slice.ensures c.requires.some
    (version-first c.args.state.now.message c.as_slice.result.now c.of_first_byte.result c.as_slice.ensures c.requires.some c.of_first_byte.ensures ∙ c.in-None.is) c.empty.ensures c.refuse.ensures
