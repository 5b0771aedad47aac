use Rattle.std.proofs.Common.{◌<◌, length, sym, ap, ◌∙◌, arith}
use Rattle.std.proofs.lemmas.Bool.Decides.{nat_tests}
use Rattle.addr_pattern.specs.AddressText.{groups_of_parts, parts}
use Rattle.addr_pattern.specs.Groups.{groups_onto, at_most_eight}
use Rattle.addr_pattern.proofs.Gaps.{onto-nil, groups_of-some}
use Rattle.addr_pattern.proofs.ipv6.read_groups.Goals as goal

pub returns : goal.returns
returns c =
    let some : 0 < length c.args.text.now = (let e = c.if-is_empty.ensures in grind (arith, nat_tests, e)) in
    let rest = groups_of_parts (parts 58 c.args.text.now) in
    c.groups_onto.ensures ∙ (ap (λ gs. groups_onto gs rest) c.empty-2.ensures ∙ (onto-nil rest ∙ ap at_most_eight (sym (groups_of-some c.args.text.now some))))
