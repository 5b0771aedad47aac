use Rattle.std.proofs.Common.{◌∷◌, ◌++◌, [], option_map, sym, ap, ◌∙◌}
use Rattle.addr_pattern.specs.AddressText.{groups_of_parts, both, parts}
use Rattle.addr_pattern.specs.Groups.{groups_onto}
use Rattle.addr_pattern.proofs.Cutting.{parts-lacks}
use Rattle.addr_pattern.proofs.Gaps.{groups-first, onto-none, onto-one, onto-full, eight-is}
use Rattle.addr_pattern.proofs.ipv6.+groups_onto.Goals as goal

pub returns-in_err-group-in-Some : goal.returns-in_err-group-in-Some
returns-in_err-group-in-Some t c =
    let rest = groups_of_parts (parts 58 c.in-Some.behind.now) in
    let is = groups-first c.args.text.now c.in-Some.group.now c.in-Some.behind.now c.in-Some.ensures.spelled in
    let none = ap (λ o. both (option_map (λ g. g ∷ []) o) rest) (sym c.in_err-group-in-Some.ensures) in
    c.from_residual.ensures ∙ sym (ap (groups_onto c.args.groups) (is ∙ none) ∙ onto-none c.args.groups rest)

pub returns-in_err-with_group-in-Some : goal.returns-in_err-with_group-in-Some
returns-in_err-with_group-in-Some t c =
    let rest = groups_of_parts (parts 58 c.in-Some.behind.now) in
    let g = c.in_ok-group-in-Some.group in
    let is = groups-first c.args.text.now c.in-Some.group.now c.in-Some.behind.now c.in-Some.ensures.spelled in
    let one = ap (λ o. both (option_map (λ g. g ∷ []) o) rest) (sym c.in_ok-group-in-Some.ensures) in
    c.from_residual-in_err-with_group-in-Some.ensures
    ∙ sym (ap (groups_onto c.args.groups) (is ∙ one) ∙ (onto-one c.args.groups g rest ∙ onto-full (c.args.groups ++ g ∷ []) rest (sym c.in_err-with_group-in-Some.ensures)))

pub returns-in-None : goal.returns-in-None
returns-in-None t c = c.last_onto.ensures ∙ ap (λ ps. groups_onto c.args.groups (groups_of_parts ps)) (sym (parts-lacks 58 c.args.text.now c.in-None.ensures.spelled))

pub returns-in_ok-with_group-in-Some : goal.returns-in_ok-with_group-in-Some
returns-in_ok-with_group-in-Some t c =
    let rest = groups_of_parts (parts 58 c.in-Some.behind.now) in
    let g = c.in_ok-group-in-Some.group in
    let is = groups-first c.args.text.now c.in-Some.group.now c.in-Some.behind.now c.in-Some.ensures.spelled in
    let one = ap (λ o. both (option_map (λ g. g ∷ []) o) rest) (sym c.in_ok-group-in-Some.ensures) in
    let more = eight-is (c.args.groups ++ g ∷ []) _ (sym c.in_ok-with_group-in-Some.ensures) in
    c.groups_onto.ensures
    ∙ (ap (λ gs. groups_onto gs rest) more
    ∙ sym (ap (groups_onto c.args.groups) (is ∙ one) ∙ onto-one c.args.groups g rest))
