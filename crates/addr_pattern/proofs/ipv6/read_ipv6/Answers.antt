use Rattle.std.proofs.Common.{◌≡◌, false, ◌==◌, Some, option_map, sym, ap, ◌∙◌}
use Rattle.std.specs.List.{list_any}
use Rattle.addr_pattern.specs.AddressText.{worth, groups_of, filled}
use Rattle.addr_pattern.proofs.Gaps.{ipv6-whole, ipv6-gap, eight-none, eight-left, eight-right, eight-some}
use Rattle.addr_pattern.proofs.ipv6.read_ipv6.Goals as goal

pub returns-in_err-read_groups : goal.returns-in_err-read_groups
returns-in_err-read_groups c =
    c.from_residual.ensures
    ∙ sym (ipv6-whole c.args.text.now c.in_default.ensures ∙ ap (option_map (worth 65536 0)) (eight-none (groups_of c.args.text.now) (sym c.in_err-read_groups.ensures)))

pub returns-in_err-read_groups-2 : goal.returns-in_err-read_groups-2
returns-in_err-read_groups-2 c =
    let f = c.in-Some.front.now in
    let b = c.in-Some.back.now in
    let plain : list_any (λ x. x == 46) f ≡ false = sym c.contains.ensures.value ∙ c.if-contains.false in
    c.from_residual-in_err-read_groups-2.ensures
    ∙ sym (ipv6-gap c.args.text.now f b c.in-Some.ensures plain ∙ ap (option_map (worth 65536 0)) (eight-left (groups_of f) (groups_of b) (sym c.in_err-read_groups-2.ensures)))

pub returns-in_err-read_groups-3 : goal.returns-in_err-read_groups-3
returns-in_err-read_groups-3 c =
    let f = c.in-Some.front.now in
    let b = c.in-Some.back.now in
    let plain : list_any (λ x. x == 46) f ≡ false = sym c.contains.ensures.value ∙ c.if-contains.false in
    c.from_residual-in_err-read_groups-3.ensures
    ∙ sym (ipv6-gap c.args.text.now f b c.in-Some.ensures plain ∙ ap (option_map (worth 65536 0)) (eight-right (groups_of f) (groups_of b) (sym c.in_err-read_groups-3.ensures)))

pub returns : goal.returns
returns c =
    let f = c.in-Some.front.now in
    let b = c.in-Some.back.now in
    let plain : list_any (λ x. x == 46) f ≡ false = sym c.contains.ensures.value ∙ c.if-contains.false in
    let front = eight-some (groups_of f) c.in_ok-read_groups-2.field-0 (sym c.in_ok-read_groups-2.ensures) in
    let back = eight-some (groups_of b) c.in_ok-read_groups-3.field-0 (sym c.in_ok-read_groups-3.ensures) in
    c.filled.ensures
    ∙ sym (ipv6-gap c.args.text.now f b c.in-Some.ensures plain
    ∙ (ap (λ o. option_map (worth 65536 0) (filled o (groups_of b))) front ∙ ap (λ o. option_map (worth 65536 0) (filled (Some c.in_ok-read_groups-2.field-0) o)) back))
