use Rattle.std.proofs.Common.{◌≡◌, ◌≤◌, ◌+◌, ◌*◌, ◌-◌, suc, true, drop, get_or, sym, ap, ◌∙◌, arith}
use Rattle.std.proofs.lemmas.List.{drop_all}
use Rattle.std.specs.List.{list_all}
use Rattle.std.specs.Prelude.{Some}
use Rattle.addr_pattern.specs.AddressText.{is_digit, value_of_digits}
use Rattle.addr_pattern.proofs.Numbers.{value-more, value-grows, number-past, number-is}
use Rattle.addr_pattern.proofs.number.read_number.Goals as goal

pub returns-then-number-from-clause-number : goal.returns-then-number-from-clause-number
returns-then-number-from-clause-number c =
    let e = value-more c.loop-digit.number c.args.text.now c.loop-digit.digit-index (omega arith) in
    let g = value-grows (c.loop-digit.number * 10 + (get_or c.args.text.now c.loop-digit.digit-index 0 - 48)) (drop (suc c.loop-digit.digit-index) c.args.text.now) in
    let v = c.loop-digit.invariant.value in
    sym (number-past c.args.limit c.args.text.now (omega (arith, e, g, v)))

pub returns-clause-number : goal.returns-clause-number
returns-clause-number c =
    let rest = drop_all c.loop-digit.digit-index c.args.text.now (omega arith) in
    let value = c.loop-digit.invariant.value ∙ ap (value_of_digits c.loop-digit.number) rest in
    let digits : list_all is_digit c.args.text.now ≡ true = c.loop-digit.invariant.digits ∙ ap (list_all is_digit) rest in
    let led = sym c.no_leading_zero.ensures ∙ c.if-not-no_leading_zero.false in
    let fits = c.loop-digit.invariant.fits in
    let within : value_of_digits 0 c.args.text.now ≤ c.args.limit = omega (arith, value, fits) in
    ap (λ n. Some n) (sym value) ∙ sym (number-is c.args.limit c.args.text.now (omega arith) led digits within)
