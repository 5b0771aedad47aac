use Rattle.std.proofs.Common.{◌≡◌, ◌+◌, ◌*◌, [], ◌∷◌, Some, sym, ap, ◌∙◌, arith}
use Rattle.addr_pattern.specs.AddressText.{worth}
use Rattle.addr_pattern.proofs.Quads.{quad-one, quad-two, quad-three, quad-first, quad-second, quad-third, quad-fourth, quad-is}
use Rattle.addr_pattern.proofs.ipv4.read_ipv4.Goals as goal

pub returns-in_err-first : goal.returns-in_err-first
returns-in_err-first c = c.from_residual.ensures ∙ sym (quad-one _ c.in_err-first.ensures.spelled)

pub returns-in_err-second : goal.returns-in_err-second
returns-in_err-second c = c.from_residual-in_err-second.ensures ∙ sym (quad-two _ _ _ c.in_ok-first.ensures.spelled c.in_err-second.ensures.spelled)

pub returns-in_err-third : goal.returns-in_err-third
returns-in_err-third c = c.from_residual-in_err-third.ensures ∙ sym (quad-three _ _ _ _ _ c.in_ok-first.ensures.spelled c.in_ok-second.ensures.spelled c.in_err-third.ensures.spelled)

pub returns-in_err-a : goal.returns-in_err-a
returns-in_err-a c =
    c.from_residual-in_err-a.ensures ∙ sym (quad-first _ _ _ _ _ _ _ c.in_ok-first.ensures.spelled c.in_ok-second.ensures.spelled c.in_ok-third.ensures.spelled (sym c.in_err-a.ensures.number))

pub returns-in_err-b : goal.returns-in_err-b
returns-in_err-b c =
    c.from_residual-in_err-b.ensures
    ∙ sym (quad-second _ _ _ _ _ _ _ _ c.in_ok-first.ensures.spelled c.in_ok-second.ensures.spelled c.in_ok-third.ensures.spelled c.in_ok-a.ensures.number (sym c.in_err-b.ensures.number))

pub returns-in_err-c : goal.returns-in_err-c
returns-in_err-c c =
    c.from_residual-in_err-c.ensures
    ∙ sym (quad-third _ _ _ _ _ _ _ _ _ c.in_ok-first.ensures.spelled c.in_ok-second.ensures.spelled c.in_ok-third.ensures.spelled c.in_ok-a.ensures.number c.in_ok-b.ensures.number (sym c.in_err-c.ensures.number))

pub returns-in_err-d : goal.returns-in_err-d
returns-in_err-d c =
    c.from_residual-in_err-d.ensures
    ∙ sym (quad-fourth _ _ _ _ _ _ _ _ _ _ c.in_ok-first.ensures.spelled c.in_ok-second.ensures.spelled c.in_ok-third.ensures.spelled c.in_ok-a.ensures.number c.in_ok-b.ensures.number c.in_ok-c.ensures.number (sym c.in_err-d.ensures.number))

pub returns : goal.returns
returns c =
    let e = quad-is _ _ _ _ _ _ _ _ _ _ _ c.in_ok-first.ensures.spelled c.in_ok-second.ensures.spelled c.in_ok-third.ensures.spelled c.in_ok-a.ensures.number c.in_ok-b.ensures.number c.in_ok-c.ensures.number c.in_ok-d.ensures.number in
    let v : ((c.in_ok-a.a * 256 + c.in_ok-b.b) * 256 + c.in_ok-c.c) * 256 + c.in_ok-d.d ≡ worth 256 0 (c.in_ok-a.a ∷ c.in_ok-b.b ∷ c.in_ok-c.c ∷ c.in_ok-d.d ∷ []) = omega arith in
    ap (λ n. Some n) v ∙ sym e
