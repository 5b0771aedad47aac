use Rattle.std.proofs.Common.{◌≡◌, ◌<◌, ◌^◌, sym, ap, ◌∙◌, subst, decimal, arith}
use Rattle.std.specs.Str.{IsUtf8}
use Rattle.std.proofs.lemmas.Str.{IsUtf8-from_ascii}
use Rattle.std.specs.Cmp.Lexicographic.{other_text}
use Rattle.std.proofs.lemmas.Fmt.{parse-decimal, IsAscii-decimal}
use Rattle.replay_script.proofs.cuts.number.Goals as goal

pub returns-in_default : goal.returns-in_default
returns-in_default c = λ n h. c.in_default.ensures.cases.0 (subst IsUtf8 (sym h.spelled) (IsUtf8-from_ascii (decimal n) (IsAscii-decimal n (let k = h.fits in omega arith))))

pub returns-in-Err : goal.returns-in-Err
returns-in-Err c = λ n h. let fits : n < 2 ^ 64 = (let k = h.fits in omega arith) in let p = parse-decimal 64 n c.in-Ok.string.now c.parse.result fits fits (c.in-Ok.ensures.cases.0 ∙ h.spelled) c.parse.ensures.value.0 in let q = c.in-Err.is in cc

pub returns-then-n-limit : goal.returns-then-n-limit
returns-then-n-limit c = λ n h.
    let k = h.fits in
    let fits : n < 2 ^ 64 = omega arith in
    let p = parse-decimal 64 n c.in-Ok.string.now c.parse.result fits fits (c.in-Ok.ensures.cases.0 ∙ h.spelled) c.parse.ensures.value.0 in
    let q = c.in-Ok-parse.is in
    let m : c.in-Ok-parse.n ≡ n = cc in
    omega arith

pub returns : goal.returns
returns c = λ n h.
    let k = h.fits in
    let fits : n < 2 ^ 64 = omega arith in
    let p = parse-decimal 64 n c.in-Ok.string.now c.parse.result fits fits (c.in-Ok.ensures.cases.0 ∙ h.spelled) c.parse.ensures.value.0 in
    let q = c.in-Ok-parse.is in
    let m : c.in-Ok-parse.n ≡ n = cc in
    let e : c.as_bytes.result.now ≡ c.args.text.now = c.as_bytes.ensures.value ∙ (c.in_ok-spelled-in-Ok-parse.ensures.ok ∙ (ap decimal m ∙ sym h.spelled)) in
    other_text c.as_bytes.result.now c.args.text.now (sym c.if-eq.false ∙ c.eq.ensures) e
