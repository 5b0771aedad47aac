use Rattle.std.proofs.Common.{◌≡◌, ℕ, List, refl, subst, ap, arith, length}
use Rattle.replay_script.specs.Counted.{Counts, IsBehindLines}
use Rattle.replay_script.specs.Forms.{IsNumbered}
use Rattle.replay_script.proofs.Counting.{counted_text, counted_length, counts_head}
use Rattle.replay_script.proofs.Reading.{one_first, shorter, some_text}
use Rattle.replay_script.proofs.Unique.{one_numbered}
use Rattle.replay_script.proofs.counted.counted.Goals as goal

pub returns-in_default : goal.returns-in_default
returns-in_default c = λ counted lines behind h.
    let k = counts_head c.args.word.now c.args.text.now counted lines behind h in
    let a = some_text c.args.text.now k.first k.rest k.line in
    let e = ap length c.in_default.ensures.found in
    omega (arith, a, e)

pub returns-in_default-2 : goal.returns-in_default-2
returns-in_default-2 c = λ counted lines behind h.
    let k = counts_head c.args.word.now c.args.text.now counted lines behind h in
    let q = one_first c.args.text.now k.first c.in-Some.first.now k.rest c.in-Some.rest.now k.line c.in-Some.ensures.found in
    let none : (n : ℕ) → IsNumbered c.args.word.now c.in-Some.first.now n → ⊥ = rw c.in_default-2.is at c.in_ok-count.ensures in
    none k.number (subst (λ (z : List ℕ). IsNumbered c.args.word.now z k.number) q.0 k.numbered)

pub returns-then-count-text : goal.returns-then-count-text
unfolding Counts
returns-then-count-text c = λ counted lines behind h.
    let q = one_first c.args.text.now h.0 c.in-Some.first.now h.1 c.in-Some.rest.now h.2 c.in-Some.ensures.found in
    let known : IsNumbered c.args.word.now c.in-Some.first.now c.in-Some-2.count = rw c.in-Some-2.is at c.in_ok-count.ensures in
    let number : h.3.0 ≡ c.in-Some-2.count =
    one_numbered c.args.word.now c.in-Some.first.now h.3.0 c.in-Some-2.count (subst (λ (z : List ℕ). IsNumbered c.args.word.now z h.3.0) q.0 h.3.1) known in
    let a = counted_length h.3.0 h.1 behind h.3.2.last in
    let b = shorter c.args.text.now h.0 h.1 h.2 in
    let d = c.if-count-text.true in
    omega (arith, number, a, b, d)

pub returns-in_default-behind_lines : goal.returns-in_default-behind_lines
unfolding Counts
returns-in_default-behind_lines c = λ counted lines behind h.
    let q = one_first c.args.text.now h.0 c.in-Some.first.now h.1 c.in-Some.rest.now h.2 c.in-Some.ensures.found in
    let known : IsNumbered c.args.word.now c.in-Some.first.now c.in-Some-2.count = rw c.in-Some-2.is at c.in_ok-count.ensures in
    let number : h.3.0 ≡ c.in-Some-2.count =
    one_numbered c.args.word.now c.in-Some.first.now h.3.0 c.in-Some-2.count (subst (λ (z : List ℕ). IsNumbered c.args.word.now z h.3.0) q.0 h.3.1) known in
    let none : (behind : List ℕ) → IsBehindLines c.in-Some-2.count c.in-Some.rest.now behind → ⊥ = c.in_default-behind_lines.ensures in
    none behind (subst (λ (z : ℕ). IsBehindLines z c.in-Some.rest.now behind) number (subst (λ (z : List ℕ). IsBehindLines h.3.0 z behind) q.1 h.3.2.last))

pub slice_bounds-result-count : goal.slice_bounds-result-count
slice_bounds-result-count c =
    let a = counted_length c.in-Some-2.count c.in-Some.rest.now c.in-Some-behind_lines.behind.now c.in-Some-behind_lines.ensures in
    omega (arith, a)

pub returns : goal.returns
unfolding Counts
returns c =
    let known : IsNumbered c.args.word.now c.in-Some.first.now c.in-Some-2.count = rw c.in-Some-2.is at c.in_ok-count.ensures in
    let k = counted_text c.in-Some-2.count c.in-Some.rest.now c.in-Some-behind_lines.behind.now c.in-Some-behind_lines.ensures in
    (c.in-Some.first.now, c.in-Some.rest.now, c.in-Some.ensures.found, (c.in-Some-2.count, known, k, refl))
