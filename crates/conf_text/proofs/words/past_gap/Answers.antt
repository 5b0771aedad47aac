use Rattle.std.proofs.Common.{◌==◌, ℕ, ◌+◌, false, drop, length, get_or, sym, ap, ◌∙◌, arith}
use Rattle.std.proofs.lemmas.Bool.Decides.{nat_tests}
use Rattle.conf_text.specs.Words.{words_from}
use Rattle.conf_text.proofs.Scanning.{words_past, words_at, words_in, words_end, words_hash, words_blank, words_comment, words_in_start}
use Rattle.conf_text.proofs.words.past_gap.Goals as goal
use Rattle.conf_text.proofs.words.past_gap.Goals.{in-10, in-35, in-32, in_default+else-not-comment}

pub loop-i-init : goal.loop-i-init
loop-i-init c = record { same = sym (words_in_start c.args.from.line c.args.from.rest.now); room = omega arith }

pub loop-i-preserved : goal.loop-i-preserved
loop-i-preserved c =
    let text = c.args.from.rest.now in
    let i = c.loop-i.i in
    let b = get_or text i 0 in
    let here = words_at _ c.loop-i.line c.loop-i.comment text i c.loop-i.invariant.same c.loop-i-test.true in
    elim c.match-byte.branch [
      | in-10 w ↦ rw (w.line-is, w.comment-is) (record {
        same = here ∙ words_end c.loop-i.line c.loop-i.comment b (drop (i + 1) text) (ap (λ (z : ℕ). z == 10) w.in-10.is);
        room = omega arith;
      })
      | in-35 w ↦ rw (w.line-is, w.comment-is) (record {
        same = here ∙ words_hash c.loop-i.line c.loop-i.comment b (drop (i + 1) text) (ap (λ (z : ℕ). z == 10) w.in-35.is) (ap (λ (z : ℕ). z == 35) w.in-35.is);
        room = omega arith;
      })
      | in-32 w ↦ let h = w.in-32.is in rw (w.line-is, w.comment-is) (record {
        same = here ∙ words_blank c.loop-i.line c.loop-i.comment b (drop (i + 1) text) (grind (arith, nat_tests)) (grind (arith, nat_tests)) (grind (arith, nat_tests)) (grind (arith, nat_tests));
        room = omega arith;
      })
      | in_default+else-not-comment w ↦ let h = w.in_default in rw (w.line-is, w.comment-is) (record {
        same = rw w.if-not-comment.false (rw w.if-not-comment.false at here ∙ words_comment c.loop-i.line b (drop (i + 1) text) (grind (arith, nat_tests)));
        room = omega arith;
      })
    ]

pub returns-then-not-comment-clause-same : goal.returns-then-not-comment-clause-same
returns-then-not-comment-clause-same c =
    let text = c.args.from.rest.now in
    let n = c.loop-i.line in
    let shown = ap (λ v. words_in n v (drop c.loop-i.i text)) c.if-not-comment.true in
    ap (words_from n) c.rest_of.ensures ∙ (sym (words_in_start n (drop c.loop-i.i text)) ∙ (sym shown ∙ sym c.loop-i.invariant.same))

pub returns-clause-same : goal.returns-clause-same
returns-clause-same c =
    let text = c.args.from.rest.now in
    let n = c.loop-i.line in
    ap (words_from n) c.rest_of-2.ensures
    ∙ (sym (words_in_start n (drop (length text) text))
    ∙ (words_past n false text (length text) (omega arith) ∙ (sym (words_past n c.loop-i.comment text c.loop-i.i c.loop-i-test.false) ∙ sym c.loop-i.invariant.same)))
