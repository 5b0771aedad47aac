use Rattle.std.proofs.Common.{◌+◌, ◌==◌, ℕ, drop, get_or, sym, ap, ◌∙◌, arith}
use Rattle.std.proofs.lemmas.Bool.Decides.{nat_tests}
use Rattle.conf_text.proofs.Scanning.{unreadable_start, unreadable_end, unreadable_hash, unreadable_good, unreadable_comment, unreadable_bad, unreadable_at, unreadable_past}
use Rattle.conf_text.proofs.words.unreadable_line.Goals as goal
use Rattle.conf_text.proofs.words.unreadable_line.Goals.{in-10, in-35, in_default, in_default-2+else-not-is_readable}

pub loop-byte-init : goal.loop-byte-init
loop-byte-init c = record { same = sym (unreadable_start 1 c.args.text.now); room = omega arith }

pub loop-byte-preserved : goal.loop-byte-preserved
loop-byte-preserved c =
    let text = c.args.text.now in
    let i = c.loop-byte.byte-index in
    let n = c.loop-byte.line in
    let b = get_or text i 0 in
    let here = unreadable_at _ n c.loop-byte.comment text i c.loop-byte.invariant.same c.loop-byte-test.true in
    elim c.match-byte.branch [
      | in-10 w ↦ rw (w.line-is, w.comment-is) (record {
        same = here ∙ unreadable_end n c.loop-byte.comment b (drop (i + 1) text) (ap (λ (z : ℕ). z == 10) w.in-10.is);
        room = omega arith;
      })
      | in-35 w ↦ rw (w.line-is, w.comment-is) (record {
        same = here ∙ unreadable_hash n c.loop-byte.comment b (drop (i + 1) text) (ap (λ (z : ℕ). z == 10) w.in-35.is) (ap (λ (z : ℕ). z == 35) w.in-35.is);
        room = omega arith;
      })
      | in_default w ↦ let h = w.in_default in rw (w.line-is, w.comment-is) (record {
        same = rw w.if-comment.true (rw w.if-comment.true at here ∙ unreadable_comment n b (drop (i + 1) text) (grind (arith, nat_tests)));
        room = omega arith;
      })
      | in_default-2+else-not-is_readable w ↦ let h = w.in_default in rw (w.line-is, w.comment-is) (record {
        same = here ∙ unreadable_good n c.loop-byte.comment b (drop (i + 1) text) (grind (arith, nat_tests)) (grind (arith, nat_tests)) (sym w.is_readable.ensures ∙ w.if-not-is_readable.false);
        room = omega arith;
      })
    ]

pub returns-then-not-is_readable : goal.returns-then-not-is_readable
returns-then-not-is_readable c =
    let text = c.args.text.now in
    let i = c.loop-byte.byte-index in
    let n = c.loop-byte.line in
    let b = get_or text i 0 in
    let h = c.in_default in
    let here = unreadable_at _ n c.loop-byte.comment text i c.loop-byte.invariant.same c.loop-byte-test.true in
    sym (rw c.if-comment.false at here
    ∙ unreadable_bad n b (drop (i + 1) text) (grind (arith, nat_tests)) (grind (arith, nat_tests)) (sym c.is_readable.ensures ∙ c.if-not-is_readable.true))

pub returns : goal.returns
returns c = sym (c.loop-byte.invariant.same ∙ unreadable_past c.loop-byte.line c.loop-byte.comment c.args.text.now c.loop-byte.byte-index c.loop-byte-test.false)
