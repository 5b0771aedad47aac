use Rattle.std.proofs.Common.{rules, ◌≡◌, ◌∙◌, ◌++◌, ◌∷◌, ◌+◌, [], List, ℕ, Some, ap, sym}
use Rattle.std.specs.Prelude.{is_some}
use Rattle.std.specs.Arc.{arc_value}
use Rattle.left_right.specs.Sides.{view}
use Rattle.conf_types.specs.declared.entries.Entries.{Entries}
use Rattle.published.specs.declared.knows.Knows.{Knows}
use Rattle.published.specs.declared.shown.Shown.{Shown}
use Rattle.published.specs.Rules.{owner_of}
use Rattle.published.proofs.Publishing.{counted, last_at, shares_same, from_ok}
use Rattle.published.proofs.Kept.{of_some}
use Rattle.published.proofs.publisher.Publisher.publish.Goals as goal

pub told_each-requires-clause-last : goal.told_each-requires-clause-last
told_each-requires-clause-last g c =
    let same : c.deref-2.result.now ≡ c.deref-4.result.now = c.deref-2.ensures ∙ sym c.deref-4.ensures in
    let l = c.args.self.now.note.me.0.configs in
    last_at l c.add.new.note.me.0.configs c.deref-4.result.now
    (ap (λ (k : Knows). k.configs) c.add.ensures.list ∙ ap (λ (d : Entries). l ++ d ∷ []) same)

pub told_each-requires-clause-each : goal.told_each-requires-clause-each
told_each-requires-clause-each g c =
    let me = c.args.self.now in let l = me.note.me.0.configs in
    shares_same _ _ _ _ _
    (counted l c.add.new.note.me.0.configs c.deref-2.result.now me.number (ap (λ (k : Knows). k.configs) c.add.ensures.list) me.counted.0).0
    (sym c.in-Ok.ensures.listed.config' ∙ sym c.deref-4.ensures) c.in-Ok.ensures.shares

pub invariant_of-self-2 : goal.invariant_of-self-2
invariant_of-self-2 g c = let me = c.args.self.now in let l = me.note.me.0.configs in let e = c.add.ensures in let k = c.told_each.ensures.note in let p = c.show-writer.ensures in
    let list : c.told_each.new.note.me.0.configs ≡ l ++ c.deref-2.result.now ∷ [] =
    ap (λ (m : Knows × List (ℕ × Entries)). m.0.configs) k.1 ∙ ap (λ (v : Knows). v.configs) e.list in
    let same : arc_value c.in-Ok.next.shown.config ≡ c.deref-2.result.now = c.in-Ok.ensures.shown.config' ∙ sym c.in-Ok.ensures.listed.config' ∙ sym c.deref-2.ensures in
    let was : me.writer ≡ Some c.in-Some.writer = search rules in
    record {
      present = ap is_some c.replace-before.ensures.after;
      own = (
        k.0 ∙ e.own.0 ∙ me.own.0,
        ap (λ (m : Knows × List (ℕ × Entries)). m.1) k.1 ∙ e.own.1,
        ap (λ (m : Knows × List (ℕ × Entries)). m.0.extends) k.1 ∙ ap (λ (v : Knows). v.extends) e.list,
      );
      counted = counted l _ _ _ list me.counted.0;
      shown = λ x is. of_some (λ writer. (view {T = Shown} {V = Knows} writer.desk.place ≡ owner_of c.told_each.new.note.me.0.configs) × (writer.desk.shown.value.snap.number ≡ me.number + 1))
          c.show-writer.result.0 (
            from_ok _ _ c.in-Ok-done.is p.knows
                ∙ ap (λ (v : Knows). owner_of (v.configs ++ arc_value c.in-Ok.next.shown.config ∷ [])) (me.shown c.in-Some.writer was).0
                ∙ ap (λ (d : Entries). owner_of (l ++ d ∷ [])) same
                ∙ ap owner_of (sym list),
            from_ok _ _ c.in-Ok-done.is p.number ∙ c.in-Ok.ensures.shown.number',
          )
          x (sym c.replace-before.ensures.after ∙ is);
    }
