use Rattle.std.proofs.Common.{rules, ◌≡◌, ◌<◌, Some, length, refl, arith}
use Rattle.std.specs.Arc.{arc_value}
use Rattle.left_right.specs.Sides.{view}
use Rattle.published.specs.Lists.{IsAt}
use Rattle.published.specs.declared.knows.Knows.{Knows}
use Rattle.published.specs.declared.shown.Shown.{Shown}
use Rattle.published.proofs.ListFacts.{at_longer, prefix_length}
use Rattle.published.proofs.Kept.{at_list, of_some}
use Rattle.published.proofs.reader.ReaderGens.see.Goals as goal

pub invariant_of-self : goal.invariant_of-self
invariant_of-self c = let me = c.args.self.now in let grown = c.look-end.ensures.grown in
    let was : me.end ≡ Some c.in-Some.end = search rules in
    record {
      present = refl;
      begun = of_some (λ reader. 0 < length (view {T = Shown} {V = Knows} reader.place).configs) c.look-end.result.0
          (let some_there = me.begun c.in-Some.end was in let longer = prefix_length _ _ grown in omega arith);
      own = me.own;
      told = me.told;
      seen = λ not_told. of_some (λ reader. IsAt (view {T = Shown} {V = Knows} reader.place).configs me.kept.number (arc_value me.kept.config)) c.look-end.result.0
          (at_longer _ _ _ _ grown (me.seen not_told c.in-Some.end was));
    }

pub invariant_of-self-then-snap-self : goal.invariant_of-self-then-snap-self
invariant_of-self-then-snap-self c = let me = c.args.self.now in let grown = c.look-end.ensures.grown in
    let was : me.end ≡ Some c.in-Some.end = search rules in
    record {
      present = refl;
      begun = of_some (λ reader. 0 < length (view {T = Shown} {V = Knows} reader.place).configs) c.look-end.result.0
          (let some_there = me.begun c.in-Some.end was in let longer = prefix_length _ _ grown in omega arith);
      own = me.own;
      told = me.told;
      seen = λ not_told. of_some (λ reader. IsAt (view {T = Shown} {V = Knows} reader.place).configs me.kept.number (arc_value me.kept.config)) c.look-end.result.0
          (at_longer _ _ _ _ grown (me.seen not_told c.in-Some.end was));
    }

pub returns-in_default-seen-clause-number : goal.returns-in_default-seen-clause-number
returns-in_default-seen-clause-number c = let me = c.args.self.now in (at_list _ me.was_told me.end _ _ _ me.present me.told me.seen).0

pub returns-in_default-seen-clause-config : goal.returns-in_default-seen-clause-config
returns-in_default-seen-clause-config c = let me = c.args.self.now in
    let was : me.end ≡ Some c.in-Some.end = search rules in
    at_list (λ reader. (view {T = Shown} {V = Knows} reader.place).configs) me.was_told (Some c.look-end.result.0) _ _ _ refl me.told
    (λ not_told. of_some _ c.look-end.result.0 (at_longer _ _ _ _ c.look-end.ensures.grown (me.seen not_told c.in-Some.end was)))
