use Rattle.std.proofs.Common.{◌≡◌, ◌∙◌, ℕ, List, ap, subst, length}
use Rattle.atomic_table.specs.Seated.{TableId}
use Rattle.conf_types.specs.declared.entries.Entries.{Entries}
use Rattle.published.specs.declared.knows.Knows.{Knows}
use Rattle.published.specs.Shares.{IsShareOf}
use Rattle.published.specs.Ends.{TellsLast}
use Rattle.published.proofs.Each.{rest_of_all, one_more, handed_on}
use Rattle.published.proofs.next.told_each.Goals as goal

pub loop-snap-preserved : goal.loop-snap-preserved
loop-snap-preserved c =
    let was = c.loop-snap.invariant in let out = c.in-Some.ensures.steps.0 in let into = c.push_reserved.ensures.items in
    let list : c.loop-snap.note.me.0.configs ≡ c.args.note.now.me.0.configs = ap (λ (me : Knows × List (ℕ × Entries)). me.0.configs) was.list in
    record {
      left = rest_of_all (IsShareOf (length c.args.note.now.me.0.configs) c.args.config.now) _ _ _ out was.left;
      each = one_more (TellsLast c.args.note.now.table_id c.args.note.now.me.0.configs c.args.config.now) _ _ _ into was.each
          (subst (λ (name : TableId). TellsLast name c.args.note.now.me.0.configs c.args.config.now c.of.result) was.own
          (subst (λ (configs : List Entries). TellsLast c.loop-snap.note.table_id configs c.args.config.now c.of.result) list c.of.ensures.told));
      count = handed_on _ _ _ _ _ _ _ out into was.count;
      room = c.push_reserved.ensures.capacity ∙ was.room;
      own = c.of.ensures.note.0 ∙ was.own;
      list = c.of.ensures.note.1 ∙ was.list;
    }
