use Rattle.std.proofs.Common.{◌∙◌, ◌∷◌, [], length, length-append, ap, subst, arith}
use Rattle.std.specs.Arc.{arc_value}
use Rattle.atomic_table.specs.Seated.{TableId}
use Rattle.published.specs.Ends.{IsNew}
use Rattle.published.proofs.Each.{one_more}
use Rattle.published.proofs.readers.readers_of.Goals as goal

pub loop-preserved : goal.loop-preserved
loop-preserved c =
    let was = c.loop.invariant in let into = c.in-Ok.ensures.items in
    record {
      each = one_more (IsNew c.args.note.now.table_id (arc_value c.args.first.now.config)) _ _ _ into was.each
          (subst (λ (name : TableId). IsNew name (arc_value c.args.first.now.config) c.in_ok-reader.reader) was.table c.in_ok-reader.ensures.reader);
      count = let size = ap length into in let sum = length-append c.loop.readers.items (c.in_ok-reader.reader ∷ []) in let before = was.count in omega arith;
      table = c.begin.ensures.note.0 ∙ was.table;
      list = c.begin.ensures.note.1 ∙ was.list;
      view' = c.begin.ensures.writer.0 ∙ was.view';
      number' = c.begin.ensures.writer.1 ∙ was.number';
    }
