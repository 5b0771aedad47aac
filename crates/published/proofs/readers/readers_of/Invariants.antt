use Rattle.std.proofs.Common.{◌≡◌, length, All}
use Rattle.std.specs.Arc.{arc_value}
use Rattle.left_right.specs.Sides.{view}
use Rattle.published.specs.declared.knows.Knows.{Knows}
use Rattle.published.specs.declared.shown.Shown.{Shown}
use Rattle.published.specs.Ends.{IsNew}
use Rattle.published.proofs.readers.readers_of.Given as goal

abbrev pub invariant-loop : goal.invariant-loop
invariant-loop l = record {
  each : All (IsNew l.fn.note.table_id (arc_value l.first.config)) l.readers.items;
  count : length l.readers.items ≡ l.counter;
  table : l.note.table_id ≡ l.fn.note.table_id;
  list : l.note.me ≡ l.fn.note.me;
  view' : view {T = Shown} {V = Knows} l.writer.desk.place ≡ view l.fn.writer.desk.place;
  number' : l.writer.desk.shown.value.snap.number ≡ l.fn.writer.desk.shown.value.snap.number;
}
