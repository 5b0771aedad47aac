use Rattle.std.proofs.Common.{◌≡◌, ◌+◌, length, vec_capacity, All}
use Rattle.std.specs.Vec.Iter.{into_iter_items}
use Rattle.published.specs.Shares.{IsShareOf}
use Rattle.published.specs.Ends.{TellsLast}
use Rattle.published.proofs.next.told_each.Given as goal

abbrev pub invariant-loop-snap : goal.invariant-loop-snap
invariant-loop-snap l = record {
  left : All (IsShareOf (length l.fn.note.me.0.configs) l.config) (into_iter_items l.snap-iterator);
  each : All (TellsLast l.fn.note.table_id l.fn.note.me.0.configs l.config) l.tolds.items;
  count : length l.tolds.items + length (into_iter_items l.snap-iterator) ≡ length l.fn.shares.items;
  room : vec_capacity l.tolds ≡ vec_capacity l.fn.room;
  own : l.note.table_id ≡ l.fn.note.table_id;
  list : l.note.me ≡ l.fn.note.me;
}
