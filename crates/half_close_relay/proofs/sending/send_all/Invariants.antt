use Rattle.std.proofs.Common.{◌≡◌, ◌≤◌, ◌-◌, None, length, take}
use Rattle.net_ends.specs.Told.{more}
use Rattle.net_ends.specs.Counts.{Later}
use Rattle.net_ends.specs.Faults.{Tried}
use Rattle.half_close_relay.proofs.sending.send_all.Given as goal

abbrev pub invariant-loop-at : goal.invariant-loop-at
invariant-loop-at g l = record {
  within : l.at ≤ length l.bytes;
  told : g.L.Link.told l.link ≡ record (g.L.Link.told l.initial.link) { taken = more (g.L.Link.told l.initial.link).taken (take l.at l.bytes) };
  later : Later (g.L.Link.counts l.initial.link) (g.L.Link.counts l.link);
  tried : Tried (g.L.Link.counts l.initial.link) (g.L.Link.counts l.link) (Unit {0}) (l.at ≡ 0) (Unit {0}) None;
}

abbrev pub decreases-loop-at : goal.decreases-loop-at
decreases-loop-at g l = length l.bytes - l.at
