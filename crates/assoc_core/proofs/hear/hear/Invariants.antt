use Rattle.std.proofs.Common.{◌<◌, ◌+◌, ◌-◌, ◌≡◌, None, length}
use Rattle.net_ends.specs.Counts.{Later}
use Rattle.net_ends.specs.Faults.{Tried}
use Rattle.socks_machine.specs.Turn.{quantum}
use Rattle.assoc_core.specs.Reads.{Comes}
use Rattle.assoc_core.specs.Stands.{GivesFirst}
use Rattle.assoc_core.proofs.Choosing.{HasTaken}
use Rattle.assoc_core.proofs.hear.hear.Given as goal

abbrev pub invariant-reading : goal.invariant-reading
invariant-reading g l = record {
  comes : Comes (g.L.Link.told l.initial.link) (g.L.Link.told l.link) l.initial.text l.text;
  few : length l.text < quantum + length l.initial.text;
  taken' : HasTaken l.methods l.users l.text l.taken l.handshake;
  first : GivesFirst (g.L.Link.told l.initial.link) → GivesFirst (g.L.Link.told l.link);
  later : Later (g.L.Link.counts l.initial.link) (g.L.Link.counts l.link);
  tried : Tried (g.L.Link.counts l.initial.link) (g.L.Link.counts l.link) (l.text ≡ l.initial.text) (Unit {0}) (Unit {0}) None;
}

abbrev pub decreases-reading : goal.decreases-reading
decreases-reading g l = 1290 - length l.text
