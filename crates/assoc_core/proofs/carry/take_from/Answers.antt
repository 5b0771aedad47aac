use Rattle.std.proofs.Common.{◌≡◌, ◌∙◌, Bool, true, false, ap, refl, length, drop}
use Rattle.net_ends.specs.Told.{Told}
use Rattle.assoc_core.specs.declared.carry.Take.{Take}
use Rattle.assoc_core.specs.Carrying.{owed_of}
use Rattle.assoc_core.proofs.Carryings.{starts, goes-on, unread, stops, same, fills-quantum, ends-now, fewer}
use Rattle.assoc_core.proofs.Owing.{sent-none, sent-starts, room-as, room-on, read-on, nothing-read, waits-same, held-by-room, room-left, tried-room, tried-stopped}
use Rattle.assoc_core.proofs.Sendings.{rose-before, later-same}
use Rattle.assoc_core.proofs.Tryings.{tried-none, tried-on, tried-as}
use Rattle.assoc_core.proofs.carry.take_from.Goals as goal

clash : {A : Type 0} (reads : Bool) → reads ≡ true → reads ≡ false → A
clash true e f = cc
clash false e f = cc

pub returns-then-not-reads : goal.returns-then-not-reads
returns-then-not-reads g c = record {
  takes = unread _ _ _ _ _ _ c.if-not-reads.true refl (tried-none _ (refl, refl, refl) tt tt) (λ e. refl);
  rest = drop (length c.args.sent.now) (owed_of c.args.due.now.front c.args.due.now.skip c.args.text.now);
  sends = sent-none _ _ _ _;
  tried = tried-none _ tt (refl, refl) tt;
  why = refl;
  room = λ e. absurd (cc);
}

pub returns-then-ended : goal.returns-then-ended
returns-then-ended g c = record {
  takes = unread _ _ _ _ _ _ c.if-ended.true refl (tried-none _ (refl, refl, refl) tt tt) (λ e. clash c.args.reads c.if-not-reads.false e);
  rest = drop (length c.args.sent.now) (owed_of c.args.due.now.front c.args.due.now.skip c.args.text.now);
  sends = sent-none _ _ _ _;
  tried = tried-none _ tt (refl, refl) tt;
  why = refl;
  room = λ e. absurd (cc);
}

pub loop-left-init : goal.loop-left-init
loop-left-init g c = record { so_far = starts _ _ _; sends = sent-starts _ _ _ _; unended = c.if-ended.false }

pub loop-left-preserved : goal.loop-left-preserved
loop-left-preserved g c =
    let k = rw c.in-Got.is at c.in_ok-n.ensures.read in
    let m = room-as _ _ _ _ _ _ _ _ _ _ _ c.as_slice.ensures c.in_ok-give.ensures in
    record {
      so_far = goes-on _ _ _ _ _ _ _ _ _ _ _ _ c.loop-left.invariant.so_far k refl c.in_ok-n.ensures.later (rw c.in-Got.is at c.in_ok-n.ensures.tried) (rw c.in-Got.is at c.in_ok-n.ensures.arrived);
      sends = read-on _ _ _ _ _ _ _ _ _ _ _ k.bytes (room-on _ _ _ _ _ _ _ _ _ _ _ _ _ c.loop-left.invariant.sends m) (tried-stopped c.in_default.is (tried-room c.loop-left.invariant.sends m)) k.after';
      unended = c.loop-left.invariant.unended;
    }

pub returns-in-Some : goal.returns-in-Some
returns-in-Some g c =
    let m = room-as _ _ _ _ _ _ _ _ _ _ _ c.as_slice.ensures c.in_ok-give.ensures in
    record {
      takes = stops _ _ _ _ _ _ _ _ _ _ _ _ _ Take.Held c.loop-left.invariant.so_far (same _ _) (later-same _) c.if-ended.false c.loop-left.invariant.unended c.loop-left.invariant.unended
          (fewer _ _ c.loop-left.invariant.so_far.count c.loop-left-test.true) c.if-not-reads.false
          (tried-as c.loop-left.invariant.so_far.tried (λ x. (x, refl, refl)) (λ x. x) (λ x. x));
      rest = m.rest;
      sends = room-on _ _ _ _ _ _ _ _ _ _ _ _ _ c.loop-left.invariant.sends m;
      tried = tried-stopped c.in-Some.is (tried-room c.loop-left.invariant.sends m);
      why = held-by-room c.loop-left.invariant.sends m c.in-Some.is;
      room = λ e. absurd (cc);
    }

pub returns-in-End : goal.returns-in-End
returns-in-End g c =
    let k = rw c.in-End.is at c.in_ok-n.ensures.read in
    let m = room-as _ _ _ _ _ _ _ _ _ _ _ c.as_slice.ensures c.in_ok-give.ensures in
    record {
      takes = ends-now _ _ _ _ _ _ _ _ _ _ _ _ c.loop-left.invariant.so_far k c.in_ok-n.ensures.later (rw c.in-End.is at c.in_ok-n.ensures.arrived) c.loop-left-test.true c.if-ended.false
          c.if-not-reads.false (rw c.in-End.is at c.in_ok-n.ensures.tried);
      rest = m.rest;
      sends = nothing-read _ _ _ _ _ _ _ _ _ _ _ k.0 (room-on _ _ _ _ _ _ _ _ _ _ _ _ _ c.loop-left.invariant.sends m);
      tried = tried-stopped c.in_default.is (tried-room c.loop-left.invariant.sends m);
      why = refl;
      room = λ e. waits-same _ _ _ _ _ k.0 (room-left m c.in_default.is);
    }

pub returns-in-NotYet : goal.returns-in-NotYet
returns-in-NotYet g c =
    let k = rw c.in-NotYet.is at c.in_ok-n.ensures.read in
    let m = room-as _ _ _ _ _ _ _ _ _ _ _ c.as_slice.ensures c.in_ok-give.ensures in
    record {
      takes = stops _ _ _ _ _ _ _ _ _ _ _ _ _ _ c.loop-left.invariant.so_far k.0 c.in_ok-n.ensures.later c.if-ended.false c.loop-left.invariant.unended
          (c.loop-left.invariant.unended, rw c.in-NotYet.is at c.in_ok-n.ensures.arrived, rose-before _ _ _ c.loop-left.invariant.so_far.later.idle_reads (rw c.in-NotYet.is at c.in_ok-n.ensures.cause))
          (fewer _ _ c.loop-left.invariant.so_far.count c.loop-left-test.true) c.if-not-reads.false
          (tried-on c.loop-left.invariant.so_far.tried (rw c.in-NotYet.is at c.in_ok-n.ensures.tried) (λ x y. absurd y) (λ x y. y) (λ x y. y));
      rest = m.rest;
      sends = nothing-read _ _ _ _ _ _ _ _ _ _ _ k.0.after' (room-on _ _ _ _ _ _ _ _ _ _ _ _ _ c.loop-left.invariant.sends m);
      tried = tried-stopped c.in_default.is (tried-room c.loop-left.invariant.sends m);
      why = refl;
      room = λ e. absurd (cc);
    }

pub returns-in-Failed : goal.returns-in-Failed
returns-in-Failed g c =
    let k = rw c.in-Failed.is at c.in_ok-n.ensures.read in
    let m = room-as _ _ _ _ _ _ _ _ _ _ _ c.as_slice.ensures c.in_ok-give.ensures in
    record {
      takes = stops _ _ _ _ _ _ _ _ _ _ _ _ _ _ c.loop-left.invariant.so_far k.0 c.in_ok-n.ensures.later c.if-ended.false c.loop-left.invariant.unended
          (c.loop-left.invariant.unended, ap (λ (z : Told). z.unfailing) k.0.told' ∙ k.1, rose-before _ _ _ c.loop-left.invariant.so_far.later.faults (rw c.in-Failed.is at c.in_ok-n.ensures.cause))
          (fewer _ _ c.loop-left.invariant.so_far.count c.loop-left-test.true) c.if-not-reads.false
          (tried-on c.loop-left.invariant.so_far.tried (rw c.in-Failed.is at c.in_ok-n.ensures.tried) (λ x y. (k.0.after' ∙ x, refl, refl)) (λ x y. y) (λ x y. y));
      rest = m.rest;
      sends = nothing-read _ _ _ _ _ _ _ _ _ _ _ k.0.after' (room-on _ _ _ _ _ _ _ _ _ _ _ _ _ c.loop-left.invariant.sends m);
      tried = tried-stopped c.in_default.is (tried-room c.loop-left.invariant.sends m);
      why = refl;
      room = λ e. absurd (cc);
    }

pub returns : goal.returns
returns g c = record {
  takes = fills-quantum _ _ _ _ _ _ _ _ _ _ c.loop-left.invariant.so_far c.loop-left-test.false c.if-ended.false c.loop-left.invariant.unended c.if-not-reads.false;
  rest = c.loop-left.invariant.sends.rest;
  sends = c.loop-left.invariant.sends.sends;
  tried = tried-as c.loop-left.invariant.sends.tried (λ x. x) (λ x. (x, refl)) (λ x. x);
  why = refl;
  room = λ e. absurd (cc);
}
