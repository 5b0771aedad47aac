use Rattle.std.proofs.Common.{◌≡◌, Bool, true, false, refl, ap, ◌∙◌}
use Rattle.net_ends.specs.Told.{Told}
use Rattle.assoc_core.specs.declared.carry.Give.{Give}
use Rattle.assoc_core.proofs.Owing.{sent-by, unshut-given}
use Rattle.assoc_core.proofs.Sendings.{later-on, rose-before}
use Rattle.assoc_core.proofs.Tryings.{tried-on}
use Rattle.assoc_core.proofs.carry.give_to.Goals as goal

never : {A : Type 0} (b : Bool) → b ≡ false → b ≡ true → A
never true e f = cc
never false e f = cc

pub returns-in-Full : goal.returns-in-Full
returns-in-Full g c = let k = rw c.in-Full.is at c.in_ok-send_pending.ensures in unshut-given _ _ _ _ _ _ _ k.rest true c.args.ends c.args.shut.now Give.Full (sent-by _ _ _ _ _ _ _ _ k) k.tried k.ends

pub returns-in-Failed : goal.returns-in-Failed
returns-in-Failed g c = let k = rw c.in-Failed.is at c.in_ok-send_pending.ensures in unshut-given _ _ _ _ _ _ _ k.rest true c.args.ends c.args.shut.now Give.Unwritten (sent-by _ _ _ _ _ _ _ _ k) k.tried k.ends

pub returns-then-not-ends : goal.returns-then-not-ends
returns-then-not-ends g c =
    let k = rw c.in-All.is at c.in_ok-send_pending.ensures in
    unshut-given _ _ _ _ _ _ _ k.rest true c.args.ends c.args.shut.now Give.All (sent-by _ _ _ _ _ _ _ _ k) k.tried (k.ends, λ e. never c.args.ends c.if-not-ends.true e)

pub returns-then-shut : goal.returns-then-shut
returns-then-shut g c =
    let k = rw c.in-All.is at c.in_ok-send_pending.ensures in
    unshut-given _ _ _ _ _ _ _ k.rest true c.args.ends c.args.shut.now Give.All (sent-by _ _ _ _ _ _ _ _ k) k.tried (k.ends, λ e. c.if-shut.true)

pub returns-in-Done : goal.returns-in-Done
returns-in-Done g c = let k = rw c.in-All.is at c.in_ok-send_pending.ensures in record {
  part = k.bytes;
  rest = k.rest;
  shuts = true;
  pending' = k.pending';
  after' = k.after';
  shut' = refl;
  told' = c.in-Done.ensures.told ∙ ap (λ (z : Told). let u : Told = record z { shut = true } in u) k.told';
  stuck = k.stuck;
  once = λ e. c.if-shut.false;
  due = λ e. (c.if-not-ends.false, k.ends);
  later = later-on _ _ _ k.later c.shut.ensures.later;
  tried = tried-on k.tried (rw c.in-Done.is at c.shut.ensures.tried) (λ x y. y) (λ x y. x) (λ x y. absurd y);
  why = (k.ends, λ e. refl);
}

pub returns-in-Failed-shut : goal.returns-in-Failed-shut
returns-in-Failed-shut g c = let k = rw c.in-All.is at c.in_ok-send_pending.ensures in record {
  part = k.bytes;
  rest = k.rest;
  shuts = false;
  pending' = k.pending';
  after' = k.after';
  shut' = refl;
  told' = c.in-Failed-shut.ensures.told ∙ k.told';
  stuck = k.stuck;
  once = λ e. cc;
  due = λ e. cc;
  later = later-on _ _ _ k.later c.shut.ensures.later;
  tried = tried-on k.tried (rw c.in-Failed-shut.is at c.shut.ensures.tried) (λ x y. y) (λ x y. x) (λ x y. refl);
  why = (
    k.ends,
    c.if-not-ends.false,
    c.if-shut.false,
    ap (λ (z : Told). z.unfailing) c.in-Failed-shut.ensures.told ∙ c.in-Failed-shut.ensures.answer,
    rose-before _ _ _ k.later.faults c.in-Failed-shut.ensures.cause,
  );
}
