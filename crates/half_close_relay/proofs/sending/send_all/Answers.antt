use Rattle.std.proofs.Common.{◌≡◌, ◌<◌, ℕ, ◌-◌, List, length, take, drop, ap, ◌∙◌, refl, sym, subst, arith}
use Rattle.std.proofs.lemmas.Grind.{common_steps}
use Rattle.net_ends.specs.Told.{Told, more}
use Rattle.net_ends.specs.declared.kinds.Kind.{Kind}
use Rattle.half_close_relay.specs.Ways.{IsFull}
use Rattle.half_close_relay.proofs.Sums.{takes-on, takes-none, later-on, later-same, rose-before}
use Rattle.half_close_relay.proofs.Tryings.{tried-on, tried-none, undue-before, write-undue}
use Rattle.half_close_relay.proofs.sending.send_all.Goals as goal

pub loop-at-preserved : goal.loop-at-preserved
loop-at-preserved g c =
    let same : take c.in-Took.n (take (length c.args.bytes.now - c.loop-at.at) (drop c.loop-at.at c.args.bytes.now)) ≡ take c.in-Took.n (drop c.loop-at.at c.args.bytes.now) = grind (arith, common_steps) in
    record {
      within = omega (arith, c.in-Took.ensures.answer);
      told = takes-on (g.L.Link.told c.args.link.now) (g.L.Link.told c.loop-at.link) (g.L.Link.told c.write.new.self) c.args.bytes.now c.loop-at.at c.in-Took.n c.loop-at.invariant.told
          (c.in-Took.ensures.told ∙ ap (λ (z : List ℕ). let t : Told = record (g.L.Link.told c.loop-at.link) { taken = more (g.L.Link.told c.loop-at.link).taken z } in t) same);
      later = later-on _ _ _ c.loop-at.invariant.later c.write.ensures.later;
      tried = tried-on c.loop-at.invariant.tried (rw c.in-Took.is at c.write.ensures.tried) (λ x y. y) (λ x y. absurd y) (λ x y. y);
    }

pub loop-at-init : goal.loop-at-init
loop-at-init g c = record {
  within = omega arith;
  told = takes-none (g.L.Link.told c.args.link.now) c.args.bytes.now;
  later = later-same (g.L.Link.counts c.args.link.now);
  tried = tried-none (g.L.Link.counts c.args.link.now) tt refl tt;
}

pub returns-in-NotYet-clause-tried : goal.returns-in-NotYet-clause-tried
returns-in-NotYet-clause-tried g c = tried-on c.loop-at.invariant.tried (rw c.in-NotYet.is at c.write.ensures.tried) (λ x y. y) (λ x y. absurd y) (λ x y. y)

pub returns-in-Failed-clause-tried : goal.returns-in-Failed-clause-tried
returns-in-Failed-clause-tried g c = tried-on c.loop-at.invariant.tried (rw c.in-Failed.is at c.write.ensures.tried) (λ x y. y) (λ x y. x) (λ x y. y)

pub returns-in-NotYet-clause-ends : goal.returns-in-NotYet-clause-ends
returns-in-NotYet-clause-ends g c = (
  some,
  subst IsFull (sym c.in-NotYet.ensures.told) c.in-NotYet.ensures.answer,
  rose-before _ _ _ c.loop-at.invariant.later.idle_writes c.in-NotYet.ensures.cause,
  undue-before Kind.Write c.loop-at.invariant.tried (write-undue c.in-NotYet.ensures.tried),
)
  where
    some : 0 < length (drop c.loop-at.at c.args.bytes.now)
    some = grind (arith, common_steps)
