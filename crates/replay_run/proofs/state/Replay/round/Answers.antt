use Rattle.std.proofs.Common.{ℕ, ◌≡◌, ◌∙◌, ◌<◌, ◌+◌, ◌&&◌, sym, subst, refl, Bool, true, false, length, arith}
use Rattle.replay_run.specs.Behind.{IsInRound}
use Rattle.replay_run.proofs.Rounding.{turn-of-round, whole-round}
use Rattle.replay_run.proofs.state.Replay.round.Goals.{then-still, else-still}
use Rattle.replay_run.proofs.state.Replay.round.Goals as goal

as-quiet : (still quiet : Bool) → still ≡ true → still && quiet ≡ quiet
as-quiet true quiet h = refl
as-quiet false quiet h = cc

as-false : (still quiet : Bool) → still ≡ false → still && quiet ≡ still
as-false true quiet h = cc
as-false false quiet h = refl

pub turning-init : goal.turning-init
turning-init c = record { count = refl; gens = refl; so_far = λ script h. h }

pub turn_at-requires-clause-within : goal.turn_at-requires-clause-within
turn_at-requires-clause-within c = subst (λ (n : ℕ). c.turning.at < n) (c.len-at-end.ensures ∙ sym c.turning.invariant.count) c.turning-test.true

pub turning-preserved : goal.turning-preserved
turning-preserved c = record {
  count = c.in_ok-quiet.ensures.kept ∙ c.turning.invariant.count;
  gens = c.in_ok-quiet.ensures.gens ∙ c.turning.invariant.gens;
  so_far = λ script h. subst (λ (b : Bool). IsInRound c.args.users.now script (c.turning.at + 1) b c.turn_at.new.self) both
      (subst (λ (n : ℕ). IsInRound c.args.users.now script n (c.turning.still && c.in_ok-quiet.quiet) c.turn_at.new.self) (omega arith)
      (turn-of-round c.args.users.now script c.turning.at c.turning.still c.in_ok-quiet.quiet c.turning.self c.turn_at.new.self
      (subst (λ (n : ℕ). c.turning.at < n) (c.len-at-end.ensures ∙ sym c.turning.invariant.count) c.turning-test.true)
      c.in_ok-quiet.ensures.turned (c.turning.invariant.so_far script h)));
}
  where
    both : c.turning.still && c.in_ok-quiet.quiet ≡ c.if-still.still
    both = elim c.if-still.branch [
      | then-still w ↦ as-quiet c.turning.still c.in_ok-quiet.quiet w.if-still.true ∙ sym w.still-is
      | else-still w ↦ as-false c.turning.still c.in_ok-quiet.quiet w.if-still.false ∙ sym w.still-is
    ]

pub returns-clause-round : goal.returns-clause-round
returns-clause-round c = λ script h. whole-round c.args.users.now script c.turning.still c.turning.self
    (subst (λ (n : ℕ). IsInRound c.args.users.now script n c.turning.still c.turning.self) all (c.turning.invariant.so_far script h))
  where
    all : c.turning.at ≡ length c.turning.self.slots
    all = let past = c.turning-test.false in let within = c.turning.auto.at-end in let end = c.len-at-end.ensures in let count = c.turning.invariant.count in
        omega (arith, past, within, end, count)
