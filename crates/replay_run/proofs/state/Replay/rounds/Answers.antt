use Rattle.std.proofs.Common.{Bool, subst}
use Rattle.replay_run.specs.Behind.{OnRound}
use Rattle.replay_run.proofs.state.Replay.rounds.Goals as goal

pub returns-then-branch : goal.returns-then-branch
returns-then-branch c = λ script h.
    subst (λ (still : Bool). OnRound c.args.users.now script still c.round.new.self) c.if-branch.true (c.in_ok-round.ensures.round script (c.rounds.invariant.so_far script h))
