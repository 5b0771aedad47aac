use Rattle.std.proofs.Common.{◌≡◌, true, List}
use Rattle.socks_machine.specs.declared.script.ScriptLine.{ScriptLine}
use Rattle.replay_run.specs.Behind.{IsInRound}
use Rattle.replay_run.proofs.state.Replay.rounds.Given as goal

abbrev pub invariant-rounds : goal.invariant-rounds
invariant-rounds l = record {
  gens : l.self.gens ≡ l.fn.self.gens;
  so_far : (script : List ScriptLine) → IsInRound l.users script 0 true l.fn.self → IsInRound l.users script 0 true l.self;
}
