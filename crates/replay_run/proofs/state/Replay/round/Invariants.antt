use Rattle.std.proofs.Common.{◌≡◌, length, true, List}
use Rattle.socks_machine.specs.declared.script.ScriptLine.{ScriptLine}
use Rattle.replay_run.specs.Behind.{IsInRound}
use Rattle.replay_run.proofs.state.Replay.round.Given as goal

abbrev pub invariant-turning : goal.invariant-turning
invariant-turning l = record {
  count : length l.self.slots ≡ length l.fn.self.slots;
  gens : l.self.gens ≡ l.fn.self.gens;
  so_far : (script : List ScriptLine) → IsInRound l.users script 0 true l.fn.self → IsInRound l.users script l.at l.still l.self;
}
