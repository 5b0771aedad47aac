use Rattle.handshake_core.specs.Runs.{StaysShort}
use Rattle.handshake_core.specs.Standing.{IsSoFar}
use Rattle.handshake_core.proofs.handshake.Handshake.feed.Given as goal

abbrev pub invariant-loop-i : goal.invariant-loop-i
invariant-loop-i l = record {
  so_far : IsSoFar l.methods l.users l.fn.self l.input l.i l.self-inside.state;
  run : StaysShort l.self-inside.state.stage l.self-inside.state.message l.self-inside.run;
}
