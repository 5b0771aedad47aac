use Rattle.std.proofs.Common.{arith}
use Rattle.handshake_core.proofs.Feeding.{so-far-more}
use Rattle.handshake_core.proofs.handshake.Handshake.feed.Goals as goal

pub loop-i-preserved : goal.loop-i-preserved
loop-i-preserved c = record {
  so_far = so-far-more c.args.methods.now c.args.users.now c.args.self.now c.args.input.now c.loop-i.i c.loop-i.self-inside.state c.take.new.state c.loop-i.invariant.so_far (omega arith) c.in-Need.ensures.heard;
  run = c.in-Need.ensures.run;
}
