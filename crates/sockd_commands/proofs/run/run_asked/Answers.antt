use Rattle.std.proofs.Common.{refl}
use Rattle.sockd_commands.specs.Quick.{source, store}
use Rattle.sockd_commands.proofs.run.run_asked.Goals as goal

pub returns-in-Replay : goal.returns-in-Replay
returns-in-Replay g c = rw c.in-Replay.is (record {
  ended = c.run_replay.ensures (store (g.F.Store.files c.args.files.now) (g.F.Store.faults c.args.files.now));
  same_files = refl;
})

pub returns-in-Check : goal.returns-in-Check
returns-in-Check g c = rw c.in-Check.is (record {
  ended = c.run_text.ensures.ended (source (g.I.Source.told c.args.input.now) (g.I.Source.faults c.args.input.now));
  same_input = refl;
  same_files = c.run_text.ensures.kept;
})

pub returns-in-Decide : goal.returns-in-Decide
returns-in-Decide g c = rw c.in-Decide.is (record {
  ended = c.run_text-in-Decide.ensures.ended (source (g.I.Source.told c.args.input.now) (g.I.Source.faults c.args.input.now));
  same_input = refl;
  same_files = c.run_text-in-Decide.ensures.kept;
})
