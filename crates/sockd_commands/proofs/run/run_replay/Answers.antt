use Rattle.std.proofs.Common.{rules}
use Rattle.sockd_commands.specs.Quick.{HasTranscript, source}
use Rattle.sockd_commands.proofs.Writing.{cut-off}
use Rattle.sockd_commands.proofs.run.run_replay.Goals as goal

pub returns : goal.returns
returns g c =
    let shown : HasTranscript (source (g.I.Source.told c.args.input.now) (g.I.Source.faults c.args.input.now)) (source (g.I.Source.told c.read_all.new.input) (g.I.Source.faults c.read_all.new.input)) c.in-Ok-replay.transcript = search rules in
    λ files. (c.in-Ok-replay.transcript, shown, cut-off _ _ _ _ c.as_slice-2.result.now c.in-Ok-replay.transcript c.as_slice-2.ensures c.if-write_all.ensures.found)
