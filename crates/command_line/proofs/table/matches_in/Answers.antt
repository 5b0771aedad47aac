use Rattle.std.proofs.Common.{◌∙◌, map}
use Rattle.std.specs.String.{string_bytes}
use Rattle.clap.specs.Words.{app_of, found_of, rows_of}
use Rattle.command_line.proofs.Taken.{simple, taken_not, taken_whole}
use Rattle.command_line.proofs.table.matches_in.Goals as goal

pub returns-in-Ok : goal.returns-in-Ok
returns-in-Ok c =
    taken_whole (app_of c.args.command) (map string_bytes c.args.words.now) (rows_of (found_of c.in-Ok.matches)) (c.in-Ok.ensures.kinds c.requires)
    (c.in-Ok.ensures.matches (simple (app_of c.args.command) c.requires)).0

pub returns : goal.returns
returns c =
    taken_not (app_of c.args.command) (map string_bytes c.args.words.now) c.in-Err.error
    (λ memory. c.in_default.not-OutOfMemory (c.kind.ensures ∙ memory)) (c.in-Err.ensures.kinds c.requires)
