use Rattle.std.proofs.Common.{sym, ◌∙◌}
use Rattle.handshake_core.proofs.Hearing.{choose-skips}
use Rattle.handshake_core.proofs.hear.+choose.Goals as goal

pub returns-else-contains : goal.returns-else-contains
returns-else-contains t c =
    c.choose.ensures ∙ choose-skips c.args.methods.now c.args.offered.now c.code-code.result c.in-len1-up.len_at_least c.code-code.ensures (sym c.contains.ensures.value ∙ c.if-contains.false)
