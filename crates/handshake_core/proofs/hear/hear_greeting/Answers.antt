use Rattle.handshake_core.proofs.Hearing.{greeted-shown}
use Rattle.handshake_core.proofs.hear.hear_greeting.Goals as goal

pub returns-in-Whole : goal.returns-in-Whole
returns-in-Whole c = λ users.
    let w = c.in-Whole.ensures in let g = c.greet.ensures in let k = c.choose-method.ensures in let b = c.as_slice-bytes.ensures in
    greeted-shown c.args.methods.now users c.args.state.now c.greet.new.state c.greet.result _ c.as_slice-bytes.result.now c.choose-method.result c.in-Whole.len c.requires.at c.requires.five b w.offered w.inside k g
