-- A cause's answer, as the code has it.
use Rattle.std.specs.Prelude.{[], ◌∷◌}
use Rattle.socks_machine.specs.Replies.{Answer}
use Rattle.assoc_core.specs.declared.replies.Reply.{Reply}

abbrev pub answer_of : Reply → Answer
answer_of (Reply.Code code) = Answer.Code code
answer_of (Reply.Bytes first second) = Answer.Bytes (first ∷ second ∷ [])
answer_of Reply.Silence = Answer.Silence
