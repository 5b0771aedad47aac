use Rattle.std.proofs.Common.{◌≡◌, take}
use Rattle.conf_model.proofs.write.user_words.Given as goal

abbrev pub invariant-loop-user : goal.invariant-loop-user
invariant-loop-user l = l.words ≡ take l.user-index l.users
