use Rattle.std.proofs.Common.{◌≡◌, take}
use Rattle.conf_model.specs.Canonical.{method_words as method_words_of}
use Rattle.conf_model.proofs.write.method_words.Given as goal

abbrev pub invariant-loop-method : goal.invariant-loop-method
invariant-loop-method l = l.words ≡ method_words_of (take l.method-index l.methods)
