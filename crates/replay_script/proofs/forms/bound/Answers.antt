use Rattle.std.proofs.Common.{ℕ, List, codes}
use Rattle.socks_machine.specs.declared.world.Object.{Object}
use Rattle.replay_script.specs.Forms.{IsBound, IsNumbered}
use Rattle.replay_script.proofs.forms.bound.Goals as goal

none_of : (text : List ℕ) → ((n : ℕ) → IsNumbered (codes "client ") text n → ⊥) → ((n : ℕ) → IsNumbered (codes "target ") text n → ⊥) →
    (object : Object) (most : ℕ) → IsBound text object most → ⊥
none_of text client target Object.Client most h = client most h
none_of text client target Object.Target most h = target most h
none_of text client target _ most h = h

pub returns : goal.returns
returns c = none_of c.args.text.now (rw c.in_default.is at c.in_ok-most.ensures) (rw c.in_default-2.is at c.in_ok-most-2.ensures)
