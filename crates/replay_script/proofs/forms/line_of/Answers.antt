use Rattle.std.proofs.Common.{◌≡◌, ℕ, List, codes}
use Rattle.addr_pattern.specs.declared.endpoint.Endpoint.{Endpoint}
use Rattle.socks_machine.specs.declared.world.Object.{Object}
use Rattle.socks_machine.specs.declared.world.Outer.{Outer}
use Rattle.socks_machine.specs.declared.script.CallKind.{CallKind}
use Rattle.socks_machine.specs.declared.script.ScriptLine.{ScriptLine}
use Rattle.replay_script.specs.Forms.{Spells, IsNumbered, IsOpen, IsArrival, IsDial, IsLookup, IsRoom, IsFault}
use Rattle.replay_script.proofs.forms.line_of.Goals as goal

-- none of the forms
none_of : (text : List ℕ) → (text ≡ codes "see 1" → ⊥) → ((n : ℕ) → IsNumbered (codes "turn 1 ") text n → ⊥) →
    ((n : ℕ) → IsNumbered (codes "clientend ") text n → ⊥) → ((n : ℕ) → IsNumbered (codes "targetend ") text n → ⊥) →
    ((n : ℕ) → IsNumbered (codes "now ") text n → ⊥) → ((n : ℕ) (object : Object) (most : ℕ) → IsRoom text n object most → ⊥) →
    ((n : ℕ) (object : Object) (kind : CallKind) → IsFault text n object kind → ⊥) →
    ((n : ℕ) (outer : Outer) → IsLookup text n outer → ⊥) →
    ((n : ℕ) (outer : Outer) → IsDial text n outer → ⊥) → ((n : ℕ) (bytes : List ℕ) → IsArrival (codes "client ") text n bytes → ⊥) →
    ((n : ℕ) (bytes : List ℕ) → IsArrival (codes "target ") text n bytes → ⊥) →
    ((n : ℕ) (peer at : Endpoint) → IsOpen text n peer at → ⊥) → (l : ScriptLine) → Spells text l → ⊥
none_of text see turn ended left moved bounded failing looked dial client target opened (ScriptLine.See w) h = see h.1
none_of text see turn ended left moved bounded failing looked dial client target opened (ScriptLine.Open w n peer at) h = opened n peer at h.1
none_of text see turn ended left moved bounded failing looked dial client target opened (ScriptLine.Client n bytes) h = client n bytes h
none_of text see turn ended left moved bounded failing looked dial client target opened (ScriptLine.Target n bytes) h = target n bytes h
none_of text see turn ended left moved bounded failing looked dial client target opened (ScriptLine.ClientEnd n) h = ended n h
none_of text see turn ended left moved bounded failing looked dial client target opened (ScriptLine.TargetEnd n) h = left n h
none_of text see turn ended left moved bounded failing looked dial client target opened (ScriptLine.Lookup n outer) h = looked n outer h
none_of text see turn ended left moved bounded failing looked dial client target opened (ScriptLine.Dial n outer) h = dial n outer h
none_of text see turn ended left moved bounded failing looked dial client target opened (ScriptLine.Now n) h = moved n h
none_of text see turn ended left moved bounded failing looked dial client target opened (ScriptLine.Room n object most) h = bounded n object most h
none_of text see turn ended left moved bounded failing looked dial client target opened (ScriptLine.Fault n object kind) h = failing n object kind h
none_of text see turn ended left moved bounded failing looked dial client target opened (ScriptLine.Turn w n) h = turn n h.1
none_of text see turn ended left moved bounded failing looked dial client target opened _ h = h

pub returns : goal.returns
returns c = none_of c.args.text.now c.if-same.ensures
    (rw c.in_default.is at c.in_ok-number.ensures)
    (rw c.in_default-2.is at c.in_ok-number-2.ensures)
    (rw c.in_default-3.is at c.in_ok-number-3.ensures)
    (rw c.in_default-4.is at c.in_ok-seconds.ensures)
    (rw c.in_default-5.is at c.in_ok-number-4.ensures)
    (rw c.in_default-6.is at c.in_ok-number-5.ensures)
    (rw c.in_default-7.is at c.in_ok-number-6.ensures)
    (rw c.in_default-8.is at c.in_ok-number-7.ensures)
    (rw c.in_default-9.is at c.in_ok-number-8.ensures)
    (rw c.in_default-10.is at c.in_ok-number-9.ensures)
    (rw c.in_default-11.is at c.in_ok-number-10.ensures)
