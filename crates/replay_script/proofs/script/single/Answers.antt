use Rattle.std.proofs.Common.{ℕ, List, subst}
use Rattle.replay_script.specs.declared.entry.TextLine.{TextLine}
use Rattle.replay_script.specs.Script.{SpellsEntry}
use Rattle.replay_script.proofs.Reading.{one_first}
use Rattle.replay_script.proofs.script.single.Goals as goal

pub returns-in-Ok-None : goal.returns-in-Ok-None
returns-in-Ok-None c = λ entry line behind first spelled.
    let none : (entry : TextLine) → SpellsEntry c.in-Some.line.now entry → ⊥ = rw c.in-Ok-None.field-0-is at (rw c.in-Ok-None.is at c.entry_of.ensures) in
    let q = one_first c.args.text.now line c.in-Some.line.now behind c.in-Some.behind.now first c.in-Some.ensures.found in
    none entry (subst (λ (z : List ℕ). SpellsEntry z entry) q.0 spelled)
