use Rattle.std.proofs.Common.{ℕ, List, inl, inr}
use Rattle.replay_script.specs.declared.entry.TextLine.{TextLine}
use Rattle.replay_script.specs.Cuts.{IsLine}
use Rattle.replay_script.specs.declared.fault.ScriptKind.{ScriptKind}
use Rattle.replay_script.specs.Conf.{Unpublished}
use Rattle.replay_script.specs.Users.{Ungiven}
use Rattle.replay_script.specs.Script.{Begins, BeginsNothing, RefusesText, SpellsEntry}
use Rattle.replay_script.proofs.script.begins.Goals as goal

nothing : (text : List ℕ) → Unpublished text → Ungiven text → ((entry : TextLine) (line behind : List ℕ) → IsLine text line behind → SpellsEntry line entry → ⊥) → BeginsNothing text
nothing text h g none = record { serves = apart; refuses = unrefused }
  where
    apart : (entry : TextLine) (lines : ℕ) (behind : List ℕ) → Begins text entry lines behind → ⊥
    apart entry lines behind (inl s) = none entry s.0 behind s.1 s.2
    apart entry lines behind (inr (inl p)) = h.serves p.0 lines behind p.1
    apart entry lines behind (inr (inr p)) = g.serves p.0 lines behind p.1

    unrefused : (kind : ScriptKind) → RefusesText text kind → ⊥
    unrefused (ScriptKind.Conf fault) r = h.refuses fault r
    unrefused (ScriptKind.Users fault) r = g.refuses fault r
    unrefused _ r = r

pub returns-in-Ok-None-single : goal.returns-in-Ok-None-single
returns-in-Ok-None-single c =
    let unpublished : Unpublished c.args.text.now = rw c.in-Ok-None.field-0-is at (rw c.in-Ok-None.is at c.publish.ensures.read) in
    let ungiven : Ungiven c.args.text.now = rw c.in-Ok-None-give.field-0-is at (rw c.in-Ok-None-give.is at c.give.ensures.read) in
    let none : (entry : TextLine) (line behind : List ℕ) → IsLine c.args.text.now line behind → SpellsEntry line entry → ⊥ = rw c.in-Ok-None-single.field-0-is at (rw c.in-Ok-None-single.is at c.single.ensures) in
    record { begins = nothing c.args.text.now unpublished ungiven none; refused = tt }
