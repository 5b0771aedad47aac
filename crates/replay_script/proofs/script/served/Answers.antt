use Rattle.std.proofs.Common.{◌≡◌, false, true≢false, ap, sym, ◌∙◌}
use Rattle.replay_script.specs.declared.entry.TextLine.{TextLine}
use Rattle.replay_script.specs.Script.{Begins, BeginsNothing, entry_allowed}
use Rattle.replay_script.proofs.Serving.{begins_form}
use Rattle.replay_script.proofs.Steps.{one_begin, refused_apart, unlooked}
use Rattle.replay_script.proofs.script.served.Goals as goal

pub enters-requires : goal.enters-requires
enters-requires c =
    let found : Begins c.args.text.now c.in-Ok-Some.entry c.in-Ok-Some.lines c.in-Ok-Some.behind.now = rw c.in-Ok-Some.field-0-is at (rw c.in-Ok-Some.is at c.begins.ensures.begins) in
    begins_form c.args.text.now c.in-Ok-Some.entry c.in-Ok-Some.lines c.in-Ok-Some.behind.now found

pub returns-in-Ok-None : goal.returns-in-Ok-None
returns-in-Ok-None c =
    let none : BeginsNothing c.args.text.now = rw c.in-Ok-None.field-0-is at (rw c.in-Ok-None.is at c.begins.ensures.begins) in
    record { steps = record { serves = λ entry lines behind h. none.serves entry lines behind h.begins; refuses = λ kind h. none.refuses kind h.faulty }; refused = tt }

pub returns-in-Ok-false : goal.returns-in-Ok-false
returns-in-Ok-false c =
    let found : Begins c.args.text.now c.in-Ok-Some.entry c.in-Ok-Some.lines c.in-Ok-Some.behind.now = rw c.in-Ok-Some.field-0-is at (rw c.in-Ok-Some.is at c.begins.ensures.begins) in
    let refused : entry_allowed c.args.state.now c.in-Ok-Some.entry ≡ false = rw c.in-Ok-false.field-0-test at (rw c.in-Ok-false.is at c.enters.ensures) in
    record {
      steps = record {
        serves = λ entry lines behind h.
            let e : entry ≡ c.in-Ok-Some.entry = one_begin c.args.text.now entry c.in-Ok-Some.entry lines c.in-Ok-Some.lines behind c.in-Ok-Some.behind.now h.begins found in
            true≢false (sym h.allowed ∙ (ap (λ (z : TextLine). entry_allowed c.args.state.now z) e ∙ refused));
        refuses = λ kind h. refused_apart c.args.text.now kind c.in-Ok-Some.entry c.in-Ok-Some.lines c.in-Ok-Some.behind.now h.faulty found;
      };
      refused = tt;
    }

pub returns-in-Err : goal.returns-in-Err
returns-in-Err c = record {
  steps = tt;
  refused = λ known. record { faulty = c.in-Err.ensures.refused known; looked_at = sym c.looks_at.ensures ∙ c.if-looks_at.true };
}

pub returns-in-Err-2-clause-steps : goal.returns-in-Err-2-clause-steps
returns-in-Err-2-clause-steps c = unlooked c.args.state.now c.args.text.now c.in-Err.kind c.in-Err.ensures.refused (sym c.looks_at.ensures ∙ c.if-looks_at.false)
