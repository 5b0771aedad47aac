use Rattle.std.proofs.Common.{◌∷◌, refl, ap, ◌∙◌, subst, List}
use Rattle.conf_text.specs.Words.{Word}
use Rattle.conf_text.specs.Tokens.{left, seen}
use Rattle.conf_text.specs.Statements.{Entries}
use Rattle.conf_text.proofs.Joining.{entries_end, value_first}
use Rattle.conf_text.proofs.statements.entries.Goals as goal

pub returns-in-Some-Close-default-clause-read : goal.returns-in-Some-Close-default-clause-read
returns-in-Some-Close-default-clause-read c =
    let all = entries_end (left c.args.words.now) (left c.loop-line.words) c.loop-line.entries c.loop-line.invariant.so_far in
    let w = c.in-Some-Close-default in
    (w.field-0-0-0, subst (λ (z : List Word). Entries (left c.args.words.now) c.loop-line.entries z) (w.ensures.0 ∙ ap (λ t. seen t ∷ left w.behind) w.field-0-0-is) all)

pub returns-in-Some-Open-default-clause-read : goal.returns-in-Some-Open-default-clause-read
returns-in-Some-Open-default-clause-read c =
    let all = entries_end (left c.args.words.now) (left c.loop-line.words) c.loop-line.entries c.loop-line.invariant.so_far in
    let w = c.in-Some-Open-default in
    (c.loop-line.entries, left w.field-0-1, subst (λ (z : List Word). Entries (left c.args.words.now) c.loop-line.entries z) (w.ensures.0 ∙ ap (λ t. seen t ∷ left w.field-0-1) w.field-0-0-is) all)

pub returns-in-Some-Value-default-clause-read : goal.returns-in-Some-Value-default-clause-read
returns-in-Some-Value-default-clause-read c =
    let all = entries_end (left c.args.words.now) (left c.loop-line.words) c.loop-line.entries c.loop-line.invariant.so_far in
    let w = c.in-Some-Value-default in
    let text = w.field-0-0-1.now in
    let rest = left w.field-0-1 in (
      text,
      rest,
      value_first (left c.args.words.now) c.loop-line.entries w.line text rest
          (subst (λ (z : List Word). Entries (left c.args.words.now) c.loop-line.entries z) (w.ensures.0 ∙ ap (λ t. seen t ∷ rest) w.field-0-0-is) all),
    )

pub returns-in-None-clause-read : goal.returns-in-None-clause-read
returns-in-None-clause-read c =
    let all = entries_end (left c.args.words.now) (left c.loop-line.words) c.loop-line.entries c.loop-line.invariant.so_far in
    (c.loop-line.entries, subst (λ (z : List Word). Entries (left c.args.words.now) c.loop-line.entries z) c.in-None.ensures all, refl)
