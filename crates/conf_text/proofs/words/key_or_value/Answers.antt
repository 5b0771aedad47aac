use Rattle.std.proofs.Common.{◌++◌, ◌∷◌, [], ℕ, sym, ap, ◌∙◌}
use Rattle.conf_text.proofs.Keys.{key_word, value_word, no_key, other_end, no_name, empty_is_value}
use Rattle.conf_text.proofs.words.key_or_value.Goals as goal

pub returns-in_default : goal.returns-in_default
returns-in_default c = value_word c.args.line c.args.word.now c.requires (empty_is_value c.args.word.now c.in_default.ensures.cases)

pub returns-then-last-ne58 : goal.returns-then-last-ne58
returns-then-last-ne58 c =
    let name = c.in-Some.name.now in
    let last = c.in-Some.last.now in
    value_word c.args.line c.args.word.now c.requires (no_key c.args.word.now name last c.in-Some.ensures.cases.0 (other_end last name c.if-last-ne58.true))

pub returns-then-is_name : goal.returns-then-is_name
returns-then-is_name c =
    let name = c.in-Some.name.now in
    key_word c.args.line c.args.word.now name c.requires (c.in-Some.ensures.cases.0 ∙ ap (λ (z : ℕ). name ++ z ∷ []) c.if-last-ne58.false) (sym c.is_name.ensures ∙ c.if-is_name.true)

pub returns-else-is_name : goal.returns-else-is_name
returns-else-is_name c =
    let name = c.in-Some.name.now in
    let last = c.in-Some.last.now in
    value_word c.args.line c.args.word.now c.requires (no_key c.args.word.now name last c.in-Some.ensures.cases.0 (no_name last name (sym c.is_name.ensures ∙ c.if-is_name.false)))
