use Rattle.std.proofs.Common.{◌≡◌, ◌&&◌, sym, ap, ◌∙◌, rules, tests}
use Rattle.std.specs.List.{list_all}
use Rattle.std.proofs.lemmas.Iterator.{YieldsList-from_slice}
use Rattle.std.proofs.lemmas.Iterator.Search.{all_from_yields_List}
use Rattle.conf_text.specs.Words.{is_name, is_key_byte}
use Rattle.conf_text.proofs.words.is_name.Goals as goal

pub returns-then-is_ascii_alphabetic : goal.returns-then-is_ascii_alphabetic
returns-then-is_ascii_alphabetic c =
    let others = c.in-Some.others.now in
    let all : c.all.result ≡ list_all is_key_byte others = all_from_yields_List is_key_byte _ _ c.all.result c.all.ensures.ran (YieldsList-from_slice others cc) (λ x b q k. search (rules, tests)) in
    all ∙ (ap (λ v. v && list_all is_key_byte others) (sym c.if-is_ascii_alphabetic.true ∙ c.is_ascii_alphabetic.ensures.value) ∙ ap is_name (sym c.in-Some.ensures.cases.0))
