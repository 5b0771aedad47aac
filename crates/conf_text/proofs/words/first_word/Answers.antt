use Rattle.std.proofs.Common.{◌≡◌, ◌∷◌, List, ℕ, take, drop, length, refl, sym, ap, ◌∙◌, arith}
use Rattle.conf_text.specs.Words.{Word, word_of, words_from}
use Rattle.conf_text.specs.Tokens.{seen}
use Rattle.conf_text.proofs.Scanning.{words_brace, words_from_none, first_cut}
use Rattle.conf_text.proofs.Keys.{open_word, close_word}
use Rattle.conf_text.proofs.words.first_word.Goals as goal

pub returns-in_err-first : goal.returns-in_err-first
returns-in_err-first c =
    let at = c.past_gap-line.result in
    rw c.from_residual.ensures (sym c.past_gap-line.ensures.same ∙ words_from_none at.line at.rest.now c.in_err-first.ensures.cases)

pub returns-in-123 : goal.returns-in-123
returns-in-123 c =
    let n = c.past_gap-line.result.line in
    let behind = c.in_ok-first.behind.now in
    let e = c.in_ok-first.ensures.cases.0 in
    let l = ap length e in
    let w = c.past_gap-line.ensures.within in (
      sym c.past_gap-line.ensures.same
          ∙ (ap (words_from n) e
          ∙ (ap (λ (b : ℕ). words_from n (b ∷ behind)) c.in-123.is ∙ (words_brace n 123 behind refl ∙ ap (λ (z : Word). z ∷ words_from n behind) (open_word n)))),
      omega arith,
    )

pub returns-in-125 : goal.returns-in-125
returns-in-125 c =
    let n = c.past_gap-line.result.line in
    let behind = c.in_ok-first.behind.now in
    let e = c.in_ok-first.ensures.cases.0 in
    let l = ap length e in
    let w = c.past_gap-line.ensures.within in (
      sym c.past_gap-line.ensures.same
          ∙ (ap (words_from n) e
          ∙ (ap (λ (b : ℕ). words_from n (b ∷ behind)) c.in-125.is ∙ (words_brace n 125 behind refl ∙ ap (λ (z : Word). z ∷ words_from n behind) (close_word n)))),
      omega arith,
    )

pub returns-in_default : goal.returns-in_default
returns-in_default c =
    let n = c.past_gap-line.result.line in
    let rest = c.past_gap-line.result.rest.now in
    let len = c.word_len.result in
    let b = c.in_ok-first.first.now in
    let d = c.in_default in
    let split = c.split_at.ensures in
    let within = c.past_gap-line.ensures.within in
    let cut = first_cut n rest b c.in_ok-first.behind.now len c.in_ok-first.ensures.cases.0 (λ e. omega arith) (λ e. omega arith)
    c.past_gap-line.ensures.at c.word_len.ensures.word c.word_len.ensures.whole in
    let some = cut.1 in
    let word : word_of n (take len rest) ≡ seen c.key_or_value.result = sym (c.key_or_value.ensures ∙ ap (word_of n) split.front) in (
      sym c.past_gap-line.ensures.same ∙ (cut.0 ∙ (ap (λ (z : Word). z ∷ words_from n (drop len rest)) word
          ∙ ap (λ (z : List ℕ). seen c.key_or_value.result ∷ words_from n z) (sym split.back))),
      omega arith,
    )
