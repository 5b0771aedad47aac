-- Numbers as `format!` writes them, and lines of numbers.
use Rattle.std.proofs.Common.{ℕ, List, [], ◌∷◌, ◌++◌, ◌≡◌, ◌<◌, ◌^◌, ◌∙◌, sym, ap, subst, map, append_assoc, append-nil, Result, OnOk}
use Rattle.std.specs.Fmt.{decimal}
use Rattle.addr_pattern.specs.AddressText.{number_text}
use Rattle.addr_pattern.proofs.NumberTexts.{number_text-decimal}
use Rattle.socks_machine.specs.LogText.{words}
use Rattle.socks_machine.specs.Transcript.{line}
use Rattle.transcript_text.specs.Pieces.{digits, blanked_numbers, counted_line}

pub digits-decimal : (n : ℕ) → n < 2 ^ 64 → digits n ≡ decimal n
unfolding digits
digits-decimal n h = number_text-decimal n h

pub ruleset number_texts = (digits-decimal)

words-numbers : (w : List ℕ) (ns : List ℕ) → w ++ blanked_numbers ns ≡ words (w ∷ map number_text ns)
unfolding digits
words-numbers w [] = append-nil w
words-numbers w (n ∷ ns) = ap (λ (z : List ℕ). w ++ (32 ∷ z)) (words-numbers (number_text n) ns)

counted_line-line : (w : List ℕ) (ns : List ℕ) → counted_line w ns ≡ line (w ∷ map number_text ns)
counted_line-line w ns = sym (append_assoc w (blanked_numbers ns) (10 ∷ [])) ∙ ap (λ (z : List ℕ). z ++ 10 ∷ []) (words-numbers w ns)

pub adds_line : {T E : Type 0} (result : Result T E) (old new w ns : List ℕ) → OnOk result (new ≡ old ++ counted_line w ns) → OnOk result (new ≡ old ++ line (w ∷ map number_text ns))
adds_line result old new w ns h = subst (λ (z : List ℕ). OnOk result (new ≡ old ++ z)) (counted_line-line w ns) h
