-- The lines of a decision, by whether it passes.
use Rattle.std.proofs.Common.{ℕ, ◌≡◌, Bool, true, false, cond, List, [], ◌∷◌, ◌++◌, codes, ◌∙◌, ap}
use Rattle.rule_list.specs.declared.verdict.Verdict.{Verdict}
use Rattle.rule_list.specs.Rules.{is_pass}
use Rattle.verdict_text.specs.Decisions.{verdict_lines}

abbrev ended : List (List ℕ) → Bool → List (List ℕ)
ended route b = cond b (route ++ codes "verdict pass" ∷ []) (codes "verdict block" ∷ [])

abbrev whole : List (List ℕ) → Verdict → List (List ℕ)
whole route v = verdict_lines v ++ ended route (is_pass v)

pub passed : (v w : Verdict) (route : List (List ℕ)) → v ≡ w → true ≡ is_pass v → verdict_lines v ++ (route ++ codes "verdict pass" ∷ []) ≡ whole route w
passed v w route e h = ap (λ (b : Bool). verdict_lines v ++ ended route b) h ∙ ap (whole route) e

pub blocked : (v w : Verdict) (route : List (List ℕ)) → v ≡ w → false ≡ is_pass v → verdict_lines v ++ codes "verdict block" ∷ [] ≡ whole route w
blocked v w route e h = ap (λ (b : Bool). verdict_lines v ++ ended route b) h ∙ ap (whole route) e
