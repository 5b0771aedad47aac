use Rattle.std.proofs.Common.{◌≡◌, ◌++◌, ℕ, List, Result, Ok, Err, Option, Some, None, IfOk, MatchOption}
use Rattle.replay_script.specs.Cuts.{IsNumber}
use Rattle.replay_script.specs.Forms.{largest, IsNumbered}
use Rattle.replay_script.proofs.Peeling.{peel_after}
use Rattle.replay_script.proofs.forms.numbered.Goals as goal

found : {E : Type 0} (front text rest : List ℕ) → text ≡ front ++ rest → (r : Result (Option ℕ) E) →
    IfOk r (λ found. MatchOption found ((n : ℕ) → IsNumber largest rest n → ⊥) (λ n. IsNumber largest rest n)) →
    IfOk r (λ found. MatchOption found ((n : ℕ) → IsNumbered front text n → ⊥) (λ n. IsNumbered front text n))
found front text rest is (Err e) h = h
found front text rest is (Ok None) h = λ n k. h n (peel_after front text rest (λ z. IsNumber largest z n) is k)
found front text rest is (Ok (Some n)) h = (rest, is, h)

pub returns : goal.returns
returns c = found _ _ _ c.in-Some.ensures _ c.number.ensures
