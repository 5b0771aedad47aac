use Rattle.std.proofs.Common.{◌≡◌, ℕ, List, sym, ap, ◌∙◌, length, arith}
use Rattle.replay_script.specs.Forms.{IsHex}
use Rattle.std.proofs.Common.{Ok, inl, inr}
use Rattle.replay_script.proofs.values.hex.Goals as goal

pub returns-then-len-gt0 : goal.returns-then-len-gt0
unfolding IsHex
returns-then-len-gt0 c = (omega arith, c.in-Ok.ensures.ok ∙ ap (λ (z : List ℕ). Ok z) (sym c.from_vec-text.ensures))

pub returns-else-len-gt0 : goal.returns-else-len-gt0
unfolding IsHex
returns-else-len-gt0 c = λ bytes h.
    let k = c.in-Ok.ensures.ok in
    let j = h.1 in
    let e : c.in-Ok.bytes.items ≡ bytes = cc in
    let f : length c.from_vec-text.result ≡ length bytes = ap length (c.from_vec-text.ensures ∙ e) in
    let l = h.0 in
    omega arith

pub returns-in_default : goal.returns-in_default
unfolding IsHex
returns-in_default c = λ bytes h. elim c.in-Err.ensures.err [ inl e ↦ c.in_default.not-OutOfMemory e | inr e ↦ (let j = h.1 in cc) ]
