-- A call that failed is one that can fail where it was made.
use Rattle.std.proofs.Common.{◌≡◌, ◌<◌, ◌∙◌, ap, Bool, true, false, not, Option, Some, None, refl, List, ℕ, [], ◌∷◌, ◌++◌, length, drop, append-nil, arith, IfSome}
use Rattle.net_ends.specs.declared.kinds.Kind.{Kind}
use Rattle.socks_machine.specs.declared.record.Record.{Record}
use Rattle.socks_machine.specs.declared.world.Object.{Object}
use Rattle.socks_machine.specs.Basis.{Basis}
use Rattle.socks_machine.specs.FailedCalls.{can_fail}
use Rattle.socks_machine.specs.Settle.{is_nothing}
use Rattle.socks_machine.specs.Turn.{has_pending}
use Rattle.assoc_core.specs.Turns.{FailsWhere, call_of}
use Rattle.assoc_core.proofs.Answering.{still-left}

-- a write that failed left something of what was to be sent
abbrev pub LeavesOf : List ℕ → Option Kind → Type 0
LeavesOf rest failed = IfSome failed (λ kind. (kind ≡ Kind.Write) × (0 < length rest))

-- .. and it failed where that is pending
pub where-written : (basis : Basis) (taken left : Record) (x : Object) (failed : Option Kind) (rest : List ℕ) → LeavesOf rest failed → (0 < length rest → has_pending basis left x ≡ true) → FailsWhere basis taken left x failed
where-written basis taken left x None rest h pending = tt
where-written basis taken left x (Some kind) rest h pending = ap (λ k. can_fail basis taken left (x, call_of k)) h.0 ∙ pending h.1

-- what is left of what is owed is pending
pub left-over : (sent rest owed owed' : List ℕ) → owed' ≡ owed → sent ++ rest ≡ owed → 0 < length rest → not (is_nothing (drop (length sent) owed')) ≡ true
left-over sent rest owed owed' same all some = ap (λ z. not (is_nothing (drop (length sent) z))) same ∙ ap not (still-left sent [] rest owed (ap (λ z. z ++ rest) (append-nil sent) ∙ all) some)

pub pending-left : (rest pending : List ℕ) → pending ≡ rest → 0 < length rest → not (is_nothing pending) ≡ true
pending-left rest pending same some = ap (λ z. not (is_nothing z)) same ∙ by rest some
  where
    by : (rest : List ℕ) → 0 < length rest → not (is_nothing rest) ≡ true
    by [] h = absurd (omega (arith, h))
    by (x ∷ xs) h = refl
