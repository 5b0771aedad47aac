-- What was written where a sink failed.
use Rattle.std.proofs.Common.{◌≡◌, ℕ, List, Option, false, subst}
use mathlib.Core.List.{IsPrefix}
use Rattle.sockd_commands.specs.Quick.{IsCutOff, sink}
use Rattle.sockd_commands.specs.Whole.{Wrote}

pub cut-off : (old new : Option (List ℕ)) (before now : ℕ) (given text : List ℕ) → given ≡ text → Wrote old new before now given false → IsCutOff text (sink old before) (sink new now)
cut-off old new before now given text same w = record { part = w.0; front = subst (λ (t : List ℕ). IsPrefix w.0 t) same w.2; out = w.1; fault = w.3 }
