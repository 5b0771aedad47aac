-- A configuration that is refused, by the kind of its fault.
use Rattle.std.proofs.Common.{◌≡◌, ◌≢◌, List, ℕ, refl, sym, subst, ◌∙◌}
use Rattle.conf_model.specs.declared.fault.ConfFault.{ConfFault}
use Rattle.conf_model.specs.declared.fault.ConfKind.{ConfKind}
use Rattle.replay_script.specs.declared.fault.ScriptKind.{ScriptKind}
use Rattle.replay_script.specs.Conf.{RefusesConfig}
use Rattle.replay_script.specs.Kinds.{conf_kind}
use Rattle.replay_script.specs.Script.{RefusesText}

pub config_refused : (text : List ℕ) (fault : ConfFault) (kind : ScriptKind) → kind ≡ conf_kind fault → (fault.kind ≢ ConfKind.Memory → RefusesConfig text fault)
    → kind ≢ ScriptKind.Memory → RefusesText text kind
config_refused text fault kind is refuses known = subst (RefusesText text) (sym is) (at fault.kind refuses (λ e. known (is ∙ e)))
  where
    at : (k : ConfKind) → (k ≢ ConfKind.Memory → RefusesConfig text fault) → ((elim k [ ConfKind.Memory ↦ ScriptKind.Memory | _ ↦ ScriptKind.Conf fault ]) ≢ ScriptKind.Memory)
        → RefusesText text (elim k [ ConfKind.Memory ↦ ScriptKind.Memory | _ ↦ ScriptKind.Conf fault ])
    at ConfKind.Memory h n = absurd (n refl)
    at _ h n = h (λ e. cc e)
