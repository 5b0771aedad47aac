-- From the statements of a text to its configuration.
use Rattle.std.proofs.Common.{◌≡◌, ◌≢◌, inl, inr, ℕ, List, Result, Ok, Err, subst, sym, refl}
use Rattle.std.specs.Prelude.{IfOk, IfErr}
use Rattle.conf_text.specs.declared.fault.TextFault.{TextFault}
use Rattle.conf_text.specs.declared.statement.Statement.{Statement}
use Rattle.conf_text.specs.Statements.{AreStatements, Faulty}
use Rattle.conf_types.specs.declared.entries.Entries.{Entries}
use Rattle.conf_model.specs.declared.fault.ConfFault.{ConfFault}
use Rattle.conf_model.specs.declared.fault.ConfKind.{ConfKind}
use Rattle.conf_model.specs.Reads.{OnConfig}
use Rattle.conf_model.specs.Settings.{config_of}
use Rattle.conf_model.specs.Taking.{fault_of_text}

pub said-is-read : (text : List ℕ) (statements given : List Statement) (r : Result Entries ConfFault) → AreStatements text statements → given ≡ statements →
    IfOk r (λ config. config_of given ≡ Ok config) → IfErr r (λ fault. fault.kind ≢ ConfKind.Memory → config_of given ≡ Err fault) → OnConfig text r
said-is-read text statements given (Ok config) are same ok err = record { statements = given; are = subst (AreStatements text) (sym same) are; say = ok }
said-is-read text statements given (Err fault) are same ok err =
    λ known. inr (record { statements = given; are = subst (AreStatements text) (sym same) are; say = err known })

pub fault-is-read : (text : List ℕ) (first : TextFault) → Faulty text first → OnConfig text (Err (fault_of_text first))
fault-is-read text (TextFault.NotAscii n) faulty = λ known. inl (record { first = TextFault.NotAscii n; faulty = faulty; known = λ e. cc; kind' = refl; line' = refl })
fault-is-read text (TextFault.NoColon n) faulty = λ known. inl (record { first = TextFault.NoColon n; faulty = faulty; known = λ e. cc; kind' = refl; line' = refl })
fault-is-read text (TextFault.UnclosedBlock n) faulty = λ known. inl (record { first = TextFault.UnclosedBlock n; faulty = faulty; known = λ e. cc; kind' = refl; line' = refl })
fault-is-read text (TextFault.StrayBrace n) faulty = λ known. inl (record { first = TextFault.StrayBrace n; faulty = faulty; known = λ e. cc; kind' = refl; line' = refl })
fault-is-read text TextFault.TooLong faulty = λ known. inl (record { first = TextFault.TooLong; faulty = faulty; known = λ e. cc; kind' = refl; line' = refl })
fault-is-read text TextFault.Memory faulty = λ known. absurd (known refl)
