-- What a command takes from words, by how its parse ended.
use Rattle.std.proofs.Common.{◌≡◌, Bool, true, false, ◌&&◌, Option, Some, None, List, [], ◌∷◌, refl, sym, ◌∙◌, ap, inl, inr}
use Rattle.clap.specs.declared.error.Error.{Error}
use Rattle.clap.specs.declared.error.kind.ErrorKind.{ErrorKind}
use Rattle.clap.specs.declared.error.kind.ErrorKind.TheVariants as kind
use Rattle.clap.specs.Words.{App, HasKind, IsAmong, Kinds, Row, Text, fault_of, is_simple, is_simple_and_free, kind_of, matches_of}
use Rattle.command_line.specs.Table.{taken, unless_faulty}

first_true : (a b : Bool) → (a && b) ≡ true → a ≡ true
first_true true b h = refl
first_true false b h = h

pub simple : (app : App) → is_simple_and_free app ≡ true → is_simple app ≡ true
simple app h = first_true (is_simple app) _ h

pub taken_whole : (app : App) (words : List Text) (rows : List Row) → fault_of app words ≡ [] → rows ≡ matches_of app words → Some rows ≡ taken app words
taken_whole app words rows none same = ap Some same ∙ sym (ap (λ (k : Kinds). unless_faulty k (matches_of app words)) none)

refused : (kinds : Kinds) (k : ErrorKind) (rows : List Row) → IsAmong k kinds → let nothing : Option (List Row) = None in nothing ≡ unless_faulty kinds rows
refused [] k rows h = absurd h
refused (x ∷ xs) k rows h = refl

pub taken_not : (app : App) (words : List Text) (e : Error) → (kind_of e ≡ kind.OutOfMemory → ⊥) → HasKind (fault_of app words) e
    → let nothing : Option (List Row) = None in nothing ≡ taken app words
taken_not app words e known h =
    elim h [ inl memory ↦ absurd (known memory) | inr among ↦ refused (fault_of app words) (kind_of e) (matches_of app words) among ]
