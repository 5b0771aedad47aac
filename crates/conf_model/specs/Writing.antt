-- What the parts of the writer of a configuration do.
use Rattle.std.specs.Prelude.{◌≡◌, ℕ, List, ◌++◌}
use Rattle.conf_model.specs.Canonical.{text_of}

-- the lines stand behind what the text was
unfoldable pub Adds : List ℕ → List ℕ → List (List ℕ) → Type 0
Adds old new lines = new ≡ old ++ text_of lines
