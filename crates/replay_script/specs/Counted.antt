-- A line that counts the lines behind it.
use Rattle.std.specs.Prelude.{◌≡◌, ◌+◌, ℕ, zero, suc, List, ◌++◌}
use Rattle.replay_script.specs.Cuts.{LineThen}
use Rattle.replay_script.specs.Forms.{IsNumbered}

-- what is behind so many lines
abbrev pub IsBehindLines : ℕ → List ℕ → List ℕ → Type 0
IsBehindLines zero text behind = behind ≡ text
IsBehindLines (suc n) text behind = LineThen text (λ line rest. IsBehindLines n rest behind)

-- so many lines with their ends are this text
pub record IsCounted (n : ℕ) (text counted behind : List ℕ) : Type 0 where
  pub last : IsBehindLines n text behind
  pub counted' : text ≡ counted ++ behind

-- the text begins with this word and a number N, and N lines, which are the counted text; so many lines in all
unfoldable pub Counts : List ℕ → List ℕ → List ℕ → ℕ → List ℕ → Type 0
Counts word text counted lines behind =
    LineThen text (λ first rest. (n : ℕ) × IsNumbered word first n × IsCounted n rest counted behind × (lines ≡ n + 1))
