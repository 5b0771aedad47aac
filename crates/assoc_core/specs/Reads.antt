-- What reads of a link come to.
use Rattle.std.specs.Prelude.{ℕ, ◌≡◌, ◌<◌, ◌≤◌, true, false, List, ◌++◌, length}
use Rattle.net_ends.specs.declared.link.Reading.{Reading}
use Rattle.net_ends.specs.Told.{Told, more}
use Rattle.assoc_core.specs.declared.read.More.{More}

-- bytes came behind those that there were, and the link gave them
pub record Comes (old new : Told) (before after : List ℕ) : Type 0 where
  pub bytes : List ℕ
  pub after' : after ≡ before ++ bytes
  pub told' : new ≡ record old { given = more old.given bytes }

-- so many bytes came, of a link that had not ended
pub record ComesOf (old new : Told) (before after : List ℕ) (most n : ℕ) : Type 0 where
  pub bytes : List ℕ
  pub after' : after ≡ before ++ bytes
  pub told' : new ≡ record old { given = more old.given bytes }
  pub count : length bytes ≡ n
  pub some : 0 < n
  pub within : n ≤ most
  pub unended : old.ended ≡ false

-- the same bytes, and the same is told
pub record Rests (old new : Told) (before after : List ℕ) : Type 0 where
  pub after' : after ≡ before
  pub told' : new ≡ old

abbrev pub ReadsMore : Told → Told → List ℕ → List ℕ → ℕ → More → Type 0
ReadsMore old new before after most (More.Got n) = ComesOf old new before after most n
ReadsMore old new before after most More.End = (after ≡ before) × (new ≡ record old { ended = true })
ReadsMore old new before after most More.NotYet = Rests old new before after × (old.ended ≡ false)
ReadsMore old new before after most More.Failed = Rests old new before after × (old.unfailing ≡ false)

abbrev pub reading_of : More → Reading
reading_of (More.Got n) = Reading.Got n
reading_of More.End = Reading.End
reading_of More.NotYet = Reading.NotYet
reading_of More.Failed = Reading.Failed
