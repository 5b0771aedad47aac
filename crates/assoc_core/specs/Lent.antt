-- Links that an association lends.
use Rattle.std.specs.Prelude.{◌≡◌, Some}
use Rattle.net_ends.specs.Told.{Told}
use Rattle.assoc_core.specs.declared.assoc.Assoc.{Assoc}
use Rattle.assoc_core.specs.Stands.{EndsBehind, GivesFirst}

-- What an association rests on of a link is as before: what it gave and took, its end and its shut. What has arrived may have grown.
pub record KeepsLink (old new : Told) : Type 0 where
  pub given : new.given ≡ old.given
  pub taken : new.taken ≡ old.taken
  pub ended : new.ended ≡ old.ended
  pub shut : new.shut ≡ old.shut
  pub behind : EndsBehind old → EndsBehind new
  pub first : GivesFirst old → GivesFirst new

-- the association with this link of its client
abbrev pub with_client : {L : Type 0} → Assoc L → L → Assoc L
with_client a link = record a { client = link }

-- and with this link of its target
abbrev pub with_target : {L : Type 0} → Assoc L → L → Assoc L
with_target a link = record a { target = Some link }
