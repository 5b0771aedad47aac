-- What stays of an association that stands for its record.
use Rattle.std.proofs.Common.{◌≡◌, ℕ, Bool, false, Option, Some, None, List, [], refl, sym, ◌∙◌}
use Rattle.net_ends.specs.Nets.{NetTold}
use Rattle.net_ends.specs.Told.{Told}
use Rattle.socks_machine.specs.declared.record.Record.{Record}
use Rattle.socks_machine.specs.declared.world.Outer.{Outer}
use Rattle.socks_machine.specs.Decisions.{reached_at}
use Rattle.assoc_core.specs.Stands.{Holds, HoldsTarget}
use Rattle.assoc_core.specs.Turns.{Acts, SameOutside, SameTarget}

-- a turn that does nothing
abbrev pub no_acts : Acts
no_acts = record {
  c = [];
  t = [];
  end_c = false;
  end_t = false;
  outer = Outer.Nothing;
  sent_c = 0;
  sent_t = 0;
  shut_c = false;
  shut_t = false;
  idle_c = false;
  idle_t = false;
  full_c = false;
  full_t = false;
  fault = None;
  unwritten = false;
}

-- what of a record its target rests on
pub record SameTargetSide (r x : Record) : Type 0 where
  pub at : reached_at x.decisions ≡ reached_at r.decisions
  pub t : x.t ≡ r.t
  pub sent_t : x.sent_t ≡ r.sent_t
  pub end_t : x.end_t ≡ r.end_t
  pub shut_t : x.shut_t ≡ r.shut_t

pub holds-same : (told : Told) (given taken given' taken' : List ℕ) (ended shut ended' shut' : Bool) → Holds told given taken ended shut
    → given' ≡ given → taken' ≡ taken → ended' ≡ ended → shut' ≡ shut → Holds told given' taken' ended' shut'
holds-same told given taken given' taken' ended shut ended' shut' h e1 e2 e3 e4 = record {
  given' = λ x is. h.given' x is ∙ sym e1;
  taken' = λ x is. h.taken' x is ∙ sym e2;
  ended' = h.ended' ∙ sym e3;
  shut' = h.shut' ∙ sym e4;
}

pub target-same : {L : Type 0} (told : L → Told) (r x : Record) (target : Option L) → SameTargetSide r x → HoldsTarget told r target → HoldsTarget told x target
target-same told r x None e h = (e.at ∙ h.0, e.t ∙ h.1, e.sent_t ∙ h.2, e.end_t ∙ h.3)
target-same told r x (Some link) e h =
    ((h.0.0, e.at ∙ h.0.1), holds-same (told link) r.t r.sent_t x.t x.sent_t r.end_t r.shut_t x.end_t x.shut_t h.1 e.t e.sent_t e.end_t e.shut_t, h.2, h.3)

pub same-outside : (told : Told) → SameOutside told told
same-outside told = record { arrived = refl; cap = refl; room = refl; unfailing = refl; tells_given = refl; tells_taken = refl }

pub same-target : {L : Type 0} (told : L → Told) (net : NetTold) (target : Option L) → SameTarget told net target target
same-target told net None = tt
same-target told net (Some link) = same-outside (told link)
