-- What links hold behind reads and writes.
use Rattle.std.proofs.Common.{◌≡◌, ◌<◌, ℕ, Bool, ◌||◌, Option, Some, None, List, ◌++◌, length, refl, ap, sym, subst, ◌∙◌, arith, length-append, is_some}
use Rattle.net_ends.specs.Counts.{Counts}
use Rattle.net_ends.specs.Told.{Told, more}
use Rattle.assoc_core.specs.declared.carry.Give.{Give}
use Rattle.assoc_core.specs.declared.carry.Take.{Take}
use Rattle.assoc_core.specs.Carrying.{TakesPart, GivesPart}
use Rattle.assoc_core.specs.Stands.{Holds, EndsBehind, GivesFirst}
use Rattle.assoc_core.specs.Turns.{IsIdle, IsFull, SameOutside}

abbrev pub told_more : Told → List ℕ → Bool → Told
told_more told part ends = record told { given = more told.given part; ended = ends || told.ended }

abbrev pub told_less : Told → List ℕ → Bool → Told
told_less told part shuts = record told { taken = more told.taken part; shut = shuts || told.shut }

more-is : (o : Option (List ℕ)) (held part x : List ℕ) → ((y : List ℕ) → o ≡ Some y → y ≡ held) → more o part ≡ Some x → x ≡ held ++ part
more-is None held part x h e = absurd (cc)
more-is (Some y) held part x h e = sym (some-is e) ∙ ap (λ z. z ++ part) (h y refl)
  where
    some-is : Some (y ++ part) ≡ Some x → y ++ part ≡ x
    some-is k = cc

-- reads leave the writing side
pub holds-taken : (old new : Told) (counts counts' : Counts) (given given' sent : List ℕ) (reads ended ended' shut : Bool) (take : Take)
    → Holds old given sent ended shut → TakesPart old new counts counts' given given' reads ended ended' take → Holds new given' sent ended' shut
holds-taken old new counts counts' given given' sent reads ended ended' shut take h k = subst (λ (z : Told). Holds z given' sent ended' shut) (sym k.told') (record {
  given' = λ x e. more-is old.given given k.part x h.given' e ∙ sym k.after';
  taken' = h.taken';
  ended' = ap (λ b. k.ends || b) h.ended' ∙ sym k.ended';
  shut' = h.shut';
})

-- writes leave the reading side
pub holds-given : (old new : Told) (counts counts' : Counts) (given sent sent' pending : List ℕ) (gives ends ended shut shut' : Bool) (give : Give)
    → Holds old given sent ended shut → GivesPart old new counts counts' sent sent' pending gives ends shut shut' give → Holds new given sent' ended shut'
holds-given old new counts counts' given sent sent' pending gives ends ended shut shut' give h k = subst (λ (z : Told). Holds z given sent' ended shut') (sym k.told') (record {
  given' = h.given';
  taken' = λ x e. more-is old.taken sent k.part x h.taken' e ∙ sym k.after';
  ended' = h.ended';
  shut' = ap (λ b. k.shuts || b) h.shut' ∙ sym k.shut';
})

pub ends-given : {old new : Told} {counts counts' : Counts} {before after pending : List ℕ} {gives ends was shut : Bool} {give : Give} → GivesPart old new counts counts' before after pending gives ends was shut give → EndsBehind old → EndsBehind new
ends-given k h = subst EndsBehind (sym k.told') h

pub first-given : {old new : Told} {counts counts' : Counts} {before after pending : List ℕ} {gives ends was shut : Bool} {give : Give} → GivesPart old new counts counts' before after pending gives ends was shut give → GivesFirst old → GivesFirst new
first-given k h = subst GivesFirst (sym k.told') h

pub idle-given : {old new : Told} {counts counts' : Counts} {before after pending : List ℕ} {gives ends was shut : Bool} {give : Give} → GivesPart old new counts counts' before after pending gives ends was shut give → IsIdle old → IsIdle new
idle-given k h = subst IsIdle (sym k.told') h

pub full-taken : {old new : Told} {counts counts' : Counts} {before after : List ℕ} {reads was ended : Bool} {take : Take} → TakesPart old new counts counts' before after reads was ended take → IsFull old → IsFull new
full-taken k h = subst IsFull (sym k.told') h

-- what was told before is told, and nothing else
pub more-tells : (told : Option (List ℕ)) (part : List ℕ) → is_some (more told part) ≡ is_some told
more-tells None part = refl
more-tells (Some bytes) part = refl

pub outside-given : {old new : Told} {counts counts' : Counts} {before after pending : List ℕ} {gives ends was shut : Bool} {give : Give} → GivesPart old new counts counts' before after pending gives ends was shut give → SameOutside old new
outside-given {old} k = record { tells_given = ap (λ (z : Told). is_some z.given) k.told'; tells_taken = ap (λ (z : Told). is_some z.taken) k.told' ∙ more-tells old.taken k.part; arrived = ap (λ (z : Told). z.arrived) k.told'; cap = ap (λ (z : Told). z.cap) k.told'; room = ap (λ (z : Told). z.room) k.told'; unfailing = ap (λ (z : Told). z.unfailing) k.told' }

pub outside-taken : {old new : Told} {counts counts' : Counts} {before after : List ℕ} {reads was ended : Bool} {take : Take} → TakesPart old new counts counts' before after reads was ended take → SameOutside old new
outside-taken {old} k = record { tells_given = ap (λ (z : Told). is_some z.given) k.told' ∙ more-tells old.given k.part; tells_taken = ap (λ (z : Told). is_some z.taken) k.told'; arrived = ap (λ (z : Told). z.arrived) k.told'; cap = ap (λ (z : Told). z.cap) k.told'; room = ap (λ (z : Told). z.room) k.told'; unfailing = ap (λ (z : Told). z.unfailing) k.told' }

pub outside-on : {old mid new : Told} → SameOutside old mid → SameOutside mid new → SameOutside old new
outside-on h k = record { tells_given = k.tells_given ∙ h.tells_given; tells_taken = k.tells_taken ∙ h.tells_taken; arrived = k.arrived ∙ h.arrived; cap = k.cap ∙ h.cap; room = k.room ∙ h.room; unfailing = k.unfailing ∙ h.unfailing }

-- fewer were sent than are owed
pub short : (sent rest owed : List ℕ) → sent ++ rest ≡ owed → 0 < length rest → length sent < length owed
short sent rest owed e h = omega (arith, length-append sent rest, ap length e)
