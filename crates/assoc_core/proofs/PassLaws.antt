-- What the steps of one pass over a relay tell.
use Rattle.std.proofs.Common.{◌≡◌, ℕ, ◌<◌, ◌≤◌, ◌⊎◌, inl, inr, Bool, true, false, ◌&&◌, ◌||◌, not, if◌then◌else◌, Option, Some, None, List, [], length, refl, sym, ap, ◌∙◌, is_some, subst}
use Rattle.net_ends.specs.Counts.{Counts, Rose}
use Rattle.net_ends.specs.Told.{Told}
use Rattle.socks_machine.specs.declared.world.Object.{Object}
use Rattle.socks_machine.specs.Settle.{is_nothing}
use Rattle.socks_machine.specs.Taking.{pipe_size}
use Rattle.assoc_core.specs.declared.carry.Give.{Give}
use Rattle.assoc_core.specs.declared.carry.Take.{Take}
use Rattle.assoc_core.specs.Carrying.{TakeEnds, GiveEnds, TakesPart, GivesPart, has_ended, is_read, is_sound, is_idle, is_full, is_unwritten, is_quantum, is_held, IsHeldBy}
use Rattle.assoc_core.specs.Turns.{IsIdle, IsFull, StopsReading}
use Rattle.assoc_core.proofs.RelayEnds.{some-left}
use Rattle.assoc_core.proofs.RelaySums.{clash}

-- ---- reads

pub ended-by : (told : Told) (old new : Counts) (part : List ℕ) (reads ended : Bool) (take : Take) → has_ended take ≡ true → TakeEnds told old new part reads ended take → ended ≡ true
ended-by told old new part reads ended Take.Unread h k = cc
ended-by told old new part reads ended Take.Ended h k = k
ended-by told old new part reads ended Take.NotYet h k = cc
ended-by told old new part reads ended Take.Quantum h k = cc
ended-by told old new part reads ended Take.Held h k = cc
ended-by told old new part reads ended Take.Failed h k = cc

pub idle-by : (told : Told) (old new : Counts) (part : List ℕ) (reads ended : Bool) (take : Take) → is_idle take ≡ true → TakeEnds told old new part reads ended take
    → IsIdle told × Rose old.idle_reads new.idle_reads
idle-by told old new part reads ended Take.Unread h k = absurd (cc)
idle-by told old new part reads ended Take.Ended h k = absurd (cc)
idle-by told old new part reads ended Take.NotYet h k = (k.1, k.2)
idle-by told old new part reads ended Take.Quantum h k = absurd (cc)
idle-by told old new part reads ended Take.Held h k = absurd (cc)
idle-by told old new part reads ended Take.Failed h k = absurd (cc)

pub unread-by : (told : Told) (old new : Counts) (part : List ℕ) (reads ended : Bool) (take : Take) → is_read take ≡ false → TakeEnds told old new part reads ended take
    → (ended ≡ false) × (told.unfailing ≡ false) × Rose old.faults new.faults
unread-by told old new part reads ended Take.Unread h k = absurd (cc)
unread-by told old new part reads ended Take.Ended h k = absurd (cc)
unread-by told old new part reads ended Take.NotYet h k = absurd (cc)
unread-by told old new part reads ended Take.Quantum h k = absurd (cc)
unread-by told old new part reads ended Take.Held h k = absurd (cc)
unread-by told old new part reads ended Take.Failed h k = k

or-ends : (ends was : Bool) → ends || was ≡ true → (was ≡ true) ⊎ (ends ≡ true)
or-ends true was h = inr refl
or-ends false was h = inl h

pub stops-by : (told : Told) (old new : Counts) (part : List ℕ) (reads was ends ended : Bool) (take : Take) (fault : Option Object) (Filled Unread : Type 0) → TakeEnds told old new part reads ended take
    → ended ≡ ends || was → (reads ≡ false → is_some fault ≡ true) → (is_read take ≡ false → is_some fault ≡ true) → (is_held take ≡ true → (is_some fault ≡ true) ⊎ Filled)
    → StopsReading was ends (is_idle take) part fault Filled Unread
stops-by told old new part reads was ends ended Take.Unread fault Filled Unread h e unread failed held = StopsReading.failed (unread h)
stops-by told old new part reads was ends ended Take.Ended fault Filled Unread h e unread failed held = by-end (or-ends ends was (sym e ∙ h))
  where
    by-end : (was ≡ true) ⊎ (ends ≡ true) → StopsReading was ends false part fault Filled Unread
    by-end (inl k) = StopsReading.ended k
    by-end (inr k) = StopsReading.ends' k
stops-by told old new part reads was ends ended Take.NotYet fault Filled Unread h e unread failed held = StopsReading.rested refl
stops-by told old new part reads was ends ended Take.Quantum fault Filled Unread h e unread failed held = StopsReading.took h.1
stops-by told old new part reads was ends ended Take.Held fault Filled Unread h e unread failed held = by-hold (held refl)
  where
    by-hold : (is_some fault ≡ true) ⊎ Filled → StopsReading was ends false part fault Filled Unread
    by-hold (inl k) = StopsReading.failed k
    by-hold (inr k) = StopsReading.held k
stops-by told old new part reads was ends ended Take.Failed fault Filled Unread h e unread failed held = StopsReading.failed (failed refl)

-- a source that rests has ended, answered NotYet or is held
pub source-by : (told : Told) (old new : Counts) (part : List ℕ) (reads ended : Bool) (take : Take) → TakeEnds told old new part reads ended take
    → reads ≡ true → is_read take ≡ true → is_quantum take ≡ false → ended || (is_idle take || is_held take) ≡ true
source-by told old new part reads ended Take.Unread h r k q = absurd (clash reads r h)
source-by told old new part reads ended Take.Ended h r k q = ap (λ b. b || false) h
source-by told old new part reads ended Take.NotYet h r k q = ap (λ b. b || true) h.0
source-by told old new part reads ended Take.Quantum h r k q = cc
source-by told old new part reads ended Take.Held h r k q = ap (λ b. b || true) h
source-by told old new part reads ended Take.Failed h r k q = cc

-- where a source is held, its sink is full, or failed
pub held-full : (waiting : ℕ) (give : Give) → IsHeldBy waiting give → ((pipe_size ≤ waiting) × (is_full give ≡ true)) ⊎ (is_sound give ≡ false)
held-full waiting Give.Held h = absurd h
held-full waiting Give.All h = absurd h
held-full waiting Give.Full h = inl (h, refl)
held-full waiting Give.Unwritten h = inr refl
held-full waiting Give.Unshut h = absurd h

-- a side that has ended was read to its end
pub end-by : (told : Told) (old new : Counts) (part : List ℕ) (reads ended : Bool) (take : Take) → TakeEnds told old new part reads ended take
    → reads ≡ true → ended ≡ true → has_ended take ≡ true
end-by told old new part reads ended Take.Unread h r k = absurd (clash reads r h)
end-by told old new part reads ended Take.Ended h r k = refl
end-by told old new part reads ended Take.NotYet h r k = absurd (clash ended k h.0)
end-by told old new part reads ended Take.Quantum h r k = absurd (clash ended k h.0)
end-by told old new part reads ended Take.Held h r k = absurd (clash ended k h)
end-by told old new part reads ended Take.Failed h r k = absurd (clash ended k h.0)

-- ---- writes

pub full-by : (told : Told) (old new : Counts) (rest : List ℕ) (gives ends shut : Bool) (give : Give) → is_full give ≡ true → GiveEnds told old new rest gives ends shut give
    → (0 < length rest) × IsFull told × Rose old.idle_writes new.idle_writes
full-by told old new rest gives ends shut Give.Held h k = absurd (cc)
full-by told old new rest gives ends shut Give.All h k = absurd (cc)
full-by told old new rest gives ends shut Give.Full h k = k
full-by told old new rest gives ends shut Give.Unwritten h k = absurd (cc)
full-by told old new rest gives ends shut Give.Unshut h k = absurd (cc)

pub unsound-by : (told : Told) (old new : Counts) (rest : List ℕ) (gives ends shut : Bool) (give : Give) → is_sound give ≡ false → GiveEnds told old new rest gives ends shut give
    → (told.unfailing ≡ false) × Rose old.faults new.faults × ((0 < length rest) ⊎ ((ends ≡ true) × (shut ≡ false)))
unsound-by told old new rest gives ends shut Give.Held h k = absurd (cc)
unsound-by told old new rest gives ends shut Give.All h k = absurd (cc)
unsound-by told old new rest gives ends shut Give.Full h k = absurd (cc)
unsound-by told old new rest gives ends shut Give.Unwritten h k = (k.1, k.2, inl k.0)
unsound-by told old new rest gives ends shut Give.Unshut h k = (k.3, k.4, inr (k.1, k.2))

pub unwritten-by : (told : Told) (old new : Counts) (rest : List ℕ) (gives ends shut : Bool) (give : Give) → is_unwritten give ≡ true → GiveEnds told old new rest gives ends shut give
    → (0 < length rest) × (told.unfailing ≡ false)
unwritten-by told old new rest gives ends shut Give.Held h k = absurd (cc)
unwritten-by told old new rest gives ends shut Give.All h k = absurd (cc)
unwritten-by told old new rest gives ends shut Give.Full h k = absurd (cc)
unwritten-by told old new rest gives ends shut Give.Unwritten h k = (k.0, k.1)
unwritten-by told old new rest gives ends shut Give.Unshut h k = absurd (cc)

-- all was sent where the sink took all that it could and nothing failed
pub sent-by : (told : Told) (old new : Counts) (rest : List ℕ) (gives ends shut : Bool) (give : Give) → GiveEnds told old new rest gives ends shut give
    → gives ≡ true → is_sound give ≡ true → is_full give ≡ false → (rest ≡ []) × (ends ≡ true → shut ≡ true)
sent-by told old new rest gives ends shut Give.Held k g s f = absurd (clash gives g k)
sent-by told old new rest gives ends shut Give.All k g s f = k
sent-by told old new rest gives ends shut Give.Full k g s f = absurd (cc)
sent-by told old new rest gives ends shut Give.Unwritten k g s f = absurd (cc)
sent-by told old new rest gives ends shut Give.Unshut k g s f = absurd (cc)

-- all was sent also where the shut failed
pub nothing-by : (told : Told) (old new : Counts) (rest : List ℕ) (gives ends shut : Bool) (give : Give) → GiveEnds told old new rest gives ends shut give
    → gives ≡ true → is_unwritten give ≡ false → is_nothing rest ≡ not (is_full give)
nothing-by told old new rest gives ends shut Give.Held k g u = absurd (clash gives g k)
nothing-by told old new rest gives ends shut Give.All k g u = ap is_nothing k.0
nothing-by told old new rest gives ends shut Give.Full k g u = some-left rest k.0
nothing-by told old new rest gives ends shut Give.Unwritten k g u = cc
nothing-by told old new rest gives ends shut Give.Unshut k g u = ap is_nothing k.0

-- ---- faults

-- the fault in terms of its tests
abbrev pub first_fault : Bool → Bool → Bool → Bool → Option Object
first_fault read_c sound_t read_t sound_c =
    if not read_c then Some Object.Client else (if not (sound_t && read_t) then Some Object.Target else (if not sound_c then Some Object.Client else None))

-- what the fault tells of the four steps
abbrev pub FaultTells : Option Object → Bool → Bool → Bool → Bool → Type 0
FaultTells None rc st rt sc = (rc ≡ true) × (st ≡ true) × (rt ≡ true) × (sc ≡ true)
FaultTells (Some Object.Client) rc st rt sc = (rc ≡ false) ⊎ ((rc ≡ true) × (st ≡ true) × (rt ≡ true) × (sc ≡ false))
FaultTells (Some Object.Target) rc st rt sc = (rc ≡ true) × ((st ≡ false) ⊎ ((st ≡ true) × (rt ≡ false)))
FaultTells (Some Object.Door) rc st rt sc = ⊥
FaultTells (Some Object.Port) rc st rt sc = ⊥

pub fault-tells : (rc st rt sc : Bool) → FaultTells (first_fault rc st rt sc) rc st rt sc
fault-tells false st rt sc = inl refl
fault-tells true false rt sc = (refl, inl refl)
fault-tells true true false sc = (refl, inr (refl, refl))
fault-tells true true true false = inr (refl, refl, refl, refl)
fault-tells true true true true = (refl, refl, refl, refl)

pub fault-none : (rc st rt sc : Bool) → rc ≡ true → st ≡ true → rt ≡ true → sc ≡ true → first_fault rc st rt sc ≡ None
fault-none rc st rt sc h1 h2 h3 h4 = rw (h1, h2, h3, h4) refl

pub fault-unread : (rc st rt sc : Bool) → rc && st ≡ false → is_some (first_fault rc st rt sc) ≡ true
fault-unread false st rt sc h = refl
fault-unread true false rt sc h = refl
fault-unread true true rt sc h = cc

pub fault-read : (rc st rt sc : Bool) → rt ≡ false → is_some (first_fault rc st rt sc) ≡ true
fault-read false st rt sc h = refl
fault-read true false rt sc h = refl
fault-read true true false sc h = refl
fault-read true true true sc h = cc

pub fault-first : (rc st rt sc : Bool) → rc ≡ false → is_some (first_fault rc st rt sc) ≡ true
fault-first false st rt sc h = refl
fault-first true st rt sc h = cc

pub fault-unsound-t : (rc st rt sc : Bool) → st ≡ false → is_some (first_fault rc st rt sc) ≡ true
fault-unsound-t false st rt sc h = refl
fault-unsound-t true false rt sc h = refl
fault-unsound-t true true rt sc h = cc

pub fault-unsound-c : (rc st rt sc : Bool) → sc ≡ false → is_some (first_fault rc st rt sc) ≡ true
fault-unsound-c false st rt sc h = refl
fault-unsound-c true false rt sc h = refl
fault-unsound-c true true false sc h = refl
fault-unsound-c true true true false h = refl
fault-unsound-c true true true true h = cc

pub sound-written : (give : Give) → is_sound give ≡ true → is_unwritten give ≡ false
sound-written Give.Held h = refl
sound-written Give.All h = refl
sound-written Give.Full h = refl
sound-written Give.Unwritten h = cc
sound-written Give.Unshut h = refl

-- ---- the same, of whole steps

pub ended-of : {old new : Told} {counts counts' : Counts} {before after : List ℕ} {reads was ended : Bool} {take : Take} → TakesPart old new counts counts' before after reads was ended take
    → has_ended take ≡ true → ended ≡ true
ended-of {new = new} {counts = counts} {counts' = counts'} {reads = reads} {ended = ended} {take = take} k h = ended-by new counts counts' k.part reads ended take h k.why

pub idle-of : {old new : Told} {counts counts' : Counts} {before after : List ℕ} {reads was ended : Bool} {take : Take} → TakesPart old new counts counts' before after reads was ended take
    → is_idle take ≡ true → IsIdle new × Rose counts.idle_reads counts'.idle_reads
idle-of {new = new} {counts = counts} {counts' = counts'} {reads = reads} {ended = ended} {take = take} k h = idle-by new counts counts' k.part reads ended take h k.why

pub unread-of : {old new : Told} {counts counts' : Counts} {before after : List ℕ} {reads was ended : Bool} {take : Take} → TakesPart old new counts counts' before after reads was ended take
    → is_read take ≡ false → (ended ≡ false) × (new.unfailing ≡ false) × Rose counts.faults counts'.faults
unread-of {new = new} {counts = counts} {counts' = counts'} {reads = reads} {ended = ended} {take = take} k h = unread-by new counts counts' k.part reads ended take h k.why

pub stops-of : {old new : Told} {counts counts' : Counts} {before after : List ℕ} {reads was ended : Bool} {take : Take} → (fault : Option Object) (Filled Unread : Type 0)
    → (k : TakesPart old new counts counts' before after reads was ended take) → (reads ≡ false → is_some fault ≡ true) → (is_read take ≡ false → is_some fault ≡ true)
    → (is_held take ≡ true → (is_some fault ≡ true) ⊎ Filled) → StopsReading was k.ends (is_idle take) k.part fault Filled Unread
stops-of {new = new} {counts = counts} {counts' = counts'} {reads = reads} {was = was} {ended = ended} {take = take} fault Filled Unread k h l held =
    stops-by new counts counts' k.part reads was k.ends ended take fault Filled Unread k.why k.ended' h l held

pub source-of : {old new : Told} {counts counts' : Counts} {before after : List ℕ} {reads was ended : Bool} {take : Take} → TakesPart old new counts counts' before after reads was ended take
    → reads ≡ true → is_read take ≡ true → is_quantum take ≡ false → ended || (is_idle take || is_held take) ≡ true
source-of {new = new} {counts = counts} {counts' = counts'} {reads = reads} {ended = ended} {take = take} k r h q = source-by new counts counts' k.part reads ended take k.why r h q

pub end-of : {old new : Told} {counts counts' : Counts} {before after : List ℕ} {reads was ended : Bool} {take : Take} → TakesPart old new counts counts' before after reads was ended take
    → reads ≡ true → ended ≡ true → has_ended take ≡ true
end-of {new = new} {counts = counts} {counts' = counts'} {reads = reads} {ended = ended} {take = take} k r h = end-by new counts counts' k.part reads ended take k.why r h

pub full-of : {old new : Told} {counts counts' : Counts} {before after pending : List ℕ} {gives ends was shut : Bool} {give : Give} → (k : GivesPart old new counts counts' before after pending gives ends was shut give)
    → is_full give ≡ true → (0 < length k.rest) × IsFull new × Rose counts.idle_writes counts'.idle_writes
full-of {new = new} {counts = counts} {counts' = counts'} {gives = gives} {ends = ends} {shut = shut} {give = give} k h = full-by new counts counts' k.rest gives ends shut give h k.why

pub unsound-of : {old new : Told} {counts counts' : Counts} {before after pending : List ℕ} {gives ends was shut : Bool} {give : Give} → (k : GivesPart old new counts counts' before after pending gives ends was shut give)
    → is_sound give ≡ false → (new.unfailing ≡ false) × Rose counts.faults counts'.faults × ((0 < length k.rest) ⊎ ((ends ≡ true) × (shut ≡ false)))
unsound-of {new = new} {counts = counts} {counts' = counts'} {gives = gives} {ends = ends} {shut = shut} {give = give} k h = unsound-by new counts counts' k.rest gives ends shut give h k.why

pub unwritten-left : {old new : Told} {counts counts' : Counts} {before after pending : List ℕ} {gives ends was shut : Bool} {give : Give} → (k : GivesPart old new counts counts' before after pending gives ends was shut give)
    → is_unwritten give ≡ true → (0 < length k.rest) × (new.unfailing ≡ false)
unwritten-left {new = new} {counts = counts} {counts' = counts'} {gives = gives} {ends = ends} {shut = shut} {give = give} k h = unwritten-by new counts counts' k.rest gives ends shut give h k.why

pub sent-of : {old new : Told} {counts counts' : Counts} {before after pending : List ℕ} {gives ends was shut : Bool} {give : Give} → (k : GivesPart old new counts counts' before after pending gives ends was shut give)
    → gives ≡ true → is_sound give ≡ true → is_full give ≡ false → (k.rest ≡ []) × (ends ≡ true → shut ≡ true)
sent-of {new = new} {counts = counts} {counts' = counts'} {gives = gives} {ends = ends} {shut = shut} {give = give} k g s f = sent-by new counts counts' k.rest gives ends shut give k.why g s f

pub nothing-of : {old new : Told} {counts counts' : Counts} {before after pending : List ℕ} {gives ends was shut : Bool} {give : Give} → (k : GivesPart old new counts counts' before after pending gives ends was shut give)
    → gives ≡ true → is_unwritten give ≡ false → is_nothing k.rest ≡ not (is_full give)
nothing-of {new = new} {counts = counts} {counts' = counts'} {gives = gives} {ends = ends} {shut = shut} {give = give} k g u = nothing-by new counts counts' k.rest gives ends shut give k.why g u

-- where a shut failed, all was sent and the other side has ended
pub unshut-left : {old new : Told} {counts counts' : Counts} {before after pending : List ℕ} {gives ends was shut : Bool} {give : Give} → (k : GivesPart old new counts counts' before after pending gives ends was shut give)
    → give ≡ Give.Unshut → (k.rest ≡ []) × (ends ≡ true) × (shut ≡ false)
unshut-left {new = new} {counts = counts} {counts' = counts'} {gives = gives} {ends = ends} {shut = shut} k e =
    let h = subst (λ (g : Give). GiveEnds new counts counts' k.rest gives ends shut g) e k.why in (h.0, h.1, h.2)
