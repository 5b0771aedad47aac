-- How reads add up to what one turn takes of a source.
use Rattle.std.proofs.Common.{◌≡◌, ◌+◌, ◌-◌, ◌<◌, ◌≤◌, ℕ, Bool, true, false, None, List, [], ◌++◌, length, refl, ap, sym, subst, ◌∙◌, append_assoc, length-append, arith, nat_le, le-leb}
use Rattle.std.proofs.lemmas.Bool.{lt-leb}
use Rattle.std.proofs.lemmas.List.{append-nil}
use mathlib.Core.List.{IsPrefix}
use Rattle.net_ends.specs.Counts.{Counts, Later}
use Rattle.net_ends.specs.Faults.{Tried}
use Rattle.net_ends.specs.Told.{Told, more, GivesArrived}
use Rattle.net_ends.specs.declared.link.Reading.{Reading}
use Rattle.socks_machine.specs.Turn.{quantum}
use Rattle.assoc_core.specs.declared.carry.Give.{Give}
use Rattle.assoc_core.specs.declared.carry.Take.{Take}
use Rattle.assoc_core.specs.Carrying.{TakesPart, TakeEnds, GivesPart, GiveEnds, is_idle, is_read, is_quantum, failed_taking}
use Rattle.assoc_core.specs.Reads.{ComesOf, Rests}
use Rattle.assoc_core.specs.Stands.{EndsBehind, GivesFirst}
use Rattle.assoc_core.proofs.Sendings.{more-nil, more-more, later-same, later-on}
use Rattle.assoc_core.proofs.Tryings.{tried-none, tried-on, tried-as}

-- bytes were read of a source, and so many more may be
pub record TakesSoFar (old new : Told) (counts counts' : Counts) (before after : List ℕ) (left : ℕ) : Type 0 where
  pub part : List ℕ
  pub after' : after ≡ before ++ part
  pub told' : new ≡ record old { given = more old.given part }
  pub count : length part + left ≡ quantum
  pub later : Later counts counts'
  pub tried : Tried counts counts' (after ≡ before) (Unit {0}) (Unit {0}) None
  pub behind : EndsBehind old → EndsBehind new
  pub first : GivesFirst old → GivesFirst new

-- nothing follows from a test that contradicts itself
pub never : {A : Type 0} → false ≡ true → A
never e = cc

pub told-same : (old : Told) → old ≡ record old { given = more old.given [] }
told-same old = λ i. record old { given = sym (more-nil old.given) i }

pub starts : (told : Told) (counts : Counts) (text : List ℕ) → TakesSoFar told told counts counts text text quantum
starts told counts text = record {
  part = [];
  after' = sym (append-nil text);
  told' = told-same told;
  count = refl;
  later = later-same counts;
  tried = tried-none counts refl tt tt;
  behind = λ h. h;
  first = λ h. h;
}

pub goes-on : (old mid new : Told) (counts counts' counts'' : Counts) (before text after : List ℕ) (left most n : ℕ) → TakesSoFar old mid counts counts' before text left
    → ComesOf mid new text after most n → most ≡ left → Later counts' counts'' → Tried counts' counts'' ⊥ (Unit {0}) (Unit {0}) None → GivesArrived new (Reading.Got n)
    → TakesSoFar old new counts counts'' before after (left - n)
goes-on old mid new counts counts' counts'' before text after left most n h k same later tried arrived = record {
  part = h.part ++ k.bytes;
  after' = k.after' ∙ (ap (λ z. z ++ k.bytes) h.after' ∙ append_assoc before h.part k.bytes);
  told' = k.told' ∙ (ap (λ (z : Told). let u : Told = record z { given = more z.given k.bytes } in u) h.told' ∙ (λ i. record old { given = more-more old.given h.part k.bytes i }));
  count = omega (arith, h.count, k.count, k.within, same, length-append h.part k.bytes);
  later = later-on counts counts' counts'' h.later later;
  tried = tried-on h.tried tried (λ x y. absurd y) (λ x y. y) (λ x y. y);
  behind = λ x arrival given a b ended. absurd (clash new.ended ended (ap (λ z. z.ended) k.told' ∙ k.unended));
  first = λ x arrival given a b. arrived arrival given a b;
}
  where
    clash : (b : Bool) → b ≡ true → b ≡ false → ⊥
    clash true e f = cc
    clash false e f = cc

pub prefix-same : (xs : List ℕ) → IsPrefix xs xs
prefix-same xs = ([], append-nil xs)

-- fewer than a quantum were read
pub fewer : (part : List ℕ) (left : ℕ) → length part + left ≡ quantum → 0 < left → nat_le quantum (length part) ≡ false
fewer part left h some = lt-leb quantum (length part) (omega (arith, h, some))

-- nothing was read
abbrev pub unread : (told : Told) (counts : Counts) (text : List ℕ) (reads was : Bool) (take : Take) → TakeEnds told counts counts [] reads was take → is_quantum take ≡ false
    → Tried counts counts ((text ≡ text) × (false ≡ false) × (is_idle take ≡ false)) (Unit {0}) (Unit {0}) (failed_taking take) → (reads ≡ false → take ≡ Take.Unread)
    → TakesPart told told counts counts text text reads was was take
unread told counts text reads was take why fewer tried untaken = record {
  part = [];
  ends = false;
  after' = sym (append-nil text);
  ended' = refl;
  told' = told-same told;
  may = record { bytes = λ h. never h; end = λ h. never h };
  below = λ h. never h;
  whole = sym fewer;
  later = later-same counts;
  tried = tried;
  still = λ e. (refl, refl, untaken e, refl);
  why = why;
  behind = λ h. h;
  first = λ h. h;
}

-- a source that hasn't ended gave nothing more
abbrev pub stops : (old mid new : Told) (counts counts' counts'' : Counts) (before text after : List ℕ) (left : ℕ) (reads was ended : Bool) (take : Take) → (h : TakesSoFar old mid counts counts' before text left)
    → Rests mid new text after → Later counts' counts'' → was ≡ false → ended ≡ false → TakeEnds new counts counts'' h.part reads ended take → nat_le quantum (length h.part) ≡ is_quantum take
    → reads ≡ true → Tried counts counts'' ((after ≡ before) × (false ≡ false) × (is_idle take ≡ false)) (Unit {0}) (Unit {0}) (failed_taking take)
    → TakesPart old new counts counts'' before after reads was ended take
stops old mid new counts counts' counts'' before text after left reads was ended take h k later unended unended' why whole read tried = record {
  part = h.part;
  ends = false;
  after' = k.after' ∙ h.after';
  ended' = unended' ∙ sym unended;
  told' = k.told' ∙ h.told';
  may = record { bytes = λ some. unended; end = λ e. unended };
  below = λ e. never e;
  whole = whole;
  later = later-on counts counts' counts'' h.later later;
  tried = tried;
  still = λ e. never (sym e ∙ read);
  why = why;
  behind = λ x. subst EndsBehind (sym k.told') (h.behind x);
  first = λ x. subst GivesFirst (sym k.told') (h.first x);
}

pub same : (told : Told) (text : List ℕ) → Rests told told text text
same told text = record { after' = refl; told' = refl }

-- a quantum was taken
abbrev pub fills-quantum : (old new : Told) (counts counts' : Counts) (before after : List ℕ) (left : ℕ) (reads was ended : Bool) → TakesSoFar old new counts counts' before after left
    → left ≤ 0 → was ≡ false → ended ≡ false → reads ≡ true → TakesPart old new counts counts' before after reads was ended Take.Quantum
fills-quantum old new counts counts' before after left reads was ended h none unended unended' read =
    stops old new new counts counts' counts' before after after left reads was ended Take.Quantum h (same new after) (later-same counts') unended unended' (unended', omega (arith, h.count)) (le-leb quantum (length h.part) (omega (arith, h.count)))
    read (tried-as h.tried (λ x. (x, refl, refl)) (λ x. x) (λ x. x))

-- the source has ended
abbrev pub ends-now : (old mid new : Told) (counts counts' counts'' : Counts) (before text after : List ℕ) (left : ℕ) (reads was : Bool) → TakesSoFar old mid counts counts' before text left
    → (after ≡ text) × (new ≡ record mid { ended = true }) → Later counts' counts'' → GivesArrived new Reading.End → 0 < left → was ≡ false → reads ≡ true → Tried counts' counts'' ⊥ (Unit {0}) (Unit {0}) None
    → TakesPart old new counts counts'' before after reads was true Take.Ended
ends-now old mid new counts counts' counts'' before text after left reads was h k later arrived some unended read tried = record {
  part = h.part;
  ends = true;
  after' = k.0 ∙ h.after';
  ended' = refl;
  told' = k.1 ∙ ap (λ (z : Told). let u : Told = record z { ended = true } in u) h.told';
  may = record { bytes = λ e. unended; end = λ e. unended };
  below = λ e. omega (arith, h.count);
  whole = fewer h.part left h.count some;
  later = later-on counts counts' counts'' h.later later;
  tried = tried-on h.tried tried (λ x y. absurd y) (λ x y. y) (λ x y. y);
  still = λ e. never (sym e ∙ read);
  why = refl;
  behind = λ x arrival given a b ended. arrived arrival given a b;
  first = λ x arrival given a b. subst (λ (z : List ℕ). IsPrefix z arrival.bytes) (sym (arrived arrival given a b).0) (prefix-same arrival.bytes);
}

-- nothing was sent
abbrev pub held : (told : Told) (counts : Counts) (text pending : List ℕ) (gives ends was : Bool) → gives ≡ false → GivesPart told told counts counts text text pending gives ends was was Give.Held
held told counts text pending gives ends was none = record {
  part = [];
  rest = pending;
  shuts = false;
  pending' = refl;
  after' = sym (append-nil text);
  shut' = refl;
  told' = λ i. record told { taken = sym (more-nil told.taken) i };
  stuck = λ e. refl;
  once = λ h. never h;
  due = λ h. never h;
  later = later-same counts;
  tried = tried-none counts tt (refl, refl) refl;
  why = none;
}

-- the same, for what is pending by another name
abbrev pub gives-as : (old new : Told) (counts counts' : Counts) (before after pending pending' : List ℕ) (gives gives' ends ends' was shut : Bool) (give : Give)
    → pending ≡ pending' → gives ≡ gives' → ends ≡ ends' → GivesPart old new counts counts' before after pending gives ends was shut give
    → GivesPart old new counts counts' before after pending' gives' ends' was shut give
gives-as old new counts counts' before after pending pending' gives gives' ends ends' was shut give h k l x = record {
  part = x.part;
  rest = x.rest;
  shuts = x.shuts;
  pending' = x.pending' ∙ h;
  after' = x.after';
  shut' = x.shut';
  told' = x.told';
  stuck = x.stuck;
  once = x.once;
  due = λ e. (sym l ∙ (x.due e).0, (x.due e).1);
  later = x.later;
  tried = x.tried;
  why = subst (λ (z : Bool). GiveEnds new counts counts' x.rest z ends' shut give) k (subst (λ (z : Bool). GiveEnds new counts counts' x.rest gives z shut give) l x.why);
}

abbrev pub takes-as : (old new : Told) (counts counts' : Counts) (before after : List ℕ) (reads reads' was ended : Bool) (take : Take)
    → reads ≡ reads' → TakesPart old new counts counts' before after reads was ended take → TakesPart old new counts counts' before after reads' was ended take
takes-as old new counts counts' before after reads reads' was ended take h x = record {
  part = x.part;
  ends = x.ends;
  after' = x.after';
  ended' = x.ended';
  told' = x.told';
  may = x.may;
  below = x.below;
  whole = x.whole;
  later = x.later;
  tried = x.tried;
  still = λ e. x.still (h ∙ e);
  why = subst (λ (z : Bool). TakeEnds new counts counts' x.part z ended take) h x.why;
  behind = x.behind;
  first = x.first;
}

pub was-read : (take : Take) → (take ≡ Take.Failed → ⊥) → is_read take ≡ true
was-read Take.Unread h = refl
was-read Take.Ended h = refl
was-read Take.NotYet h = refl
was-read Take.Quantum h = refl
was-read Take.Held h = refl
was-read Take.Failed h = absurd (h refl)
