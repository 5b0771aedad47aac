-- What is owed to a sink while its source is read, and how sendings of it add up.
use Rattle.std.proofs.Common.{◌≡◌, ◌+◌, ◌-◌, ◌<◌, ◌≤◌, ℕ, zero, suc, Bool, true, false, ◌||◌, Option, Some, None, List, [], ◌∷◌, ◌++◌, length, drop, refl, ap, sym, subst, ◌∙◌, append_assoc, length-append, length-drop, arith}
use Rattle.std.proofs.lemmas.List.{append-nil, drop-drop}
use Rattle.std.proofs.Math.Seq.{drop-append_seam}
use Rattle.net_ends.specs.Counts.{Counts, Later}
use Rattle.net_ends.specs.Faults.{Tried}
use Rattle.net_ends.specs.declared.kinds.Kind.{Kind}
use Rattle.net_ends.specs.Told.{Told, more}
use Rattle.socks_machine.specs.Taking.{pipe_size}
use Rattle.assoc_core.specs.declared.carry.Give.{Give}
use Rattle.assoc_core.specs.declared.carry.Take.{Take}
use Rattle.assoc_core.specs.declared.send.Sent.{Sent}
use Rattle.assoc_core.specs.Carrying.{GivesPart, GiveEnds, SentOn, RoomEnds, MakesRoom, StopEnds, TakesOn, StaysSame, GivesRest, IsHeldBy, Carries, owed_of, waiting_of, is_read, is_held, is_full, is_full_stop, has_ended, failed_giving, failed_stop}
use Rattle.assoc_core.specs.Sending.{Sends, SendEnds, is_full as was_full, failed_sending}
use Rattle.assoc_core.proofs.Sendings.{more-nil, more-more, later-same, later-on, rose-before}
use Rattle.assoc_core.proofs.Tryings.{tried-none, tried-on, tried-as}

-- ---- lists

-- what is left of two pieces
pub drop-pieces : (n : ℕ) (xs ys : List ℕ) → drop n (xs ++ ys) ≡ drop n xs ++ drop (n - length xs) ys
drop-pieces zero xs ys = ap (λ k. xs ++ drop k ys) (none-left (length xs))
  where
    none-left : (k : ℕ) → 0 ≡ 0 - k
    none-left k = omega arith
drop-pieces (suc n) [] ys = ap (λ k. drop k ys) (all-left n)
  where
    all-left : (n : ℕ) → suc n ≡ suc n - 0
    all-left n = omega arith
drop-pieces (suc n) (x ∷ xs) ys = drop-pieces n xs ys ∙ ap (λ k. drop n xs ++ drop k ys) (same-left n (length xs))
  where
    same-left : (n k : ℕ) → n - k ≡ suc n - suc k
    same-left n k = omega arith

left-over : (part rest owed : List ℕ) (n : ℕ) → part ++ rest ≡ drop n owed → drop (n + length part) owed ≡ rest
left-over part rest owed n h = sym (drop-drop (length part) n owed) ∙ (ap (drop (length part)) (sym h) ∙ drop-append_seam part rest)

-- ---- what is owed

-- the front, and then the text's bytes
pub owed-left : (front : List ℕ) (skip : ℕ) (text : List ℕ) (n : ℕ) → drop n front ++ drop (n - length front) (drop skip text) ≡ drop n (owed_of front skip text)
owed-left front skip text n = sym (drop-pieces n front (drop skip text))

-- the same, as the code cuts them
pub pieces-are : (front : List ℕ) (skip : ℕ) (text : List ℕ) (n m past sent : ℕ) (first behind second : List ℕ) → n ≡ sent → first ≡ drop n front → m ≡ sent → past ≡ m - length front → behind ≡ drop skip text → second ≡ drop past behind
    → first ++ second ≡ drop sent (owed_of front skip text)
pieces-are front skip text n m past sent first behind second hn hf hm hp hb hs =
    (λ i. (hf ∙ ap (λ k. drop k front) hn) i ++ (hs ∙ ((λ j. drop (hp j) (hb j)) ∙ ap (λ k. drop (k - length front) (drop skip text)) hm)) i) ∙ owed-left front skip text sent

-- more of the text
abbrev more_owed : ℕ → List ℕ → List ℕ → List ℕ
more_owed skip text x = drop (skip - length text) x

owed-grows : (front : List ℕ) (skip : ℕ) (text x : List ℕ) → owed_of front skip (text ++ x) ≡ owed_of front skip text ++ more_owed skip text x
owed-grows front skip text x = ap (λ z. front ++ z) (drop-pieces skip text x) ∙ sym (append_assoc front (drop skip text) (more_owed skip text x))

-- ---- sendings

-- nothing was sent
pub sent-none : (told : Told) (counts : Counts) (text pending : List ℕ) → SentOn told told counts counts text text pending pending
sent-none told counts text pending = record {
  part = [];
  pending' = refl;
  after' = sym (append-nil text);
  told' = λ i. record told { taken = sym (more-nil told.taken) i };
  stuck = λ e. refl;
  later = later-same counts;
}

pub sent-by : (old new : Told) (counts counts' : Counts) (before after pending : List ℕ) (outcome : Sent) → (k : Sends old new counts counts' before after pending outcome)
    → SentOn old new counts counts' before after pending k.rest
sent-by old new counts counts' before after pending outcome k = record { part = k.bytes; pending' = k.pending'; after' = k.after'; told' = k.told'; stuck = k.stuck; later = k.later }

-- what was left was sent on
pub sent-then : (old mid new : Told) (counts counts' counts'' : Counts) (before between after pending left rest : List ℕ)
    → SentOn old mid counts counts' before between pending left → SentOn mid new counts' counts'' between after left rest → SentOn old new counts counts'' before after pending rest
sent-then old mid new counts counts' counts'' before between after pending left rest h k = record {
  part = h.part ++ k.part;
  pending' = append_assoc h.part k.part rest ∙ (ap (λ z. h.part ++ z) k.pending' ∙ h.pending');
  after' = k.after' ∙ (ap (λ z. z ++ k.part) h.after' ∙ append_assoc before h.part k.part);
  told' = k.told' ∙ (ap (λ (z : Told). let u : Told = record z { taken = more z.taken k.part } in u) h.told' ∙ (λ i. record old { taken = more-more old.taken h.part k.part i }));
  stuck = λ e. (λ i. h.stuck e i ++ k.stuck (ap (λ (z : Told). z.room) h.told' ∙ e) i);
  later = later-on counts counts' counts'' h.later k.later;
}

-- more is pending behind it
sent-grows : (old new : Told) (counts counts' : Counts) (before after pending rest x : List ℕ) → SentOn old new counts counts' before after pending rest
    → SentOn old new counts counts' before after (pending ++ x) (rest ++ x)
sent-grows old new counts counts' before after pending rest x h = record {
  part = h.part;
  pending' = sym (append_assoc h.part rest x) ∙ ap (λ z. z ++ x) h.pending';
  after' = h.after';
  told' = h.told';
  stuck = h.stuck;
  later = h.later;
}

pub left-behind : (old new : Told) (counts counts' : Counts) (before after owed rest : List ℕ) → SentOn old new counts counts' before after (drop (length before) owed) rest → drop (length after) owed ≡ rest
left-behind old new counts counts' before after owed rest k =
    ap (λ n. drop n owed) (ap (λ (z : List ℕ). length z) k.after' ∙ length-append before k.part) ∙ left-over k.part rest owed (length before) k.pending'

-- the first piece was sent, and then the second
pub pieces-sent : (old mid new : Told) (counts counts' counts'' : Counts) (before between after first second owed : List ℕ) (outcome : Sent) → first ++ second ≡ drop (length before) owed
    → Sends old mid counts counts' before between first Sent.All → Sends mid new counts' counts'' between after second outcome → Sends old new counts counts'' before after (drop (length before) owed) outcome
pieces-sent old mid new counts counts' counts'' before between after first second owed outcome e h k = record {
  bytes = h.bytes ++ k.bytes;
  rest = k.rest;
  pending' = append_assoc h.bytes k.bytes k.rest ∙ (ap (λ z. h.bytes ++ z) k.pending' ∙ (ap (λ z. z ++ second) (all-first h.ends) ∙ e));
  after' = k.after' ∙ (ap (λ z. z ++ k.bytes) h.after' ∙ append_assoc before h.bytes k.bytes);
  told' = k.told' ∙ (ap (λ (z : Told). let u : Told = record z { taken = more z.taken k.bytes } in u) h.told' ∙ (λ i. record old { taken = more-more old.taken h.bytes k.bytes i }));
  stuck = λ e. (λ i. h.stuck e i ++ k.stuck (ap (λ (z : Told). z.room) h.told' ∙ e) i);
  later = later-on counts counts' counts'' h.later k.later;
  tried = tried-on h.tried k.tried (λ x y. y) (λ x y. (y.0 ∙ x.0, y.1)) (λ x y. y);
  ends = ends-before outcome k.ends;
}
  where
    all-first : h.rest ≡ [] → h.bytes ≡ first
    all-first none = sym (append-nil h.bytes) ∙ (ap (λ z. h.bytes ++ z) (sym none) ∙ h.pending')

    ends-before : (outcome : Sent) → SendEnds new counts' counts'' k.rest outcome → SendEnds new counts counts'' k.rest outcome
    ends-before Sent.All d = d
    ends-before Sent.Full d = (d.0, d.1, rose-before _ _ _ h.later.idle_writes d.2)
    ends-before Sent.Failed d = (d.0, d.1, rose-before _ _ _ h.later.faults d.2)

-- the first piece wasn't sent whole
pub piece-stopped : (old new : Told) (counts counts' : Counts) (before after first second owed : List ℕ) (outcome : Sent) → first ++ second ≡ drop (length before) owed → (outcome ≡ Sent.All → ⊥)
    → Sends old new counts counts' before after first outcome → Sends old new counts counts' before after (drop (length before) owed) outcome
piece-stopped old new counts counts' before after first second owed outcome e stopped k = record {
  bytes = k.bytes;
  rest = k.rest ++ second;
  pending' = sym (append_assoc k.bytes k.rest second) ∙ (ap (λ z. z ++ second) k.pending' ∙ e);
  after' = k.after';
  told' = k.told';
  stuck = k.stuck;
  later = k.later;
  tried = k.tried;
  ends = ends-more outcome stopped k.ends;
}
  where
    longer : 0 < length k.rest → 0 < length (k.rest ++ second)
    longer h = omega (arith, h, length-append k.rest second)

    ends-more : (outcome : Sent) → (outcome ≡ Sent.All → ⊥) → SendEnds new counts counts' k.rest outcome → SendEnds new counts counts' (k.rest ++ second) outcome
    ends-more Sent.All f d = absurd (f refl)
    ends-more Sent.Full f d = (longer d.0, d.1, d.2)
    ends-more Sent.Failed f d = (longer d.0, d.1, d.2)

-- ---- room for a read

-- where all was sent nothing waits
none-waits : (front : List ℕ) (skip : ℕ) (text : List ℕ) (n : ℕ) → drop n (owed_of front skip text) ≡ [] → waiting_of front skip text n ≤ 0
none-waits front skip text n h = omega (arith, ap (λ (z : List ℕ). length z) h, length-drop n (owed_of front skip text), length-append front (drop skip text))

-- fewer wait where more was sent
pub waits-less : (front : List ℕ) (skip : ℕ) (text : List ℕ) (m n : ℕ) → m ≤ n → waiting_of front skip text m < pipe_size → waiting_of front skip text n < pipe_size
waits-less front skip text m n h k = omega arith

-- as the code counts them
pub few-wait : (front : List ℕ) (skip : ℕ) (text : List ℕ) (w n sent : ℕ) → w ≡ waiting_of front skip text n → n ≡ sent → w < pipe_size → waiting_of front skip text sent < pipe_size
few-wait front skip text w n sent e k h = subst (λ z. z < pipe_size) (e ∙ ap (waiting_of front skip text) k) h

pub many-wait : (front : List ℕ) (skip : ℕ) (text : List ℕ) (w n sent : ℕ) → w ≡ waiting_of front skip text n → n ≡ sent → pipe_size ≤ w → pipe_size ≤ waiting_of front skip text sent
many-wait front skip text w n sent e k h = subst (λ z. pipe_size ≤ z) (e ∙ ap (waiting_of front skip text) k) h

pub room-was : (told : Told) (counts : Counts) (front : List ℕ) (skip : ℕ) (text sent : List ℕ) → waiting_of front skip text (length sent) < pipe_size → MakesRoom told told counts counts front skip text sent sent None
room-was told counts front skip text sent h = record { rest = drop (length sent) (owed_of front skip text); sends = sent-none told counts sent _; tried = tried-none counts tt (refl, refl) tt; why = h }

pub room-failed : (old new : Told) (counts counts' : Counts) (front : List ℕ) (skip : ℕ) (text before after : List ℕ)
    → Sends old new counts counts' before after (drop (length before) (owed_of front skip text)) Sent.Failed → MakesRoom old new counts counts' front skip text before after (Some Give.Unwritten)
room-failed old new counts counts' front skip text before after k = record { rest = k.rest; sends = sent-by _ _ _ _ _ _ _ _ k; tried = tried-as k.tried (λ x. x) (λ x. (x.0, refl)) (λ x. x); why = k.ends }

-- the kind of a call that didn't fail
sound-sending : (outcome : Sent) → (outcome ≡ Sent.Failed → ⊥) → failed_sending outcome ≡ None
sound-sending Sent.All h = refl
sound-sending Sent.Full h = refl
sound-sending Sent.Failed h = absurd (h refl)

-- a sending of which no call failed, behind which the sending goes on
tried-sound : {counts counts' : Counts} {before after : List ℕ} {full : Bool} {failed : Option Kind} → failed ≡ None → Tried counts counts' (Unit {0}) ((after ≡ before) × (full ≡ false)) (Unit {0}) failed
    → Tried counts counts' (Unit {0}) ((after ≡ before) × (false ≡ false)) (Unit {0}) None
tried-sound {counts = counts} {counts' = counts'} {before = before} {after = after} {full = full} none t =
    tried-as (subst (λ (z : Option Kind). Tried counts counts' (Unit {0}) ((after ≡ before) × (full ≡ false)) (Unit {0}) z) none t) (λ x. x) (λ x. (x.0, refl)) (λ x. x)

pub room-made : (old new : Told) (counts counts' : Counts) (front : List ℕ) (skip : ℕ) (text before after : List ℕ) (outcome : Sent)
    → Sends old new counts counts' before after (drop (length before) (owed_of front skip text)) outcome → (outcome ≡ Sent.Failed → ⊥) → waiting_of front skip text (length after) < pipe_size
    → MakesRoom old new counts counts' front skip text before after None
room-made old new counts counts' front skip text before after outcome k sound h = record {
  rest = k.rest;
  sends = sent-by _ _ _ _ _ _ _ _ k;
  tried = tried-sound (sound-sending outcome sound) k.tried;
  why = h;
}

-- as many wait still
pub room-full : (old new : Told) (counts counts' : Counts) (front : List ℕ) (skip : ℕ) (text before after : List ℕ) (outcome : Sent)
    → Sends old new counts counts' before after (drop (length before) (owed_of front skip text)) outcome → (outcome ≡ Sent.Failed → ⊥) → pipe_size ≤ waiting_of front skip text (length after)
    → MakesRoom old new counts counts' front skip text before after (Some Give.Full)
room-full old new counts counts' front skip text before after outcome k sound h = record { rest = k.rest; sends = sent; tried = full-tried outcome sound k.ends k.tried; why = by outcome sound k.ends }
  where
    sent : SentOn old new counts counts' before after (drop (length before) (owed_of front skip text)) k.rest
    sent = sent-by _ _ _ _ _ _ _ _ k

    none-left : k.rest ≡ [] → waiting_of front skip text (length after) ≤ 0
    none-left none = none-waits front skip text (length after) (left-behind _ _ _ _ _ _ _ _ sent ∙ none)

    full-tried : (outcome : Sent) → (outcome ≡ Sent.Failed → ⊥) → SendEnds new counts counts' k.rest outcome → Tried counts counts' (Unit {0}) ((after ≡ before) × (was_full outcome ≡ false)) (Unit {0}) (failed_sending outcome)
        → Tried counts counts' (Unit {0}) ((after ≡ before) × (true ≡ false)) (Unit {0}) None
    full-tried Sent.All f d t = let none : waiting_of front skip text (length after) ≤ 0 = none-left d in absurd (omega (arith, none, h))
    full-tried Sent.Full f d t = t
    full-tried Sent.Failed f d t = absurd (f refl)

    by : (outcome : Sent) → (outcome ≡ Sent.Failed → ⊥) → SendEnds new counts counts' k.rest outcome → RoomEnds new counts counts' k.rest (waiting_of front skip text (length after)) (Some Give.Full)
    by Sent.All f d = let none : waiting_of front skip text (length after) ≤ 0 = none-left d in absurd (omega (arith, none, h))
    by Sent.Full f d = (h, d.0, d.1, d.2)
    by Sent.Failed f d = absurd (f refl)

-- the same, for the text by another name
pub room-as : (old new : Told) (counts counts' : Counts) (front : List ℕ) (skip : ℕ) (text text' before after : List ℕ) (stopped : Option Give) → text ≡ text'
    → MakesRoom old new counts counts' front skip text before after stopped → MakesRoom old new counts counts' front skip text' before after stopped
room-as old new counts counts' front skip text text' before after stopped e h = subst (λ (z : List ℕ). MakesRoom old new counts counts' front skip z before after stopped) e h

-- ---- while a source is read

-- what was sent so far
pub record SentSoFar (old new : Told) (counts counts' : Counts) (before after owed : List ℕ) : Type 0 where
  pub rest : List ℕ
  pub sends : SentOn old new counts counts' before after (drop (length before) owed) rest
  pub tried : Tried counts counts' (Unit {0}) (after ≡ before) (Unit {0}) None

pub sent-starts : (told : Told) (counts : Counts) (sent owed : List ℕ) → SentSoFar told told counts counts sent sent owed
sent-starts told counts sent owed = record { rest = drop (length sent) owed; sends = sent-none told counts sent (drop (length sent) owed); tried = tried-none counts tt refl tt }

-- with what was sent before a read
pub room-on : (old mid new : Told) (counts counts' counts'' : Counts) (front : List ℕ) (skip : ℕ) (text before between after : List ℕ) (stopped : Option Give)
    → SentSoFar old mid counts counts' before between (owed_of front skip text) → (m : MakesRoom mid new counts' counts'' front skip text between after stopped)
    → SentOn old new counts counts'' before after (drop (length before) (owed_of front skip text)) m.rest
room-on old mid new counts counts' counts'' front skip text before between after stopped h m =
    sent-then old mid new counts counts' counts'' before between after _ h.rest m.rest h.sends
    (subst (λ (z : List ℕ). SentOn mid new counts' counts'' between after z m.rest) (left-behind _ _ _ _ _ _ _ _ h.sends) m.sends)

pub tried-room : {old mid new : Told} {counts counts' counts'' : Counts} {front : List ℕ} {skip : ℕ} {text before between after owed : List ℕ} {stopped : Option Give}
    → SentSoFar old mid counts counts' before between owed → MakesRoom mid new counts' counts'' front skip text between after stopped
    → Tried counts counts'' (Unit {0}) ((after ≡ before) × (is_full_stop stopped ≡ false)) (Unit {0}) (failed_stop stopped)
tried-room h m = tried-on h.tried m.tried (λ x y. y) (λ x y. (y.0 ∙ x, y.1)) (λ x y. y)

-- the same, where the sending has stopped, or hasn't
pub tried-stopped : {counts counts' : Counts} {before after : List ℕ} {stopped stopped' : Option Give} → stopped ≡ stopped'
    → Tried counts counts' (Unit {0}) ((after ≡ before) × (is_full_stop stopped ≡ false)) (Unit {0}) (failed_stop stopped)
    → Tried counts counts' (Unit {0}) ((after ≡ before) × (is_full_stop stopped' ≡ false)) (Unit {0}) (failed_stop stopped')
tried-stopped {counts = counts} {counts' = counts'} {before = before} {after = after} e t =
    subst (λ (z : Option Give). Tried counts counts' (Unit {0}) ((after ≡ before) × (is_full_stop z ≡ false)) (Unit {0}) (failed_stop z)) e t

-- and with what was read then
pub read-on : (old new : Told) (counts counts' : Counts) (front : List ℕ) (skip : ℕ) (text text' before after rest x : List ℕ)
    → SentOn old new counts counts' before after (drop (length before) (owed_of front skip text)) rest → Tried counts counts' (Unit {0}) ((after ≡ before) × (false ≡ false)) (Unit {0}) None → text' ≡ text ++ x
    → SentSoFar old new counts counts' before after (owed_of front skip text')
read-on old new counts counts' front skip text text' before after rest x h t is = record {
  tried = tried-as t (λ x. x) (λ x. x.0) (λ x. x);
  rest = rest ++ y;
  sends = subst (λ (z : List ℕ). SentOn old new counts counts' before after z (rest ++ y)) grown (sent-grows old new counts counts' before after _ rest y h);
}
  where
    y : List ℕ
    y = drop (length before - length (owed_of front skip text)) (more_owed skip text x)

    grown : drop (length before) (owed_of front skip text) ++ y ≡ drop (length before) (owed_of front skip text')
    grown = sym (drop-pieces (length before) (owed_of front skip text) (more_owed skip text x))
        ∙ (ap (drop (length before)) (sym (owed-grows front skip text x)) ∙ ap (λ z. drop (length before) (owed_of front skip z)) (sym is))

room-before : (told : Told) (a b c : Counts) (rest : List ℕ) (waiting : ℕ) (stopped : Option Give) → Later a b → RoomEnds told b c rest waiting stopped → RoomEnds told a c rest waiting stopped
room-before told a b c rest waiting None l h = h
room-before told a b c rest waiting (Some Give.Full) l h = (h.0, h.1, h.2, rose-before _ _ _ l.idle_writes h.3)
room-before told a b c rest waiting (Some Give.Unwritten) l h = (h.0, h.1, rose-before _ _ _ l.faults h.2)
room-before told a b c rest waiting (Some _) l h = absurd h

-- why the source is held
pub held-by-room : {old mid new : Told} {counts counts' counts'' : Counts} {front : List ℕ} {skip : ℕ} {text before between after owed : List ℕ} {stopped : Option Give} {give : Give}
    → SentSoFar old mid counts counts' before between owed → (m : MakesRoom mid new counts' counts'' front skip text between after stopped) → stopped ≡ Some give
    → StopEnds new counts counts'' m.rest (waiting_of front skip text (length after)) Take.Held (Some give)
held-by-room {new = new} {counts = counts} {counts' = counts'} {counts'' = counts''} {front = front} {skip = skip} {text = text} {after = after} {stopped = stopped} h m is = (
  refl,
  subst (λ (z : Option Give). RoomEnds new counts counts'' m.rest (waiting_of front skip text (length after)) z) is
      (room-before new counts counts' counts'' m.rest (waiting_of front skip text (length after)) stopped h.sends.later m.why),
)

-- or isn't
pub room-left : {old new : Told} {counts counts' : Counts} {front : List ℕ} {skip : ℕ} {text before after : List ℕ} {stopped : Option Give} → MakesRoom old new counts counts' front skip text before after stopped → stopped ≡ None
    → waiting_of front skip text (length after) < pipe_size
room-left {new = new} {counts = counts} {counts' = counts'} {front = front} {skip = skip} {text = text} {after = after} m is =
    subst (λ (z : Option Give). RoomEnds new counts counts' m.rest (waiting_of front skip text (length after)) z) is m.why

-- the same, where nothing was read
pub nothing-read : (old new : Told) (counts counts' : Counts) (front : List ℕ) (skip : ℕ) (text text' before after rest : List ℕ) → text' ≡ text
    → SentOn old new counts counts' before after (drop (length before) (owed_of front skip text)) rest → SentOn old new counts counts' before after (drop (length before) (owed_of front skip text')) rest
nothing-read old new counts counts' front skip text text' before after rest is h =
    subst (λ (z : List ℕ). SentOn old new counts counts' before after (drop (length before) (owed_of front skip z)) rest) (sym is) h

pub waits-same : (front : List ℕ) (skip : ℕ) (text text' : List ℕ) (n : ℕ) → text' ≡ text → waiting_of front skip text n < pipe_size → waiting_of front skip text' n < pipe_size
waits-same front skip text text' n is h = subst (λ (z : List ℕ). waiting_of front skip z n < pipe_size) (sym is) h

-- ---- behind the reads

give-ends-before : (told : Told) (a b c : Counts) (rest : List ℕ) (gives ends shut : Bool) (give : Give) → Later a b → GiveEnds told b c rest gives ends shut give → GiveEnds told a c rest gives ends shut give
give-ends-before told a b c rest gives ends shut Give.Held l h = h
give-ends-before told a b c rest gives ends shut Give.All l h = h
give-ends-before told a b c rest gives ends shut Give.Full l h = (h.0, h.1, rose-before _ _ _ l.idle_writes h.2)
give-ends-before told a b c rest gives ends shut Give.Unwritten l h = (h.0, h.1, rose-before _ _ _ l.faults h.2)
give-ends-before told a b c rest gives ends shut Give.Unshut l h = (h.0, h.1, h.2, h.3, rose-before _ _ _ l.faults h.4)

-- what was left was given on
pub give-on : (old mid new : Told) (counts counts' counts'' : Counts) (before between after pending left : List ℕ) (gives ends was shut : Bool) (give : Give)
    → SentOn old mid counts counts' before between pending left → Tried counts counts' (Unit {0}) ((between ≡ before) × (false ≡ false)) (Unit {0}) None → GivesPart mid new counts' counts'' between after left gives ends was shut give
    → GivesPart old new counts counts'' before after pending gives ends was shut give
give-on old mid new counts counts' counts'' before between after pending left gives ends was shut give h t k = record {
  tried = tried-on t k.tried (λ x y. y) (λ x y. (y.0 ∙ x.0, y.1)) (λ x y. y);
  part = h.part ++ k.part;
  rest = k.rest;
  shuts = k.shuts;
  pending' = append_assoc h.part k.part k.rest ∙ (ap (λ z. h.part ++ z) k.pending' ∙ h.pending');
  after' = k.after' ∙ (ap (λ z. z ++ k.part) h.after' ∙ append_assoc before h.part k.part);
  shut' = k.shut';
  told' = k.told' ∙ (ap (λ (z : Told). let u : Told = record z { taken = more z.taken k.part; shut = k.shuts || z.shut } in u) h.told'
      ∙ (λ i. record old { taken = more-more old.taken h.part k.part i; shut = k.shuts || old.shut }));
  stuck = λ e. (λ i. h.stuck e i ++ k.stuck (ap (λ (z : Told). z.room) h.told' ∙ e) i);
  once = k.once;
  due = k.due;
  later = later-on counts counts' counts'' h.later k.later;
  why = give-ends-before new counts counts' counts'' k.rest gives ends shut give h.later k.why;
}

-- the sink isn't shut
pub unshut-given : (old new : Told) (counts counts' : Counts) (before after pending rest : List ℕ) (gives ends was : Bool) (give : Give) → SentOn old new counts counts' before after pending rest
    → Tried counts counts' (Unit {0}) ((after ≡ before) × (is_full give ≡ false)) (Unit {0}) (failed_giving give)
    → GiveEnds new counts counts' rest gives ends was give → GivesPart old new counts counts' before after pending gives ends was was give
unshut-given old new counts counts' before after pending rest gives ends was give h t why = record {
  tried = tried-as t (λ x. x) (λ x. x) (λ x. refl);
  part = h.part;
  rest = rest;
  shuts = false;
  pending' = h.pending';
  after' = h.after';
  shut' = refl;
  told' = h.told';
  stuck = h.stuck;
  once = λ e. cc;
  due = λ e. cc;
  later = h.later;
  why = why;
}

stopped-ends : (told : Told) (counts counts' : Counts) (rest : List ℕ) (waiting : ℕ) (ends shut : Bool) (give : Give) → RoomEnds told counts counts' rest waiting (Some give)
    → GiveEnds told counts counts' rest true ends shut give × IsHeldBy waiting give
stopped-ends told counts counts' rest waiting ends shut Give.Held h = absurd h
stopped-ends told counts counts' rest waiting ends shut Give.All h = absurd h
stopped-ends told counts counts' rest waiting ends shut Give.Full h = ((h.1, h.2, h.3), h.0)
stopped-ends told counts counts' rest waiting ends shut Give.Unwritten h = (h, tt)
stopped-ends told counts counts' rest waiting ends shut Give.Unshut h = absurd h

-- nothing more was done
given-same : (old mid new : Told) (counts counts' counts'' : Counts) (before between after pending : List ℕ) (gives ends was shut : Bool) (stopped give : Give)
    → GivesPart old mid counts counts' before between pending gives ends was was stopped → StaysSame mid new counts' counts'' between after was shut → give ≡ stopped
    → GivesPart old new counts counts'' before after pending gives ends was shut give
given-same old mid new counts counts' counts'' before between after pending gives ends was shut stopped give k s is =
    subst (λ (z : Told). GivesPart old z counts counts'' before after pending gives ends was shut give) (sym s.told')
    (subst (λ (z : Counts). GivesPart old mid counts z before after pending gives ends was shut give) (sym s.counts'')
    (subst (λ (z : List ℕ). GivesPart old mid counts counts' before z pending gives ends was shut give) (sym s.after')
    (subst (λ (z : Bool). GivesPart old mid counts counts' before between pending gives ends was z give) (sym s.shut')
    (subst (λ (z : Give). GivesPart old mid counts counts' before between pending gives ends was was z) (sym is) k))))

-- the rest was given
pub rest-given : (source source' : Told) (counts counts' : Counts) (sink mid new : Told) (sunk sunk' sunk'' : Counts) (front : List ℕ) (skip : ℕ) (before after sent between final : List ℕ)
    (reads was ended shut shut' : Bool) (take : Take) (stopped : Option Give) (give : Give)
    → TakesOn source source' counts counts' sink mid sunk sunk' front skip before after sent between reads was ended take stopped
    → GivesRest mid new sunk' sunk'' between final (drop (length between) (owed_of front skip after)) (has_ended take) shut shut' stopped give
    → Carries source source' counts counts' sink new sunk sunk'' front skip before after sent final reads true was ended shut shut' take give
rest-given source source' counts counts' sink mid new sunk sunk' sunk'' front skip before after sent between final reads was ended shut shut' take None give k g = record {
  takes = k.takes;
  gives' = give-on sink mid new sunk sunk' sunk'' sent between final _ k.rest true (has_ended take) shut shut' give k.sends k.tried
      (subst (λ (z : List ℕ). GivesPart mid new sunk' sunk'' between final z true (has_ended take) shut shut' give) (left-behind _ _ _ _ _ _ _ _ k.sends) g);
  room = λ e. waits-less front skip after (length between) (length final) (omega (arith, ap (λ (z : List ℕ). length z) g.after', length-append between g.part)) (k.room e);
  held = λ e. clash (is_held take) e k.why;
}
  where
    clash : {A : Type 0} (b : Bool) → b ≡ true → b ≡ false → A
    clash true x y = cc
    clash false x y = cc
rest-given source source' counts counts' sink mid new sunk sunk' sunk'' front skip before after sent between final reads was ended shut shut' take (Some stopped) give k g = record {
  takes = k.takes;
  gives' = given-same sink mid new sunk sunk' sunk'' sent between final _ true (has_ended take) shut shut' stopped give
      (unshut-given sink mid sunk sunk' sent between _ k.rest true (has_ended take) shut stopped k.sends k.tried by.0) g.0 g.1;
  room = λ e. subst (λ (z : List ℕ). waiting_of front skip after (length z) < pipe_size) (sym g.0.after') (k.room e);
  held = λ e. subst (λ (z : Give). IsHeldBy (waiting_of front skip after (length final)) z) (sym g.1)
      (subst (λ (z : List ℕ). IsHeldBy (waiting_of front skip after (length z)) stopped) (sym g.0.after') by.1);
}
  where
    by : GiveEnds mid sunk sunk' k.rest true (has_ended take) shut stopped × IsHeldBy (waiting_of front skip after (length between)) stopped
    by = stopped-ends mid sunk sunk' k.rest _ (has_ended take) shut stopped k.why.1

unstopped : (told : Told) (counts counts' : Counts) (rest : List ℕ) (waiting : ℕ) (take : Take) (stopped : Option Give) → take ≡ Take.Failed → StopEnds told counts counts' rest waiting take stopped → stopped ≡ None
unstopped told counts counts' rest waiting take None is why = refl
unstopped told counts counts' rest waiting take (Some give) is why = let f : false ≡ true = ap is_held (sym is) ∙ why.0 in absurd (cc)

-- a read has failed, and nothing more was done
pub read-failed : (source source' : Told) (counts counts' : Counts) (sink sink' : Told) (sunk sunk' : Counts) (front : List ℕ) (skip : ℕ) (before after sent sent' : List ℕ)
    (reads was ended shut : Bool) (take : Take) (stopped : Option Give) → take ≡ Take.Failed
    → TakesOn source source' counts counts' sink sink' sunk sunk' front skip before after sent sent' reads was ended take stopped
    → Carries source source' counts counts' sink sink' sunk sunk' front skip before after sent sent' reads (is_read take) was ended shut shut take Give.Held
read-failed source source' counts counts' sink sink' sunk sunk' front skip before after sent sent' reads was ended shut take stopped is k = record {
  takes = k.takes;
  gives' = unshut-given sink sink' sunk sunk' sent sent' _ k.rest (is_read take) (has_ended take) shut Give.Held k.sends (tried-stopped (unstopped sink' sunk sunk' k.rest _ take stopped is k.why) k.tried) (ap is_read is);
  room = k.room;
  held = λ e. let f : false ≡ true = ap is_held (sym is) ∙ e in absurd (cc);
}

-- the same, for whether it gives
pub carries-as : (source source' : Told) (counts counts' : Counts) (sink sink' : Told) (sunk sunk' : Counts) (front : List ℕ) (skip : ℕ) (before after sent sent' : List ℕ)
    (reads gives gives' was ended shut shut' : Bool) (take : Take) (give : Give) → gives ≡ gives'
    → Carries source source' counts counts' sink sink' sunk sunk' front skip before after sent sent' reads gives was ended shut shut' take give
    → Carries source source' counts counts' sink sink' sunk sunk' front skip before after sent sent' reads gives' was ended shut shut' take give
carries-as source source' counts counts' sink sink' sunk sunk' front skip before after sent sent' reads gives gives' was ended shut shut' take give h k =
    subst (λ (z : Bool). Carries source source' counts counts' sink sink' sunk sunk' front skip before after sent sent' reads z was ended shut shut' take give) h k

pub carries-due : (source source' : Told) (counts counts' : Counts) (sink sink' : Told) (sunk sunk' : Counts) (front front' : List ℕ) (skip skip' : ℕ) (before after sent sent' : List ℕ)
    (reads gives was ended shut shut' : Bool) (take : Take) (give : Give) → front ≡ front' → skip ≡ skip'
    → Carries source source' counts counts' sink sink' sunk sunk' front skip before after sent sent' reads gives was ended shut shut' take give
    → Carries source source' counts counts' sink sink' sunk sunk' front' skip' before after sent sent' reads gives was ended shut shut' take give
carries-due source source' counts counts' sink sink' sunk sunk' front front' skip skip' before after sent sent' reads gives was ended shut shut' take give e h k =
    subst (λ (z : List ℕ). Carries source source' counts counts' sink sink' sunk sunk' z skip' before after sent sent' reads gives was ended shut shut' take give) e
    (subst (λ (n : ℕ). Carries source source' counts counts' sink sink' sunk sunk' front n before after sent sent' reads gives was ended shut shut' take give) h k)

-- what was given of the text by another name
pub rest-as : (old new : Told) (counts counts' : Counts) (before after front : List ℕ) (skip : ℕ) (text text' : List ℕ) (ends ends' was shut : Bool) (stopped : Option Give) (give : Give) → text ≡ text' → ends ≡ ends'
    → GivesRest old new counts counts' before after (drop (length before) (owed_of front skip text)) ends was shut stopped give
    → GivesRest old new counts counts' before after (drop (length before) (owed_of front skip text')) ends' was shut stopped give
rest-as old new counts counts' before after front skip text text' ends ends' was shut stopped give e h k =
    subst (λ (z : List ℕ). GivesRest old new counts counts' before after (drop (length before) (owed_of front skip z)) ends' was shut stopped give) e
    (subst (λ (z : Bool). GivesRest old new counts counts' before after (drop (length before) (owed_of front skip text)) z was shut stopped give) h k)

-- the sending had stopped before
pub rest-kept : (told : Told) (counts : Counts) (sent pending : List ℕ) (ends shut : Bool) (stopped : Option Give) (give : Give) → stopped ≡ Some give → GivesRest told told counts counts sent sent pending ends shut shut stopped give
rest-kept told counts sent pending ends shut stopped give is =
    subst (λ (z : Option Give). GivesRest told told counts counts sent sent pending ends shut shut z give) (sym is) (record { told' = refl; counts'' = refl; after' = refl; shut' = refl }, refl)

-- the first piece was sent, and then the second given
pub pieces-given : (old mid new : Told) (counts counts' counts'' : Counts) (before between after first second owed : List ℕ) (ends was shut : Bool) (stopped : Option Give) (give : Give) → stopped ≡ None → first ++ second ≡ drop (length before) owed
    → Sends old mid counts counts' before between first Sent.All → GivesPart mid new counts' counts'' between after second true ends was shut give
    → GivesRest old new counts counts'' before after (drop (length before) owed) ends was shut stopped give
pieces-given old mid new counts counts' counts'' before between after first second owed ends was shut stopped give is cut h k =
    subst (λ (z : Option Give). GivesRest old new counts counts'' before after (drop (length before) owed) ends was shut z give) (sym is)
    (give-on old mid new counts counts' counts'' before between after (drop (length before) owed) second true ends was shut give
    (subst (λ (z : List ℕ). SentOn old mid counts counts' before between z second) cut
    (subst (λ (z : List ℕ). SentOn old mid counts counts' before between (first ++ second) (z ++ second)) h.ends
    (sent-grows old mid counts counts' before between first h.rest second (sent-by _ _ _ _ _ _ _ _ h)))) h.tried k)

-- the first piece wasn't sent whole
pub piece-full : (old new : Told) (counts counts' : Counts) (before after first second owed : List ℕ) (ends shut : Bool) (stopped : Option Give) → stopped ≡ None → first ++ second ≡ drop (length before) owed
    → Sends old new counts counts' before after first Sent.Full → GivesRest old new counts counts' before after (drop (length before) owed) ends shut shut stopped Give.Full
piece-full old new counts counts' before after first second owed ends shut stopped is cut k =
    subst (λ (z : Option Give). GivesRest old new counts counts' before after (drop (length before) owed) ends shut shut z Give.Full) (sym is)
    (let w = piece-stopped old new counts counts' before after first second owed Sent.Full cut (λ e. cc) k in
    unshut-given old new counts counts' before after _ w.rest true ends shut Give.Full (sent-by _ _ _ _ _ _ _ _ w) w.tried w.ends)

pub piece-failed : (old new : Told) (counts counts' : Counts) (before after first second owed : List ℕ) (ends shut : Bool) (stopped : Option Give) → stopped ≡ None → first ++ second ≡ drop (length before) owed
    → Sends old new counts counts' before after first Sent.Failed → GivesRest old new counts counts' before after (drop (length before) owed) ends shut shut stopped Give.Unwritten
piece-failed old new counts counts' before after first second owed ends shut stopped is cut k =
    subst (λ (z : Option Give). GivesRest old new counts counts' before after (drop (length before) owed) ends shut shut z Give.Unwritten) (sym is)
    (let w = piece-stopped old new counts counts' before after first second owed Sent.Failed cut (λ e. cc) k in
    unshut-given old new counts counts' before after _ w.rest true ends shut Give.Unwritten (sent-by _ _ _ _ _ _ _ _ w) w.tried w.ends)
