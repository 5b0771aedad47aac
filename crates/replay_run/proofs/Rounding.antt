-- The closing rounds, turn after turn and round after round.
use Rattle.std.proofs.Common.{ℕ, zero, suc, ◌≡◌, ◌≢◌, ◌<◌, ◌∙◌, sym, ap, subst, refl, Bool, true, false, ◌&&◌, if◌then◌else◌, Option, Some, List, [], ◌∷◌, ◌++◌, length, map, arith, append_assoc, append-nil}
use Rattle.std.specs.Prelude.{drop, slice_get}
use Rattle.std.proofs.lemmas.List.{drop_all}
use Rattle.conf_types.specs.declared.entries.Entries.{Entries}
use Rattle.socks_grammar.specs.declared.user.User.{User}
use Rattle.generation.specs.Published.{Generations}
use Rattle.net_ends.specs.InMemory.{LinkInMemory, NetInMemory}
use Rattle.socks_machine.specs.declared.record.Record.{Record}
use Rattle.socks_machine.specs.declared.script.ScriptLine.{ScriptLine}
use Rattle.socks_machine.specs.declared.world.Event.{Event}
use Rattle.socks_machine.specs.declared.world.World.{World}
use Rattle.socks_machine.specs.Follows.{IsReplay}
use Rattle.socks_machine.specs.Script.{Surroundings, going, going_from, is_still, next_in_round, used_up}
use Rattle.socks_machine.specs.Step.{basis_of}
use Rattle.socks_machine.specs.Transcript.{event_line, ends}
use Rattle.assoc_core.specs.declared.assoc.Assoc.{Assoc}
use Rattle.assoc_core.specs.declared.assoc.Ended.{Ended}
use Rattle.replay_script.specs.declared.state.State.{State}
use Rattle.replay_run.specs.declared.slot.Slot.{Slot}
use Rattle.replay_run.specs.declared.state.Replay.{Replay}
use Rattle.replay_run.specs.AtTurn.{IsTurned, TurnsAt}
use Rattle.replay_run.specs.Behind.{IsBehind, IsInRound, IsPlayedOut, OnRound}
use Rattle.replay_run.specs.Mirrors.{HasSeen, record_of, seen_by_workers}
use Rattle.replay_run.specs.Played.{InRounds}
use Rattle.replay_run.specs.Shown.{close_shown, see_shown, turn_shown}
use Rattle.replay_run.proofs.Happening.{see-step}
use Rattle.replay_run.proofs.Playing.{close_line, ends-unpublished, round-goes-on, rounds-begin, rounds-end}
use Rattle.replay_run.proofs.Slots.{get-map-at, slot-at}

-- ---- lists

same-item : {A : Type 0} (a b : A) → Some a ≡ Some b → a ≡ b
same-item a b h = cc

pub same-list : {A : Type 0} (xs ys : List A) → ((j : ℕ) → slice_get xs j ≡ slice_get ys j) → xs ≡ ys
same-list [] [] h = refl
same-list [] (y ∷ ys) h = cc (h 0)
same-list (x ∷ xs) [] h = cc (h 0)
same-list (x ∷ xs) (y ∷ ys) h = ap (λ z. z ∷ xs) (same-item x y (h 0)) ∙ ap (λ zs. y ∷ zs) (same-list xs ys (λ j. h (suc j)))

never-zero : (j : ℕ) → suc j ≡ 0 → ⊥
never-zero j h = cc

less-one : (j k : ℕ) → suc j ≡ suc k → j ≡ k
less-one j k h = omega (arith, h)

-- lists that differ at one place alone are the same behind it
pub same-behind : {A : Type 0} (xs ys : List A) (k : ℕ) → ((j : ℕ) → (j ≡ k → ⊥) → slice_get xs j ≡ slice_get ys j) → drop (suc k) xs ≡ drop (suc k) ys
same-behind [] [] k h = refl
same-behind [] (y ∷ ys) zero h = same-list [] ys (λ j. h (suc j) (never-zero j))
same-behind (x ∷ xs) [] zero h = same-list xs [] (λ j. h (suc j) (never-zero j))
same-behind (x ∷ xs) (y ∷ ys) zero h = same-list xs ys (λ j. h (suc j) (never-zero j))
same-behind [] (y ∷ ys) (suc k) h = same-behind [] ys k (λ j n. h (suc j) (λ e. n (less-one j k e)))
same-behind (x ∷ xs) [] (suc k) h = same-behind xs [] k (λ j n. h (suc j) (λ e. n (less-one j k e)))
same-behind (x ∷ xs) (y ∷ ys) (suc k) h = same-behind xs ys k (λ j n. h (suc j) (λ e. n (less-one j k e)))

pub drop-here : {A : Type 0} (xs : List A) (k : ℕ) (x : A) → slice_get xs k ≡ Some x → drop k xs ≡ x ∷ drop (suc k) xs
drop-here [] k x h = cc
drop-here (y ∷ ys) zero x h = ap (λ z. z ∷ ys) (same-item y x h)
drop-here (y ∷ ys) (suc k) x h = drop-here ys k x h

pub item-at : {A : Type 0} (xs : List A) (k : ℕ) → k < length xs → (x : A) × (slice_get xs k ≡ Some x)
item-at [] k h = absurd (omega (arith, h))
item-at (y ∷ ys) zero h = (y, refl)
item-at (y ∷ ys) (suc k) h = item-at ys k (omega (arith, h))

-- ---- whose turn comes

abbrev coming : World → ℕ → List ℕ
coming w k = going_from (suc k) (drop k w.records)

going-skips : (n : ℕ) (r : Record) (rs : List Record) → r.done ≡ true → going_from n (r ∷ rs) ≡ going_from (suc n) rs
going-skips n r rs h = ap (λ (b : Bool). if b then going_from (suc n) rs else n ∷ going_from (suc n) rs) h

going-takes : (n : ℕ) (r : Record) (rs : List Record) → r.done ≡ false → going_from n (r ∷ rs) ≡ n ∷ going_from (suc n) rs
going-takes n r rs h = ap (λ (b : Bool). if b then going_from (suc n) rs else n ∷ going_from (suc n) rs) h

-- nothing has come of a round that begins
pub round-begins : (numbers : List ℕ) (w : World) → next_in_round numbers true (Some w) ≡ (numbers, true)
round-begins [] w = refl
round-begins (n ∷ ns) w = refl

still-true : (b : Bool) → b && true ≡ b
still-true true = refl
still-true false = refl

-- ---- a turn of a round

abbrev At : (script : List ScriptLine) (s : Surroundings) (w : World) (numbers : List ℕ × Bool) (lo out : List ℕ) → Type 0
At script s w numbers lo out = InRounds script s w numbers.0 numbers.1 lo out

behind-over : (users : List User) (script : List ScriptLine) (k : ℕ) (still quiet : Bool) (old new : Replay) (e : Ended LinkInMemory) → IsInRound users script k still old
    → slice_get old.slots k ≡ Some (Slot.Over e) → (new ≡ old) × (quiet ≡ true) → IsInRound users script (suc k) (still && quiet) new
behind-over users script k still quiet old new e h at turned = subst (λ (r : Replay). IsInRound users script (suc k) (still && quiet) r) (sym turned.0) (record {
  s = h.s;
  w = h.w;
  lines_out = h.lines_out;
  out = h.out;
  rounds = subst (λ (b : Bool). At script h.s h.w (next_in_round (coming h.w (suc k)) b (Some h.w)) h.lines_out h.out) (sym (ap (λ b. still && b) turned.1 ∙ still-true still))
      (subst (λ (ns : List ℕ). At script h.s h.w (next_in_round ns still (Some h.w)) h.lines_out h.out) skips h.rounds);
  written = h.written;
  mirrors = h.mirrors;
  seen = h.seen;
})
  where
    is-over : (e.state).done ≡ true
    is-over = (slot-at (basis_of h.w) 1 old.slots (h.s).outsides k (Slot.Over e) (h.mirrors).slots' at).2.0

    here : slice_get (h.w).records k ≡ Some e.state
    here = ap (λ (z : List Record). slice_get z k) (h.mirrors).records ∙ get-map-at record_of old.slots k (Slot.Over e) at

    skips : coming h.w k ≡ coming h.w (suc k)
    skips = ap (going_from (suc k)) (drop-here (h.w).records k e.state here) ∙ going-skips (suc k) e.state (drop (suc k) (h.w).records) is-over

behind-going : (users : List User) (script : List ScriptLine) (k : ℕ) (still quiet : Bool) (old new : Replay) (a : Assoc LinkInMemory) (net : NetInMemory)
    → (h : IsInRound users script k still old) → slice_get old.slots k ≡ Some (Slot.Going a net) → IsTurned users h.s h.w k old new quiet
    → IsInRound users script (suc k) (still && quiet) new
behind-going users script k still quiet old new a net h at t = record {
  s = used_up h.s t.ev;
  w = t.world;
  lines_out = h.lines_out;
  out = h.out ++ event_line t.world (Event.Turn t.ev);
  rounds = subst (λ (b : Bool). At script (used_up h.s t.ev) t.world (next_in_round (coming t.world (suc k)) (still && b) (Some t.world)) h.lines_out (h.out ++ event_line t.world (Event.Turn t.ev)))
      (sym t.still')
      (subst (λ (rs : List Record). At script (used_up h.s t.ev) t.world (next_in_round (going_from (suc (suc k)) rs) (still && is_still t.ev) (Some t.world)) h.lines_out (h.out ++ event_line t.world (Event.Turn t.ev)))
      (sym (same-behind (t.world).records (h.w).records k t.others))
      (round-goes-on script h.s h.w t.world (suc k) (coming h.w (suc k)) still h.lines_out h.out t.ev taken t.is_turn t.stepped t.over));
  written = t.out ∙ (ap (λ (z : List ℕ). z ++ turn_shown (old.gens).seen t.ev t.left) h.written
      ∙ (append_assoc (h.lines_out ++ close_shown) h.out (turn_shown (old.gens).seen t.ev t.left)
      ∙ ap (λ (z : List ℕ). (h.lines_out ++ close_shown) ++ (h.out ++ z)) (sym t.line)));
  mirrors = t.mirrors;
  seen = subst (λ (z : Generations). HasSeen z) (sym t.gens) h.seen;
}
  where
    going-on : (a.state).done ≡ false
    going-on = (((slot-at (basis_of h.w) 1 old.slots (h.s).outsides k (Slot.Going a net) (h.mirrors).slots' at).2).stands).plain.undone

    here : slice_get (h.w).records k ≡ Some a.state
    here = ap (λ (z : List Record). slice_get z k) (h.mirrors).records ∙ get-map-at record_of old.slots k (Slot.Going a net) at

    takes : coming h.w k ≡ suc k ∷ coming h.w (suc k)
    takes = ap (going_from (suc k)) (drop-here (h.w).records k a.state here) ∙ going-takes (suc k) a.state (drop (suc k) (h.w).records) going-on

    taken : InRounds script h.s h.w (suc k ∷ coming h.w (suc k)) still h.lines_out h.out
    taken = subst (λ (ns : List ℕ). At script h.s h.w (next_in_round ns still (Some h.w)) h.lines_out h.out) takes h.rounds

by-slot : (users : List User) (script : List ScriptLine) (k : ℕ) (still quiet : Bool) (old new : Replay) (slot : Slot) → IsInRound users script k still old
    → slice_get old.slots k ≡ Some slot → TurnsAt users k old new quiet (Some slot) → IsInRound users script (suc k) (still && quiet) new
by-slot users script k still quiet old new (Slot.Going a net) h at t = behind-going users script k still quiet old new a net h at (t h.s h.w h.mirrors)
by-slot users script k still quiet old new (Slot.Over e) h at t = behind-over users script k still quiet old new e h at t
by-slot users script k still quiet old new Slot.Away h at t = absurd ((slot-at (basis_of h.w) 1 old.slots (h.s).outsides k Slot.Away (h.mirrors).slots' at).2)

pub turn-of-round : (users : List User) (script : List ScriptLine) (k : ℕ) (still quiet : Bool) (old new : Replay) → k < length old.slots
    → TurnsAt users k old new quiet (slice_get old.slots k) → IsInRound users script k still old → IsInRound users script (suc k) (still && quiet) new
turn-of-round users script k still quiet old new within t h =
    let x = item-at old.slots k within in
    by-slot users script k still quiet old new x.0 h x.1 (subst (λ (z : Option Slot). TurnsAt users k old new quiet z) x.1 t)

-- ---- a whole round

length-map : {A B : Type 0} (f : A → B) (xs : List A) → length (map f xs) ≡ length xs
length-map f [] = refl
length-map f (x ∷ xs) = ap (λ (n : ℕ). suc n) (length-map f xs)

none-comes : (w : World) (slots : List Slot) → w.records ≡ map record_of slots → coming w (length slots) ≡ []
none-comes w slots h = ap (going_from (suc (length slots))) (drop_all (length slots) w.records (omega (arith, (ap (λ (rs : List Record). length rs) h ∙ length-map record_of slots))))

closes-as : (lo out more : List ℕ) → ((lo ++ close_shown) ++ out) ++ more ≡ (lo ++ close_line) ++ (out ++ more)
unfolding close_shown
closes-as lo out more = append_assoc (lo ++ close_line) out more

pub whole-round : (users : List User) (script : List ScriptLine) (still : Bool) (r : Replay) → IsInRound users script (length r.slots) still r → OnRound users script still r
whole-round users script true r h = record {
  s = h.s;
  w = h.w;
  done = subst (λ (out : List ℕ). IsReplay script h.w out) (sym (ap (λ (z : List ℕ). z ++ ends h.w) h.written ∙ closes-as h.lines_out h.out (ends h.w)))
      (rounds-end script h.s h.w true h.lines_out h.out
      (subst (λ (ns : List ℕ). At script h.s h.w (next_in_round ns true (Some h.w)) h.lines_out h.out) (none-comes h.w r.slots (h.mirrors).records) h.rounds) (h.mirrors).marks);
  mirrors = h.mirrors;
}
whole-round users script false r h = record {
  s = h.s;
  w = h.w;
  lines_out = h.lines_out;
  out = h.out;
  rounds = subst (λ (z : List ℕ × Bool). At script h.s h.w z h.lines_out h.out) (sym (round-begins (going h.w) h.w))
      (subst (λ (ns : List ℕ). At script h.s h.w (next_in_round ns false (Some h.w)) h.lines_out h.out) (none-comes h.w r.slots (h.mirrors).records) h.rounds);
  written = h.written;
  mirrors = h.mirrors;
  seen = h.seen;
}

-- ---- the close

see-as : (w : World) (n m : ℕ) → n ≡ m → event_line w (Event.See 1 n) ≡ see_shown m
unfolding see_shown
see-as w n m h = ap (λ (m : ℕ). event_line w (Event.See 1 m)) h

some-published : (pubs configs : List Entries) → pubs ≡ configs → 0 < length configs → pubs ≢ []
some-published pubs configs h some = λ e. let n = ap length (sym h ∙ e) in absurd (omega (arith, n, some))

none-published : (configs : List Entries) → length configs ≡ 0 → configs ≡ []
none-published [] h = refl
none-published (k ∷ ks) h = cc

pub closes-unpublished : (users : List User) (script : List ScriptLine) (state : State) (old : Replay) (out : List ℕ) → out ≡ old.out ++ close_shown → length (old.gens).configs ≡ 0
    → IsBehind users script script state old → IsPlayedOut users script (record { desk = old.desk; gens = old.gens; moment = old.moment; slots = old.slots; out = out })
closes-unpublished users script state old out h none b = record {
  s = b.s;
  w = b.w;
  done = subst (λ (z : List ℕ). IsReplay script b.w z) (sym (ap (λ (z : List ℕ). z ++ ends b.w) (h ∙ sym (append-nil (old.out ++ close_shown))) ∙ closes-as old.out [] (ends b.w)))
      (ends-unpublished script b.s b.w old.out b.played ((b.mirrors).pubs ∙ none-published (old.gens).configs none) (b.mirrors).marks);
  mirrors = b.mirrors;
}

pub closes-published : (users : List User) (script : List ScriptLine) (state : State) (old : Replay) (gens : Generations) (between out : List ℕ) → between ≡ old.out ++ close_shown
    → gens ≡ record old.gens { seen = length (old.gens).configs } → out ≡ between ++ see_shown (length (old.gens).configs) → 0 < length (old.gens).configs
    → IsBehind users script script state old → IsInRound users script 0 true (record { desk = old.desk; gens = gens; moment = old.moment; slots = old.slots; out = out })
closes-published users script state old gens between out h is k some b =
    subst (λ (z : Generations). IsInRound users script 0 true (record { desk = old.desk; gens = z; moment = old.moment; slots = old.slots; out = out })) (sym is) (record {
      s = b.s;
      w = new;
      lines_out = old.out;
      out = see_shown (length (old.gens).configs);
      rounds = subst (λ (z : List ℕ × Bool). At script b.s new z old.out (see_shown (length (old.gens).configs))) (sym (round-begins (going new) new))
          (subst (λ (z : List ℕ). InRounds script b.s new (going new) true old.out z) (see-as new (length (b.w).pubs) (length (old.gens).configs) (ap (λ (ks : List Entries). length ks) (b.mirrors).pubs))
          (rounds-begin script b.s b.w new old.out b.played (some-published (b.w).pubs (old.gens).configs (b.mirrors).pubs some)
          (see-step b.w old.gens (b.mirrors).pubs (b.mirrors).seen' (b.mirrors).below some)));
      written = k ∙ ap (λ (z : List ℕ). z ++ see_shown (length (old.gens).configs)) h;
      mirrors = record {
        moment' = (b.mirrors).moment';
        users' = (b.mirrors).users';
        pubs = (b.mirrors).pubs;
        seen' = refl;
        below = omega arith;
        records = (b.mirrors).records;
        slots' = (b.mirrors).slots';
        desk = (b.mirrors).desk;
        cap' = (b.mirrors).cap';
        marks = (b.mirrors).marks;
      };
      seen = record { seen = some; plain = (b.matches).plain };
    })
  where
    new : World
    new = record b.w { seen = seen_by_workers (length (old.gens).configs) }
