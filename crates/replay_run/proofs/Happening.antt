-- The users, the moment, and the lines that are an event for themselves: a configuration is published, worker 1 sees it, an association is opened.
use Rattle.std.proofs.Common.{ℕ, suc, ◌≡◌, ◌==◌, ◌+◌, ◌∙◌, sym, ap, subst, refl, true, ◌&&◌, nat_lt, nat_le, ◌<◌, ◌≤◌, Option, Some, None, List, [], ◌∷◌, ◌++◌, length, length-append, map, arith}
use Rattle.std.proofs.lemmas.Bool.{eqb-true, le-leb}
use Rattle.std.proofs.lemmas.List.{length-map, map-append}
use Rattle.std.proofs.lemmas.List.Elements.{All-push}
use Rattle.std.specs.Prelude.{codes, slice_get}
use Rattle.addr_pattern.specs.declared.endpoint.Endpoint.{Endpoint}
use Rattle.addr_pattern.specs.AddressText.{number_text}
use Rattle.conf_types.specs.declared.entries.Entries.{Entries}
use Rattle.socks_grammar.specs.declared.user.User.{User}
use Rattle.net_ends.specs.InMemory.{told_of_link, fresh_link}
use Rattle.socks_machine.specs.declared.script.ScriptLine.{ScriptLine}
use Rattle.socks_machine.specs.declared.world.Event.{Event}
use Rattle.socks_machine.specs.declared.world.World.{World}
use Rattle.socks_machine.specs.Script.{Outside, Surroundings, nothing_yet}
use Rattle.socks_machine.specs.Basis.{Basis}
use Rattle.socks_machine.specs.Socks.{socks}
use Rattle.socks_machine.specs.Step.{basis_of, fresh, seen_by, step, when}
use Rattle.socks_machine.specs.Taking.{◌>>=◌}
use Rattle.socks_machine.specs.Transcript.{event_line, line}
use Rattle.generation.specs.Published.{Generations, with_config}
use Rattle.assoc_core.specs.Stands.{Stands}
use Rattle.assoc_core.proofs.Later.{stands-published}
use Rattle.replay_script.specs.declared.state.AssociationState.{AssociationState}
use Rattle.replay_script.specs.declared.state.State.{State}
use Rattle.replay_script.specs.Conditions.{IsServedForm, after, allows, fresh_side}
use Rattle.replay_run.specs.declared.slot.Slot.{Slot}
use Rattle.replay_run.specs.declared.state.Replay.{Replay}
use Rattle.replay_run.specs.Behind.{GoesBehind, IsBehind}
use Rattle.replay_run.specs.Changes.{opened_slot, room_for_replies}
use Rattle.replay_run.specs.Mirrors.{AreSides, AreSlots, HasUsers, IsSlot, record_of, seen_by_workers}
use Rattle.replay_run.specs.Played.{Played}
use Rattle.replay_run.specs.Shown.{open_shown, publish_shown, see_shown}
use Rattle.replay_run.proofs.Places.{sides-more}
use Rattle.replay_run.proofs.Playing.{plays-event, plays-silent}
use Rattle.replay_run.proofs.Slots.{slots-more}
use Rattle.conf_types.specs.Plain.{IsPlain}

-- ---- the users come

pub gives : (users us : List User) (r : Replay) → GoesBehind users (ScriptLine.UsersAre us) r r
gives users us r script lines state form allowed has b = record {
  s = b.s;
  w = b.w;
  played = plays-silent script lines b.s b.w r.out (ScriptLine.UsersAre us) b.played refl;
  mirrors = b.mirrors;
  matches = record {
    users' = has;
    published' = b.matches.published';
    seen' = b.matches.seen';
    moment = b.matches.moment;
    sides = b.matches.sides;
    plain = b.matches.plain;
  };
}

-- ---- the moment moves

pub moves : (users : List User) (now : ℕ) (r : Replay) → GoesBehind users (ScriptLine.Now now) r (record r { moment = now })
moves users now r script lines state form allowed has b = record {
  s = record b.s { now = now };
  w = b.w;
  played = plays-silent script lines b.s b.w r.out (ScriptLine.Now now) b.played refl;
  mirrors = record {
    moment' = refl;
    users' = b.mirrors.users';
    pubs = b.mirrors.pubs;
    seen' = b.mirrors.seen';
    below = b.mirrors.below;
    records = b.mirrors.records;
    slots' = b.mirrors.slots';
    desk = b.mirrors.desk;
    cap' = b.mirrors.cap';
    marks = b.mirrors.marks;
  };
  matches = record {
    users' = b.matches.users';
    published' = b.matches.published';
    seen' = b.matches.seen';
    moment = refl;
    sides = b.matches.sides;
    plain = b.matches.plain;
  };
}

-- ---- a configuration is published

publish-line : (w : World) (k : Entries) (n : ℕ) → length w.pubs ≡ n → event_line w (Event.Publish k) ≡ publish_shown n
unfolding publish_shown
publish-line w k n h = ap (λ n. line (codes "publish" ∷ number_text n ∷ [])) h

-- what stood for its record stands for it still
slots-later : (users : List User) (pubs : List Entries) (k : Entries) (number : ℕ) (slots : List Slot) (os : List Outside) → AreSlots (socks users pubs) number slots os
    → AreSlots (socks users (pubs ++ k ∷ [])) number slots os
slots-later users pubs k number [] [] h = tt
slots-later users pubs k number [] (o ∷ os) h = absurd h
slots-later users pubs k number (slot ∷ slots) [] h = absurd h
slots-later users pubs k number (slot ∷ slots) (o ∷ os) h = (slot-later number slot o h.0, slots-later users pubs k (suc number) slots os h.1)
  where
    slot-later : (n : ℕ) (slot : Slot) (o : Outside) → IsSlot (socks users pubs) n slot o → IsSlot (socks users (pubs ++ k ∷ [])) n slot o
    slot-later n (Slot.Going a net) o h = record {
      number' = h.number';
      stands = stands-published told_of_link users pubs k a h.stands;
      arrived = h.arrived;
      ends = h.ends;
      fails = h.fails;
      cap = h.cap;
      room = h.room;
      served = h.served;
      target = h.target;
      lookup = h.lookup;
      quiet = h.quiet;
    }
    slot-later n (Slot.Over e) o h = h
    slot-later n Slot.Away o h = h

pub publishes : (users : List User) (script lines : List ScriptLine) (state : State) (k : Entries) (old : Replay) (gens : Generations) (out : List ℕ)
    → gens ≡ with_config old.gens k → out ≡ old.out ++ publish_shown (length gens.configs) → IsServedForm (ScriptLine.Publish k) → IsBehind users script lines state old
    → IsBehind users script (lines ++ ScriptLine.Publish k ∷ []) (after state (ScriptLine.Publish k)) (record old { gens = gens; out = out })
publishes users script lines state k old gens out is written form b =
    subst (λ (z : Generations). IsBehind users script (lines ++ ScriptLine.Publish k ∷ []) (after state (ScriptLine.Publish k)) (record old { gens = z; out = out })) (sym is)
    (published (subst (λ (z : Generations). out ≡ old.out ++ publish_shown (length z.configs)) is written))
  where
    w : World
    w = record b.w { pubs = (b.w).pubs ++ k ∷ [] }

    pubs : (b.w).pubs ++ k ∷ [] ≡ old.gens.configs ++ k ∷ []
    pubs = ap (λ z. z ++ k ∷ []) b.mirrors.pubs

    published : out ≡ old.out ++ publish_shown (length (old.gens.configs ++ k ∷ []))
        → IsBehind users script (lines ++ ScriptLine.Publish k ∷ []) (after state (ScriptLine.Publish k)) (record old { gens = with_config old.gens k; out = out })
    published written = record {
      s = b.s;
      w = w;
      played = subst (λ (z : List ℕ). Played script (lines ++ ScriptLine.Publish k ∷ []) b.s w z)
          (ap (λ z. old.out ++ z) (publish-line w k (length (old.gens.configs ++ k ∷ [])) (ap length pubs)) ∙ sym written)
          (plays-event script lines b.s b.w w old.out (ScriptLine.Publish k) (Event.Publish k) b.played refl refl refl refl);
      mirrors = record {
        moment' = b.mirrors.moment';
        users' = b.mirrors.users';
        pubs = pubs;
        seen' = b.mirrors.seen';
        below = let h = b.mirrors.below in let e = length-append old.gens.configs (k ∷ []) in omega (arith, h, e);
        records = b.mirrors.records;
        slots' = slots-later (b.w).users (b.w).pubs k 1 old.slots b.s.outsides b.mirrors.slots';
        desk = b.mirrors.desk;
        cap' = b.mirrors.cap';
        marks = b.mirrors.marks;
      };
      matches = record {
        users' = b.matches.users';
        published' = λ h. let e = length-append old.gens.configs (k ∷ []) in omega (arith, e);
        seen' = b.matches.seen';
        moment = b.matches.moment;
        sides = b.matches.sides;
        plain = All-push IsPlain old.gens.configs k b.matches.plain form;
      };
    }

-- ---- worker 1 sees it

see-line : (w : World) (n m : ℕ) → n ≡ m → event_line w (Event.See 1 n) ≡ see_shown m
unfolding see_shown
see-line w n m h = ap (λ m. line (codes "see" ∷ number_text 1 ∷ number_text m ∷ [])) h

holds-all : (n before most : ℕ) → 0 < n → before ≤ n → n ≤ most → nat_le 1 n && nat_le before n && nat_le n most ≡ true
holds-all n before most some late within =
    ap (λ b. b && nat_le before n && nat_le n most) (le-leb 1 n (omega (arith, some)))
    ∙ (ap (λ b. true && b && nat_le n most) (le-leb before n late) ∙ ap (λ b. true && true && b) (le-leb n most within))

pub see-step : (w : World) (gens : Generations) → w.pubs ≡ gens.configs → w.seen ≡ seen_by_workers gens.seen → gens.seen ≤ length gens.configs → 0 < length gens.configs
    → step w (Event.See 1 (length w.pubs)) ≡ Some (record w { seen = seen_by_workers (length gens.configs) })
see-step w gens pubs saw below some =
    ap (λ (ns : List ℕ). slice_get ns 1 >>= seen_by (record w { seen = ns }) 1 (length w.pubs)) saw
    ∙ (ap (λ b. when b (record w { seen = seen_by_workers (length w.pubs) })) (holds-all (length w.pubs) gens.seen (length w.pubs) some' below' (omega arith))
    ∙ ap (λ n. let x : Option World = Some (record w { seen = seen_by_workers n }) in x) (ap length pubs))
  where
    some' : 0 < length w.pubs
    some' = subst (λ n. 0 < n) (sym (ap length pubs)) some

    below' : gens.seen ≤ length w.pubs
    below' = subst (λ n. gens.seen ≤ n) (sym (ap length pubs)) below

pub sees : (users : List User) (script lines : List ScriptLine) (state : State) (old : Replay) (gens : Generations) (out : List ℕ)
    → gens ≡ record old.gens { seen = length old.gens.configs } → out ≡ old.out ++ see_shown (length old.gens.configs) → 0 < length old.gens.configs
    → IsBehind users script lines state old
    → IsBehind users script (lines ++ ScriptLine.See 1 ∷ []) (after state (ScriptLine.See 1)) (record old { gens = gens; out = out })
sees users script lines state old gens out is written some b =
    subst (λ (z : Generations). IsBehind users script (lines ++ ScriptLine.See 1 ∷ []) (after state (ScriptLine.See 1)) (record old { gens = z; out = out })) (sym is) seen
  where
    w : World
    w = record b.w { seen = seen_by_workers (length old.gens.configs) }

    seen : IsBehind users script (lines ++ ScriptLine.See 1 ∷ []) (after state (ScriptLine.See 1)) (record old { gens = record old.gens { seen = length old.gens.configs }; out = out })
    seen = record {
      s = b.s;
      w = w;
      played = subst (λ (z : List ℕ). Played script (lines ++ ScriptLine.See 1 ∷ []) b.s w z)
          (ap (λ z. old.out ++ z) (see-line w (length (b.w).pubs) (length old.gens.configs) (ap length b.mirrors.pubs)) ∙ sym written)
          (plays-event script lines b.s b.w w old.out (ScriptLine.See 1) (Event.See 1 (length (b.w).pubs)) b.played refl refl
          (see-step b.w old.gens b.mirrors.pubs b.mirrors.seen' b.mirrors.below some) refl);
      mirrors = record {
        moment' = b.mirrors.moment';
        users' = b.mirrors.users';
        pubs = b.mirrors.pubs;
        seen' = refl;
        below = omega arith;
        records = b.mirrors.records;
        slots' = b.mirrors.slots';
        desk = b.mirrors.desk;
        cap' = b.mirrors.cap';
        marks = b.mirrors.marks;
      };
      matches = record {
        users' = b.matches.users';
        published' = b.matches.published';
        seen' = λ h. some;
        moment = b.matches.moment;
        sides = b.matches.sides;
        plain = b.matches.plain;
      };
    }

-- ---- an association is opened

open-line : (w : World) (number : ℕ) (peer local : Endpoint) (now : ℕ) → event_line w (Event.Open 1 number peer local now) ≡ open_shown number
unfolding open_shown
open-line w number peer local now = refl

sides-length : (sides : List AssociationState) (os : List Outside) → AreSides sides os → length sides ≡ length os
sides-length [] [] h = refl
sides-length [] (o ∷ os) h = absurd h
sides-length (x ∷ xs) [] h = absurd h
sides-length (x ∷ xs) (o ∷ os) h = ap (λ (n : ℕ). suc n) (sides-length xs os h.3)

slots-length : (basis : Basis) (number : ℕ) (slots : List Slot) (os : List Outside) → AreSlots basis number slots os → length slots ≡ length os
slots-length basis number [] [] h = refl
slots-length basis number [] (o ∷ os) h = absurd h
slots-length basis number (x ∷ xs) [] h = absurd h
slots-length basis number (x ∷ xs) (o ∷ os) h = ap (λ (n : ℕ). suc n) (slots-length basis (suc number) xs os h.1)

-- nothing has happened on it
opened-stands : (basis : Basis) (number : ℕ) (peer local : Endpoint) (now : ℕ)
    → Stands told_of_link basis (record { state = fresh number peer local now; client = fresh_link room_for_replies; target = None })
opened-stands basis number peer local now = record {
  plain = record {
    undone = refl;
    unclosed = refl;
    grams = refl;
    sent_u = refl;
    served = refl;
    chosen' = refl;
    failed = refl;
    decided = refl;
    sent_c = ([], refl);
    sent_t = ([], refl);
  };
  direct = record { direct = refl; known = tt; connects = refl };
  client = record { given' = λ x h. cc; taken' = λ x h. cc; ended' = refl; shut' = refl };
  client_ends = λ arrival given a g e. absurd (cc);
  client_first = λ arrival given a g. let none : given ≡ [] = cc in (arrival.bytes, ap (λ z. z ++ arrival.bytes) none);
  target = (refl, refl, refl, refl);
}

opened-is : (basis : Basis) (number : ℕ) (peer local : Endpoint) (now : ℕ) → IsSlot basis number (opened_slot number peer local now) nothing_yet
opened-is basis number peer local now = record {
  number' = refl;
  stands = opened-stands basis number peer local now;
  arrived = refl;
  ends = refl;
  fails = refl;
  cap = omega arith;
  room = refl;
  served = refl;
  target = (record { arrived = refl; ends = refl; cap = omega arith; room = refl }, refl, refl);
  lookup = refl;
  quiet = record { grams = refl; peer = refl };
}

open-step : (w : World) (seen : ℕ) (number : ℕ) (peer local : Endpoint) (now : ℕ) → w.seen ≡ seen_by_workers seen → (number == length w.records + 1) ≡ true
    → step w (Event.Open 1 number peer local now) ≡ Some (record w { records = w.records ++ fresh number peer local now ∷ [] })
open-step w seen number peer local now saw test =
    ap (λ (z : List ℕ). when (nat_lt 1 (length z) && (number == length w.records + 1)) new) saw ∙ ap (λ z. when z new) test
  where
    new : World
    new = record w { records = w.records ++ fresh number peer local now ∷ [] }

pub opens : (users : List User) (script lines : List ScriptLine) (state : State) (number : ℕ) (peer local : Endpoint) (old : Replay) (slots : List Slot) (out : List ℕ)
    → slots ≡ old.slots ++ opened_slot number peer local old.moment ∷ [] → out ≡ old.out ++ open_shown number
    → allows state (ScriptLine.Open 1 number peer local) ≡ true → HasUsers users (after state (ScriptLine.Open 1 number peer local)) → IsBehind users script lines state old
    → IsBehind users script (lines ++ ScriptLine.Open 1 number peer local ∷ []) (after state (ScriptLine.Open 1 number peer local)) (record old { slots = slots; out = out })
opens users script lines state number peer local old slots out more written allowed has b = record {
  s = s;
  w = w;
  played = subst (λ (z : List ℕ). Played script (lines ++ ScriptLine.Open 1 number peer local ∷ []) s w z)
      (ap (λ z. old.out ++ z) (open-line w number peer local old.moment) ∙ sym written)
      (plays-event script lines b.s b.w w old.out (ScriptLine.Open 1 number peer local) (Event.Open 1 number peer local old.moment) b.played refl
      (ap (λ n. Event.Open 1 number peer local n) (sym b.mirrors.moment'))
      (open-step b.w old.gens.seen number peer local old.moment b.mirrors.seen' (ap (λ n. number == n + 1) records-count ∙ allowed)) refl);
  mirrors = record {
    moment' = b.mirrors.moment';
    users' = b.mirrors.users';
    pubs = b.mirrors.pubs;
    seen' = b.mirrors.seen';
    below = b.mirrors.below;
    records = ap (λ z. z ++ fresh number peer local old.moment ∷ []) b.mirrors.records
        ∙ (sym (map-append record_of old.slots (opened_slot number peer local old.moment ∷ [])) ∙ ap (map record_of) (sym more));
    slots' = subst (λ (z : List Slot). AreSlots (basis_of b.w) 1 z s.outsides) (sym more)
        (slots-more (basis_of b.w) 1 old.slots (b.s).outsides (opened_slot number peer local old.moment) nothing_yet b.mirrors.slots'
        (subst (λ (n : ℕ). IsSlot (basis_of b.w) n (opened_slot number peer local old.moment) nothing_yet) place (opened-is (basis_of b.w) number peer local old.moment)));
    desk = b.mirrors.desk;
    cap' = b.mirrors.cap';
    marks = b.mirrors.marks;
  };
  matches = record {
    users' = has;
    published' = b.matches.published';
    seen' = b.matches.seen';
    moment = b.matches.moment;
    sides = sides-more state.sides (b.s).outsides fresh_side nothing_yet b.matches.sides (refl, refl, refl);
    plain = b.matches.plain;
  };
}
  where
    s : Surroundings
    s = record b.s { outsides = (b.s).outsides ++ nothing_yet ∷ [] }

    w : World
    w = record b.w { records = (b.w).records ++ fresh number peer local old.moment ∷ [] }

    slots-count : length old.slots ≡ length state.sides
    slots-count = slots-length (basis_of b.w) 1 old.slots (b.s).outsides b.mirrors.slots' ∙ sym (sides-length state.sides (b.s).outsides b.matches.sides)

    records-count : length (b.w).records ≡ length state.sides
    records-count = ap length b.mirrors.records ∙ (length-map old.slots record_of ∙ slots-count)

    numbered-next : number ≡ length state.sides + 1
    numbered-next = eqb-true number (length state.sides + 1) allowed

    place : number ≡ 1 + length old.slots
    place = let a = numbered-next in let e = slots-count in omega arith
