-- The turns with a client that talks.
use Rattle.std.proofs.Common.{◌≡◌, ℕ, ◌<◌, Bool, true, false, ◌||◌, Option, Some, None, List, [], ◌++◌, length, refl, sym, ap, subst, ◌∙◌, length-append, is_some}
use Rattle.net_ends.specs.Counts.{Counts, Rose}
use Rattle.net_ends.specs.Faults.{Tried}
use Rattle.net_ends.specs.declared.kinds.Kind.{Kind}
use Rattle.net_ends.specs.Nets.{NetTold}
use Rattle.net_ends.specs.Told.{Told, more}
use Rattle.socks_machine.specs.declared.cause.StopBy.{StopBy}
use Rattle.socks_machine.specs.declared.lines.Line.{Line}
use Rattle.socks_machine.specs.declared.record.Record.{Record}
use Rattle.socks_machine.specs.declared.world.NextMark.{NextMark}
use Rattle.socks_machine.specs.declared.world.Object.{Object}
use Rattle.socks_machine.specs.declared.world.Outer.{Outer}
use Rattle.socks_machine.specs.declared.world.TurnEvent.{TurnEvent}
use Rattle.socks_machine.specs.Calls.{TurnResult}
use Rattle.socks_machine.specs.Decisions.{reached_at}
use Rattle.socks_machine.specs.InTurn.{Takes}
use Rattle.socks_machine.specs.Phase.{Phase, phase}
use Rattle.socks_machine.specs.Taking.{reads_client, reads_target}
use Rattle.socks_machine.specs.Turn.{turn, quantum}
use Rattle.socks_machine.proofs.TurnStages.{takes-is}
use Rattle.assoc_core.specs.declared.assoc.Assoc.{Assoc}
use Rattle.assoc_core.specs.declared.assoc.Next.{Next}
use Rattle.assoc_core.specs.Hearing.{IsAtEnd}
use Rattle.assoc_core.specs.Plain.{owed_c}
use Rattle.assoc_core.specs.Stands.{GoesDirect, Stands, Holds, EndsBehind, GivesFirst, HoldsTarget}
use Rattle.assoc_core.specs.Turns.{Turns, Acts, event_of, links, mark_of, left_of, GoesOn, IsIdle, IsFull, SameOutside, SameTarget, DialsAre, FaultIs, LookupsAre, PlanStays, IsOuterOf, CountRose, StopsReading, TriedTarget, is_write, FailsWhere}
use Rattle.assoc_core.proofs.StandsLaws.{SameTargetSide, target-same, same-target}
use Rattle.assoc_core.proofs.Tryings.{target-untried, tried-as}
use Rattle.assoc_core.proofs.Talking.{Hearing, Speaking, basis_of, context_of, before, speaking, spoken_to, spoken_in, unspoken, spoken_takings}
use Rattle.assoc_core.proofs.LinksHeld.{more-tells}

-- ---- what its link tells

abbrev pub heard_told : Told → List ℕ → List ℕ → Bool → Told
heard_told told x y ends = record told { given = more told.given x; taken = more told.taken y; ended = ends || told.ended }

more-is : (o : Option (List ℕ)) (held part x : List ℕ) → ((y : List ℕ) → o ≡ Some y → y ≡ held) → more o part ≡ Some x → x ≡ held ++ part
more-is None held part x h e = absurd (cc)
more-is (Some y) held part x h e = sym (some-is e) ∙ ap (λ z. z ++ part) (h y refl)
  where
    some-is : Some (y ++ part) ≡ Some x → y ++ part ≡ x
    some-is k = cc

or-false : (b : Bool) → b || false ≡ b
or-false true = refl
or-false false = refl

holds-heard : (told : Told) (c sent x y : List ℕ) (ends : Bool) → Holds told c sent false false → Holds (heard_told told x y ends) (c ++ x) (sent ++ y) ends false
holds-heard told c sent x y ends h = record {
  given' = λ z e. more-is told.given c x z h.given' e;
  taken' = λ z e. more-is told.taken sent y z h.taken' e;
  ended' = ap (λ b. ends || b) h.ended' ∙ or-false ends;
  shut' = h.shut';
}

-- ---- its event

abbrev pub desk_outer : Option Bool → Outer
desk_outer None = Outer.Nothing
desk_outer (Some logged) = Outer.Desk logged

-- what the net tells of the turn's outer call
pub record CallsOut (net net' : NetTold) (p : Phase) (outer : Outer) (there : Bool) : Type 0 where
  pub dials : DialsAre net.dials net'.dials p outer
  pub lookups : LookupsAre net.lookups net'.lookups p outer
  pub lookup_plan : net'.lookup_plan ≡ net.lookup_plan
  pub plan' : PlanStays net net' outer there
  pub outer' : IsOuterOf net p outer
  pub counted : CountRose net.counts net'.counts outer

pub desk-calls : (net : NetTold) (p : Phase) (desk : Option Bool) (there : Bool) → CallsOut net net p (desk_outer desk) there
desk-calls net p None there = record { dials = refl; lookups = refl; lookup_plan = refl; plan' = refl; outer' = tt; counted = refl }
desk-calls net p (Some logged) there = record { dials = refl; lookups = refl; lookup_plan = refl; plan' = refl; outer' = tt; counted = refl }

abbrev pub speak_acts : List ℕ → Bool → Outer → ℕ → Bool → Bool → Option Object → Bool → Acts
speak_acts x ends outer sent idle full fault unwritten = record {
  c = x;
  t = [];
  end_c = ends;
  end_t = false;
  outer = outer;
  sent_c = sent;
  sent_t = 0;
  shut_c = false;
  shut_t = false;
  idle_c = idle;
  idle_t = false;
  full_c = full;
  full_t = false;
  fault = fault;
  unwritten = unwritten;
}

abbrev pub talk_acts : List ℕ → Bool → Option Bool → ℕ → Bool → Bool → Option Object → Bool → Acts
talk_acts x ends desk sent idle full fault unwritten = speak_acts x ends (desk_outer desk) sent idle full fault unwritten

abbrev pub talk_event : Hearing → ℕ → ℕ → Acts → NextMark → TurnEvent
talk_event t worker now acts next = event_of worker (t.party).number now acts next

abbrev pub speak_event : Speaking → ℕ → ℕ → Acts → NextMark → TurnEvent
speak_event s worker now acts next = event_of worker (s.party).number now acts next

-- ---- the turn

abbrev pub with_state : {L : Type 0} → Assoc L → Record → Assoc L
with_state a r = record { state = r; client = a.client; target = a.target }

-- all that a turn with a client that talks comes to
pub record Talked {L : Type 0} (told : L → Told) (counts : L → Counts) (stands : List Line → List StopBy → Type 0) (t : Speaking) (now : ℕ) (a : Assoc L) (next : Next L)
    (y : List ℕ) (ends : Bool) (outer : Outer) (idle full : Bool) (fault : Option Object) (unwritten : Bool) : Type 0 where
  pub result : TurnResult
  pub lawful : (worker : ℕ) → turn (spoken_in t) (speak_event t worker now (speak_acts t.x ends outer (length y) idle full fault unwritten) (mark_of next)) (unspoken t) ≡ Some result
  pub state' : (left_of next).state ≡ result.left
  pub desk' : stands result.h result.marks
  pub goes_on : GoesOn t.users next
  pub direct' : GoesDirect (spoken_to t) (result.left).decisions
  pub c' : (result.left).c ≡ t.c ++ t.x
  pub sent' : (result.left).sent_c ≡ t.sent ++ y
  pub end_c' : (result.left).end_c ≡ ends
  pub shut_c' : (result.left).shut_c ≡ false
  pub side : SameTargetSide (unspoken t) result.left
  pub since' : (result.left).since ≡ (t.party).since
  pub number' : (result.left).number ≡ (t.party).number
  pub told' : told (left_of next).client ≡ heard_told (told a.client) t.x y ends
  pub stuck : (told a.client).room ≡ Some 0 → y ≡ []
  pub target' : (left_of next).target ≡ a.target
  pub at_end : ends ≡ true → IsAtEnd (told (left_of next).client)
  pub first : GivesFirst (told (left_of next).client)
  pub behind : Record
  pub takes : Takes (spoken_to t) t.generation (t.config).methods (spoken_takings t ends (links idle false) (links full false)) (unspoken t) behind
  pub open' : Record
  pub takes_open : Takes (spoken_to t) t.generation (t.config).methods (spoken_takings t false (links idle false) (links full false)) (unspoken t) open'
  pub unread_t : reads_target open' (phase (spoken_to t) open') ≡ false
  pub stops_c : StopsReading false ends idle t.x fault ⊥ (reads_client (spoken_to t) (links idle false) (links full false) open' (phase (spoken_to t) open') ≡ false)
  pub talks : ends ≡ true → phase (spoken_to t) open' ≡ Phase.Talk
  pub short : ends ≡ true → length t.x < quantum
  pub idle_c : idle ≡ true → IsIdle (told (left_of next).client) × Rose (counts a.client).idle_reads (counts (left_of next).client).idle_reads
  pub full_c : full ≡ true → IsFull (told (left_of next).client) × Rose (counts a.client).idle_writes (counts (left_of next).client).idle_writes
      × (length (result.left).sent_c < length (owed_c result.left))
  pub failed : Option Kind
  pub tried : Tried (counts a.client) (counts (left_of next).client) ((t.x ≡ []) × (ends ≡ false) × (idle ≡ false)) ((y ≡ []) × (full ≡ false)) (Unit {0}) failed
  pub where_c : FailsWhere (spoken_to t) behind result.left Object.Client failed
  pub fault_is : FaultIs fault failed None
  pub unwritten_is : unwritten ≡ is_write failed
  pub fails_c : fault ≡ Some Object.Client → Rose (counts a.client).faults (counts (left_of next).client).faults
  pub unfailing : (told a.client).unfailing ≡ true → (fault ≡ None) × (unwritten ≡ false)

pub stops-as : (was ends idle : Bool) (part : List ℕ) (fault : Option Object) (F G P Q : Type 0) → (F → G) → (P → Q) → StopsReading was ends idle part fault F P → StopsReading was ends idle part fault G Q
stops-as was ends idle part fault F G P Q f g (StopsReading.ended h) = StopsReading.ended h
stops-as was ends idle part fault F G P Q f g (StopsReading.ends' h) = StopsReading.ends' h
stops-as was ends idle part fault F G P Q f g (StopsReading.rested h) = StopsReading.rested h
stops-as was ends idle part fault F G P Q f g (StopsReading.took h) = StopsReading.took h
stops-as was ends idle part fault F G P Q f g (StopsReading.failed h) = StopsReading.failed h
stops-as was ends idle part fault F G P Q f g (StopsReading.held h) = StopsReading.held (f h)
stops-as was ends idle part fault F G P Q f g (StopsReading.unread h) = StopsReading.unread (g h)

ends-heard : (told : Told) (ends : Bool) → told.ended ≡ ends → (ends ≡ true → IsAtEnd told) → EndsBehind told
ends-heard told ends is at_end arrival given e1 e2 ended = at_end (sym is ∙ ended) arrival given e1 e2

pub turns-called : {L : Type 0} (told : L → Told) (counts : L → Counts) (stands : List Line → List StopBy → Type 0) (t : Speaking) (now : ℕ) (net net' : NetTold) (a : Assoc L) (next : Next L)
    (y : List ℕ) (ends : Bool) (outer : Outer) (idle full : Bool) (fault : Option Object) (unwritten : Bool)
    → Stands told (spoken_to t) (with_state a (unspoken t)) → (h : Talked told counts stands t now a next y ends outer idle full fault unwritten)
    → CallsOut net net' (phase (spoken_to t) h.behind) outer (is_some (reached_at (h.result).left.decisions))
    → Turns told counts stands (spoken_in t) now net net' (with_state a (unspoken t)) next
turns-called {L = L} told counts stands t now net net' a next y ends outer idle full fault unwritten k h calls = record {
  acts = speak_acts t.x ends outer (length y) idle full fault unwritten;
  result = h.result;
  lawful = h.lawful;
  state' = h.state';
  desk = h.desk';
  goes_on = h.goes_on;
  direct = h.direct';
  c = h.c';
  t = h.side.t;
  ends_c = λ e. h.end_c' ∙ e;
  ends_t = λ e. absurd (cc);
  sent_c = ap (λ (z : List ℕ). length z) h.sent' ∙ length-append t.sent y;
  sent_t = ap (λ (z : List ℕ). length z) h.side.sent_t;
  since = λ e. h.since' ∙ e;
  number = h.number';
  client = client';
  client_ends = ends-heard (told (left_of next).client) ends (client'.ended' ∙ h.end_c') h.at_end;
  client_first = h.first;
  target = subst (λ (o : Option _). HoldsTarget told (h.result).left o) (sym h.target') (target-same told (unspoken t) (h.result).left a.target h.side k.target);
  same_client = subst (λ (z : Told). SameOutside (told a.client) z) (sym h.told') (record { arrived = refl; cap = refl; room = refl; unfailing = refl; tells_given = more-tells (told a.client).given t.x; tells_taken = more-tells (told a.client).taken y });
  same_target = subst (λ (o : Option _). SameTarget told net a.target o) (sym h.target') (same-target told net a.target);
  behind = h.behind;
  taken' = λ worker. takes-is (spoken_to t) t.generation (t.config).methods (speak_event t worker now acts' (mark_of next)) (unspoken t) h.behind h.takes;
  dials = calls.dials;
  lookups = calls.lookups;
  lookup_plan = calls.lookup_plan;
  plan' = calls.plan';
  outer' = calls.outer';
  counted = calls.counted;
  stops_c = λ worker. stops-as false ends idle t.x fault _ _ _ _ (λ none. absurd none) (λ unread. record {
    behind = h.open';
    taken' = takes-is (spoken_to t) t.generation (t.config).methods (speak_event t worker now open_acts (mark_of next)) (unspoken t) h.open' h.takes_open;
    unread' = unread;
  }) h.stops_c;
  stops_t = λ worker. StopsReading.unread (record {
    behind = h.open';
    taken' = takes-is (spoken_to t) t.generation (t.config).methods (speak_event t worker now open_acts (mark_of next)) (unspoken t) h.open' h.takes_open;
    unread' = h.unread_t;
  });
  reads_end_c = λ worker e. record {
    unended = refl;
    below = h.short e;
    behind = h.open';
    taken' = takes-is (spoken_to t) t.generation (t.config).methods (speak_event t worker now open_acts (mark_of next)) (unspoken t) h.open' h.takes_open;
    reads' = ap (reads_client (spoken_to t) (links idle false) (links full false) h.open') (h.talks e);
    room = λ relays. absurd (not-relay (sym (h.talks e) ∙ relays));
  };
  reads_end_t = λ worker e. absurd (cc);
  idle_c = h.idle_c;
  idle_t = λ e. absurd (cc);
  full_c = h.full_c;
  full_t = λ e. absurd (cc);
  room_c = λ e. ap (λ (z : List ℕ). length z) (h.stuck e);
  room_t = λ e. refl;
  failed_c = h.failed;
  failed_t = None;
  tried_c = tried-as h.tried (λ x. x) (λ x. (ap (λ (z : List ℕ). length z) x.0, x.1)) (λ x. refl);
  tried_t = subst (λ (o : Option L). TriedTarget counts net a.target o ((acts'.t ≡ []) × (acts'.end_t ≡ false) × (acts'.idle_t ≡ false)) ((acts'.sent_t ≡ 0) × (acts'.full_t ≡ false)) (acts'.shut_t ≡ false) None) (sym h.target')
      (target-untried counts net a.target (refl, refl, refl) (refl, refl) refl);
  where_c = h.where_c;
  where_t = tt;
  fault_is = h.fault_is;
  unwritten_is = h.unwritten_is ∙ sym (or-false (is_write h.failed));
  fails_c = h.fails_c;
  unfailing = λ e1 e2. h.unfailing e1;
}
  where
    acts' : Acts
    acts' = speak_acts t.x ends outer (length y) idle full fault unwritten

    open_acts : Acts
    open_acts = speak_acts t.x false outer (length y) idle full fault unwritten

    client' : Holds (told (left_of next).client) (h.result).left.c (h.result).left.sent_c (h.result).left.end_c (h.result).left.shut_c
    client' =
        subst (λ (z : Told). Holds z (h.result).left.c (h.result).left.sent_c (h.result).left.end_c (h.result).left.shut_c) (sym h.told')
        (subst (λ (c : List ℕ). Holds (heard_told (told a.client) t.x y ends) c (h.result).left.sent_c (h.result).left.end_c (h.result).left.shut_c) (sym h.c')
        (subst (λ (s : List ℕ). Holds (heard_told (told a.client) t.x y ends) (t.c ++ t.x) s (h.result).left.end_c (h.result).left.shut_c) (sym h.sent')
        (subst (λ (b : Bool). Holds (heard_told (told a.client) t.x y ends) (t.c ++ t.x) (t.sent ++ y) b (h.result).left.shut_c) (sym h.end_c')
        (subst (λ (b : Bool). Holds (heard_told (told a.client) t.x y ends) (t.c ++ t.x) (t.sent ++ y) ends b) (sym h.shut_c')
        (holds-heard (told a.client) t.c t.sent t.x y ends k.client)))))

    not-relay : Phase.Talk ≡ Phase.Relay → ⊥
    not-relay e = cc

-- a turn that asks nobody but the desk
pub turns-talked : {L : Type 0} (told : L → Told) (counts : L → Counts) (stands : List Line → List StopBy → Type 0) (t : Hearing) (now : ℕ) (net : NetTold) (a : Assoc L) (next : Next L)
    (y : List ℕ) (ends : Bool) (desk : Option Bool) (idle full : Bool) (fault : Option Object) (unwritten : Bool)
    → Stands told (basis_of t) (with_state a (before t)) → Talked told counts stands (speaking t) now a next y ends (desk_outer desk) idle full fault unwritten
    → Turns told counts stands (context_of t) now net net (with_state a (before t)) next
turns-talked told counts stands t now net a next y ends desk idle full fault unwritten k h =
    turns-called told counts stands (speaking t) now net net a next y ends (desk_outer desk) idle full fault unwritten k h (desk-calls net _ desk _)
