-- The lines that change one association: bytes and ends of the client and of the target, what a write takes and which call fails,
-- and how a lookup and a dial are to come out.
use Rattle.std.proofs.Common.{ℕ, zero, suc, ◌≡◌, ◌<◌, ◌-◌, ◌∙◌, sym, ap, subst, refl, Bool, true, false, not, Option, Some, None, List, [], ◌∷◌, ◌++◌, length, map, arith, append_assoc, append-nil, length-append, slice_set, option_map}
use Rattle.std.proofs.lemmas.Bool.{and_parts, not-true}
use Rattle.std.proofs.lemmas.List.{length-set}
use Rattle.std.specs.Prelude.{slice_get}
use mathlib.Core.List.{IsPrefix}
use Rattle.socks_grammar.specs.declared.user.User.{User}
use Rattle.net_ends.specs.declared.kinds.Kind.{Kind}
use Rattle.net_ends.specs.declared.kinds.Kinds.{Kinds}
use Rattle.net_ends.specs.Faults.{with_kind}
use Rattle.net_ends.specs.InMemory.{LinkInMemory, NetInMemory, told_of_link}
use Rattle.net_ends.specs.declared.net.Lookup.{Lookup}
use Rattle.net_ends.specs.Nets.{DialOutcome}
use Rattle.net_ends.specs.Told.{Told, Arrival}
use Rattle.session_desk.specs.Standings.{StandsFor}
use Rattle.socks_machine.specs.declared.record.Record.{Record}
use Rattle.socks_machine.specs.declared.script.CallKind.{CallKind}
use Rattle.socks_machine.specs.declared.script.ScriptLine.{ScriptLine}
use Rattle.socks_machine.specs.declared.world.Object.{Object}
use Rattle.socks_machine.specs.declared.world.Outer.{Outer}
use Rattle.socks_machine.specs.declared.world.World.{World}
use Rattle.socks_machine.specs.Script.{Outside, Surroundings, change, change_at, is_silent, outside_after, room_for}
use Rattle.socks_machine.specs.Basis.{Basis}
use Rattle.socks_machine.specs.Equal.{object_eq}
use Rattle.socks_machine.specs.FailedCalls.{Failing}
use Rattle.socks_machine.specs.Inputs.{is_served_input}
use Rattle.socks_machine.specs.Step.{basis_of}
use Rattle.assoc_core.specs.declared.assoc.Assoc.{Assoc}
use Rattle.assoc_core.specs.Stands.{Holds, HoldsTarget, EndsBehind, GivesFirst}
use Rattle.assoc_core.specs.Turns.{looked_as, outer_of}
use Rattle.replay_script.specs.declared.state.AssociationState.{AssociationState}
use Rattle.replay_script.specs.declared.state.State.{State}
use Rattle.replay_script.specs.Conditions.{IsServedFault, IsServedRoom, after, change_side, may_send, on_side, side_of, with_side}
use Rattle.replay_run.specs.declared.slot.Slot.{Slot}
use Rattle.replay_run.specs.declared.state.Replay.{Replay}
use Rattle.replay_run.specs.Behind.{IsBehind, IsDue}
use Rattle.replay_run.specs.Changes.{IsUnended, MayArrive, MayArriveAtTarget, change_net, change_target, kind_of, with_arrival, with_bytes, with_client_end, with_client_failure, with_client_narrow, with_end, with_failure, with_found, with_lookup, with_narrow, with_outcome, with_plan, with_room, with_side_failure, with_side_narrow, with_target_arrival, with_target_end, with_target_failure, with_target_narrow}
use Rattle.replay_run.specs.Mirrors.{FailsAs, HasUsers, IsGoing, IsSlot, Matches, Mirrors, TargetIs, TargetMirrors, record_of}
use Rattle.replay_run.specs.Played.{Played}
use Rattle.replay_run.proofs.Due.{due-more, due-same}
use Rattle.replay_run.proofs.Narrowing.{client-room, client-unnarrowed, target-room-is, target-unnarrowed}
use Rattle.replay_run.proofs.Places.{IsPlace, IsSide, placed, place-within, side-open, sides-set}
use Rattle.replay_run.proofs.Playing.{plays-silent}
use Rattle.replay_run.proofs.Slots.{get-map-at, map-set-at, set-same, set-set, slots-set}

-- ---- a link at which more arrives

arrived-are : (bytes : List ℕ) (ends : Bool) (arrival : Arrival) → Some (record { bytes = bytes; ends = ends }) ≡ Some arrival → bytes ≡ arrival.bytes
arrived-are bytes ends arrival h = cc

holds-bytes : (bytes : List ℕ) (l : LinkInMemory) (c sent : List ℕ) (ended shut : Bool) → Holds (told_of_link l) c sent ended shut
    → Holds (told_of_link (with_bytes bytes l)) c sent ended shut
holds-bytes bytes l c sent ended shut h = record { given' = h.given'; taken' = h.taken'; ended' = h.ended'; shut' = h.shut' }

holds-end : (l : LinkInMemory) (c sent : List ℕ) (ended shut : Bool) → Holds (told_of_link l) c sent ended shut → Holds (told_of_link (with_end l)) c sent ended shut
holds-end l c sent ended shut h = record { given' = h.given'; taken' = h.taken'; ended' = h.ended'; shut' = h.shut' }

holds-room : (n : ℕ) (l : LinkInMemory) (c sent : List ℕ) (ended shut : Bool) → Holds (told_of_link l) c sent ended shut → Holds (told_of_link (with_room n l)) c sent ended shut
holds-room n l c sent ended shut h = record { given' = h.given'; taken' = h.taken'; ended' = h.ended'; shut' = h.shut' }

-- a link whose end hasn't come has not ended
ends-none : (l : LinkInMemory) (told : Told) → told.ended ≡ l.ended → l.ends ≡ false → EndsBehind (told_of_link l) → EndsBehind told
ends-none l told same unended h = λ arrival given a g e.
    let t : l.ends ≡ true = (h (record { bytes = l.arrived; ends = l.ends }) l.given refl refl (sym same ∙ e)).1 in cc

first-of : (given arrived more all : List ℕ) → IsPrefix given arrived → arrived ++ more ≡ all → IsPrefix given all
first-of given arrived more all h k = (h.0 ++ more, sym (append_assoc given h.0 more) ∙ (ap (λ z. z ++ more) h.1 ∙ k))

gives-bytes : (bytes : List ℕ) (l : LinkInMemory) → GivesFirst (told_of_link l) → GivesFirst (told_of_link (with_bytes bytes l))
gives-bytes bytes l h = λ arrival given a g. first-of given l.arrived bytes arrival.bytes (h (record { bytes = l.arrived; ends = l.ends }) given refl g)
    (arrived-are (l.arrived ++ bytes) l.ends arrival a)

gives-end : (l : LinkInMemory) → GivesFirst (told_of_link l) → GivesFirst (told_of_link (with_end l))
gives-end l h = λ arrival given a g. first-of given l.arrived [] arrival.bytes (h (record { bytes = l.arrived; ends = l.ends }) given refl g)
    (append-nil l.arrived ∙ arrived-are l.arrived true arrival a)

-- ---- an association that goes on

-- what changes of a link that waits changes no lookup
same-lookup : (f : LinkInMemory → LinkInMemory) (t : Option LinkInMemory) (net : NetInMemory) → (change_net f t net).lookup ≡ net.lookup
same-lookup f None net = refl
same-lookup f (Some link) net = refl

-- bytes of the client, with room for them at the target
is-room : (bytes : List ℕ) (link : LinkInMemory) (o : Outside) → TargetIs link o → TargetIs (with_room (length bytes) link) (record o { c = o.c ++ bytes })
is-room bytes link o h = record {
  arrived = h.arrived;
  ends = h.ends;
  cap = let e = length-append o.c bytes in let k = h.cap in omega arith;
  room = h.room;
}

mirrors-room : (bytes : List ℕ) (t : Option LinkInMemory) (net : NetInMemory) (o : Outside) → TargetMirrors t net o
    → TargetMirrors (change_target (with_room (length bytes)) t) (change_net (with_room (length bytes)) t net) (record o { c = o.c ++ bytes })
mirrors-room bytes None net o h = (is-room bytes net.link o h.0, h.1, h.2)
mirrors-room bytes (Some link) net o h = (is-room bytes link o h.0, h.1)

target-room : (n : ℕ) (r : Record) (t : Option LinkInMemory) → HoldsTarget told_of_link r t → HoldsTarget told_of_link r (change_target (with_room n) t)
target-room n r None h = h
target-room n r (Some link) h = (h.0, holds-room n link r.t r.sent_t r.end_t r.shut_t h.1, h.2, h.3)

going-arrives : (basis : Basis) (number : ℕ) (bytes : List ℕ) (a : Assoc LinkInMemory) (net : NetInMemory) (o : Outside) → IsGoing basis number a net o → o.end_c ≡ false
    → is_served_input basis.users (o.c ++ bytes) ≡ true → IsSlot basis number (with_arrival bytes (Slot.Going a net)) (record o { c = o.c ++ bytes })
going-arrives basis number bytes a net o h unended served = record {
  number' = h.number';
  stands = record {
    plain = h.stands.plain;
    direct = h.stands.direct;
    client = holds-bytes bytes a.client a.state.c a.state.sent_c a.state.end_c a.state.shut_c h.stands.client;
    client_ends = ends-none a.client (told_of_link (with_bytes bytes a.client)) refl (h.ends ∙ unended) h.stands.client_ends;
    client_first = gives-bytes bytes a.client h.stands.client_first;
    target = target-room (length bytes) a.state a.target h.stands.target;
  };
  arrived = ap (λ z. z ++ bytes) h.arrived;
  ends = h.ends;
  fails = h.fails;
  cap = h.cap;
  room = h.room;
  served = served;
  target = mirrors-room bytes a.target net o h.target;
  lookup = ap looked_as (same-lookup (with_room (length bytes)) a.target net) ∙ h.lookup;
  quiet = record { grams = h.quiet.grams; peer = h.quiet.peer };
}

-- bytes of the target, with room for them at the client
is-more : (bytes : List ℕ) (link : LinkInMemory) (o : Outside) → TargetIs link o → TargetIs (with_bytes bytes link) (record o { t = o.t ++ bytes })
is-more bytes link o h = record { arrived = ap (λ z. z ++ bytes) h.arrived; ends = h.ends; cap = h.cap; room = h.room }

mirrors-more : (bytes : List ℕ) (t : Option LinkInMemory) (net : NetInMemory) (o : Outside) → TargetMirrors t net o
    → TargetMirrors (change_target (with_bytes bytes) t) (change_net (with_bytes bytes) t net) (record o { t = o.t ++ bytes })
mirrors-more bytes None net o h = (is-more bytes net.link o h.0, h.1, h.2)
mirrors-more bytes (Some link) net o h = (is-more bytes link o h.0, h.1)

target-more : (bytes : List ℕ) (r : Record) (t : Option LinkInMemory) (net : NetInMemory) (o : Outside) → TargetMirrors t net o → o.end_t ≡ false → HoldsTarget told_of_link r t
    → HoldsTarget told_of_link r (change_target (with_bytes bytes) t)
target-more bytes r None net o m unended h = h
target-more bytes r (Some link) net o m unended h = (
  h.0,
  holds-bytes bytes link r.t r.sent_t r.end_t r.shut_t h.1,
  ends-none link (told_of_link (with_bytes bytes link)) refl (m.0.ends ∙ unended) h.2,
  gives-bytes bytes link h.3,
)

going-target-arrives : (basis : Basis) (number : ℕ) (bytes : List ℕ) (a : Assoc LinkInMemory) (net : NetInMemory) (o : Outside) → IsGoing basis number a net o → o.end_t ≡ false
    → IsSlot basis number (with_target_arrival bytes (Slot.Going a net)) (record o { t = o.t ++ bytes })
going-target-arrives basis number bytes a net o h unended = record {
  number' = h.number';
  stands = record {
    plain = h.stands.plain;
    direct = h.stands.direct;
    client = holds-room (length bytes) a.client a.state.c a.state.sent_c a.state.end_c a.state.shut_c h.stands.client;
    client_ends = h.stands.client_ends;
    client_first = h.stands.client_first;
    target = target-more bytes a.state a.target net o h.target unended h.stands.target;
  };
  arrived = h.arrived;
  ends = h.ends;
  fails = h.fails;
  cap = let e = length-append o.t bytes in let k = h.cap in omega arith;
  room = h.room;
  served = h.served;
  target = mirrors-more bytes a.target net o h.target;
  lookup = ap looked_as (same-lookup (with_bytes bytes) a.target net) ∙ h.lookup;
  quiet = record { grams = h.quiet.grams; peer = h.quiet.peer };
}

-- the client's end
mirrors-closed : (t : Option LinkInMemory) (net : NetInMemory) (o : Outside) → TargetMirrors t net o → TargetMirrors t net (record o { end_c = true })
mirrors-closed None net o h = (record { arrived = h.0.arrived; ends = h.0.ends; cap = h.0.cap; room = h.0.room }, h.1, h.2)
mirrors-closed (Some link) net o h = (record { arrived = h.0.arrived; ends = h.0.ends; cap = h.0.cap; room = h.0.room }, h.1)

going-ends : (basis : Basis) (number : ℕ) (a : Assoc LinkInMemory) (net : NetInMemory) (o : Outside) → IsGoing basis number a net o → o.end_c ≡ false
    → IsSlot basis number (with_client_end (Slot.Going a net)) (record o { end_c = true })
going-ends basis number a net o h unended = record {
  number' = h.number';
  stands = record {
    plain = h.stands.plain;
    direct = h.stands.direct;
    client = holds-end a.client a.state.c a.state.sent_c a.state.end_c a.state.shut_c h.stands.client;
    client_ends = ends-none a.client (told_of_link (with_end a.client)) refl (h.ends ∙ unended) h.stands.client_ends;
    client_first = gives-end a.client h.stands.client_first;
    target = h.stands.target;
  };
  arrived = h.arrived;
  ends = refl;
  fails = h.fails;
  cap = h.cap;
  room = h.room;
  served = h.served;
  target = mirrors-closed a.target net o h.target;
  lookup = h.lookup;
  quiet = record { grams = h.quiet.grams; peer = h.quiet.peer };
}

-- the target's end
is-end : (link : LinkInMemory) (o : Outside) → TargetIs link o → TargetIs (with_end link) (record o { end_t = true })
is-end link o h = record { arrived = h.arrived; ends = refl; cap = h.cap; room = h.room }

mirrors-end : (t : Option LinkInMemory) (net : NetInMemory) (o : Outside) → TargetMirrors t net o
    → TargetMirrors (change_target with_end t) (change_net with_end t net) (record o { end_t = true })
mirrors-end None net o h = (is-end net.link o h.0, h.1, h.2)
mirrors-end (Some link) net o h = (is-end link o h.0, h.1)

target-end : (r : Record) (t : Option LinkInMemory) (net : NetInMemory) (o : Outside) → TargetMirrors t net o → o.end_t ≡ false → HoldsTarget told_of_link r t
    → HoldsTarget told_of_link r (change_target with_end t)
target-end r None net o m unended h = h
target-end r (Some link) net o m unended h = (
  h.0,
  holds-end link r.t r.sent_t r.end_t r.shut_t h.1,
  ends-none link (told_of_link (with_end link)) refl (m.0.ends ∙ unended) h.2,
  gives-end link h.3,
)

going-target-ends : (basis : Basis) (number : ℕ) (a : Assoc LinkInMemory) (net : NetInMemory) (o : Outside) → IsGoing basis number a net o → o.end_t ≡ false
    → IsSlot basis number (with_target_end (Slot.Going a net)) (record o { end_t = true })
going-target-ends basis number a net o h unended = record {
  number' = h.number';
  stands = record {
    plain = h.stands.plain;
    direct = h.stands.direct;
    client = h.stands.client;
    client_ends = h.stands.client_ends;
    client_first = h.stands.client_first;
    target = target-end a.state a.target net o h.target unended h.stands.target;
  };
  arrived = h.arrived;
  ends = h.ends;
  fails = h.fails;
  cap = h.cap;
  room = h.room;
  served = h.served;
  target = mirrors-end a.target net o h.target;
  lookup = ap looked_as (same-lookup with_end a.target net) ∙ h.lookup;
  quiet = record { grams = h.quiet.grams; peer = h.quiet.peer };
}

-- how many bytes a write to a side takes at most
holds-narrow : (n : ℕ) (l : LinkInMemory) (c sent : List ℕ) (ended shut : Bool) → Holds (told_of_link l) c sent ended shut → Holds (told_of_link (with_narrow n l)) c sent ended shut
holds-narrow n l c sent ended shut h = record { given' = h.given'; taken' = h.taken'; ended' = h.ended'; shut' = h.shut' }

going-client-narrow : (basis : Basis) (number n : ℕ) (a : Assoc LinkInMemory) (net : NetInMemory) (o : Outside) → IsGoing basis number a net o
    → IsSlot basis number (with_client_narrow n (Slot.Going a net)) (record o { no_room = room_for Object.Client n o.no_room })
going-client-narrow basis number n a net o h = record {
  number' = h.number';
  stands = record {
    plain = h.stands.plain;
    direct = h.stands.direct;
    client = holds-narrow n a.client a.state.c a.state.sent_c a.state.end_c a.state.shut_c h.stands.client;
    client_ends = h.stands.client_ends;
    client_first = h.stands.client_first;
    target = h.stands.target;
  };
  arrived = h.arrived;
  ends = h.ends;
  fails = h.fails;
  cap = h.cap;
  room = client-room n o.no_room;
  served = h.served;
  target = mirrors-other a.target net h.target;
  lookup = h.lookup;
  quiet = record { grams = h.quiet.grams; peer = h.quiet.peer };
}
  where
    is-other : (link : LinkInMemory) → TargetIs link o → TargetIs link (record o { no_room = room_for Object.Client n o.no_room })
    is-other link k = record { arrived = k.arrived; ends = k.ends; cap = k.cap; room = k.room ∙ sym (target-unnarrowed n o.no_room) }

    mirrors-other : (t : Option LinkInMemory) (net : NetInMemory) → TargetMirrors t net o → TargetMirrors t net (record o { no_room = room_for Object.Client n o.no_room })
    mirrors-other None net k = (is-other net.link k.0, k.1, k.2)
    mirrors-other (Some link) net k = (is-other link k.0, k.1)

target-narrow : (n : ℕ) (r : Record) (t : Option LinkInMemory) → HoldsTarget told_of_link r t → HoldsTarget told_of_link r (change_target (with_narrow n) t)
target-narrow n r None h = h
target-narrow n r (Some link) h = (h.0, holds-narrow n link r.t r.sent_t r.end_t r.shut_t h.1, h.2, h.3)

going-target-narrow : (basis : Basis) (number n : ℕ) (a : Assoc LinkInMemory) (net : NetInMemory) (o : Outside) → IsGoing basis number a net o
    → IsSlot basis number (with_target_narrow n (Slot.Going a net)) (record o { no_room = room_for Object.Target n o.no_room })
going-target-narrow basis number n a net o h = record {
  number' = h.number';
  stands = record {
    plain = h.stands.plain;
    direct = h.stands.direct;
    client = h.stands.client;
    client_ends = h.stands.client_ends;
    client_first = h.stands.client_first;
    target = target-narrow n a.state a.target h.stands.target;
  };
  arrived = h.arrived;
  ends = h.ends;
  fails = h.fails;
  cap = h.cap;
  room = h.room ∙ sym (client-unnarrowed n o.no_room);
  served = h.served;
  target = mirrors-narrow a.target net h.target;
  lookup = ap looked_as (same-lookup (with_narrow n) a.target net) ∙ h.lookup;
  quiet = record { grams = h.quiet.grams; peer = h.quiet.peer };
}
  where
    is-narrow : (link : LinkInMemory) → TargetIs link o → TargetIs (with_narrow n link) (record o { no_room = room_for Object.Target n o.no_room })
    is-narrow link k = record { arrived = k.arrived; ends = k.ends; cap = k.cap; room = target-room-is n o.no_room }

    mirrors-narrow : (t : Option LinkInMemory) (net : NetInMemory) → TargetMirrors t net o
        → TargetMirrors (change_target (with_narrow n) t) (change_net (with_narrow n) t net) (record o { no_room = room_for Object.Target n o.no_room })
    mirrors-narrow None net k = (is-narrow net.link k.0, k.1, k.2)
    mirrors-narrow (Some link) net k = (is-narrow link k.0, k.1)

-- which call on a side's link fails next
holds-failure : (kind : Kind) (l : LinkInMemory) (c sent : List ℕ) (ended shut : Bool) → Holds (told_of_link l) c sent ended shut → Holds (told_of_link (with_failure kind l)) c sent ended shut
holds-failure kind l c sent ended shut h = record { given' = h.given'; taken' = h.taken'; ended' = h.ended'; shut' = h.shut' }

-- what a line says of this object is due on its link too
fails-too : (x : Object) → object_eq x x ≡ true → (call : CallKind) (l : LinkInMemory) (o : Outside) → FailsAs l x o
    → FailsAs (with_failure (kind_of call) l) x (record o { faults = o.faults ++ (x, call) ∷ [] })
fails-too x same call l o h = ap (option_map (λ kinds. with_kind kinds (kind_of call))) h ∙ ap (λ (due : Kinds). Some due) (due-more x same call o.faults)

-- what it says of another object isn't
fails-still : (x y : Object) → object_eq x y ≡ false → (call : CallKind) (l : LinkInMemory) (o : Outside) → FailsAs l x o → FailsAs l x (record o { faults = o.faults ++ (y, call) ∷ [] })
fails-still x y other call l o h = h ∙ ap (λ (due : Kinds). Some due) (due-same x y other call o.faults)

is-faulty : (link : LinkInMemory) (o : Outside) (f : Failing) → TargetIs link o → TargetIs link (record o { faults = o.faults ++ f ∷ [] })
is-faulty link o f h = record { arrived = h.arrived; ends = h.ends; cap = h.cap; room = h.room }

is-failing : (kind : Kind) (link : LinkInMemory) (o : Outside) → TargetIs link o → TargetIs (with_failure kind link) o
is-failing kind link o h = record { arrived = h.arrived; ends = h.ends; cap = h.cap; room = h.room }

going-client-fails : (basis : Basis) (number : ℕ) (call : CallKind) (a : Assoc LinkInMemory) (net : NetInMemory) (o : Outside) → IsGoing basis number a net o
    → IsSlot basis number (with_client_failure (kind_of call) (Slot.Going a net)) (record o { faults = o.faults ++ (Object.Client, call) ∷ [] })
going-client-fails basis number call a net o h = record {
  number' = h.number';
  stands = record {
    plain = h.stands.plain;
    direct = h.stands.direct;
    client = holds-failure (kind_of call) a.client a.state.c a.state.sent_c a.state.end_c a.state.shut_c h.stands.client;
    client_ends = h.stands.client_ends;
    client_first = h.stands.client_first;
    target = h.stands.target;
  };
  arrived = h.arrived;
  ends = h.ends;
  fails = fails-too Object.Client refl call a.client o h.fails;
  cap = h.cap;
  room = h.room;
  served = h.served;
  target = mirrors-faulty a.target net h.target;
  lookup = h.lookup;
  quiet = record { grams = h.quiet.grams; peer = h.quiet.peer };
}
  where
    mirrors-faulty : (t : Option LinkInMemory) (net : NetInMemory) → TargetMirrors t net o → TargetMirrors t net (record o { faults = o.faults ++ (Object.Client, call) ∷ [] })
    mirrors-faulty None net k = (is-faulty net.link o (Object.Client, call) k.0, fails-still Object.Target Object.Client refl call net.link o k.1, k.2)
    mirrors-faulty (Some link) net k = (is-faulty link o (Object.Client, call) k.0, fails-still Object.Target Object.Client refl call link o k.1)

target-failure : (kind : Kind) (r : Record) (t : Option LinkInMemory) → HoldsTarget told_of_link r t → HoldsTarget told_of_link r (change_target (with_failure kind) t)
target-failure kind r None h = h
target-failure kind r (Some link) h = (h.0, holds-failure kind link r.t r.sent_t r.end_t r.shut_t h.1, h.2, h.3)

going-target-fails : (basis : Basis) (number : ℕ) (call : CallKind) (a : Assoc LinkInMemory) (net : NetInMemory) (o : Outside) → IsGoing basis number a net o
    → IsSlot basis number (with_target_failure (kind_of call) (Slot.Going a net)) (record o { faults = o.faults ++ (Object.Target, call) ∷ [] })
going-target-fails basis number call a net o h = record {
  number' = h.number';
  stands = record {
    plain = h.stands.plain;
    direct = h.stands.direct;
    client = h.stands.client;
    client_ends = h.stands.client_ends;
    client_first = h.stands.client_first;
    target = target-failure (kind_of call) a.state a.target h.stands.target;
  };
  arrived = h.arrived;
  ends = h.ends;
  fails = fails-still Object.Client Object.Target refl call a.client o h.fails;
  cap = h.cap;
  room = h.room;
  served = h.served;
  target = mirrors-failing a.target net h.target;
  lookup = ap looked_as (same-lookup (with_failure (kind_of call)) a.target net) ∙ h.lookup;
  quiet = record { grams = h.quiet.grams; peer = h.quiet.peer };
}
  where
    failing : (link : LinkInMemory) → TargetIs link o → TargetIs (with_failure (kind_of call) link) (record o { faults = o.faults ++ (Object.Target, call) ∷ [] })
    failing link k = is-faulty (with_failure (kind_of call) link) o (Object.Target, call) (is-failing (kind_of call) link o k)

    mirrors-failing : (t : Option LinkInMemory) (net : NetInMemory) → TargetMirrors t net o
        → TargetMirrors (change_target (with_failure (kind_of call)) t) (change_net (with_failure (kind_of call)) t net) (record o { faults = o.faults ++ (Object.Target, call) ∷ [] })
    mirrors-failing None net k = (failing net.link k.0, fails-too Object.Target refl call net.link o k.1, k.2)
    mirrors-failing (Some link) net k = (failing link k.0, fails-too Object.Target refl call link o k.1)

-- how a lookup comes out
is-found : (link : LinkInMemory) (o : Outside) (outer : Outer) → TargetIs link o → TargetIs link (record o { lookup = outer })
is-found link o outer h = record { arrived = h.arrived; ends = h.ends; cap = h.cap; room = h.room }

mirrors-found : (outcome : Lookup) (outer : Outer) (t : Option LinkInMemory) (net : NetInMemory) (o : Outside) → TargetMirrors t net o → TargetMirrors t (with_found outcome net) (record o { lookup = outer })
mirrors-found outcome outer None net o h = (is-found net.link o outer h.0, h.1, h.2)
mirrors-found outcome outer (Some link) net o h = (is-found link o outer h.0, h.1)

going-looked : (basis : Basis) (number : ℕ) (outcome : Lookup) (outer : Outer) (a : Assoc LinkInMemory) (net : NetInMemory) (o : Outside) → looked_as outcome ≡ outer
    → IsGoing basis number a net o → IsSlot basis number (with_lookup outcome (Slot.Going a net)) (record o { lookup = outer })
going-looked basis number outcome outer a net o same h = record {
  number' = h.number';
  stands = h.stands;
  arrived = h.arrived;
  ends = h.ends;
  fails = h.fails;
  cap = h.cap;
  room = h.room;
  served = h.served;
  target = mirrors-found outcome outer a.target net o h.target;
  lookup = same;
  quiet = record { grams = h.quiet.grams; peer = h.quiet.peer };
}

-- how the next dial comes out
is-plan : (link : LinkInMemory) (o : Outside) (outer : Outer) → TargetIs link o → TargetIs link (record o { dial = outer })
is-plan link o outer h = record { arrived = h.arrived; ends = h.ends; cap = h.cap; room = h.room }

mirrors-plan : (outcome : DialOutcome) (outer : Outer) (t : Option LinkInMemory) (net : NetInMemory) (o : Outside) → outer_of outcome ≡ outer → TargetMirrors t net o
    → TargetMirrors t (with_outcome outcome net) (record o { dial = outer })
mirrors-plan outcome outer None net o same h = (is-plan net.link o outer h.0, h.1, same)
mirrors-plan outcome outer (Some link) net o same h = (is-plan link o outer h.0, h.1)

going-planned : (basis : Basis) (number : ℕ) (outcome : DialOutcome) (outer : Outer) (a : Assoc LinkInMemory) (net : NetInMemory) (o : Outside) → outer_of outcome ≡ outer
    → IsGoing basis number a net o → IsSlot basis number (with_plan outcome (Slot.Going a net)) (record o { dial = outer })
going-planned basis number outcome outer a net o same h = record {
  number' = h.number';
  stands = h.stands;
  arrived = h.arrived;
  ends = h.ends;
  fails = h.fails;
  cap = h.cap;
  room = h.room;
  served = h.served;
  target = mirrors-plan outcome outer a.target net o same h.target;
  lookup = h.lookup;
  quiet = record { grams = h.quiet.grams; peer = h.quiet.peer };
}

-- ---- the place of a line's association

pub place-of : (l : ScriptLine) (r : Replay) (number : ℕ) (test : AssociationState → Bool) (d : IsDue l r)
    → on_side (side_of d.state number) test ≡ true → IsPlace (basis_of d.behind.w) number test d.state.sides d.behind.s.outsides r.slots
place-of l r number test d h = placed (basis_of d.behind.w) d.state number test d.behind.s.outsides r.slots d.behind.matches.sides d.behind.mirrors.slots' h

pub place-there : (basis : Basis) (number : ℕ) (test : AssociationState → Bool) (sides : List AssociationState) (os : List Outside) (slots : List Slot) → IsPlace basis number test sides os slots → number - 1 < length slots
place-there basis number test sides os slots p = let h = place-within slots p.k p.slot p.slot-at in let e = p.number' in omega arith

pub still-there : (slots new : List Slot) (at : ℕ) (slot : Slot) → at < length slots → new ≡ slice_set slots at slot → at < length new
still-there slots new at slot h e = let k = length-set slots at slot in let m = ap length e in omega arith

-- the association is taken out, changed and put back
pub put-back : (old away new : List Slot) (at : ℕ) (slot gone changed : Slot) (f : Slot → Slot) → slice_get old at ≡ Some slot → away ≡ slice_set old at gone → changed ≡ f slot
    → new ≡ slice_set away at changed → (x : Slot) → slice_get old at ≡ Some x → new ≡ slice_set old at (f x)
put-back old away new at slot gone changed f found out is back x there =
    back ∙ (ap (λ z. slice_set z at changed) out
    ∙ (set-set old at gone changed ∙ (ap (slice_set old at) is ∙ ap (λ z. slice_set old at (f z)) same)))
  where
    same : slot ≡ x
    same = cc

-- ---- a line that changes one association

-- what it changes outside, in the reader's state and in the replay
pub record Changes (basis : Basis) (l : ScriptLine) (number : ℕ) (test : AssociationState → Bool) (outside : Outside → Outside) (side : AssociationState → AssociationState) (slot : Slot → Slot) : Type 0 where
  pub silent : (w : World) → is_silent w l ≡ true
  pub outside' : (s : Surroundings) → outside_after s l ≡ change s number outside
  pub state' : (state : State) → after state l ≡ change_side state number side
  pub is : (x : AssociationState) (o : Outside) → IsSide x o → IsSide (side x) (outside o)
  pub stands : (n : ℕ) (x : AssociationState) (o : Outside) (y : Slot) → IsSide x o → test x ≡ true → IsSlot basis n y o → IsSlot basis n (slot y) (outside o)
  pub record' : (y : Slot) → record_of (slot y) ≡ record_of y

outside-changed : (s : Surroundings) (number k : ℕ) (f : Outside → Outside) (o : Outside) → number ≡ suc k → slice_get s.outsides k ≡ Some o
    → change s number f ≡ record s { outsides = slice_set s.outsides k (f o) }
outside-changed s number k f o n at = ap (λ m. change s m f) n ∙ ap (change_at s (suc k) f) at

state-changed : (state : State) (number k : ℕ) (f : AssociationState → AssociationState) (x : AssociationState) → number ≡ suc k → slice_get state.sides k ≡ Some x
    → change_side state number f ≡ record state { sides = slice_set state.sides k (f x) }
state-changed state number k f x n at = ap (λ m. change_side state m f) n ∙ (ap (with_side state (suc k) f) at
    ∙ ap (λ (m : ℕ). let y : State = record state { sides = slice_set state.sides m (f x) } in y) (omega arith))

records-same : (slots : List Slot) (k : ℕ) (x y : Slot) → slice_get slots k ≡ Some x → record_of y ≡ record_of x → map record_of (slice_set slots k y) ≡ map record_of slots
records-same slots k x y at same = map-set-at record_of slots k y
    ∙ (ap (λ (r : Record). slice_set (map record_of slots) k r) same ∙ set-same (map record_of slots) k (record_of x) (get-map-at record_of slots k x at))

pub changed : (users : List User) (script lines : List ScriptLine) (state : State) (old : Replay) (slots : List Slot) (l : ScriptLine) (number : ℕ) (test : AssociationState → Bool)
    (outside : Outside → Outside) (side : AssociationState → AssociationState) (slot : Slot → Slot) → (b : IsBehind users script lines state old)
    → Changes (basis_of b.w) l number test outside side slot → on_side (side_of state number) test ≡ true
    → ((x : Slot) → slice_get old.slots (number - 1) ≡ Some x → slots ≡ slice_set old.slots (number - 1) (slot x))
    → IsBehind users script (lines ++ l ∷ []) (after state l) (record old { slots = slots })
changed users script lines state old slots l number test outside side slot b h allowed written = record {
  s = s;
  w = b.w;
  played = subst (λ (z : Surroundings). Played script (lines ++ l ∷ []) z b.w old.out) (h.outside' b.s ∙ outside-changed b.s number p.k outside p.o p.number' p.outside-at)
      (plays-silent script lines b.s b.w old.out l b.played (h.silent b.w));
  mirrors = subst (λ (z : List Slot). Mirrors users (StandsFor old.desk) old.desk.cap old.moment s b.w old.gens z) (sym there) (record {
    moment' = b.mirrors.moment';
    users' = b.mirrors.users';
    pubs = b.mirrors.pubs;
    seen' = b.mirrors.seen';
    below = b.mirrors.below;
    records = b.mirrors.records ∙ sym (records-same old.slots p.k p.slot (slot p.slot) p.slot-at (h.record' p.slot));
    slots' = slots-set (basis_of b.w) 1 old.slots b.s.outsides p.k (slot p.slot) (outside p.o) b.mirrors.slots'
        (subst (λ (n : ℕ). IsSlot (basis_of b.w) n (slot p.slot) (outside p.o)) (omega arith) (h.stands (suc p.k) p.side p.o p.slot p.is p.passes p.stands));
    desk = b.mirrors.desk;
    cap' = b.mirrors.cap';
    marks = b.mirrors.marks;
  });
  matches = subst (λ (z : State). Matches users z s old.gens) (sym (h.state' state ∙ state-changed state number p.k side p.side p.number' p.side-at)) (record {
    users' = λ some. b.matches.users' (let e = length-set state.sides p.k (side p.side) in omega (arith, e, some));
    published' = b.matches.published';
    seen' = b.matches.seen';
    moment = b.matches.moment;
    sides = sides-set state.sides b.s.outsides p.k (side p.side) (outside p.o) b.matches.sides (h.is p.side p.o p.is);
    plain = b.matches.plain;
  });
}
  where
    p : IsPlace (basis_of b.w) number test state.sides b.s.outsides old.slots
    p = placed (basis_of b.w) state number test b.s.outsides old.slots b.matches.sides b.mirrors.slots' allowed

    s : Surroundings
    s = record b.s { outsides = slice_set b.s.outsides p.k (outside p.o) }

    at : number - 1 ≡ p.k
    at = let e = p.number' in omega arith

    there : slots ≡ slice_set old.slots p.k (slot p.slot)
    there = subst (λ (n : ℕ). slots ≡ slice_set old.slots n (slot p.slot)) at
        (written p.slot (subst (λ (n : ℕ). slice_get old.slots n ≡ Some p.slot) (sym at) p.slot-at))

-- ---- the five lines

pub send-allowed : (users : List User) (bytes : List ℕ) (x : AssociationState) → may_send users bytes x ≡ true → (x.end_c ≡ false) × (is_served_input users (x.c ++ bytes) ≡ true)
send-allowed users bytes x h =
    let e = and_parts (not x.end_c) (is_served_input users (x.c ++ bytes)) h in (not-true x.end_c e.0, e.1)

-- where an association is open, the reader's users are those of the world
pub same-users : (users : List User) (state : State) (number : ℕ) (test : AssociationState → Bool) (w : World) → HasUsers users state → w.users ≡ users → on_side (side_of state number) test ≡ true → state.users ≡ w.users
same-users users state number test w has is h = has (side-open state number test h) ∙ sym is

pub client-changes : (basis : Basis) (users : List User) (number : ℕ) (bytes : List ℕ) → users ≡ basis.users
    → Changes basis (ScriptLine.Client number bytes) number (may_send users bytes) (λ o. record o { c = o.c ++ bytes }) (λ x. record x { c = x.c ++ bytes }) (with_arrival bytes)
client-changes basis users number bytes same = record {
  silent = λ w. refl;
  outside' = λ s. refl;
  state' = λ state. refl;
  is = λ x o i. (ap (λ z. z ++ bytes) i.0, i.1, i.2);
  stands = by-slot;
  record' = by-record;
}
  where
    by-slot : (n : ℕ) (x : AssociationState) (o : Outside) (y : Slot) → IsSide x o → may_send users bytes x ≡ true → IsSlot basis n y o → IsSlot basis n (with_arrival bytes y) (record o { c = o.c ++ bytes })
    by-slot n x o (Slot.Going a net) i t h = let e = send-allowed users bytes x t in
        going-arrives basis n bytes a net o h (sym i.1 ∙ e.0)
        (subst (λ (us : List User). is_served_input us (o.c ++ bytes) ≡ true) same (subst (λ (z : List ℕ). is_served_input users (z ++ bytes) ≡ true) i.0 e.1))
    by-slot n x o (Slot.Over e) i t h = h
    by-slot n x o Slot.Away i t h = absurd h

    by-record : (y : Slot) → record_of (with_arrival bytes y) ≡ record_of y
    by-record (Slot.Going a net) = refl
    by-record (Slot.Over e) = refl
    by-record Slot.Away = refl

-- the reader's state has no bytes of a target
unchanged : (state : State) (number : ℕ) → state ≡ change_side state number (λ x. x)
unchanged state zero = refl
unchanged state (suc k) = by (slice_get state.sides k) refl
  where
    by : (x : Option AssociationState) → slice_get state.sides k ≡ x → state ≡ with_side state (suc k) (λ x. x) x
    by None at = refl
    by (Some side) at = let e : k ≡ suc k - 1 = omega arith in
        ap (λ (xs : List AssociationState). let y : State = record state { sides = xs } in y) (sym (set-same state.sides k side at) ∙ ap (λ (m : ℕ). slice_set state.sides m side) e)

pub target-changes : (basis : Basis) (number : ℕ) (bytes : List ℕ)
    → Changes basis (ScriptLine.Target number bytes) number (λ x. not x.end_t) (λ o. record o { t = o.t ++ bytes }) (λ x. x) (with_target_arrival bytes)
target-changes basis number bytes = record {
  silent = λ w. refl;
  outside' = λ s. refl;
  state' = λ state. unchanged state number;
  is = λ x o i. i;
  stands = by-slot;
  record' = by-record;
}
  where
    by-slot : (n : ℕ) (x : AssociationState) (o : Outside) (y : Slot) → IsSide x o → not x.end_t ≡ true → IsSlot basis n y o → IsSlot basis n (with_target_arrival bytes y) (record o { t = o.t ++ bytes })
    by-slot n x o (Slot.Going a net) i t h = going-target-arrives basis n bytes a net o h (sym i.2 ∙ not-true x.end_t t)
    by-slot n x o (Slot.Over e) i t h = h
    by-slot n x o Slot.Away i t h = absurd h

    by-record : (y : Slot) → record_of (with_target_arrival bytes y) ≡ record_of y
    by-record (Slot.Going a net) = refl
    by-record (Slot.Over e) = refl
    by-record Slot.Away = refl

pub client-end-changes : (basis : Basis) (number : ℕ)
    → Changes basis (ScriptLine.ClientEnd number) number (λ x. not x.end_c) (λ o. record o { end_c = true }) (λ x. record x { end_c = true }) with_client_end
client-end-changes basis number = record {
  silent = λ w. refl;
  outside' = λ s. refl;
  state' = λ state. refl;
  is = λ x o i. (i.0, refl, i.2);
  stands = by-slot;
  record' = by-record;
}
  where
    by-slot : (n : ℕ) (x : AssociationState) (o : Outside) (y : Slot) → IsSide x o → not x.end_c ≡ true → IsSlot basis n y o → IsSlot basis n (with_client_end y) (record o { end_c = true })
    by-slot n x o (Slot.Going a net) i t h = going-ends basis n a net o h (sym i.1 ∙ not-true x.end_c t)
    by-slot n x o (Slot.Over e) i t h = h
    by-slot n x o Slot.Away i t h = absurd h

    by-record : (y : Slot) → record_of (with_client_end y) ≡ record_of y
    by-record (Slot.Going a net) = refl
    by-record (Slot.Over e) = refl
    by-record Slot.Away = refl

pub target-end-changes : (basis : Basis) (number : ℕ)
    → Changes basis (ScriptLine.TargetEnd number) number (λ x. not x.end_t) (λ o. record o { end_t = true }) (λ x. record x { end_t = true }) with_target_end
target-end-changes basis number = record {
  silent = λ w. refl;
  outside' = λ s. refl;
  state' = λ state. refl;
  is = λ x o i. (i.0, i.1, refl);
  stands = by-slot;
  record' = by-record;
}
  where
    by-slot : (n : ℕ) (x : AssociationState) (o : Outside) (y : Slot) → IsSide x o → not x.end_t ≡ true → IsSlot basis n y o → IsSlot basis n (with_target_end y) (record o { end_t = true })
    by-slot n x o (Slot.Going a net) i t h = going-target-ends basis n a net o h (sym i.2 ∙ not-true x.end_t t)
    by-slot n x o (Slot.Over e) i t h = h
    by-slot n x o Slot.Away i t h = absurd h

    by-record : (y : Slot) → record_of (with_target_end y) ≡ record_of y
    by-record (Slot.Going a net) = refl
    by-record (Slot.Over e) = refl
    by-record Slot.Away = refl

pub room-changes : (basis : Basis) (number : ℕ) (side : Object) (most : ℕ) → IsServedRoom side
    → Changes basis (ScriptLine.Room number side most) number (λ x. true) (λ o. record o { no_room = room_for side most o.no_room }) (λ x. x) (with_side_narrow side most)
room-changes basis number side most linked = record {
  silent = λ w. refl;
  outside' = λ s. refl;
  state' = λ state. unchanged state number;
  is = λ x o i. i;
  stands = by-side side linked;
  record' = by-record side;
}
  where
    by-side : (side : Object) → IsServedRoom side → (n : ℕ) (x : AssociationState) (o : Outside) (y : Slot) → IsSide x o → true ≡ true → IsSlot basis n y o
        → IsSlot basis n (with_side_narrow side most y) (record o { no_room = room_for side most o.no_room })
    by-side Object.Client l n x o (Slot.Going a net) i t h = going-client-narrow basis n most a net o h
    by-side Object.Client l n x o (Slot.Over e) i t h = h
    by-side Object.Client l n x o Slot.Away i t h = absurd h
    by-side Object.Target l n x o (Slot.Going a net) i t h = going-target-narrow basis n most a net o h
    by-side Object.Target l n x o (Slot.Over e) i t h = h
    by-side Object.Target l n x o Slot.Away i t h = absurd h
    by-side Object.Door l n x o y i t h = absurd l
    by-side Object.Port l n x o y i t h = absurd l

    by-record : (side : Object) (y : Slot) → record_of (with_side_narrow side most y) ≡ record_of y
    by-record Object.Client (Slot.Going a net) = refl
    by-record Object.Client (Slot.Over e) = refl
    by-record Object.Client Slot.Away = refl
    by-record Object.Target (Slot.Going a net) = refl
    by-record Object.Target (Slot.Over e) = refl
    by-record Object.Target Slot.Away = refl
    by-record Object.Door y = refl
    by-record Object.Port y = refl

pub fault-changes : (basis : Basis) (number : ℕ) (side : Object) (call : CallKind) (kind : Kind) → IsServedFault side → kind ≡ kind_of call
    → Changes basis (ScriptLine.Fault number side call) number (λ x. true) (λ o. record o { faults = o.faults ++ (side, call) ∷ [] }) (λ x. x) (with_side_failure side kind)
fault-changes basis number side call kind linked same = record {
  silent = λ w. refl;
  outside' = λ s. refl;
  state' = λ state. unchanged state number;
  is = λ x o i. i;
  stands = λ n x o y i t h. subst (λ (z : Kind). IsSlot basis n (with_side_failure side z y) (record o { faults = o.faults ++ (side, call) ∷ [] })) (sym same) (by-side side linked n o y h);
  record' = by-record side;
}
  where
    by-side : (side : Object) → IsServedFault side → (n : ℕ) (o : Outside) (y : Slot) → IsSlot basis n y o
        → IsSlot basis n (with_side_failure side (kind_of call) y) (record o { faults = o.faults ++ (side, call) ∷ [] })
    by-side Object.Client l n o (Slot.Going a net) h = going-client-fails basis n call a net o h
    by-side Object.Client l n o (Slot.Over e) h = h
    by-side Object.Client l n o Slot.Away h = absurd h
    by-side Object.Target l n o (Slot.Going a net) h = going-target-fails basis n call a net o h
    by-side Object.Target l n o (Slot.Over e) h = h
    by-side Object.Target l n o Slot.Away h = absurd h
    by-side Object.Door l n o y h = absurd l
    by-side Object.Port l n o y h = absurd l

    by-record : (side : Object) (y : Slot) → record_of (with_side_failure side kind y) ≡ record_of y
    by-record Object.Client (Slot.Going a net) = refl
    by-record Object.Client (Slot.Over e) = refl
    by-record Object.Client Slot.Away = refl
    by-record Object.Target (Slot.Going a net) = refl
    by-record Object.Target (Slot.Over e) = refl
    by-record Object.Target Slot.Away = refl
    by-record Object.Door y = refl
    by-record Object.Port y = refl

pub lookup-changes : (basis : Basis) (number : ℕ) (outer : Outer) (outcome : Lookup) → looked_as outcome ≡ outer
    → Changes basis (ScriptLine.Lookup number outer) number (λ x. not x.looked) (λ o. record o { lookup = outer }) (λ x. record x { looked = true }) (with_lookup outcome)
lookup-changes basis number outer outcome same = record {
  silent = λ w. refl;
  outside' = λ s. refl;
  state' = λ state. refl;
  is = λ x o i. i;
  stands = by-slot;
  record' = by-record;
}
  where
    by-slot : (n : ℕ) (x : AssociationState) (o : Outside) (y : Slot) → IsSide x o → not x.looked ≡ true → IsSlot basis n y o → IsSlot basis n (with_lookup outcome y) (record o { lookup = outer })
    by-slot n x o (Slot.Going a net) i t h = going-looked basis n outcome outer a net o same h
    by-slot n x o (Slot.Over e) i t h = h
    by-slot n x o Slot.Away i t h = absurd h

    by-record : (y : Slot) → record_of (with_lookup outcome y) ≡ record_of y
    by-record (Slot.Going a net) = refl
    by-record (Slot.Over e) = refl
    by-record Slot.Away = refl

pub dial-changes : (basis : Basis) (number : ℕ) (outer : Outer) (outcome : DialOutcome) → outer_of outcome ≡ outer
    → Changes basis (ScriptLine.Dial number outer) number (λ x. not x.dialled) (λ o. record o { dial = outer }) (λ x. record x { dialled = true }) (with_plan outcome)
dial-changes basis number outer outcome same = record {
  silent = λ w. refl;
  outside' = λ s. refl;
  state' = λ state. refl;
  is = λ x o i. i;
  stands = by-slot;
  record' = by-record;
}
  where
    by-slot : (n : ℕ) (x : AssociationState) (o : Outside) (y : Slot) → IsSide x o → not x.dialled ≡ true → IsSlot basis n y o → IsSlot basis n (with_plan outcome y) (record o { dial = outer })
    by-slot n x o (Slot.Going a net) i t h = going-planned basis n outcome outer a net o same h
    by-slot n x o (Slot.Over e) i t h = h
    by-slot n x o Slot.Away i t h = absurd h

    by-record : (y : Slot) → record_of (with_plan outcome y) ≡ record_of y
    by-record (Slot.Going a net) = refl
    by-record (Slot.Over e) = refl
    by-record Slot.Away = refl

-- more can arrive from the client at the place of its line
pub may-arrive : (basis : Basis) (users : List User) (number : ℕ) (bytes : List ℕ) (sides : List AssociationState) (os : List Outside) (slots : List Slot) → IsPlace basis number (may_send users bytes) sides os slots
    → (slot : Slot) → slice_get slots (number - 1) ≡ Some slot → MayArrive slot
may-arrive basis users number bytes sides os slots p slot found = subst MayArrive same (by-slot p.slot p.stands)
  where
    at : number - 1 ≡ p.k
    at = let e = p.number' in omega arith

    found' : slice_get slots p.k ≡ Some slot
    found' = subst (λ (n : ℕ). slice_get slots n ≡ Some slot) at found

    same : p.slot ≡ slot
    same = cc (p.slot-at, found')

    by-slot : (y : Slot) → IsSlot basis (suc p.k) y p.o → MayArrive y
    by-slot (Slot.Going a net) h = h.ends ∙ (sym p.is.1 ∙ (send-allowed users bytes p.side p.passes).0)
    by-slot (Slot.Over e) h = tt
    by-slot Slot.Away h = absurd h

-- more can arrive from the target at the place of its line
pub may-arrive-at-target : (basis : Basis) (number : ℕ) (sides : List AssociationState) (os : List Outside) (slots : List Slot) → IsPlace basis number (λ x. not x.end_t) sides os slots
    → (slot : Slot) → slice_get slots (number - 1) ≡ Some slot → MayArriveAtTarget slot
may-arrive-at-target basis number sides os slots p slot found = subst MayArriveAtTarget same (by-slot p.slot p.stands)
  where
    at : number - 1 ≡ p.k
    at = let e = p.number' in omega arith

    found' : slice_get slots p.k ≡ Some slot
    found' = subst (λ (n : ℕ). slice_get slots n ≡ Some slot) at found

    same : p.slot ≡ slot
    same = cc (p.slot-at, found')

    unended : (t : Option LinkInMemory) (net : NetInMemory) → TargetMirrors t net p.o → p.o.end_t ≡ false → IsUnended t net
    unended None net m e = m.0.ends ∙ e
    unended (Some link) net m e = m.0.ends ∙ e

    by-slot : (y : Slot) → IsSlot basis (suc p.k) y p.o → MayArriveAtTarget y
    by-slot (Slot.Going a net) h = unended a.target net h.target (sym p.is.2 ∙ not-true p.side.end_t p.passes)
    by-slot (Slot.Over e) h = tt
    by-slot Slot.Away h = absurd h
