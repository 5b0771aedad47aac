-- A turn of the association is one that the script allows.
use Rattle.std.proofs.Common.{ℕ, ◌≡◌, ◌<◌, ◌≤◌, inl, inr, ◌+◌, ◌∙◌, sym, ap, subst, refl, Bool, true, false, ◌&&◌, Option, Some, None, is_some, List, [], ◌∷◌, ◌++◌, length, map, arith, length-append}
use Rattle.std.proofs.lemmas.List.Elements.{All-cons}
use Rattle.std.specs.Prelude.{IfSome, All, IsTrue}
use mathlib.Core.List.{IsPrefix}
use Rattle.addr_pattern.specs.declared.endpoint.Endpoint.{Endpoint}
use Rattle.conf_types.specs.declared.entries.Entries.{Entries}
use Rattle.socks_grammar.specs.declared.protocol.Command.{Command}
use Rattle.net_ends.specs.declared.kinds.Kind.{Kind}
use Rattle.net_ends.specs.declared.net.Lookup.{Lookup}
use Rattle.net_ends.specs.Nets.{Plan}
use Rattle.net_ends.specs.InMemory.{LinkInMemory, NetInMemory, told_of_link, told_of_net}
use Rattle.socks_machine.specs.declared.cause.StopBy.{StopBy}
use Rattle.socks_machine.specs.declared.lines.Line.{Line}
use Rattle.socks_machine.specs.declared.record.Gram.{Gram}
use Rattle.socks_machine.specs.declared.record.Record.{Record}
use Rattle.socks_machine.specs.declared.script.CallKind.{CallKind}
use Rattle.socks_machine.specs.declared.world.Event.{Event}
use Rattle.socks_machine.specs.declared.world.NextMark.{NextMark}
use Rattle.socks_machine.specs.declared.world.Object.{Object}
use Rattle.socks_machine.specs.declared.world.Outer.{Outer}
use Rattle.socks_machine.specs.declared.world.TurnEvent.{TurnEvent}
use Rattle.socks_machine.specs.declared.world.World.{World}
use Rattle.socks_machine.specs.Basis.{Basis}
use Rattle.socks_machine.specs.Calls.{Context}
use Rattle.socks_machine.specs.Follows.{Allows, OuterFits, OuterIs, FaultsAre, EndFits, ComesToEnd, Meets, packet}
use Rattle.socks_machine.specs.History.{last_mark}
use Rattle.rule_list.specs.Rules.{numbered}
use Rattle.socks_machine.specs.Phase.{Phase, phase}
use Rattle.socks_machine.specs.FailedCalls.{Failing}
use Rattle.socks_machine.specs.Script.{Outside, Surroundings, behind_turn, can_fail_in, is_among, reached_as}
use Rattle.socks_machine.specs.Step.{basis_of, step}
use Rattle.socks_machine.specs.Taking.{holds, some_in, of_generation, reads_client, reads_target, reads_port, taken, with_client_bytes, pipe_size, ◌>>=◌}
use Rattle.socks_machine.specs.Decisions.{Grant, Reaching, reached}
use Rattle.socks_machine.specs.InTurn.{Took}
use Rattle.socks_machine.specs.PhaseFacts.{PhaseFacts}
use Rattle.socks_machine.specs.View.{view}
use Rattle.socks_machine.proofs.PhaseFactsLaws.{phase-says}
use Rattle.socks_machine.proofs.TakeLaws.{met-none}
use Rattle.socks_machine.proofs.TurnCompletes.{takes-from}
use Rattle.socks_grammar.specs.declared.protocol.Method.{Method}
use Rattle.std.specs.List.{list_all}
use Rattle.std.specs.Prelude.{option_and_then}
use Rattle.assoc_core.specs.declared.assoc.Assoc.{Assoc}
use Rattle.assoc_core.specs.declared.assoc.Next.{Next}
use Rattle.assoc_core.specs.Plain.{owed_c, owed_t, prelude_of}
use Rattle.assoc_core.specs.Stands.{HoldsTarget}
use Rattle.assoc_core.specs.Turns.{Turns, FailsWhere, call_of, event_of, links, mark_of, left_of, context, IsOuterOf, IsFull, IsIdle, IsThereAnd, SameTarget, StopsReading, Filled, Unread, ReadsEnd, TakesNothing, outer_of, looked_as}
use Rattle.replay_run.specs.Mirrors.{IsGoing, TargetIs, TargetMirrors, takes_nothing}
use Rattle.replay_run.proofs.Failures.{Tries, done-not-failed, end-is-read, event_with, failed_in, faults-are}
use Rattle.replay_run.proofs.Narrowing.{is-nothing, not-nothing}
use Rattle.replay_run.proofs.Outsides.{same-arrived, same-ends, same-cap, target-behind, owed-c-short, owed-t-short}

-- ---- small facts

never-going : {L : Type 0} (next : Next L) → mark_of next ≡ NextMark.Going → ⊥
never-going (Next.Wait a) h = cc
never-going (Next.Again a) h = cc
never-going (Next.Done e) h = cc

prefix-is : (xs xs' ys ys' : List ℕ) → IsPrefix xs ys → xs ≡ xs' → ys ≡ ys' → IsPrefix xs' ys'
prefix-is xs xs' ys ys' h e f = subst (λ (z : List ℕ). IsPrefix z ys') e (subst (λ (z : List ℕ). IsPrefix xs z) f h)

prefix-short : (xs ys : List ℕ) → IsPrefix xs ys → length xs ≤ length ys
prefix-short xs ys h = let e : length (xs ++ h.0) ≡ length ys = ap length h.1 in omega (arith, e, length-append xs h.0)

client-listed : (c t : Bool) → holds Object.Client (links c t) ≡ true → c ≡ true
client-listed true t h = refl
client-listed false true h = cc
client-listed false false h = cc

target-listed : (c t : Bool) → holds Object.Target (links c t) ≡ true → t ≡ true
target-listed c true h = refl
target-listed true false h = cc
target-listed false false h = cc

door-unlisted : (c t : Bool) → holds Object.Door (links c t) ≡ true → ⊥
door-unlisted true true h = cc
door-unlisted true false h = cc
door-unlisted false true h = cc
door-unlisted false false h = cc

port-unlisted : (c t : Bool) → holds Object.Port (links c t) ≡ true → ⊥
port-unlisted true true h = cc
port-unlisted true false h = cc
port-unlisted false true h = cc
port-unlisted false false h = cc

all-none : {A : Type 0} (P : A → Type 0) → All P []
all-none P k d h = absurd (omega (arith, h))

-- ---- a turn, with what stood around it

pub record Turning : Type 1 where
  pub s : Surroundings
  pub w : World
  pub new : World
  pub generation : ℕ
  pub config : Entries
  pub n : ℕ
  pub a : Assoc LinkInMemory
  pub net : NetInMemory
  pub net' : NetInMemory
  pub o : Outside
  pub next : Next LinkInMemory
  pub stands' : List Line → List StopBy → Type 0
  pub now : ℕ
  pub moment : s.now ≡ now
  pub marks : last_mark w.marks ≡ None
  pub going : IsGoing (basis_of w) n a net o
  pub turns : Turns told_of_link (λ (l : LinkInMemory). l.counts) stands' (context w.users w.pubs generation config w.cap w.h w.marks) now (told_of_net net) (told_of_net net') a next
  pub tries : Tries net a (left_of next) turns.acts
  pub where_c : FailsWhere (basis_of w) turns.behind (turns.result).left Object.Client tries.failed_c
  pub where_t : FailsWhere (basis_of w) turns.behind (turns.result).left Object.Target tries.failed_t
  pub stepped : step w (Event.Turn (event_with 1 a.state.number now turns.acts (mark_of next) (failed_in tries))) ≡ Some new
  pub behind' : numbered new.records a.state.number ≡ Some (turns.result).left

abbrev pub event : Turning → TurnEvent
event k = event_with 1 k.a.state.number k.now k.turns.acts (mark_of k.next) (failed_in k.tries)

-- .. without the list of the calls that failed, on which nothing that is taken rests
abbrev unlisted : Turning → TurnEvent
unlisted k = event_of 1 k.a.state.number k.now k.turns.acts (mark_of k.next)

abbrev left : Turning → Record
left k = (k.turns.result).left

abbrev client' : Turning → LinkInMemory
client' k = (left_of k.next).client

-- ---- bytes

client-arrived : (k : Turning) → (client' k).arrived ≡ k.o.c
client-arrived k = same-arrived k.a.client (client' k) k.turns.same_client ∙ k.going.arrived

client-ends : (k : Turning) → (client' k).ends ≡ k.o.end_c
client-ends k = same-ends k.a.client (client' k) k.turns.same_client ∙ k.going.ends

client-given : (k : Turning) → (client' k).given ≡ k.a.state.c ++ k.turns.acts.c
client-given k = k.turns.client.given' (client' k).given refl ∙ k.turns.c

reads-arrived-c : (k : Turning) → IsPrefix (k.a.state.c ++ k.turns.acts.c) k.o.c
reads-arrived-c k = prefix-is (client' k).given _ (client' k).arrived _
    (k.turns.client_first (record { bytes = (client' k).arrived; ends = (client' k).ends }) (client' k).given refl refl) (client-given k) (client-arrived k)

-- the target's bytes, by whether a link is there
target-bytes : (k : Turning) (t : Option LinkInMemory) → HoldsTarget told_of_link (left k) t → SameTarget told_of_link (told_of_net k.net) k.a.target t
    → IsPrefix (left k).t k.o.t
target-bytes k None h same = prefix-is [] _ k.o.t k.o.t (k.o.t, refl) (sym h.1) refl
target-bytes k (Some l) h same = prefix-is l.given _ l.arrived _
    (h.3 (record { bytes = l.arrived; ends = l.ends }) l.given refl refl) (h.1.given' l.given refl) (target-behind k.a.target k.net k.o l k.going.target same).arrived

reads-arrived-t : (k : Turning) → IsPrefix (k.a.state.t ++ k.turns.acts.t) k.o.t
reads-arrived-t k = subst (λ (z : List ℕ). IsPrefix z k.o.t) k.turns.t (target-bytes k (left_of k.next).target k.turns.target k.turns.same_target)

-- ---- a link is full only where it takes nothing

nothing-then : (b : Bool) → (b ≡ false → ⊥) → b ≡ true
nothing-then true f = refl
nothing-then false f = absurd (f refl)

full-client : (k : Turning) → k.turns.acts.full_c ≡ true → holds Object.Client k.o.no_room ≡ true
full-client k h = sym k.going.room ∙ nothing-then (takes_nothing k.a.client.room) (λ some.
    let f = k.turns.full_c h in
    let cap : (client' k).cap ≤ length (client' k).taken = f.0 (λ e. not-nothing k.a.client.room some (sym k.turns.same_client.room ∙ e)) (client' k).cap (client' k).taken refl refl in
    let taken : length (client' k).taken ≡ length (left k).sent_c = ap length (k.turns.client.taken' (client' k).taken refl) in
    let same : (client' k).cap ≡ k.a.client.cap = same-cap k.a.client (client' k) k.turns.same_client in
    let room : 64 + length k.o.t ≤ k.a.client.cap = k.going.cap in
    let owed : length (owed_c (left k)) ≤ 36 + length (left k).t = owed-c-short (left k).c (left k).t (left k).chosen _ (left k).cause in
    let arrived : length (left k).t ≤ length k.o.t = prefix-short (left k).t k.o.t (target-bytes k (left_of k.next).target k.turns.target k.turns.same_target) in
    let below : length (left k).sent_c < length (owed_c (left k)) = f.2 in
    omega (arith, cap, taken, same, room, owed, arrived, below))

full-target : (k : Turning) (t : Option LinkInMemory) → HoldsTarget told_of_link (left k) t → SameTarget told_of_link (told_of_net k.net) k.a.target t
    → IsThereAnd t (λ link. IsFull (told_of_link link)) → length (left k).sent_t < length (owed_t (left k)) → holds Object.Target k.o.no_room ≡ true
full-target k None h same full below = absurd full
full-target k (Some l) h same full below = sym is.room ∙ nothing-then (takes_nothing l.room) (λ some.
    let cap : l.cap ≤ length l.taken = full (not-nothing l.room some) l.cap l.taken refl refl in
    let taken : length l.taken ≡ length (left k).sent_t = ap length (h.1.taken' l.taken refl) in
    let room : length k.o.c ≤ l.cap = is.cap in
    let owed : length (owed_t (left k)) ≤ length (left k).c = owed-t-short (prelude_of (left k)) (left k).c _ in
    let all : length (left k).c ≡ length (k.a.state.c ++ k.turns.acts.c) = ap length k.turns.c in
    let arrived : length (k.a.state.c ++ k.turns.acts.c) ≤ length k.o.c = prefix-short _ _ (reads-arrived-c k) in
    omega (arith, cap, taken, room, owed, all, arrived, below))
  where
    is : TargetIs l k.o
    is = target-behind k.a.target k.net k.o l k.going.target same

full-links : (P : Object → Type 0) (c t : Bool) → (c ≡ true → P Object.Client) → (t ≡ true → P Object.Target) → All P (links c t)
full-links P true true f g = All-cons P Object.Target (Object.Client ∷ []) (g refl) (All-cons P Object.Client [] (f refl) (all-none P))
full-links P true false f g = All-cons P Object.Client [] (f refl) (all-none P)
full-links P false true f g = All-cons P Object.Target [] (g refl) (all-none P)
full-links P false false f g = all-none P

no-room-where-full : (k : Turning) → All (λ x. IsTrue (holds x k.o.no_room)) (event k).full
no-room-where-full k = full-links (λ x. IsTrue (holds x k.o.no_room)) k.turns.acts.full_c k.turns.acts.full_t (full-client k)
    (λ h. let f = k.turns.full_t h in full-target k (left_of k.next).target k.turns.target k.turns.same_target f.0 f.2)

-- ---- nothing is sent to a side that takes nothing

takes-none-c : (k : Turning) → holds Object.Client k.o.no_room ≡ true → k.turns.acts.sent_c ≡ 0
takes-none-c k h = k.turns.room_c (is-nothing k.a.client.room (k.going.room ∙ h))

target-takes-none : (t : Option LinkInMemory) (net : NetInMemory) (o : Outside) → TargetMirrors t net o → holds Object.Target o.no_room ≡ true → TakesNothing told_of_link (told_of_net net) t
target-takes-none None net o h e = (record { outcome = net.outcome; link = told_of_link net.link; due = net.link.counts.due }, refl, is-nothing net.link.room (h.0.room ∙ e))
target-takes-none (Some l) net o h e = is-nothing l.room (h.0.room ∙ e)

-- ---- the outer call

took-keeps-decisions : (basis : Basis) (any : Bool) (reads : Record → Phase → Bool) (change : Record → Record) (r x : Record)
    → ((r : Record) → (change r).decisions ≡ r.decisions) → Took basis any reads change r x → x.decisions ≡ r.decisions
took-keeps-decisions basis any reads change r x same (inl h) = ap (λ z. z.decisions) h.1
took-keeps-decisions basis any reads change r x same (inr h) = ap (λ z. z.decisions) h.2 ∙ same r

taken-keeps-decisions : (basis : Basis) (g : ℕ) (methods : List Method) (e : TurnEvent) (old a : Record) → e.came ≡ None → taken basis g methods e old ≡ Some a → a.decisions ≡ old.decisions
taken-keeps-decisions basis g methods e old a came h =
    let k = takes-from basis g methods e old a h in
    took-keeps-decisions basis e.end_c (reads_client basis e.idle e.full) (λ r. record r { end_c = true }) k.r5 a (λ r. refl) k.ends_c
    ∙ (took-keeps-decisions basis (some_in e.c) (reads_client basis e.idle e.full) (with_client_bytes g methods e.c) k.r4 k.r5 (λ r. refl) k.bytes_c
    ∙ (ap (λ z. z.decisions) (met-none basis e.came k.r3 k.r4 came k.came)
    ∙ (took-keeps-decisions basis (some_in e.grams) (λ r p. reads_port basis e.grams e.sent_u r p && list_all (of_generation g) e.grams) (λ r. record r { grams = r.grams ++ e.grams }) k.r2 k.r3 (λ r. refl) k.grams
    ∙ (took-keeps-decisions basis e.end_t reads_target (λ r. record r { end_t = true }) k.r1 k.r2 (λ r. refl) k.ends_t
    ∙ took-keeps-decisions basis (some_in e.t) reads_target (λ r. record r { t = r.t ++ e.t }) old k.r1 (λ r. refl) k.bytes_t))))

not-both : (b : Bool) {A : Type 0} → b ≡ true → b ≡ false → A
not-both true h k = cc
not-both false h k = cc

-- a dial is due only where no link of a target is there
unreached : (k : Turning) (g : Grant) → phase (basis_of k.w) k.turns.behind ≡ Phase.Reach g → is_some (reached k.a.state.decisions) ≡ false
unreached k g at =
    let facts : PhaseFacts (view (basis_of k.w) k.turns.behind) k.turns.behind (Phase.Reach g) =
    subst (λ (p : Phase). PhaseFacts (view (basis_of k.w) k.turns.behind) k.turns.behind p) at (phase-says (view (basis_of k.w) k.turns.behind) k.turns.behind) in
    sym (ap (λ z. is_some (reached z)) (taken-keeps-decisions (basis_of k.w) k.generation (k.config).methods (event k) k.a.state k.turns.behind refl (k.turns.taken' 1))) ∙ facts.1

reached-some : (r : Option Reaching) (at : Endpoint) → option_and_then (λ r. r.at) r ≡ Some at → is_some r ≡ true
reached-some None at h = cc
reached-some (Some r) at h = refl

dial-is : (k : Turning) (t : Option LinkInMemory) → TargetMirrors t k.net k.o → HoldsTarget told_of_link k.a.state t → is_some (reached k.a.state.decisions) ≡ false
    → outer_of k.net.outcome ≡ k.o.dial
dial-is k None h holds none = h.2
dial-is k (Some l) h holds none = not-both (is_some (reached k.a.state.decisions)) (reached-some (reached k.a.state.decisions) holds.0.0 holds.0.1) none

dialled-as : (o : Outside) (net : NetInMemory) (g : Grant) (outer : Outer) → outer_of net.outcome ≡ o.dial
    → (g.facts.command ≡ Command.Connect) × ((plan : Plan) → (told_of_net net).plan ≡ Some plan → outer ≡ outer_of plan.outcome) → outer ≡ reached_as o g.facts.command
dialled-as o net g outer dial h = h.1 (record { outcome = net.outcome; link = told_of_link net.link; due = net.link.counts.due }) refl ∙ (dial ∙ sym (ap (reached_as o) h.0))

looked-up : (o : Outside) (net : NetInMemory) (outer : Outer) → looked_as net.lookup ≡ o.lookup → ((plan : Lookup) → (told_of_net net).lookup_plan ≡ Some plan → outer ≡ looked_as plan) → outer ≡ o.lookup
looked-up o net outer same h = h net.lookup refl ∙ same

outer-is : (o : Outside) (net : NetInMemory) (p : Phase) (outer : Outer) → ((g : Grant) → p ≡ Phase.Reach g → outer_of net.outcome ≡ o.dial) → looked_as net.lookup ≡ o.lookup → IsOuterOf (told_of_net net) p outer → OuterIs o p outer
outer-is o net p Outer.Nothing dial same h = tt
outer-is o net p (Outer.Desk logged) dial same h = tt
outer-is o net (Phase.Reach g) (Outer.Looked found) dial same h = dialled-as o net g (Outer.Looked found) (dial g refl) h
outer-is o net (Phase.Reach g) (Outer.Up at) dial same h = dialled-as o net g (Outer.Up at) (dial g refl) h
outer-is o net (Phase.Reach g) Outer.Refused dial same h = dialled-as o net g Outer.Refused (dial g refl) h
outer-is o net (Phase.Reach g) Outer.HostUnreachable dial same h = dialled-as o net g Outer.HostUnreachable (dial g refl) h
outer-is o net (Phase.Reach g) Outer.NetUnreachable dial same h = dialled-as o net g Outer.NetUnreachable (dial g refl) h
outer-is o net (Phase.Reach g) Outer.Failed dial same h = dialled-as o net g Outer.Failed (dial g refl) h
outer-is o net (Phase.Seek name) (Outer.Looked found) dial same h = looked-up o net (Outer.Looked found) same h
outer-is o net (Phase.Seek name) (Outer.Up at) dial same h = looked-up o net (Outer.Up at) same h
outer-is o net (Phase.Seek name) Outer.Refused dial same h = looked-up o net Outer.Refused same h
outer-is o net (Phase.Seek name) Outer.HostUnreachable dial same h = looked-up o net Outer.HostUnreachable same h
outer-is o net (Phase.Seek name) Outer.NetUnreachable dial same h = looked-up o net Outer.NetUnreachable same h
outer-is o net (Phase.Seek name) Outer.Failed dial same h = looked-up o net Outer.Failed same h
outer-is o net p outer dial same h = absurd h

outer-fits : (k : Turning) → OuterFits (basis_of k.w) k.generation k.config k.o (event k) k.a.state
outer-fits k = record {
  behind = k.turns.behind;
  taken' = k.turns.taken' 1;
  is = outer-is k.o k.net (phase (basis_of k.w) k.turns.behind) k.turns.acts.outer
      (λ g at. dial-is k k.a.target k.going.target k.going.stands.target (unreached k g at)) k.going.lookup k.turns.outer';
}

-- ---- the ends

left-behind : (k : Turning) → behind_turn k.w (event k) ≡ Some (left k)
left-behind k = ap (λ (x : Option World). x >>= λ new. numbered new.records k.a.state.number) k.stepped ∙ k.behind'

waits-below : (k : Turning) (waiting : Record → ℕ) → waiting (left k) < pipe_size → IfSome (behind_turn k.w (event k)) (λ x. waiting x < pipe_size)
waits-below k waiting h = subst (λ (x : Option Record). IfSome x (λ x. waiting x < pipe_size)) (sym (left-behind k)) h

abbrev made-over : Turning → Context
made-over k = context k.w.users k.w.pubs k.generation k.config k.w.cap k.w.h k.w.marks

abbrev Comes : Turning → List ℕ → List ℕ → List ℕ → Bool → Bool → Type 0 → (Record → Phase → Bool) → (Basis → Record → ℕ) → Type 0
Comes k arrived had part stands was Passes reads waiting =
    ComesToEnd arrived (had ++ part) stands was part Passes (Meets (basis_of k.w) k.generation k.config (event k) k.a.state (behind_turn k.w (event k)) reads waiting)

same-behind : {A : Type 0} (x y : A) → Some x ≡ Some y → x ≡ y
same-behind x y h = cc

comes-if-read : (k : Turning) (arrived had part : List ℕ) (stands was read : Bool) (Passes : Type 0) (reads : Record → Phase → Bool) (waiting : Basis → Record → ℕ)
    → Passes → (had ++ part ≡ arrived) × (stands ≡ true) → ReadsEnd (made-over k) k.a.state (left k) (unlisted k) was part reads waiting
    → Comes k arrived had part stands was Passes reads waiting
comes-if-read k arrived had part stands was read Passes reads waiting passes told h = record {
  stands = told.1;
  unread = h.unended;
  all = told.0;
  below = h.below;
  passes = passes;
  reads = record {
    behind = h.behind;
    taken' = h.taken';
    read' = h.reads';
    room = λ relays. waits-below k (waiting (basis_of k.w)) (h.room relays);
  };
}

read-if-comes : (k : Turning) → k.turns.acts.fault ≡ None → (arrived had part : List ℕ) (stands was read idle : Bool) (Passes : Type 0) (reads : Record → Phase → Bool) (waiting : Basis → Record → ℕ)
    → (idle ≡ true → (had ++ part ≡ arrived) × (stands ≡ false))
    → StopsReading was read idle part k.turns.acts.fault (Filled (made-over k) k.a.state (left k) (unlisted k) waiting) (Unread (made-over k) k.a.state (unlisted k) reads)
    → Comes k arrived had part stands was Passes reads waiting → read ≡ true
read-if-comes k unfailed arrived had part stands was read idle Passes reads waiting rests (StopsReading.ended h) c = not-both was h c.unread
read-if-comes k unfailed arrived had part stands was read idle Passes reads waiting rests (StopsReading.ends' h) c = h
read-if-comes k unfailed arrived had part stands was read idle Passes reads waiting rests (StopsReading.rested h) c = not-both stands c.stands (rests h).1
read-if-comes k unfailed arrived had part stands was read idle Passes reads waiting rests (StopsReading.took h) c = absurd (omega (arith, h, c.below))
read-if-comes k unfailed arrived had part stands was read idle Passes reads waiting rests (StopsReading.failed h) c =
    not-both (is_some k.turns.acts.fault) h (ap (λ (x : Option Object). is_some x) unfailed)
read-if-comes k unfailed arrived had part stands was read idle Passes reads waiting rests (StopsReading.held h) c =
    let same : c.reads.behind ≡ h.behind = same-behind c.reads.behind h.behind (sym c.reads.taken' ∙ h.taken') in
    let below : waiting (basis_of k.w) (left k) < pipe_size = subst (λ (x : Option Record). IfSome x (λ x. waiting (basis_of k.w) x < pipe_size)) (left-behind k)
    (c.reads.room (ap (λ (x : Record). phase (basis_of k.w) x) same ∙ h.relays)) in
    absurd (omega (arith, below, h.waits))
read-if-comes k unfailed arrived had part stands was read idle Passes reads waiting rests (StopsReading.unread h) c =
    not-both (reads c.reads.behind (phase (basis_of k.w) c.reads.behind)) c.reads.read'
    (ap (λ (x : Record). reads x (phase (basis_of k.w) x)) (same-behind c.reads.behind h.behind (sym c.reads.taken' ∙ h.taken')) ∙ h.unread')

-- without a failed call an end is read exactly where the turn comes to it
end-fits : (fault : Option Object) (read : Bool) (C : Type 0) → (read ≡ true → C) → (fault ≡ None → C → read ≡ true) → EndFits fault read C
end-fits None read C f g = (f, g refl)
end-fits (Some x) read C f g = f

-- ---- what the ends told

client-end-told : (k : Turning) → k.turns.acts.end_c ≡ true → (k.a.state.c ++ k.turns.acts.c ≡ k.o.c) × (k.o.end_c ≡ true)
client-end-told k h =
    let e = k.turns.client_ends (record { bytes = (client' k).arrived; ends = (client' k).ends }) (client' k).given refl refl (k.turns.client.ended' ∙ k.turns.ends_c h) in
    (sym (client-given k) ∙ (e.0 ∙ client-arrived k), sym (client-ends k) ∙ e.1)

client-rest-told : (k : Turning) → k.turns.acts.idle_c ≡ true → (k.a.state.c ++ k.turns.acts.c ≡ k.o.c) × (k.o.end_c ≡ false)
client-rest-told k h =
    let e = (k.turns.idle_c h).0 (record { bytes = (client' k).arrived; ends = (client' k).ends }) (client' k).given refl refl in
    (sym (client-given k) ∙ (e.0 ∙ client-arrived k), sym (client-ends k) ∙ e.1)

target-end-at : (k : Turning) (t : Option LinkInMemory) → HoldsTarget told_of_link (left k) t → SameTarget told_of_link (told_of_net k.net) k.a.target t
    → (left k).end_t ≡ true → ((left k).t ≡ k.o.t) × (k.o.end_t ≡ true)
target-end-at k None h same ended = not-both (left k).end_t ended h.3
target-end-at k (Some l) h same ended =
    let is = target-behind k.a.target k.net k.o l k.going.target same in
    let e = h.2 (record { bytes = l.arrived; ends = l.ends }) l.given refl refl (h.1.ended' ∙ ended) in
    (sym (h.1.given' l.given refl) ∙ (e.0 ∙ is.arrived), sym is.ends ∙ e.1)

target-end-told : (k : Turning) → k.turns.acts.end_t ≡ true → (k.a.state.t ++ k.turns.acts.t ≡ k.o.t) × (k.o.end_t ≡ true)
target-end-told k h =
    let e = target-end-at k (left_of k.next).target k.turns.target k.turns.same_target (k.turns.ends_t h) in
    (sym k.turns.t ∙ e.0, e.1)

target-rest-at : (k : Turning) (t : Option LinkInMemory) → HoldsTarget told_of_link (left k) t → SameTarget told_of_link (told_of_net k.net) k.a.target t
    → IsThereAnd t (λ link. IsIdle (told_of_link link)) → ((left k).t ≡ k.o.t) × (k.o.end_t ≡ false)
target-rest-at k None h same idle = absurd idle
target-rest-at k (Some l) h same idle =
    let is = target-behind k.a.target k.net k.o l k.going.target same in
    let e = idle (record { bytes = l.arrived; ends = l.ends }) l.given refl refl in
    (sym (h.1.given' l.given refl) ∙ (e.0 ∙ is.arrived), sym is.ends ∙ e.1)

target-rest-told : (k : Turning) → k.turns.acts.idle_t ≡ true → (k.a.state.t ++ k.turns.acts.t ≡ k.o.t) × (k.o.end_t ≡ false)
target-rest-told k h =
    let e = target-rest-at k (left_of k.next).target k.turns.target k.turns.same_target (k.turns.idle_t h).0 in
    (sym k.turns.t ∙ e.0, e.1)

-- ---- the faults

-- by the record behind what the turn took, and the one that it leaves
abbrev could-fail : (k : Turning) → Failing → Bool
could-fail k = can_fail_in (basis_of k.w) (taken (basis_of k.w) k.generation (k.config).methods (event k) k.a.state) (behind_turn k.w (event k))

fails-where : (k : Turning) (x : Object) (failed : Option Kind) → FailsWhere (basis_of k.w) k.turns.behind (left k) x failed → IfSome failed (λ kind. could-fail k (x, call_of kind) ≡ true)
fails-where k x None h = tt
fails-where k x (Some kind) h =
    (λ i. can_fail_in (basis_of k.w) (k.turns.taken' 1 i) (left-behind k i) (x, call_of kind)) ∙ h

faults-fit : (k : Turning) → FaultsAre k.o (event k) (could-fail k)
faults-fit k = faults-are 1 k.a.state.number k.now k.net k.a (left_of k.next) k.turns.acts (mark_of k.next) k.o k.tries (could-fail k) (fails-where k Object.Client (k.tries).failed_c k.where_c) (fails-where k Object.Target (k.tries).failed_t k.where_t) k.going.fails k.going.target

-- where an end was read no read failed
client-unfailed : (k : Turning) → k.turns.acts.end_c ≡ true → is_among (failed_in k.tries) (Object.Client, CallKind.Reading) ≡ false
client-unfailed k e = done-not-failed k.o (event k) (could-fail k) (Object.Client, CallKind.Reading) (faults-fit k)
    (end-is-read (some_in k.turns.acts.c) k.turns.acts.end_c (holds Object.Client (event k).idle) e)

target-unfailed : (k : Turning) → k.turns.acts.end_t ≡ true → is_among (failed_in k.tries) (Object.Target, CallKind.Reading) ≡ false
target-unfailed k e = done-not-failed k.o (event k) (could-fail k) (Object.Target, CallKind.Reading) (faults-fit k)
    (end-is-read (some_in k.turns.acts.t) k.turns.acts.end_t (holds Object.Target (event k).idle) e)

-- ---- the whole

pub allows : (k : Turning) → Allows k.s k.w k.generation k.config k.o (event k) k.a.state
allows k = record {
  moment = sym k.moment;
  stop' = sym k.marks;
  ends = never-going k.next;
  client = reads-arrived-c k;
  target = reads-arrived-t k;
  datagrams = grams;
  peer = tt;
  outer' = outer-fits k;
  faults' = faults-fit k;
  client_end = λ h. end-fits k.turns.acts.fault k.turns.acts.end_c _
      (λ e. comes-if-read k k.o.c k.a.state.c k.turns.acts.c k.o.end_c k.a.state.end_c true _ _ _ (client-unfailed k e) (client-end-told k e) (k.turns.reads_end_c 1 e))
      (λ unfailed. read-if-comes k unfailed k.o.c k.a.state.c k.turns.acts.c k.o.end_c k.a.state.end_c k.turns.acts.end_c k.turns.acts.idle_c _ _ _ (client-rest-told k) (k.turns.stops_c 1));
  target_end = λ h. end-fits k.turns.acts.fault k.turns.acts.end_t _
      (λ e. comes-if-read k k.o.t k.a.state.t k.turns.acts.t k.o.end_t k.a.state.end_t true _ _ _ (target-unfailed k e) (target-end-told k e) (k.turns.reads_end_t 1 e))
      (λ unfailed. read-if-comes k unfailed k.o.t k.a.state.t k.turns.acts.t k.o.end_t k.a.state.end_t k.turns.acts.end_t k.turns.acts.idle_t _ _ _ (target-rest-told k) (k.turns.stops_t 1));
  client_rests = λ h. client-rest-told k (client-listed k.turns.acts.idle_c k.turns.acts.idle_t h);
  target_rests = λ h. target-rest-told k (target-listed k.turns.acts.idle_c k.turns.acts.idle_t h);
  door_rests = λ h. absurd (door-unlisted k.turns.acts.idle_c k.turns.acts.idle_t h);
  port_rests = λ h. absurd (port-unlisted k.turns.acts.idle_c k.turns.acts.idle_t h);
  no_room = no-room-where-full k;
  room_c = takes-none-c k;
  room_t = λ h. k.turns.room_t (target-takes-none k.a.target k.net k.o k.going.target h);
}
  where
    grams : IsPrefix (map packet (k.a.state.grams ++ [])) k.o.grams
    grams = (k.o.grams, ap (λ (z : List Gram). map packet (z ++ []) ++ k.o.grams) k.going.stands.plain.grams)
