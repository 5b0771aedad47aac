-- The calls that failed in a turn are such as the script says, and no call that it says is to fail was done.
use Rattle.std.proofs.Common.{ℕ, ◌≡◌, ◌∙◌, sym, ap, subst, refl, Bool, true, false, ◌&&◌, ◌||◌, not, Option, Some, None, List, [], ◌∷◌, ◌++◌, append-nil, nat_lt}
use Rattle.std.proofs.lemmas.List.Folds.{list_any-append}
use Rattle.std.specs.Prelude.{IfSome}
use Rattle.std.specs.List.{list_all, list_any}
use Rattle.net_ends.specs.declared.kinds.Kind.{Kind}
use Rattle.net_ends.specs.declared.kinds.Kinds.{Kinds}
use Rattle.net_ends.specs.Counts.{Counts}
use Rattle.net_ends.specs.Faults.{Tried, is_among}
use Rattle.net_ends.specs.InMemory.{LinkInMemory, NetInMemory, told_of_link, told_of_net}
use Rattle.socks_machine.specs.declared.script.CallKind.{CallKind}
use Rattle.socks_machine.specs.declared.world.NextMark.{NextMark}
use Rattle.socks_machine.specs.declared.world.Object.{Object}
use Rattle.socks_machine.specs.declared.world.TurnEvent.{TurnEvent}
use Rattle.socks_machine.specs.FailedCalls.{Failing}
use Rattle.socks_machine.specs.Follows.{FaultsAre}
use Rattle.socks_machine.specs.Script.{Outside, did, has_first, is_among as is_named, is_fault, writes_link}
use Rattle.socks_machine.specs.Taking.{holds, some_in}
use Rattle.assoc_core.specs.declared.assoc.Assoc.{Assoc}
use Rattle.assoc_core.specs.Turns.{Acts, FaultIs, TriedTarget, call_of, event_of, is_write, links}
use Rattle.replay_run.specs.Mirrors.{FailsAs, TargetMirrors, due_on}
use Rattle.replay_run.proofs.Due.{failed_on, failed_calls, fault-is, itself}

-- what a turn tells of the calls that failed in it, on the client's link and on the target's
pub record Tries (net : NetInMemory) (a z : Assoc LinkInMemory) (acts : Acts) : Type 0 where
  pub failed_c : Option Kind
  pub failed_t : Option Kind
  pub tried_c : Tried a.client.counts z.client.counts ((acts.c ≡ []) × (acts.end_c ≡ false) × (acts.idle_c ≡ false)) ((acts.sent_c ≡ 0) × (acts.full_c ≡ false)) (acts.shut_c ≡ false) failed_c
  pub tried_t : TriedTarget (λ (l : LinkInMemory). l.counts) (told_of_net net) a.target z.target ((acts.t ≡ []) × (acts.end_t ≡ false) × (acts.idle_t ≡ false)) ((acts.sent_t ≡ 0) × (acts.full_t ≡ false)) (acts.shut_t ≡ false) failed_t
  pub fault_is : FaultIs acts.fault failed_c failed_t
  pub unwritten_is : acts.unwritten ≡ is_write failed_c || is_write failed_t

abbrev pub failed_in : {net : NetInMemory} {a z : Assoc LinkInMemory} {acts : Acts} → Tries net a z acts → List Failing
failed_in t = failed_calls t.failed_c t.failed_t

-- ---- calls on a link of which some kinds were to fail

record Calls (due : Kinds) (Reads Writes Shuts : Type 0) (failed : Option Kind) : Type 0 where
  reads : due.reads ≡ true → Reads
  writes : due.writes ≡ true → Writes
  shuts : due.shuts ≡ true → Shuts
  was_due : IfSome failed (λ kind. is_among due kind ≡ true)

calls-on : {R W S : Type 0} (old new : Counts) (due : Kinds) (failed : Option Kind) → Tried old new R W S failed → old.due ≡ Some due → Calls due R W S failed
calls-on old new due failed t is = record { reads = t.reads due is; writes = t.writes due is; shuts = t.shuts due is; was_due = t.was_due due is }

calls-on-target : {R W S : Type 0} (x y : Option LinkInMemory) (net : NetInMemory) (o : Outside) (failed : Option Kind) → TargetMirrors x net o
    → TriedTarget (λ (l : LinkInMemory). l.counts) (told_of_net net) x y R W S failed → Calls (due_on Object.Target o.faults) R W S failed
calls-on-target None None net o failed m t = record {
  reads = λ e. t.1;
  writes = λ e. t.2;
  shuts = λ e. t.3;
  was_due = subst (λ (f : Option Kind). IfSome f (λ kind. is_among (due_on Object.Target o.faults) kind ≡ true)) (sym t.0) tt;
}
calls-on-target None (Some l) net o failed m t =
    calls-on t.0 l.counts (due_on Object.Target o.faults) failed t.2 (t.1 (record { outcome = net.outcome; link = told_of_link net.link; due = net.link.counts.due }) refl ∙ m.1)
calls-on-target (Some k) None net o failed m t = absurd t
calls-on-target (Some k) (Some l) net o failed m t = calls-on k.counts l.counts (due_on Object.Target o.faults) failed t m.1

-- ---- each call that failed

and-true : (a b : Bool) → a ≡ true → b ≡ true → (a && b) ≡ true
and-true true b h k = k
and-true false b h k = cc

-- a test of the call that failed on an object, and of others
all-on : (p : Failing → Bool) (x : Object) (failed : Option Kind) (ys : List Failing) → IfSome failed (λ kind. p (x, call_of kind) ≡ true) → list_all p ys ≡ true → list_all p (failed_on x failed ++ ys) ≡ true
all-on p x None ys h all = all
all-on p x (Some kind) ys h all = and-true (p (x, call_of kind)) (list_all p ys) h all

all-failed : (p : Failing → Bool) (c t : Option Kind) → IfSome c (λ kind. p (Object.Client, call_of kind) ≡ true) → IfSome t (λ kind. p (Object.Target, call_of kind) ≡ true) → list_all p (failed_calls c t) ≡ true
all-failed p c t on-c on-t = all-on p Object.Client c (failed_on Object.Target t) on-c (subst (λ (z : List Failing). list_all p z ≡ true) (append-nil (failed_on Object.Target t)) (all-on p Object.Target t [] on-t refl))

-- the script names it
named-as : (x : Object) (fs : List Failing) (failed : Option Kind) → IfSome failed (λ kind. is_among (due_on x fs) kind ≡ true) → IfSome failed (λ kind. is_named fs (x, call_of kind) ≡ true)
named-as x fs None h = tt
named-as x fs (Some Kind.Read) h = h
named-as x fs (Some Kind.Write) h = h
named-as x fs (Some Kind.Shut) h = h

-- ---- no call that the script names was done

none-of : (a b c : Bool) → a ≡ false → b ≡ false → c ≡ false → (a || b || c) ≡ false
none-of false false false h k l = refl
none-of true b c h k l = cc
none-of false true c h k l = cc
none-of false false true h k l = cc

none-either : (a b : Bool) → a ≡ false → b ≡ false → (a || b) ≡ false
none-either false false h k = refl
none-either true b h k = cc
none-either false true h k = cc

client-unlisted : (c t : Bool) → c ≡ false → holds Object.Client (links c t) ≡ false
client-unlisted false true h = refl
client-unlisted false false h = refl
client-unlisted true t h = cc

target-unlisted : (c t : Bool) → t ≡ false → holds Object.Target (links c t) ≡ false
target-unlisted true false h = refl
target-unlisted false false h = refl
target-unlisted c true h = cc

no-door : (c t : Bool) → holds Object.Door (links c t) ≡ false
no-door true true = refl
no-door true false = refl
no-door false true = refl
no-door false false = refl

no-port : (c t : Bool) → holds Object.Port (links c t) ≡ false
no-port true true = refl
no-port true false = refl
no-port false true = refl
no-port false false = refl

-- what is false of each call that is among these
none-where : (p : Failing → Bool) (fs : List Failing) → ((f : Failing) → is_named fs f ≡ true → p f ≡ false) → list_any p fs ≡ false
none-where p [] h = refl
none-where p (f ∷ fs) h = none-either (p f) (list_any p fs) (h f (ap (λ b. b || list_any (is_fault f.0 f.1) fs) (itself f)))
    (none-where p fs (λ g is. h g (then-too (is_fault g.0 g.1 f) (list_any (is_fault g.0 g.1) fs) is)))
  where
    then-too : (a b : Bool) → b ≡ true → (a || b) ≡ true
    then-too true b h = refl
    then-too false b h = h

undone-call : (worker number now : ℕ) (acts : Acts) (next : NextMark) (c t : Option Kind) (fs : List Failing)
    → Calls (due_on Object.Client fs) ((acts.c ≡ []) × (acts.end_c ≡ false) × (acts.idle_c ≡ false)) ((acts.sent_c ≡ 0) × (acts.full_c ≡ false)) (acts.shut_c ≡ false) c
    → Calls (due_on Object.Target fs) ((acts.t ≡ []) × (acts.end_t ≡ false) × (acts.idle_t ≡ false)) ((acts.sent_t ≡ 0) × (acts.full_t ≡ false)) (acts.shut_t ≡ false) t
    → (f : Failing) → is_named fs f ≡ true → did (event_of worker number now acts next) f ≡ false
undone-call worker number now acts next c t fs client target (Object.Client, CallKind.Reading) is = let h = client.reads is in
    none-of (some_in acts.c) acts.end_c (holds Object.Client (links acts.idle_c acts.idle_t)) (ap some_in h.0) h.1 (client-unlisted acts.idle_c acts.idle_t h.2)
undone-call worker number now acts next c t fs client target (Object.Client, CallKind.Writing) is = let h = client.writes is in
    none-either (nat_lt 0 acts.sent_c) (holds Object.Client (links acts.full_c acts.full_t)) (ap (nat_lt 0) h.0) (client-unlisted acts.full_c acts.full_t h.1)
undone-call worker number now acts next c t fs client target (Object.Client, CallKind.Shutting) is = client.shuts is
undone-call worker number now acts next c t fs client target (Object.Target, CallKind.Reading) is = let h = target.reads is in
    none-of (some_in acts.t) acts.end_t (holds Object.Target (links acts.idle_c acts.idle_t)) (ap some_in h.0) h.1 (target-unlisted acts.idle_c acts.idle_t h.2)
undone-call worker number now acts next c t fs client target (Object.Target, CallKind.Writing) is = let h = target.writes is in
    none-either (nat_lt 0 acts.sent_t) (holds Object.Target (links acts.full_c acts.full_t)) (ap (nat_lt 0) h.0) (target-unlisted acts.full_c acts.full_t h.1)
undone-call worker number now acts next c t fs client target (Object.Target, CallKind.Shutting) is = target.shuts is
undone-call worker number now acts next c t fs client target (Object.Door, CallKind.Reading) is = no-door acts.idle_c acts.idle_t
undone-call worker number now acts next c t fs client target (Object.Door, CallKind.Writing) is = refl
undone-call worker number now acts next c t fs client target (Object.Door, CallKind.Shutting) is = refl
undone-call worker number now acts next c t fs client target (Object.Port, CallKind.Reading) is = no-port acts.idle_c acts.idle_t
undone-call worker number now acts next c t fs client target (Object.Port, CallKind.Writing) is = no-port acts.full_c acts.full_t
undone-call worker number now acts next c t fs client target (Object.Port, CallKind.Shutting) is = refl

-- ---- the call that failed first, and failed writes

first-failed : (fault : Option Object) (c t : Option Kind) → FaultIs fault c t → has_first fault (failed_calls c t) ≡ true
first-failed None c t h = λ i. not (some_in (failed_calls (h.0 i) (h.1 i)))
first-failed (Some Object.Client) (Some kind) t h = refl
first-failed (Some Object.Client) None t h = cc
first-failed (Some Object.Target) None (Some kind) h = refl
first-failed (Some Object.Target) (Some k) (Some kind) h = refl
first-failed (Some Object.Target) c None h = cc
first-failed (Some Object.Door) c t h = absurd h
first-failed (Some Object.Port) c t h = absurd h

written-c : (c : Option Kind) → is_write c ≡ list_any writes_link (failed_on Object.Client c)
written-c None = refl
written-c (Some Kind.Read) = refl
written-c (Some Kind.Write) = refl
written-c (Some Kind.Shut) = refl

written-t : (t : Option Kind) → is_write t ≡ list_any writes_link (failed_on Object.Target t)
written-t None = refl
written-t (Some Kind.Read) = refl
written-t (Some Kind.Write) = refl
written-t (Some Kind.Shut) = refl

written : (c t : Option Kind) → (is_write c || is_write t) ≡ list_any writes_link (failed_calls c t)
written c t = (λ i. written-c c i || written-t t i) ∙ sym (list_any-append writes_link (failed_on Object.Client c) (failed_on Object.Target t))

-- ---- the whole

-- the event of a turn, with the calls that failed in it
abbrev pub event_with : ℕ → ℕ → ℕ → Acts → NextMark → List Failing → TurnEvent
event_with worker number now acts next failed = record (event_of worker number now acts next) { failed = failed }

pub faults-are : (worker number now : ℕ) (net : NetInMemory) (a z : Assoc LinkInMemory) (acts : Acts) (next : NextMark) (o : Outside) (t : Tries net a z acts) (can : Failing → Bool)
    → IfSome t.failed_c (λ kind. can (Object.Client, call_of kind) ≡ true) → IfSome t.failed_t (λ kind. can (Object.Target, call_of kind) ≡ true)
    → FailsAs a.client Object.Client o → TargetMirrors a.target net o → FaultsAre o (event_with worker number now acts next (failed_in t)) can
faults-are worker number now net a z acts next o t can can-c can-t client target = record {
  named = all-failed (is_named o.faults) t.failed_c t.failed_t (named-as Object.Client o.faults t.failed_c on-client.was_due) (named-as Object.Target o.faults t.failed_t on-target.was_due);
  undone = none-where (did (event_of worker number now acts next)) o.faults (undone-call worker number now acts next t.failed_c t.failed_t o.faults on-client on-target);
  could = all-failed can t.failed_c t.failed_t can-c can-t;
  first = first-failed acts.fault t.failed_c t.failed_t t.fault_is;
  unwritten = t.unwritten_is ∙ written t.failed_c t.failed_t;
}
  where
    on-client : Calls (due_on Object.Client o.faults) ((acts.c ≡ []) × (acts.end_c ≡ false) × (acts.idle_c ≡ false)) ((acts.sent_c ≡ 0) × (acts.full_c ≡ false)) (acts.shut_c ≡ false) t.failed_c
    on-client = calls-on a.client.counts z.client.counts (due_on Object.Client o.faults) t.failed_c t.tried_c client

    on-target : Calls (due_on Object.Target o.faults) ((acts.t ≡ []) × (acts.end_t ≡ false) × (acts.idle_t ≡ false)) ((acts.sent_t ≡ 0) × (acts.full_t ≡ false)) (acts.shut_t ≡ false) t.failed_t
    on-target = calls-on-target a.target z.target net o t.failed_t target t.tried_t

-- ---- a call that was done hasn't failed

-- a call that no line names is none of the calls that lines name
unnamed : (f : Failing) (fs xs : List Failing) → list_all (is_named fs) xs ≡ true → is_named fs f ≡ false → is_named xs f ≡ false
unnamed f fs [] all none = refl
unnamed f fs (x ∷ xs) all none = none-either (is_fault f.0 f.1 x) (is_named xs f) (by (is_fault f.0 f.1 x) refl) (unnamed f fs xs (second (is_named fs x) (list_all (is_named fs) xs) all) none)
  where
    second : (a b : Bool) → (a && b) ≡ true → b ≡ true
    second true b h = h
    second false b h = cc

    first : (a b : Bool) → (a && b) ≡ true → a ≡ true
    first true b h = refl
    first false b h = cc

    by : (b : Bool) → is_fault f.0 f.1 x ≡ b → is_fault f.0 f.1 x ≡ false
    by false e = e
    by true e =
        let named : is_named fs x ≡ true = first (is_named fs x) (list_all (is_named fs) xs) all in
        let same : is_named fs x ≡ is_named fs f = ap (is_named fs) (fault-is f.0 f.1 x e) in
        absurd (let both : true ≡ false = sym named ∙ (same ∙ none) in cc)

-- .. and of a call that was done no line says that it fails
done-unnamed : (ev : TurnEvent) (f : Failing) (fs : List Failing) → list_any (did ev) fs ≡ false → did ev f ≡ true → is_named fs f ≡ false
done-unnamed ev f [] undone done = refl
done-unnamed ev f (x ∷ fs) undone done = none-either (is_fault f.0 f.1 x) (is_named fs f) (by (is_fault f.0 f.1 x) refl) (done-unnamed ev f fs (second (did ev x) (list_any (did ev) fs) undone) done)
  where
    second : (a b : Bool) → (a || b) ≡ false → b ≡ false
    second true b h = cc
    second false b h = h

    first : (a b : Bool) → (a || b) ≡ false → a ≡ false
    first true b h = cc
    first false b h = refl

    by : (b : Bool) → is_fault f.0 f.1 x ≡ b → is_fault f.0 f.1 x ≡ false
    by false e = e
    by true e =
        let same : did ev x ≡ did ev f = ap (did ev) (fault-is f.0 f.1 x e) in
        absurd (let both : false ≡ true = sym (first (did ev x) (list_any (did ev) fs) undone) ∙ (same ∙ done) in cc)

pub done-not-failed : (o : Outside) (ev : TurnEvent) (can : Failing → Bool) (f : Failing) → FaultsAre o ev can → did ev f ≡ true → is_named ev.failed f ≡ false
done-not-failed o ev can f are done = unnamed f o.faults ev.failed are.named (done-unnamed ev f o.faults are.undone done)

-- an end that was read is a read that was done
pub end-is-read : (a b c : Bool) → b ≡ true → (a || b || c) ≡ true
end-is-read true b c h = refl
end-is-read false true c h = refl
end-is-read false false c h = cc
