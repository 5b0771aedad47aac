-- The answers of a turn in Closing.
use Rattle.std.proofs.Common.{◌≡◌, ℕ, ◌<◌, ◌⊎◌, inl, inr, Bool, true, false, ◌&&◌, ◌||◌, not, Option, Some, None, List, [], ◌∷◌, ◌++◌, refl, sym, ap, subst, ◌∙◌, length, drop}
use Rattle.std.proofs.lemmas.List.{append-nil}
use Rattle.addr_pattern.specs.declared.endpoint.Endpoint.{Endpoint}
use Rattle.conf_types.specs.declared.entries.Entries.{Entries}
use Rattle.socks_grammar.specs.declared.protocol.Command.{Command}
use Rattle.socks_grammar.specs.declared.user.User.{User}
use Rattle.net_ends.specs.Counts.{Counts, Rose}
use Rattle.net_ends.specs.Faults.{Tried}
use Rattle.net_ends.specs.Nets.{NetTold}
use Rattle.net_ends.specs.Told.{Told}
use Rattle.socks_machine.specs.declared.cause.Cause.{Cause}
use Rattle.socks_machine.specs.declared.cause.StopBy.{StopBy}
use Rattle.socks_machine.specs.declared.lines.CloseLine.{CloseLine}
use Rattle.socks_machine.specs.declared.lines.Line.{Line}
use Rattle.socks_machine.specs.declared.record.Decision.{Decision}
use Rattle.socks_machine.specs.declared.record.Record.{Record}
use Rattle.socks_machine.specs.declared.world.Object.{Object}
use Rattle.socks_machine.specs.declared.world.Outer.{Outer}
use Rattle.socks_machine.specs.Basis.{Basis}
use Rattle.socks_machine.specs.Calls.{close_line, cause_of_shut}
use Rattle.socks_machine.specs.Decisions.{reached_at}
use Rattle.socks_machine.specs.History.{at_close}
use Rattle.socks_machine.specs.Owed.{has_target, target_by}
use Rattle.socks_machine.specs.Phase.{is_udp}
use Rattle.socks_machine.specs.Settle.{is_nothing}
use Rattle.socks_machine.specs.Socks.{socks}
use Rattle.socks_machine.specs.Turn.{is_quiet}
use Rattle.assoc_core.specs.declared.assoc.Assoc.{Assoc}
use Rattle.assoc_core.specs.declared.assoc.Ended.{Ended}
use Rattle.assoc_core.specs.declared.assoc.Next.{Next}
use Rattle.assoc_core.specs.declared.carry.Give.{Give}
use Rattle.assoc_core.specs.Carrying.{GivesPart, is_sound, is_full, failed_giving}
use Rattle.assoc_core.specs.Closing.{Closed}
use Rattle.assoc_core.specs.Draining.{SendsClient, SendsTarget}
use Rattle.assoc_core.specs.Plain.{IsPlainRecord, HasDecided, Untargeted, owed_c, owed_t, plain_to_target, prelude_of, Sought, behind_lookup}
use Rattle.assoc_core.specs.Stands.{Holds, HoldsTarget, Stands, EndsBehind, GivesFirst}
use Rattle.assoc_core.specs.Turns.{context, Turns, left_of, IsFull, IsThereAnd, IsUnfailing, TakesNothing, SameOutside, SameTarget, FaultIs, TriedTarget, RoseTarget, is_write}
use Rattle.assoc_core.proofs.Drains.{drained, Drains, DrainFault, DrainTurn, drain-closes, drain-waits, drain-turns}
use Rattle.assoc_core.proofs.LinksHeld.{holds-given, ends-given, first-given, outside-given}
use Rattle.assoc_core.proofs.PassLaws.{full-of, unsound-of, nothing-of, sound-written}
use Rattle.assoc_core.proofs.PlainRecords.{decided-forms, at-behind, unreached-behind, has-judged, has-dialled}
use Rattle.assoc_core.proofs.RelayRecords.{asked-as, plain-tcp}
use Rattle.assoc_core.proofs.PassKinds.{sound-none, unsound-kind}
use Rattle.assoc_core.proofs.Tryings.{added-none, target-same, tried-as}
use Rattle.assoc_core.proofs.RelaySums.{clash, sent-on, none-left, all-sent}
use Rattle.assoc_core.proofs.Failable.{LeavesOf}

-- ---- tests

pub or-left : (a b : Bool) → a ≡ true → a || b ≡ true
or-left a b h = ap (λ z. z || b) h

pub or-right : (a b : Bool) → b ≡ true → a || b ≡ true
or-right true b h = refl
or-right false b h = h

-- ---- a link that is not shut

unshut-of : {old new : Told} {counts counts' : Counts} {before after pending : List ℕ} {gives was shut : Bool} {give : Give} → GivesPart old new counts counts' before after pending gives false was shut give → shut ≡ was
unshut-of {was = was} k = k.shut' ∙ by-shuts k.shuts (λ e. (k.due e).0)
  where
    by-shuts : (b : Bool) → (b ≡ true → false ≡ true) → b || was ≡ was
    by-shuts true f = absurd (let e : false ≡ true = f refl in cc)
    by-shuts false f = refl

some-unsent : {old new : Told} {counts counts' : Counts} {before after pending : List ℕ} {gives was shut : Bool} {give : Give} → (k : GivesPart old new counts counts' before after pending gives false was shut give)
    → is_sound give ≡ false → 0 < length k.rest
some-unsent {shut = shut} k h = by-unsound (unsound-of k h).2
  where
    by-unsound : (0 < length k.rest) ⊎ ((false ≡ true) × (shut ≡ false)) → 0 < length k.rest
    by-unsound (inl e) = e
    by-unsound (inr e) = absurd (let f : false ≡ true = e.0 in cc)

-- the call that failed is a write
unsound-write : {old new : Told} {counts counts' : Counts} {before after pending : List ℕ} {gives was shut : Bool} (give : Give) → GivesPart old new counts counts' before after pending gives false was shut give
    → is_sound give ≡ false → is_write (failed_giving give) ≡ true
unsound-write Give.Held k h = absurd (cc)
unsound-write Give.All k h = absurd (cc)
unsound-write Give.Full k h = absurd (cc)
unsound-write Give.Unwritten k h = refl
unsound-write Give.Unshut k h = let e : false ≡ true = k.why.1 in absurd (cc)

-- ---- the target

-- a record that has reached its target has one
plain-target : (users : List User) (r : Record) (at : Endpoint) → IsPlainRecord users r → reached_at r.decisions ≡ Some at → has_target r ≡ true
plain-target users r at plain reaches = decided-forms users r (λ ds. reached_at ds ≡ Some at → has_target (record r { decisions = ds }) ≡ true) (record {
  nothing = λ fresh' k. absurd (cc);
  opened' = λ g rule d k. absurd (cc);
  looked' = λ g rule name found d k. absurd (cc);
  granted' = λ g rule s g' facts verdict route refused d k. absurd (none-some at (sym (unreached-behind g rule s g' facts verdict route refused) ∙ k));
  reached' = λ g rule s g' facts verdict route to at' d k. has-one g rule s (Decision.Granted g' facts verdict route None ∷ Decision.Reached to at' ∷ [])
      (ap (λ (z : Option Endpoint). target_by z None facts.command) (sym (at-behind g rule s g' facts verdict route to at') ∙ k) ∙ ap (λ (z : Command). target_by (Some at) None z) d.command);
}) r.decisions plain.decided reaches
  where
    none-some : (at : Endpoint) → None ≡ Some at → ⊥
    none-some at e = cc

    has-one : (g : ℕ) (rule : Option ℕ) (s : Option Sought) (ds : List Decision) → has_target (record r { decisions = Decision.Opened g rule None ∷ ds }) ≡ true
        → has_target (record r { decisions = Decision.Opened g rule None ∷ behind_lookup s ds }) ≡ true
    has-one g rule None ds h = h
    has-one g rule (Some l) ds h = h

-- what a turn in Closing sends to its target
pub record DrainedTarget {L : Type 0} (told : L → Told) (counts : L → Counts) (net : NetTold) (old new : Record) (sent_c : List ℕ) (target target' : Option L) (give : Give) : Type 0 where
  pub part : List ℕ
  pub rest : List ℕ
  pub owes : (old.sent_t ++ part) ++ rest ≡ owed_t old
  pub is : new ≡ record old { sent_c = sent_c; sent_t = old.sent_t ++ part }
  pub holds' : HoldsTarget told (record old { sent_c = sent_c; sent_t = old.sent_t ++ part }) target'
  pub same : SameTarget told net target target'
  pub stuck : TakesNothing told net target → part ≡ []
  pub nothing : is_sound give ≡ true → is_nothing rest ≡ not (is_full give)
  pub full : is_full give ≡ true → (0 < length rest) × IsThereAnd target' (λ link. IsFull (told link)) × RoseTarget (λ link. (counts link).idle_writes) target target'
  pub tried : TriedTarget counts net target target' (Unit {0}) ((part ≡ []) × (is_full give ≡ false)) (Unit {0}) (failed_giving give)
  pub written : is_sound give ≡ false → is_write (failed_giving give) ≡ true
  pub unsound : is_sound give ≡ false → (0 < length rest) × (has_target old ≡ true) × (IsUnfailing told net target → ⊥)

pub target-drained : {L : Type 0} (users : List User) (told : L → Told) (counts : L → Counts) (net : NetTold) (old new : Record) (sent_c : List ℕ) (target target' : Option L) (give : Give) → IsPlainRecord users old → HoldsTarget told old target
    → SendsTarget told counts target target' (record old { sent_c = sent_c }) new give → DrainedTarget told counts net old new sent_c target target' give
target-drained users told counts net old new sent_c None None give plain held sends = record {
  part = [];
  rest = [];
  owes = ap (λ z. (z ++ []) ++ []) held.2 ∙ sym (ap (plain_to_target (prelude_of old) old.c) held.0);
  is = sends.0 ∙ (λ i. record old { sent_c = sent_c; sent_t = sym (append-nil old.sent_t) i });
  holds' = (held.0, held.1, ap (λ z. z ++ []) held.2, held.3);
  same = tt;
  stuck = λ e. refl;
  nothing = λ h. ap (λ g. not (is_full g)) (sym sends.1);
  full = λ h. let e : is_full Give.Held ≡ true = ap is_full (sym sends.1) ∙ h in absurd (cc);
  tried = (ap failed_giving sends.1, tt, (refl, ap is_full sends.1), tt);
  written = λ h. let e : is_sound Give.Held ≡ false = ap is_sound (sym sends.1) ∙ h in absurd (cc);
  unsound = λ h. let e : is_sound Give.Held ≡ false = ap is_sound (sym sends.1) ∙ h in absurd (cc);
}
target-drained users told counts net old new sent_c None (Some link') give plain held sends = absurd sends
target-drained users told counts net old new sent_c (Some link) None give plain held sends = absurd sends
target-drained {L} users told counts net old new sent_c (Some link) (Some link') give plain held sends = record {
  part = sends.gives.part;
  rest = sends.gives.rest;
  owes = sent-on old.sent_t sends.gives.part sends.gives.rest (owed_t old) plain.sent_t (sends.gives.pending' ∙ ap (drop (length old.sent_t)) (sym (ap (plain_to_target (prelude_of old) old.c) held.0.1)));
  is = sends.is ∙ (λ i. record old { sent_c = sent_c; sent_t = sends.gives.after' i; shut_t = unshut-of sends.gives i });
  holds' = (
    held.0,
    subst (λ (s : List ℕ). Holds (told link') old.t s old.end_t old.shut_t) sends.gives.after'
        (subst (λ (b : Bool). Holds (told link') old.t new.sent_t old.end_t b) (unshut-of sends.gives) (holds-given _ _ _ _ _ _ _ _ _ _ _ _ _ _ held.1 sends.gives)),
    ends-given sends.gives held.2,
    first-given sends.gives held.3,
  );
  same = outside-given sends.gives;
  stuck = sends.gives.stuck;
  nothing = λ h. nothing-of sends.gives refl (sound-written give h);
  full = λ h. full-of sends.gives h;
  tried = tried-as sends.gives.tried (λ x. x) (λ x. (added-none _ _ _ sends.gives.after' x.0, x.1)) (λ x. tt);
  written = unsound-write give sends.gives;
  unsound = λ h. (some-unsent sends.gives h, plain-target users old held.0.0 plain held.0.1, λ fine. clash ((told link).unfailing) fine (sym (outside-given sends.gives).unfailing ∙ (unsound-of sends.gives h).0));
}

-- ---- the client

-- what a turn in Closing sends to its client
pub record DrainedClient (old mid : Record) (told told' : Told) (counts counts' : Counts) (give : Give) : Type 0 where
  pub part : List ℕ
  pub rest : List ℕ
  pub owes : (old.sent_c ++ part) ++ rest ≡ owed_c old
  pub is : mid ≡ record old { sent_c = old.sent_c ++ part }
  pub holds' : Holds told' old.c (old.sent_c ++ part) old.end_c old.shut_c
  pub ends' : EndsBehind told'
  pub first : GivesFirst told'
  pub same : SameOutside told told'
  pub stuck : told.room ≡ Some 0 → part ≡ []
  pub nothing : is_sound give ≡ true → is_nothing rest ≡ not (is_full give)
  pub full : is_full give ≡ true → (0 < length rest) × IsFull told' × Rose counts.idle_writes counts'.idle_writes
  pub tried : Tried counts counts' (Unit {0}) ((part ≡ []) × (is_full give ≡ false)) (Unit {0}) (failed_giving give)
  pub written : is_sound give ≡ false → is_write (failed_giving give) ≡ true
  pub unsound : is_sound give ≡ false → (0 < length rest) × Rose counts.faults counts'.faults × (told.unfailing ≡ true → ⊥)

pub client-drained : (users : List User) (old mid : Record) (told told' : Told) (counts counts' : Counts) (give : Give) → IsPlainRecord users old → Holds told old.c old.sent_c old.end_c old.shut_c → EndsBehind told → GivesFirst told
    → SendsClient told told' counts counts' old mid give → DrainedClient old mid told told' counts counts' give
client-drained users old mid told told' counts counts' give plain held ends' first sends = record {
  part = sends.gives.part;
  rest = sends.gives.rest;
  owes = sent-on old.sent_c sends.gives.part sends.gives.rest (owed_c old) plain.sent_c sends.gives.pending';
  is = sends.is ∙ (λ i. record old { sent_c = sends.gives.after' i; shut_c = unshut-of sends.gives i });
  holds' = subst (λ (s : List ℕ). Holds told' old.c s old.end_c old.shut_c) sends.gives.after'
      (subst (λ (b : Bool). Holds told' old.c mid.sent_c old.end_c b) (unshut-of sends.gives) (holds-given _ _ _ _ _ _ _ _ _ _ _ _ _ _ held sends.gives));
  ends' = ends-given sends.gives ends';
  first = first-given sends.gives first;
  same = outside-given sends.gives;
  stuck = sends.gives.stuck;
  nothing = λ h. nothing-of sends.gives refl (sound-written give h);
  full = λ h. full-of sends.gives h;
  tried = tried-as sends.gives.tried (λ x. x) (λ x. (added-none _ _ _ sends.gives.after' x.0, x.1)) (λ x. tt);
  written = unsound-write give sends.gives;
  unsound = λ h. let f = unsound-of sends.gives h in (some-unsent sends.gives h, f.1, λ fine. clash told.unfailing fine (sym (outside-given sends.gives).unfailing ∙ f.0));
}

-- a write that failed left something
leaves-by : (give : Give) (rest : List ℕ) → (is_sound give ≡ false → is_write (failed_giving give) ≡ true) → (is_sound give ≡ false → 0 < length rest) → LeavesOf rest (failed_giving give)
leaves-by Give.Held rest written some = tt
leaves-by Give.All rest written some = tt
leaves-by Give.Full rest written some = tt
leaves-by Give.Unwritten rest written some = (refl, some refl)
leaves-by Give.Unshut rest written some = let e : false ≡ true = written refl in absurd (cc)

-- ---- the close

pub drain-ends : {L : Type 0} (told : L → Told) (counts : L → Counts) (stands : List Line → List StopBy → Type 0)
    (users : List User) (pubs : List Entries) (generation : ℕ) (config : Entries) (cap : ℕ) (h : List Line) (marks : List StopBy) (now : ℕ) (net : NetTold)
    (a mid : Assoc L) (e : Ended L) (cause : Cause) (part_c rest_c part_t rest_t : List ℕ) (full_c full_t : Bool) (fault : Option Object) (unwritten : Bool)
    → DrainTurn told counts (socks users pubs) net a (Next.Done e) cause part_c rest_c part_t rest_t full_c full_t fault unwritten → DrainFault a.state rest_c rest_t fault unwritten
    → mid.state ≡ drained a.state part_c part_t → Closed stands h marks cause mid e → a.state.since ≡ now
    → (is_nothing rest_c && is_nothing rest_t) || unwritten || is_quiet (Some cause) ≡ true
    → Turns told counts stands (context users pubs generation config cap h marks) now net net a (Next.Done e)
drain-ends told counts stands users pubs generation config cap h marks now net a mid e cause part_c rest_c part_t rest_t full_c full_t fault unwritten k f m closed same due =
    drain-turns told counts stands users pubs generation config cap h marks now net a (Next.Done e) cause part_c rest_c part_t rest_t full_c full_t fault unwritten (Outer.Desk closed.closes.logged)
    (cause_of_shut (at_close h marks (close_line x cause) closed.closes.logged).said) true _ _ k tt
    (λ worker. drain-closes users pubs generation config cap h marks worker a.state.number now a.state cause part_c rest_c part_t rest_t full_c full_t fault unwritten closed.closes.logged k.drains f same due)
    state (subst (λ (l : CloseLine). stands (at_close h marks l closed.closes.logged).h (at_close h marks l closed.closes.logged).marks) line closed.closes.stands')
    (ap (λ (z : Record). z.done) state, ap is_udp state ∙ plain-tcp users a.state k.drains.plain, ap (λ (z : Record). z.sent_u) state ∙ k.drains.plain.sent_u)
  where
    x : Record
    x = drained a.state part_c part_t

    line : close_line mid.state cause ≡ close_line x cause
    line = ap (λ (z : Record). close_line z cause) m

    said : closed.said ≡ (at_close h marks (close_line x cause) closed.closes.logged).said
    said = closed.closes.said' ∙ ap (λ (l : CloseLine). (at_close h marks l closed.closes.logged).said) line

    state : e.state ≡ record x { at_close = cause_of_shut (at_close h marks (close_line x cause) closed.closes.logged).said; done = true }
    state = closed.state' ∙ (λ i. record (m i) { cause = sym k.drains.caused i; at_close = cause_of_shut (said i); done = true })

-- ---- the form stays

first-nothing : (xs ys : List ℕ) → xs ++ ys ≡ [] → xs ≡ []
first-nothing [] ys h = refl
first-nothing (x ∷ xs) ys h = absurd (cc)

drained-plain : {basis : Basis} (old : Record) (cause : Cause) (part_c rest_c part_t rest_t : List ℕ) → Drains basis old cause part_c rest_c part_t rest_t → IsPlainRecord basis.users (drained old part_c part_t)
drained-plain {basis} old cause part_c rest_c part_t rest_t k = record {
  undone = k.plain.undone;
  unclosed = k.plain.unclosed;
  grams = k.plain.grams;
  sent_u = k.plain.sent_u;
  served = k.plain.served;
  chosen' = k.plain.chosen';
  failed = k.plain.failed;
  decided = decided-forms basis.users old (λ ds. (reached_at ds ≡ None → x.sent_t ≡ []) → HasDecided basis.users x ds) (record {
    nothing = λ fresh' f. absurd (none-some (ap (λ (z : Record). z.cause) fresh'));
    opened' = λ g rule d f. record { untargeted = still d.untargeted (f refl); talks = d.talks };
    looked' = λ g rule name found d f.
        record { untargeted = still d.untargeted (f refl); asked = asked-as basis.users old x refl d.asked; named = d.named; unended = d.unended; stands = d.stands };
    granted' = λ g rule s g' facts verdict route refused d f. has-judged basis.users x g rule s g' facts verdict route refused (record {
      untargeted = still d.untargeted (f (unreached-behind g rule s g' facts verdict route refused));
      asked = asked-as basis.users old x refl d.asked;
      named = d.named;
      command = d.command;
      unended = d.unended;
      stands = d.stands;
    });
    reached' = λ g rule s g' facts verdict route to at d f. has-dialled basis.users x g rule s g' facts verdict route to at (record {
      asked = asked-as basis.users old x refl d.asked;
      named = d.named;
      command = d.command;
      unreached = λ e. still (d.unreached e) (f (at-behind g rule s g' facts verdict route to at ∙ e));
      failed = d.failed;
      apart = d.apart;
      shut_c = λ e. ((d.shut_c e).0, all-sent _ rest_c _ k.owes_c (none-left old.sent_c part_c rest_c _ k.owes_c (d.shut_c e).1));
      shut_t = λ e. ((d.shut_t e).0, all-sent _ rest_t _ k.owes_t (none-left old.sent_t part_t rest_t _ k.owes_t (d.shut_t e).1));
    });
  }) old.decisions k.plain.decided (λ e. first-nothing (old.sent_t ++ part_t) rest_t (k.owes_t ∙ ap (plain_to_target (prelude_of old) old.c) e));
  sent_c = (rest_c, k.owes_c);
  sent_t = (rest_t, k.owes_t);
}
  where
    x : Record
    x = drained old part_c part_t

    still : Untargeted old → x.sent_t ≡ [] → Untargeted x
    still u e = record { t = u.t; sent_t = e; end_t = u.end_t; shut_c = u.shut_c; shut_t = u.shut_t }

    none-some : old.cause ≡ None → ⊥
    none-some e = let f : Some cause ≡ None = sym k.caused ∙ e in cc

-- ---- a turn behind both sendings

held-sent : {L : Type 0} (told : L → Told) (old : Record) (sent_c : List ℕ) (target : Option L) → HoldsTarget told old target → HoldsTarget told (record old { sent_c = sent_c; sent_t = old.sent_t ++ [] }) target
held-sent told old sent_c None h = (h.0, h.1, append-nil old.sent_t ∙ h.2, h.3)
held-sent told old sent_c (Some link) h = (h.0, subst (λ (s : List ℕ). Holds (told link) old.t s old.end_t old.shut_t) (sym (append-nil old.sent_t)) h.1, h.2, h.3)

same-link : {L : Type 0} (told : L → Told) (net : NetTold) (target : Option L) → SameTarget told net target target
same-link told net None = tt
same-link told net (Some link) = record { arrived = refl; cap = refl; room = refl; unfailing = refl; tells_given = refl; tells_taken = refl }

-- the client's write failed, and nothing was sent to the target
pub client-failed : {L : Type 0} (told : L → Told) (counts : L → Counts) (stands : List Line → List StopBy → Type 0)
    (users : List User) (pubs : List Entries) (generation : ℕ) (config : Entries) (cap : ℕ) (h : List Line) (marks : List StopBy) (now : ℕ) (net : NetTold)
    (a mid : Assoc L) (e : Ended L) (cause : Cause) (gave_c : Give) → Stands told (socks users pubs) a → a.state.cause ≡ Some cause → a.state.since ≡ now
    → SendsClient (told a.client) (told mid.client) (counts a.client) (counts mid.client) a.state mid.state gave_c → mid.target ≡ a.target
    → is_sound gave_c ≡ false → Closed stands h marks cause mid e
    → Turns told counts stands (context users pubs generation config cap h marks) now net net a (Next.Done e)
client-failed {L} told counts stands users pubs generation config cap h marks now net a mid e cause gave_c st caused same sends kept unsound closed =
    drain-ends told counts stands users pubs generation config cap h marks now net a mid e cause d.part d.rest [] st.plain.sent_t.0 false false (Some Object.Client) true (record {
      drains = record { plain = st.plain; caused = caused; direct = st.direct; owes_c = d.owes; owes_t = ap (λ z. z ++ st.plain.sent_t.0) (append-nil a.state.sent_t) ∙ st.plain.sent_t.1 };
      client = d.holds';
      client_ends = d.ends';
      client_first = d.first;
      target = subst (λ (z : Option L). HoldsTarget told (drained a.state d.part []) z) (sym target) (held-sent told a.state (a.state.sent_c ++ d.part) a.target st.target);
      same_client = d.same;
      same_target = subst (λ (z : Option L). SameTarget told net a.target z) (sym target) (same-link told net a.target);
      stuck_c = d.stuck;
      stuck_t = λ e. refl;
      is_full_c = λ k. absurd (cc);
      is_full_t = λ k. absurd (cc);
      failed_c = failed_giving gave_c;
      failed_t = None;
      tried_c = tried-as d.tried (λ x. x) (λ x. (x.0, refl)) (λ x. x);
      tried_t = target-same counts net a.target e.target target tt (refl, refl) tt;
      leaves_c = leaves-by gave_c d.rest d.written (λ e. (d.unsound e).0);
      leaves_t = tt;
      fault_is = sym (unsound-kind gave_c) ∙ ap not unsound;
      unwritten_is = sym (ap (λ b. b || false) (d.written unsound));
      fails_c = λ k. (d.unsound unsound).1;
      unfailing = λ fine fine_t. absurd ((d.unsound unsound).2 fine);
    }) (d.unsound unsound).0 (d.is ∙ (λ i. record a.state { sent_c = a.state.sent_c ++ d.part; sent_t = sym (append-nil a.state.sent_t) i })) closed same (or-written (is_nothing d.rest && is_nothing st.plain.sent_t.0) (is_quiet (Some cause)))
  where
    target : e.target ≡ a.target
    target = closed.target ∙ kept

    d : DrainedClient a.state mid.state (told a.client) (told e.client) (counts a.client) (counts e.client) gave_c
    d = client-drained users a.state mid.state _ _ _ _ gave_c st.plain st.client st.client_ends st.client_first
        (subst (λ (z : L). SendsClient (told a.client) (told z) (counts a.client) (counts z) a.state mid.state gave_c) (sym closed.client) sends)

    or-written : (a b : Bool) → a || true || b ≡ true
    or-written true b = refl
    or-written false b = refl

-- both were sent what was pending, and the target's link may have failed
record SentBoth {L : Type 0} (told : L → Told) (counts : L → Counts) (basis : Basis) (net : NetTold) (a mid : Assoc L) (next : Next L) (between : Record) (cause : Cause) (gave_c gave_t : Give) : Type 0 where
  pub st : Stands told basis a
  pub caused : a.state.cause ≡ Some cause
  pub c : DrainedClient a.state between (told a.client) (told (left_of next).client) (counts a.client) (counts (left_of next).client) gave_c
  pub t : DrainedTarget told counts net a.state mid.state (a.state.sent_c ++ c.part) a.target (left_of next).target gave_t

sent-both : {L : Type 0} {basis : Basis} (told : L → Told) (counts : L → Counts) (net : NetTold) (a mid : Assoc L) (next : Next L) (between : Record) (cause : Cause) (gave_c gave_t : Give) → Stands told basis a → a.state.cause ≡ Some cause
    → (left_of next).client ≡ mid.client → (left_of next).target ≡ mid.target
    → SendsClient (told a.client) (told mid.client) (counts a.client) (counts mid.client) a.state between gave_c → SendsTarget told counts a.target mid.target between mid.state gave_t
    → SentBoth told counts basis net a mid next between cause gave_c gave_t
sent-both {L} {basis} told counts net a mid next between cause gave_c gave_t st caused client target sends_c sends_t = record { st = st; caused = caused; c = d; t = t }
  where
    d : DrainedClient a.state between (told a.client) (told (left_of next).client) (counts a.client) (counts (left_of next).client) gave_c
    d = client-drained basis.users a.state between _ _ _ _ gave_c st.plain st.client st.client_ends st.client_first
        (subst (λ (z : L). SendsClient (told a.client) (told z) (counts a.client) (counts z) a.state between gave_c) (sym client) sends_c)

    t : DrainedTarget told counts net a.state mid.state (a.state.sent_c ++ d.part) a.target (left_of next).target gave_t
    t = target-drained basis.users told counts net a.state mid.state (a.state.sent_c ++ d.part) a.target (left_of next).target gave_t st.plain st.target
        (subst (λ (z : Option L). SendsTarget told counts a.target z (record a.state { sent_c = a.state.sent_c ++ d.part }) mid.state gave_t) (sym target)
        (subst (λ (r : Record). SendsTarget told counts a.target mid.target r mid.state gave_t) d.is sends_t))

both-drains : {L : Type 0} {basis : Basis} (told : L → Told) (counts : L → Counts) (net : NetTold) (a mid : Assoc L) (next : Next L) (between : Record) (cause : Cause) (gave_c gave_t : Give)
    → (k : SentBoth told counts basis net a mid next between cause gave_c gave_t) → Drains basis a.state cause k.c.part k.c.rest k.t.part k.t.rest
both-drains told counts net a mid next between cause gave_c gave_t k = record { plain = k.st.plain; caused = k.caused; direct = k.st.direct; owes_c = k.c.owes; owes_t = k.t.owes }

both-turn : {L : Type 0} {basis : Basis} (told : L → Told) (counts : L → Counts) (net : NetTold) (a mid : Assoc L) (next : Next L) (between : Record) (cause : Cause) (gave_c gave_t : Give) (fault : Option Object) (unwritten : Bool)
    → (k : SentBoth told counts basis net a mid next between cause gave_c gave_t) → (fault ≡ Some Object.Client → ⊥)
    → FaultIs fault (failed_giving gave_c) (failed_giving gave_t) → unwritten ≡ is_write (failed_giving gave_c) || is_write (failed_giving gave_t)
    → (IsUnfailing told net a.target → (fault ≡ None) × (unwritten ≡ false))
    → DrainTurn told counts basis net a next cause k.c.part k.c.rest k.t.part k.t.rest (is_full gave_c) (is_full gave_t) fault unwritten
both-turn told counts net a mid next between cause gave_c gave_t fault unwritten k other fault_is unwritten_is fine = record {
  drains = both-drains told counts net a mid next between cause gave_c gave_t k;
  client = k.c.holds';
  client_ends = k.c.ends';
  client_first = k.c.first;
  target = held-all told a.state (a.state.sent_c ++ k.c.part) (a.state.sent_t ++ k.t.part) _ k.t.holds';
  same_client = k.c.same;
  same_target = k.t.same;
  stuck_c = k.c.stuck;
  stuck_t = k.t.stuck;
  is_full_c = k.c.full;
  is_full_t = k.t.full;
  failed_c = failed_giving gave_c;
  failed_t = failed_giving gave_t;
  tried_c = k.c.tried;
  tried_t = k.t.tried;
  leaves_c = leaves-by gave_c k.c.rest k.c.written (λ e. (k.c.unsound e).0);
  leaves_t = leaves-by gave_t k.t.rest k.t.written (λ e. (k.t.unsound e).0);
  fault_is = fault_is;
  unwritten_is = unwritten_is;
  fails_c = λ e. absurd (other e);
  unfailing = λ f g. fine g;
}
  where
    held-all : {L : Type 0} (told : L → Told) (old : Record) (sent_c sent_t : List ℕ) (target : Option L) → HoldsTarget told (record old { sent_c = sent_c; sent_t = sent_t }) target
        → HoldsTarget told (record old { sent_c = sent_c; sent_t = sent_t }) target
    held-all told old sent_c sent_t target x = x

pub target-failed : {L : Type 0} (told : L → Told) (counts : L → Counts) (stands : List Line → List StopBy → Type 0)
    (users : List User) (pubs : List Entries) (generation : ℕ) (config : Entries) (cap : ℕ) (h : List Line) (marks : List StopBy) (now : ℕ) (net : NetTold)
    (a mid : Assoc L) (e : Ended L) (between : Record) (cause : Cause) (gave_c gave_t : Give) → Stands told (socks users pubs) a → a.state.cause ≡ Some cause → a.state.since ≡ now
    → SendsClient (told a.client) (told mid.client) (counts a.client) (counts mid.client) a.state between gave_c → SendsTarget told counts a.target mid.target between mid.state gave_t
    → is_sound gave_t ≡ false → Closed stands h marks cause mid e
    → Turns told counts stands (context users pubs generation config cap h marks) now net net a (Next.Done e)
target-failed told counts stands users pubs generation config cap h marks now net a mid e between cause gave_c gave_t st caused same sends_c sends_t unsound closed =
    let k = sent-both told counts net a mid (Next.Done e) between cause gave_c gave_t st caused closed.client closed.target sends_c sends_t in
    let u = k.t.unsound unsound in
    drain-ends told counts stands users pubs generation config cap h marks now net a mid e cause k.c.part k.c.rest k.t.part k.t.rest (is_full gave_c) (is_full gave_t) (Some Object.Target) true
    (both-turn told counts net a mid (Next.Done e) between cause gave_c gave_t (Some Object.Target) true k (λ f. cc) (sym (unsound-kind gave_t) ∙ ap not unsound) (sym (or-right _ _ (k.t.written unsound))) (λ fine. absurd (u.2 fine)))
    (u.0, u.1) k.t.is closed same (or-written (is_nothing k.c.rest && is_nothing k.t.rest) (is_quiet (Some cause)))
  where
    or-written : (a b : Bool) → a || true || b ≡ true
    or-written true b = refl
    or-written false b = refl

-- nothing failed, and nothing is left to do
pub drain-done : {L : Type 0} (told : L → Told) (counts : L → Counts) (stands : List Line → List StopBy → Type 0)
    (users : List User) (pubs : List Entries) (generation : ℕ) (config : Entries) (cap : ℕ) (h : List Line) (marks : List StopBy) (now : ℕ) (net : NetTold)
    (a mid : Assoc L) (e : Ended L) (between : Record) (cause : Cause) (gave_c gave_t : Give) → Stands told (socks users pubs) a → a.state.cause ≡ Some cause → a.state.since ≡ now
    → SendsClient (told a.client) (told mid.client) (counts a.client) (counts mid.client) a.state between gave_c → SendsTarget told counts a.target mid.target between mid.state gave_t
    → is_sound gave_c ≡ true → is_sound gave_t ≡ true → (is_quiet (Some cause) ≡ true) ⊎ ((is_full gave_c ≡ false) × (is_full gave_t ≡ false)) → Closed stands h marks cause mid e
    → Turns told counts stands (context users pubs generation config cap h marks) now net net a (Next.Done e)
drain-done told counts stands users pubs generation config cap h marks now net a mid e between cause gave_c gave_t st caused same sends_c sends_t sound_c sound_t over closed =
    let k = sent-both told counts net a mid (Next.Done e) between cause gave_c gave_t st caused closed.client closed.target sends_c sends_t in
    drain-ends told counts stands users pubs generation config cap h marks now net a mid e cause k.c.part k.c.rest k.t.part k.t.rest (is_full gave_c) (is_full gave_t) None false
    (both-turn told counts net a mid (Next.Done e) between cause gave_c gave_t None false k (λ f. cc) (sound-none gave_c sound_c, sound-none gave_t sound_t) (λ i. is_write (sym (sound-none gave_c sound_c) i) || is_write (sym (sound-none gave_t sound_t) i)) (λ fine. (refl, refl)))
    refl k.t.is closed same ((λ i. (k.c.nothing sound_c i && k.t.nothing sound_t i) || false || is_quiet (Some cause)) ∙ due (is_full gave_c) (is_full gave_t) (is_quiet (Some cause)) over)
  where
    due : (c t q : Bool) → (q ≡ true) ⊎ ((c ≡ false) × (t ≡ false)) → (not c && not t) || false || q ≡ true
    due c t true f = or-end (not c && not t)
      where
        or-end : (b : Bool) → b || false || true ≡ true
        or-end true = refl
        or-end false = refl
    due c t false (inl f) = cc
    due c t false (inr f) = rw (f.0, f.1) refl

-- something is left that a link doesn't take
pub drain-rests : {L : Type 0} (told : L → Told) (counts : L → Counts) (stands : List Line → List StopBy → Type 0)
    (users : List User) (pubs : List Entries) (generation : ℕ) (config : Entries) (cap : ℕ) (h : List Line) (marks : List StopBy) (now : ℕ) (net : NetTold)
    (a mid : Assoc L) (between : Record) (cause : Cause) (gave_c gave_t : Give) → Stands told (socks users pubs) a → a.state.cause ≡ Some cause → a.state.since ≡ now
    → SendsClient (told a.client) (told mid.client) (counts a.client) (counts mid.client) a.state between gave_c → SendsTarget told counts a.target mid.target between mid.state gave_t
    → is_sound gave_c ≡ true → is_sound gave_t ≡ true → is_quiet (Some cause) ≡ false → is_full gave_c || is_full gave_t ≡ true → stands h marks
    → Turns told counts stands (context users pubs generation config cap h marks) now net net a (Next.Wait mid)
drain-rests told counts stands users pubs generation config cap h marks now net a mid between cause gave_c gave_t st caused same sends_c sends_t sound_c sound_t loud full desked =
    let k = sent-both told counts net a mid (Next.Wait mid) between cause gave_c gave_t st caused refl refl sends_c sends_t in
    drain-turns told counts stands users pubs generation config cap h marks now net a (Next.Wait mid) cause k.c.part k.c.rest k.t.part k.t.rest (is_full gave_c) (is_full gave_t) None false Outer.Nothing
    a.state.at_close a.state.done h marks (both-turn told counts net a mid (Next.Wait mid) between cause gave_c gave_t None false k (λ f. cc) (sound-none gave_c sound_c, sound-none gave_t sound_t) (λ i. is_write (sym (sound-none gave_c sound_c) i) || is_write (sym (sound-none gave_t sound_t) i)) (λ fine. (refl, refl))) tt
    (λ worker. drain-waits users pubs generation config cap h marks worker a.state.number now a.state cause k.c.part k.c.rest k.t.part k.t.rest (is_full gave_c) (is_full gave_t)
    (both-drains told counts net a mid (Next.Wait mid) between cause gave_c gave_t k) same
    ((λ i. (k.c.nothing sound_c i && k.t.nothing sound_t i) || false || loud i) ∙ undue (is_full gave_c) (is_full gave_t) full)
    (sink (is_nothing k.c.rest) (is_full gave_c) (k.c.nothing sound_c)) (sink (is_nothing k.t.rest) (is_full gave_t) (k.t.nothing sound_t)))
    k.t.is desked (subst (IsPlainRecord users) (sym k.t.is) (drained-plain a.state cause k.c.part k.c.rest k.t.part k.t.rest (both-drains told counts net a mid (Next.Wait mid) between cause gave_c gave_t k)))
  where
    undue : (c t : Bool) → c || t ≡ true → (not c && not t) || false || false ≡ false
    undue true t e = refl
    undue false true e = refl
    undue false false e = cc

    sink : (nothing full : Bool) → nothing ≡ not full → nothing || full ≡ true
    sink nothing true e = ap (λ b. b || true) e
    sink nothing false e = ap (λ b. b || false) e

-- no datagrams come by sendings
pub client-tcp : (users : List User) (old mid : Record) (told told' : Told) (counts counts' : Counts) (give : Give) → IsPlainRecord users old → SendsClient told told' counts counts' old mid give → is_udp mid ≡ false
client-tcp users old mid told told' counts counts' give plain sends = ap is_udp sends.is ∙ plain-tcp users old plain

pub target-tcp : {L : Type 0} (told : L → Told) (counts : L → Counts) (target target' : Option L) (between new : Record) (give : Give) → SendsTarget told counts target target' between new give → is_udp between ≡ false → is_udp new ≡ false
target-tcp told counts None None between new give sends h = ap is_udp sends.0 ∙ h
target-tcp told counts None (Some link') between new give sends h = absurd sends
target-tcp told counts (Some link) None between new give sends h = absurd sends
target-tcp told counts (Some link) (Some link') between new give sends h = ap is_udp sends.is ∙ h
