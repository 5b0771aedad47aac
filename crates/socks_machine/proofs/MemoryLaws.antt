-- A cause is that memory was short only where an event says so.
use Rattle.std.proofs.Common.{ℕ, zero, suc, ◌≡◌, ◌≢◌, ◌∙◌, sym, ap, subst, refl, Bool, true, false, ◌&&◌, ◌||◌, not, ◌==◌, ◌+◌, length, Option, Some, None, List, [], ◌∷◌, ◌++◌, slice_set}
use Rattle.std.specs.Prelude.{All, get_or, if◌then◌else◌, slice_get}
use Rattle.std.specs.List.{list_all, list_any}
use Rattle.std.proofs.lemmas.List.Elements.{All-cons, All-head, All-nil, All-push, All-tail}
use Rattle.addr_pattern.specs.declared.addr.Addr.{Addr}
use Rattle.addr_pattern.specs.declared.endpoint.Endpoint.{Endpoint}
use Rattle.addr_pattern.specs.declared.front.BadKind.{BadKind}
use Rattle.rule_list.specs.Rules.{is_pass, judge, numbered}
use Rattle.rule_list.specs.declared.verdict.Verdict.{Verdict}
use Rattle.socks_grammar.specs.Dialogue.{Outcome}
use Rattle.socks_grammar.specs.Handshake.{Request, Split}
use Rattle.socks_grammar.specs.declared.protocol.Method.{Method}
use Rattle.socks_machine.specs.declared.cause.Cause.{Cause}
use Rattle.socks_machine.specs.declared.cause.StopBy.{StopBy}
use Rattle.socks_machine.specs.declared.lines.GrantLine.{GrantLine}
use Rattle.socks_machine.specs.declared.lines.OpenLine.{OpenLine}
use Rattle.socks_machine.specs.declared.lines.PeerLine.{PeerLine}
use Rattle.socks_machine.specs.declared.lines.Said.{Said}
use Rattle.socks_machine.specs.declared.record.Decision.{Decision}
use Rattle.socks_machine.specs.declared.record.Record.{Record}
use Rattle.socks_machine.specs.declared.world.Event.{Event}
use Rattle.socks_machine.specs.declared.world.NextMark.{NextMark}
use Rattle.socks_machine.specs.declared.world.Object.{Object}
use Rattle.socks_machine.specs.declared.world.Outer.{Outer}
use Rattle.socks_machine.specs.declared.world.TurnEvent.{TurnEvent}
use Rattle.socks_machine.specs.declared.world.World.{World}
use Rattle.socks_machine.specs.Basis.{Basis}
use Rattle.socks_machine.specs.Calls.{Context, TurnResult, blocked, blocked_client, call, call_close, call_desk, call_grant, call_lookup, call_open, call_peer, call_peer_with, call_reach, came_by, decided, grant_facts, grant_line, granted_by, is_connect, keep, not_found, only, open_line, opened_by, peer_facts, peer_line, reach_to, reached_not, reached_up, refusal_full, refusal_said}
use Rattle.socks_machine.specs.Datagrams.{owed_datagrams}
use Rattle.socks_machine.specs.Decisions.{Grant, is_opened}
use Rattle.socks_machine.specs.Equal.{mark_eq, stop_by_eq}
use Rattle.socks_machine.specs.History.{Desked, at_grant, at_open, at_peer}
use Rattle.socks_machine.specs.Owed.{owed_to_client, owed_to_target}
use Rattle.socks_machine.specs.Phase.{Phase, phase}
use Rattle.socks_machine.specs.Settle.{bad_cause, cause_in, cause_of_dialogue, cause_of_split, first_cause, fix, is_finished, settled}
use Rattle.socks_machine.specs.Step.{context_of, fresh, made, has_worker, seen_by, set_numbered, step, steps, stop_set, when}
use Rattle.socks_machine.specs.Taking.{◌>>=◌, is_right_peer, meet, meet_peer, met_in, of_generation, reads_client, reads_port, reads_target, some_in, taken, taking, with_client_bytes}
use Rattle.socks_machine.specs.Turn.{Calling, after_call, after_none, aged, close, close_is_due, close_with, ended, fault_cause, grown, guard, limit, is_quiet_event, is_there, makes_call, marked, may_end, may_output, ordinary, output, output_of, proceed, shut_sides, stop_with, timed_out, times_out, turn, turn_with, uncalled, with_fault, with_memory, with_record, with_sent, with_shut, without_call, fault_fits}
use Rattle.socks_machine.proofs.TurnCompletes.{unbind}

abbrev pub is_memory : Option Cause → Bool
is_memory (Some Cause.Memory) = true
is_memory _ = false

-- its cause, if any, is another one
abbrev pub Spared : Record → Type 0
Spared r = is_memory r.cause ≡ false

-- ---- tools

one-some : {A : Type 0} (x y : A) → Some x ≡ Some y → x ≡ y
one-some x y h = ap (λ o. elim o [ Some z ↦ z | None ↦ x ]) h

where-true : {A : Type 0} (b : Bool) (x : Option A) (y : A) → elim b [ true ↦ x | false ↦ None ] ≡ Some y → x ≡ Some y
where-true true x y h = h
where-true false x y h = cc

first-spared : (cause stands : Option Cause) → is_memory cause ≡ false → is_memory stands ≡ false → is_memory (first_cause cause stands) ≡ false
first-spared None stands h k = k
first-spared (Some c) None h k = h
first-spared (Some c) (Some d) h k = k

-- ---- the causes that a record fixes by itself

bad-spared : (at byte : ℕ) (kind : BadKind) → is_memory (Some (bad_cause at byte kind)) ≡ false
bad-spared at byte BadKind.Version = refl
bad-spared at byte BadKind.Command = refl
bad-spared at byte BadKind.Atyp = refl
bad-spared at byte BadKind.Field = refl

if-spared : (b : Bool) (cause : Option Cause) → is_memory cause ≡ false → is_memory (if b then cause else None) ≡ false
if-spared true cause h = h
if-spared false cause h = refl

split-spared : (r : Record) (split : Split) → is_memory (cause_of_split r split) ≡ false
split-spared r (Split.Whole q n) = refl
split-spared r (Split.Bad at byte kind) = bad-spared at byte kind
split-spared r Split.NoMethod = refl
split-spared r Split.LoginFailed = refl
split-spared r Split.More = if-spared r.end_c _ refl

dialogue-spared : (r : Record) (d : Option Outcome) → is_memory (cause_of_dialogue r d) ≡ false
dialogue-spared r None = refl
dialogue-spared r (Some Outcome.More) = if-spared r.end_t _ refl
dialogue-spared r (Some (Outcome.Up e n)) = refl
dialogue-spared r (Some (Outcome.Refused stage code)) = refl
dialogue-spared r (Some (Outcome.Bad at byte)) = refl

cause-spared : (basis : Basis) (r : Record) (p : Phase) → is_memory (cause_in basis r p) ≡ false
cause-spared basis r Phase.Ended = refl
cause-spared basis r Phase.Closing = refl
cause-spared basis r Phase.Accept = refl
cause-spared basis r Phase.Talk = split-spared r _
cause-spared basis r (Phase.Seek name) = refl
cause-spared basis r (Phase.Judging q) = refl
cause-spared basis r (Phase.Reach g) = refl
cause-spared basis r Phase.Asking = dialogue-spared r _
cause-spared basis r (Phase.Door g) = if-spared r.end_c _ refl
cause-spared basis r Phase.Relay = if-spared (is_finished basis r) _ refl
cause-spared basis r Phase.Datagrams = if-spared r.end_c _ refl

settled-spared : (basis : Basis) (r : Record) → Spared r → Spared (settled basis r)
settled-spared basis r h = first-spared (cause_in basis r (phase basis r)) r.cause (cause-spared basis r (phase basis r)) h

-- ---- the takings

taking-spared : (basis : Basis) (any : Bool) (reads : Record → Phase → Bool) (change : Record → Record) (r x : Record)
    → ((r : Record) → Spared r → Spared (change r)) → taking basis any reads change r ≡ Some x → Spared r → Spared x
taking-spared basis false reads change r x keeps h k = subst Spared (one-some r x h) k
taking-spared basis true reads change r x keeps h k =
    subst Spared (one-some (settled basis (change r)) x (where-true (reads r (phase basis r)) (Some (settled basis (change r))) x h)) (settled-spared basis (change r) (keeps r k))

met-spared : (g : Grant) (peer : Endpoint) (r : Record) (right : Bool) → Spared r → Spared (if right then r else fix (Some (Cause.WrongPeer peer g.facts.to.addr)) r)
met-spared g peer r true h = h
met-spared g peer r false h = first-spared (Some (Cause.WrongPeer peer g.facts.to.addr)) r.cause refl h

met-in-spared : (p : Phase) (peer : Endpoint) (r x : Record) → met_in p peer r ≡ Some x → Spared r → Spared x
met-in-spared (Phase.Door g) peer r x h k = subst Spared (one-some (meet_peer g peer r) x h) (met-spared g peer r (is_right_peer g peer) k)
met-in-spared Phase.Ended peer r x h k = cc
met-in-spared Phase.Closing peer r x h k = cc
met-in-spared Phase.Accept peer r x h k = cc
met-in-spared Phase.Talk peer r x h k = cc
met-in-spared (Phase.Seek name) peer r x h k = cc
met-in-spared (Phase.Judging q) peer r x h k = cc
met-in-spared (Phase.Reach g) peer r x h k = cc
met-in-spared Phase.Asking peer r x h k = cc
met-in-spared Phase.Relay peer r x h k = cc
met-in-spared Phase.Datagrams peer r x h k = cc

meet-spared : (basis : Basis) (came : Option Endpoint) (r x : Record) → meet basis came r ≡ Some x → Spared r → Spared x
meet-spared basis None r x h k = subst Spared (one-some r x h) k
meet-spared basis (Some peer) r x h k = met-in-spared (phase basis r) peer r x h k

taken-spared : (basis : Basis) (g : ℕ) (methods : List Method) (e : TurnEvent) (old a : Record) → taken basis g methods e old ≡ Some a → Spared old → Spared a
taken-spared basis g methods e old a h k =
    let h1 = unbind (taking basis (some_in e.t) reads_target (λ r. record r { t = r.t ++ e.t }) old) _ a h in
    let h2 = unbind (taking basis e.end_t reads_target (λ r. record r { end_t = true }) h1.0) _ a h1.2 in
    let h3 = unbind (taking basis (some_in e.grams) (λ r p. reads_port basis e.grams e.sent_u r p && list_all (of_generation g) e.grams) (λ r. record r { grams = r.grams ++ e.grams }) h2.0) _ a h2.2 in
    let h4 = unbind (meet basis e.came h3.0) _ a h3.2 in
    let h5 = unbind (taking basis (some_in e.c) (reads_client basis e.idle e.full) (with_client_bytes g methods e.c) h4.0) _ a h4.2 in
    taking-spared basis e.end_c (reads_client basis e.idle e.full) (λ r. record r { end_c = true }) h5.0 a (λ r s. s) h5.2
    (taking-spared basis (some_in e.c) (reads_client basis e.idle e.full) (with_client_bytes g methods e.c) h4.0 h5.0 (λ r s. s) h5.1
    (meet-spared basis e.came h3.0 h4.0 h4.1
    (taking-spared basis (some_in e.grams) (λ r p. reads_port basis e.grams e.sent_u r p && list_all (of_generation g) e.grams) (λ r. record r { grams = r.grams ++ e.grams }) h2.0 h3.0 (λ r s. s) h3.1
    (taking-spared basis e.end_t reads_target (λ r. record r { end_t = true }) h1.0 h2.0 (λ r s. s) h2.1
    (taking-spared basis (some_in e.t) reads_target (λ r. record r { t = r.t ++ e.t }) old h1.0 (λ r s. s) h1.1 k)))))

-- ---- the outer calls

said-spared : (said : Said) (other : Option Cause) → is_memory other ≡ false → is_memory (refusal_said said other) ≡ false
said-spared (Said.Done n) other h = h
said-spared (Said.Full list rule held limit) other h = refl
said-spared (Said.Crowded live cap) other h = refl
said-spared (Said.OutOfTurn standing) other h = refl
said-spared (Said.Stopped by) other h = refl
said-spared Said.LogFault other h = refl

full-spared : (g : ℕ) (said : Said) (other : Option Cause) → is_memory other ≡ false → is_memory (refusal_full g said other) ≡ false
full-spared g (Said.Done n) other h = h
full-spared g (Said.Full list rule held limit) other h = refl
full-spared g (Said.Crowded live cap) other h = refl
full-spared g (Said.OutOfTurn standing) other h = refl
full-spared g (Said.Stopped by) other h = refl
full-spared g Said.LogFault other h = refl

blocked-client-spared : (g : ℕ) (rule : Option ℕ) (pass : Bool) → is_memory (blocked_client g rule pass) ≡ false
blocked-client-spared g rule true = refl
blocked-client-spared g rule false = refl

else-spared : (b : Bool) (cause : Option Cause) → is_memory cause ≡ false → is_memory (if b then None else cause) ≡ false
else-spared true cause h = refl
else-spared false cause h = h

blocked-spared : (g : ℕ) (v : Verdict) → is_memory (blocked g v) ≡ false
blocked-spared g v = else-spared (is_pass v) (Some (Cause.Denied g v)) refl

-- a call of the desk leaves the record that it made
desk-spared : (outer : Outer) (leaves : Bool → TurnResult) (m : TurnResult) → ((logged : Bool) → Spared (leaves logged).left) → call_desk outer leaves ≡ Some m → Spared m.left
desk-spared (Outer.Desk logged) leaves m each h = subst (λ (z : TurnResult). Spared z.left) (one-some (leaves logged) m h) (each logged)
desk-spared Outer.Nothing leaves m each h = cc
desk-spared (Outer.Looked found) leaves m each h = cc
desk-spared (Outer.Up at) leaves m each h = cc
desk-spared Outer.Refused leaves m each h = cc
desk-spared Outer.HostUnreachable leaves m each h = cc
desk-spared Outer.NetUnreachable leaves m each h = cc
desk-spared Outer.Failed leaves m each h = cc

decided-spared : (d : Decision) (refused : Option Cause) (r : Record) → is_memory refused ≡ false → Spared r → Spared (decided d refused r)
decided-spared d refused r h k = first-spared refused r.cause h k

opened-spared : (s : Context) (r : Record) (l : OpenLine) (d : Desked Said) → Spared r → Spared (opened_by s r l d).left
opened-spared s r l d k = first-spared (refusal_said d.said (blocked_client l.generation l.rule l.pass)) r.cause
    (said-spared d.said (blocked_client l.generation l.rule l.pass) (blocked-client-spared l.generation l.rule l.pass)) k

granted-spared : (s : Context) (r : Record) (l : GrantLine) (d : Desked Said) → Spared r → Spared (granted_by s r l d).left
granted-spared s r l d k = first-spared (refusal_full l.generation d.said (blocked l.generation l.verdict)) r.cause
    (full-spared l.generation d.said (blocked l.generation l.verdict) (blocked-spared l.generation l.verdict)) k

came-spared : (s : Context) (r : Record) (l : PeerLine) (d : Desked Said) → Spared r → Spared (came_by s r l d).left
came-spared s r l d k = first-spared (refusal_said d.said (blocked l.generation l.verdict)) r.cause
    (said-spared d.said (blocked l.generation l.verdict) (blocked-spared l.generation l.verdict)) k

open-spared : (s : Context) (r : Record) → Spared r → (logged : Bool) → Spared (call_open s r logged).left
open-spared s r k logged = opened-spared s r (open_line s r) (at_open s.h s.marks s.cap (open_line s r) logged) k

grant-spared : (s : Context) (r : Record) (q : Request) → Spared r → (logged : Bool) → Spared (call_grant s r q logged).left
grant-spared s r q k logged =
    let l = grant_line s r (grant_facts r q) (judge s.config (grant_facts r q)) in
    granted-spared s r l (at_grant s.h s.marks l logged) k

peer-spared : (s : Context) (r : Record) (g : Grant) (peer : Endpoint) → Spared r → (logged : Bool) → Spared (call_peer s r g peer logged).left
peer-spared s r g peer k logged =
    let l = peer_line s r peer (judge s.config (peer_facts r g peer)) in
    came-spared s r l (at_peer s.h s.marks l logged) k

left-spared : (m n : TurnResult) → Some m ≡ Some n → Spared m.left → Spared n.left
left-spared m n h k = subst (λ (z : TurnResult). Spared z.left) (one-some m n h) k

not-found-spared : (found : Option Addr) → is_memory (not_found found) ≡ false
not-found-spared None = refl
not-found-spared (Some a) = refl

lookup-spared : (s : Context) (r : Record) (name : List ℕ) (outer : Outer) (m : TurnResult) → call_lookup s r name outer ≡ Some m → Spared r → Spared m.left
lookup-spared s r name (Outer.Looked found) m h k =
    left-spared (keep s (decided (Decision.Looked name found) (not_found found) r)) m h (decided-spared (Decision.Looked name found) (not_found found) r (not-found-spared found) k)
lookup-spared s r name Outer.Failed m h k =
    left-spared (keep s (decided (Decision.Looked name None) (Some Cause.NetFault) r)) m h (decided-spared (Decision.Looked name None) (Some Cause.NetFault) r refl k)
lookup-spared s r name Outer.Nothing m h k = cc
lookup-spared s r name (Outer.Desk logged) m h k = cc
lookup-spared s r name (Outer.Up at) m h k = cc
lookup-spared s r name Outer.Refused m h k = cc
lookup-spared s r name Outer.HostUnreachable m h k = cc
lookup-spared s r name Outer.NetUnreachable m h k = cc

only-spared : (b : Bool) (m n : TurnResult) → only b m ≡ Some n → Spared m.left → Spared n.left
only-spared true m n h k = left-spared m n h k
only-spared false m n h k = cc

not-reached-spared : (s : Context) (r : Record) (g : Grant) (cause : Cause) → is_memory (Some cause) ≡ false → Spared r → Spared (reached_not s r g cause).left
not-reached-spared s r g cause h k = decided-spared (Decision.Reached (reach_to s.basis r g) None) (Some cause) r h k

reach-spared : (s : Context) (r : Record) (g : Grant) (outer : Outer) (m : TurnResult) → call_reach s r g outer ≡ Some m → Spared r → Spared m.left
reach-spared s r g (Outer.Up at) m h k = left-spared (reached_up s r g at) m h (decided-spared (Decision.Reached (reach_to s.basis r g) (Some at)) None r refl k)
reach-spared s r g Outer.Failed m h k = left-spared (reached_not s r g Cause.NetFault) m h (not-reached-spared s r g Cause.NetFault refl k)
reach-spared s r g Outer.Refused m h k = only-spared (is_connect g) (reached_not s r g Cause.Refused) m h (not-reached-spared s r g Cause.Refused refl k)
reach-spared s r g Outer.HostUnreachable m h k = only-spared (is_connect g) (reached_not s r g Cause.HostUnreachable) m h (not-reached-spared s r g Cause.HostUnreachable refl k)
reach-spared s r g Outer.NetUnreachable m h k = only-spared (is_connect g) (reached_not s r g Cause.NetUnreachable) m h (not-reached-spared s r g Cause.NetUnreachable refl k)
reach-spared s r g Outer.Nothing m h k = cc
reach-spared s r g (Outer.Desk logged) m h k = cc
reach-spared s r g (Outer.Looked found) m h k = cc

peer-with-spared : (s : Context) (r : Record) (g : Grant) (came : Option Endpoint) (outer : Outer) (m : TurnResult) → call_peer_with s r g came outer ≡ Some m → Spared r → Spared m.left
peer-with-spared s r g None outer m h k = cc
peer-with-spared s r g (Some peer) outer m h k = desk-spared outer (call_peer s r g peer) m (peer-spared s r g peer k) h

call-spared : (s : Context) (r : Record) (p : Phase) (came : Option Endpoint) (outer : Outer) (m : TurnResult) → call s r p came outer ≡ Some m → Spared r → Spared m.left
call-spared s r Phase.Accept came outer m h k = desk-spared outer (call_open s r) m (open-spared s r k) h
call-spared s r (Phase.Seek name) came outer m h k = lookup-spared s r name outer m h k
call-spared s r (Phase.Judging q) came outer m h k = desk-spared outer (call_grant s r q) m (grant-spared s r q k) h
call-spared s r (Phase.Reach g) came outer m h k = reach-spared s r g outer m h k
call-spared s r (Phase.Door g) came outer m h k = peer-with-spared s r g came outer m h k
call-spared s r Phase.Ended came outer m h k = cc
call-spared s r Phase.Closing came outer m h k = cc
call-spared s r Phase.Talk came outer m h k = cc
call-spared s r Phase.Asking came outer m h k = cc
call-spared s r Phase.Relay came outer m h k = cc
call-spared s r Phase.Datagrams came outer m h k = cc

-- ---- faults, and what is sent and shut

fault-spared : (o : Object) → is_memory (Some (fault_cause o)) ≡ false
fault-spared Object.Client = refl
fault-spared Object.Target = refl
fault-spared Object.Door = refl
fault-spared Object.Port = refl

guarded-spared : (b : Bool) (r x : Record) → guard b (Some r) ≡ Some x → Spared r → Spared x
guarded-spared true r x h k = subst Spared (one-some r x h) k
guarded-spared false r x h k = cc

with-fault-spared : (fault : Option Object) (unwritten : Bool) (r x : Record) → with_fault fault unwritten r ≡ Some x → Spared r → Spared x
with-fault-spared None unwritten r x h k = guarded-spared (not unwritten) r x h k
with-fault-spared (Some o) unwritten r x h k =
    guarded-spared (is_there r o) (fix (Some (fault_cause o)) r) x h (first-spared (Some (fault_cause o)) r.cause (fault-spared o) k)

with-sent-spared : (basis : Basis) (e : TurnEvent) (r x : Record) → with_sent basis e r ≡ Some x → Spared r → Spared x
with-sent-spared basis e r x h k =
    let k1 = unbind (grown e.sent_c r.sent_c (owed_to_client basis r)) _ x h in
    let k2 = unbind (grown e.sent_t r.sent_t (owed_to_target basis r)) _ x k1.2 in
    let k3 = unbind (grown e.sent_u r.sent_u (owed_datagrams basis r)) _ x k2.2 in
    subst Spared (one-some (record r { sent_c = k1.0; sent_t = k2.0; sent_u = k3.0 }) x k3.2) k

with-shut-spared : (basis : Basis) (e : TurnEvent) (r x : Record) (any : Bool) → elim any [ true ↦ shut_sides basis e r | false ↦ Some r ] ≡ Some x → Spared r → Spared x
with-shut-spared basis e r x true h k =
    guarded-spared _ (settled basis (record r { shut_c = e.shut_c || r.shut_c; shut_t = e.shut_t || r.shut_t })) x h
    (settled-spared basis (record r { shut_c = e.shut_c || r.shut_c; shut_t = e.shut_t || r.shut_t }) k)
with-shut-spared basis e r x false h k = subst Spared (one-some r x h) k

output-spared : (s : Context) (e : TurnEvent) (old r x : Record) → output s e old r ≡ Some x → Spared r → Spared x
output-spared s e old r x h k =
    let h1 = unbind (with_fault e.fault e.unwritten r) _ x (where-true (fault_fits s.basis e.fault e.unwritten r) (output_of s e old r) x h) in
    let h2 = unbind (with_sent s.basis e h1.0) _ x h1.2 in
    let h3 = unbind (with_shut s.basis e h2.0) _ x h2.2 in
    subst Spared (one-some (aged s.basis e old h3.0) x h3.2)
    (with-shut-spared s.basis e h2.0 h3.0 (e.shut_c || e.shut_t) h3.1 (with-sent-spared s.basis e h1.0 h2.0 h2.1 (with-fault-spared e.fault e.unwritten r h1.0 h1.1 k)))

-- ---- the end of a turn

ended-spared : (s : Context) (e : TurnEvent) (calling : Calling) (m n : TurnResult) → ended s e calling m ≡ Some n → Spared m.left → Spared n.left
ended-spared s e calling m n h k = left-spared (marked e.next m) n (where-true (may_end s e m.left calling) (Some (marked e.next m)) n h) k

close-with-spared : (s : Context) (e : TurnEvent) (m n : TurnResult) (cause : Option Cause) (outer : Outer) → close_with s e m cause outer ≡ Some n → Spared m.left → Spared n.left
close-with-spared s e m n (Some cause) (Outer.Desk logged) h k = ended-spared s e Calling.Closed (call_close m.h m.marks m.left cause logged) n h k
close-with-spared s e m n None outer h k = cc
close-with-spared s e m n (Some cause) Outer.Nothing h k = cc
close-with-spared s e m n (Some cause) (Outer.Looked found) h k = cc
close-with-spared s e m n (Some cause) (Outer.Up at) h k = cc
close-with-spared s e m n (Some cause) Outer.Refused h k = cc
close-with-spared s e m n (Some cause) Outer.HostUnreachable h k = cc
close-with-spared s e m n (Some cause) Outer.NetUnreachable h k = cc
close-with-spared s e m n (Some cause) Outer.Failed h k = cc

close-spared : (s : Context) (e : TurnEvent) (m n : TurnResult) → close s e m ≡ Some n → Spared m.left → Spared n.left
close-spared s e m n h k = close-with-spared s e m n (m.left).cause e.outer h k

timed-spared : (s : Context) (e : TurnEvent) (m n : TurnResult) (late : Bool) → elim late [ true ↦ close s e (with_record m (timed_out s e m.left)) | false ↦ None ] ≡ Some n
    → Spared m.left → Spared n.left
timed-spared s e m n true h k = close-spared s e (with_record m (timed_out s e m.left)) n h (first-spared (Some (Cause.TimedOut (m.left).since e.now (limit s.basis s.config m.left))) (m.left).cause refl k)
timed-spared s e m n false h k = cc

due-spared : (s : Context) (e : TurnEvent) (m n : TurnResult) (due : Bool)
    → elim due [ true ↦ close s e m | false ↦ elim (times_out s e m.left) [ true ↦ close s e (with_record m (timed_out s e m.left)) | false ↦ None ] ] ≡ Some n
    → Spared m.left → Spared n.left
due-spared s e m n true h k = close-spared s e m n h k
due-spared s e m n false h k = timed-spared s e m n (times_out s e m.left) h k

uncalled-spared : (s : Context) (e : TurnEvent) (m n : TurnResult) (outer : Outer) → uncalled s e m outer ≡ Some n → Spared m.left → Spared n.left
uncalled-spared s e m n Outer.Nothing h k = ended-spared s e Calling.NoCall m n h k
uncalled-spared s e m n (Outer.Desk logged) h k = due-spared s e m n (close_is_due s e m.left) h k
uncalled-spared s e m n (Outer.Looked found) h k = due-spared s e m n (close_is_due s e m.left) h k
uncalled-spared s e m n (Outer.Up at) h k = due-spared s e m n (close_is_due s e m.left) h k
uncalled-spared s e m n Outer.Refused h k = due-spared s e m n (close_is_due s e m.left) h k
uncalled-spared s e m n Outer.HostUnreachable h k = due-spared s e m n (close_is_due s e m.left) h k
uncalled-spared s e m n Outer.NetUnreachable h k = due-spared s e m n (close_is_due s e m.left) h k
uncalled-spared s e m n Outer.Failed h k = due-spared s e m n (close_is_due s e m.left) h k

-- ---- a turn

without-call-spared : (s : Context) (e : TurnEvent) (old r : Record) (n : TurnResult) → without_call s e old r ≡ Some n → Spared r → Spared n.left
without-call-spared s e old r n h k =
    let h1 = unbind (output s e old r) (λ x. uncalled s e (keep s x) e.outer) n (where-true (may_output s.basis e r) (after_none s e old r) n h) in
    uncalled-spared s e (keep s h1.0) n e.outer h1.2 (output-spared s e old r h1.0 h1.1 k)

after-call-spared : (s : Context) (e : TurnEvent) (old : Record) (m n : TurnResult) → after_call s e old m ≡ Some n → Spared m.left → Spared n.left
after-call-spared s e old m n h k =
    let h1 = unbind (output s e old m.left) (λ x. ended s e Calling.Called (with_record m x)) n h in
    ended-spared s e Calling.Called (with_record m h1.0) n h1.2 (output-spared s e old m.left h1.0 h1.1 k)

proceeds-spared : (s : Context) (e : TurnEvent) (old r : Record) (n : TurnResult) (calls : Bool)
    → elim calls [ true ↦ (call s r (phase s.basis r) e.came e.outer >>= after_call s e old) | false ↦ without_call s e old r ] ≡ Some n → Spared r → Spared n.left
proceeds-spared s e old r n true h k =
    let h1 = unbind (call s r (phase s.basis r) e.came e.outer) (after_call s e old) n h in
    after-call-spared s e old h1.0 n h1.2 (call-spared s r (phase s.basis r) e.came e.outer h1.0 h1.1 k)
proceeds-spared s e old r n false h k = without-call-spared s e old r n h k

ordinary-spared : (s : Context) (e : TurnEvent) (r : Record) (n : TurnResult) → ordinary s e r ≡ Some n → e.memory ≡ false → Spared r → Spared n.left
ordinary-spared s e r n h none k =
    let h1 = unbind (taken s.basis s.generation (s.config).methods e r) (λ x. proceed s e r (with_memory e.memory x)) n h in
    let x : Record = h1.0 in
    proceeds-spared s e r (with_memory e.memory x) n (makes_call s.basis e (with_memory e.memory x) e.outer) h1.2
    (subst (λ (b : Bool). Spared (with_memory b x)) (sym none) (taken-spared s.basis s.generation (s.config).methods e r x h1.1 k))

stop-with-spared : (s : Context) (e : TurnEvent) (r : Record) (opened : Bool) (outer : Outer) (n : TurnResult) → stop_with s e r opened outer ≡ Some n → Spared r → Spared n.left
stop-with-spared s e r true (Outer.Desk logged) n h k = close-spared s e (keep s r) n h k
stop-with-spared s e r false Outer.Nothing n h k =
    left-spared (marked NextMark.Done (keep s r)) n (where-true (mark_eq e.next NextMark.Done) (Some (marked NextMark.Done (keep s r))) n h) k
stop-with-spared s e r true Outer.Nothing n h k = cc
stop-with-spared s e r true (Outer.Looked found) n h k = cc
stop-with-spared s e r true (Outer.Up at) n h k = cc
stop-with-spared s e r true Outer.Refused n h k = cc
stop-with-spared s e r true Outer.HostUnreachable n h k = cc
stop-with-spared s e r true Outer.NetUnreachable n h k = cc
stop-with-spared s e r true Outer.Failed n h k = cc
stop-with-spared s e r false (Outer.Desk logged) n h k = cc
stop-with-spared s e r false (Outer.Looked found) n h k = cc
stop-with-spared s e r false (Outer.Up at) n h k = cc
stop-with-spared s e r false Outer.Refused n h k = cc
stop-with-spared s e r false Outer.HostUnreachable n h k = cc
stop-with-spared s e r false Outer.NetUnreachable n h k = cc
stop-with-spared s e r false Outer.Failed n h k = cc

with-stop-spared : (s : Context) (e : TurnEvent) (r : Record) (stop : Option StopBy) (n : TurnResult) → turn_with s e r stop ≡ Some n → e.memory ≡ false → Spared r → Spared n.left
with-stop-spared s e r None n h none k = ordinary-spared s e r n h none k
with-stop-spared s e r (Some by) n h none k =
    stop-with-spared s e (fix (Some (Cause.Stopped by)) r) (is_opened r.decisions) e.outer n
    (where-true (is_quiet_event e && list_any (stop_by_eq by) s.marks) (stop_with s e (fix (Some (Cause.Stopped by)) r) (is_opened r.decisions) e.outer) n h)
    (first-spared (Some (Cause.Stopped by)) r.cause refl k)

where-false : {A : Type 0} (b : Bool) (x : Option A) (y : A) → elim b [ true ↦ None | false ↦ x ] ≡ Some y → x ≡ Some y
where-false true x y h = cc
where-false false x y h = h

-- A lawful turn whose event has memory enough leaves no such cause on a record that has none.
pub turn-spared : (s : Context) (e : TurnEvent) (r : Record) (n : TurnResult) → turn s e r ≡ Some n → e.memory ≡ false → Spared r → Spared n.left
turn-spared s e r n h none k = with-stop-spared s e r e.stop n (where-false r.done (turn_with s e r e.stop) n h) none k

-- ---- runs

-- an event that is no turn whose memory was short
abbrev pub has_memory : Event → Bool
has_memory (Event.Turn ev) = not ev.memory
has_memory _ = true

found-spared : (rs : List Record) (i : ℕ) (r : Record) → All Spared rs → slice_get rs i ≡ Some r → Spared r
found-spared [] i r h at = cc
found-spared (x ∷ xs) zero r h at = subst Spared (one-some x r at) (All-head Spared x xs h)
found-spared (x ∷ xs) (suc i) r h at = found-spared xs i r (All-tail Spared x xs h) at

numbered-spared : (rs : List Record) (n : ℕ) (r : Record) → All Spared rs → numbered rs n ≡ Some r → Spared r
numbered-spared rs zero r h at = cc
numbered-spared rs (suc i) r h at = found-spared rs i r h at

set-spared : (rs : List Record) (i : ℕ) (r : Record) → All Spared rs → Spared r → All Spared (slice_set rs i r)
set-spared [] i r h k = h
set-spared (x ∷ xs) zero r h k = All-cons Spared r xs k (All-tail Spared x xs h)
set-spared (x ∷ xs) (suc i) r h k = All-cons Spared x (slice_set xs i r) (All-head Spared x xs h) (set-spared xs i r (All-tail Spared x xs h) k)

set-numbered-spared : (rs : List Record) (n : ℕ) (r : Record) → All Spared rs → Spared r → All Spared (set_numbered rs n r)
set-numbered-spared rs zero r h k = h
set-numbered-spared rs (suc i) r h k = set-spared rs i r h k

when-records : (b : Bool) (w x : World) → when b w ≡ Some x → x.records ≡ w.records
when-records true w x h = ap (λ (z : World). z.records) (sym (one-some w x h))
when-records false w x h = cc

stop-records : (w : World) (by : StopBy) (marks : List StopBy) → (stop_set w by marks).records ≡ w.records
stop-records w by [] = refl
stop-records w by (m ∷ ms) = refl

memory-of : (b : Bool) → not b ≡ true → b ≡ false
memory-of true h = cc
memory-of false h = refl

step-spared : (w new : World) (e : Event) → step w e ≡ Some new → has_memory e ≡ true → All Spared w.records → All Spared new.records
step-spared w new (Event.Publish k) h enough all = subst (λ (z : World). All Spared z.records) (one-some (record w { pubs = w.pubs ++ k ∷ [] }) new h) all
step-spared w new (Event.See worker g) h enough all =
    let h1 = unbind (slice_get w.seen worker) (seen_by w worker g) new h in
    subst (All Spared) (sym (when-records _ (record w { seen = slice_set w.seen worker g }) new h1.2)) all
step-spared w new (Event.Open worker number peer local now) h enough all =
    subst (All Spared) (sym (when-records (has_worker w worker && (number == length w.records + 1)) (record w { records = w.records ++ fresh number peer local now ∷ [] }) new h))
    (All-push Spared w.records (fresh number peer local now) all refl)
step-spared w new (Event.Stop by) h enough all =
    subst (λ (z : World). All Spared z.records) (one-some (stop_set w by w.marks) new h) (subst (All Spared) (sym (stop-records w by w.marks)) all)
step-spared w new (Event.Turn ev) h enough all =
    let h1 = unbind (slice_get w.seen ev.worker) (λ g. numbered w.pubs g >>= λ c. numbered w.records ev.number >>= λ r. turn (context_of w g c) ev r >>= λ m. Some (made w ev.number m)) new h in
    let h2 = unbind (numbered w.pubs h1.0) (λ c. numbered w.records ev.number >>= λ r. turn (context_of w h1.0 c) ev r >>= λ m. Some (made w ev.number m)) new h1.2 in
    let h3 = unbind (numbered w.records ev.number) (λ r. turn (context_of w h1.0 h2.0) ev r >>= λ m. Some (made w ev.number m)) new h2.2 in
    let h4 = unbind (turn (context_of w h1.0 h2.0) ev h3.0) (λ m. Some (made w ev.number m)) new h3.2 in
    let m : TurnResult = h4.0 in
    subst (λ (z : World). All Spared z.records) (one-some (made w ev.number m) new h4.2)
    (set-numbered-spared w.records ev.number m.left all
    (turn-spared (context_of w h1.0 h2.0) ev h3.0 m h4.1 (memory-of ev.memory enough) (numbered-spared w.records ev.number h3.0 all h3.1)))

both-hold : (a b : Bool) → a && b ≡ true → (a ≡ true) × (b ≡ true)
both-hold true b h = (refl, h)
both-hold false b h = cc

no-steps : (es : List Event) (w : World) → steps None es ≡ Some w → ⊥
no-steps [] w h = cc
no-steps (e ∷ es) w h = no-steps es w h

steps-spared : (x : Option World) (es : List Event) (new : World) → steps x es ≡ Some new → list_all has_memory es ≡ true → ((w : World) → x ≡ Some w → All Spared w.records)
    → All Spared new.records
steps-spared x [] new h enough all = all new h
steps-spared None (e ∷ es) new h enough all = absurd (no-steps es new h)
steps-spared (Some w) (e ∷ es) new h enough all =
    let k = both-hold (has_memory e) (list_all has_memory es) enough in
    steps-spared (step w e) es new h k.1 (λ x is. step-spared w x e is k.0 (all w refl))

spared-is : (r : Record) → Spared r → r.cause ≢ Some Cause.Memory
spared-is r h is = let e : true ≡ false = sym (ap is_memory is) ∙ h in absurd (cc)

-- Events with memory enough leave no association that ended for want of it.
pub run-spared : (w new : World) (es : List Event) → steps (Some w) es ≡ Some new → list_all has_memory es ≡ true → w.records ≡ []
    → All (λ (r : Record). r.cause ≢ Some Cause.Memory) new.records
run-spared w new es h enough none =
    let all = steps-spared (Some w) es new h enough (λ x is. subst (λ (rs : List Record). All Spared rs) (sym (ap (λ (z : World). z.records) (sym (one-some w x is)) ∙ none)) (All-nil Spared)) in
    λ k d within. spared-is (get_or new.records k d) (all k d within)
