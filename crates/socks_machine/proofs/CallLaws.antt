-- The outer call of a turn, its faults, and its end.
use Rattle.std.proofs.Common.{sym, ℕ, ◌+◌, ◌≡◌, refl, Bool, true, false, ◌&&◌, ◌||◌, not, if◌then◌else◌, Option, Some, None, List, [], ◌++◌, length, ap, subst, ◌∙◌, inl, inr, append_assoc, is_none, filter_map, option_map}
use Rattle.std.proofs.lemmas.List.{append-nil}
use Rattle.addr_pattern.specs.declared.addr.Addr.{Addr}
use Rattle.addr_pattern.specs.declared.endpoint.Endpoint.{Endpoint}
use Rattle.socks_machine.specs.declared.cause.Cause.{Cause}
use Rattle.socks_grammar.specs.declared.protocol.Command.{Command}
use Rattle.socks_machine.specs.declared.record.Gram.{Gram}
use Rattle.socks_machine.specs.declared.record.Decision.{Decision}
use Rattle.socks_machine.specs.declared.record.Record.{Record}
use Rattle.socks_machine.specs.declared.world.Object.{Object}
use Rattle.socks_machine.specs.declared.world.Outer.{Outer}
use Rattle.socks_machine.specs.declared.world.NextMark.{NextMark}
use Rattle.socks_machine.specs.declared.world.TurnEvent.{TurnEvent}
use Rattle.socks_machine.specs.Basis.{Basis}
use Rattle.socks_machine.specs.Calls.{Context, TurnResult, keep, decided, call, call_open, call_lookup, call_grant, call_reach, call_close, reached_up, reached_not, is_connect, only, is_calling}
use Rattle.socks_machine.specs.Datagrams.{owed_datagrams, fates_at, sent_by}
use Rattle.socks_machine.specs.Decisions.{Grant, granted, reached_at, peer_let_in}
use Rattle.socks_machine.specs.Equal.{mark_eq}
use Rattle.socks_grammar.specs.Handshake.{Request}
use Rattle.socks_machine.specs.InTurn.{Takes, takings, Sendings, Grows, Going, Calm, Reading, Called, InTurn, is_call, with_sendings}
use Rattle.socks_machine.specs.Owed.{owed_to_client, owed_to_target, granted_replies_in, refusal_of_in, reply_at, target_by, target_is_there}
use Rattle.socks_machine.specs.Phase.{Phase, phase, relay_began_in, began_by, began_after_in, way, target_payload_in, client_payload_in}
use Rattle.socks_machine.specs.PhaseActs.{lookup_outcome, dial_failure}
use Rattle.socks_machine.specs.Settle.{fix, first_cause}
use Rattle.socks_machine.specs.Taking.{◌>>=◌}
use Rattle.socks_machine.specs.View.{View, view}
use Rattle.socks_machine.specs.Turn.{with_fault, with_memory, guard, is_there, fault_cause, turn, turn_with, proceed, aged, marked, ended, answer_after, is_answer, Calling, with_record, after_call, without_call, after_none, is_mute, took_quantum, may_output, uncalled, fault_fits, close, close_with, close_is_due, times_out, timed_out, limit}
use Rattle.socks_machine.proofs.ActLaws.{sends-more, sendings-over, unshut, shuts-is, sends_to_c, sends_to_t}
use Rattle.socks_machine.proofs.TurnStages.{bind, takes-is, output-is, left, makes-none, makes-some}

-- ---- a reading turn is a turn

pub reading-turn : (s : Context) (old : Record) (e : TurnEvent) (a r : Record) → Reading s old e a r → InTurn s old e a (keep s a) a r
reading-turn s old e a r h = record {
  going = h.going;
  takes = h.takes;
  calls = inl (h.calm.uncalled, ap (λ b. keep s (with_memory b a)) (sym h.calm.remembers));
  faults = ap (λ o. with_fault o e.unwritten a) h.calm.unfailed ∙ ap (λ u. guard (not u) (Some a)) h.calm.written;
  sendings = h.sendings;
  shuts = shuts-is s.basis e (with_sendings a r) r h.shuts;
}

-- nothing failed
pub calm-fits : (basis : Basis) (outer : Outer) (fault : Option Object) (unwritten memory : Bool) (r : Record) → Calm outer fault unwritten memory → fault_fits basis fault unwritten r ≡ true
calm-fits basis outer fault unwritten memory r h = ap (λ f. fault_fits basis f unwritten r) h.unfailed

-- ---- before anything was reached

-- nothing is reached, and no cause is fixed
pub record Early (r : Record) : Type 0 where
  pub uncaused : r.cause ≡ None
  pub unreached : reached_at r.decisions ≡ None
  pub peerless : peer_let_in r.decisions ≡ None

no-reply : (v : View) (r : Record) (g : Option Grant) → Early r → granted_replies_in v r g ≡ []
no-reply v r None h = refl
no-reply v r (Some g) h =
    ap (λ at. reply_at v r g.facts.command (way at v.dialogue) ++ reply_at v r g.facts.command (peer_let_in r.decisions)) h.unreached
    ∙ ap (λ peer. [] ++ reply_at v r g.facts.command peer) h.peerless

no-began-by : (command : Command) → began_by command None None ≡ false
no-began-by Command.Connect = refl
no-began-by Command.Bind = refl
no-began-by Command.UdpAssociate = refl
no-began-by Command.BindReply = refl
no-began-by Command.UdpReply = refl

no-relay : (v : View) (r : Record) (g : Option Grant) → Early r → began_after_in v r g ≡ false
no-relay v r None h = refl
no-relay v r (Some g) h =
    ap (λ at. began_by g.facts.command (way at v.dialogue) (peer_let_in r.decisions)) h.unreached
    ∙ (ap (λ peer. began_by g.facts.command None peer) h.peerless ∙ no-began-by g.facts.command)

no-target-by : (b : Bool) (command : Command) → b && target_by None None command ≡ false
no-target-by true Command.Connect = refl
no-target-by true Command.Bind = refl
no-target-by true Command.UdpAssociate = refl
no-target-by true Command.BindReply = refl
no-target-by true Command.UdpReply = refl
no-target-by false command = refl

no-target : (r : Record) (g : Option Grant) → Early r → target_is_there r g ≡ false
no-target r None h = refl
no-target r (Some g) h =
    ap (λ at. is_none g.refused && target_by at (peer_let_in r.decisions) g.facts.command) h.unreached
    ∙ (ap (λ peer. is_none g.refused && target_by None peer g.facts.command) h.peerless ∙ no-target-by (is_none g.refused) g.facts.command)

no-fates : (basis : Basis) (r : Record) (g : Option Grant) → fates_at basis r r.grams g None ≡ []
no-fates basis r None = refl
no-fates basis r (Some g) = refl

arranged : (o g p q : List ℕ) → ((o ++ []) ++ [] ++ []) ++ (g ++ (p ++ q)) ≡ (o ++ g) ++ p ++ q
arranged o g p q = simp (append-nil, append_assoc)

-- what is owed early, but for the replies to a grant and what follows them
early-owed : (basis : Basis) (r : Record) → Early r
    → owed_to_client basis r ≡ (((basis.front).opening r.chosen (view basis r).login_passed ++ []) ++ [] ++ [])
early-owed basis r h =
    ap (λ g. (o ++ g) ++ (if relay_began_in v r then target_payload_in v r else []) ++ refusal_of_in v r r.cause) (no-reply v r (granted r.decisions) h)
    ∙ (ap (λ b. (o ++ []) ++ (if b then target_payload_in v r else []) ++ refusal_of_in v r r.cause) (no-relay v r (granted r.decisions) h)
    ∙ ap (λ k. (o ++ []) ++ [] ++ refusal_of_in v r k) h.uncaused)
  where
    v : View
    v = view basis r

    o : List ℕ
    o = (basis.front).opening r.chosen (view basis r).login_passed

pub nothing-to-target : (basis : Basis) (r : Record) → Early r → owed_to_target basis r ≡ []
nothing-to-target basis r h = ap (λ b. elim b [ true ↦ (view basis r).said ++ (if relay_began_in (view basis r) r then client_payload_in (view basis r) r else []) | false ↦ [] ])
    (no-target r (granted r.decisions) h)

-- What is owed early stays owed, whatever is decided and whatever cause is fixed.
pub early-grows : (basis : Basis) (r : Record) (ds : List Decision) (cause : Option Cause) (end_c : Bool) → Early r → Grows basis r (record r { decisions = ds; cause = cause; end_c = end_c })
early-grows basis r ds cause end_c h = record {
  to_client = (
    granted_replies_in (view basis x) x (granted ds) ++ ((if relay_began_in (view basis x) x then target_payload_in (view basis x) x else []) ++ refusal_of_in (view basis x) x cause),
    ap (λ z. z ++ (granted_replies_in (view basis x) x (granted ds) ++ ((if relay_began_in (view basis x) x then target_payload_in (view basis x) x else []) ++ refusal_of_in (view basis x) x cause))) (early-owed basis r h)
        ∙ arranged ((basis.front).opening r.chosen (view basis r).login_passed) (granted_replies_in (view basis x) x (granted ds))
        (if relay_began_in (view basis x) x then target_payload_in (view basis x) x else []) (refusal_of_in (view basis x) x cause),
  );
  to_target = (owed_to_target basis x, ap (λ (z : List ℕ). z ++ owed_to_target basis x) (nothing-to-target basis r h));
  datagrams = (owed_datagrams basis x, ap (λ (z : List Gram). z ++ owed_datagrams basis x) nothing-to-port);
}
  where
    x : Record
    x = record r { decisions = ds; cause = cause; end_c = end_c }

    nothing-to-port : owed_datagrams basis r ≡ []
    nothing-to-port = ap (λ at. filter_map sent_by (fates_at basis r r.grams (granted r.decisions) at)) h.unreached
        ∙ ap (filter_map sent_by) (no-fates basis r (granted r.decisions))

-- ---- the outer call

-- the call that the phase in hand has to make
pub calling : (s : Context) (old : Record) (e : TurnEvent) (a r : Record) (o : Outer) (ds : List Decision) (cause : Option Cause) (m : TurnResult) → Reading s old e a r
    → e.shut_c ≡ false → e.shut_t ≡ false → Early a → Called s o e.came a m → m.left ≡ record a { decisions = ds; cause = cause }
    → InTurn s old (record e { outer = o }) a m m.left (with_sendings m.left r)
calling s old e a r o ds cause m h open_c open_t early called is = record {
  going = h.going;
  takes = h.takes;
  calls = inr (subst (λ (z : Record). Called s o e.came z m) (ap (λ b. with_memory b a) (sym h.calm.remembers)) called);
  faults = ap (λ f. with_fault f e.unwritten m.left) h.calm.unfailed ∙ ap (λ u. guard (not u) (Some m.left)) h.calm.written;
  sendings = subst (λ (z : Record). Sendings s.basis e.sent_c e.sent_t e.sent_u z r.sent_c r.sent_t r.sent_u) (sym is)
      (sendings-over s.basis e.sent_c e.sent_t e.sent_u a r (record a { decisions = ds; cause = cause }) h.sendings (early-grows s.basis a ds cause a.end_c early));
  shuts = unshut s.basis (record e { outer = o }) (with_sendings m.left r) open_c open_t;
}

-- the desk opens
pub opens : (s : Context) (a : Record) (came : Option Endpoint) (logged : Bool) → phase s.basis a ≡ Phase.Accept → Called s (Outer.Desk logged) came a (call_open s a logged)
opens s a came logged at = record { some = refl; due = ap (λ p. is_calling p came) at; made = ap (λ p. call s a p came (Outer.Desk logged)) at }

-- the desk grants, or blocks
pub grants : (s : Context) (a : Record) (came : Option Endpoint) (q : Request) (logged : Bool) → phase s.basis a ≡ Phase.Judging q
    → Called s (Outer.Desk logged) came a (call_grant s a q logged)
grants s a came q logged at = record { some = refl; due = ap (λ p. is_calling p came) at; made = ap (λ p. call s a p came (Outer.Desk logged)) at }

-- the dial is up
pub dials : (s : Context) (a : Record) (came : Option Endpoint) (g : Grant) (local : Endpoint) → phase s.basis a ≡ Phase.Reach g
    → Called s (Outer.Up local) came a (reached_up s a g local)
dials s a came g local at = record { some = refl; due = ap (λ p. is_calling p came) at; made = ap (λ p. call s a p came (Outer.Up local)) at }

-- a lookup that came out so is a call, and this is its result
seeks-by : (s : Context) (a : Record) (name : List ℕ) (outer : Outer) (found : Option Addr) (cause : Option Cause) → lookup_outcome outer ≡ Some (found, cause)
    → (is_call outer ≡ true) × (call_lookup s a name outer ≡ Some (keep s (decided (Decision.Looked name found) cause a)))
seeks-by s a name Outer.Nothing found cause is = absurd (cc)
seeks-by s a name (Outer.Desk logged) found cause is = absurd (cc)
seeks-by s a name (Outer.Looked addr) found cause is = (refl, ap (option_map (λ (o : Option Addr × Option Cause). keep s (decided (Decision.Looked name o.0) o.1 a))) is)
seeks-by s a name (Outer.Up at) found cause is = absurd (cc)
seeks-by s a name Outer.Refused found cause is = absurd (cc)
seeks-by s a name Outer.HostUnreachable found cause is = absurd (cc)
seeks-by s a name Outer.NetUnreachable found cause is = absurd (cc)
seeks-by s a name Outer.Failed found cause is = (refl, ap (option_map (λ (o : Option Addr × Option Cause). keep s (decided (Decision.Looked name o.0) o.1 a))) is)

-- the name is looked up
pub looks-up : (s : Context) (a : Record) (came : Option Endpoint) (name : List ℕ) (outer : Outer) (found : Option Addr) (cause : Option Cause) → phase s.basis a ≡ Phase.Seek name
    → lookup_outcome outer ≡ Some (found, cause) → Called s outer came a (keep s (decided (Decision.Looked name found) cause a))
looks-up s a came name outer found cause at is = record {
  some = (seeks-by s a name outer found cause is).0;
  due = ap (λ p. is_calling p came) at;
  made = ap (λ p. call s a p came outer) at ∙ (seeks-by s a name outer found cause is).1;
}

-- .. and so of a CONNECT's dial that failed
fails-by : (s : Context) (a : Record) (g : Grant) (outer : Outer) (cause : Cause) → is_connect g ≡ true → dial_failure outer ≡ Some cause
    → (is_call outer ≡ true) × (call_reach s a g outer ≡ Some (reached_not s a g cause))
fails-by s a g Outer.Nothing cause connects is = absurd (cc)
fails-by s a g (Outer.Desk logged) cause connects is = absurd (cc)
fails-by s a g (Outer.Looked found) cause connects is = absurd (cc)
fails-by s a g (Outer.Up at) cause connects is = absurd (cc)
fails-by s a g Outer.Refused cause connects is =
    (refl, ap (λ b. only b (reached_not s a g Cause.Refused)) connects ∙ ap (option_map (reached_not s a g)) is)
fails-by s a g Outer.HostUnreachable cause connects is =
    (refl, ap (λ b. only b (reached_not s a g Cause.HostUnreachable)) connects ∙ ap (option_map (reached_not s a g)) is)
fails-by s a g Outer.NetUnreachable cause connects is =
    (refl, ap (λ b. only b (reached_not s a g Cause.NetUnreachable)) connects ∙ ap (option_map (reached_not s a g)) is)
fails-by s a g Outer.Failed cause connects is = (refl, ap (option_map (reached_not s a g)) is)

-- the dial of a CONNECT fails
pub fails : (s : Context) (a : Record) (came : Option Endpoint) (g : Grant) (outer : Outer) (cause : Cause) → phase s.basis a ≡ Phase.Reach g → is_connect g ≡ true
    → dial_failure outer ≡ Some cause → Called s outer came a (reached_not s a g cause)
fails s a came g outer cause at connects is = record {
  some = (fails-by s a g outer cause connects is).0;
  due = ap (λ p. is_calling p came) at;
  made = ap (λ p. call s a p came outer) at ∙ (fails-by s a g outer cause connects is).1;
}

-- ---- faults

-- a call on an object that is there has failed, and no side was shut
pub faulting : (s : Context) (old : Record) (e : TurnEvent) (a : Record) (m : TurnResult) (r : Record) (o : Object) (unwritten : Bool) → InTurn s old e a m m.left r
    → is_there m.left o ≡ true → Grows s.basis m.left (fix (Some (fault_cause o)) m.left) → e.shut_c ≡ false → e.shut_t ≡ false
    → InTurn s old (record e { fault = Some o; unwritten = unwritten }) a m (fix (Some (fault_cause o)) m.left) (with_sendings (fix (Some (fault_cause o)) m.left) r)
faulting s old e a m r o unwritten h there grows open_c open_t = record {
  going = h.going;
  takes = h.takes;
  calls = h.calls;
  faults = ap (λ b. guard b (Some (fix (Some (fault_cause o)) m.left))) there;
  sendings = sendings-over s.basis e.sent_c e.sent_t e.sent_u m.left r (fix (Some (fault_cause o)) m.left) h.sendings grows;
  shuts = unshut s.basis (record e { fault = Some o; unwritten = unwritten }) (with_sendings (fix (Some (fault_cause o)) m.left) r) open_c open_t;
}

-- a call on the client has failed before anything was reached
pub client-fails : (s : Context) (old : Record) (e : TurnEvent) (a r : Record) (unwritten : Bool) → Reading s old e a r → Early a → e.shut_c ≡ false → e.shut_t ≡ false
    → InTurn s old (record e { fault = Some Object.Client; unwritten = unwritten }) a (keep s a) (fix (Some Cause.ClientFault) a) (with_sendings (fix (Some Cause.ClientFault) a) r)
client-fails s old e a r unwritten h early open_c open_t =
    faulting s old e a (keep s a) r Object.Client unwritten (reading-turn s old e a r h) refl (early-grows s.basis a a.decisions (fix (Some Cause.ClientFault) a).cause a.end_c early) open_c open_t

-- memory was refused before anything was reached
pub wants-memory : (s : Context) (old : Record) (e : TurnEvent) (a r : Record) → Reading s old e a r → Early a → e.shut_c ≡ false → e.shut_t ≡ false
    → InTurn s old (record e { memory = true }) a (keep s (fix (Some Cause.Memory) a)) (fix (Some Cause.Memory) a) (with_sendings (fix (Some Cause.Memory) a) r)
wants-memory s old e a r h early open_c open_t = record {
  going = h.going;
  takes = h.takes;
  calls = inl (h.calm.uncalled, refl);
  faults = ap (λ f. with_fault f e.unwritten (fix (Some Cause.Memory) a)) h.calm.unfailed ∙ ap (λ u. guard (not u) (Some (fix (Some Cause.Memory) a))) h.calm.written;
  sendings = sendings-over s.basis e.sent_c e.sent_t e.sent_u a r (fix (Some Cause.Memory) a) h.sendings (early-grows s.basis a a.decisions (fix (Some Cause.Memory) a).cause a.end_c early);
  shuts = unshut s.basis (record e { memory = true }) (with_sendings (fix (Some Cause.Memory) a) r) open_c open_t;
}

-- ---- sending behind a call or a fault

pub sending-c : (s : Context) (old : Record) (e : TurnEvent) (a : Record) (m : TurnResult) (d r : Record) (bytes rest : List ℕ) → InTurn s old e a m d r
    → (r.sent_c ++ bytes) ++ rest ≡ owed_to_client s.basis d → e.shut_c ≡ false → e.shut_t ≡ false
    → InTurn s old (record e { sent_c = e.sent_c + length bytes }) a m d (with_sendings d (sends_to_c r bytes))
sending-c s old e a m d r bytes rest h owed open_c open_t = record {
  going = h.going;
  takes = h.takes;
  calls = h.calls;
  faults = h.faults;
  sendings = record { c = sends-more d.sent_c e.sent_c r.sent_c (owed_to_client s.basis d) bytes rest h.sendings.c owed; t = h.sendings.t; u = h.sendings.u };
  shuts = unshut s.basis (record e { sent_c = e.sent_c + length bytes }) (with_sendings d (sends_to_c r bytes)) open_c open_t;
}

pub sending-t : (s : Context) (old : Record) (e : TurnEvent) (a : Record) (m : TurnResult) (d r : Record) (bytes rest : List ℕ) → InTurn s old e a m d r
    → (r.sent_t ++ bytes) ++ rest ≡ owed_to_target s.basis d → e.shut_c ≡ false → e.shut_t ≡ false
    → InTurn s old (record e { sent_t = e.sent_t + length bytes }) a m d (with_sendings d (sends_to_t r bytes))
sending-t s old e a m d r bytes rest h owed open_c open_t = record {
  going = h.going;
  takes = h.takes;
  calls = h.calls;
  faults = h.faults;
  sendings = record { c = h.sendings.c; t = sends-more d.sent_t e.sent_t r.sent_t (owed_to_target s.basis d) bytes rest h.sendings.t owed; u = h.sendings.u };
  shuts = unshut s.basis (record e { sent_t = e.sent_t + length bytes }) (with_sendings d (sends_to_t r bytes)) open_c open_t;
}

-- ---- the end of a turn

mark-same : (n : NextMark) → mark_eq n n ≡ true
mark-same NextMark.Going = refl
mark-same NextMark.Wait = refl
mark-same NextMark.Again = refl
mark-same NextMark.Done = refl

pub or-right : (a : Bool) → a || true ≡ true
or-right true = refl
or-right false = refl

-- a turn may end with the answer that is due
ends-with : (s : Context) (e : TurnEvent) (n : NextMark) (k : Calling) (m : TurnResult) → answer_after s e m.left k ≡ Some n
    → ended s (record e { next = n }) k m ≡ Some (marked n m)
ends-with s e n k m h =
    ap (λ b. elim b [ true ↦ Some (marked n m) | false ↦ None ])
    (ap (λ a. mark_eq n NextMark.Going || is_answer a n) (h' k h) ∙ (ap (λ b. mark_eq n NextMark.Going || b) (mark-same n) ∙ or-right (mark_eq n NextMark.Going)))
  where
    h' : (k : Calling) → answer_after s e m.left k ≡ Some n → answer_after s (record e { next = n }) m.left k ≡ Some n
    h' Calling.NoCall h = h
    h' Calling.Called h = h
    h' Calling.Closed h = h

until-call : (s : Context) (old : Record) (e : TurnEvent) (a : Record) (z : Option TurnResult) → Going old.done e.stop NextMark.Going
    → Takes s.basis s.generation (s.config).methods (takings e) old a → proceed s e old (with_memory e.memory a) ≡ z → turn s e old ≡ z
until-call s old e a z going takes k =
    ap (λ b. elim b [ true ↦ None | false ↦ turn_with s e old e.stop ]) going.undone
    ∙ (ap (turn_with s e old) going.unstopped ∙ bind _ _ a _ (takes-is s.basis s.generation (s.config).methods e old a takes) k)

-- a turn without a call ends with the answer that is due
pub answers : (s : Context) (old : Record) (e : TurnEvent) (a d r : Record) (n : NextMark) → InTurn s old e a (keep s (with_memory e.memory a)) d r → e.outer ≡ Outer.Nothing
    → may_output s.basis e (with_memory e.memory a) ≡ true → fault_fits s.basis e.fault e.unwritten (with_memory e.memory a) ≡ true → answer_after s e (aged s.basis e old r) Calling.NoCall ≡ Some n
    → turn s (record e { next = n }) old ≡ Some (marked n (keep s (aged s.basis e old r)))
answers s old e a d r n h nothing first fits due =
    until-call s old (record e { next = n }) a _ (record { undone = h.going.undone; unstopped = h.going.unstopped; going = refl }) h.takes
    (ap (λ b. elim b [ true ↦ (call s x (phase s.basis x) e.came e.outer >>= after_call s (record e { next = n }) old) | false ↦ without_call s (record e { next = n }) old x ])
    (makes-none s.basis (record e { next = n }) x e.outer nothing)
    ∙ ap (λ b. elim b [ true ↦ after_none s (record e { next = n }) old x | false ↦ None ]) first
    ∙ bind _ _ (aged s.basis e old r) _ (output-is s old (record e { next = n }) x d r fits h.faults h.sendings h.shuts)
    (ap (uncalled s (record e { next = n }) (keep s (aged s.basis e old r))) nothing ∙ ends-with s e n Calling.NoCall (keep s (aged s.basis e old r)) due))
  where
    x : Record
    x = with_memory e.memory a

-- a turn that has called ends with Again, or with Done where no open passed
pub answers-call : (s : Context) (old : Record) (e : TurnEvent) (a : Record) (m : TurnResult) (d r : Record) (n : NextMark) → InTurn s old e a m d r
    → Called s e.outer e.came (with_memory e.memory a) m → fault_fits s.basis e.fault e.unwritten m.left ≡ true
    → answer_after s e (aged s.basis e old r) Calling.Called ≡ Some n
    → turn s (record e { next = n }) old ≡ Some (marked n (left s old e m r))
answers-call s old e a m d r n h called fits due =
    until-call s old (record e { next = n }) a _ (record { undone = h.going.undone; unstopped = h.going.unstopped; going = refl }) h.takes
    (ap (λ b. elim b [ true ↦ (call s x (phase s.basis x) e.came e.outer >>= after_call s (record e { next = n }) old) | false ↦ without_call s (record e { next = n }) old x ])
    (makes-some s.basis (record e { next = n }) x e.outer called.some ∙ called.due)
    ∙ bind _ _ m _ called.made
    (bind _ _ (aged s.basis e old r) _ (output-is s old (record e { next = n }) m.left d r fits h.faults h.sendings h.shuts)
    (ends-with s e n Calling.Called (left s old e m r) due)))
  where
    x : Record
    x = with_memory e.memory a

pub or-not : (a b c : Bool) → b ≡ false → a || not b || c ≡ true
or-not true b c h = refl
or-not false true c h = cc
or-not false false c h = refl

-- the event of a turn that closes
abbrev pub closing : TurnEvent → Bool → TurnEvent
closing e logged = record e { outer = Outer.Desk logged; next = NextMark.Done }

-- a turn in a phase that has no call to make closes, where its close is due
pub closes : (s : Context) (old : Record) (e : TurnEvent) (a d r : Record) (cause : Cause) (logged : Bool) → InTurn s old e a (keep s (with_memory e.memory a)) d r
    → is_calling (phase s.basis (with_memory e.memory a)) e.came ≡ false → fault_fits s.basis e.fault e.unwritten (with_memory e.memory a) ≡ true
    → close_is_due s e (aged s.basis e old r) ≡ true → r.cause ≡ Some cause
    → turn s (closing e logged) old ≡ Some (marked NextMark.Done (call_close s.h s.marks (aged s.basis e old r) cause logged))
closes s old e a d r cause logged h calls_none fits due fixed =
    until-call s old (closing e logged) a _ (record { undone = h.going.undone; unstopped = h.going.unstopped; going = refl }) h.takes
    (ap (λ b. elim b [ true ↦ (call s x (phase s.basis x) e.came (Outer.Desk logged) >>= after_call s (closing e logged) old) | false ↦ without_call s (closing e logged) old x ]) calls_none
    ∙ ap (λ b. elim b [ true ↦ after_none s (closing e logged) old x | false ↦ None ]) (or-not (is_mute e) (is_calling (phase s.basis x) e.came) (took_quantum e) calls_none)
    ∙ bind _ _ (aged s.basis e old r) _ (output-is s old (closing e logged) x d r fits h.faults h.sendings h.shuts)
    (ap (λ b. elim b [
      | true ↦ close s (closing e logged) (keep s (aged s.basis e old r))
      | false ↦ elim (times_out s (closing e logged) (aged s.basis e old r)) [
        | true ↦ close s (closing e logged) (with_record (keep s (aged s.basis e old r)) (timed_out s (closing e logged) (aged s.basis e old r)))
        | false ↦ None
      ]
    ]) due
    ∙ ap (λ k. close_with s (closing e logged) (keep s (aged s.basis e old r)) k (Outer.Desk logged)) fixed))
  where
    x : Record
    x = with_memory e.memory a

-- a turn that rests when its time is over closes
pub closes-late : (s : Context) (old : Record) (e : TurnEvent) (a d r : Record) (logged : Bool) → InTurn s old e a (keep s (with_memory e.memory a)) d r
    → is_calling (phase s.basis (with_memory e.memory a)) e.came ≡ false → fault_fits s.basis e.fault e.unwritten (with_memory e.memory a) ≡ true
    → close_is_due s e (aged s.basis e old r) ≡ false → times_out s e (aged s.basis e old r) ≡ true → r.cause ≡ None
    → turn s (closing e logged) old ≡ Some (marked NextMark.Done (call_close s.h s.marks (timed_out s e (aged s.basis e old r))
    (Cause.TimedOut (aged s.basis e old r).since e.now (limit s.basis s.config (aged s.basis e old r))) logged))
closes-late s old e a d r logged h calls_none fits undue late uncaused =
    until-call s old (closing e logged) a _ (record { undone = h.going.undone; unstopped = h.going.unstopped; going = refl }) h.takes
    (ap (λ b. elim b [ true ↦ (call s x (phase s.basis x) e.came (Outer.Desk logged) >>= after_call s (closing e logged) old) | false ↦ without_call s (closing e logged) old x ]) calls_none
    ∙ ap (λ b. elim b [ true ↦ after_none s (closing e logged) old x | false ↦ None ]) (or-not (is_mute e) (is_calling (phase s.basis x) e.came) (took_quantum e) calls_none)
    ∙ bind _ _ (aged s.basis e old r) _ (output-is s old (closing e logged) x d r fits h.faults h.sendings h.shuts)
    (ap (λ b. elim b [
      | true ↦ close s (closing e logged) (keep s (aged s.basis e old r))
      | false ↦ elim (times_out s (closing e logged) (aged s.basis e old r)) [
        | true ↦ close s (closing e logged) (with_record (keep s (aged s.basis e old r)) (timed_out s (closing e logged) (aged s.basis e old r)))
        | false ↦ None
      ]
    ]) undue
    ∙ (ap (λ b. elim b [
      | true ↦ close s (closing e logged) (with_record (keep s (aged s.basis e old r)) (timed_out s (closing e logged) (aged s.basis e old r)))
      | false ↦ None
    ]) late
    ∙ ap (λ k. close_with s (closing e logged) (with_record (keep s (aged s.basis e old r)) (timed_out s (closing e logged) (aged s.basis e old r)))
    (first_cause (Some (Cause.TimedOut (aged s.basis e old r).since e.now (limit s.basis s.config (aged s.basis e old r)))) k) (Outer.Desk logged)) uncaused)))
  where
    x : Record
    x = with_memory e.memory a
