-- The relay of a CONNECT without a proxy: the closed form is a reading turn.
use Rattle.std.proofs.Common.{sym, ℕ, ◌≡◌, refl, Bool, true, false, ◌&&◌, ◌||◌, not, if◌then◌else◌, Option, Some, None, List, [], ◌++◌, length, ap, subst, ◌∙◌, drop, inl, inr, option_and_then, option_map, filter_map}
use Rattle.std.proofs.lemmas.List.{append-nil}
use Rattle.std.proofs.Math.Seq.{drop-append_seam}
use Rattle.addr_pattern.specs.declared.endpoint.Endpoint.{Endpoint}
use Rattle.socks_machine.specs.declared.cause.Cause.{Cause}
use Rattle.socks_grammar.specs.declared.protocol.Command.{Command}
use Rattle.socks_machine.specs.declared.record.Gram.{Gram}
use Rattle.socks_machine.specs.declared.record.Record.{Record}
use Rattle.socks_machine.specs.declared.world.TurnEvent.{TurnEvent}
use Rattle.socks_machine.specs.Basis.{Basis}
use Rattle.socks_machine.specs.Calls.{Context}
use Rattle.socks_machine.specs.Datagrams.{owed_datagrams, fates_at, sent_by}
use Rattle.socks_machine.specs.Decisions.{Grant, granted, reached_at, peer_let_in}
use Rattle.socks_machine.specs.InTurn.{Took, Takes, Takings, takings, Sends, Reading}
use Rattle.socks_machine.specs.Owed.{owed_to_client, owed_to_target, replies_in, granted_replies_in, refusal_of_in, reply_at}
use Rattle.socks_machine.specs.Phase.{Phase, phase, phase_in, way, began_by, began_after_in, relay_began_in, replies_length, client_payload_in, target_payload_in}
use Rattle.socks_machine.specs.Relaying.{RelayFacts, Relaying, MayTake, relayed, due_c, due_t}
use Rattle.socks_machine.specs.Settle.{settled, is_nothing}
use Rattle.socks_machine.specs.Taking.{some_in, reads_target, reads_client, with_client_bytes, meet}
use Rattle.socks_machine.specs.View.{View, view, length_of, split_of, proxy_of, proxy_of_grant, dialogue_of, outcome_with, outcome_of_grant, said_by_grant, said_with}
use Rattle.socks_machine.proofs.ActLaws.{relay-stays}
use Rattle.socks_machine.proofs.TakeLaws.{nothing-in}

-- ---- without a proxy there is no dialogue

pub undialogued : (basis : Basis) (heard : List ℕ) (g : Option Grant) → option_and_then (proxy_of_grant basis) g ≡ None → outcome_of_grant basis heard g ≡ None
undialogued basis heard None h = refl
undialogued basis heard (Some g) h = ap (outcome_with heard g) h

pub unsaid : (basis : Basis) (heard : List ℕ) (g : Option Grant) → option_and_then (proxy_of_grant basis) g ≡ None → said_by_grant basis heard g ≡ []
unsaid basis heard None h = refl
unsaid basis heard (Some g) h = ap (said_with heard g) h

-- a record that differs in these only is in the same phase
pub alike : (basis : Basis) (old : Record) (c t : List ℕ) (end_c end_t : Bool) → proxy_of basis old ≡ None
    → (basis.front).split basis.users (option_map (λ c. c.method) old.chosen) c ≡ split_of basis old
    → phase basis (record old { c = c; t = t; end_c = end_c; end_t = end_t }) ≡ phase basis old
alike basis old c t end_c end_t direct whole = λ i. phase_in (seen i) old
  where
    dialogues : outcome_of_grant basis t (granted old.decisions) ≡ outcome_of_grant basis old.t (granted old.decisions)
    dialogues = undialogued basis t (granted old.decisions) direct ∙ sym (undialogued basis old.t (granted old.decisions) direct)

    seen : (i : 𝕀) → View
    seen i = record (view basis old) { split = whole i; dialogue = dialogues i }

-- ---- what it takes

may-read : (ended some : Bool) → (some ≡ true → ended ≡ false) → some ≡ true → not ended ≡ true
may-read ended some h k = ap not (h k)

or-false : (a b : Bool) → a ≡ false → a || b ≡ b
or-false a b h = ap (λ z. z || b) h

or-true : (a b : Bool) → a ≡ true → b ≡ false → a || b ≡ true
or-true a b h k = ap (λ z. z || b) h

-- one taking of such a relay
relay-took : (basis : Basis) (any : Bool) (reads : Record → Phase → Bool) (change : Record → Record) (r x : Record)
    → (any ≡ true → reads r (phase basis r) ≡ true) → (any ≡ false → x ≡ r) → (any ≡ true → x ≡ settled basis (change r)) → Took basis any reads change r x
relay-took basis true reads change r x may same changed = inr (refl, may refl, changed refl)
relay-took basis false reads change r x may same changed = inl (refl, same refl)

relay-takes : (s : Context) (old : Record) (e : Takings) → RelayFacts s old → old.shut_c && old.shut_t ≡ false
    → e.grams ≡ [] → e.came ≡ None → MayTake old.end_c (some_in e.c) e.end_c → MayTake old.end_t (some_in e.t) e.end_t
    → Takes s.basis s.generation (s.config).methods e old (relayed old e.c e.t e.end_c e.end_t)
relay-takes s old e facts apart grams came may_c may_t = record {
  r1 = r1;
  r2 = r2;
  r3 = r2;
  r4 = r2;
  r5 = r5;
  bytes_t = relay-took s.basis (some_in e.t) reads_target (λ r. record r { t = r.t ++ e.t }) old r1
      (λ any. ap (reads_target old) facts.relays ∙ may-read old.end_t (some_in e.t) may_t.bytes any)
      (λ none. λ i. record old { t = (ap (λ z. old.t ++ z) (nothing-in e.t none) ∙ append-nil old.t) i })
      (λ any. sym (stays old.c (old.t ++ e.t) old.end_c old.end_t refl));
  ends_t = relay-took s.basis e.end_t reads_target (λ r. record r { end_t = true }) r1 r2
      (λ any. ap (reads_target r1) (relays old.c (old.t ++ e.t) old.end_c old.end_t refl) ∙ may-read old.end_t e.end_t may_t.end any)
      (λ none. λ i. record r1 { end_t = or-false e.end_t old.end_t none i })
      (λ any. (λ i. record r1 { end_t = or-true e.end_t old.end_t any (may_t.end any) i }) ∙ sym (stays old.c (old.t ++ e.t) old.end_c true refl));
  grams = inl (ap some_in grams, refl);
  came = ap (λ o. meet s.basis o r2) came;
  bytes_c = relay-took s.basis (some_in e.c) (reads_client s.basis e.idle e.full) (with_client_bytes s.generation (s.config).methods e.c) r2 r5
      (λ any. ap (reads_client s.basis e.idle e.full r2) (relays old.c (old.t ++ e.t) old.end_c (e.end_t || old.end_t) refl) ∙ may-read old.end_c (some_in e.c) may_c.bytes any)
      (λ none. λ i. record r2 { c = (ap (λ z. old.c ++ z) (nothing-in e.c none) ∙ append-nil old.c) i })
      (λ any. sym (ap (settled s.basis) chosen-same ∙ stays (old.c ++ e.c) (old.t ++ e.t) old.end_c (e.end_t || old.end_t) (facts.whole e.c)));
  ends_c = relay-took s.basis e.end_c (reads_client s.basis e.idle e.full) (λ r. record r { end_c = true }) r5 (relayed old e.c e.t e.end_c e.end_t)
      (λ any. ap (reads_client s.basis e.idle e.full r5) (relays (old.c ++ e.c) (old.t ++ e.t) old.end_c (e.end_t || old.end_t) (facts.whole e.c)) ∙ may-read old.end_c e.end_c may_c.end any)
      (λ none. λ i. record r5 { end_c = or-false e.end_c old.end_c none i })
      (λ any. (λ i. record r5 { end_c = or-true e.end_c old.end_c any (may_c.end any) i }) ∙ sym (stays (old.c ++ e.c) (old.t ++ e.t) true (e.end_t || old.end_t) (facts.whole e.c)));
}
  where
    r1 : Record
    r1 = record old { t = old.t ++ e.t }

    r2 : Record
    r2 = record r1 { end_t = e.end_t || old.end_t }

    r5 : Record
    r5 = record r2 { c = old.c ++ e.c }

    relays : (c t : List ℕ) (end_c end_t : Bool) → ((s.basis).front).split (s.basis).users (option_map (λ c. c.method) old.chosen) c ≡ split_of s.basis old
        → phase s.basis (record old { c = c; t = t; end_c = end_c; end_t = end_t }) ≡ Phase.Relay
    relays c t end_c end_t whole = alike s.basis old c t end_c end_t facts.direct whole ∙ facts.relays

    stays : (c t : List ℕ) (end_c end_t : Bool) → ((s.basis).front).split (s.basis).users (option_map (λ c. c.method) old.chosen) c ≡ split_of s.basis old
        → settled s.basis (record old { c = c; t = t; end_c = end_c; end_t = end_t }) ≡ record old { c = c; t = t; end_c = end_c; end_t = end_t }
    stays c t end_c end_t whole = relay-stays s.basis (record old { c = c; t = t; end_c = end_c; end_t = end_t }) (relays c t end_c end_t whole) apart

    chosen-same : with_client_bytes s.generation (s.config).methods e.c r2 ≡ r5
    chosen-same = λ i. record r5 { chosen = facts.choice e.c i }

-- ---- what is owed

reply-same : (s : Context) (old x : Record) (command : Command) (at : Option Endpoint) (more : List ℕ) → RelayFacts s old → x.c ≡ old.c ++ more
    → reply_at (view s.basis x) x command at ≡ reply_at (view s.basis old) old command at
reply-same s old x command None more facts is = refl
reply-same s old x command (Some at) more facts is = ap (λ c. ((s.basis).front).granted c command at) is ∙ facts.success more command at

-- the record in such a relay, with more of both sides
abbrev pub more_of : Record → List ℕ → List ℕ → Bool → Bool → Record
more_of old c t end_c end_t = record old { c = old.c ++ c; t = old.t ++ t; end_c = end_c; end_t = end_t }

way-same : (s : Context) (old : Record) (c t : List ℕ) (end_c end_t : Bool) → RelayFacts s old
    → way (reached_at old.decisions) (dialogue_of s.basis (more_of old c t end_c end_t)) ≡ way (reached_at old.decisions) (dialogue_of s.basis old)
way-same s old c t end_c end_t facts =
    ap (way (reached_at old.decisions)) (undialogued s.basis (old.t ++ t) (granted old.decisions) facts.direct ∙ sym (undialogued s.basis old.t (granted old.decisions) facts.direct))

granted-same : (s : Context) (old : Record) (c t : List ℕ) (end_c end_t : Bool) (g : Option Grant) → RelayFacts s old
    → granted_replies_in (view s.basis (more_of old c t end_c end_t)) (more_of old c t end_c end_t) g ≡ granted_replies_in (view s.basis old) old g
granted-same s old c t end_c end_t None facts = refl
granted-same s old c t end_c end_t (Some g) facts = λ i.
    reply-at (way-same s old c t end_c end_t facts i) i ++ reply-at (peer_let_in old.decisions) i
  where
    reply-at : (at : Option Endpoint) → reply_at (view s.basis (more_of old c t end_c end_t)) (more_of old c t end_c end_t) g.facts.command at ≡ reply_at (view s.basis old) old g.facts.command at
    reply-at at = reply-same s old (more_of old c t end_c end_t) g.facts.command at c facts refl

pub began-same : (s : Context) (old : Record) (c t : List ℕ) (end_c end_t : Bool) (g : Option Grant) → RelayFacts s old
    → began_after_in (view s.basis (more_of old c t end_c end_t)) (more_of old c t end_c end_t) g ≡ began_after_in (view s.basis old) old g
began-same s old c t end_c end_t None facts = refl
began-same s old c t end_c end_t (Some g) facts = ap (λ w. began_by g.facts.command w (peer_let_in old.decisions)) (way-same s old c t end_c end_t facts)

pub relay-owes-c : (s : Context) (old : Record) (c t : List ℕ) (end_c end_t : Bool) → RelayFacts s old → owed_to_client s.basis (more_of old c t end_c end_t) ≡ due_c s old t
relay-owes-c s old c t end_c end_t facts =
    (λ i. ((((s.basis).front).opening old.chosen (facts.passed c i) ++ granted-same s old c t end_c end_t (granted old.decisions) facts i) ++ payload i) ++ refusal i)
    ∙ append-nil (due_c s old t)
  where
    x : Record
    x = more_of old c t end_c end_t

    v : View
    v = view s.basis x

    payload : (if relay_began_in v x then drop (replies_length v.dialogue) x.t else []) ≡ old.t ++ t
    payload = ap (λ b. if b then drop (replies_length v.dialogue) x.t else []) (began-same s old c t end_c end_t (granted old.decisions) facts ∙ facts.began)
        ∙ ap (λ d. drop (replies_length d) x.t) (undialogued s.basis (old.t ++ t) (granted old.decisions) facts.direct)

    refusal : refusal_of_in v x old.cause ≡ []
    refusal = ap (refusal_of_in v x) facts.uncaused

-- a cause owes nothing where the relay has begun
pub relay-owes-caused : (s : Context) (old : Record) (c t : List ℕ) (end_c end_t : Bool) (k : Option Cause) → RelayFacts s old
    → owed_to_client s.basis (record (more_of old c t end_c end_t) { cause = k }) ≡ owed_to_client s.basis (more_of old c t end_c end_t)
relay-owes-caused s old c t end_c end_t k facts = ap (λ z. (replies_in v x ++ (if relay_began_in v x then target_payload_in v x else [])) ++ z) (refused k ∙ sym (refused old.cause))
  where
    x : Record
    x = more_of old c t end_c end_t

    v : View
    v = view s.basis x

    refused : (k : Option Cause) → refusal_of_in v x k ≡ []
    refused None = refl
    refused (Some cause) = ap (λ b. if b then [] else (v.front).refused x.chosen x.c x.decisions v.split v.proxy cause)
        (began-same s old c t end_c end_t (granted old.decisions) facts ∙ facts.began)

pub relay-owes-t : (s : Context) (old : Record) (c t : List ℕ) (end_c end_t : Bool) → RelayFacts s old → owed_to_target s.basis (more_of old c t end_c end_t) ≡ due_t s old c
relay-owes-t s old c t end_c end_t facts =
    ap (λ b. elim b [ true ↦ v.said ++ (if relay_began_in v x then client_payload_in v x else []) | false ↦ [] ]) facts.there
    ∙ (ap (λ b. v.said ++ (if b then client_payload_in v x else [])) (began-same s old c t end_c end_t (granted old.decisions) facts ∙ facts.began)
    ∙ (ap (λ z. z ++ client_payload_in v x) (unsaid s.basis (old.t ++ t) (granted old.decisions) facts.direct)
    ∙ ap (λ z. drop (length_of z) (old.c ++ c)) (facts.whole c)))
  where
    x : Record
    x = more_of old c t end_c end_t

    v : View
    v = view s.basis x

no-fates : (basis : Basis) (r : Record) (g : Option Grant) (at : Option Endpoint) → fates_at basis r [] g at ≡ []
no-fates basis r None at = refl
no-fates basis r (Some g) None = refl
no-fates basis r (Some g) (Some at) = refl

relay-owes-u : (s : Context) (old : Record) (c t : List ℕ) (end_c end_t : Bool) → RelayFacts s old → owed_datagrams s.basis (more_of old c t end_c end_t) ≡ []
relay-owes-u s old c t end_c end_t facts =
    ap (λ ds. filter_map sent_by (fates_at s.basis (more_of old c t end_c end_t) ds (granted old.decisions) (reached_at old.decisions))) facts.grams
    ∙ ap (filter_map sent_by) (no-fates s.basis (more_of old c t end_c end_t) (granted old.decisions) (reached_at old.decisions))

-- ---- the closed form is a reading turn

pub all-sent : (sent due : List ℕ) → sent ≡ due → is_nothing (drop (length sent) due) ≡ true
all-sent sent due h = ap (λ z. is_nothing (drop (length sent) z)) (sym h ∙ sym (append-nil sent)) ∙ ap is_nothing (drop-append_seam sent [])

pub four : (a b c d : Bool) → a ≡ true → b ≡ true → c ≡ false → d ≡ true → a && b && not c && d ≡ true
four a b c d ha hb hc hd = rw (ha, hb, hc, hd) refl

sends-due : {A : Type 0} (before : List A) (n : ℕ) (now due owed : List A) → owed ≡ due → Sends before n now due → Sends before n now owed
sends-due before n now due owed h k = subst (Sends before n now) (sym h) k

nothing-sent : (before now owed : List Gram) (n : ℕ) → before ≡ [] → now ≡ [] → n ≡ 0 → owed ≡ [] → Sends before n now owed
nothing-sent before now owed n hb hn h0 ho =
    record { bytes = []; now' = hn ∙ ap (λ (z : List Gram). z ++ []) (sym hb); count = sym h0; rest = []; owed' = ap (λ (z : List Gram). z ++ []) hn ∙ sym ho }

apart-before : (c t c' t' : Bool) → (c || c') && (t || t') ≡ false → c' && t' ≡ false
apart-before c t false t' h = refl
apart-before c t true false h = refl
apart-before c true true true h = let e : (c || true) && true ≡ true = by-left c in cc
  where
    by-left : (c : Bool) → (c || true) && true ≡ true
    by-left true = refl
    by-left false = refl
apart-before true false true true h = h
apart-before false false true true h = h

pub relaying-reads : (s : Context) (old : Record) (e : TurnEvent) (r : Record) → Relaying s old e r → Reading s old e (relayed old e.c e.t e.end_c e.end_t) r
relaying-reads s old e r h = record {
  going = h.going;
  calm = h.calm;
  takes = relay-takes s old (takings e) h.facts (apart-before e.shut_c e.shut_t old.shut_c old.shut_t (sym (ap (λ z. z.shut_c && z.shut_t) h.is) ∙ h.apart)) h.grams h.came h.takes_c h.takes_t;
  sendings = record {
    c = sends-due old.sent_c e.sent_c r.sent_c (due_c s old e.t) (owed_to_client s.basis a) owes_c h.sends_c;
    t = sends-due old.sent_t e.sent_t r.sent_t (due_t s old e.c) (owed_to_target s.basis a) owes_t h.sends_t;
    u = nothing-sent old.sent_u r.sent_u (owed_datagrams s.basis a) e.sent_u h.facts.sent_u h.sent_u h.no_u
        (relay-owes-u s old e.c e.t (e.end_c || old.end_c) (e.end_t || old.end_t) h.facts);
  };
  shuts = record {
    still = record {
      may_c = λ h1. four _ _ _ _ began (h.shuts_c.ended' h1) (h.shuts_c.first h1) (ap (λ z. is_nothing (drop (length r.sent_c) z)) owes_c ∙ all-sent r.sent_c (due_c s old e.t) (h.shuts_c.all h1));
      may_t = λ h1. four _ _ _ _ began (h.shuts_t.ended' h1) (h.shuts_t.first h1) (ap (λ z. is_nothing (drop (length r.sent_t) z)) owes_t ∙ all-sent r.sent_t (due_t s old e.c) (h.shuts_t.all h1));
      relays = λ h1. alike s.basis old (old.c ++ e.c) (old.t ++ e.t) (e.end_c || old.end_c) (e.end_t || old.end_t) h.facts.direct (h.facts.whole e.c) ∙ h.facts.relays;
    };
    is = h.is;
    apart = h.apart;
  };
}
  where
    a : Record
    a = relayed old e.c e.t e.end_c e.end_t

    owes_c : owed_to_client s.basis a ≡ due_c s old e.t
    owes_c = relay-owes-c s old e.c e.t (e.end_c || old.end_c) (e.end_t || old.end_t) h.facts

    owes_t : owed_to_target s.basis a ≡ due_t s old e.c
    owes_t = relay-owes-t s old e.c e.t (e.end_c || old.end_c) (e.end_t || old.end_t) h.facts

    began : relay_began_in (view s.basis a) a ≡ true
    began = began-same s old e.c e.t (e.end_c || old.end_c) (e.end_t || old.end_t) (granted old.decisions) h.facts ∙ h.facts.began
