-- What one turn carries in a relay without a proxy, in sums.
use Rattle.std.proofs.Common.{◌≡◌, ℕ, ◌≤◌, Bool, true, false, ◌&&◌, ◌||◌, Option, Some, None, List, [], ◌∷◌, ◌++◌, refl, sym, ap, ◌∙◌, length, drop, append_assoc, length-append, arith}
use Rattle.std.proofs.lemmas.List.{append-nil, drop-append-le}
use Rattle.std.proofs.Math.Seq.{drop-append_seam}
use mathlib.Core.List.{IsPrefix}
use Rattle.addr_pattern.specs.declared.endpoint.Endpoint.{Endpoint}
use Rattle.conf_types.specs.declared.entries.Entries.{Entries}
use Rattle.socks_grammar.specs.declared.protocol.Command.{Command}
use Rattle.socks_grammar.specs.declared.user.User.{User}
use Rattle.socks_grammar.specs.Handshake.{version_of}
use Rattle.socks_machine.specs.declared.cause.Cause.{Cause}
use Rattle.socks_machine.specs.declared.cause.StopBy.{StopBy}
use Rattle.socks_machine.specs.declared.lines.Line.{Line}
use Rattle.socks_machine.specs.declared.record.Chosen.{Chosen}
use Rattle.socks_machine.specs.declared.record.Record.{Record}
use Rattle.socks_machine.specs.declared.world.NextMark.{NextMark}
use Rattle.socks_machine.specs.declared.world.Outer.{Outer}
use Rattle.socks_machine.specs.Basis.{Basis}
use Rattle.socks_machine.specs.Calls.{Context}
use Rattle.socks_machine.specs.Decisions.{reached_at}
use Rattle.socks_machine.specs.Relaying.{RelayFacts, Relaying, MayTake, due_c, due_t}
use Rattle.socks_machine.specs.Socks.{socks, success}
use Rattle.socks_machine.specs.Taking.{some_in}
use Rattle.socks_machine.specs.View.{proxy_of}
use Rattle.socks_machine.proofs.RelayLaws.{relay-owes-c, relay-owes-t}
use Rattle.socks_machine.proofs.TakeLaws.{nothing-in}
use Rattle.assoc_core.specs.Plain.{IsPlainRecord, HasAsked, opening_owed, is_login_failed, owed_c, owed_t, plain_to_client, plain_to_target, prelude_of, replies_by}
use Rattle.assoc_core.specs.Turns.{Acts, event_of, context}
use Rattle.assoc_core.proofs.Payload.{opening-stays, prelude-stays, prelude-within, version-stays}
use Rattle.assoc_core.proofs.PlainRecords.{plain-owes-client, plain-owes-target}
use Rattle.assoc_core.proofs.RelayRecords.{carried, is-relayed, carried-plain, owed-caused, plain-relay-facts}

-- ---- lists

pub clash : {A : Type 0} (b : Bool) → b ≡ true → b ≡ false → A
clash true h k = cc
clash false h k = cc

pub sent-on : (before part rest owed : List ℕ) → IsPrefix before owed → part ++ rest ≡ drop (length before) owed → (before ++ part) ++ rest ≡ owed
sent-on before part rest owed h k =
    append_assoc before part rest
    ∙ (ap (λ z. before ++ z) (k ∙ (ap (drop (length before)) (sym h.1) ∙ drop-append_seam before h.0)) ∙ h.1)

nothing-long : (xs : List ℕ) → length xs ≤ 0 → xs ≡ []
nothing-long [] h = refl
nothing-long (x ∷ xs) h = absurd (omega arith)

pub none-left : (before part rest owed : List ℕ) → (before ++ part) ++ rest ≡ owed → before ≡ owed → rest ≡ []
none-left before part rest owed h k = nothing-long rest (omega (arith, length-append (before ++ part) rest, length-append before part, ap length h, ap length k))

pub all-sent : (sent rest owed : List ℕ) → sent ++ rest ≡ owed → rest ≡ [] → sent ≡ owed
all-sent sent rest owed h k = sym (append-nil sent) ∙ (ap (λ z. sent ++ z) (sym k) ∙ h)

-- ---- the sums

-- What is read and sent of both sides, and which sides end and are shut. What is left of the owed bytes is the rest.
pub record Sums (old : Record) (c t part_c rest_c part_t rest_t : List ℕ) (end_c end_t shut_c shut_t : Bool) : Type 0 where
  pub may_c : MayTake old.end_c (some_in c) end_c
  pub may_t : MayTake old.end_t (some_in t) end_t
  pub pending_c : part_c ++ rest_c ≡ drop (length old.sent_c) (plain_to_client (old.c ++ c) (old.t ++ t) old.chosen (reached_at old.decisions) old.cause)
  pub pending_t : part_t ++ rest_t ≡ drop (length old.sent_t) (drop (prelude_of old) (old.c ++ c))
  pub once_c : shut_c ≡ true → old.shut_c ≡ false
  pub once_t : shut_t ≡ true → old.shut_t ≡ false
  pub due_c : shut_c ≡ true → (end_t || old.end_t ≡ true) × (rest_c ≡ [])
  pub due_t : shut_t ≡ true → (end_c || old.end_c ≡ true) × (rest_t ≡ [])

-- the record behind them
abbrev pub summed : Record → List ℕ → List ℕ → List ℕ → List ℕ → Bool → Bool → Bool → Bool → Option Cause → Record
summed old c t part_c part_t end_c end_t shut_c shut_t cause =
    carried old c t (end_c || old.end_c) (end_t || old.end_t) (old.sent_c ++ part_c) (old.sent_t ++ part_t) (shut_c || old.shut_c) (shut_t || old.shut_t) cause

-- a relay without a proxy and without a cause
pub record Begun (basis : Basis) (old : Record) (at : Endpoint) : Type 0 where
  pub plain : IsPlainRecord basis.users old
  pub reaches : reached_at old.decisions ≡ Some at
  pub uncaused : old.cause ≡ None
  pub direct : proxy_of basis old ≡ None

-- without a cause no login has failed
pub unfailed-yet : {basis : Basis} {old : Record} {at : Endpoint} → Begun basis old at → is_login_failed old.cause ≡ false
unfailed-yet b = ap is_login_failed b.uncaused

-- its prelude is whole
pub asked-of : {basis : Basis} {old : Record} {at : Endpoint} → Begun basis old at → HasAsked basis.users old
asked-of {basis} {old} {at} b = (is-relayed basis.users old at b.plain b.reaches).dialled.asked

-- what is owed to the client, closed
closed-c : (c t : List ℕ) (chosen : Option Chosen) (reaches : Option Endpoint) (at : Endpoint) (cause : Option Cause) → reaches ≡ Some at
    → plain_to_client c t chosen reaches cause ≡ (opening_owed c chosen cause ++ success (version_of c) Command.Connect at) ++ t
closed-c c t chosen reaches at cause h = ap (λ z. plain_to_client c t chosen z cause) h ∙ arranged (opening_owed c chosen cause) (success (version_of c) Command.Connect at) t
  where
    arranged : (o s t : List ℕ) → o ++ (s ++ (t ++ [])) ≡ (o ++ s) ++ t
    arranged o s t = simp (append-nil, append_assoc)

-- the replies, and then the target's bytes
pub replies-owe : (c t : List ℕ) (chosen : Option Chosen) (reaches : Option Endpoint) (at : Endpoint) (cause : Option Cause) → reaches ≡ Some at
    → replies_by c chosen cause reaches ++ t ≡ plain_to_client c t chosen reaches cause
replies-owe c t chosen reaches at cause h = ap (λ z. replies_by c chosen cause z ++ t) h ∙ sym (closed-c c t chosen reaches at cause h)

closed-more : {basis : Basis} (old : Record) (at : Endpoint) (c t : List ℕ) → Begun basis old at
    → plain_to_client old.c old.t old.chosen (reached_at old.decisions) old.cause ++ t ≡ plain_to_client (old.c ++ c) (old.t ++ t) old.chosen (reached_at old.decisions) old.cause
closed-more {basis} old at c t b =
    ap (λ z. z ++ t) (closed-c old.c old.t old.chosen (reached_at old.decisions) at old.cause b.reaches)
    ∙ (append_assoc (opening_owed old.c old.chosen old.cause ++ success (version_of old.c) Command.Connect at) old.t t
    ∙ ((λ i. (sym (opening-stays basis.users old c (asked-of b)) i ++ success (sym (version-stays basis.users old c (asked-of b)) i) Command.Connect at) ++ (old.t ++ t))
    ∙ sym (closed-c (old.c ++ c) (old.t ++ t) old.chosen (reached_at old.decisions) at old.cause b.reaches)))

pub prefix-on : (xs ys zs more : List ℕ) → IsPrefix xs ys → ys ++ more ≡ zs → IsPrefix xs zs
prefix-on xs ys zs more h k = (h.0 ++ more, sym (append_assoc xs h.0 more) ∙ (ap (λ z. z ++ more) h.1 ∙ k))

pub sent-c : {basis : Basis} (old : Record) (at : Endpoint) (c t part_c rest_c part_t rest_t : List ℕ) (end_c end_t shut_c shut_t : Bool) (cause : Option Cause) → is_login_failed cause ≡ false → Begun basis old at
    → Sums old c t part_c rest_c part_t rest_t end_c end_t shut_c shut_t
    → (old.sent_c ++ part_c) ++ rest_c ≡ owed_c (summed old c t part_c part_t end_c end_t shut_c shut_t cause)
sent-c old at c t part_c rest_c part_t rest_t end_c end_t shut_c shut_t cause f b k =
    sent-on old.sent_c part_c rest_c _ (prefix-on old.sent_c (owed_c old) _ t b.plain.sent_c (closed-more old at c t b)) k.pending_c
    ∙ owed-caused (old.c ++ c) (old.t ++ t) old.chosen (reached_at old.decisions) at old.cause cause b.reaches (unfailed-yet b ∙ sym f)

drop-more : (n : ℕ) (xs ys : List ℕ) → n ≤ length xs → drop n xs ++ ys ≡ drop n (xs ++ ys)
drop-more n xs ys h = sym (drop-append-le n xs ys h)

pub sent-t : {basis : Basis} (old : Record) (at : Endpoint) (c t part_c rest_c part_t rest_t : List ℕ) (end_c end_t shut_c shut_t : Bool) (cause : Option Cause) → Begun basis old at
    → Sums old c t part_c rest_c part_t rest_t end_c end_t shut_c shut_t
    → (old.sent_t ++ part_t) ++ rest_t ≡ owed_t (summed old c t part_c part_t end_c end_t shut_c shut_t cause)
sent-t {basis} old at c t part_c rest_c part_t rest_t end_c end_t shut_c shut_t cause b k =
    sent-on old.sent_t part_t rest_t _ (prefix-on old.sent_t (owed_t old) _ c b.plain.sent_t (ap (λ z. plain_to_target (prelude_of old) old.c z ++ c) b.reaches ∙ drop-more (prelude_of old) old.c c (prelude-within old))) k.pending_t
    ∙ sym (ap (plain_to_target (prelude_of (record old { c = old.c ++ c })) (old.c ++ c)) b.reaches ∙ ap (λ n. drop n (old.c ++ c)) (prelude-stays basis.users old c (asked-of b)))

-- a shut side was sent all, of a side that has ended
pub shut-c : {basis : Basis} (old : Record) (at : Endpoint) (c t part_c rest_c part_t rest_t : List ℕ) (end_c end_t shut_c shut_t : Bool) → Begun basis old at
    → Sums old c t part_c rest_c part_t rest_t end_c end_t shut_c shut_t → shut_c || old.shut_c ≡ true → (end_t || old.end_t ≡ true) × (rest_c ≡ [])
shut-c old at c t part_c rest_c part_t rest_t end_c end_t true shut_t b k h = k.due_c refl
shut-c {basis} old at c t part_c rest_c part_t rest_t end_c end_t false shut_t b k h = (or-right end_t old.end_t before.0, none-left old.sent_c part_c rest_c (owed_c x) (sent-c old at c t part_c rest_c part_t rest_t end_c end_t false shut_t old.cause (unfailed-yet b) b k) (before.1 ∙ same))
  where
    x : Record
    x = summed old c t part_c part_t end_c end_t false shut_t old.cause

    before : (old.end_t ≡ true) × (old.sent_c ≡ owed_c old)
    before = (is-relayed basis.users old at b.plain b.reaches).dialled.shut_c h

    or-right : (a b : Bool) → b ≡ true → a || b ≡ true
    or-right true b e = refl
    or-right false b e = e

    unsome : (some : Bool) → (some ≡ true → old.end_t ≡ false) → some ≡ false
    unsome true e = clash old.end_t before.0 (e refl)
    unsome false e = refl

    same : owed_c old ≡ owed_c x
    same = sym (append-nil (owed_c old)) ∙ (ap (λ z. owed_c old ++ z) (sym (nothing-in t (unsome (some_in t) k.may_t.bytes))) ∙ closed-more old at c t b)

pub shut-t : {basis : Basis} (old : Record) (at : Endpoint) (c t part_c rest_c part_t rest_t : List ℕ) (end_c end_t shut_c shut_t : Bool) → Begun basis old at
    → Sums old c t part_c rest_c part_t rest_t end_c end_t shut_c shut_t → shut_t || old.shut_t ≡ true → (end_c || old.end_c ≡ true) × (rest_t ≡ [])
shut-t old at c t part_c rest_c part_t rest_t end_c end_t shut_c true b k h = k.due_t refl
shut-t {basis} old at c t part_c rest_c part_t rest_t end_c end_t shut_c false b k h = (or-right end_c old.end_c before.0, none-left old.sent_t part_t rest_t (owed_t x) (sent-t old at c t part_c rest_c part_t rest_t end_c end_t shut_c false old.cause b k) (before.1 ∙ same))
  where
    x : Record
    x = summed old c t part_c part_t end_c end_t shut_c false old.cause

    before : (old.end_c ≡ true) × (old.sent_t ≡ owed_t old)
    before = (is-relayed basis.users old at b.plain b.reaches).dialled.shut_t h

    or-right : (a b : Bool) → b ≡ true → a || b ≡ true
    or-right true b e = refl
    or-right false b e = e

    unsome : (some : Bool) → (some ≡ true → old.end_c ≡ false) → some ≡ false
    unsome true e = clash old.end_c before.0 (e refl)
    unsome false e = refl

    same : owed_t old ≡ owed_t x
    same = ap (λ z. owed_t (record old { c = z })) (sym (append-nil old.c) ∙ ap (λ z. old.c ++ z) (sym (nothing-in c (unsome (some_in c) k.may_c.bytes))))

pub sums-carried : {basis : Basis} (old : Record) (at : Endpoint) (c t part_c rest_c part_t rest_t : List ℕ) (end_c end_t shut_c shut_t : Bool) (cause : Option Cause) → is_login_failed cause ≡ false → Begun basis old at
    → Sums old c t part_c rest_c part_t rest_t end_c end_t shut_c shut_t → (shut_c || old.shut_c) && (shut_t || old.shut_t) ≡ false
    → IsPlainRecord basis.users (summed old c t part_c part_t end_c end_t shut_c shut_t cause)
sums-carried {basis} old at c t part_c rest_c part_t rest_t end_c end_t shut_c shut_t cause f b k apart =
    carried-plain basis.users old at c t (end_c || old.end_c) (end_t || old.end_t) (old.sent_c ++ part_c) (old.sent_t ++ part_t) (shut_c || old.shut_c) (shut_t || old.shut_t) cause b.plain b.reaches f (record {
      sent_c = (rest_c, owes_c);
      sent_t = (rest_t, owes_t);
      apart = apart;
      shut_c = λ h. let g = shut-c old at c t part_c rest_c part_t rest_t end_c end_t shut_c shut_t b k h in (g.0, all-sent _ rest_c _ owes_c g.1);
      shut_t = λ h. let g = shut-t old at c t part_c rest_c part_t rest_t end_c end_t shut_c shut_t b k h in (g.0, all-sent _ rest_t _ owes_t g.1);
    })
  where
    owes_c : (old.sent_c ++ part_c) ++ rest_c ≡ owed_c (summed old c t part_c part_t end_c end_t shut_c shut_t cause)
    owes_c = sent-c old at c t part_c rest_c part_t rest_t end_c end_t shut_c shut_t cause f b k

    owes_t : (old.sent_t ++ part_t) ++ rest_t ≡ owed_t (summed old c t part_c part_t end_c end_t shut_c shut_t cause)
    owes_t = sent-t old at c t part_c rest_c part_t rest_t end_c end_t shut_c shut_t cause b k

-- ---- the turn

-- what such a turn does, without a fault and without a call
abbrev pub sum_acts : List ℕ → List ℕ → List ℕ → List ℕ → Bool → Bool → Bool → Bool → Bool → Bool → Bool → Bool → Acts
sum_acts c t part_c part_t end_c end_t shut_c shut_t idle_c idle_t full_c full_t = record {
  c = c;
  t = t;
  end_c = end_c;
  end_t = end_t;
  outer = Outer.Nothing;
  sent_c = length part_c;
  sent_t = length part_t;
  shut_c = shut_c;
  shut_t = shut_t;
  idle_c = idle_c;
  idle_t = idle_t;
  full_c = full_c;
  full_t = full_t;
  fault = None;
  unwritten = false;
}

pub relays : (users : List User) (pubs : List Entries) (generation : ℕ) (config : Entries) (cap : ℕ) (h : List Line) (marks : List StopBy) (worker number now : ℕ)
    (old : Record) (at : Endpoint) (c t part_c rest_c part_t rest_t : List ℕ) (end_c end_t shut_c shut_t idle_c idle_t full_c full_t : Bool) → Begun (socks users pubs) old at
    → Sums old c t part_c rest_c part_t rest_t end_c end_t shut_c shut_t → (shut_c || old.shut_c) && (shut_t || old.shut_t) ≡ false
    → Relaying (context users pubs generation config cap h marks) old
    (event_of worker number now (sum_acts c t part_c part_t end_c end_t shut_c shut_t idle_c idle_t full_c full_t) NextMark.Going)
    (summed old c t part_c part_t end_c end_t shut_c shut_t old.cause)
relays users pubs generation config cap h marks worker number now old at c t part_c rest_c part_t rest_t end_c end_t shut_c shut_t idle_c idle_t full_c full_t b k apart = record {
  facts = facts;
  going = record { undone = b.plain.undone; unstopped = refl; going = refl };
  calm = record { uncalled = refl; unfailed = refl; written = refl; remembers = refl };
  grams = refl;
  came = refl;
  no_u = refl;
  sent_u = b.plain.sent_u;
  takes_c = k.may_c;
  takes_t = k.may_t;
  sends_c = record { bytes = part_c; now' = refl; count = refl; rest = rest_c; owed' = sends_c };
  sends_t = record { bytes = part_t; now' = refl; count = refl; rest = rest_t; owed' = sends_t };
  shuts_c = record { first = k.once_c; ended' = λ e. (k.due_c e).0; all = λ e. all-sent _ rest_c _ sends_c (k.due_c e).1 };
  shuts_t = record { first = k.once_t; ended' = λ e. (k.due_t e).0; all = λ e. all-sent _ rest_t _ sends_t (k.due_t e).1 };
  is = refl;
  apart = apart;
}
  where
    s : Context
    s = context users pubs generation config cap h marks

    facts : RelayFacts s old
    facts = plain-relay-facts users pubs generation config cap h marks old at b.plain b.reaches b.uncaused b.direct

    x : Record
    x = summed old c t part_c part_t end_c end_t shut_c shut_t old.cause

    plain : IsPlainRecord users x
    plain = sums-carried old at c t part_c rest_c part_t rest_t end_c end_t shut_c shut_t old.cause (unfailed-yet b) b k apart

    sends_c : (old.sent_c ++ part_c) ++ rest_c ≡ due_c s old t
    sends_c = sent-c old at c t part_c rest_c part_t rest_t end_c end_t shut_c shut_t old.cause (unfailed-yet b) b k
        ∙ (sym (plain-owes-client users pubs x plain b.direct) ∙ relay-owes-c s old c t (end_c || old.end_c) (end_t || old.end_t) facts)

    sends_t : (old.sent_t ++ part_t) ++ rest_t ≡ due_t s old c
    sends_t = sent-t old at c t part_c rest_c part_t rest_t end_c end_t shut_c shut_t old.cause b k
        ∙ (sym (plain-owes-target users pubs x plain b.direct) ∙ relay-owes-t s old c t (end_c || old.end_c) (end_t || old.end_t) facts)
