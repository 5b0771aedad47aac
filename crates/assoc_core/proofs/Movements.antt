-- What has moved of an association, and what the machine says of its moment and its limit of time.
use Rattle.std.proofs.Common.{◌≡◌, ℕ, zero, suc, ◌+◌, ◌==◌, Bool, true, false, ◌&&◌, ◌||◌, ◌-◌, not, if◌then◌else◌, nat_le, nat_lt, Option, Some, None, List, [], ◌∷◌, ◌++◌, refl, sym, ap, ◌∙◌, length, length-append, is_some, option_and_then, arith, le-leb}
use Rattle.std.proofs.lemmas.Bool.{eq-eqb, ne_eqb}
use Rattle.addr_pattern.specs.declared.endpoint.Endpoint.{Endpoint}
use Rattle.conf_types.specs.declared.entries.Entries.{Entries}
use Rattle.socks_grammar.specs.declared.protocol.Command.{Command}
use Rattle.socks_grammar.specs.declared.user.User.{User}
use Rattle.socks_machine.specs.declared.record.Record.{Record}
use Rattle.socks_machine.specs.declared.world.NextMark.{NextMark}
use Rattle.socks_machine.specs.Basis.{Basis}
use Rattle.socks_machine.specs.Decisions.{Grant, granted, reached_at, peer_let_in}
use Rattle.socks_machine.specs.Phase.{began, began_by, began_after_in, way, is_udp_grant}
use Rattle.socks_machine.specs.Taking.{some_in}
use Rattle.socks_machine.specs.Turn.{aged, moves, limit, is_late}
use Rattle.socks_machine.specs.View.{view, outcome_of_grant, outcome_with, proxy_of_grant}
use Rattle.assoc_core.specs.Moment.{movement, same_bytes, moment, at_moment, limit_of, is_late_by}
use Rattle.assoc_core.specs.Plain.{IsPlainRecord, HasDecided, HasAsked, Untargeted}
use Rattle.assoc_core.specs.Stands.{GoesDirect, IsConnect}
use Rattle.assoc_core.specs.Turns.{Acts, event_of}
use Rattle.assoc_core.proofs.PlainRecords.{decided-forms, has-judged, has-dialled}

-- ---- whether the target was reached

way-alone : (at : Option Endpoint) → is_some (way at None) ≡ is_some at
way-alone None = refl
way-alone (Some at) = refl

pub began-is : (basis : Basis) (r : Record) → GoesDirect basis r.decisions → began basis r ≡ is_some (reached_at r.decisions)
began-is basis r h = by-grant (granted r.decisions) refl h.direct h.connects
  where
    at : Option Endpoint
    at = reached_at r.decisions

    or-false : (b : Bool) → b || (false && is_some at) ≡ b
    or-false true = refl
    or-false false = refl

    udp_by : Grant → Command → Bool
    udp_by g k = is_udp_grant (Some (record g { facts = (let f = g.facts in record f { command = k }) }))

    by-command : (g : Grant) (k : Command) → k ≡ Command.Connect → began_by k (way at None) (peer_let_in r.decisions) || (udp_by g k && is_some at) ≡ is_some (way at None)
    by-command g Command.Connect e = or-false (is_some (way at None))
    by-command g Command.Bind e = absurd (cc)
    by-command g Command.UdpAssociate e = absurd (cc)
    by-command g Command.BindReply e = absurd (cc)
    by-command g Command.UdpReply e = absurd (cc)

    by-grant : (o : Option Grant) → granted r.decisions ≡ o → option_and_then (proxy_of_grant basis) o ≡ None → IsConnect o at → began basis r ≡ is_some at
    by-grant None is direct none = ap (λ z. began_after_in (view basis r) r z || (is_udp_grant z && is_some at)) is ∙ ap is_some (sym none)
    by-grant (Some g) is direct connects =
        ap (λ z. began_after_in (view basis r) r z || (is_udp_grant z && is_some at)) is
        ∙ (ap (λ z. began_by g.facts.command (way at (outcome_of_grant basis r.t z)) (peer_let_in r.decisions) || (is_udp_grant (Some g) && is_some at)) is
        ∙ (ap (λ p. began_by g.facts.command (way at (outcome_with r.t g p)) (peer_let_in r.decisions) || (is_udp_grant (Some g) && is_some at)) direct
        ∙ (by-command g g.facts.command connects ∙ way-alone at)))

-- ---- what has moved

same-sum : (a n : ℕ) → (a == a + n) ≡ not (nat_lt 0 n)
same-sum a zero = eq-eqb a (a + 0) (omega arith)
same-sum a (suc n) = ne_eqb a (a + suc n) (λ e. absurd (omega (arith, e))) ∙ sym (ap not (le-leb 1 (suc n) (omega arith)))

some-longer : (xs : List ℕ) → not (nat_lt 0 (length xs)) ≡ not (some_in xs)
some-longer [] = refl
some-longer (x ∷ xs) = ap not (le-leb 1 (suc (length xs)) (omega arith))

same-length : (xs ys zs : List ℕ) → zs ≡ xs ++ ys → (length xs == length zs) ≡ not (some_in ys)
same-length xs ys zs e = ap (λ (z : List ℕ). length xs == length z) e ∙ (ap (λ n. length xs == n) (length-append xs ys) ∙ (same-sum (length xs) (length ys) ∙ some-longer ys))

same-count : (xs zs : List ℕ) (n : ℕ) → length zs ≡ length xs + n → (length xs == length zs) ≡ not (nat_lt 0 n)
same-count xs zs n e = ap (λ k. length xs == k) e ∙ same-sum (length xs) n

any-moved : (a b c d : Bool) → a || b || false || c || d || false ≡ not (not a && (not b && (not c && not d)))
any-moved true b c d = refl
any-moved false true c d = refl
any-moved false false true d = refl
any-moved false false false true = refl
any-moved false false false false = refl

-- what a turn took and sent, by its record before and behind it
pub record Moves (x : Acts) (old left : Record) : Type 0 where
  pub c : left.c ≡ old.c ++ x.c
  pub t : left.t ≡ old.t ++ x.t
  pub sent_c : length left.sent_c ≡ length old.sent_c + x.sent_c
  pub sent_t : length left.sent_t ≡ length old.sent_t + x.sent_t

pub moves-are : (worker number now : ℕ) (x : Acts) (next : NextMark) (old left : Record) → Moves x old left
    → moves (event_of worker number now x next) ≡ not (same_bytes (movement old) (movement left))
moves-are worker number now x next old left h =
    any-moved (some_in x.c) (some_in x.t) (nat_lt 0 x.sent_c) (nat_lt 0 x.sent_t)
    ∙ ap not (λ i. sym (same-length old.c x.c left.c h.c) i && (sym (same-length old.t x.t left.t h.t) i && (sym (same-count old.sent_c left.sent_c x.sent_c h.sent_c) i && sym (same-count old.sent_t left.sent_t x.sent_t h.sent_t) i)))

either-as : (b : Bool) (m n : ℕ) → elim b [ true ↦ m | false ↦ n ] ≡ (if b then m else n)
either-as true m n = refl
either-as false m n = refl

-- the moment that a turn leaves
pub aged-moment : (basis : Basis) (worker number now : ℕ) (x : Acts) (next : NextMark) (old left : Record) → GoesDirect basis old.decisions → GoesDirect basis left.decisions → Moves x old left
    → aged basis (event_of worker number now x next) old left ≡ at_moment (movement old) now left
aged-moment basis worker number now x next old left was is h = λ i. record left { since = moment' i }
  where
    moment' : elim (began basis left && (not (began basis old) || moves (event_of worker number now x next))) [ true ↦ now | false ↦ left.since ] ≡ moment (movement old) now left
    moment' = (λ i. elim (began-is basis left is i && (not (began-is basis old was i) || moves-are worker number now x next old left h i)) [ true ↦ now | false ↦ left.since ])
        ∙ either-as (is_some (reached_at left.decisions) && (not (is_some (reached_at old.decisions)) || not (same_bytes (movement old) (movement left)))) now left.since

pub limit-is : (basis : Basis) (k : Entries) (r : Record) → GoesDirect basis r.decisions → limit basis k r ≡ limit_of k r
limit-is basis k r h = ap (λ b. if b then k.io else k.negotiate) (began-is basis r h)

pub late-is : (basis : Basis) (k : Entries) (now : ℕ) (r : Record) → GoesDirect basis r.decisions → is_late basis k now r ≡ is_late_by k now r
late-is basis k now r h = ap (λ n. not (n == 0) && nat_le n (now - r.since)) (limit-is basis k r h)

-- the moment says nothing else of a record
pub plain-dated : (users : List User) (r : Record) (now : ℕ) → IsPlainRecord users r → IsPlainRecord users (record r { since = now })
plain-dated users r now h = record {
  undone = h.undone;
  unclosed = h.unclosed;
  grams = h.grams;
  sent_u = h.sent_u;
  served = h.served;
  chosen' = h.chosen';
  failed = h.failed;
  decided = decided-forms users r (λ ds. HasDecided users x ds) (record {
    nothing = λ fresh'. ap (λ (z : Record). let v : Record = record z { since = now } in v) fresh';
    opened' = λ g rule d. record { untargeted = still d.untargeted; talks = d.talks };
    looked' = λ g rule name found d. record { untargeted = still d.untargeted; asked = asks d.asked; named = d.named; unended = d.unended; stands = d.stands };
    granted' = λ g rule s g' facts verdict route refused d. has-judged users x g rule s g' facts verdict route refused
        (record { untargeted = still d.untargeted; asked = asks d.asked; named = d.named; command = d.command; unended = d.unended; stands = d.stands });
    reached' = λ g rule s g' facts verdict route to at d. has-dialled users x g rule s g' facts verdict route to at (record {
      asked = asks d.asked;
      named = d.named;
      command = d.command;
      unreached = λ e. still (d.unreached e);
      failed = d.failed;
      apart = d.apart;
      shut_c = d.shut_c;
      shut_t = d.shut_t;
    });
  }) r.decisions h.decided;
  sent_c = h.sent_c;
  sent_t = h.sent_t;
}
  where
    x : Record
    x = record r { since = now }

    still : Untargeted r → Untargeted x
    still u = record { t = u.t; sent_t = u.sent_t; end_t = u.end_t; shut_c = u.shut_c; shut_t = u.shut_t }

    asks : HasAsked users r → HasAsked users x
    asks a = record { request = a.request; len = a.len; whole = a.whole }
