-- The request of a client whose name was looked up is read again.
use Rattle.std.proofs.Common.{◌≡◌, ◌==◌, ℕ, Bool, true, false, Option, Some, None, List, [], ◌∷◌, ◌++◌, refl, sym, ap, subst, ◌∙◌, arith}
use Rattle.std.proofs.lemmas.List.{append-nil}
use Rattle.conf_types.specs.declared.entries.Entries.{Entries}
use Rattle.socks_grammar.specs.declared.user.User.{User}
use Rattle.socks_grammar.specs.declared.protocol.Method.{Method}
use Rattle.socks_grammar.specs.declared.protocol.Version.{Version}
use Rattle.socks_grammar.specs.Grammar.{Read, greeting, request4}
use Rattle.socks_grammar.specs.Handshake.{Request, Split, split, split_greeted, split_request}
use Rattle.conf_types.specs.Plain.{IsPlain}
use Rattle.handshake_core.specs.declared.request.Request.{Request as RequestIs}
use Rattle.handshake_core.specs.Answers.{request_in}
use Rattle.handshake_core.specs.Whole.{OnSplit}
use Rattle.net_ends.specs.Counts.{Counts}
use Rattle.net_ends.specs.Told.{Told}
use Rattle.rule_list.specs.Rules.{numbered}
use Rattle.socks_machine.specs.declared.record.Chosen.{Chosen}
use Rattle.socks_machine.specs.declared.record.Decision.{Decision}
use Rattle.socks_machine.specs.declared.record.Record.{Record}
use Rattle.socks_machine.specs.Calls.{name_of}
use Rattle.socks_machine.specs.Socks.{socks}
use Rattle.socks_machine.specs.Taking.{chosen_after}
use Rattle.assoc_core.specs.declared.assoc.Assoc.{Assoc}
use Rattle.assoc_core.specs.declared.hear.Heard.TheVariants.{Asked as HasAsked}
use Rattle.assoc_core.specs.Hearing.{HasHeard}
use Rattle.assoc_core.specs.Plain.{HasDecided, LookedUp, Sought, behind_lookup, method_asked, split_by}
use Rattle.assoc_core.specs.Stands.{Stands, TellsServed}
use Rattle.assoc_core.proofs.Choosing.{chosen-still}
use Rattle.assoc_core.proofs.Sendings.{more-nil}
use Rattle.assoc_core.proofs.Tryings.{tried-none}

-- a whole prelude without an answer to a greeting is one of SOCKS 4, which is the same by any method
any-method : (users : List User) (c : List ℕ) (q : Request) (n method : ℕ) → split users None c ≡ Split.Whole q n → split users (Some method) c ≡ Split.Whole q n
any-method users [] q n method h = absurd (cc)
any-method users (b ∷ bs) q n method h = by (b == 4) (b == 5) refl refl
  where
    unanswered : (x : Read (List ℕ)) → split_greeted users None x ≡ Split.Whole q n → ⊥
    unanswered (Read.Got o at rest) e = cc
    unanswered Read.Short e = cc
    unanswered (Read.Wrong at byte kind) e = cc

    by : (four five : Bool) → b == 4 ≡ four → b == 5 ≡ five → split users (Some method) (b ∷ bs) ≡ Split.Whole q n
    by true five e4 e5 = at-four (Some method) ∙ (sym (at-four None) ∙ h)
      where
        at-four : (m : Option ℕ) → split users m (b ∷ bs) ≡ split_request Version.V4 Method.NoAuth None (request4 0 (b ∷ bs))
        at-four m = rw e4 refl
    by false true e4 e5 = absurd (unanswered (greeting 0 (b ∷ bs)) (sym at-five ∙ h))
      where
        at-five : split users None (b ∷ bs) ≡ split_greeted users None (greeting 0 (b ∷ bs))
        at-five = rw (e4, e5) refl
    by false false e4 e5 = same ∙ h
      where
        same : split users (Some method) (b ∷ bs) ≡ split users None (b ∷ bs)
        same = rw (e4, e5) refl

by-chosen : (users : List User) (chosen : Option Chosen) (c : List ℕ) (q : Request) (n : ℕ) → split_by users chosen c ≡ Split.Whole q n → split users (Some (method_asked chosen)) c ≡ Split.Whole q n
by-chosen users None c q n h = any-method users c q n 0 h
by-chosen users (Some chosen) c q n h = h

looked-of : (users : List User) (r : Record) (ds : List Decision) (g : ℕ) (rule : Option ℕ) (l : Sought) → ds ≡ Decision.Opened g rule None ∷ behind_lookup (Some l) [] → HasDecided users r ds → LookedUp users r l.name (Some l.addr)
looked-of users r ds g rule l is h = subst (HasDecided users r) is h

whole-in : {L : Type 0} (told : L → Told) (users : List User) (pubs : List Entries) (a : Assoc L) (g : ℕ) (rule : Option ℕ) (l : Sought) → Stands told (socks users pubs) a → (a.state).decisions ≡ Decision.Opened g rule None ∷ behind_lookup (Some l) []
    → (d : LookedUp users a.state l.name (Some l.addr)) × (split users (Some (method_asked (a.state).chosen)) (a.state).c ≡ Split.Whole (d.asked).request (d.asked).len)
whole-in told users pubs a g rule l standing opens =
    let d = looked-of users a.state (a.state).decisions g rule l opens (standing.plain).decided in
    (d, by-chosen users (a.state).chosen (a.state).c (d.asked).request (d.asked).len (d.asked).whole)

-- it is the request that was asked
same-request : (result : Option RequestIs) (request : RequestIs) (s : Split) (q : Request) (n : ℕ) → OnSplit result s → result ≡ Some request → s ≡ Split.Whole q n → (request_in request ≡ q) × (request.len ≡ n)
same-request None request s q n h is whole = absurd (cc)
same-request (Some r) request s q n h is whole = (request-is (sym h ∙ whole) is, length-is (sym h ∙ whole) is)
  where
    request-is : Split.Whole (request_in r) r.len ≡ Split.Whole q n → Some r ≡ Some request → request_in request ≡ q
    request-is e k = ap request_in (sym (some-is k)) ∙ whole-is e
      where
        some-is : Some r ≡ Some request → r ≡ request
        some-is e = cc

        whole-is : Split.Whole (request_in r) r.len ≡ Split.Whole q n → request_in r ≡ q
        whole-is e = cc

    length-is : Split.Whole (request_in r) r.len ≡ Split.Whole q n → Some r ≡ Some request → request.len ≡ n
    length-is e k = ap (λ (z : RequestIs). z.len) (sym (some-is k)) ∙ len-is e
      where
        some-is : Some r ≡ Some request → r ≡ request
        some-is e = cc

        len-is : Split.Whole (request_in r) r.len ≡ Split.Whole q n → r.len ≡ n
        len-is e = cc

pub none-asked : {L : Type 0} (told : L → Told) (users : List User) (pubs : List Entries) (a : Assoc L) (g : ℕ) (rule : Option ℕ) (l : Sought) (result : Option RequestIs)
    → Stands told (socks users pubs) a → (a.state).decisions ≡ Decision.Opened g rule None ∷ behind_lookup (Some l) []
    → OnSplit result (split users (Some (method_asked (a.state).chosen)) (a.state).c) → result ≡ None → ⊥
none-asked told users pubs a g rule l result standing opens h none =
    let w = whole-in told users pubs a g rule l standing opens in
    subst (λ (s : Split). OnSplit None s) w.1 (subst (λ (o : Option RequestIs). OnSplit o (split users (Some (method_asked (a.state).chosen)) (a.state).c)) none h)

pub judged-name : {L : Type 0} (told : L → Told) (counts : L → Counts) (users : List User) (pubs : List Entries) (generation : ℕ) (config : Entries) (a : Assoc L) (g : ℕ) (rule : Option ℕ) (l : Sought) (result : Option RequestIs) (request : RequestIs)
    → Stands told (socks users pubs) a → (a.state).cause ≡ None → (a.state).decisions ≡ Decision.Opened g rule None ∷ behind_lookup (Some l) []
    → OnSplit result (split users (Some (method_asked (a.state).chosen)) (a.state).c) → result ≡ Some request → name_of request.host ≡ Some l.name
judged-name told counts users pubs generation config a g rule l result request standing uncaused opens h is =
    let w = whole-in told users pubs a g rule l standing opens in
    ap (λ (q : Request). name_of q.host) (same-request result request _ _ _ h is w.1).0 ∙ (w.0).named

-- nothing is heard, and the request is as it was
pub asked-again : {L : Type 0} (told : L → Told) (counts : L → Counts) (users : List User) (pubs : List Entries) (generation : ℕ) (config : Entries) (a : Assoc L) (g : ℕ) (rule : Option ℕ) (l : Sought) (result : Option RequestIs) (request : RequestIs)
    → Stands told (socks users pubs) a → TellsServed users (told a.client) → numbered pubs generation ≡ Some config → IsPlain config → (a.state).cause ≡ None
    → (a.state).decisions ≡ Decision.Opened g rule None ∷ behind_lookup (Some l) []
    → OnSplit result (split users (Some (method_asked (a.state).chosen)) (a.state).c) → result ≡ Some request
    → HasHeard told counts (socks users pubs) generation config a a (Some l) (HasAsked request)
asked-again told counts users pubs generation config a g rule l result request standing tells published plain uncaused opens h is = record {
  stands = standing;
  served = tells;
  published = published;
  plain = plain;
  generation' = g;
  rule = rule;
  opened' = opens;
  uncaused = uncaused;
  hears = record {
    bytes = [];
    after' = sym (append-nil (a.state).c);
    few = omega arith;
    told' = λ i. let t = told a.client in record t { given = sym (more-nil t.given) i };
    first = λ x. x;
    later = record { faults = omega arith; idle_reads = omega arith; idle_writes = omega arith };
    tried = tried-none (counts a.client) (refl, refl, refl) tt tt;
    ends = tt;
  };
  quiet = λ e. refl;
  state' = λ i. let r = a.state in record r { c = sym (append-nil r.c) i; chosen = same i };
  heard' = w.0.asked.whole ∙ (λ i. Split.Whole (sym k.0 i) (sym k.1 i));
  target' = refl;
}
  where
    w : (d : LookedUp users a.state l.name (Some l.addr)) × (split users (Some (method_asked (a.state).chosen)) (a.state).c ≡ Split.Whole (d.asked).request (d.asked).len)
    w = whole-in told users pubs a g rule l standing opens

    k : (request_in request ≡ (w.0.asked).request) × (request.len ≡ (w.0.asked).len)
    k = same-request result request _ _ _ h is w.1

    same : (a.state).chosen ≡ chosen_after generation config.methods (a.state).chosen ((a.state).c ++ [])
    same = sym (ap (chosen_after generation config.methods (a.state).chosen) (append-nil (a.state).c) ∙ chosen-still generation config.methods (a.state).chosen (a.state).c (standing.plain).chosen')
