-- A client whose prelude is whole: behind what a turn heard of it, or before a turn, where its name was looked up.
use Rattle.std.proofs.Common.{◌≡◌, ℕ, true, false, ◌||◌, Option, Some, None, List, [], ◌∷◌, ◌++◌, append_assoc, refl, sym, ap, subst, ◌∙◌, inl}
use Rattle.std.proofs.lemmas.List.{append-nil}
use mathlib.Core.List.{IsPrefix}
use Rattle.addr_pattern.specs.declared.addr.Addr.{Addr}
use Rattle.addr_pattern.specs.declared.host.Host.{Host}
use Rattle.conf_types.specs.declared.entries.Entries.{Entries}
use Rattle.socks_grammar.specs.declared.user.User.{User}
use Rattle.socks_grammar.specs.Handshake.{Request, Split}
use Rattle.net_ends.specs.Counts.{Counts}
use Rattle.net_ends.specs.Nets.{NetTold}
use Rattle.net_ends.specs.Told.{Told, more}
use Rattle.socks_machine.specs.declared.cause.StopBy.{StopBy}
use Rattle.socks_machine.specs.declared.lines.Line.{Line}
use Rattle.socks_machine.specs.declared.record.Decision.{Decision}
use Rattle.socks_machine.specs.declared.record.Record.{Record}
use Rattle.socks_machine.specs.declared.world.Object.{Object}
use Rattle.socks_machine.specs.Calls.{name_of}
use Rattle.socks_machine.specs.Inputs.{is_served_split}
use Rattle.socks_machine.specs.InTurn.{Takes}
use Rattle.socks_machine.specs.Phase.{Phase, phase}
use Rattle.socks_machine.specs.Settle.{fix, cause_in}
use Rattle.socks_machine.specs.Socks.{socks}
use Rattle.socks_machine.specs.Taking.{some_in, reads_client, reads_target, chosen_after, with_client_bytes}
use Rattle.assoc_core.specs.declared.assoc.Assoc.{Assoc}
use Rattle.assoc_core.specs.declared.assoc.Next.{Next}
use Rattle.assoc_core.specs.declared.hear.Heard.TheVariants.{Asked as HasAsked}
use Rattle.assoc_core.specs.Hearing.{HasHeard}
use Rattle.assoc_core.specs.Plain.{HasChosen, HasDecided, LookedUp, Sought, split_in, owed_c, is_failed_split}
use Rattle.assoc_core.specs.Stands.{Stands}
use Rattle.assoc_core.specs.Turns.{Turns}
use Rattle.handshake_core.specs.declared.request.Request.{Request as RequestIs}
use Rattle.handshake_core.specs.Answers.{request_in}
use Rattle.assoc_core.proofs.AskTurns.{Asked, Arrives}
use Rattle.assoc_core.proofs.Choosing.{chosen-still}
use Rattle.assoc_core.proofs.HeardTurns.{hearing_of, heard-tried, stands-before, first-sent}
use Rattle.assoc_core.proofs.PlainRecords.{judging-phase, seek-phase}
use Rattle.assoc_core.proofs.Reaching.{same-opening}
use Rattle.assoc_core.proofs.Talking.{Hearing, Speaking, talker, basis_of, heard, speaking, split_heard, has-answered, takes-open, heard-nothing, spoken_to, spoken_in, unspoken, spoken, chosen_behind, spoken_takings}
use Rattle.assoc_core.proofs.TalkTurns.{with_state}
use Rattle.assoc_core.proofs.Tryings.{tried-as}

-- ---- behind what was heard

-- the phase that is met: it fixes nothing by itself, and nothing more is read in it
pub record Meets (t : Hearing) (p : Phase) : Type 0 where
  pub is : phase (basis_of t) (heard t) ≡ p
  pub none : cause_in (basis_of t) (heard t) p ≡ None
  pub unread_c : (full : List Object) → reads_client (basis_of t) [] full (heard t) p ≡ false
  pub unread_t : reads_target (heard t) p ≡ false

abbrev pub asked_heard : (t : Hearing) (q : Request) (len : ℕ) → split_heard t ≡ Split.Whole q len → (p : Phase) → Meets t p → Asked
asked_heard t q len whole p m = record {
  said = speaking t;
  request = q;
  len = len;
  whole = whole;
  served = t.served;
  chosen' = has-answered t;
  unreached = refl;
  meets = p;
  is = m.is;
  unread_c = m.unread_c;
  unread_t = m.unread_t;
  takes = λ full. takes-open t [] full (heard t) (ap (λ p. fix (cause_in (basis_of t) (heard t) p) (heard t)) m.is ∙ ap (λ k. fix k (heard t)) m.none) (heard-nothing t);
  sent' = λ cause unlogged. first-sent t cause (unlogged ∙ sym (ap is_failed_split whole));
}

-- a request to an address is to be judged
pub meets-judging : (t : Hearing) (q : Request) (len : ℕ) → split_heard t ≡ Split.Whole q len → name_of q.host ≡ None → Meets t (Phase.Judging q)
meets-judging t q len whole named = record {
  is = judging-phase t.users t.pubs (heard t) t.g t.rule None (record { undone = refl; uncaused = refl; asked = record { request = q; len = len; whole = whole }; named = named });
  none = refl;
  unread_c = λ full. refl;
  unread_t = refl;
}

-- a name is to be looked up
pub meets-seeking : (t : Hearing) (q : Request) (len : ℕ) (name : List ℕ) → split_heard t ≡ Split.Whole q len → q.host ≡ Host.Name name → Meets t (Phase.Seek name)
meets-seeking t q len name whole named = record {
  is = seek-phase t.users t.pubs (heard t) t.g t.rule name refl refl (record { request = q; len = len; whole = whole }) named;
  none = refl;
  unread_c = λ full. refl;
  unread_t = refl;
}

pub arrives-heard : {L : Type 0} (told : L → Told) (counts : L → Counts) (users : List User) (pubs : List Entries) (generation : ℕ) (config : Entries) (most : ℕ) (h : List Line) (marks : List StopBy)
    (a b : Assoc L) (request : RequestIs) (k : HasHeard told counts (socks users pubs) generation config a b None (HasAsked request)) (x : Asked)
    → x.said ≡ speaking (hearing_of told counts users pubs generation config most h marks a b (HasAsked request) k) → Arrives told counts x a b.client
arrives-heard told counts users pubs generation config most h marks a b request k x is = record {
  standing = subst (λ (s : Speaking). Stands told (spoken_to s) (with_state a (unspoken s))) (sym is) (stands-before told counts users pubs generation config most h marks a b (HasAsked request) k);
  told' = subst (λ (s : Speaking). told b.client ≡ (let t = told a.client in record t { given = more t.given s.x; ended = false || t.ended })) (sym is) (k.hears).told';
  later = (k.hears).later;
  tried = tried-as (heard-tried (told a.client) (told b.client) (counts a.client) (counts b.client) (a.state).c (b.state).c (HasAsked request) k.hears) (λ x. ap (λ (s : Speaking). s.x) is ∙ x.0) (λ x. tt) (λ x. tt);
  first = (k.hears).first (k.stands).client_first;
}

-- ---- where a name was looked up

abbrev pub found_saying : {L : Type 0} (told : L → Told) (counts : L → Counts) (users : List User) (pubs : List Entries) (generation : ℕ) (config : Entries) (most : ℕ) (h : List Line) (marks : List StopBy)
    (a b : Assoc L) (l : Sought) (request : RequestIs) → HasHeard told counts (socks users pubs) generation config a b (Some l) (HasAsked request) → Speaking
found_saying told counts users pubs generation config most h marks a b l request k = record {
  users = users;
  pubs = pubs;
  generation = generation;
  config = config;
  most = most;
  h = h;
  marks = marks;
  party = record { number = (a.state).number; peer = (a.state).peer; local = (a.state).local; since = (a.state).since };
  ds = Decision.Opened k.generation' k.rule None ∷ Decision.Looked l.name (Some l.addr) ∷ [];
  c = (a.state).c;
  x = (k.hears).bytes;
  sent = (a.state).sent_c;
  chosen = (a.state).chosen;
}

looked-of : (users : List User) (r : Record) (ds : List Decision) (g : ℕ) (rule : Option ℕ) (l : Sought) → ds ≡ Decision.Opened g rule None ∷ Decision.Looked l.name (Some l.addr) ∷ [] → HasDecided users r ds → LookedUp users r l.name (Some l.addr)
looked-of users r ds g rule l is h = subst (HasDecided users r) is h

pub found-before : {L : Type 0} (told : L → Told) (counts : L → Counts) (users : List User) (pubs : List Entries) (generation : ℕ) (config : Entries) (most : ℕ) (h : List Line) (marks : List StopBy)
    (a b : Assoc L) (l : Sought) (request : RequestIs) (k : HasHeard told counts (socks users pubs) generation config a b (Some l) (HasAsked request))
    → a.state ≡ unspoken (found_saying told counts users pubs generation config most h marks a b l request k)
found-before told counts users pubs generation config most h marks a b l request k = λ i. record {
  number = (a.state).number;
  peer = (a.state).peer;
  local = (a.state).local;
  since = (a.state).since;
  c = (a.state).c;
  t = (d.untargeted).t i;
  sent_c = (a.state).sent_c;
  sent_t = (d.untargeted).sent_t i;
  end_c = d.unended i;
  end_t = (d.untargeted).end_t i;
  shut_c = (d.untargeted).shut_c i;
  shut_t = (d.untargeted).shut_t i;
  chosen = (a.state).chosen;
  decisions = k.opened' i;
  grams = ((k.stands).plain).grams i;
  sent_u = ((k.stands).plain).sent_u i;
  cause = k.uncaused i;
  at_close = ((k.stands).plain).unclosed i;
  done = ((k.stands).plain).undone i;
}
  where
    d : LookedUp users a.state l.name (Some l.addr)
    d = looked-of users a.state (a.state).decisions k.generation' k.rule l k.opened' ((k.stands).plain).decided

-- nothing is heard then
nothing-said : (s : Speaking) → HasChosen s.c s.chosen → s.x ≡ [] → unspoken s ≡ spoken s
nothing-said s chosen' none = λ i. talker s.party (sym c' i) s.sent false (sym same i) s.ds None
  where
    c' : s.c ++ s.x ≡ s.c
    c' = ap (λ x. s.c ++ x) none ∙ append-nil s.c

    same : chosen_behind s ≡ s.chosen
    same = ap (chosen_after s.generation (s.config).methods s.chosen) c' ∙ chosen-still s.generation (s.config).methods s.chosen s.c chosen'

pub prefix-more : (sent o z : List ℕ) → IsPrefix sent (o ++ []) → IsPrefix sent (o ++ z)
prefix-more sent o z p = (p.0 ++ z, sym (append_assoc sent p.0 z) ∙ ap (λ s. s ++ z) (p.1 ∙ append-nil o))

pub takes-nothing : (s : Speaking) (full : List Object) → s.x ≡ [] → unspoken s ≡ spoken s → Takes (spoken_to s) s.generation (s.config).methods (spoken_takings s false [] full) (unspoken s) (spoken s)
takes-nothing s full none same = record {
  r1 = unspoken s;
  r2 = unspoken s;
  r3 = unspoken s;
  r4 = unspoken s;
  r5 = spoken s;
  bytes_t = inl (refl, refl);
  ends_t = inl (refl, refl);
  grams = inl (refl, refl);
  came = refl;
  bytes_c = inl (ap some_in none, sym same);
  ends_c = inl (refl, refl);
}

pub whole-found : {L : Type 0} (told : L → Told) (counts : L → Counts) (users : List User) (pubs : List Entries) (generation : ℕ) (config : Entries) (most : ℕ) (h : List Line) (marks : List StopBy)
    (a b : Assoc L) (l : Sought) (request : RequestIs) (k : HasHeard told counts (socks users pubs) generation config a b (Some l) (HasAsked request))
    → split_in users (spoken (found_saying told counts users pubs generation config most h marks a b l request k)) ≡ Split.Whole (request_in request) request.len
whole-found told counts users pubs generation config most h marks a b l request k =
    subst (λ (r : Record). split_in users r ≡ Split.Whole (request_in request) request.len)
    (k.state' ∙ ap (with_client_bytes generation config.methods (k.hears).bytes) (found-before told counts users pubs generation config most h marks a b l request k)) k.heard'

pub same-found : {L : Type 0} (told : L → Told) (counts : L → Counts) (users : List User) (pubs : List Entries) (generation : ℕ) (config : Entries) (most : ℕ) (h : List Line) (marks : List StopBy)
    (a b : Assoc L) (l : Sought) (request : RequestIs) (k : HasHeard told counts (socks users pubs) generation config a b (Some l) (HasAsked request))
    → (let s = found_saying told counts users pubs generation config most h marks a b l request k in unspoken s ≡ spoken s)
same-found told counts users pubs generation config most h marks a b l request k =
    nothing-said (found_saying told counts users pubs generation config most h marks a b l request k) ((k.stands).plain).chosen' (k.quiet refl)

abbrev pub asked_found : {L : Type 0} (told : L → Told) (counts : L → Counts) (users : List User) (pubs : List Entries) (generation : ℕ) (config : Entries) (most : ℕ) (h : List Line) (marks : List StopBy)
    (a b : Assoc L) (l : Sought) (request : RequestIs) (k : HasHeard told counts (socks users pubs) generation config a b (Some l) (HasAsked request)) → name_of request.host ≡ Some l.name → Asked
asked_found told counts users pubs generation config most h marks a b l request k named = record {
  said = s;
  request = request_in request;
  len = request.len;
  whole = whole;
  served = subst (λ (r : Record). is_served_split (split_in users r) ≡ true) is ((k.stands).plain).served;
  chosen' = subst (λ (r : Record). HasChosen r.c r.chosen) is ((k.stands).plain).chosen';
  unreached = refl;
  meets = Phase.Judging (request_in request);
  is = judging-phase users pubs (spoken s) k.generation' k.rule (Some l) (record { undone = refl; uncaused = refl; asked = record { request = request_in request; len = request.len; whole = whole }; named = named });
  unread_c = λ full. refl;
  unread_t = refl;
  takes = λ full. takes-nothing s full (k.quiet refl) (same-found told counts users pubs generation config most h marks a b l request k);
  sent' = λ cause unlogged.
      prefix-more s.sent _ _ (subst (λ (z : List ℕ). IsPrefix s.sent (z ++ [])) (sym (same-opening (s.c ++ s.x) (chosen_behind s) cause unlogged))
      (subst (λ (r : Record). IsPrefix r.sent_c (owed_c r)) is ((k.stands).plain).sent_c));
}
  where
    s : Speaking
    s = found_saying told counts users pubs generation config most h marks a b l request k

    is : a.state ≡ spoken s
    is = found-before told counts users pubs generation config most h marks a b l request k ∙ same-found told counts users pubs generation config most h marks a b l request k

    whole : split_in users (spoken s) ≡ Split.Whole (request_in request) request.len
    whole = whole-found told counts users pubs generation config most h marks a b l request k

pub found-behind : {L : Type 0} (told : L → Told) (counts : L → Counts) (users : List User) (pubs : List Entries) (generation : ℕ) (config : Entries) (most : ℕ) (h : List Line) (marks : List StopBy)
    (a b : Assoc L) (l : Sought) (request : RequestIs) (k : HasHeard told counts (socks users pubs) generation config a b (Some l) (HasAsked request))
    → b.state ≡ spoken (found_saying told counts users pubs generation config most h marks a b l request k)
found-behind told counts users pubs generation config most h marks a b l request k =
    k.state' ∙ ap (with_client_bytes generation config.methods (k.hears).bytes) (found-before told counts users pubs generation config most h marks a b l request k)

pub arrives-found : {L : Type 0} (told : L → Told) (counts : L → Counts) (users : List User) (pubs : List Entries) (generation : ℕ) (config : Entries) (most : ℕ) (h : List Line) (marks : List StopBy)
    (a b : Assoc L) (l : Sought) (request : RequestIs) (k : HasHeard told counts (socks users pubs) generation config a b (Some l) (HasAsked request)) (x : Asked)
    → x.said ≡ found_saying told counts users pubs generation config most h marks a b l request k → Arrives told counts x a b.client
arrives-found told counts users pubs generation config most h marks a b l request k x is = record {
  standing = subst (λ (s : Speaking). Stands told (spoken_to s) (with_state a (unspoken s))) (sym is)
      (subst (λ (r : Record). Stands told (socks users pubs) (with_state a r)) (found-before told counts users pubs generation config most h marks a b l request k) k.stands);
  told' = subst (λ (s : Speaking). told b.client ≡ (let t = told a.client in record t { given = more t.given s.x; ended = false || t.ended })) (sym is) (k.hears).told';
  later = (k.hears).later;
  tried = tried-as (heard-tried (told a.client) (told b.client) (counts a.client) (counts b.client) (a.state).c (b.state).c (HasAsked request) k.hears) (λ x. ap (λ (s : Speaking). s.x) is ∙ x.0) (λ x. tt) (λ x. tt);
  first = (k.hears).first (k.stands).client_first;
}

-- ---- from the explicit record

pub turns-asked : {L : Type 0} (told : L → Told) (counts : L → Counts) (stands : List Line → List StopBy → Type 0) (s : Speaking) (now : ℕ) (net net' : NetTold) (a : Assoc L) (next : Next L)
    → a.state ≡ unspoken s → (s.party).since ≡ now → Turns told counts stands (spoken_in s) (s.party).since net net' (with_state a (unspoken s)) next → Turns told counts stands (spoken_in s) now net net' a next
turns-asked told counts stands s now net net' a next is since v =
    subst (λ (n : ℕ). Turns told counts stands (spoken_in s) n net net' a next) since
    (subst (λ (r : Record). Turns told counts stands (spoken_in s) (s.party).since net net' (with_state a r) next) (sym is) v)
