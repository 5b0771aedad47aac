-- The turn in which a request is granted or refused, and the client is written to.
use Rattle.std.proofs.Common.{◌≡◌, ℕ, zero, suc, ◌≤◌, ◌-◌, Bool, true, false, Option, Some, None, option_map, List, [], ◌∷◌, ◌++◌, length, All, slice_get, slice_set, refl, sym, ap, subst, ◌∙◌, is_some, length-append, arith}
use Rattle.std.proofs.lemmas.List.Elements.{All-head, All-tail}
use Rattle.std.proofs.lemmas.Option.{slice_get_within}
use Rattle.std.proofs.Math.Seq.{set-append_seam}
use Rattle.conf_types.specs.declared.entries.Entries.{Entries}
use Rattle.socks_grammar.specs.declared.protocol.Command.{Command}
use Rattle.conf_types.specs.declared.route.Route.{Route}
use Rattle.conf_types.specs.declared.route.Via.{Via}
use Rattle.socks_grammar.specs.declared.user.User.{User}
use Rattle.socks_grammar.specs.Handshake.{Request, Split}
use Rattle.net_ends.specs.Counts.{Counts}
use Rattle.net_ends.specs.Nets.{NetTold}
use Rattle.net_ends.specs.Told.{Told}
use Rattle.rule_list.specs.declared.facts.Facts.{Facts}
use Rattle.rule_list.specs.declared.verdict.Verdict.{Verdict}
use Rattle.rule_list.specs.Rules.{numbered, route_of, via_of, via_of_route}
use Rattle.session_desk.specs.Calls.{Grants}
use Rattle.socks_machine.specs.declared.cause.Cause.{Cause}
use Rattle.socks_machine.specs.declared.cause.StopBy.{StopBy}
use Rattle.socks_machine.specs.declared.lines.GrantLine.{GrantLine}
use Rattle.socks_machine.specs.declared.lines.Line.{Line}
use Rattle.socks_machine.specs.declared.lines.Said.{Said}
use Rattle.socks_machine.specs.declared.record.Decision.{Decision}
use Rattle.socks_machine.specs.declared.record.Record.{Record}
use Rattle.socks_machine.specs.declared.world.Outer.{Outer}
use Rattle.socks_machine.specs.Calls.{TurnResult, decided, call_grant, refusal_full, blocked, grant_facts, name_of}
use Rattle.socks_machine.specs.Decisions.{is_opened, reached_at}
use Rattle.socks_machine.specs.History.{Desked, at_grant}
use Rattle.socks_machine.specs.Inputs.{is_served_split}
use Rattle.socks_machine.specs.InTurn.{Called}
use Rattle.socks_machine.specs.Phase.{Phase}
use Rattle.socks_machine.specs.Settle.{first_cause}
use Rattle.socks_machine.specs.Socks.{socks}
use Rattle.socks_machine.specs.Taking.{chosen_after}
use Rattle.socks_machine.specs.View.{proxy_in, proxy_of_via}
use Rattle.socks_machine.proofs.CallLaws.{grants}
use Rattle.assoc_core.specs.declared.assoc.Assoc.{Assoc}
use Rattle.assoc_core.specs.declared.assoc.Next.{Next}
use Rattle.assoc_core.specs.declared.hear.Heard.TheVariants.{Asked as HasAsked}
use Rattle.assoc_core.specs.Granting.{AsksGrant, request_line, verdict_on}
use Rattle.assoc_core.specs.Hearing.{HasHeard}
use Rattle.handshake_core.specs.declared.request.Request.{Request as RequestIs}
use Rattle.handshake_core.specs.Answers.{request_in}
use Rattle.assoc_core.specs.Plain.{HasDecided, Judged, Sought, behind_lookup, name_sought, split_in, is_login_failed}
use Rattle.assoc_core.specs.Sending.{WritesOn}
use Rattle.assoc_core.specs.Stands.{GoesDirect}
use Rattle.assoc_core.specs.Turns.{Turns, context}
use Rattle.assoc_core.proofs.Asking.{asked_heard, asked_found, meets-judging, arrives-heard, arrives-found, found-before, found-behind, turns-asked}
use Rattle.assoc_core.proofs.AskTurns.{Asked, CallIs, Arrives, asked, asks-turn}
use Rattle.assoc_core.proofs.HeardTurns.{hearing_of, before-is, behind-is, heard-as, served-heard}
use Rattle.assoc_core.proofs.PlainRecords.{served-connect, unreached-behind, behind-more, has-judged}
use Rattle.assoc_core.proofs.Talking.{Hearing, split_heard, spoken_to, spoken_in, unspoken, spoken}
use Rattle.assoc_core.proofs.TalkTurns.{desk-calls, with_state}

-- ---- as the code asks

pub last-set : (ds now after : List Decision) (x y : Decision) → now ≡ ds ++ x ∷ [] → after ≡ slice_set now (length now - 1) y → after ≡ ds ++ y ∷ []
last-set ds now after x y now' after' =
    let n : length now - 1 ≡ length ds = omega (arith, ap (λ (z : List Decision). length z) now', length-append ds (x ∷ [])) in
    after' ∙ ((λ i. slice_set (now' i) (n i) y) ∙ set-append_seam ds x [] y)

pub asks : (stands : List Line → List StopBy → Type 0) (h : List Line) (marks : List StopBy) (generation : ℕ) (config : Entries) (q : Request) (old : Record) (line : GrantLine) (facts : Facts) (said : Said)
    (route : Option ℕ) (refused why cause : Option Cause) (pushed after : List Decision) (provisional : Decision)
    → line ≡ request_line generation config old q → facts ≡ grant_facts old q → route ≡ route_of config (grant_facts old q) → Grants stands h marks line said
    → why ≡ blocked generation line.verdict → refused ≡ refusal_full generation said why → pushed ≡ old.decisions ++ provisional ∷ []
    → after ≡ slice_set pushed (length pushed - 1) (Decision.Granted generation facts line.verdict route refused) → cause ≡ first_cause refused old.cause
    → AsksGrant stands h marks generation config q old (record old { decisions = after; cause = cause })
asks stands h marks generation config q old line facts said route refused why cause pushed after provisional line' facts' route' desk why' refused' pushed' after' cause' = record {
  said = said;
  desk = subst (λ (l : GrantLine). Grants stands h marks l said) line' desk;
  state' =
      (λ i. record old { decisions = last-set old.decisions pushed after provisional (Decision.Granted generation facts line.verdict route refused) pushed' after' i; cause = cause' i })
      ∙ (λ i. record old { decisions = old.decisions ++ Decision.Granted generation (facts' i) (line' i).verdict (route' i) (is i) ∷ []; cause = first_cause (is i) old.cause });
}
  where
    is : refused ≡ refusal_full generation said (blocked generation (verdict_on config old q))
    is = refused' ∙ (ap (refusal_full generation said) why' ∙ ap (λ (l : GrantLine). refusal_full generation said (blocked generation l.verdict)) line')

-- ---- the grant

abbrev IsDirect : Route → Type 0
IsDirect r = r.via ≡ Via.Direct

-- a route of a configuration whose routes are all direct leads to no proxy
via-at : (routes : List Route) (i : ℕ) → All IsDirect routes → via_of_route (slice_get routes i) ≡ Via.Direct
via-at [] i h = refl
via-at (r ∷ rs) zero h = All-head IsDirect r rs h
via-at (r ∷ rs) (suc i) h = via-at rs i (All-tail IsDirect r rs h)

via-direct : (config : Entries) (route : Option ℕ) → All IsDirect config.routes → via_of config route ≡ Via.Direct
via-direct config None h = refl
via-direct config (Some zero) h = refl
via-direct config (Some (suc i)) h = via-at config.routes i h

-- the grant goes by no proxy, and its configuration is published
numbered-within : {A : Type 0} (xs : List A) (n : ℕ) (x : A) → numbered xs n ≡ Some x → n ≤ length xs
numbered-within xs zero x h = omega arith
numbered-within xs (suc i) x h = slice_get_within xs i x h

-- a grant that is refused is no failed login
blocked-unlogged : (generation : ℕ) (verdict : Verdict) → is_login_failed (blocked generation verdict) ≡ false
blocked-unlogged generation (Verdict.Pass c s) = refl
blocked-unlogged generation (Verdict.ClientBlock c) = refl
blocked-unlogged generation Verdict.ClientNone = refl
blocked-unlogged generation (Verdict.SocksBlock c s) = refl
blocked-unlogged generation (Verdict.SocksNone c) = refl

refused-unlogged : (generation : ℕ) (said : Said) (why : Option Cause) → is_login_failed why ≡ false → is_login_failed (refusal_full generation said why) ≡ false
refused-unlogged generation (Said.Done at) why h = h
refused-unlogged generation (Said.Full list rule held limit) why h = refl
refused-unlogged generation (Said.Crowded live cap) why h = refl
refused-unlogged generation (Said.OutOfTurn standing) why h = refl
refused-unlogged generation (Said.Stopped by) why h = refl
refused-unlogged generation Said.LogFault why h = refl

-- what stands before the grant
pub record Begun (x : Asked) (sought : Option Sought) : Type 0 where
  pub g : ℕ
  pub rule : Option ℕ
  pub ds : (x.said).ds ≡ Decision.Opened g rule None ∷ behind_lookup sought []
  pub named : name_of (x.request).host ≡ name_sought sought
  pub connects : (x.request).command ≡ Command.Connect
  pub routes' : All (λ (r : Route). r.via ≡ Via.Direct) ((x.said).config).routes
  pub published : numbered (x.said).pubs (x.said).generation ≡ Some (x.said).config
  pub meets : x.meets ≡ Phase.Judging x.request

abbrev decision_on : Asked → Option Cause → Decision
decision_on x refused =
    Decision.Granted (x.said).generation (grant_facts (spoken x.said) x.request) (verdict_on (x.said).config (spoken x.said) x.request) (route_of (x.said).config (grant_facts (spoken x.said) x.request)) refused

abbrev granted_ds : Asked → Option Cause → List Decision
granted_ds x refused = (x.said).ds ++ decision_on x refused ∷ []

-- the decisions behind it, by the lookup
ds-behind : (x : Asked) (sought : Option Sought) (b : Begun x sought) (refused : Option Cause) → granted_ds x refused ≡ Decision.Opened b.g b.rule None ∷ behind_lookup sought (decision_on x refused ∷ [])
ds-behind x sought b refused = ap (λ (ds : List Decision). ds ++ decision_on x refused ∷ []) b.ds ∙ ap (λ (ds : List Decision). Decision.Opened b.g b.rule None ∷ ds) (behind-more sought [] (decision_on x refused ∷ []))

grant-direct : (x : Asked) (sought : Option Sought) (b : Begun x sought) → proxy_in (route_of (x.said).config (grant_facts (spoken x.said) x.request)) (numbered (x.said).pubs (x.said).generation) ≡ None
grant-direct x sought b =
    ap (proxy_in (route_of (x.said).config (grant_facts (spoken x.said) x.request))) b.published
    ∙ ap proxy_of_via (via-direct (x.said).config (route_of (x.said).config (grant_facts (spoken x.said) x.request)) b.routes')

goes-direct : (x : Asked) (sought : Option Sought) (b : Begun x sought) (refused : Option Cause) → GoesDirect (spoken_to x.said) (Decision.Opened b.g b.rule None ∷ behind_lookup sought (decision_on x refused ∷ []))
goes-direct x None b refused = record { direct = grant-direct x None b; known = numbered-within (x.said).pubs (x.said).generation (x.said).config b.published; connects = b.connects }
goes-direct x (Some l) b refused = record { direct = grant-direct x (Some l) b; known = numbered-within (x.said).pubs (x.said).generation (x.said).config b.published; connects = b.connects }

judged-now : (x : Asked) (sought : Option Sought) (b : Begun x sought) (refused : Option Cause) (sent : List ℕ) (cause : Option Cause) (ds : List Decision) → (is_some refused ≡ true → is_some cause ≡ true)
    → Judged (x.said).users (asked x.said ds sent cause) (name_sought sought) (grant_facts (spoken x.said) x.request) refused
judged-now x sought b refused sent cause ds stands = record {
  untargeted = record { t = refl; sent_t = refl; end_t = refl; shut_c = refl; shut_t = refl };
  asked = record { request = x.request; len = x.len; whole = x.whole };
  named = b.named;
  command = b.connects;
  unended = refl;
  stands = stands;
}

abbrev refused_as : Asked → Said → Option Cause
refused_as x said = refusal_full (x.said).generation said (blocked (x.said).generation (verdict_on (x.said).config (spoken x.said) x.request))

abbrev desk_behind : Asked → Bool → Desked Said
desk_behind x logged = at_grant (x.said).h (x.said).marks (request_line (x.said).generation (x.said).config (spoken x.said) x.request) logged

grant-made : (x : Asked) (logged : Bool) (refused : Option Cause) → refused_as x (desk_behind x logged).said ≡ refused
    → call_grant (spoken_in x.said) (spoken x.said) x.request logged ≡ record { left = asked x.said (granted_ds x refused) (x.said).sent (first_cause refused None); h = (desk_behind x logged).h; marks = (desk_behind x logged).marks }
grant-made x logged refused e = λ i. record {
  left = decided (decision_on x (e i)) (e i) (spoken x.said);
  h = (desk_behind x logged).h;
  marks = (desk_behind x logged).marks;
}

grant-call : (x : Asked) (sought : Option Sought) (b : Begun x sought) (logged : Bool) (refused : Option Cause) → refused_as x (desk_behind x logged).said ≡ refused → is_login_failed refused ≡ false
    → CallIs x (Outer.Desk logged) (granted_ds x refused) refused (desk_behind x logged).h (desk_behind x logged).marks
grant-call x sought b logged refused e unlogged = record {
  called = subst (λ (m : TurnResult). Called (spoken_in x.said) (Outer.Desk logged) None (spoken x.said) m) (grant-made x logged refused e)
      (grants (spoken_in x.said) (spoken x.said) None x.request logged (x.is ∙ b.meets));
  unlogged = unlogged;
  opened = ap is_opened (ds-behind x sought b refused);
  unreached = ap reached_at (ds-behind x sought b refused) ∙ unreached-behind b.g b.rule sought (x.said).generation _ _ _ refused;
  decided = λ sent cause stands. subst (λ (ds : List Decision). HasDecided (x.said).users (asked x.said (granted_ds x refused) sent cause) ds) (sym (ds-behind x sought b refused))
      (has-judged (x.said).users (asked x.said (granted_ds x refused) sent cause) b.g b.rule sought (x.said).generation _ _ _ refused (judged-now x sought b refused sent cause (granted_ds x refused) stands));
  direct = subst (GoesDirect (spoken_to x.said)) (sym (ds-behind x sought b refused)) (goes-direct x sought b refused);
}

-- ---- the turn

grants-by : {L : Type 0} (told : L → Told) (counts : L → Counts) (stands : List Line → List StopBy → Type 0) (x : Asked) (sought : Option Sought) (net : NetTold) (a b : Assoc L) (g : Record) (next : Next L)
    → Begun x sought → Arrives told counts x a b.client → b.target ≡ a.target → b.state ≡ spoken x.said
    → AsksGrant stands (x.said).h (x.said).marks (x.said).generation (x.said).config x.request b.state g → WritesOn told counts (record { state = g; client = b.client; target = b.target }) next
    → Turns told counts stands (spoken_in x.said) ((x.said).party).since net net (with_state a (unspoken x.said)) next
grants-by told counts stands x sought net a b g next begun j target' is' grant w =
    asks-turn told counts stands x (Outer.Desk desk.logged) (granted_ds x refused) refused (desk_behind x desk.logged).h (desk_behind x desk.logged).marks net net a (record { state = g; client = b.client; target = b.target }) next
    (grant-call x sought begun desk.logged refused (ap (refused_as x) (sym desk.said')) unlogged) j target' grant'.state' w desk.stands' (λ there. desk-calls net x.meets (Some desk.logged) there)
  where
    grant' : AsksGrant stands (x.said).h (x.said).marks (x.said).generation (x.said).config x.request (spoken x.said) g
    grant' = subst (λ (r : Record). AsksGrant stands (x.said).h (x.said).marks (x.said).generation (x.said).config x.request r g) is' grant

    desk : Grants stands (x.said).h (x.said).marks (request_line (x.said).generation (x.said).config (spoken x.said) x.request) grant'.said
    desk = grant'.desk

    refused : Option Cause
    refused = refused_as x grant'.said

    unlogged : is_login_failed refused ≡ false
    unlogged = refused-unlogged (x.said).generation grant'.said (blocked (x.said).generation (verdict_on (x.said).config (spoken x.said) x.request)) (blocked-unlogged (x.said).generation (verdict_on (x.said).config (spoken x.said) x.request))

pub grants-turn : {L : Type 0} (told : L → Told) (counts : L → Counts) (stands : List Line → List StopBy → Type 0) (users : List User) (pubs : List Entries) (generation : ℕ) (config : Entries) (most : ℕ) (h : List Line) (marks : List StopBy)
    (now : ℕ) (net : NetTold) (a b : Assoc L) (sought : Option Sought) (request : RequestIs) (g : Record) (next : Next L)
    → HasHeard told counts (socks users pubs) generation config a b sought (HasAsked request) → name_of request.host ≡ name_sought sought → request.command ≡ Command.Connect → (a.state).since ≡ now
    → AsksGrant stands h marks generation config (request_in request) b.state g → WritesOn told counts (record { state = g; client = b.client; target = b.target }) next
    → Turns told counts stands (context users pubs generation config most h marks) now net net a next
grants-turn told counts stands users pubs generation config most h marks now net a b None request g next k named connects since grant w =
    turns-asked told counts stands x.said now net net a next (before-is told counts users pubs generation config most h marks a b (HasAsked request) k) since
    (grants-by told counts stands x None net a b g next
    (record { g = k.generation'; rule = k.rule; ds = refl; named = named; connects = connects; routes' = (k.plain).routes; published = k.published; meets = refl })
    (arrives-heard told counts users pubs generation config most h marks a b request k x refl) k.target'
    (behind-is told counts users pubs generation config most h marks a b (HasAsked request) k) grant w)
  where
    t : Hearing
    t = hearing_of told counts users pubs generation config most h marks a b (HasAsked request) k

    whole : split_heard t ≡ Split.Whole (request_in request) request.len
    whole = heard-as told counts users pubs generation config most h marks a b (HasAsked request) k

    x : Asked
    x = asked_heard t (request_in request) request.len whole (Phase.Judging (request_in request)) (meets-judging t (request_in request) request.len whole named)
grants-turn told counts stands users pubs generation config most h marks now net a b (Some l) request g next k named connects since grant w =
    turns-asked told counts stands x.said now net net a next (found-before told counts users pubs generation config most h marks a b l request k) since
    (grants-by told counts stands x (Some l) net a b g next
    (record { g = k.generation'; rule = k.rule; ds = refl; named = named; connects = connects; routes' = (k.plain).routes; published = k.published; meets = refl })
    (arrives-found told counts users pubs generation config most h marks a b l request k x refl) k.target'
    (found-behind told counts users pubs generation config most h marks a b l request k) grant w)
  where
    x : Asked
    x = asked_found told counts users pubs generation config most h marks a b l request k named

-- what is asked for is served: a CONNECT
pub asks-connect : {L : Type 0} (told : L → Told) (counts : L → Counts) (users : List User) (pubs : List Entries) (generation : ℕ) (config : Entries) (a b : Assoc L) (sought : Option Sought) (request : RequestIs)
    → HasHeard told counts (socks users pubs) generation config a b sought (HasAsked request) → request.command ≡ Command.Connect
asks-connect told counts users pubs generation config a b sought request k = served-connect request.command (sym (ap is_served_split k.heard') ∙ served)
  where
    served : is_served_split (split_in users b.state) ≡ true
    served = subst (λ (r : Record). is_served_split (split_in users r) ≡ true) (sym k.state')
        (served-heard users (told a.client) (told b.client) (a.state).c (a.state).sent_c (k.hears).bytes (a.state).end_c (a.state).shut_c false
        (option_map (λ c. c.method) (chosen_after generation config.methods (a.state).chosen ((a.state).c ++ (k.hears).bytes))) k.served (k.stands).client (k.stands).client_first (k.hears).first (k.hears).told')
