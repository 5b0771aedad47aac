-- What the definitions say of a record that is served: its phase and what it owes.
use Rattle.std.proofs.Common.{◌≡◌, ℕ, Bool, true, false, ◌&&◌, ◌==◌, if◌then◌else◌, Option, Some, None, List, [], ◌∷◌, ◌++◌, not, refl, sym, ap, subst, eqb-true, ◌∙◌, is_some, is_none, option_and_then, drop, append_assoc}
use Rattle.std.proofs.lemmas.List.{append-nil}
use Rattle.addr_pattern.specs.declared.addr.Addr.{Addr}
use Rattle.addr_pattern.specs.declared.endpoint.Endpoint.{Endpoint}
use Rattle.addr_pattern.specs.declared.host.Host.{Host}
use Rattle.conf_types.specs.declared.entries.Entries.{Entries}
use Rattle.socks_grammar.specs.declared.protocol.Command.{Command}
use Rattle.socks_grammar.specs.declared.user.User.{User}
use Rattle.socks_grammar.specs.Grammar.{greeting}
use Rattle.socks_grammar.specs.Handshake.{Request, Split, split, version_of, login_place}
use Rattle.rule_list.specs.declared.facts.Facts.{Facts}
use Rattle.rule_list.specs.declared.verdict.Verdict.{Verdict}
use Rattle.rule_list.specs.Rules.{numbered}
use Rattle.socks_machine.specs.declared.cause.Cause.{Cause}
use Rattle.socks_machine.specs.declared.record.Chosen.{Chosen}
use Rattle.socks_machine.specs.declared.record.Decision.{Decision}
use Rattle.socks_machine.specs.declared.record.Record.{Record}
use Rattle.socks_machine.specs.Basis.{Basis}
use Rattle.socks_machine.specs.Calls.{name_of}
use Rattle.socks_machine.specs.Decisions.{Grant, Lookup, Opening, Reaching, looked, opened, granted, reached, reached_at}
use Rattle.socks_machine.specs.Front.{Proxy}
use Rattle.socks_machine.specs.Owed.{owed_to_client, owed_to_target, replies, refusal_of_in, granted_replies_in, target_by}
use Rattle.socks_machine.specs.Phase.{Phase, phase, way, phase_split_in, phase_asked_in, phase_named_in, phase_granted_in, phase_reached_in, relay_began, phase_opened_in, phase_by_command, phase_connect, target_payload, client_payload, began_by, replies_length}
use Rattle.socks_machine.specs.Replies.{refusal}
use Rattle.socks_machine.specs.Inputs.{is_served_split, is_connect_command}
use Rattle.socks_machine.specs.Socks.{socks, chosen_reply, passed_reply, success, is_in_login, is_granting_udp, is_proxy5, is_udp_command, has_address}
use Rattle.socks_machine.specs.Step.{fresh}
use Rattle.socks_machine.specs.View.{View, view, length_of, outcome_of_grant, proxy_of, proxy_in, proxy_of_grant, outcome_with, said_with, said_to_proxy, split_of, login_passed, login_fits_behind, asks_login}
use Rattle.assoc_core.specs.Plain.{IsPlainRecord, HasAsked, HasDecided, Talking, LookedUp, Judged, Dialled, Sought, behind_lookup, name_sought, split_by, split_in, prelude_of, has_passed, is_login_failed, is_failed_split, opening_owed, owed_c, owed_t, plain_to_client, plain_to_target, refusal_owed}
use Rattle.assoc_core.proofs.Inputs.{login-passed}
use Rattle.assoc_core.proofs.Payload.{length-is}

-- ---- what was decided

-- what holds of each form of the decisions holds of them
pub record DecidedForms (users : List User) (r : Record) (P : List Decision → Type 0) : Type 0 where
  pub nothing : r ≡ fresh r.number r.peer r.local r.since → P []
  pub opened' : (g : ℕ) (rule : Option ℕ) → Talking users r → P (Decision.Opened g rule None ∷ [])
  pub looked' : (g : ℕ) (rule : Option ℕ) (name : List ℕ) (found : Option Addr) → LookedUp users r name found → P (Decision.Opened g rule None ∷ Decision.Looked name found ∷ [])
  pub granted' : (g : ℕ) (rule : Option ℕ) (x : Option Sought) (g' : ℕ) (facts : Facts) (verdict : Verdict) (route : Option ℕ) (refused : Option Cause) → Judged users r (name_sought x) facts refused
      → P (Decision.Opened g rule None ∷ behind_lookup x (Decision.Granted g' facts verdict route refused ∷ []))
  pub reached' : (g : ℕ) (rule : Option ℕ) (x : Option Sought) (g' : ℕ) (facts : Facts) (verdict : Verdict) (route : Option ℕ) (to : Endpoint) (at : Option Endpoint) → Dialled users r (name_sought x) facts at
      → P (Decision.Opened g rule None ∷ behind_lookup x (Decision.Granted g' facts verdict route None ∷ Decision.Reached to at ∷ []))

pub decided-forms : (users : List User) (r : Record) (P : List Decision → Type 0) → DecidedForms users r P → (ds : List Decision) → HasDecided users r ds → P ds
decided-forms users r P f [] h = f.nothing h
decided-forms users r P f (Decision.Opened g rule None ∷ []) h = f.opened' g rule h
decided-forms users r P f (Decision.Opened g rule None ∷ Decision.Looked name found ∷ []) h = f.looked' g rule name found h
decided-forms users r P f (Decision.Opened g rule None ∷ Decision.Granted g' facts verdict route refused ∷ []) h = f.granted' g rule None g' facts verdict route refused h
decided-forms users r P f (Decision.Opened g rule None ∷ Decision.Looked name (Some a) ∷ Decision.Granted g' facts verdict route refused ∷ []) h =
    f.granted' g rule (Some (record { name = name; addr = a })) g' facts verdict route refused h
decided-forms users r P f (Decision.Opened g rule None ∷ Decision.Granted g' facts verdict route None ∷ Decision.Reached to at ∷ []) h =
    f.reached' g rule None g' facts verdict route to at h
decided-forms users r P f (Decision.Opened g rule None ∷ Decision.Looked name (Some a) ∷ Decision.Granted g' facts verdict route None ∷ Decision.Reached to at ∷ []) h =
    f.reached' g rule (Some (record { name = name; addr = a })) g' facts verdict route to at h
decided-forms users r P f _ h = absurd h

-- ---- behind a lookup

pub granted-behind : (x : Option Sought) (ds : List Decision) → granted (behind_lookup x ds) ≡ granted ds
granted-behind None ds = refl
granted-behind (Some l) ds = refl

pub reached-behind : (x : Option Sought) (ds : List Decision) → reached (behind_lookup x ds) ≡ reached ds
reached-behind None ds = refl
reached-behind (Some l) ds = refl

pub behind-more : (x : Option Sought) (ds es : List Decision) → behind_lookup x ds ++ es ≡ behind_lookup x (ds ++ es)
behind-more None ds es = refl
behind-more (Some l) ds es = refl

-- nothing is reached before the dial, and behind it what was dialled
pub unreached-behind : (g : ℕ) (rule : Option ℕ) (s : Option Sought) (g' : ℕ) (facts : Facts) (verdict : Verdict) (route : Option ℕ) (refused : Option Cause)
    → reached_at (Decision.Opened g rule None ∷ behind_lookup s (Decision.Granted g' facts verdict route refused ∷ [])) ≡ None
unreached-behind g rule s g' facts verdict route refused = ap (option_and_then (λ (x : Reaching). x.at)) (reached-behind s (Decision.Granted g' facts verdict route refused ∷ []))

pub at-behind : (g : ℕ) (rule : Option ℕ) (s : Option Sought) (g' : ℕ) (facts : Facts) (verdict : Verdict) (route : Option ℕ) (to : Endpoint) (at : Option Endpoint)
    → reached_at (Decision.Opened g rule None ∷ behind_lookup s (Decision.Granted g' facts verdict route None ∷ Decision.Reached to at ∷ [])) ≡ at
at-behind g rule s g' facts verdict route to at = ap (option_and_then (λ (x : Reaching). x.at)) (reached-behind s (Decision.Granted g' facts verdict route None ∷ Decision.Reached to at ∷ []))

-- the forms, whether a name was looked up or not
pub has-judged : (users : List User) (r : Record) (g : ℕ) (rule : Option ℕ) (s : Option Sought) (g' : ℕ) (facts : Facts) (verdict : Verdict) (route : Option ℕ) (refused : Option Cause) → Judged users r (name_sought s) facts refused
    → HasDecided users r (Decision.Opened g rule None ∷ behind_lookup s (Decision.Granted g' facts verdict route refused ∷ []))
has-judged users r g rule None g' facts verdict route refused h = h
has-judged users r g rule (Some l) g' facts verdict route refused h = h

pub has-dialled : (users : List User) (r : Record) (g : ℕ) (rule : Option ℕ) (s : Option Sought) (g' : ℕ) (facts : Facts) (verdict : Verdict) (route : Option ℕ) (to : Endpoint) (at : Option Endpoint) → Dialled users r (name_sought s) facts at
    → HasDecided users r (Decision.Opened g rule None ∷ behind_lookup s (Decision.Granted g' facts verdict route None ∷ Decision.Reached to at ∷ []))
has-dialled users r g rule None g' facts verdict route to at h = h
has-dialled users r g rule (Some l) g' facts verdict route to at h = h

-- ---- the login

asked-login : (users : List User) (pubs : List Entries) (chosen : Option Chosen) (c : List ℕ) (cause : Option Cause) → is_login_failed cause ≡ is_failed_split (split_by users chosen c)
    → elim (asks_login chosen) [ true ↦ login_fits_behind (socks users pubs) (greeting 0 c) | false ↦ false ] ≡ has_passed chosen c cause
asked-login users pubs None c cause h = refl
asked-login users pubs (Some chosen) c cause h = by (chosen.method == 2) refl
  where
    by : (asks : Bool) → chosen.method == 2 ≡ asks → elim (chosen.method == 2) [ true ↦ login_fits_behind (socks users pubs) (greeting 0 c) | false ↦ false ] ≡ has_passed (Some chosen) c cause
    by false e = rw e refl
    by true e =
        let m : chosen.method ≡ 2 = eqb-true chosen.method 2 e in
        let k : is_login_failed cause ≡ is_failed_split (split users (Some 2) c) = subst (λ n. is_login_failed cause ≡ is_failed_split (split users (Some n) c)) m h in
        rw e (login-passed users pubs c ∙ ap (λ b. is_some (login_place c) && not b) (sym k))

pub record-passed : (users : List User) (pubs : List Entries) (r : Record) → is_login_failed r.cause ≡ is_failed_split (split_in users r) → login_passed (socks users pubs) r ≡ has_passed r.chosen r.c r.cause
record-passed users pubs r h = asked-login users pubs r.chosen r.c r.cause h

-- ---- refusals

-- a CONNECT is no request for UDP
unserved-udp : (k : Command) (host : Host) (ds : List Decision) → is_connect_command k ≡ true → is_udp_command k && has_address ds host && is_none (granted ds) ≡ false
unserved-udp Command.Connect host ds h = refl
unserved-udp Command.Bind host ds h = refl
unserved-udp Command.UdpAssociate host ds h = absurd (cc)
unserved-udp Command.BindReply host ds h = refl
unserved-udp Command.UdpReply host ds h = refl

-- no grant for UDP is due
not-udp : (ds : List Decision) (s : Split) → is_served_split s ≡ true → is_granting_udp ds s ≡ false
not-udp ds (Split.Whole q n) h = unserved-udp q.command q.host ds h
not-udp ds (Split.Bad at byte kind) h = refl
not-udp ds Split.NoMethod h = refl
not-udp ds Split.LoginFailed h = refl
not-udp ds Split.More h = refl

-- ---- what is owed to the client

refused-early : (users : List User) (pubs : List Entries) (x : Record) → is_served_split (split_in users x) ≡ true
    → relay_began (socks users pubs) x ≡ false → proxy_of (socks users pubs) x ≡ None
    → (cause : Option Cause) → refusal_of_in (view (socks users pubs) x) x cause ≡ refusal_owed x.c x.chosen None cause
refused-early users pubs x served unbegan direct None = refl
refused-early users pubs x served unbegan direct (Some cause) =
    ap (λ b. if b then [] else refusal (version_of x.c) (record { in_login = is_in_login x.chosen x.c cause; proxy5 = is_proxy5 proxy; granting_udp = udp }) cause) unbegan
    ∙ (λ i. refusal (version_of x.c) (record { in_login = is_in_login x.chosen x.c cause; proxy5 = is_proxy5 (direct i); granting_udp = udp-none i }) cause)
  where
    proxy : Option Proxy
    proxy = proxy_of (socks users pubs) x

    udp : Bool
    udp = is_granting_udp x.decisions (split_of (socks users pubs) x)

    udp-none : udp ≡ false
    udp-none = not-udp x.decisions (split_in users x) served

pub refused-late : (basis : Basis) (x : Record) → relay_began basis x ≡ true → (cause : Option Cause) → refusal_of_in (view basis x) x cause ≡ []
refused-late basis x began None = refl
refused-late basis x began (Some cause) =
    ap (λ b. if b then [] else (basis.front).refused x.chosen x.c x.decisions (split_of basis x) (proxy_of basis x) cause) began

owes-early : (o q : List ℕ) → ((o ++ []) ++ []) ++ q ≡ o ++ q
owes-early o q = simp append-nil

owes-late : (o s t : List ℕ) → ((o ++ (s ++ [])) ++ t) ++ [] ≡ o ++ (s ++ (t ++ []))
owes-late o s t = simp (append-nil, append_assoc)

-- no proxy stands behind what was decided
abbrev pub IsDirect : List User → List Entries → List Decision → Type 0
IsDirect users pubs ds = option_and_then (proxy_of_grant (socks users pubs)) (granted ds) ≡ None

abbrev OwesClient : List User → List Entries → Record → List Decision → Type 0
OwesClient users pubs r ds = IsDirect users pubs ds → owed_to_client (socks users pubs) (record r { decisions = ds }) ≡ plain_to_client r.c r.t r.chosen (reached_at ds) r.cause

pub early-owes : (users : List User) (pubs : List Entries) (x : Record) → is_served_split (split_in users x) ≡ true → is_login_failed x.cause ≡ is_failed_split (split_in users x)
    → granted_replies_in (view (socks users pubs) x) x (granted x.decisions) ≡ [] → relay_began (socks users pubs) x ≡ false → proxy_of (socks users pubs) x ≡ None
    → owed_to_client (socks users pubs) x ≡ opening_owed x.c x.chosen x.cause ++ refusal_owed x.c x.chosen None x.cause
early-owes users pubs x served failed unanswered unbegan direct =
    ap (λ p. ((chosen_reply x.chosen ++ passed_reply p) ++ g) ++ payload ++ refused) (record-passed users pubs x failed)
    ∙ (ap (λ z. (opening ++ z) ++ payload ++ refused) unanswered
    ∙ (ap (λ b. (opening ++ []) ++ (if b then target_payload (socks users pubs) x else []) ++ refused) unbegan
    ∙ (ap (λ z. ((opening ++ []) ++ []) ++ z) (refused-early users pubs x served unbegan direct x.cause)
    ∙ owes-early opening (refusal_owed x.c x.chosen None x.cause))))
  where
    opening : List ℕ
    opening = opening_owed x.c x.chosen x.cause

    g : List ℕ
    g = granted_replies_in (view (socks users pubs) x) x (granted x.decisions)

    payload : List ℕ
    payload = if relay_began (socks users pubs) x then target_payload (socks users pubs) x else []

    refused : List ℕ
    refused = refusal_of_in (view (socks users pubs) x) x x.cause

abbrev pub passed_grant : ℕ → Facts → Verdict → Option ℕ → Grant
passed_grant g facts verdict route = record { generation = g; facts = facts; verdict = verdict; route = route; refused = None }

late-owes : (users : List User) (pubs : List Entries) (r : Record) (g : ℕ) (rule : Option ℕ) (g' : ℕ) (facts : Facts) (verdict : Verdict) (route : Option ℕ) (to at : Endpoint)
    → is_login_failed r.cause ≡ is_failed_split (split_in users r) → facts.command ≡ Command.Connect
    → OwesClient users pubs r (Decision.Opened g rule None ∷ Decision.Granted g' facts verdict route None ∷ Decision.Reached to (Some at) ∷ [])
late-owes users pubs r g rule g' facts verdict route to at failed connects direct =
    ap (λ p. ((chosen_reply r.chosen ++ passed_reply p) ++ replies) ++ payload ++ refused) (record-passed users pubs x failed)
    ∙ (ap (λ (p : Option Proxy).
    (opening ++ (by_way (way (Some at) (outcome_with r.t (passed_grant g' facts verdict route) p)) ++ []))
    ++ (if began_by facts.command (way (Some at) (outcome_with r.t (passed_grant g' facts verdict route) p)) None then drop (replies_length (outcome_with r.t (passed_grant g' facts verdict route) p)) r.t else [])
    ++ refused) direct
    ∙ (ap (λ (k : Command). (opening ++ (success (version_of r.c) k at ++ [])) ++ (if began_by k (Some at) None then drop 0 r.t else []) ++ refused) connects
    ∙ (ap (λ z. ((opening ++ (success (version_of r.c) Command.Connect at ++ [])) ++ drop 0 r.t) ++ z)
    (refused-late (socks users pubs) x began r.cause)
    ∙ owes-late opening (success (version_of r.c) Command.Connect at) r.t)))
  where
    x : Record
    x = record r { decisions = Decision.Opened g rule None ∷ Decision.Granted g' facts verdict route None ∷ Decision.Reached to (Some at) ∷ [] }

    opening : List ℕ
    opening = opening_owed r.c r.chosen r.cause

    replies : List ℕ
    replies = granted_replies_in (view (socks users pubs) x) x (granted x.decisions)

    payload : List ℕ
    payload = if relay_began (socks users pubs) x then target_payload (socks users pubs) x else []

    refused : List ℕ
    refused = refusal_of_in (view (socks users pubs) x) x r.cause

    by_way : Option Endpoint → List ℕ
    by_way None = []
    by_way (Some e) = success (version_of r.c) facts.command e

    began : relay_began (socks users pubs) x ≡ true
    began = ap (λ (p : Option Proxy). began_by facts.command (way (Some at) (outcome_with r.t (passed_grant g' facts verdict route) p)) None) direct
        ∙ ap (λ (k : Command). began_by k (Some at) None) connects

reached-owes : (users : List User) (pubs : List Entries) (r : Record) (g : ℕ) (rule : Option ℕ) (g' : ℕ) (facts : Facts) (verdict : Verdict) (route : Option ℕ) (to : Endpoint) (at : Option Endpoint)
    → is_served_split (split_in users r) ≡ true → is_login_failed r.cause ≡ is_failed_split (split_in users r) → facts.command ≡ Command.Connect
    → OwesClient users pubs r (Decision.Opened g rule None ∷ Decision.Granted g' facts verdict route None ∷ Decision.Reached to at ∷ [])
reached-owes users pubs r g rule g' facts verdict route to None served failed connects direct =
    early-owes users pubs (record r { decisions = Decision.Opened g rule None ∷ Decision.Granted g' facts verdict route None ∷ Decision.Reached to None ∷ [] }) served failed
    refl (ap (λ (k : Command). began_by k None None) connects) direct
reached-owes users pubs r g rule g' facts verdict route to (Some at) served failed connects direct = late-owes users pubs r g rule g' facts verdict route to at failed connects direct

-- a lookup owes a client nothing
looked-owes : (users : List User) (pubs : List Entries) (r : Record) (g : ℕ) (rule : Option ℕ) (name : List ℕ) (found : Option Addr) (ds : List Decision)
    → is_served_split (split_in users r) ≡ true → IsDirect users pubs ds
    → owed_to_client (socks users pubs) (record r { decisions = Decision.Opened g rule None ∷ Decision.Looked name found ∷ ds })
    ≡ owed_to_client (socks users pubs) (record r { decisions = Decision.Opened g rule None ∷ ds })
looked-owes users pubs r g rule name found ds served direct =
    ap (λ z. replies (socks users pubs) x ++ (if relay_began (socks users pubs) x then target_payload (socks users pubs) x else []) ++ z) (by (relay_began (socks users pubs) x) refl)
  where
    x : Record
    x = record r { decisions = Decision.Opened g rule None ∷ ds }

    y : Record
    y = record r { decisions = Decision.Opened g rule None ∷ Decision.Looked name found ∷ ds }

    by : (b : Bool) → relay_began (socks users pubs) x ≡ b → refusal_of_in (view (socks users pubs) y) y r.cause ≡ refusal_of_in (view (socks users pubs) x) x r.cause
    by true began = refused-late (socks users pubs) y began r.cause ∙ sym (refused-late (socks users pubs) x began r.cause)
    by false unbegan = refused-early users pubs y served unbegan direct r.cause ∙ sym (refused-early users pubs x served unbegan direct r.cause)

owes-behind : (users : List User) (pubs : List Entries) (r : Record) (g : ℕ) (rule : Option ℕ) (s : Option Sought) (ds : List Decision) → is_served_split (split_in users r) ≡ true
    → OwesClient users pubs r (Decision.Opened g rule None ∷ ds) → OwesClient users pubs r (Decision.Opened g rule None ∷ behind_lookup s ds)
owes-behind users pubs r g rule None ds served h direct = h direct
owes-behind users pubs r g rule (Some l) ds served h direct = looked-owes users pubs r g rule l.name (Some l.addr) ds served direct ∙ h direct

pub plain-owes-client : (users : List User) (pubs : List Entries) (r : Record) → IsPlainRecord users r → proxy_of (socks users pubs) r ≡ None → owed_to_client (socks users pubs) r ≡ owed_c r
plain-owes-client users pubs r h direct = decided-forms users r (OwesClient users pubs r) (record {
  nothing = λ fresh' direct'. early-owes users pubs (record r { decisions = [] }) h.served h.failed refl refl refl;
  opened' = λ g rule d direct'. early-owes users pubs (record r { decisions = Decision.Opened g rule None ∷ [] }) h.served h.failed refl refl refl;
  looked' = λ g rule name found d direct'. early-owes users pubs (record r { decisions = Decision.Opened g rule None ∷ Decision.Looked name found ∷ [] }) h.served h.failed refl refl refl;
  granted' = λ g rule s g' facts verdict route refused d. owes-behind users pubs r g rule s (Decision.Granted g' facts verdict route refused ∷ []) h.served
      (early-owes users pubs (record r { decisions = Decision.Opened g rule None ∷ Decision.Granted g' facts verdict route refused ∷ [] }) h.served h.failed
      refl (ap (λ (k : Command). began_by k None None) d.command));
  reached' = λ g rule s g' facts verdict route to at d. owes-behind users pubs r g rule s (Decision.Granted g' facts verdict route None ∷ Decision.Reached to at ∷ []) h.served
      (reached-owes users pubs r g rule g' facts verdict route to at h.served h.failed d.command);
}) r.decisions h.decided direct

-- ---- what is owed to the target

pub and-false : (b : Bool) → b && false ≡ false
and-false true = refl
and-false false = refl

abbrev OwesTarget : List User → List Entries → Record → List Decision → Type 0
OwesTarget users pubs r ds = IsDirect users pubs ds → owed_to_target (socks users pubs) (record r { decisions = ds }) ≡ plain_to_target (prelude_of r) r.c (reached_at ds)

reached-owes-target : (users : List User) (pubs : List Entries) (r : Record) (g : ℕ) (rule : Option ℕ) (g' : ℕ) (facts : Facts) (verdict : Verdict) (route : Option ℕ) (to : Endpoint) (at : Option Endpoint) (name : Option (List ℕ))
    → Dialled users r name facts at
    → OwesTarget users pubs r (Decision.Opened g rule None ∷ Decision.Granted g' facts verdict route None ∷ Decision.Reached to at ∷ [])
reached-owes-target users pubs r g rule g' facts verdict route to None name d direct =
    ap (λ (k : Command). elim (target_by None None k) [
      | true ↦ said_to_proxy (socks users pubs) x ++ (if relay_began (socks users pubs) x then client_payload (socks users pubs) x else [])
      | false ↦ []
    ]) d.command
  where
    x : Record
    x = record r { decisions = Decision.Opened g rule None ∷ Decision.Granted g' facts verdict route None ∷ Decision.Reached to None ∷ [] }
reached-owes-target users pubs r g rule g' facts verdict route to (Some at) name d direct =
    ap (λ (p : Option Proxy). due p facts.command (length_of (split_of (socks users pubs) x))) direct
    ∙ (ap (λ (k : Command). due None k (length_of (split_of (socks users pubs) x))) d.command
    ∙ ap (λ n. due None Command.Connect n) (length-is users pubs x asked))
  where
    x : Record
    x = record r { decisions = Decision.Opened g rule None ∷ Decision.Granted g' facts verdict route None ∷ Decision.Reached to (Some at) ∷ [] }

    asked : HasAsked users x
    asked = record { request = d.asked.request; len = d.asked.len; whole = d.asked.whole }

    due : Option Proxy → Command → ℕ → List ℕ
    due p k n = elim (target_by (Some at) None k) [
      | true ↦ said_with r.t (passed_grant g' facts verdict route) p ++ (if began_by k (way (Some at) (outcome_with r.t (passed_grant g' facts verdict route) p)) None then drop n r.c else [])
      | false ↦ []
    ]

judged-owes-target : (users : List User) (pubs : List Entries) (r : Record) (g : ℕ) (rule : Option ℕ) (g' : ℕ) (facts : Facts) (verdict : Verdict) (route : Option ℕ) (refused : Option Cause) → facts.command ≡ Command.Connect
    → OwesTarget users pubs r (Decision.Opened g rule None ∷ Decision.Granted g' facts verdict route refused ∷ [])
judged-owes-target users pubs r g rule g' facts verdict route refused connects direct =
    ap (λ (k : Command). elim (is_none refused && target_by None None k) [
      | true ↦ said_to_proxy (socks users pubs) x ++ (if relay_began (socks users pubs) x then client_payload (socks users pubs) x else [])
      | false ↦ []
    ]) connects
    ∙ ap (λ b. elim b [
      | true ↦ said_to_proxy (socks users pubs) x ++ (if relay_began (socks users pubs) x then client_payload (socks users pubs) x else [])
      | false ↦ []
    ]) (and-false (is_none refused))
  where
    x : Record
    x = record r { decisions = Decision.Opened g rule None ∷ Decision.Granted g' facts verdict route refused ∷ [] }

-- nor does it owe a target anything
owes-target-behind : (users : List User) (pubs : List Entries) (r : Record) (g : ℕ) (rule : Option ℕ) (s : Option Sought) (ds : List Decision)
    → OwesTarget users pubs r (Decision.Opened g rule None ∷ ds) → OwesTarget users pubs r (Decision.Opened g rule None ∷ behind_lookup s ds)
owes-target-behind users pubs r g rule None ds h = h
owes-target-behind users pubs r g rule (Some l) ds h = h

pub plain-owes-target : (users : List User) (pubs : List Entries) (r : Record) → IsPlainRecord users r → proxy_of (socks users pubs) r ≡ None → owed_to_target (socks users pubs) r ≡ owed_t r
plain-owes-target users pubs r h direct = decided-forms users r (OwesTarget users pubs r) (record {
  nothing = λ fresh' direct'. refl;
  opened' = λ g rule d direct'. refl;
  looked' = λ g rule name found d direct'. refl;
  granted' = λ g rule s g' facts verdict route refused d. owes-target-behind users pubs r g rule s (Decision.Granted g' facts verdict route refused ∷ [])
      (judged-owes-target users pubs r g rule g' facts verdict route refused d.command);
  reached' = λ g rule s g' facts verdict route to at d. owes-target-behind users pubs r g rule s (Decision.Granted g' facts verdict route None ∷ Decision.Reached to at ∷ [])
      (reached-owes-target users pubs r g rule g' facts verdict route to at (name_sought s) d);
}) r.decisions h.decided direct

-- ---- the phase

going-phase : (basis : Basis) (x : Record) → x.done ≡ false → x.cause ≡ None → phase basis x ≡ phase_opened_in (view basis x) x (opened x.decisions)
going-phase basis x undone uncaused =
    ap (λ b. if b then Phase.Ended else (if is_some x.cause then Phase.Closing else phase_opened_in (view basis x) x (opened x.decisions))) undone
    ∙ ap (λ k. if is_some k then Phase.Closing else phase_opened_in (view basis x) x (opened x.decisions)) uncaused

pub closing-phase : (basis : Basis) (x : Record) (cause : Cause) → x.done ≡ false → x.cause ≡ Some cause → phase basis x ≡ Phase.Closing
closing-phase basis x cause undone fixed =
    ap (λ b. if b then Phase.Ended else (if is_some x.cause then Phase.Closing else phase_opened_in (view basis x) x (opened x.decisions))) undone
    ∙ ap (λ k. if is_some k then Phase.Closing else phase_opened_in (view basis x) x (opened x.decisions)) fixed

pub talk-phase : (users : List User) (pubs : List Entries) (r : Record) (g : ℕ) (rule : Option ℕ)
    → r.done ≡ false → r.cause ≡ None → split_in users r ≡ Split.More
    → phase (socks users pubs) (record r { decisions = Decision.Opened g rule None ∷ [] }) ≡ Phase.Talk
talk-phase users pubs r g rule undone uncaused more =
    going-phase (socks users pubs) x undone uncaused ∙ ap (phase_split_in (view (socks users pubs) x) x) more
  where
    x : Record
    x = record r { decisions = Decision.Opened g rule None ∷ [] }

-- a request that is served is a CONNECT
pub served-connect : (k : Command) → is_connect_command k ≡ true → k ≡ Command.Connect
served-connect Command.Connect h = refl
served-connect Command.Bind h = absurd (cc)
served-connect Command.UdpAssociate h = absurd (cc)
served-connect Command.BindReply h = absurd (cc)
served-connect Command.UdpReply h = absurd (cc)

-- ---- the phase behind a whole prelude

-- what a lookup that found an address is
abbrev pub lookup_in : Option Sought → Option Lookup
lookup_in None = None
lookup_in (Some l) = Some (record { host = l.name; found = Some l.addr })

looked-behind : (s : Option Sought) (ds : List Decision) → looked ds ≡ None → looked (behind_lookup s ds) ≡ lookup_in s
looked-behind None ds h = h
looked-behind (Some l) ds h = refl

asked-phase : (users : List User) (pubs : List Entries) (x : Record) (o : Opening) → x.done ≡ false → x.cause ≡ None → opened x.decisions ≡ Some o → (asked : HasAsked users x)
    → phase (socks users pubs) x ≡ phase_asked_in (view (socks users pubs) x) x asked.request (asked.request).host
asked-phase users pubs x o undone uncaused opens asked =
    going-phase (socks users pubs) x undone uncaused
    ∙ (ap (phase_opened_in (view (socks users pubs) x) x) opens
    ∙ ap (phase_split_in (view (socks users pubs) x) x) asked.whole)

-- the host is an address, or its name was looked up
by-host : (v : View) (x : Record) (q : Request) (host : Host) (s : Option Sought) → name_of host ≡ name_sought s → looked x.decisions ≡ lookup_in s
    → phase_asked_in v x q host ≡ phase_granted_in v x q (granted x.decisions)
by-host v x q (Host.Addr a) s h k = refl
by-host v x q (Host.Name name) None h k = absurd (cc)
by-host v x q (Host.Name name) (Some l) h k = ap (phase_named_in v x q name) k

-- a record with these decisions whose prelude is whole, for that name or an address
pub record IsReady (users : List User) (r : Record) (s : Option Sought) : Type 0 where
  pub undone : r.done ≡ false
  pub uncaused : r.cause ≡ None
  pub asked : HasAsked users r
  pub named : name_of (asked.request).host ≡ name_sought s

ready-phase : (users : List User) (pubs : List Entries) (r : Record) (g : ℕ) (rule : Option ℕ) (s : Option Sought) (ds : List Decision) (k : IsReady users r s) → looked ds ≡ None
    → (let x = record r { decisions = Decision.Opened g rule None ∷ behind_lookup s ds } in phase (socks users pubs) x ≡ phase_granted_in (view (socks users pubs) x) x (k.asked).request (granted (behind_lookup s ds)))
ready-phase users pubs r g rule s ds k unlooked =
    asked-phase users pubs x (record { generation = g; rule = rule; refused = None }) k.undone k.uncaused refl asked
    ∙ by-host (view (socks users pubs) x) x (k.asked).request ((k.asked).request).host s k.named (looked-behind s ds unlooked)
  where
    x : Record
    x = record r { decisions = Decision.Opened g rule None ∷ behind_lookup s ds }

    asked : HasAsked users x
    asked = record { request = (k.asked).request; len = (k.asked).len; whole = (k.asked).whole }

pub judging-phase : (users : List User) (pubs : List Entries) (r : Record) (g : ℕ) (rule : Option ℕ) (s : Option Sought) (k : IsReady users r s)
    → phase (socks users pubs) (record r { decisions = Decision.Opened g rule None ∷ behind_lookup s [] }) ≡ Phase.Judging (k.asked).request
judging-phase users pubs r g rule s k = ready-phase users pubs r g rule s [] k refl ∙ ap (phase_granted_in (view (socks users pubs) x) x (k.asked).request) (granted-behind s [])
  where
    x : Record
    x = record r { decisions = Decision.Opened g rule None ∷ behind_lookup s [] }

-- the name is still to be looked up
pub seek-phase : (users : List User) (pubs : List Entries) (r : Record) (g : ℕ) (rule : Option ℕ) (name : List ℕ) → r.done ≡ false → r.cause ≡ None → (asked : HasAsked users r)
    → (asked.request).host ≡ Host.Name name → phase (socks users pubs) (record r { decisions = Decision.Opened g rule None ∷ [] }) ≡ Phase.Seek name
seek-phase users pubs r g rule name undone uncaused asked named =
    asked-phase users pubs x (record { generation = g; rule = rule; refused = None }) undone uncaused refl (record { request = asked.request; len = asked.len; whole = asked.whole })
    ∙ ap (phase_asked_in (view (socks users pubs) x) x asked.request) named
  where
    x : Record
    x = record r { decisions = Decision.Opened g rule None ∷ [] }

pub reach-phase : (users : List User) (pubs : List Entries) (r : Record) (g : ℕ) (rule : Option ℕ) (s : Option Sought) (g' : ℕ) (facts : Facts) (verdict : Verdict) (route : Option ℕ) → IsReady users r s
    → phase (socks users pubs) (record r { decisions = Decision.Opened g rule None ∷ behind_lookup s (Decision.Granted g' facts verdict route None ∷ []) }) ≡ Phase.Reach (passed_grant g' facts verdict route)
reach-phase users pubs r g rule s g' facts verdict route k =
    ready-phase users pubs r g rule s (Decision.Granted g' facts verdict route None ∷ []) k refl
    ∙ (ap (phase_granted_in (view (socks users pubs) x) x (k.asked).request) (granted-behind s (Decision.Granted g' facts verdict route None ∷ []))
    ∙ ap (λ (z : Option Reaching). if is_some z then phase_reached_in (view (socks users pubs) x) x (passed_grant g' facts verdict route) else Phase.Reach (passed_grant g' facts verdict route))
    (reached-behind s (Decision.Granted g' facts verdict route None ∷ [])))
  where
    x : Record
    x = record r { decisions = Decision.Opened g rule None ∷ behind_lookup s (Decision.Granted g' facts verdict route None ∷ []) }

pub relay-phase : (users : List User) (pubs : List Entries) (r : Record) (g : ℕ) (rule : Option ℕ) (s : Option Sought) (g' : ℕ) (facts : Facts) (verdict : Verdict) (route : Option ℕ) (to at : Endpoint) → IsReady users r s
    → facts.command ≡ Command.Connect → proxy_in route (numbered pubs g') ≡ None
    → phase (socks users pubs) (record r { decisions = Decision.Opened g rule None ∷ behind_lookup s (Decision.Granted g' facts verdict route None ∷ Decision.Reached to (Some at) ∷ []) }) ≡ Phase.Relay
relay-phase users pubs r g rule s g' facts verdict route to at k connects direct =
    ready-phase users pubs r g rule s ds k refl
    ∙ (ap (phase_granted_in (view (socks users pubs) x) x (k.asked).request) (granted-behind s ds)
    ∙ (ap (λ (z : Option Reaching). if is_some z then phase_reached_in (view (socks users pubs) x) x (passed_grant g' facts verdict route) else Phase.Reach (passed_grant g' facts verdict route)) (reached-behind s ds)
    ∙ (ap (phase_by_command (view (socks users pubs) x) x (passed_grant g' facts verdict route)) connects
    ∙ (ap (λ (z : Option Grant). phase_connect (outcome_of_grant (socks users pubs) r.t z)) (granted-behind s ds)
    ∙ ap (λ (p : Option Proxy). phase_connect (outcome_with r.t (passed_grant g' facts verdict route) p)) direct))))
  where
    ds : List Decision
    ds = Decision.Granted g' facts verdict route None ∷ Decision.Reached to (Some at) ∷ []

    x : Record
    x = record r { decisions = Decision.Opened g rule None ∷ behind_lookup s ds }
