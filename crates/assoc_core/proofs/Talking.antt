-- What a turn takes of a client that talks.
use Rattle.std.proofs.Common.{◌≡◌, ◌<◌, ℕ, Bool, true, false, Option, Some, None, List, [], ◌∷◌, ◌++◌, length, All, refl, sym, ap, ◌∙◌, inl, inr}
use Rattle.std.proofs.lemmas.List.{append-nil}
use mathlib.Core.List.{IsPrefix}
use Rattle.addr_pattern.specs.declared.endpoint.Endpoint.{Endpoint}
use Rattle.conf_types.specs.declared.entries.Entries.{Entries}
use Rattle.socks_grammar.specs.declared.protocol.Method.{Method}
use Rattle.conf_types.specs.declared.route.Route.{Route}
use Rattle.conf_types.specs.declared.route.Via.{Via}
use Rattle.socks_grammar.specs.declared.user.User.{User}
use Rattle.socks_grammar.specs.Handshake.{Split}
use Rattle.handshake_core.specs.Taking.{refusal_of}
use Rattle.rule_list.specs.Rules.{numbered}
use Rattle.socks_machine.specs.declared.cause.Cause.{Cause}
use Rattle.socks_machine.specs.declared.cause.StopBy.{StopBy}
use Rattle.socks_machine.specs.declared.lines.Line.{Line}
use Rattle.socks_machine.specs.declared.record.Chosen.{Chosen}
use Rattle.socks_machine.specs.declared.record.Decision.{Decision}
use Rattle.socks_machine.specs.declared.record.Record.{Record}
use Rattle.socks_machine.specs.declared.world.Object.{Object}
use Rattle.socks_machine.specs.Basis.{Basis}
use Rattle.socks_machine.specs.Calls.{Context}
use Rattle.socks_machine.specs.Inputs.{is_served_split}
use Rattle.socks_machine.specs.InTurn.{Took, Takes, Takings}
use Rattle.socks_machine.specs.Phase.{Phase, phase, phase_split_in}
use Rattle.socks_machine.specs.Settle.{settled, fix, cause_in, cause_of_split}
use Rattle.socks_machine.specs.Socks.{socks}
use Rattle.socks_machine.specs.Taking.{some_in, reads_client, with_client_bytes, chosen_after}
use Rattle.socks_machine.specs.Turn.{quantum}
use Rattle.socks_machine.specs.View.{view}
use Rattle.assoc_core.specs.Plain.{HasChosen, split_by, split_in, opening_owed}
use Rattle.assoc_core.specs.Turns.{context}
use Rattle.assoc_core.proofs.Choosing.{has-chosen-after, chosen-still}
use Rattle.assoc_core.proofs.PlainRecords.{talk-phase}

-- ---- the records

-- what never changes of an association
pub record Party : Type 0 where
  pub number : ℕ
  pub peer : Endpoint
  pub local : Endpoint
  pub since : ℕ

-- an association with a client that was let in, and no target
abbrev pub talker : Party → List ℕ → List ℕ → Bool → Option Chosen → List Decision → Option Cause → Record
talker p c sent_c end_c chosen ds cause = record {
  number = p.number;
  peer = p.peer;
  local = p.local;
  since = p.since;
  c = c;
  t = [];
  sent_c = sent_c;
  sent_t = [];
  end_c = end_c;
  end_t = false;
  shut_c = false;
  shut_t = false;
  chosen = chosen;
  decisions = ds;
  grams = [];
  sent_u = [];
  cause = cause;
  at_close = None;
  done = false;
}

-- a turn that takes x of a client, which has said c and for which this was decided, and nothing else
pub record Speaking : Type 0 where
  pub users : List User
  pub pubs : List Entries
  pub generation : ℕ
  pub config : Entries
  pub most : ℕ
  pub h : List Line
  pub marks : List StopBy
  pub party : Party
  pub ds : List Decision
  pub c : List ℕ
  pub x : List ℕ
  pub sent : List ℕ
  pub chosen : Option Chosen

abbrev pub spoken_to : Speaking → Basis
spoken_to s = socks s.users s.pubs

abbrev pub spoken_in : Speaking → Context
spoken_in s = context s.users s.pubs s.generation s.config s.most s.h s.marks

abbrev pub unspoken : Speaking → Record
unspoken s = talker s.party s.c s.sent false s.chosen s.ds None

abbrev pub chosen_behind : Speaking → Option Chosen
chosen_behind s = chosen_after s.generation (s.config).methods s.chosen (s.c ++ s.x)

abbrev pub spoken : Speaking → Record
spoken s = talker s.party (s.c ++ s.x) s.sent false (chosen_behind s) s.ds None

abbrev pub spoken_takings : Speaking → Bool → List Object → List Object → Takings
spoken_takings s ends idle full = record { c = s.x; t = []; end_c = ends; end_t = false; grams = []; came = None; sent_u = 0; idle = idle; full = full }

-- a turn that hears x of a client, which has said c
pub record Hearing : Type 0 where
  pub users : List User
  pub pubs : List Entries
  pub generation : ℕ
  pub config : Entries
  pub most : ℕ
  pub h : List Line
  pub marks : List StopBy
  pub party : Party
  pub g : ℕ
  pub rule : Option ℕ
  pub c : List ℕ
  pub x : List ℕ
  pub sent : List ℕ
  pub chosen : Option Chosen
  pub routes' : All (λ (r : Route). r.via ≡ Via.Direct) config.routes
  pub published : numbered pubs generation ≡ Some config
  pub served : is_served_split (split_by users (chosen_after generation config.methods chosen (c ++ x)) (c ++ x)) ≡ true
  pub chosen' : HasChosen c chosen
  pub more : split_by users chosen c ≡ Split.More
  pub few : length x < quantum
  pub sent' : IsPrefix sent (opening_owed c chosen None ++ [])

abbrev pub basis_of : Hearing → Basis
basis_of t = socks t.users t.pubs

abbrev pub context_of : Hearing → Context
context_of t = context t.users t.pubs t.generation t.config t.most t.h t.marks

abbrev pub let_in : Hearing → List Decision
let_in t = Decision.Opened t.g t.rule None ∷ []

abbrev pub before : Hearing → Record
before t = talker t.party t.c t.sent false t.chosen (let_in t) None

abbrev pub speaking : Hearing → Speaking
speaking t = record {
  users = t.users;
  pubs = t.pubs;
  generation = t.generation;
  config = t.config;
  most = t.most;
  h = t.h;
  marks = t.marks;
  party = t.party;
  ds = let_in t;
  c = t.c;
  x = t.x;
  sent = t.sent;
  chosen = t.chosen;
}

abbrev pub answered : Hearing → Option Chosen
answered t = chosen_after t.generation (t.config).methods t.chosen (t.c ++ t.x)

abbrev pub heard : Hearing → Record
heard t = talker t.party (t.c ++ t.x) t.sent false (answered t) (let_in t) None

-- what the whole input is
abbrev pub split_heard : Hearing → Split
split_heard t = split_by t.users (answered t) (t.c ++ t.x)

-- ---- the choice of the method

pub has-answered : (t : Hearing) → HasChosen (t.c ++ t.x) (answered t)
has-answered t = has-chosen-after t.generation (t.config).methods t.chosen t.c t.x t.chosen'

-- nothing was heard
pub heard-nothing : (t : Hearing) → t.x ≡ [] → before t ≡ heard t
heard-nothing t none = sym (λ i. talker t.party (c' i) t.sent false (chosen-same i) (let_in t) None)
  where
    c' : t.c ++ t.x ≡ t.c
    c' = ap (λ x. t.c ++ x) none ∙ append-nil t.c

    chosen-same : answered t ≡ t.chosen
    chosen-same = ap (chosen_after t.generation (t.config).methods t.chosen) c' ∙ chosen-still t.generation (t.config).methods t.chosen t.c t.chosen'

-- ---- what is taken

abbrev pub heard_takings : Hearing → Bool → List Object → List Object → Takings
heard_takings t ends idle full = record { c = t.x; t = []; end_c = ends; end_t = false; grams = []; came = None; sent_u = 0; idle = idle; full = full }

pub phase-before : (t : Hearing) → phase (basis_of t) (before t) ≡ Phase.Talk
phase-before t = talk-phase t.users t.pubs (before t) t.g t.rule refl refl t.more

took-bytes : (basis : Basis) (idle full : List Object) (g : ℕ) (methods : List Method) (x : List ℕ) (r s : Record)
    → phase basis r ≡ Phase.Talk → settled basis (with_client_bytes g methods x r) ≡ s → (x ≡ [] → r ≡ s)
    → Took basis (some_in x) (reads_client basis idle full) (with_client_bytes g methods x) r s
took-bytes basis idle full g methods [] r s talks is none = inl (refl, sym (none refl))
took-bytes basis idle full g methods (b ∷ bs) r s talks is none = inr (refl, ap (reads_client basis idle full r) talks, sym is)

-- the bytes alone
pub takes-open : (t : Hearing) (idle full : List Object) (s : Record) → settled (basis_of t) (heard t) ≡ s → (t.x ≡ [] → before t ≡ s)
    → Takes (basis_of t) t.generation (t.config).methods (heard_takings t false idle full) (before t) s
takes-open t idle full s is none = record {
  r1 = before t;
  r2 = before t;
  r3 = before t;
  r4 = before t;
  r5 = s;
  bytes_t = inl (refl, refl);
  ends_t = inl (refl, refl);
  grams = inl (refl, refl);
  came = refl;
  bytes_c = took-bytes (basis_of t) idle full t.generation (t.config).methods t.x (before t) s (phase-before t) is none;
  ends_c = inl (refl, refl);
}

-- ---- what that fixes

pub phase-more : (t : Hearing) (sent : List ℕ) (end_c : Bool) → split_heard t ≡ Split.More
    → phase (basis_of t) (talker t.party (t.c ++ t.x) sent end_c (answered t) (let_in t) None) ≡ Phase.Talk
phase-more t sent end_c more = talk-phase t.users t.pubs (talker t.party (t.c ++ t.x) sent end_c (answered t) (let_in t) None) t.g t.rule refl refl more

-- what a record in Talk fixes by itself
settled-by : (t : Hearing) (end_c : Bool) (split : Split) → phase (basis_of t) (talker t.party (t.c ++ t.x) t.sent end_c (answered t) (let_in t) None) ≡ Phase.Talk → split_heard t ≡ split
    → settled (basis_of t) (talker t.party (t.c ++ t.x) t.sent end_c (answered t) (let_in t) None)
    ≡ fix (cause_of_split (talker t.party (t.c ++ t.x) t.sent end_c (answered t) (let_in t) None) split) (talker t.party (t.c ++ t.x) t.sent end_c (answered t) (let_in t) None)
settled-by t end_c split talks is =
    ap (λ p. fix (cause_in (basis_of t) r p) r) talks
    ∙ ap (λ s. fix (cause_of_split r s) r) is
  where
    r : Record
    r = talker t.party (t.c ++ t.x) t.sent end_c (answered t) (let_in t) None

pub settled-more : (t : Hearing) → split_heard t ≡ Split.More → settled (basis_of t) (heard t) ≡ heard t
settled-more t more = settled-by t false Split.More (phase-more t t.sent false more) more

abbrev pub gone : Hearing → Record
gone t = talker t.party (t.c ++ t.x) t.sent true (answered t) (let_in t) (Some (Cause.ClientGone (length (t.c ++ t.x))))

-- the bytes, and the end behind them
pub takes-end : (t : Hearing) (idle full : List Object) → split_heard t ≡ Split.More
    → Takes (basis_of t) t.generation (t.config).methods (heard_takings t true idle full) (before t) (gone t)
takes-end t idle full more = record {
  r1 = before t;
  r2 = before t;
  r3 = before t;
  r4 = before t;
  r5 = heard t;
  bytes_t = inl (refl, refl);
  ends_t = inl (refl, refl);
  grams = inl (refl, refl);
  came = refl;
  bytes_c = took-bytes (basis_of t) idle full t.generation (t.config).methods t.x (before t) (heard t) (phase-before t) (settled-more t more) (heard-nothing t);
  ends_c = inr (
    refl,
    ap (reads_client (basis_of t) idle full (heard t)) (phase-more t t.sent false more),
    sym (settled-by t true Split.More (phase-more t t.sent true more) more),
  );
}

-- ---- an input that is refused

abbrev pub refused : Hearing → Cause → Record
refused t cause = talker t.party (t.c ++ t.x) t.sent false (answered t) (let_in t) (Some cause)

-- it is refused while the client talks, by the cause of its split
by-refusal : (t : Hearing) (cause : Cause) (split : Split) → refusal_of split ≡ Some cause
    → (phase_split_in (view (basis_of t) (heard t)) (heard t) split ≡ Phase.Talk) × (cause_of_split (heard t) split ≡ Some cause)
by-refusal t cause (Split.Bad at byte kind) h = (refl, h)
by-refusal t cause Split.NoMethod h = (refl, h)
by-refusal t cause Split.LoginFailed h = (refl, h)
by-refusal t cause (Split.Whole q n) h = absurd (cc)
by-refusal t cause Split.More h = absurd (cc)

pub settled-refused : (t : Hearing) (cause : Cause) → refusal_of (split_heard t) ≡ Some cause → settled (basis_of t) (heard t) ≡ refused t cause
settled-refused t cause h = settled-by t false (split_heard t) (by-refusal t cause (split_heard t) h).0 refl
    ∙ ap (λ o. fix o (heard t)) (by-refusal t cause (split_heard t) h).1

-- something was heard then
pub refused-something : (t : Hearing) (cause : Cause) → refusal_of (split_heard t) ≡ Some cause → t.x ≡ [] → before t ≡ refused t cause
refused-something t cause h none = absurd (clash (ap (λ (r : Record). split_in t.users r) (heard-nothing t none)))
  where
    clash : split_in t.users (before t) ≡ split_heard t → ⊥
    clash e = let k : refusal_of Split.More ≡ Some cause = ap refusal_of (sym t.more ∙ e) ∙ h in cc
