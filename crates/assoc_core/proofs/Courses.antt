-- What a record that is served and has no cause has decided, by how far it has come.
use Rattle.std.proofs.Common.{ℕ, ◌≡◌, refl, true, Option, Some, None, is_some, List, [], ◌∷◌, sym, subst, ◌∙◌, Result, Ok, Err, IfOk}
use Rattle.addr_pattern.specs.declared.addr.Addr.{Addr}
use Rattle.addr_pattern.specs.declared.endpoint.Endpoint.{Endpoint}
use Rattle.rule_list.specs.declared.facts.Facts.{Facts}
use Rattle.rule_list.specs.declared.verdict.Verdict.{Verdict}
use Rattle.socks_machine.specs.declared.cause.Cause.{Cause}
use Rattle.socks_machine.specs.declared.record.Decision.{Decision}
use Rattle.socks_machine.specs.declared.record.Record.{Record}
use Rattle.socks_machine.specs.Decisions.{reached_at}
use Rattle.socks_grammar.specs.declared.user.User.{User}
use Rattle.assoc_core.specs.declared.one_turn.Course.{Course}
use Rattle.assoc_core.specs.Course.{course_of}
use Rattle.net_ends.specs.Counts.{Counts}
use Rattle.net_ends.specs.Nets.{NetTold}
use Rattle.net_ends.specs.Told.{Told}
use Rattle.socks_machine.specs.declared.cause.StopBy.{StopBy}
use Rattle.socks_machine.specs.declared.lines.Line.{Line}
use Rattle.socks_machine.specs.Calls.{Context}
use Rattle.assoc_core.specs.declared.assoc.Assoc.{Assoc}
use Rattle.assoc_core.specs.declared.assoc.Next.{Next}
use Rattle.assoc_core.specs.Plain.{HasDecided, LookedUp, Judged, Dialled, Sought, behind_lookup, name_sought}
use Rattle.assoc_core.specs.Reaching.{SameDesk}
use Rattle.assoc_core.specs.Turns.{Turns}
use Rattle.assoc_core.proofs.PlainRecords.{decided-forms, at-behind}

caused : {A : Type 0} (k : Option Cause) → k ≡ None → is_some k ≡ true → A
caused None e h = cc
caused (Some k) e h = cc

abbrev IsGrant : Decision → Type 0
IsGrant (Decision.Granted g facts verdict route refused) = Unit {0}
IsGrant _ = ⊥

course-granted : (g : ℕ) (rule : Option ℕ) (s : Option Sought) (d : Decision) → IsGrant d → course_of (Decision.Opened g rule None ∷ behind_lookup s (d ∷ [])) ≡ Course.Reach
course-granted g rule None (Decision.Granted g' facts verdict route refused) h = refl
course-granted g rule (Some l) d h = refl
course-granted g rule None _ h = absurd h

course-reached : (g : ℕ) (rule : Option ℕ) (s : Option Sought) (d e : Decision) → IsGrant d → course_of (Decision.Opened g rule None ∷ behind_lookup s (d ∷ e ∷ [])) ≡ Course.Relay
course-reached g rule None (Decision.Granted g' facts verdict route refused) e h = refl
course-reached g rule (Some l) d e h = refl
course-reached g rule None _ e h = absurd h

other-course : {A : Type 0} (x y z : Course) → x ≡ y → x ≡ z → (y ≡ z → ⊥) → A
other-course x y z h k f = absurd (f (sym h ∙ k))

pub at-accept : (users : List User) (r : Record) (ds : List Decision) → HasDecided users r ds → course_of ds ≡ Course.Accept → ds ≡ []
at-accept users r ds h c = decided-forms users r (λ ds. course_of ds ≡ Course.Accept → ds ≡ []) (record {
  nothing = λ fresh' e. refl;
  opened' = λ g rule d e. absurd (cc);
  looked' = λ g rule name found d e. absurd (cc);
  granted' = λ g rule s g' facts verdict route refused d e. other-course _ _ _ (course-granted g rule s (Decision.Granted g' facts verdict route refused) tt) e (λ x. cc);
  reached' = λ g rule s g' facts verdict route to at d e. other-course _ _ _ (course-reached g rule s (Decision.Granted g' facts verdict route None) (Decision.Reached to at) tt) e (λ x. cc);
}) ds h c

abbrev AtTalk : List Decision → Type 0
AtTalk ds = (g : ℕ) × ((rule : Option ℕ) × (ds ≡ Decision.Opened g rule None ∷ []))

pub at-talk : (users : List User) (r : Record) (ds : List Decision) → HasDecided users r ds → course_of ds ≡ Course.Talk → AtTalk ds
at-talk users r ds h c = decided-forms users r (λ ds. course_of ds ≡ Course.Talk → AtTalk ds) (record {
  nothing = λ fresh' e. absurd (cc);
  opened' = λ g rule d e. (g, (rule, refl));
  looked' = λ g rule name found d e. absurd (cc);
  granted' = λ g rule s g' facts verdict route refused d e. other-course _ _ _ (course-granted g rule s (Decision.Granted g' facts verdict route refused) tt) e (λ x. cc);
  reached' = λ g rule s g' facts verdict route to at d e. other-course _ _ _ (course-reached g rule s (Decision.Granted g' facts verdict route None) (Decision.Reached to at) tt) e (λ x. cc);
}) ds h c

pub record AtJudge (ds : List Decision) : Type 0 where
  pub g : ℕ
  pub rule : Option ℕ
  pub sought : Sought
  pub is : ds ≡ Decision.Opened g rule None ∷ behind_lookup (Some sought) []

was-found : (users : List User) (r : Record) (g : ℕ) (rule : Option ℕ) (name : List ℕ) (found : Option Addr) → LookedUp users r name found → r.cause ≡ None → AtJudge (Decision.Opened g rule None ∷ Decision.Looked name found ∷ [])
was-found users r g rule name None d none = caused r.cause none (d.stands refl)
was-found users r g rule name (Some a) d none = record { g = g; rule = rule; sought = record { name = name; addr = a }; is = refl }

pub at-judge : (users : List User) (r : Record) (ds : List Decision) → HasDecided users r ds → r.cause ≡ None → course_of ds ≡ Course.Judge → AtJudge ds
at-judge users r ds h none c = decided-forms users r (λ ds. course_of ds ≡ Course.Judge → AtJudge ds) (record {
  nothing = λ fresh' e. absurd (cc);
  opened' = λ g rule d e. absurd (cc);
  looked' = λ g rule name found d e. was-found users r g rule name found d none;
  granted' = λ g rule s g' facts verdict route refused d e. other-course _ _ _ (course-granted g rule s (Decision.Granted g' facts verdict route refused) tt) e (λ x. cc);
  reached' = λ g rule s g' facts verdict route to at d e. other-course _ _ _ (course-reached g rule s (Decision.Granted g' facts verdict route None) (Decision.Reached to at) tt) e (λ x. cc);
}) ds h c

pub record AtReach (ds : List Decision) : Type 0 where
  pub g : ℕ
  pub g' : ℕ
  pub rule : Option ℕ
  pub sought : Option Sought
  pub facts : Facts
  pub verdict : Verdict
  pub route : Option ℕ
  pub is : ds ≡ Decision.Opened g rule None ∷ behind_lookup sought (Decision.Granted g' facts verdict route None ∷ [])

was-granted : (users : List User) (r : Record) (g : ℕ) (rule : Option ℕ) (s : Option Sought) (g' : ℕ) (facts : Facts) (verdict : Verdict) (route : Option ℕ) (refused : Option Cause) → Judged users r (name_sought s) facts refused → r.cause ≡ None
    → AtReach (Decision.Opened g rule None ∷ behind_lookup s (Decision.Granted g' facts verdict route refused ∷ []))
was-granted users r g rule s g' facts verdict route None d none = record { g = g; g' = g'; rule = rule; sought = s; facts = facts; verdict = verdict; route = route; is = refl }
was-granted users r g rule s g' facts verdict route (Some k) d none = caused r.cause none (d.stands refl)

pub at-reach : (users : List User) (r : Record) (ds : List Decision) → HasDecided users r ds → r.cause ≡ None → course_of ds ≡ Course.Reach → AtReach ds
at-reach users r ds h none c = decided-forms users r (λ ds. course_of ds ≡ Course.Reach → AtReach ds) (record {
  nothing = λ fresh' e. absurd (cc);
  opened' = λ g rule d e. absurd (cc);
  looked' = λ g rule name found d e. absurd (cc);
  granted' = λ g rule s g' facts verdict route refused d e. was-granted users r g rule s g' facts verdict route refused d none;
  reached' = λ g rule s g' facts verdict route to at d e. other-course _ _ _ (course-reached g rule s (Decision.Granted g' facts verdict route None) (Decision.Reached to at) tt) e (λ x. cc);
}) ds h c

abbrev AtRelay : List Decision → Type 0
AtRelay ds = (at : Endpoint) × (reached_at ds ≡ Some at)

was-reached : (users : List User) (r : Record) (g : ℕ) (rule : Option ℕ) (s : Option Sought) (g' : ℕ) (facts : Facts) (verdict : Verdict) (route : Option ℕ) (to : Endpoint) (at : Option Endpoint) → Dialled users r (name_sought s) facts at → r.cause ≡ None
    → AtRelay (Decision.Opened g rule None ∷ behind_lookup s (Decision.Granted g' facts verdict route None ∷ Decision.Reached to at ∷ []))
was-reached users r g rule s g' facts verdict route to None d none = caused r.cause none (d.failed refl)
was-reached users r g rule s g' facts verdict route to (Some at) d none =
    (at, at-behind g rule s g' facts verdict route to (Some at))

pub at-relay : (users : List User) (r : Record) (ds : List Decision) → HasDecided users r ds → r.cause ≡ None → course_of ds ≡ Course.Relay → (at : Endpoint) × (reached_at ds ≡ Some at)
at-relay users r ds h none c = decided-forms users r (λ ds. course_of ds ≡ Course.Relay → AtRelay ds) (record {
  nothing = λ fresh' e. absurd (cc);
  opened' = λ g rule d e. absurd (cc);
  looked' = λ g rule name found d e. absurd (cc);
  granted' = λ g rule s g' facts verdict route refused d e. other-course _ _ _ (course-granted g rule s (Decision.Granted g' facts verdict route refused) tt) e (λ x. cc);
  reached' = λ g rule s g' facts verdict route to at d e. was-reached users r g rule s g' facts verdict route to at d none;
}) ds h c

-- ---- how the phases' answers are those of a turn

pub if-ok : {T E : Type 0} (r : Result T E) (P Q : T → Type 0) → ((v : T) → P v → Q v) → IfOk r P → IfOk r Q
if-ok (Ok v) P Q f h = f v h
if-ok (Err e) P Q f h = tt

-- a fact of no answer in particular
pub if-ok-same : {T E : Type 0} (r : Result T E) (P : Type 0) → P → IfOk r (λ v. P)
if-ok-same (Ok v) P h = h
if-ok-same (Err e) P h = tt

-- a turn that asks the desk nothing, over a desk that stands for the history
pub over-desk : {L : Type 0} (told : L → Told) (counts : L → Counts) (stands : List Line → List StopBy → Type 0) (h : List Line) (marks : List StopBy) (s : Context)
    (now : ℕ) (net net' : NetTold) (a : Assoc L) (next : Next L) → stands h marks → Turns told counts (SameDesk h marks) s now net net' a next → Turns told counts stands s now net net' a next
over-desk told counts stands h marks s now net net' a next stood t = record {
  acts = t.acts;
  result = t.result;
  lawful = t.lawful;
  state' = t.state';
  desk = desk;
  goes_on = t.goes_on;
  direct = t.direct;
  c = t.c;
  t = t.t;
  sent_c = t.sent_c;
  sent_t = t.sent_t;
  ends_c = t.ends_c;
  ends_t = t.ends_t;
  since = t.since;
  number = t.number;
  client = t.client;
  client_ends = t.client_ends;
  client_first = t.client_first;
  target = t.target;
  same_client = t.same_client;
  same_target = t.same_target;
  behind = t.behind;
  taken' = t.taken';
  dials = t.dials;
  lookups = t.lookups;
  lookup_plan = t.lookup_plan;
  plan' = t.plan';
  outer' = t.outer';
  counted = t.counted;
  stops_c = t.stops_c;
  stops_t = t.stops_t;
  reads_end_c = t.reads_end_c;
  reads_end_t = t.reads_end_t;
  idle_c = t.idle_c;
  idle_t = t.idle_t;
  full_c = t.full_c;
  full_t = t.full_t;
  room_c = t.room_c;
  room_t = t.room_t;
  failed_c = t.failed_c;
  failed_t = t.failed_t;
  tried_c = t.tried_c;
  tried_t = t.tried_t;
  where_c = t.where_c;
  where_t = t.where_t;
  fault_is = t.fault_is;
  unwritten_is = t.unwritten_is;
  fails_c = t.fails_c;
  unfailing = t.unfailing;
}
  where
    desk : stands (t.result).h (t.result).marks
    desk = subst (λ (x : List Line). stands x (t.result).marks) (sym t.desk.0) (subst (λ (x : List StopBy). stands h x) (sym t.desk.1) stood)
