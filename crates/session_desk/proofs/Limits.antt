-- When the book refuses, and that it never answers that a log failed.
use Rattle.std.proofs.Common.{ℕ, ◌≡◌, ◌≢◌, ◌∙◌, ap, Bool, true, false, ◌==◌, nat_le, Option, Some, None, length, refl, sym, subst}
use Rattle.std.specs.Prelude.{if◌then◌else◌}
use Rattle.std.proofs.lemmas.Bool.{leb-true}
use Rattle.rule_list.specs.declared.verdict.Verdict.{Verdict}
use Rattle.socks_machine.specs.declared.cause.ListKind.{ListKind}
use Rattle.socks_machine.specs.declared.cause.Standing.{Standing}
use Rattle.socks_machine.specs.declared.cause.StopBy.{StopBy}
use Rattle.socks_machine.specs.declared.lines.OpenLine.{OpenLine}
use Rattle.socks_machine.specs.declared.lines.GrantLine.{GrantLine}
use Rattle.socks_machine.specs.declared.lines.CloseLine.{CloseLine}
use Rattle.socks_machine.specs.declared.lines.Said.{Said}
use Rattle.socks_machine.specs.declared.lines.Shut.{Shut}
use Rattle.socks_machine.specs.History.{standing, is_log}
use Rattle.session_desk.specs.declared.entry.Live.{Live}
use Rattle.session_desk.specs.Calls.{MayOpen, MayGrant, MayClose, IsLimitOf}
use Rattle.session_desk.specs.Entries.{standing_in, held_in}
use Rattle.session_desk.specs.Books.{Book, Answered, counted, with_line, unchanged, unless_stopped, with_entry, opened_standing, opened, full_in, or_full, granted_unless, granted_verdict, granted_standing, granted, without_entry, closed_standing, closed}

-- ---- open

may_admit : (b : Book) (l : OpenLine) (pass crowded : Bool) → l.pass ≡ pass
    → MayOpen b.cap l (let answer : Answered Said =
    (if pass then (if crowded then unchanged b (Said.Crowded b.cap b.cap) else with_line (counted (with_entry b l.number))) else with_line (counted b)) in answer.said)
may_admit b l true true e = (e, refl, refl)
may_admit b l true false e = tt
may_admit b l false crowded e = tt

may_open_standing : (b : Book) (l : OpenLine) (stand : Standing) → MayOpen b.cap l (opened_standing b l.number l.pass stand).said
may_open_standing b l Standing.Absent = may_admit b l l.pass (length b.entries == b.cap) refl
may_open_standing b l Standing.Opened = λ e. cc
may_open_standing b l Standing.Granted = λ e. cc

may_open_unless : (b : Book) (l : OpenLine) (mark : Option StopBy) (answer : Answered Said) → MayOpen b.cap l answer.said → MayOpen b.cap l (unless_stopped b mark answer).said
may_open_unless b l None answer may = may
may_open_unless b l (Some by) answer may = tt

pub may_open : (b : Book) (l : OpenLine) (answer : Said) → answer ≡ (opened b l).said → MayOpen b.cap l answer
may_open b l answer e =
    let stand = standing (standing_in b.entries l.number) in
    let may = may_open_unless b l b.stopped (opened_standing b l.number l.pass stand) (may_open_standing b l stand) in
    subst (λ (said : Said). MayOpen b.cap l said) (sym e) may

-- ---- grant

abbrev MayBeFull : GrantLine → Option Said → Type 0
MayBeFull l None = Unit {0}
MayBeFull l (Some said) = MayGrant l said

full_cond : (l : GrantLine) (full : Bool) (said : Said) → (full ≡ true → MayGrant l said) → MayBeFull l (if full then Some said else None)
full_cond l true said may = may refl
full_cond l false said may = tt

may_full : (b : Book) (l : GrantLine) (generation : ℕ) (kind : ListKind) (rule : ℕ) (max : Option ℕ)
    → ((limit : ℕ) → max ≡ Some limit → IsLimitOf l.verdict l kind rule limit) → MayBeFull l (full_in b generation kind rule max)
may_full b l generation kind rule None is = tt
may_full b l generation kind rule (Some limit) is =
    let held = held_in b.entries generation kind rule in
    full_cond l (nat_le limit held) (Said.Full kind rule held limit) (λ full. (is limit refl, leb-true limit held full))

may_or_full : (l : GrantLine) (x y : Option Said) → MayBeFull l x → MayBeFull l y → MayBeFull l (or_full x y)
may_or_full l None y a b = b
may_or_full l (Some x) y a b = a

may_grant_unless : (b : Book) (l : GrantLine) (n : ℕ) (live : Live) (full : Option Said) → MayBeFull l full → MayGrant l (granted_unless b n live full).said
may_grant_unless b l n live None may = tt
may_grant_unless b l n live (Some said) may = may

may_grant_verdict : (b : Book) (l : GrantLine) (verdict : Verdict) → l.verdict ≡ verdict → MayGrant l (granted_verdict b l verdict).said
may_grant_verdict b l (Verdict.Pass c s) e =
    let client = may_full b l l.generation ListKind.Client c l.client_max
    (λ limit max. subst (λ (v : Verdict). IsLimitOf v l ListKind.Client c limit) (sym e) (refl, max)) in
    let socks = may_full b l l.generation ListKind.Socks s l.socks_max
    (λ limit max. subst (λ (v : Verdict). IsLimitOf v l ListKind.Socks s limit) (sym e) (refl, max)) in
    may_grant_unless b l l.number (Live.Granted l.generation c s) _ (may_or_full l _ _ client socks)
may_grant_verdict b l (Verdict.ClientBlock c) e = tt
may_grant_verdict b l Verdict.ClientNone e = tt
may_grant_verdict b l (Verdict.SocksBlock c s) e = tt
may_grant_verdict b l (Verdict.SocksNone c) e = tt

may_grant_standing : (b : Book) (l : GrantLine) (stand : Standing) → MayGrant l (granted_standing b l stand).said
may_grant_standing b l Standing.Absent = λ e. cc
may_grant_standing b l Standing.Opened = may_grant_verdict b l l.verdict refl
may_grant_standing b l Standing.Granted = λ e. cc

may_grant_stopped : (b : Book) (l : GrantLine) (mark : Option StopBy) (answer : Answered Said) → MayGrant l answer.said → MayGrant l (unless_stopped b mark answer).said
may_grant_stopped b l None answer may = may
may_grant_stopped b l (Some by) answer may = tt

pub may_grant : (b : Book) (l : GrantLine) (answer : Said) → answer ≡ (granted b l).said → MayGrant l answer
may_grant b l answer e =
    let stand = standing (standing_in b.entries l.number) in
    let may = may_grant_stopped b l b.stopped (granted_standing b l stand) (may_grant_standing b l stand) in
    subst (λ (said : Said). MayGrant l said) (sym e) may

-- ---- close

may_shut : (after : Book) (log : Bool)
    → MayClose (let answer : Answered Shut = (if log then record { said = Shut.Unlogged; book = after } else record { said = Shut.Done after.lines; book = after }) in answer.said)
may_shut after true = tt
may_shut after false = tt

may_close_standing : (b : Book) (n : ℕ) (stand : Standing) → MayClose (closed_standing b n stand).said
may_close_standing b n Standing.Absent = refl
may_close_standing b n Standing.Opened = may_shut (counted (without_entry b n)) (is_log b.stopped)
may_close_standing b n Standing.Granted = may_shut (counted (without_entry b n)) (is_log b.stopped)

pub may_close : (b : Book) (l : CloseLine) (answer : Shut) → answer ≡ (closed b l).said → MayClose answer
may_close b l answer e =
    subst (λ (said : Shut). MayClose said) (sym e) (may_close_standing b l.number (standing (standing_in b.entries l.number)))

-- ---- no log fails

abbrev is_log_fault : Said → Bool
is_log_fault Said.LogFault = true
is_log_fault said = false

abbrev is_log_fault_of_close : Shut → Bool
is_log_fault_of_close Shut.LogFault = true
is_log_fault_of_close said = false

another_answer : (said : Said) → is_log_fault said ≡ false → said ≢ Said.LogFault
another_answer said h is = let e : true ≡ false = sym (ap is_log_fault is) ∙ h in absurd (cc)

another_close : (said : Shut) → is_log_fault_of_close said ≡ false → said ≢ Shut.LogFault
another_close said h is = let e : true ≡ false = sym (ap is_log_fault_of_close is) ∙ h in absurd (cc)

unless_stopped_unfailing : (b : Book) (mark : Option StopBy) (answer : Answered Said) → is_log_fault answer.said ≡ false → is_log_fault (unless_stopped b mark answer).said ≡ false
unless_stopped_unfailing b None answer h = h
unless_stopped_unfailing b (Some by) answer h = refl

admitted_unfailing : (b : Book) (n : ℕ) (pass crowded : Bool) → is_log_fault (let answer : Answered Said =
    (if pass then (if crowded then unchanged b (Said.Crowded b.cap b.cap) else with_line (counted (with_entry b n))) else with_line (counted b)) in answer.said) ≡ false
admitted_unfailing b n true true = refl
admitted_unfailing b n true false = refl
admitted_unfailing b n false crowded = refl

opened_unfailing : (b : Book) (n : ℕ) (pass : Bool) (stand : Standing) → is_log_fault (opened_standing b n pass stand).said ≡ false
opened_unfailing b n pass Standing.Absent = admitted_unfailing b n pass (length b.entries == b.cap)
opened_unfailing b n pass Standing.Opened = refl
opened_unfailing b n pass Standing.Granted = refl

pub open_unfailing : (b : Book) (l : OpenLine) (answer : Said) → answer ≡ (opened b l).said → answer ≢ Said.LogFault
open_unfailing b l answer e =
    let stand = standing (standing_in b.entries l.number) in
    another_answer answer (ap is_log_fault e ∙ unless_stopped_unfailing b b.stopped (opened_standing b l.number l.pass stand) (opened_unfailing b l.number l.pass stand))

abbrev IsNoFault : Option Said → Type 0
IsNoFault None = Unit {0}
IsNoFault (Some said) = is_log_fault said ≡ false

full_no_fault : (full : Bool) (said : Said) → is_log_fault said ≡ false → IsNoFault (if full then Some said else None)
full_no_fault true said h = h
full_no_fault false said h = tt

full_in_no_fault : (b : Book) (generation : ℕ) (kind : ListKind) (rule : ℕ) (max : Option ℕ) → IsNoFault (full_in b generation kind rule max)
full_in_no_fault b generation kind rule None = tt
full_in_no_fault b generation kind rule (Some limit) =
    let held = held_in b.entries generation kind rule in full_no_fault (nat_le limit held) (Said.Full kind rule held limit) refl

or_full_no_fault : (x y : Option Said) → IsNoFault x → IsNoFault y → IsNoFault (or_full x y)
or_full_no_fault None y h k = k
or_full_no_fault (Some x) y h k = h

granted_unless_unfailing : (b : Book) (n : ℕ) (live : Live) (full : Option Said) → IsNoFault full → is_log_fault (granted_unless b n live full).said ≡ false
granted_unless_unfailing b n live None h = refl
granted_unless_unfailing b n live (Some said) h = h

granted_verdict_unfailing : (b : Book) (l : GrantLine) (verdict : Verdict) → is_log_fault (granted_verdict b l verdict).said ≡ false
granted_verdict_unfailing b l (Verdict.Pass c s) =
    let client = full_in b l.generation ListKind.Client c l.client_max in
    let socks = full_in b l.generation ListKind.Socks s l.socks_max in
    granted_unless_unfailing b l.number (Live.Granted l.generation c s) (or_full client socks)
    (or_full_no_fault client socks (full_in_no_fault b l.generation ListKind.Client c l.client_max) (full_in_no_fault b l.generation ListKind.Socks s l.socks_max))
granted_verdict_unfailing b l (Verdict.ClientBlock c) = refl
granted_verdict_unfailing b l Verdict.ClientNone = refl
granted_verdict_unfailing b l (Verdict.SocksBlock c s) = refl
granted_verdict_unfailing b l (Verdict.SocksNone c) = refl

granted_unfailing : (b : Book) (l : GrantLine) (stand : Standing) → is_log_fault (granted_standing b l stand).said ≡ false
granted_unfailing b l Standing.Absent = refl
granted_unfailing b l Standing.Opened = granted_verdict_unfailing b l l.verdict
granted_unfailing b l Standing.Granted = refl

pub grant_unfailing : (b : Book) (l : GrantLine) (answer : Said) → answer ≡ (granted b l).said → answer ≢ Said.LogFault
grant_unfailing b l answer e =
    let stand = standing (standing_in b.entries l.number) in
    another_answer answer (ap is_log_fault e ∙ unless_stopped_unfailing b b.stopped (granted_standing b l stand) (granted_unfailing b l stand))

shut_unfailing : (after : Book) (log : Bool) → is_log_fault_of_close
    (let answer : Answered Shut = (if log then record { said = Shut.Unlogged; book = after } else record { said = Shut.Done after.lines; book = after }) in answer.said) ≡ false
shut_unfailing after true = refl
shut_unfailing after false = refl

closed_unfailing : (b : Book) (n : ℕ) (stand : Standing) → is_log_fault_of_close (closed_standing b n stand).said ≡ false
closed_unfailing b n Standing.Absent = refl
closed_unfailing b n Standing.Opened = shut_unfailing (counted (without_entry b n)) (is_log b.stopped)
closed_unfailing b n Standing.Granted = shut_unfailing (counted (without_entry b n)) (is_log b.stopped)

pub close_unfailing : (b : Book) (l : CloseLine) (answer : Shut) → answer ≡ (closed b l).said → answer ≢ Shut.LogFault
close_unfailing b l answer e = another_close answer (ap is_log_fault_of_close e ∙ closed_unfailing b l.number (standing (standing_in b.entries l.number)))
