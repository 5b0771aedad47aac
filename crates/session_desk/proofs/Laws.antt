-- What the book answers is what the history answers, and it then stands for that history.
use Rattle.std.proofs.Common.{ℕ, ◌≡◌, ◌+◌, ◌-◌, ◌^◌, ◌<◌, min, Bool, true, false, ◌==◌, ◌&&◌, nat_lt, nat_le, cond, List, [], ◌∷◌, ◌++◌, Option, Some, None, length, refl, sym, ◌∙◌, ap, subst, arith, length-append}
use Rattle.std.specs.Prelude.{if◌then◌else◌}
use Rattle.std.proofs.lemmas.List.Sums.{fold-append}
use Rattle.std.proofs.lemmas.Option.{none-some, same_Some}
use Rattle.std.proofs.lemmas.Bool.Decides.{nat_tests}
use Rattle.rule_list.specs.declared.verdict.Verdict.{Verdict}
use Rattle.socks_machine.specs.declared.cause.ListKind.{ListKind}
use Rattle.socks_machine.specs.declared.cause.StopBy.{StopBy}
use Rattle.socks_machine.specs.declared.lines.OpenLine.{OpenLine}
use Rattle.socks_machine.specs.declared.lines.GrantLine.{GrantLine}
use Rattle.socks_machine.specs.declared.lines.CloseLine.{CloseLine}
use Rattle.socks_machine.specs.declared.lines.Said.{Said}
use Rattle.socks_machine.specs.declared.lines.Shut.{Shut}
use Rattle.socks_machine.specs.declared.lines.Line.{Line}
use Rattle.rule_list.specs.Rules.{is_pass}
use Rattle.socks_machine.specs.History as history
use Rattle.socks_machine.specs.History.{Stand, Desked, stand_of, stand_opened, stand_after, standing, last_mark, is_log, mark_log, live_count, at_open, at_grant, at_close}
use Rattle.session_desk.specs.declared.entry.Live.{Live}
use Rattle.session_desk.specs.declared.entry.LiveAssociation.{LiveAssociation}
use Rattle.session_desk.specs.Calls.{Opens, Grants, Closes}
use Rattle.session_desk.specs.Entries.{standing_in, IsApart, renewed, without}
use Rattle.session_desk.specs.Books.{Book, Answered, counted, with_line, unchanged, unless_stopped, with_entry, opened_standing, opened, full_in, or_full, granted_unless, granted_verdict, granted_standing, granted, without_entry, closed_standing, closed}
use Rattle.session_desk.specs.Standings.{StandsFor}
use Rattle.session_desk.proofs.Counts.{live_count-length, held-held_in}
use Rattle.session_desk.proofs.Changes.{by_cases, cond-same, standing_in-more, IsApart-more, standing_in-renewed, IsApart-renewed, standing_in-without, IsApart-without}

-- the answers agree, and the book stands for what the history then is
pub record Agrees {A : Type 0} (answer : Answered A) (desked : Desked A) : Type 0 where
  pub said : answer.said ≡ desked.said
  pub stands : StandsFor answer.book desked.h desked.marks

-- ---- stop marks

last_mark-more : (marks : List StopBy) (by : StopBy) → last_mark (marks ++ by ∷ []) ≡ Some by
last_mark-more [] by = refl
last_mark-more (m ∷ []) by = refl
last_mark-more (m ∷ n ∷ ms) by = last_mark-more (n ∷ ms) by

is_log-Some : (mark : Option StopBy) → is_log mark ≡ true → mark ≡ Some StopBy.Log
is_log-Some None h = cc
is_log-Some (Some StopBy.Control) h = cc
is_log-Some (Some StopBy.Log) h = refl
is_log-Some (Some StopBy.Sessions) h = cc

-- ---- one line more

stand_of-more : (h : List Line) (line : Line) (n : ℕ) → stand_of (h ++ line ∷ []) n ≡ stand_after n (stand_of h n) line
stand_of-more h line n = fold-append (stand_after n) Stand.Gone h (line ∷ [])

abbrev largest : ℕ
largest = 2 ^ 64 - 1

abbrev marks_after : List StopBy → ℕ → List StopBy
marks_after marks n = if nat_lt (n + 1) largest then marks else mark_log marks

lines_after : (lines n n' : ℕ) → lines ≡ min n largest → n' ≡ n + 1 → min (lines + 1) largest ≡ min n' largest
lines_after lines n n' a b = omega arith

number_after : (lines n : ℕ) → lines ≡ min n largest → n < largest → min (lines + 1) largest ≡ n + 1
number_after lines n a b = omega arith

last_mark-mark_log : (marks : List StopBy) → is_log (last_mark marks) ≡ false → last_mark (mark_log marks) ≡ Some StopBy.Log
last_mark-mark_log marks h = rw h (last_mark-more marks StopBy.Log)

mark_after : (lines n : ℕ) (stopped : Option StopBy) (marks : List StopBy) → lines ≡ n → stopped ≡ last_mark marks → is_log (last_mark marks) ≡ false
    → cond (nat_lt (lines + 1) largest) stopped (Some StopBy.Log) ≡ last_mark (marks_after marks n)
mark_after lines n stopped marks same mark log =
    rw same (by_cases (cond (nat_lt (n + 1) largest) stopped (Some StopBy.Log) ≡ last_mark (marks_after marks n)) (nat_lt (n + 1) largest)
    (λ below. rw below mark) (λ last. rw last (sym (last_mark-mark_log marks log))))

room_after : (n n' : ℕ) (marks : List StopBy) → n' ≡ n + 1 → is_log (last_mark marks) ≡ false → is_log (last_mark (marks_after marks n)) ≡ false → n' < largest
room_after n n' marks same log after =
    by_cases (n' < largest) (nat_lt (n + 1) largest) (λ below. grind (arith, nat_tests, below))
    (λ last. let marked : is_log (last_mark (mark_log marks)) ≡ false = rw last at after in
    let e : true ≡ false = rw (last_mark-mark_log marks log) at marked in cc)

-- a line that was counted, with the entries that it leaves
counted_line : (b : Book) (h : List Line) (marks : List StopBy) (es : List LiveAssociation) (line : Line) → StandsFor b h marks
    → is_log (last_mark marks) ≡ false → ((n : ℕ) → standing_in es n ≡ stand_after n (stand_of h n) line) → IsApart es
    → StandsFor (counted (record b { entries = es })) (h ++ line ∷ []) (marks_after marks (length h))
counted_line b h marks es line stands log same apart =
    let more : length (h ++ line ∷ []) ≡ length h + 1 = length-append h (line ∷ []) in
    let room : length h < largest = stands.room log in
    let counted_all : b.lines ≡ length h = (let lines : b.lines ≡ min (length h) largest = stands.lines in omega arith) in
    record {
      standing = λ n. same n ∙ sym (stand_of-more h line n);
      apart = apart;
      lines = lines_after b.lines (length h) (length (h ++ line ∷ [])) stands.lines more;
      mark = mark_after b.lines (length h) b.stopped marks counted_all stands.mark log;
      room = room_after (length h) (length (h ++ line ∷ [])) marks more log;
    }

-- the same where no further line is numbered
unnumbered_line : (b : Book) (h : List Line) (marks : List StopBy) (es : List LiveAssociation) (line : Line) → StandsFor b h marks
    → is_log (last_mark marks) ≡ true → ((n : ℕ) → standing_in es n ≡ stand_after n (stand_of h n) line) → IsApart es
    → StandsFor (counted (record b { entries = es })) (h ++ line ∷ []) marks
unnumbered_line b h marks es line stands log same apart =
    let last : last_mark marks ≡ Some StopBy.Log = is_log-Some (last_mark marks) log in
    let stopped : b.stopped ≡ Some StopBy.Log = stands.mark ∙ last in
    record {
      standing = λ n. same n ∙ sym (stand_of-more h line n);
      apart = apart;
      lines = lines_after b.lines (length h) (length (h ++ line ∷ [])) stands.lines (length-append h (line ∷ []));
      mark = rw stopped (cond-same (nat_lt (b.lines + 1) largest) (Some StopBy.Log) ∙ sym last);
      room = λ other. let e : true ≡ false = sym log ∙ other in cc;
    }

-- ---- the parts of an answer

refused : {A : Type 0} (b : Book) (h : List Line) (marks : List StopBy) → StandsFor b h marks → (said said' : A) → said ≡ said'
    → Agrees (unchanged b said) (history.refused_at h marks said')
refused b h marks stands said said' same = record { said = same; stands = stands }

numbered : (b : Book) (h : List Line) (marks : List StopBy) (es : List LiveAssociation) (line : Line) → StandsFor b h marks
    → is_log (last_mark marks) ≡ false → ((n : ℕ) → standing_in es n ≡ stand_after n (stand_of h n) line) → IsApart es
    → Agrees (with_line (counted (record b { entries = es }))) (history.stepped h marks true line (Said.Done (length h + 1)) Said.LogFault)
numbered b h marks es line stands log same apart = record {
  said = ap Said.Done (number_after b.lines (length h) stands.lines (stands.room log));
  stands = counted_line b h marks es line stands log same apart;
}

unless : (b : Book) (h : List Line) (marks : List StopBy) → StandsFor b h marks → (stopped mark : Option StopBy) → stopped ≡ mark
    → (answer : Answered Said) (desked : Desked Said) → (mark ≡ None → Agrees answer desked)
    → Agrees (unless_stopped b stopped answer) (history.unless_stopped h marks mark desked)
unless b h marks stands None None e answer desked go = go refl
unless b h marks stands (Some by) (Some by') e answer desked go =
    refused b h marks stands (Said.Stopped by) (Said.Stopped by') (ap Said.Stopped (same_Some by by' e))
unless b h marks stands None (Some by) e answer desked go = absurd (none-some by e)
unless b h marks stands (Some by) None e answer desked go = absurd (none-some by (sym e))

unmarked : (marks : List StopBy) → last_mark marks ≡ None → is_log (last_mark marks) ≡ false
unmarked marks none = ap is_log none

-- ---- open

stand_admitted : (this pass : Bool) (before before' : Stand) → pass ≡ true → before ≡ before'
    → cond this Stand.Open before ≡ cond this (stand_opened pass before') before'
stand_admitted true true before before' p e = refl
stand_admitted false true before before' p e = e
stand_admitted this false before before' p e = cc

stand_blocked : (this pass : Bool) (before before' : Stand) → pass ≡ false → before ≡ before'
    → before ≡ cond this (stand_opened pass before') before'
stand_blocked true false before before' p e = e
stand_blocked false false before before' p e = e
stand_blocked this true before before' p e = cc

admitted_agrees : (b : Book) (h : List Line) (marks : List StopBy) → StandsFor b h marks → last_mark marks ≡ None → (l : OpenLine)
    → standing_in b.entries l.number ≡ Stand.Gone → live_count h ≡ length b.entries
    → (pass crowded crowded' : Bool) → l.pass ≡ pass → (length b.entries == b.cap) ≡ crowded → crowded ≡ crowded'
    → Agrees
    (if pass then (if crowded then unchanged b (Said.Crowded b.cap b.cap) else with_line (counted (with_entry b l.number))) else with_line (counted b))
    (if pass && crowded' then history.refused_at h marks (Said.Crowded (live_count h) b.cap)
    else history.stepped h marks true (Line.Open l) (Said.Done (length h + 1)) Said.LogFault)
admitted_agrees b h marks stands none l gone live true true true p c e =
    let same : b.cap ≡ live_count h = grind (arith, nat_tests, c, live) in
    refused b h marks stands (Said.Crowded b.cap b.cap) (Said.Crowded (live_count h) b.cap) (ap (λ n. Said.Crowded n b.cap) same)
admitted_agrees b h marks stands none l gone live true false false p c e =
    let entry : LiveAssociation = record { number = l.number; live = Live.Opened } in
    numbered b h marks (b.entries ++ entry ∷ []) (Line.Open l) stands (unmarked marks none)
    (λ m. standing_in-more b.entries entry m gone ∙ stand_admitted (l.number == m) l.pass (standing_in b.entries m) (stand_of h m) p (stands.standing m))
    (IsApart-more b.entries entry gone stands.apart)
admitted_agrees b h marks stands none l gone live false crowded crowded' p c e =
    numbered b h marks b.entries (Line.Open l) stands (unmarked marks none)
    (λ m. stand_blocked (l.number == m) l.pass (standing_in b.entries m) (stand_of h m) p (stands.standing m)) stands.apart
admitted_agrees b h marks stands none l gone live true true false p c e = cc
admitted_agrees b h marks stands none l gone live true false true p c e = cc

opened_by : (b : Book) (h : List Line) (marks : List StopBy) → StandsFor b h marks → last_mark marks ≡ None → (l : OpenLine) (stand : Stand)
    → standing_in b.entries l.number ≡ stand → Agrees (opened_standing b l.number l.pass (standing stand)) (history.open_stood h marks b.cap l true stand)
opened_by b h marks stands none l Stand.Gone is =
    let live : live_count h ≡ length b.entries = live_count-length h b.entries stands.apart stands.standing in
    admitted_agrees b h marks stands none l is live l.pass (length b.entries == b.cap) (live_count h == b.cap) refl refl (ap (λ n. n == b.cap) (sym live))
opened_by b h marks stands none l Stand.Open is = refused b h marks stands _ _ refl
opened_by b h marks stands none l (Stand.Under g c s) is = refused b h marks stands _ _ refl

pub opened_agrees : (b : Book) (h : List Line) (marks : List StopBy) → StandsFor b h marks → (l : OpenLine) → Agrees (opened b l) (at_open h marks b.cap l true)
opened_agrees b h marks stands l =
    let P : Stand → Type 0 = λ stand. Agrees (opened_standing b l.number l.pass (standing stand)) (history.open_stood h marks b.cap l true (stand_of h l.number)) in
    let same = stands.standing l.number in
    unless b h marks stands b.stopped (last_mark marks) stands.mark _ _ (λ none. subst P (sym same) (opened_by b h marks stands none l (stand_of h l.number) same))

-- ---- grant

full_same : (b : Book) (h : List Line) (marks : List StopBy) → StandsFor b h marks → (generation : ℕ) (kind : ListKind) (rule : ℕ) (max : Option ℕ)
    → full_in b generation kind rule max ≡ history.at_limit h generation kind rule max
full_same b h marks stands generation kind rule None = refl
full_same b h marks stands generation kind rule (Some limit) =
    let same = held-held_in h b.entries stands.apart stands.standing generation kind rule in
    ap (λ held. if nat_le limit held then Some (Said.Full kind rule held limit) else None) (sym same)

or_full-same : (x y x' y' : Option Said) → x ≡ x' → y ≡ y' → or_full x y ≡ history.or_else x' y'
or_full-same None y None y' a b = b
or_full-same (Some x) y (Some x') y' a b = a
or_full-same None y (Some x') y' a b = absurd (none-some x' a)
or_full-same (Some x) y None y' a b = absurd (none-some x (sym a))

-- an answer that leaves the entry as it is
abbrev IsFull : Option Said → Type 0
IsFull None = Unit {0}
IsFull (Some (Said.Full kind rule held limit)) = Unit {0}
IsFull (Some said) = ⊥

IsFull-cond : (t : Bool) (kind : ListKind) (rule held limit : ℕ) → IsFull (if t then Some (Said.Full kind rule held limit) else None)
IsFull-cond true kind rule held limit = tt
IsFull-cond false kind rule held limit = tt

IsFull-at_limit : (h : List Line) (generation : ℕ) (kind : ListKind) (rule : ℕ) (max : Option ℕ) → IsFull (history.at_limit h generation kind rule max)
IsFull-at_limit h generation kind rule None = tt
IsFull-at_limit h generation kind rule (Some limit) =
    IsFull-cond (nat_le limit (history.held h generation kind rule)) kind rule (history.held h generation kind rule) limit

IsFull-or_else : (x y : Option Said) → IsFull x → IsFull y → IsFull (history.or_else x y)
IsFull-or_else None y a b = b
IsFull-or_else (Some x) y a b = a

stand_renewed : (this : Bool) (before before' : Stand) (generation : ℕ) (verdict : Verdict) (c s n : ℕ) → verdict ≡ Verdict.Pass c s → before ≡ before'
    → (this ≡ true → before' ≡ Stand.Open)
    → cond this (cond (history.is_live before) (Stand.Under generation c s) Stand.Gone) before
    ≡ cond this (history.stand_granted before' generation verdict (Said.Done n)) before'
stand_renewed false before before' generation verdict c s n v e opened' = e
stand_renewed true before before' generation verdict c s n v e opened' =
    let now : before' ≡ Stand.Open = opened' refl in
    let was : before ≡ Stand.Open = e ∙ now in
    rw was (rw now (rw v refl))

stand_kept : (this : Bool) (before before' : Stand) (generation : ℕ) (verdict : Verdict) (said : Said) → before ≡ before'
    → (this ≡ true → history.stand_granted before' generation verdict said ≡ before')
    → before ≡ cond this (history.stand_granted before' generation verdict said) before'
stand_kept true before before' generation verdict said e kept = e ∙ sym (kept refl)
stand_kept false before before' generation verdict said e kept = e

full_keeps : (said : Said) → IsFull (Some said) → (before : Stand) (generation : ℕ) (verdict : Verdict) (c s : ℕ) → verdict ≡ Verdict.Pass c s
    → before ≡ Stand.Open → history.stand_granted before generation verdict said ≡ before
full_keeps (Said.Full kind rule held limit) full before generation verdict c s v o = rw o (rw v refl)
full_keeps (Said.Done n) full before generation verdict c s v o = absurd full
full_keeps (Said.Crowded live cap) full before generation verdict c s v o = absurd full
full_keeps (Said.OutOfTurn stand) full before generation verdict c s v o = absurd full
full_keeps (Said.Stopped by) full before generation verdict c s v o = absurd full
full_keeps Said.LogFault full before generation verdict c s v o = absurd full

block_keeps : (before : Stand) (generation : ℕ) (verdict : Verdict) (said : Said) → is_pass verdict ≡ false → history.stand_granted before generation verdict said ≡ before
block_keeps Stand.Gone generation verdict said blocked = refl
block_keeps (Stand.Under g c s) generation verdict said blocked = refl
block_keeps Stand.Open generation (Verdict.Pass c s) said blocked = cc
block_keeps Stand.Open generation (Verdict.ClientBlock c) said blocked = refl
block_keeps Stand.Open generation Verdict.ClientNone said blocked = refl
block_keeps Stand.Open generation (Verdict.SocksBlock c s) said blocked = refl
block_keeps Stand.Open generation (Verdict.SocksNone c) said blocked = refl

opened_there : (h : List Line) (n m : ℕ) → stand_of h n ≡ Stand.Open → (n == m) ≡ true → stand_of h m ≡ Stand.Open
opened_there h n m is this = let same : m ≡ n = grind (arith, nat_tests, this) in ap (stand_of h) same ∙ is

granted_full : (b : Book) (h : List Line) (marks : List StopBy) → StandsFor b h marks → last_mark marks ≡ None → (l : GrantLine) (c s : ℕ)
    → l.verdict ≡ Verdict.Pass c s → stand_of h l.number ≡ Stand.Open → (full full' : Option Said) → full ≡ full' → IsFull full'
    → Agrees (granted_unless b l.number (Live.Granted l.generation c s) full)
    (history.stepped h marks true (Line.Grant l (history.or_done h full')) (history.or_done h full') Said.LogFault)
granted_full b h marks stands none l c s v is None None e full =
    let live : Live = Live.Granted l.generation c s in
    numbered b h marks (renewed l.number live b.entries) (Line.Grant l (Said.Done (length h + 1))) stands (unmarked marks none)
    (λ m. standing_in-renewed l.number live b.entries m
    ∙ stand_renewed (l.number == m) (standing_in b.entries m) (stand_of h m) l.generation l.verdict c s (length h + 1) v (stands.standing m) (opened_there h l.number m is))
    (IsApart-renewed l.number live b.entries stands.apart)
granted_full b h marks stands none l c s v is (Some said) (Some said') e full = record {
  said = same_Some said said' e;
  stands = counted_line b h marks b.entries (Line.Grant l said') stands (unmarked marks none)
      (λ m. stand_kept (l.number == m) (standing_in b.entries m) (stand_of h m) l.generation l.verdict said' (stands.standing m)
      (λ this. full_keeps said' full (stand_of h m) l.generation l.verdict c s v (opened_there h l.number m is this)))
      stands.apart;
}
granted_full b h marks stands none l c s v is None (Some said) e full = absurd (none-some said e)
granted_full b h marks stands none l c s v is (Some said) None e full = absurd (none-some said (sym e))

granted_blocked : (b : Book) (h : List Line) (marks : List StopBy) → StandsFor b h marks → last_mark marks ≡ None → (l : GrantLine) → is_pass l.verdict ≡ false
    → Agrees (with_line (counted b)) (history.stepped h marks true (Line.Grant l (Said.Done (length h + 1))) (Said.Done (length h + 1)) Said.LogFault)
granted_blocked b h marks stands none l blocked =
    numbered b h marks b.entries (Line.Grant l (Said.Done (length h + 1))) stands (unmarked marks none)
    (λ m. stand_kept (l.number == m) (standing_in b.entries m) (stand_of h m) l.generation l.verdict (Said.Done (length h + 1)) (stands.standing m)
    (λ this. block_keeps (stand_of h m) l.generation l.verdict (Said.Done (length h + 1)) blocked))
    stands.apart

granted_by_verdict : (b : Book) (h : List Line) (marks : List StopBy) → StandsFor b h marks → last_mark marks ≡ None → (l : GrantLine) → stand_of h l.number ≡ Stand.Open
    → (v : Verdict) → l.verdict ≡ v
    → Agrees (granted_verdict b l v) (history.stepped h marks true (Line.Grant l (history.finding_of h l v)) (history.finding_of h l v) Said.LogFault)
granted_by_verdict b h marks stands none l is (Verdict.Pass c s) v =
    granted_full b h marks stands none l c s v is _ _
    (or_full-same _ _ _ _ (full_same b h marks stands l.generation ListKind.Client c l.client_max) (full_same b h marks stands l.generation ListKind.Socks s l.socks_max))
    (IsFull-or_else _ _ (IsFull-at_limit h l.generation ListKind.Client c l.client_max) (IsFull-at_limit h l.generation ListKind.Socks s l.socks_max))
granted_by_verdict b h marks stands none l is (Verdict.ClientBlock c) v = granted_blocked b h marks stands none l (ap is_pass v)
granted_by_verdict b h marks stands none l is Verdict.ClientNone v = granted_blocked b h marks stands none l (ap is_pass v)
granted_by_verdict b h marks stands none l is (Verdict.SocksBlock c s) v = granted_blocked b h marks stands none l (ap is_pass v)
granted_by_verdict b h marks stands none l is (Verdict.SocksNone c) v = granted_blocked b h marks stands none l (ap is_pass v)

granted_by : (b : Book) (h : List Line) (marks : List StopBy) → StandsFor b h marks → last_mark marks ≡ None → (l : GrantLine) (stand : Stand)
    → stand_of h l.number ≡ stand → Agrees (granted_standing b l (standing stand)) (history.grant_stood h marks l true stand)
granted_by b h marks stands none l Stand.Gone is = refused b h marks stands _ _ refl
granted_by b h marks stands none l Stand.Open is = granted_by_verdict b h marks stands none l is l.verdict refl
granted_by b h marks stands none l (Stand.Under g c s) is = refused b h marks stands _ _ refl

pub granted_agrees : (b : Book) (h : List Line) (marks : List StopBy) → StandsFor b h marks → (l : GrantLine) → Agrees (granted b l) (at_grant h marks l true)
granted_agrees b h marks stands l =
    let P : Stand → Type 0 = λ stand. Agrees (granted_standing b l (standing stand)) (history.grant_stood h marks l true (stand_of h l.number)) in
    let same = stands.standing l.number in
    unless b h marks stands b.stopped (last_mark marks) stands.mark _ _ (λ none. subst P (sym same) (granted_by b h marks stands none l (stand_of h l.number) refl))

-- ---- close

closed_live : (b : Book) (h : List Line) (marks : List StopBy) → StandsFor b h marks → (l : CloseLine) → (log log' : Bool) → log ≡ log' → is_log (last_mark marks) ≡ log'
    → Agrees
    (let after : Book = counted (without_entry b l.number) in if log then record { said = Shut.Unlogged; book = after } else record { said = Shut.Done after.lines; book = after })
    (if log' then history.unlogged_close h marks l else history.stepped h marks true (Line.Close l) (Shut.Done (length h + 1)) Shut.LogFault)
closed_live b h marks stands l true true e is = record {
  said = refl;
  stands = unnumbered_line b h marks (without l.number b.entries) (Line.Close l) stands is
      (λ m. standing_in-without l.number b.entries m stands.apart ∙ ap (λ stand. cond (l.number == m) Stand.Gone stand) (stands.standing m))
      (IsApart-without l.number b.entries stands.apart);
}
closed_live b h marks stands l false false e is = record {
  said = ap Shut.Done (number_after b.lines (length h) stands.lines (stands.room is));
  stands = counted_line b h marks (without l.number b.entries) (Line.Close l) stands is
      (λ m. standing_in-without l.number b.entries m stands.apart ∙ ap (λ stand. cond (l.number == m) Stand.Gone stand) (stands.standing m))
      (IsApart-without l.number b.entries stands.apart);
}
closed_live b h marks stands l true false e is = cc
closed_live b h marks stands l false true e is = cc

closed_by : (b : Book) (h : List Line) (marks : List StopBy) → StandsFor b h marks → (l : CloseLine) (stand : Stand)
    → Agrees (closed_standing b l.number (standing stand)) (history.close_stood h marks l true stand)
closed_by b h marks stands l Stand.Gone = refused b h marks stands _ _ refl
closed_by b h marks stands l Stand.Open = closed_live b h marks stands l (is_log b.stopped) (is_log (last_mark marks)) (ap is_log stands.mark) refl
closed_by b h marks stands l (Stand.Under g c s) = closed_live b h marks stands l (is_log b.stopped) (is_log (last_mark marks)) (ap is_log stands.mark) refl

pub closed_agrees : (b : Book) (h : List Line) (marks : List StopBy) → StandsFor b h marks → (l : CloseLine) → Agrees (closed b l) (at_close h marks l true)
closed_agrees b h marks stands l =
    let P : Stand → Type 0 = λ stand. Agrees (closed_standing b l.number (standing stand)) (history.close_stood h marks l true (stand_of h l.number)) in
    subst P (sym (stands.standing l.number)) (closed_by b h marks stands l (stand_of h l.number))

-- ---- the calls

pub opens : (b after : Book) (l : OpenLine) (answer : Said) → answer ≡ (opened b l).said → after ≡ (opened b l).book
    → (h : List Line) (marks : List StopBy) → StandsFor b h marks → Opens (StandsFor after) h marks b.cap l answer
opens b after l answer e f h marks stands =
    let agrees = opened_agrees b h marks stands l in
    let P : Book → Type 0 = λ x. StandsFor x (at_open h marks b.cap l true).h (at_open h marks b.cap l true).marks in
    record { logged = true; said' = e ∙ agrees.said; stands' = subst P (sym f) agrees.stands }

pub grants : (b after : Book) (l : GrantLine) (answer : Said) → answer ≡ (granted b l).said → after ≡ (granted b l).book
    → (h : List Line) (marks : List StopBy) → StandsFor b h marks → Grants (StandsFor after) h marks l answer
grants b after l answer e f h marks stands =
    let agrees = granted_agrees b h marks stands l in
    let P : Book → Type 0 = λ x. StandsFor x (at_grant h marks l true).h (at_grant h marks l true).marks in
    record { logged = true; said' = e ∙ agrees.said; stands' = subst P (sym f) agrees.stands }

pub closes : (b after : Book) (l : CloseLine) (answer : Shut) → answer ≡ (closed b l).said → after ≡ (closed b l).book
    → (h : List Line) (marks : List StopBy) → StandsFor b h marks → Closes (StandsFor after) h marks l answer
closes b after l answer e f h marks stands =
    let agrees = closed_agrees b h marks stands l in
    let P : Book → Type 0 = λ x. StandsFor x (at_close h marks l true).h (at_close h marks l true).marks in
    record { logged = true; said' = e ∙ agrees.said; stands' = subst P (sym f) agrees.stands }
