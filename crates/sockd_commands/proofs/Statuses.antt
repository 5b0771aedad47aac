-- What each status says of a run.
use Rattle.std.proofs.Common.{append-nil, ◌≡◌, ◌⊎◌, ℕ, Option, Some, None, List, [], inl, inr, sym, ap, subst, ◌∙◌, refl, arith}
use mathlib.Core.List.{IsPrefix}
use Rattle.std.specs.declared.alloc.Global.{Global}
use Rattle.std.specs.declared.string.String.{String}
use Rattle.conf_types.specs.declared.entries.Entries.{Entries}
use Rattle.net_ends.specs.Counts.{Rose}
use Rattle.net_ends.specs.Told.{more}
use Rattle.sockd_commands.specs.declared.end.End.{End}
use Rattle.sockd_commands.specs.ConfFile.{IsConfigFile}
use Rattle.sockd_commands.specs.Quick.{Ends, HasTranscript, OnAsked, OnQuick, OnReplay, OnRun, OnText, OnWanted, SinkEnd, question, status_of, text_by}
use Rattle.command_line.specs.Words.{Wanted}
use Rattle.sockd_commands.specs.Words.{asked_by}

-- ---- status 2

replay_usage : (old new : Ends) (end : End) → OnReplay old new end → status_of end ≡ 2 → ⊥
replay_usage old new End.Done h is = let e : ◌≡◌ {A = ℕ} 0 2 = is in absurd (omega (arith, e))
replay_usage old new (End.Conf fault) h is = let e : ◌≡◌ {A = ℕ} 1 2 = is in absurd (omega (arith, e))
replay_usage old new (End.Script fault) h is = let e : ◌≡◌ {A = ℕ} 1 2 = is in absurd (omega (arith, e))
replay_usage old new End.Usage h is = h
replay_usage old new End.InputFault h is = let e : ◌≡◌ {A = ℕ} 3 2 = is in absurd (omega (arith, e))
replay_usage old new End.OutputFault h is = let e : ◌≡◌ {A = ℕ} 3 2 = is in absurd (omega (arith, e))
replay_usage old new End.StoreFault h is = let e : ◌≡◌ {A = ℕ} 3 2 = is in absurd (omega (arith, e))
replay_usage old new End.Memory h is = let e : ◌≡◌ {A = ℕ} 4 2 = is in absurd (omega (arith, e))

text_usage : (text : Entries → List ℕ) (name : List ℕ) (old new : Ends) (end : End) → OnText text name old new end → status_of end ≡ 2 → ⊥
text_usage text name old new End.Done h is = let e : ◌≡◌ {A = ℕ} 0 2 = is in absurd (omega (arith, e))
text_usage text name old new (End.Conf fault) h is = let e : ◌≡◌ {A = ℕ} 1 2 = is in absurd (omega (arith, e))
text_usage text name old new (End.Script fault) h is = let e : ◌≡◌ {A = ℕ} 1 2 = is in absurd (omega (arith, e))
text_usage text name old new End.Usage h is = h
text_usage text name old new End.InputFault h is = let e : ◌≡◌ {A = ℕ} 3 2 = is in absurd (omega (arith, e))
text_usage text name old new End.OutputFault h is = let e : ◌≡◌ {A = ℕ} 3 2 = is in absurd (omega (arith, e))
text_usage text name old new End.StoreFault h is = let e : ◌≡◌ {A = ℕ} 3 2 = is in absurd (omega (arith, e))
text_usage text name old new End.Memory h is = let e : ◌≡◌ {A = ℕ} 4 2 = is in absurd (omega (arith, e))

wanted_usage : (wanted : Wanted) (old new : Ends) (end : End) → OnWanted wanted old new end → status_of end ≡ 2 → ⊥
wanted_usage Wanted.Replay old new end h is = replay_usage old new end h.ended is
wanted_usage (Wanted.Check file) old new end h is = text_usage (text_by None) file old new end h.ended is
wanted_usage (Wanted.Decide file from to name command) old new end h is = text_usage (text_by (Some (question from to name command))) file old new end h.ended is

refused_asked : (asked : Option Wanted) (old new : Ends) (end : End) → OnAsked asked old new end → status_of end ≡ 2 → asked ≡ None
refused_asked None old new end h is = refl
refused_asked (Some wanted) old new end h is = absurd (wanted_usage wanted old new end h is)

refused_words : (words : List (String Global)) (old new : Ends) (end : End) → OnRun words old new end → status_of end ≡ 2 → asked_by words ≡ None
refused_words words old new end (inl h) is = refused_asked (asked_by words) old new end h is
refused_words words old new end (inr m) is = let e : ◌≡◌ {A = ℕ} 4 2 = sym (ap status_of m.memory) ∙ is in absurd (omega (arith, e))

usage_status : (words : List (String Global)) (old new : Ends) (end : End) → OnRun words old new end → asked_by words ≡ None
    → (status_of end ≡ 2) ⊎ (status_of end ≡ 4)
usage_status words old new end (inl h) none =
    let refused : OnAsked None old new end = subst (λ (asked : Option Wanted). OnAsked asked old new end) none h in inl (ap status_of refused.usage)
usage_status words old new end (inr m) none = inr (ap status_of m.memory)

-- it comes exactly where the words fit no command, unless memory is refused
pub usage_exactly : (words : List (String Global)) (old new : Ends) (before now : SinkEnd) (status : ℕ) → OnQuick words old new before now status
    → (status ≡ 2 → asked_by words ≡ None) × (asked_by words ≡ None → (status ≡ 2) ⊎ (status ≡ 4))
usage_exactly words old new before now status q = (
  (λ is. refused_words words old new q.end q.ran (sym q.status_is ∙ is)),
  (λ none. subst (λ (z : ℕ). (z ≡ 2) ⊎ (z ≡ 4)) (sym q.status_is) (usage_status words old new q.end q.ran none)),
)

-- ---- what is written at all

-- the text that a run writes where nothing fails
abbrev pub ShowsText : (Entries → List ℕ) → List ℕ → Ends → List ℕ → Type 0
ShowsText of name old text = (config : Entries) × IsConfigFile old.files.files name config × (text ≡ of config)

abbrev pub Shows : Option Wanted → Ends → Ends → List ℕ → Type 0
Shows None old new text = ⊥
Shows (Some Wanted.Replay) old new text = HasTranscript old.input new.input text
Shows (Some (Wanted.Check file)) old new text = ShowsText (text_by None) file old text
Shows (Some (Wanted.Decide file from to name command)) old new text = ShowsText (text_by (Some (question from to name command))) file old text

-- a part from the front of it was written
pub record HasPart (asked : Option Wanted) (old new : Ends) : Type 0 where
  pub text : List ℕ
  pub shown : Shows asked old new text
  pub part : List ℕ
  pub front : IsPrefix part text
  pub out : new.out.told ≡ more old.out.told part

replay_part : (old new : Ends) (end : End) → OnReplay old new end → (new.out.told ≡ old.out.told) ⊎ HasPart (Some Wanted.Replay) old new
replay_part old new End.Done h = inr (record { text = h.0; shown = h.1; part = h.0; front = ([], append-nil h.0); out = h.2 })
replay_part old new (End.Conf fault) h = absurd h
replay_part old new (End.Script fault) h = inl h.1
replay_part old new End.Usage h = absurd h
replay_part old new End.InputFault h = inl h.1
replay_part old new End.OutputFault h = inr (record { text = h.0; shown = h.1; part = h.2.part; front = h.2.front; out = h.2.out })
replay_part old new End.StoreFault h = absurd h
replay_part old new End.Memory h = inl h

text_part : (of : Entries → List ℕ) (name : List ℕ) (asked : Option Wanted) (old new : Ends) (end : End) → ((text : List ℕ) → ShowsText of name old text → Shows asked old new text)
    → OnText of name old new end → (new.out.told ≡ old.out.told) ⊎ HasPart asked old new
text_part of name asked old new End.Done shows h =
    inr (record { text = of h.0; shown = shows (of h.0) (h.0, h.1, refl); part = of h.0; front = ([], append-nil (of h.0)); out = h.2 })
text_part of name asked old new (End.Conf fault) shows h = inl h.1
text_part of name asked old new (End.Script fault) shows h = absurd h
text_part of name asked old new End.Usage shows h = absurd h
text_part of name asked old new End.InputFault shows h = absurd h
text_part of name asked old new End.OutputFault shows h =
    inr (record { text = of h.0; shown = shows (of h.0) (h.0, h.1, refl); part = h.2.part; front = h.2.front; out = h.2.out })
text_part of name asked old new End.StoreFault shows h = inl h.1
text_part of name asked old new End.Memory shows h = inl h

asked_part : (asked : Option Wanted) (old new : Ends) (end : End) → OnAsked asked old new end → (new.out.told ≡ old.out.told) ⊎ HasPart asked old new
asked_part None old new end h = inl (ap (λ (z : Ends). z.out.told) h.same)
asked_part (Some Wanted.Replay) old new end h = replay_part old new end h.ended
asked_part (Some (Wanted.Check file)) old new end h = text_part (text_by None) file (Some (Wanted.Check file)) old new end (λ text shown. shown) h.ended
asked_part (Some (Wanted.Decide file from to name command)) old new end h =
    text_part (text_by (Some (question from to name command))) file (Some (Wanted.Decide file from to name command)) old new end (λ text shown. shown) h.ended

run_part : (words : List (String Global)) (old new : Ends) (end : End) → OnRun words old new end → (new.out.told ≡ old.out.told) ⊎ HasPart (asked_by words) old new
run_part words old new end (inl h) = asked_part (asked_by words) old new end h
run_part words old new end (inr m) = inl (ap (λ (z : Ends). z.out.told) m.same)

-- at every status it is a part from the front of the text that the words ask for, or nothing
pub written : (words : List (String Global)) (old new : Ends) (before now : SinkEnd) (status : ℕ) → OnQuick words old new before now status
    → (new.out.told ≡ old.out.told) ⊎ HasPart (asked_by words) old new
written words old new before now status q = run_part words old new q.end q.ran

-- ---- status 3

faulted_replay : (old new : Ends) (end : End) → OnReplay old new end → status_of end ≡ 3 → Rose old.input.faults new.input.faults ⊎ (Rose old.out.faults new.out.faults ⊎ Rose old.files.faults new.files.faults)
faulted_replay old new End.Done h is = let e : ◌≡◌ {A = ℕ} 0 3 = is in absurd (omega (arith, e))
faulted_replay old new (End.Conf fault) h is = absurd h
faulted_replay old new (End.Script fault) h is = let e : ◌≡◌ {A = ℕ} 1 3 = is in absurd (omega (arith, e))
faulted_replay old new End.Usage h is = absurd h
faulted_replay old new End.InputFault h is = inl h.0
faulted_replay old new End.OutputFault h is = inr (inl h.2.fault)
faulted_replay old new End.StoreFault h is = absurd h
faulted_replay old new End.Memory h is = let e : ◌≡◌ {A = ℕ} 4 3 = is in absurd (omega (arith, e))

faulted_text : (of : Entries → List ℕ) (name : List ℕ) (old new : Ends) (end : End) → OnText of name old new end → status_of end ≡ 3 → Rose old.input.faults new.input.faults ⊎ (Rose old.out.faults new.out.faults ⊎ Rose old.files.faults new.files.faults)
faulted_text of name old new End.Done h is = let e : ◌≡◌ {A = ℕ} 0 3 = is in absurd (omega (arith, e))
faulted_text of name old new (End.Conf fault) h is = let e : ◌≡◌ {A = ℕ} 1 3 = is in absurd (omega (arith, e))
faulted_text of name old new (End.Script fault) h is = absurd h
faulted_text of name old new End.Usage h is = absurd h
faulted_text of name old new End.InputFault h is = absurd h
faulted_text of name old new End.OutputFault h is = inr (inl h.2.fault)
faulted_text of name old new End.StoreFault h is = inr (inr h.0)
faulted_text of name old new End.Memory h is = let e : ◌≡◌ {A = ℕ} 4 3 = is in absurd (omega (arith, e))

faulted_asked : (asked : Option Wanted) (old new : Ends) (end : End) → OnAsked asked old new end → status_of end ≡ 3 → Rose old.input.faults new.input.faults ⊎ (Rose old.out.faults new.out.faults ⊎ Rose old.files.faults new.files.faults)
faulted_asked None old new end h is = let e : ◌≡◌ {A = ℕ} 2 3 = sym (ap status_of h.usage) ∙ is in absurd (omega (arith, e))
faulted_asked (Some Wanted.Replay) old new end h is = faulted_replay old new end h.ended is
faulted_asked (Some (Wanted.Check file)) old new end h is = faulted_text (text_by None) file old new end h.ended is
faulted_asked (Some (Wanted.Decide file from to name command)) old new end h is = faulted_text (text_by (Some (question from to name command))) file old new end h.ended is

faulted_run : (words : List (String Global)) (old new : Ends) (end : End) → OnRun words old new end → status_of end ≡ 3 → Rose old.input.faults new.input.faults ⊎ (Rose old.out.faults new.out.faults ⊎ Rose old.files.faults new.files.faults)
faulted_run words old new end (inl h) is = faulted_asked (asked_by words) old new end h is
faulted_run words old new end (inr m) is = let e : ◌≡◌ {A = ℕ} 4 3 = sym (ap status_of m.memory) ∙ is in absurd (omega (arith, e))

-- a count of faults of the input, the output or the files rose
pub faulted : (words : List (String Global)) (old new : Ends) (before now : SinkEnd) → OnQuick words old new before now 3 →
    Rose old.input.faults new.input.faults ⊎ (Rose old.out.faults new.out.faults ⊎ Rose old.files.faults new.files.faults)
faulted words old new before now q = faulted_run words old new q.end q.ran (sym q.status_is)
