-- A script that has a fault is refused with it, unless a fault of the streams or want of memory comes first.
use Rattle.std.proofs.Common.{◌≡◌, ◌≢◌, ◌<◌, ◌+◌, ◌⊎◌, ℕ, List, ◌++◌, Option, Some, length, codes, decimal, inl, inr, sym, ap, subst, ◌∙◌, refl, arith, append_assoc, length-append}
use Rattle.std.proofs.lemmas.List.{append_cancel_left}
use Rattle.std.specs.declared.alloc.Global.{Global}
use Rattle.std.specs.declared.string.String.{String}
use Rattle.net_ends.specs.Streams.{SourceTold}
use Rattle.replay_script.specs.declared.fault.ScriptFault.{ScriptFault}
use Rattle.replay_script.specs.declared.fault.ScriptKind.{ScriptKind}
use Rattle.replay_script.specs.Script.{Faulty, longest}
use Rattle.replay_script.proofs.Deciding.{script_faultless, one_fault}
use Rattle.sockd_commands.specs.declared.end.End.{End}
use Rattle.sockd_commands.specs.Whole.{Gave, HasEnded, IsFront}
use Rattle.sockd_commands.specs.Quick.{Ends, OnAsked, OnQuick, OnReplay, OnRun, SinkEnd, SourceEnd, IsEnough, IsFaulty, Prints, fault_text, kind_text, status_of}
use Rattle.command_line.specs.Words.{Wanted}
use Rattle.sockd_commands.specs.Words.{asked_by}

-- ---- what the source gave

gave : (old new : Option SourceTold) (from to : SourceTold) (bytes : List ℕ) → old ≡ Some from → new ≡ Some to → Gave old new bytes → to.given ≡ from.given ++ bytes
gave old new from to bytes is_from is_to h =
    let at : Gave (Some from) (Some to) bytes = subst (λ (z : Option SourceTold). Gave z (Some to) bytes) is_from (subst (λ (z : Option SourceTold). Gave old z bytes) is_to h) in at.0

-- all that it had to give
all_given : (old new : Option SourceTold) (from to : SourceTold) (bytes all : List ℕ) → old ≡ Some from → new ≡ Some to → to.whole ≡ from.given ++ all
    → Gave old new bytes → HasEnded new → bytes ≡ all
all_given old new from to bytes all is_from is_to whole h ended =
    let at_end : to.given ≡ to.whole = subst HasEnded is_to ended in
    append_cancel_left from.given bytes all (sym (gave old new from to bytes is_from is_to h) ∙ (at_end ∙ whole))

-- the front of all that it had to give
longer : (old new : Option SourceTold) (from to : SourceTold) (bytes all : List ℕ) → old ≡ Some from → new ≡ Some to → to.whole ≡ from.given ++ all
    → Gave old new bytes → IsFront new → longest < length bytes → longest < length all
longer old new from to bytes all is_from is_to whole h front over =
    let part : IsFront (Some to) = subst IsFront is_to front in
    let given = gave old new from to bytes is_from is_to h in
    let split : all ≡ bytes ++ part.0 = append_cancel_left from.given all (bytes ++ part.0) (sym whole ∙ (sym part.1 ∙ (ap (λ (z : List ℕ). z ++ part.0) given ∙ append_assoc from.given bytes part.0))) in
    let len : length all ≡ length bytes + length part.0 = ap (λ (z : List ℕ). length z) split ∙ length-append bytes part.0 in
    omega (arith, len, over)

-- ---- the fault that is printed

same_text : (fault other : ScriptFault) → fault.line ≡ other.line → fault.kind ≡ other.kind → fault_text (End.Script fault) ≡ fault_text (End.Script other)
same_text fault other same_line same_kind =
    let text : ℕ → ScriptKind → List ℕ = λ line kind. codes "sockd: script line " ++ (decimal line ++ (codes ": " ++ (kind_text kind ++ codes "\n"))) in
    ap (λ (line : ℕ). text line fault.kind) same_line ∙ ap (λ (kind : ScriptKind). text other.line kind) same_kind

unlike_length : ScriptKind.Length ≢ ScriptKind.Memory
unlike_length same = absurd (cc same)

-- the fault of what was read is the fault of all
same_fault : (old new : SourceEnd) (from to : SourceTold) (all : List ℕ) (fault other : ScriptFault) → old.told ≡ Some from → new.told ≡ Some to → to.whole ≡ from.given ++ all
    → Faulty all fault.line fault.kind → fault.kind ≢ ScriptKind.Memory → (h : IsFaulty old new other) → IsEnough new h.bytes → fault_text (End.Script other) ≡ fault_text (End.Script fault)
same_fault old new from to all fault other is_from is_to whole faulty known h (inl ended) =
    let same : h.bytes ≡ all = all_given old.told new.told from to h.bytes all is_from is_to whole h.gave ended in
    let there : Faulty all other.line other.kind = subst (λ (z : List ℕ). Faulty z other.line other.kind) same h.faulty in
    let one = one_fault all other.line fault.line other.kind fault.kind there faulty h.known known in
    same_text other fault one.0 one.1
same_fault old new from to all fault other is_from is_to whole faulty known h (inr past) =
    let over : longest < length all = longer old.told new.told from to h.bytes all is_from is_to whole h.gave past.0 past.1 in
    let read : Faulty h.bytes 0 ScriptKind.Length = (past.1, refl) in
    let there : Faulty all 0 ScriptKind.Length = (over, refl) in
    let one = one_fault h.bytes other.line 0 other.kind ScriptKind.Length h.faulty read h.known unlike_length in
    let two = one_fault all 0 fault.line ScriptKind.Length fault.kind there faulty unlike_length known in
    same_text other fault (one.0 ∙ two.0) (one.1 ∙ two.1)

-- ---- how such a run ends

refuses : (old new : Ends) (before now : SinkEnd) (from to : SourceTold) (all : List ℕ) (fault : ScriptFault) (end : End)
    → old.input.told ≡ Some from → new.input.told ≡ Some to → to.whole ≡ from.given ++ all → Faulty all fault.line fault.kind → fault.kind ≢ ScriptKind.Memory
    → OnReplay old new end → Prints before now (fault_text end)
    → ((status_of end ≡ 1) × Prints before now (fault_text (End.Script fault))) ⊎ ((status_of end ≡ 3) ⊎ (status_of end ≡ 4))
refuses old new before now from to all fault End.Done is_from is_to whole faulty known h p =
    let read = h.1.is_read in
    let same : read.bytes ≡ all = all_given old.input.told new.input.told from to read.bytes all is_from is_to whole read.gave read.ended in
    let there : Faulty read.bytes fault.line fault.kind = subst (λ (z : List ℕ). Faulty z fault.line fault.kind) (sym same) faulty in
    absurd (known (script_faultless read.bytes h.1.script fault.line fault.kind read.spelled there))
refuses old new before now from to all fault (End.Conf other) is_from is_to whole faulty known h p = absurd h
refuses old new before now from to all fault (End.Script other) is_from is_to whole faulty known h p =
    inl (refl, subst (λ (z : List ℕ). Prints before now z) (same_fault old.input new.input from to all fault other is_from is_to whole faulty known h.0 h.0.enough) p)
refuses old new before now from to all fault End.Usage is_from is_to whole faulty known h p = absurd h
refuses old new before now from to all fault End.InputFault is_from is_to whole faulty known h p = inr (inl refl)
refuses old new before now from to all fault End.OutputFault is_from is_to whole faulty known h p = inr (inl refl)
refuses old new before now from to all fault End.StoreFault is_from is_to whole faulty known h p = absurd h
refuses old new before now from to all fault End.Memory is_from is_to whole faulty known h p = inr (inr refl)

refuses_run : (words : List (String Global)) (old new : Ends) (before now : SinkEnd) (from to : SourceTold) (all : List ℕ) (fault : ScriptFault) (end : End)
    → asked_by words ≡ Some Wanted.Replay → old.input.told ≡ Some from → new.input.told ≡ Some to → to.whole ≡ from.given ++ all → Faulty all fault.line fault.kind → fault.kind ≢ ScriptKind.Memory
    → OnRun words old new end → Prints before now (fault_text end)
    → ((status_of end ≡ 1) × Prints before now (fault_text (End.Script fault))) ⊎ ((status_of end ≡ 3) ⊎ (status_of end ≡ 4))
refuses_run words old new before now from to all fault end replays is_from is_to whole faulty known (inl r) p =
    let replayed : OnAsked (Some Wanted.Replay) old new end = subst (λ (asked : Option Wanted). OnAsked asked old new end) replays r in
    refuses old new before now from to all fault end is_from is_to whole faulty known replayed.ended p
refuses_run words old new before now from to all fault end replays is_from is_to whole faulty known (inr m) p = inr (inr (ap status_of m.memory))

-- The status of a replay is 1 and the fault is printed, where all that the input has to give has this fault, unless a count of
-- faults rose or memory was refused.
pub refused_exactly : (words : List (String Global)) (old new : Ends) (before now : SinkEnd) (status : ℕ) (from to : SourceTold) (all : List ℕ) (fault : ScriptFault)
    → OnQuick words old new before now status → asked_by words ≡ Some Wanted.Replay → old.input.told ≡ Some from → new.input.told ≡ Some to → to.whole ≡ from.given ++ all
    → Faulty all fault.line fault.kind → fault.kind ≢ ScriptKind.Memory
    → ((status ≡ 1) × Prints before now (fault_text (End.Script fault))) ⊎ ((status ≡ 3) ⊎ (status ≡ 4))
refused_exactly words old new before now status from to all fault q replays is_from is_to whole faulty known =
    subst (λ (z : ℕ). ((z ≡ 1) × Prints before now (fault_text (End.Script fault))) ⊎ ((z ≡ 3) ⊎ (z ≡ 4))) (sym q.status_is)
    (refuses_run words old new before now from to all fault q.end replays is_from is_to whole faulty known q.ran q.printed)
