-- A script that is read is served.
use Rattle.std.proofs.Common.{◌≢◌, ◌+◌, ℕ, List, [], ◌∷◌, inl, inr, Some, None, Result, Ok, Err, IfOk, sym, subst}
use Rattle.socks_machine.specs.declared.world.Object.{Object}
use Rattle.socks_machine.specs.declared.world.Outer.{Outer}
use Rattle.socks_machine.specs.declared.script.CallKind.{CallKind}
use Rattle.socks_machine.specs.declared.script.ScriptLine.{ScriptLine}
use Rattle.replay_script.specs.declared.entry.TextLine.{TextLine}
use Rattle.replay_script.specs.declared.fault.ScriptFault.{ScriptFault}
use Rattle.replay_script.specs.declared.fault.ScriptKind.{ScriptKind}
use Rattle.replay_script.specs.declared.state.State.{State}
use Rattle.replay_script.specs.Conditions.{start, after, IsServedOutcome, IsServedLookup, IsServedForm, IsServedRoom, IsServedFault, IsServedFrom, IsServed}
use Rattle.replay_script.specs.Forms.{IsBound, IsCall, IsOutcome, IsFound, Spells}
use Rattle.replay_script.specs.Script.{SpellsEntry, Begins, IsServedEntry, Refuses, Reads, AreLines, IsRefusedAt, IsScript, OnLines, OnLinesFault, lines_of}
use Rattle.replay_script.proofs.Giving.{given_fits}
use Rattle.replay_script.proofs.Steps.{IsSoFar}

outcome_served : (text : List ℕ) (outer : Outer) → IsOutcome text outer → IsServedOutcome outer
outcome_served text (Outer.Up local) h = tt
outcome_served text Outer.Refused h = tt
outcome_served text Outer.HostUnreachable h = tt
outcome_served text Outer.NetUnreachable h = tt
outcome_served text Outer.Failed h = tt
outcome_served text _ h = h

found_served : (text : List ℕ) (outer : Outer) → IsFound text outer → IsServedLookup outer
found_served text (Outer.Looked (Some addr)) h = tt
found_served text (Outer.Looked None) h = tt
found_served text Outer.Failed h = tt
found_served text _ h = h

bound_served : (text : List ℕ) (object : Object) (most : ℕ) → IsBound text object most → IsServedRoom object
bound_served text Object.Client most h = tt
bound_served text Object.Target most h = tt
bound_served text _ most h = h

call_served : (text : List ℕ) (object : Object) (kind : CallKind) → IsCall text object kind → IsServedFault object
call_served text Object.Client kind h = tt
call_served text Object.Target kind h = tt
call_served text _ kind h = h

spelled_served : (text : List ℕ) (l : ScriptLine) → Spells text l → IsServedForm l
spelled_served text (ScriptLine.See w) h = h.0
spelled_served text (ScriptLine.Open w n peer at) h = h.0
spelled_served text (ScriptLine.Client n bytes) h = tt
spelled_served text (ScriptLine.Target n bytes) h = h.1
spelled_served text (ScriptLine.ClientEnd n) h = tt
spelled_served text (ScriptLine.TargetEnd n) h = tt
spelled_served text (ScriptLine.Lookup n outer) h = found_served h.2.1 outer h.2.3.1
spelled_served text (ScriptLine.Dial n outer) h = outcome_served h.2.1 outer h.2.3.1
spelled_served text (ScriptLine.Room n object most) h = bound_served h.2.1 object most h.2.3.1
spelled_served text (ScriptLine.Fault n object kind) h = call_served h.2.1 object kind h.2.3.1
spelled_served text (ScriptLine.Now n) h = tt
spelled_served text (ScriptLine.Turn w n) h = h.0
spelled_served text _ h = absurd h

spelled_form : (text : List ℕ) (entry : TextLine) → SpellsEntry text entry → IsServedEntry entry
spelled_form text TextLine.Skipped h = tt
spelled_form text (TextLine.Served l) h = spelled_served text l h

pub begins_form : (text : List ℕ) (entry : TextLine) (lines : ℕ) (behind : List ℕ) → Begins text entry lines behind → IsServedEntry entry
begins_form text entry lines behind (inl h) = spelled_form h.0 entry h.2
begins_form text entry lines behind (inr (inl h)) = subst IsServedEntry (sym h.2) h.1.plain
begins_form text entry lines behind (inr (inr h)) = subst IsServedEntry (sym h.2) (given_fits text h.0 lines behind h.1)

reads_served : (s : State) (text : List ℕ) (at : ℕ) (entries : List TextLine) (rest : List ℕ) (now : State) (number : ℕ) →
    Reads s text at entries rest now number → IsServedFrom s (lines_of entries)
reads_served s text at [] rest now number h = tt
reads_served s text at (TextLine.Skipped ∷ entries) rest now number h = reads_served s h.1 (at + h.0) entries rest now number h.3
reads_served s text at (TextLine.Served l ∷ entries) rest now number h =
    (begins_form text (TextLine.Served l) h.0 h.1 h.2.begins, h.2.allowed, reads_served (after s l) h.1 (at + h.0) entries rest now number h.3)

lines_served : (text : List ℕ) (ls : List ScriptLine) → AreLines text ls → IsServed ls
lines_served text ls h = subst IsServed (sym h.shown) (reads_served start text 2 h.entries [] h.last h.number h.reading)

pub script_served : (text : List ℕ) (ls : List ScriptLine) → IsScript text ls → IsServed ls
script_served text ls h = lines_served h.behind ls h.lines

pub read_served : (text : List ℕ) (read : Result (List ScriptLine) ScriptFault) → OnLines text read → IfOk read (λ ls. IsServed ls)
read_served text (Ok ls) h = lines_served text ls h
read_served text (Err fault) h = tt

-- ---- a counted text that is refused

pub lines_refused : (text : List ℕ) (ls : List ScriptLine) (rest : List ℕ) (now : State) (number : ℕ) (kind : ScriptKind) →
    IsSoFar start text ls rest now number → (kind ≢ ScriptKind.Memory → Refuses now rest kind) → OnLinesFault text number kind
lines_refused text ls rest now number kind s refuses = at kind refuses
  where
    refused : (kind : ScriptKind) → Refuses now rest kind → IsRefusedAt text number kind
    refused kind r = record { entries = s.entries; rest = rest; last = now; reading = s.reading; refuses = r }

    at : (kind : ScriptKind) → (kind ≢ ScriptKind.Memory → Refuses now rest kind) → OnLinesFault text number kind
    at ScriptKind.Memory r = tt
    at ScriptKind.NotBuilt r = absurd (r (λ e. cc e)).faulty
    at ScriptKind.Length r = refused ScriptKind.Length (r (λ e. cc e))
    at ScriptKind.Header r = refused ScriptKind.Header (r (λ e. cc e))
    at (ScriptKind.Conf fault) r = refused (ScriptKind.Conf fault) (r (λ e. cc e))
    at (ScriptKind.Users fault) r = refused (ScriptKind.Users fault) (r (λ e. cc e))
