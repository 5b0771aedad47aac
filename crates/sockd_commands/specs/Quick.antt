-- What one run of the program does, by how it ends.
use Rattle.std.specs.Prelude.{◌≡◌, ◌≢◌, ◌<◌, ◌⊎◌, ℕ, Bool, Option, Some, None, List, [], ◌++◌, length, codes, decimal}
use mathlib.Core.List.{IsPrefix}
use Rattle.std.specs.declared.alloc.Global.{Global}
use Rattle.std.specs.declared.string.String.{String}
use Rattle.addr_pattern.specs.declared.endpoint.Endpoint.{Endpoint}
use Rattle.command_line.specs.Words.{Wanted}
use Rattle.conf_text.specs.declared.fault.TextFault.{TextFault}
use Rattle.conf_types.specs.declared.entries.Entries.{Entries}
use Rattle.conf_model.specs.declared.fault.ConfFault.{ConfFault}
use Rattle.conf_model.specs.declared.fault.ConfKind.{ConfKind}
use Rattle.socks_grammar.specs.declared.protocol.Command.{Command}
use Rattle.conf_model.specs.Canonical.{canonical_text}
use Rattle.net_ends.specs.Counts.{Rose}
use Rattle.net_ends.specs.Stores.{Files}
use Rattle.net_ends.specs.Streams.{SourceTold}
use Rattle.net_ends.specs.Told.{more}
use Rattle.replay_script.specs.declared.fault.ScriptFault.{ScriptFault}
use Rattle.replay_script.specs.declared.fault.ScriptKind.{ScriptKind}
use Rattle.user_login.specs.declared.fault.UsersFault.{UsersFault}
use Rattle.user_login.specs.declared.fault.UsersKind.{UsersKind}
use Rattle.replay_script.specs.Script.{IsScript, Faulty, longest}
use Rattle.socks_machine.specs.declared.script.ScriptLine.{ScriptLine}
use Rattle.socks_machine.specs.declared.world.World.{World}
use Rattle.socks_machine.specs.Follows.{IsReplay}
use Rattle.sockd_commands.specs.declared.end.End.{End}
use Rattle.sockd_commands.specs.ConfFile.{IsConfigFile, IsFaultyFile}
use Rattle.sockd_commands.specs.Whole.{Gave, HasEnded, IsFront, Wrote}
use Rattle.verdict_text.specs.declared.question.Question.{Question}
use Rattle.verdict_text.specs.Decisions.{decision_text}
use Rattle.sockd_commands.specs.Words.{asked_by}

-- ---- the ends of a run: what each tells, and how often it failed

pub record SourceEnd : Type 0 where
  pub told : Option SourceTold
  pub faults : ℕ

pub record SinkEnd : Type 0 where
  pub told : Option (List ℕ)
  pub faults : ℕ

pub record StoreEnd : Type 0 where
  pub files : Option Files
  pub faults : ℕ

abbrev pub source : Option SourceTold → ℕ → SourceEnd
source told faults = record { told = told; faults = faults }

abbrev pub sink : Option (List ℕ) → ℕ → SinkEnd
sink told faults = record { told = told; faults = faults }

abbrev pub store : Option Files → ℕ → StoreEnd
store files faults = record { files = files; faults = faults }

-- standard input, standard output and the files
pub record Ends : Type 0 where
  pub input : SourceEnd
  pub out : SinkEnd
  pub files : StoreEnd

abbrev pub ends : SourceEnd → SinkEnd → StoreEnd → Ends
ends input out files = record { input = input; out = out; files = files }

-- ---- what is written

-- the text was written, whole
abbrev pub IsWritten : List ℕ → SinkEnd → SinkEnd → Type 0
IsWritten text old new = new.told ≡ more old.told text

-- a part from the front of the text was written, and the count of the output's faults rose
pub record IsCutOff (text : List ℕ) (old new : SinkEnd) : Type 0 where
  pub part : List ℕ
  pub front : IsPrefix part text
  pub out : new.told ≡ more old.told part
  pub fault : Rose old.faults new.faults

abbrev pub IsUnwritten : SinkEnd → SinkEnd → Type 0
IsUnwritten old new = new.told ≡ old.told

-- ---- `replay`

-- the input was read to its end, and is this script
pub record IsRead (old new : SourceEnd) (script : List ScriptLine) : Type 0 where
  pub bytes : List ℕ
  pub gave : Gave old.told new.told bytes
  pub ended : HasEnded new.told
  pub spelled : IsScript bytes script

-- nothing more of the input is wanted: it was read to its end, or past the length of a script
abbrev pub IsEnough : SourceEnd → List ℕ → Type 0
IsEnough end bytes = HasEnded end.told ⊎ (IsFront end.told × (longest < length bytes))

-- so much of the input has this fault
pub record IsFaulty (old new : SourceEnd) (fault : ScriptFault) : Type 0 where
  pub bytes : List ℕ
  pub gave : Gave old.told new.told bytes
  pub enough : IsEnough new bytes
  pub faulty : Faulty bytes fault.line fault.kind
  pub known : fault.kind ≢ ScriptKind.Memory

-- the input was read to its end and is a script, and this is its transcript
pub record HasTranscript (old new : SourceEnd) (transcript : List ℕ) : Type 0 where
  pub script : List ScriptLine
  pub is_read : IsRead old new script
  pub world : World
  pub replayed : IsReplay script world transcript

abbrev pub OnReplay : Ends → Ends → End → Type 0
OnReplay old new End.Done = (transcript : List ℕ) × HasTranscript old.input new.input transcript × IsWritten transcript old.out new.out
OnReplay old new (End.Script fault) = IsFaulty old.input new.input fault × IsUnwritten old.out new.out
OnReplay old new End.InputFault = Rose old.input.faults new.input.faults × IsUnwritten old.out new.out
OnReplay old new End.OutputFault = (transcript : List ℕ) × HasTranscript old.input new.input transcript × IsCutOff transcript old.out new.out
OnReplay old new End.Memory = IsUnwritten old.out new.out
OnReplay old new _ = ⊥

-- ---- `check FILE` and `decide FILE FROM TO CMD`

-- a text of the file's configuration is written
abbrev pub OnText : (Entries → List ℕ) → List ℕ → Ends → Ends → End → Type 0
OnText text name old new End.Done = (config : Entries) × IsConfigFile old.files.files name config × IsWritten (text config) old.out new.out
OnText text name old new (End.Conf fault) = IsFaultyFile old.files.files name fault × IsUnwritten old.out new.out
OnText text name old new End.OutputFault = (config : Entries) × IsConfigFile old.files.files name config × IsCutOff (text config) old.out new.out
OnText text name old new End.StoreFault = Rose old.files.faults new.files.faults × IsUnwritten old.out new.out
OnText text name old new End.Memory = IsUnwritten old.out new.out
OnText text name old new _ = ⊥

-- ---- the whole

-- a replay touches no file
pub record HasReplayed (old new : Ends) (end : End) : Type 0 where
  pub ended : OnReplay old new end
  pub same_files : new.files ≡ old.files

-- a text of a file's configuration reads no input, and changes no file
pub record HasShown (text : Entries → List ℕ) (name : List ℕ) (old new : Ends) (end : End) : Type 0 where
  pub ended : OnText text name old new end
  pub same_input : new.input ≡ old.input
  pub same_files : new.files.files ≡ old.files.files

pub record HasRefusedWords (old new : Ends) (end : End) : Type 0 where
  pub usage : end ≡ End.Usage
  pub same : new ≡ old

-- memory was refused before the words were read
pub record HasGivenUp (old new : Ends) (end : End) : Type 0 where
  pub memory : end ≡ End.Memory
  pub same : new ≡ old

abbrev pub question : Endpoint → Endpoint → Option (List ℕ) → Command → Question
question from to name command = record { from = from; to = to; name = name; command = command }

-- what a configuration decides on a question, or its canonical text where nothing is asked
abbrev pub text_by : Option Question → Entries → List ℕ
text_by None = canonical_text
text_by (Some q) = λ config. decision_text config q

abbrev pub OnWanted : Wanted → Ends → Ends → End → Type 0
OnWanted Wanted.Replay old new end = HasReplayed old new end
OnWanted (Wanted.Check file) old new end = HasShown (text_by None) file old new end
OnWanted (Wanted.Decide file from to name command) old new end = HasShown (text_by (Some (question from to name command))) file old new end

-- words that fit no command are refused
abbrev pub OnAsked : Option Wanted → Ends → Ends → End → Type 0
OnAsked None old new end = HasRefusedWords old new end
OnAsked (Some wanted) old new end = OnWanted wanted old new end

-- the words decide what is run
abbrev pub OnRun : List (String Global) → Ends → Ends → End → Type 0
OnRun words old new end = OnAsked (asked_by words) old new end ⊎ HasGivenUp old new end

-- ---- what is reported

abbrev pub text_fault_text : TextFault → List ℕ
text_fault_text (TextFault.NotAscii line) = codes "not ascii"
text_fault_text (TextFault.NoColon line) = codes "no colon"
text_fault_text (TextFault.UnclosedBlock line) = codes "unclosed block"
text_fault_text (TextFault.StrayBrace line) = codes "stray brace"
text_fault_text TextFault.TooLong = codes "too long"
text_fault_text TextFault.Memory = codes "memory"

abbrev pub conf_kind_text : ConfKind → List ℕ
conf_kind_text ConfKind.UnknownKeyword = codes "unknown keyword"
conf_kind_text ConfKind.BadValue = codes "bad value"
conf_kind_text ConfKind.GssapiRefused = codes "gssapi refused"
conf_kind_text ConfKind.PamRefused = codes "pam refused"
conf_kind_text ConfKind.MethodRefused = codes "method refused"
conf_kind_text ConfKind.InterfaceRefused = codes "interface refused"
conf_kind_text ConfKind.MissingInternal = codes "missing internal"
conf_kind_text ConfKind.ControlNotLoopback = codes "control not loopback"
conf_kind_text ConfKind.TooMany = codes "too many"
conf_kind_text (ConfKind.Text fault) = text_fault_text fault
conf_kind_text ConfKind.Memory = codes "memory"

abbrev pub conf_fault_text : ConfFault → List ℕ
conf_fault_text fault = codes "conf line " ++ (decimal fault.line ++ (codes ": " ++ conf_kind_text fault.kind))

abbrev pub users_kind_text : UsersKind → List ℕ
users_kind_text UsersKind.BadLine = codes "bad line"
users_kind_text UsersKind.Repeated = codes "repeated"
users_kind_text UsersKind.TooMany = codes "too many"
users_kind_text UsersKind.TooLong = codes "too long"
users_kind_text UsersKind.Memory = codes "memory"

abbrev pub users_fault_text : UsersFault → List ℕ
users_fault_text fault = codes "users line " ++ (decimal fault.line ++ (codes ": " ++ users_kind_text fault.kind))

abbrev pub kind_text : ScriptKind → List ℕ
kind_text ScriptKind.Length = codes "length"
kind_text ScriptKind.Header = codes "header"
kind_text (ScriptKind.Conf fault) = conf_fault_text fault
kind_text (ScriptKind.Users fault) = users_fault_text fault
kind_text ScriptKind.NotBuilt = codes "not built"
kind_text ScriptKind.Memory = codes "memory"

abbrev pub fault_text : End → List ℕ
fault_text End.Done = []
fault_text (End.Conf fault) = codes "sockd: " ++ (conf_fault_text fault ++ codes "\n")
fault_text (End.Script fault) = codes "sockd: script line " ++ (decimal fault.line ++ (codes ": " ++ (kind_text fault.kind ++ codes "\n")))
fault_text End.Usage = codes "sockd: usage\n"
fault_text End.InputFault = codes "sockd: fault input\n"
fault_text End.OutputFault = codes "sockd: fault output\n"
fault_text End.StoreFault = codes "sockd: fault store\n"
fault_text End.Memory = codes "sockd: memory\n"

abbrev pub status_of : End → ℕ
status_of End.Done = 0
status_of (End.Conf fault) = 1
status_of (End.Script fault) = 1
status_of End.Usage = 2
status_of End.InputFault = 3
status_of End.OutputFault = 3
status_of End.StoreFault = 3
status_of End.Memory = 4

-- standard error took the text, or a part from its front, and its count of faults rose
abbrev pub Prints : SinkEnd → SinkEnd → List ℕ → Type 0
Prints before now text = (whole : Bool) × Wrote before.told now.told before.faults now.faults text whole

-- a run came to an end, the status is the one of that end, and standard error has its fault text
pub record OnQuick (words : List (String Global)) (old new : Ends) (before now : SinkEnd) (status : ℕ) : Type 0 where
  pub end : End
  pub ran : OnRun words old new end
  pub status_is : status ≡ status_of end
  pub printed : Prints before now (fault_text end)

-- how a run ends whose script was refused
abbrev pub end_of : ScriptFault → ScriptKind → End
end_of fault ScriptKind.Length = End.Script fault
end_of fault ScriptKind.Header = End.Script fault
end_of fault (ScriptKind.Conf refused) = End.Script fault
end_of fault (ScriptKind.Users refused) = End.Script fault
end_of fault ScriptKind.NotBuilt = End.Script fault
end_of fault ScriptKind.Memory = End.Memory

abbrev pub refused_end : ScriptFault → End
refused_end fault = end_of fault fault.kind
