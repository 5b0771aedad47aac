-- What a client says until its prelude is whole or refused.
use Rattle.std.specs.Prelude.{ℕ, ◌≡◌, ◌<◌, Bool, true, false, ◌||◌, Option, Some, None, List, [], ◌∷◌, ◌++◌, length, is_some}
use Rattle.conf_types.specs.declared.entries.Entries.{Entries}
use Rattle.socks_grammar.specs.declared.protocol.Method.{Method}
use Rattle.socks_grammar.specs.Handshake.{Split}
use Rattle.conf_types.specs.Plain.{IsPlain}
use Rattle.handshake_core.specs.Answers.{request_in}
use Rattle.handshake_core.specs.Taking.{refusal_of}
use Rattle.net_ends.specs.Counts.{Counts, Later, Rose}
use Rattle.net_ends.specs.Faults.{Tried}
use Rattle.net_ends.specs.declared.kinds.Kind.{Kind}
use Rattle.net_ends.specs.Told.{Told, Arrival, more}
use Rattle.rule_list.specs.Rules.{numbered}
use Rattle.socks_machine.specs.declared.record.Chosen.{Chosen}
use Rattle.socks_machine.specs.declared.record.Decision.{Decision}
use Rattle.socks_machine.specs.Basis.{Basis}
use Rattle.socks_machine.specs.Taking.{with_client_bytes}
use Rattle.socks_machine.specs.Turn.{quantum}
use Rattle.assoc_core.specs.declared.assoc.Assoc.{Assoc}
use Rattle.assoc_core.specs.declared.hear.Heard.{Heard}
use Rattle.assoc_core.specs.Plain.{Sought, behind_lookup, split_in, method_alone}
use Rattle.assoc_core.specs.Stands.{Stands, TellsServed, GivesFirst}
use Rattle.assoc_core.specs.Turns.{IsIdle}

abbrev pub is_end : Heard → Bool
is_end Heard.End = true
is_end _ = false

abbrev pub is_idle : Heard → Bool
is_idle Heard.NotYet = true
is_idle _ = false

-- the kind of the call that failed
abbrev pub failed_hearing : Heard → Option Kind
failed_hearing Heard.Failed = Some Kind.Read
failed_hearing _ = None

-- its end stands behind all that arrived
abbrev pub IsAtEnd : Told → Type 0
IsAtEnd told = (arrival : Arrival) (given : List ℕ) → told.arrived ≡ Some arrival → told.given ≡ Some given → (given ≡ arrival.bytes) × (arrival.ends ≡ true)

-- why nothing more was read
abbrev pub HearingEnds : Told → Counts → Counts → Heard → Type 0
HearingEnds told counts counts' (Heard.Asked request) = Unit {0}
HearingEnds told counts counts' (Heard.Refused cause) = Unit {0}
HearingEnds told counts counts' Heard.End = IsAtEnd told
HearingEnds told counts counts' Heard.NotYet = IsIdle told × Rose counts.idle_reads counts'.idle_reads
HearingEnds told counts counts' Heard.Failed = (told.unfailing ≡ false) × Rose counts.faults counts'.faults

-- what the whole input then is
abbrev pub HeardAs : Split → Heard → Type 0
HeardAs split (Heard.Asked request) = split ≡ Split.Whole (request_in request) request.len
HeardAs split (Heard.Refused cause) = refusal_of split ≡ Some cause
HeardAs split _ = split ≡ Split.More

-- the bytes that came, and why no more did
pub record Hears (old new : Told) (counts counts' : Counts) (before after : List ℕ) (heard : Heard) : Type 0 where
  pub bytes : List ℕ
  pub after' : after ≡ before ++ bytes
  pub few : length bytes < quantum
  pub told' : new ≡ record old { given = more old.given bytes; ended = is_end heard || old.ended }
  pub first : GivesFirst old → GivesFirst new
  pub later : Later counts counts'
  pub tried : Tried counts counts' ((after ≡ before) × (is_end heard ≡ false) × (is_idle heard ≡ false)) (Unit {0}) (Unit {0}) (failed_hearing heard)
  pub ends : HearingEnds new counts counts' heard

-- b is a with what was heard of its client, which was let in and had no cause; nothing is heard where its name was looked up
pub record HasHeard {L : Type 0} (told : L → Told) (counts : L → Counts) (basis : Basis) (generation : ℕ) (config : Entries) (a b : Assoc L) (sought : Option Sought) (heard : Heard) : Type 0 where
  pub stands : Stands told basis a
  pub served : TellsServed basis.users (told a.client)
  pub published : numbered basis.pubs generation ≡ Some config
  pub plain : IsPlain config
  pub generation' : ℕ
  pub rule : Option ℕ
  pub opened' : (a.state).decisions ≡ Decision.Opened generation' rule None ∷ behind_lookup sought []
  pub uncaused : (a.state).cause ≡ None
  pub hears : Hears (told a.client) (told b.client) (counts a.client) (counts b.client) (a.state).c (b.state).c heard
  pub quiet : is_some sought ≡ true → hears.bytes ≡ []
  pub state' : b.state ≡ with_client_bytes generation config.methods hears.bytes a.state
  pub heard' : HeardAs (split_in basis.users b.state) heard
  pub target' : b.target ≡ a.target

-- the method that is answered with the greeting's last byte, unless one was
abbrev pub chosen_as : ℕ → Option Chosen → Option ℕ → Option Chosen
chosen_as generation (Some chosen) method = Some chosen
chosen_as generation None None = None
chosen_as generation None (Some method) = Some (record { generation = generation; method = method })

-- the methods by which a greeting is answered: the one that was, or the server's
abbrev pub methods_by : Option Chosen → List Method → List Method
methods_by None methods = methods
methods_by (Some chosen) methods = method_alone chosen.method
