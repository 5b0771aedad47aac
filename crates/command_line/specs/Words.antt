-- What words ask for.
use Rattle.std.specs.Prelude.{ℕ, Bool, true, false, not, ◌&&◌, if◌then◌else◌, Result, Ok, Err, Option, Some, None, is_some, option_and_then, option_map, List, [], ◌∷◌, codes, bytes_eq}
use Rattle.addr_pattern.specs.declared.endpoint.Endpoint.{Endpoint}
use Rattle.addr_pattern.specs.declared.fault.AddrFault.{AddrFault}
use Rattle.addr_pattern.specs.Cuts.{last_cut}
use Rattle.addr_pattern.specs.Names.{name_of}
use Rattle.addr_pattern.specs.Reading.{endpoint_read}
use Rattle.clap.specs.Words.{Row, first_of}
use Rattle.socks_grammar.specs.declared.protocol.Command.{Command}
use Rattle.command_line.specs.declared.asked.Invocation.{Invocation}
use Rattle.command_line.specs.declared.destination.Destination.{Destination}
use Rattle.command_line.specs.Table.{check_app, decide_app, replay_app, taken}

-- ---- what is asked for

pub data Wanted : Type 0 where
  Check : List ℕ → Wanted
  Decide : List ℕ → Endpoint → Endpoint → Option (List ℕ) → Command → Wanted
  Replay : Wanted

abbrev pub wanted : Invocation → Wanted
wanted (Invocation.Check file) = Wanted.Check file.now
wanted (Invocation.Decide file from to name command) = Wanted.Decide file.now from to name command
wanted Invocation.Replay = Wanted.Replay

-- ---- single words

abbrev pub plain_at : Result Endpoint AddrFault → Option Destination
plain_at (Ok to) = Some (record { to = to; name = None })
plain_at (Err fault) = None

abbrev pub named_at : Result (List ℕ) AddrFault → Result Endpoint AddrFault → Option Destination
named_at (Ok name) (Ok to) = Some (record { to = to; name = Some name })
named_at (Ok name) (Err fault) = None
named_at (Err fault) to = None

abbrev pub cut_destination : List ℕ → Option (List ℕ × List ℕ) → Option Destination
cut_destination word None = plain_at (endpoint_read word)
cut_destination word (Some x) = named_at (name_of x.0) (endpoint_read x.1)

-- an endpoint, or a name, `@` and an endpoint
abbrev pub destination_of : List ℕ → Option Destination
destination_of word = cut_destination word (last_cut 64 word)

abbrev pub command_of : List ℕ → Option Command
command_of word =
    if bytes_eq word (codes "connect") then Some Command.Connect
    else (if bytes_eq word (codes "bind") then Some Command.Bind
    else (if bytes_eq word (codes "udpassociate") then Some Command.UdpAssociate
    else (if bytes_eq word (codes "bindreply") then Some Command.BindReply
    else (if bytes_eq word (codes "udpreply") then Some Command.UdpReply else None))))

-- a reply goes to the client, which has no name
abbrev pub takes_name : Command → Bool
takes_name Command.Connect = true
takes_name Command.Bind = true
takes_name Command.UdpAssociate = true
takes_name Command.BindReply = false
takes_name Command.UdpReply = false

-- ---- the arguments of each command

abbrev pub checked : List Row → Option Wanted
checked rows = option_map Wanted.Check (first_of (codes "file") rows)

abbrev pub wanted_parts : List ℕ → Result Endpoint AddrFault → Option Destination → Option Command → Option Wanted
wanted_parts file (Err fault) destination command = None
wanted_parts file (Ok from) None command = None
wanted_parts file (Ok from) (Some d) None = None
wanted_parts file (Ok from) (Some d) (Some command) =
    if is_some d.name && not (takes_name command) then None else Some (Wanted.Decide file from d.to d.name command)

-- a file, an endpoint, a destination and a command
abbrev pub wanted_words : List ℕ → List ℕ → List ℕ → List ℕ → Option Wanted
wanted_words file from to command = wanted_parts file (endpoint_read from) (destination_of to) (command_of command)

abbrev pub wanted_values : Option (List ℕ) → Option (List ℕ) → Option (List ℕ) → Option (List ℕ) → Option Wanted
wanted_values None from to command = None
wanted_values (Some file) None to command = None
wanted_values (Some file) (Some from) None command = None
wanted_values (Some file) (Some from) (Some to) None = None
wanted_values (Some file) (Some from) (Some to) (Some command) = wanted_words file from to command

abbrev pub decided : List Row → Option Wanted
decided rows =
    wanted_values (first_of (codes "file") rows) (first_of (codes "from") rows) (first_of (codes "to") rows) (first_of (codes "command") rows)

abbrev pub check_of : List (List ℕ) → Option Wanted
check_of words = option_and_then checked (taken check_app words)

abbrev pub decide_of : List (List ℕ) → Option Wanted
decide_of words = option_and_then decided (taken decide_app words)

abbrev pub replay_of : List (List ℕ) → Option Wanted
replay_of words = option_and_then (λ (rows : List Row). Some Wanted.Replay) (taken replay_app words)

-- the first word is the command, and the others are its arguments
abbrev pub asked_of : List (List ℕ) → Option Wanted
asked_of [] = None
asked_of (command ∷ words) =
    if bytes_eq command (codes "check") then check_of words
    else (if bytes_eq command (codes "decide") then decide_of words
    else (if bytes_eq command (codes "replay") then replay_of words else None))
