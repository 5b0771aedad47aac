-- Which cause a record fixes by itself, by what was taken and sent so far.
use Rattle.std.specs.Prelude.{ℕ, Bool, true, false, ◌&&◌, if◌then◌else◌, Option, Some, None, List, [], ◌∷◌, length}
use Rattle.addr_pattern.specs.declared.front.BadKind.{BadKind}
use Rattle.socks_machine.specs.declared.cause.Cause.{Cause}
use Rattle.socks_machine.specs.declared.record.Record.{Record}
use Rattle.socks_grammar.specs.Dialogue.{Outcome}
use Rattle.socks_grammar.specs.Handshake.{Split}
use Rattle.socks_machine.specs.Owed.{pending_to_client, pending_to_target}
use Rattle.socks_machine.specs.Basis.{Basis}
use Rattle.socks_machine.specs.Phase.{Phase, phase}
use Rattle.socks_machine.specs.View.{split_of, dialogue_of}

abbrev pub is_nothing : List ℕ → Bool
is_nothing [] = true
is_nothing (b ∷ bs) = false

abbrev pub bad_cause : ℕ → ℕ → BadKind → Cause
bad_cause at byte BadKind.Version = Cause.BadVersion at byte
bad_cause at byte BadKind.Command = Cause.CommandUnsupported at byte
bad_cause at byte BadKind.Atyp = Cause.AtypUnsupported at byte
bad_cause at byte BadKind.Field = Cause.BadRequest at byte

abbrev pub gone : Record → Option Cause
gone r = if r.end_c then Some (Cause.ClientGone (length r.c)) else None

abbrev pub cause_of_split : Record → Split → Option Cause
cause_of_split r (Split.Bad at byte kind) = Some (bad_cause at byte kind)
cause_of_split r Split.NoMethod = Some Cause.NoMethod
cause_of_split r Split.LoginFailed = Some Cause.LoginFailed
cause_of_split r Split.More = gone r
cause_of_split r (Split.Whole request n) = None

abbrev pub cause_of_dialogue : Record → Option Outcome → Option Cause
cause_of_dialogue r (Some (Outcome.Refused stage code)) = Some (Cause.Upstream stage code)
cause_of_dialogue r (Some (Outcome.Bad at byte)) = Some (Cause.UpstreamBad at (Some byte))
cause_of_dialogue r (Some Outcome.More) = if r.end_t then Some (Cause.UpstreamBad (length r.t) None) else None
cause_of_dialogue r _ = None

-- both sides ended, all owed was sent, and both are shut
abbrev pub is_finished : Basis → Record → Bool
is_finished basis r =
    r.end_c && r.end_t && r.shut_c && r.shut_t && is_nothing (pending_to_client basis r) && is_nothing (pending_to_target basis r)

abbrev pub cause_in : Basis → Record → Phase → Option Cause
cause_in basis r Phase.Talk = cause_of_split r (split_of basis r)
cause_in basis r Phase.Asking = cause_of_dialogue r (dialogue_of basis r)
cause_in basis r (Phase.Door g) = gone r
cause_in basis r Phase.Relay = if is_finished basis r then Some Cause.Finished else None
cause_in basis r Phase.Datagrams = if r.end_c then Some Cause.Finished else None
cause_in basis r _ = None

-- the first cause stands: the new one is fixed where there was none
abbrev pub first_cause : Option Cause → Option Cause → Option Cause
first_cause None stands = stands
first_cause (Some cause) None = Some cause
first_cause (Some cause) (Some stands) = Some stands

abbrev pub fix : Option Cause → Record → Record
fix cause r = record r { cause = first_cause cause r.cause }

-- the record with the cause that it fixes by itself
abbrev pub settled : Basis → Record → Record
settled basis r = fix (cause_in basis r (phase basis r)) r
