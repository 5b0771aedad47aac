-- Which calls can have failed in a turn, by their kind.
use Rattle.std.specs.Prelude.{◌≡◌, Bool, true, List, All}
use Rattle.socks_machine.specs.declared.record.Record.{Record}
use Rattle.socks_machine.specs.declared.script.CallKind.{CallKind}
use Rattle.socks_machine.specs.declared.world.Object.{Object}
use Rattle.socks_machine.specs.Basis.{Basis}
use Rattle.socks_machine.specs.Phase.{phase}
use Rattle.socks_machine.specs.Turn.{reads_in, has_pending, may_be_shut}

-- a call that failed, and of which kind it was
abbrev pub Failing : Type 0
Failing = Object × CallKind

-- A read fails only on what the phase after all that was taken reads; a write only where something is still pending after the
-- turn; a shut only of a side that may be shut after the turn: the other side ended, and all that is owed was sent.
abbrev pub can_fail : Basis → Record → Record → Failing → Bool
can_fail basis taken left (x, CallKind.Reading) = reads_in taken (phase basis taken) x
can_fail basis taken left (x, CallKind.Writing) = has_pending basis left x
can_fail basis taken left (x, CallKind.Shutting) = may_be_shut basis left x
