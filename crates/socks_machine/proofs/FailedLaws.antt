-- A turn takes and leaves the same whichever calls its event lists as failed: `fault` and `unwritten` alone count.
use Rattle.std.proofs.Common.{ℕ, ◌≡◌, refl, Option, List}
use Rattle.socks_grammar.specs.declared.protocol.Method.{Method}
use Rattle.socks_machine.specs.declared.record.Record.{Record}
use Rattle.socks_machine.specs.declared.world.TurnEvent.{TurnEvent}
use Rattle.socks_machine.specs.Basis.{Basis}
use Rattle.socks_machine.specs.Calls.{Context}
use Rattle.socks_machine.specs.FailedCalls.{Failing}
use Rattle.socks_machine.specs.Taking.{taken}
use Rattle.socks_machine.specs.Turn.{turn}

pub taken-with-failed : (basis : Basis) (generation : ℕ) (methods : List Method) (ev : TurnEvent) (failed : List Failing) (r : Record) → taken basis generation methods (record ev { failed = failed }) r ≡ taken basis generation methods ev r
taken-with-failed basis generation methods ev failed r = refl

pub turn-with-failed : (s : Context) (ev : TurnEvent) (failed : List Failing) (r : Record) → turn s (record ev { failed = failed }) r ≡ turn s ev r
turn-with-failed s ev failed r = refl
