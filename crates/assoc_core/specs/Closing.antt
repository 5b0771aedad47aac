-- The close of an association.
use Rattle.std.specs.Prelude.{◌≡◌, true, Some, List}
use Rattle.socks_machine.specs.declared.cause.Cause.{Cause}
use Rattle.socks_machine.specs.declared.cause.StopBy.{StopBy}
use Rattle.socks_machine.specs.declared.lines.Line.{Line}
use Rattle.socks_machine.specs.declared.lines.Shut.{Shut}
use Rattle.socks_machine.specs.Calls.{close_line, cause_of_shut}
use Rattle.session_desk.specs.Calls.{Closes}
use Rattle.assoc_core.specs.declared.assoc.Assoc.{Assoc}
use Rattle.assoc_core.specs.declared.assoc.Ended.{Ended}

-- it has ended by what the desk said to its close, and holds the links that it held
pub record Closed {L : Type 0} (stands : List Line → List StopBy → Type 0) (h : List Line) (marks : List StopBy) (cause : Cause) (old : Assoc L) (new : Ended L) : Type 0 where
  pub said : Shut
  pub closes : Closes stands h marks (close_line old.state cause) said
  pub state' : new.state ≡ record old.state { cause = Some cause; at_close = cause_of_shut said; done = true }
  pub client : new.client ≡ old.client
  pub target : new.target ≡ old.target
