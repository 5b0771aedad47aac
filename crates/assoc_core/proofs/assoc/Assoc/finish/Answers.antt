use Rattle.std.proofs.Common.{Some, true, subst}
use Rattle.socks_machine.specs.declared.lines.CloseLine.{CloseLine}
use Rattle.session_desk.specs.Calls.{Closes}
use Rattle.assoc_core.proofs.assoc.Assoc.finish.Goals as goal

pub returns-clause-closed : goal.returns-clause-closed
returns-clause-closed g c = λ h marks stands tcp. record {
  said = c.close-shut.result;
  closes = subst (λ (line : CloseLine). Closes (g.D.DeskCall.stands c.close-shut.new.self) h marks line c.close-shut.result) (c.line_of-line.ensures tcp) (c.close-shut.ensures.line h marks stands);
  state' = λ i. record (c.end-ended.ensures i).state { cause = Some c.args.cause; at_close = c.cause_of-ended.ensures i; done = true };
  client = λ i. (c.end-ended.ensures i).client;
  target = λ i. (c.end-ended.ensures i).target;
}
