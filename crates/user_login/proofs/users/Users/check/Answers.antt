use Rattle.std.proofs.Common.{is_some, sym, ap, ◌∙◌, arith}
use Rattle.user_login.proofs.Numbers.{number-fits, number-none}
use Rattle.user_login.proofs.users.Users.check.Goals as goal

pub returns-clause-number : goal.returns-clause-number
returns-clause-number c = number-none c.args.self.now c.as_slice-users.result.now c.args.name.now c.args.password.now c.loop-i.i
    (sym c.is_empty.ensures ∙ c.if-is_empty.false) (sym c.is_empty-else-is_empty.ensures ∙ c.if-is_empty-2.false) c.as_slice-users.ensures.value (omega arith) c.loop-i.invariant

pub returns-clause-fits : goal.returns-clause-fits
returns-clause-fits c = ap is_some (returns-clause-number c) ∙ number-fits c.args.self.now c.args.name.now c.args.password.now
