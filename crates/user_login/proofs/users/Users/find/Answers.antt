use Rattle.user_login.proofs.Numbers.{within, found}
use Rattle.user_login.proofs.users.Users.find.Goals as goal

pub overflow_sub-result : goal.overflow_sub-result
overflow_sub-result c =
    (within c.args.self.now c.as_slice-users.result.now c.args.name.now c.args.password.now c.in_ok-number.number c.in_ok-number.ensures.number c.as_slice-users.ensures.value).0

pub bounds-users-number : goal.bounds-users-number
bounds-users-number c =
    (within c.args.self.now c.as_slice-users.result.now c.args.name.now c.args.password.now c.in_ok-number.number c.in_ok-number.ensures.number c.as_slice-users.ensures.value).1

pub returns : goal.returns
returns c =
    found c.args.self.now c.as_slice-users.result.now c.args.name.now c.args.password.now c.in_ok-number.number c.index-users-number.result
    c.in_ok-number.ensures.number c.in_ok-number.ensures.fits c.as_slice-users.ensures.value c.index-users-number.is
