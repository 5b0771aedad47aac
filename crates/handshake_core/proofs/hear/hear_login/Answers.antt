use Rattle.std.proofs.Common.{sym, ap, ◌∙◌}
use Rattle.socks_grammar.specs.Grammar.{login}
use Rattle.handshake_core.proofs.Hearing.{login-needs, login-bad-shown, login-fails-shown, login-passes-shown}
use Rattle.handshake_core.proofs.hear.hear_login.Goals as goal

pub returns-in-More : goal.returns-in-More
returns-in-More c = λ methods. login-needs methods c.args.users.now c.args.state.now c.requires (sym (ap (login 0) c.as_slice-bytes.ensures) ∙ c.in-More.ensures)

pub returns-in-Bad : goal.returns-in-Bad
returns-in-Bad c = λ methods.
    login-bad-shown methods c.args.users.now c.args.state.now c.refuse.new.state c.refuse.result c.in-Bad.bad c.as_slice-bytes.result.now c.as_slice.result.now c.write_status.result
    c.requires c.as_slice-bytes.ensures c.as_slice.ensures c.in-Bad.ensures c.write_status.ensures c.refuse.ensures

pub returns-in-None : goal.returns-in-None
returns-in-None c = λ methods.
    login-fails-shown methods c.args.users.now c.args.state.now c.refuse-in-None.new.state c.refuse-in-None.result c.in-Whole.value c.in-Whole.len c.as_slice-bytes.result.now c.write_status-in-None.result
    c.requires c.as_slice-bytes.ensures c.in-Whole.ensures c.in-None.ensures c.write_status-in-None.ensures c.refuse-in-None.ensures

pub returns-in-Some : goal.returns-in-Some
returns-in-Some c = λ methods.
    login-passes-shown methods c.args.users.now c.args.state.now c.in-Whole.value c.in-Whole.len c.as_slice-bytes.result.now c.in-Some.user c.replace-state.result c.replace-state.new.dest c.write_status-in-Some.result
    c.requires c.as_slice-bytes.ensures c.in-Whole.ensures c.in-Some.ensures.0 c.in-Some.ensures.1 c.write_status-in-Some.ensures c.replace-state.ensures.value (c.replace-state.ensures.after ∙ c.empty.ensures)
