use Rattle.std.proofs.Common.{◌∙◌, arith}
use Rattle.user_login.proofs.Lines.{cut-shorter, lines-more, wrong-line, wrong-last, all-lines}
use Rattle.user_login.proofs.users.read_lines.Goals as goal

pub lines-preserved : goal.lines-preserved
lines-preserved c =
    let less = cut-shorter c.lines.rest.now c.in-Some.front.now c.in-Some.behind.now c.in-Some.ensures.spelled in
    let room = c.lines.invariant.room in
    record {
      so_far = c.lines.invariant.so_far ∙ lines-more c.lines.line c.lines.users c.add_numbered.new.users c.lines.rest.now c.in-Some.front.now c.in-Some.behind.now c.in-Some.ensures.spelled c.in_ok-add_numbered.ensures;
      room = omega (arith, less, room);
    }

pub returns-in_err-add_numbered : goal.returns-in_err-add_numbered
returns-in_err-add_numbered c =
    wrong-line c.args.text.now c.lines.line c.lines.users c.add_numbered.new.users c.in_err-add_numbered.field-0.0 c.lines.rest.now c.in-Some.front.now c.in-Some.behind.now c.from_residual.result
    c.requires c.lines.invariant.so_far c.in-Some.ensures.spelled c.in_err-add_numbered.ensures c.from_residual.ensures.1

pub returns-in_err-add_numbered-2 : goal.returns-in_err-add_numbered-2
returns-in_err-add_numbered-2 c =
    wrong-last c.args.text.now c.lines.line c.lines.users c.add_numbered-2.new.users c.in_err-add_numbered-2.field-0.0 c.lines.rest.now c.from_residual-in_err-add_numbered-2.result
    c.requires c.lines.invariant.so_far c.in_default.ensures.spelled c.in_err-add_numbered-2.ensures c.from_residual-in_err-add_numbered-2.ensures.1

pub returns : goal.returns
returns c = all-lines c.args.text.now c.lines.line c.lines.users c.add_numbered-2.new.users c.lines.rest.now c.requires c.lines.invariant.so_far c.in_default.ensures.spelled c.in_ok-add_numbered-2.ensures
