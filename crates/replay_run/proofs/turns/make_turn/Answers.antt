use Rattle.std.proofs.Common.{◌≡◌, ◌∙◌, sym, subst, Option, Some, None, is_some, false}
use Rattle.conf_types.specs.declared.entries.Entries.{Entries}
use Rattle.socks_machine.specs.declared.cause.StopBy.{StopBy}
use Rattle.replay_run.specs.Taken.{MakesTurn}
use Rattle.replay_run.proofs.turns.make_turn.Goals as goal

unset : (mark : Option StopBy) → is_some mark ≡ false → mark ≡ None
unset None h = cc
unset (Some by) h = cc

pub returns : goal.returns
returns c =
    subst (λ (k : Entries). MakesTurn c.args.users.now c.args.snap.now.number k c.args.now c.args.desk.now c.turn.new.desk c.args.assoc c.args.net.now c.in_ok-next.next c.turn.new.net) c.deref.ensures
    (record {
      cap = c.in_ok-next.ensures.cap;
      mark = sym c.mark.ensures ∙ unset c.mark.result (sym c.is_some.ensures ∙ c.if-is_some.false);
      turns = c.in_ok-next.ensures.turns;
    })
