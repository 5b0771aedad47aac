use Rattle.std.proofs.Common.{sym, subst, List, ◌∷◌, take, take_all, drop, ◌+◌}
use Rattle.socks_grammar.specs.declared.user.User.{User}
use Rattle.socks_machine.specs.declared.script.ScriptLine.{ScriptLine}
use Rattle.replay_script.specs.Conditions.{IsServedFrom, after, start}
use Rattle.replay_run.specs.Behind.{IsBehind}
use Rattle.replay_run.proofs.Ending.{is-whole-where}
use Rattle.replay_run.proofs.Foreseeing.{Foresees, foresees-first, foresees-next, has-users}
use Rattle.replay_run.proofs.Forms.{next-foreseen, next-served, next-taken}
use Rattle.replay_run.proofs.state.Replay.play.Goals as goal

pub playing-init : goal.playing-init
playing-init c = record {
  state = start;
  behind = c.requires.first;
  served = c.requires.served;
  foreseen = subst (λ (us : List User). Foresees us start c.args.lines.now) (sym c.requires.users) (foresees-first c.args.lines.now);
}

pub line-requires : goal.line-requires
line-requires c =
    let i = c.playing.invariant in
    let n : IsServedFrom i.state (c.line-item.result ∷ drop (c.playing.line-index + 1) c.args.lines.now) =
    next-served i.state c.args.lines.now c.playing.line-index c.line-item.result c.playing-test.true c.line-item.is i.served in
    record {
      due = record {
        users = c.args.users.now;
        script = c.args.lines.now;
        lines = take c.playing.line-index c.args.lines.now;
        state = i.state;
        form = n.0;
        allowed = n.1;
        behind = i.behind;
      };
    }

pub playing-preserved : goal.playing-preserved
playing-preserved c =
    let i = c.playing.invariant in
    let n : IsServedFrom i.state (c.line-item.result ∷ drop (c.playing.line-index + 1) c.args.lines.now) =
    next-served i.state c.args.lines.now c.playing.line-index c.line-item.result c.playing-test.true c.line-item.is i.served in
    let next : Foresees c.args.users.now (after i.state c.line-item.result) (drop (c.playing.line-index + 1) c.args.lines.now) =
    foresees-next c.args.users.now i.state c.line-item.result (drop (c.playing.line-index + 1) c.args.lines.now) n.0 n.1
    (next-foreseen c.args.users.now i.state c.args.lines.now c.playing.line-index c.line-item.result c.playing-test.true c.line-item.is i.foreseen) in
    record {
      state = after i.state c.line-item.result;
      behind = subst (λ (ls : List ScriptLine). IsBehind c.args.users.now c.args.lines.now ls (after i.state c.line-item.result) c.line.new.self)
          (sym (next-taken c.args.lines.now c.playing.line-index c.line-item.result c.playing-test.true c.line-item.is))
          (c.in_ok-line.ensures c.args.lines.now (take c.playing.line-index c.args.lines.now) i.state n.0 n.1 (has-users c.args.users.now _ _ next n.2) i.behind);
      served = n.2;
      foreseen = next;
    }

pub close-requires : goal.close-requires
close-requires c = (c.playing.invariant).behind.matches.plain

pub returns : goal.returns
returns c =
    let i = c.playing.invariant in
    let all : IsBehind c.args.users.now c.args.lines.now c.args.lines.now i.state c.playing.self =
    subst (λ (ls : List ScriptLine). IsBehind c.args.users.now c.args.lines.now ls i.state c.playing.self)
    (take_all c.playing.line-index c.args.lines.now c.playing-test.false) i.behind in
    is-whole-where c.args.users.now c.args.lines.now c.close.new.self c.as_slice.result.now c.write_ends.new.out c.write_ends.result
    (c.in_ok-close.ensures c.args.lines.now i.state all) c.as_slice.ensures c.write_ends.ensures
