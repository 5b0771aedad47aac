use Rattle.std.proofs.Common.{◌∙◌, sym, ap, subst, List, []}
use Rattle.socks_grammar.specs.declared.user.User.{User}
use Rattle.socks_machine.specs.declared.script.ScriptLine.{ScriptLine}
use Rattle.socks_machine.specs.declared.world.World.{World}
use Rattle.socks_machine.specs.Follows.{IsReplay, opens_of, users_of}
use Rattle.replay_script.specs.Conditions.{IsServed, start}
use Rattle.replay_run.specs.Behind.{IsBehind}
use Rattle.replay_run.proofs.play.replay.Goals as goal

pub users_of-requires : goal.users_of-requires
users_of-requires c = record { served = subst IsServed (sym c.as_slice.ensures) c.requires.served }

pub play-requires-clause-served : goal.play-requires-clause-served
play-requires-clause-served c = subst IsServed (sym c.as_slice-3.ensures) c.requires.served

pub play-requires-clause-users : goal.play-requires-clause-users
play-requires-clause-users c = c.in_ok-users.ensures ∙ ap users_of (c.as_slice.ensures ∙ sym c.as_slice-3.ensures)

pub play-requires-clause-first : goal.play-requires-clause-first
play-requires-clause-first c =
    subst (λ (ls : List ScriptLine). IsBehind c.in_ok-users.users ls [] start c.in_ok-replay.replay) (sym c.as_slice-3.ensures)
    (subst (λ (us : List User). IsBehind us c.args.script.now [] start c.in_ok-replay.replay) (sym (c.in_ok-users.ensures ∙ ap users_of c.as_slice.ensures))
    (c.in_ok-replay.ensures c.args.script.now c.requires.served (c.opens_of.ensures ∙ ap opens_of c.as_slice-2.ensures)))

pub returns : goal.returns
returns c = record {
  played = subst (λ (ls : List ScriptLine). (world : World) × IsReplay ls world c.play.new.self.out) c.as_slice-3.ensures c.in-Ok.ensures;
}
