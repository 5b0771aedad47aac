use Rattle.std.proofs.Common.{rules}
use Rattle.handshake_core.proofs.Taking.{at-start, at-next, at-request, at-refusal}
use Rattle.handshake_core.proofs.handshake.Handshake.feed_all.Goals as goal

pub taking-init : goal.taking-init
taking-init c = at-start c.args.methods.now c.args.users.now c.self.inside.state c.args.self.now c.args.input.now c.self.invariant.0 c.self.view_is c.requires

pub taking-preserved : goal.taking-preserved
taking-preserved c =
    at-next c.args.methods.now c.args.users.now c.args.self.now c.args.input.now c.taking.rest.now c.split_at.result.1.now c.taking.self c.feed-count.new.self c.feed-count.result.0 c.feed-count.result.1 c.taking.invariant c.feed-count.ensures
    c.split_at.ensures.back (search rules)

pub taking-preserved-in-Need : goal.taking-preserved-in-Need
taking-preserved-in-Need c =
    at-next c.args.methods.now c.args.users.now c.args.self.now c.args.input.now c.taking.rest.now c.split_at.result.1.now c.taking.self c.feed-count.new.self c.feed-count.result.0 c.feed-count.result.1 c.taking.invariant c.feed-count.ensures
    c.split_at.ensures.back (search rules)

pub returns-in-Ask : goal.returns-in-Ask
returns-in-Ask c =
    at-request c.args.methods.now c.args.users.now c.args.self.now c.args.input.now c.taking.rest.now c.taking.self c.feed-count.new.self c.feed-count.result.0 c.in-Ask.request c.taking.invariant (search rules)

pub returns-in-Bad : goal.returns-in-Bad
returns-in-Bad c =
    at-refusal c.args.methods.now c.args.users.now c.args.self.now c.args.input.now c.taking.rest.now c.taking.self c.feed-count.new.self c.feed-count.result.0 c.in-Bad.cause c.in-Bad.say c.taking.invariant (search rules)
