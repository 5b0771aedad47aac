use Rattle.std.proofs.Common.{rules}
use Rattle.socks_machine.specs.Socks.{socks}
use Rattle.assoc_core.proofs.ReachEnds.{dialled-down, dialled-up, granted-some, if-ok-more, at-none, up-of}
use Rattle.assoc_core.proofs.reach.reach_target.Goals as goal

pub returns-in_default : goal.returns-in_default
returns-in_default g c = λ users pubs generation config most h marks now opened' granted' rule sought facts verdict route standing since uncaused is.
    absurd (granted-some c.args.assoc.state.decisions opened' rule sought granted' facts verdict route c.granted_to.result (search rules) c.in_default.is is)

pub returns-in-Up : goal.returns-in-Up
returns-in-Up g c = if-ok-more c.greet.result _ _ (λ next h' users pubs generation config most h marks now opened' granted' rule sought facts verdict route standing since uncaused is.
    h' users pubs generation config most h marks (g.N.Net.told c.args.net.now) (g.N.Net.told c.reach.new.net) now c.args.assoc c.in-Up.local
    (dialled-up g.N.Link.Link.told (socks users pubs) (g.N.Net.told c.args.net.now) (g.N.Net.told c.reach.new.net) now c.args.assoc c.in-Some.to c.in-Up.local c.push.new.self c.set_last.new.self opened' granted' rule sought facts verdict route
    (up-of g.N.Link.Link.told g.N.Link.Link.counts (g.N.Net.told c.args.net.now) (g.N.Net.told c.reach.new.net) now c.args.assoc c.in-Some.to c.in-Up.link c.in-Up.local c.push.new.self
    (search rules) c.in_ok-push.ensures.ok c.in-Up.ensures.dial c.in-Up.ensures.lookups) c.set_last.ensures standing since uncaused is)
    (record { fresh = c.in-Up.ensures.fresh; planned = c.in-Up.ensures.dial.link; due' = c.in-Up.ensures.dial.due' })) c.greet.ensures

pub returns-in-Failed : goal.returns-in-Failed
returns-in-Failed g c = if-ok-more c.refuse.result _ _ (λ next h' users pubs generation config most h marks now opened' granted' rule sought facts verdict route standing since uncaused is.
    h' users pubs generation config most h marks (g.N.Net.told c.args.net.now) (g.N.Net.told c.reach.new.net) now c.args.assoc c.in-Failed.ensures.dial.outcome
    (dialled-down g.N.Link.Link.told (socks users pubs) (g.N.Net.told c.args.net.now) (g.N.Net.told c.reach.new.net) now c.args.assoc c.in-Some.to c.push.new.self c.in-Failed.ensures.dial.outcome opened' granted' rule sought facts verdict route
    (record {
      to' = search rules;
      pushed' = c.in_ok-push.ensures.ok;
      dials = c.in-Failed.ensures.dial.dials;
      lookups = c.in-Failed.ensures.lookups;
      planned = c.in-Failed.ensures.dial.planned;
      kept = λ e. c.in-Failed.ensures.kept;
      cause = c.in-Failed.ensures.dial.cause;
    }) (at-none c.in-Failed.ensures.dial.outcome c.in-Failed.cause c.in-Failed.ensures.dial.answer) standing since uncaused is) c.in-Failed.ensures.dial.answer) c.refuse.ensures
