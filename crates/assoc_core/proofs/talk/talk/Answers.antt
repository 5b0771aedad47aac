use Rattle.std.proofs.Common.{rules, None, ap}
use Rattle.assoc_core.specs.declared.hear.Heard.{Heard}
use Rattle.socks_machine.specs.Calls.{name_of}
use Rattle.assoc_core.proofs.Courses.{if-ok, over-desk}
use Rattle.assoc_core.proofs.Hearings.{heard-of}
use Rattle.assoc_core.proofs.HeardTurns.{reads-fail}
use Rattle.assoc_core.proofs.talk.talk.Goals as goal

pub returns-in-Addr-clause-turns : goal.returns-in-Addr-clause-turns
returns-in-Addr-clause-turns g c = if-ok c.grant.result _ _ (λ next f pubs h marks now generation' rule desk standing tells published plain since uncaused opens.
    f c.args.users.now pubs h marks (g.N.Net.told c.args.net.now) now c.args.a None desk
    (heard-of g.N.Link.Link.told g.N.Link.Link.counts c.args.users.now pubs c.args.generation c.args.config.now c.args.a c.hear.new.link c.hear.new.text c.in_ok-heard.method c.choose-a.result (Heard.Asked c.in-Asked.request) generation' rule
    standing tells published plain uncaused opens (search rules) (search rules) (search rules) (search rules))
    (ap name_of c.in-Addr.is) since) c.grant.ensures.turns

pub returns-in-Name-clause-turns : goal.returns-in-Name-clause-turns
returns-in-Name-clause-turns g c = if-ok c.seek.result _ _ (λ next f pubs h marks now generation' rule desk standing tells published plain since uncaused opens.
    over-desk g.N.Link.Link.told g.N.Link.Link.counts (g.K.DeskCall.stands c.args.desk.now) h marks _ now _ _ c.args.a next desk
    (f c.args.users.now pubs c.args.generation c.args.config.now (g.K.DeskCall.cap c.args.desk.now) h marks now c.args.a c.in-Asked.request
    (heard-of g.N.Link.Link.told g.N.Link.Link.counts c.args.users.now pubs c.args.generation c.args.config.now c.args.a c.hear.new.link c.hear.new.text c.in_ok-heard.method c.choose-a.result (Heard.Asked c.in-Asked.request) generation' rule
    standing tells published plain uncaused opens (search rules) (search rules) (search rules) (search rules))
    c.in-Name.is since)) c.seek.ensures

pub returns-in-Refused-clause-turns : goal.returns-in-Refused-clause-turns
returns-in-Refused-clause-turns g c = if-ok c.turn_away.result _ _ (λ next f pubs h marks now generation' rule desk standing tells published plain since uncaused opens.
    f c.args.users.now pubs c.args.generation c.args.config.now h marks (g.N.Net.told c.args.net.now) now c.args.a desk
    (heard-of g.N.Link.Link.told g.N.Link.Link.counts c.args.users.now pubs c.args.generation c.args.config.now c.args.a c.hear.new.link c.hear.new.text c.in_ok-heard.method c.choose-a.result (Heard.Refused c.in-Refused.cause) generation' rule
    standing tells published plain uncaused opens (search rules) (search rules) (search rules) (search rules))
    since) c.turn_away.ensures.turns

pub returns-in-End-clause-turns : goal.returns-in-End-clause-turns
returns-in-End-clause-turns g c = λ pubs h marks now generation' rule desk standing tells published plain since uncaused opens.
    c.hang_up.ensures.turns c.args.users.now pubs c.args.generation c.args.config.now h marks (g.N.Net.told c.args.net.now) now c.args.a desk
    (heard-of g.N.Link.Link.told g.N.Link.Link.counts c.args.users.now pubs c.args.generation c.args.config.now c.args.a c.hear.new.link c.hear.new.text c.in_ok-heard.method c.choose-a.result (Heard.End) generation' rule
    standing tells published plain uncaused opens (search rules) (search rules) (search rules) (search rules))
    since

pub returns-in-NotYet-clause-turns : goal.returns-in-NotYet-clause-turns
returns-in-NotYet-clause-turns g c = if-ok c.answer.result _ _ (λ next f pubs h marks now generation' rule desk standing tells published plain since uncaused opens.
    f c.args.users.now pubs c.args.generation c.args.config.now h marks (g.N.Net.told c.args.net.now) now c.args.a desk
    (heard-of g.N.Link.Link.told g.N.Link.Link.counts c.args.users.now pubs c.args.generation c.args.config.now c.args.a c.hear.new.link c.hear.new.text c.in_ok-heard.method c.choose-a.result (Heard.NotYet) generation' rule
    standing tells published plain uncaused opens (search rules) (search rules) (search rules) (search rules))
    since) c.answer.ensures.turns

pub returns-in-Failed-clause-turns : goal.returns-in-Failed-clause-turns
returns-in-Failed-clause-turns g c = λ pubs h marks now generation' rule desk standing tells published plain since uncaused opens.
    reads-fail g.N.Link.Link.told g.N.Link.Link.counts (g.K.DeskCall.stands c.finish.new.desk) c.args.users.now pubs c.args.generation c.args.config.now (g.K.DeskCall.cap c.args.desk.now) h marks now (g.N.Net.told c.args.net.now) c.args.a
    (record {
      state = (let r = c.args.a.state in record r { c = c.hear.new.text; chosen = c.choose-a.result });
      client = c.hear.new.link;
      target = c.args.a.target;
    })
    c.finish.result
    (heard-of g.N.Link.Link.told g.N.Link.Link.counts c.args.users.now pubs c.args.generation c.args.config.now c.args.a c.hear.new.link c.hear.new.text c.in_ok-heard.method c.choose-a.result (Heard.Failed) generation' rule
    standing tells published plain uncaused opens (search rules) (search rules) (search rules) (search rules))
    since (c.finish.ensures.closed h marks desk)
