use Rattle.std.proofs.Common.{◌≡◌, refl, sym, ap, ◌∙◌, [], None}
use Rattle.assoc_core.specs.Course.{course_of}
use Rattle.assoc_core.proofs.Courses.{if-ok, if-ok-same, over-desk, at-accept, at-talk, at-judge, at-reach, at-relay}
use Rattle.assoc_core.proofs.one_turn.turn_in_time.Goals as goal

pub closing-requires : goal.closing-requires
closing-requires g c = c.in-Some.is

pub returns-in-Some-clause-cap : goal.returns-in-Some-clause-cap
returns-in-Some-clause-cap g c = c.closing.ensures.cap

pub returns-in-Some-clause-turns : goal.returns-in-Some-clause-turns
returns-in-Some-clause-turns g c = if-ok c.closing.result _ _ (λ next f pubs h marks stood stands tells published plain.
    f c.args.users.now pubs c.args.generation c.args.config.now c.args.a.state.since (g.N.Net.told c.args.net.now) h marks stood stands refl) c.closing.ensures.turns

pub returns-in-Accept-clause-turns : goal.returns-in-Accept-clause-turns
returns-in-Accept-clause-turns g c =
    if-ok c.accept.result _ _ (λ next f pubs h marks stood stands tells published plain.
    let ds : c.args.a.state.decisions ≡ [] = at-accept c.args.users.now c.args.a.state c.args.a.state.decisions stands.plain.decided (ap course_of (sym c.as_slice.ensures) ∙ sym c.in-Accept.ensures) in
    f c.args.users.now pubs h marks (g.N.Net.told c.args.net.now) c.args.a.state.since stood stands tells refl ds) c.accept.ensures.turns

pub returns-in-Accept-clause-cap : goal.returns-in-Accept-clause-cap
returns-in-Accept-clause-cap g c = if-ok-same c.accept.result _ c.accept.ensures.cap

pub returns-in-Talk-clause-cap : goal.returns-in-Talk-clause-cap
returns-in-Talk-clause-cap g c = c.talk.ensures.cap

pub returns-in-Reach-clause-cap : goal.returns-in-Reach-clause-cap
returns-in-Reach-clause-cap g c = if-ok-same c.reach_target.result _ refl

pub returns-in-Relay-clause-cap : goal.returns-in-Relay-clause-cap
returns-in-Relay-clause-cap g c = c.relay.ensures.cap

pub returns-in-Talk-clause-turns : goal.returns-in-Talk-clause-turns
returns-in-Talk-clause-turns g c =
    let none : c.args.a.state.cause ≡ None = c.in_default.is in
    if-ok c.talk.result _ _ (λ next f pubs h marks stood stands tells published plain.
    let k = at-talk c.args.users.now c.args.a.state c.args.a.state.decisions stands.plain.decided (ap course_of (sym c.as_slice.ensures) ∙ sym c.in-Talk.ensures) in
    f pubs h marks c.args.a.state.since k.0 k.1.0 stood stands tells published plain refl none k.1.1) c.talk.ensures.turns

pub returns-in-Reach-clause-turns : goal.returns-in-Reach-clause-turns
returns-in-Reach-clause-turns g c =
    let none : c.args.a.state.cause ≡ None = c.in_default.is in
    if-ok c.reach_target.result _ _ (λ next f pubs h marks stood stands tells published plain.
    let k = at-reach c.args.users.now c.args.a.state c.args.a.state.decisions stands.plain.decided none (ap course_of (sym c.as_slice.ensures) ∙ sym c.in-Reach.ensures) in
    over-desk g.N.Link.Link.told g.N.Link.Link.counts (g.K.DeskCall.stands c.args.desk.now) h marks _ c.args.a.state.since _ _ c.args.a next stood
    (f c.args.users.now pubs c.args.generation c.args.config.now (g.K.DeskCall.cap c.args.desk.now) h marks c.args.a.state.since k.g k.g' k.rule k.sought k.facts k.verdict k.route stands refl none k.is)) c.reach_target.ensures

pub returns-in-Relay-clause-turns : goal.returns-in-Relay-clause-turns
returns-in-Relay-clause-turns g c =
    let none : c.args.a.state.cause ≡ None = c.in_default.is in
    if-ok c.relay.result _ _ (λ next f pubs h marks stood stands tells published plain.
    let k = at-relay c.args.users.now c.args.a.state c.args.a.state.decisions stands.plain.decided none (ap course_of (sym c.as_slice.ensures) ∙ sym c.in-Relay.ensures) in
    f c.args.users.now pubs c.args.generation c.args.config.now c.args.a.state.since (g.N.Net.told c.args.net.now) h marks k.0 stood stands refl k.1 none) c.relay.ensures.turns

pub returns-in-Judge-clause-cap : goal.returns-in-Judge-clause-cap
returns-in-Judge-clause-cap g c = c.judge.ensures.cap

pub returns-in-Judge-clause-turns : goal.returns-in-Judge-clause-turns
returns-in-Judge-clause-turns g c =
    let none : c.args.a.state.cause ≡ None = c.in_default.is in
    if-ok c.judge.result _ _ (λ next f pubs h marks stood stands tells published plain.
    let k = at-judge c.args.users.now c.args.a.state c.args.a.state.decisions stands.plain.decided none (ap course_of (sym c.as_slice.ensures) ∙ sym c.in-Judge.ensures) in
    f pubs h marks (g.N.Net.told c.args.net.now) c.args.a.state.since k.g k.rule k.sought stood stands tells published plain refl none k.is) c.judge.ensures.turns
