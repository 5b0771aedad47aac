use Rattle.std.proofs.Common.{refl, sym, ap, ◌∙◌, Some, option_map}
use Rattle.socks_machine.specs.declared.cause.Cause.{Cause}
use Rattle.socks_machine.specs.declared.world.Object.{Object}
use Rattle.assoc_core.specs.declared.assoc.Assoc.{Assoc}
use Rattle.assoc_core.specs.declared.relay.Side.{Side}
use Rattle.assoc_core.specs.Carrying.{object_of}
use Rattle.assoc_core.specs.Closing.{Closed}
use Rattle.assoc_core.proofs.RelayAnswers.{relay-again, relay-waits, relay-finishes, fault-closes, fault-waits, fault-again, done-turn, mid-tcp, none-written, not-both, both-shut, over-due, over-written, client-closes, there-is}
use Rattle.assoc_core.proofs.assoc.Assoc.relay.Goals as goal

pub returns-in_default-clause-turns : goal.returns-in_default-clause-turns
returns-in_default-clause-turns g c = λ users pubs generation config now net h marks at desked stands same reaches uncaused.
    absurd (there-is g.L.Link.told c.args.self.state c.args.self.target at stands.target c.in_default.is reaches)

pub returns-then-is_shut-clause-turns : goal.returns-then-is_shut-clause-turns
returns-then-is_shut-clause-turns g c = λ users pubs generation config now net h marks at desked stands same reaches uncaused.
    let mid : Assoc g.row.L.Denot = record { state = c.carry_both.new.state; client = c.carry_both.new.client; target = Some c.carry_both.new.target } in
    let closed : Closed (g.D.DeskCall.stands c.finish.new.desk) h marks Cause.Finished mid c.finish.result = c.finish.ensures.closed h marks desked (mid-tcp users c.args.self.state mid.state _ _ _ _ _ _ _ _ c.in_ok-pass.pass stands.plain c.in_ok-pass.ensures) in
    let none = sym c.fault_of.ensures ∙ ap (option_map object_of) c.in-None.is in
    let shut = both-shut c.carry_both.new.state.shut_c c.carry_both.new.state.shut_t (sym c.is_shut.ensures ∙ c.if-is_shut.true) in
    relay-finishes g.L.Link.told g.L.Link.counts (g.D.DeskCall.stands c.finish.new.desk) users pubs generation config (g.D.DeskCall.cap c.args.desk.now) h marks now net c.args.self mid c.finish.result c.in_ok-pass.pass
    (done-turn g.L.Link.told g.L.Link.counts c.args.self mid c.finish.result c.in-Some.target c.carry_both.new.target at c.in_ok-pass.pass stands (record { plain = stands.plain; reaches = reaches; uncaused = uncaused; direct = stands.direct.direct }) c.in-Some.is refl c.in_ok-pass.ensures closed.client closed.target)
    none (none-written c.in_ok-pass.pass none) refl closed same shut.0 shut.1

pub returns-then-took_quantum-clause-turns : goal.returns-then-took_quantum-clause-turns
returns-then-took_quantum-clause-turns g c = λ users pubs generation config now net h marks at desked stands same reaches uncaused.
    let none = sym c.fault_of.ensures ∙ ap (option_map object_of) c.in-None.is in
    relay-again g.L.Link.told g.L.Link.counts (g.D.DeskCall.stands c.args.desk.now) users pubs generation config (g.D.DeskCall.cap c.args.desk.now) h marks now net c.args.self _ c.in_ok-pass.pass
    (record { link = c.in-Some.target; link' = c.carry_both.new.target; at = at; new = c.carry_both.new.state; stands = stands; begun = record { plain = stands.plain; reaches = reaches; uncaused = uncaused; direct = stands.direct.direct }; target = c.in-Some.is; target' = refl; passes = c.in_ok-pass.ensures })
    none (none-written c.in_ok-pass.pass none) refl same (not-both c.carry_both.new.state.shut_c c.carry_both.new.state.shut_t (sym c.is_shut.ensures ∙ c.if-is_shut.false)) (sym c.took_quantum.ensures ∙ c.if-took_quantum.true) desked

pub returns-else-took_quantum-clause-turns : goal.returns-else-took_quantum-clause-turns
returns-else-took_quantum-clause-turns g c = λ users pubs generation config now net h marks at desked stands same reaches uncaused.
    let none = sym c.fault_of.ensures ∙ ap (option_map object_of) c.in-None.is in
    relay-waits g.L.Link.told g.L.Link.counts (g.D.DeskCall.stands c.args.desk.now) users pubs generation config (g.D.DeskCall.cap c.args.desk.now) h marks now net c.args.self _ c.in_ok-pass.pass
    (record { link = c.in-Some.target; link' = c.carry_both.new.target; at = at; new = c.carry_both.new.state; stands = stands; begun = record { plain = stands.plain; reaches = reaches; uncaused = uncaused; direct = stands.direct.direct }; target = c.in-Some.is; target' = refl; passes = c.in_ok-pass.ensures })
    none (none-written c.in_ok-pass.pass none) refl same (not-both c.carry_both.new.state.shut_c c.carry_both.new.state.shut_t (sym c.is_shut.ensures ∙ c.if-is_shut.false)) (sym c.took_quantum.ensures ∙ c.if-took_quantum.false) desked

pub returns-in-Some-Client-clause-turns : goal.returns-in-Some-Client-clause-turns
returns-in-Some-Client-clause-turns g c = λ users pubs generation config now net h marks at desked stands same reaches uncaused.
    let mid : Assoc g.row.L.Denot = record { state = c.carry_both.new.state; client = c.carry_both.new.client; target = Some c.carry_both.new.target } in
    let closed : Closed (g.D.DeskCall.stands c.finish-in-Some-Client.new.desk) h marks Cause.ClientFault mid c.finish-in-Some-Client.result = c.finish-in-Some-Client.ensures.closed h marks desked (mid-tcp users c.args.self.state mid.state _ _ _ _ _ _ _ _ c.in_ok-pass.pass stands.plain c.in_ok-pass.ensures) in
    client-closes g.L.Link.told g.L.Link.counts (g.D.DeskCall.stands c.finish-in-Some-Client.new.desk) users pubs generation config (g.D.DeskCall.cap c.args.desk.now) h marks now net c.args.self mid c.finish-in-Some-Client.result c.in_ok-pass.pass
    (done-turn g.L.Link.told g.L.Link.counts c.args.self mid c.finish-in-Some-Client.result c.in-Some.target c.carry_both.new.target at c.in_ok-pass.pass stands (record { plain = stands.plain; reaches = reaches; uncaused = uncaused; direct = stands.direct.direct }) c.in-Some.is refl c.in_ok-pass.ensures closed.client closed.target)
    (sym c.fault_of.ensures ∙ ap (option_map object_of) (c.in-Some-Client.is ∙ ap (λ (z : Side). Some z) c.in-Some-Client.field-0-is)) refl closed same

pub returns-then-is_over-clause-turns : goal.returns-then-is_over-clause-turns
returns-then-is_over-clause-turns g c = λ users pubs generation config now net h marks at desked stands same reaches uncaused.
    let mid : Assoc g.row.L.Denot = record { state = c.carry_both.new.state; client = c.carry_both.new.client; target = Some c.carry_both.new.target } in
    let closed : Closed (g.D.DeskCall.stands c.finish-then-is_over.new.desk) h marks Cause.TargetFault mid c.finish-then-is_over.result = c.finish-then-is_over.ensures.closed h marks desked (mid-tcp users c.args.self.state mid.state _ _ _ _ _ _ _ _ c.in_ok-pass.pass stands.plain c.in_ok-pass.ensures) in
    let failed = sym c.fault_of.ensures ∙ ap (option_map object_of) (c.in-Some-Target.is ∙ ap (λ (z : Side). Some z) c.in-Some-Target.field-0-is) in
    fault-closes g.L.Link.told g.L.Link.counts (g.D.DeskCall.stands c.finish-then-is_over.new.desk) users pubs generation config (g.D.DeskCall.cap c.args.desk.now) h marks now net c.args.self mid c.finish-then-is_over.result c.in_ok-pass.pass
    (done-turn g.L.Link.told g.L.Link.counts c.args.self mid c.finish-then-is_over.result c.in-Some.target c.carry_both.new.target at c.in_ok-pass.pass stands (record { plain = stands.plain; reaches = reaches; uncaused = uncaused; direct = stands.direct.direct }) c.in-Some.is refl c.in_ok-pass.ensures closed.client closed.target)
    Object.Target failed refl closed same
    (over-due g.L.Link.told g.L.Link.counts c.args.self _ c.in_ok-pass.pass (done-turn g.L.Link.told g.L.Link.counts c.args.self mid c.finish-then-is_over.result c.in-Some.target c.carry_both.new.target at c.in_ok-pass.pass stands (record { plain = stands.plain; reaches = reaches; uncaused = uncaused; direct = stands.direct.direct }) c.in-Some.is refl c.in_ok-pass.ensures closed.client closed.target) failed (sym c.is_over.ensures ∙ c.if-is_over.true))

pub returns-then-took_quantum-2-clause-turns : goal.returns-then-took_quantum-2-clause-turns
returns-then-took_quantum-2-clause-turns g c = λ users pubs generation config now net h marks at desked stands same reaches uncaused.
    let failed = sym c.fault_of.ensures ∙ ap (option_map object_of) (c.in-Some-Target.is ∙ ap (λ (z : Side). Some z) c.in-Some-Target.field-0-is) in
    let left = over-written c.in_ok-pass.pass (sym c.is_over.ensures ∙ c.if-is_over.false) in
    fault-again g.L.Link.told g.L.Link.counts (g.D.DeskCall.stands c.args.desk.now) users pubs generation config (g.D.DeskCall.cap c.args.desk.now) h marks now net c.args.self _ c.in_ok-pass.pass
    (record { link = c.in-Some.target; link' = c.carry_both.new.target; at = at; new = c.carry_both.new.state; stands = stands; begun = record { plain = stands.plain; reaches = reaches; uncaused = uncaused; direct = stands.direct.direct }; target = c.in-Some.is; target' = refl; passes = c.in_ok-pass.ensures })
    failed left.0 left.1 refl same (sym c.took_quantum-in-Some-Target.ensures ∙ c.if-took_quantum-2.true) desked

pub returns-else-took_quantum-2-clause-turns : goal.returns-else-took_quantum-2-clause-turns
returns-else-took_quantum-2-clause-turns g c = λ users pubs generation config now net h marks at desked stands same reaches uncaused.
    let failed = sym c.fault_of.ensures ∙ ap (option_map object_of) (c.in-Some-Target.is ∙ ap (λ (z : Side). Some z) c.in-Some-Target.field-0-is) in
    let left = over-written c.in_ok-pass.pass (sym c.is_over.ensures ∙ c.if-is_over.false) in
    fault-waits g.L.Link.told g.L.Link.counts (g.D.DeskCall.stands c.args.desk.now) users pubs generation config (g.D.DeskCall.cap c.args.desk.now) h marks now net c.args.self _ c.in_ok-pass.pass
    (record { link = c.in-Some.target; link' = c.carry_both.new.target; at = at; new = c.carry_both.new.state; stands = stands; begun = record { plain = stands.plain; reaches = reaches; uncaused = uncaused; direct = stands.direct.direct }; target = c.in-Some.is; target' = refl; passes = c.in_ok-pass.ensures })
    failed left.0 left.1 refl same (sym c.took_quantum-in-Some-Target.ensures ∙ c.if-took_quantum-2.false) desked
