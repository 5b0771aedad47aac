use Rattle.std.proofs.Common.{refl, sym, ◌∙◌, inl, inr}
use Rattle.assoc_core.specs.declared.assoc.Assoc.{Assoc}
use Rattle.assoc_core.specs.Closing.{Closed}
use Rattle.assoc_core.proofs.DrainAnswers.{client-failed, target-failed, drain-done, drain-rests, client-tcp, target-tcp, or-left, or-right}
use Rattle.assoc_core.proofs.assoc.Assoc.closing.Goals as goal

pub returns-then-not-is_sound-clause-turns : goal.returns-then-not-is_sound-clause-turns
returns-then-not-is_sound-clause-turns g c = λ users pubs generation config now net h marks desked stands same.
    let mid : Assoc g.row.L.Denot = record { state = c.drain_to_client.new.state; client = c.drain_to_client.new.client; target = c.args.self.target } in
    let closed : Closed (g.D.DeskCall.stands c.finish.new.desk) h marks c.args.cause mid c.finish.result = c.finish.ensures.closed h marks desked (client-tcp users c.args.self.state c.drain_to_client.new.state _ _ _ _ c.in_ok-gave_c.gave_c stands.plain c.in_ok-gave_c.ensures) in
    client-failed g.L.Link.told g.L.Link.counts (g.D.DeskCall.stands c.finish.new.desk) users pubs generation config (g.D.DeskCall.cap c.args.desk.now) h marks now net c.args.self mid c.finish.result c.args.cause c.in_ok-gave_c.gave_c stands c.requires same c.in_ok-gave_c.ensures refl
    (sym c.is_sound.ensures ∙ c.if-not-is_sound.true) closed

pub returns-then-not-is_sound-2-clause-turns : goal.returns-then-not-is_sound-2-clause-turns
returns-then-not-is_sound-2-clause-turns g c = λ users pubs generation config now net h marks desked stands same.
    let mid : Assoc g.row.L.Denot = record { state = c.drain_to_target.new.state; client = c.drain_to_client.new.client; target = c.drain_to_target.new.target } in
    let closed : Closed (g.D.DeskCall.stands c.finish-then-not-is_sound-2.new.desk) h marks c.args.cause mid c.finish-then-not-is_sound-2.result = c.finish-then-not-is_sound-2.ensures.closed h marks desked (target-tcp g.L.Link.told g.L.Link.counts c.args.self.target c.drain_to_target.new.target c.drain_to_client.new.state c.drain_to_target.new.state c.in_ok-gave_t.gave_t c.in_ok-gave_t.ensures (client-tcp users c.args.self.state c.drain_to_client.new.state _ _ _ _ c.in_ok-gave_c.gave_c stands.plain c.in_ok-gave_c.ensures)) in
    target-failed g.L.Link.told g.L.Link.counts (g.D.DeskCall.stands c.finish-then-not-is_sound-2.new.desk) users pubs generation config (g.D.DeskCall.cap c.args.desk.now) h marks now net c.args.self mid c.finish-then-not-is_sound-2.result c.drain_to_client.new.state c.args.cause c.in_ok-gave_c.gave_c c.in_ok-gave_t.gave_t stands c.requires same c.in_ok-gave_c.ensures c.in_ok-gave_t.ensures
    (sym c.is_sound-2.ensures ∙ c.if-not-is_sound-2.true) closed

pub returns-then-is_quiet-clause-turns : goal.returns-then-is_quiet-clause-turns
returns-then-is_quiet-clause-turns g c = λ users pubs generation config now net h marks desked stands same.
    let mid : Assoc g.row.L.Denot = record { state = c.drain_to_target.new.state; client = c.drain_to_client.new.client; target = c.drain_to_target.new.target } in
    let closed : Closed (g.D.DeskCall.stands c.finish-then-is_quiet.new.desk) h marks c.args.cause mid c.finish-then-is_quiet.result = c.finish-then-is_quiet.ensures.closed h marks desked (target-tcp g.L.Link.told g.L.Link.counts c.args.self.target c.drain_to_target.new.target c.drain_to_client.new.state c.drain_to_target.new.state c.in_ok-gave_t.gave_t c.in_ok-gave_t.ensures (client-tcp users c.args.self.state c.drain_to_client.new.state _ _ _ _ c.in_ok-gave_c.gave_c stands.plain c.in_ok-gave_c.ensures)) in
    drain-done g.L.Link.told g.L.Link.counts (g.D.DeskCall.stands c.finish-then-is_quiet.new.desk) users pubs generation config (g.D.DeskCall.cap c.args.desk.now) h marks now net c.args.self mid c.finish-then-is_quiet.result c.drain_to_client.new.state c.args.cause c.in_ok-gave_c.gave_c c.in_ok-gave_t.gave_t stands c.requires same c.in_ok-gave_c.ensures c.in_ok-gave_t.ensures
    (sym c.is_sound.ensures ∙ c.if-not-is_sound.false) (sym c.is_sound-2.ensures ∙ c.if-not-is_sound-2.false) (inl (sym c.is_quiet.ensures ∙ c.if-is_quiet.true)) closed

pub returns-then-is_full-clause-turns : goal.returns-then-is_full-clause-turns
returns-then-is_full-clause-turns g c = λ users pubs generation config now net h marks desked stands same.
    let mid : Assoc g.row.L.Denot = record { state = c.drain_to_target.new.state; client = c.drain_to_client.new.client; target = c.drain_to_target.new.target } in
    drain-rests g.L.Link.told g.L.Link.counts (g.D.DeskCall.stands c.args.desk.now) users pubs generation config (g.D.DeskCall.cap c.args.desk.now) h marks now net c.args.self mid c.drain_to_client.new.state c.args.cause c.in_ok-gave_c.gave_c c.in_ok-gave_t.gave_t stands c.requires same c.in_ok-gave_c.ensures c.in_ok-gave_t.ensures
    (sym c.is_sound.ensures ∙ c.if-not-is_sound.false) (sym c.is_sound-2.ensures ∙ c.if-not-is_sound-2.false) (sym c.is_quiet.ensures ∙ c.if-is_quiet.false) (or-left _ _ (sym c.is_full.ensures ∙ c.if-is_full.true)) desked

pub returns-then-is_full-2-clause-turns : goal.returns-then-is_full-2-clause-turns
returns-then-is_full-2-clause-turns g c = λ users pubs generation config now net h marks desked stands same.
    let mid : Assoc g.row.L.Denot = record { state = c.drain_to_target.new.state; client = c.drain_to_client.new.client; target = c.drain_to_target.new.target } in
    drain-rests g.L.Link.told g.L.Link.counts (g.D.DeskCall.stands c.args.desk.now) users pubs generation config (g.D.DeskCall.cap c.args.desk.now) h marks now net c.args.self mid c.drain_to_client.new.state c.args.cause c.in_ok-gave_c.gave_c c.in_ok-gave_t.gave_t stands c.requires same c.in_ok-gave_c.ensures c.in_ok-gave_t.ensures
    (sym c.is_sound.ensures ∙ c.if-not-is_sound.false) (sym c.is_sound-2.ensures ∙ c.if-not-is_sound-2.false) (sym c.is_quiet.ensures ∙ c.if-is_quiet.false) (or-right _ _ (sym c.is_full-2.ensures ∙ c.if-is_full-2.true)) desked

pub returns-clause-turns : goal.returns-clause-turns
returns-clause-turns g c = λ users pubs generation config now net h marks desked stands same.
    let mid : Assoc g.row.L.Denot = record { state = c.drain_to_target.new.state; client = c.drain_to_client.new.client; target = c.drain_to_target.new.target } in
    let closed : Closed (g.D.DeskCall.stands c.finish-2.new.desk) h marks c.args.cause mid c.finish-2.result = c.finish-2.ensures.closed h marks desked (target-tcp g.L.Link.told g.L.Link.counts c.args.self.target c.drain_to_target.new.target c.drain_to_client.new.state c.drain_to_target.new.state c.in_ok-gave_t.gave_t c.in_ok-gave_t.ensures (client-tcp users c.args.self.state c.drain_to_client.new.state _ _ _ _ c.in_ok-gave_c.gave_c stands.plain c.in_ok-gave_c.ensures)) in
    drain-done g.L.Link.told g.L.Link.counts (g.D.DeskCall.stands c.finish-2.new.desk) users pubs generation config (g.D.DeskCall.cap c.args.desk.now) h marks now net c.args.self mid c.finish-2.result c.drain_to_client.new.state c.args.cause c.in_ok-gave_c.gave_c c.in_ok-gave_t.gave_t stands c.requires same c.in_ok-gave_c.ensures c.in_ok-gave_t.ensures
    (sym c.is_sound.ensures ∙ c.if-not-is_sound.false) (sym c.is_sound-2.ensures ∙ c.if-not-is_sound-2.false) (inr (sym c.is_full.ensures ∙ c.if-is_full.false, sym c.is_full-2.ensures ∙ c.if-is_full-2.false)) closed
