use Rattle.std.proofs.Common.{◌≡◌, ◌<◌, ◌∙◌, ◌++◌, ℕ, All, ap, sym, subst, length, arith}
use Rattle.std.proofs.lemmas.Result.{IfOk-weaker}
use Rattle.conf_types.specs.Plain.{IsPlain}
use Rattle.generation.specs.Published.{Generations}
use Rattle.replay_run.specs.Shown.{see_shown}
use Rattle.replay_run.proofs.Rounding.{closes-published, closes-unpublished}
use Rattle.replay_run.proofs.state.Replay.close.Goals as goal

pub returns-then-last-eq0 : goal.returns-then-last-eq0
returns-then-last-eq0 c = λ script state b. closes-unpublished c.args.users.now script state c.args.self.now c.show_close.new.out c.in_ok-show_close.ensures (sym c.last.ensures ∙ c.if-last-eq0.true) b

pub returns : goal.returns
returns c =
    let e = c.last.ensures in
    let f = c.if-last-eq0.false in
    let some : 0 < length c.args.self.now.gens.configs = omega (arith, e, f) in
    IfOk-weaker c.rounds.result _ _ (λ x done script state b.
    done script (closes-published c.args.users.now script state c.args.self.now c.see-number.new.self c.show_close.new.out c.show_see.new.out c.in_ok-show_close.ensures
    (c.see-number.ensures.kept ∙ ap (λ (n : ℕ). let z : Generations = record c.args.self.now.gens { seen = n } in z) c.see-number.ensures.last)
    (c.in_ok-show_see.ensures ∙ ap (λ (n : ℕ). c.show_close.new.out ++ see_shown n) c.see-number.ensures.last) some b)) c.rounds.ensures

pub rounds-requires-clause-seen : goal.rounds-requires-clause-seen
rounds-requires-clause-seen c =
    let e = c.last.ensures in
    let f = c.if-last-eq0.false in
    let some : 0 < length c.args.self.now.gens.configs = omega (arith, e, f) in
    let sees = c.see-number.ensures.kept ∙ ap (λ (n : ℕ). let z : Generations = record c.args.self.now.gens { seen = n } in z) c.see-number.ensures.last in
    record {
      seen = subst (λ (g : Generations). 0 < g.seen) (sym sees) some;
      plain = subst (λ (g : Generations). All IsPlain g.configs) (sym sees) c.requires;
    }
