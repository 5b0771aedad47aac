use Rattle.std.proofs.Common.{◌≡◌, ◌++◌, take, drop, ap, ◌∙◌}
use Rattle.std.proofs.lemmas.List.{append-nil, take-append-drop}
use Rattle.assoc_core.proofs.Tryings.{tried-as}
use Rattle.assoc_core.proofs.send.send_pending.Goals as goal

pub returns : goal.returns
returns g c =
    let after : c.from_vec-2.result ≡ c.args.sent.now ++ take c.send_all-n.result.0 c.args.pending.now =
    let i = c.in-Ok.ensures.items in cc (i, c.from_vec-2.ensures, c.reserve.ensures.items, c.replace.ensures.value, c.into_vec-held.ensures) in
    record {
      bytes = take c.send_all-n.result.0 c.args.pending.now;
      rest = drop c.send_all-n.result.0 c.args.pending.now;
      pending' = take-append-drop c.send_all-n.result.0 c.args.pending.now;
      after' = after;
      told' = c.send_all-n.ensures.told;
      stuck = λ e. ap (λ n. take n c.args.pending.now) (c.send_all-n.ensures.stuck e);
      later = c.send_all-n.ensures.later;
      tried = tried-as c.send_all-n.ensures.tried (λ x. x) (λ w. (after ∙ (ap (λ n. c.args.sent.now ++ take n c.args.pending.now) w.0 ∙ append-nil c.args.sent.now), w.1)) (λ x. x);
      ends = c.send_all-n.ensures.ends;
    }
