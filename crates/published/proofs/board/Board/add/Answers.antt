use Rattle.std.proofs.Common.{◌<◌, ℕ, subst, sym, arith}
use Rattle.published.proofs.Steps.{adds}
use Rattle.published.proofs.board.Board.add.Goals as goal

pub compare_exchange_with-requires : goal.compare_exchange_with-requires
compare_exchange_with-requires c =
    (c.requires.own, subst (λ (words : ℕ). 0 < words) (sym c.args.self.now.one) (omega arith), adds _ _ _ _ _ c.requires.owner.0)
