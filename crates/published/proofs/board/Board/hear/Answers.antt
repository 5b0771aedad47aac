use Rattle.std.proofs.Common.{◌<◌, ℕ, subst, sym, arith, ◌∙◌}
use Rattle.published.proofs.Steps.{hears, catches}
use Rattle.published.proofs.board.Board.hear.Goals as goal

pub join_seat-requires : goal.join_seat-requires
join_seat-requires c =
    (c.requires.own.0, c.requires.other.0, c.requires.other.1, subst (λ (words : ℕ). 0 < words) (sym c.args.self.now.one) (omega arith), hears _ _ _ _)

pub load-requires : goal.load-requires
load-requires c =
    (c.join_seat.ensures.0 ∙ c.requires.own.0, subst (λ (words : ℕ). 0 < words) (sym c.args.self.now.one) (omega arith), catches _ _ _ _)
