use Rattle.std.proofs.Common.{◌<◌, ℕ, subst, sym, arith}
use Rattle.published.proofs.Steps.{tells}
use Rattle.published.proofs.board.Board.tell.Goals as goal

pub split_seat-requires : goal.split_seat-requires
split_seat-requires c = (c.requires, subst (λ (words : ℕ). 0 < words) (sym c.args.self.now.one) (omega arith), tells _ _)
