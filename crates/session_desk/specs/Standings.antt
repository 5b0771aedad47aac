-- Which histories a book stands for.
use Rattle.std.specs.Prelude.{◌≡◌, ℕ, ◌-◌, ◌^◌, ◌<◌, min, false, List, length}
use Rattle.socks_machine.specs.declared.cause.StopBy.{StopBy}
use Rattle.socks_machine.specs.declared.lines.Line.{Line}
use Rattle.socks_machine.specs.History.{stand_of, last_mark, is_log}
use Rattle.session_desk.specs.Entries.{standing_in, IsApart}
use Rattle.session_desk.specs.Books.{Book}

-- Each number stands by the entries as by the history, and has at most one entry; all lines were counted, and a further
-- one can be numbered unless the mark Log says that none can.
pub record StandsFor (b : Book) (h : List Line) (marks : List StopBy) : Type 0 where
  pub standing : (n : ℕ) → standing_in b.entries n ≡ stand_of h n
  pub apart : IsApart b.entries
  pub lines : b.lines ≡ min (length h) (2 ^ 64 - 1)
  pub mark : b.stopped ≡ last_mark marks
  pub room : is_log (last_mark marks) ≡ false → length h < 2 ^ 64 - 1
