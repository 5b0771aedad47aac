use Rattle.std.proofs.Common.{◌≡◌, ◌++◌, drop}
use Rattle.transcript_text.specs.Pieces.{blanked_numbers}
use Rattle.transcript_text.proofs.event.add_counted_line.Given as goal

-- what is written, with the numbers that are left, is the word and all numbers
abbrev pub invariant-loop-number : goal.invariant-loop-number
invariant-loop-number l = l.out ++ blanked_numbers (drop l.number-index l.numbers) ≡ l.fn.out ++ (l.word ++ blanked_numbers l.numbers)
