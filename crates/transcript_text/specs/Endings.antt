-- How an association stands, and the lines of turns and of ends, in pieces.
use Rattle.std.specs.Prelude.{ℕ, if◌then◌else◌, Option, Some, None, List, [], ◌∷◌, ◌++◌, codes}
use Rattle.socks_machine.specs.declared.cause.Cause.{Cause}
use Rattle.socks_machine.specs.declared.record.Record.{Record}
use Rattle.socks_machine.specs.declared.world.NextMark.{NextMark}
use Rattle.socks_machine.specs.LogText.{cause_text}
use Rattle.socks_machine.specs.Transcript.{last_cause, bytes_text}
use Rattle.transcript_text.specs.Pieces.{digits, blanked}

unfoldable pub cause_word : Cause → List ℕ
cause_word c = cause_text c

abbrev pub cause_or_open : Option Cause → List ℕ
cause_or_open None = codes "open"
cause_or_open (Some c) = cause_word c

-- the cause of an association that has ended, else `open`
unfoldable pub end_word : Record → List ℕ
end_word r = if r.done then cause_or_open (last_cause r.at_close r.cause) else codes "open"

abbrev pub next_word : Record → NextMark → List ℕ
next_word r NextMark.Going = codes "going"
next_word r NextMark.Wait = codes "wait"
next_word r NextMark.Again = codes "again"
next_word r NextMark.Done = codes "done" ++ (32 ∷ end_word r)

-- the words behind `turn`
abbrev pub turn_counts : ℕ → ℕ → ℕ → ℕ → ℕ → ℕ → ℕ → List ℕ → List (List ℕ)
turn_counts worker number generation took_c took_t sent_c sent_t next =
    digits worker ∷ digits number ∷ codes "gen" ∷ digits generation
    ∷ codes "took" ∷ digits took_c ∷ digits took_t ∷ codes "sent" ∷ digits sent_c ∷ digits sent_t ∷ next ∷ []

-- a line of a word and those behind it
abbrev pub line_of : List ℕ → List (List ℕ) → List ℕ
line_of word behind = word ++ (blanked behind ++ 10 ∷ [])

unfoldable pub bytes_word : List ℕ → List ℕ
bytes_word bytes = bytes_text bytes

-- the three lines of an association's end
abbrev pub end_lines : Record → List ℕ
end_lines r =
    line_of (codes "client") (digits r.number ∷ bytes_word r.sent_c ∷ [])
    ++ (line_of (codes "target") (digits r.number ∷ bytes_word r.sent_t ∷ [])
    ++ line_of (codes "end") (digits r.number ∷ end_word r ∷ []))
