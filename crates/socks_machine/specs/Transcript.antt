-- The text that a replay writes: a line for each event, and what became of each association.
use Rattle.std.specs.Prelude.{ℕ, Bool, ◌&&◌, if◌then◌else◌, Option, Some, None, List, [], ◌∷◌, ◌++◌, length, codes, is_some, flat_map, slice_get, unwrap_or}
use Rattle.socks_machine.specs.declared.cause.Cause.{Cause}
use Rattle.socks_machine.specs.declared.record.Gram.{Gram}
use Rattle.socks_machine.specs.declared.record.Record.{Record}
use Rattle.socks_machine.specs.declared.world.NextMark.{NextMark}
use Rattle.socks_machine.specs.declared.world.TurnEvent.{TurnEvent}
use Rattle.socks_machine.specs.declared.world.Event.{Event}
use Rattle.socks_machine.specs.declared.world.World.{World}
use Rattle.addr_pattern.specs.AddressText.{number_text, hex_text, endpoint_text}
use Rattle.socks_machine.specs.Datagrams.{Reason, drops}
use Rattle.socks_machine.specs.Decisions.{reached_at}
use Rattle.socks_machine.specs.LogText.{words, cause_text}
use Rattle.socks_machine.specs.Basis.{Basis}
use Rattle.socks_machine.specs.Phase.{is_udp}
use Rattle.rule_list.specs.Rules.{numbered}
use Rattle.socks_machine.specs.Step.{step, basis_of}

-- bytes in hexadecimal, `-` for none
abbrev pub bytes_text : List ℕ → List ℕ
bytes_text [] = codes "-"
bytes_text (b ∷ bs) = hex_text (b ∷ bs)

-- what an association ended with: what the desk said at its close, else the cause that was fixed first
abbrev pub last_cause : Option Cause → Option Cause → Option Cause
last_cause (Some at_close) cause = Some at_close
last_cause None cause = cause

abbrev pub end_of : Option Cause → List ℕ
end_of None = codes "open"
end_of (Some cause) = cause_text cause

abbrev pub end_text : Record → List ℕ
end_text r = if r.done then end_of (last_cause r.at_close r.cause) else codes "open"

-- ---- turns

abbrev pub next_text : Record → NextMark → List ℕ
next_text r NextMark.Going = codes "going"
next_text r NextMark.Wait = codes "wait"
next_text r NextMark.Again = codes "again"
next_text r NextMark.Done = words (codes "done" ∷ end_text r ∷ [])

abbrev pub count_text : Bool → ℕ → ℕ → List ℕ
count_text udp grams bytes = number_text (if udp then grams else bytes)

-- the counts are those of this turn; of one for UDP the target's count datagrams
abbrev pub turn_words : ℕ → TurnEvent → Record → List (List ℕ)
turn_words generation ev r =
    codes "turn" ∷ number_text ev.worker ∷ number_text ev.number ∷ codes "gen" ∷ number_text generation
    ∷ codes "took" ∷ number_text (length ev.c) ∷ count_text (is_udp r) (length ev.grams) (length ev.t)
    ∷ codes "sent" ∷ number_text ev.sent_c ∷ count_text (is_udp r) ev.sent_u ev.sent_t ∷ next_text r ev.next ∷ []

abbrev pub line : List (List ℕ) → List ℕ
line ws = words ws ++ 10 ∷ []

abbrev pub turn_line : ℕ → TurnEvent → Option Record → List ℕ
turn_line generation ev None = []
turn_line generation ev (Some r) = line (turn_words generation ev r)

abbrev pub event_line : World → Event → List ℕ
event_line w (Event.Publish config) = line (codes "publish" ∷ number_text (length w.pubs) ∷ [])
event_line w (Event.See worker generation) = line (codes "see" ∷ number_text worker ∷ number_text generation ∷ [])
event_line w (Event.Open worker number peer local now) = line (codes "open" ∷ number_text worker ∷ number_text number ∷ [])
event_line w (Event.Stop by) = []
event_line w (Event.Turn ev) = turn_line (unwrap_or (slice_get w.seen ev.worker) 0) ev (numbered w.records ev.number)

-- an event's line in front of those behind it, from the world that the event leaves
abbrev pub line_before : Event → Option World → List ℕ × Option World → List ℕ × Option World
line_before e None rest = ([], None)
line_before e (Some w) rest = (event_line w e ++ rest.0, rest.1)

-- the lines of a list of events, and the world behind them
abbrev pub traced : Option World → List Event → List ℕ × Option World
traced w [] = ([], w)
traced None (e ∷ es) = ([], None)
traced (Some w) (e ∷ es) = line_before e (step w e) (traced (step w e) es)

-- ---- what became of each association

abbrev pub datagram_line : ℕ → Gram → List ℕ
datagram_line number d = line (codes "datagram" ∷ number_text number ∷ endpoint_text d.peer ∷ bytes_text d.bytes ∷ [])

abbrev pub drop_words : Basis → Record → List (List ℕ)
drop_words basis r =
    codes "rule" ∷ number_text (drops basis r Reason.Rule) ∷ codes "header" ∷ number_text (drops basis r Reason.Header)
    ∷ codes "frag" ∷ number_text (drops basis r Reason.Frag) ∷ codes "source" ∷ number_text (drops basis r Reason.Source)
    ∷ codes "length" ∷ number_text (drops basis r Reason.TooLong) ∷ codes "name" ∷ number_text (drops basis r Reason.ByName) ∷ []

abbrev pub drops_line : Basis → Record → List ℕ
drops_line basis r =
    if is_udp r && is_some (reached_at r.decisions) then line (codes "drops" ∷ number_text r.number ∷ drop_words basis r) else []

abbrev pub ends_of : Basis → Record → List ℕ
ends_of basis r =
    line (codes "client" ∷ number_text r.number ∷ bytes_text r.sent_c ∷ [])
    ++ line (codes "target" ∷ number_text r.number ∷ bytes_text r.sent_t ∷ [])
    ++ flat_map (datagram_line r.number) r.sent_u
    ++ drops_line basis r
    ++ line (codes "end" ∷ number_text r.number ∷ end_text r ∷ [])

abbrev pub ends : World → List ℕ
ends w = flat_map (ends_of (basis_of w)) w.records

abbrev pub with_ends : List ℕ × Option World → List ℕ
with_ends (text, None) = text
with_ends (text, Some w) = text ++ ends w

abbrev pub with_rounds : List Event → List ℕ × Option World → List ℕ
with_rounds rounds x = x.0 ++ line (codes "close" ∷ []) ++ with_ends (traced x.1 rounds)

-- the whole text: the events of the script's lines, then those of the closing rounds
abbrev pub transcript : World → List Event → List Event → List ℕ
transcript w script rounds = with_rounds rounds (traced (Some w) script)
