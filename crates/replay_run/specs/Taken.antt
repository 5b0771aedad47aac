-- A turn that was taken, with its line of the transcript.
use Rattle.std.specs.Prelude.{ℕ, ◌≡◌, ◌+◌, Bool, false, None, Some, List, [], ◌++◌, length}
use Rattle.conf_types.specs.declared.entries.Entries.{Entries}
use Rattle.socks_grammar.specs.declared.user.User.{User}
use Rattle.conf_types.specs.Plain.{IsPlain}
use Rattle.net_ends.specs.InMemory.{LinkInMemory, NetInMemory, told_of_link, told_of_net}
use Rattle.rule_list.specs.Rules.{numbered}
use Rattle.session_desk.specs.Books.{Book}
use Rattle.session_desk.specs.Standings.{StandsFor}
use Rattle.socks_machine.specs.declared.record.Record.{Record}
use Rattle.socks_machine.specs.declared.world.NextMark.{NextMark}
use Rattle.socks_machine.specs.declared.cause.StopBy.{StopBy}
use Rattle.socks_machine.specs.declared.lines.Line.{Line}
use Rattle.socks_machine.specs.declared.world.TurnEvent.{TurnEvent}
use Rattle.socks_machine.specs.Phase.{is_udp}
use Rattle.socks_machine.specs.Script.{is_still}
use Rattle.socks_machine.specs.Socks.{socks}
use Rattle.replay_run.specs.Shown.{turn_shown}
use Rattle.assoc_core.specs.declared.assoc.Assoc.{Assoc}
use Rattle.assoc_core.specs.declared.assoc.Next.{Next}
use Rattle.assoc_core.specs.Stands.{Stands, TellsServed}
use Rattle.assoc_core.specs.Turns.{Turns, context, mark_of}
use Rattle.replay_run.specs.declared.totals.Totals.{Totals}
use Rattle.replay_run.specs.declared.slot.Slot.{Slot}

abbrev pub mark_of_next : Next LinkInMemory → NextMark
mark_of_next next = mark_of next

abbrev pub left_record : Next LinkInMemory → Record
left_record (Next.Wait a) = a.state
left_record (Next.Again a) = a.state
left_record (Next.Done e) = e.state

-- the slot of an association behind its turn
abbrev pub slot_of : Next LinkInMemory → NetInMemory → Slot
slot_of (Next.Wait a) net = Slot.Going a net
slot_of (Next.Again a) net = Slot.Going a net
slot_of (Next.Done e) net = Slot.Over e

-- a turn that was made over these users in this generation at this moment, from whatever the desk stood for
pub record MakesTurn (users : List User) (generation : ℕ) (config : Entries) (now : ℕ) (desk desk' : Book) (a : Assoc LinkInMemory) (net : NetInMemory) (next : Next LinkInMemory) (net' : NetInMemory) : Type 0 where
  pub cap : desk'.cap ≡ desk.cap
  pub mark : desk'.stopped ≡ None
  pub turns : (pubs : List Entries) (h : List Line) (marks : List StopBy) → StandsFor desk h marks → Stands told_of_link (socks users pubs) a → TellsServed users (told_of_link a.client)
      → numbered pubs generation ≡ Some config → IsPlain config
      → Turns told_of_link (λ (l : LinkInMemory). l.counts) (StandsFor desk') (context users pubs generation config desk.cap h marks) now (told_of_net net) (told_of_net net') a next

-- its line behind the text, and whether nothing came of it
pub record WritesTurn (generation : ℕ) (before : Totals) (next : Next LinkInMemory) (old new : List ℕ) (still : Bool) : Type 0 where
  pub written : (ev : TurnEvent) → ev.worker ≡ 1 → ev.number ≡ (left_record next).number → ev.next ≡ mark_of next → is_udp (left_record next) ≡ false
      → length (left_record next).c ≡ before.took_c + length ev.c → length (left_record next).t ≡ before.took_t + length ev.t
      → length (left_record next).sent_c ≡ before.sent_c + ev.sent_c → length (left_record next).sent_t ≡ before.sent_t + ev.sent_t
      → new ≡ old ++ turn_shown generation ev (left_record next)
  pub still' : (ev : TurnEvent) → ev.next ≡ mark_of next → ev.grams ≡ [] → ev.sent_u ≡ 0
      → length (left_record next).c ≡ before.took_c + length ev.c → length (left_record next).t ≡ before.took_t + length ev.t
      → length (left_record next).sent_c ≡ before.sent_c + ev.sent_c → length (left_record next).sent_t ≡ before.sent_t + ev.sent_t
      → still ≡ is_still ev
