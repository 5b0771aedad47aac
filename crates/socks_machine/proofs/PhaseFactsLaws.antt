-- What each phase says of a record.
use Rattle.std.proofs.Common.{ℕ, ◌≡◌, refl, Bool, true, false, cond, Option, Some, None, List, is_some}
use Rattle.addr_pattern.specs.declared.host.Host.{Host}
use Rattle.socks_grammar.specs.declared.protocol.Command.{Command}
use Rattle.socks_machine.specs.declared.record.Record.{Record}
use Rattle.socks_machine.specs.Decisions.{Opening, Lookup, Grant, opened, looked, granted, reached, came}
use Rattle.socks_grammar.specs.Dialogue.{Outcome}
use Rattle.socks_grammar.specs.Handshake.{Request, Split}
use Rattle.socks_machine.specs.Phase.{Phase, phase_opened_in, phase_split_in, phase_asked_in, phase_named_in, phase_granted_in, phase_reached_in, phase_by_command, phase_connect}
use Rattle.socks_machine.specs.PhaseFacts.{IsGoing, HasAsked, IsGranted, HasReached, PhaseFacts, PhaseSays}
use Rattle.socks_machine.specs.View.{View}

door-or-relay : (v : View) (r : Record) (g : Grant) (b : Bool) → IsGranted v r g → is_some (reached r.decisions) ≡ true
    → PhaseFacts v r (cond b Phase.Relay (Phase.Door g))
door-or-relay v r g true is there = record { grant = g; granted' = is; reached' = there }
door-or-relay v r g false is there = (is, there)

connect-says : (v : View) (r : Record) (o : Option Outcome) → HasReached v r → PhaseFacts v r (phase_connect o)
connect-says v r None has = has
connect-says v r (Some (Outcome.Up e n)) has = has
connect-says v r (Some Outcome.More) has = has
connect-says v r (Some (Outcome.Refused stage code)) has = has
connect-says v r (Some (Outcome.Bad at byte)) has = has

reached-says : (v : View) (r : Record) (g : Grant) (command : Command) → IsGranted v r g
    → is_some (reached r.decisions) ≡ true → PhaseFacts v r (phase_by_command v r g command)
reached-says v r g Command.Connect is there = connect-says v r v.dialogue (record { grant = g; granted' = is; reached' = there })
reached-says v r g Command.Bind is there = door-or-relay v r g (is_some (came r.decisions)) is there
reached-says v r g Command.UdpAssociate is there = record { grant = g; granted' = is; reached' = there }
reached-says v r g Command.BindReply is there = record { grant = g; granted' = is; reached' = there }
reached-says v r g Command.UdpReply is there = record { grant = g; granted' = is; reached' = there }

reach-says : (v : View) (r : Record) (g : Grant) (b : Bool) → is_some (reached r.decisions) ≡ b → IsGranted v r g
    → PhaseFacts v r (cond b (phase_reached_in v r g) (Phase.Reach g))
reach-says v r g true e is = reached-says v r g g.facts.command is e
reach-says v r g false e is = (is, e)

granted-says : (v : View) (r : Record) (q : Request) (g : Option Grant) → granted r.decisions ≡ g → HasAsked v r q
    → PhaseFacts v r (phase_granted_in v r q g)
granted-says v r q None e asked = (asked, e)
granted-says v r q (Some g) e asked =
    reach-says v r g (is_some (reached r.decisions)) refl (record { request = q; asked = asked; granted' = e })

named-says : (v : View) (r : Record) (q : Request) (name : List ℕ) (l : Option Lookup) → q.host ≡ Host.Name name → HasAsked v r q
    → PhaseFacts v r (phase_named_in v r q name l)
named-says v r q name None host asked = (q, asked, host)
named-says v r q name (Some l) host asked = granted-says v r q (granted r.decisions) refl asked

asked-says : (v : View) (r : Record) (q : Request) (h : Host) → q.host ≡ h → HasAsked v r q → PhaseFacts v r (phase_asked_in v r q h)
asked-says v r q (Host.Addr a) host asked = granted-says v r q (granted r.decisions) refl asked
asked-says v r q (Host.Name name) host asked = named-says v r q name (looked r.decisions) host asked

split-says : (v : View) (r : Record) (s : Split) (o : Opening) → v.split ≡ s → opened r.decisions ≡ Some o → IsGoing r
    → PhaseFacts v r (phase_split_in v r s)
split-says v r (Split.Whole q n) o whole opens going =
    asked-says v r q q.host refl (record { going = going; opening = o; opened' = opens; length' = n; whole = whole })
split-says v r (Split.Bad at byte kind) o whole opens going = going
split-says v r Split.NoMethod o whole opens going = going
split-says v r Split.LoginFailed o whole opens going = going
split-says v r Split.More o whole opens going = going

opened-says : (v : View) (r : Record) (o : Option Opening) → opened r.decisions ≡ o → IsGoing r → PhaseFacts v r (phase_opened_in v r o)
opened-says v r None e going = (going, e)
opened-says v r (Some o) e going = split-says v r v.split o refl e going

cause-says : (v : View) (r : Record) (c : Bool) → is_some r.cause ≡ c → r.done ≡ false
    → PhaseFacts v r (cond c Phase.Closing (phase_opened_in v r (opened r.decisions)))
cause-says v r true e undone = e
cause-says v r false e undone = opened-says v r (opened r.decisions) refl (record { undone = undone; uncaused = e })

done-says : (v : View) (r : Record) (d : Bool) → r.done ≡ d
    → PhaseFacts v r (cond d Phase.Ended (cond (is_some r.cause) Phase.Closing (phase_opened_in v r (opened r.decisions))))
done-says v r true e = e
done-says v r false e = cause-says v r (is_some r.cause) refl e

pub phase-says : PhaseSays
phase-says v r = done-says v r r.done refl
