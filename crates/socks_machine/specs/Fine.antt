-- The machine of atomic steps: slots with their words, workers with what they have in hand, and the order of turns that
-- such steps come to.
use Rattle.std.specs.Prelude.{ℕ, zero, suc, ◌+◌, Bool, true, false, ◌&&◌, ◌||◌, not, ◌==◌, nat_lt, if◌then◌else◌, Option, Some, None, List, [], ◌∷◌, ◌++◌, length, replicate, slice_get, slice_set, is_some}
use Rattle.addr_pattern.specs.declared.endpoint.Endpoint.{Endpoint}
use Rattle.socks_grammar.specs.declared.user.User.{User}
use Rattle.socks_machine.specs.declared.cause.StopBy.{StopBy}
use Rattle.socks_machine.specs.declared.record.Record.{Record}
use Rattle.socks_machine.specs.declared.fine.Act.{Act}
use Rattle.socks_machine.specs.declared.fine.FineStep.{FineStep}
use Rattle.socks_machine.specs.declared.world.Object.{Object}
use Rattle.socks_machine.specs.declared.world.Outer.{Outer}
use Rattle.socks_machine.specs.declared.world.NextMark.{NextMark}
use Rattle.socks_machine.specs.declared.world.TurnEvent.{TurnEvent}
use Rattle.socks_machine.specs.declared.world.Event.{Event}
use Rattle.socks_machine.specs.declared.world.World.{World}
use Rattle.socks_machine.specs.Basis.{Basis}
use Rattle.socks_machine.specs.Calls.{TurnResult}
use Rattle.socks_machine.specs.Phase.{Phase, phase}
use Rattle.rule_list.specs.Rules.{numbered}
use Rattle.socks_machine.specs.Step.{start, step, context_of, basis_of, set_numbered}
use Rattle.socks_machine.specs.Taking.{◌>>=◌, reads_client, reads_target}
use Rattle.socks_machine.specs.Turn.{is_link, turn, unsent}

-- ---- what one call on a link, a door, a port or the net adds to a turn

abbrev pub first_of : Option Object → Object → Option Object
first_of None o = Some o
first_of (Some x) o = Some x

abbrev pub add_read : TurnEvent → List ℕ → Object → Option TurnEvent
add_read ev bytes Object.Client = Some (record ev { c = ev.c ++ bytes })
add_read ev bytes Object.Target = Some (record ev { t = ev.t ++ bytes })
add_read ev bytes _ = None

abbrev pub add_end : TurnEvent → Object → Option TurnEvent
add_end ev Object.Client = if ev.end_c then None else Some (record ev { end_c = true })
add_end ev Object.Target = if ev.end_t then None else Some (record ev { end_t = true })
add_end ev _ = None

abbrev pub add_wrote : TurnEvent → ℕ → Object → Option TurnEvent
add_wrote ev n Object.Client = Some (record ev { sent_c = ev.sent_c + n })
add_wrote ev n Object.Target = Some (record ev { sent_t = ev.sent_t + n })
add_wrote ev n _ = None

abbrev pub add_shut : TurnEvent → Object → Option TurnEvent
add_shut ev Object.Client = if ev.shut_c then None else Some (record ev { shut_c = true })
add_shut ev Object.Target = if ev.shut_t then None else Some (record ev { shut_t = true })
add_shut ev _ = None

abbrev pub add_idle : TurnEvent → Object → Bool → TurnEvent
add_idle ev o true = record ev { full = ev.full ++ o ∷ [] }
add_idle ev o false = record ev { idle = ev.idle ++ o ∷ [] }

abbrev pub add_outer : TurnEvent → Outer → Outer → Option TurnEvent
add_outer ev outer Outer.Nothing = Some (record ev { outer = outer })
add_outer ev outer _ = None

-- the turn with one more act; none where the turn has such an act already, or the act is of another object. A datagram is
-- of the generation that the turn's worker saw
abbrev pub add : TurnEvent → ℕ → Act → Option TurnEvent
add ev g (Act.Read of bytes) = add_read ev bytes of
add ev g (Act.End of) = add_end ev of
add ev g (Act.Idle of write) = Some (add_idle ev of write)
add ev g (Act.Fault of write) = Some (record ev { fault = first_of ev.fault of; unwritten = ev.unwritten || (write && is_link of) })
add ev g (Act.Wrote to n) = add_wrote ev n to
add ev g (Act.Shut of) = add_shut ev of
add ev g (Act.Came peer) = if is_some ev.came then None else Some (record ev { came = Some peer })
add ev g (Act.Gram from bytes) = Some (record ev { grams = ev.grams ++ record { peer = from; bytes = bytes; generation = g } ∷ [] })
add ev g Act.SentGram = Some (record ev { sent_u = ev.sent_u + 1 })
add ev g (Act.Looked found) = add_outer ev (Outer.Looked found) ev.outer
add ev g (Act.Up at) = add_outer ev (Outer.Up at) ev.outer
add ev g Act.Refused = add_outer ev Outer.Refused ev.outer
add ev g Act.HostUnreachable = add_outer ev Outer.HostUnreachable ev.outer
add ev g Act.NetUnreachable = add_outer ev Outer.NetUnreachable ev.outer
add ev g Act.Failed = add_outer ev Outer.Failed ev.outer
add ev g Act.Memory = Some (record ev { memory = true })

-- ---- what the record in hand reads

abbrev pub reads_link : Basis → TurnEvent → Record → Phase → Object → Bool
reads_link basis ev r p Object.Client = reads_client basis ev.idle ev.full r p
reads_link basis ev r p Object.Target = reads_target r p
reads_link basis ev r p _ = false

abbrev pub reads_door : Phase → Bool
reads_door (Phase.Door g) = true
reads_door _ = false

-- no datagram is taken while one is unsent
abbrev pub reads_gram : Basis → Record → Phase → Bool
reads_gram basis r Phase.Datagrams = not (unsent basis r)
reads_gram basis r _ = false

-- an act that takes is one on an object that the phase of the record in hand reads
abbrev pub may_take : Basis → TurnEvent → Record → Act → Bool
may_take basis ev r (Act.Read of bytes) = reads_link basis ev r (phase basis r) of
may_take basis ev r (Act.End of) = reads_link basis ev r (phase basis r) of
may_take basis ev r (Act.Came peer) = reads_door (phase basis r)
may_take basis ev r (Act.Gram from bytes) = reads_gram basis r (phase basis r)
may_take basis ev r _ = true

-- what a worker has in hand: the slot, the number, the record as the turn began, the turn so far, the world at its desk
-- call, whether that was the close, the record as the turn leaves it, and whether the wake bit was shown at its park
pub record Hand : Type 0 where
  pub slot : ℕ
  pub number : ℕ
  pub begun : Record
  pub event : Option TurnEvent
  pub desk : Option World
  pub closed : Bool
  pub now' : Record
  pub shown : Bool

pub record Fine : Type 0 where
  pub world : World
  pub words : List ℕ
  pub homes : List ℕ
  pub hands : List (Option Hand)

-- every word is 4 at first
abbrev pub fine_start : List User → ℕ → ℕ → ℕ → Fine
fine_start users cap workers slots = record {
  world = start users cap workers;
  words = replicate slots 4;
  homes = replicate slots 0;
  hands = replicate (workers + 1) None;
}

abbrev pub when' : Bool → Option Fine → Option Fine
when' true f = f
when' false f = None

abbrev pub with_world : Fine → World → Fine
with_world f w = record f { world = w }

abbrev pub with_hand : Fine → ℕ → Option Hand → Fine
with_hand f worker hand = record f { hands = slice_set f.hands worker hand }

abbrev pub with_word : Fine → ℕ → ℕ → Fine
with_word f slot word = record f { words = slice_set f.words slot word }

abbrev pub flat : {A : Type 0} → Option (Option A) → Option A
flat None = None
flat (Some x) = x

abbrev pub hand_of : Fine → ℕ → Option Hand
hand_of f worker = flat (slice_get f.hands worker)

abbrev pub word_is : Fine → ℕ → ℕ → Bool
word_is f slot word = is_word (slice_get f.words slot)
  where
    is_word : Option ℕ → Bool
    is_word None = false
    is_word (Some x) = x == word

-- the event with this answer, from the record as the turn began, in the world of the desk call or the present one
abbrev pub world_of : Fine → Hand → World
world_of f hand = present hand.desk
  where
    present : Option World → World
    present None = f.world
    present (Some w) = w

abbrev pub made_in : World → TurnEvent → Record → Option TurnResult
made_in w ev r = do
  generation ← slice_get w.seen ev.worker
  config ← numbered w.pubs generation
  turn (context_of w generation config) ev r

abbrev pub made_by : Fine → Hand → TurnEvent → Option TurnResult
made_by f hand ev = made_in (world_of f hand) ev hand.begun

abbrev pub is_lawful : Fine → Hand → TurnEvent → NextMark → Bool
is_lawful f hand ev next = is_some (made_by f hand (record ev { next = next }))

-- ---- each step

abbrev pub placed : Fine → ℕ → Endpoint → Endpoint → ℕ → Option Fine
placed f slot peer local now = do
  w ← step f.world (Event.Open 0 (length (f.world).records + 1) peer local now)
  Some (record f { world = w; words = slice_set f.words slot 5; homes = slice_set f.homes slot (length w.records) })

abbrev pub woken : ℕ → ℕ
woken word = if word == 1 then 5 else (if word == 3 then 7 else word)

abbrev pub claimed : Fine → ℕ → ℕ → Option Hand → Option Fine
claimed f worker slot (Some hand) = None
claimed f worker slot None = do
  number ← slice_get f.homes slot
  r ← numbered (f.world).records number
  Some (with_hand (with_word f slot 3) worker (Some (record {
    slot = slot;
    number = number;
    begun = r;
    event = None;
    desk = None;
    closed = false;
    now' = r;
    shown = false;
  })))

abbrev pub begun_event : ℕ → ℕ → ℕ → Option StopBy → TurnEvent
begun_event worker number now stop = record {
  worker = worker;
  number = number;
  now = now;
  stop = stop;
  c = [];
  t = [];
  end_c = false;
  end_t = false;
  grams = [];
  came = None;
  outer = Outer.Nothing;
  sent_c = 0;
  sent_t = 0;
  sent_u = 0;
  shut_c = false;
  shut_t = false;
  idle = [];
  full = [];
  fault = None;
  unwritten = false;
  failed = [];
  memory = false;
  next = NextMark.Going;
}

abbrev pub saw : Fine → ℕ → ℕ → ℕ → Option StopBy → Hand → Option TurnEvent → Option Fine
saw f worker generation now stop hand (Some ev) = None
saw f worker generation now stop hand None = do
  w ← step f.world (Event.See worker generation)
  Some (with_hand (with_world f w) worker (Some (record hand { event = Some (begun_event worker hand.number now stop) })))

abbrev pub acted : Fine → ℕ → Hand → TurnEvent → Option Fine
acted f worker hand ev = do
  m ← made_by f hand ev
  Some (with_hand f worker (Some (record hand { event = Some ev; now' = m.left })))

abbrev pub desked : Fine → ℕ → Hand → TurnEvent → Option World → Option Fine
desked f worker hand ev (Some w) = None
desked f worker hand ev None = do
  m ← made_by f hand ev
  Some (with_hand (with_world f (let w = f.world in record w { h = m.h; marks = m.marks })) worker
      (Some (record hand { event = Some ev; desk = Some f.world; closed = length m.left.decisions == length (hand.begun).decisions; now' = m.left })))

-- the answer in which a turn has ended, if it has
abbrev pub answer : Fine → Hand → TurnEvent → Option NextMark
answer f hand ev =
    if is_lawful f hand ev NextMark.Wait then Some NextMark.Wait
    else (if is_lawful f hand ev NextMark.Again then Some NextMark.Again
    else (if is_lawful f hand ev NextMark.Done then Some NextMark.Done else None))

abbrev pub put_back : Fine → Hand → Record → Fine
put_back f hand r = with_world f (let w = f.world in record w { records = set_numbered w.records hand.number r })

abbrev pub parked_at : Fine → ℕ → Hand → Record → Option Fine
parked_at f worker hand r =
    if word_is f hand.slot 3 then Some (with_hand (with_word (put_back f hand r) hand.slot 1) worker None)
    else (if word_is f hand.slot 7 then Some (with_hand (put_back f hand r) worker (Some (record hand { begun = r; event = None; desk = None; closed = false; now' = r; shown = true }))) else None)

abbrev pub parked_with : Fine → ℕ → Hand → TurnEvent → Option NextMark → Option Fine
parked_with f worker hand ev (Some NextMark.Wait) = made_by f hand (record ev { next = NextMark.Wait }) >>= λ m. parked_at f worker hand m.left
parked_with f worker hand ev (Some NextMark.Again) = made_by f hand (record ev { next = NextMark.Again }) >>= λ m. parked_at f worker hand m.left
parked_with f worker hand ev _ = None

abbrev pub freed_with : Fine → ℕ → Hand → TurnEvent → Option NextMark → Option Fine
freed_with f worker hand ev (Some NextMark.Done) =
    made_by f hand (record ev { next = NextMark.Done }) >>= λ m. Some (with_hand (with_word (put_back f hand m.left) hand.slot 4) worker None)
freed_with f worker hand ev _ = None

abbrev pub fine_step : Fine → FineStep → Option Fine
fine_step f (FineStep.Start users cap workers slots) = None
fine_step f (FineStep.Publish config) = step f.world (Event.Publish config) >>= λ w. Some (with_world f w)
fine_step f (FineStep.Stop by) = step f.world (Event.Stop by) >>= λ w. Some (with_world f w)
fine_step f (FineStep.Place slot peer local now) = when' (word_is f slot 4) (placed f slot peer local now)
fine_step f (FineStep.Wake slot) = slice_get f.words slot >>= λ word. Some (with_word f slot (woken word))
fine_step f (FineStep.Claim worker slot) = when' (word_is f slot 5 && nat_lt 0 worker && nat_lt worker (length (f.world).seen)) (claimed f worker slot (hand_of f worker))
fine_step f (FineStep.See worker generation now stop) = hand_of f worker >>= λ hand. when' (not hand.shown) (saw f worker generation now stop hand hand.event)
fine_step f (FineStep.Link worker act) =
    hand_of f worker >>= λ hand. hand.event >>= λ ev. slice_get (f.world).seen worker >>= λ g. add ev g act >>= λ more.
    when' (not hand.closed && may_take (basis_of (world_of f hand)) ev hand.now' act) (acted f worker hand more)
fine_step f (FineStep.Desk worker logged) =
    hand_of f worker >>= λ hand. hand.event >>= λ ev. add_outer ev (Outer.Desk logged) ev.outer >>= λ more. desked f worker hand more hand.desk
fine_step f (FineStep.Park worker) = hand_of f worker >>= λ hand. hand.event >>= λ ev. parked_with f worker hand ev (answer f hand ev)
fine_step f (FineStep.Clear worker) =
    hand_of f worker >>= λ hand. when' hand.shown (Some (with_hand (with_word f hand.slot 3) worker (Some (record hand { shown = false }))))
fine_step f (FineStep.Free worker) = hand_of f worker >>= λ hand. hand.event >>= λ ev. freed_with f worker hand ev (answer f hand ev)

abbrev pub fine_steps : Option Fine → List FineStep → Option Fine
fine_steps f [] = f
fine_steps f (s ∷ ss) = fine_steps (f >>= λ x. fine_step x s) ss

-- ---- the order of turns

-- the events so far, and for each worker the place of its turn among them, from 1, where it stands already
pub record Order : Type 0 where
  pub fine : Fine
  pub events : List Event
  pub places : List ℕ

abbrev pub order_start : List User → ℕ → ℕ → ℕ → Order
order_start users cap workers slots = record { fine = fine_start users cap workers slots; events = []; places = replicate (workers + 1) 0 }

abbrev pub turn_event : Fine → ℕ → Option TurnEvent
turn_event f worker = hand_of f worker >>= λ hand. hand.event

abbrev pub put_event : List Event → ℕ → Option TurnEvent → List Event
put_event es place None = es
put_event es zero (Some ev) = es
put_event es (suc i) (Some ev) = slice_set es i (Event.Turn ev)

abbrev pub place_of_worker : Order → ℕ → ℕ
place_of_worker o worker = or_zero (slice_get o.places worker)
  where
    or_zero : Option ℕ → ℕ
    or_zero None = 0
    or_zero (Some n) = n

-- the turn stands at its desk call, with what it has made since; without one it comes at its end
abbrev pub stand_turn : Order → ℕ → ℕ → Option TurnEvent → List Event
stand_turn o worker zero None = o.events
stand_turn o worker zero (Some ev) = o.events ++ Event.Turn ev ∷ []
stand_turn o worker (suc i) ev = put_event o.events (suc i) ev

abbrev pub answered : Fine → ℕ → Option TurnEvent
answered f worker = hand_of f worker >>= λ hand. hand.event >>= λ ev. answer f hand ev >>= λ next. Some (record ev { next = next })

abbrev pub ordered : Order → FineStep → Fine → Order
ordered o (FineStep.Publish config) f = record { fine = f; events = o.events ++ Event.Publish config ∷ []; places = o.places }
ordered o (FineStep.Stop by) f = record { fine = f; events = o.events ++ Event.Stop by ∷ []; places = o.places }
ordered o (FineStep.Place slot peer local now) f =
    record { fine = f; events = o.events ++ Event.Open 0 (length (f.world).records) peer local now ∷ []; places = o.places }
ordered o (FineStep.See worker generation now stop) f =
    record { fine = f; events = o.events ++ Event.See worker generation ∷ []; places = slice_set o.places worker 0 }
ordered o (FineStep.Link worker act) f =
    record { fine = f; events = put_event o.events (place_of_worker o worker) (turn_event f worker); places = o.places }
ordered o (FineStep.Desk worker logged) f = record {
  fine = f;
  events = stand_turn o worker 0 (turn_event f worker);
  places = slice_set o.places worker (length o.events + 1);
}
ordered o (FineStep.Park worker) f = record { fine = f; events = stand_turn o worker (place_of_worker o worker) (answered o.fine worker); places = slice_set o.places worker 0 }
ordered o (FineStep.Free worker) f = record { fine = f; events = stand_turn o worker (place_of_worker o worker) (answered o.fine worker); places = slice_set o.places worker 0 }
ordered o _ f = record o { fine = f }

abbrev pub order_step : Order → FineStep → Option Order
order_step o s = fine_step o.fine s >>= λ f. Some (ordered o s f)

-- the events that the steps come to, or the place of the first step that isn't allowed
pub data Coarse : Type 0 where
  Events : List Event → Coarse
  Unlawful : ℕ → Coarse

abbrev pub coarse_from : ℕ → Order → List FineStep → Coarse
coarse_from n o [] = Events o.events
coarse_from n o (s ∷ ss) = go_on (order_step o s) (λ x. coarse_from (suc n) x ss)
  where
    go_on : Option Order → (Order → Coarse) → Coarse
    go_on None rest = Unlawful n
    go_on (Some x) rest = rest x

-- the first step is Start, which stands nowhere else
abbrev pub coarse : List FineStep → Coarse
coarse (FineStep.Start users cap workers slots ∷ ss) = coarse_from 1 (order_start users cap workers slots) ss
coarse _ = Unlawful 0
