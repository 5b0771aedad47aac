-- The machine: what happens, one event after another.
use Rattle.std.specs.Prelude.{ℕ, zero, suc, ◌+◌, Bool, true, false, ◌&&◌, not, ◌==◌, nat_lt, nat_le, Option, Some, None, List, [], ◌∷◌, ◌++◌, length, replicate, slice_get, slice_set}
use Rattle.std.specs.List.{list_any}
use Rattle.addr_pattern.specs.declared.endpoint.Endpoint.{Endpoint}
use Rattle.conf_types.specs.declared.entries.Entries.{Entries}
use Rattle.socks_grammar.specs.declared.user.User.{User}
use Rattle.socks_machine.specs.declared.cause.StopBy.{StopBy}
use Rattle.socks_machine.specs.declared.record.Record.{Record}
use Rattle.socks_machine.specs.declared.world.NextMark.{NextMark}
use Rattle.socks_machine.specs.declared.world.TurnEvent.{TurnEvent}
use Rattle.socks_machine.specs.declared.world.Event.{Event}
use Rattle.socks_machine.specs.declared.world.World.{World}
use Rattle.socks_machine.specs.Calls.{Context, TurnResult}
use Rattle.socks_machine.specs.Equal.{mark_eq}
use Rattle.socks_machine.specs.Basis.{Basis}
use Rattle.socks_machine.specs.Socks.{socks}
use Rattle.rule_list.specs.Rules.{numbered}
use Rattle.socks_machine.specs.Taking.{◌>>=◌}
use Rattle.socks_machine.specs.Turn.{turn}

-- the world without configurations, records, history and marks; place 0 of `seen` is the reactor's
abbrev pub start : List User → ℕ → ℕ → World
start users cap workers = record {
  users = users;
  cap = cap;
  pubs = [];
  seen = replicate (workers + 1) 0;
  records = [];
  h = [];
  marks = [];
}

abbrev pub basis_of : World → Basis
basis_of w = socks w.users w.pubs

-- a record on which nothing has happened
abbrev pub fresh : ℕ → Endpoint → Endpoint → ℕ → Record
fresh number peer local now = record {
  number = number;
  peer = peer;
  local = local;
  since = now;
  c = [];
  t = [];
  sent_c = [];
  sent_t = [];
  end_c = false;
  end_t = false;
  shut_c = false;
  shut_t = false;
  chosen = None;
  decisions = [];
  grams = [];
  sent_u = [];
  cause = None;
  at_close = None;
  done = false;
}

abbrev pub has_worker : World → ℕ → Bool
has_worker w worker = nat_lt worker (length w.seen)

abbrev pub when : Bool → World → Option World
when true w = Some w
when false w = None

abbrev pub seen_by : World → ℕ → ℕ → ℕ → Option World
seen_by w worker generation before =
    when (nat_le 1 generation && nat_le before generation && nat_le generation (length w.pubs)) (record w { seen = slice_set w.seen worker generation })

abbrev pub context_of : World → ℕ → Entries → Context
context_of w generation config = record {
  basis = basis_of w;
  generation = generation;
  config = config;
  cap = w.cap;
  h = w.h;
  marks = w.marks;
}

-- the element of that number is another one
abbrev pub set_numbered : {A : Type 0} → List A → ℕ → A → List A
set_numbered xs zero a = xs
set_numbered xs (suc i) a = slice_set xs i a

abbrev pub made : World → ℕ → TurnResult → World
made w number m = record w { records = set_numbered w.records number m.left; h = m.h; marks = m.marks }

abbrev pub turned : World → TurnEvent → Option World
turned w ev = do
  generation ← slice_get w.seen ev.worker
  config ← numbered w.pubs generation
  r ← numbered w.records ev.number
  m ← turn (context_of w generation config) ev r
  Some (made w ev.number m)

abbrev pub stop_set : World → StopBy → List StopBy → World
stop_set w by [] = record w { marks = by ∷ [] }
stop_set w by (m ∷ ms) = w

-- the world behind an event, or none where the event isn't lawful
abbrev pub step : World → Event → Option World
step w (Event.Publish config) = Some (record w { pubs = w.pubs ++ config ∷ [] })
step w (Event.See worker generation) = slice_get w.seen worker >>= seen_by w worker generation
step w (Event.Open worker number peer local now) =
    when (has_worker w worker && (number == length w.records + 1)) (record w { records = w.records ++ fresh number peer local now ∷ [] })
step w (Event.Stop by) = Some (stop_set w by w.marks)
step w (Event.Turn ev) = turned w ev

-- ---- runs

abbrev pub steps : Option World → List Event → Option World
steps w [] = w
steps w (e ∷ es) = steps (w >>= λ x. step x e) es

abbrev pub is_turn_of : ℕ → Event → Bool
is_turn_of number (Event.Turn ev) = ev.number == number
is_turn_of number _ = false

abbrev pub goes_on : Event → List Event → Bool
goes_on (Event.Turn ev) es = mark_eq ev.next NextMark.Going && list_any (is_turn_of ev.number) es
goes_on _ es = false

-- no turn of a record stands behind one that hasn't ended
abbrev pub turns_end : List Event → Bool
turns_end [] = true
turns_end (e ∷ es) = not (goes_on e es) && turns_end es

abbrev pub run_from : World → List Event → Option World
run_from w es = elim (turns_end es) [ true ↦ steps (Some w) es | false ↦ None ]

-- the world behind a whole list of events
abbrev pub run : List User → ℕ → ℕ → List Event → Option World
run users cap workers es = run_from (start users cap workers) es
