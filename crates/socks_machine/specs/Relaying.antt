-- A turn in the relay of a CONNECT without a proxy, in closed form.
use Rattle.std.specs.Prelude.{ℕ, ◌≡◌, ◌≤◌, Bool, true, false, ◌||◌, ◌&&◌, None, List, [], ◌++◌, length, drop, option_map}
use Rattle.addr_pattern.specs.declared.endpoint.Endpoint.{Endpoint}
use Rattle.socks_grammar.specs.declared.protocol.Command.{Command}
use Rattle.socks_machine.specs.declared.record.Record.{Record}
use Rattle.socks_machine.specs.declared.world.TurnEvent.{TurnEvent}
use Rattle.socks_machine.specs.Calls.{Context}
use Rattle.socks_machine.specs.InTurn.{Sends, Going, Calm}
use Rattle.socks_machine.specs.Owed.{replies, has_target}
use Rattle.socks_machine.specs.Phase.{Phase, phase, relay_began, prelude_length}
use Rattle.socks_machine.specs.Taking.{some_in, chosen_after}
use Rattle.socks_machine.specs.View.{split_of, proxy_of, login_passed}

-- a record in such a relay: whatever the client says next changes nothing but its payload
pub record RelayFacts (s : Context) (r : Record) : Type 0 where
  pub relays : phase s.basis r ≡ Phase.Relay
  pub uncaused : r.cause ≡ None
  pub direct : proxy_of s.basis r ≡ None
  pub began : relay_began s.basis r ≡ true
  pub there : has_target r ≡ true
  pub grams : r.grams ≡ []
  pub sent_u : r.sent_u ≡ []
  pub choice : (x : List ℕ) → chosen_after s.generation (s.config).methods r.chosen (r.c ++ x) ≡ r.chosen
  pub whole : (x : List ℕ) → ((s.basis).front).split (s.basis).users (option_map (λ c. c.method) r.chosen) (r.c ++ x) ≡ split_of s.basis r
  pub passed : (x : List ℕ) → login_passed s.basis (record r { c = r.c ++ x }) ≡ login_passed s.basis r
  pub success : (x : List ℕ) (command : Command) (at : Endpoint) → ((s.basis).front).granted (r.c ++ x) command at ≡ ((s.basis).front).granted r.c command at
  pub prelude : prelude_length s.basis r ≤ length r.c

abbrev pub relayed : Record → List ℕ → List ℕ → Bool → Bool → Record
relayed old c t end_c end_t = record old { c = old.c ++ c; t = old.t ++ t; end_c = end_c || old.end_c; end_t = end_t || old.end_t }

abbrev pub due_c : Context → Record → List ℕ → List ℕ
due_c s old t = replies s.basis old ++ (old.t ++ t)

abbrev pub due_t : Context → Record → List ℕ → List ℕ
due_t s old c = drop (prelude_length s.basis old) (old.c ++ c)

-- a side that had ended gives nothing
pub record MayTake (ended some ends : Bool) : Type 0 where
  pub bytes : some ≡ true → ended ≡ false
  pub end : ends ≡ true → ended ≡ false

-- a side is shut once, where the other ended and all was sent
pub record MayShut (shut was ended : Bool) (sent due : List ℕ) : Type 0 where
  pub first : shut ≡ true → was ≡ false
  pub ended' : shut ≡ true → ended ≡ true
  pub all : shut ≡ true → sent ≡ due

abbrev pub relay_in_hand : Record → TurnEvent → Record → Record
relay_in_hand old e r = record (relayed old e.c e.t e.end_c e.end_t) {
  sent_c = r.sent_c;
  sent_t = r.sent_t;
  sent_u = r.sent_u;
  shut_c = e.shut_c || old.shut_c;
  shut_t = e.shut_t || old.shut_t;
}

-- a turn in such a relay, with r in hand; not both sides are shut
pub record Relaying (s : Context) (old : Record) (e : TurnEvent) (r : Record) : Type 0 where
  pub facts : RelayFacts s old
  pub going : Going old.done e.stop e.next
  pub calm : Calm e.outer e.fault e.unwritten e.memory
  pub grams : e.grams ≡ []
  pub came : e.came ≡ None
  pub no_u : e.sent_u ≡ 0
  pub sent_u : r.sent_u ≡ []
  pub takes_c : MayTake old.end_c (some_in e.c) e.end_c
  pub takes_t : MayTake old.end_t (some_in e.t) e.end_t
  pub sends_c : Sends old.sent_c e.sent_c r.sent_c (due_c s old e.t)
  pub sends_t : Sends old.sent_t e.sent_t r.sent_t (due_t s old e.c)
  pub shuts_c : MayShut e.shut_c old.shut_c (e.end_t || old.end_t) r.sent_c (due_c s old e.t)
  pub shuts_t : MayShut e.shut_t old.shut_t (e.end_c || old.end_c) r.sent_t (due_t s old e.c)
  pub is : r ≡ relay_in_hand old e r
  pub apart : r.shut_c && r.shut_t ≡ false
