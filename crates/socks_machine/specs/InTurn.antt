-- How far a turn has come, stage by stage: each field says one stage, so that an act touches one or two.
use Rattle.std.specs.Prelude.{ℕ, ◌≡◌, ◌⊎◌, Bool, true, false, ◌||◌, ◌&&◌, Option, Some, None, List, ◌++◌, length}
use Rattle.std.specs.List.{list_all}
use Rattle.addr_pattern.specs.declared.endpoint.Endpoint.{Endpoint}
use Rattle.socks_machine.specs.declared.cause.StopBy.{StopBy}
use Rattle.socks_grammar.specs.declared.protocol.Method.{Method}
use Rattle.socks_machine.specs.declared.record.Gram.{Gram}
use Rattle.socks_machine.specs.declared.record.Record.{Record}
use Rattle.socks_machine.specs.declared.world.Object.{Object}
use Rattle.socks_machine.specs.declared.world.Outer.{Outer}
use Rattle.socks_machine.specs.declared.world.NextMark.{NextMark}
use Rattle.socks_machine.specs.declared.world.TurnEvent.{TurnEvent}
use Rattle.socks_machine.specs.Basis.{Basis}
use Rattle.socks_machine.specs.Calls.{Context, TurnResult, keep, call, is_calling}
use Rattle.socks_machine.specs.Datagrams.{owed_datagrams}
use Rattle.socks_machine.specs.Owed.{owed_to_client, owed_to_target}
use Rattle.socks_machine.specs.Phase.{Phase, phase}
use Rattle.socks_machine.specs.Settle.{settled}
use Rattle.socks_machine.specs.Taking.{some_in, reads_target, reads_port, reads_client, of_generation, meet, with_client_bytes}
use Rattle.socks_machine.specs.Turn.{with_fault, with_memory, with_shut, client_may_be_shut, target_may_be_shut, may_output}

-- one taking: nothing was there, or its phase reads it
abbrev pub Took : Basis → Bool → (Record → Phase → Bool) → (Record → Record) → Record → Record → Type 0
Took basis any reads change r x =
    ((any ≡ false) × (x ≡ r)) ⊎ ((any ≡ true) × (reads r (phase basis r) ≡ true) × (x ≡ settled basis (change r)))

-- all of a turn that says what it takes
pub record Takings : Type 0 where
  pub c : List ℕ
  pub t : List ℕ
  pub end_c : Bool
  pub end_t : Bool
  pub grams : List Gram
  pub came : Option Endpoint
  pub sent_u : ℕ
  pub idle : List Object
  pub full : List Object

abbrev pub takings : TurnEvent → Takings
takings e = record { c = e.c; t = e.t; end_c = e.end_c; end_t = e.end_t; grams = e.grams; came = e.came; sent_u = e.sent_u; idle = e.idle; full = e.full }

-- what a turn has taken, from one source after the other
pub record Takes (basis : Basis) (generation : ℕ) (methods : List Method) (e : Takings) (old a : Record) : Type 0 where
  pub r1 : Record
  pub r2 : Record
  pub r3 : Record
  pub r4 : Record
  pub r5 : Record
  pub bytes_t : Took basis (some_in e.t) reads_target (λ r. record r { t = r.t ++ e.t }) old r1
  pub ends_t : Took basis e.end_t reads_target (λ r. record r { end_t = true }) r1 r2
  pub grams : Took basis (some_in e.grams) (λ r p. reads_port basis e.grams e.sent_u r p && list_all (of_generation generation) e.grams) (λ r. record r { grams = r.grams ++ e.grams }) r2 r3
  pub came : meet basis e.came r3 ≡ Some r4
  pub bytes_c : Took basis (some_in e.c) (reads_client basis e.idle e.full) (with_client_bytes generation methods e.c) r4 r5
  pub ends_c : Took basis e.end_c (reads_client basis e.idle e.full) (λ r. record r { end_c = true }) r5 a

-- the next n of what is owed are sent
pub record Sends {A : Type 0} (before : List A) (n : ℕ) (now owed : List A) : Type 0 where
  pub bytes : List A
  pub now' : now ≡ before ++ bytes
  pub count : length bytes ≡ n
  pub rest : List A
  pub owed' : now ++ rest ≡ owed

-- what was owed stays owed
pub record Grows (basis : Basis) (r x : Record) : Type 0 where
  pub to_client : (rest : List ℕ) × (owed_to_client basis r ++ rest ≡ owed_to_client basis x)
  pub to_target : (rest : List ℕ) × (owed_to_target basis r ++ rest ≡ owed_to_target basis x)
  pub datagrams : (rest : List Gram) × (owed_datagrams basis r ++ rest ≡ owed_datagrams basis x)

-- a record with what r has sent and shut
abbrev pub in_hand : Record → Record → Record
in_hand a r = record a { sent_c = r.sent_c; sent_t = r.sent_t; sent_u = r.sent_u; shut_c = r.shut_c; shut_t = r.shut_t }

abbrev pub with_sendings : Record → Record → Record
with_sendings d r = record d { sent_c = r.sent_c; sent_t = r.sent_t; sent_u = r.sent_u }

-- the sides that were shut may be shut here too
pub record StillShut (basis : Basis) (shut_c shut_t : Bool) (f : Record) : Type 0 where
  pub may_c : shut_c ≡ true → client_may_be_shut basis f ≡ true
  pub may_t : shut_t ≡ true → target_may_be_shut basis f ≡ true
  pub relays : shut_c || shut_t ≡ true → phase basis f ≡ Phase.Relay

-- sides that were shut, but not both
pub record Shuts (basis : Basis) (shut_c shut_t : Bool) (f r : Record) : Type 0 where
  pub still : StillShut basis shut_c shut_t f
  pub is : r ≡ record f { shut_c = shut_c || f.shut_c; shut_t = shut_t || f.shut_t }
  pub apart : r.shut_c && r.shut_t ≡ false

-- the next bytes and datagrams of what is owed are sent
pub record Sendings (basis : Basis) (sent_c sent_t sent_u : ℕ) (d : Record) (to_c to_t : List ℕ) (to_u : List Gram) : Type 0 where
  pub c : Sends d.sent_c sent_c to_c (owed_to_client basis d)
  pub t : Sends d.sent_t sent_t to_t (owed_to_target basis d)
  pub u : Sends d.sent_u sent_u to_u (owed_datagrams basis d)

-- a turn that goes on, on a record that has not ended
pub record Going (done : Bool) (stop : Option StopBy) (next : NextMark) : Type 0 where
  pub undone : done ≡ false
  pub unstopped : stop ≡ None
  pub going : next ≡ NextMark.Going

-- it has called nothing and failed at nothing
pub record Calm (outer : Outer) (fault : Option Object) (unwritten memory : Bool) : Type 0 where
  pub uncalled : outer ≡ Outer.Nothing
  pub unfailed : fault ≡ None
  pub written : unwritten ≡ false
  pub remembers : memory ≡ false

-- a turn that has called nothing and failed at nothing: a is behind its takings, and r is in hand
pub record Reading (s : Context) (old : Record) (e : TurnEvent) (a r : Record) : Type 0 where
  pub going : Going old.done e.stop e.next
  pub calm : Calm e.outer e.fault e.unwritten e.memory
  pub takes : Takes s.basis s.generation (s.config).methods (takings e) old a
  pub sendings : Sendings s.basis e.sent_c e.sent_t e.sent_u a r.sent_c r.sent_t r.sent_u
  pub shuts : Shuts s.basis e.shut_c e.shut_t (with_sendings a r) r

abbrev pub is_call : Outer → Bool
is_call Outer.Nothing = false
is_call _ = true

-- the call that the phase of x has to make
pub record Called (s : Context) (outer : Outer) (came : Option Endpoint) (x : Record) (m : TurnResult) : Type 0 where
  pub some : is_call outer ≡ true
  pub due : is_calling (phase s.basis x) came ≡ true
  pub made : call s x (phase s.basis x) came outer ≡ Some m

abbrev pub Calls : Context → Outer → Option Endpoint → Record → TurnResult → Type 0
Calls s outer came x m = ((outer ≡ Outer.Nothing) × (m ≡ keep s x)) ⊎ Called s outer came x m

-- any turn: a is behind its takings, m behind its call, d behind its fault, and r is in hand
pub record InTurn (s : Context) (old : Record) (e : TurnEvent) (a : Record) (m : TurnResult) (d r : Record) : Type 0 where
  pub going : Going old.done e.stop e.next
  pub takes : Takes s.basis s.generation (s.config).methods (takings e) old a
  pub calls : Calls s e.outer e.came (with_memory e.memory a) m
  pub faults : with_fault e.fault e.unwritten m.left ≡ Some d
  pub sendings : Sendings s.basis e.sent_c e.sent_t e.sent_u d r.sent_c r.sent_t r.sent_u
  pub shuts : with_shut s.basis e (with_sendings d r) ≡ Some r

-- where the phase of x has a call to make, nothing is sent, shut or failed before it. An `InTurn` with it is a lawful turn
abbrev pub CallsFirst : Basis → TurnEvent → Record → Type 0
CallsFirst basis e x = e.outer ≡ Outer.Nothing → may_output basis e x ≡ true
