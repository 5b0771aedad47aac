-- Worked rows of the definitions that contracts cite.
use Rattle.std.proofs.Common.{◌≡◌, ◌<◌, ◌^◌, ◌-◌, true, false, Some, None, [], ◌∷◌, refl, arith}
use Rattle.half_close_relay.specs.declared.halt.Halt.{Halt}
use Rattle.half_close_relay.specs.declared.pumped.Pumped.{Pumped}
use Rattle.half_close_relay.specs.declared.pumped.Side.{Side}
use Rattle.half_close_relay.specs.Halts.{answer_of}
use Rattle.half_close_relay.specs.Ways.{Moves, SinkRests, SourceRests, Seen, after_giving, after_taking, total}
use Rattle.half_close_relay.specs.Pumping.{waits_for}

-- totals stay at their type's end
total-none : total 18446744073709551615 0 ≡ 18446744073709551615
total-none = refl

total-some : total 10 5 ≡ 15
total-some = refl

total-end : total 18446744073709551613 7 ≡ 18446744073709551615
total-end = refl

waits-none : waits_for [] ≡ false
waits-none = refl

waits-some : waits_for (7 ∷ []) ≡ true
waits-some = refl

up-source : answer_of Side.Client Side.Target Halt.Source ≡ Pumped.Fault Side.Client
up-source = refl

down-sink : answer_of Side.Target Side.Client Halt.Sink ≡ Pumped.Fault Side.Client
down-sink = refl

-- where 1 and 2 wait, the source gives 3 and its end, and the sink takes 1 alone: 2 and 3 wait
part : Moves (record { waiting = 1 ∷ 2 ∷ []; ended = false; shut = false; took = 0; sent = 0 }) (record { waiting = 2 ∷ 3 ∷ []; ended = true; shut = false; took = 1; sent = 1 })
    (record { given = 3 ∷ []; sent = 1 ∷ []; ends = true; shuts = false })
part = record { kept = refl; ended' = refl; shut' = refl; took' = refl; sent' = refl; silent = λ h. cc; once = λ h. cc; due = λ h. cc }

-- and then all is sent, and the sink is shut
whole : Moves (record { waiting = 2 ∷ 3 ∷ []; ended = true; shut = false; took = 1; sent = 1 }) (record { waiting = []; ended = true; shut = true; took = 1; sent = 3 })
    (record { given = []; sent = 2 ∷ 3 ∷ []; ends = false; shuts = true })
whole = record { kept = refl; ended' = refl; shut' = refl; took' = refl; sent' = refl; silent = λ h. (refl, refl); once = λ h. refl; due = λ h. (refl, refl) }

-- a byte that is lost, and a sink that is shut while bytes wait, are no moves
lost : Moves (record { waiting = 1 ∷ 2 ∷ []; ended = true; shut = false; took = 0; sent = 0 }) (record { waiting = []; ended = true; shut = false; took = 0; sent = 1 })
    (record { given = []; sent = 1 ∷ []; ends = false; shuts = false }) → ⊥
lost h = let e = h.kept in cc

hasty : Moves (record { waiting = 1 ∷ []; ended = true; shut = false; took = 0; sent = 0 }) (record { waiting = 1 ∷ []; ended = true; shut = true; took = 0; sent = 0 })
    (record { given = []; sent = []; ends = false; shuts = true }) → ⊥
hasty h = let e = (h.due refl).1 in cc

-- a sink for which bytes wait rests only behind a NotYet
unwritten : (sink : Seen) → sink.counts.idle_writes < 2 ^ 64 - 1 → SinkRests (record { waiting = 1 ∷ []; ended = false; shut = false; took = 0; sent = 0 }) sink sink → ⊥
unwritten sink h rest = let rose = (rest.full (omega arith)).1 in omega (arith, rose, h)

-- a source that may be read rests only behind a NotYet
unasked : (source : Seen) → source.counts.idle_reads < 2 ^ 64 - 1 → SourceRests 1 (record { waiting = []; ended = false; shut = false; took = 0; sent = 0 }) source source → ⊥
unasked source h rest = let rose = (rest.idle refl (omega arith)).1 in omega (arith, rose, h)

-- a source's bytes come behind those that it gave, a sink's behind those that it took
links : after_taking (after_giving (record { given = Some (1 ∷ []); taken = Some []; ended = false; shut = false; arrived = None; cap = None; room = None; unfailing = false }) (2 ∷ []) true) (5 ∷ []) false
    ≡ record { given = Some (1 ∷ 2 ∷ []); taken = Some (5 ∷ []); ended = true; shut = false; arrived = None; cap = None; room = None; unfailing = false }
links = refl
