-- Outcomes that the clauses refuse, each at small values.
use Rattle.std.proofs.Common.{◌≡◌, ◌<◌, ◌-◌, ◌^◌, ◌⊎◌, inl, inr, ℕ, Bool, true, false, Option, Some, None, Err, List, [], ◌∷◌, length, refl, ap, sym, ◌∙◌, arith}
use Rattle.net_ends.specs.Faults.{no_kind, with_kind}
use Rattle.net_ends.specs.declared.kinds.Kind.{Kind}
use Rattle.net_ends.specs.declared.kinds.Kinds.{Kinds}
use Rattle.half_close_relay.specs.declared.halt.Halt.{Halt}
use Rattle.half_close_relay.specs.declared.pumped.Pumped.{Pumped}
use Rattle.half_close_relay.specs.declared.pumped.Side.{Side}
use Rattle.half_close_relay.specs.Ways.{Way, Move, Moves, Seen, Gives, Takes, Failed, SourceRests, SinkRests, SinkIsDue, Untaken, TakeEnds, CarryEnds}
use Rattle.half_close_relay.specs.Pumping.{Relaying, BothShut, Serves, RoundEnds, SideFailed, FailedBy, Pumps, PumpEnds}

-- a direction by its fields
abbrev way : List ℕ → Bool → Bool → ℕ → ℕ → Way
way waiting ended shut took sent = record { waiting = waiting; ended = ended; shut = shut; took = took; sent = sent }

abbrev running : Way
running = way [] false false 0 0

abbrev over : Way
over = way [] true true 0 0

-- the sink took 1, which waits still
doubled : Moves (way (1 ∷ 2 ∷ []) false false 0 0) (way (1 ∷ 2 ∷ []) false false 0 1) (record { given = []; sent = 1 ∷ []; ends = false; shuts = false }) → ⊥
doubled h = let e = h.kept in cc

-- the source gave 2 while 1 waited, and 2 stands before it
overtaken : Moves (way (1 ∷ []) false false 0 0) (way (2 ∷ 1 ∷ []) false false 1 0) (record { given = 2 ∷ []; sent = []; ends = false; shuts = false }) → ⊥
overtaken h = let e = h.kept in cc

-- the source gave 7, and a byte that it didn't give waits behind that
padded : Moves running (way (7 ∷ 0 ∷ []) false false 1 0) (record { given = 7 ∷ []; sent = []; ends = false; shuts = false }) → ⊥
padded h = let e = h.kept in cc

-- the sink took a byte that the source didn't give
echoed : Moves running running (record { given = []; sent = 5 ∷ []; ends = false; shuts = false }) → ⊥
echoed h = let e = h.kept in cc

-- a byte that the source gave is nowhere
dropped : Moves running (way [] false false 1 0) (record { given = 5 ∷ []; sent = []; ends = false; shuts = false }) → ⊥
dropped h = let e = h.kept in cc

-- a source that has ended was read
read-again : Moves (way [] true false 0 0) (way (3 ∷ []) true false 1 0) (record { given = 3 ∷ []; sent = []; ends = false; shuts = false }) → ⊥
read-again h = let e = (h.silent refl).0 in cc

-- an end that was read is forgotten, and one that wasn't is made up
forgotten : Moves (way (1 ∷ []) false false 0 0) (way (1 ∷ []) false false 0 0) (record { given = []; sent = []; ends = true; shuts = false }) → ⊥
forgotten h = let e = h.ended' in cc

made-up : Moves running (way [] true false 0 0) (record { given = []; sent = []; ends = false; shuts = false }) → ⊥
made-up h = let e = h.ended' in cc

-- a sink is shut whose source hasn't ended
cut-off : Moves running (way [] false true 0 0) (record { given = []; sent = []; ends = false; shuts = true }) → ⊥
cut-off h = let e = (h.due refl).0 in cc

-- a sink is shut twice, and one counts as shut that wasn't
shut-again : Moves over over (record { given = []; sent = []; ends = false; shuts = true }) → ⊥
shut-again h = let e = h.once refl in cc

unshut : Moves (way [] true false 0 0) (way [] true true 0 0) (record { given = []; sent = []; ends = false; shuts = false }) → ⊥
unshut h = let e = h.shut' in cc

-- a byte that waits counts as sent
uncounted : Moves (way (1 ∷ 2 ∷ []) false false 0 0) (way (2 ∷ []) false false 0 2) (record { given = []; sent = 1 ∷ []; ends = false; shuts = false }) → ⊥
uncounted h = let e = h.sent' in cc

-- a total goes on at nothing behind its type's end
wrapped : Moves (way (1 ∷ []) false false 0 18446744073709551615) (way [] false false 0 0) (record { given = []; sent = 1 ∷ []; ends = false; shuts = false }) → ⊥
wrapped h = let e = h.sent' in cc

-- a sink that is to be shut and wasn't is at no rest
undone : (sink sink' : Seen) → SinkRests (way [] true false 0 0) sink sink' → ⊥
undone sink sink' h = let e = h.due refl refl in cc

-- no call of the side failed
unfailed : (side : Seen) → side.counts.faults < 2 ^ 64 - 1 → Failed side side → ⊥
unfailed side some h = omega (arith, some, h.rose)

-- one direction alone is over
half : BothShut (record { up = over; down = running }) → ⊥
half h = let e = h.1 in cc

-- of the client more than a quantum was taken, and of the target a quantum behind a byte of the same turn
past-c : (was now : Relaying) (client client' target target' : Seen) (answer : Pumped) → (h : Pumps 0 was now client client' target target' answer) → 65536 < length h.up.given → ⊥
past-c was now client client' target target' answer h more = omega (arith, more, h.quantum_c)

past-t : (was now : Relaying) (client client' target target' : Seen) (answer : Pumped) → (h : Pumps 1 was now client client' target target' answer) → length h.down.given ≡ 65536 → ⊥
past-t was now client client' target target' answer h all = omega (arith, all, h.quantum_t)

-- `Idle` where the client's quantum was taken, and `Moved` where some is left of both
idle-behind-all : (left : ℕ) (now : Relaying) (client client' target target' : Seen) → PumpEnds 0 left now client client' target target' Pumped.Idle → ⊥
idle-behind-all left now client client' target target' h = omega (arith, h.1)

moved-before-all : (now : Relaying) (client client' target target' : Seen) → PumpEnds 1 1 now client client' target target' Pumped.Moved → ⊥
moved-before-all now client client' target target' h = neither 1 1 (omega arith) (omega arith) h.1
  where
    neither : (n m : ℕ) → 0 < n → 0 < m → (n ≡ 0) ⊎ (m ≡ 0) → ⊥
    neither n m some some' (inl e) = omega (arith, some, e)
    neither n m some some' (inr e) = omega (arith, some', e)

-- want of memory where both sides have ended
no-read-due : (left_c left_t : ℕ) (client client' target target' : Seen)
    → PumpEnds left_c left_t (record { up = way (1 ∷ []) true false 0 0; down = over }) client client' target target' Pumped.Memory → ⊥
no-read-due left_c left_t client client' target target' (inl h) = let e = h.unended in cc
no-read-due left_c left_t client client' target target' (inr h) = let e = h.unended in cc

-- a fault of the client where it has ended, and nothing is to be sent to it
no-call-due : (left_c left_t : ℕ) (failed_c failed_t : Option Kind)
    → FailedBy left_c left_t (record { up = way [] true false 0 0; down = running }) failed_c failed_t (Pumped.Fault Side.Client) → ⊥
no-call-due left_c left_t failed_c failed_t h = neither h.0
  where
    neither : SideFailed left_c (way [] true false 0 0) running failed_c → ⊥
    neither (inl x) = let e = x.1.unended in cc
    neither (inr x) = let e = x.1.due refl in cc

-- the target gave 5 behind a fault of its own in the other direction
gone-on : (client client' target target' : Seen) → RoundEnds 9 9 (record { up = way (1 ∷ []) false false 0 0; down = running }) (record { up = way (1 ∷ []) false false 0 0; down = way [] false false 1 1 })
    client client' target target' [] (5 ∷ []) (Err (Pumped.Fault Side.Target)) → ⊥
gone-on client client' target target' h = let e = ap (λ (w : Way). w.took) h.3 in cc

-- the target gave 5, which the client took, before a read of the client failed in the first direction
gone-before : (client client' target target' : Seen) → RoundEnds 9 9 (record { up = running; down = running }) (record { up = running; down = way [] false false 1 1 })
    client client' target target' [] (5 ∷ []) (Err (Pumped.Fault Side.Client)) → ⊥
gone-before client client' target target' h = neither h.2
  where
    neither : (Untaken 9 running running [] × (way [] false false 1 1 ≡ running) × (target' ≡ target)) ⊎ SinkIsDue (way [] false false 1 1) → ⊥
    neither (inl x) = let e = ap (λ (w : Way). w.took) x.1 in cc
    neither (inr x) = let e = x.due refl in cc

-- a fault of the source is answered as want of memory
hidden : (source source' : Seen) → source.counts.faults < source'.counts.faults → TakeEnds 9 running running source source' [] (Err Halt.Memory) → ⊥
hidden source source' rose h = omega (arith, rose, ap (λ (s : Seen). s.counts.faults) h.1)

-- the sink took 5 behind a read that failed
sent-on : (source source' sink sink' : Seen) → sink.told.taken ≡ Some [] → sink'.told.taken ≡ Some (5 ∷ []) → CarryEnds 9 running running source source' sink sink' [] (Err Halt.Source) → ⊥
sent-on source source' sink sink' none some h = let e = ap (λ (s : Seen). s.told.taken) h.2 in cc

-- the source gave 5, the sink took 5 and the sink was shut, each behind a call of that kind that was due to fail
read-anyway : (failed : Option Kind) (old new : Seen) → old.counts.due ≡ Some (with_kind no_kind Kind.Read) → Gives (5 ∷ []) false failed old new → ⊥
read-anyway failed old new e h = let nothing = (h.tried.reads _ e refl).0 in cc

written-anyway : (failed : Option Kind) (old new : Seen) → old.counts.due ≡ Some (with_kind no_kind Kind.Write) → Takes (5 ∷ []) false failed old new → ⊥
written-anyway failed old new e h = let nothing = h.tried.writes _ e refl in cc

shut-anyway : (failed : Option Kind) (old new : Seen) → old.counts.due ≡ Some (with_kind no_kind Kind.Shut) → Takes [] true failed old new → ⊥
shut-anyway failed old new e h = let unshut = h.tried.shuts _ e refl in cc

-- a call of a side failed, and none is said to have
forgiven : (from to : Move) (side side' : Seen) → side.counts.faults < side'.counts.faults → Serves from to None side side' → ⊥
forgiven from to side side' rose h = omega (arith, rose, h.tried.faults refl)

-- a failed read is said to be one alone, and a write that was due to fail is so no more
spent : (from to : Move) (side side' : Seen) → side.counts.due ≡ Some (with_kind (with_kind no_kind Kind.Read) Kind.Write) → side'.counts.due ≡ Some no_kind → Serves from to (Some Kind.Read) side side' → ⊥
spent from to side side' e e' h = let left = ap writes-due (sym e' ∙ h.tried.left _ e) in cc
  where
    writes-due : Option Kinds → Bool
    writes-due None = false
    writes-due (Some due) = due.writes

-- a write failed for which nothing waits, and a call of the target failed too
no-write : (left_c left_t : ℕ) (failed_t : Option Kind) → FailedBy left_c left_t (record { up = running; down = way [] true false 0 0 }) (Some Kind.Write) failed_t (Pumped.Fault Side.Client) → ⊥
no-write left_c left_t failed_t h = neither h.0
  where
    neither : SideFailed left_c running (way [] true false 0 0) (Some Kind.Write) → ⊥
    neither (inl x) = let e = x.0 in cc
    neither (inr x) = let e = x.0 in cc

both-failed : (left_c left_t : ℕ) (now : Relaying) (failed_c : Option Kind) → FailedBy left_c left_t now failed_c (Some Kind.Read) (Pumped.Fault Side.Client) → ⊥
both-failed left_c left_t now failed_c h = let e = h.1 in cc

-- a read is due to fail, and its source is said to rest
passed-by : (left : ℕ) (source source' : Seen) → 0 < left → source.counts.due ≡ Some (with_kind no_kind Kind.Read) → SourceRests left running source source' → ⊥
passed-by left source source' some e h = let undue = (h.idle refl some).2 _ e in cc
