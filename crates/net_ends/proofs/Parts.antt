-- The part of some bytes that was given.
use Rattle.std.proofs.Common.{◌≡◌, ℕ, ◌+◌, Bool, List, ◌++◌, Option, Some, take, drop, ap, sym, ◌∙◌}
use Rattle.std.proofs.Math.Seq.{take-add}
use Rattle.std.proofs.lemmas.List.{take-append-drop}
use mathlib.Core.List.{IsPrefix}
use Rattle.net_ends.specs.Told.{Arrival}

-- what was given, with the next bytes behind it
pub given_more : (bytes buffer : List ℕ) (given n : ℕ) → take n buffer ≡ take n (drop given bytes) → take (given + n) bytes ≡ take given bytes ++ take n buffer
given_more bytes buffer given n front = take-add given n bytes ∙ ap (λ (z : List ℕ). take given bytes ++ z) (sym front)

-- it is a part of what arrived
pub given_part : (bytes : List ℕ) (ends : Bool) (n : ℕ) (arrival : Arrival) (given : List ℕ)
    → ◌≡◌ {A = Option Arrival} (Some (record { bytes = bytes; ends = ends })) (Some arrival) → Some (take n bytes) ≡ Some given → IsPrefix given arrival.bytes
given_part bytes ends n arrival given is_arrival is_given =
    let whole : Arrival = record { bytes = bytes; ends = ends } in
    let same : whole ≡ arrival = cc is_arrival in
    let same_bytes : bytes ≡ arrival.bytes = ap (λ (z : Arrival). z.bytes) same in
    let part : take n bytes ≡ given = cc is_given in
    (drop n bytes, ap (λ (z : List ℕ). z ++ drop n bytes) (sym part) ∙ (take-append-drop n bytes ∙ same_bytes))

-- what was given is the front of all
pub front_of : (bytes : List ℕ) (n : ℕ) → IsPrefix (take n bytes) bytes
front_of bytes n = (drop n bytes, take-append-drop n bytes)
