-- How bytes that a link gave or took, and its counts, add up.
use Rattle.std.proofs.Common.{◌≡◌, ◌+◌, ◌-◌, ◌≤◌, ◌^◌, ℕ, zero, suc, Bool, ◌||◌, true, false, min, List, [], ◌++◌, take, drop, Option, Some, None, refl, ap, sym, ◌∙◌, append_assoc, zero-add, add-zero, ◌<◌, arith}
use Rattle.std.proofs.lemmas.List.{append-nil}
use Rattle.std.proofs.Math.Seq.{take-add}
use Rattle.net_ends.specs.Told.{Told, more}
use Rattle.net_ends.specs.Counts.{Counts, Later, Rose}
use Rattle.half_close_relay.specs.Ways.{total, after_giving, after_taking, KeepsArrival}

pub more-nil : (o : Option (List ℕ)) → more o [] ≡ o
more-nil None = refl
more-nil (Some b) = ap (λ (z : List ℕ). Some z) (append-nil b)

pub more-more : (o : Option (List ℕ)) (x y : List ℕ) → more (more o x) y ≡ more o (x ++ y)
more-more None x y = refl
more-more (Some b) x y = ap (λ (z : List ℕ). Some z) (append_assoc b x y)

pub or-or : (a b c : Bool) → a || (b || c) ≡ (a || b) || c
or-or true b c = refl
or-or false b c = refl

pub takes-on : (first told now : Told) (bytes : List ℕ) (at n : ℕ) →
    told ≡ record first { taken = more first.taken (take at bytes) } → now ≡ record told { taken = more told.taken (take n (drop at bytes)) } →
    now ≡ record first { taken = more first.taken (take (at + n) bytes) }
takes-on first told now bytes at n h k =
    k ∙ (ap (λ (t : Told). let u : Told = record t { taken = more t.taken (take n (drop at bytes)) } in u) h
    ∙ ap (λ (z : Option (List ℕ)). let u : Told = record first { taken = z } in u) (more-more first.taken (take at bytes) (take n (drop at bytes)) ∙ ap (more first.taken) (sym (take-add at n bytes))))

pub takes-none : (told : Told) (bytes : List ℕ) → told ≡ record told { taken = more told.taken (take 0 bytes) }
takes-none told bytes = sym (ap (λ (z : Option (List ℕ)). let t : Told = record told { taken = z } in t) (more-nil told.taken))

-- nothing was given, and nothing taken
pub gives-nothing : (told : Told) → told ≡ after_giving told [] false
gives-nothing told = λ i. record told { given = sym (more-nil told.given) i }

pub takes-nothing : (told : Told) → told ≡ after_taking told [] false
takes-nothing told = λ i. record told { taken = sym (more-nil told.taken) i }

pub later-same : (a : Counts) → Later a a
later-same a = record { faults = omega arith; idle_reads = omega arith; idle_writes = omega arith }

pub later-on : (a b c : Counts) → Later a b → Later b c → Later a c
later-on a b c h k = record { faults = omega (arith, h.faults, k.faults); idle_reads = omega (arith, h.idle_reads, k.idle_reads); idle_writes = omega (arith, h.idle_writes, k.idle_writes) }

pub rose-before : (a b c : ℕ) → a ≤ b → Rose b c → Rose a c
rose-before a b c h k = omega arith

pub rose-after : (a b c : ℕ) → Rose a b → b ≤ c → Rose a c
rose-after a b c h k = omega arith

pub keeps-same : (told : Told) → KeepsArrival told told
keeps-same told = record { behind = λ h. h; first = λ h. h }

pub keeps-on : (a b c : Told) → KeepsArrival a b → KeepsArrival b c → KeepsArrival a c
keeps-on a b c h k = record { behind = λ x. k.behind (h.behind x); first = λ x. k.first (h.first x) }

pub total-total : (a m n : ℕ) → total (total a m) n ≡ total a (m + n)
total-total a zero n = ap (total a) (sym (zero-add n))
total-total a (suc m) zero = ap (total a) (sym (add-zero (suc m)))
total-total a (suc m) (suc n) = sums a m n ∙ ap (total a) (joined m n)
  where
    sums : (a m n : ℕ) → min (min (a + suc m) (2 ^ 64 - 1) + suc n) (2 ^ 64 - 1) ≡ min (a + suc (m + suc n)) (2 ^ 64 - 1)
    sums a m n = omega arith

    joined : (m n : ℕ) → suc (m + suc n) ≡ suc m + suc n
    joined m n = omega arith

pub total-in-range : (a n : ℕ) → a < 2 ^ 64 → total a n ≡ min (a + n) (2 ^ 64 - 1)
total-in-range a zero h = omega arith
total-in-range a (suc n) h = refl
