-- How sendings and their counts add up.
use Rattle.std.proofs.Common.{◌≡◌, ◌+◌, ◌≤◌, ℕ, List, [], ◌++◌, take, drop, Option, Some, None, refl, ap, sym, ◌∙◌, append_assoc, arith}
use Rattle.std.proofs.lemmas.List.{append-nil}
use Rattle.std.proofs.Math.Seq.{take-add}
use Rattle.net_ends.specs.Told.{Told, more}
use Rattle.net_ends.specs.Counts.{Counts, Later, Rose}

pub more-nil : (o : Option (List ℕ)) → more o [] ≡ o
more-nil None = refl
more-nil (Some b) = ap (λ (z : List ℕ). Some z) (append-nil b)

pub more-more : (o : Option (List ℕ)) (x y : List ℕ) → more (more o x) y ≡ more o (x ++ y)
more-more None x y = refl
more-more (Some b) x y = ap (λ (z : List ℕ). Some z) (append_assoc b x y)

pub takes-none : (told : Told) (bytes : List ℕ) → told ≡ record told { taken = more told.taken (take 0 bytes) }
takes-none told bytes = sym (ap (λ (z : Option (List ℕ)). let t : Told = record told { taken = z } in t) (more-nil told.taken))

pub takes-on : (first told now : Told) (bytes : List ℕ) (at n : ℕ) →
    told ≡ record first { taken = more first.taken (take at bytes) } → now ≡ record told { taken = more told.taken (take n (drop at bytes)) } →
    now ≡ record first { taken = more first.taken (take (at + n) bytes) }
takes-on first told now bytes at n h k =
    k ∙ (ap (λ (t : Told). let u : Told = record t { taken = more t.taken (take n (drop at bytes)) } in u) h
    ∙ ap (λ (z : Option (List ℕ)). let u : Told = record first { taken = z } in u) (more-more first.taken (take at bytes) (take n (drop at bytes)) ∙ ap (more first.taken) (sym (take-add at n bytes))))

pub later-same : (a : Counts) → Later a a
later-same a = record { faults = omega arith; idle_reads = omega arith; idle_writes = omega arith }

pub later-on : (a b c : Counts) → Later a b → Later b c → Later a c
later-on a b c h k = record { faults = omega (arith, h.faults, k.faults); idle_reads = omega (arith, h.idle_reads, k.idle_reads); idle_writes = omega (arith, h.idle_writes, k.idle_writes) }

pub rose-before : (a b c : ℕ) → a ≤ b → Rose b c → Rose a c
rose-before a b c h k = omega arith

pub rose-after : (a b c : ℕ) → Rose a b → b ≤ c → Rose a c
rose-after a b c h k = omega arith
