-- Datagrams that arrived, and datagrams whose bytes stand one behind the other.
use Rattle.std.proofs.Common.{◌≡◌, ◌≤◌, ℕ, ◌+◌, ◌-◌, Option, Some, List, [], ◌∷◌, ◌++◌, take, drop, length, suc, ap, sym, ◌∙◌, refl, arith}
use Rattle.std.proofs.lemmas.List.{take-append-le, drop-append-le, take-append-drop, length-drop}
use Rattle.std.proofs.Math.Seq.{take-length}
use mathlib.Core.List.{IsPrefix}
use Rattle.addr_pattern.specs.declared.endpoint.Endpoint.{Endpoint}
use Rattle.net_ends.specs.declared.datagram.Addressed.{Addressed}
use Rattle.net_ends.specs.declared.datagram.Datagram.{Datagram}
use Rattle.net_ends.specs.InMemory.{cut, total}

-- what was given is a prefix of what arrived
pub prefix-given : (n : ℕ) (datagrams arrived given : List Datagram) → Some datagrams ≡ Some arrived → Some (take n datagrams) ≡ Some given → IsPrefix given arrived
prefix-given n datagrams arrived given is_arrived is_given =
    let same : datagrams ≡ arrived = cc is_arrived in
    let part : take n datagrams ≡ given = cc is_given in
    (drop n datagrams, ap (λ (z : List Datagram). z ++ drop n datagrams) (sym part) ∙ (take-append-drop n datagrams ∙ same))

-- there are as many datagrams as heads
pub length-cut : (heads : List Addressed) (bytes : List ℕ) → length (cut heads bytes) ≡ length heads
length-cut [] bytes = refl
length-cut (head ∷ heads) bytes = ap (λ (z : ℕ). suc z) (length-cut heads (drop head.len bytes))

-- one datagram more
pub cut-more : (heads : List Addressed) (bytes more : List ℕ) (to : Endpoint) → total heads ≡ length bytes
    → cut (heads ++ record { to = to; len = length more } ∷ []) (bytes ++ more) ≡ cut heads bytes ++ record { peer = to; bytes = more } ∷ []
cut-more [] [] more to e = ap (λ (z : List ℕ). record { peer = to; bytes = z } ∷ []) (take-length more)
cut-more [] (byte ∷ bytes) more to e = grind arith
cut-more (head ∷ heads) bytes more to e =
    let within : head.len ≤ length bytes = omega (arith, e) in
    let rest : total heads ≡ length (drop head.len bytes) = omega (arith, e, length-drop head.len bytes) in
    rw (take-append-le head.len bytes more within) (rw (drop-append-le head.len bytes more within)
    (ap (λ (z : List Datagram). record { peer = head.to; bytes = take head.len bytes } ∷ z) (cut-more heads (drop head.len bytes) more to rest)))

-- and its bytes are counted
pub total-more : (heads : List Addressed) (to : Endpoint) (len : ℕ) → total (heads ++ record { to = to; len = len } ∷ []) ≡ total heads + len
total-more [] to len = omega arith
total-more (head ∷ heads) to len = omega (arith, total-more heads to len)
