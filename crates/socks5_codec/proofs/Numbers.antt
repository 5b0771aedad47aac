-- Addresses and methods in the bytes.
use Rattle.std.proofs.Common.{ℕ, ◌≡◌, ◌+◌, ◌-◌, ◌<◌, ◌≤◌, true, List, [], ◌∷◌, length, take, drop, get_or, refl, sym, ap, ◌∙◌, arith, length-drop}
use Rattle.std.specs.Int.{w32, w128, from_be_bytes}
use Rattle.std.proofs.lemmas.List.{drop-drop}
use Rattle.addr_pattern.specs.declared.addr.Addr.{Addr}
use Rattle.addr_pattern.specs.declared.host.Host.{Host}
use Rattle.addr_pattern.specs.declared.front.BadKind.{BadKind}
use Rattle.socks_grammar.specs.Grammar.{Read, Reader, and_then, done, any_bytes, greeting}
use Rattle.socks5_codec.specs.declared.message.HostAt.{HostAt}
use Rattle.socks5_codec.specs.Parts.{ipv4_spelled, ipv6_spelled}
use Rattle.socks5_codec.specs.Placed.{NameStands, IsGreeting, bytes_in, host_in}
use Rattle.socks5_codec.specs.Steps.{IsHostAt}
use Rattle.socks5_codec.proofs.Bytes.{bytes-got, bytes-short}

pub any-got : (n at : ℕ) (xs : List ℕ) → n ≤ length xs → any_bytes n at xs ≡ Read.Got (take n xs) (at + n) (drop n xs)
any-got n at xs h = bytes-got (λ _. true) BadKind.Field n at (at + n) xs h (λ k g. refl) refl

pub any-short : (n at : ℕ) (xs : List ℕ) → length xs < n → any_bytes n at xs ≡ Read.Short
any-short n at xs h = bytes-short (λ _. true) BadKind.Field n at xs h (λ k g. refl)

-- a host of so many bytes, from a place on
pub host-is : (read : Reader Host) (bytes xs : List ℕ) (at n first : ℕ) (host : HostAt) → xs ≡ drop at bytes → at ≤ length bytes → n ≤ length xs
    → NameStands host first (at + n + 2) → read at xs ≡ Read.Got (host_in bytes host) (at + n) (drop n xs)
    → IsHostAt read bytes at first host (at + n)
host-is read bytes xs at n first host rest h l stands e =
    let long = length-drop at bytes in
    let short = ap length rest in
    let behind : drop n xs ≡ drop (at + n) bytes = ap (drop n) rest ∙ drop-drop n at bytes in
    record {
      spelled = ap (read at) (sym rest) ∙ (e ∙ ap (λ (r : List ℕ). Read.Got (host_in bytes host) (at + n) r) behind);
      name_at = stands;
      inside = omega arith;
    }

pub ipv4-is : (bytes xs octets : List ℕ) (at addr : ℕ) → xs ≡ drop at bytes → at ≤ length bytes → 4 ≤ length xs → octets ≡ take 4 xs
    → addr ≡ from_be_bytes w32 octets → IsHostAt ipv4_spelled bytes at at (HostAt.Addr (Addr.V4 addr)) (at + 4)
ipv4-is bytes xs octets at addr rest h l first is =
    let value : from_be_bytes w32 (take 4 xs) ≡ addr = sym (is ∙ ap (from_be_bytes w32) first) in
    host-is ipv4_spelled bytes xs at 4 at (HostAt.Addr (Addr.V4 addr)) rest h l tt
    (ap (λ (r : Read (List ℕ)). and_then (and_then r (λ bs. done (from_be_bytes w32 bs))) (λ n. done (Host.Addr (Addr.V4 n)))) (any-got 4 at xs l)
    ∙ ap (λ n. Read.Got (Host.Addr (Addr.V4 n)) (at + 4) (drop 4 xs)) value)

pub ipv6-is : (bytes xs octets : List ℕ) (at addr : ℕ) → xs ≡ drop at bytes → at ≤ length bytes → 16 ≤ length xs → octets ≡ take 16 xs
    → addr ≡ from_be_bytes w128 octets → IsHostAt ipv6_spelled bytes at at (HostAt.Addr (Addr.V6 addr)) (at + 16)
ipv6-is bytes xs octets at addr rest h l first is =
    let value : from_be_bytes w128 (take 16 xs) ≡ addr = sym (is ∙ ap (from_be_bytes w128) first) in
    host-is ipv6_spelled bytes xs at 16 at (HostAt.Addr (Addr.V6 addr)) rest h l tt
    (ap (λ (r : Read (List ℕ)). and_then (and_then r (λ bs. done (from_be_bytes w128 bs))) (λ n. done (Host.Addr (Addr.V6 n)))) (any-got 16 at xs l)
    ∙ ap (λ n. Read.Got (Host.Addr (Addr.V6 n)) (at + 16) (drop 16 xs)) value)

-- ---- a greeting

greeting-behind : (bytes : List ℕ) → 2 ≤ length bytes → get_or bytes 0 0 ≡ 5 → greeting 0 bytes ≡ any_bytes (get_or bytes 1 0) 2 (drop 2 bytes)
greeting-behind [] h e = absurd (omega arith)
greeting-behind (a ∷ []) h e = absurd (omega arith)
greeting-behind (a ∷ b ∷ bs) h e = rw e refl

module _ (bytes xs : List ℕ) (count : ℕ) (rest : xs ≡ drop 2 bytes) (some : 2 ≤ length bytes) (version : get_or bytes 0 0 ≡ 5) (is : count ≡ get_or bytes 1 0) where
  behind-count : greeting 0 bytes ≡ any_bytes count 2 xs
  behind-count = greeting-behind bytes some version ∙ (ap (λ n. any_bytes n 2 (drop 2 bytes)) (sym is) ∙ ap (any_bytes count 2) (sym rest))

  pub greeting-short : length xs < count → greeting 0 bytes ≡ Read.Short
  greeting-short h = behind-count ∙ any-short count 2 xs h

  pub greeting-whole : count ≤ length xs → IsGreeting bytes (record { methods = record { at = 2; len = count } }) (2 + count)
  greeting-whole h =
      let long = length-drop 2 bytes in
      let short = ap length rest in
      let size : 2 + count - 2 ≡ count = omega arith in
      let behind : drop count xs ≡ drop (2 + count) bytes = ap (drop count) rest ∙ drop-drop count 2 bytes in
      let part : take count xs ≡ bytes_in bytes (record { at = 2; len = count }) = ap (take count) rest ∙ ap (λ m. take m (drop 2 bytes)) (sym size) in
      record {
        offered = behind-count ∙ (any-got count 2 xs h ∙ (ap (λ (r : List ℕ). Read.Got (take count xs) (2 + count) r) behind
            ∙ ap (λ (r : List ℕ). Read.Got r (2 + count) (drop (2 + count) bytes)) part));
        begins = refl;
        ends = refl;
        inside = omega arith;
      }
