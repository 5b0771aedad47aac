-- What is asked for, beside what is spelled.
use Rattle.std.proofs.Common.{ℕ, ◌≡◌, ◌==◌, ◌||◌, Bool, true, false, cond, List, [], ◌∷◌, refl, sym, ap, ◌∙◌, ◌+◌}
use Rattle.addr_pattern.specs.declared.host.Host.{Host}
use Rattle.addr_pattern.specs.declared.front.BadKind.{BadKind}
use Rattle.socks_grammar.specs.Grammar.{Read, Reader, Asked, ◌>>=◌, and_then, done, byte_that, any_byte, command5, number16, number32, number128, name5, is_atyp, host5, host_by_type, request5, UdpHeader, any_bytes, udp_header}
use Rattle.socks5_codec.specs.Parts.{Destination, typed_host, host_spelled, ipv4_spelled, ipv6_spelled, name_spelled, meant, destination, asked_for, asked_by, request_spelled, header_spelled, header_by}

abbrev pub map-read : {A B : Type 0} → (A → B) → Read A → Read B
map-read f (Read.Got a at rest) = Read.Got (f a) at rest
map-read f Read.Short = Read.Short
map-read f (Read.Wrong at byte kind) = Read.Wrong at byte kind

-- two readers that go on from the same
pub bind-map : {A B C : Type 0} (r : Read A) (f : A → Reader B) (g : A → Reader C) (h : B → C)
    → ((a : A) (at : ℕ) (rest : List ℕ) → g a at rest ≡ map-read h (f a at rest)) → and_then r g ≡ map-read h (and_then r f)
bind-map (Read.Got a at rest) f g h same = same a at rest
bind-map Read.Short f g h same = refl
bind-map (Read.Wrong at byte kind) f g h same = refl

done-map : {A B C : Type 0} (r : Read A) (f : A → B) (g : A → C) (h : B → C) → ((a : A) → g a ≡ h (f a))
    → and_then r (λ a. done (g a)) ≡ map-read h (and_then r (λ a. done (f a)))
done-map (Read.Got a at rest) f g h same = ap (λ c. Read.Got c at rest) (same a)
done-map Read.Short f g h same = refl
done-map (Read.Wrong at byte kind) f g h same = refl

chosen-map : (t u : Bool) (x y z x' y' z' : Read Host) → x ≡ map-read meant x' → y ≡ map-read meant y' → z ≡ map-read meant z'
    → cond t x (cond u y z) ≡ map-read meant (cond t x' (cond u y' z'))
chosen-map true u x y z x' y' z' p q r = p
chosen-map false true x y z x' y' z' p q r = q
chosen-map false false x y z x' y' z' p q r = r

chosen-at : {A : Type 0} (t u : Bool) (x y z : Reader A) (at : ℕ) (bs : List ℕ) → cond t x (cond u y z) at bs ≡ cond t (x at bs) (cond u (y at bs) (z at bs))
chosen-at true u x y z at bs = refl
chosen-at false true x y z at bs = refl
chosen-at false false x y z at bs = refl

-- the host that is meant, of the one that is spelled
pub host-meant : (at : ℕ) (xs : List ℕ) → host5 at xs ≡ map-read meant (typed_host at xs)
host-meant at [] = refl
host-meant at (b ∷ bs) = bind-map (cond (is_atyp b) (Read.Got b (at + 1) bs) (Read.Wrong at b BadKind.Atyp)) host_spelled host_by_type meant (λ atyp place rest.
    chosen-at (atyp == 1) (atyp == 4) _ _ _ place rest
    ∙ (chosen-map (atyp == 1) (atyp == 4) _ _ _ _ _ _ (done-map (number32 place rest) _ _ meant (λ n. refl)) (done-map (number128 place rest) _ _ meant (λ n. refl))
    (done-map (name5 place rest) _ _ meant (λ name. refl))
    ∙ ap (map-read meant) (sym (chosen-at (atyp == 1) (atyp == 4) ipv4_spelled ipv6_spelled name_spelled place rest))))

-- a port behind a host
port-map : {A : Type 0} (make : Host → ℕ → A) (keep : Destination → A) (mean : A → A) (r : Read Host)
    → ((h : Host) (port : ℕ) → make (meant h) port ≡ mean (keep (record { host = h; port = port })))
    → and_then (map-read meant r) (λ host. number16 >>= λ port. done (make host port))
    ≡ map-read mean (and_then (and_then r (λ host. number16 >>= λ port. done (record { host = host; port = port }))) (λ d. done (keep d)))
port-map make keep mean (Read.Got h at rest) same = number-map (number16 at rest)
  where
    number-map : (n : Read ℕ) → and_then n (λ port. done (make (meant h) port)) ≡ map-read mean (and_then (and_then n (λ port. done (record { host = h; port = port }))) (λ d. done (keep d)))
    number-map (Read.Got port at rest) = ap (λ a. Read.Got a at rest) (same h port)
    number-map Read.Short = refl
    number-map (Read.Wrong at byte kind) = refl
port-map make keep mean Read.Short same = refl
port-map make keep mean (Read.Wrong at byte kind) same = refl

pub destination-meant : {A : Type 0} (make : Host → ℕ → A) (keep : Destination → A) (mean : A → A)
    → ((h : Host) (port : ℕ) → make (meant h) port ≡ mean (keep (record { host = h; port = port }))) → (at : ℕ) (xs : List ℕ)
    → (host5 >>= λ host. number16 >>= λ port. done (make host port)) at xs ≡ map-read mean ((destination >>= λ d. done (keep d)) at xs)
destination-meant make keep mean same at xs =
    ap (λ r. and_then r (λ host. number16 >>= λ port. done (make host port))) (host-meant at xs) ∙ port-map make keep mean (typed_host at xs) same

-- ---- a request

abbrev is-code : ℕ → Bool
is-code b = b == 1 || b == 2 || b == 3

abbrev spelled-destination : ℕ → Reader Asked
spelled-destination code = destination >>= λ d. done (asked_for (command5 code) d)

abbrev asked-destination : ℕ → Reader Asked
asked-destination code = host5 >>= λ host. number16 >>= λ port. done (record { command = command5 code; host = host; port = port })

pub request-asked : (bytes : List ℕ) → request5 0 bytes ≡ map-read asked_by (request_spelled 0 bytes)
request-asked bytes =
    bind-map (byte_that (λ b. b == 5) BadKind.Version 0 bytes)
    (λ version. byte_that is-code BadKind.Command >>= λ code. any_byte >>= λ reserved. spelled-destination code)
    (λ version. byte_that is-code BadKind.Command >>= λ code. any_byte >>= λ reserved. asked-destination code) asked_by
    (λ version at rest. bind-map (byte_that is-code BadKind.Command at rest)
    (λ code. any_byte >>= λ reserved. spelled-destination code) (λ code. any_byte >>= λ reserved. asked-destination code) asked_by
    (λ code at rest. bind-map (any_byte at rest) (λ reserved. spelled-destination code) (λ reserved. asked-destination code) asked_by
    (λ reserved at rest. destination-meant (λ host port. record { command = command5 code; host = host; port = port }) (asked_for (command5 code)) asked_by (λ h port. refl) at rest)))

-- ---- the header of a datagram

abbrev spelled-header : ℕ → Reader UdpHeader
spelled-header frag = destination >>= λ d. done (record { frag = frag; host = d.host; port = d.port })

abbrev meant-header : ℕ → Reader UdpHeader
meant-header frag = host5 >>= λ host. number16 >>= λ port. done (record { frag = frag; host = host; port = port })

pub header-meant : (bytes : List ℕ) → udp_header 0 bytes ≡ map-read header_by (header_spelled 0 bytes)
header-meant bytes =
    bind-map (any_bytes 2 0 bytes) (λ reserved. any_byte >>= λ frag. spelled-header frag) (λ reserved. any_byte >>= λ frag. meant-header frag) header_by
    (λ reserved at rest. bind-map (any_byte at rest) (λ frag. spelled-header frag) (λ frag. meant-header frag) header_by
    (λ frag at rest. destination-meant (λ host port. record { frag = frag; host = host; port = port }) (λ d. record { frag = frag; host = d.host; port = d.port }) header_by (λ h port. refl) at rest))
