-- The names in requests.
use Rattle.std.proofs.Common.{ℕ, suc, ◌≡◌, ◌≤◌, ◌+◌, Option, Some, None, option_map, List, [], ◌∷◌, length, get_or, Fits, w8, refl, subst, arith}
use Rattle.std.specs.Prelude.{IfSome}
use Rattle.addr_pattern.specs.declared.front.Front.{Front}
use Rattle.addr_pattern.specs.declared.front.BadAt.{BadAt}
use Rattle.addr_pattern.specs.declared.front.Span.{Span}
use Rattle.socks_grammar.specs.Fronts.{IsFront}
use Rattle.socks_grammar.specs.Grammar.{Read}
use Rattle.socks4_codec.specs.declared.request.Request4.{Request4}
use Rattle.socks4_codec.specs.Parts.{parts4}
use Rattle.socks4_codec.specs.Placed.{IsRequest4, bytes_in}
use Rattle.socks5_codec.specs.declared.message.HostAt.{HostAt}
use Rattle.socks5_codec.specs.declared.message.Request5.{Request5}
use Rattle.socks5_codec.specs.Parts.{request_spelled}
use Rattle.socks5_codec.specs.Placed.{IsRequest5, NameStands, host_in}
use Rattle.handshake_core.specs.Asking.{IsNameAt4, IsHostAt}
use Rattle.handshake_core.specs.Readers.{AllBytes, Fine}
use Rattle.handshake_core.proofs.Fine.{HostNamed, OptionNamed, PartsNamed, AskedNamed, parts4-fine, request_spelled-fine}

pub all-bytes : (bytes : List ℕ) → ((i : ℕ) → Fits w8 (get_or bytes i 0)) → AllBytes bytes
all-bytes [] h = tt
all-bytes (b ∷ bytes) h = let f : Fits w8 b = h 0 in (omega (arith, f), all-bytes bytes (λ i. h (suc i)))

name4-at : (bytes : List ℕ) (o : Option Span) (len : ℕ) → OptionNamed (option_map (bytes_in bytes) o) → IfSome o (λ s. s.at + s.len ≤ len) → len ≤ length bytes → IsNameAt4 bytes o
name4-at bytes None len h k j = tt
name4-at bytes (Some s) len h k j = record { inside = omega (arith, k, j); named = h }

pub name-at4 : (bytes : List ℕ) (r : Request4) (len : ℕ) → AllBytes bytes → IsRequest4 bytes r len → IsNameAt4 bytes r.name
name-at4 bytes r len all h =
    let f : Fine 520 PartsNamed 0 bytes (parts4 0 bytes) = parts4-fine.law 0 bytes all in
    let k = subst (Fine 520 PartsNamed 0 bytes) h.parts f in
    name4-at bytes r.name len k.2 h.placed.name_inside h.inside

name5-at : (bytes : List ℕ) (host : HostAt) (len : ℕ) → HostNamed (host_in bytes host) → NameStands host 5 len → len ≤ length bytes → IsHostAt bytes host
name5-at bytes (HostAt.Addr a) len h k j = tt
name5-at bytes (HostAt.Name s) len h k j = let e = k.1 in record { inside = omega (arith, e, j); named = h }

pub name-at5 : (bytes : List ℕ) (r : Request5) (len : ℕ) → AllBytes bytes → IsRequest5 bytes r len → IsHostAt bytes r.host
name-at5 bytes r len all h =
    let f : Fine 262 AskedNamed 0 bytes (request_spelled 0 bytes) = request_spelled-fine.law 0 bytes all in
    let k = subst (Fine 262 AskedNamed 0 bytes) h.spelled f in
    name5-at bytes r.host len k.2 h.name_at h.inside

-- ---- what a reader answers, as an equation

pub front-more : {A B : Type 0} (view : A → B) (x : Read B) → IsFront view Front.More x → x ≡ Read.Short
front-more view (Read.Got b at rest) h = absurd h
front-more view Read.Short h = refl
front-more view (Read.Wrong at byte kind) h = absurd h

pub front-bad : {A B : Type 0} (view : A → B) (bad : BadAt) (x : Read B) → IsFront view (Front.Bad bad) x → x ≡ Read.Wrong bad.at bad.byte bad.kind
front-bad view bad (Read.Got b at rest) h = absurd h
front-bad view bad Read.Short h = absurd h
front-bad view bad (Read.Wrong at byte kind) h = rw h refl

pub record Found {B : Type 0} (x : Read B) (b : B) (len : ℕ) : Type 0 where
  pub rest : List ℕ
  pub is : x ≡ Read.Got b len rest

pub front-whole : {A B : Type 0} (view : A → B) (value : A) (len : ℕ) (x : Read B) → IsFront view (Front.Whole value len) x → Found x (view value) len
front-whole view value len (Read.Got b at rest) h = record { rest = rest; is = rw h.0 (rw h.1 refl) }
front-whole view value len Read.Short h = absurd h
front-whole view value len (Read.Wrong at byte kind) h = absurd h
