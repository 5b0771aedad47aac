-- Readers that want more exactly of the proper prefixes of what they read whole.
use Rattle.std.proofs.Common.{ℕ, zero, suc, ◌≡◌, ◌≢◌, ◌+◌, Bool, true, false, cond, nat_lt, Some, List, [], ◌∷◌, ◌++◌, length, take, refl, sym, ap, subst, ◌∙◌, arith, append_assoc, length-append}
use Rattle.std.specs.Int.{w16, w32, from_be_bytes}
use Rattle.std.specs.List.{list_all, slice_get}
use Rattle.std.proofs.lemmas.List.{append-nil, take_at}
use Rattle.std.proofs.lemmas.List.Folds.{list_all-append}
use Rattle.addr_pattern.specs.declared.front.BadKind.{BadKind}
use Rattle.socks_grammar.specs.Grammar.{Read, Reader, ◌>>=◌, and_then, done, byte_that, any_byte, bytes_that, any_bytes, number16, number32}
use Rattle.socks_grammar.specs.Prefixes.{IsProperPrefix, StopsExactly}

abbrev pub are-bytes : List ℕ → Bool
are-bytes xs = list_all (λ b. nat_lt b 256) xs

-- a value, with the bytes that it takes: whatever follows these, it is found
pub record FoundAt {A : Type 0} (read : Reader A) (at : ℕ) (bytes : List ℕ) (a : A) (place : ℕ) (rest : List ℕ) : Type 0 where
  pub used : List ℕ
  pub is : bytes ≡ used ++ rest
  pub place-is : place ≡ at + length used
  pub always : (more : List ℕ) → read at (used ++ more) ≡ Read.Got a place more

-- bytes that make a whole of what is too short
pub record LacksAt {A : Type 0} (read : Reader A) (at : ℕ) (bytes : List ℕ) : Type 0 where
  pub more : List ℕ
  pub a : A
  pub fit : are-bytes more ≡ true
  pub whole : read at (bytes ++ more) ≡ Read.Got a (at + length (bytes ++ more)) []

-- what stands before a bad byte is too short, and with that byte it is bad whatever follows
pub record WrongAt {A : Type 0} (read : Reader A) (at : ℕ) (bytes : List ℕ) (place byte : ℕ) (kind : BadKind) : Type 0 where
  pub used : List ℕ
  pub rest : List ℕ
  pub is : bytes ≡ used ++ byte ∷ rest
  pub place-is : place ≡ at + length used
  pub short : read at used ≡ Read.Short
  pub always : (more : List ℕ) → read at (used ++ byte ∷ more) ≡ Read.Wrong place byte kind

abbrev pub Tells : {A : Type 0} → Reader A → ℕ → List ℕ → Read A → Type 0
Tells read at bytes (Read.Got a place rest) = FoundAt read at bytes a place rest
Tells read at bytes Read.Short = LacksAt read at bytes
Tells read at bytes (Read.Wrong place byte kind) = WrongAt read at bytes place byte kind

pub record IsExact {A : Type 0} (read : Reader A) : Type 0 where
  pub law : (at : ℕ) (bytes : List ℕ) → Tells read at bytes (read at bytes)

-- ---- one reader for another

moved : {A : Type 0} (read other : Reader A) → ((at : ℕ) (bytes : List ℕ) → read at bytes ≡ other at bytes)
    → (at : ℕ) (bytes : List ℕ) (r : Read A) → Tells other at bytes r → Tells read at bytes r
moved read other same at bytes (Read.Got a place rest) t = record {
  used = t.used;
  is = t.is;
  place-is = t.place-is;
  always = λ more. same at (t.used ++ more) ∙ t.always more;
}
moved read other same at bytes Read.Short t = record { more = t.more; a = t.a; fit = t.fit; whole = same at (bytes ++ t.more) ∙ t.whole }
moved read other same at bytes (Read.Wrong place byte kind) t = record {
  used = t.used;
  rest = t.rest;
  is = t.is;
  place-is = t.place-is;
  short = same at t.used ∙ t.short;
  always = λ more. same at (t.used ++ byte ∷ more) ∙ t.always more;
}

pub same-exact : {A : Type 0} (read other : Reader A) → ((at : ℕ) (bytes : List ℕ) → read at bytes ≡ other at bytes) → IsExact other → IsExact read
same-exact read other same good = record {
  law = λ at bytes. subst (Tells read at bytes) (sym (same at bytes)) (moved read other same at bytes (other at bytes) (good.law at bytes));
}

-- ---- one reader behind another

nothing-used : (used rest : List ℕ) → [] ≡ used ++ rest → (length used ≡ 0) × (rest ≡ [])
nothing-used [] rest e = (refl, sym e)
nothing-used (b ∷ used) rest e = cc

nothing-bad : {B : Type 0} (used rest : List ℕ) (b : ℕ) → [] ≡ used ++ b ∷ rest → B
nothing-bad [] rest b e = cc
nothing-bad (a ∷ used) rest b e = cc

module _ {A B : Type 0} (read : Reader A) (f : A → Reader B) where
  bind-found : (at : ℕ) (bytes : List ℕ) (a : A) (place : ℕ) (rest : List ℕ) → FoundAt read at bytes a place rest
      → (r : Read B) → Tells (f a) place rest r → Tells (read >>= f) at bytes r
  bind-found at bytes a place rest h (Read.Got v end tail) t = record {
    used = h.used ++ t.used;
    is = h.is ∙ (ap (λ (xs : List ℕ). h.used ++ xs) t.is ∙ sym (append_assoc h.used t.used tail));
    place-is =
        let p = h.place-is in
        let q = t.place-is in
        omega (arith, length-append h.used t.used);
    always = λ more. ap (λ (xs : List ℕ). and_then (read at xs) f) (append_assoc h.used t.used more)
        ∙ (ap (λ r. and_then r f) (h.always (t.used ++ more)) ∙ t.always more);
  }
  bind-found at bytes a place rest h Read.Short t =
      let all : bytes ++ t.more ≡ h.used ++ (rest ++ t.more) = ap (λ (xs : List ℕ). xs ++ t.more) h.is ∙ append_assoc h.used rest t.more in
      let size : length (bytes ++ t.more) ≡ length h.used + length (rest ++ t.more) = ap length all ∙ length-append h.used (rest ++ t.more) in
      let p = h.place-is in
      let end : place + length (rest ++ t.more) ≡ at + length (bytes ++ t.more) = omega arith in
      record {
        more = t.more;
        a = t.a;
        fit = t.fit;
        whole = ap (λ (xs : List ℕ). and_then (read at xs) f) all ∙ (ap (λ r. and_then r f) (h.always (rest ++ t.more)) ∙ (t.whole ∙ ap (λ n. Read.Got t.a n []) end));
      }
  bind-found at bytes a place rest h (Read.Wrong end byte kind) t = record {
    used = h.used ++ t.used;
    rest = t.rest;
    is = h.is ∙ (ap (λ (xs : List ℕ). h.used ++ xs) t.is ∙ sym (append_assoc h.used t.used (byte ∷ t.rest)));
    place-is =
        let p = h.place-is in
        let q = t.place-is in
        omega (arith, length-append h.used t.used);
    short = ap (λ r. and_then r f) (h.always t.used) ∙ t.short;
    always = λ more. ap (λ (xs : List ℕ). and_then (read at xs) f) (append_assoc h.used t.used (byte ∷ more))
        ∙ (ap (λ r. and_then r f) (h.always (t.used ++ byte ∷ more)) ∙ t.always more);
  }

  -- what is read behind a whole that ends the bytes
  bind-ended : (at : ℕ) (bytes : List ℕ) (h : LacksAt read at bytes)
      → ((m : List ℕ) → read at ((bytes ++ h.more) ++ m) ≡ Read.Got h.a (at + length (bytes ++ h.more)) m)
      → (r : Read B) → f h.a (at + length (bytes ++ h.more)) [] ≡ r → Tells (f h.a) (at + length (bytes ++ h.more)) [] r → LacksAt (read >>= f) at bytes
  bind-ended at bytes h always (Read.Got v end tail) e t =
      let none = nothing-used t.used tail t.is in
      let place = t.place-is in
      let size = none.0 in
      let same : end ≡ at + length (bytes ++ h.more) = omega arith in
      record {
        more = h.more;
        a = v;
        fit = h.fit;
        whole = ap (λ r. and_then r f) h.whole ∙ (e ∙ (ap (λ n. Read.Got v n tail) same ∙ ap (λ (xs : List ℕ). Read.Got v (at + length (bytes ++ h.more)) xs) none.1));
      }
  bind-ended at bytes h always Read.Short e t =
      let all : bytes ++ (h.more ++ t.more) ≡ (bytes ++ h.more) ++ t.more = sym (append_assoc bytes h.more t.more) in
      let size : length (bytes ++ (h.more ++ t.more)) ≡ length (bytes ++ h.more) + length t.more = ap length all ∙ length-append (bytes ++ h.more) t.more in
      let end : at + length (bytes ++ h.more) + length t.more ≡ at + length (bytes ++ (h.more ++ t.more)) = omega arith in
      record {
        more = h.more ++ t.more;
        a = t.a;
        fit = list_all-append (λ b. nat_lt b 256) h.more t.more ∙ rw (h.fit, t.fit) refl;
        whole = ap (λ (xs : List ℕ). and_then (read at xs) f) all ∙ (ap (λ r. and_then r f) (always t.more) ∙ (t.whole ∙ ap (λ n. Read.Got t.a n []) end));
      }
  bind-ended at bytes h always (Read.Wrong end byte kind) e t = nothing-bad t.used t.rest byte t.is

  module _ (good : IsExact read) (each : (a : A) → IsExact (f a)) where
    bind-short : (at : ℕ) (bytes : List ℕ) → LacksAt read at bytes → LacksAt (read >>= f) at bytes
    bind-short at bytes h =
        let g : FoundAt read at (bytes ++ h.more) h.a (at + length (bytes ++ h.more)) [] = subst (Tells read at (bytes ++ h.more)) h.whole (good.law at (bytes ++ h.more)) in
        let used : bytes ++ h.more ≡ g.used = g.is ∙ append-nil g.used in
        bind-ended at bytes h (λ m. ap (λ (xs : List ℕ). read at (xs ++ m)) used ∙ g.always m) (f h.a (at + length (bytes ++ h.more)) []) refl
        ((each h.a).law (at + length (bytes ++ h.more)) [])

    bind-tells : (at : ℕ) (bytes : List ℕ) (r : Read A) → Tells read at bytes r → Tells (read >>= f) at bytes (and_then r f)
    bind-tells at bytes (Read.Got a place rest) t = bind-found at bytes a place rest t (f a place rest) ((each a).law place rest)
    bind-tells at bytes Read.Short t = bind-short at bytes t
    bind-tells at bytes (Read.Wrong place byte kind) t = record {
      used = t.used;
      rest = t.rest;
      is = t.is;
      place-is = t.place-is;
      short = ap (λ r. and_then r f) t.short;
      always = λ more. ap (λ r. and_then r f) (t.always more);
    }

    pub bind-exact : IsExact (read >>= f)
    bind-exact = record { law = λ at bytes. bind-tells at bytes (read at bytes) (good.law at bytes) }

-- ---- the parts

pub done-exact : {A : Type 0} (a : A) → IsExact (done a)
done-exact a = record { law = λ at bytes. record { used = []; is = refl; place-is = omega arith; always = λ more. refl } }

pub cond-exact : {A : Type 0} (t : Bool) (x y : Reader A) → IsExact x → IsExact y → IsExact (cond t x y)
cond-exact true x y p q = p
cond-exact false x y p q = q

module _ (test : ℕ → Bool) (kind : BadKind) (witness : ℕ) (passes : test witness ≡ true) (small : nat_lt witness 256 ≡ true) where
  byte-tells : (at b : ℕ) (bs : List ℕ) (t : Bool) → test b ≡ t → Tells (byte_that test kind) at (b ∷ bs) (cond t (Read.Got b (at + 1) bs) (Read.Wrong at b kind))
  byte-tells at b bs true e = record {
    used = b ∷ [];
    is = refl;
    place-is = refl;
    always = λ more. ap (λ t. cond t (Read.Got b (at + 1) more) (Read.Wrong at b kind)) e;
  }
  byte-tells at b bs false e = record {
    used = [];
    rest = bs;
    is = refl;
    place-is = omega arith;
    short = refl;
    always = λ more. ap (λ t. cond t (Read.Got b (at + 1) more) (Read.Wrong at b kind)) e;
  }

  byte-law : (at : ℕ) (bytes : List ℕ) → Tells (byte_that test kind) at bytes (byte_that test kind at bytes)
  byte-law at [] = record {
    more = witness ∷ [];
    a = witness;
    fit = rw small refl;
    whole = ap (λ t. cond t (Read.Got witness (at + 1) []) (Read.Wrong at witness kind)) passes;
  }
  byte-law at (b ∷ bs) = byte-tells at b bs (test b) refl

  pub byte-exact : IsExact (byte_that test kind)
  byte-exact = record { law = byte-law }

  -- so many bytes are one, and the others behind it
  bytes-step : (n at : ℕ) (bytes : List ℕ)
      → bytes_that test kind (suc n) at bytes ≡ (byte_that test kind >>= λ b. bytes_that test kind n >>= λ bs. done (b ∷ bs)) at bytes
  bytes-step n at [] = refl
  bytes-step n at (b ∷ bs) = choice (test b)
    where
      choice : (t : Bool) → elim t [ true ↦ and_then (bytes_that test kind n (at + 1) bs) (λ bs. done (b ∷ bs)) | false ↦ Read.Wrong at b kind ]
          ≡ and_then (cond t (Read.Got b (at + 1) bs) (Read.Wrong at b kind)) (λ b. bytes_that test kind n >>= λ bs. done (b ∷ bs))
      choice true = refl
      choice false = refl

  pub bytes-exact : (n : ℕ) → IsExact (bytes_that test kind n)
  bytes-exact zero = same-exact _ (done []) (λ at bytes. refl) (done-exact [])
  bytes-exact (suc n) = same-exact (bytes_that test kind (suc n)) (byte_that test kind >>= λ b. bytes_that test kind n >>= λ bs. done (b ∷ bs)) (bytes-step n)
      (bind-exact (byte_that test kind) (λ b. bytes_that test kind n >>= λ bs. done (b ∷ bs)) byte-exact (λ b.
      bind-exact (bytes_that test kind n) (λ bs. done (b ∷ bs)) (bytes-exact n) (λ bs. done-exact (b ∷ bs))))

-- ---- any bytes

pub any_byte-exact : IsExact any_byte
any_byte-exact = byte-exact (λ _. true) BadKind.Field 0 refl refl

pub any_bytes-exact : (n : ℕ) → IsExact (any_bytes n)
any_bytes-exact n = bytes-exact (λ _. true) BadKind.Field 0 refl refl n

pub number16-exact : IsExact number16
number16-exact = bind-exact (any_bytes 2) (λ bs. done (from_be_bytes w16 bs)) (any_bytes-exact 2) (λ bs. done-exact (from_be_bytes w16 bs))

pub number32-exact : IsExact number32
number32-exact = bind-exact (any_bytes 4) (λ bs. done (from_be_bytes w32 bs)) (any_bytes-exact 4) (λ bs. done-exact (from_be_bytes w32 bs))

-- ---- from the front of the bytes

none-behind : (rest more : List ℕ) → rest ++ more ≡ [] → more ≡ []
none-behind [] more e = e
none-behind (b ∷ rest) more e = cc

got-rest : {A : Type 0} (a b : A) (m n : ℕ) (xs : List ℕ) → Read.Got a m xs ≡ Read.Got b n [] → xs ≡ []
got-rest a b m n xs e = cc

get-behind : (used rest : List ℕ) (b : ℕ) → slice_get (used ++ b ∷ rest) (length used) ≡ Some b
get-behind [] rest b = refl
get-behind (a ∷ used) rest b = get-behind used rest b

module _ {A : Type 0} (read : Reader A) (good : IsExact read) where
  proper : (bytes : List ℕ) → read 0 bytes ≡ Read.Short → IsProperPrefix read bytes
  proper bytes e =
      let t : LacksAt read 0 bytes = subst (Tells read 0 bytes) e (good.law 0 bytes) in
      let size : 0 + length (bytes ++ t.more) ≡ length (bytes ++ t.more) = omega arith in
      let whole : read 0 (bytes ++ t.more) ≡ Read.Got t.a (length (bytes ++ t.more)) [] = t.whole ∙ ap (λ n. Read.Got t.a n []) size in (
        t.more,
        (λ none.
            let same : bytes ++ t.more ≡ bytes = ap (λ (xs : List ℕ). bytes ++ xs) none ∙ append-nil bytes in
            let both : Read.Short ≡ Read.Got t.a (length (bytes ++ t.more)) [] = sym e ∙ (ap (read 0) (sym same) ∙ whole) in
            cc),
        t.fit,
        (t.a, whole),
      )

  not-whole : (bytes more : List ℕ) (a : A) (n : ℕ) → more ≢ [] → read 0 (bytes ++ more) ≡ Read.Got a n []
      → (r : Read A) → read 0 bytes ≡ r → Tells read 0 bytes r → read 0 bytes ≡ Read.Short
  not-whole bytes more a n some whole (Read.Got v place rest) e t =
      let all : bytes ++ more ≡ t.used ++ (rest ++ more) = ap (λ (xs : List ℕ). xs ++ more) t.is ∙ append_assoc t.used rest more in
      let both : Read.Got v place (rest ++ more) ≡ Read.Got a n [] = sym (t.always (rest ++ more)) ∙ (ap (read 0) (sym all) ∙ whole) in
      absurd (some (none-behind rest more (got-rest v a place n (rest ++ more) both)))
  not-whole bytes more a n some whole Read.Short e t = e
  not-whole bytes more a n some whole (Read.Wrong place byte kind) e t =
      let all : bytes ++ more ≡ t.used ++ byte ∷ (t.rest ++ more) = ap (λ (xs : List ℕ). xs ++ more) t.is ∙ append_assoc t.used (byte ∷ t.rest) more in
      let both : Read.Wrong place byte kind ≡ Read.Got a n [] = sym (t.always (t.rest ++ more)) ∙ (ap (read 0) (sym all) ∙ whole) in
      cc

  module _ (bytes : List ℕ) (at byte : ℕ) (kind : BadKind) (e : read 0 bytes ≡ Read.Wrong at byte kind) where
    wrong : WrongAt read 0 bytes at byte kind
    wrong = subst (Tells read 0 bytes) e (good.law 0 bytes)

    before : length wrong.used ≡ at
    before = let p = wrong.place-is in omega arith

    found-bad : slice_get bytes at ≡ Some byte
    found-bad = ap (λ (xs : List ℕ). slice_get xs at) wrong.is ∙ (ap (slice_get (wrong.used ++ byte ∷ wrong.rest)) (sym before) ∙ get-behind wrong.used wrong.rest byte)

    bad-prefix : IsProperPrefix read (take at bytes)
    bad-prefix =
        let front : take at bytes ≡ wrong.used = ap (take at) wrong.is ∙ take_at wrong.used (byte ∷ wrong.rest) at before in
        proper (take at bytes) (ap (read 0) front ∙ wrong.short)

    stays-bad : (more : List ℕ) → read 0 (take (at + 1) bytes ++ more) ≡ Read.Wrong at byte kind
    stays-bad more =
        let size : length (wrong.used ++ byte ∷ []) ≡ at + 1 = length-append wrong.used (byte ∷ []) ∙ ap (λ n. n + 1) before in
        let front : take (at + 1) bytes ≡ wrong.used ++ byte ∷ [] =
        ap (take (at + 1)) (wrong.is ∙ sym (append_assoc wrong.used (byte ∷ []) wrong.rest)) ∙ take_at (wrong.used ++ byte ∷ []) wrong.rest (at + 1) size in
        ap (λ (xs : List ℕ). read 0 (xs ++ more)) front ∙ (ap (read 0) (append_assoc wrong.used (byte ∷ []) more) ∙ wrong.always more)

  stays-whole : (bytes : List ℕ) (a : A) (len : ℕ) (rest : List ℕ) → read 0 bytes ≡ Read.Got a len rest → (more : List ℕ) → read 0 (take len bytes ++ more) ≡ Read.Got a len more
  stays-whole bytes a len rest e more =
      let t : FoundAt read 0 bytes a len rest = subst (Tells read 0 bytes) e (good.law 0 bytes) in
      let size : length t.used ≡ len = let p = t.place-is in omega arith in
      let front : take len bytes ≡ t.used = ap (take len) t.is ∙ take_at t.used rest len size in
      ap (λ (xs : List ℕ). read 0 (xs ++ more)) front ∙ t.always more

  pub stops-exactly : StopsExactly read
  stops-exactly = record {
    more = proper;
    only_more = λ bytes h. not-whole bytes h.0 h.3.0 (length (bytes ++ h.0)) h.1 h.3.1 (read 0 bytes) refl (good.law 0 bytes);
    before_bad = λ bytes at byte kind e. (found-bad bytes at byte kind e, bad-prefix bytes at byte kind e);
    after_bad = stays-bad;
    whole = stays-whole;
  }
