-- Bytes that leave a request too short.
use Rattle.std.proofs.Common.{ℕ, zero, suc, ◌≡◌, ◌<◌, ◌≤◌, ◌+◌, ◌-◌, Bool, true, false, cond, ◌==◌, ◌&&◌, not, nat_lt, Some, None, List, [], ◌∷◌, ◌++◌, length, drop, get_or, position, ◌||◌, refl, sym, subst, ap, ◌∙◌, arith}
use Rattle.std.specs.List.{list_all, position_or_len}
use Rattle.std.proofs.lemmas.Bool.Decides.{nat_tests}
use Rattle.std.proofs.lemmas.Bool.{ltb-false, ltb-true}
use Rattle.std.proofs.lemmas.List.{length-drop}
use Rattle.std.proofs.lemmas.List.Sums.{fails_before_first}
use Rattle.std.proofs.lemmas.List.Quantifiers.{position-Some}
use Rattle.std.specs.Int.{w16, w32, from_be_bytes}
use Rattle.addr_pattern.specs.declared.addr.Addr.{Addr}
use Rattle.addr_pattern.specs.declared.host.Host.{Host}
use Rattle.addr_pattern.specs.AddressText.{host_of}
use Rattle.addr_pattern.specs.declared.front.BadKind.{BadKind}
use Rattle.socks_grammar.specs.declared.protocol.Version.{Version}
use Rattle.socks_grammar.specs.Grammar.{Read, Reader, Asked, ◌>>=◌, and_then, done, byte_that, any_byte, bytes_that, number16, number32, ended_by_zero, name4, host4, host5, command4, command5, request4, request5, means_name}
use Rattle.addr_pattern.specs.Names.{is_name_byte}
use Rattle.socks_grammar.specs.Handshake.{version_of}
use Rattle.handshake_core.specs.declared.run.Kind.{Kind}
use Rattle.handshake_core.specs.declared.run.Run.{Run}
use Rattle.handshake_core.specs.declared.state.Stage.{Stage}
use Rattle.handshake_core.specs.Runs.{passes, is_short, is_short_at, StaysShort}

-- ---- readers one after the other

-- the bytes aren't wrong so far
abbrev pub IsBeginning : {A : Type 0} → Read A → Type 0
IsBeginning (Read.Wrong at byte kind) = ⊥
IsBeginning _ = Unit {0}

short-begins : {A : Type 0} (x : Read A) → x ≡ Read.Short → IsBeginning x
short-begins (Read.Got a at rest) h = tt
short-begins Read.Short h = tt
short-begins (Read.Wrong at byte kind) h = cc

first-begins : {A B : Type 0} (x : Read A) (next : A → Reader B) → IsBeginning (and_then x next) → IsBeginning x
first-begins (Read.Got a at rest) next h = tt
first-begins Read.Short next h = tt
first-begins (Read.Wrong at byte kind) next h = h

then-short : {A B : Type 0} (x : Read A) (next : A → Reader B) → x ≡ Read.Short → and_then x next ≡ Read.Short
then-short x next h = ap (λ y. and_then y next) h

onto-short : {A B : Type 0} (x : Read A) (f : A → B) → and_then x (λ a. done (f a)) ≡ Read.Short → x ≡ Read.Short
onto-short (Read.Got a at rest) f h = cc
onto-short Read.Short f h = refl
onto-short (Read.Wrong at byte kind) f h = cc

-- a byte that was read, and what is read behind it
record OnByte (t : Bool) (P : Type 0) : Type 0 where
  pub passed : t ≡ true
  pub behind : P

byte-then : {B : Type 0} (t : Bool) (b at place : ℕ) (kind : BadKind) (bs : List ℕ) (next : ℕ → Reader B)
    → and_then (cond t (Read.Got b at bs) (Read.Wrong place b kind)) next ≡ Read.Short → OnByte t (next b at bs ≡ Read.Short)
byte-then true b at place kind bs next h = record { passed = refl; behind = h }
byte-then false b at place kind bs next h = cc

-- ---- bytes that end with a 00

and-both : (a b : Bool) → (a && b) ≡ true → (a ≡ true) × (b ≡ true)
and-both true b h = (refl, h)
and-both false b h = cc

-- what is read in front of bytes that end with a 00, by whether the first is 00 and whether it passes
abbrev front_read : ℕ → ℕ → List ℕ → Read (List ℕ) → Bool → Bool → Read (List ℕ)
front_read at b bs x z t = elim z [
  | true ↦ Read.Got [] (at + 1) bs
  | false ↦ elim t [ true ↦ and_then x (λ bs. done (b ∷ bs)) | false ↦ Read.Wrong at b BadKind.Field ]
]

front-goes : (at b : ℕ) (bs : List ℕ) (x : Read (List ℕ)) (z t : Bool) → z ≡ false → t ≡ true → x ≡ Read.Short → front_read at b bs x z t ≡ Read.Short
front-goes at b bs x true t h k e = cc
front-goes at b bs x false false h k e = cc
front-goes at b bs x false true h k e = then-short x _ e

record FrontShort (z t : Bool) (x : Read (List ℕ)) : Type 0 where
  pub some : z ≡ false
  pub passed : t ≡ true
  pub behind : x ≡ Read.Short

front-short : (at b : ℕ) (bs : List ℕ) (x : Read (List ℕ)) (z t : Bool) → front_read at b bs x z t ≡ Read.Short → FrontShort z t x
front-short at b bs x true t h = cc
front-short at b bs x false false h = cc
front-short at b bs x false true h = record { some = refl; passed = refl; behind = onto-short x (λ bs. b ∷ bs) h }

none-at-end : (b at : ℕ) (bs : List ℕ) (t : Bool) → ◌≡◌ {A = Read (List ℕ)} (cond t (Read.Got [] (at + 1) bs) (Read.Wrong at b BadKind.Field)) Read.Short → ⊥
none-at-end b at bs true h = cc
none-at-end b at bs false h = cc

few : (test : ℕ → Bool) (room at : ℕ) (xs : List ℕ) → ended_by_zero test room at xs ≡ Read.Short → length xs ≤ room
few test zero at [] h = omega arith
few test (suc room) at [] h = omega arith
few test zero at (b ∷ xs) h = absurd (none-at-end b at xs (b == 0) h)
few test (suc room) at (b ∷ xs) h =
    let f = front-short at b xs (ended_by_zero test room (at + 1) xs) (b == 0) (test b) h in
    let k = few test room (at + 1) xs f.behind in
    omega (arith, k)

module _ (test p : ℕ → Bool) (some : (b : ℕ) → p b ≡ true → (b == 0) ≡ false) (fits : (b : ℕ) → p b ≡ true → test b ≡ true) where
  ended-all : (room at : ℕ) (more : List ℕ) → list_all p more ≡ true → length more ≤ room → ended_by_zero test room at more ≡ Read.Short
  ended-all zero at [] all h = refl
  ended-all (suc room) at [] all h = refl
  ended-all zero at (b ∷ bs) all h = absurd (omega (arith, h))
  ended-all (suc room) at (b ∷ bs) all h =
      let a = and-both (p b) (list_all p bs) all in
      front-goes at b bs (ended_by_zero test room (at + 1) bs) (b == 0) (test b) (some b a.0) (fits b a.0) (ended-all room (at + 1) bs a.1 (omega (arith, h)))

  ended-stays : (room at : ℕ) (xs more : List ℕ) → ended_by_zero test room at xs ≡ Read.Short → list_all p more ≡ true → length xs + length more ≤ room → ended_by_zero test room at (xs ++ more) ≡ Read.Short
  ended-stays zero at [] more h all k = ended-all zero at more all (omega (arith, k))
  ended-stays (suc room) at [] more h all k = ended-all (suc room) at more all (omega (arith, k))
  ended-stays zero at (b ∷ xs) more h all k = absurd (none-at-end b at xs (b == 0) h)
  ended-stays (suc room) at (b ∷ xs) more h all k =
      let f = front-short at b xs (ended_by_zero test room (at + 1) xs) (b == 0) (test b) h in
      front-goes at b (xs ++ more) (ended_by_zero test room (at + 1) (xs ++ more)) (b == 0) (test b) f.some f.passed
      (ended-stays room (at + 1) xs more f.behind all (omega (arith, k)))

-- ---- a user

front-begins : (at b : ℕ) (bs : List ℕ) (x : Read (List ℕ)) (z : Bool) → z ≡ false → IsBeginning (front_read at b bs x z true) → IsBeginning x
front-begins at b bs x true e h = cc
front-begins at b bs x false e h = first-begins x _ h

last-wrong : (b at : ℕ) (bs : List ℕ) (z : Bool) → z ≡ false → IsBeginning {A = List ℕ} (cond z (Read.Got [] (at + 1) bs) (Read.Wrong at b BadKind.Field)) → ⊥
last-wrong b at bs true e h = cc
last-wrong b at bs false e h = h

-- no 00 has come
user-open : (room at : ℕ) (xs : List ℕ) → ((k : ℕ) → k < length xs → (get_or xs k 0 == 0) ≡ false) → IsBeginning (ended_by_zero (λ _. true) room at xs)
    → ended_by_zero (λ _. true) room at xs ≡ Read.Short
user-open zero at [] none h = refl
user-open (suc room) at [] none h = refl
user-open zero at (b ∷ xs) none h = absurd (last-wrong b at xs (b == 0) (none 0 (omega arith)) h)
user-open (suc room) at (b ∷ xs) none h =
    let z = none 0 (omega arith) in
    front-goes at b xs (ended_by_zero (λ _. true) room (at + 1) xs) (b == 0) true z refl
    (user-open room (at + 1) xs (λ k g. none (suc k) (omega (arith, g))) (front-begins at b xs _ (b == 0) z h))

-- the user is read, and these bytes are behind it, also where more has come
record UserEnds (x y : Read (List ℕ)) (rest more : List ℕ) : Type 0 where
  pub user : List ℕ
  pub place : ℕ
  pub is : x ≡ Read.Got user place rest
  pub further : y ≡ Read.Got user place (rest ++ more)

onto-ends : (x y : Read (List ℕ)) (b : ℕ) (rest more : List ℕ) → UserEnds x y rest more → UserEnds (and_then x (λ bs. done (b ∷ bs))) (and_then y (λ bs. done (b ∷ bs))) rest more
onto-ends x y b rest more e = record {
  user = b ∷ e.user;
  place = e.place;
  is = ap (λ r. and_then r (λ bs. done (b ∷ bs))) e.is;
  further = ap (λ r. and_then r (λ bs. done (b ∷ bs))) e.further;
}

front-ends : (at b : ℕ) (bs cs rest more : List ℕ) (x y : Read (List ℕ)) (z : Bool) → z ≡ false → UserEnds x y rest more → UserEnds (front_read at b bs x z true) (front_read at b cs y z true) rest more
front-ends at b bs cs rest more x y true h e = cc
front-ends at b bs cs rest more x y false h e = onto-ends x y b rest more e

last-ends : (b at : ℕ) (bs more : List ℕ) (z : Bool) → z ≡ true
    → UserEnds (cond z (Read.Got [] (at + 1) bs) (Read.Wrong at b BadKind.Field)) (cond z (Read.Got [] (at + 1) (bs ++ more)) (Read.Wrong at b BadKind.Field)) bs more
last-ends b at bs more true h = record { user = []; place = at + 1; is = refl; further = refl }
last-ends b at bs more false h = cc

here-ends : (at b : ℕ) (bs more : List ℕ) (x y : Read (List ℕ)) (z : Bool) → z ≡ true → UserEnds (front_read at b bs x z true) (front_read at b (bs ++ more) y z true) bs more
here-ends at b bs more x y true h = record { user = []; place = at + 1; is = refl; further = refl }
here-ends at b bs more x y false h = cc

-- the first 00 is here
user-ends : (room at n : ℕ) (xs more : List ℕ) → n < length xs → (get_or xs n 0 == 0) ≡ true → ((k : ℕ) → k < n → (get_or xs k 0 == 0) ≡ false) → IsBeginning (ended_by_zero (λ _. true) room at xs)
    → UserEnds (ended_by_zero (λ _. true) room at xs) (ended_by_zero (λ _. true) room at (xs ++ more)) (drop (suc n) xs) more
user-ends room at n [] more l e none h = absurd (omega (arith, l))
user-ends zero at zero (b ∷ xs) more l e none h = last-ends b at xs more (b == 0) e
user-ends zero at (suc n) (b ∷ xs) more l e none h = absurd (last-wrong b at xs (b == 0) (none 0 (omega arith)) h)
user-ends (suc room) at zero (b ∷ xs) more l e none h = here-ends at b xs more (ended_by_zero (λ _. true) room (at + 1) xs) (ended_by_zero (λ _. true) room (at + 1) (xs ++ more)) (b == 0) e
user-ends (suc room) at (suc n) (b ∷ xs) more l e none h =
    let z = none 0 (omega arith) in
    front-ends at b xs (xs ++ more) (drop (suc n) xs) more (ended_by_zero (λ _. true) room (at + 1) xs) (ended_by_zero (λ _. true) room (at + 1) (xs ++ more)) (b == 0) z
    (user-ends room (at + 1) n xs more (omega (arith, l)) e (λ k g. none (suc k) (omega (arith, g))) (front-begins at b xs _ (b == 0) z h))

-- ---- a name of version 4

name-some : (b : ℕ) → is_name_byte b ≡ true → (b == 0) ≡ false
name-some b h = grind (arith, nat_tests, h)

byte-goes : {B : Type 0} (t : Bool) (b at place : ℕ) (kind : BadKind) (bs : List ℕ) (next : ℕ → Reader B)
    → t ≡ true → next b at bs ≡ Read.Short → and_then (cond t (Read.Got b at bs) (Read.Wrong place b kind)) next ≡ Read.Short
byte-goes true b at place kind bs next e h = h
byte-goes false b at place kind bs next e h = cc

name4-few : (at : ℕ) (xs : List ℕ) → name4 at xs ≡ Read.Short → length xs ≤ 255
name4-few at [] h = omega arith
name4-few at (b ∷ xs) h =
    let f = byte-then (is_name_byte b) b (at + 1) at BadKind.Field xs _ h in
    let k = few is_name_byte 254 (at + 1) xs (onto-short (ended_by_zero is_name_byte 254 (at + 1) xs) (λ rest. b ∷ rest) f.behind) in
    omega (arith, k)

name4-all : (at : ℕ) (more : List ℕ) → list_all is_name_byte more ≡ true → length more ≤ 255 → name4 at more ≡ Read.Short
name4-all at [] all h = refl
name4-all at (b ∷ bs) all h =
    let a = and-both (is_name_byte b) (list_all is_name_byte bs) all in
    byte-goes (is_name_byte b) b (at + 1) at BadKind.Field bs _ a.0
    (then-short (ended_by_zero is_name_byte 254 (at + 1) bs) _ (ended-all is_name_byte is_name_byte name-some (λ b h. h) 254 (at + 1) bs a.1 (omega (arith, h))))

name4-stays : (at : ℕ) (xs more : List ℕ) → name4 at xs ≡ Read.Short → list_all is_name_byte more ≡ true → length xs + length more ≤ 255 → name4 at (xs ++ more) ≡ Read.Short
name4-stays at [] more h all k = name4-all at more all (omega (arith, k))
name4-stays at (b ∷ xs) more h all k =
    let f = byte-then (is_name_byte b) b (at + 1) at BadKind.Field xs _ h in
    byte-goes (is_name_byte b) b (at + 1) at BadKind.Field (xs ++ more) _ f.passed
    (then-short (ended_by_zero is_name_byte 254 (at + 1) (xs ++ more)) _
    (ended-stays is_name_byte is_name_byte name-some (λ b h. h) 254 (at + 1) xs more (onto-short (ended_by_zero is_name_byte 254 (at + 1) xs) (λ rest. b ∷ rest) f.behind) all (omega (arith, k))))

-- ---- a request of version 4

not-is : (t : Bool) → not t ≡ true → t ≡ false
not-is true h = cc
not-is false h = refl

-- a name is wanted
record NameBegins (addr : ℕ) (at : ℕ) (ys : List ℕ) : Type 0 where
  pub meant : means_name addr ≡ true
  pub short : name4 at ys ≡ Read.Short

name-wanted : (t : Bool) (addr at : ℕ) (ys : List ℕ) → cond t (name4 >>= (λ name. done (host_of name))) (done (Host.Addr (Addr.V4 addr))) at ys ≡ Read.Short → OnByte t (name4 at ys ≡ Read.Short)
name-wanted true addr at ys h = record { passed = refl; behind = onto-short (name4 at ys) host_of h }
name-wanted false addr at ys h = cc

name-goes : (t : Bool) (addr at : ℕ) (ys : List ℕ) → t ≡ true → name4 at ys ≡ Read.Short → cond t (name4 >>= (λ name. done (host_of name))) (done (Host.Addr (Addr.V4 addr))) at ys ≡ Read.Short
name-goes true addr at ys e h = then-short (name4 at ys) _ h
name-goes false addr at ys e h = cc

abbrev asked4 : ℕ → ℕ → Host → Asked
asked4 code port host = record { command = command4 code; host = host; port = port }

-- what is read behind the user
abbrev behind_user4 : ℕ → ℕ → ℕ → Reader Asked
behind_user4 code port addr = host4 addr >>= (λ host. done (asked4 code port host))

behind-user : (addr code port at : ℕ) (ys : List ℕ) → behind_user4 code port addr at ys ≡ Read.Short → NameBegins addr at ys
behind-user addr code port at ys h = let n = name-wanted (means_name addr) addr at ys (onto-short (host4 addr at ys) (asked4 code port) h) in record { meant = n.passed; short = n.behind }

onto-name : (addr code port at : ℕ) (ys : List ℕ) → means_name addr ≡ true → name4 at ys ≡ Read.Short → behind_user4 code port addr at ys ≡ Read.Short
onto-name addr code port at ys e h = then-short (host4 addr at ys) _ (name-goes (means_name addr) addr at ys e h)

-- what is read behind the address
abbrev behind_addr4 : ℕ → ℕ → ℕ → Reader Asked
behind_addr4 code port addr = ended_by_zero (λ _. true) 255 >>= (λ user. behind_user4 code port addr)

abbrev behind_code4 : ℕ → Reader Asked
behind_code4 code = number16 >>= (λ port. number32 >>= (λ addr. behind_addr4 code port addr))

abbrev behind_version4 : ℕ → Reader Asked
behind_version4 version = byte_that (λ b. b == 1 || b == 2) BadKind.Command >>= (λ code. behind_code4 code)

module _ (b0 b1 b2 b3 b4 b5 b6 b7 : ℕ) where
  abbrev port4 : ℕ
  port4 = from_be_bytes w16 (b2 ∷ b3 ∷ [])

  abbrev addr4 : ℕ
  addr4 = from_be_bytes w32 (b4 ∷ b5 ∷ b6 ∷ b7 ∷ [])

  abbrev with_head4 : List ℕ → List ℕ
  with_head4 xs = b0 ∷ b1 ∷ b2 ∷ b3 ∷ b4 ∷ b5 ∷ b6 ∷ b7 ∷ xs

  record Head4 (xs : List ℕ) : Type 0 where
    pub version : (b0 == 4) ≡ true
    pub code : (b1 == 1 || b1 == 2) ≡ true
    pub behind : behind_addr4 b1 port4 addr4 8 xs ≡ Read.Short

  head4 : (xs : List ℕ) → request4 0 (with_head4 xs) ≡ Read.Short → Head4 xs
  head4 xs h =
      let v = byte-then (b0 == 4) b0 1 0 BadKind.Version (b1 ∷ b2 ∷ b3 ∷ b4 ∷ b5 ∷ b6 ∷ b7 ∷ xs) behind_version4 h in
      let c = byte-then (b1 == 1 || b1 == 2) b1 2 1 BadKind.Command (b2 ∷ b3 ∷ b4 ∷ b5 ∷ b6 ∷ b7 ∷ xs) behind_code4 v.behind in
      record { version = v.passed; code = c.passed; behind = c.behind }

  onto-head4 : (xs ys : List ℕ) → Head4 xs → behind_addr4 b1 port4 addr4 8 ys ≡ Read.Short → request4 0 (with_head4 ys) ≡ Read.Short
  onto-head4 xs ys f h =
      byte-goes (b0 == 4) b0 1 0 BadKind.Version (b1 ∷ b2 ∷ b3 ∷ b4 ∷ b5 ∷ b6 ∷ b7 ∷ ys) behind_version4 f.version
      (byte-goes (b1 == 1 || b1 == 2) b1 2 1 BadKind.Command (b2 ∷ b3 ∷ b4 ∷ b5 ∷ b6 ∷ b7 ∷ ys) behind_code4 f.code h)

  user-begins : (xs : List ℕ) → Head4 xs → IsBeginning (ended_by_zero (λ _. true) 255 8 xs)
  user-begins xs f = first-begins (ended_by_zero (λ _. true) 255 8 xs) _ (short-begins _ f.behind)

  user-stays : (xs : List ℕ) → Head4 xs → ended_by_zero (λ _. true) 255 8 xs ≡ Read.Short → (left : ℕ) → length xs + left ≤ 255 → StaysShort Stage.First (with_head4 xs) (record { kind = Kind.User; left = left })
  user-stays xs f h left k more some l all =
      ap is_short (onto-head4 xs (xs ++ more) f (then-short (ended_by_zero (λ _. true) 255 8 (xs ++ more)) _
      (ended-stays (λ _. true) (passes Kind.User) (λ b e. not-is (b == 0) e) (λ b e. refl) 255 8 xs more h all (omega (arith, k, l)))))

  name-begins : (xs ys more : List ℕ) → Head4 xs → (e : UserEnds (ended_by_zero (λ _. true) 255 8 xs) (ended_by_zero (λ _. true) 255 8 (xs ++ more)) ys more) → NameBegins addr4 e.place ys
  name-begins xs ys more f e = behind-user addr4 b1 port4 e.place ys (sym (ap (λ x. and_then x (λ user. behind_user4 b1 port4 addr4)) e.is) ∙ f.behind)

  name-stays : (xs ys more : List ℕ) → Head4 xs → UserEnds (ended_by_zero (λ _. true) 255 8 xs) (ended_by_zero (λ _. true) 255 8 (xs ++ more)) ys more → list_all is_name_byte more ≡ true → length ys + length more ≤ 255
      → request4 0 (with_head4 (xs ++ more)) ≡ Read.Short
  name-stays xs ys more f e all k =
      let n = name-begins xs ys more f e in
      onto-head4 xs (xs ++ more) f
      (ap (λ x. and_then x (λ user. behind_user4 b1 port4 addr4)) e.further
      ∙ onto-name addr4 b1 port4 e.place (ys ++ more) n.meant (name4-stays e.place ys more n.short all k))

-- no 00 has come behind the address
pub record UserRun (m xs : List ℕ) : Type 0 where
  pub few : length xs ≤ 255
  pub stays : StaysShort Stage.First m (record { kind = Kind.User; left = 255 - length xs })

user-run : (m : List ℕ) → 8 ≤ length m → request4 0 m ≡ Read.Short → ((k : ℕ) → k < length (drop 8 m) → (get_or (drop 8 m) k 0 == 0) ≡ false) → UserRun m (drop 8 m)
user-run (b0 ∷ b1 ∷ b2 ∷ b3 ∷ b4 ∷ b5 ∷ b6 ∷ b7 ∷ xs) l h none =
    let f = head4 b0 b1 b2 b3 b4 b5 b6 b7 xs h in
    let s = user-open 255 8 xs none (user-begins b0 b1 b2 b3 b4 b5 b6 b7 xs f) in
    let k = few (λ _. true) 255 8 xs s in
    record { few = k; stays = user-stays b0 b1 b2 b3 b4 b5 b6 b7 xs f s (255 - length xs) (omega (arith, k)) }
user-run _ l h none = absurd (omega (arith, l))

-- the first 00 behind the address ends the user, and a name has begun
pub record NameRun (m xs : List ℕ) (n : ℕ) : Type 0 where
  pub few : length xs - n - 1 ≤ 255
  pub stays : StaysShort Stage.First m (record { kind = Kind.Name; left = 255 - (length xs - n - 1) })

name-run : (m : List ℕ) (n : ℕ) → 8 ≤ length m → request4 0 m ≡ Read.Short → n < length (drop 8 m) → (get_or (drop 8 m) n 0 == 0) ≡ true → ((k : ℕ) → k < n → (get_or (drop 8 m) k 0 == 0) ≡ false) → NameRun m (drop 8 m) n
name-run (b0 ∷ b1 ∷ b2 ∷ b3 ∷ b4 ∷ b5 ∷ b6 ∷ b7 ∷ xs) n l h inside zero-byte none =
    let f = head4 b0 b1 b2 b3 b4 b5 b6 b7 xs h in
    let ends = λ (more : List ℕ). user-ends 255 8 n xs more inside zero-byte none (user-begins b0 b1 b2 b3 b4 b5 b6 b7 xs f) in
    let c = length-drop (suc n) xs in
    let k = name4-few (ends []).place (drop (suc n) xs) (name-begins b0 b1 b2 b3 b4 b5 b6 b7 xs (drop (suc n) xs) [] f (ends [])).short in
    record {
      few = omega (arith, c, k);
      stays = λ more some l all. ap is_short (name-stays b0 b1 b2 b3 b4 b5 b6 b7 xs (drop (suc n) xs) more f (ends more) all (omega (arith, c, k, l)));
    }
name-run _ n l h inside zero-byte none = absurd (omega (arith, l))

first-four : (m : List ℕ) → 8 ≤ length m → get_or m 0 0 ≡ 4 → version_of m ≡ Some Version.V4
first-four [] l e = absurd (omega (arith, l))
first-four (b ∷ m) l e = rw e refl

none-found : (t : Bool) (n : ℕ) → cond t (Some n) None ≡ None → t ≡ false
none-found true n h = cc
none-found false n h = refl

no-zero : (xs : List ℕ) → position (λ b. b == 0) xs ≡ None → (k : ℕ) → k < length xs → (get_or xs k 0 == 0) ≡ false
no-zero xs h k l =
    let past = ltb-false (position_or_len (λ b. b == 0) xs) (length xs) (none-found _ _ h) in
    fails_before_first (λ b. b == 0) xs k 0 (omega (arith, past, l))

-- the same of the bytes behind the address, as they were looked at
module _ (m xs : List ℕ) (behind : xs ≡ drop 8 m) (long : 8 ≤ length m) (first : get_or m 0 0 ≡ 4) (wants : version_of m ≡ Some Version.V4 → request4 0 m ≡ Read.Short) where
  pub user-run-at : position (λ b. b == 0) xs ≡ None → UserRun m xs
  user-run-at h = subst (UserRun m) (sym behind) (user-run m long (wants (first-four m long first)) (no-zero (drop 8 m) (ap (position (λ b. b == 0)) (sym behind) ∙ h)))

  pub name-run-at : (n : ℕ) → position (λ b. b == 0) xs ≡ Some n → NameRun m xs n
  name-run-at n h =
      let p = position-Some (λ b. b == 0) (drop 8 m) n 0 (ap (position (λ b. b == 0)) (sym behind) ∙ h) in
      subst (λ (x : List ℕ). NameRun m x n) (sym behind) (name-run m n long (wants (first-four m long first)) p.0 p.1 p.2)

-- ---- a request of version 5

-- the bytes are all used up, or too few
abbrev UsedUp : {A : Type 0} → Read A → Type 0
UsedUp (Read.Got a at rest) = rest ≡ []
UsedUp Read.Short = Unit {0}
UsedUp (Read.Wrong at byte kind) = ⊥

abbrev counted_read : ℕ → ℕ → Read (List ℕ) → Bool → Read (List ℕ)
counted_read at b x t = elim t [ true ↦ and_then x (λ bs. done (b ∷ bs)) | false ↦ Read.Wrong at b BadKind.Field ]

onto-used : (b : ℕ) (x : Read (List ℕ)) → UsedUp x → UsedUp (and_then x (λ bs. done (b ∷ bs)))
onto-used b (Read.Got bs at rest) h = h
onto-used b Read.Short h = tt
onto-used b (Read.Wrong at byte kind) h = h

counted-used : (at b : ℕ) (x : Read (List ℕ)) (t : Bool) → t ≡ true → UsedUp x → UsedUp (counted_read at b x t)
counted-used at b x true e h = onto-used b x h
counted-used at b x false e h = cc

counted-begins : (at b : ℕ) (x : Read (List ℕ)) (t : Bool) → IsBeginning (counted_read at b x t) → OnByte t (IsBeginning x)
counted-begins at b x true h = record { passed = refl; behind = first-begins x _ h }
counted-begins at b x false h = absurd h

counted-all : (n at : ℕ) (more : List ℕ) → list_all is_name_byte more ≡ true → length more ≤ n → UsedUp (bytes_that is_name_byte BadKind.Field n at more)
counted-all zero at [] all h = refl
counted-all zero at (b ∷ bs) all h = absurd (omega (arith, h))
counted-all (suc n) at [] all h = tt
counted-all (suc n) at (b ∷ bs) all h =
    let a = and-both (is_name_byte b) (list_all is_name_byte bs) all in
    counted-used at b (bytes_that is_name_byte BadKind.Field n (at + 1) bs) (is_name_byte b) a.0 (counted-all n (at + 1) bs a.1 (omega (arith, h)))

counted-stays : (n at : ℕ) (xs more : List ℕ) → IsBeginning (bytes_that is_name_byte BadKind.Field n at xs) → list_all is_name_byte more ≡ true → length xs + length more ≤ n → UsedUp (bytes_that is_name_byte BadKind.Field n at (xs ++ more))
counted-stays n at [] more h all k = counted-all n at more all (omega (arith, k))
counted-stays zero at (b ∷ xs) more h all k = absurd (omega (arith, k))
counted-stays (suc n) at (b ∷ xs) more h all k =
    let f = counted-begins at b (bytes_that is_name_byte BadKind.Field n (at + 1) xs) (is_name_byte b) h in
    counted-used at b (bytes_that is_name_byte BadKind.Field n (at + 1) (xs ++ more)) (is_name_byte b) f.passed (counted-stays n (at + 1) xs more f.behind all (omega (arith, k)))

-- what is read behind the name
abbrev behind_host5 : ℕ → Host → Reader Asked
behind_host5 code host = number16 >>= (λ port. done (record { command = command5 code; host = host; port = port }))

used-short : (code : ℕ) (x : Read (List ℕ)) → UsedUp x → and_then (and_then x (λ name. done (host_of name))) (behind_host5 code) ≡ Read.Short
used-short code (Read.Got name at rest) h = rw h refl
used-short code Read.Short h = refl
used-short code (Read.Wrong at byte kind) h = absurd h

abbrev named5 : ℕ → ℕ → List ℕ → Bool → Read Asked
named5 code count xs t =
    and_then (and_then (and_then (cond t (Read.Got count 5 xs) (Read.Wrong 4 count BadKind.Field)) (λ n. bytes_that is_name_byte BadKind.Field n)) (λ name. done (host_of name))) (behind_host5 code)

named-begins : (code count : ℕ) (xs : List ℕ) (t : Bool) → named5 code count xs t ≡ Read.Short → OnByte t (IsBeginning (bytes_that is_name_byte BadKind.Field count 5 xs))
named-begins code count xs true h = record {
  passed = refl;
  behind = first-begins (bytes_that is_name_byte BadKind.Field count 5 xs) (λ name. done (host_of name)) (first-begins (and_then (bytes_that is_name_byte BadKind.Field count 5 xs) (λ name. done (host_of name))) (behind_host5 code) (short-begins _ h));
}
named-begins code count xs false h = cc

named-goes : (code count : ℕ) (xs : List ℕ) (t : Bool) → t ≡ true → UsedUp (bytes_that is_name_byte BadKind.Field count 5 xs) → named5 code count xs t ≡ Read.Short
named-goes code count xs true e h = used-short code (bytes_that is_name_byte BadKind.Field count 5 xs) h
named-goes code count xs false e h = cc

abbrev behind_code5 : ℕ → Reader Asked
behind_code5 code = any_byte >>= (λ reserved. host5 >>= behind_host5 code)

abbrev behind_version5 : ℕ → Reader Asked
behind_version5 version = byte_that (λ b. b == 1 || b == 2 || b == 3) BadKind.Command >>= behind_code5

named-run : (b0 b1 b2 count : ℕ) (xs more : List ℕ) → request5 0 (b0 ∷ b1 ∷ b2 ∷ 3 ∷ count ∷ xs) ≡ Read.Short → list_all is_name_byte more ≡ true → length xs + length more ≤ count
    → request5 0 (b0 ∷ b1 ∷ b2 ∷ 3 ∷ count ∷ xs ++ more) ≡ Read.Short
named-run b0 b1 b2 count xs more h all k =
    let v = byte-then (b0 == 5) b0 1 0 BadKind.Version (b1 ∷ b2 ∷ 3 ∷ count ∷ xs) behind_version5 h in
    let c = byte-then (b1 == 1 || b1 == 2 || b1 == 3) b1 2 1 BadKind.Command (b2 ∷ 3 ∷ count ∷ xs) behind_code5 v.behind in
    let n = named-begins b1 count xs (not (count == 0)) c.behind in
    byte-goes (b0 == 5) b0 1 0 BadKind.Version (b1 ∷ b2 ∷ 3 ∷ count ∷ xs ++ more) behind_version5 v.passed
    (byte-goes (b1 == 1 || b1 == 2 || b1 == 3) b1 2 1 BadKind.Command (b2 ∷ 3 ∷ count ∷ xs ++ more) behind_code5 c.passed
    (named-goes b1 count (xs ++ more) (not (count == 0)) n.passed (counted-stays count 5 xs more n.behind all k)))

-- a name has begun behind its length
pub name-run5 : (m : List ℕ) (n left : ℕ) → 5 ≤ length m → request5 0 m ≡ Read.Short → get_or m 3 0 ≡ 3 → n ≡ get_or m 4 0 → left ≡ n - (length m - 5) → StaysShort Stage.Request m (record { kind = Kind.Name; left = left })
name-run5 (b0 ∷ b1 ∷ b2 ∷ b3 ∷ count ∷ xs) n left l h e c d =
    λ more some few all.
    let P : ℕ → Type 0 = λ b. request5 0 (b0 ∷ b1 ∷ b2 ∷ b ∷ count ∷ xs) ≡ Read.Short → request5 0 (b0 ∷ b1 ∷ b2 ∷ b ∷ count ∷ xs ++ more) ≡ Read.Short in
    ap is_short (subst P (sym e) (λ g. named-run b0 b1 b2 count xs more g all (omega (arith, c, d, few, some))) h)
name-run5 _ n left l h e c d = absurd (omega (arith, l))

-- ---- a byte of the run

pub stays-now : (g : Stage) (m : List ℕ) (r : Run) (b : ℕ) → StaysShort g m r → 0 < r.left → passes r.kind b ≡ true → is_short_at g (m ++ b ∷ []) ≡ true
stays-now g m r b h l e = h (b ∷ []) (omega arith) (omega (arith, l)) (rw e refl)

both-are : (a b t : Bool) → t ≡ true → t ≡ (a && b) → (a ≡ true) × (b ≡ true)
both-are a b t h e = and-both a b (sym e ∙ h)

-- the byte is one of the run
pub run-byte : (r : Run) (b : ℕ) (t : Bool) → t ≡ true → t ≡ (nat_lt 0 r.left && passes r.kind b) → (0 < r.left) × (passes r.kind b ≡ true)
run-byte r b t h e = let f = both-are (nat_lt 0 r.left) (passes r.kind b) t h e in (ltb-true 0 r.left f.0, f.1)
