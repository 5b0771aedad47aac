-- A text spells at most one line.
use Rattle.std.proofs.Common.{◌≡◌, ◌≢◌, ◌<◌, ◌≤◌, ◌+◌, ◌*◌, ◌^◌, ℕ, true, List, [], ◌∷◌, ◌++◌, ◌⊎◌, inl, inr, Some, None, Result, Ok, Err, codes, get_or, sym, subst, ap, ◌∙◌, refl, arith}
use Rattle.std.proofs.lemmas.Bool.Decides.{nat_tests}
use Rattle.std.proofs.lemmas.Fmt.{decimal_injective}
use Rattle.addr_pattern.specs.declared.addr.Addr.{Addr}
use Rattle.addr_pattern.specs.declared.endpoint.Endpoint.{Endpoint}
use Rattle.addr_pattern.specs.declared.fault.AddrFault.{AddrFault}
use Rattle.addr_pattern.specs.Reading.{addr_read}
use Rattle.socks_machine.specs.declared.world.Object.{Object}
use Rattle.socks_machine.specs.declared.world.Outer.{Outer}
use Rattle.socks_machine.specs.declared.script.CallKind.{CallKind}
use Rattle.socks_machine.specs.declared.script.ScriptLine.{ScriptLine}
use Rattle.replay_script.specs.Conf.{publish_word}
use Rattle.replay_script.specs.Cuts.{IsNumber}
use Rattle.replay_script.specs.Forms.{largest, Spells, IsEndpoint, IsHex, IsNumbered, IsOpen, IsSent, IsClient, IsTarget, IsDial, IsOutcome, is_skipped, IsAddress, IsLookup, IsFound, IsBound, IsRoom, IsKind, IsCall, IsFault}
use Rattle.replay_script.specs.Users.{users_word}
use Rattle.replay_script.proofs.Peeling.{peel_after, peel_cut, peel_number}

pub one_number : (limit : ℕ) (text : List ℕ) (n m : ℕ) → limit < 2 ^ 64 → IsNumber limit text n → IsNumber limit text m → n ≡ m
one_number limit text n m small h k =
    let a = h.fits in
    let b = k.fits in
    decimal_injective n m (omega arith) (omega arith) (sym h.spelled ∙ k.spelled)

pub one_endpoint : (text : List ℕ) (e f : Endpoint) → IsEndpoint text e → IsEndpoint text f → e ≡ f
unfolding IsEndpoint
one_endpoint text e f h k = cc

pub one_address : (text : List ℕ) (a b : Addr) → IsAddress text a → IsAddress text b → a ≡ b
unfolding IsAddress
one_address text a b h k = cc

pub one_hex : (text xs ys : List ℕ) → IsHex text xs → IsHex text ys → xs ≡ ys
unfolding IsHex
one_hex text xs ys h k = let a = h.1 in let b = k.1 in cc

pub one_numbered : (front text : List ℕ) (n m : ℕ) → IsNumbered front text n → IsNumbered front text m → n ≡ m
one_numbered front text n m h k =
    let k1 = peel_after front text h.0 (λ rest. IsNumber largest rest m) h.1 k in
    one_number largest h.0 n m (omega arith) h.2 k1

one_open : (text : List ℕ) (n m : ℕ) (p q a b : Endpoint) → IsOpen text n p a → IsOpen text m q b → (n ≡ m) × (p ≡ q) × (a ≡ b)
one_open text n m p q a b h k =
    let k1 = peel_after (codes "open 1 ") text h.0 _ h.1 k in
    let k2 = peel_number 32 largest h.0 h.2.0 h.2.1 _ refl (omega arith) h.2.2 k1 in
    let k3 = peel_cut 32 h.2.1 h.2.3.0 h.2.3.1 _ h.2.3.2 k2 in
    (sym h.2.3.3.0 ∙ k3.0, one_endpoint h.2.3.0 p q h.2.3.3.1 k3.1, one_endpoint h.2.3.1 a b h.2.3.3.2 k3.2)

pub one_sent : (front text : List ℕ) (n m : ℕ) (xs ys : List ℕ) → IsSent front text n xs → IsSent front text m ys → (n ≡ m) × (xs ≡ ys)
one_sent front text n m xs ys h k =
    let k1 = peel_after front text h.0 _ h.1 k in
    let k2 = peel_number 32 largest h.0 h.2.0 h.2.1 _ refl (omega arith) h.2.2 k1 in
    (sym h.2.3.0 ∙ k2.0, one_hex h.2.1 xs ys h.2.3.1 k2.1)

-- the first byte of an outcome
unfoldable outcome_code : Outer → ℕ
outcome_code (Outer.Up at) = 117
outcome_code Outer.Refused = 114
outcome_code Outer.HostUnreachable = 104
outcome_code Outer.NetUnreachable = 110
outcome_code Outer.Failed = 102
outcome_code _ = 0

outcome_first : (text : List ℕ) (a : Outer) → IsOutcome text a → (get_or text 0 0 ≡ outcome_code a) × (0 < outcome_code a)
unfolding outcome_code
outcome_first text (Outer.Up at) h = (ap (λ (z : List ℕ). get_or z 0 0) h.1, omega arith)
outcome_first text Outer.Refused h = (ap (λ (z : List ℕ). get_or z 0 0) h, omega arith)
outcome_first text Outer.HostUnreachable h = (ap (λ (z : List ℕ). get_or z 0 0) h, omega arith)
outcome_first text Outer.NetUnreachable h = (ap (λ (z : List ℕ). get_or z 0 0) h, omega arith)
outcome_first text Outer.Failed h = (ap (λ (z : List ℕ). get_or z 0 0) h, omega arith)
outcome_first text _ h = absurd h

same_outcome : (text : List ℕ) (a b : Outer) → outcome_code a ≡ outcome_code b → 0 < outcome_code a → IsOutcome text a → IsOutcome text b → a ≡ b
unfolding outcome_code
same_outcome text (Outer.Up a) (Outer.Up b) e s h k =
    let q = one_endpoint h.0 a b h.2 (peel_after (codes "up ") text h.0 _ h.1 k) in
    ap (λ (z : Endpoint). Outer.Up z) q
same_outcome text Outer.Refused Outer.Refused e s h k = refl
same_outcome text Outer.HostUnreachable Outer.HostUnreachable e s h k = refl
same_outcome text Outer.NetUnreachable Outer.NetUnreachable e s h k = refl
same_outcome text Outer.Failed Outer.Failed e s h k = refl
same_outcome text a b e s h k = absurd (omega (arith, e, s))

one_outcome : (text : List ℕ) (a b : Outer) → IsOutcome text a → IsOutcome text b → a ≡ b
one_outcome text a b h k =
    let x = outcome_first text a h in
    let y = outcome_first text b k in
    same_outcome text a b (sym x.0 ∙ y.0) x.1 h k

one_dial : (text : List ℕ) (n m : ℕ) (a b : Outer) → IsDial text n a → IsDial text m b → (n ≡ m) × (a ≡ b)
one_dial text n m a b h k =
    let k1 = peel_after (codes "dial ") text h.0 _ h.1 k in
    let k2 = peel_number 32 largest h.0 h.2.0 h.2.1 _ refl (omega arith) h.2.2 k1 in
    (sym h.2.3.0 ∙ k2.0, one_outcome h.2.1 a b h.2.3.1 k2.1)

-- a word that is no address
unread : (text word : List ℕ) (a : Addr) → addr_read word ≡ Err AddrFault.BadOctet → text ≡ word → IsAddress text a → ⊥
unfolding IsAddress
unread text word a bad is h =
    let e : ◌≡◌ {A = Result Addr AddrFault} (Err AddrFault.BadOctet) (Ok a) = sym bad ∙ (ap addr_read (sym is) ∙ h) in
    cc

none_unread : (text : List ℕ) (a : Addr) → text ≡ codes "none" → IsAddress text a → ⊥
none_unread text a is h = unread text (codes "none") a refl is h

fail_unread : (text : List ℕ) (a : Addr) → text ≡ codes "fail" → IsAddress text a → ⊥
fail_unread text a is h = unread text (codes "fail") a refl is h

none_fail : (text : List ℕ) → text ≡ codes "none" → text ≡ codes "fail" → ⊥
none_fail text h k =
    let e : ◌≡◌ {A = ℕ} 110 102 = ap (λ (z : List ℕ). get_or z 0 0) (sym h ∙ k) in
    absurd (omega (arith, e))

one_found : (text : List ℕ) (a b : Outer) → IsFound text a → IsFound text b → a ≡ b
one_found text (Outer.Looked (Some a)) (Outer.Looked (Some b)) h k = ap (λ (z : Addr). Outer.Looked (Some z)) (one_address text a b h k)
one_found text (Outer.Looked None) (Outer.Looked None) h k = refl
one_found text Outer.Failed Outer.Failed h k = refl
one_found text (Outer.Looked (Some a)) (Outer.Looked None) h k = absurd (none_unread text a k h)
one_found text (Outer.Looked None) (Outer.Looked (Some b)) h k = absurd (none_unread text b h k)
one_found text (Outer.Looked (Some a)) Outer.Failed h k = absurd (fail_unread text a k h)
one_found text Outer.Failed (Outer.Looked (Some b)) h k = absurd (fail_unread text b h k)
one_found text (Outer.Looked None) Outer.Failed h k = absurd (none_fail text h k)
one_found text Outer.Failed (Outer.Looked None) h k = absurd (none_fail text k h)
one_found text (Outer.Looked (Some a)) _ h k = absurd k
one_found text (Outer.Looked None) _ h k = absurd k
one_found text Outer.Failed _ h k = absurd k
one_found text _ _ h k = absurd h

one_lookup : (text : List ℕ) (n m : ℕ) (a b : Outer) → IsLookup text n a → IsLookup text m b → (n ≡ m) × (a ≡ b)
one_lookup text n m a b h k =
    let k1 = peel_after (codes "lookup ") text h.0 _ h.1 k in
    let k2 = peel_number 32 largest h.0 h.2.0 h.2.1 _ refl (omega arith) h.2.2 k1 in
    (sym h.2.3.0 ∙ k2.0, one_found h.2.1 a b h.2.3.1 k2.1)

one_bound : (text : List ℕ) (a b : Object) (n m : ℕ) → IsBound text a n → IsBound text b m → (a ≡ b) × (n ≡ m)
one_bound text Object.Client Object.Client n m h k = (refl, one_numbered (codes "client ") text n m h k)
one_bound text Object.Target Object.Target n m h k = (refl, one_numbered (codes "target ") text n m h k)
one_bound text Object.Client Object.Target n m h k =
    let e : ◌≡◌ {A = ℕ} 99 116 = ap (λ (z : List ℕ). get_or z 0 0) (sym h.1 ∙ k.1) in
    absurd (omega (arith, e))
one_bound text Object.Target Object.Client n m h k =
    let e : ◌≡◌ {A = ℕ} 116 99 = ap (λ (z : List ℕ). get_or z 0 0) (sym h.1 ∙ k.1) in
    absurd (omega (arith, e))
one_bound text Object.Client _ n m h k = absurd k
one_bound text Object.Target _ n m h k = absurd k
one_bound text _ _ n m h k = absurd h

one_room : (text : List ℕ) (n m : ℕ) (a b : Object) (most other : ℕ) → IsRoom text n a most → IsRoom text m b other → (n ≡ m) × (a ≡ b) × (most ≡ other)
one_room text n m a b most other h k =
    let k1 = peel_after (codes "room ") text h.0 _ h.1 k in
    let k2 = peel_number 32 largest h.0 h.2.0 h.2.1 _ refl (omega arith) h.2.2 k1 in
    let e = one_bound h.2.1 a b most other h.2.3.1 k2.1 in
    (sym h.2.3.0 ∙ k2.0, e.0, e.1)

-- the first byte of a kind of call
unfoldable kind_code : CallKind → ℕ
kind_code CallKind.Reading = 114
kind_code CallKind.Writing = 119
kind_code CallKind.Shutting = 115

kind_first : (text : List ℕ) (k : CallKind) → IsKind text k → get_or text 0 0 ≡ kind_code k
unfolding kind_code
kind_first text CallKind.Reading h = ap (λ (z : List ℕ). get_or z 0 0) h
kind_first text CallKind.Writing h = ap (λ (z : List ℕ). get_or z 0 0) h
kind_first text CallKind.Shutting h = ap (λ (z : List ℕ). get_or z 0 0) h

same_kind : (a b : CallKind) → kind_code a ≡ kind_code b → a ≡ b
unfolding kind_code
same_kind CallKind.Reading CallKind.Reading e = refl
same_kind CallKind.Writing CallKind.Writing e = refl
same_kind CallKind.Shutting CallKind.Shutting e = refl
same_kind a b e = absurd (omega (arith, e))

one_kind : (text : List ℕ) (a b : CallKind) → IsKind text a → IsKind text b → a ≡ b
one_kind text a b h k = same_kind a b (sym (kind_first text a h) ∙ kind_first text b k)

one_call : (text : List ℕ) (a b : Object) (k j : CallKind) → IsCall text a k → IsCall text b j → (a ≡ b) × (k ≡ j)
one_call text Object.Client Object.Client k j h i = (refl, one_kind h.0 k j h.2 (peel_after (codes "client ") text h.0 _ h.1 i))
one_call text Object.Target Object.Target k j h i = (refl, one_kind h.0 k j h.2 (peel_after (codes "target ") text h.0 _ h.1 i))
one_call text Object.Client Object.Target k j h i =
    let e : ◌≡◌ {A = ℕ} 99 116 = ap (λ (z : List ℕ). get_or z 0 0) (sym h.1 ∙ i.1) in
    absurd (omega (arith, e))
one_call text Object.Target Object.Client k j h i =
    let e : ◌≡◌ {A = ℕ} 116 99 = ap (λ (z : List ℕ). get_or z 0 0) (sym h.1 ∙ i.1) in
    absurd (omega (arith, e))
one_call text Object.Client _ k j h i = absurd i
one_call text Object.Target _ k j h i = absurd i
one_call text _ _ k j h i = absurd h

one_fault_line : (text : List ℕ) (n m : ℕ) (a b : Object) (k j : CallKind) → IsFault text n a k → IsFault text m b j → (n ≡ m) × (a ≡ b) × (k ≡ j)
one_fault_line text n m a b k j h i =
    let i1 = peel_after (codes "fault ") text h.0 _ h.1 i in
    let i2 = peel_number 32 largest h.0 h.2.0 h.2.1 _ refl (omega arith) h.2.2 i1 in
    let e = one_call h.2.1 a b k j h.2.3.1 i2.1 in
    (sym h.2.3.0 ∙ i2.0, e.0, e.1)

client_end : (text : List ℕ) (n m : ℕ) (xs : List ℕ) → IsClient text n xs → IsNumbered (codes "clientend ") text m → ⊥
client_end text n m xs h k =
    let e : ◌≡◌ {A = ℕ} 32 101 = ap (λ (z : List ℕ). get_or z 6 0) (sym h.0.1 ∙ k.1) in
    absurd (omega arith)

target_end : (text : List ℕ) (n m : ℕ) (xs : List ℕ) → IsTarget text n xs → IsNumbered (codes "targetend ") text m → ⊥
target_end text n m xs h k =
    let e : ◌≡◌ {A = ℕ} 32 101 = ap (λ (z : List ℕ). get_or z 6 0) (sym h.0.1 ∙ k.1) in
    absurd (omega arith)

-- ---- which form it is

abbrev two_bytes : ℕ → ℕ → ℕ
two_bytes a b = a * 256 + b

abbrev front_code : List ℕ → ℕ
front_code text = two_bytes (get_or text 0 0) (get_or text 1 0)

-- the first two bytes of a line of this form
unfoldable code : ScriptLine → ℕ
code (ScriptLine.See w) = two_bytes 115 101
code (ScriptLine.Open w n p a) = two_bytes 111 112
code (ScriptLine.Client n xs) = two_bytes 99 108
code (ScriptLine.Target n xs) = two_bytes 116 97
code (ScriptLine.ClientEnd n) = two_bytes 99 108
code (ScriptLine.TargetEnd n) = two_bytes 116 97
code (ScriptLine.Lookup n o) = two_bytes 108 111
code (ScriptLine.Dial n o) = two_bytes 100 105
code (ScriptLine.Room n o most) = two_bytes 114 111
code (ScriptLine.Fault n o k) = two_bytes 102 97
code (ScriptLine.Now n) = two_bytes 110 111
code (ScriptLine.Turn w n) = two_bytes 116 117
code _ = 0

begins_with_code : (text : List ℕ) (l : ScriptLine) → Spells text l → (front_code text ≡ code l) × (0 < code l)
unfolding code
begins_with_code text (ScriptLine.See w) h = (ap front_code h.1, omega arith)
begins_with_code text (ScriptLine.Open w n p a) h = (ap front_code h.1.1, omega arith)
begins_with_code text (ScriptLine.Client n xs) h = (ap front_code h.0.1, omega arith)
begins_with_code text (ScriptLine.Target n xs) h = (ap front_code h.0.1, omega arith)
begins_with_code text (ScriptLine.ClientEnd n) h = (ap front_code h.1, omega arith)
begins_with_code text (ScriptLine.TargetEnd n) h = (ap front_code h.1, omega arith)
begins_with_code text (ScriptLine.Lookup n o) h = (ap front_code h.1, omega arith)
begins_with_code text (ScriptLine.Dial n o) h = (ap front_code h.1, omega arith)
begins_with_code text (ScriptLine.Room n o most) h = (ap front_code h.1, omega arith)
begins_with_code text (ScriptLine.Fault n o k) h = (ap front_code h.1, omega arith)
begins_with_code text (ScriptLine.Now n) h = (ap front_code h.1, omega arith)
begins_with_code text (ScriptLine.Turn w n) h = (ap front_code h.1.1, omega arith)
begins_with_code text _ h = absurd h

same_form : (text : List ℕ) (l m : ScriptLine) → code l ≡ code m → 0 < code l → Spells text l → Spells text m → l ≡ m
unfolding code
same_form text (ScriptLine.See w) (ScriptLine.See v) e p h k = let q : w ≡ v = h.0 ∙ sym k.0 in cc
same_form text (ScriptLine.Open w n p a) (ScriptLine.Open v m q b) e s h k =
    let r = one_open text n m p q a b h.1 k.1 in
    let x : w ≡ v = h.0 ∙ sym k.0 in
    cc (r.0, r.1, r.2, x)
same_form text (ScriptLine.Client n xs) (ScriptLine.Client m ys) e s h k = let r = one_sent (codes "client ") text n m xs ys h.0 k.0 in cc (r.0, r.1)
same_form text (ScriptLine.Target n xs) (ScriptLine.Target m ys) e s h k = let r = one_sent (codes "target ") text n m xs ys h.0 k.0 in cc (r.0, r.1)
same_form text (ScriptLine.ClientEnd n) (ScriptLine.ClientEnd m) e s h k = let r = one_numbered (codes "clientend ") text n m h k in cc r
same_form text (ScriptLine.TargetEnd n) (ScriptLine.TargetEnd m) e s h k = let r = one_numbered (codes "targetend ") text n m h k in cc r
same_form text (ScriptLine.Lookup n a) (ScriptLine.Lookup m b) e s h k = let r = one_lookup text n m a b h k in cc (r.0, r.1)
same_form text (ScriptLine.Dial n a) (ScriptLine.Dial m b) e s h k = let r = one_dial text n m a b h k in cc (r.0, r.1)
same_form text (ScriptLine.Room n a most) (ScriptLine.Room m b other) e s h k = let r = one_room text n m a b most other h k in cc (r.0, r.1, r.2)
same_form text (ScriptLine.Fault n a k) (ScriptLine.Fault m b j) e s h i = let r = one_fault_line text n m a b k j h i in cc (r.0, r.1, r.2)
same_form text (ScriptLine.Now n) (ScriptLine.Now m) e s h k = let r = one_numbered (codes "now ") text n m h k in cc r
same_form text (ScriptLine.Turn w n) (ScriptLine.Turn v m) e s h k =
    let r = one_numbered (codes "turn 1 ") text n m h.1 k.1 in
    let x : w ≡ v = h.0 ∙ sym k.0 in
    cc (r, x)
same_form text (ScriptLine.Client n xs) (ScriptLine.ClientEnd m) e s h k = absurd (client_end text n m xs h k)
same_form text (ScriptLine.ClientEnd n) (ScriptLine.Client m xs) e s h k = absurd (client_end text m n xs k h)
same_form text (ScriptLine.Target n xs) (ScriptLine.TargetEnd m) e s h k = absurd (target_end text n m xs h k)
same_form text (ScriptLine.TargetEnd n) (ScriptLine.Target m xs) e s h k = absurd (target_end text m n xs k h)
same_form text l m e s h k = absurd (omega (arith, e, s))

-- a text is at most one line
pub one_line : (text : List ℕ) (l m : ScriptLine) → Spells text l → Spells text m → l ≡ m
one_line text l m h k =
    let a = begins_with_code text l h in
    let b = begins_with_code text m k in
    same_form text l m (sym a.0 ∙ b.0) a.1 h k

-- no line begins as one that counts others, or as one that is skipped
abbrev IsOtherHead : ℕ → Type 0
IsOtherHead b = (35 < b) × (b ≢ 112) × (b ≢ 117)

other_head : (b k : ℕ) → b ≡ k → (35 < k) × (k ≢ 112) × (k ≢ 117) → IsOtherHead b
other_head b k e h = subst IsOtherHead (sym e) h

head_apart : (text : List ℕ) (l : ScriptLine) → Spells text l → IsOtherHead (get_or text 0 0)
head_apart text (ScriptLine.See w) h = other_head (get_or text 0 0) 115 (ap (λ (z : List ℕ). get_or z 0 0) h.1) (omega arith, λ f. absurd (omega (arith, f)), λ f. absurd (omega (arith, f)))
head_apart text (ScriptLine.Open w n p a) h = other_head (get_or text 0 0) 111 (ap (λ (z : List ℕ). get_or z 0 0) h.1.1) (omega arith, λ f. absurd (omega (arith, f)), λ f. absurd (omega (arith, f)))
head_apart text (ScriptLine.Client n xs) h = other_head (get_or text 0 0) 99 (ap (λ (z : List ℕ). get_or z 0 0) h.0.1) (omega arith, λ f. absurd (omega (arith, f)), λ f. absurd (omega (arith, f)))
head_apart text (ScriptLine.Target n xs) h = other_head (get_or text 0 0) 116 (ap (λ (z : List ℕ). get_or z 0 0) h.0.1) (omega arith, λ f. absurd (omega (arith, f)), λ f. absurd (omega (arith, f)))
head_apart text (ScriptLine.ClientEnd n) h = other_head (get_or text 0 0) 99 (ap (λ (z : List ℕ). get_or z 0 0) h.1) (omega arith, λ f. absurd (omega (arith, f)), λ f. absurd (omega (arith, f)))
head_apart text (ScriptLine.TargetEnd n) h = other_head (get_or text 0 0) 116 (ap (λ (z : List ℕ). get_or z 0 0) h.1) (omega arith, λ f. absurd (omega (arith, f)), λ f. absurd (omega (arith, f)))
head_apart text (ScriptLine.Lookup n o) h = other_head (get_or text 0 0) 108 (ap (λ (z : List ℕ). get_or z 0 0) h.1) (omega arith, λ f. absurd (omega (arith, f)), λ f. absurd (omega (arith, f)))
head_apart text (ScriptLine.Dial n o) h = other_head (get_or text 0 0) 100 (ap (λ (z : List ℕ). get_or z 0 0) h.1) (omega arith, λ f. absurd (omega (arith, f)), λ f. absurd (omega (arith, f)))
head_apart text (ScriptLine.Room n o most) h = other_head (get_or text 0 0) 114 (ap (λ (z : List ℕ). get_or z 0 0) h.1) (omega arith, λ f. absurd (omega (arith, f)), λ f. absurd (omega (arith, f)))
head_apart text (ScriptLine.Fault n o k) h = other_head (get_or text 0 0) 102 (ap (λ (z : List ℕ). get_or z 0 0) h.1) (omega arith, λ f. absurd (omega (arith, f)), λ f. absurd (omega (arith, f)))
head_apart text (ScriptLine.Now n) h = other_head (get_or text 0 0) 110 (ap (λ (z : List ℕ). get_or z 0 0) h.1) (omega arith, λ f. absurd (omega (arith, f)), λ f. absurd (omega (arith, f)))
head_apart text (ScriptLine.Turn w n) h = other_head (get_or text 0 0) 116 (ap (λ (z : List ℕ). get_or z 0 0) h.1.1) (omega arith, λ f. absurd (omega (arith, f)), λ f. absurd (omega (arith, f)))
head_apart text _ h = absurd h

skipped_low : (text : List ℕ) → is_skipped text ≡ true → get_or text 0 0 ≤ 35
skipped_low [] h = omega arith
skipped_low (b ∷ bs) h = let e : b ≡ 35 = grind (arith, nat_tests, h) in let f : b ≤ 35 = omega (arith, e) in f

-- a line that is skipped is no line of the script
pub skipped_apart : (text : List ℕ) (l : ScriptLine) → is_skipped text ≡ true → Spells text l → ⊥
skipped_apart text l h k = let a = skipped_low text h in let b = (head_apart text l k).0 in absurd (omega (arith, a, b))

-- ---- a line that counts others

-- the words of such lines
abbrev pub CountsOthers : List ℕ → Type 0
CountsOthers word = (word ≡ publish_word) ⊎ (word ≡ users_word)

counting_head : (word text : List ℕ) (n : ℕ) → CountsOthers word → IsNumbered word text n → (get_or text 0 0 ≡ 112) ⊎ (get_or text 0 0 ≡ 117)
counting_head word text n (inl e) h = inl (ap (λ (z : List ℕ). get_or z 0 0) (h.1 ∙ ap (λ (z : List ℕ). z ++ h.0) e))
counting_head word text n (inr e) h = inr (ap (λ (z : List ℕ). get_or z 0 0) (h.1 ∙ ap (λ (z : List ℕ). z ++ h.0) e))

-- it is no other line
pub counting_apart : (word text : List ℕ) (n : ℕ) (l : ScriptLine) → CountsOthers word → IsNumbered word text n → Spells text l → ⊥
counting_apart word text n l w h k =
    let a = head_apart text l k in
    elim (counting_head word text n w h) [ inl e ↦ a.1 e | inr e ↦ a.2 e ]

-- nor is it skipped
pub counting_unskipped : (word text : List ℕ) (n : ℕ) → CountsOthers word → IsNumbered word text n → is_skipped text ≡ true → ⊥
counting_unskipped word text n w h k =
    let a = skipped_low text k in
    elim (counting_head word text n w h) [ inl e ↦ absurd (omega (arith, a, e)) | inr e ↦ absurd (omega (arith, a, e)) ]

-- the words differ
pub words_apart : (text : List ℕ) (n m : ℕ) → IsNumbered publish_word text n → IsNumbered users_word text m → ⊥
words_apart text n m h k =
    let e : ◌≡◌ {A = ℕ} 112 117 = ap (λ (z : List ℕ). get_or z 0 0) (sym h.1 ∙ k.1) in
    absurd (omega (arith, e))
