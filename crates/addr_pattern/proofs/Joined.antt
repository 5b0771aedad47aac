-- Groups with colons between them, read again, and the `::` behind them.
use Rattle.std.proofs.Common.{ℕ, ◌≡◌, ◌≢◌, ◌≤◌, Bool, true, false, ◌==◌, ◌&&◌, ◌||◌, Option, Some, None, option_map, List, [], ◌∷◌, ◌++◌, length, length-append, append_assoc, append-nil, sym, ap, ◌∙◌, refl, arith, cond}
use Rattle.std.specs.List.{list_any, list_all}
use Rattle.std.proofs.lemmas.Bool.{ne_eqb, or_left}
use Rattle.addr_pattern.specs.AddressText.{cut_at_gap, push_front, groups_of, groups_of_parts, group_of, parts, both, tail_groups, ipv4_of, group_text, joined}
use Rattle.addr_pattern.specs.Cuts.{Lacks}
use Rattle.addr_pattern.proofs.Bytes.{all-cons, all-append, all-wider, lacks-all, none-lacks}
use Rattle.addr_pattern.proofs.Cutting.{parts-lacks}
use Rattle.addr_pattern.proofs.Gaps.{behind_front, groups-first, groups_of-some}
use Rattle.addr_pattern.proofs.Hexadecimal.{is_hex, Below, IsGroupText, group-inverse}

-- ---- reading

-- the byte test that groups with colons between them pass
abbrev pub is_six_byte : ℕ → Bool
is_six_byte b = is_hex b || b == 58

six-hex : (b : ℕ) → is_hex b ≡ true → is_six_byte b ≡ true
six-hex b h = or_left (is_hex b) (b == 58) h

group-colons : (g : ℕ) (text : List ℕ) → IsGroupText g text → Lacks 58 text
group-colons g text h = lacks-all is_hex 58 text refl h.hex

group-dots : (g : ℕ) (text : List ℕ) → IsGroupText g text → list_any (λ b. b == 46) text ≡ false
group-dots g text h = none-lacks 46 text (lacks-all is_hex 46 text refl h.hex)

last-group : (g : ℕ) (text : List ℕ) → IsGroupText g text → groups_of_parts (parts 58 text) ≡ Some (g ∷ [])
last-group g text h =
    ap groups_of_parts (parts-lacks 58 text (group-colons g text h))
    ∙ (ap (λ b. cond b (tail_groups (ipv4_of text)) (option_map (λ (x : ℕ). x ∷ []) (group_of text))) (group-dots g text h)
    ∙ ap (option_map (λ (x : ℕ). x ∷ [])) h.read)

more-groups : (g : ℕ) (gs text rest : List ℕ) → IsGroupText g text → groups_of_parts (parts 58 rest) ≡ Some gs → groups_of_parts (parts 58 (text ++ 58 ∷ rest)) ≡ Some (g ∷ gs)
more-groups g gs text rest h k =
    groups-first (text ++ 58 ∷ rest) text rest (record { lacks = group-colons g text h; spelled = refl })
    ∙ (ap (λ o. both (option_map (λ (x : ℕ). x ∷ []) o) (groups_of_parts (parts 58 rest))) h.read
    ∙ ap (both (Some (g ∷ []))) k)

parts-joined : (g : ℕ) (gs : List ℕ) → Below 65536 (g ∷ gs) → groups_of_parts (parts 58 (joined (g ∷ gs))) ≡ Some (g ∷ gs)
parts-joined g [] h = last-group g (group_text g) (group-inverse g h.0)
parts-joined g (x ∷ gs) h = more-groups g (x ∷ gs) (group_text g) (joined (x ∷ gs)) (group-inverse g h.0) (parts-joined x gs h.1)

pub some-joined : (g : ℕ) (gs : List ℕ) → Below 65536 (g ∷ gs) → 1 ≤ length (joined (g ∷ gs))
some-joined g [] h = let i = group-inverse g h.0 in i.some
some-joined g (x ∷ gs) h =
    let i = group-inverse g h.0 in
    let e = length-append (group_text g) (58 ∷ joined (x ∷ gs)) in
    omega (arith, i.some, e)

pub groups_of-joined : (gs : List ℕ) → Below 65536 gs → groups_of (joined gs) ≡ Some gs
groups_of-joined [] h = refl
groups_of-joined (g ∷ gs) h = groups_of-some (joined (g ∷ gs)) (some-joined g gs h) ∙ parts-joined g gs h

pub bytes-joined : (gs : List ℕ) → Below 65536 gs → list_all is_six_byte (joined gs) ≡ true
bytes-joined [] h = refl
bytes-joined (g ∷ []) h = let i = group-inverse g h.0 in all-wider is_hex is_six_byte six-hex (group_text g) i.hex
bytes-joined (g ∷ x ∷ gs) h =
    let i = group-inverse g h.0 in
    all-append is_six_byte (group_text g) (58 ∷ joined (x ∷ gs)) (all-wider is_hex is_six_byte six-hex (group_text g) i.hex) (all-cons is_six_byte 58 (joined (x ∷ gs)) refl (bytes-joined (x ∷ gs) h.1))

-- ---- the first `::`

gap-byte : (b : ℕ) (text : List ℕ) → b ≢ 58 → cut_at_gap (b ∷ text) ≡ push_front b (cut_at_gap text)
gap-byte b [] h = refl
gap-byte b (c ∷ text) h = ap (λ t. cond (t && c == 58) (Some ([], text)) (push_front b (cut_at_gap (c ∷ text)))) (ne_eqb b 58 h)

gap-colon : (b : ℕ) (text : List ℕ) → b ≢ 58 → cut_at_gap (58 ∷ b ∷ text) ≡ push_front 58 (cut_at_gap (b ∷ text))
gap-colon b text h = ap (λ t. cond t (Some ([], text)) (push_front 58 (cut_at_gap (b ∷ text)))) (ne_eqb b 58 h)

push-behind : (b : ℕ) (front : List ℕ) (o : Option (List ℕ × List ℕ)) → push_front b (behind_front front o) ≡ behind_front (b ∷ front) o
push-behind b front None = refl
push-behind b front (Some x) = refl

behind-behind : (front next : List ℕ) (o : Option (List ℕ × List ℕ)) → behind_front front (behind_front next o) ≡ behind_front (front ++ next) o
behind-behind front next None = refl
behind-behind front next (Some x) = ap (λ (z : List ℕ). Some (z, x.1)) (sym (append_assoc front next x.0))

gap-lacks : (front text : List ℕ) → Lacks 58 front → cut_at_gap (front ++ text) ≡ behind_front front (cut_at_gap text)
gap-lacks [] text h = behind-nil (cut_at_gap text)
  where
    behind-nil : (o : Option (List ℕ × List ℕ)) → o ≡ behind_front [] o
    behind-nil None = refl
    behind-nil (Some x) = refl
gap-lacks (b ∷ front) text h =
    gap-byte b (front ++ text) h.0 ∙ (ap (push_front b) (gap-lacks front text h.1) ∙ push-behind b front (cut_at_gap text))

-- a colon before a text that begins with another byte
gap-single : (text more : List ℕ) → 1 ≤ length text → Lacks 58 text → cut_at_gap (58 ∷ (text ++ more)) ≡ push_front 58 (cut_at_gap (text ++ more))
gap-single [] more some h = absurd (omega (arith, some))
gap-single (b ∷ text) more some h = gap-colon b (text ++ more) h.0

begin-joined : (g : ℕ) (gs more : List ℕ) → Below 65536 (g ∷ gs) → cut_at_gap (58 ∷ (joined (g ∷ gs) ++ more)) ≡ push_front 58 (cut_at_gap (joined (g ∷ gs) ++ more))
begin-joined g [] more h = let i = group-inverse g h.0 in gap-single (group_text g) more i.some (group-colons g (group_text g) i)
begin-joined g (x ∷ gs) more h =
    let i = group-inverse g h.0 in
    let e = append_assoc (group_text g) (58 ∷ joined (x ∷ gs)) more in
    ap (λ (t : List ℕ). cut_at_gap (58 ∷ t)) e
    ∙ (gap-single (group_text g) (58 ∷ (joined (x ∷ gs) ++ more)) i.some (group-colons g (group_text g) i)
    ∙ ap (λ (t : List ℕ). push_front 58 (cut_at_gap t)) (sym e))

-- a `::` is found behind the groups, and none within them
pub gap-joined : (gs more : List ℕ) → Below 65536 gs → cut_at_gap (joined gs ++ more) ≡ behind_front (joined gs) (cut_at_gap more)
gap-joined [] more h = gap-lacks [] more tt
gap-joined (g ∷ []) more h = let i = group-inverse g h.0 in gap-lacks (group_text g) more (group-colons g (group_text g) i)
gap-joined (g ∷ x ∷ gs) more h =
    let i = group-inverse g h.0 in
    let rest = joined (x ∷ gs) in
    ap cut_at_gap (append_assoc (group_text g) (58 ∷ rest) more)
    ∙ (gap-lacks (group_text g) (58 ∷ (rest ++ more)) (group-colons g (group_text g) i)
    ∙ (ap (behind_front (group_text g)) (begin-joined x gs more h.1 ∙ (ap (push_front 58) (gap-joined (x ∷ gs) more h.1) ∙ push-behind 58 rest (cut_at_gap more)))
    ∙ behind-behind (group_text g) (58 ∷ rest) (cut_at_gap more)))

pub no_gap-joined : (gs : List ℕ) → Below 65536 gs → cut_at_gap (joined gs) ≡ None
no_gap-joined gs h = ap cut_at_gap (sym (append-nil (joined gs))) ∙ gap-joined gs [] h

pub gap-between : (xs ys : List ℕ) → Below 65536 xs → cut_at_gap (joined xs ++ 58 ∷ 58 ∷ joined ys) ≡ Some (joined xs, joined ys)
gap-between xs ys h = gap-joined xs (58 ∷ 58 ∷ joined ys) h ∙ ap (λ (z : List ℕ). Some (z, joined ys)) (append-nil (joined xs))

pub dots-joined : (gs : List ℕ) → Below 65536 gs → list_any (λ b. b == 46) (joined gs) ≡ false
dots-joined gs h = none-lacks 46 (joined gs) (lacks-all is_six_byte 46 (joined gs) refl (bytes-joined gs h))
