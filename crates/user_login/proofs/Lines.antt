-- A users file, line by line.
use Rattle.std.proofs.Common.{ℕ, ◌≡◌, ◌≤◌, ◌+◌, false, ◌==◌, nat_lt, Result, Ok, Err, inl, inr, List, [], ◌∷◌, ◌++◌, length, refl, sym, subst, ap, ◌∙◌, length-append, arith}
use Rattle.std.proofs.lemmas.Bool.Decides.{nat_tests}
use Rattle.addr_pattern.specs.Cuts.{Lacks, CutsFirst}
use Rattle.addr_pattern.proofs.Cutting.{parts-cut, parts-lacks}
use Rattle.socks_grammar.specs.declared.user.User.{User}
use Rattle.std.specs.Result.{IsErrAnd}
use Rattle.user_login.specs.declared.fault.UsersFault.{UsersFault}
use Rattle.user_login.specs.declared.fault.UsersKind.{UsersKind}
use Rattle.user_login.specs.UsersFile.{without_cr, line_onto, lines_onto, lines, users_of, longest, OnUsers, OnNumbered}

pub cr-is : (xs : List ℕ) → without_cr (xs ++ 13 ∷ []) ≡ xs
cr-is [] = refl
cr-is (x ∷ []) = refl
cr-is (x ∷ y ∷ xs) = ap (λ zs. x ∷ zs) (cr-is (y ∷ xs))

pub cr-other : (xs : List ℕ) (last : ℕ) → (last == 13) ≡ false → without_cr (xs ++ last ∷ []) ≡ xs ++ last ∷ []
cr-other [] last h = rw h refl
cr-other (x ∷ []) last h = ap (λ zs. x ∷ zs) (cr-other [] last h)
cr-other (x ∷ y ∷ xs) last h = ap (λ zs. x ∷ zs) (cr-other (y ∷ xs) last h)

pub text-lines : (text : List ℕ) → length text ≤ longest → users_of text ≡ lines_onto 1 [] (lines text)
text-lines text h = let e : nat_lt longest (length text) ≡ false = grind (arith, nat_tests) in rw e refl

lines-cut : (rest front behind : List ℕ) → CutsFirst 10 rest front behind → lines rest ≡ front ∷ lines behind
lines-cut rest front behind c = ap lines c.spelled ∙ parts-cut 10 front behind c.lacks

pub cut-shorter : (rest front behind : List ℕ) → CutsFirst 10 rest front behind → length behind + 1 ≤ length rest
cut-shorter rest front behind c = let e : length rest ≡ length (front ++ 10 ∷ behind) = ap length c.spelled in omega (arith, simp length-append at e)

pub lines-more : (n : ℕ) (users more : List User) (rest front behind : List ℕ) → CutsFirst 10 rest front behind
    → line_onto users front ≡ Ok more → lines_onto n users (lines rest) ≡ lines_onto (n + 1) more (lines behind)
lines-more n users more rest front behind c h = ap (lines_onto n users) (lines-cut rest front behind c) ∙ (rw (h, lines_onto) refl)

pub lines-wrong : (n : ℕ) (users : List User) (kind : UsersKind) (rest front behind : List ℕ) → CutsFirst 10 rest front behind
    → line_onto users front ≡ Err kind → lines_onto n users (lines rest) ≡ Err (record { line = n; kind = kind })
lines-wrong n users kind rest front behind c h = ap (lines_onto n users) (lines-cut rest front behind c) ∙ (rw (h, lines_onto) refl)

pub last-more : (n : ℕ) (users more : List User) (rest : List ℕ) → Lacks 10 rest → line_onto users rest ≡ Ok more → lines_onto n users (lines rest) ≡ Ok more
last-more n users more rest l h = ap (lines_onto n users) (parts-lacks 10 rest l) ∙ (rw (h, lines_onto) refl)

pub last-wrong : (n : ℕ) (users : List User) (kind : UsersKind) (rest : List ℕ) → Lacks 10 rest
    → line_onto users rest ≡ Err kind → lines_onto n users (lines rest) ≡ Err (record { line = n; kind = kind })
last-wrong n users kind rest l h = ap (lines_onto n users) (parts-lacks 10 rest l) ∙ (rw (h, lines_onto) refl)

-- ---- the first fault

found-first : (text : List ℕ) (n : ℕ) (users : List User) (fault : UsersFault) (rest : List ℕ) → length text ≤ longest → lines_onto 1 [] (lines text) ≡ lines_onto n users (lines rest)
    → lines_onto n users (lines rest) ≡ Err (record { line = n; kind = fault.kind }) → fault.line ≡ n → users_of text ≡ Err fault
found-first text n users fault rest h so_far is at =
    text-lines text h ∙ (so_far ∙ (is ∙ ap (λ (k : ℕ). Err (record { line = k; kind = fault.kind })) (sym at)))

-- a fault that `?` hands on
handed : (text : List ℕ) (fault : UsersFault) (r : Result (List User) UsersFault) → IsErrAnd r (λ e. e ≡ fault) → OnUsers text (Err fault) → OnUsers text r
handed text fault (Ok users) h k = absurd h
handed text fault (Err e) h k = subst (λ (f : UsersFault). OnUsers text (Err f)) (sym h) k

pub wrong-line : (text : List ℕ) (n : ℕ) (users new : List User) (fault : UsersFault) (rest front behind : List ℕ) (r : Result (List User) UsersFault) → length text ≤ longest
    → lines_onto 1 [] (lines text) ≡ lines_onto n users (lines rest) → CutsFirst 10 rest front behind → OnNumbered users n front new (Err fault) → IsErrAnd r (λ e. e ≡ fault) → OnUsers text r
wrong-line text n users new fault rest front behind r h so_far c (inl e) is = handed text fault r is (inl e)
wrong-line text n users new fault rest front behind r h so_far c (inr e) is =
    handed text fault r is (inr (found-first text n users fault rest h so_far (lines-wrong n users fault.kind rest front behind c e.1) e.0))

pub wrong-last : (text : List ℕ) (n : ℕ) (users new : List User) (fault : UsersFault) (rest : List ℕ) (r : Result (List User) UsersFault) → length text ≤ longest
    → lines_onto 1 [] (lines text) ≡ lines_onto n users (lines rest) → Lacks 10 rest → OnNumbered users n rest new (Err fault) → IsErrAnd r (λ e. e ≡ fault) → OnUsers text r
wrong-last text n users new fault rest r h so_far l (inl e) is = handed text fault r is (inl e)
wrong-last text n users new fault rest r h so_far l (inr e) is =
    handed text fault r is (inr (found-first text n users fault rest h so_far (last-wrong n users fault.kind rest l e.1) e.0))

pub all-lines : (text : List ℕ) (n : ℕ) (users more : List User) (rest : List ℕ) → length text ≤ longest
    → lines_onto 1 [] (lines text) ≡ lines_onto n users (lines rest) → Lacks 10 rest → line_onto users rest ≡ Ok more → users_of text ≡ Ok more
all-lines text n users more rest h so_far l is = text-lines text h ∙ (so_far ∙ last-more n users more rest l is)
