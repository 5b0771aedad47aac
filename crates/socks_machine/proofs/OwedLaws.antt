-- What is owed only grows.
use Rattle.std.proofs.Common.{ℕ, ◌≡◌, refl, Bool, true, false, Option, Some, None, List, [], ◌++◌, append_assoc}
use Rattle.std.proofs.lemmas.List.{append-nil}
use mathlib.Core.List.{IsPrefix}
use Rattle.socks_machine.specs.declared.record.Chosen.{Chosen}
use Rattle.socks_grammar.specs.Grammar.{Read, Credentials, greeting, login}
use Rattle.socks_machine.specs.Laws.{TalkOwes}
use Rattle.socks_machine.specs.Socks.{socks, chosen_reply, passed_reply}
use Rattle.socks_machine.specs.View.{asks_login, login_fits, login_fits_behind}
use Rattle.socks_machine.specs.Basis.{Basis}
use Rattle.socks_grammar.specs.Stable.{Extends}
use Rattle.socks_machine.specs.Taking.{chosen_after}
use Rattle.socks_grammar.specs.declared.protocol.Method.{Method}
use Rattle.socks_grammar.proofs.GrammarLaws.{greeting-stable, login-stable}

fits-extends : (basis : Basis) (more : List ℕ) (x y : Read Credentials) → Extends x more y → login_fits basis x ≡ true → login_fits basis y ≡ true
fits-extends basis more (Read.Got l at rest) y e fits = rw e fits
fits-extends basis more Read.Short y e fits = cc
fits-extends basis more (Read.Wrong at byte kind) y e fits = cc

behind-extends : (basis : Basis) (more : List ℕ) (x y : Read (List ℕ)) → Extends x more y → login_fits_behind basis x ≡ true → login_fits_behind basis y ≡ true
behind-extends basis more (Read.Got offered at rest) y e fits =
    rw e (fits-extends basis more (login at rest) (login at (rest ++ more)) (login-stable.law at rest more) fits)
behind-extends basis more Read.Short y e fits = cc
behind-extends basis more (Read.Wrong at byte kind) y e fits = cc

-- the replies before the grant, and what is behind them
abbrev opening : Option Chosen → Bool → List ℕ → List ℕ
opening chosen passed rest = chosen_reply chosen ++ passed_reply passed ++ [] ++ [] ++ rest

opening-grows : (a b : List ℕ) (rest : List ℕ) → IsPrefix (a ++ [] ++ [] ++ [] ++ []) (a ++ b ++ [] ++ [] ++ rest)
opening-grows a b rest = (b ++ rest, simp (append-nil, append_assoc))

same-grows : (a b : List ℕ) (rest : List ℕ) → IsPrefix (a ++ b ++ [] ++ [] ++ []) (a ++ b ++ [] ++ [] ++ rest)
same-grows a b rest = (rest, simp (append-nil, append_assoc))

replies-grow : (chosen : Chosen) (before after : Bool) (rest : List ℕ) → (before ≡ true → after ≡ true)
    → IsPrefix (opening (Some chosen) before []) (opening (Some chosen) after rest)
replies-grow chosen true after rest keeps = rw (keeps refl) (same-grows (chosen_reply (Some chosen)) (passed_reply true) rest)
replies-grow chosen false after rest keeps = opening-grows (chosen_reply (Some chosen)) (passed_reply after) rest

-- by the choice: without one nothing was owed
by-choice : (basis : Basis) (generation : ℕ) (methods : List Method) (chosen : Option Chosen) (c more rest : List ℕ)
    → IsPrefix (opening chosen (elim (asks_login chosen) [ true ↦ login_fits_behind basis (greeting 0 c) | false ↦ false ]) [])
    (opening (chosen_after generation methods chosen (c ++ more))
    (elim (asks_login (chosen_after generation methods chosen (c ++ more))) [ true ↦ login_fits_behind basis (greeting 0 (c ++ more)) | false ↦ false ]) rest)
by-choice basis generation methods None c more rest = (_, refl)
by-choice basis generation methods (Some chosen) c more rest = asked (asks_login (Some chosen)) (replies-grow chosen)
  where
    asked : (b : Bool) → ((before after : Bool) (rest : List ℕ) → (before ≡ true → after ≡ true) → IsPrefix (opening (Some chosen) before []) (opening (Some chosen) after rest))
        → IsPrefix (opening (Some chosen) (elim b [ true ↦ login_fits_behind basis (greeting 0 c) | false ↦ false ]) [])
        (opening (Some chosen) (elim b [ true ↦ login_fits_behind basis (greeting 0 (c ++ more)) | false ↦ false ]) rest)
    asked true grow = grow _ _ rest (behind-extends basis more (greeting 0 c) (greeting 0 (c ++ more)) (greeting-stable.law 0 c more))
    asked false grow = grow false false rest (λ e. e)

pub talk-owes : TalkOwes
talk-owes users pubs generation methods bytes r cause no_grant no_cause =
    rw (no_grant, no_cause) (by-choice (socks users pubs) generation methods r.chosen r.c bytes _)
