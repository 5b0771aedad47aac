-- A configuration that is published later changes nothing of what an association stands for.
use Rattle.std.proofs.Common.{ℕ, zero, suc, ◌≡◌, ◌≤◌, ◌<◌, Option, Some, None, List, [], ◌∷◌, ◌++◌, refl, ap, ◌∙◌, length, slice_get, IfSome, option_and_then, length-append, arith}
use Rattle.conf_types.specs.declared.entries.Entries.{Entries}
use Rattle.socks_grammar.specs.declared.user.User.{User}
use Rattle.net_ends.specs.Told.{Told}
use Rattle.rule_list.specs.Rules.{numbered}
use Rattle.socks_machine.specs.declared.record.Decision.{Decision}
use Rattle.socks_machine.specs.Basis.{Basis}
use Rattle.socks_machine.specs.Decisions.{Grant, granted}
use Rattle.socks_machine.specs.Later.{with_more}
use Rattle.socks_machine.specs.Socks.{socks}
use Rattle.socks_machine.specs.View.{proxy_in, proxy_of_grant}
use Rattle.assoc_core.specs.declared.assoc.Assoc.{Assoc}
use Rattle.assoc_core.specs.Stands.{GoesDirect, Stands}

slice-append : {A : Type 0} (xs more : List A) (i : ℕ) → i < length xs → slice_get (xs ++ more) i ≡ slice_get xs i
slice-append [] more i below = absurd (omega arith)
slice-append (x ∷ xs) more zero below = refl
slice-append (x ∷ xs) more (suc i) below = slice-append xs more i (omega arith)

-- a published configuration keeps its number
pub numbered-append : {A : Type 0} (xs more : List A) (n : ℕ) → n ≤ length xs → numbered (xs ++ more) n ≡ numbered xs n
numbered-append xs more zero below = refl
numbered-append xs more (suc i) below = slice-append xs more i (omega arith)

proxies-later : (basis : Basis) (more : List Entries) (g : Option Grant) → IfSome g (λ x. x.generation ≤ length basis.pubs)
    → option_and_then (proxy_of_grant (with_more basis more)) g ≡ option_and_then (proxy_of_grant basis) g
proxies-later basis more None below = refl
proxies-later basis more (Some g) below = ap (proxy_in g.route) (numbered-append basis.pubs more g.generation below)

still-known : (pubs more : List Entries) (g : Option Grant) → IfSome g (λ x. x.generation ≤ length pubs) → IfSome g (λ x. x.generation ≤ length (pubs ++ more))
still-known pubs more None below = below
still-known pubs more (Some g) below = omega (arith, below, length-append pubs more)

pub direct-later : (basis : Basis) (more : List Entries) (ds : List Decision) → GoesDirect basis ds → GoesDirect (with_more basis more) ds
direct-later basis more ds h = record {
  direct = proxies-later basis more (granted ds) h.known ∙ h.direct;
  known = still-known basis.pubs more (granted ds) h.known;
  connects = h.connects;
}

pub stands-later : {L : Type 0} (told : L → Told) (basis : Basis) (more : List Entries) (a : Assoc L) → Stands told basis a → Stands told (with_more basis more) a
stands-later told basis more a h = record {
  plain = h.plain;
  direct = direct-later basis more (a.state).decisions h.direct;
  client = h.client;
  client_ends = h.client_ends;
  client_first = h.client_first;
  target = h.target;
}

-- one configuration more
pub stands-published : {L : Type 0} (told : L → Told) (users : List User) (pubs : List Entries) (k : Entries) (a : Assoc L)
    → Stands told (socks users pubs) a → Stands told (socks users (pubs ++ k ∷ [])) a
stands-published told users pubs k a h = stands-later told (socks users pubs) (k ∷ []) a h
