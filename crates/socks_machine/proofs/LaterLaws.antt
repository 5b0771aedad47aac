-- A configuration that is published later changes nothing of what is seen of a record.
use Rattle.std.proofs.Common.{ℕ, zero, suc, ◌≡◌, ◌≤◌, ◌<◌, refl, Option, Some, None, List, [], ◌∷◌, ◌++◌, length, slice_get, IfSome, ap, ◌∙◌, arith, option_and_then}
use Rattle.std.specs.List.{AllByRecursion}
use Rattle.addr_pattern.specs.declared.addr.Addr.{Addr}
use Rattle.addr_pattern.specs.declared.endpoint.Endpoint.{Endpoint}
use Rattle.conf_types.specs.declared.entries.Entries.{Entries}
use Rattle.socks_machine.specs.declared.record.Gram.{Gram}
use Rattle.socks_machine.specs.declared.record.Record.{Record}
use Rattle.socks_machine.specs.Basis.{Basis}
use Rattle.socks_machine.specs.Datagrams.{fate, fates, fates_at, learned, asked_port}
use Rattle.socks_machine.specs.Decisions.{Grant, granted, reached_at}
use Rattle.socks_machine.specs.Later.{Later, NamesBelow, with_more}
use Rattle.socks_machine.specs.Owed.{owed_to_client_in, owed_to_target_in}
use Rattle.socks_machine.specs.Phase.{phase_in}
use Rattle.rule_list.specs.Rules.{numbered}
use Rattle.socks_machine.specs.View.{view, proxy_in, proxy_of_grant, outcome_of_grant, outcome_with, said_by_grant, said_with, split_of, login_passed}

slice-append : {A : Type 0} (xs more : List A) (i : ℕ) → i < length xs → slice_get (xs ++ more) i ≡ slice_get xs i
slice-append [] more i below = grind arith
slice-append (x ∷ xs) more zero below = refl
slice-append (x ∷ xs) more (suc i) below = slice-append xs more i (omega arith)

numbered-append : {A : Type 0} (xs more : List A) (n : ℕ) → n ≤ length xs → numbered (xs ++ more) n ≡ numbered xs n
numbered-append xs more zero below = refl
numbered-append xs more (suc i) below = slice-append xs more i (omega arith)

proxy-later : (basis : Basis) (more : List Entries) (g : Grant) → g.generation ≤ length basis.pubs
    → proxy_of_grant (with_more basis more) g ≡ proxy_of_grant basis g
proxy-later basis more g below = ap (proxy_in g.route) (numbered-append basis.pubs more g.generation below)

proxies-later : (basis : Basis) (more : List Entries) (g : Option Grant) → IfSome g (λ x. x.generation ≤ length basis.pubs)
    → option_and_then (proxy_of_grant (with_more basis more)) g ≡ option_and_then (proxy_of_grant basis) g
proxies-later basis more None below = refl
proxies-later basis more (Some g) below = proxy-later basis more g below

dialogue-later : (basis : Basis) (more : List Entries) (heard : List ℕ) (g : Option Grant) → IfSome g (λ x. x.generation ≤ length basis.pubs)
    → outcome_of_grant (with_more basis more) heard g ≡ outcome_of_grant basis heard g
dialogue-later basis more heard None below = refl
dialogue-later basis more heard (Some g) below = ap (outcome_with heard g) (proxy-later basis more g below)

said-later : (basis : Basis) (more : List Entries) (heard : List ℕ) (g : Option Grant) → IfSome g (λ x. x.generation ≤ length basis.pubs)
    → said_by_grant (with_more basis more) heard g ≡ said_by_grant basis heard g
said-later basis more heard None below = refl
said-later basis more heard (Some g) below = ap (said_with heard g) (proxy-later basis more g below)

fates-later : (pubs more : List Entries) (g : Grant) (port : Endpoint) (client : Addr) (known : Option ℕ) (ds : List Gram)
    → AllByRecursion (λ d. d.generation ≤ length pubs) ds → fates (pubs ++ more) g port client known ds ≡ fates pubs g port client known ds
fates-later pubs more g port client known [] below = refl
fates-later pubs more g port client known (d ∷ ds) below =
    ap (λ k. fate k g port client (learned client known d) d ∷ fates (pubs ++ more) g port client (learned client known d) ds)
    (numbered-append pubs more d.generation below.0)
    ∙ ap (λ fs. fate (numbered pubs d.generation) g port client (learned client known d) d ∷ fs)
    (fates-later pubs more g port client (learned client known d) ds below.1)

all-fates-later : (basis : Basis) (more : List Entries) (r : Record) (ds : List Gram) (g : Option Grant) (port : Option Endpoint)
    → AllByRecursion (λ d. d.generation ≤ length basis.pubs) ds → fates_at (with_more basis more) r ds g port ≡ fates_at basis r ds g port
all-fates-later basis more r ds (Some g) (Some port) below = fates-later basis.pubs more g port r.peer.addr (asked_port g.facts.to.port) ds below
all-fates-later basis more r ds None port below = refl
all-fates-later basis more r ds (Some g) None below = refl

view-later : (basis : Basis) (more : List Entries) (r : Record) → NamesBelow (length basis.pubs) r → view (with_more basis more) r ≡ view basis r
view-later basis more r below = λ i. record {
  front = basis.front;
  split = split_of basis r;
  login_passed = login_passed basis r;
  proxy = proxies-later basis more (granted r.decisions) below.granted' i;
  dialogue = dialogue-later basis more r.t (granted r.decisions) below.granted' i;
  said = said-later basis more r.t (granted r.decisions) below.granted' i;
  fates = all-fates-later basis more r r.grams (granted r.decisions) (reached_at r.decisions) below.grams i;
}

pub later : Later
later basis more r below = record {
  phase' = ap (λ v. phase_in v r) (view-later basis more r below);
  to_client = ap (λ v. owed_to_client_in v r) (view-later basis more r below);
  to_target = ap (λ v. owed_to_target_in v r) (view-later basis more r below);
}
