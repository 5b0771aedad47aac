-- The test of a configuration that is served.
use Rattle.std.proofs.Common.{◌≡◌, ℕ, Bool, true, false, ◌&&◌, List, [], ◌∷◌, Option, Some, None, is_none, refl, sym, ap, ◌∙◌, true≢false}
use Rattle.std.specs.List.{list_all, All}
use Rattle.std.proofs.lemmas.List.Elements.{All-nil, All-cons, All-head, All-tail}
use Rattle.conf_types.specs.declared.entries.Entries.{Entries}
use Rattle.conf_types.specs.declared.route.Route.{Route}
use Rattle.conf_types.specs.declared.route.Via.{Via}
use Rattle.conf_types.specs.declared.rule.ClientRule.{ClientRule}
use Rattle.conf_types.specs.declared.rule.SocksRule.{SocksRule}
use Rattle.conf_types.specs.Plain.{IsPlain}
use Rattle.replay_script.specs.PlainTests.{is_direct, are_direct, are_free_clients, are_free_requests}

both : (a b : Bool) → (a && b) ≡ true → (a ≡ true) × (b ≡ true)
both true b h = (refl, h)
both false b h = absurd (true≢false (sym h))

-- a test that decides a fact, over a whole list
all_true : {X : Type 0} (test : X → Bool) (P : X → Type 0) → ((x : X) → test x ≡ true → P x) → (xs : List X) → list_all test xs ≡ true → All P xs
all_true test P f [] h = All-nil P
all_true test P f (x ∷ xs) h =
    let p = both (test x) (list_all test xs) h in
    All-cons P x xs (f x p.0) (all_true test P f xs p.1)

all_pass : {X : Type 0} (test : X → Bool) (P : X → Type 0) → ((x : X) → P x → test x ≡ true) → (xs : List X) → All P xs → list_all test xs ≡ true
all_pass test P f [] h = refl
all_pass test P f (x ∷ xs) h =
    ap (λ (b : Bool). b && list_all test xs) (f x (All-head P x xs h)) ∙ all_pass test P f xs (All-tail P x xs h)

direct_is : (via : Via) → is_direct via ≡ true → via ≡ Via.Direct
direct_is Via.Direct h = refl
direct_is (Via.Proxy at version login) h = absurd (true≢false (sym h))

none_is : (max : Option ℕ) → is_none max ≡ true → max ≡ None
none_is None h = refl
none_is (Some n) h = absurd (true≢false (sym h))

pub plain_by_tests : (k : Entries) → are_direct k.routes ≡ true → are_free_clients k.client ≡ true → are_free_requests k.socks ≡ true → IsPlain k
plain_by_tests k routes client socks = record {
  routes = all_true (λ (r : Route). is_direct r.via) (λ (r : Route). r.via ≡ Via.Direct) (λ r. direct_is r.via) k.routes routes;
  client = all_true (λ (r : ClientRule). is_none r.max) (λ (r : ClientRule). r.max ≡ None) (λ r. none_is r.max) k.client client;
  socks = all_true (λ (r : SocksRule). is_none r.max) (λ (r : SocksRule). r.max ≡ None) (λ r. none_is r.max) k.socks socks;
}

pub plain_direct : (k : Entries) → IsPlain k → are_direct k.routes ≡ true
plain_direct k h = all_pass (λ (r : Route). is_direct r.via) (λ (r : Route). r.via ≡ Via.Direct) (λ r e. ap is_direct e) k.routes h.routes

pub plain_clients : (k : Entries) → IsPlain k → are_free_clients k.client ≡ true
plain_clients k h = all_pass (λ (r : ClientRule). is_none r.max) (λ (r : ClientRule). r.max ≡ None) (λ r e. ap is_none e) k.client h.client

pub plain_requests : (k : Entries) → IsPlain k → are_free_requests k.socks ≡ true
plain_requests k h = all_pass (λ (r : SocksRule). is_none r.max) (λ (r : SocksRule). r.max ≡ None) (λ r e. ap is_none e) k.socks h.socks
