use Rattle.std.proofs.Common.{◌≡◌, ◌∙◌, Bool, true, false, true≢false, sym, ap, MatchBool, List}
use Rattle.conf_types.specs.declared.entries.Entries.{Entries}
use Rattle.conf_types.specs.declared.route.Route.{Route}
use Rattle.conf_types.specs.declared.rule.ClientRule.{ClientRule}
use Rattle.conf_types.specs.declared.rule.SocksRule.{SocksRule}
use Rattle.conf_types.specs.Plain.{IsPlain}
use Rattle.replay_script.specs.PlainTests.{are_direct, are_free_clients, are_free_requests}
use Rattle.replay_script.proofs.PlainLaws.{plain_by_tests, plain_direct, plain_clients, plain_requests}
use Rattle.replay_script.proofs.conf.is_plain.Goals as goal

decided : (k : Entries) (b : Bool) → are_direct k.routes ≡ true → are_free_clients k.client ≡ true → b ≡ are_free_requests k.socks →
    MatchBool b (IsPlain k) (IsPlain k → ⊥)
decided k true routes client e = plain_by_tests k routes client (sym e)
decided k false routes client e = λ h. true≢false (sym (plain_requests k h) ∙ sym e)

pub returns-then-not-are_direct : goal.returns-then-not-are_direct
returns-then-not-are_direct c = λ h.
    true≢false (sym (plain_direct c.args.config.now h) ∙ (sym (c.are_direct.ensures ∙ ap (λ (z : List Route). are_direct z) (c.as_slice.ensures ∙ ap (λ (k : Entries). k.routes) c.entries.ensures.same)) ∙ c.if-not-are_direct.true))

pub returns-then-not-are_free_clients : goal.returns-then-not-are_free_clients
returns-then-not-are_free_clients c = λ h.
    true≢false (sym (plain_clients c.args.config.now h) ∙ (sym (c.are_free_clients.ensures ∙ ap (λ (z : List ClientRule). are_free_clients z) (c.as_slice-2.ensures ∙ ap (λ (k : Entries). k.client) c.entries-2.ensures.same)) ∙ c.if-not-are_free_clients.true))

pub returns : goal.returns
returns c =
    decided c.args.config.now c.are_free_requests.result
    (sym (c.are_direct.ensures ∙ ap (λ (z : List Route). are_direct z) (c.as_slice.ensures ∙ ap (λ (k : Entries). k.routes) c.entries.ensures.same)) ∙ c.if-not-are_direct.false)
    (sym (c.are_free_clients.ensures ∙ ap (λ (z : List ClientRule). are_free_clients z) (c.as_slice-2.ensures ∙ ap (λ (k : Entries). k.client) c.entries-2.ensures.same)) ∙ c.if-not-are_free_clients.false)
    (c.are_free_requests.ensures ∙ ap (λ (z : List SocksRule). are_free_requests z) (c.as_slice-3.ensures ∙ ap (λ (k : Entries). k.socks) c.entries-3.ensures.same))
