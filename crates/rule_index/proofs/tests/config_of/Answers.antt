use Rattle.std.proofs.Common.{◌≡◌, ◌<◌, ◌≤◌, List, [], ◌∷◌, ◌++◌, None, true, length, sym, ap, ◌∙◌, subst, All, arith}
use Rattle.std.proofs.lemmas.List.Elements.{All-cons, All-nil}
use Rattle.addr_pattern.specs.declared.addr.Addr.{Addr}
use Rattle.addr_pattern.specs.declared.endpoint.Endpoint.{Endpoint}
use Rattle.addr_pattern.specs.ReadAgain.{IsAddr}
use Rattle.socks_grammar.specs.declared.protocol.Method.{Method}
use Rattle.conf_types.specs.declared.route.Route.{Route}
use Rattle.conf_types.specs.declared.rule.ClientRule.{ClientRule}
use Rattle.conf_types.specs.Kept.{IsListener, IsClientRule, IsRoute, AreMethods}
use Rattle.rule_index.proofs.tests.config_of.Goals as goal

pub of_entries-requires : goal.of_entries-requires
of_entries-requires c =
    let rule : ClientRule = record { pass = true; from = c.any.result; to = c.any-2.result; max = None } in
    let is_rule : IsClientRule rule = record { from = c.any.ensures; to = c.any-2.ensures; max = tt } in
    let internals : c.push.new.self ≡ c.at.result ∷ [] = c.in_ok-push.ensures.ok ∙ ap (λ (xs : List Endpoint). xs ++ c.at.result ∷ []) c.make-internals.ensures in
    let methods : c.push-2.new.self ≡ Method.NoAuth ∷ [] = c.in_ok-push-2.ensures.ok ∙ ap (λ (xs : List Method). xs ++ Method.NoAuth ∷ []) c.make-methods.ensures in
    let client : c.push-3.new.self ≡ rule ∷ [] = c.in_ok-push-3.ensures.ok ∙ ap (λ (xs : List ClientRule). xs ++ rule ∷ []) c.make-client.ensures in
    record {
      some_internal = subst (λ (xs : List Endpoint). 0 < length xs) (sym internals) (omega arith);
      few_internals = subst (λ (xs : List Endpoint). length xs ≤ 16) (sym internals) (omega arith);
      internals = subst (All IsListener) (sym internals) (All-cons IsListener c.at.result [] c.at.ensures (All-nil IsListener));
      few_externals = subst (λ (xs : List Addr). length xs ≤ 16) (sym c.make.ensures) (omega arith);
      externals = subst (All IsAddr) (sym c.make.ensures) (All-nil IsAddr);
      control = tt;
      methods = subst AreMethods (sym methods) tt;
      negotiate = omega arith;
      io = omega arith;
      few_client = subst (λ (xs : List ClientRule). length xs ≤ 4096) (sym client) (omega arith);
      client = subst (All IsClientRule) (sym client) (All-cons IsClientRule rule [] is_rule (All-nil IsClientRule));
      few_socks = c.requires.few;
      socks = c.requires.rules;
      few_routes = subst (λ (xs : List Route). length xs ≤ 256) (sym c.make-2.ensures) (omega arith);
      routes = subst (All IsRoute) (sym c.make-2.ensures) (All-nil IsRoute);
    }
