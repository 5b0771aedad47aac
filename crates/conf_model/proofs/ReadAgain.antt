-- The canonical text of a configuration is that configuration.
use Rattle.std.proofs.Common.{◌≡◌, ℕ, ◌+◌, ◌<◌, ◌≤◌, List, [], ◌∷◌, ◌++◌, length, map, Ok, refl, ap, ◌∙◌, subst, arith}
use Rattle.addr_pattern.specs.declared.addr.Addr.{Addr}
use Rattle.addr_pattern.specs.declared.endpoint.Endpoint.{Endpoint}
use Rattle.addr_pattern.specs.ReadAgain.{IsAddr}
use Rattle.conf_text.specs.Statements.{AreStatements, longest}
use Rattle.conf_types.specs.declared.entries.Entries.{Entries}
use Rattle.conf_types.specs.declared.route.Route.{Route}
use Rattle.conf_types.specs.declared.rule.ClientRule.{ClientRule}
use Rattle.conf_types.specs.declared.rule.SocksRule.{SocksRule}
use Rattle.conf_model.specs.Canonical.{canonical_text, text_of}
use Rattle.conf_types.specs.Kept.{IsClientRule, IsConfig, IsListener, IsRoute, IsSocksRule}
use Rattle.conf_model.specs.Reads.{IsReadAgain}
use Rattle.conf_model.specs.Settings.{default, listens, whole}
use Rattle.conf_text.proofs.Lines.{text_of as spelled_text}
use Rattle.conf_model.proofs.Again.Onto.{PartsOnto, parts-then, statements-onto}
use Rattle.conf_text.proofs.Parts.{are_statements, lines_of, statements_at}
use Rattle.conf_model.proofs.Again.PlainParts.{each, parts_are}
use Rattle.conf_model.proofs.Again.Spelled.{client_part, config_parts, config_spelled, control_parts, external_part, internal_part, route_part, setting_parts, socks_part}
use Rattle.conf_model.proofs.Again.StatementsAgain.{client_part_onto, control_onto, external_onto, grown, internal_onto, route_part_onto, settings_onto, socks_part_onto}

listens_on : (c : Entries) (es : List Endpoint) → 0 < length es → listens c es ≡ Ok c
listens_on c [] h = absurd (omega arith)
listens_on c (e ∷ es) h = refl

abbrev with_internals : Entries → Entries
with_internals c = record default { internals = c.internals }

abbrev with_externals : Entries → Entries
with_externals c = record (with_internals c) { externals = c.externals }

abbrev with_control : Entries → Entries
with_control c = record (with_externals c) { control = c.control }

abbrev with_settings : Entries → Entries
with_settings c = record (with_control c) { methods = c.methods; negotiate = c.negotiate; io = c.io }

abbrev with_client : Entries → Entries
with_client c = record (with_settings c) { client = c.client }

abbrev with_socks : Entries → Entries
with_socks c = record (with_client c) { socks = c.socks }

behind_none : (n limit : ℕ) → n ≤ limit → 0 + n ≤ limit
behind_none n limit h = omega arith

all_onto : (c : Entries) → IsConfig c → PartsOnto default (config_parts c) c
all_onto c h =
    parts-then default (with_internals c) c (map internal_part c.internals) _
    (grown IsListener internal_part 16 (λ (d : Entries). d.internals) (λ (d : Entries) (xs : List Endpoint). record d { internals = xs }) (λ d. refl) (λ d xs. refl) (λ d xs ys. refl)
    internal_onto default c.internals (each IsListener c.internals h.internals) (behind_none _ _ h.few_internals))
    (parts-then (with_internals c) (with_externals c) c (map external_part c.externals) _
    (grown IsAddr external_part 16 (λ (d : Entries). d.externals) (λ (d : Entries) (xs : List Addr). record d { externals = xs }) (λ d. refl) (λ d xs. refl) (λ d xs ys. refl)
    external_onto (with_internals c) c.externals (each IsAddr c.externals h.externals) (behind_none _ _ h.few_externals))
    (parts-then (with_externals c) (with_control c) c (control_parts c.control) _ (control_onto (with_externals c) c.control h.control refl)
    (parts-then (with_control c) (with_settings c) c (setting_parts c) _ (settings_onto (with_control c) c h.methods h.negotiate h.io)
    (parts-then (with_settings c) (with_client c) c (map client_part c.client) _
    (grown IsClientRule client_part 4096 (λ (d : Entries). d.client) (λ (d : Entries) (xs : List ClientRule). record d { client = xs }) (λ d. refl) (λ d xs. refl) (λ d xs ys. refl)
    client_part_onto (with_settings c) c.client (each IsClientRule c.client h.client) (behind_none _ _ h.few_client))
    (parts-then (with_client c) (with_socks c) c (map socks_part c.socks) _
    (grown IsSocksRule socks_part 4096 (λ (d : Entries). d.socks) (λ (d : Entries) (xs : List SocksRule). record d { socks = xs }) (λ d. refl) (λ d xs. refl) (λ d xs ys. refl)
    socks_part_onto (with_client c) c.socks (each IsSocksRule c.socks h.socks) (behind_none _ _ h.few_socks))
    (grown IsRoute route_part 256 (λ (d : Entries). d.routes) (λ (d : Entries) (xs : List Route). record d { routes = xs }) (λ d. refl) (λ d xs. refl) (λ d xs ys. refl)
    route_part_onto (with_socks c) c.routes (each IsRoute c.routes h.routes) (behind_none _ _ h.few_routes)))))))

same_text : (ls : List (List ℕ)) → spelled_text ls ≡ text_of ls
same_text [] = refl
same_text (line ∷ ls) = ap (λ (z : List ℕ). line ++ 10 ∷ z) (same_text ls)

pub read-again : (c : Entries) → IsConfig c → IsReadAgain c
read-again c h small =
    let text : spelled_text (lines_of (config_parts c)) ≡ canonical_text c = same_text (lines_of (config_parts c)) ∙ ap text_of (config_spelled c) in
    let short : length (spelled_text (lines_of (config_parts c))) ≤ longest = omega (arith, small, ap length text) in
    record {
      statements = statements_at 1 (config_parts c);
      are = subst (λ (z : List ℕ). AreStatements z (statements_at 1 (config_parts c))) text (are_statements (config_parts c) (parts_are c h) short);
      say = ap whole (statements-onto default (config_parts c) c 1 (all_onto c h)) ∙ listens_on c c.internals h.some_internal;
    }
