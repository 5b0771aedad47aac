use Rattle.std.proofs.Common.{ap}
use Rattle.conf_model.proofs.Adding.{adds_more, adds_same, whole-text}
use Rattle.std.specs.Prelude.{map}
use Rattle.std.specs.List.{flat_map}
use Rattle.conf_model.specs.Canonical.{client_lines, config_lines, external_line, internal_line, route_lines, socks_lines}
use Rattle.conf_model.proofs.ReadAgain.{read-again}
use Rattle.conf_model.proofs.write.write_entries.Goals as goal

pub returns-clause-canonical : goal.returns-clause-canonical
returns-clause-canonical c =
    whole-text _ _ (config_lines c.args.entries.now) c.make-text.ensures
    (adds_more _ _ _ _ _ (adds_same _ _ _ _ c.in_ok-add_internals.ensures (ap (map internal_line) c.as_slice.ensures))
    (adds_more _ _ _ _ _ (adds_same _ _ _ _ c.in_ok-add_externals.ensures (ap (map external_line) c.as_slice-2.ensures))
    (adds_more _ _ _ _ _ c.in_ok-add_control.ensures
    (adds_more _ _ _ _ _ c.in_ok-add_settings.ensures
    (adds_more _ _ _ _ _ (adds_same _ _ _ _ c.in_ok-add_client_rules.ensures (ap (flat_map client_lines) c.as_slice-3.ensures))
    (adds_more _ _ _ _ _ (adds_same _ _ _ _ c.in_ok-add_socks_rules.ensures (ap (flat_map socks_lines) c.as_slice-4.ensures))
    (adds_same _ _ _ _ c.in_ok-add_routes.ensures (ap (flat_map route_lines) c.as_slice-5.ensures))))))))

pub returns-clause-read_again : goal.returns-clause-read_again
returns-clause-read_again c = read-again c.args.entries.now c.requires
