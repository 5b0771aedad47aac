use Rattle.std.proofs.Common.{◌++◌, List, ℕ, [], ◌∷◌, ap}
use Rattle.std.specs.Prelude.{codes}
use Rattle.conf_model.proofs.Adding.{adds_more, adds_same, adds_then, adds_value, regrouped}
use Rattle.conf_model.specs.Canonical.{command_lines, max_lines, method_lines, pattern_lines, protocol_lines, socks_lines, user_lines, version_lines}
use Rattle.conf_model.proofs.write.add_socks_rule.Goals as goal

pub returns : goal.returns
returns c =
    let r = c.args.rule.now in
    adds_then _ _ _ _ _ (socks_lines r)
    (adds_value _ _ (λ (key : List ℕ). key ++ codes " {") _ _ c.in_ok-add_head.ensures c.pass_or_block.ensures)
    (adds_more _ _ _ _ _ c.in_ok-add_patterns.ensures (adds_more _ _ _ _ _ c.in_ok-add_commands.ensures
    (adds_more _ _ _ _ _ c.in_ok-add_protocols.ensures (adds_more _ _ _ _ _ c.in_ok-add_methods.ensures
    (adds_more _ _ _ _ _ (adds_same _ _ _ (user_lines r.users) c.in_ok-add_users.ensures (ap user_lines c.as_slice.ensures)) (adds_more _ _ _ _ _ c.in_ok-add_versions.ensures
    (adds_more _ _ _ _ _ c.in_ok-add_max.ensures c.in_ok-add_end.ensures)))))))
    (regrouped _ (pattern_lines r.from r.to) (command_lines r) (protocol_lines r) (method_lines r) (user_lines r.users) (version_lines r) (max_lines r.max) (codes "}" ∷ []))
