use Rattle.std.proofs.Common.{◌∙◌, refl}
use Rattle.std.specs.Prelude.{codes}
use Rattle.conf_model.specs.Canonical.{inner}
use Rattle.conf_model.proofs.Adding.{adds_more, adds_same, adds_then, adds_value}
use Rattle.conf_model.specs.Canonical.{via_lines}
use Rattle.conf_model.proofs.write.add_via.Goals as goal

pub returns-in_ok-add_inner-in-Direct : goal.returns-in_ok-add_inner-in-Direct
returns-in_ok-add_inner-in-Direct c = adds_same _ _ _ (via_lines c.args.via.now) c.in_ok-add_inner-in-Direct.ensures (rw c.in-Direct.is refl)

pub returns-in_ok-add_login-in-Proxy : goal.returns-in_ok-add_login-in-Proxy
returns-in_ok-add_login-in-Proxy c =
    adds_then _ _ _ _ _ (via_lines c.args.via.now)
    (adds_value _ _ (inner (codes "via")) _ _ c.in_ok-add_inner-in-Proxy.ensures (c.as_slice.ensures ∙ c.in_ok-value-in-Proxy.ensures))
    (adds_more _ _ _ _ _
    (adds_value _ _ (inner (codes "proxyprotocol")) _ _ c.in_ok-add_inner-in-Proxy-2.ensures c.version_word.ensures)
    c.in_ok-add_login-in-Proxy.ensures)
    (rw c.in-Proxy.is refl)
