use Rattle.std.proofs.Common.{ap, ◌∙◌, refl}
use Rattle.std.specs.Prelude.{codes}
use Rattle.conf_model.specs.Canonical.{entry}
use Rattle.conf_model.proofs.Adding.{adds_more, adds_then, adds_value}
use Rattle.std.specs.List.{join_with_byte}
use Rattle.conf_model.specs.Canonical.{method_words, setting_lines}
use Rattle.conf_model.proofs.write.add_settings.Goals as goal

pub returns : goal.returns
returns c =
    let words = c.as_slice-2.ensures ∙ (c.in_ok-words.ensures ∙ ap method_words c.as_slice.ensures) in
    adds_then _ _ _ _ _ (setting_lines c.args.entries.now)
    (adds_value _ _ (entry (codes "socksmethod")) _ _ c.in_ok-add_entry.ensures (c.as_slice-3.ensures ∙ (c.in_ok-methods.ensures ∙ ap (join_with_byte 32) words)))
    (adds_more _ _ _ _ _
    (adds_value _ _ (entry (codes "timeout.negotiate")) _ _ c.in_ok-add_entry-2.ensures (c.as_slice-4.ensures ∙ c.write_number.ensures))
    (adds_value _ _ (entry (codes "timeout.io")) _ _ c.in_ok-add_entry-3.ensures (c.as_slice-5.ensures ∙ c.write_number-2.ensures)))
    refl
