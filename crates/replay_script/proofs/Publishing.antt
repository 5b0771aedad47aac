-- The lines that publish a configuration.
use Rattle.std.proofs.Common.{◌≡◌, ◌≢◌, ℕ, List, Result, Ok, Err, ◌⊎◌, inl, inr, ap, ◌∙◌, sym, subst, arith}
use Rattle.conf_text.specs.declared.fault.TextFault.{TextFault}
use Rattle.conf_text.proofs.Deciding.{readings_agree, text_faultless, one_fault as one_text_fault}
use Rattle.conf_types.specs.declared.entries.Entries.{Entries}
use Rattle.conf_model.specs.declared.fault.ConfFault.{ConfFault}
use Rattle.conf_model.specs.declared.fault.ConfKind.{ConfKind}
use Rattle.conf_types.specs.Plain.{IsPlain}
use Rattle.conf_model.specs.Reads.{HasFault, IsConfigText, IsTextFault, Says, line_of}
use Rattle.conf_model.specs.Settings.{config_of}
use Rattle.replay_script.specs.Counted.{Counts}
use Rattle.replay_script.specs.Conf.{Publishes, RefusesConfig, Unpublished, publish_word}
use Rattle.replay_script.proofs.Counting.{one_counts}

-- ---- what a counted text says

one_config : (text : List ℕ) (c d : Entries) → IsConfigText text c → IsConfigText text d → c ≡ d
one_config text c d h k =
    let s = readings_agree text h.statements k.statements h.are k.are in
    let e : ◌≡◌ {A = Result Entries ConfFault} (Ok c) (Ok d) = sym h.say ∙ (ap config_of s ∙ k.say) in
    cc

config_faultless : (text : List ℕ) (c : Entries) (f : ConfFault) → f.kind ≢ ConfKind.Memory → IsConfigText text c → HasFault text f → ⊥
config_faultless text c f known h k = at h (k known)
  where
    at : IsConfigText text c → IsTextFault text f ⊎ Says text (Err f) → ⊥
    at h (inl a) = a.known (text_faultless text h.statements a.first h.are a.faulty)
    at h (inr b) =
        let s = readings_agree text h.statements b.statements h.are b.are in
        let e : ◌≡◌ {A = Result Entries ConfFault} (Ok c) (Err f) = sym h.say ∙ (ap config_of s ∙ b.say) in
        cc

fault_is : (f g : ConfFault) → f.line ≡ g.line → f.kind ≡ g.kind → f ≡ g
fault_is f g line kind =
    ap (λ (z : ℕ). let x : ConfFault = record { line = z; kind = f.kind } in x) line
    ∙ ap (λ (z : ConfKind). let x : ConfFault = record { line = g.line; kind = z } in x) kind

one_conf_fault : (text : List ℕ) (f g : ConfFault) → f.kind ≢ ConfKind.Memory → g.kind ≢ ConfKind.Memory → HasFault text f → HasFault text g → f ≡ g
one_conf_fault text f g known other h k = at (h known) (k other)
  where
    at : IsTextFault text f ⊎ Says text (Err f) → IsTextFault text g ⊎ Says text (Err g) → f ≡ g
    at (inl a) (inl b) =
        let q = one_text_fault text a.first b.first a.faulty b.faulty a.known b.known in
        fault_is f g (a.line' ∙ (ap line_of q ∙ sym b.line')) (a.kind' ∙ (ap (λ (z : TextFault). ConfKind.Text z) q ∙ sym b.kind'))
    at (inl a) (inr b) = absurd (a.known (text_faultless text b.statements a.first b.are a.faulty))
    at (inr a) (inl b) = absurd (b.known (text_faultless text a.statements b.first a.are b.faulty))
    at (inr a) (inr b) =
        let s = readings_agree text a.statements b.statements a.are b.are in
        let e : ◌≡◌ {A = Result Entries ConfFault} (Err f) (Err g) = sym a.say ∙ (ap config_of s ∙ b.say) in
        cc

-- ---- what is published, or refused

pub one_publish : (text : List ℕ) (c d : Entries) (n m : ℕ) (x y : List ℕ) → Publishes text c n x → Publishes text d m y → (c ≡ d) × (n ≡ m) × (x ≡ y)
one_publish text c d n m x y h k =
    let q = one_counts publish_word text h.counted k.counted n m x y h.publish k.publish in
    (one_config h.counted c d h.config' (subst (λ (z : List ℕ). IsConfigText z d) (sym q.0) k.config'), q.1, q.2)

pub published_unrefused : (text : List ℕ) (c : Entries) (n : ℕ) (x : List ℕ) (f : ConfFault) → Publishes text c n x → RefusesConfig text f → ⊥
published_unrefused text c n x f h k =
    let q = one_counts publish_word text h.counted k.counted n k.lines x k.behind h.publish k.publish in
    config_faultless h.counted c f k.known h.config' (subst (λ (z : List ℕ). HasFault z f) (sym q.0) k.faulty)

pub one_config_refusal : (text : List ℕ) (f g : ConfFault) → RefusesConfig text f → RefusesConfig text g → f ≡ g
one_config_refusal text f g h k =
    let q = one_counts publish_word text h.counted k.counted h.lines k.lines h.behind k.behind h.publish k.publish in
    one_conf_fault h.counted f g h.known k.known h.faulty (subst (λ (z : List ℕ). HasFault z g) (sym q.0) k.faulty)

-- a configuration that isn't served is neither published nor refused
pub unserved : (text counted : List ℕ) (config : Entries) (lines : ℕ) (behind : List ℕ) → Counts publish_word text counted lines behind → IsConfigText counted config →
    (IsPlain config → ⊥) → Unpublished text
unserved text counted config lines behind h k unplain = record {
  serves = λ other n x p.
      let q = (one_counts publish_word text counted p.counted lines n behind x h p.publish).0 in
      let e = one_config p.counted config other (subst (λ (z : List ℕ). IsConfigText z config) q k) p.config' in
      unplain (subst IsPlain (sym e) p.plain);
  refuses = λ fault r.
      let q = (one_counts publish_word text counted r.counted lines r.lines behind r.behind h r.publish).0 in
      config_faultless r.counted config fault r.known (subst (λ (z : List ℕ). IsConfigText z config) q k) r.faulty;
}
