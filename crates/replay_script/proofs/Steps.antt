-- Entries of a script, one after another.
use Rattle.std.proofs.Common.{false, true≢false, ◌≢◌, ◌≡◌, ◌<◌, ◌≤◌, ◌+◌, ℕ, List, [], ◌∷◌, ◌++◌, length, inl, inr, sym, subst, ap, ◌∙◌, refl, arith}
use Rattle.conf_types.specs.declared.entries.Entries.{Entries}
use Rattle.conf_model.specs.declared.fault.ConfFault.{ConfFault}
use Rattle.socks_grammar.specs.declared.user.User.{User}
use Rattle.user_login.specs.declared.fault.UsersFault.{UsersFault}
use Rattle.socks_machine.specs.declared.script.ScriptLine.{ScriptLine}
use Rattle.replay_script.specs.declared.entry.TextLine.{TextLine}
use Rattle.replay_script.specs.declared.state.State.{State}
use Rattle.replay_script.specs.declared.fault.ScriptKind.{ScriptKind}
use Rattle.replay_script.specs.Conf.{publish_word}
use Rattle.replay_script.specs.Counted.{Counts}
use Rattle.replay_script.specs.Cuts.{IsLine}
use Rattle.replay_script.specs.Forms.{IsNumbered}
use Rattle.replay_script.specs.Script.{SpellsEntry, Begins, Fails, RefusesText, Serves, Reads, lines_of, behind_entry, is_looked_at}
use Rattle.replay_script.specs.Users.{users_word}
use Rattle.replay_script.proofs.Unique.{CountsOthers, one_line, counting_apart, counting_unskipped, skipped_apart, words_apart}
use Rattle.replay_script.proofs.Counting.{IsHeaded, counts_head, counts_shorter}
use Rattle.replay_script.proofs.Publishing.{one_publish, one_config_refusal, published_unrefused}
use Rattle.replay_script.proofs.Giving.{one_gift, one_users_refusal, given_unrefused}
use Rattle.replay_script.proofs.Reading.{one_first, shorter}

-- ---- one entry

one_entry : (text : List ℕ) (a b : TextLine) → SpellsEntry text a → SpellsEntry text b → a ≡ b
one_entry text TextLine.Skipped TextLine.Skipped h k = refl
one_entry text TextLine.Skipped (TextLine.Served m) h k = absurd (skipped_apart text m h k)
one_entry text (TextLine.Served l) TextLine.Skipped h k = absurd (skipped_apart text l k h)
one_entry text (TextLine.Served l) (TextLine.Served m) h k = ap (λ (z : ScriptLine). TextLine.Served z) (one_line text l m h k)

entry_apart : (word text : List ℕ) (n : ℕ) (a : TextLine) → CountsOthers word → IsNumbered word text n → SpellsEntry text a → ⊥
entry_apart word text n TextLine.Skipped w h k = counting_unskipped word text n w h k
entry_apart word text n (TextLine.Served l) w h k = counting_apart word text n l w h k

-- a line that counts others is no entry of one line
headed_apart : (word text line behind : List ℕ) (a : TextLine) → CountsOthers word → IsHeaded word text → IsLine text line behind → SpellsEntry line a → ⊥
headed_apart word text line behind a w h first k =
    let q = (one_first text h.first line h.rest behind h.line first).0 in
    entry_apart word line h.number a w (subst (λ (z : List ℕ). IsNumbered word z h.number) q h.numbered) k

published_apart : (text counted : List ℕ) (n : ℕ) (x line behind : List ℕ) (a : TextLine) → Counts publish_word text counted n x → IsLine text line behind → SpellsEntry line a → ⊥
published_apart text counted n x line behind a h first k = headed_apart publish_word text line behind a (inl refl) (counts_head publish_word text counted n x h) first k

given_apart : (text counted : List ℕ) (n : ℕ) (x line behind : List ℕ) (a : TextLine) → Counts users_word text counted n x → IsLine text line behind → SpellsEntry line a → ⊥
given_apart text counted n x line behind a h first k = headed_apart users_word text line behind a (inr refl) (counts_head users_word text counted n x h) first k

-- lines that publish give no users
counts_apart : (text c d : List ℕ) (n m : ℕ) (x y : List ℕ) → Counts publish_word text c n x → Counts users_word text d m y → ⊥
counts_apart text c d n m x y h k =
    let p = counts_head publish_word text c n x h in
    let u = counts_head users_word text d m y k in
    let q = (one_first text u.first p.first u.rest p.rest u.line p.line).0 in
    words_apart p.first p.number u.number p.numbered (subst (λ (z : List ℕ). IsNumbered users_word z u.number) q u.numbered)

-- a text begins with at most one entry
pub one_begins : (text : List ℕ) (a b : TextLine) (n k : ℕ) (x y : List ℕ) → Begins text a n x → Begins text b k y → (a ≡ b) × (n ≡ k) × (x ≡ y)
one_begins text a b n k x y (inl g) (inl h) =
    let q = one_first text g.0 h.0 x y g.1 h.1 in
    (one_entry h.0 a b (subst (λ (z : List ℕ). SpellsEntry z a) q.0 g.2) h.2, g.3 ∙ sym h.3, q.1)
one_begins text a b n k x y (inr (inl g)) (inr (inl h)) =
    let e = one_publish text g.0 h.0 n k x y g.1 h.1 in
    (g.2 ∙ (ap (λ (z : Entries). TextLine.Served (ScriptLine.Publish z)) e.0 ∙ sym h.2), e.1, e.2)
one_begins text a b n k x y (inr (inr g)) (inr (inr h)) =
    let e = one_gift text g.0 h.0 n k x y g.1 h.1 in
    (g.2 ∙ (ap (λ (z : List User). TextLine.Served (ScriptLine.UsersAre z)) e.0 ∙ sym h.2), e.1, e.2)
one_begins text a b n k x y (inl g) (inr (inl h)) = absurd (published_apart text h.1.counted k y g.0 x a h.1.publish g.1 g.2)
one_begins text a b n k x y (inl g) (inr (inr h)) = absurd (given_apart text h.1.counted k y g.0 x a h.1.given g.1 g.2)
one_begins text a b n k x y (inr (inl g)) (inl h) = absurd (published_apart text g.1.counted n x h.0 y b g.1.publish h.1 h.2)
one_begins text a b n k x y (inr (inr g)) (inl h) = absurd (given_apart text g.1.counted n x h.0 y b g.1.given h.1 h.2)
one_begins text a b n k x y (inr (inl g)) (inr (inr h)) = absurd (counts_apart text g.1.counted h.1.counted n k x y g.1.publish h.1.given)
one_begins text a b n k x y (inr (inr g)) (inr (inl h)) = absurd (counts_apart text h.1.counted g.1.counted k n y x h.1.publish g.1.given)

pub one_begin : (text : List ℕ) (a b : TextLine) (n k : ℕ) (x y : List ℕ) → Begins text a n x → Begins text b k y → a ≡ b
one_begin text a b n k x y g h = (one_begins text a b n k x y g h).0

pub begins_shorter : (text : List ℕ) (entry : TextLine) (lines : ℕ) (behind : List ℕ) → Begins text entry lines behind → (lines + length behind ≤ length text) × (0 < lines)
begins_shorter text entry lines behind (inl h) = let a = shorter text h.0 behind h.1 in let e = h.3 in (omega (arith, a, e), omega (arith, e))
begins_shorter text entry lines behind (inr (inl h)) = counts_shorter publish_word text h.1.counted lines behind h.1.publish
begins_shorter text entry lines behind (inr (inr h)) = counts_shorter users_word text h.1.counted lines behind h.1.given

-- ---- a counted text that is refused

-- where it is, no entry begins
pub refused_apart : (text : List ℕ) (kind : ScriptKind) (a : TextLine) (n : ℕ) (x : List ℕ) → RefusesText text kind → Begins text a n x → ⊥
refused_apart text (ScriptKind.Conf fault) a n x h (inl g) = published_apart text h.counted h.lines h.behind g.0 x a h.publish g.1 g.2
refused_apart text (ScriptKind.Conf fault) a n x h (inr (inl g)) = published_unrefused text g.0 n x fault g.1 h
refused_apart text (ScriptKind.Conf fault) a n x h (inr (inr g)) = counts_apart text h.counted g.1.counted h.lines n h.behind x h.publish g.1.given
refused_apart text (ScriptKind.Users fault) a n x h (inl g) = given_apart text h.counted h.lines h.behind g.0 x a h.given g.1 g.2
refused_apart text (ScriptKind.Users fault) a n x h (inr (inl g)) = counts_apart text g.1.counted h.counted n h.lines x h.behind g.1.publish h.given
refused_apart text (ScriptKind.Users fault) a n x h (inr (inr g)) = given_unrefused text g.0 n x fault g.1 h
refused_apart text _ a n x h g = h

-- it is not empty
pub refused_some : (text : List ℕ) (kind : ScriptKind) → RefusesText text kind → 0 < length text
refused_some text (ScriptKind.Conf fault) h = let s = counts_shorter publish_word text h.counted h.lines h.behind h.publish in let a = s.0 in let b = s.1 in omega (arith, a, b)
refused_some text (ScriptKind.Users fault) h = let s = counts_shorter users_word text h.counted h.lines h.behind h.given in let a = s.0 in let b = s.1 in omega (arith, a, b)
refused_some text _ h = absurd h

-- its fault is one
pub one_refusal : (text : List ℕ) (k j : ScriptKind) → RefusesText text k → RefusesText text j → k ≡ j
one_refusal text (ScriptKind.Conf f) (ScriptKind.Conf g) h k = ap (λ (z : ConfFault). ScriptKind.Conf z) (one_config_refusal text f g h k)
one_refusal text (ScriptKind.Users f) (ScriptKind.Users g) h k = ap (λ (z : UsersFault). ScriptKind.Users z) (one_users_refusal text f g h k)
one_refusal text (ScriptKind.Conf f) (ScriptKind.Users g) h k = absurd (counts_apart text h.counted k.counted h.lines k.lines h.behind k.behind h.publish k.given)
one_refusal text (ScriptKind.Users f) (ScriptKind.Conf g) h k = absurd (counts_apart text k.counted h.counted k.lines h.lines k.behind h.behind k.publish h.given)
one_refusal text (ScriptKind.Conf f) _ h k = absurd k
one_refusal text (ScriptKind.Users f) _ h k = absurd k
one_refusal text _ j h k = absurd h

-- where it isn't looked at, nothing is served or refused
pub unlooked : (s : State) (text : List ℕ) (kind : ScriptKind) → (kind ≢ ScriptKind.Memory → RefusesText text kind) → is_looked_at s kind ≡ false → Fails s text
unlooked s text kind refuses h =
    let known : kind ≢ ScriptKind.Memory = λ e. true≢false (sym (ap (is_looked_at s) e) ∙ h) in
    let faulty = refuses known in
    record {
      serves = λ entry lines behind k. refused_apart text kind entry lines behind faulty k.begins;
      refuses = λ other k. true≢false (sym k.looked_at ∙ (ap (is_looked_at s) (one_refusal text other kind k.faulty faulty) ∙ h));
    }

-- ---- entries that were read, and one more

pub reads_more : (s : State) (text : List ℕ) (at : ℕ) (entries : List TextLine) (rest : List ℕ) (now : State) (number : ℕ) (entry : TextLine) (lines : ℕ) (behind : List ℕ) →
    Reads s text at entries rest now number → Serves now rest entry lines behind → Reads s text at (entries ++ entry ∷ []) behind (behind_entry now entry) (number + lines)
reads_more s text at [] rest now number entry lines behind h k = (
  lines,
  behind,
  subst (λ (z : State). Serves z text entry lines behind) h.1 (subst (λ (z : List ℕ). Serves now z entry lines behind) h.0 k),
  (refl, ap (λ (z : State). behind_entry z entry) h.1, ap (λ (z : ℕ). z + lines) h.2),
)
reads_more s text at (first ∷ entries) rest now number entry lines behind h k =
    (h.0, h.1, h.2, reads_more (behind_entry s first) h.1 (at + h.0) entries rest now number entry lines behind h.3 k)

pub lines_more : (entries : List TextLine) (entry : TextLine) → lines_of (entries ++ entry ∷ []) ≡ lines_of entries ++ lines_of (entry ∷ [])
lines_more [] entry = refl
lines_more (TextLine.Skipped ∷ entries) entry = lines_more entries entry
lines_more (TextLine.Served l ∷ entries) entry = ap (λ (z : List ScriptLine). l ∷ z) (lines_more entries entry)

-- what was read of a text so far
pub record IsSoFar (s : State) (text : List ℕ) (ls : List ScriptLine) (rest : List ℕ) (now : State) (number : ℕ) : Type 0 where
  pub entries : List TextLine
  pub reading : Reads s text 2 entries rest now number
  pub shown : ls ≡ lines_of entries

pub so_far_more : (s : State) (text : List ℕ) (ls : List ScriptLine) (rest : List ℕ) (now : State) (number : ℕ) (entry : TextLine) (lines : ℕ) (behind : List ℕ) (more : List ScriptLine) (new : State) →
    IsSoFar s text ls rest now number → Serves now rest entry lines behind → more ≡ ls ++ lines_of (entry ∷ []) → new ≡ behind_entry now entry →
    IsSoFar s text more behind new (number + lines)
so_far_more s text ls rest now number entry lines behind more new h k e f = record {
  entries = h.entries ++ entry ∷ [];
  reading = subst (λ (z : State). Reads s text 2 (h.entries ++ entry ∷ []) behind z (number + lines)) (sym f)
      (reads_more s text 2 h.entries rest now number entry lines behind h.reading k);
  shown = e ∙ (ap (λ (z : List ScriptLine). z ++ lines_of (entry ∷ [])) h.shown ∙ sym (lines_more h.entries entry));
}
