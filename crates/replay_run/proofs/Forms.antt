-- A line that a replay has met: which one it is, and that the replay is behind it.
use Rattle.std.proofs.Common.{ℕ, suc, ◌≡◌, ◌<◌, ◌+◌, ◌∙◌, sym, ap, subst, List, [], ◌∷◌, ◌++◌, length, take, drop, get_or, drop-cons, arith}
use Rattle.std.proofs.lemmas.List.{take_more}
use Rattle.socks_grammar.specs.declared.user.User.{User}
use Rattle.socks_machine.specs.declared.script.ScriptLine.{ScriptLine}
use Rattle.replay_script.specs.declared.state.State.{State}
use Rattle.replay_script.specs.Conditions.{IsServedForm, IsServedFrom}
use Rattle.replay_run.specs.declared.state.Replay.{Replay}
use Rattle.replay_run.specs.Behind.{IsDue}
use Rattle.replay_run.proofs.Foreseeing.{Foresees}

-- the same line
pub due-as : (l l' : ScriptLine) (r : Replay) → l ≡ l' → IsDue l r → IsDue l' r
due-as l l' r is due = subst (λ (z : ScriptLine). IsDue z r) is due

-- the worker of a line is number 1
pub sees-first : (l : ScriptLine) (w : ℕ) → IsServedForm l → l ≡ ScriptLine.See w → l ≡ ScriptLine.See 1
sees-first l w form is = is ∙ ap ScriptLine.See (subst IsServedForm is form)

pub turns-first : (l : ScriptLine) (w a : ℕ) → IsServedForm l → l ≡ ScriptLine.Turn w a → l ≡ ScriptLine.Turn 1 a
turns-first l w a form is = is ∙ ap (λ (n : ℕ). ScriptLine.Turn n a) (subst IsServedForm is form)

-- ---- the next line of a script

next-left : (ls : List ScriptLine) (i : ℕ) (l : ScriptLine) → i < length ls → l ≡ get_or ls i l → drop i ls ≡ l ∷ drop (i + 1) ls
next-left ls i l within is = let e : suc i ≡ i + 1 = omega arith in
    drop-cons ls i l within ∙ (ap (λ z. z ∷ drop (suc i) ls) (sym is) ∙ ap (λ n. l ∷ drop n ls) e)

-- the next line is served, and so are the others behind it
pub next-served : (state : State) (ls : List ScriptLine) (i : ℕ) (l : ScriptLine) → i < length ls → l ≡ get_or ls i l → IsServedFrom state (drop i ls)
    → IsServedFrom state (l ∷ drop (i + 1) ls)
next-served state ls i l within is h = subst (IsServedFrom state) (next-left ls i l within is) h

-- the lines that were played, with the next one
pub next-taken : (ls : List ScriptLine) (i : ℕ) (l : ScriptLine) → i < length ls → l ≡ get_or ls i l → take (i + 1) ls ≡ take i ls ++ l ∷ []
next-taken ls i l within is = take_more ls i l within ∙ ap (λ z. take i ls ++ z ∷ []) (sym is)

pub next-foreseen : (users : List User) (state : State) (ls : List ScriptLine) (i : ℕ) (l : ScriptLine) → i < length ls → l ≡ get_or ls i l → Foresees users state (drop i ls)
    → Foresees users state (l ∷ drop (i + 1) ls)
next-foreseen users state ls i l within is h = subst (Foresees users state) (next-left ls i l within is) h
