-- The entries of the live associations: how each number stands by them, and how they change.
use Rattle.std.specs.Prelude.{◌≡◌, ℕ, Bool, ◌==◌, if◌then◌else◌, List, [], ◌∷◌, count_by}
use Rattle.socks_machine.specs.declared.cause.ListKind.{ListKind}
use Rattle.socks_machine.specs.History.{Stand, is_under}
use Rattle.session_desk.specs.declared.entry.Live.{Live}
use Rattle.session_desk.specs.declared.entry.LiveAssociation.{LiveAssociation}

abbrev pub stand_of_live : Live → Stand
stand_of_live Live.Opened = Stand.Open
stand_of_live (Live.Granted generation client socks) = Stand.Under generation client socks

abbrev pub has_number : ℕ → LiveAssociation → Bool
has_number n e = e.number == n

-- how a number stands by the entries
abbrev pub standing_in : List LiveAssociation → ℕ → Stand
standing_in [] n = Stand.Gone
standing_in (e ∷ es) n = if has_number n e then stand_of_live e.live else standing_in es n

-- no number has two entries
abbrev pub IsApart : List LiveAssociation → Type 0
IsApart [] = Unit {0}
IsApart (e ∷ es) = (standing_in es e.number ≡ Stand.Gone) × IsApart es

-- the number's entry becomes this
abbrev pub renewed : ℕ → Live → List LiveAssociation → List LiveAssociation
renewed n live [] = []
renewed n live (e ∷ es) = if has_number n e then record { number = n; live = live } ∷ es else e ∷ renewed n live es

-- the number's entry is taken out
abbrev pub without : ℕ → List LiveAssociation → List LiveAssociation
without n [] = []
without n (e ∷ es) = if has_number n e then es else e ∷ without n es

abbrev pub is_live_under : ℕ → ListKind → ℕ → Live → Bool
is_live_under generation kind rule live = is_under generation kind rule (stand_of_live live)

-- how many entries were granted in this generation under this rule
abbrev pub held_in : List LiveAssociation → ℕ → ListKind → ℕ → ℕ
held_in es generation kind rule = count_by (λ (e : LiveAssociation). is_live_under generation kind rule e.live) es
