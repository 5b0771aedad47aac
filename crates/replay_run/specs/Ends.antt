-- What became of each association, as it is written.
use Rattle.std.specs.Prelude.{ℕ, ◌≡◌, false, List, [], ◌∷◌, ◌++◌}
use Rattle.socks_machine.specs.Basis.{Basis}
use Rattle.socks_machine.specs.Phase.{is_udp}
use Rattle.replay_run.specs.declared.slot.Slot.{Slot}
use Rattle.replay_run.specs.Mirrors.{record_of}
use Rattle.replay_run.specs.Shown.{ends_shown}

-- an association that is there, and has relayed no datagrams
abbrev pub IsUngrammed : Slot → Type 0
IsUngrammed (Slot.Going a net) = (is_udp a.state ≡ false) × (a.state.sent_u ≡ [])
IsUngrammed (Slot.Over e) = (is_udp e.state ≡ false) × (e.state.sent_u ≡ [])
IsUngrammed Slot.Away = ⊥

abbrev pub AreUngrammed : List Slot → Type 0
AreUngrammed [] = Unit {0}
AreUngrammed (slot ∷ slots) = IsUngrammed slot × AreUngrammed slots

abbrev pub all_ends : Basis → List Slot → List ℕ
all_ends basis [] = []
all_ends basis (slot ∷ slots) = ends_shown basis (record_of slot) ++ all_ends basis slots
