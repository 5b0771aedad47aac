-- The lines of a transcript as words that stay whole in the replay's contracts: a number's text is long where it unfolds.
use Rattle.std.specs.Prelude.{ℕ, Some, List, [], ◌∷◌, codes}
use Rattle.addr_pattern.specs.AddressText.{number_text}
use Rattle.socks_machine.specs.declared.record.Record.{Record}
use Rattle.socks_machine.specs.declared.world.TurnEvent.{TurnEvent}
use Rattle.socks_machine.specs.Basis.{Basis}
use Rattle.socks_machine.specs.Transcript.{line, turn_line, ends_of}

unfoldable pub turn_shown : ℕ → TurnEvent → Record → List ℕ
turn_shown generation ev r = turn_line generation ev (Some r)

unfoldable pub publish_shown : ℕ → List ℕ
publish_shown generation = line (codes "publish" ∷ number_text generation ∷ [])

unfoldable pub see_shown : ℕ → List ℕ
see_shown generation = line (codes "see" ∷ number_text 1 ∷ number_text generation ∷ [])

unfoldable pub open_shown : ℕ → List ℕ
open_shown number = line (codes "open" ∷ number_text 1 ∷ number_text number ∷ [])

unfoldable pub close_shown : List ℕ
close_shown = line (codes "close" ∷ [])

unfoldable pub ends_shown : Basis → Record → List ℕ
ends_shown basis r = ends_of basis r
