use Rattle.std.proofs.Common.{◌≡◌, ◌+◌, ℕ, Bool, List, Option, Some, not, take, drop, ap, ◌∙◌}
use Rattle.net_ends.specs.Told.{Told}
use Rattle.net_ends.proofs.Parts.{given_more, given_part}
use Rattle.net_ends.proofs.memory_link.MemLinkLink.read.Goals as goal

told : (arrived taken : List ℕ) (cap : ℕ) (room : Option ℕ) (ends ended shut unfailing : Bool) (front given : List ℕ) → front ≡ given
    → ◌≡◌ {A = Told} (record { given = Some front; taken = Some taken; ended = ended; shut = shut; arrived = Some (record { bytes = arrived; ends = ends }); cap = Some cap; room = room; unfailing = unfailing })
    (record { given = Some given; taken = Some taken; ended = ended; shut = shut; arrived = Some (record { bytes = arrived; ends = ends }); cap = Some cap; room = room; unfailing = unfailing })
told arrived taken cap room ends ended shut unfailing front given e = cc e

pub returns-clause-told : goal.returns-clause-told
returns-clause-told c =
    let now = c.self.inside in
    let front : take c.copy_front-n.result c.copy_front-n.new.into ≡ take c.copy_front-n.result (drop now.given now.arrived) =
    c.copy_front-n.ensures.front ∙ ap (λ (z : List ℕ). take c.copy_front-n.result z) (c.rest_of-rest.ensures ∙ ap (λ (z : List ℕ). drop now.given z) c.as_slice.ensures) in
    rw (← c.self.view_is) (told now.arrived now.taken.items now.cap now.room now.ends now.ended now.shut (not now.may_fail) _ _
    (given_more now.arrived c.copy_front-n.new.into now.given c.copy_front-n.result front))

pub returns-clause-arrived : goal.returns-clause-arrived
returns-clause-arrived c = λ arrival given is_arrival is_given.
    given_part c.self.inside.arrived c.self.inside.ends (c.self.inside.given + c.copy_front-n.result) arrival given is_arrival is_given
