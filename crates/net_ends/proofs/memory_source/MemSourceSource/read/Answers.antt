use Rattle.std.proofs.Common.{◌≡◌, ℕ, ◌+◌, List, take, drop, ap, ◌∙◌, refl}
use Rattle.net_ends.proofs.Parts.{given_more, front_of}
use Rattle.net_ends.proofs.memory_source.MemSourceSource.read.Goals as goal

pub returns-clause-told : goal.returns-clause-told
returns-clause-told c =
    let now = c.self.inside in
    let n = c.copy_front-n.result in
    let front : take n c.copy_front-n.new.into ≡ take n (drop now.given now.whole) =
    c.copy_front-n.ensures.front ∙ ap (λ (z : List ℕ). take n z) (c.rest_of-rest.ensures ∙ ap (λ (z : List ℕ). drop now.given z) c.as_slice.ensures) in
    rw (← c.self.view_is) (given_more now.whole c.copy_front-n.new.into now.given n front, refl, front_of now.whole (now.given + n))
