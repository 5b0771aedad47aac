-- Which sides take nothing, behind a line that says how many bytes a write takes at most.
use Rattle.std.proofs.Common.{ℕ, zero, suc, ◌≡◌, refl, sym, true, false, Option, Some, None, List, [], ◌∷◌}
use Rattle.socks_machine.specs.declared.world.Object.{Object}
use Rattle.socks_machine.specs.Script.{room_for}
use Rattle.socks_machine.specs.Taking.{holds}
use Rattle.replay_run.specs.Mirrors.{takes_nothing}

-- the side that the line is of

client-freed : (n : ℕ) (os : List Object) → holds Object.Client (room_for Object.Client (suc n) os) ≡ false
client-freed n [] = refl
client-freed n (Object.Client ∷ os) = client-freed n os
client-freed n (Object.Target ∷ os) = client-freed n os
client-freed n (Object.Door ∷ os) = client-freed n os
client-freed n (Object.Port ∷ os) = client-freed n os

pub client-room : (n : ℕ) (os : List Object) → takes_nothing (Some n) ≡ holds Object.Client (room_for Object.Client n os)
client-room zero os = refl
client-room (suc n) os = sym (client-freed n os)

target-freed : (n : ℕ) (os : List Object) → holds Object.Target (room_for Object.Target (suc n) os) ≡ false
target-freed n [] = refl
target-freed n (Object.Client ∷ os) = target-freed n os
target-freed n (Object.Target ∷ os) = target-freed n os
target-freed n (Object.Door ∷ os) = target-freed n os
target-freed n (Object.Port ∷ os) = target-freed n os

pub target-room-is : (n : ℕ) (os : List Object) → takes_nothing (Some n) ≡ holds Object.Target (room_for Object.Target n os)
target-room-is zero os = refl
target-room-is (suc n) os = sym (target-freed n os)

-- the other side

target-kept : (n : ℕ) (os : List Object) → holds Object.Target (room_for Object.Client (suc n) os) ≡ holds Object.Target os
target-kept n [] = refl
target-kept n (Object.Client ∷ os) = target-kept n os
target-kept n (Object.Target ∷ os) = refl
target-kept n (Object.Door ∷ os) = target-kept n os
target-kept n (Object.Port ∷ os) = target-kept n os

pub target-unnarrowed : (n : ℕ) (os : List Object) → holds Object.Target (room_for Object.Client n os) ≡ holds Object.Target os
target-unnarrowed zero os = refl
target-unnarrowed (suc n) os = target-kept n os

client-kept : (n : ℕ) (os : List Object) → holds Object.Client (room_for Object.Target (suc n) os) ≡ holds Object.Client os
client-kept n [] = refl
client-kept n (Object.Client ∷ os) = refl
client-kept n (Object.Target ∷ os) = client-kept n os
client-kept n (Object.Door ∷ os) = client-kept n os
client-kept n (Object.Port ∷ os) = client-kept n os

pub client-unnarrowed : (n : ℕ) (os : List Object) → holds Object.Client (room_for Object.Target n os) ≡ holds Object.Client os
client-unnarrowed zero os = refl
client-unnarrowed (suc n) os = client-kept n os

-- ---- a link that takes nothing

pub is-nothing : (room : Option ℕ) → takes_nothing room ≡ true → room ≡ Some 0
is-nothing None h = absurd (cc)
is-nothing (Some zero) h = refl
is-nothing (Some (suc n)) h = absurd (cc)

pub not-nothing : (room : Option ℕ) → takes_nothing room ≡ false → room ≡ Some 0 → ⊥
not-nothing None h k = cc
not-nothing (Some zero) h k = cc
not-nothing (Some (suc n)) h k = cc
