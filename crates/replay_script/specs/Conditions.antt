-- Under which conditions a script's lines are served: one worker, and clients whose input is served.
use Rattle.std.specs.Prelude.{◌≡◌, ◌≤◌, ◌+◌, ◌-◌, ℕ, zero, suc, Bool, true, false, not, ◌&&◌, ◌==◌, nat_le, List, [], ◌∷◌, ◌++◌, Option, Some, None, length, slice_get, slice_set}
use Rattle.socks_grammar.specs.declared.user.User.{User}
use Rattle.conf_types.specs.Plain.{IsPlain}
use Rattle.socks_machine.specs.declared.world.Object.{Object}
use Rattle.socks_machine.specs.declared.world.Outer.{Outer}
use Rattle.socks_machine.specs.declared.script.ScriptLine.{ScriptLine}
use Rattle.socks_machine.specs.Inputs.{is_served_input}
use Rattle.user_login.specs.UsersFile.{are_users}
use Rattle.replay_script.specs.Forms.{most_at_once}
use Rattle.replay_script.specs.declared.state.AssociationState.{AssociationState}
use Rattle.replay_script.specs.declared.state.State.{State}

abbrev pub start : State
start = record { users = []; given = false; published = false; seen = false; moment = 0; sides = [] }

abbrev pub fresh_side : AssociationState
fresh_side = record { c = []; end_c = false; end_t = false; looked = false; dialled = false }

-- ---- the conditions of order

-- the test of an association that is open
abbrev pub on_side : Option AssociationState → (AssociationState → Bool) → Bool
on_side None test = false
on_side (Some side) test = test side

-- associations are numbered from 1
abbrev pub side_of : State → ℕ → Option AssociationState
side_of s zero = None
side_of s (suc k) = slice_get s.sides k

-- the users come once, before the first configuration and the first association
abbrev pub may_give : State → Bool
may_give s = not s.given && (not s.published && length s.sides == 0)

abbrev pub may_send : List User → List ℕ → AssociationState → Bool
may_send users bytes side = not side.end_c && is_served_input users (side.c ++ bytes)

-- whether a line keeps its condition
abbrev pub allows : State → ScriptLine → Bool
allows s (ScriptLine.UsersAre users) = may_give s
allows s (ScriptLine.Publish k) = true
allows s (ScriptLine.See w) = s.published
allows s (ScriptLine.Open w a peer local) = a == length s.sides + 1
allows s (ScriptLine.Client a bytes) = on_side (side_of s a) (may_send s.users bytes)
allows s (ScriptLine.Target a bytes) = on_side (side_of s a) (λ side. not side.end_t)
allows s (ScriptLine.ClientEnd a) = on_side (side_of s a) (λ side. not side.end_c)
allows s (ScriptLine.TargetEnd a) = on_side (side_of s a) (λ side. not side.end_t)
allows s (ScriptLine.Lookup a outer) = on_side (side_of s a) (λ side. not side.looked)
allows s (ScriptLine.Dial a outer) = on_side (side_of s a) (λ side. not side.dialled)
allows s (ScriptLine.Room a object most) = on_side (side_of s a) (λ side. true)
allows s (ScriptLine.Fault a object kind) = on_side (side_of s a) (λ side. true)
allows s (ScriptLine.Now n) = nat_le s.moment n
allows s (ScriptLine.Turn w a) = s.seen && on_side (side_of s a) (λ side. true)
allows s _ = false

-- ---- what the lines say so far

abbrev pub with_side : State → ℕ → (AssociationState → AssociationState) → Option AssociationState → State
with_side s a change None = s
with_side s a change (Some side) = record s { sides = slice_set s.sides (a - 1) (change side) }

abbrev pub change_side : State → ℕ → (AssociationState → AssociationState) → State
change_side s a change = with_side s a change (side_of s a)

-- what the lines say behind a line
abbrev pub after : State → ScriptLine → State
after s (ScriptLine.UsersAre users) = record s { users = users; given = true }
after s (ScriptLine.Publish k) = record s { published = true }
after s (ScriptLine.See w) = record s { seen = true }
after s (ScriptLine.Open w a peer local) = record s { sides = s.sides ++ fresh_side ∷ [] }
after s (ScriptLine.Client a bytes) = change_side s a (λ side. record side { c = side.c ++ bytes })
after s (ScriptLine.ClientEnd a) = change_side s a (λ side. record side { end_c = true })
after s (ScriptLine.TargetEnd a) = change_side s a (λ side. record side { end_t = true })
after s (ScriptLine.Lookup a outer) = change_side s a (λ side. record side { looked = true })
after s (ScriptLine.Dial a outer) = change_side s a (λ side. record side { dialled = true })
after s (ScriptLine.Now n) = record s { moment = n }
after s _ = s

-- ---- the forms that are served

abbrev pub IsServedOutcome : Outer → Type 0
IsServedOutcome (Outer.Up local) = Unit {0}
IsServedOutcome Outer.Refused = Unit {0}
IsServedOutcome Outer.HostUnreachable = Unit {0}
IsServedOutcome Outer.NetUnreachable = Unit {0}
IsServedOutcome Outer.Failed = Unit {0}
IsServedOutcome _ = ⊥

abbrev pub IsServedLookup : Outer → Type 0
IsServedLookup (Outer.Looked found) = Unit {0}
IsServedLookup Outer.Failed = Unit {0}
IsServedLookup _ = ⊥

-- the client or the target
abbrev pub IsServedRoom : Object → Type 0
IsServedRoom Object.Client = Unit {0}
IsServedRoom Object.Target = Unit {0}
IsServedRoom _ = ⊥

-- a call on the link of the client or of the target
abbrev pub IsServedFault : Object → Type 0
IsServedFault Object.Client = Unit {0}
IsServedFault Object.Target = Unit {0}
IsServedFault _ = ⊥

-- what is served of a line, whatever stands before it
abbrev pub IsServedForm : ScriptLine → Type 0
IsServedForm (ScriptLine.UsersAre users) = are_users users ≡ true
IsServedForm (ScriptLine.Publish k) = IsPlain k
IsServedForm (ScriptLine.See w) = w ≡ 1
IsServedForm (ScriptLine.Open w a peer local) = w ≡ 1
IsServedForm (ScriptLine.Client a bytes) = Unit {0}
IsServedForm (ScriptLine.Target a bytes) = length bytes ≤ most_at_once
IsServedForm (ScriptLine.ClientEnd a) = Unit {0}
IsServedForm (ScriptLine.TargetEnd a) = Unit {0}
IsServedForm (ScriptLine.Lookup a outer) = IsServedLookup outer
IsServedForm (ScriptLine.Dial a outer) = IsServedOutcome outer
IsServedForm (ScriptLine.Room a object most) = IsServedRoom object
IsServedForm (ScriptLine.Fault a object kind) = IsServedFault object
IsServedForm (ScriptLine.Now n) = Unit {0}
IsServedForm (ScriptLine.Turn w a) = w ≡ 1
IsServedForm _ = ⊥

-- ---- a script that is served

abbrev pub IsServedFrom : State → List ScriptLine → Type 0
IsServedFrom s [] = Unit {0}
IsServedFrom s (l ∷ ls) = IsServedForm l × (allows s l ≡ true) × IsServedFrom (after s l) ls

abbrev pub IsServed : List ScriptLine → Type 0
IsServed ls = IsServedFrom start ls

-- whether a line was allowed, and then the state behind it
abbrev pub Allowed : State → State → ScriptLine → Bool → Type 0
Allowed old new l true = (allows old l ≡ true) × (new ≡ after old l)
Allowed old new l false = allows old l ≡ false
