-- Who the users of a script are, as far as its lines have been read.
use Rattle.std.proofs.Common.{ℕ, ◌≡◌, ◌<◌, ◌-◌, ◌∙◌, sym, ap, subst, refl, Bool, true, false, not, ◌&&◌, ◌==◌, ◌⊎◌, inl, inr, Option, Some, None, List, [], ◌∷◌, length, arith, length-append}
use Rattle.std.proofs.lemmas.Bool.{and_parts, not-true, eqb-true}
use Rattle.std.proofs.lemmas.List.{length-set}
use Rattle.addr_pattern.specs.declared.endpoint.Endpoint.{Endpoint}
use Rattle.socks_grammar.specs.declared.user.User.{User}
use Rattle.socks_machine.specs.declared.script.ScriptLine.{ScriptLine}
use Rattle.socks_machine.specs.Follows.{users_of}
use Rattle.replay_script.specs.declared.state.AssociationState.{AssociationState}
use Rattle.replay_script.specs.declared.state.State.{State}
use Rattle.replay_script.specs.Conditions.{IsServedForm, IsServedFrom, after, allows, fresh_side, side_of, start, with_side}
use Rattle.replay_run.specs.Mirrors.{HasUsers}

-- a line gave these users, or the lines that are left give them
pub record Foresees (users : List User) (state : State) (rest : List ScriptLine) : Type 0 where
  pub given' : state.given ≡ true → state.users ≡ users
  pub coming : state.given ≡ false → (state.users ≡ []) × (users_of rest ≡ users)

pub foresees-first : (script : List ScriptLine) → Foresees (users_of script) start script
foresees-first script = record { given' = λ h. cc; coming = λ h. (refl, refl) }

-- ---- a line

-- a line that gives no users
pub record Leaves (state : State) (l : ScriptLine) : Type 0 where
  pub users : (after state l).users ≡ state.users
  pub given' : (after state l).given ≡ state.given
  pub open' : 0 < length state.sides → 0 < length (after state l).sides
  pub others : (rest : List ScriptLine) → users_of (l ∷ rest) ≡ users_of rest

set-users : (state : State) (a : ℕ) (f : AssociationState → AssociationState) (x : Option AssociationState) → (with_side state a f x).users ≡ state.users
set-users state a f None = refl
set-users state a f (Some side) = refl

set-given : (state : State) (a : ℕ) (f : AssociationState → AssociationState) (x : Option AssociationState) → (with_side state a f x).given ≡ state.given
set-given state a f None = refl
set-given state a f (Some side) = refl

set-open : (state : State) (a : ℕ) (f : AssociationState → AssociationState) (x : Option AssociationState) → 0 < length state.sides → 0 < length (with_side state a f x).sides
set-open state a f None h = h
set-open state a f (Some side) h = let e = length-set state.sides (a - 1) (f side) in omega (arith, e, h)

leaves-changed : (state : State) (l : ScriptLine) (a : ℕ) (f : AssociationState → AssociationState) → after state l ≡ with_side state a f (side_of state a) → ((rest : List ScriptLine) → users_of (l ∷ rest) ≡ users_of rest) → Leaves state l
leaves-changed state l a f is others = record {
  users = ap (λ (s : State). s.users) is ∙ set-users state a f (side_of state a);
  given' = ap (λ (s : State). s.given) is ∙ set-given state a f (side_of state a);
  open' = λ h. subst (λ (s : State). 0 < length s.sides) (sym is) (set-open state a f (side_of state a) h);
  others = others;
}

leaves-open : (state : State) (w a : ℕ) (peer local : Endpoint) → Leaves state (ScriptLine.Open w a peer local)
leaves-open state w a peer local = record {
  users = refl;
  given' = refl;
  open' = λ h. let e = length-append state.sides (fresh_side ∷ []) in omega (arith, e, h);
  others = λ rest. refl;
}

-- a line that is served gives the users, or none
pub gives-or-leaves : (state : State) (l : ScriptLine) → IsServedForm l → ((us : List User) × (l ≡ ScriptLine.UsersAre us)) ⊎ Leaves state l
gives-or-leaves state (ScriptLine.Workers n) form = absurd form
gives-or-leaves state (ScriptLine.UsersAre us) form = inl (us, refl)
gives-or-leaves state (ScriptLine.Publish k) form = inr (record { users = refl; given' = refl; open' = λ h. h; others = λ rest. refl })
gives-or-leaves state (ScriptLine.See w) form = inr (record { users = refl; given' = refl; open' = λ h. h; others = λ rest. refl })
gives-or-leaves state (ScriptLine.Open w a peer local) form = inr (leaves-open state w a peer local)
gives-or-leaves state (ScriptLine.Client a bytes) form = inr (leaves-changed state (ScriptLine.Client a bytes) a _ refl (λ rest. refl))
gives-or-leaves state (ScriptLine.Target a bytes) form = inr (record { users = refl; given' = refl; open' = λ h. h; others = λ rest. refl })
gives-or-leaves state (ScriptLine.ClientEnd a) form = inr (leaves-changed state (ScriptLine.ClientEnd a) a _ refl (λ rest. refl))
gives-or-leaves state (ScriptLine.TargetEnd a) form = inr (leaves-changed state (ScriptLine.TargetEnd a) a _ refl (λ rest. refl))
gives-or-leaves state (ScriptLine.Lookup a outer) form = inr (leaves-changed state (ScriptLine.Lookup a outer) a _ refl (λ rest. refl))
gives-or-leaves state (ScriptLine.Dial a outer) form = inr (leaves-changed state (ScriptLine.Dial a outer) a _ refl (λ rest. refl))
gives-or-leaves state (ScriptLine.Door a outer) form = absurd form
gives-or-leaves state (ScriptLine.Peer a peer) form = absurd form
gives-or-leaves state (ScriptLine.Port a outer) form = absurd form
gives-or-leaves state (ScriptLine.Datagram a peer bytes) form = absurd form
gives-or-leaves state (ScriptLine.Room a x n) form = inr (record { users = refl; given' = refl; open' = λ h. h; others = λ rest. refl })
gives-or-leaves state (ScriptLine.Fault a x k) form = inr (record { users = refl; given' = refl; open' = λ h. h; others = λ rest. refl })
gives-or-leaves state (ScriptLine.Now n) form = inr (record { users = refl; given' = refl; open' = λ h. h; others = λ rest. refl })
gives-or-leaves state (ScriptLine.Turn w a) form = inr (record { users = refl; given' = refl; open' = λ h. h; others = λ rest. refl })
gives-or-leaves state ScriptLine.Stop form = absurd form

-- the users come only before they were given, and before an association is open
ungiven : (state : State) (us : List User) → allows state (ScriptLine.UsersAre us) ≡ true → state.given ≡ false
ungiven state us h = not-true state.given (and_parts (not state.given) (not state.published && (length state.sides == 0)) h).0

unopened : (state : State) (us : List User) → allows state (ScriptLine.UsersAre us) ≡ true → length state.sides ≡ 0
unopened state us h =
    let e = and_parts (not state.given) (not state.published && (length state.sides == 0)) h in
    eqb-true (length state.sides) 0 (and_parts (not state.published) (length state.sides == 0) e.1).1

-- ---- the lines that are left

-- behind one more line
pub foresees-next : (users : List User) (state : State) (l : ScriptLine) (rest : List ScriptLine) → IsServedForm l → allows state l ≡ true
    → Foresees users state (l ∷ rest) → Foresees users (after state l) rest
foresees-next users state l rest form allowed f = by (gives-or-leaves state l form)
  where
    by-users : (us : List User) → allows state (ScriptLine.UsersAre us) ≡ true → Foresees users state (ScriptLine.UsersAre us ∷ rest)
        → Foresees users (after state (ScriptLine.UsersAre us)) rest
    by-users us allowed f = record { given' = λ h. (f.coming (ungiven state us allowed)).1; coming = λ h. cc }

    by : ((us : List User) × (l ≡ ScriptLine.UsersAre us)) ⊎ Leaves state l → Foresees users (after state l) rest
    by (inl u) = subst (λ (z : ScriptLine). Foresees users (after state z) rest) (sym u.1) (by-users u.0
        (subst (λ (z : ScriptLine). allows state z ≡ true) u.1 allowed) (subst (λ (z : ScriptLine). Foresees users state (z ∷ rest)) u.1 f))
    by (inr k) = record {
      given' = λ h. k.users ∙ f.given' (sym k.given' ∙ h);
      coming = λ h. let n = f.coming (sym k.given' ∙ h) in (k.users ∙ n.0, sym (k.others rest) ∙ n.1);
    }

-- once an association is open no line gives users
none-left : (state : State) (rest : List ScriptLine) → IsServedFrom state rest → 0 < length state.sides → users_of rest ≡ []
none-left state [] served some = refl
none-left state (l ∷ rest) served some = by (none-left (after state l) rest served.2) (gives-or-leaves state l served.0)
  where
    by : (0 < length (after state l).sides → users_of rest ≡ []) → ((us : List User) × (l ≡ ScriptLine.UsersAre us)) ⊎ Leaves state l → users_of (l ∷ rest) ≡ []
    by others (inl u) = let e = unopened state u.0 (subst (λ (z : ScriptLine). allows state z ≡ true) u.1 served.1) in absurd (omega (arith, e, some))
    by others (inr k) = k.others rest ∙ others (k.open' some)

pub has-users : (users : List User) (state : State) (rest : List ScriptLine) → Foresees users state rest → IsServedFrom state rest → HasUsers users state
has-users users state rest f served some = by state.given refl
  where
    by : (given : Bool) → state.given ≡ given → state.users ≡ users
    by true e = f.given' e
    by false e = let n = f.coming e in n.0 ∙ (sym (none-left state rest served some) ∙ n.1)
