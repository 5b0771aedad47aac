-- The method that is answered to a greeting, over all that the client has sent (RFC 1928, section 3).
use Rattle.std.proofs.Common.{◌≡◌, ◌==◌, ℕ, Bool, true, false, if◌then◌else◌, Option, Some, None, option_map, List, [], ◌∷◌, ◌++◌, refl, sym, ap, subst, ◌∙◌}
use Rattle.std.specs.List.{list_any}
use Rattle.socks_grammar.specs.declared.protocol.Method.{Method}
use Rattle.socks_grammar.specs.declared.user.User.{User}
use Rattle.socks_grammar.specs.Handshake.{offered}
use Rattle.handshake_core.specs.declared.taken.Taken.{Taken}
use Rattle.handshake_core.specs.Due.{Client, method_after}
use Rattle.handshake_core.specs.Taking.{IsTaken, Takes}
use Rattle.socks_machine.specs.declared.record.Chosen.{Chosen}
use Rattle.socks_machine.specs.Replies.{choose, method_code}
use Rattle.socks_machine.specs.Taking.{chosen_after, choose_from}
use Rattle.assoc_core.specs.Hearing.{chosen_as, methods_by}
use Rattle.assoc_core.specs.Plain.{HasChosen, method_alone}
use Rattle.assoc_core.proofs.Payload.{choice-stays, offers-stay}

-- ---- the method alone is chosen again

abbrev IsAlone : List ℕ → ℕ → Type 0
IsAlone offers method = choose (method_alone method) offers ≡ method

alone-head : (m : Method) (offers : List ℕ) → list_any (λ b. b == method_code m) offers ≡ true → IsAlone offers (method_code m)
alone-head Method.NoAuth offers e = rw e refl
alone-head Method.Username offers e = rw e refl

alone-if : (b : Bool) (offers : List ℕ) (x y : ℕ) → (b ≡ true → IsAlone offers x) → IsAlone offers y → IsAlone offers (if b then x else y)
alone-if true offers x y h k = h refl
alone-if false offers x y h k = k

choose-alone : (methods : List Method) (offers : List ℕ) → IsAlone offers (choose methods offers)
choose-alone [] offers = refl
choose-alone (m ∷ ms) offers = alone-if (list_any (λ b. b == method_code m) offers) offers (method_code m) (choose ms offers) (alone-head m offers) (choose-alone ms offers)

-- ---- what is answered behind more bytes

chosen-now : (g : ℕ) (methods : List Method) (c : List ℕ) (offers : Option (List ℕ)) → offered c ≡ offers → HasChosen c (choose_from g methods offers)
chosen-now g methods c None e = e
chosen-now g methods c (Some offers) e = (offers, e, choose-alone methods offers)

pub has-chosen-after : (g : ℕ) (methods : List Method) (chosen : Option Chosen) (c x : List ℕ) → HasChosen c chosen → HasChosen (c ++ x) (chosen_after g methods chosen (c ++ x))
has-chosen-after g methods None c x h = chosen-now g methods (c ++ x) (offered (c ++ x)) refl
has-chosen-after g methods (Some chosen) c x h = choice-stays c x chosen h

pub chosen-still : (g : ℕ) (methods : List Method) (chosen : Option Chosen) (c : List ℕ) → HasChosen c chosen → chosen_after g methods chosen c ≡ chosen
chosen-still g methods None c h = ap (choose_from g methods) h
chosen-still g methods (Some chosen) c h = refl

-- ---- as the code answers

chosen-by : (g : ℕ) (methods : List Method) (offers : Option (List ℕ)) → chosen_as g None (option_map (choose methods) offers) ≡ choose_from g methods offers
chosen-by g methods None = refl
chosen-by g methods (Some offers) = refl

pub chosen-is : (g : ℕ) (methods : List Method) (chosen : Option Chosen) (c : List ℕ) (method : Option ℕ) → method ≡ method_after (methods_by chosen methods) None c
    → chosen_as g chosen method ≡ chosen_after g methods chosen c
chosen-is g methods None c method e = ap (chosen_as g None) e ∙ chosen-by g methods (offered c)
chosen-is g methods (Some chosen) c method e = refl

method-of : (g : ℕ) (methods : List Method) (offers : Option (List ℕ)) → option_map (choose methods) offers ≡ option_map (λ c. c.method) (choose_from g methods offers)
method-of g methods None = refl
method-of g methods (Some offers) = refl

pub method-is : (g : ℕ) (methods : List Method) (chosen : Option Chosen) (c x : List ℕ) (method : Option ℕ) → HasChosen c chosen → method ≡ method_after (methods_by chosen methods) None (c ++ x)
    → method ≡ option_map (λ c. c.method) (chosen_after g methods chosen (c ++ x))
method-is g methods None c x method h e = e ∙ method-of g methods (offered (c ++ x))
method-is g methods (Some chosen) c x method h e =
    let k = choice-stays c x chosen h in
    e ∙ (ap (option_map (choose (method_alone chosen.method))) k.1 ∙ ap Some k.2)

-- ---- what a handshake takes piece by piece

method-by : (methods : List Method) (c x : List ℕ) (offers : Option (List ℕ)) → offered c ≡ offers → method_after methods (option_map (choose methods) offers) (c ++ x) ≡ method_after methods None (c ++ x)
method-by methods c x None e = refl
method-by methods c x (Some offers) e = sym (ap (option_map (choose methods)) (offers-stay c x offers e))

-- what was taken of all these bytes of a client
pub record HasTaken (methods : List Method) (users : List User) (bytes : List ℕ) (taken : Taken) (client : Client) : Type 0 where
  pub method : client.method ≡ method_after methods None bytes
  pub is : IsTaken users client bytes taken

-- the bytes behind those that left it open
pub takes-behind : (methods : List Method) (users : List User) (old new : Client) (before x : List ℕ) (taken : Taken) → HasTaken methods users before Taken.Open old
    → Takes methods users old x taken new → HasTaken methods users (before ++ x) taken new
takes-behind methods users old new before x taken h k = record {
  method = k.method
      ∙ ((λ i. method_after methods (h.method i) (h.is.0 i ++ x))
      ∙ method-by methods before x (offered before) refl);
  is = subst (λ (c : List ℕ). IsTaken users new (c ++ x) taken) h.is.0 k.is;
}
