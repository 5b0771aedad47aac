-- An association stands for its record still with a link that keeps what it gave and took.
use Rattle.std.proofs.Common.{◌≡◌, List, ℕ, Bool, Option, Some, sym, subst, ◌∙◌}
use Rattle.net_ends.specs.Told.{Told}
use Rattle.socks_machine.specs.Basis.{Basis}
use Rattle.assoc_core.specs.declared.assoc.Assoc.{Assoc}
use Rattle.assoc_core.specs.Lent.{KeepsLink, with_client, with_target}
use Rattle.assoc_core.specs.Stands.{Holds, HoldsTarget, Stands}

holds-kept : (old new : Told) (given taken : List ℕ) (ended shut : Bool) → KeepsLink old new → Holds old given taken ended shut → Holds new given taken ended shut
holds-kept old new given taken ended shut k h = record {
  given' = λ x e. h.given' x (sym k.given ∙ e);
  taken' = λ x e. h.taken' x (sym k.taken ∙ e);
  ended' = k.ended ∙ h.ended';
  shut' = k.shut ∙ h.shut';
}

pub client-kept : {L : Type 0} (told : L → Told) (basis : Basis) (a : Assoc L) (link : L) → Stands told basis a → KeepsLink (told a.client) (told link) → Stands told basis (with_client a link)
client-kept told basis a link h k = record {
  plain = h.plain;
  direct = h.direct;
  client = holds-kept (told a.client) (told link) _ _ _ _ k h.client;
  client_ends = k.behind h.client_ends;
  client_first = k.first h.client_first;
  target = h.target;
}

pub target-kept : {L : Type 0} (told : L → Told) (basis : Basis) (a : Assoc L) (old link : L) → a.target ≡ Some old → Stands told basis a → KeepsLink (told old) (told link) → Stands told basis (with_target a link)
target-kept {L} told basis a old link is h k = record {
  plain = h.plain;
  direct = h.direct;
  client = h.client;
  client_ends = h.client_ends;
  client_first = h.client_first;
  target = (held.0, holds-kept (told old) (told link) _ _ _ _ k held.1, k.behind held.2, k.first held.3);
}
  where
    held : HoldsTarget told a.state (Some old)
    held = subst (λ (z : Option L). HoldsTarget told a.state z) is h.target
