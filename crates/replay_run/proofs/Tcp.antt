-- A record that is served is none of datagrams.
use Rattle.std.proofs.Common.{◌≡◌, ap, refl, true, false, Some, None, List, [], ◌∷◌}
use Rattle.socks_grammar.specs.declared.protocol.Command.{Command}
use Rattle.socks_grammar.specs.declared.user.User.{User}
use Rattle.socks_machine.specs.declared.record.Decision.{Decision}
use Rattle.socks_machine.specs.declared.record.Record.{Record}
use Rattle.socks_machine.specs.Phase.{is_udp}
use Rattle.assoc_core.specs.Plain.{HasDecided, IsPlainRecord}

pub plain-tcp : (users : List User) (r : Record) → IsPlainRecord users r → is_udp r ≡ false
plain-tcp users r plain = by r.decisions plain.decided
  where
    by-command : (k : Command) → k ≡ Command.Connect → (elim k [ Command.UdpAssociate ↦ true | _ ↦ false ]) ≡ false
    by-command k e = ap (λ (z : Command). elim z [ Command.UdpAssociate ↦ true | _ ↦ false ]) e

    by : (ds : List Decision) → HasDecided users r ds → is_udp (record r { decisions = ds }) ≡ false
    by [] h = refl
    by (Decision.Opened g rule None ∷ []) h = refl
    by (Decision.Opened g rule None ∷ Decision.Looked name found ∷ []) h = refl
    by (Decision.Opened g rule None ∷ Decision.Granted g' facts verdict route refused ∷ []) h = by-command facts.command h.command
    by (Decision.Opened g rule None ∷ Decision.Looked name (Some a) ∷ Decision.Granted g' facts verdict route refused ∷ []) h = by-command facts.command h.command
    by (Decision.Opened g rule None ∷ Decision.Granted g' facts verdict route None ∷ Decision.Reached to at ∷ []) h = by-command facts.command h.command
    by (Decision.Opened g rule None ∷ Decision.Looked name (Some a) ∷ Decision.Granted g' facts verdict route None ∷ Decision.Reached to at ∷ []) h = by-command facts.command h.command
    by _ h = absurd h
