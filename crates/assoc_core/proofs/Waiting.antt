-- How many bytes wait in a relay without a proxy.
use Rattle.std.proofs.Common.{◌≡◌, ℕ, ◌-◌, Bool, true, false, Option, List, [], ◌++◌, if◌then◌else◌, length, drop, ap, sym, ◌∙◌, length-append, arith}
use Rattle.addr_pattern.specs.declared.endpoint.Endpoint.{Endpoint}
use Rattle.conf_types.specs.declared.entries.Entries.{Entries}
use Rattle.socks_grammar.specs.declared.user.User.{User}
use Rattle.socks_machine.specs.declared.cause.Cause.{Cause}
use Rattle.socks_machine.specs.declared.record.Record.{Record}
use Rattle.socks_machine.specs.Basis.{Basis}
use Rattle.socks_machine.specs.Decisions.{granted, reached_at}
use Rattle.socks_machine.specs.Owed.{waiting_for_target, waiting_for_client, replies}
use Rattle.socks_machine.specs.Phase.{client_payload, target_payload, relay_began, replies_length}
use Rattle.socks_machine.specs.Socks.{socks}
use Rattle.socks_machine.proofs.RelayLaws.{undialogued, unsaid}
use Rattle.assoc_core.specs.Carrying.{waiting_of}
use Rattle.assoc_core.specs.Plain.{IsPlainRecord, HasAsked, is_login_failed, prelude_of, replies_by}
use Rattle.assoc_core.proofs.Payload.{asked-extends, length-is, prelude-stays}
use Rattle.assoc_core.proofs.PlainRecords.{plain-owes-client, refused-late}
use Rattle.assoc_core.proofs.RelayRecords.{owed-caused}
use Rattle.assoc_core.proofs.RelaySums.{Begun, asked-of, replies-owe, summed, unfailed-yet}

pub target-waits : (users : List User) (pubs : List Entries) (old : Record) (at : Endpoint) (c t part_c part_t : List ℕ) (end_c end_t shut_c shut_t : Bool) (cause : Option Cause) → Begun (socks users pubs) old at
    → waiting_for_target (socks users pubs) (summed old c t part_c part_t end_c end_t shut_c shut_t cause) ≡ waiting_of [] (prelude_of old) (old.c ++ c) (length (old.sent_t ++ part_t))
target-waits users pubs old at c t part_c part_t end_c end_t shut_c shut_t cause b =
    λ i. length (payload i) - (length (old.sent_t ++ part_t) - length (unsaid (socks users pubs) (old.t ++ t) (granted old.decisions) b.direct i))
  where
    asked : HasAsked users old
    asked = asked-of b

    payload : client_payload (socks users pubs) (summed old c t part_c part_t end_c end_t shut_c shut_t cause) ≡ drop (prelude_of old) (old.c ++ c)
    payload = ap (λ n. drop n (old.c ++ c)) (length-is users pubs (record old { c = old.c ++ c }) (asked-extends users old c asked) ∙ prelude-stays users old c asked)

same-length : (r p s t : List ℕ) → (r ++ p) ++ [] ≡ s ++ t → p ≡ t → length r ≡ length s
same-length r p s t h k = omega (arith, ap (λ (z : List ℕ). length z) h, ap (λ (z : List ℕ). length z) k, length-append (r ++ p) [], length-append r p, length-append s t)

pub client-waits : (users : List User) (pubs : List Entries) (old : Record) (at : Endpoint) (c t part_c part_t : List ℕ) (end_c end_t shut_c shut_t : Bool) (cause : Option Cause) → Begun (socks users pubs) old at
    → is_login_failed cause ≡ false → IsPlainRecord users (summed old c t part_c part_t end_c end_t shut_c shut_t cause)
    → relay_began (socks users pubs) (summed old c t part_c part_t end_c end_t shut_c shut_t cause) ≡ true
    → waiting_for_client (socks users pubs) (summed old c t part_c part_t end_c end_t shut_c shut_t cause)
    ≡ waiting_of (replies_by (old.c ++ c) old.chosen old.cause (reached_at old.decisions)) 0 (old.t ++ t) (length (old.sent_c ++ part_c))
client-waits users pubs old at c t part_c part_t end_c end_t shut_c shut_t cause b f plain began = λ i. length (payload i) - (length (old.sent_c ++ part_c) - same i)
  where
    basis : Basis
    basis = socks users pubs

    x : Record
    x = summed old c t part_c part_t end_c end_t shut_c shut_t cause

    payload : target_payload basis x ≡ old.t ++ t
    payload = ap (λ d. drop (replies_length d) (old.t ++ t)) (undialogued basis (old.t ++ t) (granted old.decisions) b.direct)

    owes : (replies basis x ++ target_payload basis x) ++ [] ≡ replies_by (old.c ++ c) old.chosen old.cause (reached_at old.decisions) ++ (old.t ++ t)
    owes = (λ i. (replies basis x ++ (if sym began i then target_payload basis x else [])) ++ sym (refused-late basis x began cause) i)
        ∙ (plain-owes-client users pubs x plain b.direct
        ∙ (owed-caused (old.c ++ c) (old.t ++ t) old.chosen (reached_at old.decisions) at cause old.cause b.reaches (f ∙ sym (unfailed-yet b))
        ∙ sym (replies-owe (old.c ++ c) (old.t ++ t) old.chosen (reached_at old.decisions) at old.cause b.reaches)))

    same : length (replies basis x) ≡ length (replies_by (old.c ++ c) old.chosen old.cause (reached_at old.decisions))
    same = same-length (replies basis x) (target_payload basis x) _ (old.t ++ t) owes payload
