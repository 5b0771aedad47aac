-- What a turn has read and written, beside what the script says of the outside.
use Rattle.std.proofs.Common.{ℕ, ◌≡◌, ◌≤◌, ◌==◌, ◌+◌, ◌∙◌, sym, ap, subst, refl, Bool, true, false, if◌then◌else◌, Option, Some, None, List, [], ◌∷◌, ◌++◌, length, arith, length-append, length-drop}
use Rattle.addr_pattern.specs.declared.addr.Addr.{Addr}
use Rattle.addr_pattern.specs.declared.endpoint.Endpoint.{Endpoint}
use Rattle.socks_grammar.specs.declared.protocol.Version.{Version}
use Rattle.socks_grammar.specs.declared.protocol.Command.{Command}
use Rattle.socks_grammar.specs.Handshake.{version_of}
use Rattle.net_ends.specs.InMemory.{LinkInMemory, NetInMemory, told_of_link, told_of_net}
use Rattle.net_ends.specs.Told.{Arrival}
use Rattle.socks_machine.specs.declared.cause.Cause.{Cause}
use Rattle.socks_machine.specs.declared.record.Chosen.{Chosen}
use Rattle.std.specs.Int.{w16, to_be_bytes}
use Rattle.socks_grammar.specs.Grammar.{spelled_addr}
use Rattle.socks_machine.specs.Replies.{Answer, RefusedAt, answer_to, bytes_of_answer, method_reply}
use Rattle.socks_machine.specs.Socks.{chosen_reply, passed_reply, success}
use Rattle.socks_machine.specs.Script.{Outside}
use Rattle.assoc_core.specs.Plain.{has_passed, opening_owed, plain_to_client, plain_to_target, refused_at, success_reply, payload_to_client, refusal_owed}
use Rattle.assoc_core.specs.Turns.{SameOutside, SameTarget}
use Rattle.replay_run.specs.Mirrors.{TargetIs, TargetMirrors, takes_nothing}

-- ---- what stays the same

abbrev bytes_of : Option Arrival → List ℕ
bytes_of None = []
bytes_of (Some a) = a.bytes

abbrev end_of : Option Arrival → Bool
end_of None = false
end_of (Some a) = a.ends

abbrev number_of : Option ℕ → ℕ
number_of None = 0
number_of (Some n) = n

pub same-arrived : (l l' : LinkInMemory) → SameOutside (told_of_link l) (told_of_link l') → l'.arrived ≡ l.arrived
same-arrived l l' h = ap bytes_of h.arrived

pub same-ends : (l l' : LinkInMemory) → SameOutside (told_of_link l) (told_of_link l') → l'.ends ≡ l.ends
same-ends l l' h = ap end_of h.arrived

pub same-cap : (l l' : LinkInMemory) → SameOutside (told_of_link l) (told_of_link l') → l'.cap ≡ l.cap
same-cap l l' h = ap number_of h.cap

pub same-target-is : (l l' : LinkInMemory) (o : Outside) → TargetIs l o → SameOutside (told_of_link l) (told_of_link l') → TargetIs l' o
same-target-is l l' o h k = record {
  arrived = same-arrived l l' k ∙ h.arrived;
  ends = same-ends l l' k ∙ h.ends;
  cap = subst (λ (n : ℕ). length o.c ≤ n) (sym (same-cap l l' k)) h.cap;
  room = ap takes_nothing k.room ∙ h.room;
}

-- the target's link behind a turn
pub target-behind : (t : Option LinkInMemory) (net : NetInMemory) (o : Outside) (l' : LinkInMemory) → TargetMirrors t net o
    → SameTarget told_of_link (told_of_net net) t (Some l') → TargetIs l' o
target-behind None net o l' h k = same-target-is net.link l' o h.0 (k (record { outcome = net.outcome; link = told_of_link net.link; due = net.link.counts.due }) refl)
target-behind (Some l) net o l' h k = same-target-is l l' o h.0 k

-- ---- how much is owed at most

chosen-short : (c : Option Chosen) → length (chosen_reply c) ≤ 2
chosen-short None = omega arith
chosen-short (Some c) = either (c.method == 255) c.method
  where
    either : (b : Bool) (m : ℕ) → length (if b then [] else method_reply m) ≤ 2
    either true m = omega arith
    either false m = omega arith

passed-short : (passed : Bool) → length (passed_reply passed) ≤ 2
passed-short true = omega arith
passed-short false = omega arith

opening-short : (c : List ℕ) (chosen : Option Chosen) (cause : Option Cause) → length (opening_owed c chosen cause) ≤ 4
opening-short c chosen cause =
    let h = chosen-short chosen in
    let k = passed-short (has_passed chosen c cause) in
    omega (arith, h, k, length-append (chosen_reply chosen) (passed_reply (has_passed chosen c cause)))

endpoint-short : (a : Addr) (port : ℕ) → length (spelled_addr a ++ to_be_bytes w16 port) ≤ 19
endpoint-short (Addr.V4 n) port = omega arith
endpoint-short (Addr.V6 n) port = omega arith

success-short : (v : Option Version) (at : Endpoint) → length (success v Command.Connect at) ≤ 22
success-short None at = omega arith
success-short (Some Version.V4) at = omega arith
success-short (Some Version.V5) at = let h = endpoint-short at.addr at.port in omega arith

abbrev IsShort : Answer → Type 0
IsShort (Answer.Code c) = Unit {0}
IsShort (Answer.Bytes bs) = length bs ≤ 10
IsShort Answer.Silence = Unit {0}

answer-short : (at : RefusedAt) (cause : Cause) → IsShort (answer_to at cause)
answer-short at Cause.NoMethod = omega arith
answer-short at Cause.LoginFailed = omega arith
answer-short at (Cause.BadVersion place byte) = by at.in_login
  where
    by : (b : Bool) → IsShort (if b then Answer.Bytes (1 ∷ 1 ∷ []) else Answer.Code 1)
    by true = omega arith
    by false = tt
answer-short at Cause.Memory = by at.granting_udp
  where
    by : (b : Bool) → IsShort (if b then Answer.Code 1 else Answer.Silence)
    by true = tt
    by false = tt
answer-short at _ = tt

bytes-short : (v : Option Version) (a : Answer) → IsShort a → length (bytes_of_answer v a) ≤ 10
bytes-short None a h = omega arith
bytes-short (Some Version.V4) (Answer.Code c) h = omega arith
bytes-short (Some Version.V5) (Answer.Code c) h = omega arith
bytes-short (Some v) (Answer.Bytes bs) h = h
bytes-short (Some v) Answer.Silence h = omega arith

success-at-short : (c : List ℕ) (at : Option Endpoint) → length (success_reply c at) ≤ 22
success-at-short c None = omega arith
success-at-short c (Some at) = success-short (version_of c) at

payload-length : (t : List ℕ) (at : Option Endpoint) → length (payload_to_client t at) ≤ length t
payload-length t None = omega arith
payload-length t (Some at) = omega arith

refusal-short : (c : List ℕ) (chosen : Option Chosen) (at : Option Endpoint) (cause : Option Cause) → length (refusal_owed c chosen at cause) ≤ 10
refusal-short c chosen None None = omega arith
refusal-short c chosen None (Some cause) =
    bytes-short (version_of c) (answer_to (refused_at chosen c cause) cause) (answer-short (refused_at chosen c cause) cause)
refusal-short c chosen (Some at) cause = omega arith

four-lengths : (a b c d : List ℕ) (n : ℕ) → length a ≤ 4 → length b ≤ 22 → length c ≤ n → length d ≤ 10 → length (a ++ (b ++ (c ++ d))) ≤ 36 + n
four-lengths a b c d n ha hb hc hd = omega (arith, length-append {A = ℕ})

pub owed-c-short : (c t : List ℕ) (chosen : Option Chosen) (at : Option Endpoint) (cause : Option Cause) → length (plain_to_client c t chosen at cause) ≤ 36 + length t
owed-c-short c t chosen at cause = four-lengths (opening_owed c chosen cause) (success_reply c at) (payload_to_client t at) (refusal_owed c chosen at cause) (length t)
    (opening-short c chosen cause) (success-at-short c at) (payload-length t at) (refusal-short c chosen at cause)

pub owed-t-short : (n : ℕ) (c : List ℕ) (at : Option Endpoint) → length (plain_to_target n c at) ≤ length c
owed-t-short n c None = omega arith
owed-t-short n c (Some at) = omega (arith, length-drop {A = ℕ})
