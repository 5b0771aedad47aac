-- The tests of `Script` decide what `Follows` says: a script allows just the events for which the tests pass.
use Rattle.std.proofs.Common.{ℕ, zero, suc, ◌+◌, ◌≡◌, ◌≢◌, ◌<◌, ◌≤◌, ◌↔◌, ◌⊎◌, inl, inr, ◌∙◌, sym, ap, subst, refl, Bool, true, false, ◌&&◌, ◌||◌, not, ◌==◌, nat_lt, nat_le, Option, Some, None, is_some, is_none, List, [], ◌∷◌, ◌++◌, length, take, drop, map, arith, Decides, All, IfSome, IsTrue, bytes_eq, slice_get, take-append-drop, length-append}
use Rattle.std.proofs.lemmas.Bool.Decides.{Decides-and, Decides-by_and, Decides-eqb, Decides-like, Decides-ltb, leb_tells}
use Rattle.std.proofs.lemmas.Slice.Eq.{bytes_eq-Decides}
use Rattle.std.specs.List.{list_all, list_any}
use mathlib.Core.List.{IsPrefix}
use Rattle.addr_pattern.specs.declared.addr.Addr.{Addr}
use Rattle.addr_pattern.specs.declared.endpoint.Endpoint.{Endpoint}
use Rattle.addr_pattern.specs.Equal.{addr_eq, endpoint_eq}
use Rattle.conf_types.specs.declared.entries.Entries.{Entries}
use Rattle.rule_list.specs.Rules.{numbered}
use Rattle.socks_machine.specs.declared.cause.StopBy.{StopBy}
use Rattle.socks_machine.specs.declared.record.Gram.{Gram}
use Rattle.socks_machine.specs.declared.record.Record.{Record}
use Rattle.socks_machine.specs.declared.script.CallKind.{CallKind}
use Rattle.socks_machine.specs.declared.script.ScriptLine.{ScriptLine}
use Rattle.socks_machine.specs.declared.world.Event.{Event}
use Rattle.socks_machine.specs.declared.world.NextMark.{NextMark}
use Rattle.socks_machine.specs.declared.world.Object.{Object}
use Rattle.socks_machine.specs.declared.world.Outer.{Outer}
use Rattle.socks_machine.specs.declared.world.TurnEvent.{TurnEvent}
use Rattle.socks_machine.specs.declared.world.World.{World}
use Rattle.socks_machine.specs.Basis.{Basis}
use Rattle.socks_machine.specs.Equal.{mark_eq, stop_by_eq}
use Rattle.socks_machine.specs.FailedCalls.{Failing}
use Rattle.socks_machine.specs.Follows.{Allows, Closing, ComesToEnd, EndFits, FaultsAre, Follows, IsEventOf, IsTurnOf, Meets, OuterFits, OuterIs, Rounds, packet}
use Rattle.socks_machine.specs.History.{last_mark}
use Rattle.socks_machine.specs.Owed.{waiting_for_client, waiting_for_target}
use Rattle.socks_machine.specs.Phase.{Phase, phase}
use Rattle.socks_machine.specs.SameConfig.{bool_eq, option_eq, entries_eq}
use Rattle.socks_machine.specs.Script.{Outside, Surroundings, all_grams, allows, allows_by, allows_in, behind_turn, can_fail_in, client_end_fits, closing, comes_to_end, did, end_fits, faults_are, follows, going, going_after, has_first, has_room, is_among, is_event_of, is_relay, is_silent, is_still, is_turn, meets, next_in_round, outer_eq, outer_fits, outer_fits_in, outside_after, peer_is, reached_as, rests_where, rounds, same_grams, starts_with, stop_is, surroundings_after, target_end_fits, used_up, without_ends, writes_link}
use Rattle.socks_machine.specs.Step.{basis_of, step}
use Rattle.socks_machine.specs.Taking.{holds, pipe_size, reads_client, reads_target, taken}
use Rattle.socks_machine.specs.Turn.{quantum}
use Rattle.socks_machine.proofs.SameConfigLaws.{addr-decides, bool-decides, endpoint-decides, entries-decides, option-decides}

-- ---- tests on small values

both : {x y : Bool} {P Q : Type 0} → Decides x P → Decides y Q → Decides (x && y) (P × Q)
both {x} {y} d k = Decides-and x y d k

not-decides : (b : Bool) → Decides (not b) (b ≡ false)
not-decides true = (λ h. cc, λ h. cc)
not-decides false = (λ h. refl, λ h. refl)

itself-decides : (b : Bool) → Decides b (b ≡ true)
itself-decides b = (λ h. h, λ h. h)

le-decides : (a b : ℕ) → Decides (nat_le a b) (a ≤ b)
le-decides a b = by (leb_tells a b)
  where
    by : ((nat_le a b ≡ true) × (a ≤ b)) ⊎ ((nat_le a b ≡ false) × (b < a)) → Decides (nat_le a b) (a ≤ b)
    by (inl h) = (λ e. h.1, λ e. h.0)
    by (inr h) = (λ e. let f = h.0 in cc, λ e. let f = h.1 in absurd (omega arith))

lt-decides : (a b : ℕ) → Decides (nat_lt a b) (a < b)
lt-decides a b = Decides-ltb a b

-- a condition, and what holds under it
under-decides : (b c : Bool) (P : Type 0) → Decides c P → Decides (not b || c) (b ≡ true → P)
under-decides true c P d = (λ h e. d.0 h, λ f. d.1 (f refl))
under-decides false c P d = (λ h e. cc, λ f. refl)

none-decides : {A : Type 0} (x : Option A) → Decides (is_none x) (x ≡ None)
none-decides None = (λ h. refl, λ h. refl)
none-decides (Some a) = (λ h. cc, λ h. cc)

unless-decides : {A : Type 0} (x : Option A) (c : Bool) (P : Type 0) → Decides c P → Decides (is_some x || c) (x ≡ None → P)
unless-decides None c P d = (λ h e. d.0 h, λ f. d.1 (f refl))
unless-decides (Some a) c P d = (λ h e. cc, λ f. refl)

stop-by-decides : (a b : StopBy) → Decides (stop_by_eq a b) (a ≡ b)
stop-by-decides StopBy.Control StopBy.Control = (λ h. refl, λ h. refl)
stop-by-decides StopBy.Control StopBy.Log = (λ h. cc, λ h. cc)
stop-by-decides StopBy.Control StopBy.Sessions = (λ h. cc, λ h. cc)
stop-by-decides StopBy.Log StopBy.Control = (λ h. cc, λ h. cc)
stop-by-decides StopBy.Log StopBy.Log = (λ h. refl, λ h. refl)
stop-by-decides StopBy.Log StopBy.Sessions = (λ h. cc, λ h. cc)
stop-by-decides StopBy.Sessions StopBy.Control = (λ h. cc, λ h. cc)
stop-by-decides StopBy.Sessions StopBy.Log = (λ h. cc, λ h. cc)
stop-by-decides StopBy.Sessions StopBy.Sessions = (λ h. refl, λ h. refl)

stop-decides : (a b : Option StopBy) → Decides (stop_is a b) (a ≡ b)
stop-decides None None = (λ h. refl, λ h. refl)
stop-decides None (Some b) = (λ h. cc, λ h. cc)
stop-decides (Some a) None = (λ h. cc, λ h. cc)
stop-decides (Some a) (Some b) = Decides-like (stop_by_eq a b) (λ h. ap Some h) (λ h. cc) (stop-by-decides a b)

going-decides : (m : NextMark) → Decides (not (mark_eq m NextMark.Going)) (m ≢ NextMark.Going)
going-decides NextMark.Going = (λ h. cc, λ h. absurd (h refl))
going-decides NextMark.Wait = (λ h e. cc, λ h. refl)
going-decides NextMark.Again = (λ h e. cc, λ h. refl)
going-decides NextMark.Done = (λ h e. cc, λ h. refl)

-- ---- what has arrived

take-of : (xs ys : List ℕ) → take (length xs) (xs ++ ys) ≡ xs
take-of [] ys = refl
take-of (x ∷ xs) ys = ap (λ (z : List ℕ). x ∷ z) (take-of xs ys)

prefix-decides : (part whole : List ℕ) → Decides (starts_with part whole) (IsPrefix part whole)
prefix-decides part whole = Decides-like (starts_with part whole)
    (λ h. (drop (length part) whole, ap (λ (z : List ℕ). z ++ drop (length part) whole) (sym h.1) ∙ take-append-drop (length part) whole))
    (λ h. (
      let e : length whole ≡ length part + length h.0 = ap length (sym h.1) ∙ length-append part h.0 in omega arith,
      ap (take (length part)) (sym h.1) ∙ take-of part h.0,
    ))
    (both (le-decides (length part) (length whole)) (bytes_eq-Decides (take (length part) whole) part))

grams-decide : (ds : List Gram) (xs : List (Endpoint × List ℕ)) → Decides (all_grams ds xs) (IsPrefix (map packet ds) xs)
grams-decide [] xs = (λ h. (xs, refl), λ h. refl)
grams-decide (d ∷ ds) [] = (λ h. cc, λ h. let e = h.1 in cc)
grams-decide (d ∷ ds) (x ∷ xs) = Decides-like (all_grams (d ∷ ds) (x ∷ xs))
    (λ h. (h.1.0, λ i. (h.0.0 i, h.0.1 i) ∷ h.1.1 i))
    (λ h. let head : packet d ≡ x = let e = h.1 in cc in let rest : map packet ds ++ h.0 ≡ xs = let e = h.1 in cc in
    ((ap (λ (z : Endpoint × List ℕ). z.0) head, ap (λ (z : Endpoint × List ℕ). z.1) head), (h.0, rest)))
    (both (both (endpoint-decides d.peer x.0) (bytes_eq-Decides d.bytes x.1)) (grams-decide ds xs))

same-grams-decide : (ds : List Gram) (xs : List (Endpoint × List ℕ)) → Decides (same_grams ds xs) (map packet ds ≡ xs)
same-grams-decide [] [] = (λ h. refl, λ h. refl)
same-grams-decide [] (x ∷ xs) = (λ h. cc, λ h. cc)
same-grams-decide (d ∷ ds) [] = (λ h. cc, λ h. cc)
same-grams-decide (d ∷ ds) (x ∷ xs) = Decides-like (same_grams (d ∷ ds) (x ∷ xs))
    (λ h i. (h.0.0 i, h.0.1 i) ∷ h.1 i)
    (λ h. let head : packet d ≡ x = cc in let rest : map packet ds ≡ xs = cc in
    ((ap (λ (z : Endpoint × List ℕ). z.0) head, ap (λ (z : Endpoint × List ℕ). z.1) head), rest))
    (both (both (endpoint-decides d.peer x.0) (bytes_eq-Decides d.bytes x.1)) (same-grams-decide ds xs))

peer-decides : (came o : Option Endpoint) → Decides (peer_is came o) (IfSome came (λ p. o ≡ Some p))
peer-decides None o = (λ h. tt, λ h. refl)
peer-decides (Some p) None = (λ h. cc, λ h. cc)
peer-decides (Some p) (Some x) = Decides-like (endpoint_eq p x) (λ h. ap Some (sym h)) (λ h. cc) (endpoint-decides p x)

-- ---- the outer call

outer-decides : (a b : Outer) → Decides (outer_eq a b) (a ≡ b)
outer-decides Outer.Nothing Outer.Nothing = (λ h. refl, λ h. refl)
outer-decides Outer.Nothing (Outer.Desk b) = (λ h. cc, λ h. cc)
outer-decides Outer.Nothing (Outer.Looked b) = (λ h. cc, λ h. cc)
outer-decides Outer.Nothing (Outer.Up b) = (λ h. cc, λ h. cc)
outer-decides Outer.Nothing Outer.Refused = (λ h. cc, λ h. cc)
outer-decides Outer.Nothing Outer.HostUnreachable = (λ h. cc, λ h. cc)
outer-decides Outer.Nothing Outer.NetUnreachable = (λ h. cc, λ h. cc)
outer-decides Outer.Nothing Outer.Failed = (λ h. cc, λ h. cc)
outer-decides (Outer.Desk a) Outer.Nothing = (λ h. cc, λ h. cc)
outer-decides (Outer.Desk a) (Outer.Desk b) = Decides-like (bool_eq a b) (λ h i. Outer.Desk (h i)) (λ h. cc) (bool-decides a b)
outer-decides (Outer.Desk a) (Outer.Looked b) = (λ h. cc, λ h. cc)
outer-decides (Outer.Desk a) (Outer.Up b) = (λ h. cc, λ h. cc)
outer-decides (Outer.Desk a) Outer.Refused = (λ h. cc, λ h. cc)
outer-decides (Outer.Desk a) Outer.HostUnreachable = (λ h. cc, λ h. cc)
outer-decides (Outer.Desk a) Outer.NetUnreachable = (λ h. cc, λ h. cc)
outer-decides (Outer.Desk a) Outer.Failed = (λ h. cc, λ h. cc)
outer-decides (Outer.Looked a) Outer.Nothing = (λ h. cc, λ h. cc)
outer-decides (Outer.Looked a) (Outer.Desk b) = (λ h. cc, λ h. cc)
outer-decides (Outer.Looked a) (Outer.Looked b) = Decides-like (option_eq addr_eq a b) (λ h. ap Outer.Looked h) (λ h. cc) (option-decides addr_eq addr-decides a b)
outer-decides (Outer.Looked a) (Outer.Up b) = (λ h. cc, λ h. cc)
outer-decides (Outer.Looked a) Outer.Refused = (λ h. cc, λ h. cc)
outer-decides (Outer.Looked a) Outer.HostUnreachable = (λ h. cc, λ h. cc)
outer-decides (Outer.Looked a) Outer.NetUnreachable = (λ h. cc, λ h. cc)
outer-decides (Outer.Looked a) Outer.Failed = (λ h. cc, λ h. cc)
outer-decides (Outer.Up a) Outer.Nothing = (λ h. cc, λ h. cc)
outer-decides (Outer.Up a) (Outer.Desk b) = (λ h. cc, λ h. cc)
outer-decides (Outer.Up a) (Outer.Looked b) = (λ h. cc, λ h. cc)
outer-decides (Outer.Up a) (Outer.Up b) = Decides-like (endpoint_eq a b) (λ h. ap Outer.Up h) (λ h. cc) (endpoint-decides a b)
outer-decides (Outer.Up a) Outer.Refused = (λ h. cc, λ h. cc)
outer-decides (Outer.Up a) Outer.HostUnreachable = (λ h. cc, λ h. cc)
outer-decides (Outer.Up a) Outer.NetUnreachable = (λ h. cc, λ h. cc)
outer-decides (Outer.Up a) Outer.Failed = (λ h. cc, λ h. cc)
outer-decides Outer.Refused Outer.Nothing = (λ h. cc, λ h. cc)
outer-decides Outer.Refused (Outer.Desk b) = (λ h. cc, λ h. cc)
outer-decides Outer.Refused (Outer.Looked b) = (λ h. cc, λ h. cc)
outer-decides Outer.Refused (Outer.Up b) = (λ h. cc, λ h. cc)
outer-decides Outer.Refused Outer.Refused = (λ h. refl, λ h. refl)
outer-decides Outer.Refused Outer.HostUnreachable = (λ h. cc, λ h. cc)
outer-decides Outer.Refused Outer.NetUnreachable = (λ h. cc, λ h. cc)
outer-decides Outer.Refused Outer.Failed = (λ h. cc, λ h. cc)
outer-decides Outer.HostUnreachable Outer.Nothing = (λ h. cc, λ h. cc)
outer-decides Outer.HostUnreachable (Outer.Desk b) = (λ h. cc, λ h. cc)
outer-decides Outer.HostUnreachable (Outer.Looked b) = (λ h. cc, λ h. cc)
outer-decides Outer.HostUnreachable (Outer.Up b) = (λ h. cc, λ h. cc)
outer-decides Outer.HostUnreachable Outer.Refused = (λ h. cc, λ h. cc)
outer-decides Outer.HostUnreachable Outer.HostUnreachable = (λ h. refl, λ h. refl)
outer-decides Outer.HostUnreachable Outer.NetUnreachable = (λ h. cc, λ h. cc)
outer-decides Outer.HostUnreachable Outer.Failed = (λ h. cc, λ h. cc)
outer-decides Outer.NetUnreachable Outer.Nothing = (λ h. cc, λ h. cc)
outer-decides Outer.NetUnreachable (Outer.Desk b) = (λ h. cc, λ h. cc)
outer-decides Outer.NetUnreachable (Outer.Looked b) = (λ h. cc, λ h. cc)
outer-decides Outer.NetUnreachable (Outer.Up b) = (λ h. cc, λ h. cc)
outer-decides Outer.NetUnreachable Outer.Refused = (λ h. cc, λ h. cc)
outer-decides Outer.NetUnreachable Outer.HostUnreachable = (λ h. cc, λ h. cc)
outer-decides Outer.NetUnreachable Outer.NetUnreachable = (λ h. refl, λ h. refl)
outer-decides Outer.NetUnreachable Outer.Failed = (λ h. cc, λ h. cc)
outer-decides Outer.Failed Outer.Nothing = (λ h. cc, λ h. cc)
outer-decides Outer.Failed (Outer.Desk b) = (λ h. cc, λ h. cc)
outer-decides Outer.Failed (Outer.Looked b) = (λ h. cc, λ h. cc)
outer-decides Outer.Failed (Outer.Up b) = (λ h. cc, λ h. cc)
outer-decides Outer.Failed Outer.Refused = (λ h. cc, λ h. cc)
outer-decides Outer.Failed Outer.HostUnreachable = (λ h. cc, λ h. cc)
outer-decides Outer.Failed Outer.NetUnreachable = (λ h. cc, λ h. cc)
outer-decides Outer.Failed Outer.Failed = (λ h. refl, λ h. refl)

call-decides : (o : Outside) (p : Phase) (outer : Outer) → Decides (outer_fits_in o outer p) (OuterIs o p outer)
call-decides o Phase.Ended Outer.Nothing = (λ h. tt, λ h. refl)
call-decides o Phase.Closing Outer.Nothing = (λ h. tt, λ h. refl)
call-decides o Phase.Accept Outer.Nothing = (λ h. tt, λ h. refl)
call-decides o Phase.Talk Outer.Nothing = (λ h. tt, λ h. refl)
call-decides o (Phase.Seek n) Outer.Nothing = (λ h. tt, λ h. refl)
call-decides o (Phase.Judging q) Outer.Nothing = (λ h. tt, λ h. refl)
call-decides o (Phase.Reach g) Outer.Nothing = (λ h. tt, λ h. refl)
call-decides o Phase.Asking Outer.Nothing = (λ h. tt, λ h. refl)
call-decides o (Phase.Door g) Outer.Nothing = (λ h. tt, λ h. refl)
call-decides o Phase.Relay Outer.Nothing = (λ h. tt, λ h. refl)
call-decides o Phase.Datagrams Outer.Nothing = (λ h. tt, λ h. refl)
call-decides o Phase.Ended (Outer.Desk a) = (λ h. tt, λ h. refl)
call-decides o Phase.Closing (Outer.Desk a) = (λ h. tt, λ h. refl)
call-decides o Phase.Accept (Outer.Desk a) = (λ h. tt, λ h. refl)
call-decides o Phase.Talk (Outer.Desk a) = (λ h. tt, λ h. refl)
call-decides o (Phase.Seek n) (Outer.Desk a) = (λ h. tt, λ h. refl)
call-decides o (Phase.Judging q) (Outer.Desk a) = (λ h. tt, λ h. refl)
call-decides o (Phase.Reach g) (Outer.Desk a) = (λ h. tt, λ h. refl)
call-decides o Phase.Asking (Outer.Desk a) = (λ h. tt, λ h. refl)
call-decides o (Phase.Door g) (Outer.Desk a) = (λ h. tt, λ h. refl)
call-decides o Phase.Relay (Outer.Desk a) = (λ h. tt, λ h. refl)
call-decides o Phase.Datagrams (Outer.Desk a) = (λ h. tt, λ h. refl)
call-decides o Phase.Ended (Outer.Looked a) = (λ h. cc, λ h. absurd h)
call-decides o Phase.Closing (Outer.Looked a) = (λ h. cc, λ h. absurd h)
call-decides o Phase.Accept (Outer.Looked a) = (λ h. cc, λ h. absurd h)
call-decides o Phase.Talk (Outer.Looked a) = (λ h. cc, λ h. absurd h)
call-decides o (Phase.Seek n) (Outer.Looked a) = outer-decides (Outer.Looked a) o.lookup
call-decides o (Phase.Judging q) (Outer.Looked a) = (λ h. cc, λ h. absurd h)
call-decides o (Phase.Reach g) (Outer.Looked a) = outer-decides (Outer.Looked a) (reached_as o g.facts.command)
call-decides o Phase.Asking (Outer.Looked a) = (λ h. cc, λ h. absurd h)
call-decides o (Phase.Door g) (Outer.Looked a) = (λ h. cc, λ h. absurd h)
call-decides o Phase.Relay (Outer.Looked a) = (λ h. cc, λ h. absurd h)
call-decides o Phase.Datagrams (Outer.Looked a) = (λ h. cc, λ h. absurd h)
call-decides o Phase.Ended (Outer.Up a) = (λ h. cc, λ h. absurd h)
call-decides o Phase.Closing (Outer.Up a) = (λ h. cc, λ h. absurd h)
call-decides o Phase.Accept (Outer.Up a) = (λ h. cc, λ h. absurd h)
call-decides o Phase.Talk (Outer.Up a) = (λ h. cc, λ h. absurd h)
call-decides o (Phase.Seek n) (Outer.Up a) = outer-decides (Outer.Up a) o.lookup
call-decides o (Phase.Judging q) (Outer.Up a) = (λ h. cc, λ h. absurd h)
call-decides o (Phase.Reach g) (Outer.Up a) = outer-decides (Outer.Up a) (reached_as o g.facts.command)
call-decides o Phase.Asking (Outer.Up a) = (λ h. cc, λ h. absurd h)
call-decides o (Phase.Door g) (Outer.Up a) = (λ h. cc, λ h. absurd h)
call-decides o Phase.Relay (Outer.Up a) = (λ h. cc, λ h. absurd h)
call-decides o Phase.Datagrams (Outer.Up a) = (λ h. cc, λ h. absurd h)
call-decides o Phase.Ended Outer.Refused = (λ h. cc, λ h. absurd h)
call-decides o Phase.Closing Outer.Refused = (λ h. cc, λ h. absurd h)
call-decides o Phase.Accept Outer.Refused = (λ h. cc, λ h. absurd h)
call-decides o Phase.Talk Outer.Refused = (λ h. cc, λ h. absurd h)
call-decides o (Phase.Seek n) Outer.Refused = outer-decides Outer.Refused o.lookup
call-decides o (Phase.Judging q) Outer.Refused = (λ h. cc, λ h. absurd h)
call-decides o (Phase.Reach g) Outer.Refused = outer-decides Outer.Refused (reached_as o g.facts.command)
call-decides o Phase.Asking Outer.Refused = (λ h. cc, λ h. absurd h)
call-decides o (Phase.Door g) Outer.Refused = (λ h. cc, λ h. absurd h)
call-decides o Phase.Relay Outer.Refused = (λ h. cc, λ h. absurd h)
call-decides o Phase.Datagrams Outer.Refused = (λ h. cc, λ h. absurd h)
call-decides o Phase.Ended Outer.HostUnreachable = (λ h. cc, λ h. absurd h)
call-decides o Phase.Closing Outer.HostUnreachable = (λ h. cc, λ h. absurd h)
call-decides o Phase.Accept Outer.HostUnreachable = (λ h. cc, λ h. absurd h)
call-decides o Phase.Talk Outer.HostUnreachable = (λ h. cc, λ h. absurd h)
call-decides o (Phase.Seek n) Outer.HostUnreachable = outer-decides Outer.HostUnreachable o.lookup
call-decides o (Phase.Judging q) Outer.HostUnreachable = (λ h. cc, λ h. absurd h)
call-decides o (Phase.Reach g) Outer.HostUnreachable = outer-decides Outer.HostUnreachable (reached_as o g.facts.command)
call-decides o Phase.Asking Outer.HostUnreachable = (λ h. cc, λ h. absurd h)
call-decides o (Phase.Door g) Outer.HostUnreachable = (λ h. cc, λ h. absurd h)
call-decides o Phase.Relay Outer.HostUnreachable = (λ h. cc, λ h. absurd h)
call-decides o Phase.Datagrams Outer.HostUnreachable = (λ h. cc, λ h. absurd h)
call-decides o Phase.Ended Outer.NetUnreachable = (λ h. cc, λ h. absurd h)
call-decides o Phase.Closing Outer.NetUnreachable = (λ h. cc, λ h. absurd h)
call-decides o Phase.Accept Outer.NetUnreachable = (λ h. cc, λ h. absurd h)
call-decides o Phase.Talk Outer.NetUnreachable = (λ h. cc, λ h. absurd h)
call-decides o (Phase.Seek n) Outer.NetUnreachable = outer-decides Outer.NetUnreachable o.lookup
call-decides o (Phase.Judging q) Outer.NetUnreachable = (λ h. cc, λ h. absurd h)
call-decides o (Phase.Reach g) Outer.NetUnreachable = outer-decides Outer.NetUnreachable (reached_as o g.facts.command)
call-decides o Phase.Asking Outer.NetUnreachable = (λ h. cc, λ h. absurd h)
call-decides o (Phase.Door g) Outer.NetUnreachable = (λ h. cc, λ h. absurd h)
call-decides o Phase.Relay Outer.NetUnreachable = (λ h. cc, λ h. absurd h)
call-decides o Phase.Datagrams Outer.NetUnreachable = (λ h. cc, λ h. absurd h)
call-decides o Phase.Ended Outer.Failed = (λ h. cc, λ h. absurd h)
call-decides o Phase.Closing Outer.Failed = (λ h. cc, λ h. absurd h)
call-decides o Phase.Accept Outer.Failed = (λ h. cc, λ h. absurd h)
call-decides o Phase.Talk Outer.Failed = (λ h. cc, λ h. absurd h)
call-decides o (Phase.Seek n) Outer.Failed = outer-decides Outer.Failed o.lookup
call-decides o (Phase.Judging q) Outer.Failed = (λ h. cc, λ h. absurd h)
call-decides o (Phase.Reach g) Outer.Failed = outer-decides Outer.Failed (reached_as o g.facts.command)
call-decides o Phase.Asking Outer.Failed = (λ h. cc, λ h. absurd h)
call-decides o (Phase.Door g) Outer.Failed = (λ h. cc, λ h. absurd h)
call-decides o Phase.Relay Outer.Failed = (λ h. cc, λ h. absurd h)
call-decides o Phase.Datagrams Outer.Failed = (λ h. cc, λ h. absurd h)

outer-fits-decides : (basis : Basis) (generation : ℕ) (config : Entries) (o : Outside) (ev : TurnEvent) (r : Record) (x : Option Record) → taken basis generation config.methods ev r ≡ x
    → Decides (outer_fits basis o ev.outer x) (OuterFits basis generation config o ev r)
outer-fits-decides basis generation config o ev r None e = (λ h. cc, λ h. let f = h.taken' in cc)
outer-fits-decides basis generation config o ev r (Some b) e = (
  λ h. record { behind = b; taken' = e; is = (call-decides o (phase basis b) ev.outer).0 h },
  λ h. let same : h.behind ≡ b = let f = h.taken' in cc in
      subst (λ (z : Record). outer_fits_in o ev.outer (phase basis z) ≡ true) same ((call-decides o (phase basis h.behind) ev.outer).1 h.is),
)

-- ---- failed calls

faults-decide : (o : Outside) (ev : TurnEvent) (can : Failing → Bool) → Decides (faults_are o ev can) (FaultsAre o ev can)
faults-decide o ev can = Decides-like (faults_are o ev can)
    (λ h. record { named = h.0.0.0.0; undone = h.0.0.0.1; could = h.0.0.1; first = h.0.1; unwritten = h.1 })
    (λ h. ((((h.named, h.undone), h.could), h.first), h.unwritten))
    (both (both (both (both (itself-decides (list_all (is_among o.faults) ev.failed)) (not-decides (list_any (did ev) o.faults)))
    (itself-decides (list_all can ev.failed))) (itself-decides (has_first ev.fault ev.failed)))
    (bool-decides ev.unwritten (list_any writes_link ev.failed)))

-- ---- ends

relay-decides : (p : Phase) (c : Bool) (P : Type 0) → Decides c P → Decides (not (is_relay p) || c) (p ≡ Phase.Relay → P)
relay-decides Phase.Ended c P d = (λ h e. cc, λ f. refl)
relay-decides Phase.Closing c P d = (λ h e. cc, λ f. refl)
relay-decides Phase.Accept c P d = (λ h e. cc, λ f. refl)
relay-decides Phase.Talk c P d = (λ h e. cc, λ f. refl)
relay-decides (Phase.Seek n) c P d = (λ h e. cc, λ f. refl)
relay-decides (Phase.Judging q) c P d = (λ h e. cc, λ f. refl)
relay-decides (Phase.Reach g) c P d = (λ h e. cc, λ f. refl)
relay-decides Phase.Asking c P d = (λ h e. cc, λ f. refl)
relay-decides (Phase.Door g) c P d = (λ h e. cc, λ f. refl)
relay-decides Phase.Relay c P d = (λ h e. d.0 h, λ f. d.1 (f refl))
relay-decides Phase.Datagrams c P d = (λ h e. cc, λ f. refl)

room-decides : (basis : Basis) (waiting : Basis → Record → ℕ) (left : Option Record) → Decides (has_room basis waiting left) (IfSome left (λ x. waiting basis x < pipe_size))
room-decides basis waiting None = (λ h. tt, λ h. refl)
room-decides basis waiting (Some x) = lt-decides (waiting basis x) pipe_size

meets-decides : (basis : Basis) (generation : ℕ) (config : Entries) (ev : TurnEvent) (r : Record) (left : Option Record) (reads : Record → Phase → Bool) (waiting : Basis → Record → ℕ) (x : Option Record)
    → taken basis generation config.methods (without_ends ev) r ≡ x → Decides (meets basis reads waiting x left) (Meets basis generation config ev r left reads waiting)
meets-decides basis generation config ev r left reads waiting None e = (λ h. cc, λ h. let f = h.taken' in cc)
meets-decides basis generation config ev r left reads waiting (Some b) e = Decides-like (meets basis reads waiting (Some b) left)
    (λ h. record { behind = b; taken' = e; read' = h.0; room = h.1 })
    (λ h. let same : h.behind ≡ b = let f = h.taken' in cc in
    subst (λ (z : Record). (reads z (phase basis z) ≡ true) × (phase basis z ≡ Phase.Relay → IfSome left (λ x. waiting basis x < pipe_size))) same (h.read', h.room))
    (both (itself-decides (reads b (phase basis b))) (relay-decides (phase basis b) (has_room basis waiting left) (IfSome left (λ x. waiting basis x < pipe_size)) (room-decides basis waiting left)))

comes-decides : (arrived there : List ℕ) (ended was : Bool) (part : List ℕ) (passes reads : Bool) (Passes Reads : Type 0) → Decides passes Passes → Decides reads Reads
    → Decides (comes_to_end arrived there ended was part passes reads) (ComesToEnd arrived there ended was part Passes Reads)
comes-decides arrived there ended was part passes reads Passes Reads d k = Decides-like (comes_to_end arrived there ended was part passes reads)
    (λ h. record { stands = h.0.0.0.0.0; unread = h.0.0.0.0.1; all = h.0.0.0.1; below = h.0.0.1; passes = h.0.1; reads = h.1 })
    (λ h. (((((h.stands, h.unread), h.all), h.below), h.passes), h.reads))
    (both (both (both (both (both (itself-decides ended) (not-decides was)) (bytes_eq-Decides there arrived)) (lt-decides (length part) quantum)) d) k)

same-when : (read comes : Bool) (Comes : Type 0) → Decides comes Comes → Decides (bool_eq read comes) (IsTrue read ↔ Comes)
same-when true comes Comes d = (λ h. (λ e. d.0 h, λ c. refl), λ h. d.1 (h.0 refl))
same-when false true Comes d = (λ h. cc, λ h. h.1 (d.0 refl))
same-when false false Comes d = (λ h. (λ e. cc, λ c. d.1 c), λ h. refl)

end-decides : (fault : Option Object) (read comes : Bool) (Comes : Type 0) → Decides comes Comes → Decides (end_fits fault read comes) (EndFits fault read Comes)
end-decides None read comes Comes d = same-when read comes Comes d
end-decides (Some x) read comes Comes d = under-decides read comes Comes d

-- ---- a turn

allows-decides : (s : Surroundings) (w : World) (generation : ℕ) (config : Entries) (o : Outside) (ev : TurnEvent) (r : Record) → Decides (allows s w generation config o ev r) (Allows s w generation config o ev r)
allows-decides s w generation config o ev r = Decides-like (allows s w generation config o ev r)
    (λ h. record { moment = h.0.0.0.0.0.0.0.0.0.0.0.0.0.0.0.0.0; stop' = h.0.0.0.0.0.0.0.0.0.0.0.0.0.0.0.0.1; ends = h.0.0.0.0.0.0.0.0.0.0.0.0.0.0.0.1; client = h.0.0.0.0.0.0.0.0.0.0.0.0.0.0.1; target = h.0.0.0.0.0.0.0.0.0.0.0.0.0.1; datagrams = h.0.0.0.0.0.0.0.0.0.0.0.0.1; peer = h.0.0.0.0.0.0.0.0.0.0.0.1; outer' = h.0.0.0.0.0.0.0.0.0.0.1; faults' = h.0.0.0.0.0.0.0.0.0.1; client_end = h.0.0.0.0.0.0.0.0.1; target_end = h.0.0.0.0.0.0.0.1; client_rests = h.0.0.0.0.0.0.1; target_rests = h.0.0.0.0.0.1; door_rests = h.0.0.0.0.1; port_rests = h.0.0.0.1; no_room = h.0.0.1; room_c = h.0.1; room_t = h.1 })
    (λ h. (((((((((((((((((h.moment, h.stop'), h.ends), h.client), h.target), h.datagrams), h.peer), h.outer'), h.faults'), h.client_end), h.target_end), h.client_rests), h.target_rests), h.door_rests), h.port_rests), h.no_room), h.room_c), h.room_t))
    (both (both (both (both (both (both (both (both (both (both (both (both (both (both (both (both (both (Decides-eqb ev.now s.now)
    (stop-decides ev.stop (last_mark w.marks)))
    (going-decides ev.next))
    (prefix-decides (r.c ++ ev.c) o.c))
    (prefix-decides (r.t ++ ev.t) o.t))
    (grams-decide (r.grams ++ ev.grams) o.grams))
    (peer-decides ev.came o.peer))
    (outer-fits-decides (basis_of w) generation config o ev r (taken (basis_of w) generation config.methods ev r) refl))
    (faults-decide o ev (can_fail_in (basis_of w) (taken (basis_of w) generation config.methods ev r) (behind_turn w ev))))
    (unless-decides ev.stop _ _ client-end))
    (unless-decides ev.stop _ _ target-end))
    (under-decides (holds Object.Client ev.idle) _ _ (both (bytes_eq-Decides (r.c ++ ev.c) o.c) (not-decides o.end_c))))
    (under-decides (holds Object.Target ev.idle) _ _ (both (bytes_eq-Decides (r.t ++ ev.t) o.t) (not-decides o.end_t))))
    (under-decides (holds Object.Door ev.idle) _ _ (none-decides o.peer)))
    (under-decides (holds Object.Port ev.idle) _ _ (same-grams-decide (r.grams ++ ev.grams) o.grams)))
    (Decides-by_and (λ x. holds x o.no_room) (λ x. IsTrue (holds x o.no_room)) (list_all (λ x. holds x o.no_room)) (λ x. itself-decides (holds x o.no_room)) refl (λ x xs. refl) ev.full))
    (under-decides (holds Object.Client o.no_room) _ _ (Decides-eqb ev.sent_c 0)))
    (under-decides (holds Object.Target o.no_room) _ _ (Decides-eqb ev.sent_t 0)))
  where
    left : Option Record
    left = behind_turn w ev

    client-end : Decides (client_end_fits (basis_of w) generation config o ev r left) (EndFits ev.fault ev.end_c (ComesToEnd o.c (r.c ++ ev.c) o.end_c r.end_c ev.c (is_among ev.failed (Object.Client, CallKind.Reading) ≡ false)
        (Meets (basis_of w) generation config ev r left (reads_client (basis_of w) ev.idle ev.full) waiting_for_target)))
    client-end = end-decides ev.fault ev.end_c _ _ (comes-decides o.c (r.c ++ ev.c) o.end_c r.end_c ev.c _ _ _ _ (not-decides (is_among ev.failed (Object.Client, CallKind.Reading)))
        (meets-decides (basis_of w) generation config ev r left (reads_client (basis_of w) ev.idle ev.full) waiting_for_target (taken (basis_of w) generation config.methods (without_ends ev) r) refl))

    target-end : Decides (target_end_fits (basis_of w) generation config o ev r left) (EndFits ev.fault ev.end_t (ComesToEnd o.t (r.t ++ ev.t) o.end_t r.end_t ev.t (is_among ev.failed (Object.Target, CallKind.Reading) ≡ false)
        (Meets (basis_of w) generation config ev r left reads_target waiting_for_client)))
    target-end = end-decides ev.fault ev.end_t _ _ (comes-decides o.t (r.t ++ ev.t) o.end_t r.end_t ev.t _ _ _ _ (not-decides (is_among ev.failed (Object.Target, CallKind.Reading)))
        (meets-decides (basis_of w) generation config ev r left reads_target waiting_for_client (taken (basis_of w) generation config.methods (without_ends ev) r) refl))

turn-sound : (s : Surroundings) (w : World) (worker a : ℕ) (ev : TurnEvent) (x : Option ℕ) (y : Option Outside) (z : Option Record) → slice_get w.seen worker ≡ x → numbered s.outsides a ≡ y → numbered w.records a ≡ z
    → ev.worker ≡ worker → ev.number ≡ a → allows_in s w ev x y z ≡ true → IsTurnOf s w worker a ev
turn-sound s w worker a ev None y z e1 e2 e3 e4 e5 h = cc
turn-sound s w worker a ev (Some generation) None z e1 e2 e3 e4 e5 h = cc
turn-sound s w worker a ev (Some generation) (Some o) None e1 e2 e3 e4 e5 h = cc
turn-sound s w worker a ev (Some generation) (Some o) (Some r) e1 e2 e3 e4 e5 h = by (numbered w.pubs generation) refl h
  where
    by : (k : Option Entries) → numbered w.pubs generation ≡ k → allows_by s w ev generation o r k ≡ true → IsTurnOf s w worker a ev
    by None e h = cc
    by (Some config) e h = record {
      worker' = e4;
      number = e5;
      generation = generation;
      saw = e1;
      config = config;
      published = e;
      outside = o;
      there = e2;
      begun = r;
      stood = e3;
      allowed = (allows-decides s w generation config o ev r).0 h;
    }

turn-complete : (s : Surroundings) (w : World) (worker a : ℕ) (ev : TurnEvent) → (t : IsTurnOf s w worker a ev) → allows_in s w ev (slice_get w.seen worker) (numbered s.outsides a) (numbered w.records a) ≡ true
turn-complete s w worker a ev t =
    (λ i. allows_in s w ev (t.saw i) (t.there i) (t.stood i))
    ∙ (ap (allows_by s w ev t.generation t.outside t.begun) t.published
    ∙ (allows-decides s w t.generation t.config t.outside ev t.begun).1 t.allowed)

turn-decides : (s : Surroundings) (w : World) (worker a : ℕ) (ev : TurnEvent) → Decides (is_turn s w worker a ev) (IsTurnOf s w worker a ev)
turn-decides s w worker a ev = Decides-like (is_turn s w worker a ev)
    (λ h. turn-sound s w worker a ev (slice_get w.seen worker) (numbered s.outsides a) (numbered w.records a) refl refl refl h.0.0 h.0.1 h.1)
    (λ t. ((t.worker', t.number), turn-complete s w worker a ev t))
    (both (both (Decides-eqb ev.worker worker) (Decides-eqb ev.number a)) (itself-decides (allows_in s w ev (slice_get w.seen worker) (numbered s.outsides a) (numbered w.records a))))

-- ---- the lines

event-decides : (s : Surroundings) (w : World) (line : ScriptLine) (e : Event) → Decides (is_event_of s w line e) (IsEventOf s w line e)
event-decides s w (ScriptLine.Publish k) (Event.Publish k') = Decides-like (entries_eq k k') (λ h. ap Event.Publish (sym h)) (λ h. cc) (entries-decides k k')
event-decides s w (ScriptLine.Publish k) (Event.See v g) = (λ h. cc, λ h. cc)
event-decides s w (ScriptLine.Publish k) (Event.Open v b p l m) = (λ h. cc, λ h. cc)
event-decides s w (ScriptLine.Publish k) (Event.Stop by) = (λ h. cc, λ h. cc)
event-decides s w (ScriptLine.Publish k) (Event.Turn ev) = (λ h. cc, λ h. cc)
event-decides s w (ScriptLine.See n) (Event.Publish k') = (λ h. cc, λ h. cc)
event-decides s w (ScriptLine.See n) (Event.See v g) = Decides-like ((n == v) && (g == length w.pubs)) (λ h i. Event.See (sym h.0 i) (h.1 i)) (λ h. (cc, cc)) (both (Decides-eqb n v) (Decides-eqb g (length w.pubs)))
event-decides s w (ScriptLine.See n) (Event.Open v b p l m) = (λ h. cc, λ h. cc)
event-decides s w (ScriptLine.See n) (Event.Stop by) = (λ h. cc, λ h. cc)
event-decides s w (ScriptLine.See n) (Event.Turn ev) = (λ h. cc, λ h. cc)
event-decides s w (ScriptLine.Open n a peer local) (Event.Publish k') = (λ h. cc, λ h. cc)
event-decides s w (ScriptLine.Open n a peer local) (Event.See v g) = (λ h. cc, λ h. cc)
event-decides s w (ScriptLine.Open n a peer local) (Event.Open v b p l m) = Decides-like ((n == v) && (a == b) && endpoint_eq peer p && endpoint_eq local l && (m == s.now)) (λ h i. Event.Open (sym h.0.0.0.0 i) (sym h.0.0.0.1 i) (sym h.0.0.1 i) (sym h.0.1 i) (h.1 i)) (λ h. ((((cc, cc), cc), cc), cc))
    (both (both (both (both (Decides-eqb n v) (Decides-eqb a b)) (endpoint-decides peer p)) (endpoint-decides local l)) (Decides-eqb m s.now))
event-decides s w (ScriptLine.Open n a peer local) (Event.Stop by) = (λ h. cc, λ h. cc)
event-decides s w (ScriptLine.Open n a peer local) (Event.Turn ev) = (λ h. cc, λ h. cc)
event-decides s w (ScriptLine.Turn n a) (Event.Publish k') = (λ h. cc, λ h. let e = h.1 in cc)
event-decides s w (ScriptLine.Turn n a) (Event.See v g) = (λ h. cc, λ h. let e = h.1 in cc)
event-decides s w (ScriptLine.Turn n a) (Event.Open v b p l m) = (λ h. cc, λ h. let e = h.1 in cc)
event-decides s w (ScriptLine.Turn n a) (Event.Stop by) = (λ h. cc, λ h. let e = h.1 in cc)
event-decides s w (ScriptLine.Turn n a) (Event.Turn ev) = Decides-like (is_turn s w n a ev) (λ h. (ev, refl, h)) (λ h. let same : h.0 ≡ ev = let e = h.1 in cc in subst (λ (z : TurnEvent). IsTurnOf s w n a z) same h.2) (turn-decides s w n a ev)
event-decides s w ScriptLine.Stop (Event.Publish k') = (λ h. cc, λ h. cc)
event-decides s w ScriptLine.Stop (Event.See v g) = (λ h. cc, λ h. cc)
event-decides s w ScriptLine.Stop (Event.Open v b p l m) = (λ h. cc, λ h. cc)
event-decides s w ScriptLine.Stop (Event.Stop StopBy.Control) = (λ h. refl, λ h. refl)
event-decides s w ScriptLine.Stop (Event.Stop StopBy.Log) = (λ h. cc, λ h. cc)
event-decides s w ScriptLine.Stop (Event.Stop StopBy.Sessions) = (λ h. cc, λ h. cc)
event-decides s w ScriptLine.Stop (Event.Turn ev) = (λ h. cc, λ h. cc)
event-decides s w (ScriptLine.Workers n) e = (λ h. cc, λ h. absurd h)
event-decides s w (ScriptLine.UsersAre us) e = (λ h. cc, λ h. absurd h)
event-decides s w (ScriptLine.Client a bs) e = (λ h. cc, λ h. absurd h)
event-decides s w (ScriptLine.Target a bs) e = (λ h. cc, λ h. absurd h)
event-decides s w (ScriptLine.ClientEnd a) e = (λ h. cc, λ h. absurd h)
event-decides s w (ScriptLine.TargetEnd a) e = (λ h. cc, λ h. absurd h)
event-decides s w (ScriptLine.Lookup a o) e = (λ h. cc, λ h. absurd h)
event-decides s w (ScriptLine.Dial a o) e = (λ h. cc, λ h. absurd h)
event-decides s w (ScriptLine.Door a o) e = (λ h. cc, λ h. absurd h)
event-decides s w (ScriptLine.Peer a p) e = (λ h. cc, λ h. absurd h)
event-decides s w (ScriptLine.Port a o) e = (λ h. cc, λ h. absurd h)
event-decides s w (ScriptLine.Datagram a p bs) e = (λ h. cc, λ h. absurd h)
event-decides s w (ScriptLine.Room a o n) e = (λ h. cc, λ h. absurd h)
event-decides s w (ScriptLine.Fault a o k) e = (λ h. cc, λ h. absurd h)
event-decides s w (ScriptLine.Now n) e = (λ h. cc, λ h. absurd h)

-- ---- the closing rounds

-- the events behind a turn of the rounds, by the world that it leaves
further : (s : Surroundings) (w : World) (n : ℕ) (ns : List ℕ) (still : Bool) (ev : TurnEvent) (es : List Event) (x : Option World) → step w (Event.Turn ev) ≡ x → IsTurnOf s w 1 n ev
    → ((new : World) → rounds (used_up s ev) (Some new) (next_in_round ns (still && is_still ev) (Some new)).0 (next_in_round ns (still && is_still ev) (Some new)).1 es ≡ true
    → Rounds (used_up s ev) new (next_in_round ns (still && is_still ev) (Some new)).0 (next_in_round ns (still && is_still ev) (Some new)).1 es)
    → rounds (used_up s ev) x (next_in_round ns (still && is_still ev) x).0 (next_in_round ns (still && is_still ev) x).1 es ≡ true → Rounds s w (n ∷ ns) still (Event.Turn ev ∷ es)
further s w n ns still ev es None e t go h = cc
further s w n ns still ev es (Some new) e t go h = Rounds.round t e (go new h)

rounds-sound : (es : List Event) (s : Surroundings) (w : World) (ns : List ℕ) (still : Bool) → rounds s (Some w) ns still es ≡ true → Rounds s w ns still es
rounds-sound [] s w [] still h = Rounds.over
rounds-sound [] s w (n ∷ ns) still h = cc
rounds-sound (e ∷ es) s w [] still h = cc
rounds-sound (Event.Turn ev ∷ es) s w (n ∷ ns) still h =
    let two = (both (turn-decides s w 1 n ev) (itself-decides (rounds (used_up s ev) (step w (Event.Turn ev)) (next_in_round ns (still && is_still ev) (step w (Event.Turn ev))).0 (next_in_round ns (still && is_still ev) (step w (Event.Turn ev))).1 es))).0 h in
    further s w n ns still ev es (step w (Event.Turn ev)) refl two.0
    (λ new k. rounds-sound es (used_up s ev) new (next_in_round ns (still && is_still ev) (Some new)).0 (next_in_round ns (still && is_still ev) (Some new)).1 k) two.1
rounds-sound (Event.Publish k ∷ es) s w (n ∷ ns) still h = cc
rounds-sound (Event.See v g ∷ es) s w (n ∷ ns) still h = cc
rounds-sound (Event.Open v b p l m ∷ es) s w (n ∷ ns) still h = cc
rounds-sound (Event.Stop by ∷ es) s w (n ∷ ns) still h = cc

rounds-complete : (s : Surroundings) (w : World) (ns : List ℕ) (still : Bool) (es : List Event) → Rounds s w ns still es → rounds s (Some w) ns still es ≡ true
rounds-complete s w [] still [] Rounds.over = refl
rounds-complete s w (n ∷ ns) still (Event.Turn ev ∷ es) (Rounds.round {new = new} t e r) =
    (both (turn-decides s w 1 n ev) (itself-decides (rounds (used_up s ev) (step w (Event.Turn ev)) (next_in_round ns (still && is_still ev) (step w (Event.Turn ev))).0 (next_in_round ns (still && is_still ev) (step w (Event.Turn ev))).1 es))).1 (
      t,
      ap (λ (x : Option World). rounds (used_up s ev) x (next_in_round ns (still && is_still ev) x).0 (next_in_round ns (still && is_still ev) x).1 es) e
          ∙ rounds-complete (used_up s ev) new (next_in_round ns (still && is_still ev) (Some new)).0 (next_in_round ns (still && is_still ev) (Some new)).1 es r,
    )
rounds-complete s w [] still (x ∷ es) r = elim r [ ]
rounds-complete s w (n ∷ ns) still [] r = elim r [ ]
rounds-complete s w (n ∷ ns) still (Event.Publish k ∷ es) r = elim r [ ]
rounds-complete s w (n ∷ ns) still (Event.See v g ∷ es) r = elim r [ ]
rounds-complete s w (n ∷ ns) still (Event.Open v b p l m ∷ es) r = elim r [ ]
rounds-complete s w (n ∷ ns) still (Event.Stop by ∷ es) r = elim r [ ]

closing-sound : (s : Surroundings) (w : World) (pubs : List Entries) (es : List Event) → w.pubs ≡ pubs → closing s w pubs es ≡ true → Closing s w es
closing-sound s w [] [] e h = Closing.nothing e
closing-sound s w [] (x ∷ es) e h = cc
closing-sound s w (k ∷ ks) [] e h = cc
closing-sound s w (k ∷ ks) (Event.See v g ∷ es) e h =
    let three = (both (both (Decides-eqb v 1) (Decides-eqb g (length w.pubs))) (itself-decides (rounds s (step w (Event.See 1 (length w.pubs))) (going_after (step w (Event.See 1 (length w.pubs)))) true es))).0 h in
    subst (λ (x : Event). Closing s w (x ∷ es)) (λ i. Event.See (sym three.0.0 i) (sym three.0.1 i)) (by (step w (Event.See 1 (length w.pubs))) refl three.1)
  where
    by : (x : Option World) → step w (Event.See 1 (length w.pubs)) ≡ x → rounds s x (going_after x) true es ≡ true → Closing s w (Event.See 1 (length w.pubs) ∷ es)
    by None f h = cc
    by (Some new) f h = Closing.closes (λ none. let some : k ∷ ks ≡ [] = sym e ∙ none in cc) f (rounds-sound es s new (going new) true h)
closing-sound s w (k ∷ ks) (Event.Publish x ∷ es) e h = cc
closing-sound s w (k ∷ ks) (Event.Open v b p l m ∷ es) e h = cc
closing-sound s w (k ∷ ks) (Event.Stop by ∷ es) e h = cc
closing-sound s w (k ∷ ks) (Event.Turn ev ∷ es) e h = cc

closing-complete : (s : Surroundings) (w : World) (pubs : List Entries) (es : List Event) → w.pubs ≡ pubs → Closing s w es → closing s w pubs es ≡ true
closing-complete s w [] [] e (Closing.nothing none) = refl
closing-complete s w (k ∷ ks) [] e (Closing.nothing none) = let f : k ∷ ks ≡ [] = sym e ∙ none in cc
closing-complete s w [] (x ∷ es) e (Closing.closes some f r) = absurd (some e)
closing-complete s w (k ∷ ks) (x ∷ es) e (Closing.closes {new = new} some f r) =
    (both (both (Decides-eqb 1 1) (Decides-eqb (length w.pubs) (length w.pubs))) (itself-decides (rounds s (step w (Event.See 1 (length w.pubs))) (going_after (step w (Event.See 1 (length w.pubs)))) true es))).1
    ((refl, refl), ap (λ (x : Option World). rounds s x (going_after x) true es) f ∙ rounds-complete s new (going new) true es r)

-- ---- the whole

-- events that are split into those of the lines and those of the closing rounds
pub record Split (s : Surroundings) (w : World) (lines : List ScriptLine) (events : List Event) : Type 0 where
  pub of_lines : List Event
  pub rounds : List Event
  pub is : events ≡ of_lines ++ rounds
  pub follows' : Follows s w lines of_lines rounds

-- a line with an event, by the world that the event leaves
stepped : (s : Surroundings) (w : World) (line : ScriptLine) (lines : List ScriptLine) (e : Event) (es : List Event) (x : Option World) → step w e ≡ x → is_silent w line ≡ false → IsEventOf (outside_after s line) w line e
    → ((new : World) → follows (surroundings_after (outside_after s line) e) (Some new) lines es ≡ true → Split (surroundings_after (outside_after s line) e) new lines es)
    → follows (surroundings_after (outside_after s line) e) x lines es ≡ true → Split s w (line ∷ lines) (e ∷ es)
stepped s w line lines e es None f loud is go h = cc
stepped s w line lines e es (Some new) f loud is go h =
    let rest = go new h in
    record { of_lines = e ∷ rest.of_lines; rounds = rest.rounds; is = ap (λ (z : List Event). e ∷ z) rest.is; follows' = Follows.happens loud is f rest.follows' }

with-event : (s : Surroundings) (w : World) (line : ScriptLine) (lines : List ScriptLine) (e : Event) (es : List Event) (b : Bool) → is_silent w line ≡ b
    → (follows (outside_after s line) (Some w) lines (e ∷ es) ≡ true → Split (outside_after s line) w lines (e ∷ es))
    → ((new : World) → follows (surroundings_after (outside_after s line) e) (Some new) lines es ≡ true → Split (surroundings_after (outside_after s line) e) new lines es)
    → elim b [ true ↦ follows (outside_after s line) (Some w) lines (e ∷ es) | false ↦ is_event_of (outside_after s line) w line e && follows (surroundings_after (outside_after s line) e) (step w e) lines es ] ≡ true
    → Split s w (line ∷ lines) (e ∷ es)
with-event s w line lines e es true f on go h =
    let rest = on h in
    record { of_lines = rest.of_lines; rounds = rest.rounds; is = rest.is; follows' = Follows.silent f rest.follows' }
with-event s w line lines e es false f on go h =
    let two = (both (event-decides (outside_after s line) w line e) (itself-decides (follows (surroundings_after (outside_after s line) e) (step w e) lines es))).0 h in
    stepped s w line lines e es (step w e) refl f two.0 go two.1

pub follows-sound : (lines : List ScriptLine) (s : Surroundings) (w : World) (events : List Event) → follows s (Some w) lines events ≡ true → Split s w lines events
follows-sound [] s w events h = record { of_lines = []; rounds = events; is = refl; follows' = Follows.ends (closing-sound s w w.pubs events refl h) }
follows-sound (line ∷ lines) s w [] h =
    let two = (both (itself-decides (is_silent w line)) (itself-decides (follows (outside_after s line) (Some w) lines []))).0 h in
    let rest = follows-sound lines (outside_after s line) w [] two.1 in
    record { of_lines = rest.of_lines; rounds = rest.rounds; is = rest.is; follows' = Follows.silent two.0 rest.follows' }
follows-sound (line ∷ lines) s w (e ∷ es) h =
    with-event s w line lines e es (is_silent w line) refl (λ k. follows-sound lines (outside_after s line) w (e ∷ es) k) (λ new k. follows-sound lines (surroundings_after (outside_after s line) e) new es k) h

silent-line : (s : Surroundings) (w : World) (line : ScriptLine) (lines : List ScriptLine) (events : List Event) → is_silent w line ≡ true → follows (outside_after s line) (Some w) lines events ≡ true
    → follows s (Some w) (line ∷ lines) events ≡ true
silent-line s w line lines [] silent h = (both (itself-decides (is_silent w line)) (itself-decides (follows (outside_after s line) (Some w) lines []))).1 (silent, h)
silent-line s w line lines (e ∷ es) silent h =
    ap (λ (b : Bool). elim b [ true ↦ follows (outside_after s line) (Some w) lines (e ∷ es) | false ↦ is_event_of (outside_after s line) w line e && follows (surroundings_after (outside_after s line) e) (step w e) lines es ]) silent ∙ h

pub follows-complete : (s : Surroundings) (w : World) (lines : List ScriptLine) (es ends : List Event) → Follows s w lines es ends → follows s (Some w) lines (es ++ ends) ≡ true
follows-complete s w [] [] ends (Follows.ends c) = closing-complete s w w.pubs ends refl c
follows-complete s w [] (e ∷ es) ends x = elim x [ ]
follows-complete s w (line ∷ lines) es ends (Follows.silent silent f) = silent-line s w line lines (es ++ ends) silent (follows-complete (outside_after s line) w lines es ends f)
follows-complete s w (line ∷ lines) (e ∷ es) ends (Follows.happens {new = new} loud is f rest) =
    ap (λ (b : Bool). elim b [ true ↦ follows (outside_after s line) (Some w) lines (e ∷ (es ++ ends)) | false ↦ is_event_of (outside_after s line) w line e && follows (surroundings_after (outside_after s line) e) (step w e) lines (es ++ ends) ]) loud
    ∙ (both (event-decides (outside_after s line) w line e) (itself-decides (follows (surroundings_after (outside_after s line) e) (step w e) lines (es ++ ends)))).1
    (is, ap (λ (x : Option World). follows (surroundings_after (outside_after s line) e) x lines (es ++ ends)) f ∙ follows-complete (surroundings_after (outside_after s line) e) new lines es ends rest)
