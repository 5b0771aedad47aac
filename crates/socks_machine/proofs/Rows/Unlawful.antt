-- Unlawful events, one for each rule of the step: each stands behind events that are lawful, most beside the lawful
-- one that differs from it in one place.
use Rattle.std.specs.Prelude.{ℕ, ◌≡◌, refl, Bool, true, Option, Some, None, List, [], ◌∷◌, ◌++◌, is_some}
use Rattle.socks_machine.specs.declared.cause.StopBy.{StopBy}
use Rattle.socks_machine.specs.declared.world.Object.{Object}
use Rattle.socks_machine.specs.declared.world.Outer.{Outer}
use Rattle.socks_machine.specs.declared.world.NextMark.{NextMark}
use Rattle.socks_machine.specs.declared.world.Event.{Event}
use Rattle.socks_machine.specs.declared.world.World.{World}
use Rattle.socks_machine.specs.Step.{run}
use Rattle.socks_machine.proofs.Rows.Shared.{all_pass, none_passes, blocks_clients, quiet, client_at, local_at, at4, opened, greeting, request}

-- the world behind these events and one more, with one worker
abbrev behind : List Event → Event → Option World
behind es e = run [] 256 1 (es ++ e ∷ [])

abbrev is_lawful : List Event → Event → Bool
is_lawful es e = is_some (behind es e)

-- ---- who sees and opens

abbrev published : List Event
published = Event.Publish all_pass ∷ Event.Publish all_pass ∷ []

sees_first : is_lawful published (Event.See 1 1) ≡ true
sees_first = refl

-- nobody sees a generation that is not published yet
sees_above : behind published (Event.See 1 3) ≡ None
sees_above = refl

-- no generation is 0
sees_none : behind published (Event.See 1 0) ≡ None
sees_none = refl

-- what was seen once is not unseen
sees_below : behind (published ++ Event.See 1 2 ∷ []) (Event.See 1 1) ≡ None
sees_below = refl

sees_again : is_lawful (published ++ Event.See 1 2 ∷ []) (Event.See 1 2) ≡ true
sees_again = refl

-- a worker without a place sees nothing
no_worker_sees : behind published (Event.See 2 1) ≡ None
no_worker_sees = refl

-- .. and opens nothing
no_worker_opens : behind published (Event.Open 2 1 client_at local_at 0) ≡ None
no_worker_opens = refl

-- associations are numbered in order, from 1
opens_second : behind published (Event.Open 1 2 client_at local_at 0) ≡ None
opens_second = refl

opens_first : is_lawful published (Event.Open 1 1 client_at local_at 0) ≡ true
opens_first = refl

-- ---- who makes a turn

-- no turn before its worker has seen a generation
turns_unseen : behind (Event.Publish all_pass ∷ Event.Open 1 1 client_at local_at 0 ∷ []) (Event.Turn (record (quiet 1 1 0) { outer = Outer.Desk true; next = NextMark.Again })) ≡ None
turns_unseen = refl

turns_seen : is_lawful (Event.Publish all_pass ∷ Event.Open 1 1 client_at local_at 0 ∷ Event.See 1 1 ∷ []) (Event.Turn (record (quiet 1 1 0) { outer = Outer.Desk true; next = NextMark.Again })) ≡ true
turns_seen = refl

abbrev blocked : List Event
blocked = Event.Publish blocks_clients ∷ Event.See 1 1 ∷ Event.Open 1 1 client_at local_at 0 ∷ []

ends_blocked : is_lawful blocked (Event.Turn (record (quiet 1 1 0) { outer = Outer.Desk true; next = NextMark.Done })) ≡ true
ends_blocked = refl

-- no turn on an association that is done
turns_ended : behind (blocked ++ Event.Turn (record (quiet 1 1 0) { outer = Outer.Desk true; next = NextMark.Done }) ∷ []) (Event.Turn (quiet 1 1 0)) ≡ None
turns_ended = refl

-- no turn of an association behind one that has not ended
turns_behind_going : behind (opened ++ Event.Turn (record (quiet 1 1 0) { c = greeting }) ∷ []) (Event.Turn (quiet 1 1 0)) ≡ None
turns_behind_going = refl

goes_on : is_lawful opened (Event.Turn (record (quiet 1 1 0) { c = greeting })) ≡ true
goes_on = refl

-- ---- what a phase reads

abbrev granted : List Event
granted = opened ++ Event.Turn (record (quiet 1 1 0) { c = greeting ++ request; sent_c = 2; outer = Outer.Desk true; next = NextMark.Again }) ∷ []

abbrev dialled : List Event
dialled = granted ++ Event.Turn (record (quiet 1 1 0) { outer = Outer.Up (at4 0xC0000209 40000); sent_c = 10; next = NextMark.Again }) ∷ []

dials : is_lawful granted (Event.Turn (record (quiet 1 1 0) { outer = Outer.Up (at4 0xC0000209 40000); sent_c = 10; next = NextMark.Again })) ≡ true
dials = refl

-- the client is not read while the way is dialled
reads_in_reach : behind granted (Event.Turn (record (quiet 1 1 0) { c = 0x61 ∷ []; outer = Outer.Up (at4 0xC0000209 40000); sent_c = 10; next = NextMark.Again })) ≡ None
reads_in_reach = refl

-- there is no target to read while the client talks
reads_target_in_talk : behind opened (Event.Turn (record (quiet 1 1 0) { t = 0x61 ∷ []; idle = Object.Client ∷ []; next = NextMark.Wait })) ≡ None
reads_target_in_talk = refl

-- .. and none that fails
fails_at_target_in_talk : behind opened (Event.Turn (record (quiet 1 1 0) { fault = Some Object.Target; outer = Outer.Desk true; next = NextMark.Done })) ≡ None
fails_at_target_in_talk = refl

-- ---- the outer call

-- the desk lets an association in, and no dial does
dials_at_accept : behind (Event.Publish all_pass ∷ Event.See 1 1 ∷ Event.Open 1 1 client_at local_at 0 ∷ []) (Event.Turn (record (quiet 1 1 0) { outer = Outer.Up (at4 0xC0000209 40000); next = NextMark.Again })) ≡ None
dials_at_accept = refl

-- no dial without a grant
dials_ungranted : behind opened (Event.Turn (record (quiet 1 1 0) { c = greeting; sent_c = 2; outer = Outer.Up (at4 0xC0000209 40000); next = NextMark.Again })) ≡ None
dials_ungranted = refl

grants : is_lawful opened (Event.Turn (record (quiet 1 1 0) { c = greeting ++ request; outer = Outer.Desk true; next = NextMark.Again })) ≡ true
grants = refl

-- no dial in the turn of the grant
dials_with_grant : behind opened (Event.Turn (record (quiet 1 1 0) { c = greeting ++ request; outer = Outer.Up (at4 0xC0000209 40000); next = NextMark.Again })) ≡ None
dials_with_grant = refl

abbrev closed_net : List Event
closed_net = Event.Publish none_passes ∷ Event.See 1 1 ∷ Event.Open 1 1 client_at local_at 0 ∷ Event.Turn (record (quiet 1 1 0) { outer = Outer.Desk true; next = NextMark.Again }) ∷ []

-- a turn makes one call: one that was denied closes in a later turn
closes_with_grant : behind closed_net (Event.Turn (record (quiet 1 1 0) { c = greeting ++ request; sent_c = 12; outer = Outer.Desk true; next = NextMark.Done })) ≡ None
closes_with_grant = refl

is_denied : is_lawful closed_net (Event.Turn (record (quiet 1 1 0) { c = greeting ++ request; sent_c = 12; outer = Outer.Desk true; next = NextMark.Again })) ≡ true
is_denied = refl

-- nothing is sent before a call that is due
sends_before_grant : behind opened (Event.Turn (record (quiet 1 1 0) { c = greeting ++ request; sent_c = 2 })) ≡ None
sends_before_grant = refl

sends_behind_grant : is_lawful opened (Event.Turn (record (quiet 1 1 0) { c = greeting ++ request; sent_c = 2; outer = Outer.Desk true })) ≡ true
sends_behind_grant = refl

-- ---- what is sent and shut

answers : is_lawful opened (Event.Turn (record (quiet 1 1 0) { c = greeting; sent_c = 2; idle = Object.Client ∷ []; next = NextMark.Wait })) ≡ true
answers = refl

-- no more is sent than is owed
sends_too_much : behind opened (Event.Turn (record (quiet 1 1 0) { c = greeting; sent_c = 3; idle = Object.Client ∷ []; next = NextMark.Wait })) ≡ None
sends_too_much = refl

shuts : is_lawful dialled (Event.Turn (record (quiet 1 1 0) { t = 0x61 ∷ []; end_t = true; sent_c = 1; shut_c = true; idle = Object.Client ∷ []; next = NextMark.Wait })) ≡ true
shuts = refl

-- no side is shut while bytes wait for it
shuts_with_waiting : behind dialled (Event.Turn (record (quiet 1 1 0) { t = 0x61 ∷ []; end_t = true; shut_c = true; idle = Object.Client ∷ []; full = Object.Client ∷ []; next = NextMark.Wait })) ≡ None
shuts_with_waiting = refl

-- no side is shut before the other has ended
shuts_before_end : behind dialled (Event.Turn (record (quiet 1 1 0) { t = 0x61 ∷ []; sent_c = 1; shut_c = true; idle = Object.Client ∷ Object.Target ∷ []; next = NextMark.Wait })) ≡ None
shuts_before_end = refl

-- ---- the close and the answer

-- a request for a command that there is none of (RFC 1928, section 4)
abbrev bad_request : List ℕ
bad_request = 5 ∷ 9 ∷ 0 ∷ 1 ∷ 0xC6 ∷ 0x33 ∷ 0x64 ∷ 0x0A ∷ 0 ∷ 0x50 ∷ []

refuses : is_lawful opened (Event.Turn (record (quiet 1 1 0) { c = greeting ++ bad_request; sent_c = 12; outer = Outer.Desk true; next = NextMark.Done })) ≡ true
refuses = refl

-- no close while the refusal is unsent
closes_unsent : behind opened (Event.Turn (record (quiet 1 1 0) { c = greeting ++ bad_request; sent_c = 2; full = Object.Client ∷ []; outer = Outer.Desk true; next = NextMark.Done })) ≡ None
closes_unsent = refl

-- no close without a cause
closes_uncaused : behind opened (Event.Turn (record (quiet 1 1 0) { idle = Object.Client ∷ []; outer = Outer.Desk true; next = NextMark.Done })) ≡ None
closes_uncaused = refl

-- no end without the close
ends_unclosed : behind opened (Event.Turn (record (quiet 1 1 0) { c = greeting ++ bad_request; sent_c = 12; next = NextMark.Done })) ≡ None
ends_unclosed = refl

-- no wait before the client has answered that nothing is there
waits_unasked : behind opened (Event.Turn (record (quiet 1 1 0) { c = greeting; sent_c = 2; next = NextMark.Wait })) ≡ None
waits_unasked = refl

-- no turn goes on again without a call or a quantum
again_for_nothing : behind opened (Event.Turn (record (quiet 1 1 0) { c = greeting; sent_c = 2; idle = Object.Client ∷ []; next = NextMark.Again })) ≡ None
again_for_nothing = refl

-- ---- stops

stops : is_lawful (opened ++ Event.Stop StopBy.Control ∷ []) (Event.Turn (record (quiet 1 1 0) { stop = Some StopBy.Control; outer = Outer.Desk true; next = NextMark.Done })) ≡ true
stops = refl

-- no turn stops by a mark that is not set
stops_unset : behind opened (Event.Turn (record (quiet 1 1 0) { stop = Some StopBy.Control; outer = Outer.Desk true; next = NextMark.Done })) ≡ None
stops_unset = refl

-- a turn that stops takes nothing
takes_at_stop : behind (opened ++ Event.Stop StopBy.Control ∷ []) (Event.Turn (record (quiet 1 1 0) { stop = Some StopBy.Control; c = greeting; outer = Outer.Desk true; next = NextMark.Done })) ≡ None
takes_at_stop = refl
