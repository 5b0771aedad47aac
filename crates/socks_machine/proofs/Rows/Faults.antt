-- Failed calls, a failed log and want of memory: where they may come, and how they end an association.
use Rattle.std.specs.Prelude.{◌≡◌, refl, true, false, Some, List, [], ◌∷◌, ◌++◌, codes, ℕ, is_some}
use Rattle.socks_machine.specs.declared.cause.StopBy.{StopBy}
use Rattle.socks_machine.specs.declared.world.Object.{Object}
use Rattle.socks_machine.specs.declared.world.Outer.{Outer}
use Rattle.socks_machine.specs.declared.world.NextMark.{NextMark}
use Rattle.socks_machine.specs.declared.world.Event.{Event}
use Rattle.socks_machine.proofs.Rows.Shared.{all_pass, quiet, told, at4, client_at, local_at, greeting, request, opened}
use Rattle.socks_machine.specs.Step.{run}

abbrev pub client_gone : List Event
client_gone =
    Event.Publish (all_pass)
    ∷ Event.See 1 1
    ∷ Event.Open 1 1 client_at local_at 0
    ∷ Event.Turn (record (quiet 1 1 0) { outer = Outer.Desk true; next = NextMark.Again })
    ∷ Event.Turn (record (quiet 1 1 0) { c = (0x05 ∷ 0x01 ∷ []); end_c = true; outer = Outer.Desk true; next = NextMark.Done })
    ∷ []

pub client_gone_text : told [] 1 5 client_gone ≡ (codes "client 1 -" ++ 10 ∷ []) ++ (codes "target 1 -" ++ 10 ∷ []) ++ (codes "end 1 clientgone at 2" ++ 10 ∷ [])
client_gone_text = refl

abbrev pub target_fault : List Event
target_fault =
    Event.Publish (all_pass)
    ∷ Event.See 1 1
    ∷ Event.Open 1 1 client_at local_at 0
    ∷ Event.Turn (record (quiet 1 1 0) { outer = Outer.Desk true; next = NextMark.Again })
    ∷ Event.Turn (record (quiet 1 1 0) { c = (0x05 ∷ 0x01 ∷ 0x00 ∷ 0x05 ∷ 0x01 ∷ 0x00 ∷ 0x01 ∷ 0xC6 ∷ 0x33 ∷ 0x64 ∷ 0x0A ∷ 0x00 ∷ 0x50 ∷ []); sent_c = 2; outer = Outer.Desk true; next = NextMark.Again })
    ∷ Event.Turn (record (quiet 1 1 0) { outer = Outer.Up (at4 0xC0000209 40000); sent_c = 10; next = NextMark.Again })
    ∷ Event.Turn (record (quiet 1 1 0) { fault = Some Object.Target; outer = Outer.Desk true; next = NextMark.Done })
    ∷ []

pub target_fault_text : told [] 1 7 target_fault ≡ (codes "client 1 050005000001c00002099c40" ++ 10 ∷ []) ++ (codes "target 1 -" ++ 10 ∷ []) ++ (codes "end 1 targetfault" ++ 10 ∷ [])
target_fault_text = refl

-- the log fails at a grant
abbrev pub log_failing : List Event
log_failing =
    Event.Publish (all_pass)
    ∷ Event.See 1 1
    ∷ Event.Open 1 1 client_at local_at 0
    ∷ Event.Open 1 2 client_at local_at 0
    ∷ Event.Turn (record (quiet 1 1 0) { outer = Outer.Desk true; next = NextMark.Again })
    ∷ Event.Turn (record (quiet 1 2 0) { outer = Outer.Desk true; next = NextMark.Again })
    ∷ Event.Turn (record (quiet 1 1 0) { c = (0x05 ∷ 0x01 ∷ 0x00 ∷ 0x05 ∷ 0x01 ∷ 0x00 ∷ 0x01 ∷ 0xC6 ∷ 0x33 ∷ 0x64 ∷ 0x0A ∷ 0x00 ∷ 0x50 ∷ []); sent_c = 12; outer = Outer.Desk false; next = NextMark.Again })
    ∷ Event.Turn (record (quiet 1 2 0) { stop = Some StopBy.Log; outer = Outer.Desk true; next = NextMark.Done })
    ∷ Event.Turn (record (quiet 1 1 0) { stop = Some StopBy.Log; outer = Outer.Desk true; next = NextMark.Done })
    ∷ []

pub log_failing_text : told [] 1 9 log_failing ≡ (codes "client 1 050005010001000000000000" ++ 10 ∷ []) ++ (codes "target 1 -" ++ 10 ∷ []) ++ (codes "end 1 logfault" ++ 10 ∷ []) ++ (codes "client 2 -" ++ 10 ∷ []) ++ (codes "target 2 -" ++ 10 ∷ []) ++ (codes "end 2 stopped log" ++ 10 ∷ [])
log_failing_text = refl

abbrev pub log_fault_at_grant : List Event
log_fault_at_grant =
    Event.Publish (all_pass)
    ∷ Event.See 1 1
    ∷ Event.Open 1 1 client_at local_at 0
    ∷ Event.Turn (record (quiet 1 1 0) { outer = Outer.Desk true; next = NextMark.Again })
    ∷ Event.Turn (record (quiet 1 1 0) { c = (0x05 ∷ 0x01 ∷ 0x00 ∷ 0x05 ∷ 0x01 ∷ 0x00 ∷ 0x01 ∷ 0xC6 ∷ 0x33 ∷ 0x64 ∷ 0x0A ∷ 0x00 ∷ 0x50 ∷ []); sent_c = 12; outer = Outer.Desk false; next = NextMark.Again })
    ∷ Event.Turn (record (quiet 1 1 0) { stop = Some StopBy.Log; outer = Outer.Desk true; next = NextMark.Done })
    ∷ []

pub log_fault_at_grant_text : told [] 1 6 log_fault_at_grant ≡ (codes "client 1 050005010001000000000000" ++ 10 ∷ []) ++ (codes "target 1 -" ++ 10 ∷ []) ++ (codes "end 1 logfault" ++ 10 ∷ [])
log_fault_at_grant_text = refl

-- want of memory before the lookup of a UDP request has no reply
abbrev pub memory_seek : List Event
memory_seek =
    Event.Publish (all_pass)
    ∷ Event.See 1 1
    ∷ Event.Open 1 1 client_at local_at 0
    ∷ Event.Turn (record (quiet 1 1 0) { outer = Outer.Desk true; next = NextMark.Again })
    ∷ Event.Turn (record (quiet 1 1 0) { c = (0x05 ∷ 0x01 ∷ 0x00 ∷ []); sent_c = 2; idle = (Object.Client ∷ []); next = NextMark.Wait })
    ∷ Event.Turn (record (quiet 1 1 0) { c = (0x05 ∷ 0x03 ∷ 0x00 ∷ 0x03 ∷ 0x01 ∷ 0x61 ∷ 0x00 ∷ 0x35 ∷ []); sent_c = 10; outer = Outer.Desk true; memory = true; next = NextMark.Done })
    ∷ []

pub memory_seek_is : is_some (run [] 256 1 memory_seek) ≡ false
memory_seek_is = refl

-- ..
abbrev pub memory_seek_silent : List Event
memory_seek_silent =
    Event.Publish (all_pass)
    ∷ Event.See 1 1
    ∷ Event.Open 1 1 client_at local_at 0
    ∷ Event.Turn (record (quiet 1 1 0) { outer = Outer.Desk true; next = NextMark.Again })
    ∷ Event.Turn (record (quiet 1 1 0) { c = (0x05 ∷ 0x01 ∷ 0x00 ∷ []); sent_c = 2; idle = (Object.Client ∷ []); next = NextMark.Wait })
    ∷ Event.Turn (record (quiet 1 1 0) { c = (0x05 ∷ 0x03 ∷ 0x00 ∷ 0x03 ∷ 0x01 ∷ 0x61 ∷ 0x00 ∷ 0x35 ∷ []); outer = Outer.Desk true; memory = true; next = NextMark.Done })
    ∷ []

pub memory_seek_silent_is : is_some (run [] 256 1 memory_seek_silent) ≡ true
memory_seek_silent_is = refl

-- a fault of the client where nothing is read: the open comes first
abbrev pub fault_in_accept : List Event
fault_in_accept =
    Event.Publish (all_pass)
    ∷ Event.See 1 1
    ∷ Event.Open 1 1 client_at local_at 0
    ∷ Event.Turn (record (quiet 1 1 0) { fault = Some Object.Client; next = NextMark.Done })
    ∷ []

pub fault_in_accept_is : is_some (run [] 256 1 fault_in_accept) ≡ false
fault_in_accept_is = refl

-- a failed write in Reach with no dial: the desk call is none of the phase
abbrev pub fault_in_reach : List Event
fault_in_reach =
    Event.Publish (all_pass)
    ∷ Event.See 1 1
    ∷ Event.Open 1 1 client_at local_at 0
    ∷ Event.Turn (record (quiet 1 1 0) { outer = Outer.Desk true; next = NextMark.Again })
    ∷ Event.Turn (record (quiet 1 1 0) { c = (0x05 ∷ 0x01 ∷ 0x00 ∷ 0x05 ∷ 0x01 ∷ 0x00 ∷ 0x01 ∷ 0xC6 ∷ 0x33 ∷ 0x64 ∷ 0x0A ∷ 0x00 ∷ 0x50 ∷ []); sent_c = 2; outer = Outer.Desk true; next = NextMark.Again })
    ∷ Event.Turn (record (quiet 1 1 0) { fault = Some Object.Client; outer = Outer.Desk true; next = NextMark.Done })
    ∷ []

pub fault_in_reach_is : is_some (run [] 256 1 fault_in_reach) ≡ false
fault_in_reach_is = refl

-- the pending reply can not be written, before the dial
abbrev pub fault_in_reach2 : List Event
fault_in_reach2 =
    Event.Publish (all_pass)
    ∷ Event.See 1 1
    ∷ Event.Open 1 1 client_at local_at 0
    ∷ Event.Turn (record (quiet 1 1 0) { outer = Outer.Desk true; next = NextMark.Again })
    ∷ Event.Turn (record (quiet 1 1 0) { c = (0x05 ∷ 0x01 ∷ 0x00 ∷ 0x05 ∷ 0x01 ∷ 0x00 ∷ 0x01 ∷ 0xC6 ∷ 0x33 ∷ 0x64 ∷ 0x0A ∷ 0x00 ∷ 0x50 ∷ []); sent_c = 1; full = (Object.Client ∷ []); outer = Outer.Desk true; next = NextMark.Again })
    ∷ Event.Turn (record (quiet 1 1 0) { fault = Some Object.Client; unwritten = true; outer = Outer.Desk true; next = NextMark.Done })
    ∷ []

pub fault_in_reach2_is : is_some (run [] 256 1 fault_in_reach2) ≡ false
fault_in_reach2_is = refl

-- ..
abbrev pub fault_in_reach3 : List Event
fault_in_reach3 =
    Event.Publish (all_pass)
    ∷ Event.See 1 1
    ∷ Event.Open 1 1 client_at local_at 0
    ∷ Event.Turn (record (quiet 1 1 0) { outer = Outer.Desk true; next = NextMark.Again })
    ∷ Event.Turn (record (quiet 1 1 0) { c = (0x05 ∷ 0x01 ∷ 0x00 ∷ 0x05 ∷ 0x01 ∷ 0x00 ∷ 0x01 ∷ 0xC6 ∷ 0x33 ∷ 0x64 ∷ 0x0A ∷ 0x00 ∷ 0x50 ∷ []); sent_c = 1; full = (Object.Client ∷ []); outer = Outer.Desk true; next = NextMark.Again })
    ∷ Event.Turn (record (quiet 1 1 0) { fault = Some Object.Client; unwritten = true; next = NextMark.Again })
    ∷ []

pub fault_in_reach3_is : is_some (run [] 256 1 fault_in_reach3) ≡ false
fault_in_reach3_is = refl

-- .. and as an unfinished turn neither: the dial comes first
abbrev pub fault_in_reach_going : List Event
fault_in_reach_going =
    Event.Publish (all_pass)
    ∷ Event.See 1 1
    ∷ Event.Open 1 1 client_at local_at 0
    ∷ Event.Turn (record (quiet 1 1 0) { outer = Outer.Desk true; next = NextMark.Again })
    ∷ Event.Turn (record (quiet 1 1 0) { c = (0x05 ∷ 0x01 ∷ 0x00 ∷ 0x05 ∷ 0x01 ∷ 0x00 ∷ 0x01 ∷ 0xC6 ∷ 0x33 ∷ 0x64 ∷ 0x0A ∷ 0x00 ∷ 0x50 ∷ []); sent_c = 1; full = (Object.Client ∷ []); outer = Outer.Desk true; next = NextMark.Again })
    ∷ Event.Turn (record (quiet 1 1 0) { fault = Some Object.Client; unwritten = true; next = NextMark.Going })
    ∷ []

pub fault_in_reach_going_is : is_some (run [] 256 1 fault_in_reach_going) ≡ false
fault_in_reach_going_is = refl

-- a failed write and the grant
abbrev pub fault_then_grant : List Event
fault_then_grant =
    Event.Publish (all_pass)
    ∷ Event.See 1 1
    ∷ Event.Open 1 1 client_at local_at 0
    ∷ Event.Turn (record (quiet 1 1 0) { outer = Outer.Desk true; next = NextMark.Again })
    ∷ Event.Turn (record (quiet 1 1 0) { c = (0x05 ∷ 0x01 ∷ 0x00 ∷ 0x05 ∷ 0x01 ∷ 0x00 ∷ 0x01 ∷ 0xC6 ∷ 0x33 ∷ 0x64 ∷ 0x0A ∷ 0x00 ∷ 0x50 ∷ []); fault = Some Object.Client; unwritten = true; outer = Outer.Desk true; next = NextMark.Again })
    ∷ []

pub fault_then_grant_is : is_some (run [] 256 1 fault_then_grant) ≡ true
fault_then_grant_is = refl

-- ..
abbrev pub fault_unopened_twice : List Event
fault_unopened_twice =
    Event.Publish (all_pass)
    ∷ Event.See 1 1
    ∷ Event.Open 1 1 client_at local_at 0
    ∷ Event.Turn (record (quiet 1 1 0) { fault = Some Object.Client; unwritten = true; next = NextMark.Again })
    ∷ []

pub fault_unopened_twice_is : is_some (run [] 256 1 fault_unopened_twice) ≡ false
fault_unopened_twice_is = refl

-- a write that failed although nothing is pending
abbrev pub unwritten_nothing : List Event
unwritten_nothing =
    Event.Publish (all_pass)
    ∷ Event.See 1 1
    ∷ Event.Open 1 1 client_at local_at 0
    ∷ Event.Turn (record (quiet 1 1 0) { outer = Outer.Desk true; next = NextMark.Again })
    ∷ Event.Turn (record (quiet 1 1 0) { fault = Some Object.Client; unwritten = true; outer = Outer.Desk true; next = NextMark.Done })
    ∷ []

pub unwritten_nothing_is : is_some (run [] 256 1 unwritten_nothing) ≡ false
unwritten_nothing_is = refl

-- ---- where a call may fail

abbrev request4 : List ℕ
request4 = 0x04 ∷ 0x01 ∷ 0x00 ∷ 0x50 ∷ 0xC6 ∷ 0x33 ∷ 0x64 ∷ 0x0A ∷ 0x00 ∷ []

-- behind the grant of SOCKS 4 nothing is read, pending or shut, so that nothing fails
fails_behind_grant4 : is_some (run [] 256 1 (opened ++ Event.Turn (record (quiet 1 1 0) { c = request4; outer = Outer.Desk true; fault = Some Object.Client; next = NextMark.Again }) ∷ [])) ≡ false
fails_behind_grant4 = refl

-- behind one of SOCKS 5 the method is pending
fails_behind_grant5 : is_some (run [] 256 1 (opened ++ Event.Turn (record (quiet 1 1 0) { c = greeting ++ request; outer = Outer.Desk true; fault = Some Object.Client; unwritten = true; next = NextMark.Again }) ∷ [])) ≡ true
fails_behind_grant5 = refl

-- a read of a client that talks
fails_in_talk : is_some (run [] 256 1 (opened ++ Event.Turn (record (quiet 1 1 0) { fault = Some Object.Client; outer = Outer.Desk true; next = NextMark.Done }) ∷ [])) ≡ true
fails_in_talk = refl

-- no write fails where nothing is pending
unwritten_in_talk : is_some (run [] 256 1 (opened ++ Event.Turn (record (quiet 1 1 0) { fault = Some Object.Client; unwritten = true; outer = Outer.Desk true; next = NextMark.Done }) ∷ [])) ≡ false
unwritten_in_talk = refl
