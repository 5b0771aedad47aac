-- Moments: since when an association is idle, and when its time is over.
use Rattle.std.specs.Prelude.{◌≡◌, refl, true, false, Some, List, [], ◌∷◌, ◌++◌, codes, is_some}
use Rattle.conf_types.specs.declared.entries.Entries.{Entries}
use Rattle.socks_machine.specs.declared.world.Object.{Object}
use Rattle.socks_machine.specs.declared.world.Outer.{Outer}
use Rattle.socks_machine.specs.declared.world.NextMark.{NextMark}
use Rattle.socks_machine.specs.declared.world.Event.{Event}
use Rattle.socks_machine.proofs.Rows.Shared.{all_pass, quiet, told, logged, at4, client_at, local_at, to_one_net}
use Rattle.socks_machine.specs.Step.{run}

abbrev pub short_negotiation : Entries
short_negotiation = record all_pass { negotiate = 5 }

abbrev pub timed_out : List Event
timed_out =
    Event.Publish (short_negotiation)
    ∷ Event.See 1 1
    ∷ Event.Open 1 1 client_at local_at 100
    ∷ Event.Turn (record (quiet 1 1 100) { outer = Outer.Desk true; next = NextMark.Again })
    ∷ Event.Turn (record (quiet 1 1 104) { idle = (Object.Client ∷ []); next = NextMark.Wait })
    ∷ Event.Turn (record (quiet 1 1 105) { idle = (Object.Client ∷ []); outer = Outer.Desk true; next = NextMark.Done })
    ∷ []

pub timed_out_text : told [] 1 4 timed_out ≡ (codes "turn 1 1 gen 1 took 0 0 sent 0 0 wait" ++ 10 ∷ []) ++ (codes "turn 1 1 gen 1 took 0 0 sent 0 0 done timedout since 100 now 105 limit 5" ++ 10 ∷ []) ++ (codes "client 1 -" ++ 10 ∷ []) ++ (codes "target 1 -" ++ 10 ∷ []) ++ (codes "end 1 timedout since 100 now 105 limit 5" ++ 10 ∷ [])
timed_out_text = refl

pub timed_out_log : logged [] 1 timed_out ≡ Some ((codes "1 open 1 gen 1 client 1 pass from 10.0.0.5:5000 to 127.0.0.1:1080" ++ 10 ∷ []) ++ (codes "2 close 1 timedout since 100 now 105 limit 5 took 0 0 sent 0 0" ++ 10 ∷ []))
timed_out_log = refl

-- a wait is not lawful once the time is over
abbrev pub no_wait_when_late : List Event
no_wait_when_late =
    Event.Publish (short_negotiation)
    ∷ Event.See 1 1
    ∷ Event.Open 1 1 client_at local_at 100
    ∷ Event.Turn (record (quiet 1 1 100) { outer = Outer.Desk true; next = NextMark.Again })
    ∷ Event.Turn (record (quiet 1 1 105) { idle = (Object.Client ∷ []); next = NextMark.Wait })
    ∷ []

pub no_wait_when_late_text : told [] 1 4 no_wait_when_late ≡ []
no_wait_when_late_text = refl

-- the time is over while a refusal can not be written
abbrev pub late_in_closing : List Event
late_in_closing =
    Event.Publish (record to_one_net { negotiate = 5 })
    ∷ Event.See 1 1
    ∷ Event.Open 1 1 client_at local_at 100
    ∷ Event.Turn (record (quiet 1 1 100) { outer = Outer.Desk true; next = NextMark.Again })
    ∷ Event.Turn (record (quiet 1 1 100) { c = (0x05 ∷ 0x01 ∷ 0x00 ∷ 0x05 ∷ 0x01 ∷ 0x00 ∷ 0x01 ∷ 0xC6 ∷ 0x33 ∷ 0x64 ∷ 0x0A ∷ 0x00 ∷ 0x50 ∷ []); full = (Object.Client ∷ []); outer = Outer.Desk true; next = NextMark.Again })
    ∷ Event.Turn (record (quiet 1 1 105) { full = (Object.Client ∷ []); outer = Outer.Desk true; next = NextMark.Done })
    ∷ []

pub late_in_closing_text : told [] 1 6 late_in_closing ≡ (codes "client 1 -" ++ 10 ∷ []) ++ (codes "target 1 -" ++ 10 ∷ []) ++ (codes "end 1 denied gen 1 client 1 socks none" ++ 10 ∷ [])
late_in_closing_text = refl

abbrev pub idle_relay : List Event
idle_relay =
    Event.Publish (record all_pass { io = 10 })
    ∷ Event.See 1 1
    ∷ Event.Open 1 1 client_at local_at 90
    ∷ Event.Turn (record (quiet 1 1 90) { outer = Outer.Desk true; next = NextMark.Again })
    ∷ Event.Turn (record (quiet 1 1 95) { c = (0x05 ∷ 0x01 ∷ 0x00 ∷ 0x05 ∷ 0x01 ∷ 0x00 ∷ 0x01 ∷ 0xC6 ∷ 0x33 ∷ 0x64 ∷ 0x0A ∷ 0x00 ∷ 0x50 ∷ []); sent_c = 2; outer = Outer.Desk true; next = NextMark.Again })
    ∷ Event.Turn (record (quiet 1 1 100) { outer = Outer.Up (at4 0xC0000209 40000); sent_c = 10; next = NextMark.Again })
    ∷ Event.Turn (record (quiet 1 1 109) { idle = (Object.Client ∷ Object.Target ∷ []); next = NextMark.Wait })
    ∷ Event.Turn (record (quiet 1 1 110) { idle = (Object.Client ∷ Object.Target ∷ []); outer = Outer.Desk true; next = NextMark.Done })
    ∷ []

pub idle_relay_text : told [] 1 6 idle_relay ≡ (codes "turn 1 1 gen 1 took 0 0 sent 0 0 wait" ++ 10 ∷ []) ++ (codes "turn 1 1 gen 1 took 0 0 sent 0 0 done timedout since 100 now 110 limit 10" ++ 10 ∷ []) ++ (codes "client 1 050005000001c00002099c40" ++ 10 ∷ []) ++ (codes "target 1 -" ++ 10 ∷ []) ++ (codes "end 1 timedout since 100 now 110 limit 10" ++ 10 ∷ [])
idle_relay_text = refl

-- a late turn that moves
abbrev pub late_relay_moves : List Event
late_relay_moves =
    Event.Publish (record all_pass { io = 10 })
    ∷ Event.See 1 1
    ∷ Event.Open 1 1 client_at local_at 0
    ∷ Event.Turn (record (quiet 1 1 0) { outer = Outer.Desk true; next = NextMark.Again })
    ∷ Event.Turn (record (quiet 1 1 0) { c = (0x05 ∷ 0x01 ∷ 0x00 ∷ 0x05 ∷ 0x01 ∷ 0x00 ∷ 0x01 ∷ 0xC6 ∷ 0x33 ∷ 0x64 ∷ 0x0A ∷ 0x00 ∷ 0x50 ∷ []); sent_c = 2; outer = Outer.Desk true; next = NextMark.Again })
    ∷ Event.Turn (record (quiet 1 1 0) { outer = Outer.Up (at4 0xC0000209 40000); sent_c = 10; next = NextMark.Again })
    ∷ Event.Turn (record (quiet 1 1 20) { c = (0x61 ∷ []); sent_t = 1; idle = (Object.Client ∷ Object.Target ∷ []); next = NextMark.Wait })
    ∷ []

pub late_relay_moves_is : is_some (run [] 256 1 late_relay_moves) ≡ true
late_relay_moves_is = refl

-- a late turn in Talk that moves
abbrev pub late_talk_moves : List Event
late_talk_moves =
    Event.Publish (record all_pass { negotiate = 5 })
    ∷ Event.See 1 1
    ∷ Event.Open 1 1 client_at local_at 0
    ∷ Event.Turn (record (quiet 1 1 0) { outer = Outer.Desk true; next = NextMark.Again })
    ∷ Event.Turn (record (quiet 1 1 20) { c = (0x05 ∷ 0x01 ∷ 0x00 ∷ []); sent_c = 2; idle = (Object.Client ∷ []); next = NextMark.Wait })
    ∷ []

pub late_talk_moves_is : is_some (run [] 256 1 late_talk_moves) ≡ false
late_talk_moves_is = refl

-- a late turn with an outer call
abbrev pub late_talk_again : List Event
late_talk_again =
    Event.Publish (record all_pass { negotiate = 5 })
    ∷ Event.See 1 1
    ∷ Event.Open 1 1 client_at local_at 0
    ∷ Event.Turn (record (quiet 1 1 0) { outer = Outer.Desk true; next = NextMark.Again })
    ∷ Event.Turn (record (quiet 1 1 20) { c = (0x05 ∷ 0x01 ∷ 0x00 ∷ 0x05 ∷ 0x01 ∷ 0x00 ∷ 0x01 ∷ 0xC6 ∷ 0x33 ∷ 0x64 ∷ 0x0A ∷ 0x00 ∷ 0x50 ∷ []); sent_c = 2; outer = Outer.Desk true; next = NextMark.Again })
    ∷ []

pub late_talk_again_is : is_some (run [] 256 1 late_talk_again) ≡ true
late_talk_again_is = refl

-- a moment below since
abbrev pub now_below : List Event
now_below =
    Event.Publish (record all_pass { negotiate = 5 })
    ∷ Event.See 1 1
    ∷ Event.Open 1 1 client_at local_at 100
    ∷ Event.Turn (record (quiet 1 1 100) { outer = Outer.Desk true; next = NextMark.Again })
    ∷ Event.Turn (record (quiet 1 1 20) { idle = (Object.Client ∷ []); next = NextMark.Wait })
    ∷ []

pub now_below_is : is_some (run [] 256 1 now_below) ≡ true
now_below_is = refl

-- since is the last moment, also where it falls
abbrev pub since_falls : List Event
since_falls =
    Event.Publish (record all_pass { io = 5 })
    ∷ Event.See 1 1
    ∷ Event.Open 1 1 client_at local_at 100
    ∷ Event.Turn (record (quiet 1 1 100) { outer = Outer.Desk true; next = NextMark.Again })
    ∷ Event.Turn (record (quiet 1 1 100) { c = (0x05 ∷ 0x01 ∷ 0x00 ∷ 0x05 ∷ 0x01 ∷ 0x00 ∷ 0x01 ∷ 0xC6 ∷ 0x33 ∷ 0x64 ∷ 0x0A ∷ 0x00 ∷ 0x50 ∷ []); sent_c = 2; outer = Outer.Desk true; next = NextMark.Again })
    ∷ Event.Turn (record (quiet 1 1 20) { outer = Outer.Up (at4 0xC0000209 40000); sent_c = 10; next = NextMark.Again })
    ∷ Event.Turn (record (quiet 1 1 25) { idle = (Object.Client ∷ Object.Target ∷ []); next = NextMark.Wait })
    ∷ []

pub since_falls_is : is_some (run [] 256 1 since_falls) ≡ false
since_falls_is = refl

-- a datagram that is sent late moves since
abbrev pub sent_late : List Event
sent_late =
    Event.Publish (record all_pass { io = 10 })
    ∷ Event.See 1 1
    ∷ Event.Open 1 1 client_at local_at 0
    ∷ Event.Turn (record (quiet 1 1 0) { outer = Outer.Desk true; next = NextMark.Again })
    ∷ Event.Turn (record (quiet 1 1 0) { c = (0x05 ∷ 0x01 ∷ 0x00 ∷ 0x05 ∷ 0x03 ∷ 0x00 ∷ 0x01 ∷ 0x00 ∷ 0x00 ∷ 0x00 ∷ 0x00 ∷ 0x00 ∷ 0x00 ∷ []); sent_c = 2; outer = Outer.Desk true; next = NextMark.Again })
    ∷ Event.Turn (record (quiet 1 1 0) { outer = Outer.Up (at4 0xC0000209 40002); sent_c = 10; next = NextMark.Again })
    ∷ Event.Turn (record (quiet 1 1 0) { grams = (record { peer = (at4 0x0A000005 6000); bytes = (0x00 ∷ 0x00 ∷ 0x00 ∷ 0x01 ∷ 0xC6 ∷ 0x33 ∷ 0x64 ∷ 0x0A ∷ 0x00 ∷ 0x35 ∷ 0x63 ∷ []); generation = 1 } ∷ []); full = (Object.Port ∷ []); idle = (Object.Client ∷ []); next = NextMark.Wait })
    ∷ Event.Turn (record (quiet 1 1 5) { sent_u = 1; idle = (Object.Port ∷ Object.Client ∷ []); next = NextMark.Wait })
    ∷ Event.Turn (record (quiet 1 1 14) { idle = (Object.Port ∷ Object.Client ∷ []); next = NextMark.Wait })
    ∷ []

pub sent_late_is : is_some (run [] 256 1 sent_late) ≡ true
sent_late_is = refl

-- ..
abbrev pub sent_later : List Event
sent_later =
    Event.Publish (record all_pass { io = 10 })
    ∷ Event.See 1 1
    ∷ Event.Open 1 1 client_at local_at 0
    ∷ Event.Turn (record (quiet 1 1 0) { outer = Outer.Desk true; next = NextMark.Again })
    ∷ Event.Turn (record (quiet 1 1 0) { c = (0x05 ∷ 0x01 ∷ 0x00 ∷ 0x05 ∷ 0x03 ∷ 0x00 ∷ 0x01 ∷ 0x00 ∷ 0x00 ∷ 0x00 ∷ 0x00 ∷ 0x00 ∷ 0x00 ∷ []); sent_c = 2; outer = Outer.Desk true; next = NextMark.Again })
    ∷ Event.Turn (record (quiet 1 1 0) { outer = Outer.Up (at4 0xC0000209 40002); sent_c = 10; next = NextMark.Again })
    ∷ Event.Turn (record (quiet 1 1 0) { grams = (record { peer = (at4 0x0A000005 6000); bytes = (0x00 ∷ 0x00 ∷ 0x00 ∷ 0x01 ∷ 0xC6 ∷ 0x33 ∷ 0x64 ∷ 0x0A ∷ 0x00 ∷ 0x35 ∷ 0x63 ∷ []); generation = 1 } ∷ []); full = (Object.Port ∷ []); idle = (Object.Client ∷ []); next = NextMark.Wait })
    ∷ Event.Turn (record (quiet 1 1 5) { sent_u = 1; idle = (Object.Port ∷ Object.Client ∷ []); next = NextMark.Wait })
    ∷ Event.Turn (record (quiet 1 1 15) { idle = (Object.Port ∷ Object.Client ∷ []); next = NextMark.Wait })
    ∷ []

pub sent_later_is : is_some (run [] 256 1 sent_later) ≡ false
sent_later_is = refl
