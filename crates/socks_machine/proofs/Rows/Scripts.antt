-- Which events a script allows, and which it does not, though they are lawful.
use Rattle.std.specs.Prelude.{◌≡◌, refl, true, false, Some, List, [], ◌∷◌, ◌++◌, codes, replicate, is_some}
use Rattle.socks_machine.specs.declared.world.Object.{Object}
use Rattle.socks_machine.specs.declared.world.Outer.{Outer}
use Rattle.socks_machine.specs.declared.world.NextMark.{NextMark}
use Rattle.socks_machine.specs.declared.world.Event.{Event}
use Rattle.socks_machine.specs.Script.{follows, first_surroundings}
use Rattle.socks_machine.specs.declared.script.ScriptLine.{ScriptLine}
use Rattle.socks_machine.specs.declared.script.CallKind.{CallKind}
use Rattle.socks_machine.specs.Step.{start, run}
use Rattle.socks_machine.proofs.Rows.Shared.{all_pass, quiet, at4, client_at, local_at, abc_user, told}
use Rattle.addr_pattern.specs.declared.addr.Addr.{Addr}
use Rattle.socks_machine.specs.Follows.{users_of, workers_of, opens_of}

abbrev pub stored : List ScriptLine
stored =
    ScriptLine.Publish all_pass
    ∷ ScriptLine.See 1
    ∷ ScriptLine.Open 1 1 client_at local_at
    ∷ ScriptLine.Dial 1 (Outer.Up (at4 0xC0000209 40000))
    ∷ ScriptLine.Turn 1 1
    ∷ ScriptLine.Client 1 (0x05 ∷ 0x01 ∷ 0x00 ∷ [])
    ∷ ScriptLine.Turn 1 1
    ∷ ScriptLine.Client 1 (0x05 ∷ 0x01 ∷ 0x00 ∷ 0x01 ∷ 0xC6 ∷ 0x33 ∷ 0x64 ∷ 0x0A ∷ 0x00 ∷ 0x50 ∷ [])
    ∷ ScriptLine.Turn 1 1
    ∷ ScriptLine.Turn 1 1
    ∷ ScriptLine.ClientEnd 1
    ∷ ScriptLine.TargetEnd 1
    ∷ []

abbrev pub stored_events : List Event
stored_events =
    Event.Publish (all_pass)
    ∷ Event.See 1 1
    ∷ Event.Open 1 1 client_at local_at 0
    ∷ Event.Turn (record (quiet 1 1 0) { outer = Outer.Desk true; next = NextMark.Again })
    ∷ Event.Turn (record (quiet 1 1 0) { c = (0x05 ∷ 0x01 ∷ 0x00 ∷ []); sent_c = 2; idle = (Object.Client ∷ []); next = NextMark.Wait })
    ∷ Event.Turn (record (quiet 1 1 0) { c = (0x05 ∷ 0x01 ∷ 0x00 ∷ 0x01 ∷ 0xC6 ∷ 0x33 ∷ 0x64 ∷ 0x0A ∷ 0x00 ∷ 0x50 ∷ []); outer = Outer.Desk true; next = NextMark.Again })
    ∷ Event.Turn (record (quiet 1 1 0) { outer = Outer.Up (at4 0xC0000209 40000); sent_c = 10; next = NextMark.Again })
    ∷ Event.See 1 1
    ∷ Event.Turn (record (quiet 1 1 0) { end_c = true; end_t = true; shut_c = true; shut_t = true; outer = Outer.Desk true; next = NextMark.Done })
    ∷ []

pub stored_follows : follows first_surroundings (Some (start [] 256 1)) stored stored_events ≡ true
stored_follows = refl

-- .. and what they are shown as
pub stored_text : told [] 1 0 stored_events ≡ (codes "publish 1" ++ 10 ∷ []) ++ (codes "see 1 1" ++ 10 ∷ []) ++ (codes "open 1 1" ++ 10 ∷ []) ++ (codes "turn 1 1 gen 1 took 0 0 sent 0 0 again" ++ 10 ∷ []) ++ (codes "turn 1 1 gen 1 took 3 0 sent 2 0 wait" ++ 10 ∷ []) ++ (codes "turn 1 1 gen 1 took 10 0 sent 0 0 again" ++ 10 ∷ []) ++ (codes "turn 1 1 gen 1 took 0 0 sent 10 0 again" ++ 10 ∷ []) ++ (codes "see 1 1" ++ 10 ∷ []) ++ (codes "turn 1 1 gen 1 took 0 0 sent 0 0 done finished" ++ 10 ∷ []) ++ (codes "client 1 050005000001c00002099c40" ++ 10 ∷ []) ++ (codes "target 1 -" ++ 10 ∷ []) ++ (codes "end 1 finished" ++ 10 ∷ [])
stored_text = refl

-- the end of the target stands before the turn, and is not read
abbrev pub end_unread : List ScriptLine
end_unread =
    ScriptLine.Publish all_pass
    ∷ ScriptLine.See 1
    ∷ ScriptLine.Open 1 1 client_at local_at
    ∷ ScriptLine.Dial 1 (Outer.Up (at4 0xC0000209 40000))
    ∷ ScriptLine.Turn 1 1
    ∷ ScriptLine.Client 1 (0x05 ∷ 0x01 ∷ 0x00 ∷ [])
    ∷ ScriptLine.Turn 1 1
    ∷ ScriptLine.Client 1 (0x05 ∷ 0x01 ∷ 0x00 ∷ 0x01 ∷ 0xC6 ∷ 0x33 ∷ 0x64 ∷ 0x0A ∷ 0x00 ∷ 0x50 ∷ [])
    ∷ ScriptLine.Turn 1 1
    ∷ ScriptLine.Turn 1 1
    ∷ ScriptLine.ClientEnd 1
    ∷ ScriptLine.TargetEnd 1
    ∷ []

abbrev pub end_unread_events : List Event
end_unread_events =
    Event.Publish (all_pass)
    ∷ Event.See 1 1
    ∷ Event.Open 1 1 client_at local_at 0
    ∷ Event.Turn (record (quiet 1 1 0) { outer = Outer.Desk true; next = NextMark.Again })
    ∷ Event.Turn (record (quiet 1 1 0) { c = (0x05 ∷ 0x01 ∷ 0x00 ∷ []); sent_c = 2; idle = (Object.Client ∷ []); next = NextMark.Wait })
    ∷ Event.Turn (record (quiet 1 1 0) { c = (0x05 ∷ 0x01 ∷ 0x00 ∷ 0x01 ∷ 0xC6 ∷ 0x33 ∷ 0x64 ∷ 0x0A ∷ 0x00 ∷ 0x50 ∷ []); outer = Outer.Desk true; next = NextMark.Again })
    ∷ Event.Turn (record (quiet 1 1 0) { outer = Outer.Up (at4 0xC0000209 40000); sent_c = 10; next = NextMark.Again })
    ∷ Event.See 1 1
    ∷ Event.Turn (record (quiet 1 1 0) { end_c = true; shut_t = true; idle = (Object.Target ∷ []); next = NextMark.Wait })
    ∷ []

pub end_unread_follows : follows first_surroundings (Some (start [] 256 1)) end_unread end_unread_events ≡ false
end_unread_follows = refl

abbrev pub target_fails : List ScriptLine
target_fails =
    ScriptLine.Publish all_pass
    ∷ ScriptLine.See 1
    ∷ ScriptLine.Open 1 1 client_at local_at
    ∷ ScriptLine.Dial 1 (Outer.Up (at4 0xC0000209 40000))
    ∷ ScriptLine.Turn 1 1
    ∷ ScriptLine.Client 1 (0x05 ∷ 0x01 ∷ 0x00 ∷ 0x05 ∷ 0x01 ∷ 0x00 ∷ 0x01 ∷ 0xC6 ∷ 0x33 ∷ 0x64 ∷ 0x0A ∷ 0x00 ∷ 0x50 ∷ [])
    ∷ ScriptLine.Turn 1 1
    ∷ ScriptLine.Turn 1 1
    ∷ ScriptLine.Fault 1 Object.Target CallKind.Reading
    ∷ ScriptLine.Turn 1 1
    ∷ []

abbrev pub target_fails_events : List Event
target_fails_events =
    Event.Publish (all_pass)
    ∷ Event.See 1 1
    ∷ Event.Open 1 1 client_at local_at 0
    ∷ Event.Turn (record (quiet 1 1 0) { outer = Outer.Desk true; next = NextMark.Again })
    ∷ Event.Turn (record (quiet 1 1 0) { c = (0x05 ∷ 0x01 ∷ 0x00 ∷ 0x05 ∷ 0x01 ∷ 0x00 ∷ 0x01 ∷ 0xC6 ∷ 0x33 ∷ 0x64 ∷ 0x0A ∷ 0x00 ∷ 0x50 ∷ []); sent_c = 2; outer = Outer.Desk true; next = NextMark.Again })
    ∷ Event.Turn (record (quiet 1 1 0) { outer = Outer.Up (at4 0xC0000209 40000); sent_c = 10; next = NextMark.Again })
    ∷ Event.Turn (record (quiet 1 1 0) { fault = Some Object.Target; failed = ((Object.Target, CallKind.Reading) ∷ []); outer = Outer.Desk true; next = NextMark.Done })
    ∷ Event.See 1 1
    ∷ []

pub target_fails_follows : follows first_surroundings (Some (start [] 256 1)) target_fails target_fails_events ≡ true
target_fails_follows = refl

abbrev pub no_room : List ScriptLine
no_room =
    ScriptLine.Publish all_pass
    ∷ ScriptLine.See 1
    ∷ ScriptLine.Open 1 1 client_at local_at
    ∷ ScriptLine.Dial 1 (Outer.Up (at4 0xC0000209 40000))
    ∷ ScriptLine.Turn 1 1
    ∷ ScriptLine.Client 1 (0x05 ∷ 0x01 ∷ 0x00 ∷ 0x05 ∷ 0x01 ∷ 0x00 ∷ 0x01 ∷ 0xC6 ∷ 0x33 ∷ 0x64 ∷ 0x0A ∷ 0x00 ∷ 0x50 ∷ [])
    ∷ ScriptLine.Turn 1 1
    ∷ ScriptLine.Turn 1 1
    ∷ ScriptLine.ClientEnd 1
    ∷ ScriptLine.Turn 1 1
    ∷ ScriptLine.Room 1 Object.Client 0
    ∷ ScriptLine.Target 1 (0x61 ∷ 0x61 ∷ 0x61 ∷ [])
    ∷ ScriptLine.Turn 1 1
    ∷ ScriptLine.Room 1 Object.Client 1
    ∷ ScriptLine.TargetEnd 1
    ∷ []

abbrev pub no_room_events : List Event
no_room_events =
    Event.Publish (all_pass)
    ∷ Event.See 1 1
    ∷ Event.Open 1 1 client_at local_at 0
    ∷ Event.Turn (record (quiet 1 1 0) { outer = Outer.Desk true; next = NextMark.Again })
    ∷ Event.Turn (record (quiet 1 1 0) { c = (0x05 ∷ 0x01 ∷ 0x00 ∷ 0x05 ∷ 0x01 ∷ 0x00 ∷ 0x01 ∷ 0xC6 ∷ 0x33 ∷ 0x64 ∷ 0x0A ∷ 0x00 ∷ 0x50 ∷ []); sent_c = 2; outer = Outer.Desk true; next = NextMark.Again })
    ∷ Event.Turn (record (quiet 1 1 0) { outer = Outer.Up (at4 0xC0000209 40000); sent_c = 10; next = NextMark.Again })
    ∷ Event.Turn (record (quiet 1 1 0) { end_c = true; shut_t = true; idle = (Object.Target ∷ []); next = NextMark.Wait })
    ∷ Event.Turn (record (quiet 1 1 0) { t = (0x61 ∷ 0x61 ∷ 0x61 ∷ []); idle = (Object.Target ∷ []); full = (Object.Client ∷ []); next = NextMark.Wait })
    ∷ Event.See 1 1
    ∷ Event.Turn (record (quiet 1 1 0) { end_t = true; sent_c = 3; shut_c = true; outer = Outer.Desk true; next = NextMark.Done })
    ∷ []

pub no_room_follows : follows first_surroundings (Some (start [] 256 1)) no_room no_room_events ≡ true
no_room_follows = refl

abbrev pub datagrams : List ScriptLine
datagrams =
    ScriptLine.Publish all_pass
    ∷ ScriptLine.See 1
    ∷ ScriptLine.Open 1 1 client_at local_at
    ∷ ScriptLine.Turn 1 1
    ∷ ScriptLine.Client 1 (0x05 ∷ 0x01 ∷ 0x00 ∷ [])
    ∷ ScriptLine.Turn 1 1
    ∷ ScriptLine.Client 1 (0x05 ∷ 0x03 ∷ 0x00 ∷ 0x01 ∷ 0x00 ∷ 0x00 ∷ 0x00 ∷ 0x00 ∷ 0x00 ∷ 0x00 ∷ [])
    ∷ ScriptLine.Port 1 (Outer.Up (at4 0xC0000209 40002))
    ∷ ScriptLine.Turn 1 1
    ∷ ScriptLine.Turn 1 1
    ∷ ScriptLine.Datagram 1 (at4 0xC633640A 53) (0x78 ∷ [])
    ∷ ScriptLine.Datagram 1 (at4 0x0A000005 6000) (0x00 ∷ 0x00 ∷ 0x00 ∷ 0x01 ∷ 0xC6 ∷ 0x33 ∷ 0x64 ∷ 0x0A ∷ 0x00 ∷ 0x35 ∷ 0x63 ∷ [])
    ∷ ScriptLine.Turn 1 1
    ∷ ScriptLine.ClientEnd 1
    ∷ []

abbrev pub datagrams_events : List Event
datagrams_events =
    Event.Publish (all_pass)
    ∷ Event.See 1 1
    ∷ Event.Open 1 1 client_at local_at 0
    ∷ Event.Turn (record (quiet 1 1 0) { outer = Outer.Desk true; next = NextMark.Again })
    ∷ Event.Turn (record (quiet 1 1 0) { c = (0x05 ∷ 0x01 ∷ 0x00 ∷ []); sent_c = 2; idle = (Object.Client ∷ []); next = NextMark.Wait })
    ∷ Event.Turn (record (quiet 1 1 0) { c = (0x05 ∷ 0x03 ∷ 0x00 ∷ 0x01 ∷ 0x00 ∷ 0x00 ∷ 0x00 ∷ 0x00 ∷ 0x00 ∷ 0x00 ∷ []); outer = Outer.Desk true; next = NextMark.Again })
    ∷ Event.Turn (record (quiet 1 1 0) { outer = Outer.Up (at4 0xC0000209 40002); sent_c = 10; next = NextMark.Again })
    ∷ Event.Turn (record (quiet 1 1 0) { grams = (record { peer = (at4 0xC633640A 53); bytes = (0x78 ∷ []); generation = 1 } ∷ record { peer = (at4 0x0A000005 6000); bytes = (0x00 ∷ 0x00 ∷ 0x00 ∷ 0x01 ∷ 0xC6 ∷ 0x33 ∷ 0x64 ∷ 0x0A ∷ 0x00 ∷ 0x35 ∷ 0x63 ∷ []); generation = 1 } ∷ []); sent_u = 1; idle = (Object.Port ∷ Object.Client ∷ []); next = NextMark.Wait })
    ∷ Event.See 1 1
    ∷ Event.Turn (record (quiet 1 1 0) { idle = (Object.Port ∷ []); end_c = true; outer = Outer.Desk true; next = NextMark.Done })
    ∷ []

pub datagrams_follows : follows first_surroundings (Some (start [] 256 1)) datagrams datagrams_events ≡ true
datagrams_follows = refl

abbrev pub bind : List ScriptLine
bind =
    ScriptLine.Publish all_pass
    ∷ ScriptLine.See 1
    ∷ ScriptLine.Open 1 1 client_at local_at
    ∷ ScriptLine.Turn 1 1
    ∷ ScriptLine.Client 1 (0x05 ∷ 0x01 ∷ 0x00 ∷ 0x05 ∷ 0x02 ∷ 0x00 ∷ 0x01 ∷ 0xC6 ∷ 0x33 ∷ 0x64 ∷ 0x0A ∷ 0x00 ∷ 0x15 ∷ [])
    ∷ ScriptLine.Turn 1 1
    ∷ ScriptLine.Door 1 (Outer.Up (at4 0xC0000209 40001))
    ∷ ScriptLine.Turn 1 1
    ∷ ScriptLine.Turn 1 1
    ∷ ScriptLine.Peer 1 (at4 0xC633640A 20)
    ∷ ScriptLine.Turn 1 1
    ∷ ScriptLine.ClientEnd 1
    ∷ ScriptLine.TargetEnd 1
    ∷ []

abbrev pub bind_events : List Event
bind_events =
    Event.Publish (all_pass)
    ∷ Event.See 1 1
    ∷ Event.Open 1 1 client_at local_at 0
    ∷ Event.Turn (record (quiet 1 1 0) { outer = Outer.Desk true; next = NextMark.Again })
    ∷ Event.Turn (record (quiet 1 1 0) { c = (0x05 ∷ 0x01 ∷ 0x00 ∷ 0x05 ∷ 0x02 ∷ 0x00 ∷ 0x01 ∷ 0xC6 ∷ 0x33 ∷ 0x64 ∷ 0x0A ∷ 0x00 ∷ 0x15 ∷ []); sent_c = 2; outer = Outer.Desk true; next = NextMark.Again })
    ∷ Event.Turn (record (quiet 1 1 0) { outer = Outer.Up (at4 0xC0000209 40001); sent_c = 10; next = NextMark.Again })
    ∷ Event.Turn (record (quiet 1 1 0) { idle = (Object.Door ∷ Object.Client ∷ []); next = NextMark.Wait })
    ∷ Event.Turn (record (quiet 1 1 0) { came = Some (at4 0xC633640A 20); sent_c = 10; outer = Outer.Desk true; next = NextMark.Again })
    ∷ Event.See 1 1
    ∷ Event.Turn (record (quiet 1 1 0) { end_c = true; end_t = true; shut_c = true; shut_t = true; outer = Outer.Desk true; next = NextMark.Done })
    ∷ []

pub bind_follows : follows first_surroundings (Some (start [] 256 1)) bind bind_events ≡ true
bind_follows = refl

abbrev pub rests : List ScriptLine
rests =
    ScriptLine.Publish all_pass
    ∷ ScriptLine.See 1
    ∷ ScriptLine.Open 1 1 client_at local_at
    ∷ ScriptLine.Turn 1 1
    ∷ ScriptLine.Client 1 (0x05 ∷ 0x01 ∷ 0x00 ∷ [])
    ∷ ScriptLine.Turn 1 1
    ∷ []

abbrev pub rests_events : List Event
rests_events =
    Event.Publish (all_pass)
    ∷ Event.See 1 1
    ∷ Event.Open 1 1 client_at local_at 0
    ∷ Event.Turn (record (quiet 1 1 0) { outer = Outer.Desk true; next = NextMark.Again })
    ∷ Event.Turn (record (quiet 1 1 0) { c = (0x05 ∷ 0x01 ∷ 0x00 ∷ []); sent_c = 2; idle = (Object.Client ∷ []); next = NextMark.Wait })
    ∷ Event.See 1 1
    ∷ Event.Turn (record (quiet 1 1 0) { idle = (Object.Client ∷ []); next = NextMark.Wait })
    ∷ []

pub rests_follows : follows first_surroundings (Some (start [] 256 1)) rests rests_events ≡ true
rests_follows = refl

-- the script finds the name, the event says that the lookup failed
abbrev pub lookup_lies : List ScriptLine
lookup_lies =
    ScriptLine.Publish all_pass
    ∷ ScriptLine.See 1
    ∷ ScriptLine.Open 1 1 client_at local_at
    ∷ ScriptLine.Turn 1 1
    ∷ ScriptLine.Lookup 1 (Outer.Looked (Some (Addr.V4 0x01020304)))
    ∷ ScriptLine.Client 1 (0x05 ∷ 0x01 ∷ 0x00 ∷ 0x05 ∷ 0x01 ∷ 0x00 ∷ 0x03 ∷ 0x06 ∷ 0x61 ∷ 0x2e ∷ 0x74 ∷ 0x65 ∷ 0x73 ∷ 0x74 ∷ 0x00 ∷ 0x50 ∷ [])
    ∷ ScriptLine.Turn 1 1
    ∷ []

abbrev pub lookup_lies_events : List Event
lookup_lies_events =
    Event.Publish (all_pass)
    ∷ Event.See 1 1
    ∷ Event.Open 1 1 client_at local_at 0
    ∷ Event.Turn (record (quiet 1 1 0) { outer = Outer.Desk true; next = NextMark.Again })
    ∷ Event.Turn (record (quiet 1 1 0) { c = (0x05 ∷ 0x01 ∷ 0x00 ∷ 0x05 ∷ 0x01 ∷ 0x00 ∷ 0x03 ∷ 0x06 ∷ 0x61 ∷ 0x2e ∷ 0x74 ∷ 0x65 ∷ 0x73 ∷ 0x74 ∷ 0x00 ∷ 0x50 ∷ []); outer = Outer.Failed; sent_c = 12; next = NextMark.Again })
    ∷ Event.See 1 1
    ∷ Event.Turn (record (quiet 1 1 0) { outer = Outer.Desk true; next = NextMark.Done })
    ∷ []

pub lookup_lies_lawful : is_some (run [] 256 1 lookup_lies_events) ≡ true
lookup_lies_lawful = refl

pub lookup_lies_follows : follows first_surroundings (Some (start [] 256 1)) lookup_lies lookup_lies_events ≡ false
lookup_lies_follows = refl

-- the first read behind the line gives bytes, a later one fails
abbrev pub read_late : List ScriptLine
read_late =
    ScriptLine.Publish all_pass
    ∷ ScriptLine.See 1
    ∷ ScriptLine.Open 1 1 client_at local_at
    ∷ ScriptLine.Dial 1 (Outer.Up (at4 0xC0000209 40000))
    ∷ ScriptLine.Turn 1 1
    ∷ ScriptLine.Client 1 (0x05 ∷ 0x01 ∷ 0x00 ∷ 0x05 ∷ 0x01 ∷ 0x00 ∷ 0x01 ∷ 0xC6 ∷ 0x33 ∷ 0x64 ∷ 0x0A ∷ 0x00 ∷ 0x50 ∷ [])
    ∷ ScriptLine.Turn 1 1
    ∷ ScriptLine.Turn 1 1
    ∷ ScriptLine.Fault 1 Object.Client CallKind.Reading
    ∷ ScriptLine.Client 1 (0x61 ∷ 0x62 ∷ [])
    ∷ ScriptLine.Turn 1 1
    ∷ []

abbrev pub read_late_events : List Event
read_late_events =
    Event.Publish (all_pass)
    ∷ Event.See 1 1
    ∷ Event.Open 1 1 client_at local_at 0
    ∷ Event.Turn (record (quiet 1 1 0) { outer = Outer.Desk true; next = NextMark.Again })
    ∷ Event.Turn (record (quiet 1 1 0) { c = (0x05 ∷ 0x01 ∷ 0x00 ∷ 0x05 ∷ 0x01 ∷ 0x00 ∷ 0x01 ∷ 0xC6 ∷ 0x33 ∷ 0x64 ∷ 0x0A ∷ 0x00 ∷ 0x50 ∷ []); sent_c = 2; outer = Outer.Desk true; next = NextMark.Again })
    ∷ Event.Turn (record (quiet 1 1 0) { outer = Outer.Up (at4 0xC0000209 40000); sent_c = 10; next = NextMark.Again })
    ∷ Event.Turn (record (quiet 1 1 0) { c = (0x61 ∷ 0x62 ∷ []); sent_t = 2; idle = (Object.Target ∷ []); fault = Some Object.Client; failed = ((Object.Client, CallKind.Reading) ∷ []); outer = Outer.Desk true; next = NextMark.Done })
    ∷ Event.See 1 1
    ∷ []

pub read_late_lawful : is_some (run [] 256 1 read_late_events) ≡ true
read_late_lawful = refl

pub read_late_follows : follows first_surroundings (Some (start [] 256 1)) read_late read_late_events ≡ false
read_late_follows = refl

-- a write that a line makes fail is made and does not fail, since another call fails
abbrev pub other_fault : List ScriptLine
other_fault =
    ScriptLine.Publish all_pass
    ∷ ScriptLine.See 1
    ∷ ScriptLine.Open 1 1 client_at local_at
    ∷ ScriptLine.Dial 1 (Outer.Up (at4 0xC0000209 40000))
    ∷ ScriptLine.Turn 1 1
    ∷ ScriptLine.Client 1 (0x05 ∷ 0x01 ∷ 0x00 ∷ 0x05 ∷ 0x01 ∷ 0x00 ∷ 0x01 ∷ 0xC6 ∷ 0x33 ∷ 0x64 ∷ 0x0A ∷ 0x00 ∷ 0x50 ∷ [])
    ∷ ScriptLine.Turn 1 1
    ∷ ScriptLine.Turn 1 1
    ∷ ScriptLine.Fault 1 Object.Target CallKind.Writing
    ∷ ScriptLine.Fault 1 Object.Client CallKind.Reading
    ∷ ScriptLine.Client 1 (0x61 ∷ 0x62 ∷ [])
    ∷ ScriptLine.Turn 1 1
    ∷ []

abbrev pub other_fault_events : List Event
other_fault_events =
    Event.Publish (all_pass)
    ∷ Event.See 1 1
    ∷ Event.Open 1 1 client_at local_at 0
    ∷ Event.Turn (record (quiet 1 1 0) { outer = Outer.Desk true; next = NextMark.Again })
    ∷ Event.Turn (record (quiet 1 1 0) { c = (0x05 ∷ 0x01 ∷ 0x00 ∷ 0x05 ∷ 0x01 ∷ 0x00 ∷ 0x01 ∷ 0xC6 ∷ 0x33 ∷ 0x64 ∷ 0x0A ∷ 0x00 ∷ 0x50 ∷ []); sent_c = 2; outer = Outer.Desk true; next = NextMark.Again })
    ∷ Event.Turn (record (quiet 1 1 0) { outer = Outer.Up (at4 0xC0000209 40000); sent_c = 10; next = NextMark.Again })
    ∷ Event.Turn (record (quiet 1 1 0) { c = (0x61 ∷ 0x62 ∷ []); sent_t = 2; idle = (Object.Target ∷ []); fault = Some Object.Client; failed = ((Object.Client, CallKind.Reading) ∷ []); outer = Outer.Desk true; next = NextMark.Done })
    ∷ Event.See 1 1
    ∷ []

pub other_fault_lawful : is_some (run [] 256 1 other_fault_events) ≡ true
other_fault_lawful = refl

pub other_fault_follows : follows first_surroundings (Some (start [] 256 1)) other_fault other_fault_events ≡ false
other_fault_follows = refl

-- bytes are sent at room 0
abbrev pub sent_without_room : List ScriptLine
sent_without_room =
    ScriptLine.Publish all_pass
    ∷ ScriptLine.See 1
    ∷ ScriptLine.Open 1 1 client_at local_at
    ∷ ScriptLine.Dial 1 (Outer.Up (at4 0xC0000209 40000))
    ∷ ScriptLine.Turn 1 1
    ∷ ScriptLine.Client 1 (0x05 ∷ 0x01 ∷ 0x00 ∷ 0x05 ∷ 0x01 ∷ 0x00 ∷ 0x01 ∷ 0xC6 ∷ 0x33 ∷ 0x64 ∷ 0x0A ∷ 0x00 ∷ 0x50 ∷ [])
    ∷ ScriptLine.Turn 1 1
    ∷ ScriptLine.Turn 1 1
    ∷ ScriptLine.Room 1 Object.Target 0
    ∷ ScriptLine.Client 1 (0x61 ∷ 0x62 ∷ [])
    ∷ ScriptLine.Turn 1 1
    ∷ []

abbrev pub sent_without_room_events : List Event
sent_without_room_events =
    Event.Publish (all_pass)
    ∷ Event.See 1 1
    ∷ Event.Open 1 1 client_at local_at 0
    ∷ Event.Turn (record (quiet 1 1 0) { outer = Outer.Desk true; next = NextMark.Again })
    ∷ Event.Turn (record (quiet 1 1 0) { c = (0x05 ∷ 0x01 ∷ 0x00 ∷ 0x05 ∷ 0x01 ∷ 0x00 ∷ 0x01 ∷ 0xC6 ∷ 0x33 ∷ 0x64 ∷ 0x0A ∷ 0x00 ∷ 0x50 ∷ []); sent_c = 2; outer = Outer.Desk true; next = NextMark.Again })
    ∷ Event.Turn (record (quiet 1 1 0) { outer = Outer.Up (at4 0xC0000209 40000); sent_c = 10; next = NextMark.Again })
    ∷ Event.Turn (record (quiet 1 1 0) { c = (0x61 ∷ 0x62 ∷ []); sent_t = 2; idle = (Object.Client ∷ Object.Target ∷ []); next = NextMark.Wait })
    ∷ Event.See 1 1
    ∷ Event.Turn (record (quiet 1 1 0) { idle = (Object.Client ∷ Object.Target ∷ []); next = NextMark.Wait })
    ∷ []

pub sent_without_room_lawful : is_some (run [] 256 1 sent_without_room_events) ≡ true
sent_without_room_lawful = refl

pub sent_without_room_follows : follows first_surroundings (Some (start [] 256 1)) sent_without_room sent_without_room_events ≡ false
sent_without_room_follows = refl

-- a write failed before the end of the target would have been read
abbrev pub end_behind_write : List ScriptLine
end_behind_write =
    ScriptLine.Publish all_pass
    ∷ ScriptLine.See 1
    ∷ ScriptLine.Open 1 1 client_at local_at
    ∷ ScriptLine.Dial 1 (Outer.Up (at4 0xC0000209 40000))
    ∷ ScriptLine.Turn 1 1
    ∷ ScriptLine.Client 1 (0x05 ∷ 0x01 ∷ 0x00 ∷ 0x05 ∷ 0x01 ∷ 0x00 ∷ 0x01 ∷ 0xC6 ∷ 0x33 ∷ 0x64 ∷ 0x0A ∷ 0x00 ∷ 0x50 ∷ [])
    ∷ ScriptLine.Turn 1 1
    ∷ ScriptLine.Turn 1 1
    ∷ ScriptLine.Fault 1 Object.Client CallKind.Writing
    ∷ ScriptLine.Target 1 (0x61 ∷ 0x62 ∷ [])
    ∷ ScriptLine.TargetEnd 1
    ∷ ScriptLine.Turn 1 1
    ∷ []

abbrev pub end_behind_write_events : List Event
end_behind_write_events =
    Event.Publish (all_pass)
    ∷ Event.See 1 1
    ∷ Event.Open 1 1 client_at local_at 0
    ∷ Event.Turn (record (quiet 1 1 0) { outer = Outer.Desk true; next = NextMark.Again })
    ∷ Event.Turn (record (quiet 1 1 0) { c = (0x05 ∷ 0x01 ∷ 0x00 ∷ 0x05 ∷ 0x01 ∷ 0x00 ∷ 0x01 ∷ 0xC6 ∷ 0x33 ∷ 0x64 ∷ 0x0A ∷ 0x00 ∷ 0x50 ∷ []); sent_c = 2; outer = Outer.Desk true; next = NextMark.Again })
    ∷ Event.Turn (record (quiet 1 1 0) { outer = Outer.Up (at4 0xC0000209 40000); sent_c = 10; next = NextMark.Again })
    ∷ Event.Turn (record (quiet 1 1 0) { t = (0x61 ∷ 0x62 ∷ []); idle = (Object.Client ∷ []); fault = Some Object.Client; unwritten = true; failed = ((Object.Client, CallKind.Writing) ∷ []); outer = Outer.Desk true; next = NextMark.Done })
    ∷ Event.See 1 1
    ∷ []

pub end_behind_write_lawful : is_some (run [] 256 1 end_behind_write_events) ≡ true
end_behind_write_lawful = refl

pub end_behind_write_follows : follows first_surroundings (Some (start [] 256 1)) end_behind_write end_behind_write_events ≡ true
end_behind_write_follows = refl

-- the end of the client is read, and then the read of the target fails
abbrev pub end_before_read : List ScriptLine
end_before_read =
    ScriptLine.Publish all_pass
    ∷ ScriptLine.See 1
    ∷ ScriptLine.Open 1 1 client_at local_at
    ∷ ScriptLine.Dial 1 (Outer.Up (at4 0xC0000209 40000))
    ∷ ScriptLine.Turn 1 1
    ∷ ScriptLine.Client 1 (0x05 ∷ 0x01 ∷ 0x00 ∷ 0x05 ∷ 0x01 ∷ 0x00 ∷ 0x01 ∷ 0xC6 ∷ 0x33 ∷ 0x64 ∷ 0x0A ∷ 0x00 ∷ 0x50 ∷ [])
    ∷ ScriptLine.Turn 1 1
    ∷ ScriptLine.Turn 1 1
    ∷ ScriptLine.Fault 1 Object.Target CallKind.Reading
    ∷ ScriptLine.ClientEnd 1
    ∷ ScriptLine.Turn 1 1
    ∷ []

abbrev pub end_before_read_events : List Event
end_before_read_events =
    Event.Publish (all_pass)
    ∷ Event.See 1 1
    ∷ Event.Open 1 1 client_at local_at 0
    ∷ Event.Turn (record (quiet 1 1 0) { outer = Outer.Desk true; next = NextMark.Again })
    ∷ Event.Turn (record (quiet 1 1 0) { c = (0x05 ∷ 0x01 ∷ 0x00 ∷ 0x05 ∷ 0x01 ∷ 0x00 ∷ 0x01 ∷ 0xC6 ∷ 0x33 ∷ 0x64 ∷ 0x0A ∷ 0x00 ∷ 0x50 ∷ []); sent_c = 2; outer = Outer.Desk true; next = NextMark.Again })
    ∷ Event.Turn (record (quiet 1 1 0) { outer = Outer.Up (at4 0xC0000209 40000); sent_c = 10; next = NextMark.Again })
    ∷ Event.Turn (record (quiet 1 1 0) { end_c = true; shut_t = true; fault = Some Object.Target; failed = ((Object.Target, CallKind.Reading) ∷ []); outer = Outer.Desk true; next = NextMark.Done })
    ∷ Event.See 1 1
    ∷ []

pub end_before_read_lawful : is_some (run [] 256 1 end_before_read_events) ≡ true
end_before_read_lawful = refl

pub end_before_read_follows : follows first_surroundings (Some (start [] 256 1)) end_before_read end_before_read_events ≡ true
end_before_read_follows = refl

-- a full pipe: the end behind it is not read
abbrev pub end_behind_full : List ScriptLine
end_behind_full =
    ScriptLine.Publish all_pass
    ∷ ScriptLine.See 1
    ∷ ScriptLine.Open 1 1 client_at local_at
    ∷ ScriptLine.Dial 1 (Outer.Up (at4 0xC0000209 40000))
    ∷ ScriptLine.Turn 1 1
    ∷ ScriptLine.Client 1 (0x05 ∷ 0x01 ∷ 0x00 ∷ 0x05 ∷ 0x01 ∷ 0x00 ∷ 0x01 ∷ 0xC6 ∷ 0x33 ∷ 0x64 ∷ 0x0A ∷ 0x00 ∷ 0x50 ∷ [])
    ∷ ScriptLine.Turn 1 1
    ∷ ScriptLine.Turn 1 1
    ∷ ScriptLine.Room 1 Object.Target 0
    ∷ ScriptLine.Client 1 (replicate 16384 97)
    ∷ ScriptLine.ClientEnd 1
    ∷ ScriptLine.Turn 1 1
    ∷ []

abbrev pub end_behind_full_events : List Event
end_behind_full_events =
    Event.Publish (all_pass)
    ∷ Event.See 1 1
    ∷ Event.Open 1 1 client_at local_at 0
    ∷ Event.Turn (record (quiet 1 1 0) { outer = Outer.Desk true; next = NextMark.Again })
    ∷ Event.Turn (record (quiet 1 1 0) { c = (0x05 ∷ 0x01 ∷ 0x00 ∷ 0x05 ∷ 0x01 ∷ 0x00 ∷ 0x01 ∷ 0xC6 ∷ 0x33 ∷ 0x64 ∷ 0x0A ∷ 0x00 ∷ 0x50 ∷ []); sent_c = 2; outer = Outer.Desk true; next = NextMark.Again })
    ∷ Event.Turn (record (quiet 1 1 0) { outer = Outer.Up (at4 0xC0000209 40000); sent_c = 10; next = NextMark.Again })
    ∷ Event.Turn (record (quiet 1 1 0) { c = (replicate 16384 97); idle = (Object.Target ∷ []); full = (Object.Target ∷ []); next = NextMark.Wait })
    ∷ Event.See 1 1
    ∷ Event.Turn (record (quiet 1 1 0) { idle = (Object.Target ∷ []); full = (Object.Target ∷ []); next = NextMark.Wait })
    ∷ []

pub end_behind_full_lawful : is_some (run [] 256 1 end_behind_full_events) ≡ true
end_behind_full_lawful = refl

pub end_behind_full_follows : follows first_surroundings (Some (start [] 256 1)) end_behind_full end_behind_full_events ≡ true
end_behind_full_follows = refl

-- .. and reading it is not allowed
abbrev pub end_though_full : List ScriptLine
end_though_full =
    ScriptLine.Publish all_pass
    ∷ ScriptLine.See 1
    ∷ ScriptLine.Open 1 1 client_at local_at
    ∷ ScriptLine.Dial 1 (Outer.Up (at4 0xC0000209 40000))
    ∷ ScriptLine.Turn 1 1
    ∷ ScriptLine.Client 1 (0x05 ∷ 0x01 ∷ 0x00 ∷ 0x05 ∷ 0x01 ∷ 0x00 ∷ 0x01 ∷ 0xC6 ∷ 0x33 ∷ 0x64 ∷ 0x0A ∷ 0x00 ∷ 0x50 ∷ [])
    ∷ ScriptLine.Turn 1 1
    ∷ ScriptLine.Turn 1 1
    ∷ ScriptLine.Room 1 Object.Target 0
    ∷ ScriptLine.Client 1 (replicate 16384 97)
    ∷ ScriptLine.ClientEnd 1
    ∷ ScriptLine.Turn 1 1
    ∷ []

abbrev pub end_though_full_events : List Event
end_though_full_events =
    Event.Publish (all_pass)
    ∷ Event.See 1 1
    ∷ Event.Open 1 1 client_at local_at 0
    ∷ Event.Turn (record (quiet 1 1 0) { outer = Outer.Desk true; next = NextMark.Again })
    ∷ Event.Turn (record (quiet 1 1 0) { c = (0x05 ∷ 0x01 ∷ 0x00 ∷ 0x05 ∷ 0x01 ∷ 0x00 ∷ 0x01 ∷ 0xC6 ∷ 0x33 ∷ 0x64 ∷ 0x0A ∷ 0x00 ∷ 0x50 ∷ []); sent_c = 2; outer = Outer.Desk true; next = NextMark.Again })
    ∷ Event.Turn (record (quiet 1 1 0) { outer = Outer.Up (at4 0xC0000209 40000); sent_c = 10; next = NextMark.Again })
    ∷ Event.Turn (record (quiet 1 1 0) { c = (replicate 16384 97); end_c = true; idle = (Object.Target ∷ []); full = (Object.Target ∷ []); next = NextMark.Wait })
    ∷ Event.See 1 1
    ∷ Event.Turn (record (quiet 1 1 0) { idle = (Object.Target ∷ []); full = (Object.Target ∷ []); next = NextMark.Wait })
    ∷ []

pub end_though_full_lawful : is_some (run [] 256 1 end_though_full_events) ≡ true
end_though_full_lawful = refl

pub end_though_full_follows : follows first_surroundings (Some (start [] 256 1)) end_though_full end_though_full_events ≡ false
end_though_full_follows = refl

-- the door opens where the port was to open
abbrev pub door_by_port : List ScriptLine
door_by_port =
    ScriptLine.Publish all_pass
    ∷ ScriptLine.See 1
    ∷ ScriptLine.Open 1 1 client_at local_at
    ∷ ScriptLine.Turn 1 1
    ∷ ScriptLine.Client 1 (0x05 ∷ 0x01 ∷ 0x00 ∷ 0x05 ∷ 0x02 ∷ 0x00 ∷ 0x01 ∷ 0xC6 ∷ 0x33 ∷ 0x64 ∷ 0x0A ∷ 0x00 ∷ 0x15 ∷ [])
    ∷ ScriptLine.Turn 1 1
    ∷ ScriptLine.Door 1 (Outer.Up (at4 0xC0000209 1))
    ∷ ScriptLine.Port 1 (Outer.Up (at4 0xC0000209 2))
    ∷ ScriptLine.Turn 1 1
    ∷ []

abbrev pub door_by_port_events : List Event
door_by_port_events =
    Event.Publish (all_pass)
    ∷ Event.See 1 1
    ∷ Event.Open 1 1 client_at local_at 0
    ∷ Event.Turn (record (quiet 1 1 0) { outer = Outer.Desk true; next = NextMark.Again })
    ∷ Event.Turn (record (quiet 1 1 0) { c = (0x05 ∷ 0x01 ∷ 0x00 ∷ 0x05 ∷ 0x02 ∷ 0x00 ∷ 0x01 ∷ 0xC6 ∷ 0x33 ∷ 0x64 ∷ 0x0A ∷ 0x00 ∷ 0x15 ∷ []); sent_c = 2; outer = Outer.Desk true; next = NextMark.Again })
    ∷ Event.Turn (record (quiet 1 1 0) { outer = Outer.Up (at4 0xC0000209 2); sent_c = 10; next = NextMark.Again })
    ∷ Event.See 1 1
    ∷ Event.Turn (record (quiet 1 1 0) { idle = (Object.Door ∷ Object.Client ∷ []); next = NextMark.Wait })
    ∷ []

pub door_by_port_lawful : is_some (run [] 256 1 door_by_port_events) ≡ true
door_by_port_lawful = refl

pub door_by_port_follows : follows first_surroundings (Some (start [] 256 1)) door_by_port door_by_port_events ≡ false
door_by_port_follows = refl

-- both writes failed in one turn (the target first), and the next turn sends both
abbrev pub two_faults : List ScriptLine
two_faults =
    ScriptLine.Publish all_pass
    ∷ ScriptLine.See 1
    ∷ ScriptLine.Open 1 1 client_at local_at
    ∷ ScriptLine.Dial 1 (Outer.Up (at4 0xC0000209 40000))
    ∷ ScriptLine.Turn 1 1
    ∷ ScriptLine.Room 1 Object.Client 0
    ∷ ScriptLine.Client 1 (0x05 ∷ 0x01 ∷ 0x00 ∷ 0x05 ∷ 0x01 ∷ 0x00 ∷ 0x01 ∷ 0xC6 ∷ 0x33 ∷ 0x64 ∷ 0x0A ∷ 0x00 ∷ 0x50 ∷ 0x61 ∷ 0x62 ∷ [])
    ∷ ScriptLine.Turn 1 1
    ∷ ScriptLine.Room 1 Object.Client 9
    ∷ ScriptLine.Fault 1 Object.Client CallKind.Writing
    ∷ ScriptLine.Fault 1 Object.Target CallKind.Writing
    ∷ ScriptLine.Turn 1 1
    ∷ []

abbrev pub two_faults_events : List Event
two_faults_events =
    Event.Publish (all_pass)
    ∷ Event.See 1 1
    ∷ Event.Open 1 1 client_at local_at 0
    ∷ Event.Turn (record (quiet 1 1 0) { outer = Outer.Desk true; next = NextMark.Again })
    ∷ Event.Turn (record (quiet 1 1 0) { c = (0x05 ∷ 0x01 ∷ 0x00 ∷ 0x05 ∷ 0x01 ∷ 0x00 ∷ 0x01 ∷ 0xC6 ∷ 0x33 ∷ 0x64 ∷ 0x0A ∷ 0x00 ∷ 0x50 ∷ 0x61 ∷ 0x62 ∷ []); full = (Object.Client ∷ []); outer = Outer.Desk true; next = NextMark.Again })
    ∷ Event.Turn (record (quiet 1 1 0) { outer = Outer.Up (at4 0xC0000209 40000); fault = Some Object.Target; unwritten = true; failed = ((Object.Target, CallKind.Writing) ∷ []); next = NextMark.Again })
    ∷ Event.See 1 1
    ∷ Event.Turn (record (quiet 1 1 0) { sent_c = 12; sent_t = 2; outer = Outer.Desk true; next = NextMark.Done })
    ∷ []

pub two_faults_lawful : is_some (run [] 256 1 two_faults_events) ≡ true
two_faults_lawful = refl

pub two_faults_follows : follows first_surroundings (Some (start [] 256 1)) two_faults two_faults_events ≡ false
two_faults_follows = refl

-- the target alone
abbrev pub one_fault : List ScriptLine
one_fault =
    ScriptLine.Publish all_pass
    ∷ ScriptLine.See 1
    ∷ ScriptLine.Open 1 1 client_at local_at
    ∷ ScriptLine.Dial 1 (Outer.Up (at4 0xC0000209 40000))
    ∷ ScriptLine.Turn 1 1
    ∷ ScriptLine.Room 1 Object.Client 0
    ∷ ScriptLine.Client 1 (0x05 ∷ 0x01 ∷ 0x00 ∷ 0x05 ∷ 0x01 ∷ 0x00 ∷ 0x01 ∷ 0xC6 ∷ 0x33 ∷ 0x64 ∷ 0x0A ∷ 0x00 ∷ 0x50 ∷ 0x61 ∷ 0x62 ∷ [])
    ∷ ScriptLine.Turn 1 1
    ∷ ScriptLine.Room 1 Object.Client 9
    ∷ ScriptLine.Fault 1 Object.Target CallKind.Writing
    ∷ ScriptLine.Turn 1 1
    ∷ []

abbrev pub one_fault_events : List Event
one_fault_events =
    Event.Publish (all_pass)
    ∷ Event.See 1 1
    ∷ Event.Open 1 1 client_at local_at 0
    ∷ Event.Turn (record (quiet 1 1 0) { outer = Outer.Desk true; next = NextMark.Again })
    ∷ Event.Turn (record (quiet 1 1 0) { c = (0x05 ∷ 0x01 ∷ 0x00 ∷ 0x05 ∷ 0x01 ∷ 0x00 ∷ 0x01 ∷ 0xC6 ∷ 0x33 ∷ 0x64 ∷ 0x0A ∷ 0x00 ∷ 0x50 ∷ 0x61 ∷ 0x62 ∷ []); full = (Object.Client ∷ []); outer = Outer.Desk true; next = NextMark.Again })
    ∷ Event.Turn (record (quiet 1 1 0) { outer = Outer.Up (at4 0xC0000209 40000); fault = Some Object.Target; unwritten = true; failed = ((Object.Target, CallKind.Writing) ∷ []); full = ([]); sent_c = 12; next = NextMark.Again })
    ∷ Event.See 1 1
    ∷ Event.Turn (record (quiet 1 1 0) { sent_t = 2; outer = Outer.Desk true; next = NextMark.Done })
    ∷ []

pub one_fault_lawful : is_some (run [] 256 1 one_fault_events) ≡ true
one_fault_lawful = refl

pub one_fault_follows : follows first_surroundings (Some (start [] 256 1)) one_fault one_fault_events ≡ true
one_fault_follows = refl

-- ---- where a script begins

abbrev lines : List ScriptLine
lines = ScriptLine.Workers 3 ∷ ScriptLine.UsersAre abc_user ∷ ScriptLine.Publish all_pass ∷ ScriptLine.See 1 ∷ ScriptLine.Open 1 1 client_at local_at ∷ ScriptLine.Open 2 2 client_at local_at ∷ []

begins_users : users_of lines ≡ abc_user
begins_users = refl

begins_workers : workers_of lines ≡ 3
begins_workers = refl

begins_cap : opens_of lines ≡ 2
begins_cap = refl
