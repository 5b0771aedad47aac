-- CONNECT: what was sent, what was logged, and how it ended.
use Rattle.std.specs.Prelude.{◌≡◌, refl, true, false, Some, None, List, [], ◌∷◌, ◌++◌, codes, replicate}
use Rattle.addr_pattern.specs.declared.addr.Addr.{Addr}
use Rattle.socks_grammar.specs.declared.protocol.Method.{Method}
use Rattle.conf_types.specs.declared.entries.Entries.{Entries}
use Rattle.socks_machine.specs.declared.world.Object.{Object}
use Rattle.socks_machine.specs.declared.world.Outer.{Outer}
use Rattle.socks_machine.specs.declared.world.NextMark.{NextMark}
use Rattle.socks_machine.specs.declared.world.Event.{Event}
use Rattle.socks_machine.proofs.Rows.Shared.{all_pass, config, client_rule, socks_rule, any, net, quiet, told, logged, at4, at6, client_at, local_at, to_one_net}
use Rattle.socks_machine.specs.Step.{fresh}
use Rattle.socks_machine.specs.Socks.{socks}
use Rattle.socks_machine.specs.Phase.{client_payload}

-- the request and payload in one piece
abbrev pub payload_behind : List Event
payload_behind =
    Event.Publish (all_pass)
    ∷ Event.See 1 1
    ∷ Event.Open 1 1 client_at local_at 0
    ∷ Event.Turn (record (quiet 1 1 0) { outer = Outer.Desk true; next = NextMark.Again })
    ∷ Event.Turn (record (quiet 1 1 0) { c = (0x05 ∷ 0x01 ∷ 0x00 ∷ 0x05 ∷ 0x01 ∷ 0x00 ∷ 0x01 ∷ 0xC6 ∷ 0x33 ∷ 0x64 ∷ 0x0A ∷ 0x00 ∷ 0x50 ∷ 0x68 ∷ 0x65 ∷ 0x6C ∷ 0x6C ∷ 0x6F ∷ []); sent_c = 2; outer = Outer.Desk true; next = NextMark.Again })
    ∷ Event.Turn (record (quiet 1 1 0) { outer = Outer.Up (at4 0xC0000209 40000); sent_c = 10; sent_t = 5; next = NextMark.Again })
    ∷ []

pub payload_behind_text : told [] 1 4 payload_behind ≡ (codes "turn 1 1 gen 1 took 18 0 sent 2 0 again" ++ 10 ∷ []) ++ (codes "turn 1 1 gen 1 took 0 0 sent 10 5 again" ++ 10 ∷ []) ++ (codes "client 1 050005000001c00002099c40" ++ 10 ∷ []) ++ (codes "target 1 68656c6c6f" ++ 10 ∷ []) ++ (codes "end 1 open" ++ 10 ∷ [])
payload_behind_text = refl

-- the same, byte by byte
abbrev pub byte_by_byte : List Event
byte_by_byte =
    Event.Publish (all_pass)
    ∷ Event.See 1 1
    ∷ Event.Open 1 1 client_at local_at 0
    ∷ Event.Turn (record (quiet 1 1 0) { outer = Outer.Desk true; next = NextMark.Again })
    ∷ Event.Turn (record (quiet 1 1 0) { c = (0x05 ∷ []); idle = (Object.Client ∷ []); next = NextMark.Wait })
    ∷ Event.Turn (record (quiet 1 1 0) { c = (0x01 ∷ []); idle = (Object.Client ∷ []); next = NextMark.Wait })
    ∷ Event.Turn (record (quiet 1 1 0) { c = (0x00 ∷ []); idle = (Object.Client ∷ []); next = NextMark.Wait; sent_c = 2 })
    ∷ Event.Turn (record (quiet 1 1 0) { c = (0x05 ∷ []); idle = (Object.Client ∷ []); next = NextMark.Wait })
    ∷ Event.Turn (record (quiet 1 1 0) { c = (0x01 ∷ []); idle = (Object.Client ∷ []); next = NextMark.Wait })
    ∷ Event.Turn (record (quiet 1 1 0) { c = (0x00 ∷ []); idle = (Object.Client ∷ []); next = NextMark.Wait })
    ∷ Event.Turn (record (quiet 1 1 0) { c = (0x01 ∷ []); idle = (Object.Client ∷ []); next = NextMark.Wait })
    ∷ Event.Turn (record (quiet 1 1 0) { c = (0xC6 ∷ []); idle = (Object.Client ∷ []); next = NextMark.Wait })
    ∷ Event.Turn (record (quiet 1 1 0) { c = (0x33 ∷ []); idle = (Object.Client ∷ []); next = NextMark.Wait })
    ∷ Event.Turn (record (quiet 1 1 0) { c = (0x64 ∷ []); idle = (Object.Client ∷ []); next = NextMark.Wait })
    ∷ Event.Turn (record (quiet 1 1 0) { c = (0x0A ∷ []); idle = (Object.Client ∷ []); next = NextMark.Wait })
    ∷ Event.Turn (record (quiet 1 1 0) { c = (0x00 ∷ []); idle = (Object.Client ∷ []); next = NextMark.Wait })
    ∷ Event.Turn (record (quiet 1 1 0) { c = (0x50 ∷ []); outer = Outer.Desk true; next = NextMark.Again })
    ∷ Event.Turn (record (quiet 1 1 0) { outer = Outer.Up (at4 0xC0000209 40000); sent_c = 10; next = NextMark.Again })
    ∷ Event.Turn (record (quiet 1 1 0) { c = (0x68 ∷ 0x65 ∷ []); sent_t = 2; idle = (Object.Client ∷ Object.Target ∷ []); next = NextMark.Wait })
    ∷ Event.Turn (record (quiet 1 1 0) { c = (0x6C ∷ []); sent_t = 1; idle = (Object.Client ∷ Object.Target ∷ []); next = NextMark.Wait })
    ∷ Event.Turn (record (quiet 1 1 0) { c = (0x6C ∷ []); sent_t = 1; idle = (Object.Client ∷ Object.Target ∷ []); next = NextMark.Wait })
    ∷ Event.Turn (record (quiet 1 1 0) { c = (0x6F ∷ []); sent_t = 1; idle = (Object.Client ∷ Object.Target ∷ []); next = NextMark.Wait })
    ∷ []

pub byte_by_byte_text : told [] 1 22 byte_by_byte ≡ (codes "client 1 050005000001c00002099c40" ++ 10 ∷ []) ++ (codes "target 1 68656c6c6f" ++ 10 ∷ []) ++ (codes "end 1 open" ++ 10 ∷ [])
byte_by_byte_text = refl

-- no socks rule matches
abbrev pub denied : List Event
denied =
    Event.Publish (to_one_net)
    ∷ Event.See 1 1
    ∷ Event.Open 1 1 client_at local_at 0
    ∷ Event.Turn (record (quiet 1 1 0) { outer = Outer.Desk true; next = NextMark.Again })
    ∷ Event.Turn (record (quiet 1 1 0) { c = (0x05 ∷ 0x01 ∷ 0x00 ∷ []); sent_c = 2; idle = (Object.Client ∷ []); next = NextMark.Wait })
    ∷ Event.Turn (record (quiet 1 1 0) { c = (0x05 ∷ 0x01 ∷ 0x00 ∷ 0x01 ∷ 0xC6 ∷ 0x33 ∷ 0x64 ∷ 0x0A ∷ 0x00 ∷ 0x50 ∷ 0x68 ∷ 0x65 ∷ 0x6C ∷ 0x6C ∷ 0x6F ∷ []); outer = Outer.Desk true; sent_c = 10; next = NextMark.Again })
    ∷ Event.Turn (record (quiet 1 1 0) { outer = Outer.Desk true; next = NextMark.Done })
    ∷ []

pub denied_text : told [] 1 4 denied ≡ (codes "turn 1 1 gen 1 took 3 0 sent 2 0 wait" ++ 10 ∷ []) ++ (codes "turn 1 1 gen 1 took 15 0 sent 10 0 again" ++ 10 ∷ []) ++ (codes "turn 1 1 gen 1 took 0 0 sent 0 0 done denied gen 1 client 1 socks none" ++ 10 ∷ []) ++ (codes "client 1 050005020001000000000000" ++ 10 ∷ []) ++ (codes "target 1 -" ++ 10 ∷ []) ++ (codes "end 1 denied gen 1 client 1 socks none" ++ 10 ∷ [])
denied_text = refl

pub denied_log : logged [] 1 denied ≡ Some ((codes "1 open 1 gen 1 client 1 pass from 10.0.0.5:5000 to 127.0.0.1:1080" ++ 10 ∷ []) ++ (codes "2 grant 1 gen 1 client 1 socks none block connect v5 none user - from 10.0.0.5:5000 to 198.51.100.10:80 name -" ++ 10 ∷ []) ++ (codes "3 close 1 denied gen 1 client 1 socks none took 18 0 sent 12 0" ++ 10 ∷ []))
denied_log = refl

abbrev pub blocks_one_net : Entries
blocks_one_net = config (Method.NoAuth ∷ []) (client_rule false (net 0x0A000000 8) any ∷ client_rule true any any ∷ []) (socks_rule true any any None ∷ []) []

-- the client rule blocks
abbrev pub client_blocked : List Event
client_blocked =
    Event.Publish (blocks_one_net)
    ∷ Event.See 1 1
    ∷ Event.Open 1 1 client_at local_at 0
    ∷ Event.Turn (record (quiet 1 1 0) { outer = Outer.Desk true; next = NextMark.Done })
    ∷ []

pub client_blocked_text : told [] 1 3 client_blocked ≡ (codes "turn 1 1 gen 1 took 0 0 sent 0 0 done clientblocked gen 1 client 1" ++ 10 ∷ []) ++ (codes "client 1 -" ++ 10 ∷ []) ++ (codes "target 1 -" ++ 10 ∷ []) ++ (codes "end 1 clientblocked gen 1 client 1" ++ 10 ∷ [])
client_blocked_text = refl

pub client_blocked_log : logged [] 1 client_blocked ≡ Some ((codes "1 open 1 gen 1 client 1 block from 10.0.0.5:5000 to 127.0.0.1:1080" ++ 10 ∷ []))
client_blocked_log = refl

-- the dial is refused
abbrev pub refused5 : List Event
refused5 =
    Event.Publish (all_pass)
    ∷ Event.See 1 1
    ∷ Event.Open 1 1 client_at local_at 0
    ∷ Event.Turn (record (quiet 1 1 0) { outer = Outer.Desk true; next = NextMark.Again })
    ∷ Event.Turn (record (quiet 1 1 0) { c = (0x05 ∷ 0x01 ∷ 0x00 ∷ 0x05 ∷ 0x01 ∷ 0x00 ∷ 0x01 ∷ 0xC6 ∷ 0x33 ∷ 0x64 ∷ 0x0A ∷ 0x00 ∷ 0x50 ∷ []); sent_c = 2; outer = Outer.Desk true; next = NextMark.Again })
    ∷ Event.Turn (record (quiet 1 1 0) { outer = Outer.Refused; sent_c = 10; next = NextMark.Again })
    ∷ Event.Turn (record (quiet 1 1 0) { outer = Outer.Desk true; next = NextMark.Done })
    ∷ []

pub refused5_text : told [] 1 7 refused5 ≡ (codes "client 1 050005050001000000000000" ++ 10 ∷ []) ++ (codes "target 1 -" ++ 10 ∷ []) ++ (codes "end 1 refused" ++ 10 ∷ [])
refused5_text = refl

abbrev pub refused4 : List Event
refused4 =
    Event.Publish (all_pass)
    ∷ Event.See 1 1
    ∷ Event.Open 1 1 client_at local_at 0
    ∷ Event.Turn (record (quiet 1 1 0) { outer = Outer.Desk true; next = NextMark.Again })
    ∷ Event.Turn (record (quiet 1 1 0) { c = (0x04 ∷ 0x01 ∷ 0x00 ∷ 0x50 ∷ 0xC6 ∷ 0x33 ∷ 0x64 ∷ 0x0A ∷ 0x00 ∷ []); outer = Outer.Desk true; next = NextMark.Again })
    ∷ Event.Turn (record (quiet 1 1 0) { outer = Outer.Refused; sent_c = 8; next = NextMark.Again })
    ∷ Event.Turn (record (quiet 1 1 0) { outer = Outer.Desk true; next = NextMark.Done })
    ∷ []

pub refused4_text : told [] 1 7 refused4 ≡ (codes "client 1 005b000000000000" ++ 10 ∷ []) ++ (codes "target 1 -" ++ 10 ∷ []) ++ (codes "end 1 refused" ++ 10 ∷ [])
refused4_text = refl

-- no method
abbrev pub no_method0 : List Event
no_method0 =
    Event.Publish (all_pass)
    ∷ Event.See 1 1
    ∷ Event.Open 1 1 client_at local_at 0
    ∷ Event.Turn (record (quiet 1 1 0) { outer = Outer.Desk true; next = NextMark.Again })
    ∷ Event.Turn (record (quiet 1 1 0) { c = (0x05 ∷ 0x00 ∷ []); sent_c = 2; outer = Outer.Desk true; next = NextMark.Done })
    ∷ []

pub no_method0_text : told [] 1 4 no_method0 ≡ (codes "turn 1 1 gen 1 took 2 0 sent 2 0 done nomethod" ++ 10 ∷ []) ++ (codes "client 1 05ff" ++ 10 ∷ []) ++ (codes "target 1 -" ++ 10 ∷ []) ++ (codes "end 1 nomethod" ++ 10 ∷ [])
no_method0_text = refl

pub no_method0_log : logged [] 1 no_method0 ≡ Some ((codes "1 open 1 gen 1 client 1 pass from 10.0.0.5:5000 to 127.0.0.1:1080" ++ 10 ∷ []) ++ (codes "2 close 1 nomethod took 2 0 sent 2 0" ++ 10 ∷ []))
no_method0_log = refl

abbrev pub no_method1 : List Event
no_method1 =
    Event.Publish (all_pass)
    ∷ Event.See 1 1
    ∷ Event.Open 1 1 client_at local_at 0
    ∷ Event.Turn (record (quiet 1 1 0) { outer = Outer.Desk true; next = NextMark.Again })
    ∷ Event.Turn (record (quiet 1 1 0) { c = (0x05 ∷ 0x01 ∷ 0x01 ∷ []); sent_c = 2; outer = Outer.Desk true; next = NextMark.Done })
    ∷ []

pub no_method1_text : told [] 1 5 no_method1 ≡ (codes "client 1 05ff" ++ 10 ∷ []) ++ (codes "target 1 -" ++ 10 ∷ []) ++ (codes "end 1 nomethod" ++ 10 ∷ [])
no_method1_text = refl

-- SOCKS 4A
abbrev pub by_name4 : List Event
by_name4 =
    Event.Publish (all_pass)
    ∷ Event.See 1 1
    ∷ Event.Open 1 1 client_at local_at 0
    ∷ Event.Turn (record (quiet 1 1 0) { outer = Outer.Desk true; next = NextMark.Again })
    ∷ Event.Turn (record (quiet 1 1 0) { c = (0x04 ∷ 0x01 ∷ 0x00 ∷ 0x50 ∷ 0x00 ∷ 0x00 ∷ 0x00 ∷ 0x01 ∷ 0x00 ∷ 0x61 ∷ 0x2E ∷ 0x74 ∷ 0x65 ∷ 0x73 ∷ 0x74 ∷ 0x00 ∷ []); outer = Outer.Looked (Some (Addr.V4 0xC633640A)); next = NextMark.Again })
    ∷ Event.Turn (record (quiet 1 1 0) { outer = Outer.Desk true; next = NextMark.Again })
    ∷ Event.Turn (record (quiet 1 1 0) { outer = Outer.Up (at4 0xC0000209 40000); sent_c = 8; next = NextMark.Again })
    ∷ []

pub by_name4_text : told [] 1 7 by_name4 ≡ (codes "client 1 005a000000000000" ++ 10 ∷ []) ++ (codes "target 1 -" ++ 10 ∷ []) ++ (codes "end 1 open" ++ 10 ∷ [])
by_name4_text = refl

pub by_name4_log : logged [] 1 by_name4 ≡ Some ((codes "1 open 1 gen 1 client 1 pass from 10.0.0.5:5000 to 127.0.0.1:1080" ++ 10 ∷ []) ++ (codes "2 grant 1 gen 1 client 1 socks 1 pass connect v4 none user - from 10.0.0.5:5000 to 198.51.100.10:80 name a.test" ++ 10 ∷ []))
by_name4_log = refl

-- a usual request by name
abbrev pub by_name5 : List Event
by_name5 =
    Event.Publish (all_pass)
    ∷ Event.See 1 1
    ∷ Event.Open 1 1 client_at local_at 0
    ∷ Event.Turn (record (quiet 1 1 0) { outer = Outer.Desk true; next = NextMark.Again })
    ∷ Event.Turn (record (quiet 1 1 0) { c = (0x05 ∷ 0x02 ∷ 0x00 ∷ 0x01 ∷ []); sent_c = 2; idle = (Object.Client ∷ []); next = NextMark.Wait })
    ∷ Event.Turn (record (quiet 1 1 0) { c = (0x05 ∷ 0x01 ∷ 0x00 ∷ 0x03 ∷ 0x0F ∷ 0x77 ∷ 0x77 ∷ 0x77 ∷ 0x2E ∷ 0x65 ∷ 0x78 ∷ 0x61 ∷ 0x6D ∷ 0x70 ∷ 0x6C ∷ 0x65 ∷ 0x2E ∷ 0x63 ∷ 0x6F ∷ 0x6D ∷ 0x01 ∷ 0xBB ∷ []); outer = Outer.Looked (Some (Addr.V6 0x20010db8000000000000000000000010)); next = NextMark.Again })
    ∷ Event.Turn (record (quiet 1 1 0) { outer = Outer.Desk true; next = NextMark.Again })
    ∷ Event.Turn (record (quiet 1 1 0) { outer = Outer.Up (at6 0x20010db8000000000000000000000009 40000); sent_c = 22; next = NextMark.Again })
    ∷ []

pub by_name5_text : told [] 1 8 by_name5 ≡ (codes "client 1 05000500000420010db80000000000000000000000099c40" ++ 10 ∷ []) ++ (codes "target 1 -" ++ 10 ∷ []) ++ (codes "end 1 open" ++ 10 ∷ [])
by_name5_text = refl

pub by_name5_log : logged [] 1 by_name5 ≡ Some ((codes "1 open 1 gen 1 client 1 pass from 10.0.0.5:5000 to 127.0.0.1:1080" ++ 10 ∷ []) ++ (codes "2 grant 1 gen 1 client 1 socks 1 pass connect v5 none user - from 10.0.0.5:5000 to [2001:db8::10]:443 name www.example.com" ++ 10 ∷ []))
by_name5_log = refl

abbrev pub not_found : List Event
not_found =
    Event.Publish (all_pass)
    ∷ Event.See 1 1
    ∷ Event.Open 1 1 client_at local_at 0
    ∷ Event.Turn (record (quiet 1 1 0) { outer = Outer.Desk true; next = NextMark.Again })
    ∷ Event.Turn (record (quiet 1 1 0) { c = (0x05 ∷ 0x02 ∷ 0x00 ∷ 0x01 ∷ []); sent_c = 2; idle = (Object.Client ∷ []); next = NextMark.Wait })
    ∷ Event.Turn (record (quiet 1 1 0) { c = (0x05 ∷ 0x01 ∷ 0x00 ∷ 0x03 ∷ 0x0F ∷ 0x77 ∷ 0x77 ∷ 0x77 ∷ 0x2E ∷ 0x65 ∷ 0x78 ∷ 0x61 ∷ 0x6D ∷ 0x70 ∷ 0x6C ∷ 0x65 ∷ 0x2E ∷ 0x63 ∷ 0x6F ∷ 0x6D ∷ 0x01 ∷ 0xBB ∷ []); outer = Outer.Looked None; sent_c = 10; next = NextMark.Again })
    ∷ Event.Turn (record (quiet 1 1 0) { outer = Outer.Desk true; next = NextMark.Done })
    ∷ []

pub not_found_text : told [] 1 7 not_found ≡ (codes "client 1 050005040001000000000000" ++ 10 ∷ []) ++ (codes "target 1 -" ++ 10 ∷ []) ++ (codes "end 1 notfound" ++ 10 ∷ [])
not_found_text = refl

pub not_found_log : logged [] 1 not_found ≡ Some ((codes "1 open 1 gen 1 client 1 pass from 10.0.0.5:5000 to 127.0.0.1:1080" ++ 10 ∷ []) ++ (codes "2 close 1 notfound took 26 0 sent 12 0" ++ 10 ∷ []))
not_found_log = refl

-- bad bytes
abbrev pub bad_request0 : List Event
bad_request0 =
    Event.Publish (all_pass)
    ∷ Event.See 1 1
    ∷ Event.Open 1 1 client_at local_at 0
    ∷ Event.Turn (record (quiet 1 1 0) { outer = Outer.Desk true; next = NextMark.Again })
    ∷ Event.Turn (record (quiet 1 1 0) { c = (0x05 ∷ 0x01 ∷ 0x00 ∷ []); sent_c = 2; idle = (Object.Client ∷ []); next = NextMark.Wait })
    ∷ Event.Turn (record (quiet 1 1 0) { c = (0x05 ∷ 0x04 ∷ []); sent_c = 10; outer = Outer.Desk true; next = NextMark.Done })
    ∷ []

pub bad_request0_text : told [] 1 6 bad_request0 ≡ (codes "client 1 050005070001000000000000" ++ 10 ∷ []) ++ (codes "target 1 -" ++ 10 ∷ []) ++ (codes "end 1 commandunsupported at 4 byte 04" ++ 10 ∷ [])
bad_request0_text = refl

-- bad bytes
abbrev pub bad_request1 : List Event
bad_request1 =
    Event.Publish (all_pass)
    ∷ Event.See 1 1
    ∷ Event.Open 1 1 client_at local_at 0
    ∷ Event.Turn (record (quiet 1 1 0) { outer = Outer.Desk true; next = NextMark.Again })
    ∷ Event.Turn (record (quiet 1 1 0) { c = (0x05 ∷ 0x01 ∷ 0x00 ∷ []); sent_c = 2; idle = (Object.Client ∷ []); next = NextMark.Wait })
    ∷ Event.Turn (record (quiet 1 1 0) { c = (0x05 ∷ 0x01 ∷ 0x00 ∷ 0x02 ∷ []); sent_c = 10; outer = Outer.Desk true; next = NextMark.Done })
    ∷ []

pub bad_request1_text : told [] 1 6 bad_request1 ≡ (codes "client 1 050005080001000000000000" ++ 10 ∷ []) ++ (codes "target 1 -" ++ 10 ∷ []) ++ (codes "end 1 atypunsupported at 6 byte 02" ++ 10 ∷ [])
bad_request1_text = refl

-- bad bytes
abbrev pub bad_request2 : List Event
bad_request2 =
    Event.Publish (all_pass)
    ∷ Event.See 1 1
    ∷ Event.Open 1 1 client_at local_at 0
    ∷ Event.Turn (record (quiet 1 1 0) { outer = Outer.Desk true; next = NextMark.Again })
    ∷ Event.Turn (record (quiet 1 1 0) { c = (0x05 ∷ 0x01 ∷ 0x00 ∷ []); sent_c = 2; idle = (Object.Client ∷ []); next = NextMark.Wait })
    ∷ Event.Turn (record (quiet 1 1 0) { c = (0x05 ∷ 0x01 ∷ 0x00 ∷ 0x03 ∷ 0x00 ∷ []); sent_c = 10; outer = Outer.Desk true; next = NextMark.Done })
    ∷ []

pub bad_request2_text : told [] 1 6 bad_request2 ≡ (codes "client 1 050005010001000000000000" ++ 10 ∷ []) ++ (codes "target 1 -" ++ 10 ∷ []) ++ (codes "end 1 badrequest at 7 byte 00" ++ 10 ∷ [])
bad_request2_text = refl

abbrev pub bad_version : List Event
bad_version =
    Event.Publish (all_pass)
    ∷ Event.See 1 1
    ∷ Event.Open 1 1 client_at local_at 0
    ∷ Event.Turn (record (quiet 1 1 0) { outer = Outer.Desk true; next = NextMark.Again })
    ∷ Event.Turn (record (quiet 1 1 0) { c = (0x47 ∷ []); outer = Outer.Desk true; next = NextMark.Done })
    ∷ []

pub bad_version_text : told [] 1 5 bad_version ≡ (codes "client 1 -" ++ 10 ∷ []) ++ (codes "target 1 -" ++ 10 ∷ []) ++ (codes "end 1 badversion at 0 byte 47" ++ 10 ∷ [])
bad_version_text = refl

-- both directions, the client slow
abbrev pub relayed : List Event
relayed =
    Event.Publish (all_pass)
    ∷ Event.See 1 1
    ∷ Event.Open 1 1 client_at local_at 0
    ∷ Event.Turn (record (quiet 1 1 0) { outer = Outer.Desk true; next = NextMark.Again })
    ∷ Event.Turn (record (quiet 1 1 0) { c = (0x05 ∷ 0x01 ∷ 0x00 ∷ 0x05 ∷ 0x01 ∷ 0x00 ∷ 0x01 ∷ 0xC6 ∷ 0x33 ∷ 0x64 ∷ 0x0A ∷ 0x00 ∷ 0x50 ∷ []); sent_c = 2; outer = Outer.Desk true; next = NextMark.Again })
    ∷ Event.Turn (record (quiet 1 1 0) { outer = Outer.Up (at4 0xC0000209 40000); sent_c = 10; next = NextMark.Again })
    ∷ Event.Turn (record (quiet 1 1 0) { end_c = true; shut_t = true; idle = (Object.Target ∷ []); next = NextMark.Wait })
    ∷ Event.Turn (record (quiet 1 1 0) { t = (0x61 ∷ 0x61 ∷ 0x61 ∷ []); end_t = true; sent_c = 1; full = (Object.Client ∷ []); next = NextMark.Wait })
    ∷ Event.Turn (record (quiet 1 1 0) { sent_c = 2; shut_c = true; outer = Outer.Desk true; next = NextMark.Done })
    ∷ []

pub relayed_text : told [] 1 6 relayed ≡ (codes "turn 1 1 gen 1 took 0 0 sent 0 0 wait" ++ 10 ∷ []) ++ (codes "turn 1 1 gen 1 took 0 3 sent 1 0 wait" ++ 10 ∷ []) ++ (codes "turn 1 1 gen 1 took 0 0 sent 2 0 done finished" ++ 10 ∷ []) ++ (codes "client 1 050005000001c00002099c40616161" ++ 10 ∷ []) ++ (codes "target 1 -" ++ 10 ∷ []) ++ (codes "end 1 finished" ++ 10 ∷ [])
relayed_text = refl

pub relayed_log : logged [] 1 relayed ≡ Some ((codes "1 open 1 gen 1 client 1 pass from 10.0.0.5:5000 to 127.0.0.1:1080" ++ 10 ∷ []) ++ (codes "2 grant 1 gen 1 client 1 socks 1 pass connect v5 none user - from 10.0.0.5:5000 to 198.51.100.10:80 name -" ++ 10 ∷ []) ++ (codes "3 close 1 finished took 13 3 sent 15 0" ++ 10 ∷ []))
relayed_log = refl

-- many bytes
abbrev pub many : List Event
many =
    Event.Publish (all_pass)
    ∷ Event.See 1 1
    ∷ Event.Open 1 1 client_at local_at 0
    ∷ Event.Turn (record (quiet 1 1 0) { outer = Outer.Desk true; next = NextMark.Again })
    ∷ Event.Turn (record (quiet 1 1 0) { c = (0x05 ∷ 0x01 ∷ 0x00 ∷ 0x05 ∷ 0x01 ∷ 0x00 ∷ 0x01 ∷ 0xC6 ∷ 0x33 ∷ 0x64 ∷ 0x0A ∷ 0x00 ∷ 0x50 ∷ []); sent_c = 2; outer = Outer.Desk true; next = NextMark.Again })
    ∷ Event.Turn (record (quiet 1 1 0) { outer = Outer.Up (at4 0xC0000209 40000); sent_c = 10; next = NextMark.Again })
    ∷ Event.Turn (record (quiet 1 1 0) { end_c = true; shut_t = true; idle = (Object.Target ∷ []); next = NextMark.Wait })
    ∷ Event.Turn (record (quiet 1 1 0) { t = (replicate 40000 97); end_t = true; sent_c = 40000; shut_c = true; outer = Outer.Desk true; next = NextMark.Done })
    ∷ []

pub many_log : logged [] 1 many ≡ Some ((codes "1 open 1 gen 1 client 1 pass from 10.0.0.5:5000 to 127.0.0.1:1080" ++ 10 ∷ []) ++ (codes "2 grant 1 gen 1 client 1 socks 1 pass connect v5 none user - from 10.0.0.5:5000 to 198.51.100.10:80 name -" ++ 10 ∷ []) ++ (codes "3 close 1 finished took 13 40000 sent 40012 0" ++ 10 ∷ []))
many_log = refl

pub payload_of_talk : client_payload (socks [] []) (record (fresh 1 client_at local_at 0) { c = 5 ∷ 1 ∷ [] }) ≡ 5 ∷ 1 ∷ []
payload_of_talk = refl
