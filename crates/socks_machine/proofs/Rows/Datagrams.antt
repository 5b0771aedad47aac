-- UDP ASSOCIATE: what is sent and dropped, and the order in which datagrams and the client are read.
use Rattle.std.specs.Prelude.{◌≡◌, refl, true, false, Some, None, List, [], ◌∷◌, ◌++◌, codes, replicate, is_some}
use Rattle.socks_grammar.specs.declared.protocol.Method.{Method}
use Rattle.conf_types.specs.declared.entries.Entries.{Entries}
use Rattle.socks_machine.specs.declared.world.Object.{Object}
use Rattle.socks_machine.specs.declared.world.Outer.{Outer}
use Rattle.socks_machine.specs.declared.world.NextMark.{NextMark}
use Rattle.socks_machine.specs.declared.world.Event.{Event}
use Rattle.socks_machine.proofs.Rows.Shared.{config, client_rule, socks_rule, any, net, quiet, told, logged, at4, client_at, local_at, all_pass}
use Rattle.socks_machine.specs.Step.{run}

abbrev pub udp_not_to_one_net : Entries
udp_not_to_one_net = config (Method.NoAuth ∷ []) (client_rule true any any ∷ []) (socks_rule false any (net 0xCB007100 24) None ∷ socks_rule true any any None ∷ []) []

abbrev pub datagrams : List Event
datagrams =
    Event.Publish (udp_not_to_one_net)
    ∷ Event.See 1 1
    ∷ Event.Open 1 1 client_at local_at 0
    ∷ Event.Turn (record (quiet 1 1 0) { outer = Outer.Desk true; next = NextMark.Again })
    ∷ Event.Turn (record (quiet 1 1 0) { c = (0x05 ∷ 0x01 ∷ 0x00 ∷ []); sent_c = 2; idle = (Object.Client ∷ []); next = NextMark.Wait })
    ∷ Event.Turn (record (quiet 1 1 0) { c = (0x05 ∷ 0x03 ∷ 0x00 ∷ 0x01 ∷ 0x00 ∷ 0x00 ∷ 0x00 ∷ 0x00 ∷ 0x00 ∷ 0x00 ∷ []); outer = Outer.Desk true; next = NextMark.Again })
    ∷ Event.Turn (record (quiet 1 1 0) { outer = Outer.Up (at4 0xC0000209 40002); sent_c = 10; next = NextMark.Again })
    ∷ Event.Turn (record (quiet 1 1 0) { grams = (record { peer = (at4 0xC633640A 53); bytes = (0x78 ∷ []); generation = 1 } ∷ record { peer = (at4 0x0A000005 6000); bytes = (0x00 ∷ 0x00 ∷ 0x01 ∷ 0x01 ∷ 0xC6 ∷ 0x33 ∷ 0x64 ∷ 0x0A ∷ 0x00 ∷ 0x35 ∷ 0x61 ∷ []); generation = 1 } ∷ record { peer = (at4 0x0A000005 6000); bytes = (0x00 ∷ 0x00 ∷ 0x00 ∷ 0x01 ∷ 0xCB ∷ 0x00 ∷ 0x71 ∷ 0x01 ∷ 0x00 ∷ 0x35 ∷ 0x62 ∷ []); generation = 1 } ∷ record { peer = (at4 0x0A000005 6000); bytes = (0x00 ∷ 0x00 ∷ 0x00 ∷ 0x01 ∷ 0xC6 ∷ 0x33 ∷ 0x64 ∷ 0x0A ∷ 0x00 ∷ 0x35 ∷ 0x63 ∷ []); generation = 1 } ∷ record { peer = (at4 0xC633640A 53); bytes = (0x64 ∷ []); generation = 1 } ∷ record { peer = (at4 0xC633640A 53); bytes = (replicate 65498 0); generation = 1 } ∷ []); sent_u = 2; idle = (Object.Port ∷ Object.Client ∷ []); next = NextMark.Wait })
    ∷ Event.Turn (record (quiet 1 1 0) { idle = (Object.Port ∷ []); end_c = true; outer = Outer.Desk true; next = NextMark.Done })
    ∷ []

pub datagrams_text : told [] 1 7 datagrams ≡ (codes "turn 1 1 gen 1 took 0 6 sent 0 2 wait" ++ 10 ∷ []) ++ (codes "turn 1 1 gen 1 took 0 0 sent 0 0 done finished" ++ 10 ∷ []) ++ (codes "client 1 050005000001c00002099c42" ++ 10 ∷ []) ++ (codes "target 1 -" ++ 10 ∷ []) ++ (codes "datagram 1 198.51.100.10:53 63" ++ 10 ∷ []) ++ (codes "datagram 1 10.0.0.5:6000 00000001c633640a003564" ++ 10 ∷ []) ++ (codes "drops 1 rule 1 header 0 frag 1 source 1 length 1 name 0" ++ 10 ∷ []) ++ (codes "end 1 finished" ++ 10 ∷ [])
datagrams_text = refl

abbrev pub datagrams_small : List Event
datagrams_small =
    Event.Publish (udp_not_to_one_net)
    ∷ Event.See 1 1
    ∷ Event.Open 1 1 client_at local_at 0
    ∷ Event.Turn (record (quiet 1 1 0) { outer = Outer.Desk true; next = NextMark.Again })
    ∷ Event.Turn (record (quiet 1 1 0) { c = (0x05 ∷ 0x01 ∷ 0x00 ∷ []); sent_c = 2; idle = (Object.Client ∷ []); next = NextMark.Wait })
    ∷ Event.Turn (record (quiet 1 1 0) { c = (0x05 ∷ 0x03 ∷ 0x00 ∷ 0x01 ∷ 0x00 ∷ 0x00 ∷ 0x00 ∷ 0x00 ∷ 0x00 ∷ 0x00 ∷ []); outer = Outer.Desk true; next = NextMark.Again })
    ∷ Event.Turn (record (quiet 1 1 0) { outer = Outer.Up (at4 0xC0000209 40002); sent_c = 10; next = NextMark.Again })
    ∷ Event.Turn (record (quiet 1 1 0) { grams = (record { peer = (at4 0xC633640A 53); bytes = (0x78 ∷ []); generation = 1 } ∷ record { peer = (at4 0x0A000005 6000); bytes = (0x00 ∷ 0x00 ∷ 0x01 ∷ 0x01 ∷ 0xC6 ∷ 0x33 ∷ 0x64 ∷ 0x0A ∷ 0x00 ∷ 0x35 ∷ 0x61 ∷ []); generation = 1 } ∷ record { peer = (at4 0x0A000005 6000); bytes = (0x00 ∷ 0x00 ∷ 0x00 ∷ 0x01 ∷ 0xCB ∷ 0x00 ∷ 0x71 ∷ 0x01 ∷ 0x00 ∷ 0x35 ∷ 0x62 ∷ []); generation = 1 } ∷ record { peer = (at4 0x0A000005 6000); bytes = (0x00 ∷ 0x00 ∷ 0x00 ∷ 0x01 ∷ 0xC6 ∷ 0x33 ∷ 0x64 ∷ 0x0A ∷ 0x00 ∷ 0x35 ∷ 0x63 ∷ []); generation = 1 } ∷ record { peer = (at4 0xC633640A 53); bytes = (0x64 ∷ []); generation = 1 } ∷ record { peer = (at4 0xC633640A 53); bytes = (replicate 0 0); generation = 1 } ∷ []); sent_u = 3; idle = (Object.Port ∷ Object.Client ∷ []); next = NextMark.Wait })
    ∷ Event.Turn (record (quiet 1 1 0) { idle = (Object.Port ∷ []); end_c = true; outer = Outer.Desk true; next = NextMark.Done })
    ∷ []

pub datagrams_small_text : told [] 1 7 datagrams_small ≡ (codes "turn 1 1 gen 1 took 0 6 sent 0 3 wait" ++ 10 ∷ []) ++ (codes "turn 1 1 gen 1 took 0 0 sent 0 0 done finished" ++ 10 ∷ []) ++ (codes "client 1 050005000001c00002099c42" ++ 10 ∷ []) ++ (codes "target 1 -" ++ 10 ∷ []) ++ (codes "datagram 1 198.51.100.10:53 63" ++ 10 ∷ []) ++ (codes "datagram 1 10.0.0.5:6000 00000001c633640a003564" ++ 10 ∷ []) ++ (codes "datagram 1 10.0.0.5:6000 00000001c633640a0035" ++ 10 ∷ []) ++ (codes "drops 1 rule 1 header 0 frag 1 source 1 length 0 name 0" ++ 10 ∷ []) ++ (codes "end 1 finished" ++ 10 ∷ [])
datagrams_small_text = refl

pub datagrams_small_log : logged [] 1 datagrams_small ≡ Some ((codes "1 open 1 gen 1 client 1 pass from 10.0.0.5:5000 to 127.0.0.1:1080" ++ 10 ∷ []) ++ (codes "2 grant 1 gen 1 client 1 socks 2 pass udpassociate v5 none user - from 10.0.0.5:5000 to 0.0.0.0:0 name -" ++ 10 ∷ []) ++ (codes "3 close 1 finished took 13 6 sent 12 3" ++ 10 ∷ []))
datagrams_small_log = refl

-- a datagram is unsent and the port took none
abbrev pub port_full_unsent : List Event
port_full_unsent =
    Event.Publish (all_pass)
    ∷ Event.See 1 1
    ∷ Event.Open 1 1 client_at local_at 0
    ∷ Event.Turn (record (quiet 1 1 0) { outer = Outer.Desk true; next = NextMark.Again })
    ∷ Event.Turn (record (quiet 1 1 0) { c = (0x05 ∷ 0x01 ∷ 0x00 ∷ 0x05 ∷ 0x03 ∷ 0x00 ∷ 0x01 ∷ 0x00 ∷ 0x00 ∷ 0x00 ∷ 0x00 ∷ 0x00 ∷ 0x00 ∷ []); sent_c = 2; outer = Outer.Desk true; next = NextMark.Again })
    ∷ Event.Turn (record (quiet 1 1 0) { outer = Outer.Up (at4 0xC0000209 40002); sent_c = 10; next = NextMark.Again })
    ∷ Event.Turn (record (quiet 1 1 0) { grams = (record { peer = (at4 0x0A000005 6000); bytes = (0x00 ∷ 0x00 ∷ 0x00 ∷ 0x01 ∷ 0xC6 ∷ 0x33 ∷ 0x64 ∷ 0x0A ∷ 0x00 ∷ 0x35 ∷ 0x63 ∷ []); generation = 1 } ∷ []); full = (Object.Port ∷ []); idle = (Object.Client ∷ []); next = NextMark.Wait })
    ∷ []

pub port_full_unsent_is : is_some (run [] 256 1 port_full_unsent) ≡ true
port_full_unsent_is = refl

-- nothing is unsent: the port has to answer NotYet to recv
abbrev pub port_full_nothing : List Event
port_full_nothing =
    Event.Publish (all_pass)
    ∷ Event.See 1 1
    ∷ Event.Open 1 1 client_at local_at 0
    ∷ Event.Turn (record (quiet 1 1 0) { outer = Outer.Desk true; next = NextMark.Again })
    ∷ Event.Turn (record (quiet 1 1 0) { c = (0x05 ∷ 0x01 ∷ 0x00 ∷ 0x05 ∷ 0x03 ∷ 0x00 ∷ 0x01 ∷ 0x00 ∷ 0x00 ∷ 0x00 ∷ 0x00 ∷ 0x00 ∷ 0x00 ∷ []); sent_c = 2; outer = Outer.Desk true; next = NextMark.Again })
    ∷ Event.Turn (record (quiet 1 1 0) { outer = Outer.Up (at4 0xC0000209 40002); sent_c = 10; next = NextMark.Again })
    ∷ Event.Turn (record (quiet 1 1 0) { full = (Object.Port ∷ []); idle = (Object.Client ∷ []); next = NextMark.Wait })
    ∷ []

pub port_full_nothing_is : is_some (run [] 256 1 port_full_nothing) ≡ false
port_full_nothing_is = refl

-- .. and the client has to answer NotYet too
abbrev pub port_full_client : List Event
port_full_client =
    Event.Publish (all_pass)
    ∷ Event.See 1 1
    ∷ Event.Open 1 1 client_at local_at 0
    ∷ Event.Turn (record (quiet 1 1 0) { outer = Outer.Desk true; next = NextMark.Again })
    ∷ Event.Turn (record (quiet 1 1 0) { c = (0x05 ∷ 0x01 ∷ 0x00 ∷ 0x05 ∷ 0x03 ∷ 0x00 ∷ 0x01 ∷ 0x00 ∷ 0x00 ∷ 0x00 ∷ 0x00 ∷ 0x00 ∷ 0x00 ∷ []); sent_c = 2; outer = Outer.Desk true; next = NextMark.Again })
    ∷ Event.Turn (record (quiet 1 1 0) { outer = Outer.Up (at4 0xC0000209 40002); sent_c = 10; next = NextMark.Again })
    ∷ Event.Turn (record (quiet 1 1 0) { grams = (record { peer = (at4 0x0A000005 6000); bytes = (0x00 ∷ 0x00 ∷ 0x00 ∷ 0x01 ∷ 0xC6 ∷ 0x33 ∷ 0x64 ∷ 0x0A ∷ 0x00 ∷ 0x35 ∷ 0x63 ∷ []); generation = 1 } ∷ []); full = (Object.Port ∷ []); next = NextMark.Wait })
    ∷ []

pub port_full_client_is : is_some (run [] 256 1 port_full_client) ≡ false
port_full_client_is = refl

-- nothing is received while a datagram is unsent
abbrev pub unsent_then_more : List Event
unsent_then_more =
    Event.Publish (all_pass)
    ∷ Event.See 1 1
    ∷ Event.Open 1 1 client_at local_at 0
    ∷ Event.Turn (record (quiet 1 1 0) { outer = Outer.Desk true; next = NextMark.Again })
    ∷ Event.Turn (record (quiet 1 1 0) { c = (0x05 ∷ 0x01 ∷ 0x00 ∷ 0x05 ∷ 0x03 ∷ 0x00 ∷ 0x01 ∷ 0x00 ∷ 0x00 ∷ 0x00 ∷ 0x00 ∷ 0x00 ∷ 0x00 ∷ []); sent_c = 2; outer = Outer.Desk true; next = NextMark.Again })
    ∷ Event.Turn (record (quiet 1 1 0) { outer = Outer.Up (at4 0xC0000209 40002); sent_c = 10; next = NextMark.Again })
    ∷ Event.Turn (record (quiet 1 1 0) { grams = (record { peer = (at4 0x0A000005 6000); bytes = (0x00 ∷ 0x00 ∷ 0x00 ∷ 0x01 ∷ 0xC6 ∷ 0x33 ∷ 0x64 ∷ 0x0A ∷ 0x00 ∷ 0x35 ∷ 0x63 ∷ []); generation = 1 } ∷ []); full = (Object.Port ∷ []); idle = (Object.Client ∷ []); next = NextMark.Wait })
    ∷ Event.Turn (record (quiet 1 1 0) { grams = (record { peer = (at4 0x0A000005 6000); bytes = (0x00 ∷ 0x00 ∷ 0x01 ∷ 0x01 ∷ 0xC6 ∷ 0x33 ∷ 0x64 ∷ 0x0A ∷ 0x00 ∷ 0x35 ∷ 0x63 ∷ []); generation = 1 } ∷ []); full = (Object.Port ∷ []); idle = (Object.Client ∷ []); next = NextMark.Wait })
    ∷ []

pub unsent_then_more_is : is_some (run [] 256 1 unsent_then_more) ≡ false
unsent_then_more_is = refl

-- .. but behind its sending: one is unsent again
abbrev pub unsent_then_sent : List Event
unsent_then_sent =
    Event.Publish (all_pass)
    ∷ Event.See 1 1
    ∷ Event.Open 1 1 client_at local_at 0
    ∷ Event.Turn (record (quiet 1 1 0) { outer = Outer.Desk true; next = NextMark.Again })
    ∷ Event.Turn (record (quiet 1 1 0) { c = (0x05 ∷ 0x01 ∷ 0x00 ∷ 0x05 ∷ 0x03 ∷ 0x00 ∷ 0x01 ∷ 0x00 ∷ 0x00 ∷ 0x00 ∷ 0x00 ∷ 0x00 ∷ 0x00 ∷ []); sent_c = 2; outer = Outer.Desk true; next = NextMark.Again })
    ∷ Event.Turn (record (quiet 1 1 0) { outer = Outer.Up (at4 0xC0000209 40002); sent_c = 10; next = NextMark.Again })
    ∷ Event.Turn (record (quiet 1 1 0) { grams = (record { peer = (at4 0x0A000005 6000); bytes = (0x00 ∷ 0x00 ∷ 0x00 ∷ 0x01 ∷ 0xC6 ∷ 0x33 ∷ 0x64 ∷ 0x0A ∷ 0x00 ∷ 0x35 ∷ 0x63 ∷ []); generation = 1 } ∷ []); full = (Object.Port ∷ []); idle = (Object.Client ∷ []); next = NextMark.Wait })
    ∷ Event.Turn (record (quiet 1 1 0) { grams = (record { peer = (at4 0x0A000005 6000); bytes = (0x00 ∷ 0x00 ∷ 0x01 ∷ 0x01 ∷ 0xC6 ∷ 0x33 ∷ 0x64 ∷ 0x0A ∷ 0x00 ∷ 0x35 ∷ 0x63 ∷ []); generation = 1 } ∷ record { peer = (at4 0x0A000005 6000); bytes = (0x00 ∷ 0x00 ∷ 0x00 ∷ 0x01 ∷ 0xC6 ∷ 0x33 ∷ 0x64 ∷ 0x0A ∷ 0x00 ∷ 0x35 ∷ 0x63 ∷ []); generation = 1 } ∷ []); sent_u = 1; full = (Object.Port ∷ []); idle = (Object.Client ∷ []); next = NextMark.Wait })
    ∷ []

pub unsent_then_sent_is : is_some (run [] 256 1 unsent_then_sent) ≡ true
unsent_then_sent_is = refl

-- two are unsent
abbrev pub two_unsent : List Event
two_unsent =
    Event.Publish (all_pass)
    ∷ Event.See 1 1
    ∷ Event.Open 1 1 client_at local_at 0
    ∷ Event.Turn (record (quiet 1 1 0) { outer = Outer.Desk true; next = NextMark.Again })
    ∷ Event.Turn (record (quiet 1 1 0) { c = (0x05 ∷ 0x01 ∷ 0x00 ∷ 0x05 ∷ 0x03 ∷ 0x00 ∷ 0x01 ∷ 0x00 ∷ 0x00 ∷ 0x00 ∷ 0x00 ∷ 0x00 ∷ 0x00 ∷ []); sent_c = 2; outer = Outer.Desk true; next = NextMark.Again })
    ∷ Event.Turn (record (quiet 1 1 0) { outer = Outer.Up (at4 0xC0000209 40002); sent_c = 10; next = NextMark.Again })
    ∷ Event.Turn (record (quiet 1 1 0) { grams = (record { peer = (at4 0x0A000005 6000); bytes = (0x00 ∷ 0x00 ∷ 0x00 ∷ 0x01 ∷ 0xC6 ∷ 0x33 ∷ 0x64 ∷ 0x0A ∷ 0x00 ∷ 0x35 ∷ 0x63 ∷ []); generation = 1 } ∷ record { peer = (at4 0x0A000005 6000); bytes = (0x00 ∷ 0x00 ∷ 0x00 ∷ 0x01 ∷ 0xC6 ∷ 0x33 ∷ 0x64 ∷ 0x0A ∷ 0x00 ∷ 0x35 ∷ 0x63 ∷ []); generation = 1 } ∷ []); full = (Object.Port ∷ []); idle = (Object.Client ∷ []); next = NextMark.Wait })
    ∷ []

pub two_unsent_is : is_some (run [] 256 1 two_unsent) ≡ false
two_unsent_is = refl

-- the client ends while a datagram is unsent: Finished
abbrev pub unsent_end : List Event
unsent_end =
    Event.Publish (all_pass)
    ∷ Event.See 1 1
    ∷ Event.Open 1 1 client_at local_at 0
    ∷ Event.Turn (record (quiet 1 1 0) { outer = Outer.Desk true; next = NextMark.Again })
    ∷ Event.Turn (record (quiet 1 1 0) { c = (0x05 ∷ 0x01 ∷ 0x00 ∷ 0x05 ∷ 0x03 ∷ 0x00 ∷ 0x01 ∷ 0x00 ∷ 0x00 ∷ 0x00 ∷ 0x00 ∷ 0x00 ∷ 0x00 ∷ []); sent_c = 2; outer = Outer.Desk true; next = NextMark.Again })
    ∷ Event.Turn (record (quiet 1 1 0) { outer = Outer.Up (at4 0xC0000209 40002); sent_c = 10; next = NextMark.Again })
    ∷ Event.Turn (record (quiet 1 1 0) { grams = (record { peer = (at4 0x0A000005 6000); bytes = (0x00 ∷ 0x00 ∷ 0x00 ∷ 0x01 ∷ 0xC6 ∷ 0x33 ∷ 0x64 ∷ 0x0A ∷ 0x00 ∷ 0x35 ∷ 0x63 ∷ []); generation = 1 } ∷ []); full = (Object.Port ∷ []); end_c = true; outer = Outer.Desk true; next = NextMark.Done })
    ∷ []

pub unsent_end_is : is_some (run [] 256 1 unsent_end) ≡ true
unsent_end_is = refl

-- the client is read before the port answered NotYet
abbrev pub udp_client_first : List Event
udp_client_first =
    Event.Publish (all_pass)
    ∷ Event.See 1 1
    ∷ Event.Open 1 1 client_at local_at 0
    ∷ Event.Turn (record (quiet 1 1 0) { outer = Outer.Desk true; next = NextMark.Again })
    ∷ Event.Turn (record (quiet 1 1 0) { c = (0x05 ∷ 0x01 ∷ 0x00 ∷ 0x05 ∷ 0x03 ∷ 0x00 ∷ 0x01 ∷ 0x00 ∷ 0x00 ∷ 0x00 ∷ 0x00 ∷ 0x00 ∷ 0x00 ∷ []); sent_c = 2; outer = Outer.Desk true; next = NextMark.Again })
    ∷ Event.Turn (record (quiet 1 1 0) { outer = Outer.Up (at4 0xC0000209 40002); sent_c = 10; next = NextMark.Again })
    ∷ Event.Turn (record (quiet 1 1 0) { c = (0x61 ∷ []); idle = (Object.Client ∷ []); next = NextMark.Again })
    ∷ []

pub udp_client_first_is : is_some (run [] 256 1 udp_client_first) ≡ false
udp_client_first_is = refl

-- .. nor its end
abbrev pub udp_no_idle_end : List Event
udp_no_idle_end =
    Event.Publish (all_pass)
    ∷ Event.See 1 1
    ∷ Event.Open 1 1 client_at local_at 0
    ∷ Event.Turn (record (quiet 1 1 0) { outer = Outer.Desk true; next = NextMark.Again })
    ∷ Event.Turn (record (quiet 1 1 0) { c = (0x05 ∷ 0x01 ∷ 0x00 ∷ 0x05 ∷ 0x03 ∷ 0x00 ∷ 0x01 ∷ 0x00 ∷ 0x00 ∷ 0x00 ∷ 0x00 ∷ 0x00 ∷ 0x00 ∷ []); sent_c = 2; outer = Outer.Desk true; next = NextMark.Again })
    ∷ Event.Turn (record (quiet 1 1 0) { outer = Outer.Up (at4 0xC0000209 40002); sent_c = 10; next = NextMark.Again })
    ∷ Event.Turn (record (quiet 1 1 0) { end_c = true; outer = Outer.Desk true; next = NextMark.Done })
    ∷ []

pub udp_no_idle_end_is : is_some (run [] 256 1 udp_no_idle_end) ≡ false
udp_no_idle_end_is = refl
