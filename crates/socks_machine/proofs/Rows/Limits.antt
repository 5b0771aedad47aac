-- Limits of rules, and the generations that they count in.
use Rattle.std.specs.Prelude.{◌≡◌, refl, true, false, Some, List, [], ◌∷◌, ◌++◌, codes, is_some}
use Rattle.socks_machine.specs.declared.world.Outer.{Outer}
use Rattle.socks_machine.specs.declared.world.NextMark.{NextMark}
use Rattle.socks_machine.specs.declared.world.Event.{Event}
use Rattle.socks_machine.proofs.Rows.Shared.{all_pass, quiet, told, logged, at4, client_at, local_at, none_passes, one_by_client_rule, one_by_socks_rule}
use Rattle.socks_machine.specs.Step.{run}

-- session.max
abbrev pub full : List Event
full =
    Event.Publish (one_by_socks_rule)
    ∷ Event.See 1 1
    ∷ Event.See 2 1
    ∷ Event.Open 1 1 client_at local_at 0
    ∷ Event.Open 2 2 client_at local_at 0
    ∷ Event.Turn (record (quiet 1 1 0) { outer = Outer.Desk true; next = NextMark.Again })
    ∷ Event.Turn (record (quiet 2 2 0) { outer = Outer.Desk true; next = NextMark.Again })
    ∷ Event.Turn (record (quiet 1 1 0) { c = (0x05 ∷ 0x01 ∷ 0x00 ∷ 0x05 ∷ 0x01 ∷ 0x00 ∷ 0x01 ∷ 0xC6 ∷ 0x33 ∷ 0x64 ∷ 0x0A ∷ 0x00 ∷ 0x50 ∷ []); sent_c = 2; outer = Outer.Desk true; next = NextMark.Again })
    ∷ Event.Turn (record (quiet 2 2 0) { c = (0x05 ∷ 0x01 ∷ 0x00 ∷ 0x05 ∷ 0x01 ∷ 0x00 ∷ 0x01 ∷ 0xC6 ∷ 0x33 ∷ 0x64 ∷ 0x0A ∷ 0x00 ∷ 0x50 ∷ []); sent_c = 12; outer = Outer.Desk true; next = NextMark.Again })
    ∷ Event.Turn (record (quiet 2 2 0) { outer = Outer.Desk true; next = NextMark.Done })
    ∷ Event.Turn (record (quiet 1 1 0) { outer = Outer.Up (at4 0xC0000209 40000); sent_c = 10; next = NextMark.Again })
    ∷ Event.Turn (record (quiet 1 1 0) { end_c = true; end_t = true; shut_c = true; shut_t = true; outer = Outer.Desk true; next = NextMark.Done })
    ∷ Event.Open 1 3 client_at local_at 0
    ∷ Event.Turn (record (quiet 1 3 0) { outer = Outer.Desk true; next = NextMark.Again })
    ∷ Event.Turn (record (quiet 1 3 0) { c = (0x05 ∷ 0x01 ∷ 0x00 ∷ 0x05 ∷ 0x01 ∷ 0x00 ∷ 0x01 ∷ 0xC6 ∷ 0x33 ∷ 0x64 ∷ 0x0A ∷ 0x00 ∷ 0x50 ∷ []); sent_c = 2; outer = Outer.Desk true; next = NextMark.Again })
    ∷ []

pub full_text : told [] 2 9 full ≡ (codes "turn 2 2 gen 1 took 0 0 sent 0 0 done full gen 1 socks 1 held 1 max 1" ++ 10 ∷ []) ++ (codes "turn 1 1 gen 1 took 0 0 sent 10 0 again" ++ 10 ∷ []) ++ (codes "turn 1 1 gen 1 took 0 0 sent 0 0 done finished" ++ 10 ∷ []) ++ (codes "open 1 3" ++ 10 ∷ []) ++ (codes "turn 1 3 gen 1 took 0 0 sent 0 0 again" ++ 10 ∷ []) ++ (codes "turn 1 3 gen 1 took 13 0 sent 2 0 again" ++ 10 ∷ []) ++ (codes "client 1 050005000001c00002099c40" ++ 10 ∷ []) ++ (codes "target 1 -" ++ 10 ∷ []) ++ (codes "end 1 finished" ++ 10 ∷ []) ++ (codes "client 2 050005020001000000000000" ++ 10 ∷ []) ++ (codes "target 2 -" ++ 10 ∷ []) ++ (codes "end 2 full gen 1 socks 1 held 1 max 1" ++ 10 ∷ []) ++ (codes "client 3 0500" ++ 10 ∷ []) ++ (codes "target 3 -" ++ 10 ∷ []) ++ (codes "end 3 open" ++ 10 ∷ [])
full_text = refl

pub full_log : logged [] 2 full ≡ Some ((codes "1 open 1 gen 1 client 1 pass from 10.0.0.5:5000 to 127.0.0.1:1080" ++ 10 ∷ []) ++ (codes "2 open 2 gen 1 client 1 pass from 10.0.0.5:5000 to 127.0.0.1:1080" ++ 10 ∷ []) ++ (codes "3 grant 1 gen 1 client 1 socks 1 pass connect v5 none user - from 10.0.0.5:5000 to 198.51.100.10:80 name -" ++ 10 ∷ []) ++ (codes "4 grant 2 gen 1 client 1 socks 1 full connect v5 none user - from 10.0.0.5:5000 to 198.51.100.10:80 name - over socks held 1 max 1" ++ 10 ∷ []) ++ (codes "5 close 2 full gen 1 socks 1 held 1 max 1 took 13 0 sent 12 0" ++ 10 ∷ []) ++ (codes "6 close 1 finished took 13 0 sent 12 0" ++ 10 ∷ []) ++ (codes "7 open 3 gen 1 client 1 pass from 10.0.0.5:5000 to 127.0.0.1:1080" ++ 10 ∷ []) ++ (codes "8 grant 3 gen 1 client 1 socks 1 pass connect v5 none user - from 10.0.0.5:5000 to 198.51.100.10:80 name -" ++ 10 ∷ []))
full_log = refl

abbrev pub two_generations : List Event
two_generations =
    Event.Publish (all_pass)
    ∷ Event.See 1 1
    ∷ Event.Publish (none_passes)
    ∷ Event.See 2 2
    ∷ Event.Open 1 1 client_at local_at 0
    ∷ Event.Open 2 2 client_at local_at 0
    ∷ Event.Turn (record (quiet 1 1 0) { outer = Outer.Desk true; next = NextMark.Again })
    ∷ Event.Turn (record (quiet 2 2 0) { outer = Outer.Desk true; next = NextMark.Again })
    ∷ Event.Turn (record (quiet 1 1 0) { c = (0x05 ∷ 0x01 ∷ 0x00 ∷ 0x05 ∷ 0x01 ∷ 0x00 ∷ 0x01 ∷ 0xC6 ∷ 0x33 ∷ 0x64 ∷ 0x0A ∷ 0x00 ∷ 0x50 ∷ []); sent_c = 2; outer = Outer.Desk true; next = NextMark.Again })
    ∷ Event.Turn (record (quiet 2 2 0) { c = (0x05 ∷ 0x01 ∷ 0x00 ∷ 0x05 ∷ 0x01 ∷ 0x00 ∷ 0x01 ∷ 0xC6 ∷ 0x33 ∷ 0x64 ∷ 0x0A ∷ 0x00 ∷ 0x50 ∷ []); sent_c = 12; outer = Outer.Desk true; next = NextMark.Again })
    ∷ Event.Turn (record (quiet 2 2 0) { outer = Outer.Desk true; next = NextMark.Done })
    ∷ []

pub two_generations_text : told [] 2 10 two_generations ≡ (codes "turn 2 2 gen 2 took 0 0 sent 0 0 done denied gen 2 client 1 socks 1" ++ 10 ∷ []) ++ (codes "client 1 0500" ++ 10 ∷ []) ++ (codes "target 1 -" ++ 10 ∷ []) ++ (codes "end 1 open" ++ 10 ∷ []) ++ (codes "client 2 050005020001000000000000" ++ 10 ∷ []) ++ (codes "target 2 -" ++ 10 ∷ []) ++ (codes "end 2 denied gen 2 client 1 socks 1" ++ 10 ∷ [])
two_generations_text = refl

-- held counts one generation
abbrev pub other_generation_client : List Event
other_generation_client =
    Event.Publish (one_by_client_rule)
    ∷ Event.Publish (one_by_client_rule)
    ∷ Event.See 1 1
    ∷ Event.Open 1 1 client_at local_at 0
    ∷ Event.Open 1 2 client_at local_at 0
    ∷ Event.Turn (record (quiet 1 1 0) { outer = Outer.Desk true; next = NextMark.Again })
    ∷ Event.Turn (record (quiet 1 2 0) { outer = Outer.Desk true; next = NextMark.Again })
    ∷ Event.Turn (record (quiet 1 1 0) { c = (0x05 ∷ 0x01 ∷ 0x00 ∷ 0x05 ∷ 0x01 ∷ 0x00 ∷ 0x01 ∷ 0xC6 ∷ 0x33 ∷ 0x64 ∷ 0x0A ∷ 0x00 ∷ 0x50 ∷ []); sent_c = 2; outer = Outer.Desk true; next = NextMark.Again })
    ∷ Event.See 1 2
    ∷ Event.Turn (record (quiet 1 2 0) { c = (0x05 ∷ 0x01 ∷ 0x00 ∷ 0x05 ∷ 0x01 ∷ 0x00 ∷ 0x01 ∷ 0xC6 ∷ 0x33 ∷ 0x64 ∷ 0x0A ∷ 0x00 ∷ 0x50 ∷ []); sent_c = 2; outer = Outer.Desk true; next = NextMark.Again })
    ∷ Event.Turn (record (quiet 1 2 0) { outer = Outer.Up (at4 0xC0000209 40001); sent_c = 10; next = NextMark.Again })
    ∷ []

pub other_generation_client_is : is_some (run [] 256 1 other_generation_client) ≡ true
other_generation_client_is = refl

-- ..
abbrev pub same_generation_client : List Event
same_generation_client =
    Event.Publish (one_by_client_rule)
    ∷ Event.Publish (one_by_client_rule)
    ∷ Event.See 1 1
    ∷ Event.Open 1 1 client_at local_at 0
    ∷ Event.Open 1 2 client_at local_at 0
    ∷ Event.Turn (record (quiet 1 1 0) { outer = Outer.Desk true; next = NextMark.Again })
    ∷ Event.Turn (record (quiet 1 2 0) { outer = Outer.Desk true; next = NextMark.Again })
    ∷ Event.Turn (record (quiet 1 1 0) { c = (0x05 ∷ 0x01 ∷ 0x00 ∷ 0x05 ∷ 0x01 ∷ 0x00 ∷ 0x01 ∷ 0xC6 ∷ 0x33 ∷ 0x64 ∷ 0x0A ∷ 0x00 ∷ 0x50 ∷ []); sent_c = 2; outer = Outer.Desk true; next = NextMark.Again })
    ∷ Event.Turn (record (quiet 1 2 0) { c = (0x05 ∷ 0x01 ∷ 0x00 ∷ 0x05 ∷ 0x01 ∷ 0x00 ∷ 0x01 ∷ 0xC6 ∷ 0x33 ∷ 0x64 ∷ 0x0A ∷ 0x00 ∷ 0x50 ∷ []); sent_c = 2; outer = Outer.Desk true; next = NextMark.Again })
    ∷ Event.Turn (record (quiet 1 2 0) { outer = Outer.Up (at4 0xC0000209 40001); sent_c = 10; next = NextMark.Again })
    ∷ []

pub same_generation_client_is : is_some (run [] 256 1 same_generation_client) ≡ false
same_generation_client_is = refl

-- a full grant holds nothing
abbrev pub full_is_opened_client : List Event
full_is_opened_client =
    Event.Publish (one_by_client_rule)
    ∷ Event.See 1 1
    ∷ Event.Open 1 1 client_at local_at 0
    ∷ Event.Open 1 2 client_at local_at 0
    ∷ Event.Open 1 3 client_at local_at 0
    ∷ Event.Turn (record (quiet 1 1 0) { outer = Outer.Desk true; next = NextMark.Again })
    ∷ Event.Turn (record (quiet 1 2 0) { outer = Outer.Desk true; next = NextMark.Again })
    ∷ Event.Turn (record (quiet 1 3 0) { outer = Outer.Desk true; next = NextMark.Again })
    ∷ Event.Turn (record (quiet 1 1 0) { c = (0x05 ∷ 0x01 ∷ 0x00 ∷ 0x05 ∷ 0x01 ∷ 0x00 ∷ 0x01 ∷ 0xC6 ∷ 0x33 ∷ 0x64 ∷ 0x0A ∷ 0x00 ∷ 0x50 ∷ []); sent_c = 2; outer = Outer.Desk true; next = NextMark.Again })
    ∷ Event.Turn (record (quiet 1 2 0) { c = (0x05 ∷ 0x01 ∷ 0x00 ∷ 0x05 ∷ 0x01 ∷ 0x00 ∷ 0x01 ∷ 0xC6 ∷ 0x33 ∷ 0x64 ∷ 0x0A ∷ 0x00 ∷ 0x50 ∷ []); sent_c = 12; outer = Outer.Desk true; next = NextMark.Again })
    ∷ Event.Turn (record (quiet 1 1 0) { outer = Outer.Refused; sent_c = 10; next = NextMark.Again })
    ∷ Event.Turn (record (quiet 1 1 0) { outer = Outer.Desk true; next = NextMark.Done })
    ∷ Event.Turn (record (quiet 1 3 0) { c = (0x05 ∷ 0x01 ∷ 0x00 ∷ 0x05 ∷ 0x01 ∷ 0x00 ∷ 0x01 ∷ 0xC6 ∷ 0x33 ∷ 0x64 ∷ 0x0A ∷ 0x00 ∷ 0x50 ∷ []); sent_c = 2; outer = Outer.Desk true; next = NextMark.Again })
    ∷ Event.Turn (record (quiet 1 3 0) { outer = Outer.Up (at4 0xC0000209 40001); sent_c = 10; next = NextMark.Again })
    ∷ []

pub full_is_opened_client_is : is_some (run [] 256 1 full_is_opened_client) ≡ true
full_is_opened_client_is = refl

-- held counts one generation
abbrev pub other_generation_socks : List Event
other_generation_socks =
    Event.Publish (one_by_socks_rule)
    ∷ Event.Publish (one_by_socks_rule)
    ∷ Event.See 1 1
    ∷ Event.Open 1 1 client_at local_at 0
    ∷ Event.Open 1 2 client_at local_at 0
    ∷ Event.Turn (record (quiet 1 1 0) { outer = Outer.Desk true; next = NextMark.Again })
    ∷ Event.Turn (record (quiet 1 2 0) { outer = Outer.Desk true; next = NextMark.Again })
    ∷ Event.Turn (record (quiet 1 1 0) { c = (0x05 ∷ 0x01 ∷ 0x00 ∷ 0x05 ∷ 0x01 ∷ 0x00 ∷ 0x01 ∷ 0xC6 ∷ 0x33 ∷ 0x64 ∷ 0x0A ∷ 0x00 ∷ 0x50 ∷ []); sent_c = 2; outer = Outer.Desk true; next = NextMark.Again })
    ∷ Event.See 1 2
    ∷ Event.Turn (record (quiet 1 2 0) { c = (0x05 ∷ 0x01 ∷ 0x00 ∷ 0x05 ∷ 0x01 ∷ 0x00 ∷ 0x01 ∷ 0xC6 ∷ 0x33 ∷ 0x64 ∷ 0x0A ∷ 0x00 ∷ 0x50 ∷ []); sent_c = 2; outer = Outer.Desk true; next = NextMark.Again })
    ∷ Event.Turn (record (quiet 1 2 0) { outer = Outer.Up (at4 0xC0000209 40001); sent_c = 10; next = NextMark.Again })
    ∷ []

pub other_generation_socks_is : is_some (run [] 256 1 other_generation_socks) ≡ true
other_generation_socks_is = refl

-- ..
abbrev pub same_generation_socks : List Event
same_generation_socks =
    Event.Publish (one_by_socks_rule)
    ∷ Event.Publish (one_by_socks_rule)
    ∷ Event.See 1 1
    ∷ Event.Open 1 1 client_at local_at 0
    ∷ Event.Open 1 2 client_at local_at 0
    ∷ Event.Turn (record (quiet 1 1 0) { outer = Outer.Desk true; next = NextMark.Again })
    ∷ Event.Turn (record (quiet 1 2 0) { outer = Outer.Desk true; next = NextMark.Again })
    ∷ Event.Turn (record (quiet 1 1 0) { c = (0x05 ∷ 0x01 ∷ 0x00 ∷ 0x05 ∷ 0x01 ∷ 0x00 ∷ 0x01 ∷ 0xC6 ∷ 0x33 ∷ 0x64 ∷ 0x0A ∷ 0x00 ∷ 0x50 ∷ []); sent_c = 2; outer = Outer.Desk true; next = NextMark.Again })
    ∷ Event.Turn (record (quiet 1 2 0) { c = (0x05 ∷ 0x01 ∷ 0x00 ∷ 0x05 ∷ 0x01 ∷ 0x00 ∷ 0x01 ∷ 0xC6 ∷ 0x33 ∷ 0x64 ∷ 0x0A ∷ 0x00 ∷ 0x50 ∷ []); sent_c = 2; outer = Outer.Desk true; next = NextMark.Again })
    ∷ Event.Turn (record (quiet 1 2 0) { outer = Outer.Up (at4 0xC0000209 40001); sent_c = 10; next = NextMark.Again })
    ∷ []

pub same_generation_socks_is : is_some (run [] 256 1 same_generation_socks) ≡ false
same_generation_socks_is = refl

-- a full grant holds nothing
abbrev pub full_is_opened_socks : List Event
full_is_opened_socks =
    Event.Publish (one_by_socks_rule)
    ∷ Event.See 1 1
    ∷ Event.Open 1 1 client_at local_at 0
    ∷ Event.Open 1 2 client_at local_at 0
    ∷ Event.Open 1 3 client_at local_at 0
    ∷ Event.Turn (record (quiet 1 1 0) { outer = Outer.Desk true; next = NextMark.Again })
    ∷ Event.Turn (record (quiet 1 2 0) { outer = Outer.Desk true; next = NextMark.Again })
    ∷ Event.Turn (record (quiet 1 3 0) { outer = Outer.Desk true; next = NextMark.Again })
    ∷ Event.Turn (record (quiet 1 1 0) { c = (0x05 ∷ 0x01 ∷ 0x00 ∷ 0x05 ∷ 0x01 ∷ 0x00 ∷ 0x01 ∷ 0xC6 ∷ 0x33 ∷ 0x64 ∷ 0x0A ∷ 0x00 ∷ 0x50 ∷ []); sent_c = 2; outer = Outer.Desk true; next = NextMark.Again })
    ∷ Event.Turn (record (quiet 1 2 0) { c = (0x05 ∷ 0x01 ∷ 0x00 ∷ 0x05 ∷ 0x01 ∷ 0x00 ∷ 0x01 ∷ 0xC6 ∷ 0x33 ∷ 0x64 ∷ 0x0A ∷ 0x00 ∷ 0x50 ∷ []); sent_c = 12; outer = Outer.Desk true; next = NextMark.Again })
    ∷ Event.Turn (record (quiet 1 1 0) { outer = Outer.Refused; sent_c = 10; next = NextMark.Again })
    ∷ Event.Turn (record (quiet 1 1 0) { outer = Outer.Desk true; next = NextMark.Done })
    ∷ Event.Turn (record (quiet 1 3 0) { c = (0x05 ∷ 0x01 ∷ 0x00 ∷ 0x05 ∷ 0x01 ∷ 0x00 ∷ 0x01 ∷ 0xC6 ∷ 0x33 ∷ 0x64 ∷ 0x0A ∷ 0x00 ∷ 0x50 ∷ []); sent_c = 2; outer = Outer.Desk true; next = NextMark.Again })
    ∷ Event.Turn (record (quiet 1 3 0) { outer = Outer.Up (at4 0xC0000209 40001); sent_c = 10; next = NextMark.Again })
    ∷ []

pub full_is_opened_socks_is : is_some (run [] 256 1 full_is_opened_socks) ≡ true
full_is_opened_socks_is = refl
