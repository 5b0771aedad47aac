-- CONNECT through a proxy: what is said to it, and what becomes of its replies.
use Rattle.std.specs.Prelude.{◌≡◌, refl, true, None, List, [], ◌∷◌, ◌++◌, codes, false, Some, length, is_some}
use Rattle.socks_machine.specs.declared.world.Object.{Object}
use Rattle.socks_machine.specs.declared.world.Outer.{Outer}
use Rattle.socks_machine.specs.declared.world.NextMark.{NextMark}
use Rattle.socks_machine.specs.declared.world.Event.{Event}
use Rattle.socks_machine.proofs.Rows.Shared.{quiet, told, at4, client_at, local_at, all_pass, gone_to, through_proxy4, through_proxy5}
use Rattle.addr_pattern.specs.declared.addr.Addr.{Addr}
use Rattle.socks_grammar.specs.declared.protocol.Version.{Version}
use Rattle.socks_machine.specs.Step.{run}
use Rattle.socks_grammar.specs.Dialogue.{said}
use Rattle.addr_pattern.specs.declared.host.Host.{Host}

abbrev pub proxy_v4 : List Event
proxy_v4 =
    Event.Publish (through_proxy4)
    ∷ Event.See 1 1
    ∷ Event.Open 1 1 client_at local_at 0
    ∷ Event.Turn (record (quiet 1 1 0) { outer = Outer.Desk true; next = NextMark.Again })
    ∷ Event.Turn (record (quiet 1 1 0) { c = (0x05 ∷ 0x01 ∷ 0x00 ∷ 0x05 ∷ 0x01 ∷ 0x00 ∷ 0x01 ∷ 0xC6 ∷ 0x33 ∷ 0x64 ∷ 0x0A ∷ 0x00 ∷ 0x50 ∷ []); sent_c = 2; outer = Outer.Desk true; next = NextMark.Again })
    ∷ Event.Turn (record (quiet 1 1 0) { outer = Outer.Up (at4 0xC0000209 40000); sent_t = 9; next = NextMark.Again })
    ∷ Event.Turn (record (quiet 1 1 0) { t = (0x00 ∷ 0x5A ∷ 0x00 ∷ 0x00 ∷ 0x00 ∷ 0x00 ∷ 0x00 ∷ 0x00 ∷ []); sent_c = 10; idle = (Object.Client ∷ Object.Target ∷ []); next = NextMark.Wait })
    ∷ []

pub proxy_v4_text : told [] 1 7 proxy_v4 ≡ (codes "client 1 050005000001000000000000" ++ 10 ∷ []) ++ (codes "target 1 04010050c633640a00" ++ 10 ∷ []) ++ (codes "end 1 open" ++ 10 ∷ [])
proxy_v4_text = refl

abbrev pub proxy_v5 : List Event
proxy_v5 =
    Event.Publish (through_proxy5)
    ∷ Event.See 1 1
    ∷ Event.Open 1 1 client_at local_at 0
    ∷ Event.Turn (record (quiet 1 1 0) { outer = Outer.Desk true; next = NextMark.Again })
    ∷ Event.Turn (record (quiet 1 1 0) { c = (0x05 ∷ 0x01 ∷ 0x00 ∷ 0x05 ∷ 0x01 ∷ 0x00 ∷ 0x01 ∷ 0xC6 ∷ 0x33 ∷ 0x64 ∷ 0x0A ∷ 0x00 ∷ 0x50 ∷ []); sent_c = 2; outer = Outer.Desk true; next = NextMark.Again })
    ∷ Event.Turn (record (quiet 1 1 0) { outer = Outer.Up (at4 0xC0000209 40000); sent_t = 3; next = NextMark.Again })
    ∷ Event.Turn (record (quiet 1 1 0) { t = (0x05 ∷ 0x00 ∷ []); sent_t = 10; idle = (Object.Target ∷ []); next = NextMark.Wait })
    ∷ Event.Turn (record (quiet 1 1 0) { t = (0x05 ∷ 0x00 ∷ 0x00 ∷ 0x01 ∷ 0xC0 ∷ 0x00 ∷ 0x02 ∷ 0x01 ∷ 0x00 ∷ 0x01 ∷ 0x68 ∷ 0x69 ∷ []); c = (0x78 ∷ 0x79 ∷ []); sent_c = 12; sent_t = 2; idle = (Object.Client ∷ Object.Target ∷ []); next = NextMark.Wait })
    ∷ []

pub proxy_v5_text : told [] 1 8 proxy_v5 ≡ (codes "client 1 050005000001c000020100016869" ++ 10 ∷ []) ++ (codes "target 1 05010005010001c633640a00507879" ++ 10 ∷ []) ++ (codes "end 1 open" ++ 10 ∷ [])
proxy_v5_text = refl

abbrev pub proxy_refuses : List Event
proxy_refuses =
    Event.Publish (through_proxy5)
    ∷ Event.See 1 1
    ∷ Event.Open 1 1 client_at local_at 0
    ∷ Event.Turn (record (quiet 1 1 0) { outer = Outer.Desk true; next = NextMark.Again })
    ∷ Event.Turn (record (quiet 1 1 0) { c = (0x05 ∷ 0x01 ∷ 0x00 ∷ 0x05 ∷ 0x01 ∷ 0x00 ∷ 0x01 ∷ 0xC6 ∷ 0x33 ∷ 0x64 ∷ 0x0A ∷ 0x00 ∷ 0x50 ∷ []); sent_c = 2; outer = Outer.Desk true; next = NextMark.Again })
    ∷ Event.Turn (record (quiet 1 1 0) { outer = Outer.Up (at4 0xC0000209 40000); sent_t = 3; next = NextMark.Again })
    ∷ Event.Turn (record (quiet 1 1 0) { t = (0x05 ∷ 0x00 ∷ []); sent_t = 10; idle = (Object.Target ∷ []); next = NextMark.Wait })
    ∷ Event.Turn (record (quiet 1 1 0) { t = (0x05 ∷ 0x04 ∷ []); sent_c = 10; outer = Outer.Desk true; next = NextMark.Done })
    ∷ []

pub proxy_refuses_text : told [] 1 8 proxy_refuses ≡ (codes "client 1 050005040001000000000000" ++ 10 ∷ []) ++ (codes "target 1 05010005010001c633640a0050" ++ 10 ∷ []) ++ (codes "end 1 upstream reply 04" ++ 10 ∷ [])
proxy_refuses_text = refl

abbrev pub proxy_ends : List Event
proxy_ends =
    Event.Publish (through_proxy5)
    ∷ Event.See 1 1
    ∷ Event.Open 1 1 client_at local_at 0
    ∷ Event.Turn (record (quiet 1 1 0) { outer = Outer.Desk true; next = NextMark.Again })
    ∷ Event.Turn (record (quiet 1 1 0) { c = (0x05 ∷ 0x01 ∷ 0x00 ∷ 0x05 ∷ 0x01 ∷ 0x00 ∷ 0x01 ∷ 0xC6 ∷ 0x33 ∷ 0x64 ∷ 0x0A ∷ 0x00 ∷ 0x50 ∷ []); sent_c = 2; outer = Outer.Desk true; next = NextMark.Again })
    ∷ Event.Turn (record (quiet 1 1 0) { outer = Outer.Up (at4 0xC0000209 40000); sent_t = 3; next = NextMark.Again })
    ∷ Event.Turn (record (quiet 1 1 0) { t = (0x05 ∷ []); end_t = true; sent_c = 10; outer = Outer.Desk true; next = NextMark.Done })
    ∷ []

pub proxy_ends_text : told [] 1 7 proxy_ends ≡ (codes "client 1 050005010001000000000000" ++ 10 ∷ []) ++ (codes "target 1 050100" ++ 10 ∷ []) ++ (codes "end 1 upstreambad at 1 end" ++ 10 ∷ [])
proxy_ends_text = refl

-- no login is configured and the proxy answers method 02: two bytes taken
abbrev pub no_login_head : List Event
no_login_head =
    Event.Publish (through_proxy5)
    ∷ Event.See 1 1
    ∷ Event.Open 1 1 client_at local_at 0
    ∷ Event.Turn (record (quiet 1 1 0) { outer = Outer.Desk true; next = NextMark.Again })
    ∷ Event.Turn (record (quiet 1 1 0) { c = (0x05 ∷ 0x01 ∷ 0x00 ∷ 0x05 ∷ 0x01 ∷ 0x00 ∷ 0x01 ∷ 0xC6 ∷ 0x33 ∷ 0x64 ∷ 0x0A ∷ 0x00 ∷ 0x50 ∷ []); sent_c = 2; outer = Outer.Desk true; next = NextMark.Again })
    ∷ Event.Turn (record (quiet 1 1 0) { outer = Outer.Up (at4 0xC0000209 40000); sent_t = 3; next = NextMark.Again })
    ∷ Event.Turn (record (quiet 1 1 0) { t = (0x05 ∷ 0x02 ∷ []); sent_c = 10; outer = Outer.Desk true; next = NextMark.Done })
    ∷ []

pub no_login_head_is : is_some (run [] 256 1 no_login_head) ≡ true
no_login_head_is = refl

-- the same with 0100 behind it in one taking: nothing is owed behind the refusal
abbrev pub no_login_all : List Event
no_login_all =
    Event.Publish (through_proxy5)
    ∷ Event.See 1 1
    ∷ Event.Open 1 1 client_at local_at 0
    ∷ Event.Turn (record (quiet 1 1 0) { outer = Outer.Desk true; next = NextMark.Again })
    ∷ Event.Turn (record (quiet 1 1 0) { c = (0x05 ∷ 0x01 ∷ 0x00 ∷ 0x05 ∷ 0x01 ∷ 0x00 ∷ 0x01 ∷ 0xC6 ∷ 0x33 ∷ 0x64 ∷ 0x0A ∷ 0x00 ∷ 0x50 ∷ []); sent_c = 2; outer = Outer.Desk true; next = NextMark.Again })
    ∷ Event.Turn (record (quiet 1 1 0) { outer = Outer.Up (at4 0xC0000209 40000); sent_t = 3; next = NextMark.Again })
    ∷ Event.Turn (record (quiet 1 1 0) { t = (0x05 ∷ 0x02 ∷ 0x01 ∷ 0x00 ∷ []); sent_c = 10; outer = Outer.Desk true; next = NextMark.Done })
    ∷ []

pub no_login_all_is : is_some (run [] 256 1 no_login_all) ≡ true
no_login_all_is = refl

-- .. and no request is sent
abbrev pub no_login_bad : List Event
no_login_bad =
    Event.Publish (through_proxy5)
    ∷ Event.See 1 1
    ∷ Event.Open 1 1 client_at local_at 0
    ∷ Event.Turn (record (quiet 1 1 0) { outer = Outer.Desk true; next = NextMark.Again })
    ∷ Event.Turn (record (quiet 1 1 0) { c = (0x05 ∷ 0x01 ∷ 0x00 ∷ 0x05 ∷ 0x01 ∷ 0x00 ∷ 0x01 ∷ 0xC6 ∷ 0x33 ∷ 0x64 ∷ 0x0A ∷ 0x00 ∷ 0x50 ∷ []); sent_c = 2; outer = Outer.Desk true; next = NextMark.Again })
    ∷ Event.Turn (record (quiet 1 1 0) { outer = Outer.Up (at4 0xC0000209 40000); sent_t = 3; next = NextMark.Again })
    ∷ Event.Turn (record (quiet 1 1 0) { t = (0x05 ∷ 0x02 ∷ 0x01 ∷ 0x00 ∷ []); sent_c = 10; sent_t = 10; outer = Outer.Desk true; next = NextMark.Done })
    ∷ []

pub no_login_bad_is : is_some (run [] 256 1 no_login_bad) ≡ false
no_login_bad_is = refl

pub said_behind_refusal : length (said (record { version = Version.V5; host = Host.Addr (Addr.V4 1); port = 80; login = None }) (5 ∷ 2 ∷ 1 ∷ 0 ∷ [])) ≡ 3
said_behind_refusal = refl

abbrev pub code_01 : List Event
code_01 =
    Event.Publish (through_proxy5)
    ∷ Event.See 1 1
    ∷ Event.Open 1 1 client_at local_at 0
    ∷ Event.Turn (record (quiet 1 1 0) { outer = Outer.Desk true; next = NextMark.Again })
    ∷ Event.Turn (record (quiet 1 1 0) { c = (0x05 ∷ 0x01 ∷ 0x00 ∷ 0x05 ∷ 0x01 ∷ 0x00 ∷ 0x01 ∷ 0xC6 ∷ 0x33 ∷ 0x64 ∷ 0x0A ∷ 0x00 ∷ 0x50 ∷ []); sent_c = 2; outer = Outer.Desk true; next = NextMark.Again })
    ∷ Event.Turn (record (quiet 1 1 0) { outer = Outer.Up (at4 0xC0000209 40000); sent_t = 3; next = NextMark.Again })
    ∷ Event.Turn (record (quiet 1 1 0) { t = (0x05 ∷ 0x00 ∷ []); sent_t = 10; idle = (Object.Target ∷ []); next = NextMark.Wait })
    ∷ Event.Turn (record (quiet 1 1 0) { t = (0x05 ∷ 0x01 ∷ []); sent_c = 10; outer = Outer.Desk true; next = NextMark.Done })
    ∷ []

pub code_01_text : told [] 1 8 code_01 ≡ (codes "client 1 050005010001000000000000" ++ 10 ∷ []) ++ (codes "target 1 05010005010001c633640a0050" ++ 10 ∷ []) ++ (codes "end 1 upstream reply 01" ++ 10 ∷ [])
code_01_text = refl

abbrev pub code_03 : List Event
code_03 =
    Event.Publish (through_proxy5)
    ∷ Event.See 1 1
    ∷ Event.Open 1 1 client_at local_at 0
    ∷ Event.Turn (record (quiet 1 1 0) { outer = Outer.Desk true; next = NextMark.Again })
    ∷ Event.Turn (record (quiet 1 1 0) { c = (0x05 ∷ 0x01 ∷ 0x00 ∷ 0x05 ∷ 0x01 ∷ 0x00 ∷ 0x01 ∷ 0xC6 ∷ 0x33 ∷ 0x64 ∷ 0x0A ∷ 0x00 ∷ 0x50 ∷ []); sent_c = 2; outer = Outer.Desk true; next = NextMark.Again })
    ∷ Event.Turn (record (quiet 1 1 0) { outer = Outer.Up (at4 0xC0000209 40000); sent_t = 3; next = NextMark.Again })
    ∷ Event.Turn (record (quiet 1 1 0) { t = (0x05 ∷ 0x00 ∷ []); sent_t = 10; idle = (Object.Target ∷ []); next = NextMark.Wait })
    ∷ Event.Turn (record (quiet 1 1 0) { t = (0x05 ∷ 0x03 ∷ []); sent_c = 10; outer = Outer.Desk true; next = NextMark.Done })
    ∷ []

pub code_03_text : told [] 1 8 code_03 ≡ (codes "client 1 050005030001000000000000" ++ 10 ∷ []) ++ (codes "target 1 05010005010001c633640a0050" ++ 10 ∷ []) ++ (codes "end 1 upstream reply 03" ++ 10 ∷ [])
code_03_text = refl

abbrev pub code_04 : List Event
code_04 =
    Event.Publish (through_proxy5)
    ∷ Event.See 1 1
    ∷ Event.Open 1 1 client_at local_at 0
    ∷ Event.Turn (record (quiet 1 1 0) { outer = Outer.Desk true; next = NextMark.Again })
    ∷ Event.Turn (record (quiet 1 1 0) { c = (0x05 ∷ 0x01 ∷ 0x00 ∷ 0x05 ∷ 0x01 ∷ 0x00 ∷ 0x01 ∷ 0xC6 ∷ 0x33 ∷ 0x64 ∷ 0x0A ∷ 0x00 ∷ 0x50 ∷ []); sent_c = 2; outer = Outer.Desk true; next = NextMark.Again })
    ∷ Event.Turn (record (quiet 1 1 0) { outer = Outer.Up (at4 0xC0000209 40000); sent_t = 3; next = NextMark.Again })
    ∷ Event.Turn (record (quiet 1 1 0) { t = (0x05 ∷ 0x00 ∷ []); sent_t = 10; idle = (Object.Target ∷ []); next = NextMark.Wait })
    ∷ Event.Turn (record (quiet 1 1 0) { t = (0x05 ∷ 0x04 ∷ []); sent_c = 10; outer = Outer.Desk true; next = NextMark.Done })
    ∷ []

pub code_04_text : told [] 1 8 code_04 ≡ (codes "client 1 050005040001000000000000" ++ 10 ∷ []) ++ (codes "target 1 05010005010001c633640a0050" ++ 10 ∷ []) ++ (codes "end 1 upstream reply 04" ++ 10 ∷ [])
code_04_text = refl

abbrev pub code_05 : List Event
code_05 =
    Event.Publish (through_proxy5)
    ∷ Event.See 1 1
    ∷ Event.Open 1 1 client_at local_at 0
    ∷ Event.Turn (record (quiet 1 1 0) { outer = Outer.Desk true; next = NextMark.Again })
    ∷ Event.Turn (record (quiet 1 1 0) { c = (0x05 ∷ 0x01 ∷ 0x00 ∷ 0x05 ∷ 0x01 ∷ 0x00 ∷ 0x01 ∷ 0xC6 ∷ 0x33 ∷ 0x64 ∷ 0x0A ∷ 0x00 ∷ 0x50 ∷ []); sent_c = 2; outer = Outer.Desk true; next = NextMark.Again })
    ∷ Event.Turn (record (quiet 1 1 0) { outer = Outer.Up (at4 0xC0000209 40000); sent_t = 3; next = NextMark.Again })
    ∷ Event.Turn (record (quiet 1 1 0) { t = (0x05 ∷ 0x00 ∷ []); sent_t = 10; idle = (Object.Target ∷ []); next = NextMark.Wait })
    ∷ Event.Turn (record (quiet 1 1 0) { t = (0x05 ∷ 0x05 ∷ []); sent_c = 10; outer = Outer.Desk true; next = NextMark.Done })
    ∷ []

pub code_05_text : told [] 1 8 code_05 ≡ (codes "client 1 050005050001000000000000" ++ 10 ∷ []) ++ (codes "target 1 05010005010001c633640a0050" ++ 10 ∷ []) ++ (codes "end 1 upstream reply 05" ++ 10 ∷ [])
code_05_text = refl

abbrev pub code_06 : List Event
code_06 =
    Event.Publish (through_proxy5)
    ∷ Event.See 1 1
    ∷ Event.Open 1 1 client_at local_at 0
    ∷ Event.Turn (record (quiet 1 1 0) { outer = Outer.Desk true; next = NextMark.Again })
    ∷ Event.Turn (record (quiet 1 1 0) { c = (0x05 ∷ 0x01 ∷ 0x00 ∷ 0x05 ∷ 0x01 ∷ 0x00 ∷ 0x01 ∷ 0xC6 ∷ 0x33 ∷ 0x64 ∷ 0x0A ∷ 0x00 ∷ 0x50 ∷ []); sent_c = 2; outer = Outer.Desk true; next = NextMark.Again })
    ∷ Event.Turn (record (quiet 1 1 0) { outer = Outer.Up (at4 0xC0000209 40000); sent_t = 3; next = NextMark.Again })
    ∷ Event.Turn (record (quiet 1 1 0) { t = (0x05 ∷ 0x00 ∷ []); sent_t = 10; idle = (Object.Target ∷ []); next = NextMark.Wait })
    ∷ Event.Turn (record (quiet 1 1 0) { t = (0x05 ∷ 0x06 ∷ []); sent_c = 10; outer = Outer.Desk true; next = NextMark.Done })
    ∷ []

pub code_06_text : told [] 1 8 code_06 ≡ (codes "client 1 050005010001000000000000" ++ 10 ∷ []) ++ (codes "target 1 05010005010001c633640a0050" ++ 10 ∷ []) ++ (codes "end 1 upstream reply 06" ++ 10 ∷ [])
code_06_text = refl

abbrev pub code_02 : List Event
code_02 =
    Event.Publish (through_proxy5)
    ∷ Event.See 1 1
    ∷ Event.Open 1 1 client_at local_at 0
    ∷ Event.Turn (record (quiet 1 1 0) { outer = Outer.Desk true; next = NextMark.Again })
    ∷ Event.Turn (record (quiet 1 1 0) { c = (0x05 ∷ 0x01 ∷ 0x00 ∷ 0x05 ∷ 0x01 ∷ 0x00 ∷ 0x01 ∷ 0xC6 ∷ 0x33 ∷ 0x64 ∷ 0x0A ∷ 0x00 ∷ 0x50 ∷ []); sent_c = 2; outer = Outer.Desk true; next = NextMark.Again })
    ∷ Event.Turn (record (quiet 1 1 0) { outer = Outer.Up (at4 0xC0000209 40000); sent_t = 3; next = NextMark.Again })
    ∷ Event.Turn (record (quiet 1 1 0) { t = (0x05 ∷ 0x00 ∷ []); sent_t = 10; idle = (Object.Target ∷ []); next = NextMark.Wait })
    ∷ Event.Turn (record (quiet 1 1 0) { t = (0x05 ∷ 0x02 ∷ []); sent_c = 10; outer = Outer.Desk true; next = NextMark.Done })
    ∷ []

pub code_02_text : told [] 1 8 code_02 ≡ (codes "client 1 050005010001000000000000" ++ 10 ∷ []) ++ (codes "target 1 05010005010001c633640a0050" ++ 10 ∷ []) ++ (codes "end 1 upstream reply 02" ++ 10 ∷ [])
code_02_text = refl

abbrev pub code_ff : List Event
code_ff =
    Event.Publish (through_proxy5)
    ∷ Event.See 1 1
    ∷ Event.Open 1 1 client_at local_at 0
    ∷ Event.Turn (record (quiet 1 1 0) { outer = Outer.Desk true; next = NextMark.Again })
    ∷ Event.Turn (record (quiet 1 1 0) { c = (0x05 ∷ 0x01 ∷ 0x00 ∷ 0x05 ∷ 0x01 ∷ 0x00 ∷ 0x01 ∷ 0xC6 ∷ 0x33 ∷ 0x64 ∷ 0x0A ∷ 0x00 ∷ 0x50 ∷ []); sent_c = 2; outer = Outer.Desk true; next = NextMark.Again })
    ∷ Event.Turn (record (quiet 1 1 0) { outer = Outer.Up (at4 0xC0000209 40000); sent_t = 3; next = NextMark.Again })
    ∷ Event.Turn (record (quiet 1 1 0) { t = (0x05 ∷ 0x00 ∷ []); sent_t = 10; idle = (Object.Target ∷ []); next = NextMark.Wait })
    ∷ Event.Turn (record (quiet 1 1 0) { t = (0x05 ∷ 0xff ∷ []); sent_c = 10; outer = Outer.Desk true; next = NextMark.Done })
    ∷ []

pub code_ff_text : told [] 1 8 code_ff ≡ (codes "client 1 050005010001000000000000" ++ 10 ∷ []) ++ (codes "target 1 05010005010001c633640a0050" ++ 10 ∷ []) ++ (codes "end 1 upstream reply ff" ++ 10 ∷ [])
code_ff_text = refl

abbrev pub code4_5b : List Event
code4_5b =
    Event.Publish (through_proxy4)
    ∷ Event.See 1 1
    ∷ Event.Open 1 1 client_at local_at 0
    ∷ Event.Turn (record (quiet 1 1 0) { outer = Outer.Desk true; next = NextMark.Again })
    ∷ Event.Turn (record (quiet 1 1 0) { c = (0x05 ∷ 0x01 ∷ 0x00 ∷ 0x05 ∷ 0x01 ∷ 0x00 ∷ 0x01 ∷ 0xC6 ∷ 0x33 ∷ 0x64 ∷ 0x0A ∷ 0x00 ∷ 0x50 ∷ []); sent_c = 2; outer = Outer.Desk true; next = NextMark.Again })
    ∷ Event.Turn (record (quiet 1 1 0) { outer = Outer.Up (at4 0xC0000209 40000); sent_t = 9; next = NextMark.Again })
    ∷ Event.Turn (record (quiet 1 1 0) { t = (0x00 ∷ 0x5b ∷ []); sent_c = 10; outer = Outer.Desk true; next = NextMark.Done })
    ∷ []

pub code4_5b_text : told [] 1 7 code4_5b ≡ (codes "client 1 050005010001000000000000" ++ 10 ∷ []) ++ (codes "target 1 04010050c633640a00" ++ 10 ∷ []) ++ (codes "end 1 upstream reply 5b" ++ 10 ∷ [])
code4_5b_text = refl

abbrev pub code4_5d : List Event
code4_5d =
    Event.Publish (through_proxy4)
    ∷ Event.See 1 1
    ∷ Event.Open 1 1 client_at local_at 0
    ∷ Event.Turn (record (quiet 1 1 0) { outer = Outer.Desk true; next = NextMark.Again })
    ∷ Event.Turn (record (quiet 1 1 0) { c = (0x05 ∷ 0x01 ∷ 0x00 ∷ 0x05 ∷ 0x01 ∷ 0x00 ∷ 0x01 ∷ 0xC6 ∷ 0x33 ∷ 0x64 ∷ 0x0A ∷ 0x00 ∷ 0x50 ∷ []); sent_c = 2; outer = Outer.Desk true; next = NextMark.Again })
    ∷ Event.Turn (record (quiet 1 1 0) { outer = Outer.Up (at4 0xC0000209 40000); sent_t = 9; next = NextMark.Again })
    ∷ Event.Turn (record (quiet 1 1 0) { t = (0x00 ∷ 0x5d ∷ []); sent_c = 10; outer = Outer.Desk true; next = NextMark.Done })
    ∷ []

pub code4_5d_text : told [] 1 7 code4_5d ≡ (codes "client 1 050005010001000000000000" ++ 10 ∷ []) ++ (codes "target 1 04010050c633640a00" ++ 10 ∷ []) ++ (codes "end 1 upstream reply 5d" ++ 10 ∷ [])
code4_5d_text = refl

-- 05 at Method is not handed on
abbrev pub code_method : List Event
code_method =
    Event.Publish (through_proxy5)
    ∷ Event.See 1 1
    ∷ Event.Open 1 1 client_at local_at 0
    ∷ Event.Turn (record (quiet 1 1 0) { outer = Outer.Desk true; next = NextMark.Again })
    ∷ Event.Turn (record (quiet 1 1 0) { c = (0x05 ∷ 0x01 ∷ 0x00 ∷ 0x05 ∷ 0x01 ∷ 0x00 ∷ 0x01 ∷ 0xC6 ∷ 0x33 ∷ 0x64 ∷ 0x0A ∷ 0x00 ∷ 0x50 ∷ []); sent_c = 2; outer = Outer.Desk true; next = NextMark.Again })
    ∷ Event.Turn (record (quiet 1 1 0) { outer = Outer.Up (at4 0xC0000209 40000); sent_t = 3; next = NextMark.Again })
    ∷ Event.Turn (record (quiet 1 1 0) { t = (0x05 ∷ 0x05 ∷ []); sent_c = 10; outer = Outer.Desk true; next = NextMark.Done })
    ∷ []

pub code_method_text : told [] 1 7 code_method ≡ (codes "client 1 050005010001000000000000" ++ 10 ∷ []) ++ (codes "target 1 050100" ++ 10 ∷ []) ++ (codes "end 1 upstream method 05" ++ 10 ∷ [])
code_method_text = refl

-- a dial goes by the route of the grant
pub dial_of_grant : gone_to (Event.Publish (through_proxy5)
    ∷ Event.Publish (all_pass)
    ∷ Event.See 1 1
    ∷ Event.Open 1 1 client_at local_at 0
    ∷ Event.Turn (record (quiet 1 1 0) { outer = Outer.Desk true; next = NextMark.Again })
    ∷ Event.Turn (record (quiet 1 1 0) { c = (0x05 ∷ 0x01 ∷ 0x00 ∷ 0x05 ∷ 0x01 ∷ 0x00 ∷ 0x01 ∷ 0xC6 ∷ 0x33 ∷ 0x64 ∷ 0x0A ∷ 0x00 ∷ 0x50 ∷ []); sent_c = 2; outer = Outer.Desk true; next = NextMark.Again })
    ∷ Event.See 1 2
    ∷ Event.Turn (record (quiet 1 1 0) { outer = Outer.Up (at4 0xC0000209 40001); sent_t = 3; next = NextMark.Again }) ∷ []) ≡ Some (at4 0xC0000201 1080 ∷ [])
dial_of_grant = refl
