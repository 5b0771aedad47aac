-- Ends and shuts of the two sides of a relay.
use Rattle.std.specs.Prelude.{◌≡◌, refl, true, false, Some, List, [], ◌∷◌, is_some}
use Rattle.socks_machine.specs.declared.world.Object.{Object}
use Rattle.socks_machine.specs.declared.world.Outer.{Outer}
use Rattle.socks_machine.specs.declared.world.NextMark.{NextMark}
use Rattle.socks_machine.specs.declared.world.Event.{Event}
use Rattle.socks_machine.specs.Step.{run}
use Rattle.socks_machine.proofs.Rows.Shared.{all_pass, quiet, at4, client_at, local_at}

-- a shut of the side whose object failed, in the same turn
abbrev pub shut_in_closing : List Event
shut_in_closing =
    Event.Publish (all_pass)
    ∷ Event.See 1 1
    ∷ Event.Open 1 1 client_at local_at 0
    ∷ Event.Turn (record (quiet 1 1 0) { outer = Outer.Desk true; next = NextMark.Again })
    ∷ Event.Turn (record (quiet 1 1 0) { c = (0x05 ∷ 0x01 ∷ 0x00 ∷ 0x05 ∷ 0x01 ∷ 0x00 ∷ 0x01 ∷ 0xC6 ∷ 0x33 ∷ 0x64 ∷ 0x0A ∷ 0x00 ∷ 0x50 ∷ []); sent_c = 2; outer = Outer.Desk true; next = NextMark.Again })
    ∷ Event.Turn (record (quiet 1 1 0) { outer = Outer.Up (at4 0xC0000209 40000); sent_c = 10; next = NextMark.Again })
    ∷ Event.Turn (record (quiet 1 1 0) { end_c = true; fault = Some Object.Target; idle = (Object.Client ∷ []); shut_t = true; outer = Outer.Desk true; next = NextMark.Done })
    ∷ []

pub shut_in_closing_is : is_some (run [] 256 1 shut_in_closing) ≡ true
shut_in_closing_is = refl

-- an end in Closing
abbrev pub shut_after : List Event
shut_after =
    Event.Publish (all_pass)
    ∷ Event.See 1 1
    ∷ Event.Open 1 1 client_at local_at 0
    ∷ Event.Turn (record (quiet 1 1 0) { outer = Outer.Desk true; next = NextMark.Again })
    ∷ Event.Turn (record (quiet 1 1 0) { c = (0x05 ∷ 0x01 ∷ 0x00 ∷ 0x05 ∷ 0x01 ∷ 0x00 ∷ 0x01 ∷ 0xC6 ∷ 0x33 ∷ 0x64 ∷ 0x0A ∷ 0x00 ∷ 0x50 ∷ []); sent_c = 2; outer = Outer.Desk true; next = NextMark.Again })
    ∷ Event.Turn (record (quiet 1 1 0) { outer = Outer.Up (at4 0xC0000209 40000); sent_c = 10; next = NextMark.Again })
    ∷ Event.Turn (record (quiet 1 1 0) { fault = Some Object.Target; t = (0x61 ∷ []); full = (Object.Client ∷ []); next = NextMark.Wait })
    ∷ Event.Turn (record (quiet 1 1 0) { end_c = true; full = (Object.Client ∷ []); next = NextMark.Wait })
    ∷ []

pub shut_after_is : is_some (run [] 256 1 shut_after) ≡ false
shut_after_is = refl

-- bytes of the target behind its end
abbrev pub behind_end : List Event
behind_end =
    Event.Publish (all_pass)
    ∷ Event.See 1 1
    ∷ Event.Open 1 1 client_at local_at 0
    ∷ Event.Turn (record (quiet 1 1 0) { outer = Outer.Desk true; next = NextMark.Again })
    ∷ Event.Turn (record (quiet 1 1 0) { c = (0x05 ∷ 0x01 ∷ 0x00 ∷ 0x05 ∷ 0x01 ∷ 0x00 ∷ 0x01 ∷ 0xC6 ∷ 0x33 ∷ 0x64 ∷ 0x0A ∷ 0x00 ∷ 0x50 ∷ []); sent_c = 2; outer = Outer.Desk true; next = NextMark.Again })
    ∷ Event.Turn (record (quiet 1 1 0) { outer = Outer.Up (at4 0xC0000209 40000); sent_c = 10; next = NextMark.Again })
    ∷ Event.Turn (record (quiet 1 1 0) { end_t = true; shut_c = true; idle = (Object.Client ∷ []); next = NextMark.Wait })
    ∷ Event.Turn (record (quiet 1 1 0) { t = (0x61 ∷ []); sent_c = 1; idle = (Object.Client ∷ []); next = NextMark.Wait })
    ∷ []

pub behind_end_is : is_some (run [] 256 1 behind_end) ≡ false
behind_end_is = refl

-- its end once more
abbrev pub end_twice : List Event
end_twice =
    Event.Publish (all_pass)
    ∷ Event.See 1 1
    ∷ Event.Open 1 1 client_at local_at 0
    ∷ Event.Turn (record (quiet 1 1 0) { outer = Outer.Desk true; next = NextMark.Again })
    ∷ Event.Turn (record (quiet 1 1 0) { c = (0x05 ∷ 0x01 ∷ 0x00 ∷ 0x05 ∷ 0x01 ∷ 0x00 ∷ 0x01 ∷ 0xC6 ∷ 0x33 ∷ 0x64 ∷ 0x0A ∷ 0x00 ∷ 0x50 ∷ []); sent_c = 2; outer = Outer.Desk true; next = NextMark.Again })
    ∷ Event.Turn (record (quiet 1 1 0) { outer = Outer.Up (at4 0xC0000209 40000); sent_c = 10; next = NextMark.Again })
    ∷ Event.Turn (record (quiet 1 1 0) { end_t = true; shut_c = true; idle = (Object.Client ∷ []); next = NextMark.Wait })
    ∷ Event.Turn (record (quiet 1 1 0) { end_t = true; idle = (Object.Client ∷ []); next = NextMark.Wait })
    ∷ []

pub end_twice_is : is_some (run [] 256 1 end_twice) ≡ false
end_twice_is = refl

-- the client goes on
abbrev pub half_closed : List Event
half_closed =
    Event.Publish (all_pass)
    ∷ Event.See 1 1
    ∷ Event.Open 1 1 client_at local_at 0
    ∷ Event.Turn (record (quiet 1 1 0) { outer = Outer.Desk true; next = NextMark.Again })
    ∷ Event.Turn (record (quiet 1 1 0) { c = (0x05 ∷ 0x01 ∷ 0x00 ∷ 0x05 ∷ 0x01 ∷ 0x00 ∷ 0x01 ∷ 0xC6 ∷ 0x33 ∷ 0x64 ∷ 0x0A ∷ 0x00 ∷ 0x50 ∷ []); sent_c = 2; outer = Outer.Desk true; next = NextMark.Again })
    ∷ Event.Turn (record (quiet 1 1 0) { outer = Outer.Up (at4 0xC0000209 40000); sent_c = 10; next = NextMark.Again })
    ∷ Event.Turn (record (quiet 1 1 0) { end_t = true; shut_c = true; idle = (Object.Client ∷ []); next = NextMark.Wait })
    ∷ Event.Turn (record (quiet 1 1 0) { c = (0x61 ∷ []); sent_t = 1; idle = (Object.Client ∷ []); next = NextMark.Wait })
    ∷ []

pub half_closed_is : is_some (run [] 256 1 half_closed) ≡ true
half_closed_is = refl

-- bytes of the client behind its end
abbrev pub behind_end_c : List Event
behind_end_c =
    Event.Publish (all_pass)
    ∷ Event.See 1 1
    ∷ Event.Open 1 1 client_at local_at 0
    ∷ Event.Turn (record (quiet 1 1 0) { outer = Outer.Desk true; next = NextMark.Again })
    ∷ Event.Turn (record (quiet 1 1 0) { c = (0x05 ∷ 0x01 ∷ 0x00 ∷ 0x05 ∷ 0x01 ∷ 0x00 ∷ 0x01 ∷ 0xC6 ∷ 0x33 ∷ 0x64 ∷ 0x0A ∷ 0x00 ∷ 0x50 ∷ []); sent_c = 2; outer = Outer.Desk true; next = NextMark.Again })
    ∷ Event.Turn (record (quiet 1 1 0) { outer = Outer.Up (at4 0xC0000209 40000); sent_c = 10; next = NextMark.Again })
    ∷ Event.Turn (record (quiet 1 1 0) { end_c = true; shut_t = true; idle = (Object.Target ∷ []); next = NextMark.Wait })
    ∷ Event.Turn (record (quiet 1 1 0) { c = (0x61 ∷ []); sent_t = 1; idle = (Object.Target ∷ []); next = NextMark.Wait })
    ∷ []

pub behind_end_c_is : is_some (run [] 256 1 behind_end_c) ≡ false
behind_end_c_is = refl

-- a side is shut once
abbrev pub shut_twice : List Event
shut_twice =
    Event.Publish (all_pass)
    ∷ Event.See 1 1
    ∷ Event.Open 1 1 client_at local_at 0
    ∷ Event.Turn (record (quiet 1 1 0) { outer = Outer.Desk true; next = NextMark.Again })
    ∷ Event.Turn (record (quiet 1 1 0) { c = (0x05 ∷ 0x01 ∷ 0x00 ∷ 0x05 ∷ 0x01 ∷ 0x00 ∷ 0x01 ∷ 0xC6 ∷ 0x33 ∷ 0x64 ∷ 0x0A ∷ 0x00 ∷ 0x50 ∷ []); sent_c = 2; outer = Outer.Desk true; next = NextMark.Again })
    ∷ Event.Turn (record (quiet 1 1 0) { outer = Outer.Up (at4 0xC0000209 40000); sent_c = 10; next = NextMark.Again })
    ∷ Event.Turn (record (quiet 1 1 0) { end_c = true; shut_t = true; idle = (Object.Target ∷ []); next = NextMark.Wait })
    ∷ Event.Turn (record (quiet 1 1 0) { shut_t = true; idle = (Object.Target ∷ []); next = NextMark.Wait })
    ∷ []

pub shut_twice_is : is_some (run [] 256 1 shut_twice) ≡ false
shut_twice_is = refl

-- and the other way to the end
abbrev pub both_shut : List Event
both_shut =
    Event.Publish (all_pass)
    ∷ Event.See 1 1
    ∷ Event.Open 1 1 client_at local_at 0
    ∷ Event.Turn (record (quiet 1 1 0) { outer = Outer.Desk true; next = NextMark.Again })
    ∷ Event.Turn (record (quiet 1 1 0) { c = (0x05 ∷ 0x01 ∷ 0x00 ∷ 0x05 ∷ 0x01 ∷ 0x00 ∷ 0x01 ∷ 0xC6 ∷ 0x33 ∷ 0x64 ∷ 0x0A ∷ 0x00 ∷ 0x50 ∷ []); sent_c = 2; outer = Outer.Desk true; next = NextMark.Again })
    ∷ Event.Turn (record (quiet 1 1 0) { outer = Outer.Up (at4 0xC0000209 40000); sent_c = 10; next = NextMark.Again })
    ∷ Event.Turn (record (quiet 1 1 0) { end_c = true; shut_t = true; idle = (Object.Target ∷ []); next = NextMark.Wait })
    ∷ Event.Turn (record (quiet 1 1 0) { t = (0x61 ∷ []); end_t = true; sent_c = 1; shut_c = true; outer = Outer.Desk true; next = NextMark.Done })
    ∷ []

pub both_shut_is : is_some (run [] 256 1 both_shut) ≡ true
both_shut_is = refl
