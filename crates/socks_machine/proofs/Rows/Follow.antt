-- A script that the relation allows, and scripts whose events are lawful and yet not allowed.
use Rattle.std.proofs.Common.{ℕ, ◌≡◌, refl, true, false, Some, is_some, List, [], ◌∷◌, ◌++◌}
use Rattle.socks_machine.specs.declared.script.CallKind.{CallKind}
use Rattle.socks_machine.specs.declared.script.ScriptLine.{ScriptLine}
use Rattle.socks_machine.specs.declared.world.Event.{Event}
use Rattle.socks_machine.specs.declared.world.NextMark.{NextMark}
use Rattle.socks_machine.specs.declared.world.Object.{Object}
use Rattle.socks_machine.specs.declared.world.Outer.{Outer}
use Rattle.socks_machine.specs.Follows.{Follows, begins}
use Rattle.socks_machine.specs.Script.{first_surroundings, follows}
use Rattle.socks_machine.specs.Step.{run, start}
use Rattle.socks_machine.proofs.FollowLaws.{Split, follows-complete, follows-sound}
use Rattle.socks_machine.proofs.Rows.Shared.{all_pass, at4, client_at, local_at, quiet}

-- a read fails in the talk
abbrev script : List ScriptLine
script =
    ScriptLine.Publish all_pass ∷ ScriptLine.See 1 ∷ ScriptLine.Open 1 1 client_at local_at ∷ ScriptLine.Turn 1 1
    ∷ ScriptLine.Fault 1 Object.Client CallKind.Reading ∷ ScriptLine.Turn 1 1 ∷ []

abbrev first_events : List Event
first_events = Event.Publish all_pass ∷ Event.See 1 1 ∷ Event.Open 1 1 client_at local_at 0 ∷ Event.Turn (record (quiet 1 1 0) { outer = Outer.Desk true; next = NextMark.Again }) ∷ []

abbrev events : List Event
events =
    first_events ++ Event.Turn (record (quiet 1 1 0) { fault = Some Object.Client; failed = (Object.Client, CallKind.Reading) ∷ []; outer = Outer.Desk true; next = NextMark.Done }) ∷ Event.See 1 1 ∷ []

allowed : Split first_surroundings (begins script) script events
allowed = follows-sound script first_surroundings (begins script) events refl

-- another configuration than the script's isn't published
other_config : follows first_surroundings (Some (begins script)) script (Event.Publish (record all_pass { io = 7 }) ∷ Event.See 1 1 ∷ Event.Open 1 1 client_at local_at 0
    ∷ Event.Turn (record (quiet 1 1 0) { outer = Outer.Desk true; next = NextMark.Again })
    ∷ Event.Turn (record (quiet 1 1 0) { fault = Some Object.Client; failed = (Object.Client, CallKind.Reading) ∷ []; outer = Outer.Desk true; next = NextMark.Done }) ∷ Event.See 1 1 ∷ []) ≡ false
other_config = refl

-- the call that failed is no write
not_unwritten : follows first_surroundings (Some (begins script)) script
    (first_events ++ Event.Turn (record (quiet 1 1 0) { fault = Some Object.Client; failed = (Object.Client, CallKind.Writing) ∷ []; outer = Outer.Desk true; next = NextMark.Done }) ∷ Event.See 1 1 ∷ []) ≡ false
not_unwritten = refl

-- ---- the turn of a grant reads nothing more, so no read fails in it

abbrev request : List ℕ
request = 0x05 ∷ 0x01 ∷ 0x00 ∷ 0x05 ∷ 0x01 ∷ 0x00 ∷ 0x01 ∷ 0xC6 ∷ 0x33 ∷ 0x64 ∷ 0x0A ∷ 0x00 ∷ 0x50 ∷ []

abbrev reads_in_grant : List ScriptLine
reads_in_grant =
    ScriptLine.Publish all_pass ∷ ScriptLine.See 1 ∷ ScriptLine.Open 1 1 client_at local_at ∷ ScriptLine.Turn 1 1
    ∷ ScriptLine.Client 1 request ∷ ScriptLine.Fault 1 Object.Client CallKind.Reading ∷ ScriptLine.Turn 1 1 ∷ []

abbrev reads_in_grant_events : List Event
reads_in_grant_events =
    first_events
    ++ Event.Turn (record (quiet 1 1 0) { c = request; fault = Some Object.Client; failed = (Object.Client, CallKind.Reading) ∷ []; outer = Outer.Desk true; next = NextMark.Again }) ∷ []

reads_in_grant_lawful : is_some (run [] 256 1 reads_in_grant_events) ≡ true
reads_in_grant_lawful = refl

reads_in_grant_refused : (rest ends : List Event) → Follows first_surroundings (begins reads_in_grant) reads_in_grant (reads_in_grant_events ++ rest) ends → ⊥
reads_in_grant_refused rest ends f = let e = follows-complete first_surroundings (begins reads_in_grant) reads_in_grant (reads_in_grant_events ++ rest) ends f in cc

-- ---- a relay whose target hasn't ended doesn't shut the client, so that shut doesn't fail

abbrev shuts_early : List ScriptLine
shuts_early =
    ScriptLine.Publish all_pass ∷ ScriptLine.See 1 ∷ ScriptLine.Open 1 1 client_at local_at ∷ ScriptLine.Dial 1 (Outer.Up (at4 0xC0000209 40000)) ∷ ScriptLine.Turn 1 1
    ∷ ScriptLine.Client 1 request ∷ ScriptLine.Turn 1 1 ∷ ScriptLine.Turn 1 1 ∷ ScriptLine.Fault 1 Object.Client CallKind.Shutting ∷ ScriptLine.Turn 1 1 ∷ []

abbrev shuts_early_events : List Event
shuts_early_events =
    first_events
    ++ Event.Turn (record (quiet 1 1 0) { c = request; sent_c = 2; outer = Outer.Desk true; next = NextMark.Again })
    ∷ Event.Turn (record (quiet 1 1 0) { outer = Outer.Up (at4 0xC0000209 40000); sent_c = 10; next = NextMark.Again })
    ∷ Event.Turn (record (quiet 1 1 0) { fault = Some Object.Client; failed = (Object.Client, CallKind.Shutting) ∷ []; outer = Outer.Desk true; next = NextMark.Done })
    ∷ []

shuts_early_lawful : is_some (run [] 256 1 shuts_early_events) ≡ true
shuts_early_lawful = refl

shuts_early_refused : (rest ends : List Event) → Follows first_surroundings (begins shuts_early) shuts_early (shuts_early_events ++ rest) ends → ⊥
shuts_early_refused rest ends f = let e = follows-complete first_surroundings (begins shuts_early) shuts_early (shuts_early_events ++ rest) ends f in cc

-- .. and where the target has ended that shut may fail
abbrev shuts_late : List ScriptLine
shuts_late =
    ScriptLine.Publish all_pass ∷ ScriptLine.See 1 ∷ ScriptLine.Open 1 1 client_at local_at ∷ ScriptLine.Dial 1 (Outer.Up (at4 0xC0000209 40000)) ∷ ScriptLine.Turn 1 1
    ∷ ScriptLine.Client 1 request ∷ ScriptLine.Turn 1 1 ∷ ScriptLine.Turn 1 1 ∷ ScriptLine.TargetEnd 1 ∷ ScriptLine.Fault 1 Object.Client CallKind.Shutting ∷ ScriptLine.Turn 1 1 ∷ []

abbrev shuts_late_events : List Event
shuts_late_events =
    first_events
    ++ Event.Turn (record (quiet 1 1 0) { c = request; sent_c = 2; outer = Outer.Desk true; next = NextMark.Again })
    ∷ Event.Turn (record (quiet 1 1 0) { outer = Outer.Up (at4 0xC0000209 40000); sent_c = 10; next = NextMark.Again })
    ∷ Event.Turn (record (quiet 1 1 0) { end_t = true; idle = Object.Client ∷ []; fault = Some Object.Client; failed = (Object.Client, CallKind.Shutting) ∷ []; outer = Outer.Desk true; next = NextMark.Done })
    ∷ Event.See 1 1
    ∷ []

shuts_late_allowed : Split first_surroundings (begins shuts_late) shuts_late shuts_late_events
shuts_late_allowed = follows-sound shuts_late first_surroundings (begins shuts_late) shuts_late_events refl
