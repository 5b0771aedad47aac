-- A stop that was asked for: which mark counts, and how each association ends.
use Rattle.std.specs.Prelude.{◌≡◌, refl, true, false, Some, List, [], ◌∷◌, ◌++◌, codes, is_some}
use Rattle.socks_machine.specs.declared.cause.StopBy.{StopBy}
use Rattle.socks_machine.specs.declared.world.Object.{Object}
use Rattle.socks_machine.specs.declared.world.Outer.{Outer}
use Rattle.socks_machine.specs.declared.world.NextMark.{NextMark}
use Rattle.socks_machine.specs.declared.world.Event.{Event}
use Rattle.socks_machine.proofs.Rows.Shared.{all_pass, quiet, told, logged, client_at, local_at}
use Rattle.socks_machine.specs.Step.{run}

abbrev pub stopped : List Event
stopped =
    Event.Publish (all_pass)
    ∷ Event.See 1 1
    ∷ Event.Open 1 1 client_at local_at 0
    ∷ Event.Stop StopBy.Control
    ∷ Event.Turn (record (quiet 1 1 0) { stop = Some StopBy.Control; next = NextMark.Done })
    ∷ []

pub stopped_text : told [] 1 3 stopped ≡ (codes "turn 1 1 gen 1 took 0 0 sent 0 0 done stopped control" ++ 10 ∷ []) ++ (codes "client 1 -" ++ 10 ∷ []) ++ (codes "target 1 -" ++ 10 ∷ []) ++ (codes "end 1 stopped control" ++ 10 ∷ [])
stopped_text = refl

pub stopped_log : logged [] 1 stopped ≡ Some ([])
stopped_log = refl

abbrev pub stopped_later : List Event
stopped_later =
    Event.Publish (all_pass)
    ∷ Event.See 1 1
    ∷ Event.Open 1 1 client_at local_at 0
    ∷ Event.Turn (record (quiet 1 1 0) { outer = Outer.Desk true; next = NextMark.Again })
    ∷ Event.Stop StopBy.Control
    ∷ Event.Turn (record (quiet 1 1 0) { stop = Some StopBy.Control; outer = Outer.Desk true; next = NextMark.Done })
    ∷ []

pub stopped_later_text : told [] 1 4 stopped_later ≡ (codes "turn 1 1 gen 1 took 0 0 sent 0 0 done stopped control" ++ 10 ∷ []) ++ (codes "client 1 -" ++ 10 ∷ []) ++ (codes "target 1 -" ++ 10 ∷ []) ++ (codes "end 1 stopped control" ++ 10 ∷ [])
stopped_later_text = refl

pub stopped_later_log : logged [] 1 stopped_later ≡ Some ((codes "1 open 1 gen 1 client 1 pass from 10.0.0.5:5000 to 127.0.0.1:1080" ++ 10 ∷ []) ++ (codes "2 close 1 stopped control took 0 0 sent 0 0" ++ 10 ∷ []))
stopped_later_log = refl

-- a second Stop
abbrev pub stop_again : List Event
stop_again =
    Event.Publish (all_pass)
    ∷ Event.See 1 1
    ∷ Event.Open 1 1 client_at local_at 0
    ∷ Event.Turn (record (quiet 1 1 0) { outer = Outer.Desk true; next = NextMark.Again })
    ∷ Event.Stop StopBy.Control
    ∷ Event.Stop StopBy.Control
    ∷ Event.Turn (record (quiet 1 1 0) { stop = Some StopBy.Control; outer = Outer.Desk true; next = NextMark.Done })
    ∷ []

pub stop_again_is : is_some (run [] 256 1 stop_again) ≡ true
stop_again_is = refl

-- a second Stop sets nothing
abbrev pub stop_sessions : List Event
stop_sessions =
    Event.Publish (all_pass)
    ∷ Event.See 1 1
    ∷ Event.Open 1 1 client_at local_at 0
    ∷ Event.Turn (record (quiet 1 1 0) { outer = Outer.Desk true; next = NextMark.Again })
    ∷ Event.Stop StopBy.Control
    ∷ Event.Stop StopBy.Sessions
    ∷ Event.Turn (record (quiet 1 1 0) { stop = Some StopBy.Sessions; outer = Outer.Desk true; next = NextMark.Done })
    ∷ []

pub stop_sessions_is : is_some (run [] 256 1 stop_sessions) ≡ false
stop_sessions_is = refl

-- a turn that was not given the mark
abbrev pub stop_ignored : List Event
stop_ignored =
    Event.Publish (all_pass)
    ∷ Event.See 1 1
    ∷ Event.Open 1 1 client_at local_at 0
    ∷ Event.Turn (record (quiet 1 1 0) { outer = Outer.Desk true; next = NextMark.Again })
    ∷ Event.Stop StopBy.Control
    ∷ Event.Turn (record (quiet 1 1 0) { idle = (Object.Client ∷ []); next = NextMark.Wait })
    ∷ []

pub stop_ignored_is : is_some (run [] 256 1 stop_ignored) ≡ true
stop_ignored_is = refl

-- the desk answers Stopped at the grant
abbrev pub stop_at_desk : List Event
stop_at_desk =
    Event.Publish (all_pass)
    ∷ Event.See 1 1
    ∷ Event.Open 1 1 client_at local_at 0
    ∷ Event.Turn (record (quiet 1 1 0) { outer = Outer.Desk true; next = NextMark.Again })
    ∷ Event.Stop StopBy.Control
    ∷ Event.Turn (record (quiet 1 1 0) { c = (0x05 ∷ 0x01 ∷ 0x00 ∷ 0x05 ∷ 0x01 ∷ 0x00 ∷ 0x01 ∷ 0xC6 ∷ 0x33 ∷ 0x64 ∷ 0x0A ∷ 0x00 ∷ 0x50 ∷ []); sent_c = 2; outer = Outer.Desk true; next = NextMark.Again })
    ∷ Event.Turn (record (quiet 1 1 0) { outer = Outer.Desk true; next = NextMark.Done })
    ∷ []

pub stop_at_desk_is : is_some (run [] 256 1 stop_at_desk) ≡ true
stop_at_desk_is = refl

-- a stopped turn that has not closed yet
abbrev pub stop_going_no_close : List Event
stop_going_no_close =
    Event.Publish (all_pass)
    ∷ Event.See 1 1
    ∷ Event.Open 1 1 client_at local_at 0
    ∷ Event.Turn (record (quiet 1 1 0) { outer = Outer.Desk true; next = NextMark.Again })
    ∷ Event.Stop StopBy.Control
    ∷ Event.Turn (record (quiet 1 1 0) { stop = Some StopBy.Control; next = NextMark.Going })
    ∷ []

pub stop_going_no_close_is : is_some (run [] 256 1 stop_going_no_close) ≡ false
stop_going_no_close_is = refl

-- .. at its close
abbrev pub stop_going_close : List Event
stop_going_close =
    Event.Publish (all_pass)
    ∷ Event.See 1 1
    ∷ Event.Open 1 1 client_at local_at 0
    ∷ Event.Turn (record (quiet 1 1 0) { outer = Outer.Desk true; next = NextMark.Again })
    ∷ Event.Stop StopBy.Control
    ∷ Event.Turn (record (quiet 1 1 0) { stop = Some StopBy.Control; outer = Outer.Desk true; next = NextMark.Going })
    ∷ []

pub stop_going_close_is : is_some (run [] 256 1 stop_going_close) ≡ true
stop_going_close_is = refl

-- .. before its open
abbrev pub stop_going_unopened : List Event
stop_going_unopened =
    Event.Publish (all_pass)
    ∷ Event.See 1 1
    ∷ Event.Open 1 1 client_at local_at 0
    ∷ Event.Stop StopBy.Control
    ∷ Event.Turn (record (quiet 1 1 0) { stop = Some StopBy.Control; next = NextMark.Going })
    ∷ []

pub stop_going_unopened_is : is_some (run [] 256 1 stop_going_unopened) ≡ false
stop_going_unopened_is = refl
