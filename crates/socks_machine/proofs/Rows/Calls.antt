-- A call of the phase comes before writes, shuts and faults; and any worker with a place makes turns.
use Rattle.std.specs.Prelude.{◌≡◌, refl, true, false, List, [], ◌∷◌, ◌++◌, replicate, is_some}
use Rattle.socks_machine.specs.declared.world.Outer.{Outer}
use Rattle.socks_machine.specs.declared.world.NextMark.{NextMark}
use Rattle.socks_machine.specs.declared.world.Event.{Event}
use Rattle.socks_machine.specs.Step.{run}
use Rattle.socks_machine.proofs.Rows.Shared.{greeting, request, all_pass, quiet, client_at, local_at, opened}

-- a turn of worker 0
abbrev pub reactor_turns : List Event
reactor_turns =
    Event.Publish (all_pass)
    ∷ Event.See 0 1
    ∷ Event.Open 0 1 client_at local_at 0
    ∷ Event.Turn (record (quiet 0 1 0) { outer = Outer.Desk true; next = NextMark.Again })
    ∷ []

pub reactor_turns_is : is_some (run [] 256 1 reactor_turns) ≡ true
reactor_turns_is = refl

-- no write stands before the grant
writes_before_grant : is_some (run [] 256 1 (opened ++ Event.Turn (record (quiet 1 1 0) { c = greeting ++ request; sent_c = 2 }) ∷ [])) ≡ false
writes_before_grant = refl

-- behind the grant it may
writes_behind_grant : is_some (run [] 256 1 (opened ++ Event.Turn (record (quiet 1 1 0) { c = greeting ++ request; sent_c = 2; outer = Outer.Desk true }) ∷ [])) ≡ true
writes_behind_grant = refl

-- without a write it may stand before the grant
reads_before_grant : is_some (run [] 256 1 (opened ++ Event.Turn (record (quiet 1 1 0) { c = greeting ++ request }) ∷ [])) ≡ true
reads_before_grant = refl

-- behind a quantum it may write, and goes on again
writes_behind_quantum : is_some (run [] 256 1 (opened ++ Event.Turn (record (quiet 1 1 0) { c = greeting ++ request ++ replicate 65523 0x61; sent_c = 2; next = NextMark.Again }) ∷ [])) ≡ true
writes_behind_quantum = refl
