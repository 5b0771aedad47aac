-- Full pipes and quanta: how much a turn takes, and how it answers then.
use Rattle.std.specs.Prelude.{◌≡◌, refl, true, List, [], ◌∷◌, ◌++◌, codes, replicate, is_some}
use Rattle.socks_machine.specs.declared.world.Object.{Object}
use Rattle.socks_machine.specs.declared.world.Outer.{Outer}
use Rattle.socks_machine.specs.declared.world.NextMark.{NextMark}
use Rattle.socks_machine.specs.declared.world.Event.{Event}
use Rattle.socks_machine.proofs.Rows.Shared.{all_pass, quiet, turns_told, at4, client_at, local_at, greeting, request}
use Rattle.socks_machine.specs.Step.{run}

-- a pipe fills, and a quantum
abbrev pub full_pipes : List Event
full_pipes =
    Event.Publish (all_pass)
    ∷ Event.See 1 1
    ∷ Event.Open 1 1 client_at local_at 0
    ∷ Event.Turn (record (quiet 1 1 0) { outer = Outer.Desk true; next = NextMark.Again })
    ∷ Event.Turn (record (quiet 1 1 0) { c = (0x05 ∷ 0x01 ∷ 0x00 ∷ 0x05 ∷ 0x01 ∷ 0x00 ∷ 0x01 ∷ 0xC6 ∷ 0x33 ∷ 0x64 ∷ 0x0A ∷ 0x00 ∷ 0x50 ∷ []); sent_c = 2; outer = Outer.Desk true; next = NextMark.Again })
    ∷ Event.Turn (record (quiet 1 1 0) { outer = Outer.Up (at4 0xC0000209 40000); sent_c = 10; next = NextMark.Again })
    ∷ Event.Turn (record (quiet 1 1 0) { c = (replicate 16384 97); idle = (Object.Target ∷ []); full = (Object.Target ∷ []); next = NextMark.Wait })
    ∷ Event.Turn (record (quiet 1 1 0) { c = (replicate 3616 97); sent_t = 20000; idle = (Object.Client ∷ Object.Target ∷ []); next = NextMark.Wait })
    ∷ Event.Turn (record (quiet 1 1 0) { c = (replicate 65535 97); sent_t = 65535; idle = (Object.Client ∷ Object.Target ∷ []); next = NextMark.Wait })
    ∷ Event.Turn (record (quiet 1 1 0) { c = (replicate 65536 97); sent_t = 65536; idle = (Object.Target ∷ []); next = NextMark.Again })
    ∷ Event.Turn (record (quiet 1 1 0) { end_c = true; end_t = true; shut_c = true; shut_t = true; outer = Outer.Desk true; next = NextMark.Done })
    ∷ []

pub full_pipes_text : turns_told [] 1 9 full_pipes ≡ (codes "turn 1 1 gen 1 took 65536 0 sent 0 65536 again" ++ 10 ∷ []) ++ (codes "turn 1 1 gen 1 took 0 0 sent 0 0 done finished" ++ 10 ∷ [])
full_pipes_text = refl

-- a taking far past the quantum, and the grant in the same turn
abbrev pub quantum_and_call : List Event
quantum_and_call =
    Event.Publish (all_pass)
    ∷ Event.See 1 1
    ∷ Event.Open 1 1 client_at local_at 0
    ∷ Event.Turn (record (quiet 1 1 0) { outer = Outer.Desk true; next = NextMark.Again })
    ∷ Event.Turn (record (quiet 1 1 0) { c = (greeting ++ request ++ replicate 65536 97); sent_c = 2; outer = Outer.Desk true; next = NextMark.Again })
    ∷ []

pub quantum_and_call_is : is_some (run [] 256 1 quantum_and_call) ≡ true
quantum_and_call_is = refl

-- a taking of three quanta
abbrev pub quantum_far : List Event
quantum_far =
    Event.Publish (all_pass)
    ∷ Event.See 1 1
    ∷ Event.Open 1 1 client_at local_at 0
    ∷ Event.Turn (record (quiet 1 1 0) { outer = Outer.Desk true; next = NextMark.Again })
    ∷ Event.Turn (record (quiet 1 1 0) { c = (greeting ++ request ++ replicate 200000 97); sent_c = 2; next = NextMark.Again })
    ∷ []

pub quantum_far_is : is_some (run [] 256 1 quantum_far) ≡ true
quantum_far_is = refl

-- a cause is fixed, nothing is pending, a quantum was taken: Again
abbrev pub quantum_no_close : List Event
quantum_no_close =
    Event.Publish (all_pass)
    ∷ Event.See 1 1
    ∷ Event.Open 1 1 client_at local_at 0
    ∷ Event.Turn (record (quiet 1 1 0) { outer = Outer.Desk true; next = NextMark.Again })
    ∷ Event.Turn (record (quiet 1 1 0) { c = (0x47 ∷ replicate 65536 97); next = NextMark.Again })
    ∷ []

pub quantum_no_close_is : is_some (run [] 256 1 quantum_no_close) ≡ true
quantum_no_close_is = refl

-- .. or Done
abbrev pub quantum_close : List Event
quantum_close =
    Event.Publish (all_pass)
    ∷ Event.See 1 1
    ∷ Event.Open 1 1 client_at local_at 0
    ∷ Event.Turn (record (quiet 1 1 0) { outer = Outer.Desk true; next = NextMark.Again })
    ∷ Event.Turn (record (quiet 1 1 0) { c = (0x47 ∷ replicate 65536 97); outer = Outer.Desk true; next = NextMark.Done })
    ∷ []

pub quantum_close_is : is_some (run [] 256 1 quantum_close) ≡ true
quantum_close_is = refl
