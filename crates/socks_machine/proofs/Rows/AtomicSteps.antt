-- Atomic steps: the order of turns that they come to, and the place of the first that is not allowed.
use Rattle.std.specs.Prelude.{ℕ, ◌≡◌, refl, true, false, None, List, [], ◌∷◌, ◌++◌, codes, Some}
use Rattle.socks_machine.specs.declared.world.Object.{Object}
use Rattle.socks_machine.specs.declared.fine.Act.{Act}
use Rattle.socks_machine.specs.declared.fine.FineStep.{FineStep}
use Rattle.socks_machine.specs.Fine.{Coarse, coarse}
use Rattle.socks_machine.proofs.Rows.Shared.{all_pass, told, client_at, local_at, at4, greeting, request, none_passes}
use Rattle.addr_pattern.specs.declared.addr.Addr.{Addr}
use Rattle.socks_machine.specs.declared.cause.StopBy.{StopBy}

abbrev pub text_of : Coarse → List ℕ
text_of (Coarse.Unlawful n) = []
text_of (Coarse.Events es) = told [] 2 0 es

abbrev pub two : List FineStep
two =
    FineStep.Start [] 256 2 2
    ∷ FineStep.Publish all_pass
    ∷ FineStep.Place 0 client_at local_at 0
    ∷ FineStep.Claim 1 0
    ∷ FineStep.See 1 1 0 None
    ∷ FineStep.Desk 1 true
    ∷ FineStep.Park 1
    ∷ FineStep.Wake 0
    ∷ FineStep.Claim 1 0
    ∷ FineStep.See 1 1 0 None
    ∷ FineStep.Link 1 (Act.Read Object.Client (0x05 ∷ 0x01 ∷ 0x00 ∷ []))
    ∷ FineStep.Publish none_passes
    ∷ FineStep.Place 1 client_at local_at 0
    ∷ FineStep.Claim 2 1
    ∷ FineStep.See 2 2 0 None
    ∷ FineStep.Desk 2 true
    ∷ FineStep.Park 2
    ∷ FineStep.Wake 1
    ∷ FineStep.Claim 2 1
    ∷ FineStep.See 2 2 0 None
    ∷ FineStep.Link 2 (Act.Read Object.Client (0x05 ∷ 0x01 ∷ 0x00 ∷ 0x05 ∷ 0x01 ∷ 0x00 ∷ 0x01 ∷ 0xC6 ∷ 0x33 ∷ 0x64 ∷ 0x0A ∷ 0x00 ∷ 0x50 ∷ []))
    ∷ FineStep.Link 1 (Act.Read Object.Client (0x05 ∷ 0x01 ∷ 0x00 ∷ 0x01 ∷ 0xC6 ∷ 0x33 ∷ 0x64 ∷ 0x0A ∷ 0x00 ∷ 0x50 ∷ []))
    ∷ FineStep.Wake 0
    ∷ FineStep.Desk 1 true
    ∷ FineStep.Desk 2 true
    ∷ FineStep.Link 1 (Act.Wrote Object.Client 2)
    ∷ FineStep.Link 2 (Act.Wrote Object.Client 12)
    ∷ FineStep.Park 1
    ∷ FineStep.Park 2
    ∷ FineStep.Wake 1
    ∷ FineStep.Claim 2 1
    ∷ FineStep.See 2 2 0 None
    ∷ FineStep.Desk 2 true
    ∷ FineStep.Clear 1
    ∷ FineStep.Free 2
    ∷ FineStep.See 1 2 0 None
    ∷ []

pub two_text : text_of (coarse two) ≡ (codes "publish 1" ++ 10 ∷ []) ++ (codes "open 0 1" ++ 10 ∷ []) ++ (codes "see 1 1" ++ 10 ∷ []) ++ (codes "turn 1 1 gen 1 took 0 0 sent 0 0 again" ++ 10 ∷ []) ++ (codes "see 1 1" ++ 10 ∷ []) ++ (codes "publish 2" ++ 10 ∷ []) ++ (codes "open 0 2" ++ 10 ∷ []) ++ (codes "see 2 2" ++ 10 ∷ []) ++ (codes "turn 2 2 gen 2 took 0 0 sent 0 0 again" ++ 10 ∷ []) ++ (codes "see 2 2" ++ 10 ∷ []) ++ (codes "turn 1 1 gen 1 took 13 0 sent 2 0 again" ++ 10 ∷ []) ++ (codes "turn 2 2 gen 2 took 13 0 sent 12 0 again" ++ 10 ∷ []) ++ (codes "see 2 2" ++ 10 ∷ []) ++ (codes "turn 2 2 gen 2 took 0 0 sent 0 0 done denied gen 2 client 1 socks 1" ++ 10 ∷ []) ++ (codes "see 1 2" ++ 10 ∷ []) ++ (codes "client 1 0500" ++ 10 ∷ []) ++ (codes "target 1 -" ++ 10 ∷ []) ++ (codes "end 1 open" ++ 10 ∷ []) ++ (codes "client 2 050005020001000000000000" ++ 10 ∷ []) ++ (codes "target 2 -" ++ 10 ∷ []) ++ (codes "end 2 denied gen 2 client 1 socks 1" ++ 10 ∷ [])
two_text = refl

abbrev pub later_publish : List FineStep
later_publish =
    FineStep.Start [] 256 2 1
    ∷ FineStep.Publish all_pass
    ∷ FineStep.Place 0 client_at local_at 0
    ∷ FineStep.Claim 1 0
    ∷ FineStep.See 1 1 0 None
    ∷ FineStep.Desk 1 true
    ∷ FineStep.Publish all_pass
    ∷ FineStep.Park 1
    ∷ []

pub later_publish_text : text_of (coarse later_publish) ≡ (codes "publish 1" ++ 10 ∷ []) ++ (codes "open 0 1" ++ 10 ∷ []) ++ (codes "see 1 1" ++ 10 ∷ []) ++ (codes "turn 1 1 gen 1 took 0 0 sent 0 0 again" ++ 10 ∷ []) ++ (codes "publish 2" ++ 10 ∷ []) ++ (codes "client 1 -" ++ 10 ∷ []) ++ (codes "target 1 -" ++ 10 ∷ []) ++ (codes "end 1 open" ++ 10 ∷ [])
later_publish_text = refl

abbrev pub claimed_twice : List FineStep
claimed_twice =
    FineStep.Start [] 256 2 1
    ∷ FineStep.Publish all_pass
    ∷ FineStep.Place 0 client_at local_at 0
    ∷ FineStep.Claim 1 0
    ∷ FineStep.Claim 2 0
    ∷ []

pub claimed_twice_is : coarse claimed_twice ≡ Coarse.Unlawful 4
claimed_twice_is = refl

abbrev pub woken : List FineStep
woken =
    FineStep.Start [] 256 2 1
    ∷ FineStep.Publish all_pass
    ∷ FineStep.Place 0 client_at local_at 0
    ∷ FineStep.Claim 1 0
    ∷ FineStep.See 1 1 0 None
    ∷ FineStep.Desk 1 true
    ∷ FineStep.Wake 0
    ∷ FineStep.Park 1
    ∷ FineStep.Clear 1
    ∷ FineStep.See 1 1 0 None
    ∷ FineStep.Link 1 (Act.Idle Object.Client false)
    ∷ FineStep.Park 1
    ∷ []

pub woken_text : text_of (coarse woken) ≡ (codes "publish 1" ++ 10 ∷ []) ++ (codes "open 0 1" ++ 10 ∷ []) ++ (codes "see 1 1" ++ 10 ∷ []) ++ (codes "turn 1 1 gen 1 took 0 0 sent 0 0 again" ++ 10 ∷ []) ++ (codes "see 1 1" ++ 10 ∷ []) ++ (codes "turn 1 1 gen 1 took 0 0 sent 0 0 wait" ++ 10 ∷ []) ++ (codes "client 1 -" ++ 10 ∷ []) ++ (codes "target 1 -" ++ 10 ∷ []) ++ (codes "end 1 open" ++ 10 ∷ [])
woken_text = refl

abbrev pub in_hand : List FineStep
in_hand =
    FineStep.Start [] 256 2 1
    ∷ FineStep.Publish all_pass
    ∷ FineStep.Place 0 client_at local_at 0
    ∷ FineStep.Claim 1 0
    ∷ FineStep.See 1 1 0 None
    ∷ FineStep.Desk 1 true
    ∷ []

pub in_hand_text : text_of (coarse in_hand) ≡ (codes "publish 1" ++ 10 ∷ []) ++ (codes "open 0 1" ++ 10 ∷ []) ++ (codes "see 1 1" ++ 10 ∷ []) ++ (codes "turn 1 1 gen 1 took 0 0 sent 0 0 going" ++ 10 ∷ []) ++ (codes "client 1 -" ++ 10 ∷ []) ++ (codes "target 1 -" ++ 10 ∷ []) ++ (codes "end 1 open" ++ 10 ∷ [])
in_hand_text = refl

abbrev pub not_standing_yet : List FineStep
not_standing_yet =
    FineStep.Start [] 256 2 1
    ∷ FineStep.Publish all_pass
    ∷ FineStep.Place 0 client_at local_at 0
    ∷ FineStep.Claim 1 0
    ∷ FineStep.See 1 1 0 None
    ∷ []

pub not_standing_yet_text : text_of (coarse not_standing_yet) ≡ (codes "publish 1" ++ 10 ∷ []) ++ (codes "open 0 1" ++ 10 ∷ []) ++ (codes "see 1 1" ++ 10 ∷ []) ++ (codes "client 1 -" ++ 10 ∷ []) ++ (codes "target 1 -" ++ 10 ∷ []) ++ (codes "end 1 open" ++ 10 ∷ [])
not_standing_yet_text = refl

abbrev pub behind_close : List FineStep
behind_close =
    FineStep.Start [] 256 2 1
    ∷ FineStep.Publish all_pass
    ∷ FineStep.Place 0 client_at local_at 0
    ∷ FineStep.Claim 1 0
    ∷ FineStep.See 1 1 0 None
    ∷ FineStep.Desk 1 true
    ∷ FineStep.Park 1
    ∷ FineStep.Wake 0
    ∷ FineStep.Claim 1 0
    ∷ FineStep.See 1 1 0 None
    ∷ FineStep.Link 1 (Act.Read Object.Client (0x05 ∷ 0x00 ∷ []))
    ∷ FineStep.Link 1 (Act.Wrote Object.Client 2)
    ∷ FineStep.Desk 1 true
    ∷ FineStep.Link 1 (Act.Idle Object.Client false)
    ∷ []

pub behind_close_is : coarse behind_close ≡ Coarse.Unlawful 13
behind_close_is = refl

-- the place of the first step that isn't allowed, or 0
abbrev pub place_of : Coarse → ℕ
place_of (Coarse.Unlawful n) = n
place_of (Coarse.Events es) = 0

-- a stopped turn in Talk: nothing behind its close
abbrev pub idle_behind_stopped_close : List FineStep
idle_behind_stopped_close =
    FineStep.Start [] 256 1 1
    ∷ FineStep.Publish all_pass
    ∷ FineStep.Place 0 client_at local_at 0
    ∷ FineStep.Claim 1 0
    ∷ FineStep.See 1 1 0 None
    ∷ FineStep.Desk 1 true
    ∷ FineStep.Park 1
    ∷ FineStep.Stop StopBy.Control
    ∷ FineStep.Wake 0
    ∷ FineStep.Claim 1 0
    ∷ FineStep.See 1 1 0 (Some StopBy.Control)
    ∷ FineStep.Desk 1 true
    ∷ FineStep.Link 1 (Act.Idle Object.Client false)
    ∷ []

pub idle_behind_stopped_close_is : place_of (coarse idle_behind_stopped_close) ≡ 12
idle_behind_stopped_close_is = refl

-- a stopped turn in Judging: nothing behind its close
abbrev pub idle_behind_stopped_close_judging : List FineStep
idle_behind_stopped_close_judging =
    FineStep.Start [] 256 1 1
    ∷ FineStep.Publish all_pass
    ∷ FineStep.Place 0 client_at local_at 0
    ∷ FineStep.Claim 1 0
    ∷ FineStep.See 1 1 0 None
    ∷ FineStep.Desk 1 true
    ∷ FineStep.Park 1
    ∷ FineStep.Wake 0
    ∷ FineStep.Claim 1 0
    ∷ FineStep.See 1 1 0 None
    ∷ FineStep.Link 1 (Act.Read Object.Client (0x05 ∷ 0x01 ∷ 0x00 ∷ 0x05 ∷ 0x01 ∷ 0x00 ∷ 0x03 ∷ 0x06 ∷ 0x61 ∷ 0x2e ∷ 0x74 ∷ 0x65 ∷ 0x73 ∷ 0x74 ∷ 0x00 ∷ 0x50 ∷ []))
    ∷ FineStep.Link 1 (Act.Looked (Some (Addr.V4 1)))
    ∷ FineStep.Link 1 (Act.Wrote Object.Client 2)
    ∷ FineStep.Park 1
    ∷ FineStep.Stop StopBy.Control
    ∷ FineStep.Wake 0
    ∷ FineStep.Claim 1 0
    ∷ FineStep.See 1 1 0 (Some StopBy.Control)
    ∷ FineStep.Desk 1 true
    ∷ FineStep.Link 1 (Act.Idle Object.Client false)
    ∷ []

pub idle_behind_stopped_close_judging_is : place_of (coarse idle_behind_stopped_close_judging) ≡ 19
idle_behind_stopped_close_judging_is = refl

-- no write stands before the grant, also none that fails
abbrev pub fault_then_desk : List FineStep
fault_then_desk =
    FineStep.Start [] 256 1 1
    ∷ FineStep.Publish all_pass
    ∷ FineStep.Place 0 client_at local_at 0
    ∷ FineStep.Claim 1 0
    ∷ FineStep.See 1 1 0 None
    ∷ FineStep.Desk 1 true
    ∷ FineStep.Park 1
    ∷ FineStep.Wake 0
    ∷ FineStep.Claim 1 0
    ∷ FineStep.See 1 1 0 None
    ∷ FineStep.Link 1 (Act.Read Object.Client (0x05 ∷ 0x01 ∷ 0x00 ∷ 0x05 ∷ 0x01 ∷ 0x00 ∷ 0x01 ∷ 0xC6 ∷ 0x33 ∷ 0x64 ∷ 0x0A ∷ 0x00 ∷ 0x50 ∷ []))
    ∷ FineStep.Link 1 (Act.Fault Object.Client true)
    ∷ FineStep.Desk 1 true
    ∷ []

pub fault_then_desk_is : place_of (coarse fault_then_desk) ≡ 11
fault_then_desk_is = refl

-- ..
abbrev pub fault_then_desk_idle : List FineStep
fault_then_desk_idle =
    FineStep.Start [] 256 1 1
    ∷ FineStep.Publish all_pass
    ∷ FineStep.Place 0 client_at local_at 0
    ∷ FineStep.Claim 1 0
    ∷ FineStep.See 1 1 0 None
    ∷ FineStep.Desk 1 true
    ∷ FineStep.Park 1
    ∷ FineStep.Wake 0
    ∷ FineStep.Claim 1 0
    ∷ FineStep.See 1 1 0 None
    ∷ FineStep.Link 1 (Act.Read Object.Client (0x05 ∷ 0x01 ∷ 0x00 ∷ 0x05 ∷ 0x01 ∷ 0x00 ∷ 0x01 ∷ 0xC6 ∷ 0x33 ∷ 0x64 ∷ 0x0A ∷ 0x00 ∷ 0x50 ∷ []))
    ∷ FineStep.Link 1 (Act.Fault Object.Client true)
    ∷ FineStep.Desk 1 true
    ∷ FineStep.Link 1 (Act.Idle Object.Client true)
    ∷ []

pub fault_then_desk_idle_is : place_of (coarse fault_then_desk_idle) ≡ 11
fault_then_desk_idle_is = refl

-- the other way round
abbrev pub desk_then_fault_idle : List FineStep
desk_then_fault_idle =
    FineStep.Start [] 256 1 1
    ∷ FineStep.Publish all_pass
    ∷ FineStep.Place 0 client_at local_at 0
    ∷ FineStep.Claim 1 0
    ∷ FineStep.See 1 1 0 None
    ∷ FineStep.Desk 1 true
    ∷ FineStep.Park 1
    ∷ FineStep.Wake 0
    ∷ FineStep.Claim 1 0
    ∷ FineStep.See 1 1 0 None
    ∷ FineStep.Link 1 (Act.Read Object.Client (0x05 ∷ 0x01 ∷ 0x00 ∷ 0x05 ∷ 0x01 ∷ 0x00 ∷ 0x01 ∷ 0xC6 ∷ 0x33 ∷ 0x64 ∷ 0x0A ∷ 0x00 ∷ 0x50 ∷ []))
    ∷ FineStep.Desk 1 true
    ∷ FineStep.Link 1 (Act.Fault Object.Client true)
    ∷ FineStep.Link 1 (Act.Idle Object.Client true)
    ∷ []

pub desk_then_fault_idle_is : place_of (coarse desk_then_fault_idle) ≡ 0
desk_then_fault_idle_is = refl

-- no second read behind a whole request
abbrev pub read_behind_request : List FineStep
read_behind_request =
    FineStep.Start [] 256 1 1
    ∷ FineStep.Publish all_pass
    ∷ FineStep.Place 0 client_at local_at 0
    ∷ FineStep.Claim 1 0
    ∷ FineStep.See 1 1 0 None
    ∷ FineStep.Desk 1 true
    ∷ FineStep.Park 1
    ∷ FineStep.Wake 0
    ∷ FineStep.Claim 1 0
    ∷ FineStep.See 1 1 0 None
    ∷ FineStep.Link 1 (Act.Read Object.Client (0x05 ∷ 0x01 ∷ 0x00 ∷ 0x05 ∷ 0x01 ∷ 0x00 ∷ 0x01 ∷ 0xC6 ∷ 0x33 ∷ 0x64 ∷ 0x0A ∷ 0x00 ∷ 0x50 ∷ []))
    ∷ FineStep.Link 1 (Act.Read Object.Client (0x61 ∷ []))
    ∷ []

pub read_behind_request_is : place_of (coarse read_behind_request) ≡ 11
read_behind_request_is = refl

-- no second read behind a bad byte
abbrev pub read_behind_bad : List FineStep
read_behind_bad =
    FineStep.Start [] 256 1 1
    ∷ FineStep.Publish all_pass
    ∷ FineStep.Place 0 client_at local_at 0
    ∷ FineStep.Claim 1 0
    ∷ FineStep.See 1 1 0 None
    ∷ FineStep.Desk 1 true
    ∷ FineStep.Park 1
    ∷ FineStep.Wake 0
    ∷ FineStep.Claim 1 0
    ∷ FineStep.See 1 1 0 None
    ∷ FineStep.Link 1 (Act.Read Object.Client (0x47 ∷ []))
    ∷ FineStep.Link 1 (Act.Read Object.Client (0x61 ∷ []))
    ∷ []

pub read_behind_bad_is : place_of (coarse read_behind_bad) ≡ 11
read_behind_bad_is = refl

-- no read behind the end
abbrev pub read_behind_end : List FineStep
read_behind_end =
    FineStep.Start [] 256 1 1
    ∷ FineStep.Publish all_pass
    ∷ FineStep.Place 0 client_at local_at 0
    ∷ FineStep.Claim 1 0
    ∷ FineStep.See 1 1 0 None
    ∷ FineStep.Desk 1 true
    ∷ FineStep.Park 1
    ∷ FineStep.Wake 0
    ∷ FineStep.Claim 1 0
    ∷ FineStep.See 1 1 0 None
    ∷ FineStep.Link 1 (Act.Read Object.Client (0x05 ∷ []))
    ∷ FineStep.Link 1 (Act.End Object.Client)
    ∷ FineStep.Link 1 (Act.Read Object.Client (0x01 ∷ []))
    ∷ []

pub read_behind_end_is : place_of (coarse read_behind_end) ≡ 12
read_behind_end_is = refl

-- no write stands before the grant
abbrev pub quantum_then_call : List FineStep
quantum_then_call =
    FineStep.Start [] 256 1 1
    ∷ FineStep.Publish all_pass
    ∷ FineStep.Place 0 client_at local_at 0
    ∷ FineStep.Claim 1 0
    ∷ FineStep.See 1 1 0 None
    ∷ FineStep.Desk 1 true
    ∷ FineStep.Park 1
    ∷ FineStep.Wake 0
    ∷ FineStep.Claim 1 0
    ∷ FineStep.See 1 1 0 None
    ∷ FineStep.Link 1 (Act.Read Object.Client (0x05 ∷ 0x01 ∷ 0x00 ∷ 0x05 ∷ 0x01 ∷ 0x00 ∷ 0x01 ∷ 0xC6 ∷ 0x33 ∷ 0x64 ∷ 0x0A ∷ 0x00 ∷ 0x50 ∷ []))
    ∷ FineStep.Link 1 (Act.Wrote Object.Client 2)
    ∷ FineStep.Desk 1 true
    ∷ []

pub quantum_then_call_is : place_of (coarse quantum_then_call) ≡ 11
quantum_then_call_is = refl

-- a send at the port fails while a reply is pending: close is not due
abbrev pub port_send_fails : List FineStep
port_send_fails =
    FineStep.Start [] 256 1 1
    ∷ FineStep.Publish all_pass
    ∷ FineStep.Place 0 client_at local_at 0
    ∷ FineStep.Claim 1 0
    ∷ FineStep.See 1 1 0 None
    ∷ FineStep.Desk 1 true
    ∷ FineStep.Park 1
    ∷ FineStep.Wake 0
    ∷ FineStep.Claim 1 0
    ∷ FineStep.See 1 1 0 None
    ∷ FineStep.Link 1 (Act.Read Object.Client (0x05 ∷ 0x01 ∷ 0x00 ∷ 0x05 ∷ 0x03 ∷ 0x00 ∷ 0x01 ∷ 0x00 ∷ 0x00 ∷ 0x00 ∷ 0x00 ∷ 0x00 ∷ 0x00 ∷ []))
    ∷ FineStep.Desk 1 true
    ∷ FineStep.Link 1 (Act.Idle Object.Client true)
    ∷ FineStep.Park 1
    ∷ FineStep.Wake 0
    ∷ FineStep.Claim 1 0
    ∷ FineStep.See 1 1 0 None
    ∷ FineStep.Link 1 (Act.Up (at4 0xC0000209 40002))
    ∷ FineStep.Link 1 (Act.Idle Object.Client true)
    ∷ FineStep.Park 1
    ∷ FineStep.Wake 0
    ∷ FineStep.Claim 1 0
    ∷ FineStep.See 1 1 0 None
    ∷ FineStep.Link 1 (Act.Gram (at4 0x0A000005 6000) (0x00 ∷ 0x00 ∷ 0x00 ∷ 0x01 ∷ 0xC6 ∷ 0x33 ∷ 0x64 ∷ 0x0A ∷ 0x00 ∷ 0x35 ∷ 0x63 ∷ []))
    ∷ FineStep.Link 1 (Act.Fault Object.Port false)
    ∷ FineStep.Desk 1 true
    ∷ []

pub port_send_fails_is : place_of (coarse port_send_fails) ≡ 25
port_send_fails_is = refl

-- .. also where it is told as one of a write
abbrev pub port_send_fails_written : List FineStep
port_send_fails_written =
    FineStep.Start [] 256 1 1
    ∷ FineStep.Publish all_pass
    ∷ FineStep.Place 0 client_at local_at 0
    ∷ FineStep.Claim 1 0
    ∷ FineStep.See 1 1 0 None
    ∷ FineStep.Desk 1 true
    ∷ FineStep.Park 1
    ∷ FineStep.Wake 0
    ∷ FineStep.Claim 1 0
    ∷ FineStep.See 1 1 0 None
    ∷ FineStep.Link 1 (Act.Read Object.Client (0x05 ∷ 0x01 ∷ 0x00 ∷ 0x05 ∷ 0x03 ∷ 0x00 ∷ 0x01 ∷ 0x00 ∷ 0x00 ∷ 0x00 ∷ 0x00 ∷ 0x00 ∷ 0x00 ∷ []))
    ∷ FineStep.Desk 1 true
    ∷ FineStep.Link 1 (Act.Idle Object.Client true)
    ∷ FineStep.Park 1
    ∷ FineStep.Wake 0
    ∷ FineStep.Claim 1 0
    ∷ FineStep.See 1 1 0 None
    ∷ FineStep.Link 1 (Act.Up (at4 0xC0000209 40002))
    ∷ FineStep.Link 1 (Act.Idle Object.Client true)
    ∷ FineStep.Park 1
    ∷ FineStep.Wake 0
    ∷ FineStep.Claim 1 0
    ∷ FineStep.See 1 1 0 None
    ∷ FineStep.Link 1 (Act.Gram (at4 0x0A000005 6000) (0x00 ∷ 0x00 ∷ 0x00 ∷ 0x01 ∷ 0xC6 ∷ 0x33 ∷ 0x64 ∷ 0x0A ∷ 0x00 ∷ 0x35 ∷ 0x63 ∷ []))
    ∷ FineStep.Link 1 (Act.Fault Object.Port true)
    ∷ FineStep.Desk 1 true
    ∷ []

pub port_send_fails_written_is : place_of (coarse port_send_fails_written) ≡ 25
port_send_fails_written_is = refl

abbrev to_talk : List FineStep
to_talk =
    FineStep.Start [] 256 1 1 ∷ FineStep.Publish all_pass ∷ FineStep.Place 0 client_at local_at 0 ∷ FineStep.Claim 1 0 ∷ FineStep.See 1 1 0 None ∷ FineStep.Desk 1 true
    ∷ FineStep.Park 1 ∷ FineStep.Wake 0 ∷ FineStep.Claim 1 0 ∷ FineStep.See 1 1 0 None ∷ []

-- a program that writes the method before it reads on may not read the whole request in the same turn
writes_then_reads : place_of (coarse (to_talk ++ FineStep.Link 1 (Act.Read Object.Client greeting) ∷ FineStep.Link 1 (Act.Wrote Object.Client 2) ∷ FineStep.Link 1 (Act.Read Object.Client request) ∷ [])) ≡ 12
writes_then_reads = refl

-- .. though it may read a part of it
writes_then_reads_part : place_of (coarse (to_talk ++ FineStep.Link 1 (Act.Read Object.Client greeting) ∷ FineStep.Link 1 (Act.Wrote Object.Client 2) ∷ FineStep.Link 1 (Act.Read Object.Client (5 ∷ [])) ∷ [])) ≡ 0
writes_then_reads_part = refl

-- ---- what the record in hand reads

-- no read behind a whole request
reads_behind_request : place_of (coarse (to_talk ++ FineStep.Link 1 (Act.Read Object.Client (greeting ++ request)) ∷ FineStep.Link 1 (Act.Read Object.Client (0x61 ∷ [])) ∷ [])) ≡ 11
reads_behind_request = refl

-- .. nor an end
ends_behind_request : place_of (coarse (to_talk ++ FineStep.Link 1 (Act.Read Object.Client (greeting ++ request)) ∷ FineStep.Link 1 (Act.End Object.Client) ∷ [])) ≡ 11
ends_behind_request = refl

reads_in_two : place_of (coarse (to_talk ++ FineStep.Link 1 (Act.Read Object.Client greeting) ∷ FineStep.Link 1 (Act.Read Object.Client request) ∷ [])) ≡ 0
reads_in_two = refl
