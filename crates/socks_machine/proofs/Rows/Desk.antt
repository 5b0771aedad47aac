-- What the desk answers where several causes meet: a block, no place, a limit of 0, a failed log, a stop.
use Rattle.std.specs.Prelude.{◌≡◌, refl, true, false, Some, List, [], ◌∷◌, ◌++◌, codes, option_map}
use Rattle.socks_grammar.specs.declared.protocol.Method.{Method}
use Rattle.conf_types.specs.declared.entries.Entries.{Entries}
use Rattle.socks_machine.specs.declared.cause.StopBy.{StopBy}
use Rattle.socks_machine.specs.declared.world.Outer.{Outer}
use Rattle.socks_machine.specs.declared.world.NextMark.{NextMark}
use Rattle.socks_machine.specs.declared.world.Event.{Event}
use Rattle.socks_machine.specs.Step.{run}
use Rattle.socks_machine.specs.Transcript.{ends}
use Rattle.socks_machine.specs.LogText.{log_text}
use Rattle.socks_machine.proofs.Rows.Shared.{all_pass, config, client_rule, socks_rule, any, quiet, client_at, local_at, blocks_clients}

-- a passing open at live = cap
abbrev pub crowded : List Event
crowded =
    Event.Publish (all_pass)
    ∷ Event.See 1 1
    ∷ Event.Open 1 1 client_at local_at 0
    ∷ Event.Open 1 2 client_at local_at 0
    ∷ Event.Turn (record (quiet 1 1 0) { outer = Outer.Desk true; next = NextMark.Again })
    ∷ Event.Turn (record (quiet 1 2 0) { outer = Outer.Desk true; next = NextMark.Done })
    ∷ []

pub crowded_log : option_map (λ w. log_text w.h) (run [] 1 1 crowded) ≡ Some ((codes "1 open 1 gen 1 client 1 pass from 10.0.0.5:5000 to 127.0.0.1:1080" ++ 10 ∷ []))
crowded_log = refl

pub crowded_ends : option_map ends (run [] 1 1 crowded) ≡ Some ((codes "client 1 -" ++ 10 ∷ []) ++ (codes "target 1 -" ++ 10 ∷ []) ++ (codes "end 1 open" ++ 10 ∷ []) ++ (codes "client 2 -" ++ 10 ∷ []) ++ (codes "target 2 -" ++ 10 ∷ []) ++ (codes "end 2 crowded live 1 cap 1" ++ 10 ∷ []))
crowded_ends = refl

-- no line is due at Crowded: `logged` says nothing
abbrev pub crowded_unlogged : List Event
crowded_unlogged =
    Event.Publish (all_pass)
    ∷ Event.See 1 1
    ∷ Event.Open 1 1 client_at local_at 0
    ∷ Event.Open 1 2 client_at local_at 0
    ∷ Event.Turn (record (quiet 1 1 0) { outer = Outer.Desk true; next = NextMark.Again })
    ∷ Event.Turn (record (quiet 1 2 0) { outer = Outer.Desk false; next = NextMark.Done })
    ∷ []

pub crowded_unlogged_log : option_map (λ w. log_text w.h) (run [] 1 1 crowded_unlogged) ≡ Some ((codes "1 open 1 gen 1 client 1 pass from 10.0.0.5:5000 to 127.0.0.1:1080" ++ 10 ∷ []))
crowded_unlogged_log = refl

pub crowded_unlogged_ends : option_map ends (run [] 1 1 crowded_unlogged) ≡ Some ((codes "client 1 -" ++ 10 ∷ []) ++ (codes "target 1 -" ++ 10 ∷ []) ++ (codes "end 1 open" ++ 10 ∷ []) ++ (codes "client 2 -" ++ 10 ∷ []) ++ (codes "target 2 -" ++ 10 ∷ []) ++ (codes "end 2 crowded live 1 cap 1" ++ 10 ∷ []))
crowded_unlogged_ends = refl

-- a blocked open at live = cap
abbrev pub blocked_crowded : List Event
blocked_crowded =
    Event.Publish (all_pass)
    ∷ Event.See 1 1
    ∷ Event.Publish (blocks_clients)
    ∷ Event.See 2 2
    ∷ Event.Open 1 1 client_at local_at 0
    ∷ Event.Open 2 2 client_at local_at 0
    ∷ Event.Turn (record (quiet 1 1 0) { outer = Outer.Desk true; next = NextMark.Again })
    ∷ Event.Turn (record (quiet 2 2 0) { outer = Outer.Desk true; next = NextMark.Done })
    ∷ []

pub blocked_crowded_log : option_map (λ w. log_text w.h) (run [] 1 2 blocked_crowded) ≡ Some ((codes "1 open 1 gen 1 client 1 pass from 10.0.0.5:5000 to 127.0.0.1:1080" ++ 10 ∷ []) ++ (codes "2 open 2 gen 2 client 1 block from 10.0.0.5:5000 to 127.0.0.1:1080" ++ 10 ∷ []))
blocked_crowded_log = refl

pub blocked_crowded_ends : option_map ends (run [] 1 2 blocked_crowded) ≡ Some ((codes "client 1 -" ++ 10 ∷ []) ++ (codes "target 1 -" ++ 10 ∷ []) ++ (codes "end 1 open" ++ 10 ∷ []) ++ (codes "client 2 -" ++ 10 ∷ []) ++ (codes "target 2 -" ++ 10 ∷ []) ++ (codes "end 2 clientblocked gen 2 client 1" ++ 10 ∷ []))
blocked_crowded_ends = refl

-- LogFault is the cause also where the verdict blocks
abbrev pub blocked_logfault : List Event
blocked_logfault =
    Event.Publish (blocks_clients)
    ∷ Event.See 1 1
    ∷ Event.Open 1 1 client_at local_at 0
    ∷ Event.Turn (record (quiet 1 1 0) { outer = Outer.Desk false; next = NextMark.Done })
    ∷ []

pub blocked_logfault_log : option_map (λ w. log_text w.h) (run [] 256 1 blocked_logfault) ≡ Some ((codes "1 open 1 gen 1 client 1 block from 10.0.0.5:5000 to 127.0.0.1:1080" ++ 10 ∷ []))
blocked_logfault_log = refl

pub blocked_logfault_ends : option_map ends (run [] 256 1 blocked_logfault) ≡ Some ((codes "client 1 -" ++ 10 ∷ []) ++ (codes "target 1 -" ++ 10 ∷ []) ++ (codes "end 1 logfault" ++ 10 ∷ []))
blocked_logfault_ends = refl

-- Stopped by the desk is the cause also where the verdict blocks
abbrev pub blocked_stopped : List Event
blocked_stopped =
    Event.Publish (blocks_clients)
    ∷ Event.See 1 1
    ∷ Event.Open 1 1 client_at local_at 0
    ∷ Event.Stop StopBy.Control
    ∷ Event.Turn (record (quiet 1 1 0) { outer = Outer.Desk true; next = NextMark.Done })
    ∷ []

pub blocked_stopped_log : option_map (λ w. log_text w.h) (run [] 256 1 blocked_stopped) ≡ Some ([])
blocked_stopped_log = refl

pub blocked_stopped_ends : option_map ends (run [] 256 1 blocked_stopped) ≡ Some ((codes "client 1 -" ++ 10 ∷ []) ++ (codes "target 1 -" ++ 10 ∷ []) ++ (codes "end 1 stopped control" ++ 10 ∷ []))
blocked_stopped_ends = refl

-- an open whose line failed
abbrev pub open_logfault_live : List Event
open_logfault_live =
    Event.Publish (all_pass)
    ∷ Event.See 1 1
    ∷ Event.Open 1 1 client_at local_at 0
    ∷ Event.Turn (record (quiet 1 1 0) { outer = Outer.Desk false; next = NextMark.Done })
    ∷ []

pub open_logfault_live_log : option_map (λ w. log_text w.h) (run [] 256 1 open_logfault_live) ≡ Some ((codes "1 open 1 gen 1 client 1 pass from 10.0.0.5:5000 to 127.0.0.1:1080" ++ 10 ∷ []))
open_logfault_live_log = refl

pub open_logfault_live_ends : option_map ends (run [] 256 1 open_logfault_live) ≡ Some ((codes "client 1 -" ++ 10 ∷ []) ++ (codes "target 1 -" ++ 10 ∷ []) ++ (codes "end 1 logfault" ++ 10 ∷ []))
open_logfault_live_ends = refl

abbrev pub none_by_socks_rule : Entries
none_by_socks_rule = config (Method.NoAuth ∷ []) ((record (client_rule true any any) { max = Some 1 }) ∷ []) (socks_rule true any any (Some 0) ∷ []) []

abbrev pub none_by_either_rule : Entries
none_by_either_rule = config (Method.NoAuth ∷ []) ((record (client_rule true any any) { max = Some 0 }) ∷ []) (socks_rule true any any (Some 0) ∷ []) []

-- a limit of 0 of the socks rule
abbrev pub full_socks : List Event
full_socks =
    Event.Publish (none_by_socks_rule)
    ∷ Event.See 1 1
    ∷ Event.Open 1 1 client_at local_at 0
    ∷ Event.Turn (record (quiet 1 1 0) { outer = Outer.Desk true; next = NextMark.Again })
    ∷ Event.Turn (record (quiet 1 1 0) { c = (0x05 ∷ 0x01 ∷ 0x00 ∷ 0x05 ∷ 0x01 ∷ 0x00 ∷ 0x01 ∷ 0xC6 ∷ 0x33 ∷ 0x64 ∷ 0x0A ∷ 0x00 ∷ 0x50 ∷ []); sent_c = 12; outer = Outer.Desk true; next = NextMark.Again })
    ∷ Event.Turn (record (quiet 1 1 0) { outer = Outer.Desk true; next = NextMark.Done })
    ∷ []

pub full_socks_log : option_map (λ w. log_text w.h) (run [] 256 1 full_socks) ≡ Some ((codes "1 open 1 gen 1 client 1 pass from 10.0.0.5:5000 to 127.0.0.1:1080" ++ 10 ∷ []) ++ (codes "2 grant 1 gen 1 client 1 socks 1 full connect v5 none user - from 10.0.0.5:5000 to 198.51.100.10:80 name - over socks held 0 max 0" ++ 10 ∷ []) ++ (codes "3 close 1 full gen 1 socks 1 held 0 max 0 took 13 0 sent 12 0" ++ 10 ∷ []))
full_socks_log = refl

pub full_socks_ends : option_map ends (run [] 256 1 full_socks) ≡ Some ((codes "client 1 050005020001000000000000" ++ 10 ∷ []) ++ (codes "target 1 -" ++ 10 ∷ []) ++ (codes "end 1 full gen 1 socks 1 held 0 max 0" ++ 10 ∷ []))
full_socks_ends = refl

-- both limits: the client rule first
abbrev pub full_client : List Event
full_client =
    Event.Publish (none_by_either_rule)
    ∷ Event.See 1 1
    ∷ Event.Open 1 1 client_at local_at 0
    ∷ Event.Turn (record (quiet 1 1 0) { outer = Outer.Desk true; next = NextMark.Again })
    ∷ Event.Turn (record (quiet 1 1 0) { c = (0x05 ∷ 0x01 ∷ 0x00 ∷ 0x05 ∷ 0x01 ∷ 0x00 ∷ 0x01 ∷ 0xC6 ∷ 0x33 ∷ 0x64 ∷ 0x0A ∷ 0x00 ∷ 0x50 ∷ []); sent_c = 12; outer = Outer.Desk true; next = NextMark.Again })
    ∷ Event.Turn (record (quiet 1 1 0) { outer = Outer.Desk true; next = NextMark.Done })
    ∷ []

pub full_client_log : option_map (λ w. log_text w.h) (run [] 256 1 full_client) ≡ Some ((codes "1 open 1 gen 1 client 1 pass from 10.0.0.5:5000 to 127.0.0.1:1080" ++ 10 ∷ []) ++ (codes "2 grant 1 gen 1 client 1 socks 1 full connect v5 none user - from 10.0.0.5:5000 to 198.51.100.10:80 name - over client held 0 max 0" ++ 10 ∷ []) ++ (codes "3 close 1 full gen 1 client 1 held 0 max 0 took 13 0 sent 12 0" ++ 10 ∷ []))
full_client_log = refl

pub full_client_ends : option_map ends (run [] 256 1 full_client) ≡ Some ((codes "client 1 050005020001000000000000" ++ 10 ∷ []) ++ (codes "target 1 -" ++ 10 ∷ []) ++ (codes "end 1 full gen 1 client 1 held 0 max 0" ++ 10 ∷ []))
full_client_ends = refl

-- a full grant whose line failed
abbrev pub full_logfault : List Event
full_logfault =
    Event.Publish (none_by_either_rule)
    ∷ Event.See 1 1
    ∷ Event.Open 1 1 client_at local_at 0
    ∷ Event.Turn (record (quiet 1 1 0) { outer = Outer.Desk true; next = NextMark.Again })
    ∷ Event.Turn (record (quiet 1 1 0) { c = (0x05 ∷ 0x01 ∷ 0x00 ∷ 0x05 ∷ 0x01 ∷ 0x00 ∷ 0x01 ∷ 0xC6 ∷ 0x33 ∷ 0x64 ∷ 0x0A ∷ 0x00 ∷ 0x50 ∷ []); sent_c = 12; outer = Outer.Desk false; next = NextMark.Again })
    ∷ Event.Turn (record (quiet 1 1 0) { outer = Outer.Desk true; stop = Some StopBy.Log; next = NextMark.Done })
    ∷ []

pub full_logfault_log : option_map (λ w. log_text w.h) (run [] 256 1 full_logfault) ≡ Some ((codes "1 open 1 gen 1 client 1 pass from 10.0.0.5:5000 to 127.0.0.1:1080" ++ 10 ∷ []) ++ (codes "2 grant 1 gen 1 client 1 socks 1 full connect v5 none user - from 10.0.0.5:5000 to 198.51.100.10:80 name - over client held 0 max 0" ++ 10 ∷ []) ++ (codes "3 close 1 logfault took 13 0 sent 12 0" ++ 10 ∷ []))
full_logfault_log = refl

pub full_logfault_ends : option_map ends (run [] 256 1 full_logfault) ≡ Some ((codes "client 1 050005010001000000000000" ++ 10 ∷ []) ++ (codes "target 1 -" ++ 10 ∷ []) ++ (codes "end 1 logfault" ++ 10 ∷ []))
full_logfault_ends = refl

-- a close whose line failed
abbrev pub close_logfault : List Event
close_logfault =
    Event.Publish (all_pass)
    ∷ Event.See 1 1
    ∷ Event.Open 1 1 client_at local_at 0
    ∷ Event.Turn (record (quiet 1 1 0) { outer = Outer.Desk true; next = NextMark.Again })
    ∷ Event.Turn (record (quiet 1 1 0) { c = (0x47 ∷ []); outer = Outer.Desk false; next = NextMark.Done })
    ∷ []

pub close_logfault_log : option_map (λ w. log_text w.h) (run [] 256 1 close_logfault) ≡ Some ((codes "1 open 1 gen 1 client 1 pass from 10.0.0.5:5000 to 127.0.0.1:1080" ++ 10 ∷ []) ++ (codes "2 close 1 badversion at 0 byte 47 took 1 0 sent 0 0" ++ 10 ∷ []))
close_logfault_log = refl

pub close_logfault_ends : option_map ends (run [] 256 1 close_logfault) ≡ Some ((codes "client 1 -" ++ 10 ∷ []) ++ (codes "target 1 -" ++ 10 ∷ []) ++ (codes "end 1 logfault" ++ 10 ∷ []))
close_logfault_ends = refl

-- the mark Log behind Control
abbrev pub log_behind_control : List Event
log_behind_control =
    Event.Publish (all_pass)
    ∷ Event.See 1 1
    ∷ Event.Open 1 1 client_at local_at 0
    ∷ Event.Turn (record (quiet 1 1 0) { outer = Outer.Desk true; next = NextMark.Again })
    ∷ Event.Open 1 2 client_at local_at 0
    ∷ Event.Turn (record (quiet 1 2 0) { outer = Outer.Desk true; next = NextMark.Again })
    ∷ Event.Stop StopBy.Control
    ∷ Event.Turn (record (quiet 1 1 0) { outer = Outer.Desk false; stop = Some StopBy.Control; next = NextMark.Done })
    ∷ Event.Turn (record (quiet 1 2 0) { outer = Outer.Desk true; stop = Some StopBy.Log; next = NextMark.Done })
    ∷ []

pub log_behind_control_log : option_map (λ w. log_text w.h) (run [] 256 1 log_behind_control) ≡ Some ((codes "1 open 1 gen 1 client 1 pass from 10.0.0.5:5000 to 127.0.0.1:1080" ++ 10 ∷ []) ++ (codes "2 open 2 gen 1 client 1 pass from 10.0.0.5:5000 to 127.0.0.1:1080" ++ 10 ∷ []) ++ (codes "3 close 1 stopped control took 0 0 sent 0 0" ++ 10 ∷ []) ++ (codes "4 close 2 stopped log took 0 0 sent 0 0" ++ 10 ∷ []))
log_behind_control_log = refl

pub log_behind_control_ends : option_map ends (run [] 256 1 log_behind_control) ≡ Some ((codes "client 1 -" ++ 10 ∷ []) ++ (codes "target 1 -" ++ 10 ∷ []) ++ (codes "end 1 logfault" ++ 10 ∷ []) ++ (codes "client 2 -" ++ 10 ∷ []) ++ (codes "target 2 -" ++ 10 ∷ []) ++ (codes "end 2 stopped log" ++ 10 ∷ []))
log_behind_control_ends = refl

-- a turn that was given the older mark
abbrev pub older_mark : List Event
older_mark =
    Event.Publish (all_pass)
    ∷ Event.See 1 1
    ∷ Event.Open 1 1 client_at local_at 0
    ∷ Event.Turn (record (quiet 1 1 0) { outer = Outer.Desk true; next = NextMark.Again })
    ∷ Event.Open 1 2 client_at local_at 0
    ∷ Event.Turn (record (quiet 1 2 0) { outer = Outer.Desk true; next = NextMark.Again })
    ∷ Event.Stop StopBy.Control
    ∷ Event.Turn (record (quiet 1 1 0) { outer = Outer.Desk false; stop = Some StopBy.Control; next = NextMark.Done })
    ∷ Event.Turn (record (quiet 1 2 0) { outer = Outer.Desk true; stop = Some StopBy.Control; next = NextMark.Done })
    ∷ []

pub older_mark_log : option_map (λ w. log_text w.h) (run [] 256 1 older_mark) ≡ Some ((codes "1 open 1 gen 1 client 1 pass from 10.0.0.5:5000 to 127.0.0.1:1080" ++ 10 ∷ []) ++ (codes "2 open 2 gen 1 client 1 pass from 10.0.0.5:5000 to 127.0.0.1:1080" ++ 10 ∷ []) ++ (codes "3 close 1 stopped control took 0 0 sent 0 0" ++ 10 ∷ []) ++ (codes "4 close 2 stopped control took 0 0 sent 0 0" ++ 10 ∷ []))
older_mark_log = refl

pub older_mark_ends : option_map ends (run [] 256 1 older_mark) ≡ Some ((codes "client 1 -" ++ 10 ∷ []) ++ (codes "target 1 -" ++ 10 ∷ []) ++ (codes "end 1 logfault" ++ 10 ∷ []) ++ (codes "client 2 -" ++ 10 ∷ []) ++ (codes "target 2 -" ++ 10 ∷ []) ++ (codes "end 2 stopped control" ++ 10 ∷ []))
older_mark_ends = refl
