-- The text of a cause as its name and what stands behind it.
use Rattle.std.specs.Prelude.{ℕ, Option, Some, None, List, [], ◌∷◌, codes}
use Rattle.rule_list.specs.declared.verdict.Verdict.{Verdict}
use Rattle.socks_machine.specs.declared.cause.Cause.{Cause}
use Rattle.addr_pattern.specs.AddressText.{addr_text, endpoint_text}
use Rattle.socks_machine.specs.LogText.{standing_text, stop_text, stage_text, kind_text}
use Rattle.transcript_text.specs.Pieces.{digits, hex_pair}

abbrev pub cause_name : Cause → List ℕ
cause_name Cause.Finished = codes "finished"
cause_name (Cause.ClientBlocked g rule) = codes "clientblocked"
cause_name (Cause.Denied g v) = codes "denied"
cause_name (Cause.Full g list rule held limit) = codes "full"
cause_name (Cause.Crowded live cap) = codes "crowded"
cause_name (Cause.OutOfTurn s) = codes "outofturn"
cause_name (Cause.BadVersion at byte) = codes "badversion"
cause_name (Cause.BadRequest at byte) = codes "badrequest"
cause_name (Cause.CommandUnsupported at byte) = codes "commandunsupported"
cause_name (Cause.AtypUnsupported at byte) = codes "atypunsupported"
cause_name Cause.NoMethod = codes "nomethod"
cause_name Cause.LoginFailed = codes "loginfailed"
cause_name (Cause.ClientGone at) = codes "clientgone"
cause_name Cause.NotFound = codes "notfound"
cause_name Cause.Refused = codes "refused"
cause_name Cause.HostUnreachable = codes "hostunreachable"
cause_name Cause.NetUnreachable = codes "netunreachable"
cause_name (Cause.Upstream stage code) = codes "upstream"
cause_name (Cause.UpstreamBad at byte) = codes "upstreambad"
cause_name Cause.NetFault = codes "netfault"
cause_name Cause.ClientFault = codes "clientfault"
cause_name Cause.TargetFault = codes "targetfault"
cause_name Cause.DoorFault = codes "doorfault"
cause_name Cause.PortFault = codes "portfault"
cause_name Cause.LogFault = codes "logfault"
cause_name (Cause.WrongPeer peer asked) = codes "wrongpeer"
cause_name (Cause.TimedOut since now limit) = codes "timedout"
cause_name (Cause.Stopped by) = codes "stopped"
cause_name Cause.Memory = codes "memory"

abbrev pub rule_digits : Option ℕ → List ℕ
rule_digits None = codes "none"
rule_digits (Some n) = digits n

abbrev pub client_digits : Verdict → List ℕ
client_digits (Verdict.Pass c s) = digits c
client_digits (Verdict.ClientBlock c) = digits c
client_digits Verdict.ClientNone = codes "none"
client_digits (Verdict.SocksBlock c s) = digits c
client_digits (Verdict.SocksNone c) = digits c

abbrev pub socks_digits : Verdict → List ℕ
socks_digits (Verdict.Pass c s) = digits s
socks_digits (Verdict.ClientBlock c) = codes "-"
socks_digits Verdict.ClientNone = codes "-"
socks_digits (Verdict.SocksBlock c s) = digits s
socks_digits (Verdict.SocksNone c) = codes "none"

abbrev pub place_words : ℕ → ℕ → List (List ℕ)
place_words at byte = codes "at" ∷ digits at ∷ codes "byte" ∷ hex_pair byte ∷ []

abbrev pub upstream_words : ℕ → Option ℕ → List (List ℕ)
upstream_words at None = codes "at" ∷ digits at ∷ codes "end" ∷ []
upstream_words at (Some byte) = place_words at byte

-- what stands behind the name
abbrev pub details : Cause → List (List ℕ)
details (Cause.ClientBlocked g rule) = codes "gen" ∷ digits g ∷ codes "client" ∷ rule_digits rule ∷ []
details (Cause.Denied g v) = codes "gen" ∷ digits g ∷ codes "client" ∷ client_digits v ∷ codes "socks" ∷ socks_digits v ∷ []
details (Cause.Full g list rule held limit) =
    codes "gen" ∷ digits g ∷ kind_text list ∷ digits rule ∷ codes "held" ∷ digits held ∷ codes "max" ∷ digits limit ∷ []
details (Cause.Crowded live cap) = codes "live" ∷ digits live ∷ codes "cap" ∷ digits cap ∷ []
details (Cause.OutOfTurn s) = standing_text s ∷ []
details (Cause.BadVersion at byte) = place_words at byte
details (Cause.BadRequest at byte) = place_words at byte
details (Cause.CommandUnsupported at byte) = place_words at byte
details (Cause.AtypUnsupported at byte) = place_words at byte
details (Cause.ClientGone at) = codes "at" ∷ digits at ∷ []
details (Cause.Upstream stage code) = stage_text stage ∷ hex_pair code ∷ []
details (Cause.UpstreamBad at byte) = upstream_words at byte
details (Cause.WrongPeer peer asked) = endpoint_text peer ∷ codes "asked" ∷ addr_text asked ∷ []
details (Cause.TimedOut since now limit) =
    codes "since" ∷ digits since ∷ codes "now" ∷ digits now ∷ codes "limit" ∷ digits limit ∷ []
details (Cause.Stopped by) = stop_text by ∷ []
details Cause.Finished = []
details Cause.NoMethod = []
details Cause.LoginFailed = []
details Cause.NotFound = []
details Cause.Refused = []
details Cause.HostUnreachable = []
details Cause.NetUnreachable = []
details Cause.NetFault = []
details Cause.ClientFault = []
details Cause.TargetFault = []
details Cause.DoorFault = []
details Cause.PortFault = []
details Cause.LogFault = []
details Cause.Memory = []
