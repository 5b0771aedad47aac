-- The text of the decision history.
use Rattle.std.specs.Prelude.{ℕ, ◌+◌, Bool, true, false, ◌==◌, if◌then◌else◌, Option, Some, None, List, [], ◌∷◌, ◌++◌, codes, bytes_eq}
use Rattle.socks_grammar.specs.declared.protocol.Command.{Command}
use Rattle.socks_grammar.specs.declared.protocol.Method.{Method}
use Rattle.socks_grammar.specs.declared.protocol.Version.{Version}
use Rattle.socks_grammar.specs.declared.protocol.Stage.{Stage}
use Rattle.rule_list.specs.declared.verdict.Verdict.{Verdict}
use Rattle.socks_machine.specs.declared.cause.Cause.{Cause}
use Rattle.socks_machine.specs.declared.cause.ListKind.{ListKind}
use Rattle.socks_machine.specs.declared.cause.Standing.{Standing}
use Rattle.socks_machine.specs.declared.cause.StopBy.{StopBy}
use Rattle.socks_machine.specs.declared.lines.OpenLine.{OpenLine}
use Rattle.socks_machine.specs.declared.lines.GrantLine.{GrantLine}
use Rattle.socks_machine.specs.declared.lines.PeerLine.{PeerLine}
use Rattle.socks_machine.specs.declared.lines.CloseLine.{CloseLine}
use Rattle.socks_machine.specs.declared.lines.Said.{Said}
use Rattle.socks_machine.specs.declared.lines.Line.{Line}
use Rattle.addr_pattern.specs.AddressText.{number_text, hex_byte, addr_text, endpoint_text}

-- words joined by single blanks
abbrev pub words : List (List ℕ) → List ℕ
words [] = []
words (w ∷ []) = w
words (w ∷ x ∷ ws) = w ++ 32 ∷ words (x ∷ ws)

abbrev pub rule_text : Option ℕ → List ℕ
rule_text None = codes "none"
rule_text (Some n) = number_text n

-- the rules that a verdict names: `none` where no rule of a list matched, `-` where it wasn't searched
abbrev pub client_text : Verdict → List ℕ
client_text (Verdict.Pass c s) = number_text c
client_text (Verdict.ClientBlock c) = number_text c
client_text Verdict.ClientNone = codes "none"
client_text (Verdict.SocksBlock c s) = number_text c
client_text (Verdict.SocksNone c) = number_text c

abbrev pub socks_text : Verdict → List ℕ
socks_text (Verdict.Pass c s) = number_text s
socks_text (Verdict.ClientBlock c) = codes "-"
socks_text Verdict.ClientNone = codes "-"
socks_text (Verdict.SocksBlock c s) = number_text s
socks_text (Verdict.SocksNone c) = codes "none"

abbrev pub rules_words : Verdict → List (List ℕ)
rules_words v = codes "client" ∷ client_text v ∷ codes "socks" ∷ socks_text v ∷ []

abbrev pub pass_text : Bool → List ℕ
pass_text true = codes "pass"
pass_text false = codes "block"

abbrev pub verdict_text : Verdict → List ℕ
verdict_text (Verdict.Pass c s) = codes "pass"
verdict_text _ = codes "block"

abbrev pub command_text : Command → List ℕ
command_text Command.Connect = codes "connect"
command_text Command.Bind = codes "bind"
command_text Command.UdpAssociate = codes "udpassociate"
command_text Command.BindReply = codes "bindreply"
command_text Command.UdpReply = codes "udpreply"

abbrev pub version_text : Version → List ℕ
version_text Version.V4 = codes "v4"
version_text Version.V5 = codes "v5"

abbrev pub method_text : Method → List ℕ
method_text Method.NoAuth = codes "none"
method_text Method.Username = codes "username"

abbrev pub user_text : Option (List ℕ) → List ℕ
user_text None = codes "-"
user_text (Some u) = codes "=" ++ u

abbrev pub escaped_name : List ℕ → List ℕ
escaped_name [] = []
escaped_name (b ∷ bs) = if b == 61 then 61 ∷ b ∷ bs else (if bytes_eq (b ∷ bs) (codes "-") then 61 ∷ b ∷ bs else b ∷ bs)

abbrev pub name_text : Option (List ℕ) → List ℕ
name_text None = codes "-"
name_text (Some n) = escaped_name n

abbrev pub kind_text : ListKind → List ℕ
kind_text ListKind.Client = codes "client"
kind_text ListKind.Socks = codes "socks"

-- ---- causes

abbrev pub standing_text : Standing → List ℕ
standing_text Standing.Absent = codes "absent"
standing_text Standing.Opened = codes "opened"
standing_text Standing.Granted = codes "granted"

abbrev pub stop_text : StopBy → List ℕ
stop_text StopBy.Control = codes "control"
stop_text StopBy.Log = codes "log"
stop_text StopBy.Sessions = codes "sessions"

abbrev pub stage_text : Stage → List ℕ
stage_text Stage.Method = codes "method"
stage_text Stage.Login = codes "login"
stage_text Stage.Reply = codes "reply"

abbrev pub at_byte : List ℕ → ℕ → ℕ → List (List ℕ)
at_byte name at byte = name ∷ codes "at" ∷ number_text at ∷ codes "byte" ∷ hex_byte byte ∷ []

abbrev pub bad_upstream : ℕ → Option ℕ → List (List ℕ)
bad_upstream at None = codes "upstreambad" ∷ codes "at" ∷ number_text at ∷ codes "end" ∷ []
bad_upstream at (Some byte) = at_byte (codes "upstreambad") at byte

abbrev pub cause_words : Cause → List (List ℕ)
cause_words Cause.Finished = codes "finished" ∷ []
cause_words (Cause.ClientBlocked g rule) = codes "clientblocked" ∷ codes "gen" ∷ number_text g ∷ codes "client" ∷ rule_text rule ∷ []
cause_words (Cause.Denied g v) = codes "denied" ∷ codes "gen" ∷ number_text g ∷ rules_words v
cause_words (Cause.Full g list rule held limit) =
    codes "full" ∷ codes "gen" ∷ number_text g ∷ kind_text list ∷ number_text rule ∷ codes "held" ∷ number_text held ∷ codes "max" ∷ number_text limit ∷ []
cause_words (Cause.Crowded live cap) = codes "crowded" ∷ codes "live" ∷ number_text live ∷ codes "cap" ∷ number_text cap ∷ []
cause_words (Cause.OutOfTurn s) = codes "outofturn" ∷ standing_text s ∷ []
cause_words (Cause.BadVersion at byte) = at_byte (codes "badversion") at byte
cause_words (Cause.BadRequest at byte) = at_byte (codes "badrequest") at byte
cause_words (Cause.CommandUnsupported at byte) = at_byte (codes "commandunsupported") at byte
cause_words (Cause.AtypUnsupported at byte) = at_byte (codes "atypunsupported") at byte
cause_words Cause.NoMethod = codes "nomethod" ∷ []
cause_words Cause.LoginFailed = codes "loginfailed" ∷ []
cause_words (Cause.ClientGone at) = codes "clientgone" ∷ codes "at" ∷ number_text at ∷ []
cause_words Cause.NotFound = codes "notfound" ∷ []
cause_words Cause.Refused = codes "refused" ∷ []
cause_words Cause.HostUnreachable = codes "hostunreachable" ∷ []
cause_words Cause.NetUnreachable = codes "netunreachable" ∷ []
cause_words (Cause.Upstream stage code) = codes "upstream" ∷ stage_text stage ∷ hex_byte code ∷ []
cause_words (Cause.UpstreamBad at byte) = bad_upstream at byte
cause_words Cause.NetFault = codes "netfault" ∷ []
cause_words Cause.ClientFault = codes "clientfault" ∷ []
cause_words Cause.TargetFault = codes "targetfault" ∷ []
cause_words Cause.DoorFault = codes "doorfault" ∷ []
cause_words Cause.PortFault = codes "portfault" ∷ []
cause_words Cause.LogFault = codes "logfault" ∷ []
cause_words (Cause.WrongPeer peer asked) = codes "wrongpeer" ∷ endpoint_text peer ∷ codes "asked" ∷ addr_text asked ∷ []
cause_words (Cause.TimedOut since now limit) =
    codes "timedout" ∷ codes "since" ∷ number_text since ∷ codes "now" ∷ number_text now ∷ codes "limit" ∷ number_text limit ∷ []
cause_words (Cause.Stopped by) = codes "stopped" ∷ stop_text by ∷ []
cause_words Cause.Memory = codes "memory" ∷ []

abbrev pub cause_text : Cause → List ℕ
cause_text c = words (cause_words c)

-- ---- lines

abbrev pub open_words : OpenLine → List (List ℕ)
open_words l =
    codes "open" ∷ number_text l.number ∷ codes "gen" ∷ number_text l.generation ∷ codes "client" ∷ rule_text l.rule
    ∷ pass_text l.pass ∷ codes "from" ∷ endpoint_text l.peer ∷ codes "to" ∷ endpoint_text l.local ∷ []

abbrev pub granted_text : Verdict → Said → List ℕ
granted_text v (Said.Full list rule held limit) = codes "full"
granted_text v _ = verdict_text v

abbrev pub over_words : Said → List (List ℕ)
over_words (Said.Full list rule held limit) =
    codes "over" ∷ kind_text list ∷ codes "held" ∷ number_text held ∷ codes "max" ∷ number_text limit ∷ []
over_words _ = []

abbrev pub grant_words : GrantLine → Said → List (List ℕ)
grant_words l said =
    codes "grant" ∷ number_text l.number ∷ codes "gen" ∷ number_text l.generation ∷ rules_words l.verdict
    ++ granted_text l.verdict said ∷ command_text l.facts.command ∷ version_text l.facts.version ∷ method_text l.facts.method
    ∷ codes "user" ∷ user_text l.facts.user ∷ codes "from" ∷ endpoint_text l.facts.from ∷ codes "to" ∷ endpoint_text l.facts.to
    ∷ codes "name" ∷ name_text l.facts.name ∷ over_words said

abbrev pub peer_words : PeerLine → List (List ℕ)
peer_words l =
    codes "peer" ∷ number_text l.number ∷ codes "gen" ∷ number_text l.generation ∷ rules_words l.verdict
    ++ verdict_text l.verdict ∷ codes "from" ∷ endpoint_text l.from ∷ codes "to" ∷ endpoint_text l.to ∷ []

abbrev pub close_words : CloseLine → List (List ℕ)
close_words l =
    codes "close" ∷ number_text l.number ∷ cause_words l.cause
    ++ codes "took" ∷ number_text l.took.0 ∷ number_text l.took.1 ∷ codes "sent" ∷ number_text l.sent.0 ∷ number_text l.sent.1 ∷ []

abbrev pub line_words : Line → List (List ℕ)
line_words (Line.Open l) = open_words l
line_words (Line.Grant l said) = grant_words l said
line_words (Line.Peer l) = peer_words l
line_words (Line.Close l) = close_words l

-- the lines from this number on, each with its number and ended by LF
abbrev pub text_from : ℕ → List Line → List ℕ
text_from n [] = []
text_from n (l ∷ ls) = words (number_text n ∷ line_words l) ++ 10 ∷ text_from (n + 1) ls

abbrev pub log_text : List Line → List ℕ
log_text h = text_from 1 h
