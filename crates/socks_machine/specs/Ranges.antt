-- Each number of a record is in the range of its type.
use Rattle.std.specs.Prelude.{ℕ, ◌^◌, ◌<◌, ◌≤◌, Option, List, length, IfSome, All}
use Rattle.addr_pattern.specs.declared.addr.Addr.{Addr}
use Rattle.addr_pattern.specs.declared.endpoint.Endpoint.{Endpoint}
use Rattle.socks_machine.specs.declared.cause.Cause.{Cause}
use Rattle.socks_machine.specs.declared.record.Chosen.{Chosen}
use Rattle.socks_machine.specs.declared.record.Decision.{Decision}
use Rattle.socks_machine.specs.declared.record.Gram.{Gram}
use Rattle.socks_machine.specs.declared.record.Record.{Record}
use Rattle.rule_list.specs.declared.facts.Facts.{Facts}
use Rattle.rule_list.specs.declared.verdict.Verdict.{Verdict}

-- a number of so many bits
abbrev pub HasBits : ℕ → ℕ → Type 0
HasBits bits n = n < 2 ^ bits

abbrev pub AreBytes : List ℕ → Type 0
AreBytes bytes = All (HasBits 8) bytes

pub record IsName (name : List ℕ) : Type 0 where
  pub bytes : AreBytes name
  pub some : 1 ≤ length name
  pub short : length name ≤ 255

abbrev pub AddrInRange : Addr → Type 0
AddrInRange (Addr.V4 a) = HasBits 32 a
AddrInRange (Addr.V6 a) = HasBits 128 a

pub record EndpointInRange (e : Endpoint) : Type 0 where
  pub addr' : AddrInRange e.addr
  pub port' : HasBits 16 e.port

abbrev pub VerdictInRange : Verdict → Type 0
VerdictInRange (Verdict.Pass client socks) = HasBits 32 client × HasBits 32 socks
VerdictInRange (Verdict.ClientBlock client) = HasBits 32 client
VerdictInRange Verdict.ClientNone = Unit {0}
VerdictInRange (Verdict.SocksBlock client socks) = HasBits 32 client × HasBits 32 socks
VerdictInRange (Verdict.SocksNone client) = HasBits 32 client

pub record FactsInRange (f : Facts) : Type 0 where
  pub peer' : EndpointInRange f.peer
  pub local' : EndpointInRange f.local
  pub user' : IfSome f.user IsName
  pub from' : EndpointInRange f.from
  pub to' : EndpointInRange f.to
  pub name' : IfSome f.name IsName

abbrev pub CauseInRange : Cause → Type 0
CauseInRange (Cause.ClientBlocked generation rule) = HasBits 64 generation × IfSome rule (HasBits 32)
CauseInRange (Cause.Denied generation verdict) = HasBits 64 generation × VerdictInRange verdict
CauseInRange (Cause.Full generation list rule held limit) = HasBits 64 generation × HasBits 32 rule × HasBits 32 held × HasBits 32 limit
CauseInRange (Cause.Crowded live cap) = HasBits 32 live × HasBits 32 cap
CauseInRange (Cause.BadVersion at byte) = HasBits 64 at × HasBits 8 byte
CauseInRange (Cause.BadRequest at byte) = HasBits 64 at × HasBits 8 byte
CauseInRange (Cause.CommandUnsupported at byte) = HasBits 64 at × HasBits 8 byte
CauseInRange (Cause.AtypUnsupported at byte) = HasBits 64 at × HasBits 8 byte
CauseInRange (Cause.ClientGone at) = HasBits 64 at
CauseInRange (Cause.Upstream stage code) = HasBits 8 code
CauseInRange (Cause.UpstreamBad at byte) = HasBits 64 at × IfSome byte (HasBits 8)
CauseInRange (Cause.WrongPeer peer asked) = EndpointInRange peer × AddrInRange asked
CauseInRange (Cause.TimedOut since now limit) = HasBits 64 since × HasBits 64 now × HasBits 32 limit
CauseInRange _ = Unit {0}

abbrev pub RefusedInRange : Option Cause → Type 0
RefusedInRange refused = IfSome refused CauseInRange

abbrev pub DecisionInRange : Decision → Type 0
DecisionInRange (Decision.Opened generation rule refused) = HasBits 64 generation × IfSome rule (HasBits 32) × RefusedInRange refused
DecisionInRange (Decision.Looked host found) = IsName host × IfSome found AddrInRange
DecisionInRange (Decision.Granted generation facts verdict route refused) =
    HasBits 64 generation × FactsInRange facts × VerdictInRange verdict × IfSome route (HasBits 32) × RefusedInRange refused
DecisionInRange (Decision.Reached to at) = EndpointInRange to × IfSome at EndpointInRange
DecisionInRange (Decision.Came generation peer verdict refused) = HasBits 64 generation × EndpointInRange peer × VerdictInRange verdict × RefusedInRange refused

pub record ChosenInRange (c : Chosen) : Type 0 where
  pub generation' : HasBits 64 c.generation
  pub method' : HasBits 8 c.method

pub record GramInRange (d : Gram) : Type 0 where
  pub peer' : EndpointInRange d.peer
  pub bytes' : AreBytes d.bytes
  pub generation' : HasBits 64 d.generation

pub record IsInRange (r : Record) : Type 0 where
  pub number' : HasBits 64 r.number
  pub peer' : EndpointInRange r.peer
  pub local' : EndpointInRange r.local
  pub since' : HasBits 64 r.since
  pub c' : AreBytes r.c
  pub t' : AreBytes r.t
  pub sent_c' : AreBytes r.sent_c
  pub sent_t' : AreBytes r.sent_t
  pub chosen' : IfSome r.chosen ChosenInRange
  pub decisions' : All DecisionInRange r.decisions
  pub grams' : All GramInRange r.grams
  pub sent_u' : All GramInRange r.sent_u
  pub cause' : IfSome r.cause CauseInRange
  pub at_close' : IfSome r.at_close CauseInRange
