-- What an outcome says of a datagram, in the terms of the machine's fates.
use Rattle.std.specs.Prelude.{ℕ, ◌≤◌, ◌+◌, Bool, false, not, Option, Some, None, List, ◌++◌, drop, length}
use Rattle.addr_pattern.specs.declared.addr.Addr.{Addr}
use Rattle.addr_pattern.specs.declared.host.Host.{Host}
use Rattle.addr_pattern.specs.Equal.{same_family}
use Rattle.rule_list.specs.declared.facts.Facts.{Facts}
use Rattle.rule_list.specs.declared.verdict.Verdict.{Verdict}
use Rattle.socks5_codec.specs.declared.message.HostAt.{HostAt}
use Rattle.socks_machine.specs.Datagrams.{Fate, Reason}
use Rattle.socks_machine.specs.Decisions.{Grant}
use Rattle.udp_relay.specs.declared.outcome.DropReason.{DropReason}
use Rattle.udp_relay.specs.declared.outcome.Outcome.{Outcome}

abbrev pub reason_of : DropReason → Reason
reason_of DropReason.Rule = Reason.Rule
reason_of DropReason.Header = Reason.Header
reason_of DropReason.Fragment = Reason.Frag
reason_of DropReason.Source = Reason.Source
reason_of DropReason.Length = Reason.TooLong
reason_of DropReason.Name = Reason.ByName

-- the fate that an outcome says of a datagram with these bytes, taken in this generation
abbrev pub shown : ℕ → List ℕ → Outcome → Fate
shown g bytes (Outcome.ToRemote to at) = Fate.Sent (record { peer = to; bytes = drop at bytes; generation = g })
shown g bytes (Outcome.ToClient to head) = Fate.Sent (record { peer = to; bytes = head ++ bytes; generation = g })
shown g bytes (Outcome.Dropped reason) = Fate.Dropped (reason_of reason)

-- a grant with these facts: of a grant, a datagram's fate rests on nothing else
abbrev pub grant_with : Facts → Grant
grant_with f = record { generation = 0; facts = f; verdict = Verdict.ClientNone; route = None; refused = None }

abbrev pub addr_in : Host → Option Addr
addr_in (Host.Addr a) = Some a
addr_in (Host.Name name) = None

abbrev pub is_of_other_family : Option Addr → Addr → Bool
is_of_other_family None port = false
is_of_other_family (Some a) port = not (same_family a port)

-- a name stands in the bytes
abbrev pub IsInside : List ℕ → HostAt → Type 0
IsInside bytes (HostAt.Addr a) = Unit {0}
IsInside bytes (HostAt.Name s) = s.at + s.len ≤ length bytes
