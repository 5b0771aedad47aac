-- The front of SOCKS 4, 4A and 5.
use Rattle.std.specs.Prelude.{ℕ, Bool, true, false, ◌&&◌, ◌==◌, if◌then◌else◌, Option, Some, None, List, [], ◌++◌, is_some, is_none}
use Rattle.addr_pattern.specs.declared.endpoint.Endpoint.{Endpoint}
use Rattle.addr_pattern.specs.declared.host.Host.{Host}
use Rattle.socks_grammar.specs.declared.protocol.Command.{Command}
use Rattle.conf_types.specs.declared.entries.Entries.{Entries}
use Rattle.socks_grammar.specs.declared.user.User.{User}
use Rattle.socks_grammar.specs.declared.protocol.Version.{Version}
use Rattle.socks_machine.specs.declared.cause.Cause.{Cause}
use Rattle.socks_machine.specs.declared.record.Chosen.{Chosen}
use Rattle.socks_machine.specs.declared.record.Decision.{Decision}
use Rattle.socks_machine.specs.Basis.{Basis}
use Rattle.socks_machine.specs.Decisions.{granted, looked}
use Rattle.socks_grammar.specs.Equal.{version_eq}
use Rattle.socks_machine.specs.Front.{Front, Proxy}
use Rattle.socks_grammar.specs.Handshake.{Split, split, version_of, greeting_length}
use Rattle.socks_machine.specs.Replies.{method_reply, login_reply, granted_reply, refusal}
use Rattle.socks_machine.specs.View.{asks_login}

abbrev pub chosen_reply : Option Chosen → List ℕ
chosen_reply None = []
chosen_reply (Some c) = if c.method == 255 then [] else method_reply c.method

abbrev pub passed_reply : Bool → List ℕ
passed_reply true = login_reply true
passed_reply false = []

abbrev pub success : Option Version → Command → Endpoint → List ℕ
success None command e = []
success (Some v) command e = granted_reply v command e

abbrev pub is_proxy5 : Option Proxy → Bool
is_proxy5 None = false
is_proxy5 (Some p) = version_eq p.version Version.V5

abbrev pub is_in_login : Option Chosen → List ℕ → Cause → Bool
is_in_login chosen c (Cause.BadVersion at byte) = asks_login chosen && (at == greeting_length c)
is_in_login chosen c _ = false

abbrev pub is_udp_command : Command → Bool
is_udp_command Command.UdpAssociate = true
is_udp_command _ = false

abbrev pub has_address : List Decision → Host → Bool
has_address ds (Host.Addr a) = true
has_address ds (Host.Name name) = is_some (looked ds)

-- a request for UDP is whole, its host has an address, and its grant has not been made
abbrev pub is_granting_udp : List Decision → Split → Bool
is_granting_udp ds (Split.Whole request n) = is_udp_command request.command && has_address ds request.host && is_none (granted ds)
is_granting_udp ds _ = false

abbrev pub socks_front : Front
socks_front = record {
  split = split;
  opening = λ chosen passed. chosen_reply chosen ++ passed_reply passed;
  granted = λ c command e. success (version_of c) command e;
  refused = λ chosen c ds s proxy cause. refusal (version_of c)
      (record { in_login = is_in_login chosen c cause; proxy5 = is_proxy5 proxy; granting_udp = is_granting_udp ds s }) cause;
}

abbrev pub socks : List User → List Entries → Basis
socks users pubs = record { front = socks_front; users = users; pubs = pubs }
