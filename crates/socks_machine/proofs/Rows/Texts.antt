-- Texts of addresses, grammars of requests and verdicts of rules.
use Rattle.std.specs.Prelude.{ℕ, ◌≡◌, refl, true, false, Some, None, [], ◌∷◌, ◌++◌, codes}
use Rattle.addr_pattern.specs.declared.addr.Addr.{Addr}
use Rattle.addr_pattern.specs.declared.host.Host.{Host}
use Rattle.addr_pattern.specs.declared.pattern.HostPattern.{HostPattern}
use Rattle.addr_pattern.specs.declared.pattern.PortTest.{PortTest}
use Rattle.socks_grammar.specs.declared.protocol.Command.{Command}
use Rattle.addr_pattern.specs.AddressText.{addr_of, addr_text}
use Rattle.socks_grammar.specs.Grammar.{Read, request4}
use Rattle.addr_pattern.specs.declared.endpoint.Endpoint.{Endpoint}
use Rattle.addr_pattern.specs.declared.pattern.Pattern.{Pattern}
use Rattle.socks_grammar.specs.declared.protocol.Method.{Method}
use Rattle.socks_grammar.specs.declared.protocol.Version.{Version}
use Rattle.socks_grammar.specs.declared.protocol.Stage.{Stage}
use Rattle.conf_types.specs.declared.entries.Entries.{Entries}
use Rattle.conf_types.specs.declared.rule.SocksRule.{SocksRule}
use Rattle.rule_list.specs.declared.facts.Facts.{Facts}
use Rattle.rule_list.specs.declared.verdict.Verdict.{Verdict}
use Rattle.socks_grammar.specs.Dialogue.{Wish, Outcome, said, outcome}
use Rattle.rule_list.specs.Rules.{judge}
use Rattle.socks_machine.proofs.Rows.Shared.{config, client_rule, socks_rule, any, net, at4, greeting, request}
use Rattle.addr_pattern.specs.Matches.{host_matches}

pub quad : addr_of (codes "198.51.100.10") ≡ Some (Addr.V4 0xC633640A)
quad = refl

pub quad_text : addr_text (Addr.V4 0xC633640A) ≡ codes "198.51.100.10"
quad_text = refl

pub no_quad : addr_of (codes "198.51.100.010") ≡ None
no_quad = refl

pub six : addr_of (codes "2001:DB8:0:0::1") ≡ Some (Addr.V6 0x20010db8000000000000000000000001)
six = refl

pub six_text : addr_text (Addr.V6 0x20010db8000000000000000000000001) ≡ codes "2001:db8::1"
six_text = refl

pub dotted_tail : addr_of (codes "::ffff:192.0.2.1") ≡ Some (Addr.V6 0xffffc0000201)
dotted_tail = refl

pub dotted_tail_text : addr_text (Addr.V6 0xffffc0000201) ≡ codes "::ffff:c000:201"
dotted_tail_text = refl

pub first_longest : addr_text (Addr.V6 0x00000000000100000000000000000001) ≡ codes "0:0:1::1"
first_longest = refl

pub equal_runs : addr_text (Addr.V6 0x00010000000000020003000000000004) ≡ codes "1::2:3:0:0:4"
equal_runs = refl

pub two_gaps : addr_of (codes "1::2::3") ≡ None
two_gaps = refl

pub all_zeros : addr_text (Addr.V6 0) ≡ codes "::"
all_zeros = refl

pub all_zeros_of : addr_of (codes "::") ≡ Some (Addr.V6 0)
all_zeros_of = refl

-- a request of SOCKS 4A
pub by_name : request4 0 (0x04 ∷ 0x01 ∷ 0x00 ∷ 0x50 ∷ 0 ∷ 0 ∷ 0 ∷ 1 ∷ 0 ∷ codes "a.test" ++ 0 ∷ 99 ∷ [])
    ≡ Read.Got (record { command = Command.Connect; host = Host.Name (codes "a.test"); port = 80 }) 16 (99 ∷ [])
by_name = refl

-- 0.0.0.0 is an address
pub by_zeros : request4 0 (0x04 ∷ 0x01 ∷ 0x00 ∷ 0x50 ∷ 0 ∷ 0 ∷ 0 ∷ 0 ∷ 0 ∷ [])
    ≡ Read.Got (record { command = Command.Connect; host = Host.Addr (Addr.V4 0); port = 80 }) 9 []
by_zeros = refl

pub domain : host_matches (HostPattern.Domain (codes "Example.COM")) (Some (codes "www.EXAMPLE.com")) (Addr.V4 0) ≡ true
domain = refl

pub domain_dot : host_matches (HostPattern.Domain (codes "Example.COM")) (Some (codes "example.com.")) (Addr.V4 0) ≡ true
domain_dot = refl

pub no_domain : host_matches (HostPattern.Domain (codes "Example.COM")) (Some (codes "badexample.com")) (Addr.V4 0) ≡ false
no_domain = refl

pub all_four : host_matches (HostPattern.Net (Addr.V4 0) 0) None (Addr.V4 0xFFFFFFFF) ≡ true
all_four = refl

pub not_six : host_matches (HostPattern.Net (Addr.V4 0) 0) None (Addr.V6 0) ≡ false
not_six = refl

-- ---- a configuration as a user of Dante writes it, and three decisions

abbrev pub from_port : Pattern → ℕ → ℕ → Pattern
from_port p low high = record p { port = PortTest.Range low high }

abbrev pub replies_only : SocksRule → SocksRule
replies_only r = record r { connect = false; bind = false; udpassociate = false }

abbrev pub connects_only : SocksRule → SocksRule
connects_only r = record r { bind = false; bindreply = false; udpreply = false }

abbrev pub dante : Entries
dante = config (Method.Username ∷ Method.NoAuth ∷ [])
    (client_rule true (from_port (net 0x0A000000 8) 1 65535) (net 0 0) ∷ client_rule false any any ∷ [])
    (socks_rule false (net 0 0) (net 0x7F000000 8) None
    ∷ replies_only (socks_rule true (net 0 0) (net 0x0A000000 8) None)
    ∷ connects_only (socks_rule true (net 0x0A000000 8) (net 0 0) None) ∷ []) []

abbrev pub facts : Endpoint → Endpoint → Facts
facts from to = record {
  peer = from;
  local = at4 0x0A000001 1080;
  command = Command.Connect;
  version = Version.V5;
  method = Method.Username;
  user = None;
  from = from;
  to = to;
  name = None;
}

pub passes : judge dante (facts (at4 0x0A010203 5000) (at4 0xC633640A 80)) ≡ Verdict.Pass 1 3
passes = refl

pub blocks : judge dante (facts (at4 0x0A010203 5000) (at4 0x7F000001 80)) ≡ Verdict.SocksBlock 1 1
blocks = refl

pub blocks_client : judge dante (facts (at4 0x0A010203 0) (at4 0xC633640A 80)) ≡ Verdict.ClientBlock 2
blocks_client = refl

-- ---- a client of a proxy

abbrev pub wish5 : Wish
wish5 = record { version = Version.V5; host = Host.Addr (Addr.V4 0xC633640A); port = 80; login = None }

abbrev pub wish4 : Wish
wish4 = record { version = Version.V4; host = Host.Name (codes "a.test"); port = 80; login = None }

pub says_first : said wish5 [] ≡ greeting
says_first = refl

pub says_then : said wish5 (5 ∷ 0 ∷ []) ≡ greeting ++ request
says_then = refl

pub says_name : said wish4 [] ≡ 0x04 ∷ 0x01 ∷ 0x00 ∷ 0x50 ∷ 0 ∷ 0 ∷ 0 ∷ 1 ∷ 0 ∷ codes "a.test" ++ 0 ∷ []
says_name = refl

pub hears_refusal : outcome wish5 (5 ∷ 0 ∷ 5 ∷ 5 ∷ 0 ∷ 1 ∷ 0 ∷ 0 ∷ 0 ∷ 0 ∷ 0 ∷ 0 ∷ []) ≡ Outcome.Refused Stage.Reply 5
hears_refusal = refl

pub hears_little : outcome wish5 (5 ∷ []) ≡ Outcome.More
hears_little = refl
