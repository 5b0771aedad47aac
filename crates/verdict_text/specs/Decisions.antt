-- What a configuration decides on a question, and its text.
use Rattle.std.specs.Prelude.{ℕ, Bool, true, false, if◌then◌else◌, Option, Some, None, List, [], ◌∷◌, ◌++◌, codes, slice_get}
use Rattle.addr_pattern.specs.declared.endpoint.Endpoint.{Endpoint}
use Rattle.addr_pattern.specs.AddressText.{endpoint_text, number_text}
use Rattle.conf_types.specs.declared.entries.Entries.{Entries}
use Rattle.socks_grammar.specs.declared.protocol.Command.{Command}
use Rattle.socks_grammar.specs.declared.protocol.Method.{Method}
use Rattle.socks_grammar.specs.declared.protocol.Version.{Version}
use Rattle.conf_types.specs.declared.route.Via.{Via}
use Rattle.conf_model.specs.Canonical.{text_of, version_word}
use Rattle.rule_list.specs.declared.facts.Facts.{Facts}
use Rattle.rule_list.specs.declared.verdict.Verdict.{Verdict}
use Rattle.rule_list.specs.Rules.{is_pass, judge, route_of, via_of}
use Rattle.verdict_text.specs.declared.question.Question.{Question}

-- ---- the facts of a question

-- a reply goes to the client
abbrev pub client_by : Command → Endpoint → Endpoint → Endpoint
client_by Command.Connect from to = from
client_by Command.Bind from to = from
client_by Command.UdpAssociate from to = from
client_by Command.BindReply from to = to
client_by Command.UdpReply from to = to

abbrev pub client_of : Question → Endpoint
client_of q = client_by q.command q.from q.to

abbrev pub facts_at : Question → Option Endpoint → Option Method → Option Facts
facts_at q None method = None
facts_at q (Some local) None = None
facts_at q (Some local) (Some method) = Some (record {
  peer = client_of q;
  local = local;
  command = q.command;
  version = Version.V5;
  method = method;
  user = None;
  from = q.from;
  to = q.to;
  name = q.name;
})

-- a client of SOCKS 5 without a user, which came at the first endpoint and has chosen the first method
abbrev pub facts_of : Entries → Question → Option Facts
facts_of config q = facts_at q (slice_get config.internals 0) (slice_get config.methods 0)

-- ---- lines

-- `client 1 pass`
abbrev pub numbered_line : List ℕ → ℕ → List ℕ → List ℕ
numbered_line list number what = list ++ 32 ∷ number_text number ++ 32 ∷ what

-- what the client rules say, and where these pass the socks rules
abbrev pub verdict_lines : Verdict → List (List ℕ)
verdict_lines Verdict.ClientNone = codes "client none" ∷ []
verdict_lines (Verdict.ClientBlock client) = numbered_line (codes "client") client (codes "block") ∷ []
verdict_lines (Verdict.SocksNone client) = numbered_line (codes "client") client (codes "pass") ∷ codes "socks none" ∷ []
verdict_lines (Verdict.SocksBlock client socks) =
    numbered_line (codes "client") client (codes "pass") ∷ numbered_line (codes "socks") socks (codes "block") ∷ []
verdict_lines (Verdict.Pass client socks) =
    numbered_line (codes "client") client (codes "pass") ∷ numbered_line (codes "socks") socks (codes "pass") ∷ []

-- `route 1 192.0.2.1:1080 socks_v4`
abbrev pub proxy_line : ℕ → Endpoint → Version → List ℕ
proxy_line number at version = codes "route " ++ number_text number ++ 32 ∷ endpoint_text at ++ 32 ∷ version_word version

-- a route without a proxy says no number
abbrev pub route_line : Option ℕ → Via → List ℕ
route_line None via = codes "route direct"
route_line (Some number) Via.Direct = codes "route direct"
route_line (Some number) (Via.Proxy at version login) = proxy_line number at version

abbrev pub is_connect : Command → Bool
is_connect Command.Connect = true
is_connect _ = false

-- only a connection has a route
abbrev pub route_lines : Entries → Facts → List (List ℕ)
route_lines config facts = if is_connect facts.command then route_line (route_of config facts) (via_of config (route_of config facts)) ∷ [] else []

abbrev pub decision_lines : Entries → Facts → List (List ℕ)
decision_lines config facts =
    verdict_lines (judge config facts)
    ++ (if is_pass (judge config facts) then route_lines config facts ++ codes "verdict pass" ∷ [] else codes "verdict block" ∷ [])

-- ---- the whole

abbrev pub text_of_facts : Entries → Option Facts → List ℕ
text_of_facts config None = []
text_of_facts config (Some facts) = text_of (decision_lines config facts)

-- what is decided, in lines; nothing of what is no configuration, without an endpoint to listen on or without a method
abbrev pub decision_text : Entries → Question → List ℕ
decision_text config q = text_of_facts config (facts_of config q)
