-- How a request is judged and granted.
use Rattle.std.specs.Prelude.{ℕ, ◌≡◌, Option, List, [], ◌∷◌, ◌++◌}
use Rattle.conf_types.specs.declared.entries.Entries.{Entries}
use Rattle.socks_grammar.specs.Handshake.{Request}
use Rattle.rule_list.specs.declared.verdict.Verdict.{Verdict}
use Rattle.rule_list.specs.Rules.{judge, route_of, client_max, socks_max}
use Rattle.session_desk.specs.Calls.{Grants}
use Rattle.socks_machine.specs.declared.cause.Cause.{Cause}
use Rattle.socks_machine.specs.declared.cause.StopBy.{StopBy}
use Rattle.socks_machine.specs.declared.lines.GrantLine.{GrantLine}
use Rattle.socks_machine.specs.declared.lines.Line.{Line}
use Rattle.socks_machine.specs.declared.lines.Said.{Said}
use Rattle.socks_machine.specs.declared.record.Decision.{Decision}
use Rattle.socks_machine.specs.declared.record.Record.{Record}
use Rattle.socks_machine.specs.Calls.{client_rule_of, socks_rule_of, refusal_full, blocked, grant_facts}
use Rattle.socks_machine.specs.Settle.{first_cause}

abbrev pub verdict_on : Entries → Record → Request → Verdict
verdict_on config r q = judge config (grant_facts r q)

-- the line that the desk gets
abbrev pub request_line : ℕ → Entries → Record → Request → GrantLine
request_line generation config r q = record {
  number = r.number;
  generation = generation;
  facts = grant_facts r q;
  verdict = verdict_on config r q;
  client_max = client_max config (client_rule_of (verdict_on config r q));
  socks_max = socks_max config (socks_rule_of (verdict_on config r q));
}

-- a request that was judged, with the first route that matches it
abbrev pub judged : ℕ → Entries → Request → Option Cause → Record → Record
judged generation config q refused r = record r {
  decisions = r.decisions ++ Decision.Granted generation (grant_facts r q) (verdict_on config r q) (route_of config (grant_facts r q)) refused ∷ [];
  cause = first_cause refused r.cause;
}

-- the desk was asked, and what it said was decided
pub record AsksGrant (stands : List Line → List StopBy → Type 0) (h : List Line) (marks : List StopBy) (generation : ℕ) (config : Entries) (q : Request) (old new : Record) : Type 0 where
  pub said : Said
  pub desk : Grants stands h marks (request_line generation config old q) said
  pub state' : new ≡ judged generation config q (refusal_full generation said (blocked generation (verdict_on config old q))) old
