-- The lines that the desk gets.
use Rattle.std.specs.Prelude.{ℕ}
use Rattle.conf_types.specs.declared.entries.Entries.{Entries}
use Rattle.rule_list.specs.Rules.{first_client, client_rule_passes}
use Rattle.socks_machine.specs.declared.lines.OpenLine.{OpenLine}
use Rattle.socks_machine.specs.declared.record.Record.{Record}

-- of a client that came
abbrev pub client_line : ℕ → Entries → Record → OpenLine
client_line generation config r = record {
  number = r.number;
  generation = generation;
  rule = first_client config r.peer r.local;
  pass = client_rule_passes config (first_client config r.peer r.local);
  peer = r.peer;
  local = r.local;
}
