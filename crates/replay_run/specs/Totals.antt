-- How many bytes an association has taken and sent.
use Rattle.std.specs.Prelude.{length}
use Rattle.socks_machine.specs.declared.record.Record.{Record}
use Rattle.replay_run.specs.declared.totals.Totals.{Totals}

abbrev pub totals_of : Record → Totals
totals_of r = record { took_c = length r.c; took_t = length r.t; sent_c = length r.sent_c; sent_t = length r.sent_t }
