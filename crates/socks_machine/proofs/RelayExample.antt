-- The relay's facts hold of a record: they promise something.
use Rattle.std.proofs.Common.{◌≡◌, refl, true, false, Some, None, [], ◌∷◌, ◌++◌, arith}
use Rattle.socks_grammar.specs.declared.protocol.Command.{Command}
use Rattle.socks_grammar.specs.declared.protocol.Method.{Method}
use Rattle.socks_grammar.specs.declared.protocol.Version.{Version}
use Rattle.socks_machine.specs.declared.record.Decision.{Decision}
use Rattle.socks_machine.specs.declared.record.Record.{Record}
use Rattle.rule_list.specs.declared.facts.Facts.{Facts}
use Rattle.rule_list.specs.declared.verdict.Verdict.{Verdict}
use Rattle.socks_machine.specs.declared.world.NextMark.{NextMark}
use Rattle.socks_machine.specs.declared.world.TurnEvent.{TurnEvent}
use Rattle.socks_machine.specs.Calls.{Context, keep}
use Rattle.socks_machine.specs.Fine.{begun_event}
use Rattle.socks_machine.specs.Relaying.{RelayFacts, Relaying}
use Rattle.socks_machine.specs.Socks.{socks}
use Rattle.socks_machine.specs.Turn.{turn, marked}
use Rattle.socks_machine.proofs.CallLaws.{reading-turn}
use Rattle.socks_machine.proofs.RelayActs.{relay-c, relay-t}
use Rattle.socks_machine.proofs.RelayLaws.{relaying-reads}
use Rattle.socks_machine.proofs.Rows.Shared.{at4, config, any, client_rule, socks_rule}
use Rattle.socks_machine.proofs.SocksRelay.{relay-facts}
use Rattle.socks_machine.proofs.StartLaws.{relay-begins}
use Rattle.socks_machine.proofs.TurnStages.{sound, left}

abbrev facts : Facts
facts = record { peer = at4 1 1; local = at4 2 2; command = Command.Connect; version = Version.V5; method = Method.NoAuth; user = None; from = at4 1 1; to = at4 9 80; name = None }

abbrev r : Record
r = record {
  number = 1;
  peer = at4 1 1;
  local = at4 2 2;
  since = 0;
  c = 5 ∷ 1 ∷ 0 ∷ 5 ∷ 1 ∷ 0 ∷ 1 ∷ 0 ∷ 0 ∷ 0 ∷ 9 ∷ 0 ∷ 80 ∷ [];
  t = [];
  sent_c = [];
  sent_t = [];
  end_c = false;
  end_t = false;
  shut_c = false;
  shut_t = false;
  chosen = Some (record { generation = 1; method = 0 });
  decisions = Decision.Opened 1 (Some 1) None ∷ Decision.Granted 1 facts (Verdict.Pass 1 1) None None ∷ Decision.Reached (at4 9 80) (Some (at4 3 3)) ∷ [];
  grams = [];
  sent_u = [];
  cause = None;
  at_close = None;
  done = false;
}

abbrev s : Context
s = record { basis = socks [] []; generation = 1; config = config (Method.NoAuth ∷ []) (client_rule true any any ∷ []) (socks_rule true any any None ∷ []) []; cap = 9; h = []; marks = [] }

holds : RelayFacts s r
holds = relay-facts s r refl refl refl refl refl refl refl (omega arith)

abbrev e : TurnEvent
e = begun_event 0 1 7 None

on : Relaying s r e r
on = relay-begins s r 0 1 7 holds refl refl (_, refl) (_, refl)

-- three bytes of the client, two of the target: the laws say what `turn` computes
abbrev e2 : TurnEvent
e2 = record e { c = 1 ∷ 2 ∷ 3 ∷ []; t = 8 ∷ 9 ∷ [] }

abbrev r2 : Record
r2 = record r { c = r.c ++ 1 ∷ 2 ∷ 3 ∷ []; t = 8 ∷ 9 ∷ [] }

reads : Relaying s r e2 r2
reads = relay-t s r (record e { c = 1 ∷ 2 ∷ 3 ∷ [] }) (record r { c = r.c ++ 1 ∷ 2 ∷ 3 ∷ [] }) (8 ∷ 9 ∷ []) (relay-c s r e r (1 ∷ 2 ∷ 3 ∷ []) on refl) refl

by-laws : turn s e2 r ≡ Some (marked NextMark.Going (left s r e2 (keep s r2) r2))
by-laws = sound s r e2 r2 (keep s r2) r2 r2 (reading-turn s r e2 r2 r2 (relaying-reads s r e2 r2 reads)) (λ h. refl) refl

by-computing : turn s e2 r ≡ Some (marked NextMark.Going (keep s (record r2 { since = 7 })))
by-computing = refl
