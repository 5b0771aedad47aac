-- What a turn in Closing sends.
use Rattle.std.specs.Prelude.{◌≡◌, true, false, Option, Some, None, length, drop}
use Rattle.net_ends.specs.Counts.{Counts}
use Rattle.net_ends.specs.Told.{Told}
use Rattle.socks_machine.specs.declared.record.Record.{Record}
use Rattle.assoc_core.specs.declared.carry.Give.{Give}
use Rattle.assoc_core.specs.declared.send.Sent.{Sent}
use Rattle.assoc_core.specs.Carrying.{GivesPart}
use Rattle.assoc_core.specs.Plain.{owed_c, prelude_of}

-- how a sink was served that isn't to be shut
abbrev pub give_of : Sent → Give
give_of Sent.All = Give.All
give_of Sent.Full = Give.Full
give_of Sent.Failed = Give.Unwritten

-- what is pending was sent to the client
pub record SendsClient (old new : Told) (counts counts' : Counts) (before after : Record) (give : Give) : Type 0 where
  pub gives : GivesPart old new counts counts' before.sent_c after.sent_c (drop (length before.sent_c) (owed_c before)) true false before.shut_c after.shut_c give
  pub is : after ≡ record before { sent_c = after.sent_c; shut_c = after.shut_c }

-- what is pending was sent to a target that is there
pub record SendsLink (old new : Told) (counts counts' : Counts) (before after : Record) (give : Give) : Type 0 where
  pub gives : GivesPart old new counts counts' before.sent_t after.sent_t (drop (length before.sent_t) (drop (prelude_of before) before.c)) true false before.shut_t after.shut_t give
  pub is : after ≡ record before { sent_t = after.sent_t; shut_t = after.shut_t }

abbrev pub SendsTarget : {L : Type 0} → (L → Told) → (L → Counts) → Option L → Option L → Record → Record → Give → Type 0
SendsTarget told counts None None before after give = (after ≡ before) × (give ≡ Give.Held)
SendsTarget told counts (Some old) (Some new) before after give = SendsLink (told old) (told new) (counts old) (counts new) before after give
SendsTarget told counts _ _ before after give = ⊥
