-- What a sending of pending bytes comes to.
use Rattle.std.specs.Prelude.{ℕ, ◌≡◌, ◌<◌, Bool, true, false, Option, Some, None, List, [], ◌++◌, drop, length}
use Rattle.net_ends.specs.Counts.{Counts, Later, Rose}
use Rattle.net_ends.specs.Faults.{Tried}
use Rattle.net_ends.specs.declared.kinds.Kind.{Kind}
use Rattle.net_ends.specs.Told.{Told, more}
use Rattle.socks_machine.specs.declared.cause.Cause.{Cause}
use Rattle.socks_machine.specs.Settle.{first_cause}
use Rattle.assoc_core.specs.declared.assoc.Assoc.{Assoc}
use Rattle.assoc_core.specs.declared.assoc.Next.{Next}
use Rattle.assoc_core.specs.declared.send.Sent.{Sent}
use Rattle.assoc_core.specs.declared.send.Sent.TheVariants.{All, Full, Failed}
use Rattle.assoc_core.specs.Plain.{owed_c}
use Rattle.assoc_core.specs.Turns.{IsFull}

-- why nothing more was sent of the bytes, of which these are left
abbrev pub SendEnds : Told → Counts → Counts → List ℕ → Sent → Type 0
SendEnds told old new rest All = rest ≡ []
SendEnds told old new rest Full = (0 < length rest) × IsFull told × Rose old.idle_writes new.idle_writes
SendEnds told old new rest Failed = (0 < length rest) × (told.unfailing ≡ false) × Rose old.faults new.faults

abbrev pub is_full : Sent → Bool
is_full Full = true
is_full _ = false

-- the kind of the call that failed
abbrev pub failed_sending : Sent → Option Kind
failed_sending Failed = Some Kind.Write
failed_sending _ = None

-- the link took the first bytes of what was pending, and they were added to what was sent; one whose writes take nothing took none
pub record Sends (old new : Told) (counts counts' : Counts) (before after pending : List ℕ) (outcome : Sent) : Type 0 where
  pub bytes : List ℕ
  pub rest : List ℕ
  pub pending' : bytes ++ rest ≡ pending
  pub after' : after ≡ before ++ bytes
  pub told' : new ≡ record old { taken = more old.taken bytes }
  pub stuck : old.room ≡ Some 0 → bytes ≡ []
  pub later : Later counts counts'
  pub tried : Tried counts counts' (Unit {0}) ((after ≡ before) × (is_full outcome ≡ false)) (Unit {0}) (failed_sending outcome)
  pub ends : SendEnds new counts counts' rest outcome

-- ---- behind an outer call

abbrev pub is_failed : Sent → Bool
is_failed Failed = true
is_failed _ = false

-- the cause that stands behind a write to the client
abbrev pub with_failure : Bool → Option Cause → Option Cause
with_failure true cause = first_cause (Some Cause.ClientFault) cause
with_failure false cause = cause

-- what is pending was written to the client, and the turn is to be gone on with
pub record WritesOn {L : Type 0} (told : L → Told) (counts : L → Counts) (b : Assoc L) (next : Next L) : Type 0 where
  pub client : L
  pub sent : List ℕ
  pub outcome : Sent
  pub sends : Sends (told b.client) (told client) (counts b.client) (counts client) (b.state).sent_c sent (drop (length (b.state).sent_c) (owed_c b.state)) outcome
  pub next' : next ≡ Next.Again (record {
    state = (let r = b.state in record r { sent_c = sent; cause = with_failure (is_failed outcome) r.cause });
    client = client;
    target = b.target;
  })
