-- What a sending of waiting bytes comes to.
use Rattle.std.specs.Prelude.{ℕ, ◌≡◌, ◌<◌, false, List, [], Option, Some, None, length}
use Rattle.net_ends.specs.Counts.{Counts, Rose}
use Rattle.net_ends.specs.Told.{Told}
use Rattle.net_ends.specs.declared.kinds.Kind.{Kind}
use Rattle.half_close_relay.specs.Ways.{IsFull, IsUndue}
use Rattle.half_close_relay.specs.declared.sending.Sent.{Sent}

-- the kind of the call that failed
abbrev pub failed_sending : Sent → Option Kind
failed_sending Sent.Failed = Some Kind.Write
failed_sending _ = None

-- why nothing more was sent of the bytes, of which these are left
abbrev pub SendEnds : Told → Counts → Counts → List ℕ → Sent → Type 0
SendEnds told old new rest Sent.All = rest ≡ []
SendEnds told old new rest Sent.Full = (0 < length rest) × IsFull told × Rose old.idle_writes new.idle_writes × IsUndue Kind.Write old
SendEnds told old new rest Sent.Failed = (0 < length rest) × (told.unfailing ≡ false) × Rose old.faults new.faults
