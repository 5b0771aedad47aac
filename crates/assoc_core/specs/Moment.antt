-- The moment of an association's last movement, and its limit of time.
use Rattle.std.specs.Prelude.{ℕ, ◌-◌, ◌==◌, Bool, ◌&&◌, ◌||◌, not, nat_le, if◌then◌else◌, Option, Some, None, length, is_some}
use Rattle.conf_types.specs.declared.entries.Entries.{Entries}
use Rattle.socks_machine.specs.declared.cause.Cause.{Cause}
use Rattle.socks_machine.specs.declared.record.Record.{Record}
use Rattle.socks_machine.specs.Decisions.{reached_at}
use Rattle.assoc_core.specs.declared.moment.Movement.{Movement}

-- how many bytes were taken and sent so far, and whether the target was reached
abbrev pub movement : Record → Movement
movement r = record { took_c = length r.c; took_t = length r.t; sent_c = length r.sent_c; sent_t = length r.sent_t; reached = is_some (reached_at r.decisions) }

abbrev pub same_bytes : Movement → Movement → Bool
same_bytes x y = (x.took_c == y.took_c) && ((x.took_t == y.took_t) && ((x.sent_c == y.sent_c) && (x.sent_t == y.sent_t)))

-- From the moment at which the target was reached, the last movement is the last turn in which a byte was taken or sent.
-- Before that it is the moment at which the association was opened.
abbrev pub moment : Movement → ℕ → Record → ℕ
moment before now r = if is_some (reached_at r.decisions) && (not before.reached || not (same_bytes before (movement r))) then now else r.since

abbrev pub at_moment : Movement → ℕ → Record → Record
at_moment before now r = record r { since = moment before now r }

-- the limit that counts, in seconds; 0 is none
abbrev pub limit_of : Entries → Record → ℕ
limit_of k r = if is_some (reached_at r.decisions) then k.io else k.negotiate

-- nothing has moved for as long as the limit says
abbrev pub is_late_by : Entries → ℕ → Record → Bool
is_late_by k now r = not (limit_of k r == 0) && nat_le (limit_of k r) (now - r.since)

-- the cause that stands, or that the time is over
abbrev pub cause_by : Entries → ℕ → Record → Option Cause → Cause
cause_by k now r (Some cause) = cause
cause_by k now r None = Cause.TimedOut r.since now (limit_of k r)
