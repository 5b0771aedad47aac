use Rattle.handshake_core.proofs.PreludeStops.{more-is-unsettled, more-is-unanswered, bad-is-first, whole-stands-alone}
use Rattle.handshake_core.proofs.laws.preludes_stop_exactly.Goals as goal

pub returns : goal.returns
returns c = record { answered = more-is-unsettled; unanswered = more-is-unanswered; bad = bad-is-first; whole = whole-stands-alone }
