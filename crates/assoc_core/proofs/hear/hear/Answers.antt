use Rattle.std.proofs.Common.{refl}
use Rattle.assoc_core.proofs.Sendings.{later-on}
use Rattle.assoc_core.proofs.Tryings.{tried-on}
use Rattle.assoc_core.proofs.Hearings.{comes-on, few-on, hears-end, hears-nothing, hears-fault, hears-enough, open-short, takes-on}
use Rattle.assoc_core.proofs.hear.hear.Goals as goal

pub reading-preserved : goal.reading-preserved
reading-preserved g c = record {
  comes = comes-on _ _ _ _ _ _ _ _ c.reading.invariant.comes (rw c.in-Got.is at c.in_ok-read_more.ensures.read);
  few = few-on _ _ _ _ _ _ (open-short c.args.methods.now c.args.users.now c.reading.text c.reading.taken c.reading.handshake c.reading.invariant.taken' c.in-Open.is c.is_short.ensures) (rw c.in-Got.is at c.in_ok-read_more.ensures.read);
  taken' = takes-on c.args.methods.now c.args.users.now c.reading.handshake c.feed_all-taken-in-Got.new.self c.reading.text c.read_more.new.text c.as_slice-in-Got.result.now c.len-before.result _ _ _ _ c.reading.taken c.feed_all-taken-in-Got.result
      c.reading.invariant.taken' c.in-Open.is (rw c.in-Got.is at c.in_ok-read_more.ensures.read) c.len-before.ensures c.as_slice-in-Got.ensures c.feed_all-taken-in-Got.ensures;
  first = λ x. rw c.in-Got.is at c.in_ok-read_more.ensures.arrived;
  later = later-on _ _ _ c.reading.invariant.later c.in_ok-read_more.ensures.later;
  tried = tried-on c.reading.invariant.tried (rw c.in-Got.is at c.in_ok-read_more.ensures.tried) (λ x y. absurd y) (λ x y. tt) (λ x y. tt);
}

pub returns-in-End-clause-hears : goal.returns-in-End-clause-hears
returns-in-End-clause-hears g c = hears-end _ _ _ _ _ _ _ _ _ c.reading.invariant.comes c.reading.invariant.few c.reading.invariant.later c.reading.invariant.tried (rw c.in-End.is at c.in_ok-read_more.ensures.read)
    (rw c.in-End.is at c.in_ok-read_more.ensures.arrived) c.in_ok-read_more.ensures.later (rw c.in-End.is at c.in_ok-read_more.ensures.tried)

pub returns-in-NotYet-clause-hears : goal.returns-in-NotYet-clause-hears
returns-in-NotYet-clause-hears g c = hears-nothing _ _ _ _ _ _ _ _ _ c.reading.invariant.comes c.reading.invariant.few c.reading.invariant.first c.reading.invariant.later c.reading.invariant.tried
    (rw c.in-NotYet.is at c.in_ok-read_more.ensures.read).0 (rw c.in-NotYet.is at c.in_ok-read_more.ensures.arrived) c.in_ok-read_more.ensures.later (rw c.in-NotYet.is at c.in_ok-read_more.ensures.tried)
    (rw c.in-NotYet.is at c.in_ok-read_more.ensures.cause)

pub returns-in-Failed-clause-hears : goal.returns-in-Failed-clause-hears
returns-in-Failed-clause-hears g c = hears-fault _ _ _ _ _ _ _ _ _ c.reading.invariant.comes c.reading.invariant.few c.reading.invariant.first c.reading.invariant.later c.reading.invariant.tried
    (rw c.in-Failed.is at c.in_ok-read_more.ensures.read) c.in_ok-read_more.ensures.later (rw c.in-Failed.is at c.in_ok-read_more.ensures.tried) (rw c.in-Failed.is at c.in_ok-read_more.ensures.cause)

pub returns-in-Asked-clause-hears : goal.returns-in-Asked-clause-hears
returns-in-Asked-clause-hears g c =
    hears-enough _ _ _ _ _ _ _ (refl, refl, refl) c.reading.invariant.comes c.reading.invariant.few c.reading.invariant.first c.reading.invariant.later c.reading.invariant.tried tt

pub returns-in-Refused-clause-hears : goal.returns-in-Refused-clause-hears
returns-in-Refused-clause-hears g c =
    hears-enough _ _ _ _ _ _ _ (refl, refl, refl) c.reading.invariant.comes c.reading.invariant.few c.reading.invariant.first c.reading.invariant.later c.reading.invariant.tried tt
