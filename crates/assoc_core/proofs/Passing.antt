-- The two directions of a relay make one pass.
use Rattle.std.proofs.Common.{◌≡◌, ℕ, Bool, false, ◌&&◌, Option, None, List, refl, ap, sym, subst}
use Rattle.net_ends.specs.Counts.{Counts}
use Rattle.net_ends.specs.Faults.{Tried}
use Rattle.net_ends.specs.declared.kinds.Kind.{Kind}
use Rattle.net_ends.specs.Told.{Told}
use Rattle.socks_machine.specs.declared.record.Record.{Record}
use Rattle.assoc_core.specs.declared.carry.Give.{Give}
use Rattle.assoc_core.specs.declared.carry.Take.{Take}
use Rattle.assoc_core.specs.declared.relay.Pass.{Pass}
use Rattle.assoc_core.specs.Carrying.{CarriesToClient, CarriesToTarget, Passes, GivesPart, TakesPart, is_read, is_sound, is_idle, is_full, failed_giving, failed_taking, first_failed}
use Rattle.assoc_core.specs.Plain.{prelude_of}
use Rattle.assoc_core.proofs.Carryings.{gives-as, held, takes-as, unread, was-read}
use Rattle.assoc_core.proofs.Tryings.{tried-none, tried-on, tried-as}

-- ---- the calls on one link

still-tried : {R W S : Type 0} {a b c : Counts} {failed : Option Kind} → c ≡ b → Tried a b R W S failed → Tried a c R W S failed
still-tried {R = R} {W = W} {S = S} {a = a} {failed = failed} e t = subst (λ (z : Counts). Tried a z R W S failed) (sym e) t

-- it was read, and nothing was written behind it
tried-failed : {client client' : Told} {counts counts' : Counts} {before after sent : List ℕ} {reads was ended : Bool} (take : Take) → (t : TakesPart client client' counts counts' before after reads was ended take)
    → Tried counts counts' ((after ≡ before) × (t.ends ≡ false) × (is_idle take ≡ false)) ((sent ≡ sent) × (false ≡ false)) (false ≡ false) (first_failed (failed_taking take) None)
tried-failed Take.Unread t = tried-as t.tried (λ x. x) (λ x. (refl, refl)) (λ x. refl)
tried-failed Take.Ended t = tried-as t.tried (λ x. x) (λ x. (refl, refl)) (λ x. refl)
tried-failed Take.NotYet t = tried-as t.tried (λ x. x) (λ x. (refl, refl)) (λ x. refl)
tried-failed Take.Quantum t = tried-as t.tried (λ x. x) (λ x. (refl, refl)) (λ x. refl)
tried-failed Take.Held t = tried-as t.tried (λ x. x) (λ x. (refl, refl)) (λ x. refl)
tried-failed Take.Failed t = tried-as t.tried (λ x. x) (λ x. (refl, refl)) (λ x. refl)

-- all was read, and then written
tried-read : {client between client' : Told} {counts counts' counts'' : Counts} {before after sent sent' pending : List ℕ} {reads was ended gives ends shut shut' : Bool} {take : Take} {give : Give} → (take ≡ Take.Failed → ⊥)
    → (t : TakesPart client between counts counts' before after reads was ended take) → (g : GivesPart between client' counts' counts'' sent sent' pending gives ends shut shut' give)
    → Tried counts counts'' ((after ≡ before) × (t.ends ≡ false) × (is_idle take ≡ false)) ((sent' ≡ sent) × (is_full give ≡ false)) (g.shuts ≡ false) (first_failed (failed_taking take) (failed_giving give))
tried-read {take = Take.Unread} h t g = tried-on t.tried g.tried (λ x y. x) (λ x y. y) (λ x y. y)
tried-read {take = Take.Ended} h t g = tried-on t.tried g.tried (λ x y. x) (λ x y. y) (λ x y. y)
tried-read {take = Take.NotYet} h t g = tried-on t.tried g.tried (λ x y. x) (λ x y. y) (λ x y. y)
tried-read {take = Take.Quantum} h t g = tried-on t.tried g.tried (λ x y. x) (λ x y. y) (λ x y. y)
tried-read {take = Take.Held} h t g = tried-on t.tried g.tried (λ x y. x) (λ x y. y) (λ x y. y)
tried-read {take = Take.Failed} h t g = absurd (h refl)

-- it was written, and then read where no call failed
tried-given : {target between target' : Told} {counts counts' counts'' : Counts} {before after sent sent' pending : List ℕ} {was ended gives ends shut shut' : Bool} {take : Take} (give : Give)
    → (g : GivesPart target between counts counts' sent sent' pending gives ends shut shut' give) → (t : TakesPart between target' counts' counts'' before after (is_sound give) was ended take)
    → Tried counts counts'' ((after ≡ before) × (t.ends ≡ false) × (is_idle take ≡ false)) ((sent' ≡ sent) × (is_full give ≡ false)) (g.shuts ≡ false) (first_failed (failed_giving give) (failed_taking take))
tried-given Give.Held g t = tried-on g.tried t.tried (λ x y. y) (λ x y. x) (λ x y. x)
tried-given Give.All g t = tried-on g.tried t.tried (λ x y. y) (λ x y. x) (λ x y. x)
tried-given Give.Full g t = tried-on g.tried t.tried (λ x y. y) (λ x y. x) (λ x y. x)
tried-given Give.Unwritten g t = still-tried (t.still refl).3 (tried-as g.tried (λ x. ((t.still refl).0, (t.still refl).1, ap is_idle (t.still refl).2)) (λ x. x) (λ x. x))
tried-given Give.Unshut g t = still-tried (t.still refl).3 (tried-as g.tried (λ x. ((t.still refl).0, (t.still refl).1, ap is_idle (t.still refl).2)) (λ x. x) (λ x. x))

-- it was written, and not read
tried-held : {target target' : Told} {counts counts' : Counts} {t sent sent' pending : List ℕ} {gives ends shut shut' : Bool} (give : Give)
    → (g : GivesPart target target' counts counts' sent sent' pending gives ends shut shut' give)
    → Tried counts counts' ((t ≡ t) × (false ≡ false) × (false ≡ false)) ((sent' ≡ sent) × (is_full give ≡ false)) (g.shuts ≡ false) (first_failed (failed_giving give) None)
tried-held Give.Held g = tried-as g.tried (λ x. (refl, refl, refl)) (λ x. x) (λ x. x)
tried-held Give.All g = tried-as g.tried (λ x. (refl, refl, refl)) (λ x. x) (λ x. x)
tried-held Give.Full g = tried-as g.tried (λ x. (refl, refl, refl)) (λ x. x) (λ x. x)
tried-held Give.Unwritten g = tried-as g.tried (λ x. (refl, refl, refl)) (λ x. x) (λ x. x)
tried-held Give.Unshut g = tried-as g.tried (λ x. (refl, refl, refl)) (λ x. x) (λ x. x)

-- ---- a pass

-- the client's read failed
pub passes-failed : (client client' target target' : Told) (counts counts' sunk sunk' : Counts) (old new : Record) (take : Take) (give : Give)
    → CarriesToTarget client client' counts counts' target target' sunk sunk' old new take give → take ≡ Take.Failed
    → Passes client client' target target' counts counts' sunk sunk' (prelude_of old) old new (record { took_c = take; gave_t = give; took_t = Take.Unread; gave_c = Give.Held })
passes-failed client client' target target' counts counts' sunk sunk' old new take give p failed =
    subst (λ (r : Record). Passes client client' target target' counts counts' sunk sunk' (prelude_of old) old r pass) (sym p.is) (record {
      between_c = client';
      between_t = target';
      counts_c = counts';
      counts_t = sunk';
      takes_c = p.carries.takes;
      gives_t = p.carries.gives';
      takes_t = unread target' sunk' old.t (is_read take && is_sound give) old.end_t Take.Unread (ap (λ z. is_read z && is_sound give) failed) refl (tried-none sunk' (refl, refl, refl) tt tt) (λ e. refl);
      gives_c = held client' counts' old.sent_c _ (is_read take) false old.shut_c (ap is_read failed);
      room_c = p.carries.room;
      held_c = p.carries.held;
      room_t = λ e. absurd (cc);
      held_t = λ e. absurd (cc);
      tried_c = tried-failed take p.carries.takes;
      tried_t = tried-held give p.carries.gives';
      held = λ h. (p.failed h, refl, refl);
      is = refl;
    })
  where
    pass : Pass
    pass = record { took_c = take; gave_t = give; took_t = Take.Unread; gave_c = Give.Held }

pub passes-both : (client between_c client' target between_t target' : Told) (counts_c counts_c' counts_c'' counts_t counts_t' counts_t'' : Counts) (old mid new : Record) (took_c took_t : Take) (gave_t gave_c : Give)
    → CarriesToTarget client between_c counts_c counts_c' target between_t counts_t counts_t' old mid took_c gave_t
    → CarriesToClient between_t target' counts_t' counts_t'' between_c client' counts_c' counts_c'' (is_sound gave_t) mid new took_t gave_c → (took_c ≡ Take.Failed → ⊥)
    → Passes client client' target target' counts_c counts_c'' counts_t counts_t'' (prelude_of old) old new (record { took_c = took_c; gave_t = gave_t; took_t = took_t; gave_c = gave_c })
passes-both client between_c client' target between_t target' counts_c counts_c' counts_c'' counts_t counts_t' counts_t'' old mid new took_c took_t gave_t gave_c p k read =
    subst (λ (r : Record). Passes client client' target target' counts_c counts_c'' counts_t counts_t'' (prelude_of old) old r pass) (sym q.is) (record {
      between_c = between_c;
      between_t = between_t;
      counts_c = counts_c';
      counts_t = counts_t';
      takes_c = p.carries.takes;
      gives_t = p.carries.gives';
      takes_t = takes-as _ _ _ _ _ _ _ _ _ _ _ (ap (λ b. b && is_sound gave_t) (sym (was-read took_c read))) q.carries.takes;
      gives_c = gives-as _ _ _ _ _ _ _ _ _ _ _ _ _ _ _ refl (sym (was-read took_c read)) refl q.carries.gives';
      room_c = p.carries.room;
      held_c = p.carries.held;
      room_t = q.carries.room;
      held_t = q.carries.held;
      tried_c = tried-read read p.carries.takes q.carries.gives';
      tried_t = tried-given gave_t p.carries.gives' q.carries.takes;
      held = λ h. absurd (read h);
      is = refl;
    })
  where
    pass : Pass
    pass = record { took_c = took_c; gave_t = gave_t; took_t = took_t; gave_c = gave_c }

    between : Record
    between = record old { c = mid.c; end_c = mid.end_c; sent_t = mid.sent_t; shut_t = mid.shut_t }

    q : CarriesToClient between_t target' counts_t' counts_t'' between_c client' counts_c' counts_c'' (is_sound gave_t) between new took_t gave_c
    q = subst (λ (r : Record). CarriesToClient between_t target' counts_t' counts_t'' between_c client' counts_c' counts_c'' (is_sound gave_t) r new took_t gave_c) p.is k

pub client-as : (target target' : Told) (counts counts' : Counts) (client client' : Told) (sunk sunk' : Counts) (reads reads' : Bool) (old new : Record) (take : Take) (give : Give) → reads ≡ reads'
    → CarriesToClient target target' counts counts' client client' sunk sunk' reads old new take give → CarriesToClient target target' counts counts' client client' sunk sunk' reads' old new take give
client-as target target' counts counts' client client' sunk sunk' reads reads' old new take give h k =
    subst (λ (z : Bool). CarriesToClient target target' counts counts' client client' sunk sunk' z old new take give) h k
