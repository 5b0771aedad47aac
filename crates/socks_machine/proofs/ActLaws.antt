-- The acts of a turn, one law each.
use Rattle.std.proofs.Common.{sym, ℕ, ◌+◌, ◌≡◌, refl, Bool, true, false, ◌&&◌, ◌||◌, not, if◌then◌else◌, Some, None, List, ◌∷◌, ◌++◌, length, ap, ◌∙◌, append_assoc, length-append}
use Rattle.socks_machine.specs.declared.cause.Cause.{Cause}
use Rattle.socks_machine.specs.declared.record.Record.{Record}
use Rattle.socks_machine.specs.declared.world.Object.{Object}
use Rattle.socks_machine.specs.declared.world.TurnEvent.{TurnEvent}
use Rattle.socks_machine.specs.Basis.{Basis}
use Rattle.socks_machine.specs.Calls.{Context}
use Rattle.socks_machine.specs.Datagrams.{owed_datagrams}
use Rattle.socks_machine.specs.InTurn.{takings, Sends, Sendings, Grows, StillShut, Shuts, Reading, with_sendings, in_hand}
use Rattle.socks_machine.specs.Owed.{owed_to_client, owed_to_target, pending_to_client, pending_to_target}
use Rattle.socks_machine.specs.Phase.{Phase, phase}
use Rattle.socks_machine.specs.Settle.{fix, settled, cause_in, is_nothing}
use Rattle.socks_machine.specs.Taking.{reads_client, with_client_bytes}
use Rattle.socks_machine.specs.Turn.{with_shut, shut_sides, guard, client_may_be_shut, target_may_be_shut}
use Rattle.socks_machine.proofs.TakeLaws.{takes-c, takes-end-c, takes-idle, takes-full}

-- ---- what is sent

pub sends-grow : {A : Type 0} (before : List A) (n : ℕ) (now owed more : List A) → Sends before n now owed → (rest : List A) × (owed ++ rest ≡ more) → Sends before n now more
sends-grow before n now owed more h k = record {
  bytes = h.bytes;
  now' = h.now';
  count = h.count;
  rest = h.rest ++ k.0;
  owed' = sym (append_assoc now h.rest k.0) ∙ (ap (λ z. z ++ k.0) h.owed' ∙ k.1);
}

pub sends-more : {A : Type 0} (before : List A) (n : ℕ) (now owed bytes rest : List A) → Sends before n now owed → (now ++ bytes) ++ rest ≡ owed → Sends before (n + length bytes) (now ++ bytes) owed
sends-more before n now owed bytes rest h is = record {
  bytes = h.bytes ++ bytes;
  now' = ap (λ z. z ++ bytes) h.now' ∙ append_assoc before h.bytes bytes;
  count = length-append h.bytes bytes ∙ ap (λ z. z + length bytes) h.count;
  rest = rest;
  owed' = is;
}

-- ---- what is shut

unfinished : (a b c d e f : Bool) → c && d ≡ false → a && b && c && d && e && f ≡ false
unfinished true true c d e f h = rw h refl
unfinished true false c d e f h = refl
unfinished false b c d e f h = refl

-- a relay with an open side fixes no cause by itself
pub relay-stays : (basis : Basis) (r : Record) → phase basis r ≡ Phase.Relay → r.shut_c && r.shut_t ≡ false → settled basis r ≡ r
relay-stays basis r relays apart = ap (λ k. fix k r) none
  where
    none : cause_in basis r (phase basis r) ≡ None
    none = ap (cause_in basis r) relays
        ∙ ap (λ b. if b then Some Cause.Finished else None)
        (unfinished r.end_c r.end_t r.shut_c r.shut_t (is_nothing (pending_to_client basis r)) (is_nothing (pending_to_target basis r)) apart)

pub may : (wants may : Bool) → (wants ≡ true → may ≡ true) → not wants || may ≡ true
may true m h = h refl
may false m h = refl

pub both : (a b : Bool) → a ≡ true → b ≡ true → a && b ≡ true
both true b h k = k
both false b h k = h

shut-none : (c t : Bool) (f : Record) → c || t ≡ false → record f { shut_c = c || f.shut_c; shut_t = t || f.shut_t } ≡ f
shut-none true t f h = cc
shut-none false true f h = cc
shut-none false false f h = refl

abbrev pub with_shuts : TurnEvent → Record → Record
with_shuts e f = record f { shut_c = e.shut_c || f.shut_c; shut_t = e.shut_t || f.shut_t }

-- the sides that were shut, as the stage of a turn, where that fixes no cause
pub shuts-are : (basis : Basis) (e : TurnEvent) (f : Record) → (e.shut_c ≡ true → client_may_be_shut basis f ≡ true) → (e.shut_t ≡ true → target_may_be_shut basis f ≡ true)
    → (e.shut_c || e.shut_t ≡ true → settled basis (with_shuts e f) ≡ with_shuts e f) → with_shut basis e f ≡ Some (with_shuts e f)
shuts-are basis e f may_c may_t stays = by-any (e.shut_c || e.shut_t) refl
  where
    guarded : (not e.shut_c || client_may_be_shut basis f) && (not e.shut_t || target_may_be_shut basis f) ≡ true
    guarded = both _ _ (may e.shut_c (client_may_be_shut basis f) may_c) (may e.shut_t (target_may_be_shut basis f) may_t)

    by-any : (b : Bool) → e.shut_c || e.shut_t ≡ b → elim b [ true ↦ shut_sides basis e f | false ↦ Some f ] ≡ Some (with_shuts e f)
    by-any true any =
        ap (λ g. guard g (Some (settled basis (record f { shut_c = e.shut_c || f.shut_c; shut_t = e.shut_t || f.shut_t })))) guarded
        ∙ ap Some (stays any)
    by-any false any = ap Some (sym (shut-none e.shut_c e.shut_t f any))

pub shuts-is : (basis : Basis) (e : TurnEvent) (f r : Record) → Shuts basis e.shut_c e.shut_t f r → with_shut basis e f ≡ Some r
shuts-is basis e f r h =
    shuts-are basis e f h.still.may_c h.still.may_t
    (λ any. relay-stays basis (with_shuts e f) (h.still.relays any) (sym (ap (λ z. z.shut_c && z.shut_t) h.is) ∙ h.apart))
    ∙ ap Some (sym h.is)

-- no side was shut
pub unshut : (basis : Basis) (e : TurnEvent) (f : Record) → e.shut_c ≡ false → e.shut_t ≡ false → with_shut basis e f ≡ Some f
unshut basis e f c t =
    ap (λ b. elim (b || e.shut_t) [ true ↦ shut_sides basis e f | false ↦ Some f ]) c
    ∙ ap (λ b. elim b [ true ↦ shut_sides basis e f | false ↦ Some f ]) t

pub still-open : (basis : Basis) (shut_c shut_t : Bool) (f : Record) → shut_c ≡ false → shut_t ≡ false → StillShut basis shut_c shut_t f
still-open basis shut_c shut_t f c t = record { may_c = λ h. cc; may_t = λ h. cc; relays = λ h. absurd (both-open shut_c shut_t c t h) }
  where
    both-open : (c t : Bool) → c ≡ false → t ≡ false → c || t ≡ true → ⊥
    both-open true t h k l = cc
    both-open false true h k l = cc
    both-open false false h k l = cc

-- ---- a turn over another record behind its takings

pub sendings-over : (basis : Basis) (n m k : ℕ) (a r x : Record) → Sendings basis n m k a r.sent_c r.sent_t r.sent_u → Grows basis a (in_hand x a) → Sendings basis n m k (in_hand x a) r.sent_c r.sent_t r.sent_u
sendings-over basis n m k a r x h grows = record {
  c = sends-grow a.sent_c n r.sent_c (owed_to_client basis a) (owed_to_client basis (in_hand x a)) h.c grows.to_client;
  t = sends-grow a.sent_t m r.sent_t (owed_to_target basis a) (owed_to_target basis (in_hand x a)) h.t grows.to_target;
  u = sends-grow a.sent_u k r.sent_u (owed_datagrams basis a) (owed_datagrams basis (in_hand x a)) h.u grows.datagrams;
}

pub shuts-over : (basis : Basis) (c t : Bool) (a r x : Record) → Shuts basis c t (with_sendings a r) r → StillShut basis c t (with_sendings (in_hand x a) r)
    → Shuts basis c t (with_sendings (in_hand x a) (in_hand x r)) (in_hand x r)
shuts-over basis c t a r x h still = record {
  still = still;
  is = λ i. record x { sent_c = r.sent_c; sent_t = r.sent_t; sent_u = r.sent_u; shut_c = ap (λ z. z.shut_c) h.is i; shut_t = ap (λ z. z.shut_t) h.is i };
  apart = h.apart;
}

-- ---- reading

abbrev pub taken_c : Context → List ℕ → Record → Record
taken_c s bytes a = settled s.basis (with_client_bytes s.generation (s.config).methods bytes a)

-- bytes of the client, in any phase that reads it
pub reading-c : (s : Context) (old : Record) (e : TurnEvent) (a r : Record) (b : ℕ) (bs : List ℕ) → Reading s old e a r
    → e.end_c ≡ false → a.cause ≡ None → reads_client s.basis e.idle e.full a (phase s.basis a) ≡ true
    → Grows s.basis a (taken_c s (b ∷ bs) a) → StillShut s.basis e.shut_c e.shut_t (with_sendings (taken_c s (b ∷ bs) a) r)
    → Reading s old (record e { c = e.c ++ b ∷ bs }) (taken_c s (b ∷ bs) a) (in_hand (taken_c s (b ∷ bs) a) r)
reading-c s old e a r b bs h open_c none reads grows still = record {
  going = h.going;
  calm = h.calm;
  takes = takes-c s.basis s.generation (s.config).methods (takings e) old a b bs h.takes open_c none reads;
  sendings = sendings-over s.basis e.sent_c e.sent_t e.sent_u a r (taken_c s (b ∷ bs) a) h.sendings grows;
  shuts = shuts-over s.basis e.shut_c e.shut_t a r (taken_c s (b ∷ bs) a) h.shuts still;
}

abbrev pub ended_c : Context → Record → Record
ended_c s a = settled s.basis (record a { end_c = true })

-- the client's end
pub reading-end-c : (s : Context) (old : Record) (e : TurnEvent) (a r : Record) → Reading s old e a r
    → e.end_c ≡ false → reads_client s.basis e.idle e.full a (phase s.basis a) ≡ true
    → Grows s.basis a (ended_c s a) → StillShut s.basis e.shut_c e.shut_t (with_sendings (ended_c s a) r)
    → Reading s old (record e { end_c = true }) (ended_c s a) (in_hand (ended_c s a) r)
reading-end-c s old e a r h open_c reads grows still = record {
  going = h.going;
  calm = h.calm;
  takes = takes-end-c s.basis s.generation (s.config).methods (takings e) old a h.takes open_c reads;
  sendings = sendings-over s.basis e.sent_c e.sent_t e.sent_u a r (ended_c s a) h.sendings grows;
  shuts = shuts-over s.basis e.shut_c e.shut_t a r (ended_c s a) h.shuts still;
}

abbrev pub idles : TurnEvent → Object → TurnEvent
idles e o = record e { idle = o ∷ e.idle }

abbrev pub fills : TurnEvent → Object → TurnEvent
fills e o = record e { full = o ∷ e.full }

-- NotYet to a read, and to a write
pub reading-idle : (s : Context) (old : Record) (e : TurnEvent) (a r : Record) (o : Object) → Reading s old e a r → Reading s old (idles e o) a r
reading-idle s old e a r o h = record {
  going = h.going;
  calm = h.calm;
  takes = takes-idle s.basis s.generation (s.config).methods (takings e) o old a h.takes;
  sendings = h.sendings;
  shuts = h.shuts;
}

pub reading-full : (s : Context) (old : Record) (e : TurnEvent) (a r : Record) (o : Object) → Reading s old e a r → Reading s old (fills e o) a r
reading-full s old e a r o h = record {
  going = h.going;
  calm = h.calm;
  takes = takes-full s.basis s.generation (s.config).methods (takings e) o old a h.takes;
  sendings = h.sendings;
  shuts = h.shuts;
}

-- ---- sending

abbrev pub sends_to_c : Record → List ℕ → Record
sends_to_c r bytes = record r { sent_c = r.sent_c ++ bytes }

abbrev pub sends_to_t : Record → List ℕ → Record
sends_to_t r bytes = record r { sent_t = r.sent_t ++ bytes }

-- the next bytes of what is owed to the client; where a side was shut, all of that side's is sent
pub reading-send-c : (s : Context) (old : Record) (e : TurnEvent) (a r : Record) (bytes rest : List ℕ) → Reading s old e a r
    → (r.sent_c ++ bytes) ++ rest ≡ owed_to_client s.basis a → StillShut s.basis e.shut_c e.shut_t (with_sendings a (sends_to_c r bytes))
    → Reading s old (record e { sent_c = e.sent_c + length bytes }) a (sends_to_c r bytes)
reading-send-c s old e a r bytes rest h owed still = record {
  going = h.going;
  calm = h.calm;
  takes = h.takes;
  sendings = record { c = sends-more a.sent_c e.sent_c r.sent_c (owed_to_client s.basis a) bytes rest h.sendings.c owed; t = h.sendings.t; u = h.sendings.u };
  shuts = record { still = still; is = ap (λ z. sends_to_c z bytes) h.shuts.is; apart = h.shuts.apart };
}

pub reading-send-t : (s : Context) (old : Record) (e : TurnEvent) (a r : Record) (bytes rest : List ℕ) → Reading s old e a r
    → (r.sent_t ++ bytes) ++ rest ≡ owed_to_target s.basis a → StillShut s.basis e.shut_c e.shut_t (with_sendings a (sends_to_t r bytes))
    → Reading s old (record e { sent_t = e.sent_t + length bytes }) a (sends_to_t r bytes)
reading-send-t s old e a r bytes rest h owed still = record {
  going = h.going;
  calm = h.calm;
  takes = h.takes;
  sendings = record { c = h.sendings.c; t = sends-more a.sent_t e.sent_t r.sent_t (owed_to_target s.basis a) bytes rest h.sendings.t owed; u = h.sendings.u };
  shuts = record { still = still; is = ap (λ z. sends_to_t z bytes) h.shuts.is; apart = h.shuts.apart };
}
