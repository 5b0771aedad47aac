-- The acts of a turn in the relay of a CONNECT without a proxy, one law each.
use Rattle.std.proofs.Common.{sym, ℕ, ◌+◌, ◌≡◌, refl, Bool, true, false, ◌&&◌, ◌||◌, List, ◌++◌, length, ap, ◌∙◌, drop, arith, append_assoc, length-append}
use Rattle.std.proofs.lemmas.List.{drop-append-le}
use Rattle.socks_machine.specs.declared.record.Record.{Record}
use Rattle.socks_machine.specs.declared.world.Object.{Object}
use Rattle.socks_machine.specs.declared.world.TurnEvent.{TurnEvent}
use Rattle.socks_machine.specs.Calls.{Context}
use Rattle.socks_machine.specs.Owed.{replies}
use Rattle.socks_machine.specs.Phase.{prelude_length}
use Rattle.socks_machine.specs.Relaying.{Relaying, MayTake, MayShut, relay_in_hand, due_c, due_t}
use Rattle.socks_machine.specs.Taking.{some_in}
use Rattle.socks_machine.proofs.ActLaws.{sends-grow, sends-more, idles, fills}

-- ---- tools

neither : (a b : Bool) → a || b ≡ false → (a ≡ false) × (b ≡ false)
neither true b h = cc
neither false b h = (refl, h)

-- what can't be: two facts of one mark
pub clash : {A : Type 0} (b : Bool) → b ≡ true → b ≡ false → A
clash true h k = cc
clash false h k = cc

-- a side that has not ended gives more
more-taken : (ended : Bool) (some some' ends ends' : Bool) → ends || ended ≡ false → MayTake ended some' ends'
more-taken ended some some' ends ends' h = record { bytes = λ h1. (neither ends ended h).1; end = λ h1. (neither ends ended h).1 }

-- where a side was shut the other has ended
shut-ended : (shut was ended : Bool) (sent due due' : List ℕ) → MayShut shut was ended sent due → ended ≡ false → MayShut shut was ended sent due'
shut-ended shut was ended sent due due' h open' =
    record { first = h.first; ended' = h.ended'; all = λ h1. clash ended (h.ended' h1) open' }

-- an end keeps what was shut
shut-once : (shut was ended ended' : Bool) (sent due : List ℕ) → MayShut shut was ended sent due → ended' ≡ true → MayShut shut was ended' sent due
shut-once shut was ended ended' sent due h ends = record { first = h.first; ended' = λ h1. ends; all = h.all }

-- a side that is open is sent more
unshut-sends : (shut was ended : Bool) (sent due sent' : List ℕ) → shut || was ≡ false → MayShut shut was ended sent' due
unshut-sends shut was ended sent due sent' h =
    record { first = λ h1. (neither shut was h).1; ended' = λ h1. clash shut h1 (neither shut was h).0; all = λ h1. clash shut h1 (neither shut was h).0 }

-- ---- reads

end-c-is : (s : Context) (old : Record) (e : TurnEvent) (r : Record) → Relaying s old e r → r.end_c ≡ false → e.end_c || old.end_c ≡ false
end-c-is s old e r h open' = sym (ap (λ z. z.end_c) h.is) ∙ open'

end-t-is : (s : Context) (old : Record) (e : TurnEvent) (r : Record) → Relaying s old e r → r.end_t ≡ false → e.end_t || old.end_t ≡ false
end-t-is s old e r h open' = sym (ap (λ z. z.end_t) h.is) ∙ open'

-- bytes of the client
pub relay-c : (s : Context) (old : Record) (e : TurnEvent) (r : Record) (x : List ℕ) → Relaying s old e r → r.end_c ≡ false
    → Relaying s old (record e { c = e.c ++ x }) (record r { c = r.c ++ x })
relay-c s old e r x h open' = record {
  facts = h.facts;
  going = h.going;
  calm = h.calm;
  grams = h.grams;
  came = h.came;
  no_u = h.no_u;
  sent_u = h.sent_u;
  takes_c = more-taken old.end_c (some_in e.c) (some_in (e.c ++ x)) e.end_c e.end_c (end-c-is s old e r h open');
  takes_t = h.takes_t;
  sends_c = h.sends_c;
  sends_t = sends-grow old.sent_t e.sent_t r.sent_t (due_t s old e.c) (due_t s old (e.c ++ x)) h.sends_t (x, longer);
  shuts_c = h.shuts_c;
  shuts_t = shut-ended e.shut_t old.shut_t (e.end_c || old.end_c) r.sent_t (due_t s old e.c) (due_t s old (e.c ++ x)) h.shuts_t (end-c-is s old e r h open');
  is = ap (λ (z : Record). let y : Record = record z { c = z.c ++ x } in y) h.is ∙ (λ i. record (relay_in_hand old e r) { c = append_assoc old.c e.c x i });
  apart = h.apart;
}
  where
    longer : drop (prelude_length s.basis old) (old.c ++ e.c) ++ x ≡ drop (prelude_length s.basis old) (old.c ++ (e.c ++ x))
    longer = sym (ap (drop (prelude_length s.basis old)) (sym (append_assoc old.c e.c x))
        ∙ drop-append-le (prelude_length s.basis old) (old.c ++ e.c) x (omega (arith, h.facts.prelude, length-append old.c e.c)))

-- bytes of the target
pub relay-t : (s : Context) (old : Record) (e : TurnEvent) (r : Record) (x : List ℕ) → Relaying s old e r → r.end_t ≡ false
    → Relaying s old (record e { t = e.t ++ x }) (record r { t = r.t ++ x })
relay-t s old e r x h open' = record {
  facts = h.facts;
  going = h.going;
  calm = h.calm;
  grams = h.grams;
  came = h.came;
  no_u = h.no_u;
  sent_u = h.sent_u;
  takes_c = h.takes_c;
  takes_t = more-taken old.end_t (some_in e.t) (some_in (e.t ++ x)) e.end_t e.end_t (end-t-is s old e r h open');
  sends_c = sends-grow old.sent_c e.sent_c r.sent_c (due_c s old e.t) (due_c s old (e.t ++ x)) h.sends_c (x, longer);
  sends_t = h.sends_t;
  shuts_c = shut-ended e.shut_c old.shut_c (e.end_t || old.end_t) r.sent_c (due_c s old e.t) (due_c s old (e.t ++ x)) h.shuts_c (end-t-is s old e r h open');
  shuts_t = h.shuts_t;
  is = ap (λ (z : Record). let y : Record = record z { t = z.t ++ x } in y) h.is ∙ (λ i. record (relay_in_hand old e r) { t = append_assoc old.t e.t x i });
  apart = h.apart;
}
  where
    longer : (replies s.basis old ++ (old.t ++ e.t)) ++ x ≡ replies s.basis old ++ (old.t ++ (e.t ++ x))
    longer = append_assoc (replies s.basis old) (old.t ++ e.t) x ∙ ap (λ z. replies s.basis old ++ z) (append_assoc old.t e.t x)

-- the ends
pub relay-end-c : (s : Context) (old : Record) (e : TurnEvent) (r : Record) → Relaying s old e r → r.end_c ≡ false
    → Relaying s old (record e { end_c = true }) (record r { end_c = true })
relay-end-c s old e r h open' = record {
  facts = h.facts;
  going = h.going;
  calm = h.calm;
  grams = h.grams;
  came = h.came;
  no_u = h.no_u;
  sent_u = h.sent_u;
  takes_c = more-taken old.end_c (some_in e.c) (some_in e.c) e.end_c true (end-c-is s old e r h open');
  takes_t = h.takes_t;
  sends_c = h.sends_c;
  sends_t = h.sends_t;
  shuts_c = h.shuts_c;
  shuts_t = shut-once e.shut_t old.shut_t (e.end_c || old.end_c) true r.sent_t (due_t s old e.c) h.shuts_t refl;
  is = ap (λ (z : Record). let y : Record = record z { end_c = true } in y) h.is;
  apart = h.apart;
}

pub relay-end-t : (s : Context) (old : Record) (e : TurnEvent) (r : Record) → Relaying s old e r → r.end_t ≡ false
    → Relaying s old (record e { end_t = true }) (record r { end_t = true })
relay-end-t s old e r h open' = record {
  facts = h.facts;
  going = h.going;
  calm = h.calm;
  grams = h.grams;
  came = h.came;
  no_u = h.no_u;
  sent_u = h.sent_u;
  takes_c = h.takes_c;
  takes_t = more-taken old.end_t (some_in e.t) (some_in e.t) e.end_t true (end-t-is s old e r h open');
  sends_c = h.sends_c;
  sends_t = h.sends_t;
  shuts_c = shut-once e.shut_c old.shut_c (e.end_t || old.end_t) true r.sent_c (due_c s old e.t) h.shuts_c refl;
  shuts_t = h.shuts_t;
  is = ap (λ (z : Record). let y : Record = record z { end_t = true } in y) h.is;
  apart = h.apart;
}

-- NotYet
pub relay-idle : (s : Context) (old : Record) (e : TurnEvent) (r : Record) (o : Object) → Relaying s old e r → Relaying s old (idles e o) r
relay-idle s old e r o h = record { facts = h.facts; going = h.going; calm = h.calm; grams = h.grams; came = h.came; no_u = h.no_u; sent_u = h.sent_u; takes_c = h.takes_c; takes_t = h.takes_t; sends_c = h.sends_c; sends_t = h.sends_t; shuts_c = h.shuts_c; shuts_t = h.shuts_t; is = h.is; apart = h.apart }

pub relay-full : (s : Context) (old : Record) (e : TurnEvent) (r : Record) (o : Object) → Relaying s old e r → Relaying s old (fills e o) r
relay-full s old e r o h = record { facts = h.facts; going = h.going; calm = h.calm; grams = h.grams; came = h.came; no_u = h.no_u; sent_u = h.sent_u; takes_c = h.takes_c; takes_t = h.takes_t; sends_c = h.sends_c; sends_t = h.sends_t; shuts_c = h.shuts_c; shuts_t = h.shuts_t; is = h.is; apart = h.apart }

-- ---- writes

shut-c-is : (s : Context) (old : Record) (e : TurnEvent) (r : Record) → Relaying s old e r → r.shut_c ≡ false → e.shut_c || old.shut_c ≡ false
shut-c-is s old e r h open' = sym (ap (λ z. z.shut_c) h.is) ∙ open'

shut-t-is : (s : Context) (old : Record) (e : TurnEvent) (r : Record) → Relaying s old e r → r.shut_t ≡ false → e.shut_t || old.shut_t ≡ false
shut-t-is s old e r h open' = sym (ap (λ z. z.shut_t) h.is) ∙ open'

-- the next bytes of what is owed to the client
pub relay-send-c : (s : Context) (old : Record) (e : TurnEvent) (r : Record) (x rest : List ℕ) → Relaying s old e r → r.shut_c ≡ false
    → (r.sent_c ++ x) ++ rest ≡ due_c s old e.t
    → Relaying s old (record e { sent_c = e.sent_c + length x }) (record r { sent_c = r.sent_c ++ x })
relay-send-c s old e r x rest h open' owed = record {
  facts = h.facts;
  going = h.going;
  calm = h.calm;
  grams = h.grams;
  came = h.came;
  no_u = h.no_u;
  sent_u = h.sent_u;
  takes_c = h.takes_c;
  takes_t = h.takes_t;
  sends_c = sends-more old.sent_c e.sent_c r.sent_c (due_c s old e.t) x rest h.sends_c owed;
  sends_t = h.sends_t;
  shuts_c = unshut-sends e.shut_c old.shut_c (e.end_t || old.end_t) r.sent_c (due_c s old e.t) (r.sent_c ++ x) (shut-c-is s old e r h open');
  shuts_t = h.shuts_t;
  is = ap (λ (z : Record). let y : Record = record z { sent_c = r.sent_c ++ x } in y) h.is;
  apart = h.apart;
}

-- the next bytes of what is owed to the target
pub relay-send-t : (s : Context) (old : Record) (e : TurnEvent) (r : Record) (x rest : List ℕ) → Relaying s old e r → r.shut_t ≡ false
    → (r.sent_t ++ x) ++ rest ≡ due_t s old e.c
    → Relaying s old (record e { sent_t = e.sent_t + length x }) (record r { sent_t = r.sent_t ++ x })
relay-send-t s old e r x rest h open' owed = record {
  facts = h.facts;
  going = h.going;
  calm = h.calm;
  grams = h.grams;
  came = h.came;
  no_u = h.no_u;
  sent_u = h.sent_u;
  takes_c = h.takes_c;
  takes_t = h.takes_t;
  sends_c = h.sends_c;
  sends_t = sends-more old.sent_t e.sent_t r.sent_t (due_t s old e.c) x rest h.sends_t owed;
  shuts_c = h.shuts_c;
  shuts_t = unshut-sends e.shut_t old.shut_t (e.end_c || old.end_c) r.sent_t (due_t s old e.c) (r.sent_t ++ x) (shut-t-is s old e r h open');
  is = ap (λ (z : Record). let y : Record = record z { sent_t = r.sent_t ++ x } in y) h.is;
  apart = h.apart;
}

-- ---- shuts, where the other side is still open

and-false : (a b : Bool) → b ≡ false → a && b ≡ false
and-false true b h = h
and-false false b h = refl

pub relay-shut-c : (s : Context) (old : Record) (e : TurnEvent) (r : Record) → Relaying s old e r → r.shut_c ≡ false → r.shut_t ≡ false
    → r.end_t ≡ true → r.sent_c ≡ due_c s old e.t
    → Relaying s old (record e { shut_c = true }) (record r { shut_c = true })
relay-shut-c s old e r h open_c open_t ended all = record {
  facts = h.facts;
  going = h.going;
  calm = h.calm;
  grams = h.grams;
  came = h.came;
  no_u = h.no_u;
  sent_u = h.sent_u;
  takes_c = h.takes_c;
  takes_t = h.takes_t;
  sends_c = h.sends_c;
  sends_t = h.sends_t;
  shuts_c = record { first = λ h1. (neither e.shut_c old.shut_c (shut-c-is s old e r h open_c)).1; ended' = λ h1. sym (ap (λ z. z.end_t) h.is) ∙ ended; all = λ h1. all };
  shuts_t = h.shuts_t;
  is = ap (λ (z : Record). let y : Record = record z { shut_c = true } in y) h.is;
  apart = open_t;
}

pub relay-shut-t : (s : Context) (old : Record) (e : TurnEvent) (r : Record) → Relaying s old e r → r.shut_c ≡ false → r.shut_t ≡ false
    → r.end_c ≡ true → r.sent_t ≡ due_t s old e.c
    → Relaying s old (record e { shut_t = true }) (record r { shut_t = true })
relay-shut-t s old e r h open_c open_t ended all = record {
  facts = h.facts;
  going = h.going;
  calm = h.calm;
  grams = h.grams;
  came = h.came;
  no_u = h.no_u;
  sent_u = h.sent_u;
  takes_c = h.takes_c;
  takes_t = h.takes_t;
  sends_c = h.sends_c;
  sends_t = h.sends_t;
  shuts_c = h.shuts_c;
  shuts_t = record { first = λ h1. (neither e.shut_t old.shut_t (shut-t-is s old e r h open_t)).1; ended' = λ h1. sym (ap (λ z. z.end_c) h.is) ∙ ended; all = λ h1. all };
  is = ap (λ (z : Record). let y : Record = record z { shut_t = true } in y) h.is;
  apart = ap (λ c. c && true) open_c;
}
