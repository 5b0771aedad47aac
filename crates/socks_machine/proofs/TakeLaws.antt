-- The acts of a turn, one law each: on what it has taken, and on a turn that reads.
use Rattle.std.proofs.Common.{sym, ℕ, ◌≡◌, refl, Bool, true, false, ◌&&◌, ◌||◌, Option, Some, None, List, [], ◌∷◌, ◌++◌, length, ap, subst, ◌∙◌, inl, inr, append_assoc, nat_lt}
use Rattle.std.specs.List.{list_all}
use Rattle.addr_pattern.specs.declared.endpoint.Endpoint.{Endpoint}
use Rattle.socks_machine.specs.declared.cause.Cause.{Cause}
use Rattle.socks_grammar.specs.declared.protocol.Method.{Method}
use Rattle.socks_machine.specs.declared.record.Chosen.{Chosen}
use Rattle.socks_machine.specs.declared.record.Record.{Record}
use Rattle.socks_machine.specs.declared.world.Object.{Object}
use Rattle.socks_machine.specs.Basis.{Basis}
use Rattle.socks_grammar.specs.Grammar.{Read, greeting}
use Rattle.socks_grammar.specs.Handshake.{offered, offered_by}
use Rattle.socks_machine.specs.InTurn.{Took, Takes, Takings}
use Rattle.socks_machine.specs.Phase.{Phase, phase, client_payload}
use Rattle.socks_machine.specs.Settle.{fix, first_cause, settled, cause_in}
use Rattle.socks_grammar.specs.Stable.{Extends}
use Rattle.socks_machine.specs.Taking.{some_in, reads_target, reads_port, reads_client, of_generation, meet, choose_from, chosen_after, with_client_bytes, holds, pipe_size}
use Rattle.socks_machine.specs.Equal.{object_eq}
use Rattle.socks_grammar.proofs.GrammarLaws.{greeting-stable}

-- ---- tools

pub some-in-append : {A : Type 0} (xs : List A) (b : A) (bs : List A) → some_in (xs ++ b ∷ bs) ≡ true
some-in-append [] b bs = refl
some-in-append (x ∷ xs) b bs = refl

pub nothing-in : {A : Type 0} (xs : List A) → some_in xs ≡ false → xs ≡ []
nothing-in [] h = refl
nothing-in (x ∷ xs) h = cc

first-none : (cause stands : Option Cause) → first_cause cause stands ≡ None → first_cause cause stands ≡ stands
first-none None stands h = refl
first-none (Some cause) None h = h
first-none (Some cause) (Some stands) h = refl

-- a record that has no cause behind what would fix one is as it was
pub fix-none : (cause : Option Cause) (r : Record) → (fix cause r).cause ≡ None → fix cause r ≡ r
fix-none cause r h = λ i. record r { cause = first-none cause r.cause h i }

pub settled-none : (basis : Basis) (r : Record) → (settled basis r).cause ≡ None → settled basis r ≡ r
settled-none basis r h = fix-none (cause_in basis r (phase basis r)) r h

-- ---- the choice of the method stays

choice-extends : (g : ℕ) (methods : List Method) (more : List ℕ) (x y : Read (List ℕ)) (c : List ℕ) → Extends x more y → offered c ≡ offered_by y
    → chosen_after g methods (choose_from g methods (offered_by x)) c ≡ choose_from g methods (offered_by y)
choice-extends g methods more (Read.Got offers at rest) y c e is = rw e refl
choice-extends g methods more Read.Short y c e is = ap (choose_from g methods) is
choice-extends g methods more (Read.Wrong at byte kind) y c e is = ap (choose_from g methods) is

chosen-twice : (g : ℕ) (methods : List Method) (chosen : Option Chosen) (c x : List ℕ)
    → chosen_after g methods (chosen_after g methods chosen c) (c ++ x) ≡ chosen_after g methods chosen (c ++ x)
chosen-twice g methods (Some chosen) c x = refl
chosen-twice g methods None c x = choice-extends g methods x (greeting 0 c) (greeting 0 (c ++ x)) (c ++ x) (greeting-stable.law 0 c x) refl

pub bytes-twice : (g : ℕ) (methods : List Method) (x y : List ℕ) (r : Record)
    → with_client_bytes g methods y (with_client_bytes g methods x r) ≡ with_client_bytes g methods (x ++ y) r
bytes-twice g methods x y r = λ i. record r { c = append_assoc r.c x y i; chosen = choice i }
  where
    choice : chosen_after g methods (chosen_after g methods r.chosen (r.c ++ x)) ((r.c ++ x) ++ y) ≡ chosen_after g methods r.chosen (r.c ++ (x ++ y))
    choice = chosen-twice g methods r.chosen (r.c ++ x) y ∙ ap (chosen_after g methods r.chosen) (append_assoc r.c x y)

-- ---- the client's bytes

pub untook : (basis : Basis) (any : Bool) (reads : Record → Phase → Bool) (change : Record → Record) (r x : Record)
    → any ≡ false → Took basis any reads change r x → x ≡ r
untook basis any reads change r x none (inl h) = h.1
untook basis any reads change r x none (inr h) = cc

more-c : (basis : Basis) (g : ℕ) (methods : List Method) (e : Takings) (r4 a : Record) (b : ℕ) (bs : List ℕ)
    → Took basis (some_in e.c) (reads_client basis e.idle e.full) (with_client_bytes g methods e.c) r4 a
    → a.cause ≡ None → reads_client basis e.idle e.full a (phase basis a) ≡ true
    → Took basis (some_in (e.c ++ b ∷ bs)) (reads_client basis e.idle e.full) (with_client_bytes g methods (e.c ++ b ∷ bs)) r4 (settled basis (with_client_bytes g methods (b ∷ bs) a))
more-c basis g methods e r4 a b bs (inl h) none reads =
    inr (
      some-in-append e.c b bs,
      subst (λ (z : Record). reads_client basis e.idle e.full z (phase basis z) ≡ true) h.1 reads,
      ap (λ z. settled basis (with_client_bytes g methods (b ∷ bs) z)) h.1
          ∙ ap (λ y. settled basis (with_client_bytes g methods (y ++ b ∷ bs) r4)) (sym (nothing-in e.c h.0)),
    )
more-c basis g methods e r4 a b bs (inr h) none reads =
    inr (
      some-in-append e.c b bs,
      h.1,
      ap (λ z. settled basis (with_client_bytes g methods (b ∷ bs) z)) a-is ∙ ap (settled basis) (bytes-twice g methods e.c (b ∷ bs) r4),
    )
  where
    a-is : a ≡ with_client_bytes g methods e.c r4
    a-is = h.2 ∙ settled-none basis (with_client_bytes g methods e.c r4) (sym (ap (λ z. z.cause) h.2) ∙ none)

-- so many more bytes of the client, in any phase that reads it
pub takes-c : (basis : Basis) (g : ℕ) (methods : List Method) (e : Takings) (old a : Record) (b : ℕ) (bs : List ℕ)
    → Takes basis g methods e old a → e.end_c ≡ false → a.cause ≡ None → reads_client basis e.idle e.full a (phase basis a) ≡ true
    → Takes basis g methods (record e { c = e.c ++ b ∷ bs }) old (settled basis (with_client_bytes g methods (b ∷ bs) a))
takes-c basis g methods e old a b bs h open_c none reads = record {
  r1 = h.r1;
  r2 = h.r2;
  r3 = h.r3;
  r4 = h.r4;
  r5 = settled basis (with_client_bytes g methods (b ∷ bs) a);
  bytes_t = h.bytes_t;
  ends_t = h.ends_t;
  grams = h.grams;
  came = h.came;
  bytes_c = more-c basis g methods e h.r4 a b bs
      (subst (λ (z : Record). Took basis (some_in e.c) (reads_client basis e.idle e.full) (with_client_bytes g methods e.c) h.r4 z)
      (sym (untook basis e.end_c (reads_client basis e.idle e.full) (λ r. record r { end_c = true }) h.r5 a open_c h.ends_c)) h.bytes_c) none reads;
  ends_c = inl (open_c, refl);
}

-- the client's end, in any phase that reads it
pub takes-end-c : (basis : Basis) (g : ℕ) (methods : List Method) (e : Takings) (old a : Record)
    → Takes basis g methods e old a → e.end_c ≡ false → reads_client basis e.idle e.full a (phase basis a) ≡ true
    → Takes basis g methods (record e { end_c = true }) old (settled basis (record a { end_c = true }))
takes-end-c basis g methods e old a h open_c reads = record {
  r1 = h.r1;
  r2 = h.r2;
  r3 = h.r3;
  r4 = h.r4;
  r5 = a;
  bytes_t = h.bytes_t;
  ends_t = h.ends_t;
  grams = h.grams;
  came = h.came;
  bytes_c = subst (λ (z : Record). Took basis (some_in e.c) (reads_client basis e.idle e.full) (with_client_bytes g methods e.c) h.r4 z)
      (sym (untook basis e.end_c (reads_client basis e.idle e.full) (λ r. record r { end_c = true }) h.r5 a open_c h.ends_c)) h.bytes_c;
  ends_c = inr (refl, reads, refl);
}

-- ---- NotYet

pub took-too : (basis : Basis) (any : Bool) (reads reads' : Record → Phase → Bool) (change : Record → Record) (r x : Record)
    → ((r : Record) (p : Phase) → reads r p ≡ true → reads' r p ≡ true) → Took basis any reads change r x → Took basis any reads' change r x
took-too basis any reads reads' change r x keeps (inl h) = inl h
took-too basis any reads reads' change r x keeps (inr h) = inr (h.0, keeps r (phase basis r) h.1, h.2)

abbrev pub idles : Takings → Object → Takings
idles e o = record e { idle = o ∷ e.idle }

abbrev pub fills : Takings → Object → Takings
fills e o = record e { full = o ∷ e.full }

or-too : (a b c : Bool) → a || b ≡ true → (c || a) || b ≡ true
or-too a b true h = refl
or-too a b false h = h

or-too-right : (a b c : Bool) → a || b ≡ true → a || (c || b) ≡ true
or-too-right true b c h = refl
or-too-right false b true h = refl
or-too-right false b false h = h

and-too : (a b c : Bool) → a && b ≡ true → (c || a) && b ≡ true
and-too a b false h = h
and-too true b true h = h
and-too false b true h = cc

pub client-idles : (basis : Basis) (e : Takings) (o : Object) (r : Record) (p : Phase) → reads_client basis e.idle e.full r p ≡ true → reads_client basis (o ∷ e.idle) e.full r p ≡ true
client-idles basis e o r Phase.Ended h = h
client-idles basis e o r Phase.Closing h = h
client-idles basis e o r Phase.Accept h = h
client-idles basis e o r Phase.Talk h = h
client-idles basis e o r (Phase.Seek name) h = h
client-idles basis e o r (Phase.Judging q) h = h
client-idles basis e o r (Phase.Reach g) h = h
client-idles basis e o r Phase.Asking h = h
client-idles basis e o r (Phase.Door g) h = and-too (holds Object.Door e.idle) (nat_lt (length (client_payload basis r)) pipe_size) (object_eq Object.Door o) h
client-idles basis e o r Phase.Relay h = h
client-idles basis e o r Phase.Datagrams h = or-too (holds Object.Port e.idle) (holds Object.Port e.full) (object_eq Object.Port o) h

pub client-fills : (basis : Basis) (e : Takings) (o : Object) (r : Record) (p : Phase) → reads_client basis e.idle e.full r p ≡ true → reads_client basis e.idle (o ∷ e.full) r p ≡ true
client-fills basis e o r Phase.Ended h = h
client-fills basis e o r Phase.Closing h = h
client-fills basis e o r Phase.Accept h = h
client-fills basis e o r Phase.Talk h = h
client-fills basis e o r (Phase.Seek name) h = h
client-fills basis e o r (Phase.Judging q) h = h
client-fills basis e o r (Phase.Reach g) h = h
client-fills basis e o r Phase.Asking h = h
client-fills basis e o r (Phase.Door g) h = h
client-fills basis e o r Phase.Relay h = h
client-fills basis e o r Phase.Datagrams h = or-too-right (holds Object.Port e.idle) (holds Object.Port e.full) (object_eq Object.Port o) h

pub takes-idle : (basis : Basis) (g : ℕ) (methods : List Method) (e : Takings) (o : Object) (old a : Record)
    → Takes basis g methods e old a → Takes basis g methods (idles e o) old a
takes-idle basis g methods e o old a h = record {
  r1 = h.r1;
  r2 = h.r2;
  r3 = h.r3;
  r4 = h.r4;
  r5 = h.r5;
  bytes_t = h.bytes_t;
  ends_t = h.ends_t;
  grams = h.grams;
  came = h.came;
  bytes_c = took-too basis (some_in e.c) (reads_client basis e.idle e.full) (reads_client basis (o ∷ e.idle) e.full) (with_client_bytes g methods e.c) h.r4 h.r5 (client-idles basis e o) h.bytes_c;
  ends_c = took-too basis e.end_c (reads_client basis e.idle e.full) (reads_client basis (o ∷ e.idle) e.full) (λ r. record r { end_c = true }) h.r5 a (client-idles basis e o) h.ends_c;
}

pub takes-full : (basis : Basis) (g : ℕ) (methods : List Method) (e : Takings) (o : Object) (old a : Record)
    → Takes basis g methods e old a → Takes basis g methods (fills e o) old a
takes-full basis g methods e o old a h = record {
  r1 = h.r1;
  r2 = h.r2;
  r3 = h.r3;
  r4 = h.r4;
  r5 = h.r5;
  bytes_t = h.bytes_t;
  ends_t = h.ends_t;
  grams = h.grams;
  came = h.came;
  bytes_c = took-too basis (some_in e.c) (reads_client basis e.idle e.full) (reads_client basis e.idle (o ∷ e.full)) (with_client_bytes g methods e.c) h.r4 h.r5 (client-fills basis e o) h.bytes_c;
  ends_c = took-too basis e.end_c (reads_client basis e.idle e.full) (reads_client basis e.idle (o ∷ e.full)) (λ r. record r { end_c = true }) h.r5 a (client-fills basis e o) h.ends_c;
}

-- ---- the target's bytes, while the client is not read

some-same : {A : Type 0} (x y : A) → Some x ≡ Some y → x ≡ y
some-same x y h = ap (λ o. elim o [ Some z ↦ z | None ↦ x ]) h

pub met-none : (basis : Basis) (came : Option Endpoint) (r x : Record) → came ≡ None → meet basis came r ≡ Some x → x ≡ r
met-none basis came r x none h = sym (some-same r x (sym (ap (λ o. meet basis o r) none) ∙ h))

more-t : (basis : Basis) (t : List ℕ) (old a : Record) (b : ℕ) (bs : List ℕ)
    → Took basis (some_in t) reads_target (λ r. record r { t = r.t ++ t }) old a
    → a.cause ≡ None → reads_target a (phase basis a) ≡ true
    → Took basis (some_in (t ++ b ∷ bs)) reads_target (λ r. record r { t = r.t ++ (t ++ b ∷ bs) }) old (settled basis (record a { t = a.t ++ b ∷ bs }))
more-t basis t old a b bs (inl h) none reads =
    inr (
      some-in-append t b bs,
      subst (λ (z : Record). reads_target z (phase basis z) ≡ true) h.1 reads,
      ap (λ (z : Record). let y : Record = record z { t = z.t ++ b ∷ bs } in settled basis y) h.1
          ∙ ap (λ (x : List ℕ). let y : Record = record old { t = old.t ++ (x ++ b ∷ bs) } in settled basis y) (sym (nothing-in t h.0)),
    )
more-t basis t old a b bs (inr h) none reads =
    inr (
      some-in-append t b bs,
      h.1,
      ap (λ (z : Record). let y : Record = record z { t = z.t ++ b ∷ bs } in settled basis y) a-is
          ∙ ap (λ (x : List ℕ). let y : Record = record old { t = x } in settled basis y) (append_assoc old.t t (b ∷ bs)),
    )
  where
    a-is : a ≡ record old { t = old.t ++ t }
    a-is = h.2 ∙ settled-none basis (record old { t = old.t ++ t }) (sym (ap (λ z. z.cause) h.2) ∙ none)

pub takes-t : (basis : Basis) (g : ℕ) (methods : List Method) (e : Takings) (old a : Record) (b : ℕ) (bs : List ℕ)
    → Takes basis g methods e old a → e.end_t ≡ false → some_in e.grams ≡ false → e.came ≡ None → some_in e.c ≡ false → e.end_c ≡ false
    → a.cause ≡ None → reads_target a (phase basis a) ≡ true
    → Takes basis g methods (record e { t = e.t ++ b ∷ bs }) old (settled basis (record a { t = a.t ++ b ∷ bs }))
takes-t basis g methods e old a b bs h open_t no_grams no_came no_c open_c none reads = record {
  r1 = x;
  r2 = x;
  r3 = x;
  r4 = x;
  r5 = x;
  bytes_t = more-t basis e.t old a b bs (subst (λ (z : Record). Took basis (some_in e.t) reads_target (λ r. record r { t = r.t ++ e.t }) old z) (sym a-is) h.bytes_t) none reads;
  ends_t = inl (open_t, refl);
  grams = inl (no_grams, refl);
  came = ap (λ o. meet basis o x) no_came;
  bytes_c = inl (no_c, refl);
  ends_c = inl (open_c, refl);
}
  where
    x : Record
    x = settled basis (record a { t = a.t ++ b ∷ bs })

    a-is : a ≡ h.r1
    a-is =
        untook basis e.end_c (reads_client basis e.idle e.full) (λ r. record r { end_c = true }) h.r5 a open_c h.ends_c
        ∙ (untook basis (some_in e.c) (reads_client basis e.idle e.full) (with_client_bytes g methods e.c) h.r4 h.r5 no_c h.bytes_c
        ∙ (met-none basis e.came h.r3 h.r4 no_came h.came
        ∙ (untook basis (some_in e.grams) (λ r p. reads_port basis e.grams e.sent_u r p && list_all (of_generation g) e.grams) (λ r. record r { grams = r.grams ++ e.grams }) h.r2 h.r3 no_grams h.grams
        ∙ untook basis e.end_t reads_target (λ r. record r { end_t = true }) h.r1 h.r2 open_t h.ends_t)))
