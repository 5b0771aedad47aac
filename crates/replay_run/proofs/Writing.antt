-- The line of a turn, and whether nothing came of it, from the totals before and behind it.
use Rattle.std.proofs.Common.{ℕ, ◌≡◌, ◌+◌, ◌-◌, ◌∙◌, sym, ap, subst, refl, Bool, true, false, ◌&&◌, ◌==◌, List, [], ◌∷◌, ◌++◌, length, arith}
use Rattle.net_ends.specs.InMemory.{LinkInMemory}
use Rattle.socks_machine.specs.declared.record.Record.{Record}
use Rattle.socks_machine.specs.declared.record.Gram.{Gram}
use Rattle.socks_machine.specs.declared.world.NextMark.{NextMark}
use Rattle.socks_machine.specs.declared.world.TurnEvent.{TurnEvent}
use Rattle.socks_machine.specs.Equal.{mark_eq}
use Rattle.socks_machine.specs.Phase.{is_udp}
use Rattle.socks_machine.specs.Script.{is_still}
use Rattle.socks_machine.specs.Taking.{some_in}
use Rattle.std.specs.Prelude.{not}
use Rattle.std.proofs.Math.Dec.{eqb-suc-zero}
use Rattle.assoc_core.specs.declared.assoc.Next.{Next}
use Rattle.replay_run.specs.declared.totals.Totals.{Totals}
use Rattle.replay_run.specs.Shown.{turn_shown}
use Rattle.replay_run.specs.Taken.{WritesTurn, left_record, mark_of_next}
use Rattle.replay_run.specs.Totals.{totals_of}

-- the part that came since
pub record Since (made all before : Totals) : Type 0 where
  pub took_c : made.took_c ≡ all.took_c - before.took_c
  pub took_t : made.took_t ≡ all.took_t - before.took_t
  pub sent_c : made.sent_c ≡ all.sent_c - before.sent_c
  pub sent_t : made.sent_t ≡ all.sent_t - before.sent_t

part : (now before made n : ℕ) → made ≡ now - before → now ≡ before + n → n ≡ made
part now before made n h k = omega (arith, h, k)

nothing-taken : {A : Type 0} (xs : List A) → not (some_in xs) ≡ (length xs == 0)
nothing-taken [] = refl
nothing-taken (x ∷ xs) = sym (eqb-suc-zero (length xs))

regrouped : (m a b c d : Bool) → ((((((m && a) && b) && true) && c) && d) && true) ≡ (m && (((a && b) && c) && d))
regrouped false a b c d = refl
regrouped true false b c d = refl
regrouped true true false c d = refl
regrouped true true true false d = refl
regrouped true true true true false = refl
regrouped true true true true true = refl

-- the tests of a still turn, for an event of no datagrams
still-as : (ev : TurnEvent) → ev.grams ≡ [] → ev.sent_u ≡ 0
    → is_still ev ≡ (mark_eq ev.next NextMark.Wait && ((((length ev.c == 0) && (length ev.t == 0)) && (ev.sent_c == 0)) && (ev.sent_t == 0)))
still-as ev grams sent_u =
    ap (λ (z : List Gram). ((((((mark_eq ev.next NextMark.Wait && not (some_in ev.c)) && not (some_in ev.t)) && not (some_in z)) && (ev.sent_c == 0)) && (ev.sent_t == 0)) && (ev.sent_u == 0))) grams
    ∙ (ap (λ (n : ℕ). ((((((mark_eq ev.next NextMark.Wait && not (some_in ev.c)) && not (some_in ev.t)) && true) && (ev.sent_c == 0)) && (ev.sent_t == 0)) && (n == 0))) sent_u
    ∙ (regrouped (mark_eq ev.next NextMark.Wait) (not (some_in ev.c)) (not (some_in ev.t)) (ev.sent_c == 0) (ev.sent_t == 0)
    ∙ (ap (λ b. mark_eq ev.next NextMark.Wait && (((b && not (some_in ev.t)) && (ev.sent_c == 0)) && (ev.sent_t == 0))) (nothing-taken ev.c)
    ∙ ap (λ b. mark_eq ev.next NextMark.Wait && ((((length ev.c == 0) && b) && (ev.sent_c == 0)) && (ev.sent_t == 0))) (nothing-taken ev.t))))

pub writes : (generation : ℕ) (before made all : Totals) (next : Next LinkInMemory) (left : Record) (old new : List ℕ) (mark : NextMark) (still : Bool)
    → left ≡ left_record next → all ≡ totals_of left → Since made all before → mark ≡ mark_of_next next
    → still ≡ (mark_eq mark NextMark.Wait && ((((made.took_c == 0) && (made.took_t == 0)) && (made.sent_c == 0)) && (made.sent_t == 0)))
    → ((ev : TurnEvent) → ev.worker ≡ 1 → ev.number ≡ left.number → length ev.c ≡ made.took_c → length ev.t ≡ made.took_t
    → ev.sent_c ≡ made.sent_c → ev.sent_t ≡ made.sent_t → ev.next ≡ mark → is_udp left ≡ false → new ≡ old ++ turn_shown generation ev left)
    → WritesTurn generation before next old new still
writes generation before made all next left old new mark still is totals since marked stills shown = record {
  written = λ ev w n x udp c t sc st. subst (λ (r : Record). new ≡ old ++ turn_shown generation ev r) is
      (shown ev w (n ∙ sym (ap (λ (r : Record). r.number) is)) (took_c ev c) (took_t ev t) (put_c ev sc) (put_t ev st) (x ∙ sym marked)
      (ap is_udp is ∙ udp));
  still' = λ ev x grams sent_u c t sc st. stills
      ∙ (ap (λ (m : NextMark). mark_eq m NextMark.Wait && ((((made.took_c == 0) && (made.took_t == 0)) && (made.sent_c == 0)) && (made.sent_t == 0))) (marked ∙ sym x)
      ∙ (ap (λ (n : ℕ). mark_eq ev.next NextMark.Wait && ((((n == 0) && (made.took_t == 0)) && (made.sent_c == 0)) && (made.sent_t == 0))) (sym (took_c ev c))
      ∙ (ap (λ (n : ℕ). mark_eq ev.next NextMark.Wait && ((((length ev.c == 0) && (n == 0)) && (made.sent_c == 0)) && (made.sent_t == 0))) (sym (took_t ev t))
      ∙ (ap (λ (n : ℕ). mark_eq ev.next NextMark.Wait && ((((length ev.c == 0) && (length ev.t == 0)) && (n == 0)) && (made.sent_t == 0))) (sym (put_c ev sc))
      ∙ (ap (λ (n : ℕ). mark_eq ev.next NextMark.Wait && ((((length ev.c == 0) && (length ev.t == 0)) && (ev.sent_c == 0)) && (n == 0))) (sym (put_t ev st))
      ∙ sym (still-as ev grams sent_u))))));
}
  where
    behind : all ≡ totals_of (left_record next)
    behind = totals ∙ ap totals_of is

    took_c : (ev : TurnEvent) → length (left_record next).c ≡ before.took_c + length ev.c → length ev.c ≡ made.took_c
    took_c ev h = part all.took_c before.took_c made.took_c (length ev.c) since.took_c (ap (λ (z : Totals). z.took_c) behind ∙ h)

    took_t : (ev : TurnEvent) → length (left_record next).t ≡ before.took_t + length ev.t → length ev.t ≡ made.took_t
    took_t ev h = part all.took_t before.took_t made.took_t (length ev.t) since.took_t (ap (λ (z : Totals). z.took_t) behind ∙ h)

    put_c : (ev : TurnEvent) → length (left_record next).sent_c ≡ before.sent_c + ev.sent_c → ev.sent_c ≡ made.sent_c
    put_c ev h = part all.sent_c before.sent_c made.sent_c ev.sent_c since.sent_c (ap (λ (z : Totals). z.sent_c) behind ∙ h)

    put_t : (ev : TurnEvent) → length (left_record next).sent_t ≡ before.sent_t + ev.sent_t → ev.sent_t ≡ made.sent_t
    put_t ev h = part all.sent_t before.sent_t made.sent_t ev.sent_t since.sent_t (ap (λ (z : Totals). z.sent_t) behind ∙ h)
