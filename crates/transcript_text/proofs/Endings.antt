-- The lines of turns and of ends in pieces are those of the transcript.
use Rattle.std.proofs.Common.{ℕ, Bool, false, if◌then◌else◌, Option, Some, None, List, [], ◌∷◌, ◌++◌, ◌≡◌, ◌∙◌, length, sym, ap, subst, refl, append_assoc, append-nil, arith, codes, Result, OnOk, Ok, Err, ◌&&◌, is_some, flat_map}
use Rattle.socks_machine.specs.declared.cause.Cause.{Cause}
use Rattle.socks_machine.specs.declared.record.Gram.{Gram}
use Rattle.socks_machine.specs.declared.record.Record.{Record}
use Rattle.socks_machine.specs.declared.world.NextMark.{NextMark}
use Rattle.socks_machine.specs.declared.world.TurnEvent.{TurnEvent}
use Rattle.addr_pattern.specs.AddressText.{number_text}
use Rattle.socks_machine.specs.Decisions.{reached_at}
use Rattle.socks_machine.specs.Transcript.{line, end_of, end_text, last_cause, next_text, turn_line, ends_of, drops_line, datagram_line, count_text, drop_words, bytes_text}
use Rattle.socks_machine.specs.Basis.{Basis}
use Rattle.socks_machine.specs.Phase.{is_udp}
use Rattle.transcript_text.specs.Pieces.{digits, blanked}
use Rattle.transcript_text.specs.Endings.{cause_word, cause_or_open, end_word, next_word, turn_counts, line_of, bytes_word, end_lines}
use Rattle.transcript_text.proofs.CauseTexts.{words-blanked}

or_open-end : (c : Option Cause) → cause_or_open c ≡ end_of c
unfolding cause_word
or_open-end None = refl
or_open-end (Some c) = refl

end_word-text : (r : Record) → end_word r ≡ end_text r
unfolding end_word
end_word-text r = ap (λ (z : List ℕ). if r.done then z else codes "open") (or_open-end (last_cause r.at_close r.cause))

next_word-text : (r : Record) (next : NextMark) → next_word r next ≡ next_text r next
next_word-text r NextMark.Going = refl
next_word-text r NextMark.Wait = refl
next_word-text r NextMark.Again = refl
next_word-text r NextMark.Done = ap (λ (z : List ℕ). codes "done" ++ (32 ∷ z)) (end_word-text r)

line_of-line : (w : List ℕ) (ws : List (List ℕ)) → line_of w ws ≡ line (w ∷ ws)
line_of-line w ws = sym (append_assoc w (blanked ws) (10 ∷ [])) ∙ ap (λ (z : List ℕ). z ++ 10 ∷ []) (sym (words-blanked w ws))

same_counts : (g : ℕ) {a a' b b' c c' d d' e e' f f' : ℕ} {x x' : List ℕ} → a ≡ a' → b ≡ b' → c ≡ c' → d ≡ d' → e ≡ e' → f ≡ f' → x ≡ x' → turn_counts a b g c d e f x ≡ turn_counts a' b' g c' d' e' f' x'
same_counts g h1 h2 h3 h4 h5 h6 h7 = cc

-- the words of a turn on an association of TCP, or on one of UDP
abbrev counted_words : Bool → ℕ → TurnEvent → List ℕ → List (List ℕ)
counted_words udp generation ev next =
    codes "turn" ∷ number_text ev.worker ∷ number_text ev.number ∷ codes "gen" ∷ number_text generation
    ∷ codes "took" ∷ number_text (length ev.c) ∷ count_text udp (length ev.grams) (length ev.t)
    ∷ codes "sent" ∷ number_text ev.sent_c ∷ count_text udp ev.sent_u ev.sent_t ∷ next ∷ []

counts-words : (g : ℕ) (ev : TurnEvent) (next : List ℕ) → codes "turn" ∷ turn_counts ev.worker ev.number g (length ev.c) (length ev.t) ev.sent_c ev.sent_t next ≡ counted_words false g ev next
unfolding digits
counts-words g ev next = refl

turn_of_tcp : (g : ℕ) (ev : TurnEvent) (r : Record) → is_udp r ≡ false
    → line_of (codes "turn") (turn_counts ev.worker ev.number g (length ev.c) (length ev.t) ev.sent_c ev.sent_t (next_word r ev.next)) ≡ turn_line g ev (Some r)
turn_of_tcp g ev r tcp =
    line_of-line (codes "turn") (turn_counts ev.worker ev.number g (length ev.c) (length ev.t) ev.sent_c ev.sent_t (next_word r ev.next))
    ∙ (ap line (counts-words g ev (next_word r ev.next))
    ∙ (ap (λ (b : Bool). line (counted_words b g ev (next_word r ev.next))) (sym tcp)
    ∙ ap (λ (z : List ℕ). line (counted_words (is_udp r) g ev z)) (next_word-text r ev.next)))

turn_text : (old new : List ℕ) (worker g took_c took_t sent_c sent_t : ℕ) (next : NextMark) (r : Record) (ev : TurnEvent)
    → new ≡ old ++ line_of (codes "turn") (turn_counts worker r.number g took_c took_t sent_c sent_t (next_word r next))
    → ev.worker ≡ worker → ev.number ≡ r.number → length ev.c ≡ took_c → length ev.t ≡ took_t → ev.sent_c ≡ sent_c → ev.sent_t ≡ sent_t → ev.next ≡ next → is_udp r ≡ false
    → new ≡ old ++ turn_line g ev (Some r)
turn_text old new worker g took_c took_t sent_c sent_t next r ev h e1 e2 e3 e4 e5 e6 e7 tcp =
    h ∙ (ap (λ (ws : List (List ℕ)). old ++ line_of (codes "turn") ws) (same_counts g (sym e1) (sym e2) (sym e3) (sym e4) (sym e5) (sym e6) (ap (next_word r) (sym e7)))
    ∙ ap (λ (z : List ℕ). old ++ z) (turn_of_tcp g ev r tcp))

side-line : (side : List ℕ) (n : ℕ) (bytes : List ℕ) → line_of side (digits n ∷ bytes_word bytes ∷ []) ≡ line (side ∷ number_text n ∷ bytes_text bytes ∷ [])
unfolding digits bytes_word
side-line side n bytes = line_of-line side (number_text n ∷ bytes_text bytes ∷ [])

end-line : (r : Record) → line_of (codes "end") (digits r.number ∷ end_word r ∷ []) ≡ line (codes "end" ∷ number_text r.number ∷ end_text r ∷ [])
unfolding digits
end-line r = line_of-line (codes "end") (digits r.number ∷ end_word r ∷ []) ∙ ap (λ (z : List ℕ). line (codes "end" ∷ number_text r.number ∷ z ∷ [])) (end_word-text r)

no_drops : (basis : Basis) (r : Record) → is_udp r ≡ false → drops_line basis r ≡ []
no_drops basis r tcp = ap (λ (b : Bool). if b && is_some (reached_at r.decisions) then line (codes "drops" ∷ number_text r.number ∷ drop_words basis r) else []) tcp

five_parts : (a a' b b' f d c c' : List ℕ) → a ≡ a' → b ≡ b' → f ≡ [] → d ≡ [] → c ≡ c' → a ++ (b ++ c) ≡ a' ++ b' ++ f ++ d ++ c'
five_parts a a' b b' f d c c' ha hb hf hd hc = grind (arith, append_assoc, append-nil)

ends_text : (basis : Basis) (r : Record) → is_udp r ≡ false → r.sent_u ≡ [] → end_lines r ≡ ends_of basis r
ends_text basis r tcp none =
    five_parts _ _ _ _ (flat_map (datagram_line r.number) r.sent_u) (drops_line basis r) _ _
    (side-line (codes "client") r.number r.sent_c) (side-line (codes "target") r.number r.sent_t)
    (ap (λ (ds : List Gram). flat_map (datagram_line r.number) ds) none) (no_drops basis r tcp) (end-line r)

pub adds_turn : {T E : Type 0} (result : Result T E) (old new : List ℕ) (worker g took_c took_t sent_c sent_t : ℕ) (next : NextMark) (r : Record)
    → OnOk result (new ≡ old ++ line_of (codes "turn") (turn_counts worker r.number g took_c took_t sent_c sent_t (next_word r next)))
    → OnOk result ((ev : TurnEvent) → ev.worker ≡ worker → ev.number ≡ r.number → length ev.c ≡ took_c → length ev.t ≡ took_t → ev.sent_c ≡ sent_c → ev.sent_t ≡ sent_t
    → ev.next ≡ next → is_udp r ≡ false → new ≡ old ++ turn_line g ev (Some r))
adds_turn (Ok x) old new worker g took_c took_t sent_c sent_t next r h = λ ev. turn_text old new worker g took_c took_t sent_c sent_t next r ev h
adds_turn (Err e) old new worker g took_c took_t sent_c sent_t next r h = h

pub adds_ends : {T E : Type 0} (result : Result T E) (old new : List ℕ) (r : Record)
    → OnOk result (new ≡ old ++ end_lines r)
    → OnOk result ((basis : Basis) → is_udp r ≡ false → r.sent_u ≡ [] → new ≡ old ++ ends_of basis r)
adds_ends (Ok x) old new r h = λ basis tcp none. h ∙ ap (λ (z : List ℕ). old ++ z) (ends_text basis r tcp none)
adds_ends (Err e) old new r h = h

pub adds_end : {T E : Type 0} (result : Result T E) (old new : List ℕ) (r : Record) → OnOk result (new ≡ old ++ end_word r) → OnOk result (new ≡ old ++ end_text r)
adds_end result old new r h = subst (λ (z : List ℕ). OnOk result (new ≡ old ++ z)) (end_word-text r) h
