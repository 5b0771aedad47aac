-- How one more phase's acts make a longer turn.
use Rattle.std.proofs.Common.{sym, ℕ, suc, ◌+◌, ◌≡◌, refl, Bool, true, false, ◌&&◌, ◌||◌, not, Some, None, List, [], ◌∷◌, ◌++◌, length, ap, ◌∙◌, ◌≤◌, take, drop, le-leb}
use Rattle.socks_machine.specs.declared.record.Record.{Record}
use Rattle.socks_machine.specs.declared.world.TurnEvent.{TurnEvent}
use Rattle.socks_machine.specs.declared.world.Outer.{Outer}
use Rattle.socks_machine.specs.declared.world.NextMark.{NextMark}
use Rattle.socks_machine.specs.Calls.{Context, keep, call, call_grant, is_calling}
use Rattle.socks_machine.specs.Basis.{Basis}
use Rattle.socks_machine.specs.Phase.{Phase, phase, began}
use Rattle.socks_machine.specs.Settle.{settled}
use Rattle.socks_machine.specs.Taking.{◌>>=◌, with_client_bytes, taking, taken, reads_client, reads_target}
use Rattle.socks_machine.specs.Owed.{owed_to_client, owed_to_target}
use Rattle.socks_machine.specs.Turn.{grown, turn, turn_with, proceed, aged, moves, marked, with_record, after_call, without_call, after_none, took_quantum}
use Rattle.socks_machine.specs.Fine.{begun_event}
use Rattle.socks_machine.specs.Laws.{behind_bytes, Talk, RunsOn, reading, Granting, Writing, both, behind_target, relayed, Relaying}
use Rattle.socks_machine.specs.Step.{step}

-- ---- the stages of a turn

pub turn-going : (s : Context) (ev : TurnEvent) (r : Record) → r.done ≡ false → turn s ev r ≡ turn_with s ev r ev.stop
turn-going s ev r going = ap (λ d. elim d [ true ↦ None | false ↦ turn_with s ev r ev.stop ]) going

pub taking-read : (basis : Basis) (reads : Record → Phase → Bool) (change : Record → Record) (r : Record) (p : Phase)
    → phase basis r ≡ p → reads r p ≡ true → taking basis true reads change r ≡ Some (settled basis (change r))
taking-read basis reads change r p at may =
    ap (λ b. elim b [ true ↦ Some (settled basis (change r)) | false ↦ None ]) (ap (λ q. reads r q) at ∙ may)

-- nothing moves the moment before the relay or the datagrams begin
pub aged-fresh : (basis : Basis) (ev : TurnEvent) (old r : Record) → began basis r ≡ false → aged basis ev old r ≡ r
aged-fresh basis ev old r fresh = λ i. record r { since = stands i }
  where
    stands : elim (began basis r && (not (began basis old) || moves ev)) [ true ↦ ev.now | false ↦ r.since ] ≡ r.since
    stands = ap (λ b. elim (b && (not (began basis old) || moves ev)) [ true ↦ ev.now | false ↦ r.since ]) fresh

-- In Talk a turn may take any bytes of the client.
pub talk : Talk
talk s r worker number now b bytes talks fresh =
    ap (λ o. o >>= λ r5. proceed s ev r r5) taken-talk
    ∙ ap (λ x. Some (marked NextMark.Going (keep s x))) (aged-fresh s.basis ev r (behind_bytes s (b ∷ bytes) r) fresh)
  where
    ev : TurnEvent
    ev = record (begun_event worker number now None) { c = b ∷ bytes }

    taken-talk : taken s.basis s.generation (s.config).methods ev r ≡ Some (behind_bytes s (b ∷ bytes) r)
    taken-talk = ap (λ o. o >>= λ r5. Some r5)
        (taking-read s.basis (reads_client s.basis ev.idle ev.full) (with_client_bytes s.generation (s.config).methods (b ∷ bytes)) r Phase.Talk talks refl)

pub runs-on : RunsOn
runs-on w [] fs = refl
runs-on w (e ∷ es) fs = runs-on (w >>= λ x. step x e) es fs

pub granting : Granting
granting s old r worker number now x q logged read judging fresh =
    ap (λ o. o >>= λ r1. proceed s ev old r1) read
    ∙ ap (λ p. elim (is_calling p ev.came) [
      | true ↦ (call s r (phase s.basis r) ev.came ev.outer >>= after_call s ev old)
      | false ↦ without_call s ev old r
    ]) judging
    ∙ ap (λ p. call s r p ev.came ev.outer >>= after_call s ev old) judging
    ∙ ap (λ r2. Some (marked NextMark.Going (with_record (call_grant s r q logged) r2)))
    (aged-fresh s.basis ev old (call_grant s r q logged).left fresh)
  where
    ev : TurnEvent
    ev = record (reading worker number now x) { outer = Outer.Desk logged }

-- so many more are written, where they are owed
pub grown-fits : {A : Type 0} (n : ℕ) (sent owed : List A) → length sent + suc n ≤ length owed
    → grown (suc n) sent owed ≡ Some (sent ++ take (suc n) (drop (length sent) owed))
grown-fits n sent owed fits =
    ap (λ b. elim b [ true ↦ Some (sent ++ take (suc n) (drop (length sent) owed)) | false ↦ None ]) (le-leb (length sent + suc n) (length owed) fits)

pub writing : Writing
writing s old r worker number now n x read uncalling fits =
    ap (λ o. o >>= λ r1. proceed s ev old r1) read
    ∙ ap (λ b. elim (not b || took_quantum ev) [ true ↦ after_none s ev old r | false ↦ None ]) uncalling
    ∙ ap (λ o. ((o >>= λ c. Some (record r { sent_c = c })) >>= λ r2. Some (aged s.basis ev old r2)) >>= λ r3. Some (marked NextMark.Going (keep s r3)))
    (grown-fits n r.sent_c (owed_to_client s.basis r) fits)
  where
    ev : TurnEvent
    ev = record (reading worker number now x) { sent_c = suc n }

pub relaying : Relaying
relaying s old r worker number now n m b d c t relays open_t relays_on open_c is uncalling fits_c fits_t =
    ap (λ o. o >>= λ x. proceed s ev old x) (taken-both ∙ ap Some (sym is))
    ∙ ap (λ b. elim (not b || took_quantum ev) [ true ↦ after_none s ev old r | false ↦ None ]) uncalling
    ∙ ap (λ o. ((o >>= λ x. grown (suc m) r.sent_t (owed_to_target s.basis r) >>= λ y. Some (record r { sent_c = x; sent_t = y }))
    >>= λ r2. Some (aged s.basis ev old r2)) >>= λ r3. Some (marked NextMark.Going (keep s r3)))
    (grown-fits n r.sent_c (owed_to_client s.basis r) fits_c)
    ∙ ap (λ o. ((o >>= λ y. Some (record r { sent_c = sent_c'; sent_t = y })) >>= λ r2. Some (aged s.basis ev old r2)) >>= λ r3. Some (marked NextMark.Going (keep s r3)))
    (grown-fits m r.sent_t (owed_to_target s.basis r) fits_t)
  where
    ev : TurnEvent
    ev = both worker number now (b ∷ c) (d ∷ t) (suc n) (suc m)

    sent_c' : List ℕ
    sent_c' = r.sent_c ++ take (suc n) (drop (length r.sent_c) (owed_to_client s.basis r))

    taken-both : taken s.basis s.generation (s.config).methods ev old ≡ Some (relayed s old (b ∷ c) (d ∷ t))
    taken-both =
        ap (λ o. o >>= λ r1. taking s.basis true (reads_client s.basis ev.idle ev.full) (with_client_bytes s.generation (s.config).methods (b ∷ c)) r1 >>= λ r5. Some r5)
        (taking-read s.basis reads_target (λ r0. record r0 { t = r0.t ++ d ∷ t }) old Phase.Relay relays (ap not open_t))
        ∙ ap (λ o. o >>= λ r5. Some r5)
        (taking-read s.basis (reads_client s.basis ev.idle ev.full) (with_client_bytes s.generation (s.config).methods (b ∷ c)) (behind_target s (d ∷ t) old) Phase.Relay relays_on (ap not open_c))
