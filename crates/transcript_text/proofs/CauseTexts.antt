-- The text of a cause is its name and what stands behind it.
use Rattle.std.proofs.Common.{ℕ, Some, None, List, [], ◌∷◌, ◌++◌, ◌≡◌, ◌∙◌, sym, ap, subst, refl, append-nil, Result, OnOk}
use Rattle.rule_list.specs.declared.verdict.Verdict.{Verdict}
use Rattle.socks_machine.specs.declared.cause.Cause.{Cause}
use Rattle.socks_machine.specs.LogText.{words, cause_words, cause_text}
use Rattle.transcript_text.specs.Pieces.{digits, hex_pair, blanked}
use Rattle.transcript_text.specs.Causes.{cause_name, details}

pub words-blanked : (w : List ℕ) (ws : List (List ℕ)) → words (w ∷ ws) ≡ w ++ blanked ws
words-blanked w [] = sym (append-nil w)
words-blanked w (x ∷ ws) = ap (λ (z : List ℕ). w ++ (32 ∷ z)) (words-blanked x ws)

details-words : (c : Cause) → cause_name c ∷ details c ≡ cause_words c
unfolding digits hex_pair
details-words Cause.Finished = refl
details-words (Cause.ClientBlocked g None) = refl
details-words (Cause.ClientBlocked g (Some n)) = refl
details-words (Cause.Denied g (Verdict.Pass c s)) = refl
details-words (Cause.Denied g (Verdict.ClientBlock c)) = refl
details-words (Cause.Denied g Verdict.ClientNone) = refl
details-words (Cause.Denied g (Verdict.SocksBlock c s)) = refl
details-words (Cause.Denied g (Verdict.SocksNone c)) = refl
details-words (Cause.Full g list rule held limit) = refl
details-words (Cause.Crowded live cap) = refl
details-words (Cause.OutOfTurn s) = refl
details-words (Cause.BadVersion at byte) = refl
details-words (Cause.BadRequest at byte) = refl
details-words (Cause.CommandUnsupported at byte) = refl
details-words (Cause.AtypUnsupported at byte) = refl
details-words Cause.NoMethod = refl
details-words Cause.LoginFailed = refl
details-words (Cause.ClientGone at) = refl
details-words Cause.NotFound = refl
details-words Cause.Refused = refl
details-words Cause.HostUnreachable = refl
details-words Cause.NetUnreachable = refl
details-words (Cause.Upstream stage code) = refl
details-words (Cause.UpstreamBad at None) = refl
details-words (Cause.UpstreamBad at (Some byte)) = refl
details-words Cause.NetFault = refl
details-words Cause.ClientFault = refl
details-words Cause.TargetFault = refl
details-words Cause.DoorFault = refl
details-words Cause.PortFault = refl
details-words Cause.LogFault = refl
details-words (Cause.WrongPeer peer asked) = refl
details-words (Cause.TimedOut since now limit) = refl
details-words (Cause.Stopped by) = refl
details-words Cause.Memory = refl

named-text : (c : Cause) → cause_name c ++ blanked (details c) ≡ cause_text c
named-text c = sym (words-blanked (cause_name c) (details c)) ∙ ap words (details-words c)

pub adds_cause : {T E : Type 0} (result : Result T E) (old new : List ℕ) (c : Cause) → OnOk result (new ≡ old ++ (cause_name c ++ blanked (details c))) → OnOk result (new ≡ old ++ cause_text c)
adds_cause result old new c h = subst (λ (z : List ℕ). OnOk result (new ≡ old ++ z)) (named-text c) h
