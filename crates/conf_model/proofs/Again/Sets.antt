-- Sets of words are read again.
use Rattle.std.proofs.Common.{◌≡◌, Bool, true, false, true≢false, ◌||◌, List, [], ◌∷◌, ◌++◌, codes, Some, Ok, refl, sym}
use Rattle.socks_grammar.specs.declared.protocol.Method.{Method}
use Rattle.conf_model.specs.Canonical.{method_words, word_if}
use Rattle.conf_types.specs.Kept.{AreMethods}
use Rattle.conf_model.specs.Values.{commands_of, methods_of, protocols_of, rule_methods_of, versions_of}

pub two_protocols : (a b : Bool) → (a || b) ≡ true → protocols_of (word_if a (codes "tcp") ++ word_if b (codes "udp")) ≡ Some (record { tcp = a; udp = b })
two_protocols true true h = refl
two_protocols true false h = refl
two_protocols false true h = refl
two_protocols false false h = absurd (true≢false (sym h))

pub two_methods : (a b : Bool) → (a || b) ≡ true → rule_methods_of (word_if a (codes "none") ++ word_if b (codes "username")) ≡ Ok (record { noauth = a; username = b })
two_methods true true h = refl
two_methods true false h = refl
two_methods false true h = refl
two_methods false false h = absurd (true≢false (sym h))

pub two_versions : (a b : Bool) → (a || b) ≡ true → versions_of (word_if a (codes "socks_v4") ++ word_if b (codes "socks_v5")) ≡ Some (record { v4 = a; v5 = b })
two_versions true true h = refl
two_versions true false h = refl
two_versions false true h = refl
two_versions false false h = absurd (true≢false (sym h))

pub five_commands : (a b c d e : Bool) → (a || b || c || d || e) ≡ true →
    commands_of (word_if a (codes "connect") ++ (word_if b (codes "bind") ++ (word_if c (codes "udpassociate") ++ (word_if d (codes "bindreply") ++ word_if e (codes "udpreply")))))
    ≡ Some (record { connect = a; bind = b; udpassociate = c; bindreply = d; udpreply = e })
five_commands true true true true true h = refl
five_commands true true true true false h = refl
five_commands true true true false true h = refl
five_commands true true true false false h = refl
five_commands true true false true true h = refl
five_commands true true false true false h = refl
five_commands true true false false true h = refl
five_commands true true false false false h = refl
five_commands true false true true true h = refl
five_commands true false true true false h = refl
five_commands true false true false true h = refl
five_commands true false true false false h = refl
five_commands true false false true true h = refl
five_commands true false false true false h = refl
five_commands true false false false true h = refl
five_commands true false false false false h = refl
five_commands false true true true true h = refl
five_commands false true true true false h = refl
five_commands false true true false true h = refl
five_commands false true true false false h = refl
five_commands false true false true true h = refl
five_commands false true false true false h = refl
five_commands false true false false true h = refl
five_commands false true false false false h = refl
five_commands false false true true true h = refl
five_commands false false true true false h = refl
five_commands false false true false true h = refl
five_commands false false true false false h = refl
five_commands false false false true true h = refl
five_commands false false false true false h = refl
five_commands false false false false true h = refl
five_commands false false false false false h = absurd (true≢false (sym h))

pub methods-again : (methods : List Method) → AreMethods methods → methods_of (method_words methods) ≡ Ok methods
methods-again [] h = absurd h
methods-again (Method.NoAuth ∷ []) h = refl
methods-again (Method.Username ∷ []) h = refl
methods-again (Method.NoAuth ∷ Method.NoAuth ∷ []) h = absurd (h refl)
methods-again (Method.NoAuth ∷ Method.Username ∷ []) h = refl
methods-again (Method.Username ∷ Method.NoAuth ∷ []) h = refl
methods-again (Method.Username ∷ Method.Username ∷ []) h = absurd (h refl)
methods-again (m ∷ n ∷ o ∷ methods) h = absurd h
