use Rattle.std.proofs.Common.{ℕ, List, [], ◌∷◌, ◌++◌, append_assoc, sym, ap, ◌∙◌}
use Rattle.socks_grammar.specs.Grammar.{spelled_addr}
use Rattle.socks5_codec.proofs.write.add_addr.Goals as goal

pub returns-in-V6-clause-added : goal.returns-in-V6-clause-added
returns-in-V6-clause-added c =
    c.add-in-V6-2.ensures ∙ (ap (λ (xs : List ℕ). xs ++ c.to_be_bytes-in-V6.result) c.add-in-V6.ensures
    ∙ (append_assoc c.args.out.now (4 ∷ []) c.to_be_bytes-in-V6.result
    ∙ (ap (λ (xs : List ℕ). c.args.out.now ++ 4 ∷ xs) c.to_be_bytes-in-V6.ensures
    ∙ ap (λ a. c.args.out.now ++ spelled_addr a) (sym c.in-V6.is))))
