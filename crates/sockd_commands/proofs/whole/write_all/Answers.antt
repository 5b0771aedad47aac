use Rattle.std.proofs.Common.{◌≡◌, ◌++◌, ℕ, List, take, drop, ap, ◌∙◌, arith, append_assoc}
use Rattle.std.proofs.lemmas.List.{take-append-drop}
use Rattle.net_ends.specs.Told.{more}
use Rattle.sockd_commands.proofs.Mores.{more_more}
use Rattle.sockd_commands.proofs.whole.write_all.Goals as goal

pub writing-preserved : goal.writing-preserved
writing-preserved g c =
    let was = c.writing.invariant.wrote in
    let done : List ℕ = was.0 in
    let piece : List ℕ = take c.in-Took.n c.writing.rest.now in
    let told : g.K.Sink.told c.write.new.self ≡ more (g.K.Sink.told c.args.out.now) (done ++ piece) =
    c.in-Took.ensures.told ∙ (ap (λ z. more z piece) was.1 ∙ more_more (g.K.Sink.told c.args.out.now) done piece) in
    let whole : (done ++ piece) ++ c.rest_of-rest.result.now ≡ c.args.text.now =
    ap (λ (z : List ℕ). (done ++ piece) ++ z) c.rest_of-rest.ensures
    ∙ (append_assoc done piece (drop c.in-Took.n c.writing.rest.now) ∙ (ap (λ (z : List ℕ). done ++ z) (take-append-drop c.in-Took.n c.writing.rest.now) ∙ was.2)) in
    record {
      wrote = (done ++ piece, told, whole);
      later = (let a = c.writing.invariant.later in let b = c.in-Took.ensures.later in omega (arith, a, b));
    }
