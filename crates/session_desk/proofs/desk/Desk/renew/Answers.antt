use Rattle.std.proofs.Common.{List, sym, ◌∙◌, ap}
use Rattle.session_desk.specs.declared.entry.LiveAssociation.{LiveAssociation}
use Rattle.session_desk.specs.Books.{Book}
use Rattle.session_desk.proofs.Places.{with_grant-place, renewed-none}
use Rattle.session_desk.proofs.desk.Desk.renew.Goals as goal

pub returns-in-None : goal.returns-in-None
returns-in-None c =
    let same = renewed-none c.args.number c.args.live c.args.self.now.entries (sym c.place_of.ensures.value ∙ c.in-None.is) in
    ap (λ (es : List LiveAssociation). let b : Book = record c.args.self.now { entries = es } in b) (sym same)

pub returns-in-Some : goal.returns-in-Some
returns-in-Some c =
    let seen : Book = record { cap = c.self.inside.cap; entries = c.self.inside.entries.items; lines = c.self.inside.lines; stopped = c.self.inside.stopped } in
    with_grant-place seen c.args.self.now c.args.number c.args.live c.in-Some.place c.self.view_is (sym c.place_of.ensures.value ∙ c.in-Some.is)
