use Rattle.std.proofs.Common.{sym, ◌∙◌, refl}
use Rattle.session_desk.proofs.Places.{standing_in-none, standing_in-some}
use Rattle.session_desk.proofs.desk.Desk.standing.Goals as goal

pub returns-in-None : goal.returns-in-None
returns-in-None c =
    rw (standing_in-none c.args.number c.args.self.now.entries (sym c.place_of.ensures.value ∙ c.in-None.is)) refl

pub returns-in-Some : goal.returns-in-Some
returns-in-Some c =
    let found = standing_in-some c.args.number c.args.self.now.entries c.in-Some.place c.index.result.now (sym c.place_of.ensures.value ∙ c.in-Some.is) in
    cc
