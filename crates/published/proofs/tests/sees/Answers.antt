use Rattle.std.proofs.Common.{◌∙◌, All, subst, sym}
use Rattle.published.specs.declared.reader.Reader.{Reader}
use Rattle.published.specs.declared.told.Told.{Told}
use Rattle.published.specs.Ends.{IsNew, TellsLast, name_of, published_by}
use Rattle.published.proofs.Each.{of_last, of_others}
use Rattle.published.proofs.tests.sees.Goals as goal

pub learn-requires : goal.learn-requires
learn-requires g c =
    let IsMade : Reader → Type 0 = IsNew (name_of c.args.publisher.now) c.requires.0 in
    let Tells : Told → Type 0 = TellsLast (name_of c.publish.new.self) (published_by c.publish.new.self) c.args.config in
    let two = of_last IsMade _ _ _ c.in_ok-two.ensures.items (subst (All IsMade) (sym c.into_vec-readers.ensures) c.requires.1) in
    let told = of_last Tells _ _ _ c.in_ok-told_two.ensures.items (subst (All Tells) (sym c.into_vec-tolds.ensures) c.in-Ok.ensures.each) in
    told.publisher' ∙ c.publish.ensures.kept.0 ∙ sym two.publisher' ∙ sym c.see-2.ensures.publisher

pub learn-requires-2 : goal.learn-requires-2
learn-requires-2 g c =
    let IsMade : Reader → Type 0 = IsNew (name_of c.args.publisher.now) c.requires.0 in
    let Tells : Told → Type 0 = TellsLast (name_of c.publish.new.self) (published_by c.publish.new.self) c.args.config in
    let readers = of_others IsMade _ _ _ c.in_ok-two.ensures.items (subst (All IsMade) (sym c.into_vec-readers.ensures) c.requires.1) in
    let tolds = of_others Tells _ _ _ c.in_ok-told_two.ensures.items (subst (All Tells) (sym c.into_vec-tolds.ensures) c.in-Ok.ensures.each) in
    let one = of_last IsMade _ _ _ c.in_ok-one.ensures.items readers in
    let told = of_last Tells _ _ _ c.in_ok-told_one.ensures.items tolds in
    told.publisher' ∙ c.publish.ensures.kept.0 ∙ sym one.publisher' ∙ sym c.see.ensures.publisher ∙ sym c.see-unlearned.ensures.publisher
