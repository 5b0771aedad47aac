use Rattle.published.proofs.tests.published_twice.Goals as goal

pub sees-seen-requires : goal.sees-seen-requires
sees-seen-requires g c = (c.args.first, c.in-Ok.ensures.each)
