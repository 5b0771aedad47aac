use Rattle.published.proofs.Kept.{at_list}
use Rattle.published.proofs.reader.ReaderGens.snap.Goals as goal

pub returns-clause-listed : goal.returns-clause-listed
returns-clause-listed c = let me = c.args.self.now in at_list _ me.was_told me.end _ _ _ me.present me.told me.seen
