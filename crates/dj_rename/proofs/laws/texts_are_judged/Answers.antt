use Rattle.dj_rename.proofs.Fitting.{texts_are_judged}
use Rattle.dj_rename.proofs.laws.texts_are_judged.Goals as goal

pub returns : goal.returns
returns c = texts_are_judged
