use Rattle.std.proofs.Common.{refl}
use Rattle.dj_labels.proofs.TargetLaws.{unfit_lacks}
use Rattle.dj_labels.proofs.targets.number_of.Goals as goal

pub returns-in_default-clause-refused : goal.returns-in_default-clause-refused
returns-in_default-clause-refused c = (refl, λ there. unfit_lacks c.args.table.now.starts.items c.args.target c.ranges.target c.in_default.ensures there.0)
