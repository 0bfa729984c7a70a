use Rattle.dj_labels.proofs.InstrLaws.{without_targets}
use Rattle.dj_labels.proofs.targets.renumber.Goals as goal

pub returns-then-not-has_targets-clause-found : goal.returns-then-not-has_targets-clause-found
returns-then-not-has_targets-clause-found c = without_targets c.args.table.now.starts.items c.args.instr.now (c.has_targets.ensures c.if-not-has_targets.true)
