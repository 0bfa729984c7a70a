use Rattle.dj_labels.proofs.InstrLaws.{NumberedUpTo}
use Rattle.dj_labels.proofs.labelling.number_instrs.Given as goal

abbrev pub invariant-loop-number : goal.invariant-loop-number
invariant-loop-number l = NumberedUpTo l.table.starts.items l.fn.instrs.items l.numbered.items l.number
