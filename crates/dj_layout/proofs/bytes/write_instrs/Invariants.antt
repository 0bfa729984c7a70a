use Rattle.dj_layout.proofs.Passing.{WrittenTo}
use Rattle.dj_layout.proofs.bytes.write_instrs.Given as goal

abbrev pub invariant-loop-i : goal.invariant-loop-i
invariant-loop-i l = WrittenTo l.starts l.instrs l.i l.out.items
