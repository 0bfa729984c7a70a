use Rattle.dj_image_step.proofs.ShortTables.{LoadSoFar}
use Rattle.dj_image_step.proofs.shortness.load_by_known.Given as goal

-- the instructions so far
abbrev pub invariant-loop-instr : goal.invariant-loop-instr
invariant-loop-instr l = LoadSoFar l.instr-items l.instr-index
