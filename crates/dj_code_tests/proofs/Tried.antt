-- Instructions that were tried, one by one.
use Rattle.std.proofs.Common.{ℕ}
use Rattle.dj_ops.specs.declared.instruction.Instr.{Instr}
use Rattle.dj_ops.specs.trusted.Instructions.{IsProper}
use Rattle.dj_labels.specs.trusted.Labels.{HasNumbers}

abbrev pub IsTried : ℕ → Instr → Type 0
IsTried count instr = IsProper instr × HasNumbers count instr
