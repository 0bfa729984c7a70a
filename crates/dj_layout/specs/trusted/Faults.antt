-- Where the offsets of an instruction have room.
use Rattle.std.specs.Prelude.{ℕ}
use Rattle.dj_ops.specs.declared.instruction.Instr.{Instr}
use Rattle.dj_ops.specs.trusted.Instructions.{AreOffsets}

-- the distances to the targets of an instruction at its address fit their fields
abbrev pub Reaches : ℕ × Instr → Type 0
Reaches p = AreOffsets p.0 p.1
