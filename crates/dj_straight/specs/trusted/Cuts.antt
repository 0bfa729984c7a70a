-- Code as straight instructions, one after the other.
use Rattle.std.specs.Prelude.{◌≡◌, ℕ, List, [], ◌∷◌, length}
use Rattle.dj_ops.specs.declared.instruction.Instr.{Instr}
use Rattle.dj_straight.specs.trusted.StraightInstrs.{IsStraightAt}

-- from this address to its end the code is these instructions, one after the other
abbrev pub AreInstructions : List ℕ → ℕ → List Instr → Type 0
AreInstructions code at [] = at ≡ length code
AreInstructions code at (instr ∷ instrs) = (next : ℕ) × IsStraightAt code at instr next × AreInstructions code next instrs
