-- The addresses of instructions that follow one another.
use Rattle.std.specs.Prelude.{ℕ, ◌+◌, List, [], ◌∷◌}
use Rattle.dj_ops.specs.declared.instruction.Instr.{Instr}
use Rattle.dj_ops.specs.trusted.Instructions.{length_at}

-- the addresses of instructions, of which the first is at this one. An instruction's length may depend on its address
abbrev pub starts_from : ℕ → List Instr → List ℕ
starts_from at [] = []
starts_from at (instr ∷ instrs) = at ∷ starts_from (at + length_at at instr) instrs

-- the address after the last of them
abbrev pub end_from : ℕ → List Instr → ℕ
end_from at [] = at
end_from at (instr ∷ instrs) = end_from (at + length_at at instr) instrs
