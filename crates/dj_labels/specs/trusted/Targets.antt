-- The targets of an instruction: where it jumps to (JVMS 6.5).
use Rattle.std.specs.Prelude.{ℤ, List, [], ◌∷◌, map}
use Rattle.dj_ops.specs.declared.instruction.Instr.{Instr}
use Rattle.dj_ops.specs.declared.instruction.Instr.TheVariants as instrs

-- the targets in the order of their bytes; an instruction that is no jump has none
abbrev pub targets_of : Instr → List ℤ
targets_of (instrs.Branch op target) = target ∷ []
targets_of (instrs.Table low default targets) = default ∷ targets
targets_of (instrs.Lookup default pairs) = default ∷ map (λ pair. pair.1) pairs
targets_of instr = []

-- the instruction with each of its targets replaced
abbrev pub with_targets : (ℤ → ℤ) → Instr → Instr
with_targets f (instrs.Branch op target) = instrs.Branch op (f target)
with_targets f (instrs.Table low default targets) = instrs.Table low (f default) (map f targets)
with_targets f (instrs.Lookup default pairs) = instrs.Lookup (f default) (map (λ pair. (pair.0, f pair.1)) pairs)
with_targets f instr = instr
