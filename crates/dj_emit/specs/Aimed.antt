-- Used by the code alone: instructions whose targets are looked up in a list.
use Rattle.std.specs.Prelude.{ℕ, Bool, true, false, List}
use Rattle.dj_ops.specs.declared.instruction.Instr.{Instr}
use Rattle.dj_ops.specs.declared.instruction.Instr.TheVariants as instrs
use Rattle.dj_labels.specs.trusted.Labels.{address_of}
use Rattle.dj_labels.specs.trusted.Targets.{with_targets}
use Rattle.dj_groups.specs.Groups.{Own, Kept, Popped}

abbrev pub is_jump : Instr → Bool
is_jump (instrs.Branch op target) = true
is_jump (instrs.Table low default targets) = true
is_jump (instrs.Lookup default pairs) = true
is_jump instr = false

unfoldable pub own_aimed : List ℕ → Own → Instr → Instr
own_aimed start Kept instr = with_targets (address_of start) instr
own_aimed start Popped instr = instrs.Simple 87
