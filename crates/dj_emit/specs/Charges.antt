-- Used by the code alone: charges by opcodes, whatever is named.
use Rattle.std.specs.Prelude.{ℕ, Bool, true, false, ◌&&◌, ◌||◌, List, [], ◌∷◌, nat_eq, nat_le, if◌then◌else◌}
use Rattle.dj_names.specs.declared.descriptor.Base.{Base}
use Rattle.dj_names.specs.declared.run.Element.{Element}
use Rattle.dj_ops.specs.declared.instruction.Instr.{Instr}
use Rattle.dj_ops.specs.declared.instruction.Instr.TheVariants as instrs
use Rattle.dj_model.specs.trusted.Opcodes.{array_rows}
use Rattle.dj_groups.specs.Groups.{Inserted, Copy, ElementBytes, Record, Jumps, Invocations, Throws, Arrays, other_charge}

abbrev pub simple_list : ℕ → List Inserted
simple_list op = if nat_eq op 191 then Record Throws ∷ [] else other_charge op

abbrev pub is_jump_op : ℕ → Bool
is_jump_op op = (nat_le 153 op && nat_le op 167) || (nat_le 198 op && nat_le op 200)

abbrev pub jump_list : ℕ → List Inserted
jump_list op = if is_jump_op op then Record Jumps ∷ [] else other_charge op

abbrev pub array_list_in : List (ℕ × Base × Element) → ℕ → List Inserted
array_list_in [] base = []
array_list_in (row ∷ rows) base = if nat_eq base row.0 then Copy ∷ ElementBytes row.2 ∷ Record Arrays ∷ [] else array_list_in rows base

abbrev pub array_list : ℕ → List Inserted
array_list base = array_list_in array_rows base

-- of any instruction but `new`
abbrev pub plain_list : Instr → List Inserted
plain_list (instrs.Simple op) = simple_list op
plain_list (instrs.Local op slot wide) = other_charge op
plain_list (instrs.Branch op target) = jump_list op
plain_list (instrs.Table low default targets) = Record Jumps ∷ []
plain_list (instrs.Lookup default pairs) = Record Jumps ∷ []
plain_list (instrs.Member op index) = other_charge op
plain_list (instrs.Interface index count) = Record Invocations ∷ []
plain_list (instrs.Class op index) = other_charge op
plain_list (instrs.Array base) = array_list base
plain_list instr = []

abbrev pub is_monitor : Instr → Bool
is_monitor (instrs.Simple op) = nat_le 194 op && nat_le op 195
is_monitor instr = false

abbrev pub is_new : Instr → Bool
is_new (instrs.Class op index) = nat_eq op 187
is_new instr = false
