-- Used by the code alone: which instructions make an object of a class, by what is kept of constants.
use Rattle.std.specs.Prelude.{◌&&◌, Bool, true, false, List, get_or, nat_eq}
use Rattle.dj_ops.specs.declared.instruction.Instr.{Instr}
use Rattle.dj_ops.specs.declared.instruction.Instr.TheVariants as instrs
use Rattle.dj_shape_rule.specs.declared.pool.ConstantKind.{ConstantKind}
use Rattle.dj_shape_rule.specs.declared.pool.ConstantKind.TheVariants as constants

abbrev pub is_class : ConstantKind → Bool
is_class constants.Class = true
is_class kind = false

abbrev pub form_makes : List ConstantKind → Instr → Bool
form_makes kept (instrs.Class op index) = nat_eq op 187 && is_class (get_or kept index constants.Other)
form_makes kept instr = false
