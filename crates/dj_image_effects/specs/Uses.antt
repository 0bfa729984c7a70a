-- Used by the code alone: which instructions name a field or a class.
use Rattle.std.specs.Prelude.{ℕ, nat_eq, if◌then◌else◌}
use Rattle.dj_ops.specs.declared.instruction.Instr.{Instr}
use Rattle.dj_ops.specs.declared.instruction.Instr.TheVariants as instrs
use Rattle.dj_image_effects.specs.declared.uses.FieldUse.{FieldUse}
use Rattle.dj_image_effects.specs.declared.uses.FieldUse.TheVariants as fields
use Rattle.dj_image_effects.specs.declared.uses.ClassUse.{ClassUse}
use Rattle.dj_image_effects.specs.declared.uses.ClassUse.TheVariants as classes

abbrev pub field_use_of : ℕ → FieldUse
field_use_of op =
    if nat_eq op 178 then fields.GetStatic
    else if nat_eq op 179 then fields.PutStatic
    else if nat_eq op 180 then fields.Get
    else if nat_eq op 181 then fields.Put
    else fields.Neither

abbrev pub field_use : Instr → FieldUse
field_use (instrs.Member op index) = field_use_of op
field_use instr = fields.Neither

abbrev pub class_use_of : ℕ → ClassUse
class_use_of op =
    if nat_eq op 187 then classes.New
    else if nat_eq op 189 then classes.NewArray
    else if nat_eq op 192 then classes.Cast
    else if nat_eq op 193 then classes.Instance
    else classes.Other

-- one without an index makes arrays of base types, if it has a class
abbrev pub class_use : Instr → ClassUse
class_use (instrs.Class op index) = class_use_of op
class_use (instrs.Literal op index) = classes.Other
class_use (instrs.Member op index) = classes.Other
class_use (instrs.Interface index count) = classes.Other
class_use (instrs.Dynamic index) = classes.Other
class_use (instrs.Multi index dims) = classes.Other
class_use instr = classes.Plain
