-- What indexes name, instructions, and constants of fields by plain values.
use Rattle.std.proofs.Common.{◌≡◌, ℕ, pos, List, [], ◌∷◌, map, Some, None, refl, inl, inr, codes}
use Rattle.dj_names.specs.declared.descriptor.Base.TheVariants as bases
use Rattle.dj_names.specs.declared.descriptor.Desc.TheVariants as descs
use Rattle.dj_names.specs.declared.run.Value.TheVariants as values
use Rattle.dj_names.specs.trusted.DescReading.{dims_read, name_read, class_read, of_read, type_read, params_read, field_read, return_read, method_read, desc_read}
use Rattle.dj_names.specs.trusted.NameReading.{reads_class_name}
use Rattle.dj_names.specs.trusted.Tests.{units_read}
use Rattle.dj_names.specs.trusted.Types.{class_type, base_type, base_array}
use Rattle.dj_names.specs.trusted.UnitReading.{unit_read, long_read, two_read}
use Rattle.dj_ops.specs.declared.instruction.Instr.TheVariants as instrs
use Rattle.dj_ops.specs.Mnemonics.{nop, ldc, goto, return, getfield, invokevirtual}
use Rattle.dj_pool.specs.trusted.Pool.{Constant, Utf8, Integer, Float, Long, Hole, Class, Text, Field, Method, InterfaceMethod, NameAndType, Dynamic}
use Rattle.dj_class.specs.trusted.ClassFile.{MemberInfo}
use Rattle.dj_model.specs.trusted.Types.{Member}
use Rattle.dj_model.specs.trusted.Instructions.{AnInt, ALong, AText, AClass, AField, AMethod, AnInterfaceMethod, Another, Nop, Push, Goto, Return, GetField, Invoke, Virtual, Other}
use Rattle.dj_model.specs.trusted.Opcodes.{instruction_of, simple}
use Rattle.dj_model.specs.trusted.Program as programs
use Rattle.dj_model.specs.trusted.Program.{Code, Abstract, Runs}
use Rattle.dj_declarations.specs.trusted.Files.{desc_in, type_in}
use Rattle.dj_program.specs.trusted.Naming.{units_in, named_at, named_by, instruction_in, constant_in}
use Rattle.dj_early_rules.specs.trusted.Code.{HasFrames}
use Rattle.dj_program.specs.trusted.Codes.{CodeParts, code_in, catches_in}
use Rattle.dj_program.specs.trusted.Programs.{IsBodyIn}

-- 1 and 2 the class A, 3 to 5 a field of it, 6 an int, 7 and 8 a long, 9 and 10 a string, 11 a float, 12 to 15 a method of an array, 16 its like of an
-- interface, 17 what invokedynamic names, 18 the name of constants of fields
pool : List Constant
pool =
    Utf8 (codes "A") ∷ Class 1 ∷ Utf8 (codes "I") ∷ NameAndType 1 3 ∷ Field 2 4 ∷ Integer (pos 7) ∷ Long (pos 9) ∷ Hole ∷ Utf8 (192 ∷ 128 ∷ []) ∷ Text 9 ∷ Float 0
    ∷ Utf8 (codes "[I") ∷ Class 12 ∷ NameAndType 1 19 ∷ Method 13 14 ∷ InterfaceMethod 2 14 ∷ Dynamic 0 14 ∷ Utf8 (codes "ConstantValue") ∷ Utf8 (codes "()V") ∷ []

field_a : Member
field_a = record { class = class_type (codes "A"); name = codes "A"; desc = descs.Field (base_type bases.Int) }

method_a : Member
method_a = record { class = base_array bases.Int; name = codes "A"; desc = descs.Method [] None }

-- ---- what indexes name

-- a zero is spelled by two bytes
units : units_in (192 ∷ 128 ∷ 65 ∷ []) ≡ 0 ∷ 65 ∷ []
unfolding units_in units_read unit_read long_read two_read
units = refl

named_numbers : map (named_at pool) (6 ∷ 7 ∷ 10 ∷ []) ≡ AnInt (pos 7) ∷ ALong (pos 9) ∷ AText (0 ∷ []) ∷ []
unfolding pool named_by units_in units_read unit_read long_read two_read
named_numbers = refl

named_classes : map (named_at pool) (2 ∷ 13 ∷ []) ≡ AClass (class_type (codes "A")) ∷ AClass (base_array bases.Int) ∷ []
unfolding pool named_by desc_in type_in dims_read name_read class_read of_read type_read params_read field_read return_read method_read desc_read reads_class_name
named_classes = refl

named_members : map (named_at pool) (5 ∷ 15 ∷ 16 ∷ []) ≡ AField field_a ∷ AMethod method_a ∷ AnInterfaceMethod (record method_a { class = class_type (codes "A") }) ∷ []
unfolding pool field_a method_a named_by desc_in type_in dims_read name_read class_read of_read type_read params_read field_read return_read method_read desc_read reads_class_name
named_members = refl

-- no constant, the second index of a long, a text, a name and type, a float, and what invokedynamic names
named_others : map (named_at pool) (0 ∷ 8 ∷ 1 ∷ 4 ∷ 11 ∷ 17 ∷ 99 ∷ []) ≡ Another ∷ Another ∷ Another ∷ Another ∷ Another ∷ Another ∷ Another ∷ []
unfolding pool named_by
named_others = refl

-- ---- instructions

instructions : map (instruction_in pool) (instrs.Simple nop ∷ instrs.Literal ldc 6 ∷ instrs.Member getfield 5 ∷ instrs.Member invokevirtual 15 ∷ instrs.Branch goto (pos 3) ∷ [])
    ≡ Nop ∷ Push (values.Int (pos 7)) ∷ GetField field_a ∷ Invoke Virtual method_a ∷ Goto 3 ∷ []
unfolding pool field_a method_a named_by desc_in type_in dims_read name_read class_read of_read type_read params_read field_read return_read method_read desc_read reads_class_name instruction_of simple
instructions = refl

-- a float, and a field where a method is asked for
other_instructions : map (instruction_in pool) (instrs.Literal ldc 11 ∷ instrs.Member invokevirtual 5 ∷ []) ≡ Other 18 Another ∷ Other 182 (AField field_a) ∷ []
unfolding pool field_a named_by desc_in type_in dims_read name_read class_read of_read type_read params_read field_read return_read method_read desc_read reads_class_name instruction_of
other_instructions = refl

-- ---- ranges and frames

-- index 0 catches everything, and names nothing
catches : (catches_in pool 0 ≡ None) × (catches_in pool 2 ≡ Some (AClass (class_type (codes "A"))))
unfolding pool named_by desc_in type_in dims_read name_read class_read of_read type_read params_read field_read return_read method_read desc_read reads_class_name
catches = (refl, refl)

-- nop, nop and return, a range over the first two, and its handler, which is the second
abbrev parts : CodeParts
parts = record {
  max_stack = 4;
  max_locals = 3;
  labelled = record { code = instrs.Simple nop ∷ instrs.Simple nop ∷ instrs.Simple return ∷ []; ranges = record { start = 0; end = 2; handler = 1; catch_type = 2 } ∷ [] };
  frames = Some [];
}

abbrev code_there : Code
code_there = record {
  max_stack = 4;
  max_locals = 3;
  instructions = Nop ∷ Nop ∷ Return None ∷ [];
  ranges = record { start = 0; end = 2; handler = 1; catches = Some (AClass (class_type (codes "A"))) } ∷ [];
  frames = Some [];
}

whole_code : code_in pool parts ≡ code_there
unfolding pool code_in named_by desc_in type_in dims_read name_read class_read of_read type_read params_read field_read return_read method_read desc_read reads_class_name instruction_of simple
whole_code = refl

-- ---- bodies

abbrev with_flags : ℕ → MemberInfo
with_flags flags = record { flags = flags; name = 1; desc = 19; attributes = [] }

-- native (0x0100) and abstract (0x0400)
bodiless : IsBodyIn pool (with_flags 257) Abstract × IsBodyIn pool (with_flags 1025) Abstract
bodiless = (inl (refl, refl), inl (refl, refl))

-- a static method has code, and a native one has none
bodies_not : (IsBodyIn pool (with_flags 9) Abstract → ⊥) × (IsBodyIn pool (with_flags 257) (Runs code_there) → ⊥)
bodies_not = (
  λ is. elim is [ inl (t, e) ↦ absurd cc | inr (f, code, says, e) ↦ absurd cc ],
  λ is. elim is [ inl (t, e) ↦ absurd cc | inr (f, code, says, e) ↦ absurd cc ],
)

-- without a stack map the frames are an empty list, and they are not none
no_map : HasFrames (0 ∷ []) [] (Some []) × (HasFrames (0 ∷ []) [] None → ⊥)
no_map = (refl, λ e. absurd cc)

-- ---- constants of fields

abbrev with_value : List ℕ → MemberInfo
with_value body = record { flags = 8; name = 1; desc = 3; attributes = record { name = 18; body = body } ∷ [] }

field_values : map (constant_in pool) (with_value (0 ∷ 6 ∷ []) ∷ with_value (0 ∷ 7 ∷ []) ∷ with_value (0 ∷ 10 ∷ []) ∷ [])
    ≡ Some (programs.Int (pos 7)) ∷ Some (programs.Long (pos 9)) ∷ Some (programs.Text (0 ∷ [])) ∷ []
unfolding pool constant_in units_in units_read unit_read long_read two_read
field_values = refl

-- a class, and an index whose bytes are the other way round
unfit_values : map (constant_in pool) (with_value (0 ∷ 2 ∷ []) ∷ with_value (6 ∷ 0 ∷ []) ∷ []) ≡ Some programs.Unfit ∷ Some programs.Unfit ∷ []
unfolding pool constant_in
unfit_values = refl

no_value : constant_in pool (record { flags = 8; name = 1; desc = 3; attributes = [] }) ≡ None
unfolding constant_in
no_value = refl
