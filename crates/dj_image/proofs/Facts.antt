-- Classes with their code and constants, operands, handlers, constants and bodies by plain values.
use Rattle.std.proofs.Common.{◌≡◌, ℕ, ◌<◌, false, arith, pos, List, [], ◌∷◌, map, length, Option, Some, None, refl, sym, ap, ◌∙◌, subst, codes}
use Rattle.std.specs.Prelude.{slice_get}
use Rattle.dj_names.specs.declared.descriptor.Base.TheVariants as bases
use Rattle.dj_names.specs.declared.descriptor.Desc.TheVariants as descs
use Rattle.dj_names.specs.declared.native.NativeId.{NativeId}
use Rattle.dj_names.specs.trusted.DescReading.{dims_read, name_read, class_read, of_read, type_read, params_read, field_read, return_read, method_read, desc_read}
use Rattle.dj_names.specs.trusted.NameReading.{reads_class_name}
use Rattle.dj_names.specs.trusted.Tests.{units_read}
use Rattle.dj_names.specs.trusted.Types.{class_type, base_type, base_array, array_type}
use Rattle.dj_names.specs.trusted.UnitReading.{unit_read, long_read, two_read}
use Rattle.dj_ops.specs.declared.instruction.Instr.{Instr}
use Rattle.dj_ops.specs.declared.instruction.Instr.TheVariants as instrs
use Rattle.dj_ops.specs.Mnemonics.{nop, bipush, ldc, ldc_w, ldc2_w, iload, goto, getfield, invokevirtual, invokespecial, new, anewarray, checkcast}
use Rattle.dj_labels.specs.declared.labelled.Protected.{Protected}
use Rattle.dj_pool.specs.trusted.Pool.{Constant, Utf8, Integer, Long, Hole, Class, Text, Field, Method, InterfaceMethod, NameAndType}
use Rattle.dj_model.specs.trusted.Opcodes.{instruction_of, simple}
use Rattle.dj_model.specs.trusted.Program as programs
use Rattle.dj_model.specs.trusted.Program.{Abstract, Runs}
use Rattle.dj_model.specs.trusted.Linking.{FoundMethod, most_classes, chain_of, interfaces_from, interfaces_above, field_order, resolve_method, resolve_field}
use Rattle.dj_early_rules.specs.trusted.Instructions.{index_of}
use Rattle.dj_declarations.specs.trusted.Files.{desc_in, type_in, no_code}
use Rattle.dj_program.specs.trusted.Naming.{units_in, named_at, named_by, named_if}
use Rattle.dj_program.specs.trusted.Codes.{CodeParts, code_in}
use Rattle.dj_numbering.specs.Members.{all_methods, all_fields}
use Rattle.dj_image.specs.declared.operand.Operand.{Operand}
use Rattle.dj_image.specs.declared.operand.Operand.TheVariants as operands
use Rattle.dj_image.specs.declared.image.Body.TheVariants as variants
use Rattle.dj_image.specs.Sources.{Source, with_codes, with_values, class_of_source}
use Rattle.dj_image.specs.Imaged.{Imaged}
use Rattle.dj_image.specs.Operands.{operand_of, named_class, value_operand}
use Rattle.dj_image.specs.Codes.{PooledCode, all_codes, code_at, HasInstr, IsOperandAt, IsCaughtAt, IsConstantAt, SaysBody, IsBodyAt}
use Rattle.dj_image.specs.Shaped.{AreShapePartsAt}

-- 2 the class A, 3 an int, 6 a field that is there, 9 one that isn't, 12 and 13 a method that is there, as one of a class and as one of an interface,
-- 15 a string, 16 a class that isn't there, 17 and 18 a long
pool : List Constant
pool =
    Utf8 (codes "A") ∷ Class 1 ∷ Integer (pos 7) ∷ Utf8 (codes "I") ∷ NameAndType 1 4 ∷ Field 2 5 ∷ Utf8 (codes "x") ∷ NameAndType 7 4 ∷ Field 2 8 ∷ Utf8 (codes "()V")
    ∷ NameAndType 7 10 ∷ Method 2 11 ∷ InterfaceMethod 2 11 ∷ Utf8 (codes "s") ∷ Text 14 ∷ Class 7 ∷ Long (pos 9) ∷ Hole ∷ []

-- ---- a class: an abstract method and one with code, a field with a constant and one without

abstract_a : programs.Method
abstract_a = record { flags = 1024; name = codes "a"; desc = descs.Method [] None; body = Abstract }

bare_x : programs.Method
bare_x = record { flags = 1; name = codes "x"; desc = descs.Method [] None; body = Runs no_code }

field_a : programs.Field
field_a = record { flags = 8; name = codes "A"; desc = descs.Field (base_type bases.Int); constant = None }

field_b : programs.Field
field_b = record { flags = 8; name = codes "b"; desc = descs.Field (base_type bases.Int); constant = None }

class_a : programs.Class
class_a = record {
  name = codes "A";
  flags = 0;
  superclass = None;
  interfaces = [];
  unnamed_fields = 0;
  fields = field_a ∷ field_b ∷ [];
  methods = abstract_a ∷ bare_x ∷ [];
}

code : List Instr
code =
    instrs.Simple nop ∷ instrs.Class anewarray 2 ∷ instrs.Class checkcast 16 ∷ instrs.Class new 2 ∷ []

-- the first row catches what is of the class A, and the second everything
ranges : List Protected
ranges = record { start = 0; end = 1; handler = 1; catch_type = 2 } ∷ record { start = 0; end = 1; handler = 1; catch_type = 0 } ∷ []

parts : CodeParts
parts = record { max_stack = 1; max_locals = 2; labelled = record { code = code; ranges = ranges }; frames = Some [] }

source : Source
source = record { class = class_a; pool = pool; codes = None ∷ Some parts ∷ []; values = Some (programs.Int (pos 5)) ∷ None ∷ [] }

-- A is number 0, the arrays of ints 1 and those of A 2
image : Imaged
image = record { sources = source ∷ []; prefix = []; arrays = base_array bases.Int ∷ array_type (class_type (codes "A")) ∷ []; texts = (115 ∷ []) ∷ [] }

-- ---- sources

methods_whole : with_codes pool class_a.methods source.codes ≡ abstract_a ∷ record bare_x { body = Runs (code_in pool parts) } ∷ []
unfolding class_a source
methods_whole = refl

fields_whole : with_values class_a.fields source.values ≡ record field_a { constant = Some (programs.Int (pos 5)) } ∷ field_b ∷ []
unfolding class_a source field_b
fields_whole = refl

-- past the last code, methods stay as they are, and past the last method codes are nothing
few_codes : (with_codes pool (abstract_a ∷ bare_x ∷ []) (None ∷ []) ≡ abstract_a ∷ bare_x ∷ []) × (with_codes pool [] (Some parts ∷ []) ≡ [])
few_codes = (refl, refl)

abbrev first_body : List programs.Method → programs.Body
first_body [] = Abstract
first_body (m ∷ methods) = m.body

-- the code of a method isn't that of the next one
code_elsewhere : with_codes pool (abstract_a ∷ bare_x ∷ []) (Some parts ∷ None ∷ []) ≡ abstract_a ∷ record bare_x { body = Runs (code_in pool parts) } ∷ [] → ⊥
unfolding abstract_a
code_elsewhere e = let body : Runs (code_in pool parts) ≡ Abstract = ap first_body e in absurd cc

-- ---- operands

abbrev say : Instr → Operand
say instr = operand_of image instr (named_if pool (index_of instr))

no_operands : map say (instrs.Simple nop ∷ instrs.Push bipush (pos 1) ∷ instrs.Local iload 0 false ∷ instrs.Branch goto (pos 3) ∷ [])
    ≡ operands.Nothing ∷ operands.Nothing ∷ operands.Nothing ∷ operands.Nothing ∷ []
unfolding operand_of instruction_of simple
no_operands = refl

-- an int, a long and a string, each where it is taken and where it isn't
literals : map say (instrs.Literal ldc 3 ∷ instrs.Literal ldc2_w 3 ∷ instrs.Literal ldc2_w 17 ∷ instrs.Literal ldc 17 ∷ instrs.Literal ldc_w 15 ∷ instrs.Literal ldc2_w 15 ∷ [])
    ≡ operands.Int (pos 7) ∷ operands.Unresolved ∷ operands.Long (pos 9) ∷ operands.Unresolved ∷ operands.Text 0 ∷ operands.Unresolved ∷ []
unfolding image pool operand_of instruction_of named_by units_in units_read unit_read long_read two_read
literals = refl

-- of new and checkcast the class itself, of anewarray the array of it; a class that isn't there, and a field where a class is asked
classes : map say (instrs.Class new 2 ∷ instrs.Class checkcast 2 ∷ instrs.Class anewarray 2 ∷ instrs.Class new 16 ∷ instrs.Class anewarray 16 ∷ instrs.Class new 6 ∷ [])
    ≡ operands.Class 0 ∷ operands.Class 0 ∷ operands.Class 2 ∷ operands.Unresolved ∷ operands.Unresolved ∷ operands.Unresolved ∷ []
unfolding image source class_a class_of_source pool operand_of instruction_of named_by desc_in type_in dims_read name_read class_read of_read type_read params_read field_read return_read method_read desc_read reads_class_name
classes = refl

-- arrays of ints have a number, those of longs have none, and of floats no array is made
base_arrays : map say (instrs.Array 10 ∷ instrs.Array 11 ∷ instrs.Array 6 ∷ []) ≡ operands.Class 1 ∷ operands.Unresolved ∷ operands.Nothing ∷ []
unfolding image source class_a class_of_source operand_of instruction_of
base_arrays = refl

-- a field that is there, one that isn't, a method, a field where a method is asked, and an int
members : map say (instrs.Member getfield 6 ∷ instrs.Member getfield 9 ∷ instrs.Member invokevirtual 12 ∷ instrs.Member invokevirtual 6 ∷ instrs.Member invokevirtual 3 ∷ [])
    ≡ operands.Field (record { number = 0 }) ∷ operands.Unresolved ∷ operands.Method (record { number = 1 }) ∷ operands.Unresolved ∷ operands.Unresolved ∷ []
unfolding image source class_a class_of_source abstract_a bare_x field_a field_b pool operand_of instruction_of named_by all_methods all_fields resolve_method resolve_field most_classes chain_of interfaces_from interfaces_above field_order desc_in type_in dims_read name_read class_read of_read type_read params_read field_read return_read method_read desc_read reads_class_name
members = refl

-- a method of an interface by invokeinterface and invokespecial, but not by invokevirtual; one of a class not by invokeinterface
interfaces : map say (instrs.Interface 13 1 ∷ instrs.Member invokespecial 13 ∷ instrs.Member invokevirtual 13 ∷ instrs.Interface 12 1 ∷ [])
    ≡ operands.Method (record { number = 1 }) ∷ operands.Method (record { number = 1 }) ∷ operands.Unresolved ∷ operands.Unresolved ∷ []
unfolding image source class_a class_of_source abstract_a bare_x field_a field_b pool operand_of instruction_of named_by all_methods all_fields resolve_method resolve_field most_classes chain_of interfaces_from interfaces_above field_order desc_in type_in dims_read name_read class_read of_read type_read params_read field_read return_read method_read desc_read reads_class_name
interfaces = refl

-- no index of the pool, and one past its end
no_constants : map say (instrs.Class new 0 ∷ instrs.Literal ldc 99 ∷ []) ≡ operands.Unresolved ∷ operands.Unresolved ∷ []
unfolding pool operand_of instruction_of
no_constants = refl

-- ---- by numbers of methods

codes_reported : map (code_at image) (0 ∷ 1 ∷ 2 ∷ []) ≡ None ∷ Some (record { pool = pool; parts = parts }) ∷ None ∷ []
unfolding image source all_codes
codes_reported = refl

instr_there : HasInstr image 1 3
unfolding image source all_codes parts code
instr_there = record { code = record { pool = pool; parts = parts }; own = refl; within = omega arith }

-- no fourth instruction, and none of a method without code
no_instr : HasInstr image 1 4 → ⊥
unfolding image source all_codes parts code
no_instr has =
    let e : Some (record { pool = pool; parts = parts }) ≡ Some has.code = has.own in
    let same : has.code ≡ record { pool = pool; parts = parts } = cc in
    let within : 4 < length code = subst (λ (c : PooledCode). 4 < length c.parts.labelled.code) same has.within in
    absurd (omega (arith, within))

no_code_there : HasInstr image 0 0 → ⊥
unfolding image source all_codes
no_code_there has = let e : None ≡ Some has.code = has.own in absurd cc

-- what is answered for an instruction of the second method is its operand
operand_there : (number : ℕ) (instr : Instr) (operand : Operand) → slice_get code number ≡ Some instr → IsOperandAt image 1 number operand → operand ≡ say instr
unfolding image source all_codes parts
operand_there number instr operand stands reported =
    let e : Some (record { pool = pool; parts = parts }) ≡ Some reported.code = reported.own in
    let same : reported.code ≡ record { pool = pool; parts = parts } = cc in
    let other : slice_get code number ≡ Some reported.instr = subst (λ (c : PooledCode). slice_get c.parts.labelled.code number ≡ Some reported.instr) same reported.stands in
    let one : reported.instr ≡ instr = cc in
    reported.is
    ∙ ap (λ (c : PooledCode). operand_of image reported.instr (named_if c.pool (index_of reported.instr))) same
    ∙ ap say one

-- the class of an array that is made isn't that of its elements
not_elements : IsOperandAt image 1 1 (operands.Class 0) → ⊥
unfolding image source class_a class_of_source pool code operand_of instruction_of named_by desc_in type_in dims_read name_read class_read of_read type_read params_read field_read return_read method_read desc_read reads_class_name
not_elements reported = let e : operands.Class 0 ≡ operands.Class 2 = operand_there 1 (instrs.Class anewarray 2) (operands.Class 0) refl reported in absurd cc

-- a class that isn't there isn't reported as no operand
not_nothing : IsOperandAt image 1 2 operands.Nothing → ⊥
unfolding image source class_a class_of_source pool code operand_of instruction_of named_by desc_in type_in dims_read name_read class_read of_read type_read params_read field_read return_read method_read desc_read reads_class_name
not_nothing reported = let e : operands.Nothing ≡ operands.Unresolved = operand_there 2 (instrs.Class checkcast 16) operands.Nothing refl reported in absurd cc

-- ---- named classes and handlers

-- a class, the class of a field that isn't there, one that isn't there, and an int
named : map (λ (index : ℕ). named_class image (named_at pool index)) (2 ∷ 9 ∷ 16 ∷ 3 ∷ []) ≡ Some 0 ∷ Some 0 ∷ None ∷ None ∷ []
unfolding image source class_a class_of_source pool named_by desc_in type_in dims_read name_read class_read of_read type_read params_read field_read return_read method_read desc_read reads_class_name
named = refl

caught : IsCaughtAt image 1 0 (Some 0)
unfolding image source class_a class_of_source pool all_codes parts ranges named_by desc_in type_in dims_read name_read class_read of_read type_read params_read field_read return_read method_read desc_read reads_class_name
caught = record { code = record { pool = pool; parts = parts }; own = refl; row = record { start = 0; end = 1; handler = 1; catch_type = 2 }; stands = refl; is = refl }

caught_all : IsCaughtAt image 1 1 None
unfolding image source pool all_codes parts ranges
caught_all = record { code = record { pool = pool; parts = parts }; own = refl; row = record { start = 0; end = 1; handler = 1; catch_type = 0 }; stands = refl; is = refl }

-- ---- constants and bodies

constants : (IsConstantAt image 0 (operands.Int (pos 5))) × (IsConstantAt image 1 operands.Nothing)
unfolding image source class_a class_of_source field_a field_b all_fields
constants = (
  record { found = record { class = codes "A"; field = record field_a { constant = Some (programs.Int (pos 5)) } }; there = refl; is = refl },
  record { found = record { class = codes "A"; field = field_b }; there = refl; is = refl },
)

values : map (value_operand image) (None ∷ Some (programs.Long (pos 9)) ∷ Some (programs.Text (115 ∷ [])) ∷ Some (programs.Text []) ∷ Some programs.Unfit ∷ [])
    ≡ operands.Nothing ∷ operands.Long (pos 9) ∷ operands.Text 0 ∷ operands.Unresolved ∷ operands.Unresolved ∷ []
unfolding image
values = refl

abstract_body : IsBodyAt image 0 variants.Abstract
unfolding image source class_a class_of_source abstract_a all_methods
abstract_body = record { found = record { class = codes "A"; method = abstract_a }; there = refl; says = tt }

abbrev found_body : Option FoundMethod → programs.Body
found_body None = Abstract
found_body (Some found) = found.method.body

-- an abstract method isn't a native one, and one with code isn't abstract
not_native : (id : NativeId) → IsBodyAt image 0 (variants.Native id) → ⊥
unfolding image source class_a class_of_source abstract_a all_methods
not_native id reported =
    let same : Abstract ≡ reported.found.method.body = ap found_body reported.there in
    subst (λ (body : programs.Body). SaysBody image 0 body (variants.Native id)) (sym same) reported.says

not_abstract : IsBodyAt image 1 variants.Abstract → ⊥
unfolding image source class_a class_of_source bare_x all_methods
not_abstract reported =
    let same : Runs (code_in pool parts) ≡ reported.found.method.body = ap found_body reported.there in
    subst (λ (body : programs.Body). SaysBody image 1 body variants.Abstract) (sym same) reported.says

-- SHAPE is judged by nothing of the abstract method, and by something of the one with code
no_shape : AreShapePartsAt image 0 None
unfolding image source class_a class_of_source abstract_a all_methods
no_shape found code there runs =
    let same : Abstract ≡ found.method.body = ap found_body there in
    let body : Abstract ≡ Runs code = same ∙ runs in absurd cc

some_shape : AreShapePartsAt image 1 None → ⊥
unfolding image source class_a class_of_source bare_x all_methods
some_shape none = none (record { class = codes "A"; method = record bare_x { body = Runs (code_in pool parts) } }) (code_in pool parts) refl refl
