-- Which operands instructions take, by opcode and by what their index names; constants of fields, and what rows catch.
use Rattle.std.proofs.Common.{◌≡◌, ℕ, Bool, true, false, List, [], ◌∷◌, map, Option, Some, None, refl, sym, ap, ◌∙◌, subst, codes, pos, arith, set, get_or, slice_get, option_and_then}
use Rattle.std.proofs.lemmas.Bool.{false≢true}
use Rattle.std.proofs.lemmas.Option.{none-some}
use Rattle.dj_names.specs.declared.descriptor.Base.TheVariants as bases
use Rattle.dj_names.specs.declared.descriptor.Desc.TheVariants as descs
use Rattle.dj_names.specs.declared.run.Value.{Value}
use Rattle.dj_names.specs.declared.run.Value.TheVariants as values
use Rattle.dj_names.specs.trusted.Heaps.{field_bits}
use Rattle.dj_names.specs.trusted.DescReading.{dims_read, name_read, class_read, of_read, type_read, params_read, field_read, return_read, method_read, desc_read}
use Rattle.dj_names.specs.trusted.NameReading.{reads_class_name}
use Rattle.dj_names.specs.trusted.Tests.{units_read}
use Rattle.dj_names.specs.trusted.Types.{class_type, base_type, base_array, array_type}
use Rattle.dj_names.specs.trusted.UnitReading.{unit_read, long_read, two_read}
use Rattle.dj_ops.specs.declared.instruction.Instr.{Instr}
use Rattle.dj_ops.specs.declared.instruction.Instr.TheVariants as instrs
use Rattle.dj_ops.specs.Mnemonics.{nop, bipush, ldc, iload, goto, return, getstatic, putstatic, getfield, putfield, invokevirtual, invokespecial, invokestatic, new, anewarray, checkcast, instanceof}
use Rattle.dj_labels.specs.declared.labelled.Protected.{Protected}
use Rattle.dj_pool.specs.trusted.Pool.{Constant, Utf8, Integer, Long, Hole, Class, Text, Field, Method, InterfaceMethod, NameAndType}
use Rattle.dj_model.specs.trusted.Types.{Member}
use Rattle.dj_model.specs.trusted.Instructions.{Named, Nothing, AnInt, ALong, AText, AClass, AField, AMethod, AnInterfaceMethod, Another}
use Rattle.dj_model.specs.trusted.Opcodes.{instruction_of, array_rows}
use Rattle.dj_model.specs.trusted.Program as programs
use Rattle.dj_model.specs.trusted.Program.{Runs}
use Rattle.dj_model.specs.trusted.Linking.{FoundField, most_classes, chain_of, interfaces_from, interfaces_above, field_order, resolve_method, resolve_field, static_place}
use Rattle.dj_model.specs.trusted.State.{State, Terms}
use Rattle.dj_model.specs.trusted.Initialisation.{Initialised, Ready, with_static, with_constants}
use Rattle.dj_early_rules.specs.trusted.Instructions.{index_of}
use Rattle.dj_declarations.specs.trusted.Files.{desc_in, type_in, no_code}
use Rattle.dj_program.specs.trusted.Naming.{named_at, named_by, named_if, units_in}
use Rattle.dj_program.specs.trusted.Codes.{CodeParts, catches_in}
use Rattle.dj_numbering.specs.Members.{all_methods, all_fields}
use Rattle.dj_image.specs.declared.operand.Operand.{Operand}
use Rattle.dj_image.specs.declared.operand.Operand.TheVariants as operands
use Rattle.dj_image.specs.Sources.{Source, class_of_source}
use Rattle.dj_image.specs.Imaged.{Imaged, program_of}
use Rattle.dj_image.specs.Operands.{takes_named, operand_of, named_class, made_class, value_operand}
use Rattle.dj_image.specs.Codes.{PooledCode, all_codes, IsCaughtAt, IsConstantAt}
use Rattle.dj_image.specs.Taken.{takes_literal, takes_member, takes_operand, interface_at, indexed_operand, base_text}

-- ---- by what an index names

abbrev x : Member
x = record { class = class_type (codes "A"); name = codes "x"; desc = descs.Field (base_type bases.Int) }

abbrev m : Member
m = record { class = class_type (codes "A"); name = codes "m"; desc = descs.Method [] None }

-- nothing, an int, a long, a text, a class, a field, a method, a method of an interface, and another thing
abbrev each : List Named
each = Nothing ∷ AnInt (pos 7) ∷ ALong (pos 9) ∷ AText [] ∷ AClass (class_type (codes "A")) ∷ AField x ∷ AMethod m ∷ AnInterfaceMethod m ∷ Another ∷ []

abbrev takes : Instr → List Bool
takes instr = map (takes_named instr) each

abbrev nothing_taken : List Bool
nothing_taken = false ∷ false ∷ false ∷ false ∷ false ∷ false ∷ false ∷ false ∷ false ∷ []

abbrev ints_and_such : List Bool
ints_and_such = false ∷ true ∷ false ∷ true ∷ true ∷ false ∷ false ∷ false ∷ false ∷ []

abbrev longs_alone : List Bool
longs_alone = false ∷ false ∷ true ∷ false ∷ false ∷ false ∷ false ∷ false ∷ false ∷ []

abbrev classes_alone : List Bool
classes_alone = false ∷ false ∷ false ∷ false ∷ true ∷ false ∷ false ∷ false ∷ false ∷ []

abbrev fields_alone : List Bool
fields_alone = false ∷ false ∷ false ∷ false ∷ false ∷ true ∷ false ∷ false ∷ false ∷ []

abbrev methods_alone : List Bool
methods_alone = false ∷ false ∷ false ∷ false ∷ false ∷ false ∷ true ∷ false ∷ false ∷ []

abbrev all_methods_named : List Bool
all_methods_named = false ∷ false ∷ false ∷ false ∷ false ∷ false ∷ true ∷ true ∷ false ∷ []

abbrev interfaces_alone : List Bool
interfaces_alone = false ∷ false ∷ false ∷ false ∷ false ∷ false ∷ false ∷ true ∷ false ∷ []

-- ldc and ldc_w an int, a text or a class, and ldc2_w a long
literals_take : map (λ (op : ℕ). takes (instrs.Literal op 1)) (18 ∷ 19 ∷ 20 ∷ []) ≡ ints_and_such ∷ ints_and_such ∷ longs_alone ∷ []
literals_take = refl

-- of a field getstatic, putstatic, getfield and putfield; invokevirtual of a method of a class, invokespecial and invokestatic of each method
members_take : map (λ (op : ℕ). takes (instrs.Member op 1)) (getstatic ∷ putstatic ∷ getfield ∷ putfield ∷ invokevirtual ∷ invokespecial ∷ invokestatic ∷ [])
    ≡ fields_alone ∷ fields_alone ∷ fields_alone ∷ fields_alone ∷ methods_alone ∷ all_methods_named ∷ all_methods_named ∷ []
members_take = refl

-- invokeinterface of a method of an interface alone
interface_takes : takes (instrs.Interface 1 1) ≡ interfaces_alone
interface_takes = refl

-- new, anewarray, checkcast, instanceof and multianewarray of a class
classes_take : map (λ (op : ℕ). takes (instrs.Class op 1)) (new ∷ anewarray ∷ checkcast ∷ instanceof ∷ []) ≡ classes_alone ∷ classes_alone ∷ classes_alone ∷ classes_alone ∷ []
classes_take = refl

multi_takes : takes (instrs.Multi 1 2) ≡ classes_alone
multi_takes = refl

-- and the others nothing, invokedynamic too
others_take : map takes (instrs.Simple nop ∷ instrs.Push bipush (pos 1) ∷ instrs.Local iload 0 false ∷ instrs.Branch goto (pos 3) ∷ instrs.Dynamic 1 ∷ instrs.Array 10 ∷ [])
    ≡ nothing_taken ∷ nothing_taken ∷ nothing_taken ∷ nothing_taken ∷ nothing_taken ∷ nothing_taken ∷ []
others_take = refl

interface_not_virtual : takes_named (instrs.Member invokevirtual 1) (AnInterfaceMethod m) ≡ true → ⊥
interface_not_virtual e = false≢true e

long_not_by_ldc : takes_named (instrs.Literal ldc 1) (ALong (pos 9)) ≡ true → ⊥
long_not_by_ldc e = false≢true e

-- ---- by what is kept of a constant

abbrev each_kept : List Operand
each_kept =
    operands.Nothing ∷ operands.Unresolved ∷ operands.Int (pos 7) ∷ operands.Long (pos 9) ∷ operands.Text 0 ∷ operands.Class 0
    ∷ operands.Field (record { number = 0 }) ∷ operands.Method (record { number = 0 }) ∷ []

literals_kept : map (λ (op : ℕ). map (takes_literal op) each_kept) (18 ∷ 19 ∷ 20 ∷ [])
    ≡ (false ∷ false ∷ true ∷ false ∷ true ∷ true ∷ false ∷ false ∷ [])
    ∷ (false ∷ false ∷ true ∷ false ∷ true ∷ true ∷ false ∷ false ∷ [])
    ∷ (false ∷ false ∷ false ∷ true ∷ false ∷ false ∷ false ∷ false ∷ [])
    ∷ []
literals_kept = refl

abbrev member_ops : List ℕ
member_ops = getstatic ∷ putstatic ∷ getfield ∷ putfield ∷ invokevirtual ∷ invokespecial ∷ invokestatic ∷ []

-- of a field, of a method of a class, and of one of an interface
fields_kept : map (λ (op : ℕ). takes_member op false (operands.Field (record { number = 0 }))) member_ops ≡ true ∷ true ∷ true ∷ true ∷ false ∷ false ∷ false ∷ []
fields_kept = refl

methods_kept : map (λ (op : ℕ). takes_member op false (operands.Method (record { number = 0 }))) member_ops ≡ false ∷ false ∷ false ∷ false ∷ true ∷ true ∷ true ∷ []
methods_kept = refl

interface_methods_kept : map (λ (op : ℕ). takes_member op true (operands.Method (record { number = 0 }))) member_ops ≡ false ∷ false ∷ false ∷ false ∷ false ∷ true ∷ true ∷ []
interface_methods_kept = refl

-- invokeinterface of a method of an interface, not of one of a class; and what is unresolved isn't taken
interfaces_kept : map (takes_operand (instrs.Interface 1 1) true) each_kept ≡ false ∷ false ∷ false ∷ false ∷ false ∷ false ∷ false ∷ true ∷ []
interfaces_kept = refl

interfaces_of_none : map (takes_operand (instrs.Interface 1 1) false) each_kept ≡ false ∷ false ∷ false ∷ false ∷ false ∷ false ∷ false ∷ false ∷ []
interfaces_of_none = refl

classes_kept : map (takes_operand (instrs.Class new 1) false) each_kept ≡ false ∷ false ∷ false ∷ false ∷ false ∷ true ∷ false ∷ false ∷ []
classes_kept = refl

multi_kept : map (takes_operand (instrs.Multi 1 2) false) each_kept ≡ false ∷ false ∷ false ∷ false ∷ false ∷ true ∷ false ∷ false ∷ []
multi_kept = refl

dynamic_kept : map (takes_operand (instrs.Dynamic 1) false) each_kept ≡ false ∷ false ∷ false ∷ false ∷ false ∷ false ∷ false ∷ false ∷ []
dynamic_kept = refl

-- of index 1 a method of an interface, of 2 one of a class, and of no other index
abbrev kinds : List Constant
kinds = InterfaceMethod 9 9 ∷ Method 9 9 ∷ []

abbrev kept : List Operand
kept = operands.Unresolved ∷ operands.Method (record { number = 3 }) ∷ operands.Method (record { number = 4 }) ∷ []

of_interfaces : map (interface_at kinds) (0 ∷ 1 ∷ 2 ∷ 3 ∷ []) ≡ false ∷ true ∷ false ∷ false ∷ []
of_interfaces = refl

virtual_kept : map (λ (index : ℕ). indexed_operand kinds kept (instrs.Member invokevirtual index) (Some index)) (0 ∷ 1 ∷ 2 ∷ 3 ∷ [])
    ≡ operands.Unresolved ∷ operands.Unresolved ∷ operands.Method (record { number = 4 }) ∷ operands.Unresolved ∷ []
virtual_kept = refl

static_kept : map (λ (index : ℕ). indexed_operand kinds kept (instrs.Member invokestatic index) (Some index)) (1 ∷ 2 ∷ [])
    ≡ operands.Method (record { number = 3 }) ∷ operands.Method (record { number = 4 }) ∷ []
static_kept = refl

interface_kept : map (λ (index : ℕ). indexed_operand kinds kept (instrs.Interface index 1) (Some index)) (1 ∷ 2 ∷ [])
    ≡ operands.Method (record { number = 3 }) ∷ operands.Unresolved ∷ []
interface_kept = refl

no_index_kept : indexed_operand kinds kept (instrs.Simple nop) None ≡ operands.Nothing
no_index_kept = refl

-- newarray of ints, of booleans, and of floats, of which none is made
base_texts : map (base_text array_rows) (10 ∷ 4 ∷ 6 ∷ []) ≡ Some (codes "[I") ∷ Some (codes "[Z") ∷ None ∷ []
base_texts = refl

-- ---- a class: a method m, an instance field x and a static one y, each with a constant

-- 2 the class A, 6 its field x, 10 and 11 its method m, as one of a class and as one of an interface; 13 a class that isn't there, 14, 15 and 16 the same for it;
-- 17 an int, 19 a text and 21 one without a number, 22 and 23 a long, 25 the arrays of A, and 27 those of longs, which have no number
pool : List Constant
pool =
    Utf8 (codes "A") ∷ Class 1 ∷ Utf8 (codes "x") ∷ Utf8 (codes "I") ∷ NameAndType 3 4 ∷ Field 2 5 ∷ Utf8 (codes "m") ∷ Utf8 (codes "()V") ∷ NameAndType 7 8 ∷ Method 2 9
    ∷ InterfaceMethod 2 9 ∷ Utf8 (codes "C") ∷ Class 12 ∷ Field 13 5 ∷ Method 13 9 ∷ InterfaceMethod 13 9 ∷ Integer (pos 7) ∷ Utf8 (codes "s") ∷ Text 18 ∷ Utf8 (codes "u")
    ∷ Text 20 ∷ Long (pos 9) ∷ Hole ∷ Utf8 (codes "[LA;") ∷ Class 24
    ∷ Utf8 (codes "[J") ∷ Class 26 ∷ []

field_x : programs.Field
field_x = record { flags = 1; name = codes "x"; desc = descs.Field (base_type bases.Int); constant = None }

field_y : programs.Field
field_y = record { flags = 8; name = codes "y"; desc = descs.Field (base_type bases.Int); constant = None }

method_m : programs.Method
method_m = record { flags = 1; name = codes "m"; desc = descs.Method [] None; body = Runs no_code }

class_a : programs.Class
class_a = record {
  name = codes "A";
  flags = 0;
  superclass = None;
  interfaces = [];
  unnamed_fields = 0;
  fields = field_x ∷ field_y ∷ [];
  methods = method_m ∷ [];
}

-- of everything, of A, of its field and of its methods, of what is of C, of an int, and of arrays of longs
ranges : List Protected
ranges =
    record { start = 0; end = 1; handler = 1; catch_type = 0 } ∷ record { start = 0; end = 1; handler = 1; catch_type = 2 }
    ∷ record { start = 0; end = 1; handler = 1; catch_type = 6 } ∷ record { start = 0; end = 1; handler = 1; catch_type = 10 }
    ∷ record { start = 0; end = 1; handler = 1; catch_type = 11 } ∷ record { start = 0; end = 1; handler = 1; catch_type = 14 }
    ∷ record { start = 0; end = 1; handler = 1; catch_type = 17 } ∷ record { start = 0; end = 1; handler = 1; catch_type = 27 } ∷ []

parts : CodeParts
parts = record { max_stack = 1; max_locals = 2; labelled = record { code = instrs.Simple nop ∷ instrs.Simple return ∷ []; ranges = ranges }; frames = Some [] }

source : Source
source = record { class = class_a; pool = pool; codes = Some parts ∷ []; values = Some (programs.Int (pos 5)) ∷ Some (programs.Int (pos 6)) ∷ [] }

-- A is number 0, and the arrays of it 1
image : Imaged
image = record { sources = source ∷ []; prefix = []; arrays = array_type (class_type (codes "A")) ∷ []; texts = (115 ∷ []) ∷ [] }

-- ---- reported as what is there, or as unresolved

abbrev say : Instr → Operand
say instr = operand_of image instr (named_if pool (index_of instr))

abbrev field_0 : Operand
field_0 = operands.Field (record { number = 0 })

abbrev method_0 : Operand
method_0 = operands.Method (record { number = 0 })

fields_reported : map (λ (op : ℕ). say (instrs.Member op 6)) member_ops
    ≡ field_0 ∷ field_0 ∷ field_0 ∷ field_0 ∷ operands.Unresolved ∷ operands.Unresolved ∷ operands.Unresolved ∷ []
unfolding image source class_a class_of_source field_x field_y method_m pool operand_of instruction_of named_by all_methods all_fields resolve_method resolve_field most_classes chain_of interfaces_from interfaces_above field_order desc_in type_in dims_read name_read class_read of_read type_read params_read field_read return_read method_read desc_read reads_class_name
fields_reported = refl

methods_reported : map (λ (op : ℕ). say (instrs.Member op 10)) member_ops
    ≡ operands.Unresolved ∷ operands.Unresolved ∷ operands.Unresolved ∷ operands.Unresolved ∷ method_0 ∷ method_0 ∷ method_0 ∷ []
unfolding image source class_a class_of_source field_x field_y method_m pool operand_of instruction_of named_by all_methods all_fields resolve_method resolve_field most_classes chain_of interfaces_from interfaces_above field_order desc_in type_in dims_read name_read class_read of_read type_read params_read field_read return_read method_read desc_read reads_class_name
methods_reported = refl

interface_methods_reported : map (λ (op : ℕ). say (instrs.Member op 11)) member_ops
    ≡ operands.Unresolved ∷ operands.Unresolved ∷ operands.Unresolved ∷ operands.Unresolved ∷ operands.Unresolved ∷ method_0 ∷ method_0 ∷ []
unfolding image source class_a class_of_source field_x field_y method_m pool operand_of instruction_of named_by all_methods all_fields resolve_method resolve_field most_classes chain_of interfaces_from interfaces_above field_order desc_in type_in dims_read name_read class_read of_read type_read params_read field_read return_read method_read desc_read reads_class_name
interface_methods_reported = refl

-- invokeinterface of a method of an interface, of one of a class, of a field and of a class; and of what isn't there
interfaces_reported : map (λ (index : ℕ). say (instrs.Interface index 1)) (11 ∷ 10 ∷ 6 ∷ 2 ∷ 16 ∷ [])
    ≡ method_0 ∷ operands.Unresolved ∷ operands.Unresolved ∷ operands.Unresolved ∷ operands.Unresolved ∷ []
unfolding image source class_a class_of_source field_x field_y method_m pool operand_of instruction_of named_by all_methods all_fields resolve_method resolve_field most_classes chain_of interfaces_from interfaces_above field_order desc_in type_in dims_read name_read class_read of_read type_read params_read field_read return_read method_read desc_read reads_class_name
interfaces_reported = refl

-- of a class that isn't there a field, a method, and a method of an interface
missing_reported : map say (instrs.Member getstatic 14 ∷ instrs.Member putfield 14 ∷ instrs.Member invokevirtual 15 ∷ instrs.Member invokestatic 15 ∷ instrs.Member invokespecial 16 ∷ [])
    ≡ operands.Unresolved ∷ operands.Unresolved ∷ operands.Unresolved ∷ operands.Unresolved ∷ operands.Unresolved ∷ []
unfolding image source class_a class_of_source field_x field_y method_m pool operand_of instruction_of named_by all_methods all_fields resolve_method resolve_field most_classes chain_of interfaces_from interfaces_above field_order desc_in type_in dims_read name_read class_read of_read type_read params_read field_read return_read method_read desc_read reads_class_name
missing_reported = refl

-- new, checkcast and instanceof of a class and of an array, and anewarray of a class, of which the arrays have a number, and of an array, of which they have none
classes_reported : map say (instrs.Class new 2 ∷ instrs.Class checkcast 2 ∷ instrs.Class instanceof 2 ∷ instrs.Class instanceof 25 ∷ instrs.Class anewarray 2 ∷ instrs.Class anewarray 25 ∷ [])
    ≡ operands.Class 0 ∷ operands.Class 0 ∷ operands.Class 0 ∷ operands.Class 1 ∷ operands.Class 1 ∷ operands.Unresolved ∷ []
unfolding image source class_a class_of_source field_x field_y method_m pool operand_of instruction_of named_by desc_in type_in dims_read name_read class_read of_read type_read params_read field_read return_read method_read desc_read reads_class_name
classes_reported = refl

-- multianewarray of an array, of a class that isn't there, and of a field; and the others of a class that isn't there, of a field and of an int
no_classes_reported : map say (instrs.Multi 25 1 ∷ instrs.Multi 13 1 ∷ instrs.Multi 6 1 ∷ instrs.Class new 13 ∷ instrs.Class anewarray 13 ∷ instrs.Class checkcast 6 ∷ instrs.Class instanceof 17 ∷ instrs.Class anewarray 10 ∷ [])
    ≡ operands.Class 1 ∷ operands.Unresolved ∷ operands.Unresolved ∷ operands.Unresolved ∷ operands.Unresolved ∷ operands.Unresolved ∷ operands.Unresolved ∷ operands.Unresolved ∷ []
unfolding image source class_a class_of_source field_x field_y method_m pool operand_of instruction_of named_by desc_in type_in dims_read name_read class_read of_read type_read params_read field_read return_read method_read desc_read reads_class_name
no_classes_reported = refl

-- an int, a text, a text without a number, a class, a class that isn't there, and a long
abbrev constants : List ℕ
constants = 17 ∷ 19 ∷ 21 ∷ 2 ∷ 13 ∷ 22 ∷ []

literals_reported : map (λ (op : ℕ). map (λ (index : ℕ). say (instrs.Literal op index)) constants) (18 ∷ 19 ∷ 20 ∷ [])
    ≡ (operands.Int (pos 7) ∷ operands.Text 0 ∷ operands.Unresolved ∷ operands.Class 0 ∷ operands.Unresolved ∷ operands.Unresolved ∷ [])
    ∷ (operands.Int (pos 7) ∷ operands.Text 0 ∷ operands.Unresolved ∷ operands.Class 0 ∷ operands.Unresolved ∷ operands.Unresolved ∷ [])
    ∷ (operands.Unresolved ∷ operands.Unresolved ∷ operands.Unresolved ∷ operands.Unresolved ∷ operands.Unresolved ∷ operands.Long (pos 9) ∷ [])
    ∷ []
unfolding image source class_a class_of_source field_x field_y method_m pool operand_of instruction_of named_by units_in units_read unit_read long_read two_read desc_in type_in dims_read name_read class_read of_read type_read params_read field_read return_read method_read desc_read reads_class_name
literals_reported = refl

-- what anewarray makes of a class, of an array, of a class that isn't there, and of a field
made_reported : map (λ (index : ℕ). made_class image (named_at pool index)) (2 ∷ 25 ∷ 13 ∷ 6 ∷ []) ≡ Some 1 ∷ None ∷ None ∷ None ∷ []
unfolding image source class_a class_of_source field_x field_y method_m pool named_by desc_in type_in dims_read name_read class_read of_read type_read params_read field_read return_read method_read desc_read reads_class_name
made_reported = refl

-- ---- constants of fields

found_x : FoundField
found_x = record { class = codes "A"; field = record field_x { constant = Some (programs.Int (pos 5)) } }

found_y : FoundField
found_y = record { class = codes "A"; field = record field_y { constant = Some (programs.Int (pos 6)) } }

-- of an instance field as of a static one
constants_reported : IsConstantAt image 0 (operands.Int (pos 5)) × IsConstantAt image 1 (operands.Int (pos 6))
unfolding image source class_a class_of_source field_x field_y all_fields found_x found_y
constants_reported = (record { found = found_x; there = refl; is = refl }, record { found = found_y; there = refl; is = refl })

abbrev found_constant : Option FoundField → Option programs.Constant
found_constant None = None
found_constant (Some found) = found.field.constant

x_constant : (operand : Operand) → IsConstantAt image 0 operand → operand ≡ operands.Int (pos 5)
unfolding image source class_a class_of_source field_x field_y all_fields
x_constant operand reported =
    let same : Some (programs.Int (pos 5)) ≡ reported.found.field.constant = ap found_constant reported.there in
    reported.is ∙ sym (ap (value_operand image) same)

-- not as nothing, nor that of the other field
not_nothing : IsConstantAt image 0 operands.Nothing → ⊥
not_nothing reported = let e : operands.Nothing ≡ operands.Int (pos 5) = x_constant operands.Nothing reported in absurd cc

not_of_y : IsConstantAt image 0 (operands.Int (pos 6)) → ⊥
not_of_y reported = let e : operands.Int (pos 6) ≡ operands.Int (pos 5) = x_constant (operands.Int (pos 6)) reported in absurd cc

-- JVMS 4.7.2: that of an instance field sets nothing where its class is initialised, and that of a static one sets its place
instance_ignored : (terms : Terms) (s : State) → with_constants (program_of image) [] terms (codes "A") (found_x.field ∷ []) s ≡ Ready s
unfolding with_constants field_x found_x
instance_ignored terms s = refl

abbrev six : Value
six = values.Int (pos 6)

static_set : (terms : Terms) (s : State) → with_constants (program_of image) [] terms (codes "A") (found_x.field ∷ found_y.field ∷ []) s ≡ Ready (with_static s 0 six)
unfolding with_constants static_place image source class_a class_of_source field_x field_y found_x found_y
static_set terms s = refl

abbrev statics_of : Initialised → List ℕ
statics_of (Ready s) = s.statics
statics_of other = []

static_not_ignored : (terms : Terms) (s : State) → s.statics ≡ 0 ∷ [] → with_constants (program_of image) [] terms (codes "A") (found_x.field ∷ found_y.field ∷ []) s ≡ Ready s → ⊥
static_not_ignored terms s empty e =
    let same : set s.statics 0 (field_bits six) ≡ s.statics = ap statics_of (sym (static_set terms s) ∙ e) in
    let bits : set (0 ∷ []) 0 (field_bits six) ≡ 0 ∷ [] = subst (λ (xs : List ℕ). set xs 0 (field_bits six) ≡ xs) empty same in
    let number : 6 ≡ 0 = ap (λ (xs : List ℕ). get_or xs 0 0) bits in
    absurd (omega (arith, number))

-- past the last field there is none
no_third : (operand : Operand) → IsConstantAt image 2 operand → ⊥
unfolding image source class_a class_of_source field_x field_y all_fields
no_third operand reported = none-some reported.found reported.there

-- ---- rows

-- a row's class is reported, also that of a field or a method; none of what isn't there, of an int, and of an array without a number
caught : (range : ℕ) (row : Protected) (class : Option ℕ) → slice_get ranges range ≡ Some row → class ≡ option_and_then (named_class image) (catches_in pool row.catch_type) → IsCaughtAt image 0 range class
unfolding image source all_codes parts
caught range row class stands is = record { code = record { pool = pool; parts = parts }; own = refl; row = row; stands = stands; is = is }

abbrev row_of : ℕ → Protected
row_of index = record { start = 0; end = 1; handler = 1; catch_type = index }

rows_catch : IsCaughtAt image 0 0 None × IsCaughtAt image 0 1 (Some 0) × IsCaughtAt image 0 2 (Some 0) × IsCaughtAt image 0 3 (Some 0) × IsCaughtAt image 0 4 (Some 0)
    × IsCaughtAt image 0 5 None × IsCaughtAt image 0 6 None × IsCaughtAt image 0 7 None
unfolding image source class_a class_of_source pool ranges named_by desc_in type_in dims_read name_read class_read of_read type_read params_read field_read return_read method_read desc_read reads_class_name
rows_catch = (
  caught 0 (row_of 0) None refl refl,
  caught 1 (row_of 2) (Some 0) refl refl,
  caught 2 (row_of 6) (Some 0) refl refl,
  caught 3 (row_of 10) (Some 0) refl refl,
  caught 4 (row_of 11) (Some 0) refl refl,
  caught 5 (row_of 14) None refl refl,
  caught 6 (row_of 17) None refl refl,
  caught 7 (row_of 27) None refl refl,
)

-- those rows name something all the same; index 0 alone catches everything
rows_name : map (catches_in pool) (0 ∷ 2 ∷ 6 ∷ 11 ∷ 14 ∷ 17 ∷ 27 ∷ [])
    ≡ None ∷ Some (AClass (class_type (codes "A"))) ∷ Some (AField x) ∷ Some (AnInterfaceMethod m) ∷ Some (AField (record x { class = class_type (codes "C") })) ∷ Some (AnInt (pos 7))
    ∷ Some (AClass (base_array bases.Long)) ∷ []
unfolding pool named_by desc_in type_in dims_read name_read class_read of_read type_read params_read field_read return_read method_read desc_read reads_class_name
rows_name = refl

-- what is reported of a row is what its index names
row_reported : (range : ℕ) (row : Protected) (class : Option ℕ) → slice_get ranges range ≡ Some row → IsCaughtAt image 0 range class → class ≡ option_and_then (named_class image) (catches_in pool row.catch_type)
unfolding image source all_codes parts
row_reported range row class stands reported =
    let e : Some (record { pool = pool; parts = parts }) ≡ Some reported.code = reported.own in
    let same : reported.code ≡ record { pool = pool; parts = parts } = cc in
    let other : slice_get ranges range ≡ Some reported.row = subst (λ (c : PooledCode). slice_get c.parts.labelled.ranges range ≡ Some reported.row) same reported.stands in
    let one : reported.row ≡ row = cc in
    reported.is
    ∙ ap (λ (c : PooledCode). option_and_then (named_class image) (catches_in c.pool reported.row.catch_type)) same
    ∙ ap (λ (r : Protected). option_and_then (named_class image) (catches_in pool r.catch_type)) one

-- a row with a field's index names a class, and one of what isn't there names none
field_not_left_out : IsCaughtAt image 0 2 None → ⊥
unfolding image source class_a class_of_source pool ranges named_by desc_in type_in dims_read name_read class_read of_read type_read params_read field_read return_read method_read desc_read reads_class_name
field_not_left_out reported = let e : None ≡ Some 0 = row_reported 2 (row_of 6) None refl reported in none-some 0 e

missing_not_caught : IsCaughtAt image 0 5 (Some 0) → ⊥
unfolding image source class_a class_of_source pool ranges named_by desc_in type_in dims_read name_read class_read of_read type_read params_read field_read return_read method_read desc_read reads_class_name
missing_not_caught reported = let e : Some 0 ≡ None = row_reported 5 (row_of 14) (Some 0) refl reported in none-some 0 (sym e)

int_not_caught : IsCaughtAt image 0 6 (Some 0) → ⊥
unfolding image source class_a class_of_source pool ranges named_by desc_in type_in dims_read name_read class_read of_read type_read params_read field_read return_read method_read desc_read reads_class_name
int_not_caught reported = let e : Some 0 ≡ None = row_reported 6 (row_of 17) (Some 0) refl reported in none-some 0 (sym e)
