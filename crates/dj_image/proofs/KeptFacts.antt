-- What constants are as operands by what is kept of texts, and which arrays have rows, by plain values.
use Rattle.std.proofs.Common.{◌≡◌, ℕ, List, [], ◌∷◌, map, Option, Some, None, refl, codes, pos, arith}
use Rattle.dj_names.specs.declared.descriptor.Base.TheVariants as bases
use Rattle.dj_names.specs.declared.descriptor.Desc.TheVariants as descs
use Rattle.dj_names.specs.trusted.DescReading.{dims_read, name_read, class_read, of_read, type_read, params_read, field_read, return_read, method_read, desc_read}
use Rattle.dj_names.specs.trusted.NameReading.{reads_class_name}
use Rattle.dj_names.specs.trusted.Types.{class_type, base_type, base_array, array_type}
use Rattle.dj_ops.specs.declared.instruction.Instr.TheVariants as instrs
use Rattle.dj_ops.specs.Mnemonics.{nop, ldc, ldc2_w, new, anewarray, checkcast, instanceof}
use Rattle.dj_pool.specs.trusted.Pool.{Constant, Utf8, Integer, Float, Long, Hole, Class, Text, Field, Method, InterfaceMethod, NameAndType, Handle, MethodType, Dynamic}
use Rattle.dj_model.specs.trusted.Program as programs
use Rattle.dj_model.specs.trusted.Program.{Runs}
use Rattle.dj_model.specs.trusted.Linking.{most_classes, chain_of, interfaces_from, interfaces_above, field_order, resolve_method, resolve_field}
use Rattle.dj_declarations.specs.trusted.Files.{desc_in, type_in, no_code}
use Rattle.dj_numbering.specs.Typed.{Typed}
use Rattle.dj_numbering.specs.Members.{all_methods, all_fields}
use Rattle.dj_image.specs.declared.operand.Operand.{Operand}
use Rattle.dj_image.specs.declared.operand.Operand.TheVariants as operands
use Rattle.dj_image.specs.declared.owned.OwnedEntry.TheVariants as entries
use Rattle.dj_image.specs.Owned.{constant_of_owned}
use Rattle.dj_image.specs.Homes.{operand_at}
use Rattle.dj_image.specs.Taken.{base_operand, class_kept, kept_operand}
use Rattle.dj_image.specs.ArrayRows.{brackets, IsRow, known_types}
use Rattle.dj_image.proofs.Members.{member_first, member_later, member_none}
use Rattle.dj_image.proofs.TypeFacts.{ints, a_arrays, b_arrays}

-- ---- constants of kept entries

entries_shown : map constant_of_owned (
    entries.Utf8 (codes "A") ∷ entries.Integer (pos 1) ∷ entries.Long (pos 2) ∷ entries.Class 3 ∷ entries.Text 4 ∷ entries.Field 5 6 ∷ entries.Method 5 6 ∷ entries.InterfaceMethod 5 6
    ∷ entries.NameAndType 7 8 ∷ entries.Handle 9 10 ∷ entries.MethodType 11 ∷ entries.Dynamic 12 13 ∷ entries.Hole ∷ []
    ) ≡ Utf8 (codes "A") ∷ Integer (pos 1) ∷ Long (pos 2) ∷ Class 3 ∷ Text 4 ∷ Field 5 6 ∷ Method 5 6 ∷ InterfaceMethod 5 6 ∷ NameAndType 7 8 ∷ Handle 9 10 ∷ MethodType 11 ∷ Dynamic 12 13 ∷ Hole ∷ []
entries_shown = refl

not_method : constant_of_owned (entries.Method 5 6) ≡ InterfaceMethod 5 6 → ⊥
not_method e = let same : Method 5 6 ≡ InterfaceMethod 5 6 = e in absurd cc

-- ---- constants as operands

-- 2 the class A, 6 its field x, 9 and 10 its method m, 11 an int, 12 and 13 a long, 15 a text, 16 a float, 18 a class that isn't there and 19 a field of it
pool : List Constant
pool =
    Utf8 (codes "A") ∷ Class 1 ∷ Utf8 (codes "x") ∷ Utf8 (codes "I") ∷ NameAndType 3 4 ∷ Field 2 5 ∷ Utf8 (codes "()V") ∷ NameAndType 3 7 ∷ Method 2 8 ∷ InterfaceMethod 2 8
    ∷ Integer (pos 7) ∷ Long (pos 9) ∷ Hole ∷ Utf8 (codes "s") ∷ Text 14 ∷ Float 0 ∷ Utf8 (codes "C") ∷ Class 17 ∷ Field 18 5 ∷ []

field_x : programs.Field
field_x = record { flags = 1; name = codes "x"; desc = descs.Field (base_type bases.Int); constant = None }

method_x : programs.Method
method_x = record { flags = 1; name = codes "x"; desc = descs.Method [] None; body = Runs no_code }

class_a : programs.Class
class_a = record {
  name = codes "A";
  flags = 0;
  superclass = None;
  interfaces = [];
  unnamed_fields = 0;
  fields = field_x ∷ [];
  methods = method_x ∷ [];
}

-- A is number 0, the arrays of ints 1, and those of A 2
types : Typed
types = record { program = class_a ∷ []; prefix = []; arrays = base_array bases.Int ∷ array_type (class_type (codes "A")) ∷ [] }

-- the text of index 14 has number 3, and the class of the text of index 1 number 0
abbrev texts : List (Option ℕ)
texts = None ∷ None ∷ None ∷ None ∷ None ∷ None ∷ None ∷ None ∷ None ∷ None ∷ None ∷ None ∷ None ∷ None ∷ Some 3 ∷ []

abbrev classes : List (Option ℕ)
classes = None ∷ Some 0 ∷ []

abbrev say : ℕ → Operand
say index = operand_at types pool texts classes None index

simple_reported : map say (11 ∷ 12 ∷ 13 ∷ 15 ∷ 2 ∷ 18 ∷ 16 ∷ 1 ∷ 5 ∷ 0 ∷ 99 ∷ [])
    ≡ operands.Int (pos 7) ∷ operands.Long (pos 9) ∷ operands.Unresolved ∷ operands.Text 3 ∷ operands.Class 0 ∷ operands.Unresolved ∷ operands.Unresolved ∷ operands.Unresolved
    ∷ operands.Unresolved ∷ operands.Unresolved ∷ operands.Unresolved ∷ []
unfolding pool
simple_reported = refl

members_reported : map say (6 ∷ 9 ∷ 10 ∷ 19 ∷ [])
    ≡ operands.Field (record { number = 0 }) ∷ operands.Method (record { number = 0 }) ∷ operands.Method (record { number = 0 }) ∷ operands.Unresolved ∷ []
unfolding pool types class_a field_x method_x all_methods all_fields resolve_method resolve_field most_classes chain_of interfaces_from interfaces_above field_order desc_in type_in dims_read name_read class_read of_read type_read params_read field_read return_read method_read desc_read reads_class_name
members_reported = refl

-- ---- operands of instructions by the tables of a class

-- of ints there are arrays with a number, of longs there are none, and of floats none is made
bases_made : base_operand types (Some (codes "[I")) ∷ base_operand types (Some (codes "[J")) ∷ base_operand types None ∷ [] ≡ operands.Class 1 ∷ operands.Unresolved ∷ operands.Nothing ∷ []
unfolding types class_a
bases_made = refl

abbrev kept : List Operand
kept = operands.Unresolved ∷ operands.Class 0 ∷ operands.Int (pos 7) ∷ []

abbrev made : List (Option ℕ)
made = None ∷ Some 2 ∷ None ∷ []

-- anewarray by the arrays that are made, and the others by what is kept
arrays_kept : map (λ (op : ℕ). class_kept pool kept made op 1) (new ∷ anewarray ∷ checkcast ∷ instanceof ∷ []) ≡ operands.Class 0 ∷ operands.Class 2 ∷ operands.Class 0 ∷ operands.Class 0 ∷ []
arrays_kept = refl

operands_kept : map (kept_operand types pool kept made)
    (instrs.Array 10 ∷ instrs.Array 11 ∷ instrs.Array 6 ∷ instrs.Class anewarray 1 ∷ instrs.Class anewarray 2 ∷ instrs.Class new 2 ∷ instrs.Literal ldc 2 ∷ instrs.Literal ldc2_w 2 ∷ instrs.Simple nop ∷ instrs.Literal ldc 9 ∷ [])
    ≡ operands.Class 1 ∷ operands.Unresolved ∷ operands.Nothing ∷ operands.Class 2 ∷ operands.Unresolved ∷ operands.Unresolved ∷ operands.Int (pos 7) ∷ operands.Unresolved ∷ operands.Nothing ∷ operands.Unresolved ∷ []
unfolding kept_operand types class_a pool
operands_kept = refl

-- ---- rows of arrays

brackets_reported : map brackets ([] ∷ codes "I" ∷ codes "[I" ∷ codes "[[LA;" ∷ codes "I[" ∷ []) ≡ 0 ∷ 0 ∷ 1 ∷ 2 ∷ 0 ∷ []
brackets_reported = refl

rows_there : IsRow (ints ∷ a_arrays 2 ∷ []) ints × IsRow (ints ∷ a_arrays 2 ∷ []) (a_arrays 1)
rows_there = (
  (ints, member_first ints (a_arrays 2 ∷ []), record { array = omega arith; few = omega arith; within = omega arith; same = refl }),
  (a_arrays 2, member_later ints (a_arrays 2 ∷ []) (a_arrays 2) (member_first (a_arrays 2) []), record { array = omega arith; few = omega arith; within = omega arith; same = refl }),
)

no_row : IsRow [] ints → ⊥
no_row row = member_none row.0 row.1

known : map (known_types (class_a ∷ [])) ((ints ∷ b_arrays 1 ∷ a_arrays 1 ∷ []) ∷ (b_arrays 2 ∷ []) ∷ []) ≡ (ints ∷ a_arrays 1 ∷ []) ∷ [] ∷ []
unfolding class_a
known = refl
