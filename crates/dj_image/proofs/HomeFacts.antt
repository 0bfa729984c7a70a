-- In which class members are looked for, and what constants are as operands by it, by plain values.
use Rattle.std.proofs.Common.{◌≡◌, ℕ, zero, suc, ◌<◌, List, [], ◌∷◌, map, Option, Some, None, refl, ap, codes, pos, arith}
use Rattle.std.proofs.lemmas.Option.{none-some, same_Some}
use Rattle.dj_names.specs.declared.descriptor.Base.TheVariants as bases
use Rattle.dj_names.specs.declared.descriptor.Desc.TheVariants as descs
use Rattle.dj_names.specs.trusted.DescReading.{dims_read, name_read, class_read, of_read, type_read, params_read, field_read, return_read, method_read, desc_read}
use Rattle.dj_names.specs.trusted.Descriptors.{desc_text}
use Rattle.dj_names.specs.trusted.NameReading.{reads_class_name}
use Rattle.dj_names.specs.trusted.Types.{Name, base_type, base_array}
use Rattle.dj_pool.specs.trusted.Pool.{Constant, Utf8, Integer, Long, Float, Class, Text, Field, Method, InterfaceMethod, NameAndType}
use Rattle.dj_model.specs.trusted.Program as programs
use Rattle.dj_model.specs.trusted.Program.{Runs}
use Rattle.dj_model.specs.trusted.Linking.{most_classes, chain_of, interfaces_from, interfaces_above, field_order, resolve_method, resolve_field}
use Rattle.dj_declarations.specs.trusted.Files.{desc_in, no_code}
use Rattle.dj_numbering.specs.Typed.{Typed}
use Rattle.dj_numbering.specs.Members.{all_methods, all_fields}
use Rattle.dj_image.specs.declared.operand.Operand.{Operand}
use Rattle.dj_image.specs.declared.operand.Operand.TheVariants as operands
use Rattle.dj_image.specs.Homes.{AreHomes, IsDescribed, method_reported, field_reported, constant_operand, operand_if, operand_at}
use Rattle.dj_image.proofs.TypeFacts.{other_text}

-- A and Object have a field x and a method x each
abbrev field_x : programs.Field
field_x = record { flags = 1; name = codes "x"; desc = descs.Field (base_type bases.Int); constant = None }

abbrev method_x : programs.Method
method_x = record { flags = 1; name = codes "x"; desc = descs.Method [] None; body = Runs no_code }

abbrev class_of : Name → programs.Class
class_of name = record {
  name = name;
  flags = 0;
  superclass = None;
  interfaces = [];
  unnamed_fields = 0;
  fields = field_x ∷ [];
  methods = method_x ∷ [];
}

-- A is number 0, Object 1, and the arrays of ints 2
abbrev types : Typed
types = record { program = class_of (codes "A") ∷ class_of (codes "java/lang/Object") ∷ []; prefix = []; arrays = base_array bases.Int ∷ [] }

-- ---- members by their names and descriptors

abbrev named : Name → Name → Option (Name × Name)
named name desc = Some (name, desc)

abbrev each : List (Option (Name × Name))
each = named (codes "x") (codes "()V") ∷ named (codes "x") (codes "I") ∷ named (codes "y") (codes "()V") ∷ named (codes "()V") (codes "x") ∷ None ∷ []

methods_of_a : map (method_reported types (Some 0)) each ≡ Some 0 ∷ None ∷ None ∷ None ∷ None ∷ []
unfolding all_methods resolve_method most_classes chain_of interfaces_from interfaces_above desc_in dims_read name_read class_read of_read type_read params_read field_read return_read method_read desc_read reads_class_name
methods_of_a = refl

fields_of_a : map (field_reported types (Some 0)) each ≡ None ∷ Some 0 ∷ None ∷ None ∷ None ∷ []
unfolding all_fields resolve_field most_classes chain_of interfaces_from field_order desc_in dims_read name_read class_read of_read type_read params_read field_read return_read method_read desc_read reads_class_name
fields_of_a = refl

-- those of the class that is given, and none where none is
by_home : map (λ (home : Option ℕ). method_reported types home (named (codes "x") (codes "()V"))) (Some 0 ∷ Some 1 ∷ None ∷ []) ≡ Some 0 ∷ Some 1 ∷ None ∷ []
unfolding all_methods resolve_method most_classes chain_of interfaces_from interfaces_above desc_in dims_read name_read class_read of_read type_read params_read field_read return_read method_read desc_read reads_class_name
by_home = refl

fields_by_home : map (λ (home : Option ℕ). field_reported types home (named (codes "x") (codes "I"))) (Some 0 ∷ Some 1 ∷ None ∷ []) ≡ Some 0 ∷ Some 1 ∷ None ∷ []
unfolding all_fields resolve_field most_classes chain_of interfaces_from field_order desc_in dims_read name_read class_read of_read type_read params_read field_read return_read method_read desc_read reads_class_name
fields_by_home = refl

method_of_other : method_reported types (Some 1) (named (codes "x") (codes "()V")) ≡ Some 0 → ⊥
unfolding all_methods resolve_method most_classes chain_of interfaces_from interfaces_above desc_in dims_read name_read class_read of_read type_read params_read field_read return_read method_read desc_read reads_class_name
method_of_other e = let k : 1 ≡ 0 = same_Some 1 0 e in omega (arith, k)

field_of_none : field_reported types None (named (codes "x") (codes "I")) ≡ Some 0 → ⊥
field_of_none e = none-some 0 e

-- ---- descriptors

described : IsDescribed (named (codes "x") (codes "()V"))
unfolding desc_in dims_read name_read class_read of_read type_read params_read field_read return_read method_read desc_read reads_class_name
described = record { text_is = refl; valid = (tt, tt, omega arith) }

name_described : IsDescribed (named (codes "()V") (codes "x")) → ⊥
unfolding desc_in dims_read name_read class_read of_read type_read params_read field_read return_read method_read desc_read reads_class_name
name_described reported = other_text (codes "x") (desc_text (desc_in (codes "x"))) refl refl reported.text_is

-- ---- constants

-- 2 the class A, 4 the arrays of ints and 6 a class that isn't there, 9 and 11 x as a field and as a method
abbrev pool : List Constant
pool =
    Utf8 (codes "A") ∷ Class 1 ∷ Utf8 (codes "[I") ∷ Class 3 ∷ Utf8 (codes "C") ∷ Class 5 ∷ Utf8 (codes "x") ∷ Utf8 (codes "I") ∷ NameAndType 7 8 ∷ Utf8 (codes "()V")
    ∷ NameAndType 7 10 ∷ []

-- what is kept of texts: 8 has number 5 as a text
abbrev texts : List (Option ℕ)
texts = None ∷ None ∷ None ∷ None ∷ None ∷ None ∷ None ∷ None ∷ Some 5 ∷ []

abbrev classes : List (Option ℕ)
classes = None ∷ Some 0 ∷ None ∷ Some 2 ∷ []

abbrev say : Option ℕ → Constant → Operand
say object k = constant_operand types pool texts classes object k

abbrev method : ℕ → Operand
method number = operands.Method (record { number = number })

abbrev field : ℕ → Operand
field number = operands.Field (record { number = number })

-- of an array the members of Object; none of an absent class, of a descriptor of the other kind, and where no name and type is there
methods_reported : map (say (Some 1)) (Method 2 11 ∷ InterfaceMethod 2 11 ∷ Method 4 11 ∷ InterfaceMethod 4 11 ∷ Method 6 11 ∷ Method 2 9 ∷ Method 2 8 ∷ Method 1 11 ∷ [])
    ≡ method 0 ∷ method 0 ∷ method 1 ∷ method 1 ∷ operands.Unresolved ∷ operands.Unresolved ∷ operands.Unresolved ∷ operands.Unresolved ∷ []
unfolding all_methods resolve_method most_classes chain_of interfaces_from interfaces_above desc_in dims_read name_read class_read of_read type_read params_read field_read return_read method_read desc_read reads_class_name
methods_reported = refl

fields_reported : map (say (Some 1)) (Field 2 9 ∷ Field 4 9 ∷ Field 6 9 ∷ Field 2 11 ∷ Field 2 99 ∷ []) ≡ field 0 ∷ field 1 ∷ operands.Unresolved ∷ operands.Unresolved ∷ operands.Unresolved ∷ []
unfolding all_fields resolve_field most_classes chain_of interfaces_from field_order desc_in dims_read name_read class_read of_read type_read params_read field_read return_read method_read desc_read reads_class_name
fields_reported = refl

-- where Object isn't there an array has none
no_object : map (say None) (Method 4 11 ∷ Field 4 9 ∷ []) ≡ operands.Unresolved ∷ operands.Unresolved ∷ []
no_object = refl

others_reported : map (say (Some 1)) (Integer (pos 7) ∷ Long (pos 7) ∷ Text 8 ∷ Text 7 ∷ Class 1 ∷ Class 3 ∷ Class 5 ∷ Float 0 ∷ Utf8 (codes "A") ∷ NameAndType 7 8 ∷ [])
    ≡ operands.Int (pos 7) ∷ operands.Long (pos 7) ∷ operands.Text 5 ∷ operands.Unresolved ∷ operands.Class 0 ∷ operands.Class 2 ∷ operands.Unresolved ∷ operands.Unresolved ∷ operands.Unresolved
    ∷ operands.Unresolved ∷ []
others_reported = refl

text_as_class : say (Some 1) (Class 1) ≡ operands.Text 0 → ⊥
text_as_class e = let same : operands.Class 0 ≡ operands.Text 0 = e in absurd cc

long_as_int : say (Some 1) (Long (pos 7)) ≡ operands.Int (pos 7) → ⊥
long_as_int e = let same : operands.Long (pos 7) ≡ operands.Int (pos 7) = e in absurd cc

method_of_array : say (Some 1) (Method 4 11) ≡ method 0 → ⊥
unfolding all_methods resolve_method most_classes chain_of interfaces_from interfaces_above desc_in dims_read name_read class_read of_read type_read params_read field_read return_read method_read desc_read reads_class_name
method_of_array e = let k : 1 ≡ 0 = ap number_of e in omega (arith, k) where
  number_of : Operand → ℕ
  number_of (operands.Method id) = id.number
  number_of other = 9

if_some : map (operand_if types pool texts classes (Some 1)) (None ∷ Some (Integer (pos 7)) ∷ Some (Class 1) ∷ []) ≡ operands.Unresolved ∷ operands.Int (pos 7) ∷ operands.Class 0 ∷ []
if_some = refl

by_index : map (operand_at types pool texts classes (Some 1)) (0 ∷ 1 ∷ 2 ∷ 4 ∷ 12 ∷ []) ≡ operands.Unresolved ∷ operands.Unresolved ∷ operands.Class 0 ∷ operands.Class 2 ∷ operands.Unresolved ∷ []
by_index = refl

-- ---- homes

abbrev two : List Constant
two = Utf8 (codes "A") ∷ Class 1 ∷ Utf8 (codes "[I") ∷ Class 3 ∷ []

there : AreHomes types two classes (Some 1)
there zero = tt
there (suc zero) = tt
there (suc (suc zero)) = omega arith
there (suc (suc (suc zero))) = tt
there (suc (suc (suc (suc zero)))) = omega arith
there (suc (suc (suc (suc (suc k))))) = tt

-- not where the number of a class or of Object is past the last one
class_past_end : AreHomes types two (None ∷ Some 3 ∷ []) (Some 1) → ⊥
class_past_end homes = let lt : 3 < 3 = homes 2 in omega (arith, lt)

object_past_end : AreHomes types two classes (Some 3) → ⊥
object_past_end homes = let lt : 3 < 3 = homes 4 in omega (arith, lt)

-- what is kept of the text of an array doesn't matter
array_past_end : AreHomes types (Utf8 (codes "[I") ∷ Class 1 ∷ []) (None ∷ Some 3 ∷ []) None
array_past_end zero = tt
array_past_end (suc zero) = tt
array_past_end (suc (suc zero)) = tt
array_past_end (suc (suc (suc k))) = tt
