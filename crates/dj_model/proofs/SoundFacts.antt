-- What operands may name, constants and programs that are well formed, by plain values.
use Rattle.std.proofs.Common.{◌≡◌, true, false, pos, ℕ, Bool, List, [], ◌∷◌, map, Option, Some, None, codes, refl}
use Rattle.dj_names.specs.declared.descriptor.Kind.TheVariants as kinds
use Rattle.dj_names.specs.declared.descriptor.Base.TheVariants as bases
use Rattle.dj_names.specs.declared.descriptor.Desc.{Desc}
use Rattle.dj_names.specs.declared.descriptor.Desc.TheVariants as descs
use Rattle.dj_names.specs.declared.descriptor.Ty.{Ty}
use Rattle.dj_names.specs.declared.run.Element.TheVariants as elements
use Rattle.dj_names.specs.trusted.Types.{Name, class_type, base_array, array_type}
use Rattle.dj_names.specs.Types.{sandbox_prefix, in_sandbox}
use Rattle.dj_names.specs.trusted.Library.{object, string, int, long, stop_class, lang}
use Rattle.dj_model.specs.trusted.Types.{Member}
use Rattle.dj_model.specs.trusted.Instructions.{Instruction, AText, AClass, Nop, GetStatic, PutStatic, GetField, PutField, Invoke, New, NewArray, CheckCast, InstanceOf, Other, Nothing, Static, Virtual, Special, Interface}
use Rattle.dj_model.specs.trusted.Program.{Program, Constant, Int, Long, Text, Abstract}
use Rattle.dj_model.specs.trusted.Linking.{most_classes, chain_of, interfaces_from, interfaces_above, resolve_method, resolve_field, field_order}
use Rattle.dj_model.specs.Libraries.{metered_program, sandbox_program}
use Rattle.dj_model.specs.Sound.{names_rise, fields_differ, methods_differ, is_there, is_new, is_linked, is_caught, is_constant, is_sound_field, is_interface_name}
use Rattle.dj_model.specs.SmallRuns.{class_with, field_with, method_with}

abbrev constants : List (Option Constant)
constants = None ∷ Some (Int (pos 1)) ∷ Some (Long (pos 1)) ∷ Some (Text []) ∷ []

-- a constant is of the field's kind, or there is none
constants_of_kinds : map (λ kind. map (is_constant kind) constants) (None ∷ Some kinds.Int ∷ Some kinds.Long ∷ Some kinds.Ref ∷ [])
    ≡ (true ∷ false ∷ false ∷ false ∷ []) ∷ (true ∷ true ∷ false ∷ false ∷ []) ∷ (true ∷ false ∷ true ∷ false ∷ []) ∷ (true ∷ false ∷ false ∷ true ∷ []) ∷ []
constants_of_kinds = refl

-- only a static field's constant counts
sound_fields : map is_sound_field (field_with 8 (codes "f") int (Some (Int (pos 1))) ∷ field_with 8 (codes "f") int (Some (Text [])) ∷ field_with 0 (codes "f") int (Some (Text [])) ∷ field_with 8 (codes "f") string (Some (Text [])) ∷ [])
    ≡ true ∷ false ∷ true ∷ true ∷ []
sound_fields = refl

abbrev plain : Name → Ty
plain name = class_type name

abbrev member : Ty → Name → Desc → Member
member class name desc = record { class = class; name = name; desc = desc }

abbrev int_field : Name → Member
int_field name = member (plain (codes "A")) name (descs.Field int)

abbrev nothing_taken : Name → Member
nothing_taken name = member (plain (codes "A")) name (descs.Method [] None)

-- A has a static field s, another i, a static method t, another m and an initialiser; I is an interface
abbrev program : Program
program = metered_program
    (class_with (codes "A") (field_with 8 (codes "s") int None ∷ field_with 0 (codes "i") int None ∷ [])
    (method_with 8 (codes "<clinit>") [] None Abstract ∷ method_with 1 (codes "m") [] None Abstract ∷ method_with 9 (codes "t") [] None Abstract ∷ [])
    ∷ record (class_with (codes "I") [] []) { flags = 1537 } ∷ [])

abbrev linked : List Instruction → List Bool
linked instructions = map (is_linked program []) instructions

abbrev there : List Ty
there = plain (codes "A") ∷ plain (codes "I") ∷ object ∷ string ∷ plain (codes "B") ∷ base_array bases.Int ∷ array_type (plain (codes "A")) ∷ array_type (plain (codes "B")) ∷ record int { dims = 0 } ∷ []

-- the program's classes, and arrays of them and of base types
classes_there : map (λ (ty : Ty). is_there program ty.of ty.dims) there ≡ true ∷ true ∷ true ∷ true ∷ false ∷ true ∷ true ∷ false ∷ false ∷ []
unfolding metered_program
classes_there = refl

-- neither a text nor an array
new_ones : map (is_new program []) there ≡ true ∷ true ∷ true ∷ false ∷ false ∷ false ∷ false ∷ false ∷ false ∷ []
unfolding metered_program
new_ones = refl

-- of two libraries, the object that stops a run is the rewritten classes' alone, and so is the text
new_beside_accounter : map (is_new (sandbox_program []) sandbox_prefix) (plain stop_class ∷ plain (in_sandbox (lang (codes "String"))) ∷ plain (in_sandbox (lang (codes "Object"))) ∷ [])
    ≡ false ∷ false ∷ true ∷ []
unfolding sandbox_program
new_beside_accounter = refl

-- a field is static where the instruction asks for it, and else it isn't
linked_fields : linked (GetStatic (int_field (codes "s")) ∷ PutStatic (int_field (codes "s")) ∷ GetField (int_field (codes "i")) ∷ PutField (int_field (codes "i")) ∷ []) ≡ true ∷ true ∷ true ∷ true ∷ []
unfolding metered_program is_linked resolve_field field_order most_classes chain_of interfaces_from interfaces_above
linked_fields = refl

unlinked_fields : linked (GetStatic (int_field (codes "i")) ∷ PutStatic (int_field (codes "i")) ∷ GetField (int_field (codes "s")) ∷ PutField (int_field (codes "s")) ∷ GetStatic (int_field (codes "n")) ∷ GetField (int_field (codes "n"))
    ∷ GetStatic (member (plain (codes "B")) (codes "s") (descs.Field int)) ∷ GetStatic (member (plain (codes "A")) (codes "s") (descs.Field long)) ∷ [])
    ≡ false ∷ false ∷ false ∷ false ∷ false ∷ false ∷ false ∷ false ∷ []
unfolding metered_program is_linked resolve_field field_order most_classes chain_of interfaces_from interfaces_above
unlinked_fields = refl

linked_methods : linked (Invoke Static (nothing_taken (codes "t")) ∷ Invoke Virtual (nothing_taken (codes "m")) ∷ Invoke Special (nothing_taken (codes "m")) ∷ Invoke (Interface 1) (nothing_taken (codes "m")) ∷ []) ≡ true ∷ true ∷ true ∷ true ∷ []
unfolding metered_program is_linked resolve_method most_classes chain_of interfaces_from interfaces_above
linked_methods = refl

-- no instruction calls an initialiser
unlinked_methods : linked (Invoke Static (nothing_taken (codes "m")) ∷ Invoke Virtual (nothing_taken (codes "t")) ∷ Invoke Special (nothing_taken (codes "t")) ∷ Invoke (Interface 1) (nothing_taken (codes "t")) ∷ Invoke Static (nothing_taken (codes "<clinit>"))
    ∷ Invoke Static (nothing_taken (codes "n")) ∷ Invoke Static (member (plain (codes "B")) (codes "t") (descs.Method [] None)) ∷ Invoke Static (member (plain (codes "A")) (codes "t") (descs.Method [] (Some int))) ∷ [])
    ≡ false ∷ false ∷ false ∷ false ∷ false ∷ false ∷ false ∷ false ∷ []
unfolding metered_program is_linked resolve_method most_classes chain_of interfaces_from interfaces_above
unlinked_methods = refl

-- an array of 256 dimensions isn't made; an instruction that isn't supported is linked nowhere
linked_classes : linked (New (plain (codes "A")) ∷ New string ∷ CheckCast (plain (codes "A")) ∷ CheckCast (plain (codes "B")) ∷ InstanceOf (base_array bases.Int) ∷ InstanceOf (plain (codes "B")) ∷ Nop ∷ Other 197 Nothing ∷ Other 18 (AClass object) ∷ [])
    ≡ true ∷ false ∷ true ∷ false ∷ true ∷ false ∷ true ∷ false ∷ false ∷ []
unfolding metered_program is_linked
linked_classes = refl

linked_arrays : map (λ (dims : ℕ). is_linked program [] (NewArray (record (plain (codes "A")) { dims = dims }) elements.Ref)) (0 ∷ 1 ∷ 255 ∷ 256 ∷ []) ≡ false ∷ true ∷ true ∷ false ∷ []
unfolding metered_program is_linked
linked_arrays = refl

caught_classes : map (is_caught program) (None ∷ Some (AClass (plain (codes "A"))) ∷ Some (AClass (plain (codes "B"))) ∷ Some (AText []) ∷ Some Nothing ∷ []) ≡ true ∷ true ∷ false ∷ false ∷ false ∷ []
unfolding metered_program
caught_classes = refl

interface_names : map (is_interface_name program) (codes "A" ∷ codes "I" ∷ codes "B" ∷ []) ≡ false ∷ true ∷ false ∷ []
unfolding metered_program
interface_names = refl

-- names rise strictly; members of one class differ by name or by descriptor
rising : map names_rise ((class_with (codes "A") [] [] ∷ class_with (codes "B") [] [] ∷ []) ∷ (class_with (codes "B") [] [] ∷ class_with (codes "A") [] [] ∷ []) ∷ (class_with (codes "A") [] [] ∷ class_with (codes "A") [] [] ∷ [])
    ∷ (class_with (codes "A") [] [] ∷ class_with (codes "AA") [] [] ∷ class_with (codes "B") [] [] ∷ []) ∷ (class_with (codes "A") [] [] ∷ class_with (codes "C") [] [] ∷ class_with (codes "B") [] [] ∷ []) ∷ [])
    ≡ true ∷ false ∷ false ∷ true ∷ false ∷ []
rising = refl

fields_apart : map fields_differ ((field_with 0 (codes "f") int None ∷ field_with 8 (codes "f") int None ∷ []) ∷ (field_with 0 (codes "f") int None ∷ field_with 0 (codes "f") long None ∷ []) ∷ (field_with 0 (codes "f") int None ∷ field_with 0 (codes "g") int None ∷ field_with 0 (codes "f") int None ∷ []) ∷ [])
    ≡ false ∷ true ∷ false ∷ []
fields_apart = refl

methods_apart : map methods_differ ((method_with 1 (codes "m") [] None Abstract ∷ method_with 9 (codes "m") [] None Abstract ∷ []) ∷ (method_with 1 (codes "m") [] None Abstract ∷ method_with 1 (codes "m") [] (Some int) Abstract ∷ [])
    ∷ (method_with 1 (codes "m") [] None Abstract ∷ method_with 1 (codes "n") [] None Abstract ∷ method_with 1 (codes "m") [] None Abstract ∷ []) ∷ [])
    ≡ false ∷ true ∷ false ∷ []
methods_apart = refl
