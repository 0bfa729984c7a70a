-- Which constants instructions use, by plain values.
use Rattle.std.proofs.Common.{◌≡◌, ℕ, true, false, List, [], ◌∷◌, map, length, Some, None, refl, sym, ap, ◌∙◌, subst, inl, inr, codes, pos, arith, Contains, append-nil}
use Rattle.std.specs.List.{flat_map, filter_map}
use Rattle.std.proofs.lemmas.Option.{none-some, same_Some}
use Rattle.dj_names.specs.declared.descriptor.Base.TheVariants as bases
use Rattle.dj_names.specs.trusted.DescReading.{dims_read, name_read, class_read, of_read, type_read, params_read, field_read, return_read, method_read, desc_read}
use Rattle.dj_names.specs.trusted.NameReading.{reads_class_name}
use Rattle.dj_names.specs.trusted.Tests.{units_read}
use Rattle.dj_names.specs.trusted.Types.{base_array, array_type}
use Rattle.dj_names.specs.trusted.UnitReading.{unit_read, long_read, two_read}
use Rattle.dj_ops.specs.declared.instruction.Instr.{Instr}
use Rattle.dj_ops.specs.declared.instruction.Instr.TheVariants as instrs
use Rattle.dj_ops.specs.Mnemonics.{nop, ldc, ldc_w, ldc2_w, iload, goto, getstatic, invokevirtual, invokestatic, new, anewarray, checkcast, instanceof}
use Rattle.dj_pool.specs.trusted.Pool.{Constant, Utf8, Integer, Class, Text, Field, Method, InterfaceMethod, NameAndType}
use Rattle.dj_model.specs.trusted.Opcodes.{array_rows}
use Rattle.dj_declarations.specs.trusted.Files.{desc_in, type_in}
use Rattle.dj_program.specs.trusted.Naming.{units_in}
use Rattle.dj_program.specs.declared.code.MethodCode.{MethodCode}
use Rattle.dj_image.specs.declared.parts.ClassParts.{ClassParts}
use Rattle.dj_image.specs.declared.parts.FieldValue.TheVariants as values
use Rattle.dj_image.specs.declared.uses.Use.{Use}
use Rattle.dj_image.specs.declared.uses.Use.TheVariants as uses
use Rattle.dj_image.specs.Uses.{use_in, base_used, used_type, pushed_text, code_uses, class_uses, class_types, SameMembers, use_place, was_seen, AreSeen}
use Rattle.dj_image.specs.Texts.{class_texts, value_text}
use Rattle.dj_image.proofs.Members.{member_none, member_cases}
use Rattle.dj_image.proofs.TypeFacts.{a, ints, a_arrays}

-- 2 the class A, 6 a field of it, 9 and 10 a method, as one of a class and as one of an interface, 12 a text, 13 an int, 15 the arrays of ints, 16 a field of
-- what is no class
abbrev pool : List Constant
pool =
    Utf8 (codes "A") ∷ Class 1 ∷ Utf8 (codes "x") ∷ Utf8 (codes "I") ∷ NameAndType 3 4 ∷ Field 2 5 ∷ Utf8 (codes "()V") ∷ NameAndType 3 7 ∷ Method 2 8 ∷ InterfaceMethod 2 8
    ∷ Utf8 (codes "s") ∷ Text 11 ∷ Integer (pos 7) ∷ Utf8 (codes "[I") ∷ Class 14 ∷ Field 13 5 ∷ []

-- ---- of an instruction

-- ldc and ldc_w of a text push it, and ldc2_w doesn't; a class is used, and an int uses nothing
literals_use : map (use_in pool) (instrs.Literal ldc 12 ∷ instrs.Literal ldc_w 12 ∷ instrs.Literal ldc2_w 12 ∷ instrs.Literal ldc 2 ∷ instrs.Literal ldc_w 15 ∷ instrs.Literal ldc 13 ∷ [])
    ≡ Some (uses.Pushed 11) ∷ Some (uses.Pushed 11) ∷ None ∷ Some (uses.Itself 1) ∷ Some (uses.Itself 14) ∷ None ∷ []
literals_use = refl

-- of a field or a method its class, whatever the instruction takes; none where what should be a class isn't one
members_use : map (use_in pool) (instrs.Member getstatic 6 ∷ instrs.Member invokevirtual 9 ∷ instrs.Member invokestatic 10 ∷ instrs.Member invokevirtual 6 ∷ instrs.Interface 10 1 ∷ instrs.Dynamic 9 ∷ instrs.Member getstatic 16 ∷ [])
    ≡ Some (uses.Itself 1) ∷ Some (uses.Itself 1) ∷ Some (uses.Itself 1) ∷ Some (uses.Itself 1) ∷ Some (uses.Itself 1) ∷ Some (uses.Itself 1) ∷ None ∷ []
members_use = refl

-- anewarray of a class an array of it, and of a field its class, as it makes none by that
classes_use : map (use_in pool) (instrs.Class new 2 ∷ instrs.Class anewarray 2 ∷ instrs.Class anewarray 15 ∷ instrs.Class checkcast 15 ∷ instrs.Class instanceof 2 ∷ instrs.Multi 15 1 ∷ instrs.Class anewarray 6 ∷ [])
    ≡ Some (uses.Itself 1) ∷ Some (uses.Element 1) ∷ Some (uses.Element 14) ∷ Some (uses.Itself 14) ∷ Some (uses.Itself 1) ∷ Some (uses.Itself 14) ∷ Some (uses.Itself 1) ∷ []
classes_use = refl

-- newarray by its code; the others nothing, nor what has no constant at its index
others_use : map (use_in pool) (instrs.Array 10 ∷ instrs.Simple nop ∷ instrs.Local iload 0 false ∷ instrs.Branch goto (pos 3) ∷ instrs.Class new 0 ∷ instrs.Literal ldc 99 ∷ [])
    ≡ Some (uses.Base 10) ∷ None ∷ None ∷ None ∷ None ∷ None ∷ []
others_use = refl

-- anewarray doesn't use the class of the elements, nor new an array
not_elements : use_in pool (instrs.Class anewarray 2) ≡ Some (uses.Itself 1) → ⊥
not_elements e = let same : uses.Element 1 ≡ uses.Itself 1 = same_Some (uses.Element 1) (uses.Itself 1) e in absurd cc

not_array : use_in pool (instrs.Class new 2) ≡ Some (uses.Element 1) → ⊥
not_array e = let same : uses.Itself 1 ≡ uses.Element 1 = same_Some (uses.Itself 1) (uses.Element 1) e in absurd cc

-- ---- what is used

-- the codes of JVMS table 6.5.newarray-A: of floats and doubles none is made
bases_used : map (base_used array_rows) (4 ∷ 5 ∷ 6 ∷ 7 ∷ 8 ∷ 9 ∷ 10 ∷ 11 ∷ 12 ∷ [])
    ≡ Some (base_array bases.Boolean) ∷ Some (base_array bases.Char) ∷ None ∷ None ∷ Some (base_array bases.Byte) ∷ Some (base_array bases.Short) ∷ Some (base_array bases.Int)
    ∷ Some (base_array bases.Long) ∷ None ∷ []
bases_used = refl

types_used : map (used_type pool) (uses.Itself 1 ∷ uses.Itself 14 ∷ uses.Element 1 ∷ uses.Element 14 ∷ uses.Base 10 ∷ uses.Base 6 ∷ uses.Pushed 11 ∷ [])
    ≡ Some a ∷ Some ints ∷ Some (a_arrays 1) ∷ Some (array_type ints) ∷ Some ints ∷ None ∷ None ∷ []
unfolding desc_in type_in dims_read name_read class_read of_read type_read params_read field_read return_read method_read desc_read reads_class_name
types_used = refl

texts_pushed : map (pushed_text pool) (uses.Pushed 11 ∷ uses.Itself 11 ∷ uses.Element 11 ∷ uses.Base 11 ∷ []) ≡ Some (115 ∷ []) ∷ None ∷ None ∷ None ∷ []
unfolding units_in units_read unit_read long_read two_read
texts_pushed = refl

-- ---- of all instructions

abbrev instructions : List Instr
instructions = instrs.Literal ldc 12 ∷ instrs.Simple nop ∷ instrs.Class anewarray 2 ∷ instrs.Array 10 ∷ instrs.Member invokevirtual 9 ∷ []

no_code_uses : code_uses pool None ≡ []
no_code_uses = refl

-- of code with these instructions, in order
in_order : (code : MethodCode) → code.code.code ≡ instructions → code_uses pool (Some code) ≡ uses.Pushed 11 ∷ uses.Element 1 ∷ uses.Base 10 ∷ uses.Itself 1 ∷ []
in_order code is = ap (λ (instrs : List Instr). filter_map (use_in pool) instrs) is

-- of a class whose one method has it, and one has none
module _ (p : ClassParts) (code : MethodCode) (constants : p.pool ≡ pool) (codes_are : p.codes.items ≡ None ∷ Some code ∷ []) (is : code.code.code ≡ instructions) where
  uses_are : class_uses p ≡ uses.Pushed 11 ∷ uses.Element 1 ∷ uses.Base 10 ∷ uses.Itself 1 ∷ []
  uses_are =
      (λ i. flat_map (code_uses (constants i)) (codes_are i))
      ∙ append-nil (code_uses pool (Some code))
      ∙ in_order code is

  types_are : class_types p ≡ a_arrays 1 ∷ ints ∷ a ∷ []
  unfolding desc_in type_in dims_read name_read class_read of_read type_read params_read field_read return_read method_read desc_read reads_class_name
  types_are = (λ i. filter_map (used_type (constants i)) (uses_are i))

  texts_are : class_texts p ≡ (115 ∷ []) ∷ []
  unfolding units_in units_read unit_read long_read two_read
  texts_are = (λ i. filter_map (pushed_text (constants i)) (uses_are i))

  not_pushed : class_texts p ≡ [] → ⊥
  not_pushed none = let e : 1 ≡ 0 = ap length (sym texts_are ∙ none) in omega (arith, e)

-- ---- texts with which fields begin

no_texts : map (value_text pool) (None ∷ Some (values.Int (pos 5)) ∷ Some (values.Long (pos 5)) ∷ Some values.Unfit ∷ []) ≡ None ∷ None ∷ None ∷ None ∷ []
no_texts = refl

-- the text is given by its index, not by that of the constant that names it
text_begins : value_text pool (Some (values.Text 11)) ≡ Some (115 ∷ [])
unfolding units_in units_read unit_read long_read two_read
text_begins = refl

not_by_its_constant : value_text pool (Some (values.Text 12)) ≡ Some (115 ∷ []) → ⊥
unfolding units_in units_read unit_read long_read two_read
not_by_its_constant e = let same : [] ≡ 115 ∷ [] = same_Some [] (115 ∷ []) e in absurd cc

-- ---- members of lists

same_in_any_order : SameMembers {A = ℕ} (1 ∷ 2 ∷ []) (2 ∷ 1 ∷ 2 ∷ [])
same_in_any_order = λ x. (
  λ m. elim (member_cases 1 (2 ∷ []) x m) [
    | inl e ↦ subst (λ (n : ℕ). Contains (2 ∷ 1 ∷ 2 ∷ []) n) e (1, omega arith, refl)
    | inr more ↦ elim (member_cases 2 [] x more) [ inl e ↦ subst (λ (n : ℕ). Contains (2 ∷ 1 ∷ 2 ∷ []) n) e (0, omega arith, refl) | inr none ↦ absurd (member_none x none) ]
  ],
  λ m. elim (member_cases 2 (1 ∷ 2 ∷ []) x m) [
    | inl e ↦ subst (λ (n : ℕ). Contains (1 ∷ 2 ∷ []) n) e (1, omega arith, refl)
    | inr more ↦ elim (member_cases 1 (2 ∷ []) x more) [
      | inl e ↦ subst (λ (n : ℕ). Contains (1 ∷ 2 ∷ []) n) e (0, omega arith, refl)
      | inr last ↦ elim (member_cases 2 [] x last) [ inl e ↦ subst (λ (n : ℕ). Contains (1 ∷ 2 ∷ []) n) e (1, omega arith, refl) | inr none ↦ absurd (member_none x none) ]
    ]
  ],
)

other_member : SameMembers {A = ℕ} (1 ∷ []) (1 ∷ 2 ∷ []) → ⊥
other_member same = elim (member_cases 1 [] 2 ((same 2).1 (1, omega arith, refl))) [ inl e ↦ absurd (omega (arith, e)) | inr none ↦ member_none 2 none ]

-- ---- what is seen

places : map use_place (uses.Base 0 ∷ uses.Itself 0 ∷ uses.Element 0 ∷ uses.Pushed 0 ∷ uses.Base 1 ∷ uses.Pushed 65535 ∷ []) ≡ 0 ∷ 1 ∷ 2 ∷ 3 ∷ 4 ∷ 262143 ∷ []
places = refl

seen_at : map (was_seen (false ∷ true ∷ [])) (0 ∷ 1 ∷ 2 ∷ []) ≡ false ∷ true ∷ false ∷ []
seen_at = refl

none_seen : (listed : List Use) → AreSeen [] listed
none_seen listed one e = absurd (none-some true e)

-- what is seen at a place isn't left out of the list
left_out : AreSeen (false ∷ true ∷ []) [] → ⊥
left_out seen = member_none (uses.Itself 0) (seen (uses.Itself 0) refl)
