-- Instructions that name a field or a class, by their opcodes.
use Rattle.std.proofs.Common.{◌≡◌, ◌&&◌, ℕ, zero, suc, Bool, true, false, Option, Some, None, nat_eq, if◌then◌else◌, refl, sym, ap, subst, ◌∙◌, arith}
use Rattle.std.specs.Prelude.{option_and_then, slice_get}
use Rattle.std.proofs.lemmas.Bool.{false≢true, ne_eqb}
use Rattle.std.proofs.lemmas.Option.{same_Some}
use Rattle.dj_names.specs.declared.descriptor.Of.{Of}
use Rattle.dj_names.specs.declared.descriptor.Of.TheVariants as ofs
use Rattle.dj_names.specs.declared.descriptor.Ty.{Ty}
use Rattle.dj_names.specs.declared.run.Element.{Element}
use Rattle.dj_names.specs.declared.run.Element.TheVariants as elements
use Rattle.dj_names.specs.declared.run.Value.TheVariants as values
use Rattle.dj_names.specs.trusted.Types.{Name, array_type, class_type}
use Rattle.dj_ops.specs.declared.instruction.Instr.{Instr}
use Rattle.dj_ops.specs.declared.instruction.Instr.TheVariants as instrs
use Rattle.dj_library_types.specs.Numbered.{ArePlain}
use Rattle.dj_model.specs.trusted.Types.{Member}
use Rattle.dj_model.specs.trusted.Instructions as model
use Rattle.dj_model.specs.trusted.Instructions.{Instruction, Named, Nothing, AnInt, ALong, AText, AClass, AField, AMethod, AnInterfaceMethod, Another, NewArray}
use Rattle.dj_model.specs.trusted.Opcodes.{instruction_of, literal, member}
use Rattle.dj_model.specs.trusted.Program.{class_at}
use Rattle.dj_model.specs.Sound.{is_class_of, is_new}
use Rattle.dj_effects.specs.Actions.{is_other}
use Rattle.dj_early_rules.specs.trusted.Instructions.{index_of}
use Rattle.dj_class_table.specs.Tables.{class_number, name_at}
use Rattle.dj_class_table.proofs.Numbered.{class_at-number, name_at-number}
use Rattle.dj_numbering.specs.Typed.{Typed, types_of, type_number}
use Rattle.dj_numbering.proofs.Numbers.{number_of_class}
use Rattle.dj_image.specs.Imaged.{Imaged, program_of, typed_of}
use Rattle.dj_image.specs.Operands.{takes_named}
use Rattle.dj_image_effects.specs.declared.uses.FieldUse.{FieldUse}
use Rattle.dj_image_effects.specs.declared.uses.FieldUse.TheVariants as fields
use Rattle.dj_image_effects.specs.declared.uses.ClassUse.{ClassUse}
use Rattle.dj_image_effects.specs.declared.uses.ClassUse.TheVariants as classes
use Rattle.dj_image_effects.specs.Acting.{IsClassAt}
use Rattle.dj_image_effects.specs.Operands.{UsesClass, Makes, Names, makes_array}
use Rattle.dj_image_effects.specs.Uses.{class_use, field_use}
use Rattle.dj_image_effects.proofs.Standing.{number_within, type_there}

-- ---- fields

abbrev pub IsFieldInstruction : FieldUse → Member → Instruction → Type 0
IsFieldInstruction fields.GetStatic m i = i ≡ model.GetStatic m
IsFieldInstruction fields.PutStatic m i = i ≡ model.PutStatic m
IsFieldInstruction fields.Get m i = i ≡ model.GetField m
IsFieldInstruction fields.Put m i = i ≡ model.PutField m
IsFieldInstruction fields.Neither m i = is_other i ≡ true

field_by : (op : ℕ) (m : Member) (a b c d : Bool)
    → IsFieldInstruction (if a then fields.GetStatic else if b then fields.PutStatic else if c then fields.Get else if d then fields.Put else fields.Neither) m
    (if a then model.GetStatic m else if b then model.PutStatic m else if c then model.GetField m else if d then model.PutField m else model.Other op (AField m))
field_by op m true b c d = refl
field_by op m false true c d = refl
field_by op m false false true d = refl
field_by op m false false false true = refl
field_by op m false false false false = refl

pub field_instruction : (instr : Instr) (m : Member) → takes_named instr (AField m) ≡ true → IsFieldInstruction (field_use instr) m (instruction_of instr (AField m))
unfolding instruction_of
field_instruction (instrs.Member op index) m e = field_by op m (nat_eq op 178) (nat_eq op 179) (nat_eq op 180) (nat_eq op 181)
field_instruction instr m e = absurd cc

-- ---- classes

-- the class that the instruction uses has the number
abbrev pub IsClassInstruction : Imaged → ℕ → ClassUse → Instruction → Type 0
IsClassInstruction imaged k classes.New i = (class : Ty) × (i ≡ model.New class) × (type_number (typed_of imaged) class ≡ Some k)
IsClassInstruction imaged k classes.NewArray i = (class : Ty) × (i ≡ NewArray class elements.Ref) × (type_number (typed_of imaged) class ≡ Some k)
IsClassInstruction imaged k classes.Cast i = (class : Ty) × (i ≡ model.CheckCast class) × (type_number (typed_of imaged) class ≡ Some k)
IsClassInstruction imaged k classes.Instance i = (class : Ty) × (i ≡ model.InstanceOf class) × (type_number (typed_of imaged) class ≡ Some k)
IsClassInstruction imaged k classes.Other i = is_other i ≡ true
IsClassInstruction imaged k classes.Plain i = (class : Ty) × (element : Element) × (i ≡ NewArray class element) × (type_number (typed_of imaged) class ≡ Some k)

abbrev by_tests : {A : Type 0} → Bool → Bool → Bool → Bool → A → A → A → A → A → A
by_tests a b c d new array cast instance other = if a then new else if b then array else if c then cast else if d then instance else other

abbrev use_by : Bool → Bool → Bool → Bool → ClassUse
use_by a b c d = by_tests a b c d classes.New classes.NewArray classes.Cast classes.Instance classes.Other

module _ (imaged : Imaged) (k op : ℕ) (ty : Ty) where
  made_by : (a b c d : Bool) (class : Ty) (element : Element)
      → by_tests a b c d (model.New ty) (NewArray (array_type ty) elements.Ref) (model.CheckCast ty) (model.InstanceOf ty) (model.Other op (AClass ty)) ≡ NewArray class element
      → type_number (typed_of imaged) class ≡ Some k
      → IsClassInstruction imaged k (use_by a b c d)
      (by_tests a b c d (model.New ty) (NewArray (array_type ty) elements.Ref) (model.CheckCast ty) (model.InstanceOf ty) (model.Other op (AClass ty)))
  made_by true b c d class element e number = absurd cc
  made_by false true c d class element e number =
      let same : array_type ty ≡ class = cc in (array_type ty, refl, ap (type_number (typed_of imaged)) same ∙ number)
  made_by false false true d class element e number = absurd cc
  made_by false false false true class element e number = absurd cc
  made_by false false false false class element e number = absurd cc

  named_by : (a b c d : Bool)
      → makes_array (by_tests a b c d (model.New ty) (NewArray (array_type ty) elements.Ref) (model.CheckCast ty) (model.InstanceOf ty) (model.Other op (AClass ty))) ≡ false
      → type_number (typed_of imaged) ty ≡ Some k
      → IsClassInstruction imaged k (use_by a b c d)
      (by_tests a b c d (model.New ty) (NewArray (array_type ty) elements.Ref) (model.CheckCast ty) (model.InstanceOf ty) (model.Other op (AClass ty)))
  named_by true b c d e number = (ty, refl, number)
  named_by false true c d e number = absurd cc
  named_by false false true d e number = (ty, refl, number)
  named_by false false false true e number = (ty, refl, number)
  named_by false false false false e number = refl

-- other instructions make no arrays
if_unmade : (b : Bool) (i j : Instruction) → makes_array i ≡ false → makes_array j ≡ false → makes_array (if b then i else j) ≡ false
if_unmade true i j a c = a
if_unmade false i j a c = c

literal_unmade : (op : ℕ) (named : Named) → makes_array (literal op named) ≡ false
literal_unmade op (AnInt z) = if_unmade (nat_eq op 20) (model.Other op (AnInt z)) (model.Push (values.Int z)) refl refl
literal_unmade op (AText units) = if_unmade (nat_eq op 20) (model.Other op (AText units)) (model.PushText units) refl refl
literal_unmade op (ALong z) = if_unmade (nat_eq op 20) (model.Push (values.Long z)) (model.Other op (ALong z)) refl refl
literal_unmade op named = refl

member_unmade : (op : ℕ) (named : Named) → makes_array (member op named) ≡ false
member_unmade op (AField m) =
    if_unmade (nat_eq op 178) (model.GetStatic m) _ refl (if_unmade (nat_eq op 179) (model.PutStatic m) _ refl
    (if_unmade (nat_eq op 180) (model.GetField m) _ refl (if_unmade (nat_eq op 181) (model.PutField m) _ refl refl)))
member_unmade op (AMethod m) =
    if_unmade (nat_eq op 182) (model.Invoke model.Virtual m) _ refl (if_unmade (nat_eq op 183) (model.Invoke model.Special m) _ refl
    (if_unmade (nat_eq op 184) (model.Invoke model.Static m) _ refl refl))
member_unmade op (AnInterfaceMethod m) =
    if_unmade (nat_eq op 183) (model.Invoke model.Special m) _ refl (if_unmade (nat_eq op 184) (model.Invoke model.Static m) _ refl refl)
member_unmade op named = refl

not_made : (i : Instruction) (class : Ty) (element : Element) → makes_array i ≡ false → i ≡ NewArray class element → ⊥
not_made i class element e is = false≢true (sym e ∙ ap makes_array is)

class_makes : (imaged : Imaged) (op index k : ℕ) (named : Named) (class : Ty) (element : Element) → instruction_of (instrs.Class op index) named ≡ NewArray class element
    → type_number (typed_of imaged) class ≡ Some k → IsClassInstruction imaged k (class_use (instrs.Class op index)) (instruction_of (instrs.Class op index) named)
unfolding instruction_of
class_makes imaged op index k (AClass ty) class element is number = made_by imaged k op ty (nat_eq op 187) (nat_eq op 189) (nat_eq op 192) (nat_eq op 193) class element is number
class_makes imaged op index k named class element is number = absurd cc

pub class_instruction : (imaged : Imaged) (instr : Instr) (named : Named) (k : ℕ) → UsesClass imaged instr named k → IsClassInstruction imaged k (class_use instr) (instruction_of instr named)
unfolding instruction_of
class_instruction imaged (instrs.Class op index) named k (Makes class element is number) = class_makes imaged op index k named class element is number
class_instruction imaged (instrs.Class op index) named k (Names class is takes unmade number) =
    subst (λ (named : Named). makes_array (instruction_of (instrs.Class op index) named) ≡ false → IsClassInstruction imaged k (class_use (instrs.Class op index)) (instruction_of (instrs.Class op index) named))
    (sym is) (λ unmade. named_by imaged k op class (nat_eq op 187) (nat_eq op 189) (nat_eq op 192) (nat_eq op 193) unmade number) unmade
class_instruction imaged (instrs.Literal op index) named k (Makes class element is number) = absurd (not_made (literal op named) class element (literal_unmade op named) is)
class_instruction imaged (instrs.Literal op index) named k (Names class is takes unmade number) = ap (λ (named : Named). is_other (literal op named)) is
class_instruction imaged (instrs.Member op index) named k (Makes class element is number) = absurd (not_made (member op named) class element (member_unmade op named) is)
class_instruction imaged (instrs.Member op index) named k (Names class is takes unmade number) = absurd cc
class_instruction imaged (instrs.Interface index count) (AnInterfaceMethod m) k (Makes class element is number) = absurd cc
class_instruction imaged (instrs.Interface index count) named k (Makes class element is number) = absurd cc
class_instruction imaged (instrs.Interface index count) named k (Names class is takes unmade number) = absurd cc
class_instruction imaged (instrs.Dynamic index) named k (Makes class element is number) = absurd cc
class_instruction imaged (instrs.Dynamic index) named k (Names class is takes unmade number) = absurd cc
class_instruction imaged (instrs.Multi index dims) named k uses = refl
class_instruction imaged (instrs.Simple op) named k (Makes class element is number) = (class, element, is, number)
class_instruction imaged (instrs.Push op value) named k (Makes class element is number) = (class, element, is, number)
class_instruction imaged (instrs.Local op slot wide) named k (Makes class element is number) = (class, element, is, number)
class_instruction imaged (instrs.Inc slot by wide) named k (Makes class element is number) = (class, element, is, number)
class_instruction imaged (instrs.Branch op target) named k (Makes class element is number) = (class, element, is, number)
class_instruction imaged (instrs.Table low default targets) named k (Makes class element is number) = (class, element, is, number)
class_instruction imaged (instrs.Lookup default pairs) named k (Makes class element is number) = (class, element, is, number)
class_instruction imaged (instrs.Array base) named k (Makes class element is number) = (class, element, is, number)
class_instruction imaged instr named k (Names class is takes unmade number) = absurd cc

-- one that names no class has no index
pub no_index : (instr : Instr) → class_use instr ≡ classes.Plain → index_of instr ≡ None
no_index (instrs.Class op index) e = absurd (named_use (nat_eq op 187) (nat_eq op 189) (nat_eq op 192) (nat_eq op 193) e) where
  named_use : (a b c d : Bool) → use_by a b c d ≡ classes.Plain → ⊥
  named_use true b c d e = absurd cc
  named_use false true c d e = absurd cc
  named_use false false true d e = absurd cc
  named_use false false false true e = absurd cc
  named_use false false false false e = absurd cc
no_index (instrs.Literal op index) e = absurd cc
no_index (instrs.Member op index) e = absurd cc
no_index (instrs.Interface index count) e = absurd cc
no_index (instrs.Dynamic index) e = absurd cc
no_index (instrs.Multi index dims) e = absurd cc
no_index instr e = refl

-- ---- the class of a number

pub class_at_number : (imaged : Imaged) → ArePlain (types_of (typed_of imaged)) → (class : Ty) (k : ℕ) → is_class_of (program_of imaged) class ≡ true → type_number (typed_of imaged) class ≡ Some k
    → IsClassAt imaged class k
class_at_number imaged plain class k known number = record {
  within = number_within (typed_of imaged) class k number;
  is = type_there (typed_of imaged) plain class.dims class.of known k number;
}

-- a class that new makes
pub record IsNamed (imaged : Imaged) (class : Ty) (k : ℕ) : Type 0 where
  pub name : Name
  pub is : class ≡ class_type name
  pub at : name_at (program_of imaged) k ≡ Some name

named_at : (typed : Typed) (name : Name) (k : ℕ) → is_class_of typed.program (class_type name) ≡ true → type_number typed (class_type name) ≡ Some k → name_at typed.program k ≡ Some name
named_at typed name k known at = by (class_number typed.program name) refl where
  by : (o : Option ℕ) → class_number typed.program name ≡ o → name_at typed.program k ≡ Some name
  by None e =
      let none : class_at typed.program name ≡ None = class_at-number typed.program name ∙ ap (option_and_then (slice_get typed.program)) e in
      absurd (false≢true (rw none at known))
  by (Some j) e =
      let same : j ≡ k = same_Some j k (sym (number_of_class typed.program _ name j e) ∙ at) in
      ap (name_at typed.program) (sym same) ∙ name_at-number typed.program name j e

second_of : (a b c d : Bool) → (a && b && c && d) ≡ true → b ≡ true
second_of true true c d e = refl
second_of true false c d e = absurd cc
second_of false b c d e = absurd cc

first_of : (a b c d : Bool) → (a && b && c && d) ≡ true → a ≡ true
first_of true b c d e = refl
first_of false b c d e = absurd cc

pub new_class : (imaged : Imaged) (dims : ℕ) (of : Of) (k : ℕ) → is_new (program_of imaged) imaged.prefix (record { dims = dims; of = of }) ≡ true
    → type_number (typed_of imaged) (record { dims = dims; of = of }) ≡ Some k → IsNamed imaged (record { dims = dims; of = of }) k
new_class imaged zero (ofs.Base base) k new number = absurd cc
new_class imaged zero (ofs.Class name) k new number =
    record { name = name; is = refl; at = named_at (typed_of imaged) name k (first_of (is_class_of (program_of imaged) (class_type name)) _ _ _ new) number }
new_class imaged (suc n) of k new number = absurd (some_dims n (second_of (is_class_of (program_of imaged) (record { dims = suc n; of = of })) (nat_eq (suc n) 0) _ _ new)) where
  some_dims : (n : ℕ) → nat_eq (suc n) 0 ≡ true → ⊥
  some_dims n e = false≢true (sym (ne_eqb (suc n) 0 (λ e. omega (arith, e))) ∙ e)
