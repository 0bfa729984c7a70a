-- What an instruction is, by its operand's number.
use Rattle.std.proofs.Common.{◌≡◌, ◌&&◌, ℕ, ℤ, zero, suc, Bool, true, false, List, [], ◌∷◌, Option, Some, None, nat_eq, nat_le, if◌then◌else◌, refl, sym, ap, subst, ◌∙◌, arith, inl, inr, ◌⊎◌}
use Rattle.std.specs.Prelude.{slice_get}
use Rattle.std.specs.Option.{option_map}
use Rattle.std.proofs.lemmas.Bool.{and_parts, both_ways}
use Rattle.std.proofs.lemmas.Bool.Decides.{nat_tests}
use Rattle.std.proofs.lemmas.Option.{same_Some}
use Rattle.dj_names.specs.declared.descriptor.Desc.{Desc}
use Rattle.dj_names.specs.declared.descriptor.Ty.{Ty}
use Rattle.dj_names.specs.declared.run.Value.TheVariants as values
use Rattle.dj_names.specs.trusted.Types.{Name, same_name, same_desc}
use Rattle.dj_ops.specs.declared.instruction.Instr.{Instr}
use Rattle.dj_ops.specs.declared.instruction.Instr.TheVariants as instrs
use Rattle.dj_model.specs.trusted.Types.{Member}
use Rattle.dj_model.specs.trusted.Instructions as model
use Rattle.dj_model.specs.trusted.Instructions.{Instruction, Named, Nothing, AnInt, ALong, AText, AClass, AField, AMethod, AnInterfaceMethod, Another, NewArray}
use Rattle.dj_model.specs.trusted.Opcodes.{instruction_of, member}
use Rattle.dj_model.specs.trusted.Program.{Program, Class, Field, class_at, field_in, field_of, is_named}
use Rattle.dj_model.specs.trusted.Linking.{FoundField, first_field, field_or, field_order, most_classes, member_class, resolve_field}
use Rattle.dj_declarations.proofs.DescTests.{same_name_is, same_desc_is}
use Rattle.dj_numbering.specs.Typed.{type_number}
use Rattle.dj_numbering.specs.Members.{all_fields, field_number, found_field_number}
use Rattle.dj_image.specs.declared.operand.Operand.{Operand}
use Rattle.dj_image.specs.declared.operand.Operand.TheVariants as operands
use Rattle.dj_image.specs.Imaged.{Imaged, program_of, typed_of}
use Rattle.dj_image.specs.Operands.{class_operand, text_operand, method_operand, field_operand, units_number, resolved_method_number, resolved_field_number, named_operand, takes_named, made_operand, operand_by, operand_of}
use Rattle.dj_image_effects.specs.Acting.{IsMember}
use Rattle.dj_image_effects.specs.Operands.{UsesClass, Makes, Names, makes_array}

-- ---- what the operand leaves of what is named

-- only arrays are made
unmade : (imaged : Imaged) (i : Instruction) (other x : Operand) → ((o : Option ℕ) → class_operand o ≡ x → ⊥) → made_operand imaged i other ≡ x → other ≡ x
unmade imaged (NewArray class element) other x apart e = absurd (apart (type_number (typed_of imaged) class) e)
unmade imaged i other x apart e = e

if_taken : (b : Bool) (a x : Operand) → (operands.Unresolved ≡ x → ⊥) → (if b then a else operands.Unresolved) ≡ x → (b ≡ true) × (a ≡ x)
if_taken true a x apart e = (refl, e)
if_taken false a x apart e = absurd (apart e)

taken : (imaged : Imaged) (instr : Instr) (named : Named) (x : Operand) → (operands.Unresolved ≡ x → ⊥) → (operands.Nothing ≡ x → ⊥) → operand_by imaged instr named ≡ x
    → (takes_named instr named ≡ true) × (named_operand imaged named ≡ x)
taken imaged instr Nothing x apart some e = absurd (some e)
taken imaged instr named x apart some e = if_taken (takes_named instr named) (named_operand imaged named) x apart e

-- ---- what an operand may be

abbrev is_text : Operand → Bool
is_text (operands.Text n) = true
is_text operands.Unresolved = true
is_text x = false

abbrev is_class : Operand → Bool
is_class (operands.Class n) = true
is_class operands.Unresolved = true
is_class x = false

abbrev is_field : Operand → Bool
is_field (operands.Field n) = true
is_field operands.Unresolved = true
is_field x = false

abbrev is_method : Operand → Bool
is_method (operands.Method n) = true
is_method operands.Unresolved = true
is_method x = false

text_is : (o : Option ℕ) → is_text (text_operand o) ≡ true
text_is None = refl
text_is (Some n) = refl

class_is : (o : Option ℕ) → is_class (class_operand o) ≡ true
class_is None = refl
class_is (Some n) = refl

field_is : (o : Option ℕ) → is_field (field_operand o) ≡ true
field_is None = refl
field_is (Some n) = refl

method_is : (o : Option ℕ) → is_method (method_operand o) ≡ true
method_is None = refl
method_is (Some n) = refl

no_text : (x : Operand) → is_text x ≡ false → (o : Option ℕ) → text_operand o ≡ x → ⊥
no_text x apart o e = both_ways (is_text x) apart (sym (ap is_text e) ∙ text_is o)

pub no_class : (x : Operand) → is_class x ≡ false → (o : Option ℕ) → class_operand o ≡ x → ⊥
no_class x apart o e = both_ways (is_class x) apart (sym (ap is_class e) ∙ class_is o)

no_field : (x : Operand) → is_field x ≡ false → (o : Option ℕ) → field_operand o ≡ x → ⊥
no_field x apart o e = both_ways (is_field x) apart (sym (ap is_field e) ∙ field_is o)

no_method : (x : Operand) → is_method x ≡ false → (o : Option ℕ) → method_operand o ≡ x → ⊥
no_method x apart o e = both_ways (is_method x) apart (sym (ap is_method e) ∙ method_is o)

-- an operand that is no class: it is what is named, and taken
plainly : (imaged : Imaged) (instr : Instr) (named : Named) (x : Operand) → is_class x ≡ false → (operands.Nothing ≡ x → ⊥) → operand_of imaged instr named ≡ x
    → (takes_named instr named ≡ true) × (named_operand imaged named ≡ x)
unfolding operand_of
plainly imaged instr named x apart some e =
    taken imaged instr named x (no_class x apart None) some (unmade imaged (instruction_of instr named) (operand_by imaged instr named) x (no_class x apart) e)

-- ---- nothing

named_something : (imaged : Imaged) (named : Named) → named_operand imaged named ≡ operands.Nothing → named ≡ Nothing
named_something imaged Nothing e = refl
named_something imaged (AnInt z) e = absurd cc
named_something imaged (ALong z) e = absurd cc
named_something imaged (AText units) e = absurd (no_text operands.Nothing refl (units_number imaged.texts units) e)
named_something imaged (AClass ty) e = absurd (no_class operands.Nothing refl (type_number (typed_of imaged) ty) e)
named_something imaged (AField m) e = absurd (no_field operands.Nothing refl (resolved_field_number imaged m) e)
named_something imaged (AMethod m) e = absurd (no_method operands.Nothing refl (resolved_method_number imaged m) e)
named_something imaged (AnInterfaceMethod m) e = absurd (no_method operands.Nothing refl (resolved_method_number imaged m) e)
named_something imaged Another e = absurd cc

if_something : (b : Bool) (a : Operand) → (if b then a else operands.Unresolved) ≡ operands.Nothing → a ≡ operands.Nothing
if_something true a e = e
if_something false a e = absurd cc

by_something : (imaged : Imaged) (instr : Instr) (named : Named) → operand_by imaged instr named ≡ operands.Nothing → named ≡ Nothing
by_something imaged instr Nothing e = refl
by_something imaged instr named e = named_something imaged named (if_something (takes_named instr named) (named_operand imaged named) e)

-- where there is no operand, nothing is named
pub names_nothing : (imaged : Imaged) (instr : Instr) (named : Named) → operands.Nothing ≡ operand_of imaged instr named → named ≡ Nothing
unfolding operand_of
names_nothing imaged instr named e =
    by_something imaged instr named (unmade imaged (instruction_of instr named) (operand_by imaged instr named) operands.Nothing (no_class operands.Nothing refl) (sym e))

-- ---- numbers and texts

named_int : (imaged : Imaged) (named : Named) (z : ℤ) → named_operand imaged named ≡ operands.Int z → named ≡ AnInt z
named_int imaged (AnInt y) z e = let same : y ≡ z = cc in ap AnInt same
named_int imaged (AText units) z e = absurd (no_text (operands.Int z) refl (units_number imaged.texts units) e)
named_int imaged (AClass ty) z e = absurd (no_class (operands.Int z) refl (type_number (typed_of imaged) ty) e)
named_int imaged (AField m) z e = absurd (no_field (operands.Int z) refl (resolved_field_number imaged m) e)
named_int imaged (AMethod m) z e = absurd (no_method (operands.Int z) refl (resolved_method_number imaged m) e)
named_int imaged (AnInterfaceMethod m) z e = absurd (no_method (operands.Int z) refl (resolved_method_number imaged m) e)
named_int imaged named z e = absurd cc

named_long : (imaged : Imaged) (named : Named) (z : ℤ) → named_operand imaged named ≡ operands.Long z → named ≡ ALong z
named_long imaged (ALong y) z e = let same : y ≡ z = cc in ap ALong same
named_long imaged (AText units) z e = absurd (no_text (operands.Long z) refl (units_number imaged.texts units) e)
named_long imaged (AClass ty) z e = absurd (no_class (operands.Long z) refl (type_number (typed_of imaged) ty) e)
named_long imaged (AField m) z e = absurd (no_field (operands.Long z) refl (resolved_field_number imaged m) e)
named_long imaged (AMethod m) z e = absurd (no_method (operands.Long z) refl (resolved_method_number imaged m) e)
named_long imaged (AnInterfaceMethod m) z e = absurd (no_method (operands.Long z) refl (resolved_method_number imaged m) e)
named_long imaged named z e = absurd cc

text_number_is : (n : ℕ) (o : Option ℕ) → text_operand o ≡ operands.Text n → o ≡ Some n
text_number_is n None e = absurd cc
text_number_is n (Some m) e = let same : m ≡ n = cc in ap Some same

named_text : (imaged : Imaged) (named : Named) (n : ℕ) → named_operand imaged named ≡ operands.Text n → (units : List ℕ) × (named ≡ AText units) × (units_number imaged.texts units ≡ Some n)
named_text imaged (AText units) n e = (units, refl, text_number_is n (units_number imaged.texts units) e)
named_text imaged (AClass ty) n e = absurd (no_class (operands.Text n) refl (type_number (typed_of imaged) ty) e)
named_text imaged (AField m) n e = absurd (no_field (operands.Text n) refl (resolved_field_number imaged m) e)
named_text imaged (AMethod m) n e = absurd (no_method (operands.Text n) refl (resolved_method_number imaged m) e)
named_text imaged (AnInterfaceMethod m) n e = absurd (no_method (operands.Text n) refl (resolved_method_number imaged m) e)
named_text imaged named n e = absurd cc

not_twenty : (op : ℕ) → nat_le op 19 ≡ true → nat_eq op 20 ≡ false
not_twenty op e = grind (arith, nat_tests)

int_taken : (instr : Instr) (z : ℤ) → takes_named instr (AnInt z) ≡ true → instruction_of instr (AnInt z) ≡ model.Push (values.Int z)
unfolding instruction_of
int_taken (instrs.Literal op index) z e = ap (λ (b : Bool). if b then model.Other op (AnInt z) else model.Push (values.Int z)) (not_twenty op e)
int_taken instr z e = absurd cc

long_taken : (instr : Instr) (z : ℤ) → takes_named instr (ALong z) ≡ true → instruction_of instr (ALong z) ≡ model.Push (values.Long z)
unfolding instruction_of
long_taken (instrs.Literal op index) z e = ap (λ (b : Bool). if b then model.Push (values.Long z) else model.Other op (ALong z)) e
long_taken instr z e = absurd cc

text_taken : (instr : Instr) (units : List ℕ) → takes_named instr (AText units) ≡ true → instruction_of instr (AText units) ≡ model.PushText units
unfolding instruction_of
text_taken (instrs.Literal op index) units e = ap (λ (b : Bool). if b then model.Other op (AText units) else model.PushText units) (not_twenty op e)
text_taken instr units e = absurd cc

pub pushes_int : (imaged : Imaged) (instr : Instr) (named : Named) (z : ℤ) → operands.Int z ≡ operand_of imaged instr named → instruction_of instr named ≡ model.Push (values.Int z)
pushes_int imaged instr named z e =
    let reported = plainly imaged instr named (operands.Int z) refl (λ e. absurd cc) (sym e) in
    let is = named_int imaged named z reported.1 in
    ap (instruction_of instr) is ∙ int_taken instr z (sym (ap (takes_named instr) is) ∙ reported.0)

pub pushes_long : (imaged : Imaged) (instr : Instr) (named : Named) (z : ℤ) → operands.Long z ≡ operand_of imaged instr named → instruction_of instr named ≡ model.Push (values.Long z)
pushes_long imaged instr named z e =
    let reported = plainly imaged instr named (operands.Long z) refl (λ e. absurd cc) (sym e) in
    let is = named_long imaged named z reported.1 in
    ap (instruction_of instr) is ∙ long_taken instr z (sym (ap (takes_named instr) is) ∙ reported.0)

-- ldc of a text of this number
pub record Pushes (imaged : Imaged) (i : Instruction) (text : ℕ) : Type 0 where
  pub units : List ℕ
  pub is : i ≡ model.PushText units
  pub number : units_number imaged.texts units ≡ Some text

pub pushes_text : (imaged : Imaged) (instr : Instr) (named : Named) (text : ℕ) → operands.Text text ≡ operand_of imaged instr named → Pushes imaged (instruction_of instr named) text
pushes_text imaged instr named text e =
    let reported = plainly imaged instr named (operands.Text text) refl (λ e. absurd cc) (sym e) in
    let is = named_text imaged named text reported.1 in
    record {
      units = is.0;
      is = ap (instruction_of instr) is.1 ∙ text_taken instr is.0 (sym (ap (takes_named instr) is.1) ∙ reported.0);
      number = is.2;
    }

-- ---- fields

abbrev number_in : Operand → Option ℕ
number_in (operands.Field field) = Some field.number
number_in x = None

field_number_is : (n : ℕ) (o : Option ℕ) → field_operand o ≡ operands.Field (record { number = n }) → o ≡ Some n
field_number_is n None e = absurd cc
field_number_is n (Some m) e = ap number_in e

named_field : (imaged : Imaged) (named : Named) (n : ℕ) → named_operand imaged named ≡ operands.Field (record { number = n })
    → (m : Member) × (named ≡ AField m) × (resolved_field_number imaged m ≡ Some n)
named_field imaged (AField m) n e = (m, refl, field_number_is n (resolved_field_number imaged m) e)
named_field imaged (AText units) n e = absurd (no_text (operands.Field (record { number = n })) refl (units_number imaged.texts units) e)
named_field imaged (AClass ty) n e = absurd (no_class (operands.Field (record { number = n })) refl (type_number (typed_of imaged) ty) e)
named_field imaged (AMethod m) n e = absurd (no_method (operands.Field (record { number = n })) refl (resolved_method_number imaged m) e)
named_field imaged (AnInterfaceMethod m) n e = absurd (no_method (operands.Field (record { number = n })) refl (resolved_method_number imaged m) e)
named_field imaged named n e = absurd cc

record IsAlike (all : List FoundField) (found : FoundField) (n : ℕ) : Type 0 where
  other : FoundField
  there : slice_get all n ≡ Some other
  class : other.class ≡ found.class
  name : other.field.name ≡ found.field.name
  desc : other.field.desc ≡ found.field.desc

alike : (all : List FoundField) (found : FoundField) (n : ℕ) → field_number all found ≡ Some n → IsAlike all found n
alike [] found n e = absurd cc
alike (f ∷ all) found n e = by (same_name f.class found.class && is_named found.field.name found.field.desc f.field.name f.field.desc) refl (field_number all found) (alike all found) n e where
  by : (b : Bool) → (same_name f.class found.class && is_named found.field.name found.field.desc f.field.name f.field.desc) ≡ b → (o : Option ℕ) → ((j : ℕ) → o ≡ Some j → IsAlike all found j)
      → (n : ℕ) → (if b then Some 0 else option_map suc o) ≡ Some n → IsAlike (f ∷ all) found n
  by true is o later zero e =
      let parts = and_parts (same_name f.class found.class) (is_named found.field.name found.field.desc f.field.name f.field.desc) is in
      let names = and_parts (same_name f.field.name found.field.name) (same_desc f.field.desc found.field.desc) parts.1 in
      record {
        other = f;
        there = refl;
        class = same_name_is f.class found.class parts.0;
        name = same_name_is f.field.name found.field.name names.0;
        desc = same_desc_is f.field.desc found.field.desc names.1;
      }
  by true is o later (suc n) e = absurd cc
  by false is None later n e = absurd cc
  by false is (Some j) later n e =
      let same : suc j ≡ n = cc in
      let there = later j refl in
      subst (IsAlike (f ∷ all) found) same (record { other = there.other; there = there.there; class = there.class; name = there.name; desc = there.desc })

-- what a field resolves to has its descriptor
in_fields : (fields : List Field) (name : Name) (desc : Desc) (f : Field) → field_in fields name desc ≡ Some f → f.desc ≡ desc
in_fields [] name desc f e = absurd cc
in_fields (g ∷ fields) name desc f e = by (is_named name desc g.name g.desc) refl (in_fields fields name desc f) e where
  by : (b : Bool) → is_named name desc g.name g.desc ≡ b → (field_in fields name desc ≡ Some f → f.desc ≡ desc) → (if b then Some g else field_in fields name desc) ≡ Some f → f.desc ≡ desc
  by true is later e =
      let same : g ≡ f = same_Some g f e in
      let names = and_parts (same_name g.name name) (same_desc g.desc desc) is in
      ap (λ (x : Field). x.desc) (sym same) ∙ same_desc_is g.desc desc names.1
  by false is later e = later e

in_class : (class : Option Class) (name : Name) (desc : Desc) (f : Field) → field_of class name desc ≡ Some f → f.desc ≡ desc
in_class None name desc f e = absurd cc
in_class (Some c) name desc f e = in_fields c.fields name desc f e

in_order : (program : Program) (name : Name) (desc : Desc) (classes : List Name) (found : FoundField) → first_field program name desc classes ≡ Some found → found.field.desc ≡ desc
in_order program name desc [] found e = absurd cc
in_order program name desc (class ∷ classes) found e = by (field_of (class_at program class) name desc) refl (in_order program name desc classes found) e where
  by : (o : Option Field) → field_of (class_at program class) name desc ≡ o → (first_field program name desc classes ≡ Some found → found.field.desc ≡ desc)
      → field_or class o (first_field program name desc classes) ≡ Some found → found.field.desc ≡ desc
  by None is later e = later e
  by (Some f) is later e =
      let same : record { class = class; field = f } ≡ found = same_Some _ found e in
      ap (λ (x : FoundField). x.field.desc) (sym same) ∙ in_class (class_at program class) name desc f is

desc_is : (program : Program) (prefix : List ℕ) (m : Member) (found : FoundField) → resolve_field program prefix m ≡ Some found → found.field.desc ≡ m.desc
unfolding resolve_field
desc_is program prefix m found e = in_order program m.name m.desc (field_order most_classes program (member_class prefix m.class)) found e

-- an instruction on the field of this number
pub record UsesField (imaged : Imaged) (instr : Instr) (named : Named) (n : ℕ) : Type 0 where
  pub member : Member
  pub names : named ≡ AField member
  pub takes : takes_named instr (AField member) ≡ true
  pub found : FoundField
  pub is : IsMember imaged member found n

resolved : (program : Program) (o : Option FoundField) (n : ℕ) → found_field_number program o ≡ Some n → (found : FoundField) × (o ≡ Some found) × (field_number (all_fields program) found ≡ Some n)
resolved program None n e = absurd cc
resolved program (Some found) n e = (found, refl, e)

pub uses_field : (imaged : Imaged) (instr : Instr) (named : Named) (n : ℕ) → operands.Field (record { number = n }) ≡ operand_of imaged instr named → UsesField imaged instr named n
uses_field imaged instr named n e =
    let reported = plainly imaged instr named (operands.Field (record { number = n })) refl (λ e. absurd cc) (sym e) in
    let is = named_field imaged named n reported.1 in
    let there = resolved (program_of imaged) (resolve_field (program_of imaged) imaged.prefix is.0) n is.2 in
    let like = alike (all_fields (program_of imaged)) there.0 n there.2 in
    record {
      member = is.0;
      names = is.1;
      takes = sym (ap (takes_named instr) is.1) ∙ reported.0;
      found = there.0;
      is = record {
        resolves = there.1;
        other = like.other;
        there = like.there;
        class = like.class;
        name = like.name;
        desc = like.desc;
        same = desc_is (program_of imaged) imaged.prefix is.0 there.0 there.1;
      };
    }

-- ---- classes

class_number_is : (n : ℕ) (o : Option ℕ) → class_operand o ≡ operands.Class n → o ≡ Some n
class_number_is n None e = absurd cc
class_number_is n (Some m) e = let same : m ≡ n = cc in ap Some same

named_class : (imaged : Imaged) (named : Named) (n : ℕ) → named_operand imaged named ≡ operands.Class n → (ty : Ty) × (named ≡ AClass ty) × (type_number (typed_of imaged) ty ≡ Some n)
named_class imaged (AClass ty) n e = (ty, refl, class_number_is n (type_number (typed_of imaged) ty) e)
named_class imaged (AText units) n e = absurd (no_text (operands.Class n) refl (units_number imaged.texts units) e)
named_class imaged (AField m) n e = absurd (no_field (operands.Class n) refl (resolved_field_number imaged m) e)
named_class imaged (AMethod m) n e = absurd (no_method (operands.Class n) refl (resolved_method_number imaged m) e)
named_class imaged (AnInterfaceMethod m) n e = absurd (no_method (operands.Class n) refl (resolved_method_number imaged m) e)
named_class imaged named n e = absurd cc

class_named : (imaged : Imaged) (instr : Instr) (named : Named) (n : ℕ) → makes_array (instruction_of instr named) ≡ false → operand_by imaged instr named ≡ operands.Class n → UsesClass imaged instr named n
class_named imaged instr named n unmade_so e =
    let reported = taken imaged instr named (operands.Class n) (λ e. absurd cc) (λ e. absurd cc) e in
    let is = named_class imaged named n reported.1 in
    Names is.0 is.1 (sym (ap (takes_named instr) is.1) ∙ reported.0) unmade_so is.2

class_made : (imaged : Imaged) (instr : Instr) (named : Named) (n : ℕ) (i : Instruction) → instruction_of instr named ≡ i → made_operand imaged i (operand_by imaged instr named) ≡ operands.Class n
    → UsesClass imaged instr named n
class_made imaged instr named n (NewArray class element) is e = Makes class element is (class_number_is n (type_number (typed_of imaged) class) e)
class_made imaged instr named n i is e = class_named imaged instr named n (ap makes_array is) e

pub uses_class : (imaged : Imaged) (instr : Instr) (named : Named) (n : ℕ) → operands.Class n ≡ operand_of imaged instr named → UsesClass imaged instr named n
unfolding operand_of
uses_class imaged instr named n e = class_made imaged instr named n (instruction_of instr named) refl (sym e)

-- ---- methods

-- it is a call, or isn't run
named_method : (imaged : Imaged) (named : Named) (n : ℕ) → named_operand imaged named ≡ operands.Method (record { number = n }) → (m : Member) × ((named ≡ AMethod m) ⊎ (named ≡ AnInterfaceMethod m))
named_method imaged (AMethod m) n e = (m, inl refl)
named_method imaged (AnInterfaceMethod m) n e = (m, inr refl)
named_method imaged (AText units) n e = absurd (no_text (operands.Method (record { number = n })) refl (units_number imaged.texts units) e)
named_method imaged (AClass ty) n e = absurd (no_class (operands.Method (record { number = n })) refl (type_number (typed_of imaged) ty) e)
named_method imaged (AField m) n e = absurd (no_field (operands.Method (record { number = n })) refl (resolved_field_number imaged m) e)
named_method imaged named n e = absurd cc

-- the operand is a method: the instruction is a call, or isn't run
abbrev pub is_call_or_other : Instruction → Bool
is_call_or_other (model.Invoke mode m) = true
is_call_or_other (model.Other op named) = true
is_call_or_other i = false

if_call : (b : Bool) (i j : Instruction) → is_call_or_other i ≡ true → is_call_or_other j ≡ true → is_call_or_other (if b then i else j) ≡ true
if_call true i j a c = a
if_call false i j a c = c

pub method_call : (op : ℕ) (m : Member) → is_call_or_other (member op (AMethod m)) ≡ true
method_call op m =
    if_call (nat_eq op 182) (model.Invoke model.Virtual m) _ refl
    (if_call (nat_eq op 183) (model.Invoke model.Special m) _ refl (if_call (nat_eq op 184) (model.Invoke model.Static m) _ refl refl))

pub interface_method_call : (op : ℕ) (m : Member) → is_call_or_other (member op (AnInterfaceMethod m)) ≡ true
interface_method_call op m = if_call (nat_eq op 183) (model.Invoke model.Special m) _ refl (if_call (nat_eq op 184) (model.Invoke model.Static m) _ refl refl)

method_taken : (instr : Instr) (m : Member) → takes_named instr (AMethod m) ≡ true → is_call_or_other (instruction_of instr (AMethod m)) ≡ true
unfolding instruction_of
method_taken (instrs.Member op index) m e = method_call op m
method_taken instr m e = absurd cc

interface_method_taken : (instr : Instr) (m : Member) → takes_named instr (AnInterfaceMethod m) ≡ true → is_call_or_other (instruction_of instr (AnInterfaceMethod m)) ≡ true
unfolding instruction_of
interface_method_taken (instrs.Member op index) m e = interface_method_call op m
interface_method_taken (instrs.Interface index count) m e = refl
interface_method_taken instr m e = absurd cc

pub calls_method : (imaged : Imaged) (instr : Instr) (named : Named) (n : ℕ) → operands.Method (record { number = n }) ≡ operand_of imaged instr named
    → is_call_or_other (instruction_of instr named) ≡ true
calls_method imaged instr named n e =
    let reported = plainly imaged instr named (operands.Method (record { number = n })) refl (λ e. absurd cc) (sym e) in
    let is = named_method imaged named n reported.1 in
    elim is.1 [
      | inl m ↦ ap (λ (x : Named). is_call_or_other (instruction_of instr x)) m ∙ method_taken instr is.0 (sym (ap (takes_named instr) m) ∙ reported.0)
      | inr m ↦ ap (λ (x : Named). is_call_or_other (instruction_of instr x)) m ∙ interface_method_taken instr is.0 (sym (ap (takes_named instr) m) ∙ reported.0)
    ]
