-- What a linked instruction names has a number, where the image has one for each class and array that the program uses.
use Rattle.std.proofs.Common.{◌≡◌, ◌≤◌, ◌&&◌, ◌++◌, ℕ, zero, suc, Bool, true, false, List, [], ◌∷◌, map, Option, Some, None, if◌then◌else◌, nat_eq, nat_le, refl, sym, ap, subst, ◌∙◌, arith, inl, inr, Contains}
use Rattle.std.specs.Prelude.{not, option_and_then, slice_get, unwrap_or}
use Rattle.std.specs.List.{flat_map, starts_with}
use Rattle.std.specs.Option.{option_map}
use Rattle.std.proofs.lemmas.Bool.{both_ways, false≢true}
use Rattle.std.proofs.lemmas.Bool.Decides.{nat_tests}
use Rattle.std.proofs.lemmas.List.Elements.{Contains-append_right}
use Rattle.std.proofs.lemmas.Option.{none-some, same_Some}
use Rattle.dj_names.specs.declared.descriptor.Desc.{Desc}
use Rattle.dj_names.specs.declared.descriptor.Desc.TheVariants as descs
use Rattle.dj_names.specs.declared.descriptor.Of.{Of}
use Rattle.dj_names.specs.declared.descriptor.Of.TheVariants as ofs
use Rattle.dj_names.specs.declared.descriptor.Ty.{Ty}
use Rattle.dj_names.specs.declared.run.Element.TheVariants as elements
use Rattle.dj_names.specs.trusted.Descriptors.{type_text}
use Rattle.dj_names.specs.trusted.DescReading.{desc_read}
use Rattle.dj_names.specs.trusted.Types.{Name, array_type, class_type, same_desc, same_name}
use Rattle.dj_names.proofs.DescLaws.{desc_takes}
use Rattle.dj_ops.specs.declared.instruction.Instr.{Instr}
use Rattle.dj_ops.specs.declared.instruction.Instr.TheVariants as instrs
use Rattle.dj_pool.specs.trusted.Pool as pools
use Rattle.dj_pool.specs.trusted.Pool.{Constant, constant_at}
use Rattle.dj_model.specs.trusted.Types.{Member, Prefix, initialiser_name, no_parameters}
use Rattle.dj_model.specs.trusted.Instructions as model
use Rattle.dj_model.specs.trusted.Instructions.{Instruction, Named, Nothing, AnInt, ALong, AText, AClass, AField, AMethod, AnInterfaceMethod, Another}
use Rattle.dj_model.specs.trusted.Opcodes.{instruction_of, member}
use Rattle.dj_model.specs.trusted.Program.{Program, Class, Field, Code, class_at, code_of, field_in, field_of, is_named}
use Rattle.dj_model.specs.trusted.Linking.{FoundField, first_field, field_or, field_order, member_class, most_classes, resolve_field}
use Rattle.dj_model.specs.Sound.{is_class_of, is_field_found, is_linked}
use Rattle.dj_model.specs.trusted.State.{instruction_in}
use Rattle.dj_model.proofs.MappedNames.{either}
use Rattle.dj_model.proofs.SoundFrames.{contained, method_is}
use Rattle.dj_declarations.specs.trusted.Files.{desc_in, field_type, name_in, type_in}
use Rattle.dj_declarations.proofs.DescTests.{same_desc_is, same_desc_itself, same_name_is, same_name_itself}
use Rattle.dj_early_rules.specs.trusted.Instructions.{index_of}
use Rattle.dj_class_table.specs.Tables.{class_number, name_of}
use Rattle.dj_class_table.proofs.Numbered.{class_at-number}
use Rattle.dj_program.specs.trusted.Naming.{member_in, named_by, named_if, named_or_another}
use Rattle.dj_numbering.specs.Typed.{Typed, is_known_of, place_of_text, type_number}
use Rattle.dj_numbering.specs.Members.{all_fields, field_number, fields_in, found_field_number}
use Rattle.dj_numbering.proofs.Numbers.{number_of_class}
use Rattle.dj_image.specs.declared.operand.Operand.{Operand}
use Rattle.dj_image.specs.declared.operand.Operand.TheVariants as operands
use Rattle.dj_image.specs.Imaged.{Imaged, IsNumbered, IsPartOf, IsUsed, UsesType, program_of, typed_of}
use Rattle.dj_image.specs.Operands.{class_operand, field_operand, named_operand, operand_of, resolved_field_number}
use Rattle.dj_image.proofs.NamedOperands.{IsKnown, is_plain, operand_is_named}
use Rattle.dj_current_method.specs.Activations.{declared_at}
use Rattle.dj_image_effects.specs.Acting.{instruction_of_number}
use Rattle.dj_image_effects.specs.Frugal.{LoadsByKnown, makes}
use Rattle.dj_image_effects.specs.Operands.{IsInstrAt}
use Rattle.dj_image_effects.specs.Used.{IsOperandUsed}
use Rattle.dj_image_effects.proofs.Finding.{is_call_or_other, interface_method_call, method_call}
use Rattle.dj_image_effects.proofs.Standing.{array_text, body_of_code}

-- a test fails, and so does each later one
step : (b : Bool) (o : Option ℕ) → (if b then Some 0 else option_map suc o) ≡ None → (b ≡ false) × (o ≡ None)
step true o e = absurd cc
step false None e = (refl, refl)
step false (Some n) e = absurd cc

-- ---- fields

in_class : (class : Name) (fields : List Field) (name : Name) (desc : Desc) (found : FoundField) (rest : List FoundField) → class ≡ found.class → found.field.name ≡ name → found.field.desc ≡ desc
    → field_in fields name desc ≡ Some found.field → field_number (map (λ (f : Field). record { class = class; field = f }) fields ++ rest) found ≡ None → ⊥
in_class class [] name desc found rest same named described e none = none-some found.field e
in_class class (f ∷ fields) name desc found rest same named described e none = elim (either (is_named name desc f.name f.desc)) [
  | inl is_it ↦
      let this : f ≡ found.field = same_Some f found.field (rw is_it at e) in
      let fails : (same_name class found.class && is_named found.field.name found.field.desc f.name f.desc) ≡ false = (step _ _ none).0 in
      let passes : (same_name class found.class && is_named found.field.name found.field.desc f.name f.desc) ≡ true =
      subst (λ (g : Field). (same_name class found.class && is_named found.field.name found.field.desc g.name g.desc) ≡ true) (sym this)
      (rw (same_name_itself class found.class same, same_name_itself found.field.name found.field.name refl, same_desc_itself found.field.desc) refl) in
      absurd (both_ways _ fails passes)
  | inr other ↦ in_class class fields name desc found rest same named described (rw other at e) (step _ _ none).1
]

past : (class : Name) (fields : List Field) (found : FoundField) (rest : List FoundField) → field_number (map (λ (f : Field). record { class = class; field = f }) fields ++ rest) found ≡ None
    → field_number rest found ≡ None
past class [] found rest none = none
past class (f ∷ fields) found rest none = past class fields found rest (step _ _ none).1

in_all : (program : Program) (name : Name) (desc : Desc) (found : FoundField) (c : Class) → class_at program found.class ≡ Some c → found.field.name ≡ name → found.field.desc ≡ desc
    → field_in c.fields name desc ≡ Some found.field → field_number (flat_map fields_in program) found ≡ None → ⊥
in_all [] name desc found c there named described e none = none-some c there
in_all (d ∷ classes) name desc found c there named described e none = elim (either (same_name d.name found.class)) [
  | inl same ↦
      let this : d ≡ c = same_Some d c (rw same at there) in
      in_class d.name d.fields name desc found (flat_map fields_in classes) (same_name_is d.name found.class same) named described
      (subst (λ (k : Class). field_in k.fields name desc ≡ Some found.field) (sym this) e) none
  | inr other ↦ in_all classes name desc found c (rw other at there) named described e (past d.name d.fields found (flat_map fields_in classes) none)
]

-- a field of its class
record IsOwn (program : Program) (name : Name) (desc : Desc) (found : FoundField) : Type 0 where
  class : Class
  there : class_at program found.class ≡ Some class
  field : field_in class.fields name desc ≡ Some found.field

first_own : (program : Program) (name : Name) (desc : Desc) (classes : List Name) (found : FoundField) → first_field program name desc classes ≡ Some found → IsOwn program name desc found
first_own program name desc [] found e = absurd (none-some found e)
first_own program name desc (class ∷ classes) found e = at_class (first_own program name desc classes found) (class_at program class) refl e where
  at_field : (first_field program name desc classes ≡ Some found → IsOwn program name desc found) → (c : Class) → class_at program class ≡ Some c → (f : Option Field) → field_in c.fields name desc ≡ f
      → field_or class f (first_field program name desc classes) ≡ Some found → IsOwn program name desc found
  at_field more c is None none r = more r
  at_field more c is (Some f) some r =
      subst (IsOwn program name desc) (same_Some (record { class = class; field = f }) found r) (record { class = c; there = is; field = some })

  at_class : (first_field program name desc classes ≡ Some found → IsOwn program name desc found) → (c : Option Class) → class_at program class ≡ c
      → field_or class (field_of (class_at program class) name desc) (first_field program name desc classes) ≡ Some found → IsOwn program name desc found
  at_class more None none r = more (subst (λ (c : Option Class). field_or class (field_of c name desc) (first_field program name desc classes) ≡ Some found) none r)
  at_class more (Some c) some r =
      at_field more c some (field_in c.fields name desc) refl (subst (λ (c : Option Class). field_or class (field_of c name desc) (first_field program name desc classes) ≡ Some found) some r)

named_so : (fields : List Field) (name : Name) (desc : Desc) (f : Field) → field_in fields name desc ≡ Some f → is_named name desc f.name f.desc ≡ true
named_so [] name desc f e = absurd (none-some f e)
named_so (g ∷ fields) name desc f e = elim (either (is_named name desc g.name g.desc)) [
  | inl same ↦ subst (λ (h : Field). is_named name desc h.name h.desc ≡ true) (same_Some g f (rw same at e)) same
  | inr other ↦ named_so fields name desc f (rw other at e)
]

resolved_numbered : (program : Program) (prefix : Prefix) (m : Member) (found : FoundField) → resolve_field program prefix m ≡ Some found → field_number (all_fields program) found ≡ None → ⊥
unfolding resolve_field all_fields
resolved_numbered program prefix m found e none =
    let own = first_own program m.name m.desc (field_order most_classes program (member_class prefix m.class)) found e in
    let tested = both (same_name found.field.name m.name) (same_desc found.field.desc m.desc) (named_so own.class.fields m.name m.desc found.field own.field) in
    in_all program m.name m.desc found own.class own.there (same_name_is found.field.name m.name tested.0) (described found.field.desc m.desc tested.1) own.field none where
      both : (a b : Bool) → (a && b) ≡ true → (a ≡ true) × (b ≡ true)
      both true b e = (refl, e)
      both false b e = absurd (false≢true e)

      described : (a b : Desc) → same_desc a b ≡ true → a ≡ b
      described a b e = same_desc_is a b e

-- ---- types

place_there : (texts : List Name) (text : Name) → Contains texts text → place_of_text texts text ≡ None → ⊥
place_there [] text c none = absurd (omega (arith, c.1))
place_there (x ∷ texts) text (zero, lt, is) none = both_ways (same_name x text) (step (same_name x text) (place_of_text texts text) none).0 (same_name_itself x text is)
place_there (x ∷ texts) text (suc k, lt, is) none = place_there texts text (k, omega (arith, lt), is) (step (same_name x text) (place_of_text texts text) none).1

texts_there : (arrays : List Ty) (ty : Ty) → Contains arrays ty → Contains (map type_text arrays) (type_text ty)
texts_there [] ty c = absurd (omega (arith, c.1))
texts_there (a ∷ arrays) ty (zero, lt, is) = (zero, omega arith, ap type_text is)
texts_there (a ∷ arrays) ty (suc k, lt, is) = let c = texts_there arrays ty (k, omega (arith, lt), is) in (suc c.0, omega (arith, c.1), c.2)

array_there : (typed : Typed) (n : ℕ) (of : Of) → Contains typed.arrays (record { dims = suc n; of = of }) → type_number typed (record { dims = suc n; of = of }) ≡ None → ⊥
array_there typed n of there none =
    let text = type_text (record { dims = suc n; of = of }) in
    let texts = Contains-append_right (map name_of typed.program) (map type_text typed.arrays) text (texts_there typed.arrays (record { dims = suc n; of = of }) there) in
    place_there (map name_of typed.program ++ map type_text typed.arrays) text texts
    (ap (place_of_text (map name_of typed.program ++ map type_text typed.arrays)) (sym (array_text n of)) ∙ none)

class_numbered : (program : Program) (name : Name) → is_class_of program (class_type name) ≡ true → class_number program name ≡ None → ⊥
class_numbered program name known e =
    let none : class_at program name ≡ None = class_at-number program name ∙ ap (option_and_then (slice_get program)) e in
    false≢true (rw none at known)

class_there : (typed : Typed) (name : Name) → is_class_of typed.program (class_type name) ≡ true → type_number typed (class_type name) ≡ None → ⊥
class_there typed name known none = by (class_number typed.program name) refl where
  by : (o : Option ℕ) → class_number typed.program name ≡ o → ⊥
  by None e = class_numbered typed.program name known e
  by (Some j) e = none-some j (sym none ∙ number_of_class typed.program (map type_text typed.arrays) name j e)

known_elements : (program : Program) (n : ℕ) (of : Of) → is_class_of program (record { dims = suc n; of = of }) ≡ true → is_known_of program of ≡ true
known_elements program n (ofs.Base base) known = refl
known_elements program n (ofs.Class name) known = by (class_number program name) refl where
  by : (o : Option ℕ) → class_number program name ≡ o → is_known_of program (ofs.Class name) ≡ true
  by None e = absurd (class_numbered program name known e)
  by (Some j) e = rw e refl

module _ (imaged : Imaged) (numbered : IsNumbered imaged) where
  type_there : (dims : ℕ) (of : Of) → dims ≤ 255 → is_class_of (program_of imaged) (record { dims = dims; of = of }) ≡ true → IsUsed (program_of imaged) (record { dims = dims; of = of })
      → type_number (typed_of imaged) (record { dims = dims; of = of }) ≡ None → ⊥
  type_there zero (ofs.Base base) few known used none = false≢true known
  type_there zero (ofs.Class name) few known used none = class_there (typed_of imaged) name known none
  type_there (suc n) of few known used none =
      let ty : Ty = record { dims = suc n; of = of } in
      let part : IsPartOf ty ty = record { array = omega arith; few = few; within = omega arith; same = refl } in
      array_there (typed_of imaged) n of ((numbered.arrays ty).1 (inr (inr (ty, used, part, known_elements (program_of imaged) n of known)))) none

  -- an instruction of the program uses what it names
  used_at : (method number : ℕ) (i : Instruction) (ty : Ty) → instruction_of_number imaged method number ≡ Some i → UsesType i ty → IsUsed (program_of imaged) ty
  used_at method number i ty at uses = by (code_of (program_of imaged) (declared_at (program_of imaged) method)) refl at where
    by : (o : Option Code) → code_of (program_of imaged) (declared_at (program_of imaged) method) ≡ o → instruction_in o number ≡ Some i → IsUsed (program_of imaged) ty
    by None is e = absurd (none-some i e)
    by (Some code) is e =
        let has = body_of_code (program_of imaged) (declared_at (program_of imaged) method) code is in
        let own = method_is (program_of imaged) (declared_at (program_of imaged) method) has.method has.there in
        record {
          class = own.class;
          there = own.class_in;
          method = has.method;
          own = own.method_in;
          code = code;
          runs = has.body;
          instruction = i;
          stands = contained code.instructions number i e;
          uses = uses;
        }

-- ---- what a constant names has no more dimensions than a descriptor

abbrev dims_of : Named → ℕ
dims_of (AClass ty) = ty.dims
dims_of named = 0

read_dims : (text : List ℕ) (o : Option Desc) → desc_read text ≡ o → (field_type (unwrap_or o no_parameters)).dims ≤ 255
read_dims text None e = omega arith
read_dims text (Some (descs.Field ty)) e = (desc_takes text (descs.Field ty) e).valid.few
read_dims text (Some (descs.Method params ret)) e = omega arith

type_dims : (text : List ℕ) → (type_in text).dims ≤ 255
unfolding type_in desc_in
type_dims text = by (starts_with nat_eq text (91 ∷ [])) where
  by : (b : Bool) → (if b then field_type (unwrap_or (desc_read text) no_parameters) else class_type text).dims ≤ 255
  by true = read_dims text (desc_read text) refl
  by false = omega arith

field_dims : (o : Option Member) → dims_of (named_or_another (option_map AField o)) ≤ 255
field_dims None = omega arith
field_dims (Some m) = omega arith

method_dims : (o : Option Member) → dims_of (named_or_another (option_map AMethod o)) ≤ 255
method_dims None = omega arith
method_dims (Some m) = omega arith

interface_dims : (o : Option Member) → dims_of (named_or_another (option_map AnInterfaceMethod o)) ≤ 255
interface_dims None = omega arith
interface_dims (Some m) = omega arith

constant_dims : (pool : List Constant) (k : Constant) → dims_of (named_by pool k) ≤ 255
unfolding named_by
constant_dims pool (pools.Class index) = type_dims (name_in pool index)
constant_dims pool (pools.Field class names) = field_dims (member_in pool class names)
constant_dims pool (pools.Method class names) = method_dims (member_in pool class names)
constant_dims pool (pools.InterfaceMethod class names) = interface_dims (member_in pool class names)
constant_dims pool k = omega arith

pub named_dims : (pool : List Constant) (o : Option ℕ) → dims_of (named_if pool o) ≤ 255
named_dims pool None = omega arith
named_dims pool (Some index) = by (constant_at pool index) where
  by : (o : Option Constant) → dims_of (named_or_another (option_map (named_by pool) o)) ≤ 255
  by None = omega arith
  by (Some k) = constant_dims pool k

-- ---- operands

class_none : (o : Option ℕ) → class_operand o ≡ operands.Unresolved → o ≡ None
class_none None e = refl
class_none (Some n) e = absurd cc

field_none : (o : Option ℕ) → field_operand o ≡ operands.Unresolved → o ≡ None
field_none None e = refl
field_none (Some n) e = absurd cc

-- it is run and makes no array
runs_plainly : (program : Program) (prefix : Prefix) (i : Instruction) → is_linked program prefix i ≡ true → makes i ≡ false → is_plain i ≡ true
unfolding is_linked
runs_plainly program prefix (model.Other op named) linked none = absurd (false≢true linked)
runs_plainly program prefix (model.NewArray class element) linked none = absurd (both_ways true none refl)
runs_plainly program prefix i linked none = refl

no_call : (i : Instruction) → is_call_or_other i ≡ true → is_plain i ≡ true → makes i ≡ false → ⊥
no_call (model.Invoke mode m) is plain none = both_ways true none refl
no_call (model.Other op named) is plain none = false≢true plain
no_call i is plain none = false≢true is

no_text : (b : Bool) (op : ℕ) (units : List ℕ) → is_plain (if b then model.Other op (AText units) else model.PushText units) ≡ true
    → makes (if b then model.Other op (AText units) else model.PushText units) ≡ false → ⊥
no_text true op units plain none = false≢true plain
no_text false op units plain none = both_ways true none refl

module _ (program : Program) (prefix : Prefix) where
  class_by : (op : ℕ) (ty : Ty) (a b c d : Bool) → ((i : Instruction) → i ≡ (if a then model.New ty else if b then model.NewArray (array_type ty) elements.Ref else if c then model.CheckCast ty else if d then model.InstanceOf ty else model.Other op (AClass ty))
      → is_plain i ≡ true → makes i ≡ false → is_linked program prefix i ≡ true → (UsesType i ty) × (is_class_of program ty ≡ true))
  unfolding is_linked
  class_by op ty true b c d i is plain none linked = absurd (both_ways true (sym (ap makes is) ∙ none) refl)
  class_by op ty false true c d i is plain none linked = absurd (false≢true (sym (ap is_plain is) ∙ plain))
  class_by op ty false false true d i is plain none linked = (subst (λ (j : Instruction). UsesType j ty) (sym is) refl, sym (ap (is_linked program prefix) is) ∙ linked)
  class_by op ty false false false true i is plain none linked = (subst (λ (j : Instruction). UsesType j ty) (sym is) refl, sym (ap (is_linked program prefix) is) ∙ linked)
  class_by op ty false false false false i is plain none linked = absurd (false≢true (sym (ap is_plain is) ∙ plain))

  last_part : (a b c : Bool) → (a && b && c) ≡ true → c ≡ true
  last_part true true c e = e
  last_part true false c e = absurd (false≢true e)
  last_part false b c e = absurd (false≢true e)

  -- the field is there
  linked_field : (m : Member) (static : Bool) → (is_class_of program m.class && not (same_name m.name initialiser_name) && is_field_found static (resolve_field program prefix m)) ≡ true
      → resolve_field program prefix m ≡ None → ⊥
  linked_field m static linked none =
      false≢true (sym (ap (is_field_found static) none) ∙ last_part (is_class_of program m.class) (not (same_name m.name initialiser_name)) (is_field_found static (resolve_field program prefix m)) linked)

  field_by : (op : ℕ) (m : Member) (a b c d : Bool)
      → is_plain (if a then model.GetStatic m else if b then model.PutStatic m else if c then model.GetField m else if d then model.PutField m else model.Other op (AField m)) ≡ true
      → is_linked program prefix (if a then model.GetStatic m else if b then model.PutStatic m else if c then model.GetField m else if d then model.PutField m else model.Other op (AField m)) ≡ true
      → resolve_field program prefix m ≡ None → ⊥
  unfolding is_linked
  field_by op m true b c d plain linked = linked_field m true linked
  field_by op m false true c d plain linked = linked_field m true linked
  field_by op m false false true d plain linked = linked_field m false linked
  field_by op m false false false true plain linked = linked_field m false linked
  field_by op m false false false false plain linked = absurd (false≢true plain)

  field_there : (m : Member) → (resolve_field program prefix m ≡ None → ⊥) → found_field_number program (resolve_field program prefix m) ≡ None → ⊥
  field_there m there none = by (resolve_field program prefix m) refl none where
    by : (o : Option FoundField) → resolve_field program prefix m ≡ o → found_field_number program o ≡ None → ⊥
    by None e n = there e
    by (Some found) e n = resolved_numbered program prefix m found e n

module _ (imaged : Imaged) (numbered : IsNumbered imaged) (method number : ℕ) (pool : List Constant) where
  -- what is named has a number
  named_there : (instr : Instr) (named : Named) → named ≡ named_if pool (index_of instr) → instruction_of_number imaged method number ≡ Some (instruction_of instr named)
      → is_plain (instruction_of instr named) ≡ true → makes (instruction_of instr named) ≡ false → is_linked (program_of imaged) imaged.prefix (instruction_of instr named) ≡ true
      → named_operand imaged named ≡ operands.Unresolved → ⊥
  unfolding instruction_of
  named_there (instrs.Literal op index) (AnInt z) names at plain none linked e = absurd cc
  named_there (instrs.Literal op index) (ALong z) names at plain none linked e = absurd cc
  named_there (instrs.Literal op index) (AText units) names at plain none linked e = no_text (nat_eq op 20) op units plain none
  named_there (instrs.Literal op index) named names at plain none linked e = false≢true plain
  named_there (instrs.Member op index) (AField m) names at plain none linked e =
      field_there (program_of imaged) imaged.prefix m
      (field_by (program_of imaged) imaged.prefix op m (nat_eq op 178) (nat_eq op 179) (nat_eq op 180) (nat_eq op 181) plain linked)
      (field_none (resolved_field_number imaged m) e)
  named_there (instrs.Member op index) (AMethod m) names at plain none linked e = no_call (member op (AMethod m)) (method_call op m) plain none
  named_there (instrs.Member op index) (AnInterfaceMethod m) names at plain none linked e = no_call (member op (AnInterfaceMethod m)) (interface_method_call op m) plain none
  named_there (instrs.Member op index) named names at plain none linked e = false≢true plain
  named_there (instrs.Interface index count) (AnInterfaceMethod m) names at plain none linked e = both_ways true none refl
  named_there (instrs.Interface index count) named names at plain none linked e = false≢true plain
  named_there (instrs.Class op index) (AClass ty) names at plain none linked e =
      let uses = class_by (program_of imaged) imaged.prefix op ty (nat_eq op 187) (nat_eq op 189) (nat_eq op 192) (nat_eq op 193) (instruction_of (instrs.Class op index) (AClass ty)) refl plain none linked in
      let few : ty.dims ≤ 255 = subst (λ (x : Named). dims_of x ≤ 255) (sym names) (named_dims pool (Some index)) in
      type_there imaged numbered ty.dims ty.of few uses.1 (used_at imaged numbered method number (instruction_of (instrs.Class op index) (AClass ty)) ty at uses.0)
      (class_none (type_number (typed_of imaged) ty) e)
  named_there (instrs.Class op index) named names at plain none linked e = false≢true plain
  named_there (instrs.Dynamic index) named names at plain none linked e = false≢true plain
  named_there (instrs.Multi index dims) named names at plain none linked e = false≢true plain
  named_there instr named names at plain none linked e =
      let nothing : operands.Nothing ≡ operands.Unresolved = sym (ap (named_operand imaged) names) ∙ e in absurd cc

known_literal : (imaged : Imaged) (method number : ℕ) (instr : Instr) (named : Named) → IsInstrAt imaged method number instr named → LoadsByKnown imaged method number → IsKnown instr
known_literal imaged method number (instrs.Literal op index) named at known =
    let le : op ≤ 20 = known at.stands.code op index at.stands.own at.stands.stands in
    let is : nat_le op 20 ≡ true = grind (arith, nat_tests, le) in
    is
known_literal imaged method number instr named at known = tt

-- the operand of a linked instruction that makes nothing is resolved
pub resolved : (imaged : Imaged) → IsNumbered imaged → (method number : ℕ) (instr : Instr) (named : Named) → IsInstrAt imaged method number instr named → LoadsByKnown imaged method number
    → (operand : Operand) → IsOperandUsed imaged instr operand named → makes (instruction_of instr named) ≡ false → operand ≡ operands.Unresolved → ⊥
resolved imaged numbered method number instr named at known operand used none e =
    let pool = at.stands.code.pool in
    let plain : is_plain (instruction_of instr named) ≡ true = runs_plainly (program_of imaged) imaged.prefix (instruction_of instr named) used.linked none in
    let is : operand ≡ named_operand imaged named =
    used.is ∙ subst (λ (x : Named). is_plain (instruction_of instr x) ≡ true → operand_of imaged instr x ≡ named_operand imaged x) (sym at.stands.names)
    (operand_is_named imaged pool instr (known_literal imaged method number instr named at known)) plain in
    named_there imaged numbered method number pool instr named at.stands.names at.is plain none used.linked (sym is ∙ e)
