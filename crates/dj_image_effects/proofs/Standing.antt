-- The instruction of a number in a method of a number, in the image and in the model; and the types of numbers.
use Rattle.std.proofs.Common.{◌≡◌, ◌<◌, ℕ, zero, suc, Bool, true, false, List, [], ◌∷◌, ◌++◌, map, length, Option, Some, None, cond, if◌then◌else◌, refl, sym, ap, subst, ◌∙◌, arith, inl, inr, ◌⊎◌}
use Rattle.std.specs.Prelude.{slice_get, unwrap_or, option_and_then}
use Rattle.std.specs.Option.{option_map}
use Rattle.std.proofs.lemmas.Bool.{false≢true, ne_eqb, both_ways}
use Rattle.std.proofs.lemmas.List.{length-append, length-map}
use Rattle.std.proofs.lemmas.Option.{none-some, same_Some, slice_get-map, slice_get_within}
use Rattle.dj_names.specs.declared.descriptor.Of.{Of}
use Rattle.dj_names.specs.declared.descriptor.Of.TheVariants as ofs
use Rattle.dj_names.specs.declared.descriptor.Ty.{Ty}
use Rattle.dj_names.specs.trusted.Types.{Name, same_name, class_type}
use Rattle.dj_names.specs.trusted.Descriptors.{type_text}
use Rattle.dj_ops.specs.declared.instruction.Instr.{Instr}
use Rattle.dj_library_types.specs.Numbered.{ArePlain, begins_array}
use Rattle.dj_model.specs.trusted.Types.{Prefix, Declared}
use Rattle.dj_model.specs.trusted.Instructions.{Instruction, Named}
use Rattle.dj_model.specs.trusted.Natives.{class_name}
use Rattle.dj_model.specs.trusted.Program.{Program, Class, Method, Body, Abstract, Native, Runs, Code, class_at, code_of, code_in as code_of_method, body_code, method_at}
use Rattle.dj_model.specs.Sound.{is_class_of, is_linked, IsSound}
use Rattle.dj_model.specs.trusted.State.{instruction_in}
use Rattle.dj_model.proofs.SoundFrames.{contained, sound_code, all_at}
use Rattle.dj_early_rules.specs.trusted.Instructions.{index_of}
use Rattle.dj_class_table.specs.Tables.{name_of, name_at, class_number}
use Rattle.dj_class_table.proofs.Numbered.{class_at-number, name_at-number}
use Rattle.dj_class_table.proofs.Orders.{names_from_same}
use Rattle.dj_numbering.specs.Typed.{Typed, texts_of, types_of, type_at, place_of_text, text_number, text_of_type, type_number}
use Rattle.dj_numbering.proofs.Numbers.{number_of_class, place_within}
use Rattle.dj_numbering.proofs.Reported.{types_among}
use Rattle.dj_program.specs.trusted.Naming.{named_if}
use Rattle.dj_image.specs.Imaged.{Imaged, program_of}
use Rattle.dj_image.specs.Codes.{PooledCode, IsOperandAt, HasInstr}
use Rattle.dj_image.specs.Operands.{operand_of}
use Rattle.dj_image.specs.declared.operand.Operand.{Operand}
use Rattle.dj_image.proofs.RowFacts.{type_once}
use Rattle.dj_current_method.specs.Activations.{declared_at}
use Rattle.dj_image_effects.specs.Acting.{instruction_of_number}
use Rattle.dj_image_effects.specs.Operands.{StandsAt}

-- ---- the instruction

-- the operand reported for it is its own
pub operand_is : (imaged : Imaged) (method number : ℕ) (instr : Instr) (named : Named) (operand : Operand) → StandsAt imaged method number instr named → IsOperandAt imaged method number operand
    → operand ≡ operand_of imaged instr named
operand_is imaged method number instr named operand s o =
    let code : o.code ≡ s.code = same_Some o.code s.code (sym o.own ∙ s.own) in
    let at : slice_get s.code.parts.labelled.code number ≡ Some o.instr = subst (λ (c : PooledCode). slice_get c.parts.labelled.code number ≡ Some o.instr) code o.stands in
    let same : o.instr ≡ instr = same_Some o.instr instr (sym at ∙ s.stands) in
    o.is ∙ (ap (λ (c : PooledCode). operand_of imaged o.instr (named_if c.pool (index_of o.instr))) code
    ∙ (ap (λ (x : Instr). operand_of imaged x (named_if s.code.pool (index_of x))) same
    ∙ ap (operand_of imaged instr) (sym s.names)))

pub has_instr : (imaged : Imaged) (method number : ℕ) (instr : Instr) (named : Named) → StandsAt imaged method number instr named → HasInstr imaged method number
has_instr imaged method number instr named s =
    record { code = s.code; own = s.own; within = slice_get_within s.code.parts.labelled.code number instr s.stands }

-- ---- it is linked

pub record HasBody (program : Program) (m : Declared) (code : Code) : Type 0 where
  pub method : Method
  pub there : method_at program m ≡ Some method
  pub body : method.body ≡ Runs code

pub body_of_code : (program : Program) (m : Declared) (code : Code) → code_of program m ≡ Some code → HasBody program m code
unfolding code_of
body_of_code program m code e = by (method_at program m) refl e where
  in_body : (b : Body) → body_code b ≡ Some code → b ≡ Runs code
  in_body Abstract f = absurd (none-some code f)
  in_body (Native id) f = absurd (none-some code f)
  in_body (Runs own) f = ap Runs (same_Some own code f)

  by : (o : Option Method) → method_at program m ≡ o → code_of_method o ≡ Some code → HasBody program m code
  by None is f = absurd (none-some code f)
  by (Some method) is f = record { method = method; there = is; body = in_body method.body f }

sound_link : (program : Program) (prefix : Prefix) → IsSound program prefix → (m : Declared) (o : Option Code) → code_of program m ≡ o → (number : ℕ) (i : Instruction)
    → instruction_in o number ≡ Some i → is_linked program prefix i ≡ true
sound_link program prefix sound m None is number i e = absurd (none-some i e)
sound_link program prefix sound m (Some code) is number i e =
    let has = body_of_code program m code is in
    let code_sound = sound_code program prefix sound m has.method code has.there has.body in
    all_at (is_linked program prefix) code.instructions i code_sound.0.linked (contained code.instructions number i e)

-- in a sound program each instruction is
pub linked_at : (imaged : Imaged) → IsSound (program_of imaged) imaged.prefix → (method number : ℕ) (i : Instruction) → instruction_of_number imaged method number ≡ Some i
    → is_linked (program_of imaged) imaged.prefix i ≡ true
linked_at imaged sound method number i e =
    let program : Program = program_of imaged in
    sound_link program imaged.prefix sound (declared_at program method) (code_of program (declared_at program method)) refl number i e

-- ---- types by numbers

texts_count : (typed : Typed) → length (texts_of typed) ≡ length (types_of typed)
texts_count typed =
    let classes = length-map typed.program (λ (c : Class). class_type (name_of c)) in
    let names = length-map typed.program name_of in
    let arrays = length-map typed.arrays type_text in
    let types = length-append (map (λ (c : Class). class_type (name_of c)) typed.program) typed.arrays in
    let texts = length-append (map name_of typed.program) (map type_text typed.arrays) in
    omega (arith, classes, names, arrays, types, texts)

pub number_within : (typed : Typed) (ty : Ty) (k : ℕ) → type_number typed ty ≡ Some k → k < length (types_of typed)
number_within typed ty k e =
    let within = place_within (texts_of typed) (text_of_type ty) k e in
    let count = texts_count typed in
    omega (arith, within, count)

place_reported : (texts : List Name) (text : Name) (k : ℕ) → place_of_text texts text ≡ Some k → slice_get texts k ≡ Some text
place_reported [] text k e = absurd (none-some k e)
place_reported (x ∷ texts) text k e = by (same_name x text) refl (place_of_text texts text) (place_reported texts text) k e where
  by : (b : Bool) → same_name x text ≡ b → (n : Option ℕ) → ((j : ℕ) → n ≡ Some j → slice_get texts j ≡ Some text)
      → (k : ℕ) → (if b then Some 0 else option_map suc n) ≡ Some k → slice_get (x ∷ texts) k ≡ Some text
  by true same n later zero f = ap Some (names_from_same x text same)
  by true same n later (suc k) f = absurd cc
  by false same None later k f = absurd cc
  by false same (Some j) later k f = subst (λ (k : ℕ). slice_get (x ∷ texts) k ≡ Some text) {x = suc j} {y = k} (cc) (later j refl)

typed_by : (program : Program) (arrays : List Ty) (k : ℕ) (text : Name) → slice_get (map name_of program ++ map type_text arrays) k ≡ Some text
    → (slice_get (types_among program arrays) k ≡ Some (class_type text)) ⊎ ((ty : Ty) × (slice_get (types_among program arrays) k ≡ Some ty) × (type_text ty ≡ text))
typed_by [] arrays k text e = by (slice_get arrays k) refl (sym (slice_get-map type_text arrays k) ∙ e) where
  by : (o : Option Ty) → slice_get arrays k ≡ o → option_map type_text o ≡ Some text
      → (slice_get arrays k ≡ Some (class_type text)) ⊎ ((ty : Ty) × (slice_get arrays k ≡ Some ty) × (type_text ty ≡ text))
  by None is f = absurd (none-some text f)
  by (Some ty) is f = inr (ty, is, same_Some (type_text ty) text f)
typed_by (c ∷ program) arrays zero text e = inl (ap (λ (n : Name). Some (class_type n)) (same_Some c.name text e))
typed_by (c ∷ program) arrays (suc k) text e = typed_by program arrays k text e

pub type_is : (typed : Typed) (k : ℕ) (ty : Ty) → slice_get (types_of typed) k ≡ Some ty → type_at typed k ≡ ty
type_is typed k ty e = ap (λ (o : Option Ty). unwrap_or o (class_type [])) e

pub array_text : (n : ℕ) (of : Of) → text_of_type (record { dims = suc n; of = of }) ≡ type_text (record { dims = suc n; of = of })
array_text n (ofs.Base base) = refl
array_text n (ofs.Class name) =
    ap (λ (b : Bool). cond b name (type_text (record { dims = suc n; of = ofs.Class name }))) (ne_eqb (suc n) 0 (λ e. omega (arith, e)))

array_begins : (n : ℕ) (of : Of) → begins_array (type_text (record { dims = suc n; of = of })) ≡ true
array_begins n of = refl

array_is : (typed : Typed) → ArePlain (types_of typed) → (n : ℕ) (of : Of) (k : ℕ) → type_number typed (record { dims = suc n; of = of }) ≡ Some k
    → type_at typed k ≡ record { dims = suc n; of = of }
array_is typed plain n of k e = elim (typed_by typed.program typed.arrays k text (place_reported (texts_of typed) text k reported)) [
  | inl class ↦ let is : type_at typed k ≡ class_type text = type_is typed k (class_type text) class in
      absurd (both_ways (begins_array text) (sym (ap (λ (t : Ty). begins_array (class_name t)) is) ∙ plain k (number_within typed ty k e) (ap (λ (t : Ty). t.dims) is)) (array_begins n of))
  | inr array ↦ type_is typed k array.0 array.1 ∙ type_once array.0 ty array.2
] where
  ty : Ty
  ty = record { dims = suc n; of = of }

  text : Name
  text = type_text ty

  reported : text_number typed text ≡ Some k
  reported = ap (text_number typed) (sym (array_text n of)) ∙ e

-- a class of the name stands at its number
pub class_there : (program : Program) (arrays : List Ty) (k : ℕ) (name : Name) → name_at program k ≡ Some name → slice_get (types_among program arrays) k ≡ Some (class_type name)
class_there [] arrays k name e = absurd (none-some name e)
class_there (c ∷ program) arrays zero name e = ap (λ (n : Name). Some (class_type n)) (same_Some c.name name e)
class_there (c ∷ program) arrays (suc k) name e = class_there program arrays k name e

class_is : (typed : Typed) (name : Name) → is_class_of typed.program (class_type name) ≡ true → (k : ℕ) → type_number typed (class_type name) ≡ Some k → type_at typed k ≡ class_type name
class_is typed name known k at = by (class_number typed.program name) refl where
  by : (o : Option ℕ) → class_number typed.program name ≡ o → type_at typed k ≡ class_type name
  by None e =
      let none : class_at typed.program name ≡ None = class_at-number typed.program name ∙ ap (option_and_then (slice_get typed.program)) e in
      absurd (false≢true (rw none at known))
  by (Some j) e =
      let same : j ≡ k = same_Some j k (sym (number_of_class typed.program (map type_text typed.arrays) name j e) ∙ at) in
      ap (type_at typed) (sym same) ∙ type_is typed j (class_type name) (class_there typed.program typed.arrays j name (name_at-number typed.program name j e))

-- a type of the program, or an array, stands at its number
pub type_there : (typed : Typed) → ArePlain (types_of typed) → (dims : ℕ) (of : Of) → is_class_of typed.program (record { dims = dims; of = of }) ≡ true
    → (k : ℕ) → type_number typed (record { dims = dims; of = of }) ≡ Some k → type_at typed k ≡ record { dims = dims; of = of }
type_there typed plain zero (ofs.Base base) known k e = absurd (false≢true known)
type_there typed plain zero (ofs.Class name) known k e = class_is typed name known k e
type_there typed plain (suc n) of known k e = array_is typed plain n of k e
