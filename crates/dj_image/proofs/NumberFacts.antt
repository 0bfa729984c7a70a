-- Which arrays and which texts have numbers, by plain programs.
use Rattle.std.proofs.Common.{◌≡◌, ℕ, zero, suc, ◌⊎◌, ◌≤◌, true, false, List, [], ◌∷◌, map, if◌then◌else◌, Option, Some, None, refl, sym, ap, ◌∙◌, subst, inl, inr, codes, pos, arith, Contains, slice_get, IsTrue}
use Rattle.std.proofs.lemmas.Bool.{false≢true}
use Rattle.std.proofs.lemmas.Option.{none-some, same_Some}
use Rattle.dj_names.specs.declared.descriptor.Base.TheVariants as bases
use Rattle.dj_names.specs.declared.descriptor.Ty.{Ty}
use Rattle.dj_names.specs.declared.descriptor.Desc.TheVariants as descs
use Rattle.dj_names.specs.trusted.Types.{same_name, base_type, base_array, array_type}
use Rattle.dj_model.specs.trusted.Instructions.{Instruction, Nop, PushText, CheckCast}
use Rattle.dj_model.specs.trusted.Program as programs
use Rattle.dj_model.specs.trusted.Program.{Program, Class, Method, Field, Body, Code, Runs}
use Rattle.dj_numbering.specs.Typed.{is_known_of, arrays_rise}
use Rattle.dj_image.specs.Sources.{class_of_source}
use Rattle.dj_image.specs.Imaged.{Imaged, UsesType, IsUsed, IsPartOf, IsNumberedArray, IsPushed, IsValue, IsNumbered}
use Rattle.dj_image.proofs.Members.{member_first, member_later, member_none, member_cases}
use Rattle.dj_image.proofs.TypeFacts.{other_type, other_text, a, ints, longs, a_arrays, b_arrays, no_more_dimensions, no_element, no_other_base}

abbrev bytes : Ty
bytes = base_array bases.Byte

abbrev chars : Ty
chars = base_array bases.Char

abbrev s : List ℕ
s = codes "s"

abbrev t : List ℕ
t = codes "t"

-- ---- lists

only : {A : Type 0} (x v : A) → Contains (x ∷ []) v → x ≡ v
only x v member = elim (member_cases x [] v member) [ inl e ↦ e | inr more ↦ absurd (member_none v more) ]

either_of : {A : Type 0} (x y v : A) → Contains (x ∷ y ∷ []) v → (x ≡ v) ⊎ (y ≡ v)
either_of x y v member = elim (member_cases x (y ∷ []) v member) [ inl e ↦ inl e | inr more ↦ inr (only y v more) ]

second_there : {A : Type 0} (x y : A) (rest : List A) → Contains (x ∷ y ∷ rest) y
second_there x y rest = member_later x (y ∷ rest) y (member_first y rest)

-- ---- programs of one class A, with a field and a method

abbrev field_of : Option programs.Constant → Field
field_of constant = record { flags = 8; name = codes "x"; desc = descs.Field (base_type bases.Int); constant = constant }

abbrev code_of : List Instruction → Code
code_of instructions = record { max_stack = 1; max_locals = 1; instructions = instructions; ranges = []; frames = Some [] }

abbrev method_of : List Instruction → Method
method_of instructions = record { flags = 8; name = codes "m"; desc = descs.Method [] None; body = Runs (code_of instructions) }

abbrev class_of : Option programs.Constant → List Instruction → Class
class_of constant instructions = record {
  name = codes "A";
  flags = 33;
  superclass = None;
  interfaces = [];
  unnamed_fields = 0;
  fields = field_of constant ∷ [];
  methods = method_of instructions ∷ [];
}

abbrev program : Option programs.Constant → List Instruction → Program
program constant instructions = class_of constant instructions ∷ []

abbrev plain : List Instruction → Program
plain instructions = program None instructions

abbrev code_or : Code → Body → Code
code_or other (Runs code) = code
code_or other body = other

-- what runs in such a program is an instruction of its method
instruction_there : (constant : Option programs.Constant) (instructions : List Instruction) (class : Class) (method : Method) (code : Code) (i : Instruction)
    → Contains (program constant instructions) class → Contains class.methods method → method.body ≡ Runs code → Contains code.instructions i → Contains instructions i
instruction_there constant instructions class method code i there own runs stands =
    let of_class : class_of constant instructions ≡ class = only (class_of constant instructions) class there in
    let of_method : method_of instructions ≡ method =
    only (method_of instructions) method (subst (λ (c : Class). Contains c.methods method) (sym of_class) own) in
    let body : Runs (code_of instructions) ≡ Runs code = ap (λ (x : Method). x.body) of_method ∙ runs in
    let same : code_of instructions ≡ code = ap (code_or (code_of instructions)) body in
    subst (λ (c : Code). Contains c.instructions i) (sym same) stands

use_there : (constant : Option programs.Constant) (instructions : List Instruction) (i : Instruction) (ty : Ty) → Contains instructions i → UsesType i ty → IsUsed (program constant instructions) ty
use_there constant instructions i ty stands uses = record {
  class = class_of constant instructions;
  there = member_first (class_of constant instructions) [];
  method = method_of instructions;
  own = member_first (method_of instructions) [];
  code = code_of instructions;
  runs = refl;
  instruction = i;
  stands = stands;
  uses = uses;
}

-- ---- arrays that have numbers

-- arrays of bytes and of chars in each program, one without classes too
always : IsNumberedArray [] bytes × IsNumberedArray [] chars × IsNumberedArray (plain (Nop ∷ [])) bytes
always = (inl refl, inr (inl refl), inl refl)

used : (ty : Ty) → IsUsed (plain (Nop ∷ CheckCast ty ∷ [])) ty
used ty = use_there None (Nop ∷ CheckCast ty ∷ []) (CheckCast ty) ty (second_there Nop (CheckCast ty) []) refl

-- of ints where an instruction uses one; of the class that is there; and the elements of an array that is used
ints_used : IsNumberedArray (plain (Nop ∷ CheckCast ints ∷ [])) ints
ints_used = inr (inr (ints, used ints, record { array = omega arith; few = omega arith; within = omega arith; same = refl }, refl))

class_used : IsNumberedArray (plain (Nop ∷ CheckCast (a_arrays 2) ∷ [])) (a_arrays 2)
class_used = inr (inr (a_arrays 2, used (a_arrays 2), record { array = omega arith; few = omega arith; within = omega arith; same = refl }, refl))

part_used : IsNumberedArray (plain (Nop ∷ CheckCast (a_arrays 2) ∷ [])) (a_arrays 1)
part_used = inr (inr (a_arrays 2, used (a_arrays 2), record { array = omega arith; few = omega arith; within = omega arith; same = refl }, refl))

-- an array that is neither of bytes nor of chars has a number by the one instruction alone
by_one : (i : Instruction) (ty : Ty) → (ty ≡ bytes → ⊥) → (ty ≡ chars → ⊥) → IsNumberedArray (plain (i ∷ [])) ty
    → (whole : Ty) × UsesType i whole × IsPartOf ty whole × IsTrue (is_known_of (plain (i ∷ [])) ty.of)
by_one i ty no_bytes no_chars numbered = elim numbered [
  | inl of_bytes ↦ absurd (no_bytes of_bytes)
  | inr more ↦ elim more [
    | inl of_chars ↦ absurd (no_chars of_chars)
    | inr rest ↦ (rest.0, uses rest.0 rest.1, rest.2, rest.3)
  ]
] where
  uses : (whole : Ty) → IsUsed (plain (i ∷ [])) whole → UsesType i whole
  uses whole u =
      let member : Contains (i ∷ []) u.instruction = instruction_there None (i ∷ []) u.class u.method u.code u.instruction u.there u.own u.runs u.stands in
      subst (λ (j : Instruction). UsesType j whole) (sym (only i u.instruction member)) u.uses

-- none of ints where no instruction uses one
ints_unused : IsNumberedArray (plain (Nop ∷ [])) ints → ⊥
ints_unused numbered =
    let found = by_one Nop ints (other_type ints bytes refl refl) (other_type ints chars refl refl) numbered in
    found.1

-- none in a program without classes
none_without_classes : IsNumberedArray [] ints → ⊥
none_without_classes numbered = elim numbered [
  | inl of_bytes ↦ other_type ints bytes refl refl of_bytes
  | inr more ↦ elim more [
    | inl of_chars ↦ other_type ints chars refl refl of_chars
    | inr rest ↦ member_none rest.1.class rest.1.there
  ]
]

-- where an instruction uses an array, it is of that one that an array with a number is a part
part_of_used : (whole ty : Ty) → (ty ≡ bytes → ⊥) → (ty ≡ chars → ⊥) → IsNumberedArray (plain (CheckCast whole ∷ [])) ty → IsPartOf ty whole
part_of_used whole ty no_bytes no_chars numbered =
    let found = by_one (CheckCast whole) ty no_bytes no_chars numbered in
    subst (λ (w : Ty). IsPartOf ty w) found.1 found.2

-- of ints none of longs, and none of arrays of ints
longs_unused : IsNumberedArray (plain (CheckCast ints ∷ [])) longs → ⊥
longs_unused numbered = no_other_base (part_of_used ints longs (other_type longs bytes refl refl) (other_type longs chars refl refl) numbered)

no_wider : IsNumberedArray (plain (CheckCast (a_arrays 2) ∷ [])) (a_arrays 3) → ⊥
no_wider numbered = no_more_dimensions (part_of_used (a_arrays 2) (a_arrays 3) (other_type (a_arrays 3) bytes refl refl) (other_type (a_arrays 3) chars refl refl) numbered)

-- not the class of the elements, though it is there
no_class_itself : IsNumberedArray (plain (CheckCast (a_arrays 1) ∷ [])) a → ⊥
no_class_itself numbered = no_element (part_of_used (a_arrays 1) a (other_type a bytes refl refl) (other_type a chars refl refl) numbered)

-- none of a class that isn't there, though an instruction uses it
no_missing : IsNumberedArray (plain (CheckCast (b_arrays 1) ∷ [])) (b_arrays 1) → ⊥
no_missing numbered =
    let found = by_one (CheckCast (b_arrays 1)) (b_arrays 1) (other_type (b_arrays 1) bytes refl refl) (other_type (b_arrays 1) chars refl refl) numbered in
    false≢true found.3

-- ---- texts that have numbers

push_there : (constant : Option programs.Constant) (instructions : List Instruction) (text : List ℕ) → Contains instructions (PushText text) → IsPushed (program constant instructions) text
push_there constant instructions text stands = record {
  class = class_of constant instructions;
  there = member_first (class_of constant instructions) [];
  method = method_of instructions;
  own = member_first (method_of instructions) [];
  code = code_of instructions;
  runs = refl;
  stands = stands;
}

pushed : IsPushed (plain (Nop ∷ PushText s ∷ [])) s
pushed = push_there None (Nop ∷ PushText s ∷ []) s (second_there Nop (PushText s) [])

abbrev units_pushed : List ℕ → Instruction → List ℕ
units_pushed other (PushText units) = units
units_pushed other i = other

-- what is pushed is pushed by an instruction
push_stands : (constant : Option programs.Constant) (instructions : List Instruction) (text : List ℕ) → IsPushed (program constant instructions) text → Contains instructions (PushText text)
push_stands constant instructions text p = instruction_there constant instructions p.class p.method p.code (PushText text) p.there p.own p.runs p.stands

-- no other text, and none that nothing pushes
no_other_text : IsPushed (plain (PushText s ∷ [])) t → ⊥
no_other_text p = other_text s t refl refl (ap (units_pushed s) (only (PushText s) (PushText t) (push_stands None (PushText s ∷ []) t p)))

none_pushed : IsPushed (plain (Nop ∷ [])) s → ⊥
none_pushed p = let e : Nop ≡ PushText s = only Nop (PushText s) (push_stands None (Nop ∷ []) s p) in absurd cc

value_there : (instructions : List Instruction) (text : List ℕ) → IsValue (program (Some (programs.Text text)) instructions) text
value_there instructions text = record {
  class = class_of (Some (programs.Text text)) instructions;
  there = member_first (class_of (Some (programs.Text text)) instructions) [];
  field = field_of (Some (programs.Text text));
  own = member_first (field_of (Some (programs.Text text))) [];
  begins = refl;
}

value : IsValue (program (Some (programs.Text s)) []) s
value = value_there [] s

-- with what the one field begins
value_of_one : (constant : Option programs.Constant) (instructions : List Instruction) (text : List ℕ) → IsValue (program constant instructions) text → constant ≡ Some (programs.Text text)
value_of_one constant instructions text v =
    let of_class : class_of constant instructions ≡ v.class = only (class_of constant instructions) v.class v.there in
    let of_field : field_of constant ≡ v.field = only (field_of constant) v.field (subst (λ (c : Class). Contains c.fields v.field) (sym of_class) v.own) in
    ap (λ (f : Field). f.constant) of_field ∙ v.begins

abbrev units_begun : List ℕ → Option programs.Constant → List ℕ
units_begun other (Some (programs.Text units)) = units
units_begun other constant = other

-- not with another text, nor with an int or with nothing; and a text that is pushed isn't a value
no_other_value : IsValue (program (Some (programs.Text s)) []) t → ⊥
no_other_value v = other_text s t refl refl (ap (units_begun s) (value_of_one (Some (programs.Text s)) [] t v))

no_value_of_int : IsValue (program (Some (programs.Int (pos 5))) []) s → ⊥
no_value_of_int v = let e : Some (programs.Int (pos 5)) ≡ Some (programs.Text s) = value_of_one (Some (programs.Int (pos 5))) [] s v in absurd cc

no_value_of_none : IsValue (plain (PushText s ∷ [])) s → ⊥
no_value_of_none v = none-some (programs.Text s) (value_of_one None (PushText s ∷ []) s v)

-- ---- the order of arrays

-- by the bytes of the descriptors: [B, [C, [I, [LA;, [[B
orders : map arrays_rise (
    []
    ∷ (bytes ∷ chars ∷ ints ∷ a_arrays 1 ∷ array_type bytes ∷ [])
    ∷ (chars ∷ bytes ∷ [])
    ∷ (bytes ∷ bytes ∷ [])
    ∷ (array_type bytes ∷ bytes ∷ [])
    ∷ (b_arrays 1 ∷ a_arrays 1 ∷ [])
    ∷ []
    ) ≡ true ∷ true ∷ false ∷ false ∷ false ∷ false ∷ []
orders = refl

-- ---- images

-- a class A of which a field begins with t, and whose method casts to arrays of ints and pushes s
abbrev instructions : List Instruction
instructions = CheckCast ints ∷ PushText s ∷ []

abbrev whole : Program
whole = program (Some (programs.Text t)) instructions

abbrev image_of : List Ty → List (List ℕ) → Imaged
image_of arrays texts = record {
  sources = record { class = class_of (Some (programs.Text t)) instructions; pool = []; codes = []; values = [] } ∷ [];
  prefix = [];
  arrays = arrays;
  texts = texts;
}

abbrev arrays : List Ty
arrays = bytes ∷ chars ∷ ints ∷ []

abbrev texts : List (List ℕ)
texts = s ∷ t ∷ []

ints_there : IsNumberedArray whole ints
ints_there =
    inr (inr (
      ints,
      use_there (Some (programs.Text t)) instructions (CheckCast ints) ints (member_first (CheckCast ints) (PushText s ∷ [])) refl,
      record { array = omega arith; few = omega arith; within = omega arith; same = refl },
      refl,
    ))

part_of_ints : (ty : Ty) → IsPartOf ty ints → ints ≡ ty
part_of_ints ty part =
    let within : ty.dims ≤ 1 = part.within in
    let one : 1 ≡ ty.dims = omega (arith, part.array, within) in
    (λ i. record { dims = one i; of = sym part.same i })

used_is_ints : (ty : Ty) → IsUsed whole ty → ty ≡ ints
used_is_ints ty u =
    elim (either_of (CheckCast ints) (PushText s) u.instruction (instruction_there (Some (programs.Text t)) instructions u.class u.method u.code u.instruction u.there u.own u.runs u.stands)) [
      | inl cast ↦ subst (λ (j : Instruction). UsesType j ty) (sym cast) u.uses
      | inr push ↦ absurd (subst (λ (j : Instruction). UsesType j ty) (sym push) u.uses)
    ]

array_numbered : (ty : Ty) → Contains arrays ty → IsNumberedArray whole ty
array_numbered ty member = elim (member_cases bytes (chars ∷ ints ∷ []) ty member) [
  | inl of_bytes ↦ inl (sym of_bytes)
  | inr more ↦ elim (either_of chars ints ty more) [
    | inl of_chars ↦ inr (inl (sym of_chars))
    | inr of_ints ↦ subst (λ (u : Ty). IsNumberedArray whole u) of_ints ints_there
  ]
]

numbered_array : (ty : Ty) → IsNumberedArray whole ty → Contains arrays ty
numbered_array ty numbered = elim numbered [
  | inl of_bytes ↦ subst (λ (u : Ty). Contains arrays u) (sym of_bytes) (member_first bytes (chars ∷ ints ∷ []))
  | inr more ↦ elim more [
    | inl of_chars ↦ subst (λ (u : Ty). Contains arrays u) (sym of_chars) (second_there bytes chars (ints ∷ []))
    | inr rest ↦
        let part : IsPartOf ty ints = subst (λ (w : Ty). IsPartOf ty w) (used_is_ints rest.0 rest.1) rest.2 in
        subst (λ (u : Ty). Contains arrays u) (part_of_ints ty part) (member_later bytes (chars ∷ ints ∷ []) ints (second_there chars ints []))
  ]
]

s_pushed : IsPushed whole s
s_pushed = push_there (Some (programs.Text t)) instructions s (second_there (CheckCast ints) (PushText s) [])

t_begins : IsValue whole t
t_begins = value_there instructions t

text_numbered : (text : List ℕ) → Contains texts text → IsPushed whole text ⊎ IsValue whole text
text_numbered text member = elim (either_of s t text member) [
  | inl is_s ↦ inl (subst (λ (u : List ℕ). IsPushed whole u) is_s s_pushed)
  | inr is_t ↦ inr (subst (λ (u : List ℕ). IsValue whole u) is_t t_begins)
]

numbered_text : (text : List ℕ) → IsPushed whole text ⊎ IsValue whole text → Contains texts text
numbered_text text numbered = elim numbered [
  | inl p ↦ elim (either_of (CheckCast ints) (PushText s) (PushText text) (push_stands (Some (programs.Text t)) instructions text p)) [
    | inl cast ↦ absurd (not_push text cast)
    | inr push ↦ subst (λ (u : List ℕ). Contains texts u) (ap (units_pushed s) push) (member_first s (t ∷ []))
  ]
  | inr v ↦ subst (λ (u : List ℕ). Contains texts u) (ap (units_begun t) (value_of_one (Some (programs.Text t)) instructions text v)) (second_there s t [])
] where
  not_push : (text : List ℕ) → CheckCast ints ≡ PushText text → ⊥
  not_push text e = absurd cc

abbrev place_in : List ℕ → ℕ
place_in text = if same_name text s then 0 else 1

place_is : (k : ℕ) (text : List ℕ) → slice_get texts k ≡ Some text → k ≡ place_in text
place_is zero text e = ap place_in (same_Some s text e)
place_is (suc zero) text e = ap place_in (same_Some t text e)
place_is (suc (suc k)) text e = absurd (none-some text e)

numbered_whole : IsNumbered (image_of arrays texts)
unfolding class_of_source
numbered_whole = record {
  arrays = λ ty. (array_numbered ty, numbered_array ty);
  rise = refl;
  texts = λ text. (text_numbered text, numbered_text text);
  once = λ a b text first second. place_is a text first ∙ sym (place_is b text second);
}

-- not without the arrays of chars or those of ints, nor with others
chars_missing : IsNumbered (image_of (bytes ∷ ints ∷ []) texts) → ⊥
unfolding class_of_source
chars_missing numbered = elim (either_of bytes ints chars ((numbered.arrays chars).1 (inr (inl refl)))) [
  | inl e ↦ other_type bytes chars refl refl e
  | inr e ↦ other_type ints chars refl refl e
]

ints_missing : IsNumbered (image_of (bytes ∷ chars ∷ []) texts) → ⊥
unfolding class_of_source
ints_missing numbered = elim (either_of bytes chars ints ((numbered.arrays ints).1 ints_there)) [
  | inl e ↦ other_type bytes ints refl refl e
  | inr e ↦ other_type chars ints refl refl e
]

longs_too_many : IsNumbered (image_of (bytes ∷ chars ∷ ints ∷ longs ∷ []) texts) → ⊥
unfolding class_of_source
longs_too_many numbered = elim ((numbered.arrays longs).0 (3, omega arith, refl)) [
  | inl of_bytes ↦ other_type longs bytes refl refl of_bytes
  | inr more ↦ elim more [
    | inl of_chars ↦ other_type longs chars refl refl of_chars
    | inr rest ↦ no_other_base (subst (λ (w : Ty). IsPartOf longs w) (used_is_ints rest.0 rest.1) rest.2)
  ]
]

-- nor with the arrays in another order, or one twice
not_rising : IsNumbered (image_of (chars ∷ bytes ∷ ints ∷ []) texts) → ⊥
not_rising numbered = false≢true numbered.rise

bytes_twice : IsNumbered (image_of (bytes ∷ bytes ∷ chars ∷ ints ∷ []) texts) → ⊥
bytes_twice numbered = false≢true numbered.rise

-- nor without a text that is pushed or begins a field, with another one, or with one twice
s_missing : IsNumbered (image_of arrays (t ∷ [])) → ⊥
unfolding class_of_source
s_missing numbered = other_text t s refl refl (only t s ((numbered.texts s).1 (inl s_pushed)))

t_missing : IsNumbered (image_of arrays (s ∷ [])) → ⊥
unfolding class_of_source
t_missing numbered = other_text s t refl refl (only s t ((numbered.texts t).1 (inr t_begins)))

empty_too_many : IsNumbered (image_of arrays (s ∷ t ∷ [] ∷ [])) → ⊥
unfolding class_of_source
empty_too_many numbered = elim (either_of s t [] (numbered_text [] ((numbered.texts []).0 (2, omega arith, refl)))) [
  | inl e ↦ other_text s [] refl refl e
  | inr e ↦ other_text t [] refl refl e
]

not_twice : IsNumbered (image_of arrays (s ∷ t ∷ s ∷ [])) → ⊥
not_twice numbered = let e : 0 ≡ 2 = numbered.once 0 2 s refl refl in absurd (omega (arith, e))
