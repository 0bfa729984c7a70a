-- Objects of a heap are known, one by one.
use Rattle.std.proofs.Common.{◌≡◌, ℕ, zero, suc, ◌+◌, ◌-◌, ◌<◌, ◌≤◌, Bool, true, false, List, [], ◌∷◌, ◌++◌, map, length, All, Option, Some, None, refl, sym, ap, subst, ◌∙◌, arith, inl, inr, IsTrue}
use Rattle.std.specs.Prelude.{if◌then◌else◌, nat_eq, nat_lt, slice_get, option_map}
use Rattle.std.specs.List.{AllByRecursion}
use Rattle.std.proofs.lemmas.Bool.{cases_lt, ltb-true, ne_eqb}
use Rattle.std.proofs.lemmas.List.Elements.{All-from_recursion, All-get_or}
use Rattle.std.proofs.lemmas.Option.{none-some, same_Some, slice_get_within, get_or_from_slice_get}
use Rattle.dj_names.specs.declared.descriptor.Ty.{Ty}
use Rattle.dj_names.specs.trusted.Types.{class_type, component_type}
use Rattle.dj_names.specs.declared.run.Element.{Element}
use Rattle.dj_names.specs.declared.run.Element.TheVariants as elements
use Rattle.dj_names.specs.trusted.Heaps.{Object, Instance, Array, Text, class_of}
use Rattle.dj_heap.specs.declared.object.Made.{Made}
use Rattle.dj_heap.specs.declared.object.Made.TheVariants as made
use Rattle.dj_heap.specs.Calls.{made_as}
use Rattle.dj_heap.specs.Heaps.{LimitedHeap, object_in}
use Rattle.dj_model.specs.trusted.Program.{Program, Class}
use Rattle.dj_library_types.specs.Numbered.{IsNumberOf, type_at, holds_references, component_of}
use Rattle.dj_natives.specs.Known.{AreKnown, IsKnown, IsClassType}
use Rattle.dj_member_effects.specs.Numbering.{AreNumbered}
use Rattle.dj_natives_tests.specs.Arguments.{IsKnownAt}
use Rattle.dj_natives_tests.specs.Few.{few_types, few_program, few_arrays}

-- ---- lists

by_places : {A : Type 0} (P : A → Type 0) (xs : List A) → ((k : ℕ) (x : A) → slice_get xs k ≡ Some x → P x) → AllByRecursion P xs
by_places P [] each = tt
by_places P (x ∷ xs) each = (each 0 x refl, by_places P xs (λ k y e. each (suc k) y e))

pub all_places : {A : Type 0} (P : A → Type 0) (xs : List A) → ((k : ℕ) (x : A) → slice_get xs k ≡ Some x → P x) → All P xs
all_places P xs each = All-from_recursion P xs (by_places P xs each)

-- ---- objects

other_known : (types : List Ty) (class : ℕ) (object : Object ℕ) (made_so : Made) → class_of object ≡ class → class < length types → made_as object ≡ made_so
    → (made_so ≡ made.Instance → ⊥) → (made_so ≡ made.Array elements.Ref → ⊥) → IsKnown types object
other_known types class (Instance k fields) made_so own few is apart other = absurd (apart (sym is))
other_known types class (Text k units) made_so own few is apart other = record { class = omega (arith, own, few); holds = tt }
other_known types class (Array k elements.Ref contents) made_so own few is apart other = absurd (other (sym is))
other_known types class (Array k elements.Boolean contents) made_so own few is apart other = record { class = omega (arith, own, few); holds = λ e. absurd cc }
other_known types class (Array k elements.Byte contents) made_so own few is apart other = record { class = omega (arith, own, few); holds = λ e. absurd cc }
other_known types class (Array k elements.Char contents) made_so own few is apart other = record { class = omega (arith, own, few); holds = λ e. absurd cc }
other_known types class (Array k elements.Short contents) made_so own few is apart other = record { class = omega (arith, own, few); holds = λ e. absurd cc }
other_known types class (Array k elements.Int contents) made_so own few is apart other = record { class = omega (arith, own, few); holds = λ e. absurd cc }
other_known types class (Array k elements.Long contents) made_so own few is apart other = record { class = omega (arith, own, few); holds = λ e. absurd cc }

-- an object that is neither an instance nor an array of references
pub known_other : (types : List Ty) (h : LimitedHeap) (r class : ℕ) (made_so : Made) → option_map class_of (object_in h r) ≡ Some class → class < length types
    → option_map made_as (object_in h r) ≡ Some made_so → (made_so ≡ made.Instance → ⊥) → (made_so ≡ made.Array elements.Ref → ⊥) → IsKnownAt types h r
known_other types h r class made_so own few is apart other object e =
    other_known types class object made_so
    (same_Some (class_of object) class (sym (ap (option_map class_of) e) ∙ own)) few
    (same_Some (made_as object) made_so (sym (ap (option_map made_as) e) ∙ is)) apart other

-- the numbers of classes come first
class_is : (program : Program) (arrays : List Ty) (class : ℕ) → class < length program → IsClassType (type_at (map (λ (c : Class). class_type c.name) program ++ arrays) class)
class_is [] arrays class lt = absurd (omega (arith, lt))
class_is (c ∷ program) arrays zero lt = (c.name, refl)
class_is (c ∷ program) arrays (suc class) lt = class_is program arrays class (omega (arith, lt))

instance_known : (types : List Ty) (class : ℕ) (object : Object ℕ) → class_of object ≡ class → class < length types → made_as object ≡ made.Instance
    → IsClassType (type_at types class) → IsKnown types object
instance_known types class (Instance k fields) own few is of_class =
    record { class = omega (arith, own, few); holds = subst (λ (k : ℕ). IsClassType (type_at types k)) (sym own) of_class }
instance_known types class (Array k element contents) own few is of_class = absurd cc
instance_known types class (Text k units) own few is of_class = absurd cc

-- an instance of a class
pub known_instance : (boxed : Bool) (h : LimitedHeap) (r class count : ℕ) → option_map class_of (object_in h r) ≡ Some class → class < length (few_types boxed)
    → option_map made_as (object_in h r) ≡ Some made.Instance → count ≡ length (few_program boxed) → IsTrue (nat_lt class count) → IsKnownAt (few_types boxed) h r
known_instance boxed h r class count own few is counted lt object e =
    let less = ltb-true class count lt in
    instance_known (few_types boxed) class object
    (same_Some (class_of object) class (sym (ap (option_map class_of) e) ∙ own)) few
    (same_Some (made_as object) made.Instance (sym (ap (option_map made_as) e) ∙ is))
    (class_is (few_program boxed) (few_arrays boxed) class (omega (arith, less, counted)))

references_hold : (types : List Ty) (class : ℕ) (component : ℕ) → IsNumberOf types (component_of (type_at types class)) (Some component) → holds_references (type_at types class) ≡ true
references_hold types class component numbered = by (holds_references (type_at types class)) refl numbered where
  by : (b : Bool) → holds_references (type_at types class) ≡ b → IsNumberOf types (if b then Some (component_type (type_at types class)) else None) (Some component) → holds_references (type_at types class) ≡ true
  by true e some = e
  by false e some = absurd some

-- an array of references
pub known_references : (types : List Ty) (h : LimitedHeap) (r class component : ℕ) → option_map class_of (object_in h r) ≡ Some class → class < length types
    → option_map made_as (object_in h r) ≡ Some (made.Array elements.Ref) → IsNumberOf types (component_of (type_at types class)) (Some component) → IsKnownAt types h r
known_references types h r class component own few is numbered (Instance k fields) e =
    let other : made.Instance ≡ made.Array elements.Ref = same_Some made.Instance (made.Array elements.Ref) (sym (ap (option_map made_as) e) ∙ is) in absurd cc
known_references types h r class component own few is numbered (Text k units) e =
    let other : made.Text ≡ made.Array elements.Ref = same_Some made.Text (made.Array elements.Ref) (sym (ap (option_map made_as) e) ∙ is) in absurd cc
known_references types h r class component own few is numbered (Array k element contents) e =
    let same : k ≡ class = same_Some k class (sym (ap (option_map class_of) e) ∙ own) in
    record {
      class = omega (arith, same, few);
      holds = λ ref. ap (λ (c : ℕ). holds_references (type_at types c)) same ∙ references_hold types class component numbered;
    }

-- ---- all objects

-- the first n objects are known
abbrev pub AreKnownTo : List Ty → LimitedHeap → ℕ → Type 0
AreKnownTo types h n = (k : ℕ) (object : Object ℕ) → k < n → slice_get h.heap.objects k ≡ Some object → IsKnown types object

pub known_more : (types : List Ty) (h : LimitedHeap) (at : ℕ) → AreKnownTo types h at → IsKnownAt types h (at + 1) → AreKnownTo types h (at + 1)
known_more types h at before here k object less e = elim (cases_lt k at) [
  | inl lower ↦ before k object lower e
  | inr more ↦
      let same : at + 1 - 1 ≡ k = omega (arith, less, more) in
      let some : nat_eq (at + 1) 0 ≡ false = ne_eqb (at + 1) 0 (λ none. omega (arith, none)) in
      here object (ap (λ (b : Bool). if b then None else slice_get h.heap.objects (at + 1 - 1)) some ∙ ap (slice_get h.heap.objects) same ∙ e)
]

pub known_all : (types : List Ty) (h : LimitedHeap) (n at : ℕ) → n ≡ length h.heap.objects → n ≤ at → AreKnownTo types h at → AreKnown types h
known_all types h n at many past before =
    all_places (IsKnown types) h.heap.objects (λ k object e.
    let within = slice_get_within h.heap.objects k object e in before k object (omega (arith, within, many, past)) e)

pub there_within : (h : LimitedHeap) (n at : ℕ) → n ≡ length h.heap.objects → at < n → at + 1 ≤ length h.heap.objects
there_within h n at many less = omega (arith, many, less)

-- ---- classes alone

pub numbered : (types : List Ty) (h : LimitedHeap) → AreKnown types h → AreNumbered (length types) h.heap
numbered types h known = all_places (λ object. class_of object < length types) h.heap.objects (λ k object e.
    (subst (IsKnown types) (get_or_from_slice_get h.heap.objects k object object e)
    (All-get_or (IsKnown types) h.heap.objects k object (slice_get_within h.heap.objects k object e) known)).class)
