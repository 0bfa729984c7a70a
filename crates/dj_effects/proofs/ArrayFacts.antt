-- Arrays, as the code finds them.
use Rattle.std.proofs.Common.{◌≡◌, ◌<◌, ◌≤◌, ℕ, zero, suc, ◌-◌, Bool, true, false, ℤ, pos, negsuc, List, [], ◌∷◌, length, Option, Some, None, IsSome, slice_get, nat_eq, nat_lt, Result, Ok, Err, if◌then◌else◌, refl, sym, ap, subst, ◌∙◌, arith, eqb-true}
use Rattle.std.specs.Option.{option_map}
use Rattle.std.specs.Prelude.{option_and_then}
use Rattle.std.proofs.lemmas.Bool.{ltb-true}
use Rattle.dj_names.specs.declared.run.Element.{Element}
use Rattle.dj_names.specs.declared.run.Raised.TheVariants as raises
use Rattle.dj_names.specs.trusted.Heaps.{Object, Instance, Array, Text}
use Rattle.dj_model.specs.trusted.Instructions.{Access}
use Rattle.dj_model.specs.trusted.Arrays as model
use Rattle.dj_model.specs.trusted.Arrays.{Found, array_at, array_in, reaches}
use Rattle.dj_heap.specs.Heaps.{LimitedHeap, contents_of, object_in, element_in}
use Rattle.dj_heap.specs.Lengths.{object_length}
use Rattle.dj_heap.specs.Calls.{made_as}
use Rattle.dj_heap.specs.declared.object.Made.TheVariants as made
use Rattle.dj_effects.specs.declared.way.Way.TheVariants as ways
use Rattle.dj_effects.specs.declared.way.Flow.{Flow}
use Rattle.dj_effects.specs.declared.way.Flow.TheVariants as goes
use Rattle.dj_effects.specs.Arrays.{array_reported, place_at, place_of}

-- ---- what a reference is

abbrev pub reported_array : Element → ℕ → Result (Element × ℕ) Flow
reported_array element n = Ok (element, n)

array_of : (o : Option (Object ℕ)) (element : Element) (n : ℕ) → option_map made_as o ≡ Some (made.Array element) → option_map object_length o ≡ Some n
    → reported_array element n ≡ array_reported (array_in o)
array_of None element n kind count = absurd cc
array_of (Some (Instance class fields)) element n kind count = absurd cc
array_of (Some (Array class of contents)) element n kind count =
    let same_element : of ≡ element = cc in
    let same_count : length contents ≡ n = cc in
    ap (λ (e : Element). reported_array e n) (sym same_element) ∙ ap (reported_array of) (sym same_count)
array_of (Some (Text class units)) element n kind count = absurd cc

instance_of : (o : Option (Object ℕ)) → option_map made_as o ≡ Some made.Instance → Err goes.Link ≡ array_reported (array_in o)
instance_of None kind = absurd cc
instance_of (Some (Instance class fields)) kind = refl
instance_of (Some (Array class of contents)) kind = absurd cc
instance_of (Some (Text class units)) kind = refl

text_of : (o : Option (Object ℕ)) → option_map made_as o ≡ Some made.Text → Err goes.Link ≡ array_reported (array_in o)
text_of None kind = absurd cc
text_of (Some (Instance class fields)) kind = refl
text_of (Some (Array class of contents)) kind = absurd cc
text_of (Some (Text class units)) kind = refl

not_null_if : (b : Bool) (r : ℕ) → nat_eq r 0 ≡ b → (r ≡ 0 → ⊥) → nat_eq r 0 ≡ false
not_null_if true r e some = absurd (some (eqb-true r 0 e))
not_null_if false r e some = e

pub not_null : (r : ℕ) → (r ≡ 0 → ⊥) → nat_eq r 0 ≡ false
not_null r some = not_null_if (nat_eq r 0) r refl some

-- a reference that isn't null is that of an object, if there is one
at_object : (h : LimitedHeap) (r : ℕ) → (r ≡ 0 → ⊥) → array_at h.heap r ≡ array_in (object_in h r)
at_object h r some = ap (λ (b : Bool). if b then model.Null else array_in (object_in h r)) (not_null r some)

pub found_null : (h : LimitedHeap) (r : ℕ) → r ≡ 0 → Err (goes.Goes (ways.Raise raises.NullPointer)) ≡ array_reported (array_at h.heap r)
found_null h r null = ap (λ (r : ℕ). array_reported (array_at h.heap r)) (sym null)

pub found_array : (h : LimitedHeap) (r : ℕ) (element : Element) (n : ℕ) → (r ≡ 0 → ⊥) → option_map made_as (object_in h r) ≡ Some (made.Array element)
    → option_map object_length (object_in h r) ≡ Some n → reported_array element n ≡ array_reported (array_at h.heap r)
found_array h r element n some kind count = array_of (object_in h r) element n kind count ∙ ap array_reported (sym (at_object h r some))

pub found_instance : (h : LimitedHeap) (r : ℕ) → (r ≡ 0 → ⊥) → option_map made_as (object_in h r) ≡ Some made.Instance → Err goes.Link ≡ array_reported (array_at h.heap r)
found_instance h r some kind = instance_of (object_in h r) kind ∙ ap array_reported (sym (at_object h r some))

pub found_text : (h : LimitedHeap) (r : ℕ) → (r ≡ 0 → ⊥) → option_map made_as (object_in h r) ≡ Some made.Text → Err goes.Link ≡ array_reported (array_at h.heap r)
found_text h r some kind = text_of (object_in h r) kind ∙ ap array_reported (sym (at_object h r some))

past : (objects : List (Object ℕ)) (i : ℕ) → length objects ≤ i → slice_get objects i ≡ None
past [] i e = refl
past (o ∷ objects) zero e = absurd (omega (arith, e))
past (o ∷ objects) (suc i) e = past objects i (omega (arith, e))

number_there : (h : LimitedHeap) (r : ℕ) → (r ≡ 0 → ⊥) → object_in h r ≡ slice_get h.heap.objects (r - 1)
number_there h r some = ap (λ (b : Bool). if b then None else slice_get h.heap.objects (r - 1)) (not_null r some)

pub found_past : (h : LimitedHeap) (r : ℕ) → (r ≡ 0 → ⊥) → length h.heap.objects < r → Err goes.Link ≡ array_reported (array_at h.heap r)
found_past h r some e =
    let none : object_in h r ≡ None = number_there h r some ∙ past h.heap.objects (r - 1) (omega (arith, e)) in
    ap (λ o. array_reported (array_in o)) (sym none) ∙ ap array_reported (sym (at_object h r some))

pub inside : {A : Type 0} (items : List A) (i : ℕ) → i < length items → IsSome (slice_get items i)
inside [] i e = absurd (omega (arith, e))
inside (item ∷ items) zero e = refl
inside (item ∷ items) (suc i) e = inside items i (omega (arith, e))

above : (r : ℕ) → (r ≡ 0 → ⊥) → 0 < r
above zero some = absurd (some refl)
above (suc r) some = omega arith

pub object_there : (h : LimitedHeap) (r : ℕ) → (r ≡ 0 → ⊥) → r ≤ length h.heap.objects → IsSome (object_in h r)
object_there h r some e =
    let first : 0 < r = above r some in
    subst IsSome (sym (number_there h r some)) (inside h.heap.objects (r - 1) (omega (arith, e, first)))

-- ---- the place that is reached

-- the array there is one that the access reaches, and the place is inside it
pub record IsPlace (access : Access) (index : ℤ) (found : Found ℕ) (place : Element × ℕ) : Type 0 where
  pub class : ℕ
  pub contents : List ℤ
  pub array : found ≡ model.IsArray class place.0 contents
  pub reached : reaches access place.0 ≡ true
  pub index_is : index ≡ pos place.1
  pub within : place.1 < length contents

within_array : (access : Access) (i : ℕ) (class : ℕ) (element : Element) (contents : List ℤ) (place : Element × ℕ) (b : Bool) → reaches access element ≡ true
    → nat_lt i (length contents) ≡ b → Ok place ≡ (if b then Ok (element, i) else Err (goes.Goes (ways.Raise raises.ArrayIndexOutOfBounds)))
    → IsPlace access (pos i) (model.IsArray class element contents) place
within_array access i class element contents place false reached less e = absurd cc
within_array access i class element contents place true reached less e =
    let same : place ≡ (element, i) = cc in
    subst (IsPlace access (pos i) (model.IsArray class element contents)) (sym same)
    (record { class = class; contents = contents; array = refl; reached = reached; index_is = refl; within = ltb-true i (length contents) less })

reached_array : (access : Access) (index : ℤ) (class : ℕ) (element : Element) (contents : List ℤ) (place : Element × ℕ) (b : Bool) → reaches access element ≡ b
    → Ok place ≡ (if b then place_at (element, length contents) index else Err goes.Link) → IsPlace access index (model.IsArray class element contents) place
reached_array access index class element contents place false reached e = absurd cc
reached_array access (pos i) class element contents place true reached e =
    within_array access i class element contents place (nat_lt i (length contents)) reached refl e
reached_array access (negsuc i) class element contents place true reached e = absurd cc

pub place_is : (access : Access) (index : ℤ) (found : Found ℕ) (place : Element × ℕ) → Ok place ≡ place_of access index (array_reported found) → IsPlace access index found place
place_is access index model.Null place e = absurd cc
place_is access index model.NoArray place e = absurd cc
place_is access index (model.IsArray class element contents) place e = reached_array access index class element contents place (reaches access element) refl e

-- ---- an array that is found stands at its number

array_if : (b : Bool) (o : Option (Object ℕ)) (class : ℕ) (element : Element) (contents : List ℤ)
    → (if b then model.Null else array_in o) ≡ model.IsArray class element contents → o ≡ Some (Array class element contents)
array_if true o class element contents e = absurd cc
array_if false None class element contents e = absurd cc
array_if false (Some (Instance kind fields)) class element contents e = absurd cc
array_if false (Some (Array kind of items)) class element contents e = cc
array_if false (Some (Text kind units)) class element contents e = absurd cc

pub array_there : (h : LimitedHeap) (r class : ℕ) (element : Element) (contents : List ℤ) → array_at h.heap r ≡ model.IsArray class element contents
    → object_in h r ≡ Some (Array class element contents)
array_there h r class element contents e = array_if (nat_eq r 0) (object_in h r) class element contents e

pub element_there : (h : LimitedHeap) (r : ℕ) (access : Access) (index : ℤ) (element : Element) (at : ℕ)
    → Ok (element, at) ≡ place_of access index (array_reported (array_at h.heap r)) → IsSome (element_in h r at)
element_there h r access index element at e =
    let place = place_is access index (array_at h.heap r) (element, at) e in
    let there : object_in h r ≡ Some (Array place.class element place.contents) = array_there h r place.class element place.contents place.array in
    let found : element_in h r at ≡ slice_get place.contents at =
    ap (λ (o : Option (Object ℕ)). option_and_then (λ contents. slice_get contents at) (option_and_then contents_of o)) there in
    subst IsSome (sym found) (inside place.contents at place.within)
