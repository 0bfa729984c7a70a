-- Elements that are loaded, and lengths.
use Rattle.std.proofs.Common.{◌≡◌, ◌<◌, ◌≤◌, ◌^◌, ◌%◌, ℕ, Bool, true, false, ℤ, pos, negsuc, List, [], ◌∷◌, length, Option, Some, None, slice_get, nat_lt, Ok, Err, if◌then◌else◌, refl, sym, ap, subst, ◌∙◌, arith}
use Rattle.std.specs.Prelude.{option_and_then, unsigned_abs, FitsSigned}
use Rattle.std.specs.Int.{w8, w16, w32, int_wrap, int_rem_euclid}
use Rattle.std.proofs.lemmas.Int.{SFits-int_wrap, int_wrap_fits}
use Rattle.std.proofs.lemmas.Bool.{ltb-false}
use Rattle.std.proofs.lemmas.Nat.{mod_below}
use Rattle.std.proofs.lemmas.Option.{slice_get_past}
use Rattle.dj_names.specs.declared.run.Value.{Value}
use Rattle.dj_names.specs.declared.run.Value.TheVariants as values
use Rattle.dj_names.specs.declared.run.Element.{Element}
use Rattle.dj_names.specs.declared.run.Element.TheVariants as elements
use Rattle.dj_names.specs.declared.run.Raised.TheVariants as raises
use Rattle.dj_names.specs.trusted.Heaps.{Object, Array, Heap, element_value}
use Rattle.dj_model.specs.trusted.Instructions.{Access}
use Rattle.dj_model.specs.trusted.State.{Next}
use Rattle.dj_model.specs.trusted.Arrays as model
use Rattle.dj_model.specs.trusted.Arrays.{Found, array_at, array_length, flows, length_of, load_element, load_from, only, reaches, with_value}
use Rattle.dj_heap.specs.Heaps.{LimitedHeap, contents_of, object_in, element_in, low_bits, IsKeptIn}
use Rattle.dj_effects.specs.declared.way.Way.TheVariants as ways
use Rattle.dj_effects.specs.declared.way.Flow.{Flow}
use Rattle.dj_effects.specs.declared.way.Flow.TheVariants as goes
use Rattle.dj_effects.specs.DoesOnHeap.{flow_view, FitsOnHeapIn}
use Rattle.dj_effects.specs.Arrays.{array_reported, outside, place_at, place_of, value_of}
use Rattle.dj_effects.specs.Tops.{has_place}
use Rattle.dj_effects.proofs.ArrayFacts.{reported_array, place_is, array_there}

-- ---- a number that an array keeps, as a value

wider : (z : ℤ) → FitsSigned w8 z → FitsSigned w32 z
wider z fits = record { sfits = omega (arith, fits.sfits) }

wide : (z : ℤ) → FitsSigned w16 z → FitsSigned w32 z
wide z fits = record { sfits = omega (arith, fits.sfits) }

byte_value : (z : ℤ) → int_wrap w8 z ≡ z → int_wrap w32 z ≡ z
byte_value z e = int_wrap_fits w32 z (wider z (subst (FitsSigned w8) e (SFits-int_wrap w8 z)))

short_value : (z : ℤ) → int_wrap w16 z ≡ z → int_wrap w32 z ≡ z
short_value z e = int_wrap_fits w32 z (wide z (subst (FitsSigned w16) e (SFits-int_wrap w16 z)))

char_value : (z : ℤ) → int_rem_euclid z (pos (2 ^ 16)) ≡ z → int_wrap w32 z ≡ z
char_value (pos n) e =
    let below : n % 2 ^ 16 < 2 ^ 16 = mod_below n (2 ^ 16) (omega arith) in
    let same : n % 2 ^ 16 ≡ n = cc in
    let less : n < 2 ^ 16 = subst (λ (k : ℕ). k < 2 ^ 16) same below in
    int_wrap_fits w32 (pos n) (record { sfits = omega (arith, less) })
char_value (negsuc n) e = absurd cc

pub kept_value : (element : Element) (z : ℤ) → low_bits element z ≡ z → value_of element z ≡ element_value element z
kept_value elements.Boolean z e = ap values.Int (byte_value z e)
kept_value elements.Byte z e = ap values.Int (byte_value z e)
kept_value elements.Char z e = ap values.Int (char_value z e)
kept_value elements.Short z e = ap values.Int (short_value z e)
kept_value elements.Int z e = ap values.Int e
kept_value elements.Long z e = refl
kept_value elements.Ref z e = ap (λ (z : ℤ). values.Ref (unsigned_abs z)) e

-- ---- loads

loads_at : (heap : Heap ℕ) (operands rest : List Value) (access : Access) (index : ℤ) (class at : ℕ) (element : Element) (contents : List ℤ) (z : ℤ)
    → reaches access element ≡ true → index ≡ pos at → slice_get contents at ≡ Some z
    → load_from heap operands rest index (only access (model.IsArray class element contents)) ≡ with_value heap rest (element_value element z)
loads_at heap operands rest access index class at element contents z reached is found =
    ap (λ (b : Bool). load_from heap operands rest index (if b then model.IsArray class element contents else model.NoArray)) reached
    ∙ ap (λ (index : ℤ). load_from heap operands rest index (model.IsArray class element contents)) is
    ∙ ap (λ (found : Option ℤ). model.load_at heap operands rest element found) found

pub loads : (h : LimitedHeap) (operands rest after : List Value) (access : Access) (index : ℤ) (r : ℕ) (element : Element) (at : ℕ) (z : ℤ) (v : Value)
    → operands ≡ values.Int index ∷ (values.Ref r ∷ rest) → Ok (element, at) ≡ place_of access index (array_reported (array_at h.heap r))
    → element_in h r at ≡ Some z → IsKeptIn (object_in h r) z → v ≡ value_of element z → after ≡ v ∷ rest
    → load_element access h.heap operands ≡ Some (flows h.heap after (Ok Next))
unfolding load_element
loads h operands rest after access index r element at z v all e value kept is left =
    let place = place_is access index (array_at h.heap r) (element, at) e in
    let there : object_in h r ≡ Some (Array place.class element place.contents) = array_there h r place.class element place.contents place.array in
    let found : slice_get place.contents at ≡ Some z =
    sym (ap (λ (o : Option (Object ℕ)). option_and_then (λ contents. slice_get contents at) (option_and_then contents_of o)) there) ∙ value in
    let low : low_bits element z ≡ z = subst (λ (o : Option (Object ℕ)). IsKeptIn o z) there kept in
    ap (load_element access h.heap) all
    ∙ ap Some (ap (λ (found : Found ℕ). load_from h.heap (values.Int index ∷ (values.Ref r ∷ rest)) rest index (only access found)) place.array
    ∙ (loads_at h.heap (values.Int index ∷ (values.Ref r ∷ rest)) rest access index place.class at element place.contents z place.reached place.index_is found
    ∙ (ap (with_value h.heap rest) (sym (is ∙ kept_value element z low)) ∙ ap (λ (after : List Value). flows h.heap after (Ok Next)) (sym left))))

refused_at : (heap : Heap ℕ) (operands rest : List Value) (element : Element) (contents : List ℤ) (i : ℕ) (flow : Flow) (b : Bool) → nat_lt i (length contents) ≡ b
    → Err flow ≡ (if b then reported_array element i else Err outside) → model.load_at heap operands rest element (slice_get contents i) ≡ flows heap operands (flow_view flow)
refused_at heap operands rest element contents i flow true less e = absurd cc
refused_at heap operands rest element contents i flow false less e =
    let none : slice_get contents i ≡ None = slice_get_past contents i (ltb-false i (length contents) less) in
    let same : outside ≡ flow = cc in
    ap (model.load_at heap operands rest element) none ∙ ap (λ (flow : Flow). flows heap operands (flow_view flow)) same

refused_of : (heap : Heap ℕ) (operands rest : List Value) (access : Access) (index : ℤ) (class : ℕ) (element : Element) (contents : List ℤ) (flow : Flow) (b : Bool)
    → Err flow ≡ (if b then place_at (element, length contents) index else Err goes.Link)
    → load_from heap operands rest index (if b then model.IsArray class element contents else model.NoArray) ≡ flows heap operands (flow_view flow)
refused_of heap operands rest access index class element contents flow false e =
    let same : goes.Link ≡ flow = cc in
    ap (λ (flow : Flow). flows heap operands (flow_view flow)) same
refused_of heap operands rest access (pos i) class element contents flow true e =
    refused_at heap operands rest element contents i flow (nat_lt i (length contents)) refl e
refused_of heap operands rest access (negsuc i) class element contents flow true e =
    let same : outside ≡ flow = cc in
    ap (λ (flow : Flow). flows heap operands (flow_view flow)) same

refused : (heap : Heap ℕ) (operands rest : List Value) (access : Access) (index : ℤ) (found : Found ℕ) (flow : Flow) → Err flow ≡ place_of access index (array_reported found)
    → load_from heap operands rest index (only access found) ≡ flows heap operands (flow_view flow)
refused heap operands rest access index model.Null flow e =
    let same : goes.Goes (ways.Raise raises.NullPointer) ≡ flow = cc in
    ap (λ (flow : Flow). flows heap operands (flow_view flow)) same
refused heap operands rest access index model.NoArray flow e =
    let same : goes.Link ≡ flow = cc in
    ap (λ (flow : Flow). flows heap operands (flow_view flow)) same
refused heap operands rest access index (model.IsArray class element contents) flow e =
    refused_of heap operands rest access index class element contents flow (reaches access element) e

pub loads_nothing : (h : LimitedHeap) (operands rest : List Value) (access : Access) (index : ℤ) (r : ℕ) (flow : Flow)
    → operands ≡ values.Int index ∷ (values.Ref r ∷ rest) → Err flow ≡ place_of access index (array_reported (array_at h.heap r))
    → load_element access h.heap operands ≡ Some (flows h.heap operands (flow_view flow))
unfolding load_element
loads_nothing h operands rest access index r flow all e =
    ap (load_element access h.heap) all
    ∙ ap Some (refused h.heap (values.Int index ∷ (values.Ref r ∷ rest)) rest access index (array_at h.heap r) flow e
    ∙ ap (λ (operands : List Value). flows h.heap operands (flow_view flow)) (sym all))

pub load_room : (h : LimitedHeap) (operands rest : List Value) (access : Access) (index : ℤ) (r : ℕ) (element : Element) (at : ℕ) (z : ℤ) (v : Value) (room : ℕ)
    → operands ≡ values.Int index ∷ (values.Ref r ∷ rest) → Ok (element, at) ≡ place_of access index (array_reported (array_at h.heap r))
    → element_in h r at ≡ Some z → IsKeptIn (object_in h r) z → v ≡ value_of element z
    → FitsOnHeapIn room (load_element access h.heap operands) → length rest < room
load_room h operands rest access index r element at z v room all e value kept is fits =
    let left : length (v ∷ rest) ≤ room = subst (FitsOnHeapIn room) (loads h operands rest (v ∷ rest) access index r element at z v all e value kept is refl) fits in
    omega (arith, left)

pub not_placed : (access : Access) (heap : Heap ℕ) (operands : List Value) → has_place operands ≡ false → load_element access heap operands ≡ None
unfolding load_element
not_placed access heap [] e = refl
not_placed access heap (values.Long z ∷ rest) e = refl
not_placed access heap (values.Ref r ∷ rest) e = refl
not_placed access heap (values.Int index ∷ []) e = refl
not_placed access heap (values.Int index ∷ (values.Int z ∷ rest)) e = refl
not_placed access heap (values.Int index ∷ (values.Long z ∷ rest)) e = refl
not_placed access heap (values.Int index ∷ (values.Ref r ∷ rest)) e = absurd cc

-- ---- lengths

length_found : (heap : Heap ℕ) (operands rest : List Value) (found : Found ℕ) (element : Element) (n : ℕ) → reported_array element n ≡ array_reported found
    → length_of heap operands rest found ≡ with_value heap rest (values.Int (pos n))
length_found heap operands rest model.Null element n e = absurd cc
length_found heap operands rest model.NoArray element n e = absurd cc
length_found heap operands rest (model.IsArray class of contents) element n e =
    let same_place : (of, length contents) ≡ (element, n) = cc in
    let same : length contents ≡ n = ap (λ (p : Element × ℕ). p.1) same_place in
    ap (λ (n : ℕ). with_value heap rest (values.Int (pos n))) same

pub says_length : (heap : Heap ℕ) (operands rest after : List Value) (r : ℕ) (element : Element) (n : ℕ)
    → operands ≡ values.Ref r ∷ rest → Ok (element, n) ≡ array_reported (array_at heap r) → after ≡ values.Int (pos n) ∷ rest
    → array_length heap operands ≡ Some (flows heap after (Ok Next))
unfolding array_length
says_length heap operands rest after r element n all e left =
    ap (array_length heap) all
    ∙ ap Some (length_found heap (values.Ref r ∷ rest) rest (array_at heap r) element n e ∙ ap (λ (after : List Value). flows heap after (Ok Next)) (sym left))

pub length_room : (heap : Heap ℕ) (operands rest : List Value) (r : ℕ) (element : Element) (n room : ℕ)
    → operands ≡ values.Ref r ∷ rest → Ok (element, n) ≡ array_reported (array_at heap r) → FitsOnHeapIn room (array_length heap operands) → length rest < room
length_room heap operands rest r element n room all e fits =
    let left : length (values.Int (pos n) ∷ rest) ≤ room =
    subst (FitsOnHeapIn room) (says_length heap operands rest (values.Int (pos n) ∷ rest) r element n all e refl) fits in
    omega (arith, left)

no_length : (heap : Heap ℕ) (operands rest : List Value) (found : Found ℕ) (flow : Flow) → Err flow ≡ array_reported found
    → length_of heap operands rest found ≡ flows heap operands (flow_view flow)
no_length heap operands rest model.Null flow e =
    let same : goes.Goes (ways.Raise raises.NullPointer) ≡ flow = cc in
    ap (λ (flow : Flow). flows heap operands (flow_view flow)) same
no_length heap operands rest model.NoArray flow e =
    let same : goes.Link ≡ flow = cc in
    ap (λ (flow : Flow). flows heap operands (flow_view flow)) same
no_length heap operands rest (model.IsArray class of contents) flow e = absurd cc

pub says_no_length : (heap : Heap ℕ) (operands rest : List Value) (r : ℕ) (flow : Flow) → operands ≡ values.Ref r ∷ rest → Err flow ≡ array_reported (array_at heap r)
    → array_length heap operands ≡ Some (flows heap operands (flow_view flow))
unfolding array_length
says_no_length heap operands rest r flow all e =
    ap (array_length heap) all
    ∙ ap Some (no_length heap (values.Ref r ∷ rest) rest (array_at heap r) flow e
    ∙ ap (λ (operands : List Value). flows heap operands (flow_view flow)) (sym all))
