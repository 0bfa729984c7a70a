-- Elements that are stored.
use Rattle.std.proofs.Common.{◌≡◌, ℕ, Bool, true, false, ℤ, pos, negsuc, List, [], ◌∷◌, length, set, Option, Some, None, IsSome, slice_get, nat_lt, Ok, Err, if◌then◌else◌, refl, sym, ap, subst, ◌∙◌}
use Rattle.std.proofs.lemmas.Bool.{ltb-false}
use Rattle.std.proofs.lemmas.Option.{slice_get_past}
use Rattle.dj_names.specs.declared.descriptor.Kind.TheVariants as kinds
use Rattle.dj_names.specs.declared.run.Value.{Value}
use Rattle.dj_names.specs.declared.run.Value.TheVariants as values
use Rattle.dj_names.specs.declared.run.Element.{Element}
use Rattle.dj_names.specs.declared.run.Element.TheVariants as elements
use Rattle.dj_names.specs.declared.run.Raised.TheVariants as raises
use Rattle.dj_names.specs.trusted.Heaps.{Object, Array, Heap, kept, value_number, with_object}
use Rattle.dj_model.specs.trusted.Instructions as instructions
use Rattle.dj_model.specs.trusted.Instructions.{Access}
use Rattle.dj_model.specs.trusted.Numbers.{is_of_kind}
use Rattle.dj_model.specs.trusted.State.{Next, Raise}
use Rattle.dj_model.specs.trusted.Arrays as model
use Rattle.dj_model.specs.trusted.Arrays.{Found, access_kind, array_at, flows, is_taken, only, reaches, store_at, store_element, store_in}
use Rattle.dj_heap.specs.Heaps.{LimitedHeap, object_in, low_bits, with_number, Replaces}
use Rattle.dj_effects.specs.declared.way.Way.TheVariants as ways
use Rattle.dj_effects.specs.declared.way.Flow.{Flow}
use Rattle.dj_effects.specs.declared.way.Flow.TheVariants as goes
use Rattle.dj_effects.specs.DoesOnHeap.{flow_view, IsTakenSo}
use Rattle.dj_effects.specs.Arrays.{array_reported, outside, place_at, place_of, takes_value}
use Rattle.dj_effects.specs.Tops.{has_place}
use Rattle.dj_effects.proofs.ArrayFacts.{reported_array, place_is, array_there, inside}

-- ---- whether an array takes a reference, asked only for the pair on the operands

pub reported_so : (takes : ℕ → ℕ → Bool) (taken : Bool) (access : Access) (heap : Heap ℕ) (operands : List Value) → IsTakenSo takes operands taken
    → store_element takes access heap operands ≡ store_element (λ r v. taken) access heap operands
unfolding store_element
reported_so takes taken access heap [] so = refl
reported_so takes taken access heap (v ∷ []) so = refl
reported_so takes taken access heap (v ∷ (values.Long z ∷ rest)) so = refl
reported_so takes taken access heap (v ∷ (values.Ref r ∷ rest)) so = refl
reported_so takes taken access heap (v ∷ (values.Int index ∷ [])) so = refl
reported_so takes taken access heap (v ∷ (values.Int index ∷ (values.Int z ∷ rest))) so = refl
reported_so takes taken access heap (v ∷ (values.Int index ∷ (values.Long z ∷ rest))) so = refl
reported_so takes taken access heap (values.Int z ∷ (values.Int index ∷ (values.Ref r ∷ rest))) so = refl
reported_so takes taken access heap (values.Long z ∷ (values.Int index ∷ (values.Ref r ∷ rest))) so = refl
reported_so takes taken access heap (values.Ref v ∷ (values.Int index ∷ (values.Ref r ∷ rest))) so =
    ap (λ (t : Bool). if is_of_kind (access_kind access) (values.Ref v)
    then Some (store_in heap (values.Ref v ∷ (values.Int index ∷ (values.Ref r ∷ rest))) rest r index (values.Ref v) t (only access (array_at heap r))) else None) so

-- ---- what is kept of a number

kept_reference : (access : Access) (v : Value) → reaches access elements.Ref ≡ true → is_of_kind (access_kind access) v ≡ true
    → (is_of_kind kinds.Ref v ≡ true → low_bits elements.Ref (value_number v) ≡ value_number v) → low_bits elements.Ref (value_number v) ≡ value_number v
kept_reference instructions.Bytes v reached kind small = absurd cc
kept_reference instructions.Chars v reached kind small = absurd cc
kept_reference instructions.Shorts v reached kind small = absurd cc
kept_reference instructions.Ints v reached kind small = absurd cc
kept_reference instructions.Longs v reached kind small = absurd cc
kept_reference instructions.References v reached kind small = small kind

kept_so : (access : Access) (element : Element) (v : Value) → reaches access element ≡ true → is_of_kind (access_kind access) v ≡ true
    → (is_of_kind kinds.Ref v ≡ true → low_bits elements.Ref (value_number v) ≡ value_number v) → low_bits element (value_number v) ≡ kept element (value_number v)
kept_so access elements.Boolean v reached kind small = refl
kept_so access elements.Byte v reached kind small = refl
kept_so access elements.Char v reached kind small = refl
kept_so access elements.Short v reached kind small = refl
kept_so access elements.Int v reached kind small = refl
kept_so access elements.Long v reached kind small = refl
kept_so access elements.Ref v reached kind small = kept_reference access v reached kind small

-- ---- stores

-- of a value of the kind that the access stores
store_of : (taken : Bool) (access : Access) (heap : Heap ℕ) (v : Value) (index : ℤ) (r : ℕ) (operands rest : List Value)
    → is_of_kind (access_kind access) v ≡ true → operands ≡ v ∷ (values.Int index ∷ (values.Ref r ∷ rest))
    → store_element (λ r v. taken) access heap operands
    ≡ Some (store_in heap operands rest r index v (is_taken (λ r v. taken) r v) (only access (array_at heap r)))
unfolding store_element
store_of taken access heap v index r operands rest kind all =
    subst (λ (operands : List Value). store_element (λ r v. taken) access heap operands
    ≡ Some (store_in heap operands rest r index v (is_taken (λ r v. taken) r v) (only access (array_at heap r)))) (sym all)
    (ap (λ (b : Bool). if b then Some (store_in heap (v ∷ (values.Int index ∷ (values.Ref r ∷ rest))) rest r index v (is_taken (λ r v. taken) r v) (only access (array_at heap r))) else None) kind)

taken_is : (taken : Bool) (r : ℕ) (v : Value) → is_taken (λ r v. taken) r v ≡ takes_value v taken
taken_is taken r (values.Int z) = refl
taken_is taken r (values.Long z) = refl
taken_is taken r (values.Ref k) = refl

-- in an array that is reached, at a place inside it
store_there : (heap : Heap ℕ) (operands rest : List Value) (access : Access) (index : ℤ) (r class at : ℕ) (element : Element) (contents : List ℤ) (v : Value) (takes : Bool) (old : ℤ)
    → reaches access element ≡ true → index ≡ pos at → slice_get contents at ≡ Some old
    → store_in heap operands rest r index v takes (only access (model.IsArray class element contents))
    ≡ store_at heap operands rest r (Array class element (set contents at (kept element (value_number v)))) (Some old) takes
store_there heap operands rest access index r class at element contents v takes old reached is found =
    ap (λ (b : Bool). store_in heap operands rest r index v takes (if b then model.IsArray class element contents else model.NoArray)) reached
    ∙ ap (λ (index : ℤ). store_in heap operands rest r index v takes (model.IsArray class element contents)) is
    ∙ ap (λ (found : Option ℤ). store_at heap operands rest r (Array class element (set contents at (kept element (value_number v)))) found takes) found

some_at : {A : Type 0} (found : Option A) → IsSome found → (a : A) × (found ≡ Some a)
some_at None some = absurd cc
some_at (Some a) some = (a, refl)

pub stores : (old new : LimitedHeap) (operands rest : List Value) (access : Access) (taken : Bool) (v : Value) (index : ℤ) (r : ℕ) (element : Element) (at : ℕ) (z : ℤ)
    → is_of_kind (access_kind access) v ≡ true → operands ≡ v ∷ (values.Int index ∷ (values.Ref r ∷ rest))
    → Ok (element, at) ≡ place_of access index (array_reported (array_at old.heap r)) → takes_value v taken ≡ true → z ≡ value_number v
    → (is_of_kind kinds.Ref v ≡ true → low_bits elements.Ref (value_number v) ≡ value_number v) → Replaces old new r (λ object. with_number object at z)
    → store_element (λ r v. taken) access old.heap operands ≡ Some (flows new.heap rest (Ok Next))
stores old new operands rest access taken v index r element at z kind all e takes is small replaced =
    let place = place_is access index (array_at old.heap r) (element, at) e in
    let there : object_in old r ≡ Some (Array place.class element place.contents) = array_there old r place.class element place.contents place.array in
    let here = some_at (slice_get place.contents at) (inside place.contents at place.within) in
    let low : low_bits element z ≡ kept element (value_number v) = ap (low_bits element) is ∙ kept_so access element v place.reached kind small in
    let after : new.heap ≡ with_object old.heap r (Array place.class element (set place.contents at (kept element (value_number v)))) =
    ap (λ (h : LimitedHeap). h.heap) (replaced (Array place.class element place.contents) there)
    ∙ ap (λ (k : ℤ). with_object old.heap r (Array place.class element (set place.contents at k))) low in
    store_of taken access old.heap v index r operands rest kind all
    ∙ ap Some (ap (λ (found : Found ℕ). store_in old.heap operands rest r index v (is_taken (λ r v. taken) r v) (only access found)) place.array
    ∙ (store_there old.heap operands rest access index r place.class at element place.contents v (is_taken (λ r v. taken) r v) here.0 place.reached place.index_is here.1
    ∙ (ap (store_at old.heap operands rest r (Array place.class element (set place.contents at (kept element (value_number v)))) (Some here.0)) (taken_is taken r v ∙ takes)
    ∙ ap (λ (heap : Heap ℕ). flows heap rest (Ok Next)) (sym after))))

pub stores_limit : (old new : LimitedHeap) (access : Access) (index : ℤ) (r : ℕ) (element : Element) (at : ℕ) (z : ℤ)
    → Ok (element, at) ≡ place_of access index (array_reported (array_at old.heap r)) → Replaces old new r (λ object. with_number object at z) → new.limit ≡ old.limit
stores_limit old new access index r element at z e replaced =
    let place = place_is access index (array_at old.heap r) (element, at) e in
    ap (λ (h : LimitedHeap). h.limit) (replaced (Array place.class element place.contents) (array_there old r place.class element place.contents place.array))

pub stores_no_reference : (h : LimitedHeap) (operands rest : List Value) (access : Access) (taken : Bool) (v : Value) (index : ℤ) (r : ℕ) (element : Element) (at : ℕ)
    → is_of_kind (access_kind access) v ≡ true → operands ≡ v ∷ (values.Int index ∷ (values.Ref r ∷ rest))
    → Ok (element, at) ≡ place_of access index (array_reported (array_at h.heap r)) → takes_value v taken ≡ false
    → store_element (λ r v. taken) access h.heap operands ≡ Some (flows h.heap operands (Ok (Raise raises.ArrayStore)))
stores_no_reference h operands rest access taken v index r element at kind all e takes =
    let place = place_is access index (array_at h.heap r) (element, at) e in
    let here = some_at (slice_get place.contents at) (inside place.contents at place.within) in
    store_of taken access h.heap v index r operands rest kind all
    ∙ ap Some (ap (λ (found : Found ℕ). store_in h.heap operands rest r index v (is_taken (λ r v. taken) r v) (only access found)) place.array
    ∙ (store_there h.heap operands rest access index r place.class at element place.contents v (is_taken (λ r v. taken) r v) here.0 place.reached place.index_is here.1
    ∙ ap (store_at h.heap operands rest r (Array place.class element (set place.contents at (kept element (value_number v)))) (Some here.0)) (taken_is taken r v ∙ takes)))

-- ---- what is refused

refused_at : (heap : Heap ℕ) (operands rest : List Value) (r : ℕ) (array : Object ℕ) (element : Element) (contents : List ℤ) (i : ℕ) (takes : Bool) (flow : Flow) (b : Bool)
    → nat_lt i (length contents) ≡ b → Err flow ≡ (if b then reported_array element i else Err outside)
    → store_at heap operands rest r array (slice_get contents i) takes ≡ flows heap operands (flow_view flow)
refused_at heap operands rest r array element contents i takes flow true less e = absurd cc
refused_at heap operands rest r array element contents i takes flow false less e =
    let none : slice_get contents i ≡ None = slice_get_past contents i (ltb-false i (length contents) less) in
    let same : outside ≡ flow = cc in
    ap (λ (found : Option ℤ). store_at heap operands rest r array found takes) none ∙ ap (λ (flow : Flow). flows heap operands (flow_view flow)) same

refused_of : (heap : Heap ℕ) (operands rest : List Value) (r : ℕ) (index : ℤ) (v : Value) (takes : Bool) (class : ℕ) (element : Element) (contents : List ℤ) (flow : Flow) (b : Bool)
    → Err flow ≡ (if b then place_at (element, length contents) index else Err goes.Link)
    → store_in heap operands rest r index v takes (if b then model.IsArray class element contents else model.NoArray) ≡ flows heap operands (flow_view flow)
refused_of heap operands rest r index v takes class element contents flow false e =
    let same : goes.Link ≡ flow = cc in
    ap (λ (flow : Flow). flows heap operands (flow_view flow)) same
refused_of heap operands rest r (pos i) v takes class element contents flow true e =
    refused_at heap operands rest r (Array class element (set contents i (kept element (value_number v)))) element contents i takes flow (nat_lt i (length contents)) refl e
refused_of heap operands rest r (negsuc i) v takes class element contents flow true e =
    let same : outside ≡ flow = cc in
    ap (λ (flow : Flow). flows heap operands (flow_view flow)) same

refused : (heap : Heap ℕ) (operands rest : List Value) (access : Access) (r : ℕ) (index : ℤ) (v : Value) (takes : Bool) (found : Found ℕ) (flow : Flow)
    → Err flow ≡ place_of access index (array_reported found) → store_in heap operands rest r index v takes (only access found) ≡ flows heap operands (flow_view flow)
refused heap operands rest access r index v takes model.Null flow e =
    let same : goes.Goes (ways.Raise raises.NullPointer) ≡ flow = cc in
    ap (λ (flow : Flow). flows heap operands (flow_view flow)) same
refused heap operands rest access r index v takes model.NoArray flow e =
    let same : goes.Link ≡ flow = cc in
    ap (λ (flow : Flow). flows heap operands (flow_view flow)) same
refused heap operands rest access r index v takes (model.IsArray class element contents) flow e =
    refused_of heap operands rest r index v takes class element contents flow (reaches access element) e

pub stores_nothing : (h : LimitedHeap) (operands rest : List Value) (access : Access) (taken : Bool) (v : Value) (index : ℤ) (r : ℕ) (flow : Flow)
    → is_of_kind (access_kind access) v ≡ true → operands ≡ v ∷ (values.Int index ∷ (values.Ref r ∷ rest))
    → Err flow ≡ place_of access index (array_reported (array_at h.heap r))
    → store_element (λ r v. taken) access h.heap operands ≡ Some (flows h.heap operands (flow_view flow))
stores_nothing h operands rest access taken v index r flow kind all e =
    store_of taken access h.heap v index r operands rest kind all
    ∙ ap Some (refused h.heap operands rest access r index v (is_taken (λ r v. taken) r v) (array_at h.heap r) flow e)

-- ---- operands that lack what is taken

pub no_value : (takes : ℕ → ℕ → Bool) (access : Access) (heap : Heap ℕ) (operands : List Value) → operands ≡ [] → store_element takes access heap operands ≡ None
unfolding store_element
no_value takes access heap operands none = ap (store_element takes access heap) none

pub no_place : (takes : ℕ → ℕ → Bool) (access : Access) (heap : Heap ℕ) (v : Value) (operands rest : List Value) → operands ≡ v ∷ rest → has_place rest ≡ false
    → store_element takes access heap operands ≡ None
unfolding store_element
no_place takes access heap v operands [] all e = ap (store_element takes access heap) all
no_place takes access heap v operands (values.Long z ∷ rest) all e = ap (store_element takes access heap) all
no_place takes access heap v operands (values.Ref r ∷ rest) all e = ap (store_element takes access heap) all
no_place takes access heap v operands (values.Int index ∷ []) all e = ap (store_element takes access heap) all
no_place takes access heap v operands (values.Int index ∷ (values.Int z ∷ rest)) all e = ap (store_element takes access heap) all
no_place takes access heap v operands (values.Int index ∷ (values.Long z ∷ rest)) all e = ap (store_element takes access heap) all
no_place takes access heap v operands (values.Int index ∷ (values.Ref r ∷ rest)) all e = absurd cc

other_value : (takes : ℕ → ℕ → Bool) (access : Access) (heap : Heap ℕ) (v : Value) (rest : List Value) → is_of_kind (access_kind access) v ≡ false
    → (b : Bool) → has_place rest ≡ b → store_element takes access heap (v ∷ rest) ≡ None
unfolding store_element
other_value takes access heap v rest kind false e = no_place takes access heap v (v ∷ rest) rest refl e
other_value takes access heap v [] kind true e = absurd cc
other_value takes access heap v (values.Long z ∷ rest) kind true e = absurd cc
other_value takes access heap v (values.Ref r ∷ rest) kind true e = absurd cc
other_value takes access heap v (values.Int index ∷ []) kind true e = absurd cc
other_value takes access heap v (values.Int index ∷ (values.Int z ∷ rest)) kind true e = absurd cc
other_value takes access heap v (values.Int index ∷ (values.Long z ∷ rest)) kind true e = absurd cc
other_value takes access heap v (values.Int index ∷ (values.Ref r ∷ rest)) kind true e =
    ap (λ (b : Bool). if b then Some (store_in heap (v ∷ (values.Int index ∷ (values.Ref r ∷ rest))) rest r index v (is_taken takes r v) (only access (array_at heap r))) else None) kind

pub no_such_value : (takes : ℕ → ℕ → Bool) (access : Access) (heap : Heap ℕ) (v : Value) (operands rest : List Value) → operands ≡ v ∷ rest
    → is_of_kind (access_kind access) v ≡ false → store_element takes access heap operands ≡ None
no_such_value takes access heap v operands rest all kind = ap (store_element takes access heap) all ∙ other_value takes access heap v rest kind (has_place rest) refl
