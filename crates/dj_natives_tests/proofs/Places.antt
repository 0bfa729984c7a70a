-- What is at a place of an object: something, where the object is of that kind and the place is below its length.
use Rattle.std.proofs.Common.{◌≡◌, ℕ, zero, suc, ◌-◌, ◌<◌, ◌≤◌, Bool, true, false, List, [], ◌∷◌, length, Option, Some, None, refl, arith, IsSome}
use Rattle.std.specs.Prelude.{if◌then◌else◌, nat_eq, option_map, option_and_then, slice_get}
use Rattle.std.proofs.lemmas.Bool.{ne_eqb}
use Rattle.std.proofs.lemmas.Option.{same_Some}
use Rattle.dj_names.specs.declared.run.Element.{Element}
use Rattle.dj_names.specs.trusted.Heaps.{Object, Instance, Array, Text}
use Rattle.dj_heap.specs.declared.object.Made.TheVariants as made
use Rattle.dj_heap.specs.Calls.{made_as}
use Rattle.dj_heap.specs.Lengths.{object_length}
use Rattle.dj_heap.specs.Heaps.{LimitedHeap, object_in, field_in, element_in, unit_in, fields_of, contents_of, units_of}

some_within : {A : Type 0} (items : List A) (at : ℕ) → at < length items → IsSome (slice_get items at)
some_within [] at within = absurd (omega arith)
some_within (x ∷ items) zero within = refl
some_within (x ∷ items) (suc at) within = some_within items at (omega arith)

unless : {A : Type 0} (test : Bool) (found : Option A) → test ≡ false → IsSome found → IsSome (if test then None else found)
unless true found e some = absurd cc
unless false found e some = some

pub object_here : (h : LimitedHeap) (r : ℕ) → 0 < r → r ≤ length h.heap.objects → IsSome (object_in h r)
object_here h r above within =
    unless (nat_eq r 0) (slice_get h.heap.objects (r - 1)) (ne_eqb r 0 (λ e. omega (arith, e))) (some_within h.heap.objects (r - 1) (omega arith))

field_of : (found : Option (Object ℕ)) (n at : ℕ) → option_map made_as found ≡ Some made.Instance → option_map object_length found ≡ Some n → at < n
    → IsSome (option_and_then (λ fields. slice_get fields at) (option_and_then fields_of found))
field_of None n at is many within = absurd cc
field_of (Some (Instance class fields)) n at is many within = let same = same_Some (length fields) n many in some_within fields at (omega arith)
field_of (Some (Array class element contents)) n at is many within = absurd cc
field_of (Some (Text class units)) n at is many within = absurd cc

element_of : (found : Option (Object ℕ)) (element : Element) (n at : ℕ) → option_map made_as found ≡ Some (made.Array element) → option_map object_length found ≡ Some n → at < n
    → IsSome (option_and_then (λ contents. slice_get contents at) (option_and_then contents_of found))
element_of None element n at is many within = absurd cc
element_of (Some (Instance class fields)) element n at is many within = absurd cc
element_of (Some (Array class kind contents)) element n at is many within = let same = same_Some (length contents) n many in some_within contents at (omega arith)
element_of (Some (Text class units)) element n at is many within = absurd cc

unit_of : (found : Option (Object ℕ)) (n at : ℕ) → option_map made_as found ≡ Some made.Text → option_map object_length found ≡ Some n → at < n
    → IsSome (option_and_then (λ units. slice_get units at) (option_and_then units_of found))
unit_of None n at is many within = absurd cc
unit_of (Some (Instance class fields)) n at is many within = absurd cc
unit_of (Some (Array class element contents)) n at is many within = absurd cc
unit_of (Some (Text class units)) n at is many within = let same = same_Some (length units) n many in some_within units at (omega arith)

pub field_here : (h : LimitedHeap) (r n at : ℕ) → option_map made_as (object_in h r) ≡ Some made.Instance → option_map object_length (object_in h r) ≡ Some n → at < n
    → IsSome (field_in h r at)
field_here h r n at is many within = field_of (object_in h r) n at is many within

pub element_here : (h : LimitedHeap) (r n at : ℕ) (element : Element) → option_map made_as (object_in h r) ≡ Some (made.Array element)
    → option_map object_length (object_in h r) ≡ Some n → at < n → IsSome (element_in h r at)
element_here h r n at element is many within = element_of (object_in h r) element n at is many within

pub unit_here : (h : LimitedHeap) (r n at : ℕ) → option_map made_as (object_in h r) ≡ Some made.Text → option_map object_length (object_in h r) ≡ Some n → at < n
    → IsSome (unit_in h r at)
unit_here h r n at is many within = unit_of (object_in h r) n at is many within
