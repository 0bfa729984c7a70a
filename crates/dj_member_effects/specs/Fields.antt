-- Fields of instances, whose classes are numbers (JVMS 6.5): a test on numbers says which classes have the field.
use Rattle.std.specs.Prelude.{◌≡◌, ℕ, Bool, List, [], ◌∷◌, length, set, Option, Some, None, slice_index, nat_eq, Result, Ok, Err, if◌then◌else◌}
use Rattle.dj_names.specs.declared.descriptor.Kind.{Kind}
use Rattle.dj_names.specs.declared.run.Value.{Value}
use Rattle.dj_names.specs.declared.run.Value.TheVariants as values
use Rattle.dj_names.specs.declared.run.Raised.TheVariants as raises
use Rattle.dj_names.specs.declared.run.Outcome.TheVariants as outcomes
use Rattle.dj_names.specs.trusted.Heaps.{Object, Instance, Heap, object_at, with_object, field_bits, field_value}
use Rattle.dj_model.specs.trusted.Numbers.{is_of_kind}
use Rattle.dj_model.specs.trusted.State.{Next, Raise}
use Rattle.dj_model.specs.trusted.Arrays.{OnHeap, flows, with_value}
use Rattle.dj_heap.specs.Heaps.{LimitedHeap}
use Rattle.dj_effects.specs.declared.way.Way.TheVariants as ways
use Rattle.dj_effects.specs.declared.way.Flow.{Flow}
use Rattle.dj_effects.specs.declared.way.Flow.TheVariants as goes

-- what a reference is, where an instance with the field is wanted
pub data Holder : Type 0 where
  Null : Holder
  NoHolder : Holder
  Holds : ℕ → List ℕ → Holder

abbrev pub holder_in : (ℕ → Bool) → Option (Object ℕ) → Holder
holder_in has (Some (Instance class fields)) = if has class then Holds class fields else NoHolder
holder_in has _ = NoHolder

abbrev pub holder_by : (ℕ → Bool) → Heap ℕ → ℕ → Holder
holder_by has heap r = if nat_eq r 0 then Null else holder_in has (object_at heap.objects r)

abbrev pub get_from : Heap ℕ → List Value → List Value → Kind → ℕ → Holder → OnHeap ℕ
get_from heap operands rest kind place Null = flows heap operands (Ok (Raise raises.NullPointer))
get_from heap operands rest kind place NoHolder = flows heap operands (Err outcomes.Link)
get_from heap operands rest kind place (Holds class fields) = with_value heap rest (field_value kind (slice_index fields place))

unfoldable pub get_field_by : (ℕ → Bool) → Kind → ℕ → Heap ℕ → List Value → Option (OnHeap ℕ)
get_field_by has kind place heap (values.Ref r ∷ rest) = Some (get_from heap (values.Ref r ∷ rest) rest kind place (holder_by has heap r))
get_field_by has kind place heap _ = None

abbrev pub put_in : Heap ℕ → List Value → List Value → ℕ → ℕ → Value → Holder → OnHeap ℕ
put_in heap operands rest place r v Null = flows heap operands (Ok (Raise raises.NullPointer))
put_in heap operands rest place r v NoHolder = flows heap operands (Err outcomes.Link)
put_in heap operands rest place r v (Holds class fields) =
    flows (with_object heap r (Instance class (set fields place (field_bits v)))) rest (Ok Next)

unfoldable pub put_field_by : (ℕ → Bool) → Kind → ℕ → Heap ℕ → List Value → Option (OnHeap ℕ)
put_field_by has kind place heap (v ∷ (values.Ref r ∷ rest)) =
    if is_of_kind kind v then Some (put_in heap (v ∷ (values.Ref r ∷ rest)) rest place r v (holder_by has heap r)) else None
put_field_by has kind place heap _ = None

-- ---- used by the code alone

-- how many fields the instance has, or how the run goes on in its place
abbrev pub holder_reported : Holder → Result ℕ Flow
holder_reported Null = Err (goes.Goes (ways.Raise raises.NullPointer))
holder_reported NoHolder = Err goes.Link
holder_reported (Holds class fields) = Ok (length fields)

-- the reference is that of an instance with this many fields
pub record HasFields (heap : Heap ℕ) (r : ℕ) (count : ℕ) : Type 0 where
  pub class : ℕ
  pub fields : List ℕ
  pub object : object_at heap.objects r ≡ Some (Instance class fields)
  pub many : length fields ≡ count

-- the fields of an instance; none where there is no instance
abbrev pub fields_in : Option (Object ℕ) → List ℕ
fields_in (Some (Instance class fields)) = fields
fields_in _ = []

abbrev pub fields_at : Heap ℕ → ℕ → List ℕ
fields_at heap r = fields_in (object_at heap.objects r)

-- the instance has other bits at the place, where it has such a field, and all else is as before
abbrev pub PutsField : LimitedHeap → LimitedHeap → ℕ → ℕ → ℕ → Type 0
PutsField old new r at bits =
    (class : ℕ) (fields : List ℕ) → object_at old.heap.objects r ≡ Some (Instance class fields)
    → new ≡ record old { heap = with_object old.heap r (Instance class (set fields at bits)) }
