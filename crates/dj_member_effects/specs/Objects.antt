-- New objects, casts and thrown objects, whose classes are numbers (JVMS 6.5): a test on numbers says which classes are below that of the instruction.
use Rattle.std.specs.Prelude.{◌≡◌, ⊤, ℕ, ◌||◌, Bool, true, false, ℤ, pos, List, ◌∷◌, replicate, Option, Some, None, nat_eq, Ok, if◌then◌else◌}
use Rattle.dj_names.specs.declared.run.Value.{Value}
use Rattle.dj_names.specs.declared.run.Value.TheVariants as values
use Rattle.dj_names.specs.declared.run.Raised.TheVariants as raises
use Rattle.dj_names.specs.declared.run.Outcome.TheVariants as outcomes
use Rattle.dj_names.specs.trusted.Heaps.{Object, Instance, Heap, class_of, object_at}
use Rattle.dj_model.specs.trusted.State as model
use Rattle.dj_model.specs.trusted.State.{Next, Raise, Goes, Catch, End}
use Rattle.dj_model.specs.trusted.Arrays.{OnHeap, flows, make, with_value}
use Rattle.dj_model.specs.trusted.Members.{instance_number}
use Rattle.dj_member_effects.specs.declared.objects.Thrown.{Thrown}
use Rattle.dj_member_effects.specs.declared.objects.Thrown.TheVariants as thrown

-- an instance with this many fields, each 0
abbrev pub new_by : Option ℕ → ℕ → ℕ → Heap ℕ → List Value → Option (OnHeap ℕ)
new_by limit class fields heap operands = Some (make limit heap operands operands (Instance class (replicate fields 0)))

-- ---- classes of objects

-- where there is no object it is of no class
abbrev pub below_in : (ℕ → Bool) → Option (Object ℕ) → Bool
below_in is_below None = false
below_in is_below (Some object) = is_below (class_of object)

-- the object is of the class; null is of every class
abbrev pub is_instance_by : (ℕ → Bool) → Heap ℕ → ℕ → Bool
is_instance_by is_below heap r = nat_eq r 0 || below_in is_below (object_at heap.objects r)

-- a reference on top is null or that of an object
abbrev pub HasObject : Heap ℕ → List Value → Type 0
HasObject heap (values.Ref r ∷ rest) = object_at heap.objects r ≡ None → r ≡ 0
HasObject heap operands = ⊤

-- ---- casts

abbrev pub cast_flows : Heap ℕ → List Value → Bool → OnHeap ℕ
cast_flows heap operands true = flows heap operands (Ok Next)
cast_flows heap operands false = flows heap operands (Ok (Raise raises.ClassCast))

unfoldable pub check_cast_by : (ℕ → Bool) → Heap ℕ → List Value → Option (OnHeap ℕ)
check_cast_by is_below heap (values.Ref r ∷ rest) = Some (cast_flows heap (values.Ref r ∷ rest) (is_instance_by is_below heap r))
check_cast_by is_below heap _ = None

-- null is an instance of no class
abbrev pub instance_reported : (ℕ → Bool) → Heap ℕ → ℕ → ℤ
instance_reported is_below heap r = if nat_eq r 0 then pos 0 else instance_number (is_instance_by is_below heap r)

unfoldable pub instance_of_by : (ℕ → Bool) → Heap ℕ → List Value → Option (OnHeap ℕ)
instance_of_by is_below heap (values.Ref r ∷ rest) = Some (with_value heap rest (values.Int (instance_reported is_below heap r)))
instance_of_by is_below heap _ = None

-- ---- thrown objects

abbrev pub thrown_by : (ℕ → Bool) → Heap ℕ → ℕ → Thrown
thrown_by is_below heap r =
    if nat_eq r 0 then thrown.Null else if is_instance_by is_below heap r then thrown.Catch r else thrown.Link

unfoldable pub throw_by : (ℕ → Bool) → Heap ℕ → List Value → Option Thrown
throw_by is_below heap (values.Ref r ∷ rest) = Some (thrown_by is_below heap r)
throw_by is_below heap _ = None

abbrev pub thrown_view : Thrown → model.Flow
thrown_view thrown.Null = Goes (Raise raises.NullPointer)
thrown_view (thrown.Catch r) = Catch r
thrown_view thrown.Link = End outcomes.Link
