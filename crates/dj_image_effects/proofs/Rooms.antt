-- What actions leave has room, and what one does that is none of the family.
use Rattle.std.proofs.Common.{◌≡◌, ◌+◌, ◌<◌, ◌≤◌, ℕ, Bool, true, false, ℤ, pos, negsuc, List, ◌∷◌, length, replicate, Option, Some, None, Err, if◌then◌else◌, refl, arith}
use Rattle.dj_names.specs.declared.run.Element.{Element}
use Rattle.dj_names.specs.declared.run.Value.{Value}
use Rattle.dj_names.specs.declared.run.Value.TheVariants as values
use Rattle.dj_names.specs.trusted.Heaps.{Object, Heap, Instance, element_at, array_size, object_size, with_new, next_number}
use Rattle.dj_names.specs.declared.run.Outcome.TheVariants as outcomes
use Rattle.dj_model.specs.trusted.Instructions.{Access}
use Rattle.dj_model.specs.trusted.Arrays as arrays
use Rattle.dj_model.specs.trusted.Arrays.{Found, OnHeap}
use Rattle.dj_model.specs.trusted.Values.{on_values}
use Rattle.dj_heap.specs.Heaps.{LimitedHeap}
use Rattle.dj_stack.specs.Frames.{StackFrame, top_operands, top_room}
use Rattle.dj_effects.specs.Actions.{action_view}
use Rattle.dj_effects.specs.Does.{Does}
use Rattle.dj_effects.specs.DoesOnHeap.{FitsOnHeap, FitsOnHeapIn}
use Rattle.dj_effects.specs.declared.actions.PlainAction.{PlainAction}
use Rattle.dj_effects.specs.declared.actions.PlainAction.TheVariants as actions
use Rattle.dj_member_effects.specs.Objects.{new_by}
use Rattle.dj_image_effects.proofs.Effects.{is_on_values}

pub none_done : (action : PlainAction) (frames : List StackFrame) → is_on_values action ≡ false → Does (action_view action) frames frames None
unfolding on_values
none_done (actions.LoadElement access) frames e = record { effect = refl; frames = record { count = refl; method = refl; room = refl; below = refl }; number = refl }
none_done (actions.StoreElement access) frames e = record { effect = refl; frames = record { count = refl; method = refl; room = refl; below = refl }; number = refl }
none_done (actions.NewArray base element) frames e = record { effect = refl; frames = record { count = refl; method = refl; room = refl; below = refl }; number = refl }
none_done actions.ArrayLength frames e = record { effect = refl; frames = record { count = refl; method = refl; room = refl; below = refl }; number = refl }
none_done actions.Throw frames e = record { effect = refl; frames = record { count = refl; method = refl; room = refl; below = refl }; number = refl }
none_done action frames e = absurd cc

-- ---- room

module _ (room : ℕ) (heap : Heap ℕ) where
  load_room : (operands rest : List Value) (index : ℤ) (found : Found ℕ) → length operands ≤ room → length rest + 1 ≤ room → length (arrays.load_from heap operands rest index found).operands ≤ room
  load_room operands rest index arrays.Null all less = all
  load_room operands rest index arrays.NoArray all less = all
  load_room operands rest index (arrays.IsArray class element contents) all less = by (element_at contents index) where
    by : (z : Option ℤ) → length (arrays.load_at heap operands rest element z).operands ≤ room
    by None = all
    by (Some z) = omega (arith, less)

  load_fits : (access : Access) (operands : List Value) → length operands ≤ room → FitsOnHeapIn room (arrays.load_element access heap operands)
  unfolding arrays.load_element
  load_fits access (values.Int index ∷ (values.Ref r ∷ rest)) le =
      load_room (values.Int index ∷ (values.Ref r ∷ rest)) rest index (arrays.only access (arrays.array_at heap r)) le (omega (arith, le))
  load_fits access _ le = tt

  length_room : (operands rest : List Value) (found : Found ℕ) → length operands ≤ room → length rest + 1 ≤ room → length (arrays.length_of heap operands rest found).operands ≤ room
  length_room operands rest arrays.Null all less = all
  length_room operands rest arrays.NoArray all less = all
  length_room operands rest (arrays.IsArray class element contents) all less = omega (arith, less)

  length_fits : (operands : List Value) → length operands ≤ room → FitsOnHeapIn room (arrays.array_length heap operands)
  unfolding arrays.array_length
  length_fits (values.Ref r ∷ rest) le = length_room (values.Ref r ∷ rest) rest (arrays.array_at heap r) le (omega (arith, le))
  length_fits _ le = tt

  made_room : (full : Bool) (class : ℕ) (element : Element) (operands rest : List Value) (n : ℕ) → length operands ≤ room → length rest + 1 ≤ room
      → length (arrays.make_elements full class element heap operands rest n).operands ≤ room
  made_room true class element operands rest n all less = all
  made_room false class element operands rest n all less = omega (arith, less)

  array_fits : (limit : Option ℕ) (class : ℕ) (element : Element) (operands : List Value) → length operands ≤ room → FitsOnHeapIn room (arrays.make_array limit class element heap operands)
  unfolding arrays.make_array
  array_fits limit class element (values.Int (pos n) ∷ rest) le =
      made_room (arrays.passes_limit limit (heap.used + array_size element n)) class element (values.Int (pos n) ∷ rest) rest n le (omega (arith, le))
  array_fits limit class element (values.Int (negsuc n) ∷ rest) le = le
  array_fits limit class element _ le = tt

  object_room : (full : Bool) (operands : List Value) (o : Object ℕ) (size : ℕ) → length operands < room
      → length (if full then arrays.flows heap operands (Err (outcomes.HeapFull heap.used size)) else arrays.with_value (with_new heap o) operands (values.Ref (next_number heap))).operands ≤ room
  object_room true operands o size less = omega (arith, less)
  object_room false operands o size less = omega (arith, less)

  object_fits : (limit : Option ℕ) (class fields : ℕ) (operands : List Value) → length operands < room → FitsOnHeapIn room (new_by limit class fields heap operands)
  object_fits limit class fields operands less =
      object_room (arrays.passes_limit limit (heap.used + object_size (Instance class (replicate fields 0)))) operands (Instance class (replicate fields 0)) (object_size (Instance class (replicate fields 0))) less

pub load_has_room : (access : Access) (frames : List StackFrame) (heap : LimitedHeap) → length (top_operands frames) ≤ top_room frames → FitsOnHeap (arrays.load_element access) frames heap
load_has_room access frames heap le = load_fits (top_room frames) heap.heap access (top_operands frames) le

pub length_has_room : (frames : List StackFrame) (heap : LimitedHeap) → length (top_operands frames) ≤ top_room frames → FitsOnHeap arrays.array_length frames heap
length_has_room frames heap le = length_fits (top_room frames) heap.heap (top_operands frames) le

pub array_has_room : (limit : Option ℕ) (class : ℕ) (element : Element) (frames : List StackFrame) (heap : LimitedHeap) → length (top_operands frames) ≤ top_room frames
    → FitsOnHeap (arrays.make_array limit class element) frames heap
array_has_room limit class element frames heap le = array_fits (top_room frames) heap.heap limit class element (top_operands frames) le

pub object_has_room : (limit : Option ℕ) (class fields : ℕ) (frames : List StackFrame) (heap : LimitedHeap) → length (top_operands frames) < top_room frames
    → FitsOnHeap (new_by limit class fields) frames heap
object_has_room limit class fields frames heap less = object_fits (top_room frames) heap.heap limit class fields (top_operands frames) less
