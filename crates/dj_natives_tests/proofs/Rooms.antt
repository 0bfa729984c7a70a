-- What makes an object leaves no more operands than have room.
use Rattle.std.proofs.Common.{◌≡◌, ℕ, ℤ, pos, negsuc, suc, ◌+◌, ◌<◌, ◌≤◌, Bool, true, false, List, [], ◌∷◌, length, Option, Some, None, refl, arith, replicate}
use Rattle.std.specs.Prelude.{if◌then◌else◌, Err}
use Rattle.dj_names.specs.declared.run.Element.{Element}
use Rattle.dj_names.specs.declared.run.Outcome.TheVariants as outcomes
use Rattle.dj_names.specs.declared.run.Value.{Value}
use Rattle.dj_names.specs.declared.run.Value.TheVariants as values
use Rattle.dj_names.specs.trusted.Heaps.{Heap, Object, Instance, array_size, object_size, with_new, next_number}
use Rattle.dj_model.specs.trusted.Arrays.{make_array, make_elements, make, passes_limit, flows, with_value}
use Rattle.dj_heap.specs.Heaps.{LimitedHeap}
use Rattle.dj_stack.specs.Frames.{StackFrame, top_operands, top_room}
use Rattle.dj_effects.specs.DoesOnHeap.{FitsOnHeap, FitsOnHeapIn}
use Rattle.dj_member_effects.specs.Objects.{new_by}
use Rattle.dj_natives_tests.specs.Arguments.{HasRoom}

elements_fit : (b : Bool) (class : ℕ) (element : Element) (heap : Heap ℕ) (n room : ℕ) (rest : List Value) → length rest + 1 ≤ room
    → length (make_elements b class element heap (values.Int (pos n) ∷ rest) rest n).operands ≤ room
elements_fit true class element heap n room rest few = omega (arith, few)
elements_fit false class element heap n room rest few = omega (arith, few)

array_in : (limit : Option ℕ) (class : ℕ) (element : Element) (heap : Heap ℕ) (operands : List Value) (room : ℕ) → length operands < room → FitsOnHeapIn room (make_array limit class element heap operands)
unfolding make_array
array_in limit class element heap [] room few = tt
array_in limit class element heap (values.Int (pos n) ∷ rest) room few = elements_fit (passes_limit limit (heap.used + array_size element n)) class element heap n room rest (omega (arith, few))
array_in limit class element heap (values.Int (negsuc n) ∷ rest) room few = omega (arith, few)
array_in limit class element heap (values.Long z ∷ rest) room few = tt
array_in limit class element heap (values.Ref r ∷ rest) room few = tt

pub array_fits : (limit : Option ℕ) (class : ℕ) (element : Element) (frames : List StackFrame) (heap : LimitedHeap) → HasRoom frames → FitsOnHeap (make_array limit class element) frames heap
array_fits limit class element frames heap few = array_in limit class element heap.heap (top_operands frames) (top_room frames) few

made_in : (b : Bool) (heap : Heap ℕ) (operands : List Value) (room : ℕ) (fields : List ℕ) (class : ℕ) → length operands < room
    → length (if b then flows heap operands (Err (outcomes.HeapFull heap.used (object_size (Instance class fields)))) else with_value (with_new heap (Instance class fields)) operands (values.Ref (next_number heap))).operands ≤ room
made_in true heap operands room fields class few = omega (arith, few)
made_in false heap operands room fields class few = omega (arith, few)

pub object_fits : (limit : Option ℕ) (class fields : ℕ) (frames : List StackFrame) (heap : LimitedHeap) → HasRoom frames → FitsOnHeap (new_by limit class fields) frames heap
object_fits limit class fields frames heap few =
    made_in (passes_limit limit (heap.heap.used + object_size (Instance class (replicate fields 0)))) heap.heap (top_operands frames) (top_room frames) (replicate fields 0) class few
