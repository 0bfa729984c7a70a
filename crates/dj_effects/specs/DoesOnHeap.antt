-- What an instruction on arrays does to the frames and the heap.
use Rattle.std.specs.Prelude.{◌≡◌, ◌≤◌, ⊤, ℕ, Bool, List, ◌∷◌, length, Option, Some, None, Result, Ok, Err}
use Rattle.dj_names.specs.declared.run.Value.{Value}
use Rattle.dj_names.specs.declared.run.Value.TheVariants as values
use Rattle.dj_names.specs.declared.run.Outcome.{Outcome}
use Rattle.dj_names.specs.declared.run.Outcome.TheVariants as outcomes
use Rattle.dj_names.specs.trusted.Heaps.{Heap}
use Rattle.dj_model.specs.trusted.State as model
use Rattle.dj_model.specs.trusted.Arrays.{OnHeap, flows}
use Rattle.dj_heap.specs.Heaps.{LimitedHeap}
use Rattle.dj_stack.specs.Frames.{StackFrame, SameButOperands, top_operands, top_room}
use Rattle.dj_effects.specs.Does.{way_view, reported_operands}
use Rattle.dj_effects.specs.declared.way.Flow.{Flow}
use Rattle.dj_effects.specs.declared.way.Flow.TheVariants as goes

abbrev pub flow_view : Flow → Result model.Way Outcome
flow_view (goes.Goes way) = Ok (way_view way)
flow_view goes.Link = Err outcomes.Link
flow_view (goes.HeapFull used size) = Err (outcomes.HeapFull used size)

-- the operands after an effect: where the run doesn't just go on, those before it
abbrev pub reported_beside : List StackFrame → List StackFrame → Flow → List Value
reported_beside old new (goes.Goes way) = reported_operands old new way
reported_beside old new flow = top_operands old

abbrev pub reported_on_heap : List StackFrame → List StackFrame → Heap ℕ → Option Flow → Option (OnHeap ℕ)
reported_on_heap old new heap None = None
reported_on_heap old new heap (Some flow) = Some (flows heap (reported_beside old new flow) (flow_view flow))

-- the top frame's operands and the heap are as the effect has them, and the answer is how the run goes on; none where there is no effect
pub record DoesOnHeap (effect_of : Heap ℕ → List Value → Option (OnHeap ℕ)) (old new : List StackFrame) (before after : LimitedHeap) (flow : Option Flow) : Type 0 where
  pub effect : effect_of before.heap (top_operands old) ≡ reported_on_heap old new after.heap flow
  pub limit : after.limit ≡ before.limit
  pub frames : SameButOperands old new

-- ---- what is left has room

abbrev pub FitsOnHeapIn : ℕ → Option (OnHeap ℕ) → Type 0
FitsOnHeapIn room None = ⊤
FitsOnHeapIn room (Some e) = length e.operands ≤ room

abbrev pub FitsOnHeap : (Heap ℕ → List Value → Option (OnHeap ℕ)) → List StackFrame → LimitedHeap → Type 0
FitsOnHeap effect_of frames heap = FitsOnHeapIn (top_room frames) (effect_of heap.heap (top_operands frames))

-- ---- whether an array takes a reference

-- the answer to it, where a reference stands on the operands that would be stored in an array
abbrev pub IsTakenSo : (ℕ → ℕ → Bool) → List Value → Bool → Type 0
IsTakenSo takes (values.Ref v ∷ (values.Int index ∷ (values.Ref r ∷ rest))) taken = takes r v ≡ taken
IsTakenSo takes operands taken = ⊤
