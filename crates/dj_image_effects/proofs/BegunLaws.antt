-- What holds of an instruction that is done at once.
use Rattle.std.proofs.Common.{◌≡◌, ◌+◌, ◌<◌, ℕ, Bool, List, length, Option, Some, None, sym, ap, subst, ◌∙◌, arith}
use Rattle.dj_names.specs.declared.descriptor.Ty.{Ty}
use Rattle.dj_model.specs.trusted.Instructions.{Instruction, Access}
use Rattle.dj_model.specs.trusted.Arrays as arrays
use Rattle.dj_heap.specs.Heaps.{LimitedHeap}
use Rattle.dj_stack.specs.Frames.{StackFrame, SameButNumber, top_number}
use Rattle.dj_effects.specs.DoesOnHeap.{DoesOnHeap}
use Rattle.dj_effects.specs.declared.way.Way.TheVariants as ways
use Rattle.dj_effects.specs.declared.way.Flow.{Flow}
use Rattle.dj_effects.specs.declared.way.Flow.TheVariants as flows
use Rattle.dj_natives.specs.Known.{AreKnown}
use Rattle.dj_image.specs.Imaged.{Imaged}
use Rattle.dj_image_effects.specs.declared.acted.Acted.{Acted}
use Rattle.dj_image_effects.specs.declared.acted.Acted.TheVariants as acts
use Rattle.dj_image_effects.specs.declared.begun.Begun.{Begun}
use Rattle.dj_image_effects.specs.declared.begun.Begun.TheVariants as begins
use Rattle.dj_image_effects.specs.Acting.{ActsOnHeap}
use Rattle.dj_image_effects.specs.Begun.{BeginsBy, Follows, HasStore, IsGone, IsKnownAfter, IsKnownThen, IsPlaceAfter}
use Rattle.dj_image_effects.specs.Flows.{flow_acted}
use Rattle.dj_image_effects.proofs.KnownHeaps.{store_known}

pub is_gone : (acted : Acted) (old new : List StackFrame) (number place : ℕ) → number ≡ top_number old → IsPlaceAfter number acted (Some place) → top_number new ≡ place → SameButNumber old new → IsGone acted old new
is_gone (acts.Goes ways.Next) old new number place at next is same = (is ∙ (next ∙ ap (λ (n : ℕ). n + 1) at), same)
is_gone (acts.Goes (ways.To target)) old new number place at next is same = (is ∙ next, same)
is_gone (acts.Goes (ways.Raise raised)) old new number place at next is same = absurd next
is_gone (acts.Goes (ways.Back value)) old new number place at next is same = absurd next
is_gone (acts.Catch exception) old new number place at next is same = absurd next
is_gone acts.Link old new number place at next is same = absurd next
is_gone (acts.HeapFull used size) old new number place at next is same = absurd next
is_gone acts.Call old new number place at next is same = absurd next
is_gone acts.Stuck old new number place at next is same = absurd next

module _ (imaged : Imaged) (i : Instruction) (old left : List StackFrame) (before after : LimitedHeap) (acted : Acted) (has : HasStore imaged before)
    (does : ActsOnHeap imaged i old left before after acted) where
  pub left_some : 0 < length old → 0 < length left
  left_some some = let count = (does has.0 has.1 has.2).frames.count in omega (arith, count, some)

  pub left_number : (number : ℕ) → number ≡ top_number old → number ≡ top_number left
  left_number number at = at ∙ sym (does has.0 has.1 has.2).number

pub begun_by : (imaged : Imaged) (i : Instruction) (old left new : List StackFrame) (before after : LimitedHeap) (acted : Acted) (begun : Begun)
    → ActsOnHeap imaged i old left before after acted → Follows acted left new begun → BeginsBy imaged i old new before after begun
begun_by imaged i old left new before after acted begins.Went does gone = record { left = left; acted = acted; does = does; gone = gone }
begun_by imaged i old left new before after acted begins.Nothing does follows = absurd follows
begun_by imaged i old left new before after acted (begins.Left reported) does follows =
    subst (λ (a : Acted). ActsOnHeap imaged i old new before after a) (sym follows.0)
    (subst (λ (frames : List StackFrame). ActsOnHeap imaged i old frames before after acted) (sym follows.1) does)

-- ---- the heap

pub still_known : (types : List Ty) (heap : LimitedHeap) (begun : Begun) → AreKnown types heap → IsKnownThen types heap begun
still_known types heap begins.Went known = known
still_known types heap begins.Nothing known = known
still_known types heap (begins.Left acts.Stuck) known = tt
still_known types heap (begins.Left (acts.Goes way)) known = known
still_known types heap (begins.Left (acts.Catch exception)) known = known
still_known types heap (begins.Left acts.Link) known = known
still_known types heap (begins.Left (acts.HeapFull used size)) known = known
still_known types heap (begins.Left acts.Call) known = known

gone_known : (types : List Ty) (heap : LimitedHeap) (acted : Acted) (old new : List StackFrame) → IsKnownAfter types heap acted → IsGone acted old new → AreKnown types heap
gone_known types heap acts.Stuck old new known gone = absurd gone
gone_known types heap (acts.Goes way) old new known gone = known
gone_known types heap (acts.Catch exception) old new known gone = known
gone_known types heap acts.Link old new known gone = known
gone_known types heap (acts.HeapFull used size) old new known gone = known
gone_known types heap acts.Call old new known gone = known

pub begun_known : (types : List Ty) (heap : LimitedHeap) (acted : Acted) (old new : List StackFrame) (begun : Begun) → IsKnownAfter types heap acted → Follows acted old new begun
    → IsKnownThen types heap begun
begun_known types heap acted old new begins.Went known gone = gone_known types heap acted old new known gone
begun_known types heap acted old new begins.Nothing known follows = absurd follows
begun_known types heap acted old new (begins.Left reported) known follows = subst (IsKnownAfter types heap) (sym follows.0) known

acted_known : (types : List Ty) (heap : LimitedHeap) (flow : Flow) → AreKnown types heap → IsKnownAfter types heap (flow_acted (Some flow))
acted_known types heap (flows.Goes way) known = known
acted_known types heap flows.Link known = known
acted_known types heap (flows.HeapFull used size) known = known

pub stored_known : (types : List Ty) (takes : ℕ → ℕ → Bool) (access : Access) (old new : List StackFrame) (before after : LimitedHeap) (reported : Option Flow) (acted : Acted) → acted ≡ flow_acted reported
    → AreKnown types before → DoesOnHeap (arrays.store_element takes access) old new before after reported → IsKnownAfter types after acted
stored_known types takes access old new before after None acted is known does = subst (IsKnownAfter types after) (sym is) tt
stored_known types takes access old new before after (Some flow) acted is known does =
    subst (IsKnownAfter types after) (sym is) (acted_known types after flow (store_known types takes access old new before after flow known does))
