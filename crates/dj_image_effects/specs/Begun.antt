-- An instruction that names nothing, done at once.
use Rattle.std.specs.Prelude.{◌≡◌, ◌+◌, ⊤, ℕ, List, Option, Some, None}
use Rattle.dj_names.specs.declared.descriptor.Ty.{Ty}
use Rattle.dj_model.specs.trusted.Instructions.{Instruction}
use Rattle.dj_heap.specs.Heaps.{LimitedHeap}
use Rattle.dj_stack.specs.Frames.{StackFrame, SameButNumber, top_number}
use Rattle.dj_effects.specs.declared.way.Way.TheVariants as ways
use Rattle.dj_member_effects.specs.Literals.{LiteralTable}
use Rattle.dj_natives.specs.Known.{AreKnown}
use Rattle.dj_image.specs.Imaged.{Imaged}
use Rattle.dj_initialisation.specs.Store.{IsStore, store}
use Rattle.dj_image_effects.specs.declared.acted.Acted.{Acted}
use Rattle.dj_image_effects.specs.declared.acted.Acted.TheVariants as acts
use Rattle.dj_image_effects.specs.declared.begun.Begun.{Begun}
use Rattle.dj_image_effects.specs.declared.begun.Begun.TheVariants as begins
use Rattle.dj_image_effects.specs.Acting.{ActsOnHeap}

-- a heap beside static fields and literals of the image
abbrev pub HasStore : Imaged → LimitedHeap → Type 0
HasStore imaged heap = (statics : List ℕ) × (literals : LiteralTable) × IsStore imaged (store heap statics literals)

-- the top frame is at the instruction at which the run goes on
abbrev pub IsGone : Acted → List StackFrame → List StackFrame → Type 0
IsGone (acts.Goes ways.Next) old new = (top_number new ≡ top_number old + 1) × SameButNumber old new
IsGone (acts.Goes (ways.To number)) old new = (top_number new ≡ number) × SameButNumber old new
IsGone acted old new = ⊥

-- the instruction left these frames, and the run goes on in the top one
pub record Goes (imaged : Imaged) (i : Instruction) (old new : List StackFrame) (before after : LimitedHeap) : Type 0 where
  pub left : List StackFrame
  pub acted : Acted
  pub does : ActsOnHeap imaged i old left before after acted
  pub gone : IsGone acted left new

-- what is known of the frames and the heap
abbrev pub BeginsBy : Imaged → Instruction → List StackFrame → List StackFrame → LimitedHeap → LimitedHeap → Begun → Type 0
BeginsBy imaged i old new before after begins.Went = Goes imaged i old new before after
BeginsBy imaged i old new before after begins.Nothing = (new ≡ old) × (after ≡ before)
BeginsBy imaged i old new before after (begins.Left acted) = ActsOnHeap imaged i old new before after acted

-- the heap's objects are known, where there is such a step
abbrev pub IsKnownAfter : List Ty → LimitedHeap → Acted → Type 0
IsKnownAfter types heap acts.Stuck = ⊤
IsKnownAfter types heap acted = AreKnown types heap

abbrev pub IsKnownThen : List Ty → LimitedHeap → Begun → Type 0
IsKnownThen types heap begins.Went = AreKnown types heap
IsKnownThen types heap begins.Nothing = AreKnown types heap
IsKnownThen types heap (begins.Left acted) = IsKnownAfter types heap acted

-- ---- used by the code alone: what follows an instruction that was done

abbrev pub Follows : Acted → List StackFrame → List StackFrame → Begun → Type 0
Follows acted old new begins.Went = IsGone acted old new
Follows acted old new begins.Nothing = ⊥
Follows acted old new (begins.Left reported) = (reported ≡ acted) × (new ≡ old)

-- the run goes on in the frame at the instruction of this number, after the one of that number; nothing is said where there is none
abbrev pub IsPlaceAfter : ℕ → Acted → Option ℕ → Type 0
IsPlaceAfter number acted None = ⊤
IsPlaceAfter number (acts.Goes ways.Next) (Some place) = place ≡ number + 1
IsPlaceAfter number (acts.Goes (ways.To target)) (Some place) = place ≡ target
IsPlaceAfter number acted (Some place) = ⊥
