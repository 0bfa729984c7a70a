-- What native methods take, by rows, and heaps whose objects are known.
use Rattle.std.specs.Borrow.{Bor}
use Rattle.std.specs.Prelude.{◌≡◌, ◌<◌, ℕ, Bool, false, List, Option, Some, None, length}
use Rattle.dj_names.specs.declared.descriptor.Kind.{Kind}
use Rattle.dj_names.specs.declared.descriptor.Ty.{Ty}
use Rattle.dj_names.specs.declared.native.NativeId.{NativeId}
use Rattle.dj_names.specs.declared.run.Value.{Value}
use Rattle.dj_names.specs.trusted.Heaps.{Object}
use Rattle.dj_heap.specs.Heaps.{LimitedHeap, object_in}
use Rattle.dj_model.specs.trusted.Natives.{asks, reference}
use Rattle.dj_model.specs.NativeKinds.{native_signature}
use Rattle.dj_stack.specs.Frames.{StackFrame, top_operands, top_room}
use Rattle.dj_natives.specs.Known.{IsFitting, IsOfChars, IsKnown}

-- a method that doesn't ask the host, what it takes, and whether that is all that it wants of its arguments
pub record IsTaken (row : NativeId × Bor (List Kind) × Bool) : Type 0 where
  pub kinds : row.1.now ≡ (native_signature row.0).parameters
  pub asks : (args : List Value) → asks row.0 args ≡ None
  pub fits : (h : LimitedHeap) (args : List Value) → (row.2 ≡ false → IsOfChars (object_in h (reference 0 args))) → IsFitting row.0 h args

abbrev pub IsKnownAt : List Ty → LimitedHeap → ℕ → Type 0
IsKnownAt types h r = (object : Object ℕ) → object_in h r ≡ Some object → IsKnown types object

-- ---- frames

-- one operand more has room
abbrev pub HasRoom : List StackFrame → Type 0
HasRoom frames = length (top_operands frames) < top_room frames
