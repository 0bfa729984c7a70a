-- What a machine keeps, and what holds of it.
use Rattle.std.specs.Prelude.{◌≡◌, ◌<◌, ◌≤◌, ℕ, zero, suc, ℤ, pos, ⊤, Bool, false, List, [], ◌∷◌, map, replicate, length, Option, None}
use Rattle.std.specs.Int.{w8, cast_signed}
use Rattle.dj_names.specs.declared.run.Outcome.{Outcome}
use Rattle.dj_names.specs.declared.run.Thresholds.{Thresholds}
use Rattle.dj_names.specs.declared.run.Value.TheVariants as values
use Rattle.dj_names.specs.declared.run.Element.TheVariants as elements
use Rattle.dj_names.specs.trusted.Heaps.{Array, object_size, array_size}
use Rattle.dj_model.specs.trusted.Types.{Prefix}
use Rattle.dj_model.specs.trusted.Charging.{new_account}
use Rattle.dj_model.specs.trusted.Initialisation.{new_frame}
use Rattle.dj_model.specs.trusted.Linking.{static_count}
use Rattle.dj_model.specs.trusted.Runs.{input_array, input_heap}
use Rattle.dj_heap.specs.Heaps.{LimitedHeap}
use Rattle.dj_heap.specs.declared.errors.HeapError.{HeapError}
use Rattle.dj_heap.specs.declared.errors.HeapError.TheVariants as heap_errors
use Rattle.dj_stack.specs.Frames.{StackFrame}
use Rattle.dj_natives.specs.Counting.{Counter}
use Rattle.dj_natives.specs.Calls.{counting_of, typed_heap}
use Rattle.dj_natives.specs.Known.{AreKnown}
use Rattle.dj_numbering.specs.Typed.{types_of}
use Rattle.dj_image.specs.Imaged.{Imaged, program_of, typed_of}
use Rattle.dj_current_method.specs.Activations.{frames_seen, AreActivations}
pub use Rattle.dj_current_method.specs.Activations.{declared_at}
use Rattle.dj_resolution.specs.Linked.{class_name}
use Rattle.dj_initialisation.specs.declared.prepare.Prepared.{Prepared}
use Rattle.dj_initialisation.specs.declared.prepare.Prepared.TheVariants as prepared
use Rattle.dj_initialisation.specs.Flags.{AreFlags}
use Rattle.dj_initialisation.specs.Store.{store}
use Rattle.dj_initialisation.specs.Preparing.{Parts, Prepares, parts}
use Rattle.dj_image_step.specs.Running.{Counts, IsKept, IsRunning, Kept, Running, account_of}
use Rattle.dj_step.specs.declared.answers.StartError.{StartError}
use Rattle.dj_step.specs.declared.answers.StartError.TheVariants as starts
use Rattle.dj_step.specs.Machines.{counting_for}

-- ---- what holds

-- until there is no memory the run has the limits of the machine; and where it hasn't ended it goes on
pub record IsMachine (imaged : Imaged) (limit : ℕ) (limits : Thresholds) (kept : Kept) (r : Running) (outcome : Option Outcome) (failed : Bool) : Type 0 where
  pub tables : IsKept imaged kept
  pub limited : failed ≡ false → r.parts.store.heap.limit ≡ limit
  pub counted : failed ≡ false → counting_of r.counter ≡ counting_for imaged.prefix limits
  pub running : failed ≡ false → outcome ≡ None → IsRunning imaged r

-- ---- the start

-- the heap with the input alone
pub record HoldsInput (imaged : Imaged) (input : List ℕ) (limit : ℕ) (heap : LimitedHeap) : Type 0 where
  pub is : typed_heap (types_of (typed_of imaged)) heap ≡ input_heap input
  pub limited : heap.limit ≡ limit
  pub fits : object_size (input_array input) ≤ limit
  pub known : AreKnown (types_of (typed_of imaged)) heap

abbrev pub start_error : HeapError → StartError
start_error (heap_errors.Full used size) = starts.Full used size
start_error heap_errors.Memory = starts.Memory

-- the input doesn't fit, or there is no memory
abbrev pub RefusesInput : List ℕ → ℕ → StartError → Type 0
RefusesInput input limit starts.Memory = ⊤
RefusesInput input limit (starts.Full used size) = (used ≡ 0) × (size ≡ object_size (input_array input)) × (limit < object_size (input_array input))
RefusesInput input limit starts.TooDeep = ⊥

-- the frame of the entry alone, with the first object as its argument
pub record HoldsEntry (imaged : Imaged) (entry : ℕ) (frames : List StackFrame) : Type 0 where
  pub seen : frames_seen (program_of imaged) frames ≡ new_frame (program_of imaged) (declared_at (program_of imaged) entry) (values.Ref 1 ∷ []) ∷ []
  pub stand : AreActivations imaged frames

-- the run at its beginning, before the entry's class is initialised
abbrev pub begin_parts : Imaged → LimitedHeap → List StackFrame → Parts
begin_parts imaged heap frames =
    parts (replicate (length (program_of imaged)) false) (store heap (replicate (static_count (program_of imaged)) 0) (record { count = length imaged.texts; made = [] })) frames

-- who counts charges, and no charge was counted yet
pub record IsCounter (prefix : Prefix) (limits : Thresholds) (counter : Option Counter) : Type 0 where
  pub counting : counting_of counter ≡ counting_for prefix limits
  pub account : account_of counter ≡ new_account
  pub counts : Counts prefix counter

-- before the entry's class is initialised
pub record IsFirst (imaged : Imaged) (limits : Thresholds) (heap : LimitedHeap) (frames : List StackFrame) (r : Running) : Type 0 where
  pub parts : r.parts ≡ begin_parts imaged heap frames
  pub flags : AreFlags (program_of imaged) r.parts.flags
  pub counter : IsCounter imaged.prefix limits r.counter
  pub stop : r.stop ≡ 0

-- the entry's class, which has some number, was initialised
pub record PreparesEntry (imaged : Imaged) (entry : ℕ) (before after : Parts) (result : Prepared) : Type 0 where
  pub class : ℕ
  pub named : class_name (program_of imaged) class ≡ (declared_at (program_of imaged) entry).class
  pub prepares : Prepares imaged class before after result

-- the run begins so
pub record BeginsRun (imaged : Imaged) (entry : ℕ) (limits : Thresholds) (heap : LimitedHeap) (frames : List StackFrame) (r : Running) (how : Prepared) : Type 0 where
  pub did : PreparesEntry imaged entry (begin_parts imaged heap frames) r.parts how
  pub counter : IsCounter imaged.prefix limits r.counter
  pub stop : r.stop ≡ 0
  pub known : AreKnown (types_of (typed_of imaged)) r.parts.store.heap

-- the run goes on
abbrev pub GoesOn : Prepared → Type 0
GoesOn prepared.Ready = ⊤
GoesOn prepared.Waits = ⊤
GoesOn prepared.TooDeep = ⊥
GoesOn (prepared.HeapFull used size) = ⊥

-- ---- used by the code alone: how the input is filled in

-- the bytes with their sign, this many of them, and zeros in place of the others
abbrev pub filled : ℕ → List ℕ → List ℤ
filled at [] = []
filled zero (byte ∷ bytes) = pos 0 ∷ filled zero bytes
filled (suc at) (byte ∷ bytes) = cast_signed w8 byte ∷ filled at bytes

-- a heap with an array of bytes alone
abbrev pub bytes_heap : ℕ → ℕ → List ℤ → LimitedHeap
bytes_heap class limit contents = record { heap = record { objects = Array class elements.Byte contents ∷ []; used = array_size elements.Byte (length contents) }; limit = limit }

-- one with zeros, as many as there are bytes
pub record HasZeros (input : List ℕ) (h : LimitedHeap) : Type 0 where
  pub class : ℕ
  pub is : h ≡ bytes_heap class h.limit (filled 0 input)

abbrev pub FillsTo : List ℕ → ℕ → LimitedHeap → LimitedHeap → Type 0
FillsTo input at old new = (class : ℕ) → old ≡ bytes_heap class old.limit (filled 0 input) → new ≡ bytes_heap class old.limit (filled at input)

abbrev pub FillsBytes : List ℕ → LimitedHeap → LimitedHeap → Type 0
FillsBytes input old new = (class : ℕ) → old ≡ bytes_heap class old.limit (filled 0 input) → new ≡ bytes_heap class old.limit (map (cast_signed w8) input)
