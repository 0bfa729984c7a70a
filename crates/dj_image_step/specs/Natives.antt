-- What a call of a native method answers, whether the host answers it or not.
use Rattle.std.specs.Prelude.{◌≡◌, ℕ, ◌≤◌, List, ◌++◌, length, map, take, drop, reverse, Option, Some, None}
use Rattle.dj_names.specs.declared.descriptor.Ty.{Ty}
use Rattle.dj_names.specs.declared.run.Charge.{Charge}
use Rattle.dj_names.specs.declared.run.Value.{Value}
use Rattle.dj_names.specs.declared.native.NativeId.{NativeId}
use Rattle.dj_names.specs.trusted.Values.{value_kind}
use Rattle.dj_edge.specs.declared.host.HostAnswer.{HostAnswer}
use Rattle.dj_model.specs.trusted.Types.{Prefix}
use Rattle.dj_model.specs.trusted.Instructions.{Instruction}
use Rattle.dj_model.specs.trusted.Program.{Program}
use Rattle.dj_model.specs.trusted.State.{Terms, Part, Flow}
use Rattle.dj_model.specs.trusted.Effects.{effect}
use Rattle.dj_model.specs.trusted.Natives.{asks}
use Rattle.dj_model.specs.trusted.Performing.{native}
use Rattle.dj_model.specs.NativeKinds.{native_signature}
use Rattle.dj_heap.specs.Heaps.{LimitedHeap}
use Rattle.dj_stack.specs.Frames.{StackFrame, top_method, top_operands}
use Rattle.dj_natives.specs.declared.answer.NativeAnswer.{NativeAnswer}
use Rattle.dj_natives.specs.Counting.{Counter}
use Rattle.dj_natives.specs.Calls.{KeepsCounter, KeepsHeap, effect_with, flow_reported, given, part_with, terms_of, typed_heap}
use Rattle.dj_natives.specs.Known.{AreKnown}
use Rattle.dj_host.specs.Hosted.{with_answers}
use Rattle.dj_numbering.specs.Typed.{types_of}
use Rattle.dj_image.specs.Imaged.{Imaged, program_of, typed_of}
use Rattle.dj_current_method.specs.Activations.{declared_at}
use Rattle.dj_settling.specs.declared.settled.Settled.{Settled}
use Rattle.dj_settling.specs.Settling.{IsExpected, Settles, native_settled}

-- ---- arguments

abbrev pub arguments_in : List StackFrame → ℕ → List Value
arguments_in frames count = reverse (take count (top_operands frames))

-- this many upper operands are of the kinds that the method takes
pub record AreGiven (frames : List StackFrame) (id : NativeId) (count : ℕ) : Type 0 where
  pub within : count ≤ length (top_operands frames)
  pub kinds : map value_kind (arguments_in frames count) ≡ (native_signature id).parameters

-- the instruction calls the method on them, whatever the rest of the run is
abbrev pub CallsNative : Imaged → Instruction → List StackFrame → LimitedHeap → NativeId → ℕ → Type 0
CallsNative imaged i frames heap id count = (terms : Terms) (p : Part) → p.operands ≡ top_operands frames → p.heap ≡ typed_heap (types_of (typed_of imaged)) heap
    → effect (program_of imaged) imaged.prefix terms (declared_at (program_of imaged) (top_method frames)).class i p
    ≡ native (program_of imaged) imaged.prefix terms (record p { operands = drop count (top_operands frames) }) id (arguments_in frames count)

-- ---- answers

-- the method asks the host nothing, whatever its arguments are
abbrev pub IsQuiet : NativeId → Type 0
IsQuiet id = (args : List Value) → asks id args ≡ None

-- the model's native method has this effect, where these answers of the host stand before the rest
abbrev pub Answers : Program → Prefix → List Ty → LimitedHeap → LimitedHeap → Option Counter → Option Counter → List HostAnswer → NativeId → List Value → NativeAnswer → Type 0
Answers program prefix types old new before after gave id args result = (flow : Flow) → flow_reported id args result ≡ Some flow → (p : Part) (rest : List HostAnswer)
    → native program prefix (terms_of old before) (part_with types old before (with_answers (gave ++ rest) p)) id args
    ≡ Some (effect_with types new after result (with_answers rest p) flow)

pub record AnswersNative (imaged : Imaged) (old new : LimitedHeap) (before after : Option Counter) (gave : List HostAnswer) (id : NativeId) (args : List Value)
    (result : NativeAnswer) : Type 0 where
  pub does : Answers (program_of imaged) imaged.prefix (types_of (typed_of imaged)) old new before after gave id args result
  pub heap : KeepsHeap old new result
  pub known : AreKnown (types_of (typed_of imaged)) new
  pub counter : KeepsCounter before after

-- the run goes on after such an answer, which it is ready for
pub record IsAwaited (imaged : Imaged) (heap : LimitedHeap) (frames : List StackFrame) (id : NativeId) (args : List Value) (answer : NativeAnswer) : Type 0 where
  pub flow : Flow
  pub reported : flow_reported id args answer ≡ Some flow
  pub expected : IsExpected imaged heap frames id args answer

-- what follows it
pub record NativeSettles (imaged : Imaged) (exceeded : Option Charge) (id : NativeId) (args : List Value) (answer : NativeAnswer) (before after : LimitedHeap)
    (old new : List StackFrame) (result : Settled) : Type 0 where
  pub flow : Flow
  pub reported : flow_reported id args answer ≡ Some flow
  pub settles : Settles imaged exceeded (native_settled (program_of imaged) imaged.prefix (given answer) flow) before after old new result
