-- What a call does.
use Rattle.std.specs.Prelude.{◌≡◌, ◌<◌, ◌≤◌, ℕ, true, List, ◌∷◌, ◌++◌, map, length, take, drop, reverse, Option, Some, None}
use Rattle.dj_names.specs.declared.descriptor.Kind.{Kind}
use Rattle.dj_names.specs.declared.descriptor.Kind.TheVariants as tags
use Rattle.dj_names.specs.declared.run.Value.{Value}
use Rattle.dj_names.specs.declared.run.Outcome.TheVariants as outcomes
use Rattle.dj_names.specs.declared.native.NativeId.{NativeId}
use Rattle.dj_names.specs.trusted.Heaps.{Heap}
use Rattle.dj_names.specs.trusted.Values.{value_kind}
use Rattle.dj_names.specs.trusted.Types.{Name, parameters_of}
use Rattle.dj_model.specs.trusted.Types.{Member}
use Rattle.dj_model.specs.trusted.Instructions.{Mode, Static}
use Rattle.dj_model.specs.trusted.Program.{Code, Native, Runs, is_static, method_at}
use Rattle.dj_model.specs.trusted.Shape.{is_static_mode}
use Rattle.dj_model.specs.trusted.Linking.{FoundMethod, declared_of}
use Rattle.dj_model.specs.trusted.State.{Terms, Part, Flow, Raise, Goes, Call, End, Effect, goes}
use Rattle.dj_model.specs.trusted.Performing.{native}
use Rattle.dj_model.specs.trusted.Members as model
use Rattle.dj_model.specs.trusted.Members.{are_instances, kinds_of, run_body}
use Rattle.dj_stack.specs.Frames.{StackFrame, most_frames, top_operands}
use Rattle.dj_program.specs.declared.code.MethodCode.{MethodCode}
use Rattle.dj_numbering.specs.declared.types.MethodId.{MethodId}
use Rattle.dj_image.specs.Imaged.{Imaged, program_of}
use Rattle.dj_invocation.specs.declared.answers.Invoked.{Invoked}
use Rattle.dj_invocation.specs.declared.answers.Invoked.TheVariants as invoked
use Rattle.dj_invocation.specs.Operands.{fit, with_operands}
use Rattle.dj_invocation.specs.Receivers.{typed_heap}
use Rattle.dj_invocation.specs.Choosing.{IsMethod}
use Rattle.dj_invocation.specs.Entering.{entered}

-- the state before a call, in a method of the class `own`
pub record Site : Type 0 where
  pub imaged : Imaged
  pub frames : List StackFrame
  pub heap : Heap ℕ
  pub mode : Mode
  pub own : Name
  pub member : Member

abbrev pub site : Imaged → List StackFrame → Heap ℕ → Mode → Name → Member → Site
site imaged frames heap mode own m = record { imaged = imaged; frames = frames; heap = heap; mode = mode; own = own; member = m }

-- what the model's call does in that state, whatever the rest of the state is
abbrev pub CallIs : Site → (Terms → Part → Option Effect) → Type 0
CallIs s effect = (terms : Terms) (p : Part) → p.operands ≡ top_operands s.frames → p.heap ≡ typed_heap s.imaged s.heap
    → model.invoke (program_of s.imaged) s.imaged.prefix terms s.own s.mode s.member p ≡ effect terms p

-- ---- this many operands are taken

-- in the order in which they were pushed
abbrev pub taken_values : Site → ℕ → List Value
taken_values s taken = reverse (take taken (top_operands s.frames))

abbrev pub left_values : Site → ℕ → List Value
left_values s taken = drop taken (top_operands s.frames)

abbrev pub left_part : Site → ℕ → Part → Part
left_part s taken p = record p { operands = left_values s taken }

abbrev pub left_frames : Site → ℕ → List StackFrame
left_frames s taken = with_operands (left_values s taken) s.frames

-- ---- how the run goes on

-- in this way, with what is left
pub record GoesOn (s : Site) (new : List StackFrame) (flow : Flow) : Type 0 where
  pub taken : ℕ
  pub does : CallIs s (λ terms p. Some (goes (left_part s taken p) flow))
  pub frames : new ≡ left_frames s taken

-- in a method with this code, on what was taken
pub record Calls (s : Site) : Type 0 where
  pub taken : ℕ
  pub method : MethodId
  pub found : FoundMethod
  pub there : IsMethod (program_of s.imaged) method found
  -- it is the method that the program has by its names
  pub its : method_at (program_of s.imaged) (declared_of found) ≡ Some found.method
  pub code : Code
  pub runs : found.method.body ≡ Runs code
  pub does : CallIs s (λ terms p. Some (goes (left_part s taken p) (Call (declared_of found) (taken_values s taken))))

pub record Enters (s : Site) (new : List StackFrame) : Type 0 where
  pub calls : Calls s
  pub few : length s.frames < most_frames
  pub frames : new ≡ entered calls.method.number calls.code.max_locals calls.code.max_stack (taken_values s calls.taken) ∷ left_frames s calls.taken

pub record IsTooDeep (s : Site) (new : List StackFrame) : Type 0 where
  pub calls : Calls s
  pub many : most_frames ≤ length s.frames
  pub frames : new ≡ left_frames s calls.taken

-- what a call takes: the kinds of the parameters, and a reference before them where the method isn't static
abbrev pub taken_kinds : Mode → List Kind → List Kind
taken_kinds Static parameters = parameters
taken_kinds mode parameters = tags.Ref ∷ parameters

-- by the native method, whose arguments are this many upper operands, which stay; they are of its kinds, and the references of its classes
pub record IsNative (s : Site) (new : List StackFrame) (id : NativeId) (count : ℕ) : Type 0 where
  pub within : count ≤ length (top_operands s.frames)
  pub does : CallIs s (λ terms p. native (program_of s.imaged) s.imaged.prefix terms (left_part s count p) id (taken_values s count))
  pub frames : new ≡ s.frames
  pub found : FoundMethod
  pub its : method_at (program_of s.imaged) (declared_of found) ≡ Some found.method
  pub body : found.method.body ≡ Native id
  pub described : found.method.desc ≡ s.member.desc
  -- it is static where it is called without a receiver
  pub static : is_static found.method.flags ≡ is_static_mode s.mode
  pub parameters : List Kind
  pub parameters_are : kinds_of (parameters_of s.member.desc) ≡ Some parameters
  pub values : map value_kind (taken_values s count) ≡ taken_kinds s.mode parameters
  pub instances : are_instances (program_of s.imaged) s.imaged.prefix (typed_heap s.imaged s.heap) (parameters_of s.member.desc) (taken_values s (length parameters)) ≡ true

abbrev pub Invokes : Site → List StackFrame → Option Invoked → Type 0
Invokes s new None = CallIs s (λ terms p. None) × (new ≡ s.frames)
Invokes s new (Some invoked.Entered) = Enters s new
Invokes s new (Some invoked.TooDeep) = IsTooDeep s new
Invokes s new (Some (invoked.Native id count)) = IsNative s new id count
Invokes s new (Some (invoked.Raise raised)) = GoesOn s new (Goes (Raise raised))
Invokes s new (Some invoked.Link) = GoesOn s new (End outcomes.Link)

-- the upper operands are the arguments of a frame of the method with this code, where one more frame is allowed
abbrev pub Steps : MethodId → MethodCode → ℕ → List StackFrame → List StackFrame → Invoked → Type 0
Steps method code taken old new invoked.Entered = (length old < most_frames)
    × (new ≡ entered method.number code.max_locals code.max_stack (reverse (take taken (top_operands old))) ∷ with_operands (drop taken (top_operands old)) old)
Steps method code taken old new invoked.TooDeep = (most_frames ≤ length old) × (new ≡ with_operands (drop taken (top_operands old)) old)
Steps method code taken old new invoked = ⊥

-- ---- before that: what is to run

-- the method runs on this many operands, of which the upper ones are of its parameters
pub record RunsBody (s : Site) (taken count : ℕ) (found : FoundMethod) : Type 0 where
  pub receiver : List Value
  pub all : receiver ++ taken_values s count ≡ taken_values s taken
  pub within : taken ≤ length (top_operands s.frames)
  pub kinds : List Kind
  pub kinds_are : kinds_of (parameters_of s.member.desc) ≡ Some kinds
  pub count_is : count ≡ length kinds
  pub values : map value_kind (taken_values s taken) ≡ taken_kinds s.mode kinds
  pub fits : fit (reverse kinds) (top_operands s.frames) ≡ true
  pub described : found.method.desc ≡ s.member.desc
  pub its : method_at (program_of s.imaged) (declared_of found) ≡ Some found.method
  pub does : CallIs s (λ terms p. run_body (program_of s.imaged) s.imaged.prefix terms (left_part s taken p) found receiver (taken_values s count)
      (parameters_of s.member.desc) found.method.body)
