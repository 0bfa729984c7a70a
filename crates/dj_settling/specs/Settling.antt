-- What follows the effect of an instruction, over an image.
use Rattle.std.specs.Prelude.{◌≡◌, ℕ, ⊤, ◌⊎◌, ◌<◌, ◌+◌, length, List, [], ◌∷◌, ◌++◌, replicate, Option, Some, None, IsTrue, is_some, nat_eq, if◌then◌else◌}
use Rattle.dj_names.specs.declared.descriptor.Ty.{Ty}
use Rattle.dj_names.specs.declared.run.Value.{Value}
use Rattle.dj_names.specs.declared.run.Charge.{Charge}
use Rattle.dj_names.specs.declared.run.Raised.{Raised}
use Rattle.dj_names.specs.declared.run.Message.{Message}
use Rattle.dj_names.specs.declared.run.Message.TheVariants as messages
use Rattle.dj_names.specs.declared.run.Outcome.{Outcome}
use Rattle.dj_names.specs.declared.run.Outcome.TheVariants as outcomes
use Rattle.dj_names.specs.trusted.Heaps.{Object, Instance, Text, class_of}
use Rattle.dj_names.specs.trusted.Values.{raised_class}
use Rattle.dj_names.specs.trusted.Types.{Name}
use Rattle.dj_names.specs.trusted.Library.{stop_class}
use Rattle.dj_model.specs.trusted.Types.{Prefix, Declared, is_stop}
use Rattle.dj_model.specs.trusted.Program.{Program}
use Rattle.dj_model.specs.trusted.State.{Terms, Frame, State, Flow}
use Rattle.dj_model.specs.trusted.Step.{StepAnswer, IllFormed, stopped_by, throw, throw_new, new_exception, stop_from, throw_stop_or, settle}
use Rattle.dj_names.specs.declared.native.NativeId.{NativeId}
use Rattle.dj_names.specs.declared.native.NativeId.TheVariants as natives
use Rattle.dj_model.specs.trusted.Natives.{reference}
use Rattle.dj_heap.specs.Heaps.{LimitedHeap, object_in, Makes}
use Rattle.dj_stack.specs.Frames.{StackFrame, top_operands, top_room}
use Rattle.dj_effects.specs.declared.way.Way.{Way}
use Rattle.dj_effects.specs.declared.way.Way.TheVariants as ways
use Rattle.dj_natives.specs.declared.answer.NativeAnswer.{NativeAnswer}
use Rattle.dj_natives.specs.declared.answer.NativeAnswer.TheVariants as natively
use Rattle.dj_natives.specs.Calls.{typed_heap}
use Rattle.dj_natives.specs.Known.{AreKnown}
use Rattle.dj_natives.specs.Seen.{field_at}
use Rattle.dj_class_table.specs.Tables.{class_number}
use Rattle.dj_numbering.specs.Typed.{types_of, type_at}
use Rattle.dj_image.specs.Imaged.{Imaged, program_of, typed_of}
use Rattle.dj_current_method.specs.Activations.{frames_seen, AreActivations}
use Rattle.dj_unwinding.specs.Returns.{HasRoomBelow}
use Rattle.dj_unwinding.specs.Unwinding.{IsClassNumber, class_name_at}
use Rattle.dj_unwinding.specs.declared.unwinding.Unwound.{Unwound}
use Rattle.dj_unwinding.specs.declared.unwinding.Unwound.TheVariants as unwinds
use Rattle.dj_settling.specs.declared.settled.Settled.{Settled}
use Rattle.dj_settling.specs.declared.settled.Settled.TheVariants as settles
use Rattle.dj_settling.specs.Reported.{Reported, On, Over, reported_of}

-- ---- what is answered

-- a state with this heap and these frames
abbrev pub seen_in : Imaged → LimitedHeap → List StackFrame → State → State
seen_in imaged heap frames s = record s { heap = typed_heap (types_of (typed_of imaged)) heap; frames = frames_seen (program_of imaged) frames }

-- the run goes on in this state, or it has ended with this outcome
abbrev pub settled_reported : Settled → State → Reported
settled_reported settles.Went s = On s
settled_reported (settles.Ended outcome) s = Over outcome s.account s.answers

-- what the model answers in each state with this heap and these frames, whose account has this charge as exceeded, and on terms of the heap's limit
abbrev pub Answers : Imaged → Option Charge → (Terms → State → StepAnswer) → LimitedHeap → LimitedHeap → List StackFrame → List StackFrame → Settled → Type 0
Answers imaged exceeded answer before after old new result = (terms : Terms) (s : State) → terms.limit ≡ Some before.limit → s.account.exceeded ≡ exceeded
    → reported_of (answer terms (seen_in imaged before old s)) ≡ settled_reported result (seen_in imaged after new s)

-- the same, and what a machine has to know of the heap and the frames
pub record Settles (imaged : Imaged) (exceeded : Option Charge) (answer : Terms → State → StepAnswer) (before after : LimitedHeap) (old new : List StackFrame)
    (result : Settled) : Type 0 where
  pub answers : Answers imaged exceeded answer before after old new result
  pub limit : after.limit ≡ before.limit
  pub known : AreKnown (types_of (typed_of imaged)) after
  pub stand : AreActivations imaged new

-- what follows an effect on the top frame
abbrev pub top_settled : Program → Prefix → Flow → Terms → State → StepAnswer
top_settled program prefix flow terms s = of_frames s.frames where
  of_frames : List (Frame Declared) → StepAnswer
  of_frames [] = IllFormed
  of_frames (f ∷ below) = settle program prefix terms s f below flow

-- ---- exceptions

-- an object of a class
pub record IsThrown (imaged : Imaged) (heap : LimitedHeap) (exception : ℕ) : Type 0 where
  pub object : Object ℕ
  pub there : object_in heap exception ≡ Some object
  pub class : IsClassNumber (typed_of imaged) (class_of object)

-- the first field of an exception is its message
abbrev pub text_held : Option (Object ℕ) → Message
text_held (Some (Text class units)) = messages.Text units
text_held _ = messages.Null

abbrev pub message_at : LimitedHeap → ℕ → Message
message_at heap exception = text_held (object_in heap (field_at heap exception 0))

-- how the run ends where the exception, of the class of this number, leaves the initialiser of a class, or the last frame
abbrev pub left_outcome : Imaged → LimitedHeap → ℕ → ℕ → Option ℕ → Outcome
left_outcome imaged heap class exception None = outcomes.Threw (class_name_at (program_of imaged) class) (message_at heap exception)
left_outcome imaged heap class exception (Some left) =
    outcomes.Init (class_name_at (program_of imaged) left) (class_name_at (program_of imaged) class) (message_at heap exception)

-- where it is the object that stops a run, the run ends as stopped
abbrev pub stopping : Imaged → Option Charge → ℕ → Option Charge
stopping imaged exceeded class = if is_stop imaged.prefix (type_at (typed_of imaged) class) then exceeded else None

abbrev pub uncaught_outcome : Imaged → LimitedHeap → Option Charge → ℕ → ℕ → Option ℕ → Outcome
uncaught_outcome imaged heap exceeded class exception left = stopped_by (stopping imaged exceeded class) (left_outcome imaged heap class exception left)

-- where the exception went
abbrev pub settled_by : Imaged → LimitedHeap → Option Charge → ℕ → ℕ → Unwound → Settled
settled_by imaged heap exceeded class exception unwinds.Caught = settles.Went
settled_by imaged heap exceeded class exception (unwinds.Init left) = settles.Ended (uncaught_outcome imaged heap exceeded class exception (Some left))
settled_by imaged heap exceeded class exception unwinds.Threw = settles.Ended (uncaught_outcome imaged heap exceeded class exception None)

-- the object is thrown
abbrev pub throwing : Imaged → ℕ → Terms → State → StepAnswer
throwing imaged exception terms s = throw (program_of imaged) imaged.prefix s exception

-- an instance of the class of this number, with this many fields, is made and thrown
abbrev pub throwing_new : Imaged → ℕ → ℕ → Terms → State → StepAnswer
throwing_new imaged class fields terms s = throw_new (program_of imaged) imaged.prefix terms s (Instance (type_at (typed_of imaged) class) (replicate fields 0))

-- the object was made, and its number is kept; or nothing has changed
abbrev pub IsMade : LimitedHeap → LimitedHeap → Object ℕ → ℕ → ℕ → Type 0
IsMade before after object old new = Makes before after object new ⊎ ((after ≡ before) × (new ≡ old))

-- ---- exceptions of the machine's own

-- the program has the class
abbrev pub HasClass : Program → Name → Type 0
HasClass program name = IsTrue (is_some (class_number program name))

-- rewritten classes come with the class of the object that stops a run
abbrev pub HasStop : Prefix → Program → Type 0
HasStop [] program = ⊤
HasStop (byte ∷ prefix) program = HasClass program stop_class

-- the classes of the objects that the machine itself throws are there
pub record HasOwn (imaged : Imaged) : Type 0 where
  pub raised : (raised : Raised) → HasClass (program_of imaged) (imaged.prefix ++ raised_class raised)
  pub stop : HasStop imaged.prefix (program_of imaged)

-- the classes are rewritten
abbrev pub IsRewritten : Prefix → Type 0
IsRewritten [] = ⊥
IsRewritten (byte ∷ prefix) = ⊤

-- the class of this number is that of the type
pub record IsClassOf (imaged : Imaged) (ty : Ty) (class : ℕ) : Type 0 where
  pub number : IsClassNumber (typed_of imaged) class
  pub is : type_at (typed_of imaged) class ≡ ty

-- an exception of an instruction's own is made and thrown
abbrev pub raising : Imaged → Raised → Terms → State → StepAnswer
raising imaged raised terms s = throw_new (program_of imaged) imaged.prefix terms s (new_exception imaged.prefix raised)

-- the object that stops a run is found or made, and thrown
abbrev pub throwing_stop : Imaged → Terms → State → StepAnswer
throwing_stop imaged terms s = throw_stop_or (program_of imaged) imaged.prefix terms s (stop_from imaged.prefix 1 s.heap.objects)

abbrev pub stop_found : Imaged → LimitedHeap → Option ℕ
stop_found imaged heap = stop_from imaged.prefix 1 (typed_heap (types_of (typed_of imaged)) heap).objects

-- where a number is kept it is that of the object that is found; 0 means that none is
abbrev pub IsStop : Imaged → LimitedHeap → ℕ → Type 0
IsStop imaged heap stop = (stop ≡ 0 → ⊥) → stop_found imaged heap ≡ Some stop

-- by the number of its class: the first one of these objects, whose numbers go on from here
abbrev pub stop_number_from : ℕ → ℕ → List (Object ℕ) → Option ℕ
stop_number_from class r [] = None
stop_number_from class r (object ∷ objects) = if nat_eq class (class_of object) then Some r else stop_number_from class (r + 1) objects

-- ---- native methods

-- what follows the answer of a native method, whose arguments were taken from the top frame
abbrev pub native_settled : Program → Prefix → List Value → Flow → Terms → State → StepAnswer
native_settled program prefix given flow terms s = of_frames s.frames where
  of_frames : List (Frame Declared) → StepAnswer
  of_frames [] = IllFormed
  of_frames (f ∷ below) = settle program prefix terms s (record f { operands = given ++ f.operands }) below flow

-- only an object that isn't null and is no array is thrown again; and only rewritten classes have the object that stops a run
abbrev pub StopsBy : Imaged → LimitedHeap → NativeId → List Value → Type 0
StopsBy imaged heap natives.CheckCatch args = IsThrown imaged heap (reference 0 args)
StopsBy imaged heap id args = IsRewritten imaged.prefix

-- what the machine has to know where a native method gives this answer
abbrev pub IsExpected : Imaged → LimitedHeap → List StackFrame → NativeId → List Value → NativeAnswer → Type 0
IsExpected imaged heap frames id args (natively.Gives v) = length (top_operands frames) < top_room frames
IsExpected imaged heap frames id args natively.Stop = StopsBy imaged heap id args
IsExpected imaged heap frames id args answer = ⊤

-- the object's number is kept as before, or from now on
abbrev pub KeepsStop : Imaged → LimitedHeap → ℕ → ℕ → Type 0
KeepsStop imaged after old new = (new ≡ old) ⊎ IsStop imaged after new

-- ---- ways

-- a caller has room for what is returned to it
abbrev pub HasRoomFor : Program → List StackFrame → Way → Type 0
HasRoomFor program frames (ways.Back value) = HasRoomBelow program frames value
HasRoomFor program frames way = ⊤
