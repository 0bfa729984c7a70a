-- One step of the machine, which does the next instruction of the top frame (JVMS 2.6, 2.10 and 6.5).
use Rattle.std.specs.Prelude.{ℕ, ◌+◌, ◌&&◌, Bool, true, false, List, [], ◌∷◌, ◌++◌, length, map, Option, Some, None, nat_eq, nat_le, nat_lt, if◌then◌else◌}
use Rattle.std.specs.Int.{w8, cast_unsigned}
use Rattle.dj_names.specs.declared.descriptor.Ty.{Ty}
use Rattle.dj_names.specs.declared.run.Value.{Value}
use Rattle.dj_names.specs.declared.run.Value.TheVariants as values
use Rattle.dj_names.specs.declared.run.Element.TheVariants as elements
use Rattle.dj_names.specs.declared.run.Raised.{Raised}
use Rattle.dj_names.specs.declared.run.Message.{Message}
use Rattle.dj_names.specs.declared.run.Message.TheVariants as messages
use Rattle.dj_names.specs.declared.run.Charge.{Charge}
use Rattle.dj_names.specs.declared.run.Outcome.{Outcome}
use Rattle.dj_names.specs.declared.run.Outcome.TheVariants as outcomes
use Rattle.dj_names.specs.trusted.Heaps.{Object, Instance, Text, Heap, class_of, object_at, object_size, with_new, next_number}
use Rattle.dj_names.specs.trusted.Types.{Name, class_type}
use Rattle.dj_names.specs.trusted.Library.{stop_class}
use Rattle.dj_model.specs.trusted.Types.{Prefix, Declared, raised_type, is_stop}
use Rattle.dj_model.specs.trusted.Instructions.{Instruction, Named, AClass}
use Rattle.dj_model.specs.trusted.Program.{Program, Code, Range, code_of, is_initialiser}
use Rattle.dj_model.specs.trusted.Linking.{is_subtype, member_class, option_list}
use Rattle.dj_model.specs.trusted.State.{Terms, Frame, State, instruction_at, Part, Way, Next, To, Raise, Back, Flow, Goes, Catch, Stop, Call, End, Effect}
use Rattle.dj_model.specs.trusted.Arrays.{Found, IsArray, array_at, passes_limit}
use Rattle.dj_model.specs.trusted.Performing.{class_at_number, object_field}
use Rattle.dj_model.specs.trusted.Effects.{effect, used_class}
use Rattle.dj_model.specs.trusted.Initialisation.{Initialised, Ready, Waits, Fails, new_frame, most_frames, initialise}

pub data StepAnswer : Type 0 where
  -- the run goes on in this state
  Went : State → StepAnswer
  -- the run has ended with this outcome, in this state
  Ended : Outcome → State → StepAnswer
  -- no step can be made: the program isn't sound, or the host's answer is missing or of another kind
  IllFormed : StepAnswer

-- ---- exceptions

abbrev pub text_in : Option (Object Ty) → Message
text_in (Some (Text class units)) = messages.Text units
text_in _ = messages.Null

-- the first field of an exception is its message
abbrev pub message_of : Heap Ty → ℕ → Message
message_of heap exception = text_in (object_at heap.objects (object_field (object_at heap.objects exception) 0))

abbrev pub catches_named : Program → Prefix → Ty → Named → Bool
catches_named program prefix class (AClass caught) = is_subtype program prefix class caught
catches_named program prefix class named = false

abbrev pub catches : Program → Prefix → Ty → Option Named → Bool
catches program prefix class None = true
catches program prefix class (Some named) = catches_named program prefix class named

-- the handler of the first range that has the instruction in it and catches the class
abbrev pub handler_in : Program → Prefix → Ty → ℕ → List Range → Option ℕ
handler_in program prefix class number [] = None
handler_in program prefix class number (range ∷ ranges) =
    if nat_le range.start number && nat_lt number range.end && catches program prefix class range.catches
    then Some range.handler else handler_in program prefix class number ranges

abbrev pub handler_of : Program → Prefix → Ty → ℕ → Option Code → Option ℕ
handler_of program prefix class number None = None
handler_of program prefix class number (Some code) = handler_in program prefix class number code.ranges

-- at a handler the exception is the only operand, and the instruction's charges aren't added yet
abbrev pub caught : Frame Declared → ℕ → ℕ → Frame Declared
caught f exception handler = record f { number = handler; operands = values.Ref exception ∷ []; paid = false }

-- the outcome where the object that stops a run leaves: the charge that passed its threshold, where there is one
abbrev pub stopped_by : Option Charge → Outcome → Outcome
stopped_by None otherwise = otherwise
stopped_by (Some charge) otherwise = outcomes.Stopped charge

abbrev pub ends_with : Prefix → State → Ty → Outcome → StepAnswer
ends_with prefix s class outcome = Ended (if is_stop prefix class then stopped_by s.account.exceeded outcome else outcome) s

-- an exception that leaves an initialiser ends the run; any other goes on to the frame below
abbrev pub leaves_frame : Prefix → State → Ty → ℕ → Frame Declared → StepAnswer → StepAnswer
leaves_frame prefix s class exception f below =
    if is_initialiser f.method
    then ends_with prefix s class (outcomes.Init f.method.class (member_class prefix class) (message_of s.heap exception)) else below

abbrev pub at_handler : Prefix → State → Ty → ℕ → Frame Declared → List (Frame Declared) → Option ℕ → StepAnswer → StepAnswer
at_handler prefix s class exception f below (Some handler) otherwise = Went (record s { frames = caught f exception handler ∷ below })
at_handler prefix s class exception f below None otherwise = leaves_frame prefix s class exception f otherwise

-- JVMS 2.10: frames are left, the top one first, up to the first that has a handler for the exception
unfoldable pub unwound : Program → Prefix → State → Ty → ℕ → List (Frame Declared) → StepAnswer
unwound program prefix s class exception [] = ends_with prefix s class (outcomes.Threw (member_class prefix class) (message_of s.heap exception))
unwound program prefix s class exception (f ∷ below) =
    at_handler prefix s class exception f below (handler_of program prefix class f.number (code_of program f.method))
    (unwound program prefix s class exception below)

-- the object of this number is thrown
abbrev pub throw : Program → Prefix → State → ℕ → StepAnswer
throw program prefix s exception = unwound program prefix s (class_at_number s.heap exception) exception s.frames

-- the object is made and thrown
abbrev pub throw_new : Program → Prefix → Terms → State → Object Ty → StepAnswer
throw_new program prefix terms s object =
    if passes_limit terms.limit (s.heap.used + object_size object) then Ended (outcomes.HeapFull s.heap.used (object_size object)) s
    else throw program prefix (record s { heap = with_new s.heap object }) (next_number s.heap)

-- an exception without a message and a cause
abbrev pub new_exception : Prefix → Raised → Object Ty
new_exception prefix raised = Instance (raised_type prefix raised) (0 ∷ 0 ∷ [])

-- ---- the object that stops a run

abbrev pub new_stop : Object Ty
new_stop = Instance (class_type stop_class) []

-- the first such object of the heap; the objects are numbered from this number on
abbrev pub stop_from : Prefix → ℕ → List (Object Ty) → Option ℕ
stop_from prefix r [] = None
stop_from prefix r (object ∷ objects) = if is_stop prefix (class_of object) then Some r else stop_from prefix (r + 1) objects

abbrev pub throw_stop_or : Program → Prefix → Terms → State → Option ℕ → StepAnswer
throw_stop_or program prefix terms s None = throw_new program prefix terms s new_stop
throw_stop_or program prefix terms s (Some r) = throw program prefix s r

-- ---- calls and returns

abbrev pub called : Program → State → Declared → List Value → StepAnswer
called program s method arguments =
    if nat_le most_frames (length s.frames) then Ended outcomes.TooDeep s
    else Went (record s { frames = new_frame program method arguments ∷ s.frames })

abbrev pub bytes_in : Found Ty → Outcome
bytes_in (IsArray class elements.Byte contents) = outcomes.OkBytes (map (cast_unsigned w8) contents)
bytes_in _ = outcomes.Link

-- what the entry returned: null or an array of bytes
abbrev pub result_outcome : Heap Ty → Option Value → Outcome
result_outcome heap (Some (values.Ref r)) = if nat_eq r 0 then outcomes.OkNull else bytes_in (array_at heap r)
result_outcome heap _ = outcomes.Link

-- the caller's instruction is done, and the result pushed; below an initialiser the instruction is still to be done
abbrev pub resumed : Frame Declared → Option Value → Frame Declared → Frame Declared
resumed f result caller =
    if is_initialiser f.method then caller
    else record caller { number = caller.number + 1; operands = option_list result ++ caller.operands; paid = false }

abbrev pub returned : State → Frame Declared → Option Value → List (Frame Declared) → StepAnswer
returned s f result [] = Ended (result_outcome s.heap result) s
returned s f result (caller ∷ below) = Went (record s { frames = resumed f result caller ∷ below })

-- ---- what follows an effect: f is the top frame and s the state, as the effect leaves them

-- the run goes on at another instruction of the frame, whose charges aren't added yet
abbrev pub at_number : Frame Declared → ℕ → Frame Declared
at_number f number = record f { number = number; paid = false }

abbrev pub settle_way : Program → Prefix → Terms → State → Frame Declared → List (Frame Declared) → Way → StepAnswer
settle_way program prefix terms s f below Next = Went (record s { frames = at_number f (f.number + 1) ∷ below })
settle_way program prefix terms s f below (To number) = Went (record s { frames = at_number f number ∷ below })
settle_way program prefix terms s f below (Raise raised) = throw_new program prefix terms (record s { frames = f ∷ below }) (new_exception prefix raised)
settle_way program prefix terms s f below (Back result) = returned s f result below

unfoldable pub settle : Program → Prefix → Terms → State → Frame Declared → List (Frame Declared) → Flow → StepAnswer
settle program prefix terms s f below (Goes way) = settle_way program prefix terms s f below way
settle program prefix terms s f below (Catch exception) = throw program prefix (record s { frames = f ∷ below }) exception
settle program prefix terms s f below Stop = throw_stop_or program prefix terms (record s { frames = f ∷ below }) (stop_from prefix 1 s.heap.objects)
settle program prefix terms s f below (Call method arguments) = called program (record s { frames = f ∷ below }) method arguments
settle program prefix terms s f below (End outcome) = Ended outcome s

-- the parts of the frame and the state that an instruction may change
abbrev pub part_of : Frame Declared → State → Part
part_of f s = record {
  locals = f.locals;
  operands = f.operands;
  heap = s.heap;
  statics = s.statics;
  literals = s.literals;
  account = s.account;
  answers = s.answers;
}

abbrev pub with_part : State → Part → State
with_part s p = record s { heap = p.heap; statics = p.statics; literals = p.literals; account = p.account; answers = p.answers }

abbrev pub frame_with : Frame Declared → Part → Frame Declared
frame_with f p = record f { locals = p.locals; operands = p.operands }

abbrev pub settled : Program → Prefix → Terms → State → Frame Declared → List (Frame Declared) → Option Effect → StepAnswer
settled program prefix terms s f below None = IllFormed
settled program prefix terms s f below (Some e) = settle program prefix terms (with_part s e.part) (frame_with f e.part) below e.flow

-- ---- the step

abbrev pub prepared : Program → Prefix → Terms → Option Name → State → Initialised
prepared program prefix terms None s = Ready s
prepared program prefix terms (Some class) s = initialise program prefix terms class s

-- where initialisers have to run first, the instruction is done after them
abbrev pub done : Program → Prefix → Terms → Frame Declared → List (Frame Declared) → Instruction → Initialised → StepAnswer
done program prefix terms f below i (Ready s) = settled program prefix terms s f below (effect program prefix terms f.method.class i (part_of f s))
done program prefix terms f below i (Waits s) = Went s
done program prefix terms f below i (Fails outcome s) = Ended outcome s

abbrev pub act : Program → Prefix → Terms → State → Frame Declared → List (Frame Declared) → Option Instruction → StepAnswer
act program prefix terms s f below None = IllFormed
act program prefix terms s f below (Some i) = done program prefix terms f below i (prepared program prefix terms (used_class program prefix i) s)

abbrev pub step_of : Program → Prefix → Terms → State → List (Frame Declared) → StepAnswer
step_of program prefix terms s [] = IllFormed
step_of program prefix terms s (f ∷ below) = act program prefix terms s f below (instruction_at program f)

-- one step, on these terms
unfoldable pub step : Program → Prefix → Terms → State → StepAnswer
step program prefix terms s = step_of program prefix terms s s.frames
