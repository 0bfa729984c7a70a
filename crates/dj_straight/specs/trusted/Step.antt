-- One step of the machine, which does the next instruction of the top frame (JVMS 2.6, 2.10 and 6.5).
use Rattle.std.specs.Prelude.{ℕ, zero, suc, ◌+◌, ◌&&◌, Bool, true, false, List, [], ◌∷◌, ◌++◌, map, Option, Some, None, nat_le, nat_lt, if◌then◌else◌}
use Rattle.std.specs.Int.{w8, cast_unsigned}
use Rattle.dj_names.specs.declared.run.Value.{Value}
use Rattle.dj_names.specs.declared.run.Value.TheVariants as values
use Rattle.dj_names.specs.declared.run.Element.TheVariants as elements
use Rattle.dj_names.specs.declared.run.Message.{Message}
use Rattle.dj_names.specs.declared.run.Message.TheVariants as messages
use Rattle.dj_names.specs.declared.run.Charge.{Charge}
use Rattle.dj_names.specs.declared.run.Outcome.{Outcome}
use Rattle.dj_names.specs.declared.run.Outcome.TheVariants as outcomes
use Rattle.dj_straight.specs.trusted.Objects.{Object, Instance, Text}
use Rattle.dj_straight.specs.trusted.Program.{Name, same_name, Program, Code, Range, code_of, is_subclass, is_initialiser, option_list}
use Rattle.dj_straight.specs.trusted.State.{Heap, Frame, State, instruction_at}
use Rattle.dj_straight.specs.trusted.Instructions.{Instruction}
use Rattle.dj_straight.specs.trusted.Initialisation.{Initialised, Ready, Waits, Fails, initialise}
use Rattle.dj_straight.specs.trusted.Effects.{Terms, StraightPart, Flow, Next, To, Raise, Throw, Back, Broken, Full, Effect, effect, object_at, Found, IsArray, array_at, passes_limit, with_new, next_number, raised_size}

pub data Answer : Type 0 where
  -- the run goes on in this state
  Went : State → Answer
  -- the run has ended with this outcome, in this state
  Ended : Outcome → State → Answer
  -- no step can be made: the program isn't sound
  IllFormed : Answer

-- ---- exceptions

abbrev pub text_in : Option Object → Message
text_in (Some (Text units)) = messages.Text units
text_in _ = messages.Null

-- the first field of an exception is its message
abbrev pub message_in : List Object → Option Object → Message
message_in objects (Some (Instance class (values.Ref text ∷ fields))) = text_in (object_at objects text)
message_in objects _ = messages.Null

abbrev pub message_of : List Object → ℕ → Message
message_of objects exception = message_in objects (object_at objects exception)

abbrev pub catches : Program → Name → Option Name → Bool
catches program class None = true
catches program class (Some caught) = is_subclass program class caught

-- the handler of the first range that has the instruction in it and catches the class
abbrev pub handler_in : Program → Name → ℕ → List Range → Option ℕ
handler_in program class number [] = None
handler_in program class number (range ∷ ranges) =
    if nat_le range.start number && nat_lt number range.end && catches program class range.catches
    then Some range.handler else handler_in program class number ranges

abbrev pub handler_of : Program → Name → ℕ → Option Code → Option ℕ
handler_of program class number None = None
handler_of program class number (Some code) = handler_in program class number code.ranges

-- at a handler the exception is the only operand
abbrev pub caught : Frame → ℕ → ℕ → Frame
caught f exception handler = record f { number = handler; operands = values.Ref exception ∷ []; paid = false }

-- the outcome where the object that stops a run leaves: the charge that passed its threshold, where there is one
abbrev pub stopped_by : Option Charge → Outcome → Outcome
stopped_by None otherwise = otherwise
stopped_by (Some charge) otherwise = outcomes.Stopped charge

-- the outcome where an object of the class leaves all frames: otherwise, unless it is the object that stops a run
abbrev pub ended_by : Option Name → Option Charge → Name → Outcome → Outcome
ended_by None exceeded class otherwise = otherwise
ended_by (Some stop) exceeded class otherwise = if same_name stop class then stopped_by exceeded otherwise else otherwise

abbrev pub ends_with : Terms → State → Name → Outcome → Answer
ends_with terms s class outcome = Ended (ended_by terms.stop s.exceeded class outcome) s

-- an exception that leaves an initialiser ends the run; any other goes on to the frame below
abbrev pub leaves : Terms → State → Name → ℕ → Frame → Answer → Answer
leaves terms s class exception f below =
    if is_initialiser f.method then ends_with terms s class (outcomes.Init f.method.class class (message_of s.heap.objects exception)) else below

abbrev pub at_handler : Terms → State → Name → ℕ → Frame → List Frame → Option ℕ → Answer → Answer
at_handler terms s class exception f below (Some handler) otherwise = Went (record s { frames = caught f exception handler ∷ below })
at_handler terms s class exception f below None otherwise = leaves terms s class exception f otherwise

-- JVMS 2.10: frames are left, the top one first, up to the first that has a handler for the exception
unfoldable pub unwound : Program → Terms → State → Name → ℕ → List Frame → Answer
unwound program terms s class exception [] = ends_with terms s class (outcomes.Threw class (message_of s.heap.objects exception))
unwound program terms s class exception (f ∷ below) =
    at_handler terms s class exception f below (handler_of program class f.number (code_of program f.method)) (unwound program terms s class exception below)

abbrev pub class_in : Option Object → Name
class_in (Some (Instance class fields)) = class
class_in _ = []

-- the object of this number is thrown
abbrev pub throw : Program → Terms → State → ℕ → Answer
throw program terms s exception = unwound program terms s (class_in (object_at s.heap.objects exception)) exception s.frames

-- an exception without a message and a cause
abbrev pub new_exception : Name → Object
new_exception class = Instance class (values.Ref 0 ∷ (values.Ref 0 ∷ []))

-- an instruction's own exception is made, and thrown
abbrev pub raise : Program → Terms → State → Name → Answer
raise program terms s class =
    if passes_limit terms.limit (s.heap.used + raised_size) then Ended (outcomes.HeapFull s.heap.used raised_size) s
    else throw program terms (record s { heap = with_new s.heap raised_size (new_exception class) }) (next_number s.heap)

-- ---- returns

abbrev pub bytes_in : Found → Outcome
bytes_in (IsArray class elements.Byte contents) = outcomes.OkBytes (map (cast_unsigned w8) contents)
bytes_in _ = outcomes.Link

-- what the entry returned: null or an array of bytes
abbrev pub result_outcome : Heap → Option Value → Outcome
result_outcome heap (Some (values.Ref zero)) = outcomes.OkNull
result_outcome heap (Some (values.Ref (suc n))) = bytes_in (array_at heap.objects (suc n))
result_outcome heap _ = outcomes.Link

-- the caller's instruction is done, and the result pushed; below an initialiser the instruction is still to be done
abbrev pub resumed : Frame → Option Value → Frame → Frame
resumed f result caller =
    if is_initialiser f.method then caller
    else record caller { number = caller.number + 1; operands = option_list result ++ caller.operands; paid = false }

abbrev pub returned : State → Frame → Option Value → List Frame → Answer
returned s f result [] = Ended (result_outcome s.heap result) s
returned s f result (caller ∷ below) = Went (record s { frames = resumed f result caller ∷ below })

-- ---- the step

-- the run goes on at another instruction of the frame, whose charges aren't added yet
abbrev pub at_number : Frame → StraightPart → ℕ → Frame
at_number f p number = record f { number = number; locals = p.locals; operands = p.operands; paid = false }

-- what follows an effect, in the state as the effect leaves it
abbrev pub settle : Program → Terms → State → Frame → List Frame → StraightPart → Flow → Answer
settle program terms s f below p Next = Went (record s { frames = at_number f p (f.number + 1) ∷ below })
settle program terms s f below p (To number) = Went (record s { frames = at_number f p number ∷ below })
settle program terms s f below p (Raise raised) = raise program terms s (terms.raised raised)
settle program terms s f below p (Throw exception) = throw program terms s exception
settle program terms s f below p (Back result) = returned s f result below
settle program terms s f below p Broken = Ended outcomes.Link s
settle program terms s f below p (Full used size) = Ended (outcomes.HeapFull used size) s

abbrev pub settled : Program → Terms → State → Frame → List Frame → Option Effect → Answer
settled program terms s f below None = IllFormed
settled program terms s f below (Some e) = settle program terms (record s { heap = e.part.heap; statics = e.part.statics; literals = e.part.literals }) f below e.part e.flow

-- the parts of the frame and the state that an instruction may change
abbrev pub part_of : Frame → State → StraightPart
part_of f s = record { locals = f.locals; operands = f.operands; heap = s.heap; statics = s.statics; literals = s.literals }

-- the class that an instruction uses, which is initialised first (JVMS 5.5); none of the supported instructions uses one
abbrev pub used_class : Program → Instruction → Option Name
used_class program i = None

abbrev pub prepared : Program → Terms → Option Name → State → Initialised
prepared program terms None s = Ready s
prepared program terms (Some class) s = initialise program terms class s

-- where initialisers have to run first, the instruction is done after them
abbrev pub done : Program → Terms → Frame → List Frame → Instruction → Initialised → Answer
done program terms f below i (Ready s) = settled program terms s f below (effect program terms i (part_of f s))
done program terms f below i (Waits s) = Went s
done program terms f below i (Fails outcome s) = Ended outcome s

abbrev pub act : Program → Terms → State → Frame → List Frame → Option Instruction → Answer
act program terms s f below None = IllFormed
act program terms s f below (Some i) = done program terms f below i (prepared program terms (used_class program i) s)

abbrev pub step_of : Program → Terms → State → List Frame → Answer
step_of program terms s [] = IllFormed
step_of program terms s (f ∷ below) = act program terms s f below (instruction_at program f)

-- one step, on these terms
unfoldable pub step : Program → Terms → State → Answer
step program terms s = step_of program terms s s.frames
