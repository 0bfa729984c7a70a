-- The initialisation of classes at their first use (JVMS 5.4.2 and 5.5).
use Rattle.std.specs.Prelude.{ℕ, ◌+◌, ◌-◌, false, pos, List, [], ◌∷◌, ◌++◌, length, reverse, replicate, Option, Some, None, nat_lt, if◌then◌else◌}
use Rattle.std.specs.List.{list_any, flat_map}
use Rattle.dj_names.specs.declared.descriptor.Kind.{Kind}
use Rattle.dj_names.specs.declared.descriptor.Kind.TheVariants as kinds
use Rattle.dj_names.specs.declared.run.Value.{Value}
use Rattle.dj_names.specs.declared.run.Value.TheVariants as values
use Rattle.dj_names.specs.declared.run.Outcome.{Outcome}
use Rattle.dj_names.specs.declared.run.Outcome.TheVariants as outcomes
use Rattle.dj_straight.specs.trusted.Program.{Name, same_name, Program, MethodName, Code, Class, Field, Constant, Int, Long, Text as TextConstant, class_at, fields_of, field_kind, is_static, code_of, chain, has_initialiser, initialiser_of}
use Rattle.dj_straight.specs.trusted.State.{Static, Frame, State}
use Rattle.dj_straight.specs.trusted.Effects.{Terms, LiteralMade, with_literal, with_static, text_size}

-- ---- frames

-- JVMS 2.6.1: a long takes two local variables, of which the second has no value
abbrev pub argument_slots : List Value → List (Option Value)
argument_slots [] = []
argument_slots (values.Long z ∷ rest) = Some (values.Long z) ∷ None ∷ argument_slots rest
argument_slots (v ∷ rest) = Some v ∷ argument_slots rest

-- the arguments, and then local variables without values, up to this many
abbrev pub entry_locals : ℕ → List (Option Value) → List (Option Value)
entry_locals max_locals slots = slots ++ replicate (max_locals - length slots) None

abbrev pub locals_for : Option Code → List Value → List (Option Value)
locals_for None arguments = []
locals_for (Some code) arguments = entry_locals code.max_locals (argument_slots arguments)

-- a frame at the first instruction of the method
abbrev pub new_frame : Program → MethodName → List Value → Frame
new_frame program method arguments = record {
  method = method;
  number = 0;
  locals = locals_for (code_of program method) arguments;
  operands = [];
  paid = false;
}

-- the frames of the initialisers of those classes that have one
abbrev pub initialiser_frames : Program → List Name → List Frame
initialiser_frames program classes =
    flat_map (λ class. if has_initialiser program class then new_frame program (initialiser_of class) [] ∷ [] else []) classes

-- the most frames that a run may have
abbrev pub most_frames : ℕ
most_frames = 1024

-- ---- static fields

-- JVMS 2.3 and 2.4
abbrev pub default_value : Kind → Value
default_value kinds.Int = values.Int (pos 0)
default_value kinds.Long = values.Long (pos 0)
default_value kinds.Ref = values.Ref 0

abbrev pub default_static : Name → Field → Option Kind → List Static
default_static class f None = []
default_static class f (Some kind) =
    record { class = class; name = f.name; desc = f.desc; value = default_value kind } ∷ []

abbrev pub class_statics : Class → List Static
class_statics c = flat_map (λ f. if is_static f.flags then default_static c.name f (field_kind f.desc) else []) c.fields

-- the static fields of all classes, with their default values
abbrev pub statics_of : Program → List Static
statics_of program = flat_map class_statics program

-- the static field has another value
abbrev pub with_value : State → Name → Field → Value → State
with_value s class f value = record s { statics = with_static s.statics class f.name f.desc value }

-- ---- constants

-- how the run goes on after an initialisation
pub data Initialised : Type 0 where
  -- the run may go on in this state at once
  Ready : State → Initialised
  -- initialisers are on top of the frames, and run first
  Waits : State → Initialised
  -- the run has ended with this outcome, in this state
  Fails : Outcome → State → Initialised

abbrev pub then_ready : (State → Initialised) → Initialised → Initialised
then_ready next (Ready s) = next s
then_ready next other = other

abbrev pub with_text : State → Name → Field → List ℕ → Option LiteralMade → Initialised
with_text s class f units None = Fails (outcomes.HeapFull s.heap.used (text_size units)) s
with_text s class f units (Some made) = Ready (with_value (record s { heap = made.heap; literals = made.literals }) class f (values.Ref made.object))

-- JVMS 4.7.2: the field begins with its constant, where it has one
abbrev pub with_constant : Terms → State → Name → Field → Option Constant → Initialised
with_constant terms s class f None = Ready s
with_constant terms s class f (Some (Int z)) = Ready (with_value s class f (values.Int z))
with_constant terms s class f (Some (Long z)) = Ready (with_value s class f (values.Long z))
with_constant terms s class f (Some (TextConstant units)) = with_text s class f units (with_literal terms.limit s.heap s.literals units)

-- the static fields of a class get their constants, one after the other
unfoldable pub with_constants : Terms → Name → List Field → State → Initialised
with_constants terms class [] s = Ready s
with_constants terms class (f ∷ fields) s =
    then_ready (with_constants terms class fields) (if is_static f.flags then with_constant terms s class f f.constant else Ready s)

-- the same for these classes, one after the other
unfoldable pub constants_of : Program → Terms → List Name → State → Initialised
constants_of program terms [] s = Ready s
constants_of program terms (class ∷ classes) s =
    then_ready (constants_of program terms classes) (with_constants terms class (fields_of (class_at program class)) s)

-- ---- classes

abbrev pub without : List Name → List Name → List Name
without others [] = []
without others (class ∷ classes) = if list_any (same_name class) others then without others classes else class ∷ without others classes

abbrev pub with_frames : State → List Frame → Initialised
with_frames s [] = Ready s
with_frames s frames =
    if nat_lt most_frames (length frames + length s.frames) then Fails outcomes.TooDeep s else Waits (record s { frames = frames ++ s.frames })

-- these classes count as initialised, their static fields get their constants, and their initialisers are put on top of the frames, the first class's at the top
abbrev pub initialise_all : Program → Terms → List Name → State → Initialised
initialise_all program terms classes s =
    then_ready (λ next. with_frames next (initialiser_frames program classes))
    (constants_of program terms classes (record s { initialised = s.initialised ++ classes }))

-- JVMS 5.5: the class and its superclasses, as far as they aren't initialised, the highest superclass first
abbrev pub initialise : Program → Terms → Name → State → Initialised
initialise program terms class s = initialise_all program terms (reverse (without s.initialised (chain program class))) s
