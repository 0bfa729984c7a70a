-- New frames, and the initialisation of classes at their first use (JVMS 5.4.2 and 5.5).
use Rattle.std.specs.Prelude.{ℕ, ◌+◌, ◌-◌, Bool, true, false, List, [], ◌∷◌, ◌++◌, length, set, reverse, replicate, Option, Some, None, nat_lt, if◌then◌else◌}
use Rattle.std.specs.List.{flat_map}
use Rattle.dj_names.specs.declared.run.Value.{Value}
use Rattle.dj_names.specs.declared.run.Value.TheVariants as values
use Rattle.dj_names.specs.declared.run.Outcome.{Outcome}
use Rattle.dj_names.specs.declared.run.Outcome.TheVariants as outcomes
use Rattle.dj_names.specs.trusted.Heaps.{text_size, field_bits}
use Rattle.dj_names.specs.trusted.Types.{Name, same_name}
use Rattle.dj_model.specs.trusted.Types.{Prefix, Declared}
use Rattle.dj_model.specs.trusted.Program.{Program, Code, Field, Constant, Int, Long, Text, Unfit, class_at, fields_of, is_static, code_of, has_initialiser, initialiser_of}
use Rattle.dj_model.specs.trusted.Linking.{chain, static_place}
use Rattle.dj_model.specs.trusted.Numbers.{is_long}
use Rattle.dj_model.specs.trusted.Values.{in_slots}
use Rattle.dj_model.specs.trusted.State.{Frame, State, Terms}
use Rattle.dj_model.specs.trusted.Members.{Kept, with_literal}

-- ---- frames

-- the arguments, and then local variables without values, up to this many
abbrev pub padded : {A : Type 0} → ℕ → List (Option A) → List (Option A)
padded max_locals slots = slots ++ replicate (max_locals - length slots) None

abbrev pub locals_for : Option Code → List Value → List (Option Value)
locals_for None arguments = []
locals_for (Some code) arguments = padded code.max_locals (in_slots is_long arguments)

-- a frame at the first instruction of the method
abbrev pub new_frame : Program → Declared → List Value → Frame Declared
new_frame program method arguments = record {
  method = method;
  number = 0;
  locals = locals_for (code_of program method) arguments;
  operands = [];
  paid = false;
}

-- the most frames that a run may have
abbrev pub most_frames : ℕ
most_frames = 1024

-- ---- which classes are initialised: a flag for each class, in the order of the program

-- whether the class is initialised; a class that the program doesn't have has nothing to initialise
unfoldable pub is_initialised : Program → List Bool → Name → Bool
is_initialised [] flags class = true
is_initialised (c ∷ classes) [] class = true
is_initialised (c ∷ classes) (flag ∷ flags) class = if same_name c.name class then flag else is_initialised classes flags class

unfoldable pub mark : Program → Name → List Bool → List Bool
mark [] class flags = flags
mark (c ∷ classes) class [] = []
mark (c ∷ classes) class (flag ∷ flags) = if same_name c.name class then true ∷ flags else flag ∷ mark classes class flags

abbrev pub mark_all : Program → List Name → List Bool → List Bool
mark_all program [] flags = flags
mark_all program (class ∷ classes) flags = mark_all program classes (mark program class flags)

-- the classes among these that aren't initialised, each once
abbrev pub not_initialised : Program → List Bool → List Name → List Name
not_initialised program flags [] = []
not_initialised program flags (class ∷ classes) =
    (if is_initialised program flags class then [] else class ∷ []) ++ not_initialised program (mark program class flags) classes

-- ---- constants of static fields (JVMS 4.7.2)

-- how the run goes on after an initialisation
pub data Initialised : Type 0 where
  -- the run may go on in this state at once
  Ready : State → Initialised
  -- initialisers are on top of the frames, and run first
  Waits : State → Initialised
  -- the run has ended with this outcome, in this state
  Fails : Outcome → State → Initialised

abbrev pub then_ready : (State → Initialised) → Initialised → Initialised
then_ready next (Ready s) = next s
then_ready next (Waits s) = Waits s
then_ready next (Fails outcome s) = Fails outcome s

abbrev pub with_static : State → ℕ → Value → State
with_static s place value = record s { statics = set s.statics place (field_bits value) }

abbrev pub with_text : State → ℕ → List ℕ → Option Kept → Initialised
with_text s place units None = Fails (outcomes.HeapFull s.heap.used (text_size units)) s
with_text s place units (Some k) = Ready (with_static (record s { heap = k.heap; literals = k.literals }) place (values.Ref k.object))

abbrev pub with_constant : Prefix → Terms → State → ℕ → Option Constant → Initialised
with_constant prefix terms s place None = Ready s
with_constant prefix terms s place (Some (Int z)) = Ready (with_static s place (values.Int z))
with_constant prefix terms s place (Some (Long z)) = Ready (with_static s place (values.Long z))
with_constant prefix terms s place (Some (Text units)) = with_text s place units (with_literal terms.limit prefix s.heap s.literals units)
with_constant prefix terms s place (Some Unfit) = Ready s

-- the constants of the static fields of a class are set, one after the other
unfoldable pub with_constants : Program → Prefix → Terms → Name → List Field → State → Initialised
with_constants program prefix terms class [] s = Ready s
with_constants program prefix terms class (f ∷ fields) s =
    then_ready (with_constants program prefix terms class fields)
    (if is_static f.flags then with_constant prefix terms s (static_place program class f.name f.desc) f.constant else Ready s)

-- the same for these classes, one after the other
unfoldable pub constants_of : Program → Prefix → Terms → List Name → State → Initialised
constants_of program prefix terms [] s = Ready s
constants_of program prefix terms (class ∷ classes) s =
    then_ready (constants_of program prefix terms classes) (with_constants program prefix terms class (fields_of (class_at program class)) s)

-- ---- initialisers

-- the frames of the initialisers of those classes that have one
abbrev pub initialiser_frames : Program → List Name → List (Frame Declared)
initialiser_frames program classes =
    flat_map (λ class. if has_initialiser program class then new_frame program (initialiser_of class) [] ∷ [] else []) classes

abbrev pub with_frames : State → List (Frame Declared) → Initialised
with_frames s [] = Ready s
with_frames s (f ∷ frames) =
    if nat_lt most_frames (length (f ∷ frames) + length s.frames) then Fails outcomes.TooDeep s else Waits (record s { frames = f ∷ frames ++ s.frames })

-- these classes count as initialised; their static fields get their constants, the first class first; and their initialisers are put on top of the
-- frames, the first class's at the top
abbrev pub initialise_all : Program → Prefix → Terms → List Name → State → Initialised
initialise_all program prefix terms classes s =
    then_ready (λ next. with_frames next (initialiser_frames program classes))
    (constants_of program prefix terms classes (record s { initialised = mark_all program classes s.initialised }))

-- JVMS 5.5: the class and its superclasses, as far as they aren't initialised, the highest superclass first
unfoldable pub initialise : Program → Prefix → Terms → Name → State → Initialised
initialise program prefix terms class s =
    initialise_all program prefix terms (reverse (not_initialised program s.initialised (chain program class))) s
