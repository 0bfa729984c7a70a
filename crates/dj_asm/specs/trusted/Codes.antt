-- The Code attribute that a body means: its instructions, ranges and frames with numbers of instructions, and the bytes (JVMS 4.7.3 and 4.7.4).
use Rattle.std.specs.Prelude.{◌≡◌, ◌==◌, ℕ, ◌+◌, Bool, true, false, ℤ, pos, unsigned_abs, List, [], ◌∷◌, map, Option, Some, None, codes, bytes_eq, if◌then◌else◌}
use Rattle.std.specs.List.{flat_map, AllZip}
use Rattle.dj_names.specs.trusted.Types.{Name}
use Rattle.dj_names.specs.trusted.Descriptors.{Describes, slots_of}
use Rattle.dj_names.specs.declared.descriptor.Desc.{Desc}
use Rattle.dj_ops.specs.declared.instruction.Instr.{Instr}
use Rattle.dj_ops.specs.declared.instruction.Instr.TheVariants as instrs
use Rattle.dj_ops.specs.declared.frames.VType.{VType}
use Rattle.dj_ops.specs.declared.frames.VType.TheVariants as types
use Rattle.dj_ops.specs.declared.frames.Form.{Form}
use Rattle.dj_ops.specs.declared.frames.Form.TheVariants as forms
use Rattle.dj_ops.specs.declared.frames.Frame as frames
use Rattle.dj_labels.specs.declared.labelled.Protected.{Protected}
use Rattle.dj_labels.specs.declared.labelled.Labelled.{Labelled}
use Rattle.dj_layout.specs.declared.laid.Laid.{Laid}
use Rattle.dj_layout.specs.trusted.Layouts.{IsLaidOut}
use Rattle.dj_frames.specs.trusted.Written.{stack_map_bytes}
use Rattle.dj_class.specs.trusted.ClassFile.{AttributeInfo}
use Rattle.dj_class.specs.trusted.Code.{CodeInfo}
use Rattle.dj_asm_source.specs.trusted.Lines.{Label, FrameType, Simple, Object, New, Frame, Same, Stack1, Chop, Append, Full, Operation, Plain, Push, Local, Increment, Load, LoadLong, Jump, Table, Lookup, Member, Dynamic, ClassOf, Array, Multi, Catch, Line, Beside, Framed, Does}
use Rattle.dj_asm_pool.specs.trusted.Entries as entries
use Rattle.dj_asm_pool.specs.trusted.Entries.{Entry}
use Rattle.dj_asm_pool.specs.trusted.Needs.{literal_entry, member_entry, stack_map_name}

-- the number of the instruction at each label, and the index of each entry of the pool
pub record Places : Type 0 where
  pub number : Label → ℕ
  pub index : Entry → ℕ

-- ---- instructions

abbrev pub target_of : Places → Label → ℤ
target_of places label = pos (places.number label)

-- JVMS 6.5, invokeinterface: the count is one more than the slots of the parameters
pub record IsInterfaceCall (index : ℕ) (desc : Name) (instr : Instr) : Type 0 where
  pub described : Desc
  pub describes : Describes desc described
  pub instruction : instr ≡ instrs.Interface index (slots_of described + 1)

abbrev pub IsMemberInstr : Bool → ℕ → ℕ → Name → Instr → Type 0
IsMemberInstr true op index desc instr = IsInterfaceCall index desc instr
IsMemberInstr false op index desc instr = instr ≡ instrs.Member op index

abbrev pub is_interface_call : ℕ → Bool
is_interface_call op = op == 185

abbrev pub IsInstrOf : Places → Operation → Instr → Type 0
IsInstrOf places (Plain op) instr = instr ≡ instrs.Simple op
IsInstrOf places (Push op n) instr = instr ≡ instrs.Push op n
IsInstrOf places (Local wide op slot) instr = instr ≡ instrs.Local op (unsigned_abs slot) wide
IsInstrOf places (Increment wide slot by) instr = instr ≡ instrs.Inc (unsigned_abs slot) by wide
IsInstrOf places (Load op literal) instr = instr ≡ instrs.Literal op (places.index (literal_entry literal))
IsInstrOf places (LoadLong n) instr = instr ≡ instrs.Literal 20 (places.index (entries.Long n))
IsInstrOf places (Jump op label) instr = instr ≡ instrs.Branch op (target_of places label)
IsInstrOf places (Table low labels default) instr = instr ≡ instrs.Table low (target_of places default) (map (target_of places) labels)
IsInstrOf places (Lookup pairs default) instr = instr ≡ instrs.Lookup (target_of places default) (map (λ (pair : ℤ × Label). (pair.0, target_of places pair.1)) pairs)
IsInstrOf places (Member op class name desc interface) instr =
    IsMemberInstr (is_interface_call op) op (places.index (member_entry op class name desc interface)) desc instr
IsInstrOf places (Dynamic n name desc) instr = instr ≡ instrs.Dynamic (places.index (entries.Dynamic (unsigned_abs n) name desc))
IsInstrOf places (ClassOf op class) instr = instr ≡ instrs.Class op (places.index (entries.Class class))
IsInstrOf places (Array base) instr = instr ≡ instrs.Array base
IsInstrOf places (Multi desc dims) instr = instr ≡ instrs.Multi (places.index (entries.Class desc)) (unsigned_abs dims)

abbrev pub operation_in : Line → List Operation
operation_in (Does operation) = operation ∷ []
operation_in line = []

-- the instructions of a body
abbrev pub AreInstrsOf : Places → List Line → List Instr → Type 0
AreInstrsOf places body instrs = AllZip (IsInstrOf places) (flat_map operation_in body) instrs

-- ---- ranges, in the order of their lines

-- 0 means any class (JVMS 4.7.3, catch_type)
abbrev pub catch_index : Places → Option Name → ℕ
catch_index places None = 0
catch_index places (Some class) = places.index (entries.Class class)

abbrev pub ranges_in : Places → Line → List Protected
ranges_in places (Beside (Catch class from to handler)) =
    record { start = places.number from; end = places.number to; handler = places.number handler; catch_type = catch_index places class } ∷ []
ranges_in places line = []

-- ---- frames

-- JVMS 4.7.4: the word of each type
abbrev pub simple_type : List ℕ → VType
simple_type word =
    if bytes_eq word (codes "int") then types.Integer
    else (if bytes_eq word (codes "float") then types.Float
    else (if bytes_eq word (codes "double") then types.Double
    else (if bytes_eq word (codes "long") then types.Long
    else (if bytes_eq word (codes "null") then types.Null
    else (if bytes_eq word (codes "this") then types.UninitializedThis
    else types.Top)))))

abbrev pub type_of : Places → FrameType → VType
type_of places (Simple word) = simple_type word
type_of places (Object name) = types.Object (places.index (entries.Class name))
type_of places (New label) = types.Uninitialized (places.number label)

abbrev pub form_of : Places → Frame → Form
form_of places Same = forms.Same
form_of places (Stack1 type) = forms.Stack1 (type_of places type)
form_of places (Chop n) = forms.Chop (unsigned_abs n)
form_of places (Append list) = forms.Append (map (type_of places) list)
form_of places (Full locals stack) = forms.Full (map (type_of places) locals) (map (type_of places) stack)

-- the frames of lines that come after n instructions: each frame is that of the next instruction
unfoldable pub frames_in : Places → ℕ → List Line → List frames.Frame
frames_in places number [] = []
frames_in places number (Framed frame ∷ lines) = record { at = number; form = form_of places frame } ∷ frames_in places number lines
frames_in places number (Does operation ∷ lines) = frames_in places (number + 1) lines
frames_in places number (line ∷ lines) = frames_in places number lines

-- a StackMapTable, where there is a frame
abbrev pub stack_map_of : Places → List ℕ → List frames.Frame → List AttributeInfo
stack_map_of places starts [] = []
stack_map_of places starts (frame ∷ others) = record { name = places.index stack_map_name; body = stack_map_bytes starts (frame ∷ others) } ∷ []

-- ---- the attribute

pub record IsCodeOf (places : Places) (stack locals : ℤ) (body : List Line) (code : CodeInfo) : Type 0 where
  pub labelled : Labelled
  pub instructions : AreInstrsOf places body labelled.code
  pub ranges : labelled.ranges ≡ flat_map (ranges_in places) body
  pub laid : Laid
  pub laid_out : IsLaidOut labelled laid
  pub code_is : code ≡ record {
    max_stack = unsigned_abs stack;
    max_locals = unsigned_abs locals;
    code = laid.code;
    table = laid.table;
    attributes = stack_map_of places laid.starts (frames_in places 0 body);
  }
