-- Kinds of parameters, of local variables and operands, and in the frames of stack maps (JVMS 4.7.4 and 4.10.1.6, for kinds alone).
use Rattle.std.specs.Prelude.{ℕ, Bool, true, false, ◌-◌, ◌+◌, ◌&&◌, List, [], ◌∷◌, ◌++◌, length, map, reverse, take, Option, Some, None, slice_get, nat_eq, nat_le, if◌then◌else◌}
use Rattle.dj_names.specs.declared.descriptor.Kind.{Kind}
use Rattle.dj_names.specs.declared.descriptor.Kind.TheVariants as kinds
use Rattle.dj_names.specs.declared.descriptor.Desc.{Desc}
use Rattle.dj_names.specs.declared.descriptor.Desc.TheVariants as descs
use Rattle.dj_names.specs.trusted.Descriptors.{type_kind}
use Rattle.dj_ops.specs.declared.frames.VType.{VType}
use Rattle.dj_ops.specs.declared.frames.VType.TheVariants as types
use Rattle.dj_ops.specs.declared.frames.Form.{Form}
use Rattle.dj_ops.specs.declared.frames.Form.TheVariants as forms
use Rattle.dj_ops.specs.declared.frames.Frame.{Frame}
use Rattle.dj_model.specs.trusted.Instructions.{Instruction, makes_uninitialised}
use Rattle.dj_model.specs.trusted.Program.{Code}
use Rattle.dj_model.specs.trusted.Numbers.{is_wide}
use Rattle.dj_model.specs.trusted.Members.{kinds_of, with_kind}
use Rattle.dj_model.specs.trusted.Initialisation.{padded}

-- ---- descriptors

-- the kinds that a call takes, the receiver first where there is one, and the kind that it returns
pub record Signature : Type 0 where
  pub parameters : List Kind
  pub result : Option Kind

abbrev pub signature_with : Option Kind → Option (List Kind) → Option Signature
signature_with result None = None
signature_with result (Some parameters) = Some (record { parameters = parameters; result = result })

abbrev pub signature_result : Option Kind → Option (List Kind) → Option Signature
signature_result None parameters = None
signature_result (Some kind) parameters = signature_with (Some kind) parameters

-- the signature of a call without its receiver; none where a type is a float or a double
abbrev pub call_signature : Desc → Option Signature
call_signature (descs.Field ty) = None
call_signature (descs.Method params None) = signature_with None (kinds_of params)
call_signature (descs.Method params (Some ret)) = signature_result (type_kind ret) (kinds_of params)

abbrev pub with_receiver : Bool → Option Signature → Option Signature
with_receiver static None = None
with_receiver true (Some signature) = Some signature
with_receiver false (Some signature) = Some (record signature { parameters = kinds.Ref ∷ signature.parameters })

-- the signature of a static method, or of one that isn't static
abbrev pub signature_of : Bool → Desc → Option Signature
signature_of static desc = with_receiver static (call_signature desc)

-- ---- local variables and operands

pub record Kinds : Type 0 where
  -- the kind of each local variable; one without a value has none, as the second slot of a long
  pub locals : List (Option Kind)
  -- the operands' kinds, the top first
  pub stack : List Kind

-- a long counts as two operands
abbrev pub kind_slots : Kind → ℕ
kind_slots kind = if is_wide kind then 2 else 1

abbrev pub depth : List Kind → ℕ
depth [] = 0
depth (kind ∷ stack) = kind_slots kind + depth stack

-- the entries of a frame in their slots; an entry without a kind takes one slot
abbrev pub entry_slots : List (Option Kind) → List (Option Kind)
entry_slots [] = []
entry_slots (None ∷ rest) = None ∷ entry_slots rest
entry_slots (Some kind ∷ rest) = if is_wide kind then Some kind ∷ None ∷ entry_slots rest else Some kind ∷ entry_slots rest

-- ---- verification types

pub data Entry : Type 0 where
  -- a value of the kind, or one that may be anything where there is none
  Of : Option Kind → Entry
  -- no entry: floats and doubles have no kind, nor has an uninitialised object whose instruction makes none
  NoEntry : Entry

abbrev pub made_by : Option Instruction → Entry
made_by None = NoEntry
made_by (Some i) = if makes_uninitialised i then Of (Some kinds.Ref) else NoEntry

abbrev pub entry_of : Code → VType → Entry
entry_of code types.Top = Of None
entry_of code types.Integer = Of (Some kinds.Int)
entry_of code types.Float = NoEntry
entry_of code types.Double = NoEntry
entry_of code types.Long = Of (Some kinds.Long)
entry_of code types.Null = Of (Some kinds.Ref)
entry_of code types.UninitializedThis = Of (Some kinds.Ref)
entry_of code (types.Object index) = Of (Some kinds.Ref)
entry_of code (types.Uninitialized number) = made_by (slice_get code.instructions number)

abbrev pub with_entry : Entry → Option (List (Option Kind)) → Option (List (Option Kind))
with_entry (Of kind) (Some entries) = Some (kind ∷ entries)
with_entry _ _ = None

-- the entries of types, in order, where each type has one
abbrev pub entries_of : Code → List VType → Option (List (Option Kind))
entries_of code [] = Some []
entries_of code (type ∷ others) = with_entry (entry_of code type) (entries_of code others)

-- the operands, where each entry has a kind
abbrev pub stack_of : List (Option Kind) → Option (List Kind)
stack_of [] = Some []
stack_of (entry ∷ entries) = with_kind entry (stack_of entries)

-- ---- frames

-- what a frame declares: local variables, in which a long is one entry, and operands, the bottom first
pub record Entries : Type 0 where
  pub locals : List (Option Kind)
  pub stack : List (Option Kind)

abbrev pub with_locals : List (Option Kind) → Option (List (Option Kind)) → Option Entries
with_locals before None = None
with_locals before (Some more) = Some (record { locals = before ++ more; stack = [] })

abbrev pub with_stack : List (Option Kind) → Option (List (Option Kind)) → Option Entries
with_stack locals None = None
with_stack locals (Some stack) = Some (record { locals = locals; stack = stack })

abbrev pub full_entries : Option (List (Option Kind)) → Option (List (Option Kind)) → Option Entries
full_entries None stack = None
full_entries (Some locals) stack = with_stack locals stack

-- what a frame of this form declares after a frame with these local variables
abbrev pub form_entries : Code → List (Option Kind) → Form → Option Entries
form_entries code before forms.Same = Some (record { locals = before; stack = [] })
form_entries code before (forms.Stack1 type) = with_stack before (entries_of code (type ∷ []))
form_entries code before (forms.Chop n) =
    if nat_le n (length before) then Some (record { locals = take (length before - n) before; stack = [] }) else None
form_entries code before (forms.Append more) = with_locals before (entries_of code more)
form_entries code before (forms.Full locals stack) = full_entries (entries_of code locals) (entries_of code stack)

-- the kinds of a frame, where its local variables and operands fit in the code's
abbrev pub fitting : Code → List (Option Kind) → Option (List Kind) → Option Kinds
fitting code locals None = None
fitting code locals (Some stack) =
    if nat_le (length (entry_slots locals)) code.max_locals && nat_le (depth stack) code.max_stack
    then Some (record { locals = padded code.max_locals (entry_slots locals); stack = reverse stack }) else None

-- a frame's kinds, and the number of its instruction
pub record Placed : Type 0 where
  pub at : ℕ
  pub kinds : Kinds

-- the frames of a stack map, read from the first to the last
pub data Map : Type 0 where
  -- every frame has kinds, and they fit
  Read : List Placed → Map
  -- the frame at the instruction of this number has no kinds that fit, and all frames before it have such
  Faulty : ℕ → Map
  -- the code's attribute is no stack map
  NoMap : Map

abbrev pub and_then : Placed → Map → Map
and_then placed (Read rest) = Read (placed ∷ rest)
and_then placed other = other

-- the frame at this instruction, with these kinds, and the frames after it
abbrev pub with_fitting : ℕ → Option Kinds → Map → Map
with_fitting at None rest = Faulty at
with_fitting at (Some k) rest = and_then (record { at = at; kinds = k }) rest

-- the same, where the frame declares these entries; the frames after it start from its local variables
abbrev pub with_frame : Code → ℕ → Option Entries → (List (Option Kind) → Map) → Map
with_frame code at None rest = Faulty at
with_frame code at (Some e) rest = with_fitting at (fitting code e.locals (stack_of e.stack)) (rest e.locals)

-- the frames after one with these local variables
unfoldable pub frames_after : Code → List (Option Kind) → List Frame → Map
frames_after code before [] = Read []
frames_after code before (f ∷ rest) = with_frame code f.at (form_entries code before f.form) (λ locals. frames_after code locals rest)

abbrev pub frames_in : Code → List (Option Kind) → Option (List Frame) → Map
frames_in code before None = NoMap
frames_in code before (Some frames) = frames_after code before frames

-- the parameters as entries
abbrev pub parameter_entries : Signature → List (Option Kind)
parameter_entries signature = map (λ kind. Some kind) signature.parameters

-- the frames of the code's stack map; the first one starts from the parameters
abbrev pub map_of : Signature → Code → Map
map_of signature code = frames_in code (parameter_entries signature) code.frames

-- the kinds of the frame at this instruction
abbrev pub placed_at : List Placed → ℕ → Option Kinds
placed_at [] number = None
placed_at (p ∷ placed) number = if nat_eq p.at number then Some p.kinds else placed_at placed number
