-- The kinds in the frames of a code's stack map (JVMS 4.7.4 and 4.10.1.6, for kinds alone).
use Rattle.std.specs.Prelude.{ℕ, Bool, true, false, ◌-◌, ◌&&◌, List, [], ◌∷◌, ◌++◌, length, reverse, take, replicate, sum_by, Option, Some, None, slice_get, nat_eq, nat_le, if◌then◌else◌}
use Rattle.dj_names.specs.declared.descriptor.Kind.{Kind}
use Rattle.dj_names.specs.declared.descriptor.Kind.TheVariants as kinds
use Rattle.dj_straight.specs.trusted.Program.{Code}
use Rattle.dj_straight.specs.trusted.Instructions.{Instruction, makes_uninitialised}
use Rattle.dj_straight.specs.trusted.StackMaps.{VerificationType, Top, Integer, Float, Double, Long, Null, UninitializedThis, Object, Uninitialized, FrameForm, Same, Stack1, Chop, Append, Full, StackMapFrame}
use Rattle.dj_straight.specs.trusted.Effects.{slots_of}

-- the kinds of a method's parameters, `this` first where there is one, and of its result
pub record Signature : Type 0 where
  pub parameters : List Kind
  pub result : Option Kind

pub record Kinds : Type 0 where
  -- the kind of each local variable; one without a value has none, as the second slot of a long
  pub locals : List (Option Kind)
  -- the operands' kinds, the top first
  pub stack : List Kind

-- a long takes two local variables
abbrev pub kind_slots : List (Option Kind) → List (Option Kind)
kind_slots [] = []
kind_slots (Some kinds.Long ∷ rest) = Some kinds.Long ∷ None ∷ kind_slots rest
kind_slots (kind ∷ rest) = kind ∷ kind_slots rest

-- a long counts as two operands
abbrev pub depth : List Kind → ℕ
depth stack = sum_by slots_of stack

-- ---- types

-- what a verification type declares
pub data Entry : Type 0 where
  -- a value of the kind, or one that may be anything where there is none
  Of : Option Kind → Entry
  -- no entry: floats and doubles have no kind, nor has an uninitialised object whose instruction makes none
  NoEntry : Entry

abbrev pub made_if : Bool → Entry
made_if true = Of (Some kinds.Ref)
made_if false = NoEntry

abbrev pub made_by : Option Instruction → Entry
made_by None = NoEntry
made_by (Some i) = made_if (makes_uninitialised i)

abbrev pub entry_of : Code → VerificationType → Entry
entry_of code Top = Of None
entry_of code Integer = Of (Some kinds.Int)
entry_of code Float = NoEntry
entry_of code Double = NoEntry
entry_of code Long = Of (Some kinds.Long)
entry_of code Null = Of (Some kinds.Ref)
entry_of code UninitializedThis = Of (Some kinds.Ref)
entry_of code (Object class) = Of (Some kinds.Ref)
entry_of code (Uninitialized number) = made_by (slice_get code.instructions number)

abbrev pub with_entry : Entry → Option (List (Option Kind)) → Option (List (Option Kind))
with_entry (Of kind) (Some entries) = Some (kind ∷ entries)
with_entry _ _ = None

-- the entries of types, in order, where each type has one
abbrev pub entries_of : Code → List VerificationType → Option (List (Option Kind))
entries_of code [] = Some []
entries_of code (type ∷ types) = with_entry (entry_of code type) (entries_of code types)

abbrev pub with_kind : Option Kind → Option (List Kind) → Option (List Kind)
with_kind (Some kind) (Some stack) = Some (kind ∷ stack)
with_kind _ _ = None

-- the operands, where each entry has a kind
abbrev pub stack_of : List (Option Kind) → Option (List Kind)
stack_of [] = Some []
stack_of (entry ∷ entries) = with_kind entry (stack_of entries)

-- ---- frames

-- what a frame declares: local variables, in which a long is one entry, and operands, the bottom first
pub record Entries : Type 0 where
  pub locals : List (Option Kind)
  pub stack : List (Option Kind)

abbrev pub with_locals : List (Option Kind) → Option (List (Option Kind)) → Option Entries
with_locals before None = None
with_locals before (Some more) = Some (record { locals = before ++ more; stack = [] })

abbrev pub with_stack : List (Option Kind) → Option (List (Option Kind)) → Option Entries
with_stack locals None = None
with_stack locals (Some stack) = Some (record { locals = locals; stack = stack })

abbrev pub full_entries : Option (List (Option Kind)) → Option (List (Option Kind)) → Option Entries
full_entries None stack = None
full_entries (Some locals) stack = with_stack locals stack

-- what a frame of this form declares after a frame with these local variables
abbrev pub form_entries : Code → List (Option Kind) → FrameForm → Option Entries
form_entries code before Same = Some (record { locals = before; stack = [] })
form_entries code before (Stack1 type) = with_stack before (entries_of code (type ∷ []))
form_entries code before (Chop n) =
    if nat_le n (length before) then Some (record { locals = take (length before - n) before; stack = [] }) else None
form_entries code before (Append types) = with_locals before (entries_of code types)
form_entries code before (Full locals stack) = full_entries (entries_of code locals) (entries_of code stack)

-- the local variables, and then others without values, up to this many
abbrev pub padded : ℕ → List (Option Kind) → List (Option Kind)
padded max_locals slots = slots ++ replicate (max_locals - length slots) None

-- the kinds of a frame, where its local variables and operands fit in the code's
abbrev pub fitting : Code → List (Option Kind) → Option (List Kind) → Option Kinds
fitting code locals None = None
fitting code locals (Some stack) =
    if nat_le (length (kind_slots locals)) code.max_locals && nat_le (depth stack) code.max_stack
    then Some (record { locals = padded code.max_locals (kind_slots locals); stack = reverse stack }) else None

-- a frame's kinds, and the number of its instruction
pub record Placed : Type 0 where
  pub at : ℕ
  pub kinds : Kinds

-- the frames of a stack map, read from the first to the last
pub data Frames : Type 0 where
  -- every frame has kinds, and they fit
  Read : List Placed → Frames
  -- the frame at the instruction of this number has no kinds that fit, and all frames before it have such
  Faulty : ℕ → Frames
  -- the code's attribute is no stack map
  NoMap : Frames

abbrev pub and_then : Placed → Frames → Frames
and_then placed (Read rest) = Read (placed ∷ rest)
and_then placed other = other

-- the frame at this instruction, with these kinds, and the frames after it
abbrev pub with_fitting : ℕ → Option Kinds → Frames → Frames
with_fitting at None rest = Faulty at
with_fitting at (Some k) rest = and_then (record { at = at; kinds = k }) rest

-- the same, where the frame declares these entries; the frames after it start from its local variables
abbrev pub with_frame : Code → ℕ → Option Entries → (List (Option Kind) → Frames) → Frames
with_frame code at None rest = Faulty at
with_frame code at (Some e) rest = with_fitting at (fitting code e.locals (stack_of e.stack)) (rest e.locals)

-- the frames after one with these local variables
unfoldable pub frames_after : Code → List (Option Kind) → List StackMapFrame → Frames
frames_after code before [] = Read []
frames_after code before (f ∷ rest) = with_frame code f.at (form_entries code before f.form) (λ locals. frames_after code locals rest)

abbrev pub frames_in : Code → List (Option Kind) → Option (List StackMapFrame) → Frames
frames_in code before None = NoMap
frames_in code before (Some frames) = frames_after code before frames

-- the parameters as entries
abbrev pub parameter_entries : List Kind → List (Option Kind)
parameter_entries [] = []
parameter_entries (kind ∷ rest) = Some kind ∷ parameter_entries rest

-- the frames of the code's stack map; the first one starts from the parameters
abbrev pub frames_of : Signature → Code → Frames
frames_of signature code = frames_in code (parameter_entries signature.parameters) code.frames

-- the kinds of the frame at this instruction
abbrev pub placed_at : List Placed → ℕ → Option Kinds
placed_at [] number = None
placed_at (p ∷ placed) number = if nat_eq p.at number then Some p.kinds else placed_at placed number
