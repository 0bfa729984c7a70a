-- The shape of code: the kinds of the local variables and of the operands before each instruction
-- (JVMS 4.10.1, for kinds alone).
use Rattle.std.specs.Prelude.{◌≡◌, ℕ, zero, suc, ◌+◌, ◌<◌, ◌≤◌, ◌⊎◌, Bool, true, false, not, ◌&&◌, ◌||◌, List, [], ◌∷◌, length, reverse, Option, Some, None, IsSome, IsNone, slice_get, nat_eq, nat_lt, nat_le, if◌then◌else◌, IsTrue}
use Rattle.std.specs.List.{list_all}
use Rattle.std.specs.Cmp.Lexicographic.{pointwise}
use Rattle.dj_names.specs.declared.descriptor.Kind.{Kind}
use Rattle.dj_names.specs.declared.descriptor.Kind.TheVariants as kinds
use Rattle.dj_names.specs.declared.descriptor.Desc.{Desc}
use Rattle.dj_names.specs.trusted.Descriptors.{slots_of}
use Rattle.dj_names.specs.trusted.Values.{value_kind}
use Rattle.dj_names.specs.trusted.Types.{field_kind}
use Rattle.dj_model.specs.trusted.Instructions.{Instruction, Nop, Push, PushText, Load, Store, Increment, LoadElement, StoreElement, Move, Compute, Convert, Branch, Goto, Switch, Return, GetStatic, PutStatic, GetField, PutField, Invoke, New, NewArray, ArrayLength, Throw, CheckCast, InstanceOf, Monitor, Other, Mode, Static, Interface, ends, targets}
use Rattle.dj_model.specs.trusted.Numbers.{same_kind, is_wide, left_kind, right_kind, given_kind, taken_kind, converted_kind, tested_kinds}
use Rattle.dj_model.specs.trusted.Values.{local_at, last_slot, stored, in_slots, moved}
use Rattle.dj_model.specs.trusted.Arrays.{access_kind}
use Rattle.dj_model.specs.trusted.Initialisation.{padded}
use Rattle.dj_model.specs.trusted.Linking.{or_else}
use Rattle.dj_model.specs.trusted.Program.{Code, Range}
use Rattle.dj_model.specs.trusted.Kinds.{Signature, signature_of, Kinds, depth, Placed, Map, Read, Faulty, NoMap, map_of, placed_at}

-- ---- before the first instruction

-- the parameters fit in the code's local variables
abbrev pub ParametersFit : Signature → Code → Type 0
ParametersFit signature code = length (in_slots is_wide signature.parameters) ≤ code.max_locals

-- the kinds at the beginning: the parameters, then local variables without values; and no operands
abbrev pub first_kinds : Signature → Code → Kinds
first_kinds signature code = record { locals = padded code.max_locals (in_slots is_wide signature.parameters); stack = [] }

-- ---- the kinds after an instruction

abbrev pub is_kind : Kind → Option Kind → Bool
is_kind kind None = false
is_kind kind (Some other) = same_kind kind other

-- the operands below the wanted ones, the top first; none where those on top have other kinds
abbrev pub taken : List Kind → List Kind → Option (List Kind)
taken [] stack = Some stack
taken (kind ∷ wanted) [] = None
taken (kind ∷ wanted) (top ∷ stack) = if same_kind kind top then taken wanted stack else None

-- these operands are left, where they fit
abbrev pub leaving : Code → List (Option Kind) → Option (List Kind) → Option Kinds
leaving code locals None = None
leaving code locals (Some stack) = if nat_le (depth stack) code.max_stack then Some (record { locals = locals; stack = stack }) else None

abbrev pub with_result : Option Kind → Option (List Kind) → Option (List Kind)
with_result result None = None
with_result None (Some stack) = Some stack
with_result (Some kind) (Some stack) = Some (kind ∷ stack)

-- the wanted kinds are taken, and then the result is pushed, where there is one
abbrev pub gives : Code → Kinds → List Kind → Option Kind → Option Kinds
gives code k wanted result = leaving code k.locals (with_result result (taken wanted k.stack))

abbrev pub store_kind : Code → Kind → ℕ → Option Kinds → Option Kinds
store_kind code kind slot None = None
store_kind code kind slot (Some k) =
    if nat_lt (last_slot (is_wide kind) slot) code.max_locals then Some (record k { locals = stored is_wide k.locals slot kind }) else None

abbrev pub same_result : Option Kind → Option Kind → Bool
same_result None None = true
same_result None (Some kind) = false
same_result (Some kind) result = is_kind kind result

abbrev pub result_list : Option Kind → List Kind
result_list None = []
result_list (Some kind) = kind ∷ []

-- a field's kind is pushed, or it is taken and then what is below it
abbrev pub get_kind : Code → Kinds → List Kind → Option Kind → Option Kinds
get_kind code k wanted None = None
get_kind code k wanted (Some kind) = gives code k wanted (Some kind)

abbrev pub put_kind : Code → Kinds → List Kind → Option Kind → Option Kinds
put_kind code k wanted None = None
put_kind code k wanted (Some kind) = gives code k (kind ∷ wanted) None

-- the count of invokeinterface is one more than the slots of the parameters
abbrev pub counts : Mode → Desc → Bool
counts (Interface count) desc = nat_eq count (slots_of desc + 1)
counts mode desc = true

abbrev pub is_static_mode : Mode → Bool
is_static_mode Static = true
is_static_mode mode = false

abbrev pub call_kinds : Code → Kinds → Option Signature → Option Kinds
call_kinds code k None = None
call_kinds code k (Some signature) = gives code k (reverse signature.parameters) signature.result

-- the kinds after an instruction; none where it doesn't find the kinds that it takes, or what it pushes doesn't fit
unfoldable pub after : Signature → Code → Instruction → Kinds → Option Kinds
after signature code Nop k = gives code k [] None
after signature code (Push v) k = gives code k [] (Some (value_kind v))
after signature code (PushText units) k = gives code k [] (Some kinds.Ref)
after signature code (Load kind slot) k = if is_kind kind (local_at k.locals slot) then gives code k [] (Some kind) else None
after signature code (Store kind slot) k = store_kind code kind slot (gives code k (kind ∷ []) None)
after signature code (Increment slot by) k = if is_kind kinds.Int (local_at k.locals slot) then gives code k [] None else None
after signature code (LoadElement access) k = gives code k (kinds.Int ∷ kinds.Ref ∷ []) (Some (access_kind access))
after signature code (StoreElement access) k = gives code k (access_kind access ∷ kinds.Int ∷ kinds.Ref ∷ []) None
after signature code (Move operation) k = leaving code k.locals (moved is_wide operation k.stack)
after signature code (Compute operation) k = gives code k (right_kind operation ∷ left_kind operation ∷ []) (Some (given_kind operation))
after signature code (Convert operation) k = gives code k (taken_kind operation ∷ []) (Some (converted_kind operation))
after signature code (Branch test target) k = gives code k (tested_kinds test) None
after signature code (Goto target) k = gives code k [] None
after signature code (Switch pairs default) k = gives code k (kinds.Int ∷ []) None
after signature code (Return kind) k = if same_result kind signature.result then gives code k (result_list kind) None else None
after signature code (GetStatic m) k = get_kind code k [] (field_kind m.desc)
after signature code (PutStatic m) k = put_kind code k [] (field_kind m.desc)
after signature code (GetField m) k = get_kind code k (kinds.Ref ∷ []) (field_kind m.desc)
after signature code (PutField m) k = put_kind code k (kinds.Ref ∷ []) (field_kind m.desc)
after signature code (Invoke mode m) k = if counts mode m.desc then call_kinds code k (signature_of (is_static_mode mode) m.desc) else None
after signature code (New class) k = gives code k [] (Some kinds.Ref)
after signature code (NewArray class element) k = gives code k (kinds.Int ∷ []) (Some kinds.Ref)
after signature code ArrayLength k = gives code k (kinds.Ref ∷ []) (Some kinds.Int)
after signature code Throw k = gives code k (kinds.Ref ∷ []) None
after signature code (CheckCast class) k = gives code k (kinds.Ref ∷ []) (Some kinds.Ref)
after signature code (InstanceOf class) k = gives code k (kinds.Ref ∷ []) (Some kinds.Int)
after signature code Monitor k = gives code k (kinds.Ref ∷ []) None
after signature code (Other op named) k = None

-- ---- shape

-- each local variable for which the frame has a kind is of that kind
abbrev pub locals_flow : List (Option Kind) → List (Option Kind) → Bool
locals_flow locals [] = true
locals_flow [] (None ∷ reported) = locals_flow [] reported
locals_flow [] (Some kind ∷ reported) = false
locals_flow (local ∷ locals) (None ∷ reported) = locals_flow locals reported
locals_flow (local ∷ locals) (Some kind ∷ reported) = is_kind kind local && locals_flow locals reported

-- with these kinds left, the run may go on at a frame with those
abbrev pub flows_into : Kinds → Kinds → Bool
flows_into left reported = locals_flow left.locals reported.locals && pointwise same_kind left.stack reported.stack

-- the same; where there is no frame, the run may go on too
abbrev pub flows_to : Kinds → Option Kinds → Bool
flows_to left None = true
flows_to left (Some reported) = flows_into left reported

-- the same; where there is no frame, the run may not go on
abbrev pub flows_to_frame : Kinds → Option Kinds → Bool
flows_to_frame left None = false
flows_to_frame left (Some reported) = flows_into left reported

abbrev pub locals_flow_to : Kinds → Option Kinds → Bool
locals_flow_to before None = true
locals_flow_to before (Some reported) = locals_flow before.locals reported.locals

-- the frame of a handler has one operand, the exception
abbrev pub is_handler_frame : Option Kinds → Bool
is_handler_frame None = false
is_handler_frame (Some reported) = pointwise same_kind reported.stack (kinds.Ref ∷ [])

-- the kinds that an instruction leaves for the next one; none where the run never goes on there
abbrev pub goes_on_with : Signature → Code → Option Kinds → Option Instruction → Option Kinds
goes_on_with signature code (Some before) (Some i) = if ends i then None else after signature code i before
goes_on_with signature code before i = None

-- the kinds before an instruction: those of its frame. Where it has no frame they are, for the first instruction, those of the parameters, and for
-- each other instruction those that the instruction before it leaves
unfoldable pub state_before : Signature → Code → List Placed → ℕ → Option Kinds
state_before signature code placed zero = or_else (placed_at placed zero) (Some (first_kinds signature code))
state_before signature code placed (suc number) =
    or_else (placed_at placed (suc number)) (goes_on_with signature code (state_before signature code placed number) (slice_get code.instructions number))

abbrev pub covers : Range → ℕ → Bool
covers range number = nat_le range.start number && nat_lt number range.end

-- the instruction of this number has kinds before it, and finds there what it takes; wherever the run may go on after it, it goes on at a frame that
-- fits what is left, or at the next instruction; and it isn't the last instruction unless the run never goes on after it
pub record HoldsAt (signature : Signature) (code : Code) (placed : List Placed) (number : ℕ) : Type 0 where
  pub before : Kinds
  pub left : Kinds
  pub instruction : Instruction
  pub state : state_before signature code placed number ≡ Some before
  pub at : slice_get code.instructions number ≡ Some instruction
  pub found : after signature code instruction before ≡ Some left
  pub last : IsTrue (ends instruction || nat_lt (suc number) (length code.instructions))
  -- a frame at the first instruction fits the parameters
  pub begins : IsTrue (not (nat_eq number 0) || flows_to (first_kinds signature code) (placed_at placed 0))
  pub goes_on : IsTrue (ends instruction || flows_to left (placed_at placed (suc number)))
  pub jumps : IsTrue (list_all (λ target. flows_to_frame left (placed_at placed target)) (targets instruction))
  -- where this is the first instruction of a handler, its frame is a handler's; and the local variables fit the frame of each handler in whose range this is
  pub handles : IsTrue (list_all (λ range. not (nat_eq number range.handler) || is_handler_frame (placed_at placed number)) code.ranges)
  pub handled : IsTrue (list_all (λ range. not (covers range number) || locals_flow_to before (placed_at placed range.handler)) code.ranges)

-- the first instruction that doesn't hold
pub record IsFirstFault (signature : Signature) (code : Code) (placed : List Placed) (number : ℕ) : Type 0 where
  pub within : number < length code.instructions
  pub before : (other : ℕ) → other < number → HoldsAt signature code placed other
  pub fault : HoldsAt signature code placed number → ⊥

abbrev pub IsFrameOrFault : Signature → Code → Map → ℕ → Type 0
IsFrameOrFault signature code (Read placed) number = IsFirstFault signature code placed number
IsFrameOrFault signature code (Faulty at) number = number ≡ at
IsFrameOrFault signature code NoMap number = ⊥

-- the number of the fault: 0 where the parameters don't fit; else the instruction of the first frame without kinds that fit; else the first instruction
-- that doesn't hold
abbrev pub IsNumberedFault : Signature → Code → ℕ → Type 0
IsNumberedFault signature code number =
    ((ParametersFit signature code → ⊥) × (number ≡ 0))
    ⊎ (ParametersFit signature code × IsFrameOrFault signature code (map_of signature code) number)

-- how code without shape is reported: without a number where its attribute is no stack map, and else with the number of its fault
abbrev pub IsShapeFault : Signature → Code → Option ℕ → Type 0
IsShapeFault signature code None = IsNone code.frames
IsShapeFault signature code (Some number) = IsSome code.frames × IsNumberedFault signature code number
