-- The shape of code: the kinds of the local variables and of the operands before each instruction
-- (JVMS 4.10.1, for kinds alone).
use Rattle.std.specs.Prelude.{◌≡◌, ℕ, zero, suc, ◌+◌, ◌-◌, ◌<◌, ◌≤◌, ◌⊎◌, ⊤, Bool, true, false, List, [], ◌∷◌, length, set, Option, Some, None, Contains, IsSome, IsNone, slice_get, nat_lt, nat_le, if◌then◌else◌, IsTrue, IsFalse}
use Rattle.dj_names.specs.declared.descriptor.Kind.{Kind}
use Rattle.dj_names.specs.declared.descriptor.Kind.TheVariants as kinds
use Rattle.dj_names.specs.trusted.Values.{value_kind}
use Rattle.dj_straight.specs.trusted.Program.{Code, Range}
use Rattle.dj_straight.specs.trusted.Instructions.{Instruction, Nop, Push, Load, Store, LoadElement, StoreElement, Move, Compute, Return, ArrayLength, NewArray, Other, StackOperation, Pop, Dup, ends, targets}
use Rattle.dj_straight.specs.trusted.Effects.{same_kind, slots_of, access_kind}
use Rattle.dj_straight.specs.trusted.FrameKinds.{Signature, Kinds, kind_slots, depth, padded, parameter_entries, Placed, Frames, Read, Faulty, NoMap, frames_of, placed_at}

-- ---- before the first instruction

-- the parameters fit in the local variables
abbrev pub ParametersFit : Signature → Code → Type 0
ParametersFit signature code = length (kind_slots (parameter_entries signature.parameters)) ≤ code.max_locals

-- the kinds at the beginning: the parameters, then local variables without values; and no operands
abbrev pub first_kinds : Signature → Code → Kinds
first_kinds signature code =
    record { locals = padded code.max_locals (kind_slots (parameter_entries signature.parameters)); stack = [] }

-- ---- the kinds after an instruction

abbrev pub is_kind : Kind → Option Kind → Bool
is_kind kind None = false
is_kind kind (Some other) = same_kind kind other

abbrev pub kind_at : List (Option Kind) → ℕ → Option Kind
kind_at locals slot = kind_in (slice_get locals slot) where
  kind_in : Option (Option Kind) → Option Kind
  kind_in None = None
  kind_in (Some kind) = kind

-- where this slot is the second of a long, the long loses its kind
abbrev pub kinds_without_long_before : List (Option Kind) → ℕ → List (Option Kind)
kinds_without_long_before locals zero = locals
kinds_without_long_before locals (suc before) = if is_kind kinds.Long (kind_at locals before) then set locals before None else locals

abbrev pub set_kind : List (Option Kind) → ℕ → Kind → List (Option Kind)
set_kind locals slot kinds.Long = set (set locals slot (Some kinds.Long)) (slot + 1) None
set_kind locals slot kind = set locals slot (Some kind)

-- one more operand, where it fits
abbrev pub pushed : Code → List (Option Kind) → List Kind → Kind → Option Kinds
pushed code locals stack kind =
    if nat_le (depth (kind ∷ stack)) code.max_stack then Some (record { locals = locals; stack = kind ∷ stack }) else None

-- the operands below the wanted ones, the top first; none where those on top have other kinds
abbrev pub taken : List Kind → List Kind → Option (List Kind)
taken [] stack = Some stack
taken (kind ∷ wanted) [] = None
taken (kind ∷ wanted) (top ∷ stack) = if same_kind kind top then taken wanted stack else None

-- the wanted kinds are taken
abbrev pub takes : Kinds → List Kind → Option Kinds
takes k wanted = below (taken wanted k.stack) where
  below : Option (List Kind) → Option Kinds
  below None = None
  below (Some stack) = Some (record k { stack = stack })

-- the wanted kinds are taken, and then this one is pushed
abbrev pub gives : Code → Kinds → List Kind → Kind → Option Kinds
gives code k wanted kind = above (taken wanted k.stack) where
  above : Option (List Kind) → Option Kinds
  above None = None
  above (Some stack) = pushed code k.locals stack kind

abbrev pub store_kind : Code → List (Option Kind) → ℕ → Kind → Option Kinds → Option Kinds
store_kind code locals slot kind None = None
store_kind code locals slot kind (Some k) =
    if nat_lt (slot + slots_of kind - 1) code.max_locals
    then Some (record k { locals = set_kind (kinds_without_long_before locals slot) slot kind }) else None

-- pop and dup take no long
abbrev pub moved : Code → Kinds → StackOperation → List Kind → Option Kinds
moved code k Pop (kind ∷ stack) = if same_kind kinds.Long kind then None else Some (record k { stack = stack })
moved code k Dup (kind ∷ stack) = if same_kind kinds.Long kind then None else pushed code k.locals (kind ∷ stack) kind
moved code k operation [] = None

abbrev pub same_result : Option Kind → Option Kind → Bool
same_result None None = true
same_result None (Some kind) = false
same_result (Some kind) result = is_kind kind result

abbrev pub result_list : Option Kind → List Kind
result_list None = []
result_list (Some kind) = kind ∷ []

-- the kinds after an instruction; none where it doesn't find the kinds that it takes, or what it pushes doesn't fit
unfoldable pub after : Signature → Code → Instruction → Kinds → Option Kinds
after signature code Nop k = Some k
after signature code (Push v) k = pushed code k.locals k.stack (value_kind v)
after signature code (Load kind slot) k = if is_kind kind (kind_at k.locals slot) then pushed code k.locals k.stack kind else None
after signature code (Store kind slot) k = store_kind code k.locals slot kind (takes k (kind ∷ []))
after signature code (LoadElement access) k = gives code k (kinds.Int ∷ (kinds.Ref ∷ [])) (access_kind access)
after signature code (StoreElement access) k = takes k (access_kind access ∷ (kinds.Int ∷ (kinds.Ref ∷ [])))
after signature code (Move operation) k = moved code k operation k.stack
after signature code (Compute operation) k = gives code k (kinds.Int ∷ (kinds.Int ∷ [])) kinds.Int
after signature code (Return kind) k = if same_result kind signature.result then takes k (result_list kind) else None
after signature code ArrayLength k = gives code k (kinds.Ref ∷ []) kinds.Int
after signature code (NewArray class element) k = gives code k (kinds.Int ∷ []) kinds.Ref
after signature code (Other op) k = None

-- ---- shape

-- each local variable for which the frame has a kind is of that kind
abbrev pub LocalsFlow : List (Option Kind) → List (Option Kind) → Type 0
LocalsFlow locals [] = ⊤
LocalsFlow locals (None ∷ reported) = LocalsFlow (rest locals) reported where
  rest : List (Option Kind) → List (Option Kind)
  rest [] = []
  rest (kind ∷ kinds) = kinds
LocalsFlow [] (Some kind ∷ reported) = ⊥
LocalsFlow (local ∷ locals) (Some kind ∷ reported) = (local ≡ Some kind) × LocalsFlow locals reported

-- with these kinds left, the run may go on at a frame with those
abbrev pub FlowsInto : Kinds → Kinds → Type 0
FlowsInto left reported = LocalsFlow left.locals reported.locals × (left.stack ≡ reported.stack)

-- the same; where there is no frame, the run may go on too
abbrev pub FlowsTo : Kinds → Option Kinds → Type 0
FlowsTo left None = ⊤
FlowsTo left (Some reported) = FlowsInto left reported

-- the same; where there is no frame, the run may not go on
abbrev pub FlowsToFrame : Kinds → Option Kinds → Type 0
FlowsToFrame left None = ⊥
FlowsToFrame left (Some reported) = FlowsInto left reported

-- the run may go on at each of these instructions, all of which have a frame
abbrev pub FlowsToEach : Kinds → List Placed → List ℕ → Type 0
FlowsToEach left placed [] = ⊤
FlowsToEach left placed (target ∷ others) = FlowsToFrame left (placed_at placed target) × FlowsToEach left placed others

abbrev pub IsFrameOr : Option Kinds → Kinds → Type 0 → Type 0
IsFrameOr None k otherwise = otherwise
IsFrameOr (Some reported) k otherwise = k ≡ reported

-- the kinds before an instruction: those of its frame. Where it has no frame they are, for the first instruction, those of the parameters, and for
-- each other instruction those that the instruction before it leaves, unless the run never goes on after that
abbrev pub StateBefore : Signature → Code → List Placed → ℕ → Kinds → Type 0
StateBefore signature code placed zero k = IsFrameOr (placed_at placed zero) k (k ≡ first_kinds signature code)
StateBefore signature code placed (suc number) k =
    IsFrameOr (placed_at placed (suc number)) k ((before : Kinds) × (i : Instruction) × StateBefore signature code placed number before
    × (slice_get code.instructions number ≡ Some i) × IsFalse (ends i) × (after signature code i before ≡ Some k))

-- the frame of a handler has one operand, the exception
abbrev pub IsHandlerFrame : Option Kinds → Type 0
IsHandlerFrame None = ⊥
IsHandlerFrame (Some reported) = reported.stack ≡ kinds.Ref ∷ []

abbrev pub LocalsFlowTo : Kinds → Option Kinds → Type 0
LocalsFlowTo before None = ⊤
LocalsFlowTo before (Some reported) = LocalsFlow before.locals reported.locals

-- the instruction of this number has kinds before it, and finds there what it takes; wherever the run may go on after it, it goes on at a frame that
-- fits what is left, or at the next instruction; and it isn't the last instruction unless the run never goes on after it
pub record Holds (signature : Signature) (code : Code) (placed : List Placed) (number : ℕ) : Type 0 where
  pub before : Kinds
  pub left : Kinds
  pub instruction : Instruction
  pub state : StateBefore signature code placed number before
  pub at : slice_get code.instructions number ≡ Some instruction
  pub found : after signature code instruction before ≡ Some left
  pub last : suc number ≡ length code.instructions → IsTrue (ends instruction)
  -- a frame at the first instruction fits the parameters
  pub begins : number ≡ 0 → FlowsTo (first_kinds signature code) (placed_at placed 0)
  pub goes_on : IsFalse (ends instruction) → FlowsTo left (placed_at placed (suc number))
  pub jumps : FlowsToEach left placed (targets instruction)
  -- where this is the first instruction of a handler, its frame is a handler's; and the local variables fit the frame of each handler in whose range this is
  pub handles : (range : Range) → Contains code.ranges range → number ≡ range.handler → IsHandlerFrame (placed_at placed number)
  pub handled : (range : Range) → Contains code.ranges range → range.start ≤ number → number < range.end
      → LocalsFlowTo before (placed_at placed range.handler)

-- the first instruction that doesn't hold
pub record IsFirstFault (signature : Signature) (code : Code) (placed : List Placed) (number : ℕ) : Type 0 where
  pub within : number < length code.instructions
  pub before : (other : ℕ) → other < number → Holds signature code placed other
  pub fault : Holds signature code placed number → ⊥

abbrev pub IsFrameOrFault : Signature → Code → Frames → ℕ → Type 0
IsFrameOrFault signature code (Read placed) number = IsFirstFault signature code placed number
IsFrameOrFault signature code (Faulty at) number = number ≡ at
IsFrameOrFault signature code NoMap number = ⊥

-- the number of the fault: 0 where the parameters don't fit; else the instruction of the first frame without kinds that fit; else the first instruction
-- that doesn't hold
abbrev pub IsNumberedFault : Signature → Code → ℕ → Type 0
IsNumberedFault signature code number =
    ((ParametersFit signature code → ⊥) × (number ≡ 0))
    ⊎ (ParametersFit signature code × IsFrameOrFault signature code (frames_of signature code) number)

-- how code without shape is reported: without a number where its attribute is no stack map, and else with the number of its fault
abbrev pub IsShapeFault : Signature → Code → Option ℕ → Type 0
IsShapeFault signature code None = IsNone code.frames
IsShapeFault signature code (Some number) = IsSome code.frames × IsNumberedFault signature code number
