-- Used by the code alone: the pass over the instructions of code, from the first to the last.
use Rattle.std.specs.Prelude.{◌≡◌, ℕ, zero, suc, ◌<◌, ◌≤◌, ⊤, Bool, true, false, List, [], ◌∷◌, map, get_or, Option, Some, None, MatchOption, min, Contains, Decides, length, not, ◌⊎◌, slice_get, if◌then◌else◌}
use Rattle.dj_names.specs.declared.descriptor.Kind.{Kind}
use Rattle.dj_names.specs.declared.descriptor.Kind.TheVariants as kinds
use Rattle.dj_labels.specs.declared.labelled.Protected.{Protected}
use Rattle.dj_pool.specs.trusted.Pool.{Constant}
use Rattle.dj_program.specs.trusted.Naming.{instruction_in}
use Rattle.dj_program.specs.trusted.Codes.{range_in}
use Rattle.dj_model.specs.trusted.Program.{Code}
use Rattle.dj_model.specs.trusted.Instructions.{Instruction, Other, ends, targets}
use Rattle.dj_model.specs.trusted.Kinds.{Kinds, Signature, Placed}
use Rattle.dj_model.specs.trusted.Shape.{first_kinds, goes_on_with, state_before, HoldsAt, IsFirstFault}
use Rattle.dj_shape_rule.specs.declared.pass.Method.{Method}
use Rattle.dj_shape_rule.specs.declared.pass.Pass.{Pass}
use Rattle.dj_shape_rule.specs.Pools.{ArePoolKinds}
use Rattle.dj_shape_rule.specs.Standing.{HasRoomOf, standing_in}
use Rattle.dj_shape_rule.specs.Reported.{Reported, ReportedFrames, reported_at, AreReported}
use Rattle.dj_shape_rule.specs.Flows.{Flows, FlowsTo, FlowsToFrame}
use Rattle.dj_shape_rule.specs.Handlers.{Handled}

-- ---- what an instruction's form says, whatever its index names

abbrev pub IsRun : Instruction → Type 0
IsRun (Other op named) = ⊥
IsRun i = ⊤

-- each target has a frame, and this fits it
abbrev pub JumpsFlow : Kinds → ReportedFrames → List ℕ → Type 0
JumpsFlow left frames targets = (target : ℕ) → Contains targets target → FlowsToFrame left (reported_at frames target)

-- ---- handlers

-- the frame of a handler has one operand, a reference
pub record HasHandlerFrame (frames : ReportedFrames) (number : ℕ) : Type 0 where
  pub reported : Reported
  pub at : reported_at frames number ≡ Some reported
  pub one : reported.stack ≡ kinds.Ref ∷ []

abbrev pub IsUnhandled : ReportedFrames → List Protected → ℕ → Type 0
IsUnhandled frames rows number = (k : ℕ) × (row : Protected) × (slice_get rows k ≡ Some row) × (row.handler ≡ number) × (HasHandlerFrame frames number → ⊥)

-- the least first instruction of a handler that has no handler's frame, if there is one
abbrev pub IsFirstUnhandled : ReportedFrames → List Protected → Option ℕ → Type 0
IsFirstUnhandled frames rows number = MatchOption number
    ((k : ℕ) (row : Protected) → slice_get rows k ≡ Some row → HasHandlerFrame frames row.handler)
    (λ least. IsUnhandled frames rows least × ((k : ℕ) (row : Protected) → slice_get rows k ≡ Some row → row.handler < least → HasHandlerFrame frames row.handler))

-- the lesser of two, where there is another
abbrev pub least_of : Option ℕ → ℕ → ℕ
least_of None number = number
least_of (Some least) number = min least number

-- ---- the pass

-- the code, as the pool gives the meaning of its indexes
pub record Case : Type 0 where
  pub pool : List Constant
  pub signature : Signature
  pub code : Code
  pub placed : List Placed

pub record IsCase (method : Method) (c : Case) : Type 0 where
  pub kinds : ArePoolKinds c.pool method.kinds.now
  pub gives : method.returned ≡ c.signature.result
  pub instructions : c.code.instructions ≡ map (instruction_in c.pool) method.code.now
  pub ranges : c.code.ranges ≡ map (range_in c.pool) method.rows.now
  pub frames : AreReported c.code.max_stack c.code.max_locals c.placed method.frames

-- the kinds that are left for an instruction without a frame
abbrev pub arriving : Case → ℕ → Option Kinds
arriving c zero = Some (first_kinds c.signature c.code)
arriving c (suc number) = goes_on_with c.signature c.code (state_before c.signature c.code c.placed number) (slice_get c.code.instructions number)

abbrev pub kept : Bool → Kinds → Option Kinds
kept going k = if going then Some k else None

-- before an instruction so far these kinds stood, and it holds where the local variables have what the handlers of its ranges ask
pub record HeldBut (method : Method) (c : Case) (states : List (List (Option Kind))) (number : ℕ) : Type 0 where
  pub before : Kinds
  pub state : state_before c.signature c.code c.placed number ≡ Some before
  pub kept : get_or states number [] ≡ before.locals
  pub holds : Handled method.rows.now method.frames number before.locals → HoldsAt c.signature c.code c.placed number

-- so it is with all instructions before this one
pub record AllHeldBut (method : Method) (c : Case) (number : ℕ) (states : List (List (Option Kind))) : Type 0 where
  pub many : number ≤ length states
  pub each : (other : ℕ) → other < number → HeldBut method c states other

-- what is known of the pass, where it goes through the code of a case
pub record Before (method : Method) (c : Case) (number : ℕ) (pass : Pass) : Type 0 where
  pub room : HasRoomOf pass.state c.code
  pub arrives : arriving c number ≡ kept pass.going pass.state.kinds
  pub unhandled : IsFirstUnhandled method.frames method.rows.now method.unhandled
  pub later : (least : ℕ) → method.unhandled ≡ Some least → number ≤ least
  pub many : length pass.state.states ≡ number
  pub held : (other : ℕ) → other < number → HeldBut method c pass.state.states other

-- ---- the steps of the pass

-- whether there are kinds before the instruction, and which
abbrev pub MeetsFrame : Bool → Option Reported → ℕ → Pass → Pass → Type 0
MeetsFrame true None number old new = (old.going ≡ true) × (new.state.kinds ≡ old.state.kinds)
MeetsFrame true (Some reported) number old new =
    (standing_in old.state reported.locals reported.stack ≡ Some new.state.kinds) × (number ≡ 0 → Flows old.state.kinds reported)
MeetsFrame false None number old new = old.going ≡ false
MeetsFrame false (Some reported) number old new =
    (standing_in old.state reported.locals reported.stack ≡ None) ⊎ ((number ≡ 0) × (Flows old.state.kinds reported → ⊥))

-- what is left fits wherever the run goes on
pub record Flowing (method : Method) (number : ℕ) (left : Kinds) (i : Instruction) : Type 0 where
  pub jumps : JumpsFlow left method.frames (targets i)
  pub goes_on : ends i ≡ false → (suc number < length method.code.now) × FlowsTo left (reported_at method.frames (suc number))

pub record Leaving (method : Method) (number : ℕ) (left : Kinds) (going : Bool) (i : Instruction) (flows : Bool) : Type 0 where
  pub goes : going ≡ not (ends i)
  pub decides : IsRun i → Decides flows (Flowing method number left i)

-- whether the instruction holds where the handlers of its ranges ask nothing more, and what is known then
abbrev pub Answers : Bool → Method → Case → ℕ → Pass → Type 0
Answers true method c number pass = Before method c (suc number) pass
Answers false method c number pass = (HoldsAt c.signature c.code c.placed number → ⊥) × AllHeldBut method c number pass.state.states

-- the number of a fault, or else of instructions
abbrev pub limit_of : Option ℕ → ℕ → ℕ
limit_of None count = count
limit_of (Some number) count = number

-- the first instruction that doesn't hold whatever handlers ask, if there is one
abbrev pub IsFirstBut : Method → Case → Option ℕ → Pass → Type 0
IsFirstBut method c None pass = AllHeldBut method c (length c.code.instructions) pass.state.states
IsFirstBut method c (Some number) pass =
    (number < length c.code.instructions) × (HoldsAt c.signature c.code c.placed number → ⊥) × AllHeldBut method c number pass.state.states

-- the first instruction that doesn't hold, if there is one
abbrev pub IsFirst : Case → Option ℕ → Type 0
IsFirst c None = (number : ℕ) → number < length c.code.instructions → HoldsAt c.signature c.code c.placed number
IsFirst c (Some number) = IsFirstFault c.signature c.code c.placed number
