-- Used by the code alone: what instructions do to kinds, in few forms.
use Rattle.std.specs.Prelude.{ℕ, ◌+◌, Bool, true, false, List, [], ◌∷◌, reverse, Option, Some, None, nat_eq, if◌then◌else◌}
use Rattle.dj_names.specs.declared.descriptor.Kind.{Kind}
use Rattle.dj_names.specs.declared.descriptor.Kind.TheVariants as kinds
use Rattle.dj_names.specs.trusted.Types.{field_kind}
use Rattle.dj_names.specs.trusted.Values.{value_kind}
use Rattle.dj_model.specs.trusted.Program.{Code}
use Rattle.dj_model.specs.trusted.Instructions.{Instruction, Nop, Push, PushText, Load, Store, Increment, LoadElement, StoreElement, Move, Compute, Convert, Branch, Goto, Switch, Return, GetStatic, PutStatic, GetField, PutField, Invoke, New, NewArray, ArrayLength, Throw, CheckCast, InstanceOf, Monitor, Other, Mode, Interface, StackOperation, Pop, Pop2, Dup, DupX1, DupX2, Dup2, Dup2X1, Dup2X2, Swap}
use Rattle.dj_model.specs.trusted.Numbers.{is_wide, left_kind, right_kind, given_kind, taken_kind, converted_kind, tested_kinds}
use Rattle.dj_model.specs.trusted.Values.{Cut, one_slot, two_slots, under, local_at, moved}
use Rattle.dj_model.specs.trusted.Arrays.{access_kind}
use Rattle.dj_model.specs.trusted.Kinds.{Signature, call_signature, Kinds, depth}
use Rattle.dj_model.specs.trusted.Shape.{is_kind, leaving, gives, store_kind, same_result, result_list, is_static_mode}
use Rattle.dj_shape_rule.specs.Pools.{call_at}
use Rattle.dj_shape_rule.specs.declared.pool.ConstantKind.{ConstantKind}
use Rattle.dj_shape_rule.specs.declared.pool.ConstantKind.TheVariants as constants
use Rattle.dj_shape_rule.specs.declared.effect.SlotWidth.{SlotWidth}
use Rattle.dj_shape_rule.specs.declared.effect.SlotWidth.TheVariants as slots
use Rattle.dj_shape_rule.specs.declared.effect.KindMovement.{KindMovement}
use Rattle.dj_shape_rule.specs.declared.effect.KindMovement.TheVariants as moves
use Rattle.dj_shape_rule.specs.declared.effect.Effect.{Effect}
use Rattle.dj_shape_rule.specs.declared.effect.Effect.TheVariants as effects

-- what an instruction does to kinds
pub data Work : Type 0 where
  -- these operands are taken, the top first, and then this one is pushed, where there is one
  Gives : List Kind → Option Kind → Work
  Loads : Kind → ℕ → Work
  Stores : Kind → ℕ → Work
  Increments : ℕ → Work
  Moves : StackOperation → Work
  Returns : Option Kind → Work
  -- a method is called: whether it is static, the count that stands beside its index, and the kinds of what it takes and gives
  Calls : Bool → Option ℕ → Option Signature → Work
  -- it isn't run
  Fails : Work

abbrev pub got : List Kind → Option Kind → Work
got wanted None = Fails
got wanted (Some kind) = Gives wanted (Some kind)

abbrev pub put : List Kind → Option Kind → Work
put wanted None = Fails
put wanted (Some kind) = Gives (kind ∷ wanted) None

abbrev pub count_of : Mode → Option ℕ
count_of (Interface count) = Some count
count_of mode = None

abbrev pub call_work : Mode → Option Signature → Work
call_work mode signature = Calls (is_static_mode mode) (count_of mode) signature

-- ---- the kinds after it

abbrev pub is_counted : Option ℕ → List Kind → Bool
is_counted None parameters = true
is_counted (Some count) parameters = nat_eq count (depth parameters + 1)

-- the receiver before the parameters, where there is one
abbrev pub arguments_of : Bool → List Kind → List Kind
arguments_of true parameters = parameters
arguments_of false parameters = kinds.Ref ∷ parameters

abbrev pub called : Code → Kinds → Bool → Option ℕ → Option Signature → Option Kinds
called code k static count None = None
called code k static count (Some signature) =
    if is_counted count signature.parameters then gives code k (reverse (arguments_of static signature.parameters)) signature.result else None

abbrev pub performed : Option Kind → Code → Kinds → Work → Option Kinds
performed result code k (Gives wanted given) = gives code k wanted given
performed result code k (Loads kind slot) = if is_kind kind (local_at k.locals slot) then gives code k [] (Some kind) else None
performed result code k (Stores kind slot) = store_kind code kind slot (gives code k (kind ∷ []) None)
performed result code k (Increments slot) = if is_kind kinds.Int (local_at k.locals slot) then gives code k [] None else None
performed result code k (Moves operation) = leaving code k.locals (moved is_wide operation k.stack)
performed result code k (Returns kind) = if same_result kind result then gives code k (result_list kind) None else None
performed result code k (Calls static count signature) = called code k static count signature
performed result code k Fails = None

-- ---- of an instruction

abbrev pub work_of : Instruction → Work
work_of Nop = Gives [] None
work_of (Push v) = Gives [] (Some (value_kind v))
work_of (PushText units) = Gives [] (Some kinds.Ref)
work_of (Load kind slot) = Loads kind slot
work_of (Store kind slot) = Stores kind slot
work_of (Increment slot by) = Increments slot
work_of (LoadElement access) = Gives (kinds.Int ∷ kinds.Ref ∷ []) (Some (access_kind access))
work_of (StoreElement access) = Gives (access_kind access ∷ kinds.Int ∷ kinds.Ref ∷ []) None
work_of (Move operation) = Moves operation
work_of (Compute operation) = Gives (right_kind operation ∷ left_kind operation ∷ []) (Some (given_kind operation))
work_of (Convert operation) = Gives (taken_kind operation ∷ []) (Some (converted_kind operation))
work_of (Branch test target) = Gives (tested_kinds test) None
work_of (Goto target) = Gives [] None
work_of (Switch pairs default) = Gives (kinds.Int ∷ []) None
work_of (Return kind) = Returns kind
work_of (GetStatic m) = got [] (field_kind m.desc)
work_of (PutStatic m) = put [] (field_kind m.desc)
work_of (GetField m) = got (kinds.Ref ∷ []) (field_kind m.desc)
work_of (PutField m) = put (kinds.Ref ∷ []) (field_kind m.desc)
work_of (Invoke mode m) = call_work mode (call_signature m.desc)
work_of (New class) = Gives [] (Some kinds.Ref)
work_of (NewArray class element) = Gives (kinds.Int ∷ []) (Some kinds.Ref)
work_of ArrayLength = Gives (kinds.Ref ∷ []) (Some kinds.Int)
work_of Throw = Gives (kinds.Ref ∷ []) None
work_of (CheckCast class) = Gives (kinds.Ref ∷ []) (Some kinds.Ref)
work_of (InstanceOf class) = Gives (kinds.Ref ∷ []) (Some kinds.Int)
work_of Monitor = Gives (kinds.Ref ∷ []) None
work_of (Other op named) = Fails

-- ---- of an instruction that names a constant, by what is kept of it

abbrev pub literal_work : ℕ → ConstantKind → Work
literal_work op constants.Int = if nat_eq op 20 then Fails else Gives [] (Some kinds.Int)
literal_work op constants.Text = if nat_eq op 20 then Fails else Gives [] (Some kinds.Ref)
literal_work op constants.Long = if nat_eq op 20 then Gives [] (Some kinds.Long) else Fails
literal_work op _ = Fails

abbrev pub field_work : ℕ → Option Kind → Work
field_work op kind =
    if nat_eq op 178 then got [] kind
    else if nat_eq op 179 then put [] kind
    else if nat_eq op 180 then got (kinds.Ref ∷ []) kind
    else if nat_eq op 181 then put (kinds.Ref ∷ []) kind
    else Fails

abbrev pub method_work : ℕ → Option Signature → Work
method_work op signature =
    if nat_eq op 182 then Calls false None signature
    else if nat_eq op 183 then Calls false None signature
    else if nat_eq op 184 then Calls true None signature
    else Fails

abbrev pub interface_method_work : ℕ → Option Signature → Work
interface_method_work op signature =
    if nat_eq op 183 then Calls false None signature
    else if nat_eq op 184 then Calls true None signature
    else Fails

abbrev pub member_work : List (Option Signature) → ℕ → ConstantKind → Work
member_work calls op (constants.Field kind) = field_work op kind
member_work calls op (constants.Method index) = method_work op (call_at calls index)
member_work calls op (constants.InterfaceMethod index) = interface_method_work op (call_at calls index)
member_work calls op _ = Fails

abbrev pub interface_work : List (Option Signature) → ℕ → ConstantKind → Work
interface_work calls count (constants.InterfaceMethod index) = Calls false (Some count) (call_at calls index)
interface_work calls count _ = Fails

abbrev pub class_work : ℕ → ConstantKind → Work
class_work op constants.Class =
    if nat_eq op 187 then Gives [] (Some kinds.Ref)
    else if nat_eq op 189 then Gives (kinds.Int ∷ []) (Some kinds.Ref)
    else if nat_eq op 192 then Gives (kinds.Ref ∷ []) (Some kinds.Ref)
    else if nat_eq op 193 then Gives (kinds.Ref ∷ []) (Some kinds.Int)
    else Fails
class_work op _ = Fails

-- ---- the same definitions, of operands as the code cuts and copies them

abbrev pub cut_of : SlotWidth → List Kind → Option (Cut Kind)
cut_of slots.One stack = one_slot is_wide stack
cut_of slots.Two stack = two_slots is_wide stack

-- the upper operands are put once more below those that are cut under them
abbrev pub put_under : SlotWidth → Option (Cut Kind) → Option (List Kind)
put_under below None = None
put_under below (Some cut) = under cut.top (cut_of below cut.rest)

abbrev pub move_view : KindMovement → StackOperation
move_view (moves.Drop slots.One) = Pop
move_view (moves.Drop slots.Two) = Pop2
move_view (moves.Double slots.One) = Dup
move_view (moves.Double slots.Two) = Dup2
move_view (moves.Under slots.One slots.One) = DupX1
move_view (moves.Under slots.One slots.Two) = DupX2
move_view (moves.Under slots.Two slots.One) = Dup2X1
move_view (moves.Under slots.Two slots.Two) = Dup2X2
move_view moves.Swap = Swap

abbrev pub work_view : List (Option Signature) → Effect → Work
work_view calls (effects.Gives wanted given) = Gives wanted.now given
work_view calls (effects.Load kind slot) = Loads kind slot
work_view calls (effects.Store kind slot) = Stores kind slot
work_view calls (effects.Increment slot) = Increments slot
work_view calls (effects.Move movement) = Moves (move_view movement)
work_view calls (effects.Return kind) = Returns kind
work_view calls (effects.Call static count desc) = Calls static count (call_at calls desc)
work_view calls effects.Fails = Fails
