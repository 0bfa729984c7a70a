-- Instructions that need nothing but the local variables and the operands of their frame (JVMS 6.5).
use Rattle.std.specs.Prelude.{ℕ, ◌+◌, ◌-◌, ◌&&◌, Bool, false, ℤ, pos, ◌+ℤ◌, List, [], ◌∷◌, ◌++◌, length, set, Option, Some, None, Result, Ok, Err, slice_get, nat_eq, nat_lt, if◌then◌else◌}
use Rattle.std.specs.Int.{w32, int_wrap}
use Rattle.dj_names.specs.declared.descriptor.Kind.{Kind}
use Rattle.dj_names.specs.declared.run.Value.{Value}
use Rattle.dj_names.specs.declared.run.Value.TheVariants as values
use Rattle.dj_names.specs.declared.run.Raised.{Raised}
use Rattle.dj_names.specs.trusted.Heaps.{value_number, number_value}
use Rattle.dj_model.specs.trusted.Instructions.{Instruction, Nop, Push, Load, Store, Increment, Move, Compute, Convert, Branch, Goto, Switch, Return, Monitor, StackOperation, Pop, Pop2, Dup, DupX1, DupX2, Dup2, Dup2X1, Dup2X2, Swap, BinaryOperation, UnaryOperation, Test, WithZero, OfInts, OfReferences, OfNull}
use Rattle.dj_model.specs.trusted.Numbers.{is_of_kind, is_long, left_kind, right_kind, given_kind, compute, taken_kind, converted_kind, convert, holds, agrees, target_of}
use Rattle.dj_model.specs.trusted.State.{Way, Next, To, Raise, Back}

-- what such an instruction leaves, and how the run goes on
pub record Values : Type 0 where
  pub locals : List (Option Value)
  -- the top first
  pub operands : List Value
  pub way : Way

abbrev pub pushed : List (Option Value) → List Value → Value → Values
pushed locals operands v = record { locals = locals; operands = v ∷ operands; way = Next }

abbrev pub left : List (Option Value) → List Value → Way → Values
left locals operands way = record { locals = locals; operands = operands; way = way }

-- ---- local variables, as values or as kinds; `wide` says which take two slots

abbrev pub local_at : {A : Type 0} → List (Option A) → ℕ → Option A
local_at locals slot = value_in (slice_get locals slot) where
  value_in : {A : Type 0} → Option (Option A) → Option A
  value_in None = None
  value_in (Some v) = v

abbrev pub is_some_wide : {A : Type 0} → (A → Bool) → Option A → Bool
is_some_wide wide None = false
is_some_wide wide (Some v) = wide v

-- where this slot is the second of a value that takes two, that value is lost
abbrev pub without_half : {A : Type 0} → (A → Bool) → List (Option A) → ℕ → List (Option A)
without_half wide locals slot =
    if nat_eq slot 0 then locals else (if is_some_wide wide (local_at locals (slot - 1)) then set locals (slot - 1) None else locals)

-- a second slot has no value
abbrev pub with_second : {A : Type 0} → Bool → List (Option A) → ℕ → List (Option A)
with_second wide locals slot = if wide then set locals (slot + 1) None else locals

abbrev pub stored : {A : Type 0} → (A → Bool) → List (Option A) → ℕ → A → List (Option A)
stored wide locals slot v = with_second (wide v) (set (without_half wide locals slot) slot (Some v)) slot

abbrev pub last_slot : Bool → ℕ → ℕ
last_slot wide slot = if wide then slot + 1 else slot

-- arguments in their slots
abbrev pub in_slots : {A : Type 0} → (A → Bool) → List A → List (Option A)
in_slots wide [] = []
in_slots wide (v ∷ rest) = if wide v then Some v ∷ None ∷ in_slots wide rest else Some v ∷ in_slots wide rest

abbrev pub load_value : List (Option Value) → List Value → Kind → Option Value → Option Values
load_value locals operands kind None = None
load_value locals operands kind (Some v) = if is_of_kind kind v then Some (pushed locals operands v) else None

abbrev pub store_top : List (Option Value) → Kind → ℕ → List Value → Option Values
store_top locals kind slot [] = None
store_top locals kind slot (v ∷ rest) =
    if is_of_kind kind v && nat_lt (last_slot (is_long v) slot) (length locals) then Some (left (stored is_long locals slot v) rest Next) else None

abbrev pub increment : List (Option Value) → List Value → ℕ → ℤ → Option Value → Option Values
increment locals operands slot by (Some (values.Int z)) = Some (left (set locals slot (Some (values.Int (int_wrap w32 (z +ℤ by))))) operands Next)
increment locals operands slot by _ = None

-- ---- operands alone, as values or as kinds

-- the operands that were taken, the top first, and those below them
pub record Cut (A : Type 0) : Type 0 where
  pub top : List A
  pub rest : List A

abbrev pub one_slot : {A : Type 0} → (A → Bool) → List A → Option (Cut A)
one_slot wide [] = None
one_slot wide (v ∷ rest) = if wide v then None else Some (record { top = v ∷ []; rest = rest })

abbrev pub on_top : {A : Type 0} → A → Option (Cut A) → Option (Cut A)
on_top v None = None
on_top v (Some cut) = Some (record { top = v ∷ cut.top; rest = cut.rest })

-- one operand that takes two slots, or two that take one each
abbrev pub two_slots : {A : Type 0} → (A → Bool) → List A → Option (Cut A)
two_slots wide [] = None
two_slots wide (v ∷ rest) = if wide v then Some (record { top = v ∷ []; rest = rest }) else on_top v (one_slot wide rest)

abbrev pub dropped : {A : Type 0} → Option (Cut A) → Option (List A)
dropped None = None
dropped (Some cut) = Some cut.rest

abbrev pub doubled : {A : Type 0} → Option (Cut A) → Option (List A)
doubled None = None
doubled (Some cut) = Some (cut.top ++ cut.top ++ cut.rest)

-- the top operands once more, below those that were under them
abbrev pub under : {A : Type 0} → List A → Option (Cut A) → Option (List A)
under top None = None
under top (Some cut) = Some (top ++ cut.top ++ top ++ cut.rest)

abbrev pub under_one : {A : Type 0} → (A → Bool) → Option (Cut A) → Option (List A)
under_one wide None = None
under_one wide (Some cut) = under cut.top (one_slot wide cut.rest)

abbrev pub under_two : {A : Type 0} → (A → Bool) → Option (Cut A) → Option (List A)
under_two wide None = None
under_two wide (Some cut) = under cut.top (two_slots wide cut.rest)

abbrev pub below : {A : Type 0} → List A → Option (Cut A) → Option (List A)
below top None = None
below top (Some cut) = Some (cut.top ++ top ++ cut.rest)

abbrev pub swapped : {A : Type 0} → (A → Bool) → Option (Cut A) → Option (List A)
swapped wide None = None
swapped wide (Some cut) = below cut.top (one_slot wide cut.rest)

-- JVMS 6.5, pop to swap, in all their forms
unfoldable pub moved : {A : Type 0} → (A → Bool) → StackOperation → List A → Option (List A)
moved wide Pop stack = dropped (one_slot wide stack)
moved wide Pop2 stack = dropped (two_slots wide stack)
moved wide Dup stack = doubled (one_slot wide stack)
moved wide DupX1 stack = under_one wide (one_slot wide stack)
moved wide DupX2 stack = under_two wide (one_slot wide stack)
moved wide Dup2 stack = doubled (two_slots wide stack)
moved wide Dup2X1 stack = under_one wide (two_slots wide stack)
moved wide Dup2X2 stack = under_two wide (two_slots wide stack)
moved wide Swap stack = swapped wide (one_slot wide stack)

abbrev pub with_moved : List (Option Value) → Option (List Value) → Option Values
with_moved locals None = None
with_moved locals (Some operands) = Some (left locals operands Next)

-- ---- numbers

-- where an exception is raised the operands don't matter, as they are replaced then; they stay
abbrev pub computed : List (Option Value) → List Value → List Value → Kind → Result ℤ Raised → Values
computed locals operands rest kind (Ok z) = pushed locals rest (number_value kind z)
computed locals operands rest kind (Err raised) = left locals operands (Raise raised)

abbrev pub compute_two : List (Option Value) → BinaryOperation → List Value → Option Values
compute_two locals operation (b ∷ (a ∷ rest)) =
    if is_of_kind (right_kind operation) b && is_of_kind (left_kind operation) a
    then Some (computed locals (b ∷ (a ∷ rest)) rest (given_kind operation) (compute operation (value_number a) (value_number b))) else None
compute_two locals operation _ = None

abbrev pub convert_one : List (Option Value) → UnaryOperation → List Value → Option Values
convert_one locals operation [] = None
convert_one locals operation (a ∷ rest) =
    if is_of_kind (taken_kind operation) a then Some (pushed locals rest (number_value (converted_kind operation) (convert operation (value_number a)))) else None

-- ---- jumps and returns

abbrev pub jumps_if : List (Option Value) → List Value → Bool → ℕ → Values
jumps_if locals rest jumps target = left locals rest (if jumps then To target else Next)

abbrev pub branch : List (Option Value) → Test → ℕ → List Value → Option Values
branch locals (WithZero condition) target (values.Int a ∷ rest) = Some (jumps_if locals rest (holds condition a (pos 0)) target)
branch locals (OfInts condition) target (values.Int b ∷ (values.Int a ∷ rest)) = Some (jumps_if locals rest (holds condition a b) target)
branch locals (OfReferences same) target (values.Ref b ∷ (values.Ref a ∷ rest)) = Some (jumps_if locals rest (agrees same (nat_eq a b)) target)
branch locals (OfNull null) target (values.Ref a ∷ rest) = Some (jumps_if locals rest (agrees null (nat_eq a 0)) target)
branch locals test target _ = None

abbrev pub switch : List (Option Value) → List (ℤ × ℕ) → ℕ → List Value → Option Values
switch locals pairs default (values.Int z ∷ rest) = Some (left locals rest (To (target_of pairs default z)))
switch locals pairs default _ = None

-- the top operand is returned; nothing is returned where there is no kind
abbrev pub return_top : List (Option Value) → Option Kind → List Value → Option Values
return_top locals None operands = Some (left locals operands (Back None))
return_top locals (Some kind) [] = None
return_top locals (Some kind) (v ∷ rest) = if is_of_kind kind v then Some (left locals rest (Back (Some v))) else None

-- a reference is taken; it may be null
abbrev pub unlock : List (Option Value) → List Value → Option Values
unlock locals (values.Ref r ∷ rest) = Some (left locals rest Next)
unlock locals _ = None

-- ---- the effect of such an instruction; none for other instructions, and where it lacks what it takes

unfoldable pub on_values : Instruction → List (Option Value) → List Value → Option Values
on_values Nop locals operands = Some (left locals operands Next)
on_values (Push v) locals operands = Some (pushed locals operands v)
on_values (Load kind slot) locals operands = load_value locals operands kind (local_at locals slot)
on_values (Store kind slot) locals operands = store_top locals kind slot operands
on_values (Increment slot by) locals operands = increment locals operands slot by (local_at locals slot)
on_values (Move operation) locals operands = with_moved locals (moved is_long operation operands)
on_values (Compute operation) locals operands = compute_two locals operation operands
on_values (Convert operation) locals operands = convert_one locals operation operands
on_values (Branch test target) locals operands = branch locals test target operands
on_values (Goto target) locals operands = Some (left locals operands (To target))
on_values (Switch pairs default) locals operands = switch locals pairs default operands
on_values (Return kind) locals operands = return_top locals kind operands
on_values Monitor locals operands = unlock locals operands
on_values _ locals operands = None
