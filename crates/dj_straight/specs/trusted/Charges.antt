-- What an instruction is charged; it depends on the state before the instruction.
use Rattle.std.specs.Prelude.{ℕ, ◌+◌, Bool, true, false, pos, List, [], ◌∷◌, ◌++◌, Option, Some, None, nat_eq, nat_lt, if◌then◌else◌}
use Rattle.std.specs.List.{list_any}
use Rattle.dj_names.specs.declared.run.Value.{Value}
use Rattle.dj_names.specs.declared.run.Value.TheVariants as values
use Rattle.dj_names.specs.declared.run.Element.{Element}
use Rattle.dj_names.specs.declared.run.Charge.{Charge}
use Rattle.dj_names.specs.declared.run.Charge.TheVariants as charges
use Rattle.dj_names.specs.declared.run.Costs.{Costs}
use Rattle.dj_names.specs.declared.run.Thresholds.{Thresholds}
use Rattle.dj_straight.specs.trusted.Program.{Program, Code, code_of}
use Rattle.dj_straight.specs.trusted.State.{Frame, State, instruction_at}
use Rattle.dj_straight.specs.trusted.Instructions.{Instruction, NewArray}
use Rattle.dj_straight.specs.trusted.Effects.{array_size}

-- a charge and its amount
abbrev pub Amount : Type 0
Amount = Charge × ℕ

-- an array is charged by its length; a negative length costs nothing
abbrev pub array_amount : Element → List Value → ℕ
array_amount element (values.Int (pos n) ∷ rest) = array_size element n
array_amount element _ = 0

-- the own charges of an instruction of a program
abbrev pub own_amounts : Program → Option Instruction → List Value → List Amount
own_amounts program (Some (NewArray class element)) operands = (charges.Alloc, array_amount element operands) ∷ []
own_amounts program _ operands = []

abbrev pub starts_handler : Option Code → ℕ → Bool
starts_handler None number = false
starts_handler (Some code) number = list_any (λ range. nat_eq number range.handler) code.ranges

-- the first instruction of a handler is charged one throw, however the run gets there
abbrev pub arrival_amounts : Bool → List Amount
arrival_amounts true = (charges.Throw, 1) ∷ []
arrival_amounts false = []

abbrev pub frame_amounts : Program → List Frame → List Amount
frame_amounts program [] = []
frame_amounts program (f ∷ below) =
    arrival_amounts (starts_handler (code_of program f.method) f.number) ++ own_amounts program (instruction_at program f) f.operands

-- the charges of the top frame's next instruction, in order
unfoldable pub amounts : Program → State → List Amount
amounts program s = frame_amounts program s.frames

-- ---- sums

abbrev pub no_costs : Costs
no_costs = record { alloc = 0; invoke = 0; jump = 0; throw = 0 }

abbrev pub charged : Costs → Amount → Costs
charged c a = by a.0 where
  by : Charge → Costs
  by charges.Alloc = record c { alloc = c.alloc + a.1 }
  by charges.Invoke = record c { invoke = c.invoke + a.1 }
  by charges.Jump = record c { jump = c.jump + a.1 }
  by charges.Throw = record c { throw = c.throw + a.1 }

-- the sum of a charge is above its threshold
abbrev pub passes : Thresholds → Costs → Charge → Bool
passes most c charges.Alloc = nat_lt most.alloc c.alloc
passes most c charges.Invoke = nat_lt most.invoke c.invoke
passes most c charges.Jump = nat_lt most.jump c.jump
passes most c charges.Throw = nat_lt most.throw c.throw

pub data Payment : Type 0 where
  -- all charges were added
  Paid : Costs → Payment
  -- with this charge its sum passed the threshold, and these are the sums
  Exceeds : Charge → Costs → Payment

-- the charges are added in order, until a sum passes its threshold
abbrev pub paid : Thresholds → Costs → List Amount → Payment
paid most c [] = Paid c
paid most c (a ∷ rest) = if passes most (charged c a) a.0 then Exceeds a.0 (charged c a) else paid most (charged c a) rest
