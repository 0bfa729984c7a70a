-- What is inserted before an instruction, against the instruction's charges.
use Rattle.std.specs.Prelude.{ℕ, ℤ, List, [], ◌∷◌}
use Rattle.dj_names.specs.declared.run.Value.{Value}
use Rattle.dj_names.specs.declared.run.Value.TheVariants as values
use Rattle.dj_names.specs.declared.run.Charge.TheVariants as charges
use Rattle.dj_names.specs.declared.run.Element.{Element}
use Rattle.dj_model.specs.trusted.Instructions.{Instruction}
use Rattle.dj_model.specs.Effects.{array_charge}
use Rattle.dj_model.specs.Charging.{Amount}
use Rattle.dj_groups.specs.Groups.{Jumps, Invocations, Throws, Allocations, Arrays, Catches, Copy, ObjectBytes, ElementBytes, Record}
use Rattle.dj_groups.specs.Rewritten.{inserted_instruction}

abbrev pub copy : Instruction
copy = inserted_instruction Copy

abbrev pub push_bytes : ℕ → Instruction
push_bytes n = inserted_instruction (ObjectBytes n)

abbrev pub push_element : Element → Instruction
push_element element = inserted_instruction (ElementBytes element)

abbrev pub record_jump : Instruction
record_jump = inserted_instruction (Record Jumps)

abbrev pub record_invocation : Instruction
record_invocation = inserted_instruction (Record Invocations)

abbrev pub record_throw : Instruction
record_throw = inserted_instruction (Record Throws)

abbrev pub record_allocation : Instruction
record_allocation = inserted_instruction (Record Allocations)

abbrev pub record_array : Instruction
record_array = inserted_instruction (Record Arrays)

abbrev pub check_catch : Instruction
check_catch = inserted_instruction (Record Catches)

-- these instructions, on these operands, add these charges and leave the operands as they are
pub data Paying : List Instruction → List Value → List Amount → Type 0 where
  none : (operands : List Value) → Paying [] operands []
  arrived : (is : List Instruction) (x : ℕ) (amounts : List Amount) → Paying is (values.Ref x ∷ []) amounts
      → Paying (copy ∷ check_catch ∷ is) (values.Ref x ∷ []) amounts
  jump : (is : List Instruction) (operands : List Value) (amounts : List Amount) → Paying is operands amounts
      → Paying (record_jump ∷ is) operands (record { charge = charges.Jump; amount = 1 } ∷ amounts)
  invocation : (is : List Instruction) (operands : List Value) (amounts : List Amount) → Paying is operands amounts
      → Paying (record_invocation ∷ is) operands (record { charge = charges.Invoke; amount = 1 } ∷ amounts)
  array : (element : Element) (z : ℤ) (rest : List Value) (is : List Instruction) (amounts : List Amount) → Paying is (values.Int z ∷ rest) amounts
      → Paying (copy ∷ push_element element ∷ record_array ∷ is) (values.Int z ∷ rest) (record { charge = charges.Alloc; amount = array_charge element (values.Int z ∷ rest) } ∷ amounts)
  throw : (is : List Instruction) (operands : List Value) (amounts : List Amount) → Paying is operands amounts
      → Paying (record_throw ∷ is) operands (record { charge = charges.Throw; amount = 1 } ∷ amounts)
  allocation : (n : ℕ) (is : List Instruction) (operands : List Value) (amounts : List Amount) → Paying is operands amounts
      → Paying (push_bytes n ∷ record_allocation ∷ is) operands (record { charge = charges.Alloc; amount = n } ∷ amounts)
