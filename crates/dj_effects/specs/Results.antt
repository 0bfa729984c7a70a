-- Used by the code alone: what is computed from values.
use Rattle.std.specs.Prelude.{◌&&◌, ℤ, Option, Some, None, Result, Ok, Err, if◌then◌else◌}
use Rattle.dj_names.specs.declared.descriptor.Kind.{Kind}
use Rattle.dj_names.specs.declared.run.Value.{Value}
use Rattle.dj_names.specs.declared.run.Raised.{Raised}
use Rattle.dj_names.specs.trusted.Heaps.{number_value, value_number}
use Rattle.dj_model.specs.trusted.Instructions.{BinaryOperation, UnaryOperation}
use Rattle.dj_model.specs.trusted.Numbers.{is_of_kind, left_kind, right_kind, given_kind, compute, taken_kind, converted_kind, convert}

abbrev pub value_result : Kind → Result ℤ Raised → Result Value Raised
value_result kind (Ok z) = Ok (number_value kind z)
value_result kind (Err raised) = Err raised

-- of the lower value and the upper one, where they are of such kinds
abbrev pub of_two : BinaryOperation → Value → Value → Option (Result Value Raised)
of_two operation a b =
    if is_of_kind (right_kind operation) b && is_of_kind (left_kind operation) a
    then Some (value_result (given_kind operation) (compute operation (value_number a) (value_number b))) else None

abbrev pub of_one : UnaryOperation → Value → Option Value
of_one operation a =
    if is_of_kind (taken_kind operation) a then Some (number_value (converted_kind operation) (convert operation (value_number a))) else None
