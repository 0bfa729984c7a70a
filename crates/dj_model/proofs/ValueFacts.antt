-- What instructions take, give and do, by plain values.
use Rattle.std.proofs.Common.{◌≡◌, pos, negsuc, ℕ, ℤ, List, [], ◌∷◌, map, Option, Some, None, refl}
use Rattle.std.specs.Option.{option_map}
use Rattle.std.specs.Int.{int_wrap}
use Rattle.dj_names.specs.declared.descriptor.Kind.{Kind}
use Rattle.dj_names.specs.declared.descriptor.Kind.TheVariants as kinds
use Rattle.dj_names.specs.declared.run.Value.{Value}
use Rattle.dj_names.specs.declared.run.Value.TheVariants as values
use Rattle.dj_names.specs.declared.run.Raised.TheVariants as raises
use Rattle.dj_ops.specs.declared.instruction.Instr.TheVariants as instrs
use Rattle.dj_model.specs.trusted.Instructions.{Nothing, Instruction, Increment, Load, Store}
use Rattle.dj_model.specs.trusted.Opcodes.{simple, instruction_of}
use Rattle.dj_model.specs.trusted.Program.{Code}
use Rattle.dj_model.specs.trusted.State.{Way, Next, To, Raise, Back}
use Rattle.dj_model.specs.trusted.Numbers.{compute, convert}
use Rattle.dj_model.specs.trusted.Values.{Values, moved, on_values, pushed, left}
use Rattle.dj_model.specs.trusted.Kinds.{Signature}
use Rattle.dj_model.specs.trusted.Shape.{after}

abbrev code : Code
code = record { max_stack = 7; max_locals = 6; instructions = []; ranges = []; frames = Some [] }

-- a method that gives the kind
abbrev giving : Option Kind → Signature
giving result = record { parameters = []; result = result }

abbrev all_locals : List (Option Kind)
all_locals = Some kinds.Int ∷ Some kinds.Long ∷ None ∷ Some kinds.Ref ∷ None ∷ None ∷ []

-- the kinds that an instruction without operands leaves of these operands
abbrev leaves : Option Kind → ℕ → List Kind → Option (List Kind)
leaves result op stack = option_map (λ k. k.stack) (after (giving result) code (instruction_of (instrs.Simple op) Nothing) (record { locals = all_locals; stack = stack }))

-- what it does with these values
abbrev does : ℕ → List Value → Option Values
does op operands = on_values (instruction_of (instrs.Simple op) Nothing) [] operands

taken_and_given_0 : leaves None 0 (kinds.Ref ∷ []) ∷ leaves None 1 (kinds.Ref ∷ []) ∷ leaves None 2 (kinds.Ref ∷ []) ∷ leaves None 3 (kinds.Ref ∷ []) ∷ leaves None 4 (kinds.Ref ∷ []) ∷ leaves None 5 (kinds.Ref ∷ []) ∷ leaves None 6 (kinds.Ref ∷ []) ∷ leaves None 7 (kinds.Ref ∷ []) ∷ leaves None 8 (kinds.Ref ∷ []) ∷ leaves None 9 (kinds.Ref ∷ []) ∷ leaves None 10 (kinds.Ref ∷ []) ∷ leaves None 46 (kinds.Int ∷ kinds.Ref ∷ kinds.Ref ∷ []) ∷ leaves None 51 (kinds.Int ∷ kinds.Ref ∷ kinds.Ref ∷ []) ∷ leaves None 52 (kinds.Int ∷ kinds.Ref ∷ kinds.Ref ∷ []) ∷ leaves None 53 (kinds.Int ∷ kinds.Ref ∷ kinds.Ref ∷ []) ∷ leaves None 47 (kinds.Int ∷ kinds.Ref ∷ kinds.Ref ∷ []) ∷ leaves None 50 (kinds.Int ∷ kinds.Ref ∷ kinds.Ref ∷ []) ∷ leaves None 79 (kinds.Int ∷ kinds.Int ∷ kinds.Ref ∷ kinds.Ref ∷ []) ∷ leaves None 84 (kinds.Int ∷ kinds.Int ∷ kinds.Ref ∷ kinds.Ref ∷ []) ∷ leaves None 85 (kinds.Int ∷ kinds.Int ∷ kinds.Ref ∷ kinds.Ref ∷ []) ∷ leaves None 86 (kinds.Int ∷ kinds.Int ∷ kinds.Ref ∷ kinds.Ref ∷ []) ∷ leaves None 80 (kinds.Long ∷ kinds.Int ∷ kinds.Ref ∷ kinds.Ref ∷ []) ∷ leaves None 83 (kinds.Ref ∷ kinds.Int ∷ kinds.Ref ∷ kinds.Ref ∷ []) ∷ leaves None 96 (kinds.Int ∷ kinds.Int ∷ kinds.Ref ∷ []) ∷ leaves None 100 (kinds.Int ∷ kinds.Int ∷ kinds.Ref ∷ []) ∷ leaves None 104 (kinds.Int ∷ kinds.Int ∷ kinds.Ref ∷ []) ∷ leaves None 108 (kinds.Int ∷ kinds.Int ∷ kinds.Ref ∷ []) ∷ leaves None 112 (kinds.Int ∷ kinds.Int ∷ kinds.Ref ∷ []) ∷ leaves None 120 (kinds.Int ∷ kinds.Int ∷ kinds.Ref ∷ []) ∷ leaves None 122 (kinds.Int ∷ kinds.Int ∷ kinds.Ref ∷ []) ∷ leaves None 124 (kinds.Int ∷ kinds.Int ∷ kinds.Ref ∷ []) ∷ leaves None 126 (kinds.Int ∷ kinds.Int ∷ kinds.Ref ∷ []) ∷ leaves None 128 (kinds.Int ∷ kinds.Int ∷ kinds.Ref ∷ []) ∷ leaves None 130 (kinds.Int ∷ kinds.Int ∷ kinds.Ref ∷ []) ∷ leaves None 97 (kinds.Long ∷ kinds.Long ∷ kinds.Ref ∷ []) ∷ leaves None 101 (kinds.Long ∷ kinds.Long ∷ kinds.Ref ∷ []) ∷ leaves None 105 (kinds.Long ∷ kinds.Long ∷ kinds.Ref ∷ []) ∷ leaves None 109 (kinds.Long ∷ kinds.Long ∷ kinds.Ref ∷ []) ∷ leaves None 113 (kinds.Long ∷ kinds.Long ∷ kinds.Ref ∷ []) ∷ leaves None 127 (kinds.Long ∷ kinds.Long ∷ kinds.Ref ∷ []) ∷ []
    ≡ Some (kinds.Ref ∷ []) ∷ Some (kinds.Ref ∷ kinds.Ref ∷ []) ∷ Some (kinds.Int ∷ kinds.Ref ∷ []) ∷ Some (kinds.Int ∷ kinds.Ref ∷ []) ∷ Some (kinds.Int ∷ kinds.Ref ∷ []) ∷ Some (kinds.Int ∷ kinds.Ref ∷ []) ∷ Some (kinds.Int ∷ kinds.Ref ∷ []) ∷ Some (kinds.Int ∷ kinds.Ref ∷ []) ∷ Some (kinds.Int ∷ kinds.Ref ∷ []) ∷ Some (kinds.Long ∷ kinds.Ref ∷ []) ∷ Some (kinds.Long ∷ kinds.Ref ∷ []) ∷ Some (kinds.Int ∷ kinds.Ref ∷ []) ∷ Some (kinds.Int ∷ kinds.Ref ∷ []) ∷ Some (kinds.Int ∷ kinds.Ref ∷ []) ∷ Some (kinds.Int ∷ kinds.Ref ∷ []) ∷ Some (kinds.Long ∷ kinds.Ref ∷ []) ∷ Some (kinds.Ref ∷ kinds.Ref ∷ []) ∷ Some (kinds.Ref ∷ []) ∷ Some (kinds.Ref ∷ []) ∷ Some (kinds.Ref ∷ []) ∷ Some (kinds.Ref ∷ []) ∷ Some (kinds.Ref ∷ []) ∷ Some (kinds.Ref ∷ []) ∷ Some (kinds.Int ∷ kinds.Ref ∷ []) ∷ Some (kinds.Int ∷ kinds.Ref ∷ []) ∷ Some (kinds.Int ∷ kinds.Ref ∷ []) ∷ Some (kinds.Int ∷ kinds.Ref ∷ []) ∷ Some (kinds.Int ∷ kinds.Ref ∷ []) ∷ Some (kinds.Int ∷ kinds.Ref ∷ []) ∷ Some (kinds.Int ∷ kinds.Ref ∷ []) ∷ Some (kinds.Int ∷ kinds.Ref ∷ []) ∷ Some (kinds.Int ∷ kinds.Ref ∷ []) ∷ Some (kinds.Int ∷ kinds.Ref ∷ []) ∷ Some (kinds.Int ∷ kinds.Ref ∷ []) ∷ Some (kinds.Long ∷ kinds.Ref ∷ []) ∷ Some (kinds.Long ∷ kinds.Ref ∷ []) ∷ Some (kinds.Long ∷ kinds.Ref ∷ []) ∷ Some (kinds.Long ∷ kinds.Ref ∷ []) ∷ Some (kinds.Long ∷ kinds.Ref ∷ []) ∷ Some (kinds.Long ∷ kinds.Ref ∷ []) ∷ []
unfolding after instruction_of simple moved
taken_and_given_0 = refl

taken_and_given_1 : leaves None 129 (kinds.Long ∷ kinds.Long ∷ kinds.Ref ∷ []) ∷ leaves None 131 (kinds.Long ∷ kinds.Long ∷ kinds.Ref ∷ []) ∷ leaves None 121 (kinds.Int ∷ kinds.Long ∷ kinds.Ref ∷ []) ∷ leaves None 123 (kinds.Int ∷ kinds.Long ∷ kinds.Ref ∷ []) ∷ leaves None 125 (kinds.Int ∷ kinds.Long ∷ kinds.Ref ∷ []) ∷ leaves None 116 (kinds.Int ∷ kinds.Ref ∷ []) ∷ leaves None 145 (kinds.Int ∷ kinds.Ref ∷ []) ∷ leaves None 146 (kinds.Int ∷ kinds.Ref ∷ []) ∷ leaves None 147 (kinds.Int ∷ kinds.Ref ∷ []) ∷ leaves None 117 (kinds.Long ∷ kinds.Ref ∷ []) ∷ leaves None 133 (kinds.Int ∷ kinds.Ref ∷ []) ∷ leaves None 136 (kinds.Long ∷ kinds.Ref ∷ []) ∷ leaves None 148 (kinds.Long ∷ kinds.Long ∷ kinds.Ref ∷ []) ∷ leaves None 191 (kinds.Ref ∷ kinds.Ref ∷ []) ∷ leaves None 194 (kinds.Ref ∷ kinds.Ref ∷ []) ∷ leaves None 195 (kinds.Ref ∷ kinds.Ref ∷ []) ∷ leaves None 190 (kinds.Ref ∷ kinds.Ref ∷ []) ∷ []
    ≡ Some (kinds.Long ∷ kinds.Ref ∷ []) ∷ Some (kinds.Long ∷ kinds.Ref ∷ []) ∷ Some (kinds.Long ∷ kinds.Ref ∷ []) ∷ Some (kinds.Long ∷ kinds.Ref ∷ []) ∷ Some (kinds.Long ∷ kinds.Ref ∷ []) ∷ Some (kinds.Int ∷ kinds.Ref ∷ []) ∷ Some (kinds.Int ∷ kinds.Ref ∷ []) ∷ Some (kinds.Int ∷ kinds.Ref ∷ []) ∷ Some (kinds.Int ∷ kinds.Ref ∷ []) ∷ Some (kinds.Long ∷ kinds.Ref ∷ []) ∷ Some (kinds.Long ∷ kinds.Ref ∷ []) ∷ Some (kinds.Int ∷ kinds.Ref ∷ []) ∷ Some (kinds.Int ∷ kinds.Ref ∷ []) ∷ Some (kinds.Ref ∷ []) ∷ Some (kinds.Ref ∷ []) ∷ Some (kinds.Ref ∷ []) ∷ Some (kinds.Int ∷ kinds.Ref ∷ []) ∷ []
unfolding after instruction_of simple moved
taken_and_given_1 = refl

wrong_kinds_0 : leaves None 46 (kinds.Int ∷ kinds.Int ∷ []) ∷ leaves None 46 (kinds.Long ∷ kinds.Ref ∷ []) ∷ leaves None 51 (kinds.Int ∷ kinds.Int ∷ []) ∷ leaves None 51 (kinds.Long ∷ kinds.Ref ∷ []) ∷ leaves None 52 (kinds.Int ∷ kinds.Int ∷ []) ∷ leaves None 52 (kinds.Long ∷ kinds.Ref ∷ []) ∷ leaves None 53 (kinds.Int ∷ kinds.Int ∷ []) ∷ leaves None 53 (kinds.Long ∷ kinds.Ref ∷ []) ∷ leaves None 47 (kinds.Int ∷ kinds.Int ∷ []) ∷ leaves None 47 (kinds.Long ∷ kinds.Ref ∷ []) ∷ leaves None 50 (kinds.Int ∷ kinds.Int ∷ []) ∷ leaves None 50 (kinds.Long ∷ kinds.Ref ∷ []) ∷ leaves None 79 (kinds.Int ∷ kinds.Int ∷ kinds.Int ∷ []) ∷ leaves None 79 (kinds.Int ∷ kinds.Long ∷ kinds.Ref ∷ []) ∷ leaves None 79 (kinds.Long ∷ kinds.Int ∷ kinds.Ref ∷ []) ∷ leaves None 84 (kinds.Int ∷ kinds.Int ∷ kinds.Int ∷ []) ∷ leaves None 84 (kinds.Int ∷ kinds.Long ∷ kinds.Ref ∷ []) ∷ leaves None 84 (kinds.Long ∷ kinds.Int ∷ kinds.Ref ∷ []) ∷ leaves None 85 (kinds.Int ∷ kinds.Int ∷ kinds.Int ∷ []) ∷ leaves None 85 (kinds.Int ∷ kinds.Long ∷ kinds.Ref ∷ []) ∷ leaves None 85 (kinds.Long ∷ kinds.Int ∷ kinds.Ref ∷ []) ∷ leaves None 86 (kinds.Int ∷ kinds.Int ∷ kinds.Int ∷ []) ∷ leaves None 86 (kinds.Int ∷ kinds.Long ∷ kinds.Ref ∷ []) ∷ leaves None 86 (kinds.Long ∷ kinds.Int ∷ kinds.Ref ∷ []) ∷ leaves None 80 (kinds.Long ∷ kinds.Int ∷ kinds.Int ∷ []) ∷ leaves None 80 (kinds.Long ∷ kinds.Long ∷ kinds.Ref ∷ []) ∷ leaves None 80 (kinds.Ref ∷ kinds.Int ∷ kinds.Ref ∷ []) ∷ leaves None 83 (kinds.Ref ∷ kinds.Int ∷ kinds.Int ∷ []) ∷ leaves None 83 (kinds.Ref ∷ kinds.Long ∷ kinds.Ref ∷ []) ∷ leaves None 83 (kinds.Int ∷ kinds.Int ∷ kinds.Ref ∷ []) ∷ leaves None 96 (kinds.Int ∷ kinds.Long ∷ []) ∷ leaves None 96 (kinds.Long ∷ kinds.Int ∷ []) ∷ leaves None 100 (kinds.Int ∷ kinds.Long ∷ []) ∷ leaves None 100 (kinds.Long ∷ kinds.Int ∷ []) ∷ leaves None 104 (kinds.Int ∷ kinds.Long ∷ []) ∷ leaves None 104 (kinds.Long ∷ kinds.Int ∷ []) ∷ leaves None 108 (kinds.Int ∷ kinds.Long ∷ []) ∷ leaves None 108 (kinds.Long ∷ kinds.Int ∷ []) ∷ leaves None 112 (kinds.Int ∷ kinds.Long ∷ []) ∷ leaves None 112 (kinds.Long ∷ kinds.Int ∷ []) ∷ []
    ≡ None ∷ None ∷ None ∷ None ∷ None ∷ None ∷ None ∷ None ∷ None ∷ None ∷ None ∷ None ∷ None ∷ None ∷ None ∷ None ∷ None ∷ None ∷ None ∷ None ∷ None ∷ None ∷ None ∷ None ∷ None ∷ None ∷ None ∷ None ∷ None ∷ None ∷ None ∷ None ∷ None ∷ None ∷ None ∷ None ∷ None ∷ None ∷ None ∷ None ∷ []
unfolding after instruction_of simple moved
wrong_kinds_0 = refl

wrong_kinds_1 : leaves None 120 (kinds.Int ∷ kinds.Long ∷ []) ∷ leaves None 120 (kinds.Long ∷ kinds.Int ∷ []) ∷ leaves None 122 (kinds.Int ∷ kinds.Long ∷ []) ∷ leaves None 122 (kinds.Long ∷ kinds.Int ∷ []) ∷ leaves None 124 (kinds.Int ∷ kinds.Long ∷ []) ∷ leaves None 124 (kinds.Long ∷ kinds.Int ∷ []) ∷ leaves None 126 (kinds.Int ∷ kinds.Long ∷ []) ∷ leaves None 126 (kinds.Long ∷ kinds.Int ∷ []) ∷ leaves None 128 (kinds.Int ∷ kinds.Long ∷ []) ∷ leaves None 128 (kinds.Long ∷ kinds.Int ∷ []) ∷ leaves None 130 (kinds.Int ∷ kinds.Long ∷ []) ∷ leaves None 130 (kinds.Long ∷ kinds.Int ∷ []) ∷ leaves None 97 (kinds.Long ∷ kinds.Ref ∷ []) ∷ leaves None 97 (kinds.Ref ∷ kinds.Long ∷ []) ∷ leaves None 101 (kinds.Long ∷ kinds.Ref ∷ []) ∷ leaves None 101 (kinds.Ref ∷ kinds.Long ∷ []) ∷ leaves None 105 (kinds.Long ∷ kinds.Ref ∷ []) ∷ leaves None 105 (kinds.Ref ∷ kinds.Long ∷ []) ∷ leaves None 109 (kinds.Long ∷ kinds.Ref ∷ []) ∷ leaves None 109 (kinds.Ref ∷ kinds.Long ∷ []) ∷ leaves None 113 (kinds.Long ∷ kinds.Ref ∷ []) ∷ leaves None 113 (kinds.Ref ∷ kinds.Long ∷ []) ∷ leaves None 127 (kinds.Long ∷ kinds.Ref ∷ []) ∷ leaves None 127 (kinds.Ref ∷ kinds.Long ∷ []) ∷ leaves None 129 (kinds.Long ∷ kinds.Ref ∷ []) ∷ leaves None 129 (kinds.Ref ∷ kinds.Long ∷ []) ∷ leaves None 131 (kinds.Long ∷ kinds.Ref ∷ []) ∷ leaves None 131 (kinds.Ref ∷ kinds.Long ∷ []) ∷ leaves None 121 (kinds.Int ∷ kinds.Ref ∷ []) ∷ leaves None 121 (kinds.Long ∷ kinds.Long ∷ []) ∷ leaves None 123 (kinds.Int ∷ kinds.Ref ∷ []) ∷ leaves None 123 (kinds.Long ∷ kinds.Long ∷ []) ∷ leaves None 125 (kinds.Int ∷ kinds.Ref ∷ []) ∷ leaves None 125 (kinds.Long ∷ kinds.Long ∷ []) ∷ leaves None 116 (kinds.Long ∷ []) ∷ leaves None 145 (kinds.Long ∷ []) ∷ leaves None 146 (kinds.Long ∷ []) ∷ leaves None 147 (kinds.Long ∷ []) ∷ leaves None 117 (kinds.Ref ∷ []) ∷ leaves None 133 (kinds.Long ∷ []) ∷ []
    ≡ None ∷ None ∷ None ∷ None ∷ None ∷ None ∷ None ∷ None ∷ None ∷ None ∷ None ∷ None ∷ None ∷ None ∷ None ∷ None ∷ None ∷ None ∷ None ∷ None ∷ None ∷ None ∷ None ∷ None ∷ None ∷ None ∷ None ∷ None ∷ None ∷ None ∷ None ∷ None ∷ None ∷ None ∷ None ∷ None ∷ None ∷ None ∷ None ∷ None ∷ []
unfolding after instruction_of simple moved
wrong_kinds_1 = refl

wrong_kinds_2 : leaves None 136 (kinds.Ref ∷ []) ∷ leaves None 148 (kinds.Long ∷ kinds.Ref ∷ []) ∷ leaves None 148 (kinds.Ref ∷ kinds.Long ∷ []) ∷ leaves None 191 (kinds.Int ∷ []) ∷ leaves None 194 (kinds.Int ∷ []) ∷ leaves None 195 (kinds.Int ∷ []) ∷ leaves None 190 (kinds.Int ∷ []) ∷ []
    ≡ None ∷ None ∷ None ∷ None ∷ None ∷ None ∷ None ∷ []
unfolding after instruction_of simple moved
wrong_kinds_2 = refl

missing_operands_0 : leaves None 46 (kinds.Int ∷ []) ∷ leaves None 51 (kinds.Int ∷ []) ∷ leaves None 52 (kinds.Int ∷ []) ∷ leaves None 53 (kinds.Int ∷ []) ∷ leaves None 47 (kinds.Int ∷ []) ∷ leaves None 50 (kinds.Int ∷ []) ∷ leaves None 79 (kinds.Int ∷ kinds.Int ∷ []) ∷ leaves None 84 (kinds.Int ∷ kinds.Int ∷ []) ∷ leaves None 85 (kinds.Int ∷ kinds.Int ∷ []) ∷ leaves None 86 (kinds.Int ∷ kinds.Int ∷ []) ∷ leaves None 80 (kinds.Long ∷ kinds.Int ∷ []) ∷ leaves None 83 (kinds.Ref ∷ kinds.Int ∷ []) ∷ leaves None 96 (kinds.Int ∷ []) ∷ leaves None 100 (kinds.Int ∷ []) ∷ leaves None 104 (kinds.Int ∷ []) ∷ leaves None 108 (kinds.Int ∷ []) ∷ leaves None 112 (kinds.Int ∷ []) ∷ leaves None 120 (kinds.Int ∷ []) ∷ leaves None 122 (kinds.Int ∷ []) ∷ leaves None 124 (kinds.Int ∷ []) ∷ leaves None 126 (kinds.Int ∷ []) ∷ leaves None 128 (kinds.Int ∷ []) ∷ leaves None 130 (kinds.Int ∷ []) ∷ leaves None 97 (kinds.Long ∷ []) ∷ leaves None 101 (kinds.Long ∷ []) ∷ leaves None 105 (kinds.Long ∷ []) ∷ leaves None 109 (kinds.Long ∷ []) ∷ leaves None 113 (kinds.Long ∷ []) ∷ leaves None 127 (kinds.Long ∷ []) ∷ leaves None 129 (kinds.Long ∷ []) ∷ leaves None 131 (kinds.Long ∷ []) ∷ leaves None 121 (kinds.Int ∷ []) ∷ leaves None 123 (kinds.Int ∷ []) ∷ leaves None 125 (kinds.Int ∷ []) ∷ leaves None 116 ([]) ∷ leaves None 145 ([]) ∷ leaves None 146 ([]) ∷ leaves None 147 ([]) ∷ leaves None 117 ([]) ∷ leaves None 133 ([]) ∷ []
    ≡ None ∷ None ∷ None ∷ None ∷ None ∷ None ∷ None ∷ None ∷ None ∷ None ∷ None ∷ None ∷ None ∷ None ∷ None ∷ None ∷ None ∷ None ∷ None ∷ None ∷ None ∷ None ∷ None ∷ None ∷ None ∷ None ∷ None ∷ None ∷ None ∷ None ∷ None ∷ None ∷ None ∷ None ∷ None ∷ None ∷ None ∷ None ∷ None ∷ None ∷ []
unfolding after instruction_of simple moved
missing_operands_0 = refl

missing_operands_1 : leaves None 136 ([]) ∷ leaves None 148 (kinds.Long ∷ []) ∷ leaves None 191 ([]) ∷ leaves None 194 ([]) ∷ leaves None 195 ([]) ∷ leaves None 190 ([]) ∷ []
    ≡ None ∷ None ∷ None ∷ None ∷ None ∷ None ∷ []
unfolding after instruction_of simple moved
missing_operands_1 = refl

stack_forms : leaves None 87 (kinds.Int ∷ kinds.Ref ∷ []) ∷ leaves None 88 (kinds.Int ∷ kinds.Ref ∷ kinds.Ref ∷ []) ∷ leaves None 88 (kinds.Long ∷ kinds.Ref ∷ []) ∷ leaves None 89 (kinds.Int ∷ kinds.Ref ∷ []) ∷ leaves None 90 (kinds.Int ∷ kinds.Ref ∷ kinds.Ref ∷ []) ∷ leaves None 91 (kinds.Int ∷ kinds.Ref ∷ kinds.Int ∷ kinds.Ref ∷ []) ∷ leaves None 91 (kinds.Int ∷ kinds.Long ∷ kinds.Ref ∷ []) ∷ leaves None 92 (kinds.Int ∷ kinds.Ref ∷ kinds.Ref ∷ []) ∷ leaves None 92 (kinds.Long ∷ kinds.Ref ∷ []) ∷ leaves None 93 (kinds.Int ∷ kinds.Ref ∷ kinds.Int ∷ kinds.Ref ∷ []) ∷ leaves None 93 (kinds.Long ∷ kinds.Ref ∷ kinds.Ref ∷ []) ∷ leaves None 94 (kinds.Int ∷ kinds.Ref ∷ kinds.Int ∷ kinds.Ref ∷ kinds.Ref ∷ []) ∷ leaves None 94 (kinds.Long ∷ kinds.Ref ∷ kinds.Int ∷ kinds.Ref ∷ []) ∷ leaves None 94 (kinds.Int ∷ kinds.Ref ∷ kinds.Long ∷ kinds.Ref ∷ []) ∷ leaves None 94 (kinds.Long ∷ kinds.Long ∷ kinds.Ref ∷ []) ∷ leaves None 95 (kinds.Int ∷ kinds.Ref ∷ kinds.Ref ∷ []) ∷ []
    ≡ Some (kinds.Ref ∷ []) ∷ Some (kinds.Ref ∷ []) ∷ Some (kinds.Ref ∷ []) ∷ Some (kinds.Int ∷ kinds.Int ∷ kinds.Ref ∷ []) ∷ Some (kinds.Int ∷ kinds.Ref ∷ kinds.Int ∷ kinds.Ref ∷ []) ∷ Some (kinds.Int ∷ kinds.Ref ∷ kinds.Int ∷ kinds.Int ∷ kinds.Ref ∷ []) ∷ Some (kinds.Int ∷ kinds.Long ∷ kinds.Int ∷ kinds.Ref ∷ []) ∷ Some (kinds.Int ∷ kinds.Ref ∷ kinds.Int ∷ kinds.Ref ∷ kinds.Ref ∷ []) ∷ Some (kinds.Long ∷ kinds.Long ∷ kinds.Ref ∷ []) ∷ Some (kinds.Int ∷ kinds.Ref ∷ kinds.Int ∷ kinds.Int ∷ kinds.Ref ∷ kinds.Ref ∷ []) ∷ Some (kinds.Long ∷ kinds.Ref ∷ kinds.Long ∷ kinds.Ref ∷ []) ∷ Some (kinds.Int ∷ kinds.Ref ∷ kinds.Int ∷ kinds.Ref ∷ kinds.Int ∷ kinds.Ref ∷ kinds.Ref ∷ []) ∷ Some (kinds.Long ∷ kinds.Ref ∷ kinds.Int ∷ kinds.Long ∷ kinds.Ref ∷ []) ∷ Some (kinds.Int ∷ kinds.Ref ∷ kinds.Long ∷ kinds.Int ∷ kinds.Ref ∷ kinds.Ref ∷ []) ∷ Some (kinds.Long ∷ kinds.Long ∷ kinds.Long ∷ kinds.Ref ∷ []) ∷ Some (kinds.Ref ∷ kinds.Int ∷ kinds.Ref ∷ []) ∷ []
unfolding after instruction_of simple moved
stack_forms = refl

stack_forms_refused : leaves None 87 (kinds.Long ∷ kinds.Int ∷ []) ∷ leaves None 88 (kinds.Int ∷ kinds.Long ∷ []) ∷ leaves None 89 (kinds.Long ∷ []) ∷ leaves None 90 (kinds.Int ∷ kinds.Long ∷ []) ∷ leaves None 90 (kinds.Long ∷ kinds.Int ∷ []) ∷ leaves None 91 (kinds.Long ∷ kinds.Int ∷ []) ∷ leaves None 91 (kinds.Int ∷ kinds.Ref ∷ kinds.Long ∷ []) ∷ leaves None 92 (kinds.Int ∷ kinds.Long ∷ []) ∷ leaves None 93 (kinds.Ref ∷ kinds.Int ∷ kinds.Long ∷ []) ∷ leaves None 93 (kinds.Long ∷ kinds.Long ∷ []) ∷ leaves None 94 (kinds.Int ∷ kinds.Ref ∷ kinds.Int ∷ kinds.Long ∷ []) ∷ leaves None 94 (kinds.Long ∷ kinds.Ref ∷ kinds.Long ∷ []) ∷ leaves None 94 (kinds.Long ∷ kinds.Int ∷ []) ∷ leaves None 95 (kinds.Long ∷ kinds.Int ∷ []) ∷ leaves None 95 (kinds.Int ∷ kinds.Long ∷ []) ∷ leaves None 87 ([]) ∷ leaves None 88 (kinds.Int ∷ []) ∷ leaves None 90 (kinds.Int ∷ []) ∷ leaves None 91 (kinds.Int ∷ kinds.Ref ∷ []) ∷ leaves None 93 (kinds.Int ∷ kinds.Ref ∷ []) ∷ leaves None 94 (kinds.Ref ∷ kinds.Int ∷ kinds.Ref ∷ []) ∷ leaves None 95 (kinds.Int ∷ []) ∷ []
    ≡ None ∷ None ∷ None ∷ None ∷ None ∷ None ∷ None ∷ None ∷ None ∷ None ∷ None ∷ None ∷ None ∷ None ∷ None ∷ None ∷ None ∷ None ∷ None ∷ None ∷ None ∷ None ∷ []
unfolding after instruction_of simple moved
stack_forms_refused = refl

full_operands : leaves None 1 (kinds.Int ∷ kinds.Int ∷ kinds.Int ∷ kinds.Int ∷ kinds.Int ∷ kinds.Int ∷ kinds.Int ∷ []) ∷ leaves None 1 (kinds.Int ∷ kinds.Int ∷ kinds.Int ∷ kinds.Int ∷ kinds.Int ∷ kinds.Int ∷ []) ∷ leaves None 9 (kinds.Int ∷ kinds.Int ∷ kinds.Int ∷ kinds.Int ∷ kinds.Int ∷ kinds.Int ∷ []) ∷ leaves None 9 (kinds.Int ∷ kinds.Int ∷ kinds.Int ∷ kinds.Int ∷ kinds.Int ∷ []) ∷ leaves None 9 (kinds.Int ∷ kinds.Long ∷ kinds.Long ∷ []) ∷ leaves None 9 (kinds.Int ∷ kinds.Int ∷ kinds.Long ∷ kinds.Long ∷ []) ∷ leaves None 133 (kinds.Int ∷ kinds.Int ∷ kinds.Int ∷ kinds.Int ∷ kinds.Int ∷ kinds.Int ∷ kinds.Int ∷ []) ∷ leaves None 133 (kinds.Int ∷ kinds.Int ∷ kinds.Int ∷ kinds.Int ∷ kinds.Int ∷ kinds.Int ∷ []) ∷ leaves None 89 (kinds.Int ∷ kinds.Int ∷ kinds.Int ∷ kinds.Int ∷ kinds.Int ∷ kinds.Int ∷ kinds.Int ∷ []) ∷ leaves None 92 (kinds.Long ∷ kinds.Long ∷ kinds.Long ∷ []) ∷ leaves None 92 (kinds.Long ∷ kinds.Long ∷ []) ∷ []
    ≡ None ∷ Some (kinds.Ref ∷ kinds.Int ∷ kinds.Int ∷ kinds.Int ∷ kinds.Int ∷ kinds.Int ∷ kinds.Int ∷ []) ∷ None ∷ Some (kinds.Long ∷ kinds.Int ∷ kinds.Int ∷ kinds.Int ∷ kinds.Int ∷ kinds.Int ∷ []) ∷ Some (kinds.Long ∷ kinds.Int ∷ kinds.Long ∷ kinds.Long ∷ []) ∷ None ∷ None ∷ Some (kinds.Long ∷ kinds.Int ∷ kinds.Int ∷ kinds.Int ∷ kinds.Int ∷ kinds.Int ∷ []) ∷ None ∷ None ∷ Some (kinds.Long ∷ kinds.Long ∷ kinds.Long ∷ []) ∷ []
unfolding after instruction_of simple moved
full_operands = refl

returns : map (λ result. leaves result 172 (kinds.Int ∷ []) ∷ leaves result 173 (kinds.Long ∷ []) ∷ leaves result 176 (kinds.Ref ∷ []) ∷ leaves result 177 [] ∷ [])
    (Some kinds.Int ∷ Some kinds.Long ∷ Some kinds.Ref ∷ None ∷ [])
    ≡ (Some [] ∷ None ∷ None ∷ None ∷ []) ∷ (None ∷ Some [] ∷ None ∷ None ∷ []) ∷ (None ∷ None ∷ Some [] ∷ None ∷ []) ∷ (None ∷ None ∷ None ∷ Some [] ∷ []) ∷ []
unfolding after instruction_of simple
returns = refl

-- the kinds of the local variables that an instruction leaves
abbrev locals_after : Instruction → List Kind → Option (List (Option Kind))
locals_after i stack = option_map (λ k. k.locals) (after (giving None) code i (record { locals = all_locals; stack = stack }))

abbrev stack_after : Instruction → List Kind → Option (List Kind)
stack_after i stack = option_map (λ k. k.stack) (after (giving None) code i (record { locals = all_locals; stack = stack }))

-- what loads the local variables 0 to 6 as ints, as longs and as references
loads : map (λ slot. stack_after (Load kinds.Int slot) [] ∷ stack_after (Load kinds.Long slot) [] ∷ stack_after (Load kinds.Ref slot) [] ∷ []) (0 ∷ 1 ∷ 2 ∷ 3 ∷ 4 ∷ 6 ∷ [])
    ≡ (Some (kinds.Int ∷ []) ∷ None ∷ None ∷ []) ∷ (None ∷ Some (kinds.Long ∷ []) ∷ None ∷ []) ∷ (None ∷ None ∷ None ∷ [])
    ∷ (None ∷ None ∷ Some (kinds.Ref ∷ []) ∷ []) ∷ (None ∷ None ∷ None ∷ []) ∷ (None ∷ None ∷ None ∷ []) ∷ []
unfolding after
loads = refl

-- an int into the second slot of a long takes the long's kind; a long takes two slots; the last slot is the sixth
stores : locals_after (Store kinds.Int 2) (kinds.Int ∷ []) ∷ locals_after (Store kinds.Long 0) (kinds.Long ∷ []) ∷ locals_after (Store kinds.Long 4) (kinds.Long ∷ [])
    ∷ locals_after (Store kinds.Long 5) (kinds.Long ∷ []) ∷ locals_after (Store kinds.Ref 5) (kinds.Ref ∷ []) ∷ locals_after (Store kinds.Ref 6) (kinds.Ref ∷ [])
    ∷ locals_after (Store kinds.Ref 1) (kinds.Ref ∷ []) ∷ locals_after (Store kinds.Ref 1) (kinds.Int ∷ []) ∷ locals_after (Store kinds.Long 2) (kinds.Long ∷ []) ∷ []
    ≡ Some (Some kinds.Int ∷ None ∷ Some kinds.Int ∷ Some kinds.Ref ∷ None ∷ None ∷ [])
    ∷ Some (Some kinds.Long ∷ None ∷ None ∷ Some kinds.Ref ∷ None ∷ None ∷ [])
    ∷ Some (Some kinds.Int ∷ Some kinds.Long ∷ None ∷ Some kinds.Ref ∷ Some kinds.Long ∷ None ∷ [])
    ∷ None
    ∷ Some (Some kinds.Int ∷ Some kinds.Long ∷ None ∷ Some kinds.Ref ∷ None ∷ Some kinds.Ref ∷ [])
    ∷ None
    ∷ Some (Some kinds.Int ∷ Some kinds.Ref ∷ None ∷ Some kinds.Ref ∷ None ∷ None ∷ [])
    ∷ None
    ∷ Some (Some kinds.Int ∷ None ∷ Some kinds.Long ∷ None ∷ None ∷ None ∷ [])
    ∷ []
unfolding after
stores = refl

increments : map (λ slot. stack_after (Increment slot (pos 1)) []) (0 ∷ 1 ∷ 2 ∷ 3 ∷ 6 ∷ []) ≡ Some [] ∷ None ∷ None ∷ None ∷ None ∷ []
unfolding after
increments = refl

int_add : does 96 (values.Int (pos 3) ∷ values.Int (pos 7) ∷ values.Ref 9 ∷ []) ∷ does 96 (values.Int (pos 3) ∷ values.Int (negsuc 6) ∷ values.Ref 9 ∷ []) ∷ does 96 (values.Int (negsuc 2) ∷ values.Int (pos 7) ∷ values.Ref 9 ∷ []) ∷ does 96 (values.Int (negsuc 2) ∷ values.Int (negsuc 6) ∷ values.Ref 9 ∷ []) ∷ does 96 (values.Int (pos 1) ∷ values.Int (pos 2147483647) ∷ values.Ref 9 ∷ []) ∷ does 96 (values.Int (negsuc 0) ∷ values.Int (negsuc 2147483647) ∷ values.Ref 9 ∷ []) ∷ does 96 (values.Int (pos 1) ∷ values.Int (negsuc 2147483647) ∷ values.Ref 9 ∷ []) ∷ does 96 (values.Int (pos 33) ∷ values.Int (pos 5) ∷ values.Ref 9 ∷ []) ∷ does 96 (values.Int (pos 31) ∷ values.Int (negsuc 0) ∷ values.Ref 9 ∷ []) ∷ does 96 (values.Int (pos 1) ∷ values.Int (negsuc 7) ∷ values.Ref 9 ∷ []) ∷ does 96 (values.Int (pos 987654) ∷ values.Int (pos 123456789) ∷ values.Ref 9 ∷ []) ∷ []
    ≡ Some (pushed [] (values.Ref 9 ∷ []) (values.Int (pos 10))) ∷ Some (pushed [] (values.Ref 9 ∷ []) (values.Int (negsuc 3))) ∷ Some (pushed [] (values.Ref 9 ∷ []) (values.Int (pos 4))) ∷ Some (pushed [] (values.Ref 9 ∷ []) (values.Int (negsuc 9))) ∷ Some (pushed [] (values.Ref 9 ∷ []) (values.Int (negsuc 2147483647))) ∷ Some (pushed [] (values.Ref 9 ∷ []) (values.Int (pos 2147483647))) ∷ Some (pushed [] (values.Ref 9 ∷ []) (values.Int (negsuc 2147483646))) ∷ Some (pushed [] (values.Ref 9 ∷ []) (values.Int (pos 38))) ∷ Some (pushed [] (values.Ref 9 ∷ []) (values.Int (pos 30))) ∷ Some (pushed [] (values.Ref 9 ∷ []) (values.Int (negsuc 6))) ∷ Some (pushed [] (values.Ref 9 ∷ []) (values.Int (pos 124444443))) ∷ []
unfolding on_values compute convert instruction_of simple int_wrap moved
int_add = refl

long_add : does 97 (values.Long (pos 3) ∷ values.Long (pos 7) ∷ []) ∷ does 97 (values.Long (pos 3) ∷ values.Long (negsuc 6) ∷ []) ∷ does 97 (values.Long (negsuc 2) ∷ values.Long (pos 7) ∷ []) ∷ does 97 (values.Long (pos 1) ∷ values.Long (pos 9223372036854775807) ∷ []) ∷ does 97 (values.Long (negsuc 0) ∷ values.Long (negsuc 9223372036854775807) ∷ []) ∷ does 97 (values.Long (pos 1) ∷ values.Long (negsuc 9223372036854775807) ∷ []) ∷ does 97 (values.Long (pos 65) ∷ values.Long (negsuc 7) ∷ []) ∷ does 97 (values.Long (pos 98765432109) ∷ values.Long (pos 123456789012) ∷ []) ∷ does 97 (values.Long (pos 2147483648) ∷ values.Long (pos 2147483648) ∷ []) ∷ []
    ≡ Some (pushed [] [] (values.Long (pos 10))) ∷ Some (pushed [] [] (values.Long (negsuc 3))) ∷ Some (pushed [] [] (values.Long (pos 4))) ∷ Some (pushed [] [] (values.Long (negsuc 9223372036854775807))) ∷ Some (pushed [] [] (values.Long (pos 9223372036854775807))) ∷ Some (pushed [] [] (values.Long (negsuc 9223372036854775806))) ∷ Some (pushed [] [] (values.Long (pos 57))) ∷ Some (pushed [] [] (values.Long (pos 222222221121))) ∷ Some (pushed [] [] (values.Long (pos 4294967296))) ∷ []
unfolding on_values compute convert instruction_of simple int_wrap moved
long_add = refl

int_sub : does 100 (values.Int (pos 3) ∷ values.Int (pos 7) ∷ values.Ref 9 ∷ []) ∷ does 100 (values.Int (pos 3) ∷ values.Int (negsuc 6) ∷ values.Ref 9 ∷ []) ∷ does 100 (values.Int (negsuc 2) ∷ values.Int (pos 7) ∷ values.Ref 9 ∷ []) ∷ does 100 (values.Int (negsuc 2) ∷ values.Int (negsuc 6) ∷ values.Ref 9 ∷ []) ∷ does 100 (values.Int (pos 1) ∷ values.Int (pos 2147483647) ∷ values.Ref 9 ∷ []) ∷ does 100 (values.Int (negsuc 0) ∷ values.Int (negsuc 2147483647) ∷ values.Ref 9 ∷ []) ∷ does 100 (values.Int (pos 1) ∷ values.Int (negsuc 2147483647) ∷ values.Ref 9 ∷ []) ∷ does 100 (values.Int (pos 33) ∷ values.Int (pos 5) ∷ values.Ref 9 ∷ []) ∷ does 100 (values.Int (pos 31) ∷ values.Int (negsuc 0) ∷ values.Ref 9 ∷ []) ∷ does 100 (values.Int (pos 1) ∷ values.Int (negsuc 7) ∷ values.Ref 9 ∷ []) ∷ does 100 (values.Int (pos 987654) ∷ values.Int (pos 123456789) ∷ values.Ref 9 ∷ []) ∷ []
    ≡ Some (pushed [] (values.Ref 9 ∷ []) (values.Int (pos 4))) ∷ Some (pushed [] (values.Ref 9 ∷ []) (values.Int (negsuc 9))) ∷ Some (pushed [] (values.Ref 9 ∷ []) (values.Int (pos 10))) ∷ Some (pushed [] (values.Ref 9 ∷ []) (values.Int (negsuc 3))) ∷ Some (pushed [] (values.Ref 9 ∷ []) (values.Int (pos 2147483646))) ∷ Some (pushed [] (values.Ref 9 ∷ []) (values.Int (negsuc 2147483646))) ∷ Some (pushed [] (values.Ref 9 ∷ []) (values.Int (pos 2147483647))) ∷ Some (pushed [] (values.Ref 9 ∷ []) (values.Int (negsuc 27))) ∷ Some (pushed [] (values.Ref 9 ∷ []) (values.Int (negsuc 31))) ∷ Some (pushed [] (values.Ref 9 ∷ []) (values.Int (negsuc 8))) ∷ Some (pushed [] (values.Ref 9 ∷ []) (values.Int (pos 122469135))) ∷ []
unfolding on_values compute convert instruction_of simple int_wrap moved
int_sub = refl

long_sub : does 101 (values.Long (pos 3) ∷ values.Long (pos 7) ∷ []) ∷ does 101 (values.Long (pos 3) ∷ values.Long (negsuc 6) ∷ []) ∷ does 101 (values.Long (negsuc 2) ∷ values.Long (pos 7) ∷ []) ∷ does 101 (values.Long (pos 1) ∷ values.Long (pos 9223372036854775807) ∷ []) ∷ does 101 (values.Long (negsuc 0) ∷ values.Long (negsuc 9223372036854775807) ∷ []) ∷ does 101 (values.Long (pos 1) ∷ values.Long (negsuc 9223372036854775807) ∷ []) ∷ does 101 (values.Long (pos 65) ∷ values.Long (negsuc 7) ∷ []) ∷ does 101 (values.Long (pos 98765432109) ∷ values.Long (pos 123456789012) ∷ []) ∷ does 101 (values.Long (pos 2147483648) ∷ values.Long (pos 2147483648) ∷ []) ∷ []
    ≡ Some (pushed [] [] (values.Long (pos 4))) ∷ Some (pushed [] [] (values.Long (negsuc 9))) ∷ Some (pushed [] [] (values.Long (pos 10))) ∷ Some (pushed [] [] (values.Long (pos 9223372036854775806))) ∷ Some (pushed [] [] (values.Long (negsuc 9223372036854775806))) ∷ Some (pushed [] [] (values.Long (pos 9223372036854775807))) ∷ Some (pushed [] [] (values.Long (negsuc 72))) ∷ Some (pushed [] [] (values.Long (pos 24691356903))) ∷ Some (pushed [] [] (values.Long (pos 0))) ∷ []
unfolding on_values compute convert instruction_of simple int_wrap moved
long_sub = refl

int_mul : does 104 (values.Int (pos 3) ∷ values.Int (pos 7) ∷ values.Ref 9 ∷ []) ∷ does 104 (values.Int (pos 3) ∷ values.Int (negsuc 6) ∷ values.Ref 9 ∷ []) ∷ does 104 (values.Int (negsuc 2) ∷ values.Int (pos 7) ∷ values.Ref 9 ∷ []) ∷ does 104 (values.Int (negsuc 2) ∷ values.Int (negsuc 6) ∷ values.Ref 9 ∷ []) ∷ does 104 (values.Int (pos 1) ∷ values.Int (pos 2147483647) ∷ values.Ref 9 ∷ []) ∷ does 104 (values.Int (negsuc 0) ∷ values.Int (negsuc 2147483647) ∷ values.Ref 9 ∷ []) ∷ does 104 (values.Int (pos 1) ∷ values.Int (negsuc 2147483647) ∷ values.Ref 9 ∷ []) ∷ does 104 (values.Int (pos 33) ∷ values.Int (pos 5) ∷ values.Ref 9 ∷ []) ∷ does 104 (values.Int (pos 31) ∷ values.Int (negsuc 0) ∷ values.Ref 9 ∷ []) ∷ does 104 (values.Int (pos 1) ∷ values.Int (negsuc 7) ∷ values.Ref 9 ∷ []) ∷ does 104 (values.Int (pos 987654) ∷ values.Int (pos 123456789) ∷ values.Ref 9 ∷ []) ∷ []
    ≡ Some (pushed [] (values.Ref 9 ∷ []) (values.Int (pos 21))) ∷ Some (pushed [] (values.Ref 9 ∷ []) (values.Int (negsuc 20))) ∷ Some (pushed [] (values.Ref 9 ∷ []) (values.Int (negsuc 20))) ∷ Some (pushed [] (values.Ref 9 ∷ []) (values.Int (pos 21))) ∷ Some (pushed [] (values.Ref 9 ∷ []) (values.Int (pos 2147483647))) ∷ Some (pushed [] (values.Ref 9 ∷ []) (values.Int (negsuc 2147483647))) ∷ Some (pushed [] (values.Ref 9 ∷ []) (values.Int (negsuc 2147483647))) ∷ Some (pushed [] (values.Ref 9 ∷ []) (values.Int (pos 165))) ∷ Some (pushed [] (values.Ref 9 ∷ []) (values.Int (negsuc 30))) ∷ Some (pushed [] (values.Ref 9 ∷ []) (values.Int (negsuc 7))) ∷ Some (pushed [] (values.Ref 9 ∷ []) (values.Int (negsuc 1530050433))) ∷ []
unfolding on_values compute convert instruction_of simple int_wrap moved
int_mul = refl

long_mul : does 105 (values.Long (pos 3) ∷ values.Long (pos 7) ∷ []) ∷ does 105 (values.Long (pos 3) ∷ values.Long (negsuc 6) ∷ []) ∷ does 105 (values.Long (negsuc 2) ∷ values.Long (pos 7) ∷ []) ∷ does 105 (values.Long (pos 1) ∷ values.Long (pos 9223372036854775807) ∷ []) ∷ does 105 (values.Long (negsuc 0) ∷ values.Long (negsuc 9223372036854775807) ∷ []) ∷ does 105 (values.Long (pos 1) ∷ values.Long (negsuc 9223372036854775807) ∷ []) ∷ does 105 (values.Long (pos 65) ∷ values.Long (negsuc 7) ∷ []) ∷ does 105 (values.Long (pos 98765432109) ∷ values.Long (pos 123456789012) ∷ []) ∷ does 105 (values.Long (pos 2147483648) ∷ values.Long (pos 2147483648) ∷ []) ∷ []
    ≡ Some (pushed [] [] (values.Long (pos 21))) ∷ Some (pushed [] [] (values.Long (negsuc 20))) ∷ Some (pushed [] [] (values.Long (negsuc 20))) ∷ Some (pushed [] [] (values.Long (pos 9223372036854775807))) ∷ Some (pushed [] [] (values.Long (negsuc 9223372036854775807))) ∷ Some (pushed [] [] (values.Long (negsuc 9223372036854775807))) ∷ Some (pushed [] [] (values.Long (negsuc 519))) ∷ Some (pushed [] [] (values.Long (negsuc 34719162190431867))) ∷ Some (pushed [] [] (values.Long (pos 4611686018427387904))) ∷ []
unfolding on_values compute convert instruction_of simple int_wrap moved
long_mul = refl

int_div : does 108 (values.Int (pos 3) ∷ values.Int (pos 7) ∷ values.Ref 9 ∷ []) ∷ does 108 (values.Int (pos 3) ∷ values.Int (negsuc 6) ∷ values.Ref 9 ∷ []) ∷ does 108 (values.Int (negsuc 2) ∷ values.Int (pos 7) ∷ values.Ref 9 ∷ []) ∷ does 108 (values.Int (negsuc 2) ∷ values.Int (negsuc 6) ∷ values.Ref 9 ∷ []) ∷ does 108 (values.Int (pos 1) ∷ values.Int (pos 2147483647) ∷ values.Ref 9 ∷ []) ∷ does 108 (values.Int (negsuc 0) ∷ values.Int (negsuc 2147483647) ∷ values.Ref 9 ∷ []) ∷ does 108 (values.Int (pos 1) ∷ values.Int (negsuc 2147483647) ∷ values.Ref 9 ∷ []) ∷ does 108 (values.Int (pos 33) ∷ values.Int (pos 5) ∷ values.Ref 9 ∷ []) ∷ does 108 (values.Int (pos 31) ∷ values.Int (negsuc 0) ∷ values.Ref 9 ∷ []) ∷ does 108 (values.Int (pos 1) ∷ values.Int (negsuc 7) ∷ values.Ref 9 ∷ []) ∷ does 108 (values.Int (pos 987654) ∷ values.Int (pos 123456789) ∷ values.Ref 9 ∷ []) ∷ []
    ≡ Some (pushed [] (values.Ref 9 ∷ []) (values.Int (pos 2))) ∷ Some (pushed [] (values.Ref 9 ∷ []) (values.Int (negsuc 1))) ∷ Some (pushed [] (values.Ref 9 ∷ []) (values.Int (negsuc 1))) ∷ Some (pushed [] (values.Ref 9 ∷ []) (values.Int (pos 2))) ∷ Some (pushed [] (values.Ref 9 ∷ []) (values.Int (pos 2147483647))) ∷ Some (pushed [] (values.Ref 9 ∷ []) (values.Int (negsuc 2147483647))) ∷ Some (pushed [] (values.Ref 9 ∷ []) (values.Int (negsuc 2147483647))) ∷ Some (pushed [] (values.Ref 9 ∷ []) (values.Int (pos 0))) ∷ Some (pushed [] (values.Ref 9 ∷ []) (values.Int (pos 0))) ∷ Some (pushed [] (values.Ref 9 ∷ []) (values.Int (negsuc 7))) ∷ Some (pushed [] (values.Ref 9 ∷ []) (values.Int (pos 125))) ∷ []
unfolding on_values compute convert instruction_of simple int_wrap moved
int_div = refl

long_div : does 109 (values.Long (pos 3) ∷ values.Long (pos 7) ∷ []) ∷ does 109 (values.Long (pos 3) ∷ values.Long (negsuc 6) ∷ []) ∷ does 109 (values.Long (negsuc 2) ∷ values.Long (pos 7) ∷ []) ∷ does 109 (values.Long (pos 1) ∷ values.Long (pos 9223372036854775807) ∷ []) ∷ does 109 (values.Long (negsuc 0) ∷ values.Long (negsuc 9223372036854775807) ∷ []) ∷ does 109 (values.Long (pos 1) ∷ values.Long (negsuc 9223372036854775807) ∷ []) ∷ does 109 (values.Long (pos 65) ∷ values.Long (negsuc 7) ∷ []) ∷ does 109 (values.Long (pos 98765432109) ∷ values.Long (pos 123456789012) ∷ []) ∷ does 109 (values.Long (pos 2147483648) ∷ values.Long (pos 2147483648) ∷ []) ∷ []
    ≡ Some (pushed [] [] (values.Long (pos 2))) ∷ Some (pushed [] [] (values.Long (negsuc 1))) ∷ Some (pushed [] [] (values.Long (negsuc 1))) ∷ Some (pushed [] [] (values.Long (pos 9223372036854775807))) ∷ Some (pushed [] [] (values.Long (negsuc 9223372036854775807))) ∷ Some (pushed [] [] (values.Long (negsuc 9223372036854775807))) ∷ Some (pushed [] [] (values.Long (pos 0))) ∷ Some (pushed [] [] (values.Long (pos 1))) ∷ Some (pushed [] [] (values.Long (pos 1))) ∷ []
unfolding on_values compute convert instruction_of simple int_wrap moved
long_div = refl

int_rem : does 112 (values.Int (pos 3) ∷ values.Int (pos 7) ∷ values.Ref 9 ∷ []) ∷ does 112 (values.Int (pos 3) ∷ values.Int (negsuc 6) ∷ values.Ref 9 ∷ []) ∷ does 112 (values.Int (negsuc 2) ∷ values.Int (pos 7) ∷ values.Ref 9 ∷ []) ∷ does 112 (values.Int (negsuc 2) ∷ values.Int (negsuc 6) ∷ values.Ref 9 ∷ []) ∷ does 112 (values.Int (pos 1) ∷ values.Int (pos 2147483647) ∷ values.Ref 9 ∷ []) ∷ does 112 (values.Int (negsuc 0) ∷ values.Int (negsuc 2147483647) ∷ values.Ref 9 ∷ []) ∷ does 112 (values.Int (pos 1) ∷ values.Int (negsuc 2147483647) ∷ values.Ref 9 ∷ []) ∷ does 112 (values.Int (pos 33) ∷ values.Int (pos 5) ∷ values.Ref 9 ∷ []) ∷ does 112 (values.Int (pos 31) ∷ values.Int (negsuc 0) ∷ values.Ref 9 ∷ []) ∷ does 112 (values.Int (pos 1) ∷ values.Int (negsuc 7) ∷ values.Ref 9 ∷ []) ∷ does 112 (values.Int (pos 987654) ∷ values.Int (pos 123456789) ∷ values.Ref 9 ∷ []) ∷ []
    ≡ Some (pushed [] (values.Ref 9 ∷ []) (values.Int (pos 1))) ∷ Some (pushed [] (values.Ref 9 ∷ []) (values.Int (negsuc 0))) ∷ Some (pushed [] (values.Ref 9 ∷ []) (values.Int (pos 1))) ∷ Some (pushed [] (values.Ref 9 ∷ []) (values.Int (negsuc 0))) ∷ Some (pushed [] (values.Ref 9 ∷ []) (values.Int (pos 0))) ∷ Some (pushed [] (values.Ref 9 ∷ []) (values.Int (pos 0))) ∷ Some (pushed [] (values.Ref 9 ∷ []) (values.Int (pos 0))) ∷ Some (pushed [] (values.Ref 9 ∷ []) (values.Int (pos 5))) ∷ Some (pushed [] (values.Ref 9 ∷ []) (values.Int (negsuc 0))) ∷ Some (pushed [] (values.Ref 9 ∷ []) (values.Int (pos 0))) ∷ Some (pushed [] (values.Ref 9 ∷ []) (values.Int (pos 39))) ∷ []
unfolding on_values compute convert instruction_of simple int_wrap moved
int_rem = refl

long_rem : does 113 (values.Long (pos 3) ∷ values.Long (pos 7) ∷ []) ∷ does 113 (values.Long (pos 3) ∷ values.Long (negsuc 6) ∷ []) ∷ does 113 (values.Long (negsuc 2) ∷ values.Long (pos 7) ∷ []) ∷ does 113 (values.Long (pos 1) ∷ values.Long (pos 9223372036854775807) ∷ []) ∷ does 113 (values.Long (negsuc 0) ∷ values.Long (negsuc 9223372036854775807) ∷ []) ∷ does 113 (values.Long (pos 1) ∷ values.Long (negsuc 9223372036854775807) ∷ []) ∷ does 113 (values.Long (pos 65) ∷ values.Long (negsuc 7) ∷ []) ∷ does 113 (values.Long (pos 98765432109) ∷ values.Long (pos 123456789012) ∷ []) ∷ does 113 (values.Long (pos 2147483648) ∷ values.Long (pos 2147483648) ∷ []) ∷ []
    ≡ Some (pushed [] [] (values.Long (pos 1))) ∷ Some (pushed [] [] (values.Long (negsuc 0))) ∷ Some (pushed [] [] (values.Long (pos 1))) ∷ Some (pushed [] [] (values.Long (pos 0))) ∷ Some (pushed [] [] (values.Long (pos 0))) ∷ Some (pushed [] [] (values.Long (pos 0))) ∷ Some (pushed [] [] (values.Long (negsuc 7))) ∷ Some (pushed [] [] (values.Long (pos 24691356903))) ∷ Some (pushed [] [] (values.Long (pos 0))) ∷ []
unfolding on_values compute convert instruction_of simple int_wrap moved
long_rem = refl

int_shl : does 120 (values.Int (pos 3) ∷ values.Int (pos 7) ∷ values.Ref 9 ∷ []) ∷ does 120 (values.Int (pos 3) ∷ values.Int (negsuc 6) ∷ values.Ref 9 ∷ []) ∷ does 120 (values.Int (negsuc 2) ∷ values.Int (pos 7) ∷ values.Ref 9 ∷ []) ∷ does 120 (values.Int (negsuc 2) ∷ values.Int (negsuc 6) ∷ values.Ref 9 ∷ []) ∷ does 120 (values.Int (pos 1) ∷ values.Int (pos 2147483647) ∷ values.Ref 9 ∷ []) ∷ does 120 (values.Int (negsuc 0) ∷ values.Int (negsuc 2147483647) ∷ values.Ref 9 ∷ []) ∷ does 120 (values.Int (pos 1) ∷ values.Int (negsuc 2147483647) ∷ values.Ref 9 ∷ []) ∷ does 120 (values.Int (pos 33) ∷ values.Int (pos 5) ∷ values.Ref 9 ∷ []) ∷ does 120 (values.Int (pos 31) ∷ values.Int (negsuc 0) ∷ values.Ref 9 ∷ []) ∷ does 120 (values.Int (pos 1) ∷ values.Int (negsuc 7) ∷ values.Ref 9 ∷ []) ∷ does 120 (values.Int (pos 987654) ∷ values.Int (pos 123456789) ∷ values.Ref 9 ∷ []) ∷ []
    ≡ Some (pushed [] (values.Ref 9 ∷ []) (values.Int (pos 56))) ∷ Some (pushed [] (values.Ref 9 ∷ []) (values.Int (negsuc 55))) ∷ Some (pushed [] (values.Ref 9 ∷ []) (values.Int (negsuc 536870911))) ∷ Some (pushed [] (values.Ref 9 ∷ []) (values.Int (pos 536870912))) ∷ Some (pushed [] (values.Ref 9 ∷ []) (values.Int (negsuc 1))) ∷ Some (pushed [] (values.Ref 9 ∷ []) (values.Int (pos 0))) ∷ Some (pushed [] (values.Ref 9 ∷ []) (values.Int (pos 0))) ∷ Some (pushed [] (values.Ref 9 ∷ []) (values.Int (pos 10))) ∷ Some (pushed [] (values.Ref 9 ∷ []) (values.Int (negsuc 2147483647))) ∷ Some (pushed [] (values.Ref 9 ∷ []) (values.Int (negsuc 15))) ∷ Some (pushed [] (values.Ref 9 ∷ []) (values.Int (negsuc 688700095))) ∷ []
unfolding on_values compute convert instruction_of simple int_wrap moved
int_shl = refl

long_shl : does 121 (values.Int (pos 3) ∷ values.Long (pos 7) ∷ []) ∷ does 121 (values.Int (pos 3) ∷ values.Long (negsuc 6) ∷ []) ∷ does 121 (values.Int (negsuc 2) ∷ values.Long (pos 7) ∷ []) ∷ does 121 (values.Int (pos 1) ∷ values.Long (pos 9223372036854775807) ∷ []) ∷ does 121 (values.Int (negsuc 0) ∷ values.Long (negsuc 9223372036854775807) ∷ []) ∷ does 121 (values.Int (pos 1) ∷ values.Long (negsuc 9223372036854775807) ∷ []) ∷ does 121 (values.Int (pos 65) ∷ values.Long (negsuc 7) ∷ []) ∷ does 121 (values.Int (negsuc 18815698) ∷ values.Long (pos 123456789012) ∷ []) ∷ does 121 (values.Int (negsuc 2147483647) ∷ values.Long (pos 2147483648) ∷ []) ∷ []
    ≡ Some (pushed [] [] (values.Long (pos 56))) ∷ Some (pushed [] [] (values.Long (negsuc 55))) ∷ Some (pushed [] [] (values.Long (negsuc 2305843009213693951))) ∷ Some (pushed [] [] (values.Long (negsuc 1))) ∷ Some (pushed [] [] (values.Long (pos 0))) ∷ Some (pushed [] [] (values.Long (pos 0))) ∷ Some (pushed [] [] (values.Long (negsuc 15))) ∷ Some (pushed [] [] (values.Long (pos 2540733877278736384))) ∷ Some (pushed [] [] (values.Long (pos 2147483648))) ∷ []
unfolding on_values compute convert instruction_of simple int_wrap moved
long_shl = refl

int_shr : does 122 (values.Int (pos 3) ∷ values.Int (pos 7) ∷ values.Ref 9 ∷ []) ∷ does 122 (values.Int (pos 3) ∷ values.Int (negsuc 6) ∷ values.Ref 9 ∷ []) ∷ does 122 (values.Int (negsuc 2) ∷ values.Int (pos 7) ∷ values.Ref 9 ∷ []) ∷ does 122 (values.Int (negsuc 2) ∷ values.Int (negsuc 6) ∷ values.Ref 9 ∷ []) ∷ does 122 (values.Int (pos 1) ∷ values.Int (pos 2147483647) ∷ values.Ref 9 ∷ []) ∷ does 122 (values.Int (negsuc 0) ∷ values.Int (negsuc 2147483647) ∷ values.Ref 9 ∷ []) ∷ does 122 (values.Int (pos 1) ∷ values.Int (negsuc 2147483647) ∷ values.Ref 9 ∷ []) ∷ does 122 (values.Int (pos 33) ∷ values.Int (pos 5) ∷ values.Ref 9 ∷ []) ∷ does 122 (values.Int (pos 31) ∷ values.Int (negsuc 0) ∷ values.Ref 9 ∷ []) ∷ does 122 (values.Int (pos 1) ∷ values.Int (negsuc 7) ∷ values.Ref 9 ∷ []) ∷ does 122 (values.Int (pos 987654) ∷ values.Int (pos 123456789) ∷ values.Ref 9 ∷ []) ∷ []
    ≡ Some (pushed [] (values.Ref 9 ∷ []) (values.Int (pos 0))) ∷ Some (pushed [] (values.Ref 9 ∷ []) (values.Int (negsuc 0))) ∷ Some (pushed [] (values.Ref 9 ∷ []) (values.Int (pos 0))) ∷ Some (pushed [] (values.Ref 9 ∷ []) (values.Int (negsuc 0))) ∷ Some (pushed [] (values.Ref 9 ∷ []) (values.Int (pos 1073741823))) ∷ Some (pushed [] (values.Ref 9 ∷ []) (values.Int (negsuc 0))) ∷ Some (pushed [] (values.Ref 9 ∷ []) (values.Int (negsuc 1073741823))) ∷ Some (pushed [] (values.Ref 9 ∷ []) (values.Int (pos 2))) ∷ Some (pushed [] (values.Ref 9 ∷ []) (values.Int (negsuc 0))) ∷ Some (pushed [] (values.Ref 9 ∷ []) (values.Int (negsuc 3))) ∷ Some (pushed [] (values.Ref 9 ∷ []) (values.Int (pos 1929012))) ∷ []
unfolding on_values compute convert instruction_of simple int_wrap moved
int_shr = refl

long_shr : does 123 (values.Int (pos 3) ∷ values.Long (pos 7) ∷ []) ∷ does 123 (values.Int (pos 3) ∷ values.Long (negsuc 6) ∷ []) ∷ does 123 (values.Int (negsuc 2) ∷ values.Long (pos 7) ∷ []) ∷ does 123 (values.Int (pos 1) ∷ values.Long (pos 9223372036854775807) ∷ []) ∷ does 123 (values.Int (negsuc 0) ∷ values.Long (negsuc 9223372036854775807) ∷ []) ∷ does 123 (values.Int (pos 1) ∷ values.Long (negsuc 9223372036854775807) ∷ []) ∷ does 123 (values.Int (pos 65) ∷ values.Long (negsuc 7) ∷ []) ∷ does 123 (values.Int (negsuc 18815698) ∷ values.Long (pos 123456789012) ∷ []) ∷ does 123 (values.Int (negsuc 2147483647) ∷ values.Long (pos 2147483648) ∷ []) ∷ []
    ≡ Some (pushed [] [] (values.Long (pos 0))) ∷ Some (pushed [] [] (values.Long (negsuc 0))) ∷ Some (pushed [] [] (values.Long (pos 0))) ∷ Some (pushed [] [] (values.Long (pos 4611686018427387903))) ∷ Some (pushed [] [] (values.Long (negsuc 0))) ∷ Some (pushed [] [] (values.Long (negsuc 4611686018427387903))) ∷ Some (pushed [] [] (values.Long (negsuc 3))) ∷ Some (pushed [] [] (values.Long (pos 0))) ∷ Some (pushed [] [] (values.Long (pos 2147483648))) ∷ []
unfolding on_values compute convert instruction_of simple int_wrap moved
long_shr = refl

int_ushr : does 124 (values.Int (pos 3) ∷ values.Int (pos 7) ∷ values.Ref 9 ∷ []) ∷ does 124 (values.Int (pos 3) ∷ values.Int (negsuc 6) ∷ values.Ref 9 ∷ []) ∷ does 124 (values.Int (negsuc 2) ∷ values.Int (pos 7) ∷ values.Ref 9 ∷ []) ∷ does 124 (values.Int (negsuc 2) ∷ values.Int (negsuc 6) ∷ values.Ref 9 ∷ []) ∷ does 124 (values.Int (pos 1) ∷ values.Int (pos 2147483647) ∷ values.Ref 9 ∷ []) ∷ does 124 (values.Int (negsuc 0) ∷ values.Int (negsuc 2147483647) ∷ values.Ref 9 ∷ []) ∷ does 124 (values.Int (pos 1) ∷ values.Int (negsuc 2147483647) ∷ values.Ref 9 ∷ []) ∷ does 124 (values.Int (pos 33) ∷ values.Int (pos 5) ∷ values.Ref 9 ∷ []) ∷ does 124 (values.Int (pos 31) ∷ values.Int (negsuc 0) ∷ values.Ref 9 ∷ []) ∷ does 124 (values.Int (pos 1) ∷ values.Int (negsuc 7) ∷ values.Ref 9 ∷ []) ∷ does 124 (values.Int (pos 987654) ∷ values.Int (pos 123456789) ∷ values.Ref 9 ∷ []) ∷ []
    ≡ Some (pushed [] (values.Ref 9 ∷ []) (values.Int (pos 0))) ∷ Some (pushed [] (values.Ref 9 ∷ []) (values.Int (pos 536870911))) ∷ Some (pushed [] (values.Ref 9 ∷ []) (values.Int (pos 0))) ∷ Some (pushed [] (values.Ref 9 ∷ []) (values.Int (pos 7))) ∷ Some (pushed [] (values.Ref 9 ∷ []) (values.Int (pos 1073741823))) ∷ Some (pushed [] (values.Ref 9 ∷ []) (values.Int (pos 1))) ∷ Some (pushed [] (values.Ref 9 ∷ []) (values.Int (pos 1073741824))) ∷ Some (pushed [] (values.Ref 9 ∷ []) (values.Int (pos 2))) ∷ Some (pushed [] (values.Ref 9 ∷ []) (values.Int (pos 1))) ∷ Some (pushed [] (values.Ref 9 ∷ []) (values.Int (pos 2147483644))) ∷ Some (pushed [] (values.Ref 9 ∷ []) (values.Int (pos 1929012))) ∷ []
unfolding on_values compute convert instruction_of simple int_wrap moved
int_ushr = refl

long_ushr : does 125 (values.Int (pos 3) ∷ values.Long (pos 7) ∷ []) ∷ does 125 (values.Int (pos 3) ∷ values.Long (negsuc 6) ∷ []) ∷ does 125 (values.Int (negsuc 2) ∷ values.Long (pos 7) ∷ []) ∷ does 125 (values.Int (pos 1) ∷ values.Long (pos 9223372036854775807) ∷ []) ∷ does 125 (values.Int (negsuc 0) ∷ values.Long (negsuc 9223372036854775807) ∷ []) ∷ does 125 (values.Int (pos 1) ∷ values.Long (negsuc 9223372036854775807) ∷ []) ∷ does 125 (values.Int (pos 65) ∷ values.Long (negsuc 7) ∷ []) ∷ does 125 (values.Int (negsuc 18815698) ∷ values.Long (pos 123456789012) ∷ []) ∷ does 125 (values.Int (negsuc 2147483647) ∷ values.Long (pos 2147483648) ∷ []) ∷ []
    ≡ Some (pushed [] [] (values.Long (pos 0))) ∷ Some (pushed [] [] (values.Long (pos 2305843009213693951))) ∷ Some (pushed [] [] (values.Long (pos 0))) ∷ Some (pushed [] [] (values.Long (pos 4611686018427387903))) ∷ Some (pushed [] [] (values.Long (pos 1))) ∷ Some (pushed [] [] (values.Long (pos 4611686018427387904))) ∷ Some (pushed [] [] (values.Long (pos 9223372036854775804))) ∷ Some (pushed [] [] (values.Long (pos 0))) ∷ Some (pushed [] [] (values.Long (pos 2147483648))) ∷ []
unfolding on_values compute convert instruction_of simple int_wrap moved
long_ushr = refl

int_and : does 126 (values.Int (pos 3) ∷ values.Int (pos 7) ∷ values.Ref 9 ∷ []) ∷ does 126 (values.Int (pos 3) ∷ values.Int (negsuc 6) ∷ values.Ref 9 ∷ []) ∷ does 126 (values.Int (negsuc 2) ∷ values.Int (pos 7) ∷ values.Ref 9 ∷ []) ∷ does 126 (values.Int (negsuc 2) ∷ values.Int (negsuc 6) ∷ values.Ref 9 ∷ []) ∷ does 126 (values.Int (pos 1) ∷ values.Int (pos 2147483647) ∷ values.Ref 9 ∷ []) ∷ does 126 (values.Int (negsuc 0) ∷ values.Int (negsuc 2147483647) ∷ values.Ref 9 ∷ []) ∷ does 126 (values.Int (pos 1) ∷ values.Int (negsuc 2147483647) ∷ values.Ref 9 ∷ []) ∷ does 126 (values.Int (pos 33) ∷ values.Int (pos 5) ∷ values.Ref 9 ∷ []) ∷ does 126 (values.Int (pos 31) ∷ values.Int (negsuc 0) ∷ values.Ref 9 ∷ []) ∷ does 126 (values.Int (pos 1) ∷ values.Int (negsuc 7) ∷ values.Ref 9 ∷ []) ∷ does 126 (values.Int (pos 987654) ∷ values.Int (pos 123456789) ∷ values.Ref 9 ∷ []) ∷ []
    ≡ Some (pushed [] (values.Ref 9 ∷ []) (values.Int (pos 3))) ∷ Some (pushed [] (values.Ref 9 ∷ []) (values.Int (pos 1))) ∷ Some (pushed [] (values.Ref 9 ∷ []) (values.Int (pos 5))) ∷ Some (pushed [] (values.Ref 9 ∷ []) (values.Int (negsuc 6))) ∷ Some (pushed [] (values.Ref 9 ∷ []) (values.Int (pos 1))) ∷ Some (pushed [] (values.Ref 9 ∷ []) (values.Int (negsuc 2147483647))) ∷ Some (pushed [] (values.Ref 9 ∷ []) (values.Int (pos 0))) ∷ Some (pushed [] (values.Ref 9 ∷ []) (values.Int (pos 1))) ∷ Some (pushed [] (values.Ref 9 ∷ []) (values.Int (pos 31))) ∷ Some (pushed [] (values.Ref 9 ∷ []) (values.Int (pos 0))) ∷ Some (pushed [] (values.Ref 9 ∷ []) (values.Int (pos 720900))) ∷ []
unfolding on_values compute convert instruction_of simple int_wrap moved
int_and = refl

long_and : does 127 (values.Long (pos 3) ∷ values.Long (pos 7) ∷ []) ∷ does 127 (values.Long (pos 3) ∷ values.Long (negsuc 6) ∷ []) ∷ does 127 (values.Long (negsuc 2) ∷ values.Long (pos 7) ∷ []) ∷ does 127 (values.Long (pos 1) ∷ values.Long (pos 9223372036854775807) ∷ []) ∷ does 127 (values.Long (negsuc 0) ∷ values.Long (negsuc 9223372036854775807) ∷ []) ∷ does 127 (values.Long (pos 1) ∷ values.Long (negsuc 9223372036854775807) ∷ []) ∷ does 127 (values.Long (pos 65) ∷ values.Long (negsuc 7) ∷ []) ∷ does 127 (values.Long (pos 98765432109) ∷ values.Long (pos 123456789012) ∷ []) ∷ does 127 (values.Long (pos 2147483648) ∷ values.Long (pos 2147483648) ∷ []) ∷ []
    ≡ Some (pushed [] [] (values.Long (pos 3))) ∷ Some (pushed [] [] (values.Long (pos 1))) ∷ Some (pushed [] [] (values.Long (pos 5))) ∷ Some (pushed [] [] (values.Long (pos 1))) ∷ Some (pushed [] [] (values.Long (negsuc 9223372036854775807))) ∷ Some (pushed [] [] (values.Long (pos 0))) ∷ Some (pushed [] [] (values.Long (pos 64))) ∷ Some (pushed [] [] (values.Long (pos 89095405572))) ∷ Some (pushed [] [] (values.Long (pos 2147483648))) ∷ []
unfolding on_values compute convert instruction_of simple int_wrap moved
long_and = refl

int_or : does 128 (values.Int (pos 3) ∷ values.Int (pos 7) ∷ values.Ref 9 ∷ []) ∷ does 128 (values.Int (pos 3) ∷ values.Int (negsuc 6) ∷ values.Ref 9 ∷ []) ∷ does 128 (values.Int (negsuc 2) ∷ values.Int (pos 7) ∷ values.Ref 9 ∷ []) ∷ does 128 (values.Int (negsuc 2) ∷ values.Int (negsuc 6) ∷ values.Ref 9 ∷ []) ∷ does 128 (values.Int (pos 1) ∷ values.Int (pos 2147483647) ∷ values.Ref 9 ∷ []) ∷ does 128 (values.Int (negsuc 0) ∷ values.Int (negsuc 2147483647) ∷ values.Ref 9 ∷ []) ∷ does 128 (values.Int (pos 1) ∷ values.Int (negsuc 2147483647) ∷ values.Ref 9 ∷ []) ∷ does 128 (values.Int (pos 33) ∷ values.Int (pos 5) ∷ values.Ref 9 ∷ []) ∷ does 128 (values.Int (pos 31) ∷ values.Int (negsuc 0) ∷ values.Ref 9 ∷ []) ∷ does 128 (values.Int (pos 1) ∷ values.Int (negsuc 7) ∷ values.Ref 9 ∷ []) ∷ does 128 (values.Int (pos 987654) ∷ values.Int (pos 123456789) ∷ values.Ref 9 ∷ []) ∷ []
    ≡ Some (pushed [] (values.Ref 9 ∷ []) (values.Int (pos 7))) ∷ Some (pushed [] (values.Ref 9 ∷ []) (values.Int (negsuc 4))) ∷ Some (pushed [] (values.Ref 9 ∷ []) (values.Int (negsuc 0))) ∷ Some (pushed [] (values.Ref 9 ∷ []) (values.Int (negsuc 2))) ∷ Some (pushed [] (values.Ref 9 ∷ []) (values.Int (pos 2147483647))) ∷ Some (pushed [] (values.Ref 9 ∷ []) (values.Int (negsuc 0))) ∷ Some (pushed [] (values.Ref 9 ∷ []) (values.Int (negsuc 2147483646))) ∷ Some (pushed [] (values.Ref 9 ∷ []) (values.Int (pos 37))) ∷ Some (pushed [] (values.Ref 9 ∷ []) (values.Int (negsuc 0))) ∷ Some (pushed [] (values.Ref 9 ∷ []) (values.Int (negsuc 6))) ∷ Some (pushed [] (values.Ref 9 ∷ []) (values.Int (pos 123723543))) ∷ []
unfolding on_values compute convert instruction_of simple int_wrap moved
int_or = refl

long_or : does 129 (values.Long (pos 3) ∷ values.Long (pos 7) ∷ []) ∷ does 129 (values.Long (pos 3) ∷ values.Long (negsuc 6) ∷ []) ∷ does 129 (values.Long (negsuc 2) ∷ values.Long (pos 7) ∷ []) ∷ does 129 (values.Long (pos 1) ∷ values.Long (pos 9223372036854775807) ∷ []) ∷ does 129 (values.Long (negsuc 0) ∷ values.Long (negsuc 9223372036854775807) ∷ []) ∷ does 129 (values.Long (pos 1) ∷ values.Long (negsuc 9223372036854775807) ∷ []) ∷ does 129 (values.Long (pos 65) ∷ values.Long (negsuc 7) ∷ []) ∷ does 129 (values.Long (pos 98765432109) ∷ values.Long (pos 123456789012) ∷ []) ∷ does 129 (values.Long (pos 2147483648) ∷ values.Long (pos 2147483648) ∷ []) ∷ []
    ≡ Some (pushed [] [] (values.Long (pos 7))) ∷ Some (pushed [] [] (values.Long (negsuc 4))) ∷ Some (pushed [] [] (values.Long (negsuc 0))) ∷ Some (pushed [] [] (values.Long (pos 9223372036854775807))) ∷ Some (pushed [] [] (values.Long (negsuc 0))) ∷ Some (pushed [] [] (values.Long (negsuc 9223372036854775806))) ∷ Some (pushed [] [] (values.Long (negsuc 6))) ∷ Some (pushed [] [] (values.Long (pos 133126815549))) ∷ Some (pushed [] [] (values.Long (pos 2147483648))) ∷ []
unfolding on_values compute convert instruction_of simple int_wrap moved
long_or = refl

int_xor : does 130 (values.Int (pos 3) ∷ values.Int (pos 7) ∷ values.Ref 9 ∷ []) ∷ does 130 (values.Int (pos 3) ∷ values.Int (negsuc 6) ∷ values.Ref 9 ∷ []) ∷ does 130 (values.Int (negsuc 2) ∷ values.Int (pos 7) ∷ values.Ref 9 ∷ []) ∷ does 130 (values.Int (negsuc 2) ∷ values.Int (negsuc 6) ∷ values.Ref 9 ∷ []) ∷ does 130 (values.Int (pos 1) ∷ values.Int (pos 2147483647) ∷ values.Ref 9 ∷ []) ∷ does 130 (values.Int (negsuc 0) ∷ values.Int (negsuc 2147483647) ∷ values.Ref 9 ∷ []) ∷ does 130 (values.Int (pos 1) ∷ values.Int (negsuc 2147483647) ∷ values.Ref 9 ∷ []) ∷ does 130 (values.Int (pos 33) ∷ values.Int (pos 5) ∷ values.Ref 9 ∷ []) ∷ does 130 (values.Int (pos 31) ∷ values.Int (negsuc 0) ∷ values.Ref 9 ∷ []) ∷ does 130 (values.Int (pos 1) ∷ values.Int (negsuc 7) ∷ values.Ref 9 ∷ []) ∷ does 130 (values.Int (pos 987654) ∷ values.Int (pos 123456789) ∷ values.Ref 9 ∷ []) ∷ []
    ≡ Some (pushed [] (values.Ref 9 ∷ []) (values.Int (pos 4))) ∷ Some (pushed [] (values.Ref 9 ∷ []) (values.Int (negsuc 5))) ∷ Some (pushed [] (values.Ref 9 ∷ []) (values.Int (negsuc 5))) ∷ Some (pushed [] (values.Ref 9 ∷ []) (values.Int (pos 4))) ∷ Some (pushed [] (values.Ref 9 ∷ []) (values.Int (pos 2147483646))) ∷ Some (pushed [] (values.Ref 9 ∷ []) (values.Int (pos 2147483647))) ∷ Some (pushed [] (values.Ref 9 ∷ []) (values.Int (negsuc 2147483646))) ∷ Some (pushed [] (values.Ref 9 ∷ []) (values.Int (pos 36))) ∷ Some (pushed [] (values.Ref 9 ∷ []) (values.Int (negsuc 31))) ∷ Some (pushed [] (values.Ref 9 ∷ []) (values.Int (negsuc 6))) ∷ Some (pushed [] (values.Ref 9 ∷ []) (values.Int (pos 123002643))) ∷ []
unfolding on_values compute convert instruction_of simple int_wrap moved
int_xor = refl

long_xor : does 131 (values.Long (pos 3) ∷ values.Long (pos 7) ∷ []) ∷ does 131 (values.Long (pos 3) ∷ values.Long (negsuc 6) ∷ []) ∷ does 131 (values.Long (negsuc 2) ∷ values.Long (pos 7) ∷ []) ∷ does 131 (values.Long (pos 1) ∷ values.Long (pos 9223372036854775807) ∷ []) ∷ does 131 (values.Long (negsuc 0) ∷ values.Long (negsuc 9223372036854775807) ∷ []) ∷ does 131 (values.Long (pos 1) ∷ values.Long (negsuc 9223372036854775807) ∷ []) ∷ does 131 (values.Long (pos 65) ∷ values.Long (negsuc 7) ∷ []) ∷ does 131 (values.Long (pos 98765432109) ∷ values.Long (pos 123456789012) ∷ []) ∷ does 131 (values.Long (pos 2147483648) ∷ values.Long (pos 2147483648) ∷ []) ∷ []
    ≡ Some (pushed [] [] (values.Long (pos 4))) ∷ Some (pushed [] [] (values.Long (negsuc 5))) ∷ Some (pushed [] [] (values.Long (negsuc 5))) ∷ Some (pushed [] [] (values.Long (pos 9223372036854775806))) ∷ Some (pushed [] [] (values.Long (pos 9223372036854775807))) ∷ Some (pushed [] [] (values.Long (negsuc 9223372036854775806))) ∷ Some (pushed [] [] (values.Long (negsuc 70))) ∷ Some (pushed [] [] (values.Long (pos 44031409977))) ∷ Some (pushed [] [] (values.Long (pos 0))) ∷ []
unfolding on_values compute convert instruction_of simple int_wrap moved
long_xor = refl

division_by_zero : does 108 (values.Int (pos 0) ∷ values.Int (pos 5) ∷ []) ∷ does 112 (values.Int (pos 0) ∷ values.Int (pos 5) ∷ []) ∷ does 109 (values.Long (pos 0) ∷ values.Long (pos 5) ∷ []) ∷ does 113 (values.Long (pos 0) ∷ values.Long (pos 5) ∷ []) ∷ []
    ≡ Some (left [] (values.Int (pos 0) ∷ values.Int (pos 5) ∷ []) (Raise raises.Arithmetic)) ∷ Some (left [] (values.Int (pos 0) ∷ values.Int (pos 5) ∷ []) (Raise raises.Arithmetic)) ∷ Some (left [] (values.Long (pos 0) ∷ values.Long (pos 5) ∷ []) (Raise raises.Arithmetic)) ∷ Some (left [] (values.Long (pos 0) ∷ values.Long (pos 5) ∷ []) (Raise raises.Arithmetic)) ∷ []
unfolding on_values compute convert instruction_of simple int_wrap moved
division_by_zero = refl

conversions : does 116 (values.Int (pos 5) ∷ []) ∷ does 116 (values.Int (negsuc 2147483647) ∷ []) ∷ does 117 (values.Long (pos 5) ∷ []) ∷ does 117 (values.Long (negsuc 9223372036854775807) ∷ []) ∷ does 133 (values.Int (negsuc 4) ∷ []) ∷ does 136 (values.Long (negsuc 4) ∷ []) ∷ does 136 (values.Long (pos 4294967303) ∷ []) ∷ does 136 (values.Long (pos 2147483648) ∷ []) ∷ does 145 (values.Int (pos 200) ∷ []) ∷ does 145 (values.Int (negsuc 128) ∷ []) ∷ does 145 (values.Int (pos 127) ∷ []) ∷ does 146 (values.Int (negsuc 0) ∷ []) ∷ does 146 (values.Int (pos 65536) ∷ []) ∷ does 147 (values.Int (pos 40000) ∷ []) ∷ does 147 (values.Int (negsuc 32768) ∷ []) ∷ []
    ≡ Some (pushed [] [] (values.Int (negsuc 4))) ∷ Some (pushed [] [] (values.Int (negsuc 2147483647))) ∷ Some (pushed [] [] (values.Long (negsuc 4))) ∷ Some (pushed [] [] (values.Long (negsuc 9223372036854775807))) ∷ Some (pushed [] [] (values.Long (negsuc 4))) ∷ Some (pushed [] [] (values.Int (negsuc 4))) ∷ Some (pushed [] [] (values.Int (pos 7))) ∷ Some (pushed [] [] (values.Int (negsuc 2147483647))) ∷ Some (pushed [] [] (values.Int (negsuc 55))) ∷ Some (pushed [] [] (values.Int (pos 127))) ∷ Some (pushed [] [] (values.Int (pos 127))) ∷ Some (pushed [] [] (values.Int (pos 65535))) ∷ Some (pushed [] [] (values.Int (pos 0))) ∷ Some (pushed [] [] (values.Int (negsuc 25535))) ∷ Some (pushed [] [] (values.Int (pos 32767))) ∷ []
unfolding on_values compute convert instruction_of simple int_wrap moved
conversions = refl

long_compare : does 148 (values.Long (pos 6) ∷ values.Long (pos 5) ∷ []) ∷ does 148 (values.Long (pos 5) ∷ values.Long (pos 6) ∷ []) ∷ does 148 (values.Long (pos 5) ∷ values.Long (pos 5) ∷ []) ∷ does 148 (values.Long (pos 5) ∷ values.Long (negsuc 4) ∷ []) ∷ does 148 (values.Long (pos 9223372036854775807) ∷ values.Long (negsuc 9223372036854775807) ∷ []) ∷ []
    ≡ Some (pushed [] [] (values.Int (negsuc 0))) ∷ Some (pushed [] [] (values.Int (pos 1))) ∷ Some (pushed [] [] (values.Int (pos 0))) ∷ Some (pushed [] [] (values.Int (negsuc 0))) ∷ Some (pushed [] [] (values.Int (negsuc 0))) ∷ []
unfolding on_values compute convert instruction_of simple int_wrap moved
long_compare = refl

-- where the jump to 7 goes, from these operands
abbrev jumps : ℕ → List Value → Option Way
jumps op operands = option_map (λ v. v.way) (on_values (instruction_of (instrs.Branch op (pos 7)) Nothing) [] operands)

with_zero : jumps 153 (values.Int (negsuc 2) ∷ []) ∷ jumps 153 (values.Int (pos 0) ∷ []) ∷ jumps 153 (values.Int (pos 3) ∷ []) ∷ jumps 154 (values.Int (negsuc 2) ∷ []) ∷ jumps 154 (values.Int (pos 0) ∷ []) ∷ jumps 154 (values.Int (pos 3) ∷ []) ∷ jumps 155 (values.Int (negsuc 2) ∷ []) ∷ jumps 155 (values.Int (pos 0) ∷ []) ∷ jumps 155 (values.Int (pos 3) ∷ []) ∷ jumps 156 (values.Int (negsuc 2) ∷ []) ∷ jumps 156 (values.Int (pos 0) ∷ []) ∷ jumps 156 (values.Int (pos 3) ∷ []) ∷ jumps 157 (values.Int (negsuc 2) ∷ []) ∷ jumps 157 (values.Int (pos 0) ∷ []) ∷ jumps 157 (values.Int (pos 3) ∷ []) ∷ jumps 158 (values.Int (negsuc 2) ∷ []) ∷ jumps 158 (values.Int (pos 0) ∷ []) ∷ jumps 158 (values.Int (pos 3) ∷ []) ∷ []
    ≡ Some Next ∷ Some (To 7) ∷ Some Next ∷ Some (To 7) ∷ Some Next ∷ Some (To 7) ∷ Some (To 7) ∷ Some Next ∷ Some Next ∷ Some Next ∷ Some (To 7) ∷ Some (To 7) ∷ Some Next ∷ Some Next ∷ Some (To 7) ∷ Some (To 7) ∷ Some (To 7) ∷ Some Next ∷ []
unfolding on_values compute convert instruction_of simple int_wrap moved
with_zero = refl

of_ints : jumps 159 (values.Int (pos 5) ∷ values.Int (pos 2) ∷ []) ∷ jumps 159 (values.Int (pos 5) ∷ values.Int (pos 5) ∷ []) ∷ jumps 159 (values.Int (pos 2) ∷ values.Int (pos 5) ∷ []) ∷ jumps 160 (values.Int (pos 5) ∷ values.Int (pos 2) ∷ []) ∷ jumps 160 (values.Int (pos 5) ∷ values.Int (pos 5) ∷ []) ∷ jumps 160 (values.Int (pos 2) ∷ values.Int (pos 5) ∷ []) ∷ jumps 161 (values.Int (pos 5) ∷ values.Int (pos 2) ∷ []) ∷ jumps 161 (values.Int (pos 5) ∷ values.Int (pos 5) ∷ []) ∷ jumps 161 (values.Int (pos 2) ∷ values.Int (pos 5) ∷ []) ∷ jumps 162 (values.Int (pos 5) ∷ values.Int (pos 2) ∷ []) ∷ jumps 162 (values.Int (pos 5) ∷ values.Int (pos 5) ∷ []) ∷ jumps 162 (values.Int (pos 2) ∷ values.Int (pos 5) ∷ []) ∷ jumps 163 (values.Int (pos 5) ∷ values.Int (pos 2) ∷ []) ∷ jumps 163 (values.Int (pos 5) ∷ values.Int (pos 5) ∷ []) ∷ jumps 163 (values.Int (pos 2) ∷ values.Int (pos 5) ∷ []) ∷ jumps 164 (values.Int (pos 5) ∷ values.Int (pos 2) ∷ []) ∷ jumps 164 (values.Int (pos 5) ∷ values.Int (pos 5) ∷ []) ∷ jumps 164 (values.Int (pos 2) ∷ values.Int (pos 5) ∷ []) ∷ []
    ≡ Some Next ∷ Some (To 7) ∷ Some Next ∷ Some (To 7) ∷ Some Next ∷ Some (To 7) ∷ Some (To 7) ∷ Some Next ∷ Some Next ∷ Some Next ∷ Some (To 7) ∷ Some (To 7) ∷ Some Next ∷ Some Next ∷ Some (To 7) ∷ Some (To 7) ∷ Some (To 7) ∷ Some Next ∷ []
unfolding on_values compute convert instruction_of simple int_wrap moved
of_ints = refl

of_references : jumps 165 (values.Ref 4 ∷ values.Ref 4 ∷ []) ∷ jumps 165 (values.Ref 5 ∷ values.Ref 4 ∷ []) ∷ jumps 166 (values.Ref 4 ∷ values.Ref 4 ∷ []) ∷ jumps 166 (values.Ref 5 ∷ values.Ref 4 ∷ []) ∷ jumps 198 (values.Ref 0 ∷ []) ∷ jumps 198 (values.Ref 4 ∷ []) ∷ jumps 199 (values.Ref 0 ∷ []) ∷ jumps 199 (values.Ref 4 ∷ []) ∷ jumps 167 [] ∷ jumps 200 [] ∷ []
    ≡ Some (To 7) ∷ Some Next ∷ Some Next ∷ Some (To 7) ∷ Some (To 7) ∷ Some Next ∷ Some Next ∷ Some (To 7) ∷ Some (To 7) ∷ Some (To 7) ∷ []
unfolding on_values compute convert instruction_of simple int_wrap moved
of_references = refl

abbrev switched : ℤ → Option Way
switched z = option_map (λ v. v.way) (on_values (instruction_of (instrs.Lookup (pos 9) ((negsuc 6, pos 4) ∷ (pos 80, pos 5) ∷ (pos 80, pos 6) ∷ [])) Nothing) [] (values.Int z ∷ []))

switches : map switched (negsuc 6 ∷ pos 80 ∷ pos 81 ∷ pos 0 ∷ []) ≡ Some (To 4) ∷ Some (To 5) ∷ Some (To 9) ∷ Some (To 9) ∷ []
unfolding on_values instruction_of
switches = refl

abbrev tabled : ℤ → Option Way
tabled z = option_map (λ v. v.way) (on_values (instruction_of (instrs.Table (negsuc 0) (pos 9) (pos 4 ∷ pos 5 ∷ pos 6 ∷ [])) Nothing) [] (values.Int z ∷ []))

tables : map tabled (negsuc 1 ∷ negsuc 0 ∷ pos 0 ∷ pos 1 ∷ pos 2 ∷ []) ≡ Some (To 9) ∷ Some (To 4) ∷ Some (To 5) ∷ Some (To 6) ∷ Some (To 9) ∷ []
unfolding on_values instruction_of
tables = refl

-- local variables: an int, a long in two slots, null, and two without values
abbrev five : List (Option Value)
five = Some (values.Int (pos 5)) ∷ Some (values.Long (pos 6)) ∷ None ∷ Some (values.Ref 0) ∷ None ∷ []

abbrev locals_with : Instruction → List Value → Option (List (Option Value))
locals_with i operands = option_map (λ v. v.locals) (on_values i five operands)

-- the long before, its second slot, and the end
stored_values : locals_with (Store kinds.Int 2) (values.Int (pos 9) ∷ []) ∷ locals_with (Store kinds.Long 0) (values.Long (pos 9) ∷ []) ∷ locals_with (Store kinds.Long 3) (values.Long (pos 9) ∷ [])
    ∷ locals_with (Store kinds.Long 4) (values.Long (pos 9) ∷ []) ∷ locals_with (Store kinds.Ref 4) (values.Ref 8 ∷ []) ∷ locals_with (Store kinds.Ref 5) (values.Ref 8 ∷ [])
    ∷ locals_with (Store kinds.Ref 0) (values.Int (pos 9) ∷ []) ∷ locals_with (Store kinds.Int 1) (values.Int (pos 9) ∷ []) ∷ []
    ≡ Some (Some (values.Int (pos 5)) ∷ None ∷ Some (values.Int (pos 9)) ∷ Some (values.Ref 0) ∷ None ∷ [])
    ∷ Some (Some (values.Long (pos 9)) ∷ None ∷ None ∷ Some (values.Ref 0) ∷ None ∷ [])
    ∷ Some (Some (values.Int (pos 5)) ∷ Some (values.Long (pos 6)) ∷ None ∷ Some (values.Long (pos 9)) ∷ None ∷ [])
    ∷ None
    ∷ Some (Some (values.Int (pos 5)) ∷ Some (values.Long (pos 6)) ∷ None ∷ Some (values.Ref 0) ∷ Some (values.Ref 8) ∷ [])
    ∷ None
    ∷ None
    ∷ Some (Some (values.Int (pos 5)) ∷ Some (values.Int (pos 9)) ∷ None ∷ Some (values.Ref 0) ∷ None ∷ [])
    ∷ []
unfolding on_values
stored_values = refl

loaded_values : map (λ slot. option_map (λ v. v.operands) (on_values (Load kinds.Int slot) five [])) (0 ∷ 1 ∷ 2 ∷ 5 ∷ [])
    ≡ Some (values.Int (pos 5) ∷ []) ∷ None ∷ None ∷ None ∷ []
unfolding on_values
loaded_values = refl

incremented : locals_with (Increment 0 (negsuc 5)) [] ∷ option_map (λ v. v.locals) (on_values (Increment 0 (pos 1)) (Some (values.Int (pos 2147483647)) ∷ []) []) ∷ locals_with (Increment 1 (pos 1)) [] ∷ []
    ≡ Some (Some (values.Int (negsuc 0)) ∷ Some (values.Long (pos 6)) ∷ None ∷ Some (values.Ref 0) ∷ None ∷ [])
    ∷ Some (Some (values.Int (negsuc 2147483647)) ∷ [])
    ∷ None ∷ []
unfolding on_values int_wrap
incremented = refl

-- the values of a stack operation, the top first
abbrev moves : ℕ → List Value → Option (List Value)
moves op operands = option_map (λ v. v.operands) (does op operands)

moved_values : moves 87 (values.Int (pos 1) ∷ []) ∷ moves 88 (values.Int (pos 1) ∷ values.Ref 2 ∷ []) ∷ moves 88 (values.Long (pos 5) ∷ []) ∷ moves 89 (values.Int (pos 1) ∷ []) ∷ moves 90 (values.Int (pos 1) ∷ values.Ref 2 ∷ []) ∷ moves 91 (values.Int (pos 1) ∷ values.Ref 2 ∷ values.Int (pos 3) ∷ []) ∷ moves 91 (values.Int (pos 1) ∷ values.Long (pos 6) ∷ []) ∷ moves 92 (values.Int (pos 1) ∷ values.Ref 2 ∷ []) ∷ moves 92 (values.Long (pos 5) ∷ []) ∷ moves 93 (values.Int (pos 1) ∷ values.Ref 2 ∷ values.Int (pos 3) ∷ []) ∷ moves 93 (values.Long (pos 5) ∷ values.Ref 2 ∷ []) ∷ moves 94 (values.Int (pos 1) ∷ values.Ref 2 ∷ values.Int (pos 3) ∷ values.Ref 4 ∷ []) ∷ moves 94 (values.Long (pos 5) ∷ values.Ref 2 ∷ values.Int (pos 3) ∷ []) ∷ moves 94 (values.Int (pos 1) ∷ values.Ref 2 ∷ values.Long (pos 7) ∷ []) ∷ moves 94 (values.Long (pos 5) ∷ values.Long (pos 6) ∷ []) ∷ moves 95 (values.Int (pos 1) ∷ values.Ref 2 ∷ []) ∷ []
    ≡ Some ([]) ∷ Some ([]) ∷ Some ([]) ∷ Some (values.Int (pos 1) ∷ values.Int (pos 1) ∷ []) ∷ Some (values.Int (pos 1) ∷ values.Ref 2 ∷ values.Int (pos 1) ∷ []) ∷ Some (values.Int (pos 1) ∷ values.Ref 2 ∷ values.Int (pos 3) ∷ values.Int (pos 1) ∷ []) ∷ Some (values.Int (pos 1) ∷ values.Long (pos 6) ∷ values.Int (pos 1) ∷ []) ∷ Some (values.Int (pos 1) ∷ values.Ref 2 ∷ values.Int (pos 1) ∷ values.Ref 2 ∷ []) ∷ Some (values.Long (pos 5) ∷ values.Long (pos 5) ∷ []) ∷ Some (values.Int (pos 1) ∷ values.Ref 2 ∷ values.Int (pos 3) ∷ values.Int (pos 1) ∷ values.Ref 2 ∷ []) ∷ Some (values.Long (pos 5) ∷ values.Ref 2 ∷ values.Long (pos 5) ∷ []) ∷ Some (values.Int (pos 1) ∷ values.Ref 2 ∷ values.Int (pos 3) ∷ values.Ref 4 ∷ values.Int (pos 1) ∷ values.Ref 2 ∷ []) ∷ Some (values.Long (pos 5) ∷ values.Ref 2 ∷ values.Int (pos 3) ∷ values.Long (pos 5) ∷ []) ∷ Some (values.Int (pos 1) ∷ values.Ref 2 ∷ values.Long (pos 7) ∷ values.Int (pos 1) ∷ values.Ref 2 ∷ []) ∷ Some (values.Long (pos 5) ∷ values.Long (pos 6) ∷ values.Long (pos 5) ∷ []) ∷ Some (values.Ref 2 ∷ values.Int (pos 1) ∷ []) ∷ []
unfolding on_values compute convert instruction_of simple int_wrap moved
moved_values = refl

-- null is released too; what is returned is the top
released : does 194 (values.Ref 0 ∷ values.Int (pos 1) ∷ []) ∷ does 195 (values.Ref 3 ∷ []) ∷ does 194 (values.Int (pos 1) ∷ []) ∷ []
    ≡ Some (left [] (values.Int (pos 1) ∷ []) Next) ∷ Some (left [] [] Next) ∷ None ∷ []
unfolding on_values instruction_of simple
released = refl

returned_values : map (λ op. does op (values.Int (pos 4) ∷ values.Ref 3 ∷ [])) (172 ∷ 173 ∷ 176 ∷ 177 ∷ [])
    ≡ Some (left [] (values.Ref 3 ∷ []) (Back (Some (values.Int (pos 4))))) ∷ None ∷ None ∷ Some (left [] (values.Int (pos 4) ∷ values.Ref 3 ∷ []) (Back None)) ∷ []
unfolding on_values instruction_of simple
returned_values = refl
