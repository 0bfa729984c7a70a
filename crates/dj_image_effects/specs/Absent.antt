-- Used by the code alone: what is done with a reference that is of no object.
use Rattle.std.specs.Prelude.{◌≡◌, ℕ, Bool, true, false, List, ◌∷◌}
use Rattle.dj_names.specs.declared.descriptor.Base.TheVariants as bases
use Rattle.dj_names.specs.declared.run.Raised.TheVariants as raises
use Rattle.dj_names.specs.declared.run.Value.{Value}
use Rattle.dj_names.specs.trusted.Types.{base_array}
use Rattle.dj_library_types.specs.Numbered.{type_at}
use Rattle.dj_model.specs.trusted.Linking.{is_subtype}
use Rattle.dj_stack.specs.Frames.{StackFrame, top_operands}
use Rattle.dj_effects.specs.declared.way.Way.TheVariants as ways
use Rattle.dj_numbering.specs.Typed.{types_of}
use Rattle.dj_image.specs.Imaged.{Imaged, program_of, typed_of}
use Rattle.dj_image_effects.specs.declared.acted.Acted.{Acted}
use Rattle.dj_image_effects.specs.declared.acted.Acted.TheVariants as acts

-- it counts as an array of booleans
abbrev pub is_absent_of : Imaged → ℕ → Bool
is_absent_of imaged class = is_subtype (program_of imaged) imaged.prefix (base_array bases.Boolean) (type_at (types_of (typed_of imaged)) class)

abbrev pub cast_acted : Bool → Acted
cast_acted true = acts.Goes ways.Next
cast_acted false = acts.Goes (ways.Raise raises.ClassCast)

-- the top operand has another value
abbrev pub ReplacesTop : List StackFrame → List StackFrame → Value → Type 0
ReplacesTop old new v = (w : Value) (rest : List Value) → top_operands old ≡ w ∷ rest → top_operands new ≡ v ∷ rest
