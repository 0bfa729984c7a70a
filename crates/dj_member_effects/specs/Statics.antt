-- Static fields by their places (JVMS 6.5).
use Rattle.std.specs.Prelude.{◌≡◌, ℕ, List, ◌∷◌, set, Option, Some, None, slice_index, if◌then◌else◌}
use Rattle.dj_names.specs.declared.descriptor.Kind.{Kind}
use Rattle.dj_names.specs.declared.run.Value.{Value}
use Rattle.dj_names.specs.trusted.Heaps.{field_bits, field_value}
use Rattle.dj_model.specs.trusted.Numbers.{is_of_kind}
use Rattle.dj_model.specs.trusted.State.{Part, Goes, Next, Effect}
use Rattle.dj_stack.specs.Frames.{StackFrame, SameButOperands, top_operands}
use Rattle.dj_effects.specs.declared.way.Way.{Way}
use Rattle.dj_effects.specs.declared.way.Way.TheVariants as ways

-- what an instruction on static fields leaves
pub record OnStatics : Type 0 where
  pub statics : List ℕ
  -- the top first
  pub operands : List Value

abbrev pub leaves : List ℕ → List Value → OnStatics
leaves statics operands = record { statics = statics; operands = operands }

abbrev pub get_static_by : Kind → ℕ → List ℕ → List Value → Option OnStatics
get_static_by kind place statics operands = Some (leaves statics (field_value kind (slice_index statics place) ∷ operands))

unfoldable pub put_static_by : Kind → ℕ → List ℕ → List Value → Option OnStatics
put_static_by kind place statics (v ∷ rest) = if is_of_kind kind v then Some (leaves (set statics place (field_bits v)) rest) else None
put_static_by kind place statics _ = None

-- in the model
abbrev pub statics_effect : Part → OnStatics → Effect
statics_effect p e = record { part = record p { operands = e.operands; statics = e.statics }; flow = Goes Next }

abbrev pub reported_on_statics : List StackFrame → List ℕ → Option Way → Option OnStatics
reported_on_statics new after None = None
reported_on_statics new after (Some way) = Some (leaves after (top_operands new))

abbrev pub IsNext : Option Way → Type 0
IsNext None = Unit {0}
IsNext (Some way) = way ≡ ways.Next

-- the top frame's operands and the static fields are as the effect has them, and the run just goes on; none where there is no effect
pub record DoesOnStatics (effect_of : List ℕ → List Value → Option OnStatics) (old new : List StackFrame) (before after : List ℕ) (way : Option Way) : Type 0 where
  pub effect : effect_of before (top_operands old) ≡ reported_on_statics new after way
  pub next : IsNext way
  pub frames : SameButOperands old new
