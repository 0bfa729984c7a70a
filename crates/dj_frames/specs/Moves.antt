-- Frames whose instructions get other numbers.
use Rattle.std.specs.Prelude.{ℕ, List, map, slice_index}
use Rattle.dj_ops.specs.declared.frames.VType.{VType}
use Rattle.dj_ops.specs.declared.frames.VType.TheVariants as types
use Rattle.dj_ops.specs.declared.frames.Form.{Form}
use Rattle.dj_ops.specs.declared.frames.Form.TheVariants as forms
use Rattle.dj_ops.specs.declared.frames.Frame.{Frame}

-- the type, whose new instruction gets its number from the list `own`
abbrev pub moved_type : (own : List ℕ) → VType → VType
moved_type own (types.Uninitialized number) = types.Uninitialized (slice_index own number)
moved_type own type = type

-- the form stays
abbrev pub moved_form : (own : List ℕ) → Form → Form
moved_form own (forms.Stack1 operand) = forms.Stack1 (moved_type own operand)
moved_form own (forms.Append locals) = forms.Append (map (moved_type own) locals)
moved_form own (forms.Full locals operands) = forms.Full (map (moved_type own) locals) (map (moved_type own) operands)
moved_form own form = form

-- the frame's own number through start
abbrev pub moved_frame : (start own : List ℕ) → Frame → Frame
moved_frame start own frame = record { at = slice_index start frame.at; form = moved_form own frame.form }
