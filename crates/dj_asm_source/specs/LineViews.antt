-- What the code's lines show, in the terms of Lines.
use Rattle.std.specs.Prelude.{pos}
use Rattle.std.specs.Option.{option_map}
use Rattle.dj_asm_source.specs.declared.syntax.Frame as the_frame
use Rattle.dj_asm_source.specs.declared.syntax.Frame.TheVariants as frames
use Rattle.dj_asm_source.specs.declared.syntax.Line as the_line
use Rattle.dj_asm_source.specs.declared.syntax.Line.TheVariants as lines
use Rattle.dj_asm_source.specs.trusted.Lines.{Frame, Same, Stack1, Chop, Append, Full, Line, Class, Version, Super, Implements, Field, Abstract, Method, Stack, Locals, Beside, Labelled, Catch, Framed, Does, End}
use Rattle.dj_asm_tokens.specs.Views.{units_of}
use Rattle.dj_asm_tokens.specs.Texts.{text_view}
use Rattle.dj_asm_source.specs.TypeViews.{value_view, type_view}
use Rattle.dj_asm_source.specs.OperationViews.{operation_view}

abbrev pub frame_view : the_frame.Frame → Frame
frame_view frames.Same = Same
frame_view (frames.Stack1 ty) = Stack1 (type_view ty)
frame_view (frames.Chop n) = Chop (pos n)
frame_view (frames.Append types) = Append types
frame_view (frames.Full locals stack) = Full locals stack

abbrev pub line_view : the_line.Line → Line
line_view (lines.Class flags name) = Class flags (text_view name)
line_view (lines.Version major minor) = Version (pos major) (pos minor)
line_view (lines.Super name) = Super (text_view name)
line_view (lines.Implements name) = Implements (text_view name)
line_view (lines.Field flags name desc value) = Field flags (text_view name) (text_view desc) (option_map value_view value)
line_view (lines.Abstract flags name desc) = Abstract flags (text_view name) (text_view desc)
line_view (lines.Method flags name desc) = Method flags (text_view name) (text_view desc)
line_view (lines.Stack n) = Stack (pos n)
line_view (lines.Locals n) = Locals (pos n)
line_view (lines.Label label) = Beside (Labelled (units_of label))
line_view (lines.Catch class from to handler) = Beside (Catch (option_map text_view class) (units_of from) (units_of to) (units_of handler))
line_view (lines.Frame frame) = Framed (frame_view frame)
line_view (lines.Does operation) = Does (operation_view operation)
line_view lines.End = End
