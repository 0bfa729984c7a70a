-- What the code's beginnings of lines show.
use Rattle.dj_asm_source.specs.declared.start.Directive as the_directive
use Rattle.dj_asm_source.specs.declared.start.Directive.TheVariants as directives
use Rattle.dj_asm_source.specs.declared.start.LineStart as the_start
use Rattle.dj_asm_source.specs.declared.start.LineStart.TheVariants as starts
use Rattle.dj_asm_source.specs.LineReading.{LineStart, ClassLine, VersionLine, SuperLine, ImplementsLine, FieldLine, AbstractLine, MethodLine, StackLine, LocalsLine, CatchLine, FrameLine, EndLine, LabelLine, OperationLine}
use Rattle.dj_asm_tokens.specs.Views.{units_of}

abbrev pub directive_view : the_directive.Directive → LineStart
directive_view directives.Class = ClassLine
directive_view directives.Version = VersionLine
directive_view directives.Super = SuperLine
directive_view directives.Implements = ImplementsLine
directive_view directives.Field = FieldLine
directive_view directives.Abstract = AbstractLine
directive_view directives.Method = MethodLine
directive_view directives.Stack = StackLine
directive_view directives.Locals = LocalsLine
directive_view directives.Catch = CatchLine
directive_view directives.Frame = FrameLine
directive_view directives.End = EndLine

abbrev pub start_view : the_start.LineStart → LineStart
start_view (starts.Directive directive) = directive_view directive
start_view (starts.Label label) = LabelLine (units_of label)
start_view (starts.Operation op) = OperationLine op
