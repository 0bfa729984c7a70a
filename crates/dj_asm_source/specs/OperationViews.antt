-- What the code's instructions show, in the terms of Lines.
use Rattle.std.specs.Prelude.{pos}
use Rattle.dj_asm_source.specs.declared.syntax.Operation as the_operation
use Rattle.dj_asm_source.specs.declared.syntax.Operation.TheVariants as operations
use Rattle.dj_asm_source.specs.trusted.Lines.{Operation, Plain, Push, Local, Increment, Load, LoadLong, Jump, Table, Lookup, Member, Dynamic, ClassOf, Array, Multi}
use Rattle.dj_asm_tokens.specs.Views.{units_of}
use Rattle.dj_asm_tokens.specs.Texts.{text_view}
use Rattle.dj_asm_source.specs.TypeViews.{literal_view}

abbrev pub operation_view : the_operation.Operation → Operation
operation_view (operations.Plain op) = Plain op
operation_view (operations.Push op n) = Push op n
operation_view (operations.Local wide op slot) = Local wide op (pos slot)
operation_view (operations.Increment wide slot by) = Increment wide (pos slot) by
operation_view (operations.Load op literal) = Load op (literal_view literal)
operation_view (operations.LoadLong n) = LoadLong n
operation_view (operations.Jump op target) = Jump op (units_of target)
operation_view (operations.Table low targets default) = Table low targets (units_of default)
operation_view (operations.Lookup pairs default) = Lookup pairs (units_of default)
operation_view (operations.Member op class name desc interface) = Member op (text_view class) (text_view name) (text_view desc) interface
operation_view (operations.Dynamic n name desc) = Dynamic (pos n) (text_view name) (text_view desc)
operation_view (operations.ClassOf op class) = ClassOf op (text_view class)
operation_view (operations.Array base) = Array base
operation_view (operations.Multi desc dims) = Multi (text_view desc) (pos dims)
