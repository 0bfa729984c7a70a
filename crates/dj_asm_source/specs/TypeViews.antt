-- What the code's values, literals and types of frames show, in the terms of Lines.
use Rattle.std.specs.Prelude.{ℕ, List, codes}
use Rattle.dj_asm_source.specs.declared.syntax.Value as the_value
use Rattle.dj_asm_source.specs.declared.syntax.Value.TheVariants as values
use Rattle.dj_asm_source.specs.declared.syntax.Literal as the_literal
use Rattle.dj_asm_source.specs.declared.syntax.Literal.TheVariants as literals
use Rattle.dj_asm_source.specs.declared.syntax.SimpleType.{SimpleType}
use Rattle.dj_asm_source.specs.declared.syntax.SimpleType.TheVariants as simples
use Rattle.dj_asm_source.specs.declared.syntax.FrameType as the_type
use Rattle.dj_asm_source.specs.declared.syntax.FrameType.TheVariants as types
use Rattle.dj_asm_source.specs.trusted.Lines.{Value, IntValue, LongValue, StringValue, Literal, IntLiteral, StringLiteral, ClassLiteral, FrameType, Simple, Object, New}
use Rattle.dj_asm_tokens.specs.Views.{units_of, string_units_of}
use Rattle.dj_asm_tokens.specs.Texts.{text_view}

abbrev pub value_view : the_value.Value → Value
value_view (values.Int n) = IntValue n
value_view (values.Long n) = LongValue n
value_view (values.String string) = StringValue (string_units_of string)

abbrev pub literal_view : the_literal.Literal → Literal
literal_view (literals.Int n) = IntLiteral n
literal_view (literals.String string) = StringLiteral (string_units_of string)
literal_view (literals.Class name) = ClassLiteral (text_view name)

abbrev pub simple_word : SimpleType → List ℕ
simple_word simples.Top = codes "top"
simple_word simples.Int = codes "int"
simple_word simples.Float = codes "float"
simple_word simples.Double = codes "double"
simple_word simples.Long = codes "long"
simple_word simples.Null = codes "null"
simple_word simples.This = codes "this"

abbrev pub type_view : the_type.FrameType → FrameType
type_view (types.Simple simple) = Simple (simple_word simple)
type_view (types.Object name) = Object (text_view name)
type_view (types.New label) = New (units_of label)
