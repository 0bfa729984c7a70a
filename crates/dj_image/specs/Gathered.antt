-- Used by the code alone: the tables of one class, and those of the classes.
use Rattle.std.specs.Prelude.{◌≡◌, ℕ, List, map, Option, Some, None}
use Rattle.dj_pool.specs.trusted.Pool.{Constant}
use Rattle.dj_declarations.specs.trusted.Files.{name_in}
use Rattle.dj_program.specs.trusted.Naming.{units_in}
use Rattle.dj_image.specs.declared.operand.Operand.{Operand}
use Rattle.dj_image.specs.declared.operand.Operand.TheVariants as operands
use Rattle.dj_image.specs.declared.parts.ClassParts.{ClassParts}
use Rattle.dj_image.specs.declared.parts.FieldValue.{FieldValue}
use Rattle.dj_image.specs.declared.parts.FieldValue.TheVariants as values
use Rattle.dj_image.specs.declared.tables.ClassTables.{ClassTables}
use Rattle.dj_image.specs.declared.tables.Tables.{Tables}
use Rattle.dj_image.specs.Imaged.{Imaged}
use Rattle.dj_image.specs.Operands.{text_operand, units_number}
use Rattle.dj_image.specs.Tables.{IsOperandTable, IsNamedTable, IsMadeTable, field_operand_of, AreOperandTables, AreNamedTables, AreMadeTables, AreConstantTables}

-- the text at an index, by the texts that have numbers
abbrev pub text_at_index : List (List ℕ) → List Constant → ℕ → Operand
text_at_index texts pool index = text_operand (units_number texts (units_in (name_in pool index)))

-- the constant with which a field begins
abbrev pub value_reported : List (List ℕ) → List Constant → Option FieldValue → Operand
value_reported texts pool None = operands.Nothing
value_reported texts pool (Some (values.Int z)) = operands.Int z
value_reported texts pool (Some (values.Long z)) = operands.Long z
value_reported texts pool (Some (values.Text index)) = text_at_index texts pool index
value_reported texts pool (Some values.Unfit) = operands.Unresolved

pub record AreOfClass (imaged : Imaged) (class : ClassParts) (tables : ClassTables) : Type 0 where
  pub operands_are : IsOperandTable imaged class.pool tables.operands.items
  pub named_are : IsNamedTable imaged class.pool tables.named.items
  pub made_are : IsMadeTable imaged class.pool tables.made.items
  pub constants_are : tables.constants.items ≡ map (field_operand_of imaged class.pool) class.values.items

pub record AreOfClasses (imaged : Imaged) (parts : List ClassParts) (tables : Tables) : Type 0 where
  pub operands_are : AreOperandTables imaged parts tables.operands.items
  pub named_are : AreNamedTables imaged parts tables.named.items
  pub made_are : AreMadeTables imaged parts tables.made.items
  pub constants_are : AreConstantTables imaged parts tables.constants.items
