-- Used by the code alone: what an image keeps of constants.
use Rattle.std.specs.Prelude.{◌≡◌, ℕ, ◌+◌, ◌<◌, ◌≤◌, ◌^◌, ⊤, Contains, List, [], ◌∷◌, map, length, Option, Some, slice_get, is_some, IsTrue}
use Rattle.std.specs.Global.{Vec}
use Rattle.std.specs.Option.{option_map}
use Rattle.dj_names.specs.declared.descriptor.Ty.{Ty}
use Rattle.dj_names.specs.trusted.Types.{component_type}
use Rattle.dj_pool.specs.trusted.Pool.{Constant}
use Rattle.dj_program.specs.trusted.Naming.{named_at}
use Rattle.dj_numbering.specs.Typed.{Typed, chars_at}
use Rattle.dj_image.specs.declared.operand.Operand.{Operand}
use Rattle.dj_image.specs.declared.parts.ClassParts.{ClassParts}
use Rattle.dj_image.specs.declared.parts.FieldValue.{FieldValue}
use Rattle.dj_image.specs.Imaged.{Imaged, IsNumbered}
use Rattle.dj_image.specs.Operands.{named_operand, named_class, made_class, value_operand}
use Rattle.dj_image.specs.Parts.{constant_of_value, sources_of, FitClasses, HasString}

abbrev pub imaged_of : Typed → List ClassParts → List (List ℕ) → Imaged
imaged_of types parts texts = record { sources = sources_of types.program parts; prefix = types.prefix; arrays = types.arrays; texts = texts }

-- for each index of the pool what it is as an operand
pub record IsOperandTable (imaged : Imaged) (pool : List Constant) (kept : List Operand) : Type 0 where
  pub count : length kept ≡ length pool + 1
  pub each : (index : ℕ) → index < length pool + 1 → slice_get kept index ≡ Some (named_operand imaged (named_at pool index))

-- for each index of the pool the class that it names
pub record IsNamedTable (imaged : Imaged) (pool : List Constant) (kept : List (Option ℕ)) : Type 0 where
  pub count : length kept ≡ length pool + 1
  pub each : (index : ℕ) → index < length pool + 1 → slice_get kept index ≡ Some (named_class imaged (named_at pool index))

-- for each index of the pool the array of which the elements are of the class that it names
pub record IsMadeTable (imaged : Imaged) (pool : List Constant) (kept : List (Option ℕ)) : Type 0 where
  pub count : length kept ≡ length pool + 1
  pub each : (index : ℕ) → index < length pool + 1 → slice_get kept index ≡ Some (made_class imaged (named_at pool index))

-- for each class
abbrev pub AreOperandTables : Imaged → List ClassParts → List (Vec Operand) → Type 0
AreOperandTables imaged [] [] = ⊤
AreOperandTables imaged (p ∷ parts) (kept ∷ tables) = IsOperandTable imaged p.pool kept.items × AreOperandTables imaged parts tables
AreOperandTables imaged parts tables = ⊥

abbrev pub AreNamedTables : Imaged → List ClassParts → List (Vec (Option ℕ)) → Type 0
AreNamedTables imaged [] [] = ⊤
AreNamedTables imaged (p ∷ parts) (kept ∷ tables) = IsNamedTable imaged p.pool kept.items × AreNamedTables imaged parts tables
AreNamedTables imaged parts tables = ⊥

abbrev pub AreMadeTables : Imaged → List ClassParts → List (Vec (Option ℕ)) → Type 0
AreMadeTables imaged [] [] = ⊤
AreMadeTables imaged (p ∷ parts) (kept ∷ tables) = IsMadeTable imaged p.pool kept.items × AreMadeTables imaged parts tables
AreMadeTables imaged parts tables = ⊥

-- for each field what its constant is as an operand
abbrev pub field_operand_of : Imaged → List Constant → Option FieldValue → Operand
field_operand_of imaged pool value = value_operand imaged (option_map (constant_of_value pool) value)

abbrev pub AreConstantTables : Imaged → List ClassParts → List (Vec Operand) → Type 0
AreConstantTables imaged [] [] = ⊤
AreConstantTables imaged (p ∷ parts) (kept ∷ tables) = (kept.items ≡ map (field_operand_of imaged p.pool) p.values.items) × AreConstantTables imaged parts tables
AreConstantTables imaged parts tables = ⊥

-- what the elements of an array of arrays are has a number too
abbrev pub AreClosed : List Ty → Type 0
AreClosed arrays = (ty : Ty) → Contains arrays ty → 2 ≤ ty.dims → Contains arrays (component_type ty)

pub record AreTables (types : Typed) (parts : List ClassParts) (texts : List (List ℕ)) (operands : List (Vec Operand)) (named made : List (Vec (Option ℕ))) (constants : List (Vec Operand)) : Type 0 where
  pub fit : FitClasses types.program parts
  pub operands_are : AreOperandTables (imaged_of types parts texts) parts operands
  pub named_are : AreNamedTables (imaged_of types parts texts) parts named
  pub made_are : AreMadeTables (imaged_of types parts texts) parts made
  pub constants_are : AreConstantTables (imaged_of types parts texts) parts constants
  pub string : HasString types.program types.prefix
  pub chars : IsTrue (is_some (chars_at types))
  pub closed : AreClosed types.arrays
  pub numbered : IsNumbered (imaged_of types parts texts)
  pub few : length texts < 2 ^ 32
