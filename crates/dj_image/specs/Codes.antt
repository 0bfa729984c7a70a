-- What is answered for a method's code and a field's constant, by their numbers.
use Rattle.std.specs.Prelude.{◌≡◌, ℕ, ◌<◌, ⊤, List, map, length, Option, Some, slice_get, option_and_then}
use Rattle.std.specs.Option.{option_map}
use Rattle.std.specs.List.{flat_map}
use Rattle.dj_ops.specs.declared.instruction.Instr.{Instr}
use Rattle.dj_labels.specs.declared.labelled.Protected.{Protected}
use Rattle.dj_pool.specs.trusted.Pool.{Constant}
use Rattle.dj_model.specs.trusted.Program.{Body, Abstract, Native, Runs}
use Rattle.dj_model.specs.trusted.Linking.{FoundMethod, FoundField}
use Rattle.dj_early_rules.specs.trusted.Instructions.{index_of}
use Rattle.dj_program.specs.trusted.Naming.{named_if}
use Rattle.dj_program.specs.trusted.Codes.{CodeParts, code_in, catches_in}
use Rattle.dj_program.specs.Views.{parts_of}
use Rattle.dj_numbering.specs.Members.{all_methods, all_fields}
use Rattle.dj_image.specs.declared.image.Body as bodies
use Rattle.dj_image.specs.declared.image.Body.TheVariants as variants
use Rattle.dj_image.specs.declared.operand.Operand.{Operand}
use Rattle.dj_image.specs.Sources.{Source}
use Rattle.dj_image.specs.Imaged.{Imaged, program_of}
use Rattle.dj_image.specs.Operands.{operand_of, named_class, value_operand}

-- code, with the constants of its class
pub record PooledCode : Type 0 where
  pub pool : List Constant
  pub parts : CodeParts

abbrev pub pooled : List Constant → Option CodeParts → Option PooledCode
pooled pool code = option_map (λ parts. record { pool = pool; parts = parts }) code

-- for each method of all classes, in order
unfoldable pub all_codes : List Source → List (Option PooledCode)
all_codes sources = flat_map (λ s. map (pooled s.pool) s.codes) sources

-- the code of the method of this number
abbrev pub code_at : Imaged → ℕ → Option PooledCode
code_at imaged method = option_and_then (λ code. code) (slice_get (all_codes imaged.sources) method)

-- ---- instructions

pub record HasInstr (imaged : Imaged) (method number : ℕ) : Type 0 where
  pub code : PooledCode
  pub own : code_at imaged method ≡ Some code
  pub within : number < length code.parts.labelled.code

pub record IsOperandAt (imaged : Imaged) (method number : ℕ) (operand : Operand) : Type 0 where
  pub code : PooledCode
  pub own : code_at imaged method ≡ Some code
  pub instr : Instr
  pub stands : slice_get code.parts.labelled.code number ≡ Some instr
  pub is : operand ≡ operand_of imaged instr (named_if code.pool (index_of instr))

pub record IsNamedAt (imaged : Imaged) (method number : ℕ) (class : Option ℕ) : Type 0 where
  pub code : PooledCode
  pub own : code_at imaged method ≡ Some code
  pub instr : Instr
  pub stands : slice_get code.parts.labelled.code number ≡ Some instr
  pub is : class ≡ named_class imaged (named_if code.pool (index_of instr))

-- ---- rows

pub record HasRange (imaged : Imaged) (method range : ℕ) : Type 0 where
  pub code : PooledCode
  pub own : code_at imaged method ≡ Some code
  pub within : range < length code.parts.labelled.ranges

pub record IsCaughtAt (imaged : Imaged) (method range : ℕ) (class : Option ℕ) : Type 0 where
  pub code : PooledCode
  pub own : code_at imaged method ≡ Some code
  pub row : Protected
  pub stands : slice_get code.parts.labelled.ranges range ≡ Some row
  pub is : class ≡ option_and_then (named_class imaged) (catches_in code.pool row.catch_type)

-- ---- fields and bodies

pub record IsConstantAt (imaged : Imaged) (field : ℕ) (operand : Operand) : Type 0 where
  pub found : FoundField
  pub there : slice_get (all_fields (program_of imaged)) field ≡ Some found
  pub is : operand ≡ value_operand imaged found.field.constant

-- the body that is borrowed is this one
abbrev pub SaysBody : Imaged → ℕ → Body → bodies.Body → Type 0
SaysBody imaged method Abstract variants.Abstract = ⊤
SaysBody imaged method (Native id) (variants.Native reported) = reported ≡ id
SaysBody imaged method (Runs code) (variants.Code reported) =
    (pool : List Constant) × (code_at imaged method ≡ Some (record { pool = pool; parts = parts_of reported.now })) × (code ≡ code_in pool (parts_of reported.now))
SaysBody imaged method body reported = ⊥

pub record IsBodyAt (imaged : Imaged) (method : ℕ) (reported : bodies.Body) : Type 0 where
  pub found : FoundMethod
  pub there : slice_get (all_methods (program_of imaged)) method ≡ Some found
  pub says : SaysBody imaged method found.method.body reported
