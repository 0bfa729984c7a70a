-- The rule 19 over an image.
use Rattle.std.specs.Prelude.{◌≡◌, ℕ, List, ◌++◌, codes, Option, Some, None, IsTrue, is_some, slice_get}
use Rattle.std.specs.Char.Utf16.{utf16_lossy_chars}
use Rattle.std.specs.Str.{encode_utf8_all}
use Rattle.dj_names.specs.trusted.Descriptors.{Describes}
use Rattle.dj_names.specs.trusted.ModifiedUtf8.{SpellsUnits}
use Rattle.dj_report.specs.declared.report.Violation.{Violation}
use Rattle.dj_model.specs.trusted.Program.{Code, Runs, is_static}
use Rattle.dj_model.specs.trusted.Kinds.{Signature, signature_of}
use Rattle.dj_model.specs.trusted.Shape.{IsShapeFault}
use Rattle.dj_model.specs.Shape.{HasShape}
use Rattle.dj_model.specs.trusted.Linking.{FoundMethod}
use Rattle.dj_numbering.specs.Members.{all_methods}
use Rattle.dj_image.specs.Imaged.{Imaged, program_of}

abbrev pub IsMethodOf : Imaged → ℕ → FoundMethod → Type 0
IsMethodOf imaged method found = slice_get (all_methods (program_of imaged)) method ≡ Some found

-- ---- what is required of a method of which rule 19 is judged

-- its descriptor has no float and no double
abbrev pub HasKinds : Imaged → ℕ → Type 0
HasKinds imaged method =
    (found : FoundMethod) → IsMethodOf imaged method found → IsTrue (is_some (signature_of (is_static found.method.flags) found.method.desc))

-- the name of its class is modified UTF-8
abbrev pub IsSpelled : Imaged → ℕ → Type 0
IsSpelled imaged method = (found : FoundMethod) → IsMethodOf imaged method found → (units : List ℕ) × SpellsUnits found.class units

-- ---- rule 19, SHAPE

-- the path of a class's file: the characters of the class's name, and .class
pub record IsPathOf (path name : List ℕ) : Type 0 where
  pub units : List ℕ
  pub spelled : SpellsUnits name units
  pub is : path ≡ encode_utf8_all (utf16_lossy_chars units) ++ codes ".class"

-- the line of a method that has no shape
pub record IsShapeLine (imaged : Imaged) (method : ℕ) (v : Violation) : Type 0 where
  pub found : FoundMethod
  pub there : IsMethodOf imaged method found
  pub code : Code
  pub runs : found.method.body ≡ Runs code
  pub signature : Signature
  pub kinds : signature_of (is_static found.method.flags) found.method.desc ≡ Some signature
  pub such : IsShapeFault signature code v.number
  pub path : IsPathOf v.path found.class
  pub desc : List ℕ
  pub spelled : Describes desc found.method.desc
  pub member : v.member ≡ found.method.name ++ desc
  pub rule : v.rule ≡ 19

-- the method has no code, or its code has shape
abbrev pub HasShapeAt : Imaged → ℕ → Type 0
HasShapeAt imaged method =
    (found : FoundMethod) (code : Code) (signature : Signature) → IsMethodOf imaged method found → found.method.body ≡ Runs code
    → signature_of (is_static found.method.flags) found.method.desc ≡ Some signature → HasShape signature code

abbrev pub IsShapeReported : Imaged → ℕ → Option Violation → Type 0
IsShapeReported imaged method None = HasShapeAt imaged method
IsShapeReported imaged method (Some v) = IsShapeLine imaged method v
