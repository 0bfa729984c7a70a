-- Rule 19, SHAPE, of a method that has code.
use Rattle.std.specs.Prelude.{◌≡◌, ℕ, Bool, List, Option, Some}
use Rattle.dj_pool.specs.trusted.Pool.{Constant}
use Rattle.dj_class.specs.trusted.ClassFile.{MemberInfo}
use Rattle.dj_model.specs.trusted.Program.{is_static}
use Rattle.dj_model.specs.trusted.Kinds.{Signature, signature_of}
use Rattle.dj_model.specs.trusted.Shape.{IsShapeFault}
use Rattle.dj_declarations.specs.trusted.Files.{desc_in, name_in}
use Rattle.dj_program.specs.trusted.Codes.{CodeParts, code_in, IsMethodCode}

-- the kinds that a method takes and returns; its descriptor is the text of this index. None where it has a float or a double
abbrev pub signature_at : List Constant → Bool → ℕ → Option Signature
signature_at pool static desc = signature_of static (desc_in (name_in pool desc))

-- the method's code has no shape; the number is that of the instruction at which it fails, and none where its attribute is no stack map
pub record LacksShape (pool : List Constant) (m : MemberInfo) (number : Option ℕ) : Type 0 where
  pub parts : CodeParts
  pub code : IsMethodCode pool m parts
  pub signature : Signature
  pub kinds : signature_at pool (is_static m.flags) m.desc ≡ Some signature
  pub such : IsShapeFault signature (code_in pool parts) number
