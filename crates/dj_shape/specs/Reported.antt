-- Used by the code alone: a line, by what is kept of a method.
use Rattle.std.specs.Prelude.{◌≡◌, List, ◌++◌, ℕ, Some}
use Rattle.dj_report.specs.declared.report.Violation.{Violation}
use Rattle.dj_numbering.specs.declared.types.MemberOf.{MemberOf}
use Rattle.dj_shape_rule.specs.declared.judge.ShapeFault.{ShapeFault}
use Rattle.dj_class_table.specs.Tables.{name_at}
use Rattle.dj_image.specs.Imaged.{Imaged, program_of}
use Rattle.dj_shape.specs.Rules.{IsPathOf}

pub record IsLineOf (class : List ℕ) (member : MemberOf) (fault : ShapeFault) (v : Violation) : Type 0 where
  pub path : IsPathOf v.path class
  pub member_is : v.member ≡ member.name.now ++ member.desc.now
  pub number : v.number ≡ fault.number
  pub rule : v.rule ≡ 19

-- the line of the method's class, whose name is there
pub record IsLineIn (imaged : Imaged) (member : MemberOf) (fault : ShapeFault) (v : Violation) : Type 0 where
  pub class : List ℕ
  pub named : name_at (program_of imaged) member.class ≡ Some class
  pub line : IsLineOf class member fault v
