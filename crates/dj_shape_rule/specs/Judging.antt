-- Used by the code alone: the whole of a method's code.
use Rattle.std.specs.Prelude.{◌≡◌, ℕ, map, Option, Some, None}
use Rattle.dj_names.specs.declared.descriptor.Kind.{Kind}
use Rattle.dj_program.specs.declared.code.MethodCode.{MethodCode}
use Rattle.dj_program.specs.trusted.Naming.{instruction_in}
use Rattle.dj_program.specs.trusted.Codes.{range_in}
use Rattle.dj_model.specs.trusted.Program.{Code}
use Rattle.dj_model.specs.trusted.Kinds.{Signature}
use Rattle.dj_model.specs.trusted.Shape.{first_kinds, IsShapeFault}
use Rattle.dj_model.specs.Shape.{HasShape}
use Rattle.dj_shape_rule.specs.declared.judge.ShapeFault.{ShapeFault}
use Rattle.dj_shape_rule.specs.Kept.{KeptKinds}
use Rattle.dj_shape_rule.specs.Pools.{ArePoolKinds}
use Rattle.dj_shape_rule.specs.Standing.{Standing, HasRoomOf}
use Rattle.dj_shape_rule.specs.Reported.{ReportedFrames, AreReported}
use Rattle.dj_shape_rule.specs.Passing.{Case}

-- the code of the case is this code, whose frames were read, and before its first instruction these kinds stand
pub record IsJudged (kinds : KeptKinds) (returned : Option Kind) (code : MethodCode) (frames : ReportedFrames) (state : Standing) (c : Case) : Type 0 where
  pub kept : ArePoolKinds c.pool kinds
  pub gives : returned ≡ c.signature.result
  pub instructions : c.code.instructions ≡ map (instruction_in c.pool) code.code.code
  pub ranges : c.code.ranges ≡ map (range_in c.pool) code.code.ranges
  pub reported : AreReported c.code.max_stack c.code.max_locals c.placed frames
  pub room : HasRoomOf state c.code
  pub first : state.kinds ≡ first_kinds c.signature c.code

-- code with a stack map has shape, or this is the number of its fault
abbrev pub IsFaultOf : Signature → Code → Option ℕ → Type 0
IsFaultOf signature code None = HasShape signature code
IsFaultOf signature code (Some number) = IsShapeFault signature code (Some number)

abbrev pub fault_reported : Option ℕ → Option ShapeFault
fault_reported None = None
fault_reported (Some number) = Some (record { number = Some number })
