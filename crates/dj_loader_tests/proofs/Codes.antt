-- Code that is reported has the instructions and the rows that are reported.
use Rattle.std.proofs.Common.{◌≡◌, ℕ, ◌<◌, length, Some, refl, sym, subst}
use Rattle.std.specs.Borrow.{Bor}
use Rattle.dj_model.specs.trusted.Program as programs
use Rattle.dj_model.specs.trusted.Program.{Abstract, Native, Runs}
use Rattle.dj_program.specs.trusted.Codes.{CodeParts}
use Rattle.dj_program.specs.declared.code.MethodCode.{MethodCode}
use Rattle.dj_program.specs.Views.{parts_of}
use Rattle.dj_image.specs.declared.image.Body as bodies
use Rattle.dj_image.specs.declared.image.Body.TheVariants as variants
use Rattle.dj_image.specs.Imaged.{Imaged}
use Rattle.dj_image.specs.Codes.{HasInstr, HasRange, SaysBody, IsBodyAt}
use Rattle.dj_loader_tests.specs.Members.{HasCode}

by_body : (imaged : Imaged) (method : ℕ) (body : programs.Body) (code : Bor MethodCode) → SaysBody imaged method body (variants.Code code) → HasCode imaged method code.now
by_body imaged method Abstract code reported = absurd reported
by_body imaged method (Native id) code reported = absurd reported
by_body imaged method (Runs run) code reported = record {
  pooled = record { pool = reported.0; parts = parts_of code.now };
  own = reported.1;
  parts = refl;
}

pub has_code : (imaged : Imaged) (method : ℕ) (code : Bor MethodCode) → IsBodyAt imaged method (variants.Code code) → HasCode imaged method code.now
has_code imaged method code body = by_body imaged method body.found.method.body code body.says

pub has_instr : (imaged : Imaged) (method number : ℕ) (code : MethodCode) → HasCode imaged method code → number < length code.code.code → HasInstr imaged method number
has_instr imaged method number code has less = record {
  code = has.pooled;
  own = has.own;
  within = subst (λ (parts : CodeParts). number < length parts.labelled.code) (sym has.parts) less;
}

pub has_range : (imaged : Imaged) (method range : ℕ) (code : MethodCode) → HasCode imaged method code → range < length code.code.ranges → HasRange imaged method range
has_range imaged method range code has less = record {
  code = has.pooled;
  own = has.own;
  within = subst (λ (parts : CodeParts). range < length parts.labelled.ranges) (sym has.parts) less;
}
