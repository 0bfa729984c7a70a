use Rattle.std.proofs.Common.{◌∙◌, Option, sym, subst}
use Rattle.dj_model.specs.trusted.Kinds.{call_signature}
use Rattle.dj_declarations.specs.trusted.Files.{desc_in, name_in}
use Rattle.dj_program.specs.trusted.Codes.{code_in}
use Rattle.dj_program.specs.Views.{parts_of}
use Rattle.dj_shape_rule.specs.declared.judge.ShapeFault.{ShapeFault}
use Rattle.dj_shape_rule.specs.Rule.{IsShapeAnswer}
use Rattle.dj_shape_rule.proofs.Judging.{answer_for, in_code, no_call, none_so}
use Rattle.dj_shape_rule.proofs.judge.shape.Goals as goal

pub returns-in_default : goal.returns-in_default
returns-in_default c = λ pool signature are is has. none_so (code_in pool (parts_of c.args.code.now)).frames ((in_code pool c.args.code.now).4 ∙ c.in_default.is)

pub returns : goal.returns
returns c = λ pool signature are is has.
    let call = are.calls c.args.desc is ∙ sym c.in-Some-call.ensures in
    let code = code_in pool (parts_of c.args.code.now) in
    subst (λ (f : Option ShapeFault). IsShapeAnswer signature code f) (sym c.fault_reported.ensures)
    (answer_for c.args.is_static (call_signature (desc_in (name_in pool c.args.desc))) c.in-Some-call.call.now signature code c.in_ok-fault.fault call has (c.in_ok-fault.ensures pool are c.in-Some.is))

pub returns-in_default-call : goal.returns-in_default-call
returns-in_default-call c = λ pool signature are is has.
    absurd (no_call c.args.is_static (call_signature (desc_in (name_in pool c.args.desc))) signature (are.calls c.args.desc is ∙ sym c.in_default-call.ensures) has)
