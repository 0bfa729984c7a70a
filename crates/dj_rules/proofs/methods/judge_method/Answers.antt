use Rattle.std.proofs.Common.{subst}
use Rattle.dj_class.specs.Members.{member_of}
use Rattle.dj_class.specs.Views.{class_of}
use Rattle.dj_early_rules.specs.declared.code.MethodBody.{MethodBody}
use Rattle.dj_early_rules.specs.Passes.{IsMethodView}
use Rattle.dj_rules.specs.Late.{HasKnown}
use Rattle.dj_rules.proofs.MethodLaws.{whole_method}
use Rattle.dj_rules.proofs.methods.judge_method.Goals as goal

pub returns-in_ok-add_marks-in-Whole-clause-marks : goal.returns-in_ok-add_marks-in-Whole-clause-marks
returns-in_ok-add_marks-in-Whole-clause-marks c =
    let method = member_of c.args.method.now in
    let whole = subst (λ (code : MethodBody). IsMethodView c.args.view.now.pool method code) c.in-Whole.is c.in_ok-code_of_method.ensures in
    whole_method (class_of c.args.view.now) (HasKnown c.args.known) c.args.texts.now method c.args.marks.now c.in_ok-own-in-Whole.own c.add_marks.new.marks whole.sound c.in_ok-own-in-Whole.ensures.marks
    c.in_ok-add_marks-in-Whole.ensures.early c.in_ok-add_marks-in-Whole.ensures.late
