use Rattle.std.proofs.Common.{subst}
use Rattle.dj_class.specs.Members.{member_of}
use Rattle.dj_class.specs.Views.{class_of}
use Rattle.dj_early_rules.specs.declared.code.MethodBody.{MethodBody}
use Rattle.dj_early_rules.specs.Marks.{names_in}
use Rattle.dj_early_rules.specs.Passes.{IsMethodView}
use Rattle.dj_link_rules.proofs.PassLaws.{bodiless_marks}
use Rattle.dj_link_rules.proofs.methods.add_method_mark.Goals as goal

pub unreachable-requires : goal.unreachable-requires
unreachable-requires c =
    c.requires.sound (subst (λ (code : MethodBody). IsMethodView c.args.view.now.pool (member_of c.args.method.now) code) c.in-Faulty.is c.in_ok-code_of_method.ensures)

pub returns-in-Bodiless : goal.returns-in-Bodiless
returns-in-Bodiless c =
    let none = (subst (λ (code : MethodBody). IsMethodView c.args.view.now.pool (member_of c.args.method.now) code) c.in-Bodiless.is c.in_ok-code_of_method.ensures).1 in
    bodiless_marks (class_of c.args.view.now) (member_of c.args.method.now) (names_in c.args.texts.now (member_of c.args.method.now)) c.args.known.now c.args.marks.now.items none
