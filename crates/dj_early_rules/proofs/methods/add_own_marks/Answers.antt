use Rattle.std.proofs.Common.{ℕ, subst}
use Rattle.dj_class.specs.Members.{member_of}
use Rattle.dj_class.specs.Views.{class_of}
use Rattle.dj_report.specs.Lines.{Gains}
use Rattle.dj_report.proofs.Adding.{on_ok}
use Rattle.dj_early_rules.specs.trusted.Methods.{MethodViolates}
use Rattle.dj_early_rules.specs.Marks.{MarksOf}
use Rattle.dj_early_rules.proofs.MethodLaws.{short_code, method_marks}
use Rattle.dj_early_rules.proofs.methods.add_own_marks.Goals as goal

pub add_code_marks-requires-clause-few : goal.add_code_marks-requires-clause-few
add_code_marks-requires-clause-few c = (short_code c.args.view.now.pool (member_of c.args.method.now) c.args.code.now c.requires.code).instrs

pub returns : goal.returns
returns c =
    let class = class_of c.args.view.now in
    let method = member_of c.args.method.now in
    let a = c.args.marks.now.items in
    let b = c.add_whole_marks.new.marks.items in
    let d = c.add_code_marks.new.marks.items in
    on_ok c.add_code_marks.result
    (λ added. subst (λ (names : ℕ × ℕ). Gains (MarksOf names (MethodViolates class method)) a d) c.names_of-names.ensures
    (method_marks class method c.names_of-names.result c.args.code.now c.is_float_method-float.result c.is_interface_method-interface_code.result a b d c.requires.code
    c.is_float_method-float.ensures c.is_interface_method-interface_code.ensures c.in_ok-add_whole_marks.ensures added))
    c.add_code_marks.ensures
