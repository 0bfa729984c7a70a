use Rattle.std.proofs.Common.{ℕ, subst}
use Rattle.dj_class.specs.Members.{member_of}
use Rattle.dj_class.specs.Views.{class_of}
use Rattle.dj_report.specs.Lines.{Gains}
use Rattle.dj_report.proofs.Adding.{on_ok}
use Rattle.dj_early_rules.specs.Marks.{MarksOf}
use Rattle.dj_early_rules.proofs.MethodLaws.{short_code}
use Rattle.dj_link_rules.specs.trusted.Lines.{MethodLinkViolates}
use Rattle.dj_link_rules.proofs.PassLaws.{unreported_code, method_marks}
use Rattle.dj_link_rules.proofs.methods.add_whole_marks.Goals as goal

pub add_code_marks-requires-clause-few : goal.add_code_marks-requires-clause-few
add_code_marks-requires-clause-few c = (short_code c.args.view.now.pool (member_of c.args.method.now) c.args.code.now c.requires.code).instrs

pub add_code_marks-requires-clause-unreported : goal.add_code_marks-requires-clause-unreported
add_code_marks-requires-clause-unreported c t = unreported_code (class_of c.args.view.now) (member_of c.args.method.now) c.args.code.now c.requires.code (c.requires.unreported t)

pub returns : goal.returns
returns c =
    let class = class_of c.args.view.now in
    let method = member_of c.args.method.now in
    let known = c.args.known.now in
    let a = c.args.marks.now.items in
    let b = c.add_code_marks.new.marks.items in
    on_ok c.add_code_marks.result
    (λ added. subst (λ (names : ℕ × ℕ). Gains (MarksOf names (MethodLinkViolates known.table.now class method)) a b) c.names_of-names.ensures
    (method_marks class method c.names_of-names.result known c.args.code.now a b c.requires.known c.requires.code added))
    c.add_code_marks.ensures
