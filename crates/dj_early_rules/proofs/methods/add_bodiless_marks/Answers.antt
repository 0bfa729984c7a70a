use Rattle.std.proofs.Common.{ℕ, subst}
use Rattle.dj_class.specs.Members.{member_of}
use Rattle.dj_class.specs.Views.{class_of}
use Rattle.dj_report.specs.Lines.{Gains}
use Rattle.dj_report.proofs.Adding.{on_ok}
use Rattle.dj_early_rules.specs.trusted.Methods.{MethodViolates}
use Rattle.dj_early_rules.specs.Marks.{MarksOf}
use Rattle.dj_early_rules.proofs.MethodLaws.{bodiless_marks}
use Rattle.dj_early_rules.proofs.methods.add_bodiless_marks.Goals as goal

pub returns : goal.returns
returns c =
    let class = class_of c.args.view.now in
    let method = member_of c.args.method.now in
    let a = c.args.marks.now.items in
    let b = c.add_whole_marks.new.marks.items in
    on_ok c.add_whole_marks.result
    (λ added. subst (λ (names : ℕ × ℕ). Gains (MarksOf names (MethodViolates class method)) a b) c.names_of-names.ensures
    (bodiless_marks class method c.names_of-names.result c.text_in-described.result.float a b c.requires.none c.text_in-described.ensures.means.float added))
    c.add_whole_marks.ensures
