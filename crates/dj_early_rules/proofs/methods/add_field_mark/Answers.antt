use Rattle.std.proofs.Common.{ℕ, subst}
use Rattle.dj_class.specs.Members.{member_of}
use Rattle.dj_class.specs.Views.{class_of}
use Rattle.dj_report.specs.Lines.{Gains}
use Rattle.dj_report.proofs.Adding.{on_ok}
use Rattle.dj_early_rules.specs.trusted.Rules.{FieldViolates}
use Rattle.dj_early_rules.specs.Marks.{MarksOf}
use Rattle.dj_early_rules.proofs.MethodLaws.{field_mark}
use Rattle.dj_early_rules.proofs.methods.add_field_mark.Goals as goal

pub returns : goal.returns
returns c =
    let class = class_of c.args.view.now in
    let field = member_of c.args.field.now in
    let a = c.args.marks.now.items in
    let b = c.add_mark_if.new.marks.items in
    on_ok c.add_mark_if.result
    (λ added. subst (λ (names : ℕ × ℕ). Gains (MarksOf names (FieldViolates class field)) a b) c.names_of-names.ensures
    (field_mark class field c.names_of-names.result c.text_in-float.result.float a b c.text_in-float.ensures.means.float added))
    c.add_mark_if.ensures
