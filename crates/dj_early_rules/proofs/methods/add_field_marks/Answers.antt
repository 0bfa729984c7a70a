use Rattle.std.proofs.Common.{List, subst}
use Rattle.std.proofs.lemmas.List.{take_all}
use Rattle.dj_class.specs.declared.class.MemberView.{MemberView}
use Rattle.dj_class.specs.Members.{member_of}
use Rattle.dj_class.specs.Views.{class_of}
use Rattle.dj_report.specs.Lines.{Gains}
use Rattle.dj_report.proofs.Adding.{IsAmong, adds_read}
use Rattle.dj_early_rules.specs.trusted.Rules.{FieldViolates}
use Rattle.dj_early_rules.specs.Marks.{MarksOf, names_in}
use Rattle.dj_early_rules.proofs.MarkLaws.{marks_seen}
use Rattle.dj_early_rules.proofs.methods.add_field_marks.Goals as goal

pub loop-field-preserved : goal.loop-field-preserved
loop-field-preserved c =
    adds_read (λ (f : MemberView). MarksOf (names_in c.args.texts.now (member_of f)) (FieldViolates (class_of c.args.view.now) (member_of f))) c.as_slice-field-items.result.now c.loop-field.field-index c.field-item.result
    c.args.marks.now.items c.loop-field.marks.items c.add_field_mark.new.marks.items
    c.loop-field-test.true c.field-item.is c.loop-field.invariant c.in_ok-add_field_mark.ensures

pub returns : goal.returns
returns c =
    marks_seen c.args.texts.now (FieldViolates (class_of c.args.view.now)) c.as_slice-field-items.result.now c.args.view.now.fields c.args.marks.now.items c.loop-field.marks.items c.as_slice-field-items.ensures
    (subst (λ (views : List MemberView). Gains (IsAmong (λ f. MarksOf (names_in c.args.texts.now (member_of f)) (FieldViolates (class_of c.args.view.now) (member_of f))) views) c.args.marks.now.items c.loop-field.marks.items)
    (take_all c.loop-field.field-index c.as_slice-field-items.result.now c.loop-field-test.false) c.loop-field.invariant)
