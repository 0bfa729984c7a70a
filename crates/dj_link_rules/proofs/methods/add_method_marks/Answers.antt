use Rattle.std.proofs.Common.{List, subst}
use Rattle.std.proofs.lemmas.List.{take_all}
use Rattle.dj_class.specs.declared.class.MemberView.{MemberView}
use Rattle.dj_class.specs.Members.{member_of}
use Rattle.dj_class.specs.Views.{class_of}
use Rattle.dj_report.specs.Lines.{Gains}
use Rattle.dj_report.proofs.Adding.{IsAmong, adds_read}
use Rattle.dj_early_rules.specs.trusted.Malformed.{IsFaultyMethod}
use Rattle.dj_early_rules.specs.Marks.{MarksOf, names_in}
use Rattle.dj_early_rules.proofs.Anys.{found_at, seen_any}
use Rattle.dj_early_rules.proofs.MarkLaws.{marks_seen, method_valid}
use Rattle.dj_link_rules.specs.trusted.Lines.{MethodLinkViolates}
use Rattle.dj_link_rules.proofs.methods.add_method_marks.Goals as goal

pub add_method_mark-requires-clause-attributes : goal.add_method_mark-requires-clause-attributes
add_method_mark-requires-clause-attributes c =
    (method_valid c.args.view.now.pool c.as_slice-method-items.result.now c.args.view.now.methods c.loop-method.method-index c.method-item.result c.as_slice-method-items.ensures
    c.loop-method-test.true c.method-item.is c.requires.valid.methods).attributes.each

pub add_method_mark-requires-clause-sound : goal.add_method_mark-requires-clause-sound
add_method_mark-requires-clause-sound c faulty =
    c.requires.sound (seen_any member_of (IsFaultyMethod c.args.view.now.pool) c.as_slice-method-items.result.now c.args.view.now.methods c.as_slice-method-items.ensures
    (found_at (λ m. IsFaultyMethod c.args.view.now.pool (member_of m)) c.as_slice-method-items.result.now c.loop-method.method-index c.method-item.result c.loop-method-test.true
    (subst (λ (m : MemberView). IsFaultyMethod c.args.view.now.pool (member_of m)) c.method-item.is faulty)))

pub loop-method-preserved : goal.loop-method-preserved
loop-method-preserved c =
    adds_read (λ (m : MemberView). MarksOf (names_in c.args.texts.now (member_of m)) (MethodLinkViolates c.args.known.now.table.now (class_of c.args.view.now) (member_of m))) c.as_slice-method-items.result.now c.loop-method.method-index c.method-item.result
    c.args.marks.now.items c.loop-method.marks.items c.add_method_mark.new.marks.items
    c.loop-method-test.true c.method-item.is c.loop-method.invariant c.in_ok-add_method_mark.ensures

pub returns : goal.returns
returns c =
    marks_seen c.args.texts.now (MethodLinkViolates c.args.known.now.table.now (class_of c.args.view.now)) c.as_slice-method-items.result.now c.args.view.now.methods c.args.marks.now.items c.loop-method.marks.items c.as_slice-method-items.ensures
    (subst (λ (views : List MemberView). Gains (IsAmong (λ m. MarksOf (names_in c.args.texts.now (member_of m)) (MethodLinkViolates c.args.known.now.table.now (class_of c.args.view.now) (member_of m))) views) c.args.marks.now.items c.loop-method.marks.items)
    (take_all c.loop-method.method-index c.as_slice-method-items.result.now c.loop-method-test.false) c.loop-method.invariant)
