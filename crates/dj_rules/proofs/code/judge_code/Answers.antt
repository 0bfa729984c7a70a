use Rattle.std.proofs.Common.{inl, sym, ◌∙◌}
use Rattle.dj_class.specs.Members.{member_of}
use Rattle.dj_class.specs.Views.{class_of}
use Rattle.dj_report.proofs.Adding.{not_both}
use Rattle.dj_rules.proofs.MethodLaws.{reported_nothing, reported_some, reported_shaped, unreported_where_none, plain_desc, from_none}
use Rattle.dj_rules.proofs.code.judge_code.Goals as goal

pub returns-in_default-clause-marks : goal.returns-in_default-clause-marks
returns-in_default-clause-marks c =
    let method = member_of c.args.method.now in
    reported_nothing (class_of c.args.view.now) c.args.known method _ (record { early = c.add_own_marks.new.marks; late = c.new-late.result }) c.in_default.is
    (from_none _ c.new-early.result.items c.add_own_marks.new.marks.items c.new-early.ensures.items c.in_ok-add_own_marks.ensures)

pub add_whole_marks-requires-clause-unreported : goal.add_whole_marks-requires-clause-unreported
add_whole_marks-requires-clause-unreported c =
    unreported_where_none (class_of c.args.view.now) (member_of c.args.method.now) _ c.add_own_marks.new.marks.items c.deref.result.now c.has_marks-unreported.result
    (from_none _ c.new-early.result.items c.add_own_marks.new.marks.items c.new-early.ensures.items c.in_ok-add_own_marks.ensures) c.deref.ensures.value c.has_marks-unreported.ensures

pub returns-then-is_reported-clause-marks : goal.returns-then-is_reported-clause-marks
returns-then-is_reported-clause-marks c =
    let method = member_of c.args.method.now in
    reported_some (class_of c.args.view.now) c.args.known c.in-Some.known method _ c.add_own_marks.new.marks c.add_whole_marks.new.marks c.deref-2.result.now c.deref-3.result.now c.in-Some.is c.deref-2.ensures.value c.deref-3.ensures.value
    (from_none _ c.new-early.result.items c.add_own_marks.new.marks.items c.new-early.ensures.items c.in_ok-add_own_marks.ensures)
    (from_none _ c.new-late.result.items c.add_whole_marks.new.marks.items c.new-late.ensures.items c.in_ok-add_whole_marks.ensures)
    (c.is_reported.ensures.0 c.if-is_reported.true)

pub add_shape_mark-requires-clause-plain : goal.add_shape_mark-requires-clause-plain
add_shape_mark-requires-clause-plain c =
    plain_desc (class_of c.args.view.now) (member_of c.args.method.now) _ c.add_own_marks.new.marks.items
    (from_none _ c.new-early.result.items c.add_own_marks.new.marks.items c.new-early.ensures.items c.in_ok-add_own_marks.ensures)
    (λ some. not_both c.is_reported.result (c.is_reported.ensures.1 (inl (λ e. some (sym c.deref-2.ensures.value ∙ e)))) c.if-is_reported.false)

pub returns-clause-marks : goal.returns-clause-marks
returns-clause-marks c =
    let method = member_of c.args.method.now in
    reported_shaped (class_of c.args.view.now) c.args.known c.in-Some.known method _ c.args.code c.add_own_marks.new.marks c.add_whole_marks.new.marks c.add_shape_mark.new.marks c.deref-2.result.now c.deref-3.result.now c.names_of-names.result
    c.in-Some.is c.names_of-names.ensures c.deref-2.ensures.value c.deref-3.ensures.value
    (from_none _ c.new-early.result.items c.add_own_marks.new.marks.items c.new-early.ensures.items c.in_ok-add_own_marks.ensures)
    (from_none _ c.new-late.result.items c.add_whole_marks.new.marks.items c.new-late.ensures.items c.in_ok-add_whole_marks.ensures)
    c.requires.code
    (λ reported. not_both c.is_reported.result (c.is_reported.ensures.1 reported) c.if-is_reported.false)
    c.in_ok-add_shape_mark.ensures.marks
