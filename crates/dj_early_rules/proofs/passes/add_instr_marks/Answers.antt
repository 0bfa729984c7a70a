use Rattle.dj_report.proofs.Adding.{on_ok}
use Rattle.dj_early_rules.specs.trusted.Instructions.{IsDynamic, IsReflection, IsFloat, IsSubroutine, IsBreakpoint, IsMultiArray}
use Rattle.dj_early_rules.proofs.MarkLaws.{at_rule, instr_marks}
use Rattle.dj_early_rules.proofs.passes.add_instr_marks.Goals as goal

pub returns : goal.returns
returns c =
    let pool = c.args.pool.now in
    let instr = c.args.instr.now in
    let x0 = c.args.marks.now.items in
    let x1 = c.add_mark_if.new.marks.items in
    let x2 = c.add_mark_if-2.new.marks.items in
    let x3 = c.add_mark_if-3.new.marks.items in
    let x4 = c.add_mark_if-4.new.marks.items in
    let x5 = c.add_mark_if-5.new.marks.items in
    let x6 = c.add_mark_if-6.new.marks.items in
    on_ok c.add_mark_if-6.result
    (λ last. instr_marks c.args.place pool instr x0 x1 x2 x3 x4 x5 x6
    (at_rule c.args.place 9 c.is_dynamic.result (IsDynamic pool instr) x0 x1 c.is_dynamic.ensures c.in_ok-add_mark_if.ensures)
    (at_rule c.args.place 10 c.is_reflection.result (IsReflection pool instr) x1 x2 c.is_reflection.ensures c.in_ok-add_mark_if-2.ensures)
    (at_rule c.args.place 12 c.is_float.result (IsFloat pool instr) x2 x3 c.is_float.ensures c.in_ok-add_mark_if-3.ensures)
    (at_rule c.args.place 13 c.is_subroutine.result (IsSubroutine pool instr) x3 x4 c.is_subroutine.ensures c.in_ok-add_mark_if-4.ensures)
    (at_rule c.args.place 14 c.is_breakpoint.result (IsBreakpoint pool instr) x4 x5 c.is_breakpoint.ensures c.in_ok-add_mark_if-5.ensures)
    (at_rule c.args.place 15 c.is_multi_array.result (IsMultiArray pool instr) x5 x6 c.is_multi_array.ensures last))
    c.add_mark_if-6.ensures
