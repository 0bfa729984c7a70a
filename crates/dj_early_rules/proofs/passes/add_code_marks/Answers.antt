use Rattle.std.proofs.Common.{List, subst, length}
use Rattle.dj_ops.specs.declared.instruction.Instr.{Instr}
use Rattle.dj_labels.specs.declared.labelled.Protected.{Protected}
use Rattle.dj_report.specs.Lines.{Gains}
use Rattle.dj_report.proofs.Adding.{on_ok}
use Rattle.dj_early_rules.specs.Marks.{MarksOf, ViolatesBelow, IsAmongRanges}
use Rattle.dj_early_rules.proofs.MarkLaws.{code_marks}
use Rattle.dj_early_rules.proofs.passes.add_code_marks.Goals as goal

pub returns : goal.returns
returns c =
    on_ok c.add_all_handler_marks.result
    (λ last. code_marks c.args.names c.args.pool.now c.args.labelled.now c.args.marks.now.items c.add_all_instr_marks.new.marks.items c.add_all_handler_marks.new.marks.items
    (subst (λ (code : List Instr). Gains (MarksOf c.args.names (ViolatesBelow (length code) c.args.pool.now code)) c.args.marks.now.items c.add_all_instr_marks.new.marks.items) c.as_slice.ensures c.in_ok-add_all_instr_marks.ensures)
    (subst (λ (ranges : List Protected). Gains (IsAmongRanges c.args.names c.args.pool.now ranges) c.add_all_instr_marks.new.marks.items c.add_all_handler_marks.new.marks.items) c.as_slice-2.ensures last))
    c.add_all_handler_marks.ensures
