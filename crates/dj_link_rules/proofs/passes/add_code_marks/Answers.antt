use Rattle.std.proofs.Common.{List, sym, subst, length}
use Rattle.dj_ops.specs.declared.instruction.Instr.{Instr}
use Rattle.dj_labels.specs.declared.labelled.Protected.{Protected}
use Rattle.dj_report.specs.Lines.{Gains}
use Rattle.dj_report.proofs.Adding.{on_ok}
use Rattle.dj_early_rules.specs.Marks.{MarksOf}
use Rattle.dj_link_rules.specs.Known.{KnownBelow}
use Rattle.dj_link_rules.specs.Marks.{AreRangeMarks, AreUnreported}
use Rattle.dj_link_rules.proofs.PassLaws.{code_marks}
use Rattle.dj_link_rules.proofs.passes.add_code_marks.Goals as goal

pub add_instr_marks-requires-clause-unreported : goal.add_instr_marks-requires-clause-unreported
add_instr_marks-requires-clause-unreported c t = subst (AreUnreported c.args.pool.now) (sym c.as_slice.ensures) (c.requires.unreported t)

pub returns : goal.returns
returns c =
    on_ok c.add_handler_marks.result
    (λ last. code_marks c.args.names c.args.known.now c.args.pool.now c.args.labelled.now c.args.marks.now.items c.add_instr_marks.new.marks.items c.add_handler_marks.new.marks.items
    (subst (λ (code : List Instr). Gains (MarksOf c.args.names (KnownBelow (length code) c.args.known.now c.args.pool.now code)) c.args.marks.now.items c.add_instr_marks.new.marks.items) c.as_slice.ensures c.in_ok-add_instr_marks.ensures)
    (subst (λ (ranges : List Protected). Gains (AreRangeMarks c.args.names c.args.known.now c.args.pool.now ranges) c.add_instr_marks.new.marks.items c.add_handler_marks.new.marks.items) c.as_slice-2.ensures last))
    c.add_handler_marks.ensures
