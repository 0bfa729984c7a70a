use Rattle.std.proofs.Common.{List, subst}
use Rattle.std.proofs.lemmas.List.{take_all}
use Rattle.dj_report.specs.Lines.{Adds, IsLineAmong}
use Rattle.dj_report.proofs.Adding.{adds_one_more}
use Rattle.dj_early_rules.specs.declared.marks.Mark.{Mark}
use Rattle.dj_early_rules.specs.Marks.{IsMarkLine}
use Rattle.dj_early_rules.proofs.lines.add_each_line.Goals as goal

pub loop-mark-preserved : goal.loop-mark-preserved
loop-mark-preserved c =
    adds_one_more (IsMarkLine c.args.path.now c.args.pool.now) c.args.marks.now c.loop-mark.mark-index _ c.args.found.now.items c.loop-mark.found.items c.add_mark_line.new.found.items
    c.loop-mark-test.true c.loop-mark.invariant c.in_ok-add_mark_line.ensures

pub returns : goal.returns
returns c =
    subst (λ (marks : List Mark). Adds (IsLineAmong (IsMarkLine c.args.path.now c.args.pool.now) marks) c.args.found.now.items c.loop-mark.found.items)
    (take_all c.loop-mark.mark-index c.args.marks.now c.loop-mark-test.false) c.loop-mark.invariant
