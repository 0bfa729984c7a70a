use Rattle.std.proofs.Common.{subst, List}
use Rattle.std.proofs.lemmas.List.{take_all}
use Rattle.dj_labels.specs.declared.labelled.Protected.{Protected}
use Rattle.dj_report.specs.Lines.{Gains}
use Rattle.dj_report.proofs.Adding.{adds_one_more}
use Rattle.dj_early_rules.specs.Marks.{MarksOf}
use Rattle.dj_link_rules.specs.Known.{KnownRange}
use Rattle.dj_link_rules.specs.Marks.{AreRangeMarks}
use Rattle.dj_link_rules.proofs.passes.add_handler_marks.Goals as goal

pub loop-range-preserved : goal.loop-range-preserved
loop-range-preserved c =
    adds_one_more (λ (range : Protected). MarksOf c.args.names (KnownRange c.args.known.now c.args.pool.now range)) c.args.ranges.now c.loop-range.range-index _ c.args.marks.now.items c.loop-range.marks.items c.add_handler_mark.new.marks.items
    c.loop-range-test.true c.loop-range.invariant c.in_ok-add_handler_mark.ensures

pub returns : goal.returns
returns c =
    subst (λ (ranges : List Protected). Gains (AreRangeMarks c.args.names c.args.known.now c.args.pool.now ranges) c.args.marks.now.items c.loop-range.marks.items)
    (take_all c.loop-range.range-index c.args.ranges.now c.loop-range-test.false) c.loop-range.invariant
