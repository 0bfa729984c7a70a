use Rattle.std.proofs.Common.{subst}
use Rattle.std.proofs.lemmas.List.{take_all}
use Rattle.dj_report.specs.Lines.{Adds, IsLineAmong}
use Rattle.dj_file_rules.specs.Lines.{IsPairLine}
use Rattle.dj_report.proofs.Adding.{adds_one_more}
use Rattle.dj_file_rules.proofs.members.add_each_line.Goals as goal

pub loop-pair-preserved : goal.loop-pair-preserved
loop-pair-preserved c =
    adds_one_more (IsPairLine c.args.lines.now.path.now c.args.lines.now.rule c.args.lines.now.pool.now) c.args.pairs.now c.loop-pair.pair-index _ c.args.found.now.items c.loop-pair.found.items c.add_member_line.new.found.items
    c.loop-pair-test.true c.loop-pair.invariant c.in_ok-add_member_line.ensures

pub returns : goal.returns
returns c =
    subst (λ pairs. Adds (IsLineAmong (IsPairLine c.args.lines.now.path.now c.args.lines.now.rule c.args.lines.now.pool.now) pairs) c.args.found.now.items c.loop-pair.found.items)
    (take_all c.loop-pair.pair-index c.args.pairs.now c.loop-pair-test.false) c.loop-pair.invariant
