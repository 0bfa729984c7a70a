use Rattle.std.proofs.Common.{◌≤◌, length, ◌∙◌, arith}
use Rattle.dj_link_rules.proofs.FileLaws.{pushed, all_pushed}
use Rattle.dj_link_rules.proofs.classes.unmakeable_classes.Goals as goal

pub loop-class-preserved : goal.loop-class-preserved
loop-class-preserved c =
    c.in_ok-push.ensures.items ∙ pushed c.args.table.now c.loop-class.class c.loop-class.marks.items c.is_unmakeable.result c.loop-class.invariant c.is_unmakeable.ensures

pub returns : goal.returns
returns c =
    let all : length c.args.table.now ≤ c.loop-class.class = (let past = c.loop-class-test.false in let count = c.class_count-class-end.ensures.count in omega (arith, past, count)) in
    all_pushed c.args.table.now c.loop-class.class c.loop-class.marks.items all c.loop-class.invariant
