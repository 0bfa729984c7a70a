use Rattle.std.proofs.Common.{◌<◌, length, arith}
use Rattle.dj_hierarchy_rule.specs.Known.{heads_of}
use Rattle.dj_hierarchy_rule.specs.Views.{seen_view}
use Rattle.dj_hierarchy_rule.proofs.Anys.{marks_more, seen_at}
use Rattle.dj_hierarchy_rule.proofs.judge.mark_first.Goals as goal

pub loop-place-preserved : goal.loop-place-preserved
loop-place-preserved c =
    let within : c.loop-place.place < length (heads_of c.args.hierarchy.now) = omega arith in
    marks_more (heads_of c.args.hierarchy.now) c.loop-place.place (seen_view c.index.result.now) c.violates-mark.result c.loop-place.marks.items c.push.new.self.items
    (seen_at seen_view c.args.hierarchy.now.heads.items c.loop-place.place c.index.result.now within c.index.ensures) c.in_ok-push.ensures.items c.violates-mark.ensures c.loop-place.invariant
