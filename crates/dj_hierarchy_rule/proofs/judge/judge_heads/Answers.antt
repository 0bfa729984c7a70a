use Rattle.std.proofs.Common.{◌<◌, ◌^◌, length, map, sym, ◌∙◌, arith}
use Rattle.std.proofs.lemmas.List.{length-map}
use Rattle.dj_hierarchy_rule.specs.Known.{heads_of}
use Rattle.dj_hierarchy_rule.specs.Views.{head_view, seen_view}
use Rattle.dj_hierarchy_rule.proofs.Judging.{if_ok_then, few_all, judged}
use Rattle.dj_hierarchy_rule.proofs.judge.judge_heads.Goals as goal

pub hierarchy_of-requires : goal.hierarchy_of-requires
hierarchy_of-requires c =
    let few : length (map head_view c.args.heads.now) < 2 ^ 30 = omega (arith, length-map c.args.heads.now head_view) in
    let all = few_all (map head_view c.args.heads.now) (map seen_view c.in_ok-see_all.field-0.items) c.in_ok-see_all.ensures few in
    omega (arith, length-map c.in_ok-see_all.field-0.items seen_view)

pub returns : goal.returns
returns c =
    if_ok_then c.mark_first.result
    (λ marks marked. judged (map head_view c.args.heads.now) (heads_of c.in_ok-hierarchy.hierarchy) (length c.args.heads.now) marks.items
    (c.in_ok-hierarchy.ensures.1 ∙ c.in_ok-see_all.ensures) (sym (length-map c.args.heads.now head_view)) marked)
    c.mark_first.ensures
