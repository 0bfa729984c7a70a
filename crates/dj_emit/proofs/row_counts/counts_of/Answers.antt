use Rattle.std.proofs.Common.{◌≡◌, ℕ, ◌+◌, ◌≤◌, map, length, sym, ap, ◌∙◌, arith, if◌then◌else◌, Bool}
use Rattle.std.specs.List.{range_with_len}
use Rattle.dj_groups.specs.Groups.{Group, group_at}
use Rattle.dj_emit.specs.declared.parts.GroupPart.{GroupPart}
use Rattle.dj_emit.specs.Parts.{group_seen, groups_seen}
use Rattle.dj_emit.specs.Filed.{arrivals_from}
use Rattle.dj_emit.proofs.Steps as steps
use Rattle.dj_emit.proofs.RowCounts as rows
use Rattle.dj_emit.proofs.row_counts.counts_of.Goals as goal

pub loop-part-preserved : goal.loop-part-preserved
loop-part-preserved c =
    let i = c.loop-part.invariant in
    let k = c.loop-part.part-index in
    let gs = groups_seen c.args.parts.now in
    let q = c.loop-part-test.true in
    let here : rows.one c.part-item.result.arrives ≡ rows.one (group_at gs k).arrives =
    ap (λ (g : Group). rows.one g.arrives) (ap group_seen c.part-item.is ∙ sym (steps.group_is c.args.parts.now k c.part-item.result q)) in
    let next : c.loop-part.count + rows.one c.part-item.result.arrives ≡ arrivals_from gs 0 (k + 1) = omega (arith, here, i.here, rows.more gs k) in
    record {
      counts = c.in_ok-push.ensures.items ∙ steps.more (arrivals_from gs 0) c.loop-part.counts.items k c.loop-part.count i.counts i.here;
      here = c.with_next-count.ensures ∙ next;
      low = omega (arith, c.with_next-count.ensures, next, rows.at_most gs 0 (k + 1));
    }

pub returns : goal.returns
returns c =
    let i = c.loop-part.invariant in
    let k = c.loop-part.part-index in
    let e : k ≡ length (groups_seen c.args.parts.now) = omega (arith, c.loop-part-test.false, c.loop-part.auto.part-index-end, steps.length_groups c.args.parts.now) in
    c.in_ok-push-2.ensures.items ∙ steps.more (arrivals_from (groups_seen c.args.parts.now) 0) c.loop-part.counts.items k c.loop-part.count i.counts i.here
    ∙ ap (λ (n : ℕ). map (arrivals_from (groups_seen c.args.parts.now) 0) (range_with_len 0 (n + 1))) e
