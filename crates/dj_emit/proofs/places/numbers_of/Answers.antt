use Rattle.std.proofs.Common.{rules, ◌≡◌, ◌^◌, ◌<◌, length, map, IfOk, ℕ, ◌+◌, ◌-◌, ◌*◌, ◌≤◌, [], ◌∷◌, ◌++◌, arith, refl, sym, ap, ◌∙◌}
use Rattle.std.specs.List.{range_with_len}
use Rattle.dj_groups.specs.Groups.{inserted, start, own, starts, owns}
use Rattle.dj_groups.proofs.GroupLaws.{start_zero}
use Rattle.dj_emit.specs.declared.parts.GroupPart.{GroupPart}
use Rattle.dj_emit.specs.Parts.{group_seen, groups_seen}
use Rattle.dj_emit.proofs.Steps.{more, next_start, own_here, own_end, length_groups}
use Rattle.dj_emit.proofs.places.numbers_of.Goals as goal

pub loop-group-init : goal.loop-group-init
loop-group-init c = record { starts = c.new-start.ensures.items; owns = c.new-own.ensures.items; here = sym (start_zero (groups_seen c.args.groups.now)); low = omega arith }

pub loop-group-preserved : goal.loop-group-preserved
loop-group-preserved c =
    let i = c.loop-group.invariant in
    let h = c.inserted_count-inserted.ensures in
    let q = c.loop-group-test.true in
    let k = c.loop-group.group-index in
    let few = h.is ∙ ap (λ (g : GroupPart). length (inserted (group_seen g))) c.group-item.is in
    record {
      starts = c.in_ok-push.ensures.items ∙ more (start (groups_seen c.args.groups.now)) c.loop-group.start.items k c.loop-group.at i.starts i.here;
      owns = c.in_ok-push-2.ensures.items ∙ more (own (groups_seen c.args.groups.now)) c.loop-group.own.items k (c.loop-group.at + c.inserted_count-inserted.result) i.owns
          (own_here c.args.groups.now k c.loop-group.at c.inserted_count-inserted.result c.group-item.result q i.here few);
      here = next_start c.args.groups.now k c.loop-group.at c.inserted_count-inserted.result c.group-item.result q i.here few;
      low = omega (arith, i.low, h.few);
    }

pub returns-clause-start : goal.returns-clause-start
returns-clause-start c =
    let i = c.loop-group.invariant in
    let k = c.loop-group.group-index in
    let e : k ≡ length (groups_seen c.args.groups.now) = omega (arith, c.loop-group-test.false, c.loop-group.auto.group-index-end, length_groups c.args.groups.now) in
    c.in_ok-push-3.ensures.items ∙ more (start (groups_seen c.args.groups.now)) c.loop-group.start.items k c.loop-group.at i.starts i.here
    ∙ ap (λ (n : ℕ). map (start (groups_seen c.args.groups.now)) (range_with_len 0 (n + 1))) e

pub returns-clause-own : goal.returns-clause-own
returns-clause-own c =
    let i = c.loop-group.invariant in
    let k = c.loop-group.group-index in
    let e : k ≡ length (groups_seen c.args.groups.now) = omega (arith, c.loop-group-test.false, c.loop-group.auto.group-index-end, length_groups c.args.groups.now) in
    let f : k ≡ length c.args.groups.now = omega (arith, c.loop-group-test.false, c.loop-group.auto.group-index-end) in
    c.in_ok-push-4.ensures.items
    ∙ more (own (groups_seen c.args.groups.now)) c.loop-group.own.items k c.loop-group.at i.owns
    (i.here ∙ ap (start (groups_seen c.args.groups.now)) f ∙ sym (own_end c.args.groups.now) ∙ ap (own (groups_seen c.args.groups.now)) (sym f))
    ∙ ap (λ (n : ℕ). map (own (groups_seen c.args.groups.now)) (range_with_len 0 (n + 1))) e
