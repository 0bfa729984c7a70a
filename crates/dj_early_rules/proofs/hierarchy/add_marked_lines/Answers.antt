use Rattle.std.proofs.Common.{◌≡◌, ℕ, length, arith, subst}
use Rattle.dj_report.specs.Lines.{Adds}
use Rattle.dj_early_rules.specs.Kept.{IsMarkedLine}
use Rattle.dj_early_rules.proofs.HierarchyLaws.{marked_more}
use Rattle.dj_early_rules.proofs.hierarchy.add_marked_lines.Goals as goal

pub loop-place-preserved : goal.loop-place-preserved
loop-place-preserved c =
    marked_more c.args.owners.now c.args.marks.now c.loop-place.place c.owner_at-owner.result c.mark_at-mark.result c.args.found.now.items c.loop-place.found.items c.add_marked_line.new.found.items
    c.owner_at-owner.ensures c.mark_at-mark.ensures c.loop-place.invariant c.in_ok-add_marked_line.ensures

pub returns : goal.returns
returns c =
    let same : c.loop-place.place ≡ length c.args.owners.now = omega arith in
    subst (λ (n : ℕ). Adds (IsMarkedLine n c.args.owners.now c.args.marks.now) c.args.found.now.items c.loop-place.found.items) same c.loop-place.invariant
