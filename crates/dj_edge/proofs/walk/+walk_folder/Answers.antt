use Rattle.std.proofs.Common.{◌≤◌, ◌+◌, ◌-◌, ◌++◌, ◌∷◌, [], true, false, refl, sym, ◌∙◌, take, ap, subst, arith}
use Rattle.std.proofs.lemmas.Result.{err_from_is_err_and}
use Rattle.dj_edge.specs.declared.walk.Walk.{Walk}
use Rattle.dj_edge.proofs.Refusing.{too_deep, folder_unread, entry_refused, folder_below, cut_at, walks_as}
use Rattle.dj_edge.proofs.Walking.{SoFar, so_far_none, so_far_file, so_far_folder, walked_whole, taken_as, walked_as, so_far_as, next_entry, all_entries}
use Rattle.dj_edge.proofs.walk.+walk_folder.Goals.{then-branch+in_ok-walk_folder, else-branch}
use Rattle.dj_edge.proofs.walk.+walk_folder.Goals as goal

pub loop-entry-init : goal.loop-entry-init
loop-entry-init g t c = record {
  few = omega (arith, c.in_ok-entries.ensures.reads.few);
  same = refl;
  met = so_far_none _ _ _;
}

pub loop-entry-preserved : goal.loop-entry-preserved
loop-entry-preserved g t c =
    let tree = g.F.Folders.tree c.read_folder.new.folders in
    let entry = c.entry-item.result in
    let entries = c.deref-entry-items.result.now in
    let i = c.loop-entry.entry-index in
    let first : Walk = record { found = c.args.walk.now.found; entries = c.args.walk.now.entries + c.in_ok-entries.entries.count } in
    let mid = c.loop-entry.walk in
    let taken = c.take.new.self in
    let step = next_entry entries i entry c.loop-entry-test.true c.entry-item.is in
    elim c.if-branch.branch [
      | then-branch+in_ok-walk_folder w ↦ record {
        few = subst (λ (l : Walk). l.entries ≤ 1048576) (sym w.walk-is) w.walk_folder.ensures.few;
        same = ap g.F.Folders.tree w.folders-is ∙ w.in_ok-walk_folder.ensures.unchanged ∙ c.loop-entry.invariant.same;
        met = subst (SoFar tree c.args.levels (take (i + 1) entries) first) (sym w.walk-is)
            (so_far_as tree tree c.args.levels (take i entries ++ entry ∷ []) (take (i + 1) entries) first w.walk_folder.new.walk refl step
            (so_far_folder tree c.args.levels (take i entries) entry first mid taken w.walk_folder.new.walk c.loop-entry.invariant.met
            (taken_as entry mid taken c.in_ok-take.field-0 true w.if-branch.true c.in_ok-take.ensures.taken)
            (walked_as (g.F.Folders.tree c.loop-entry.folders) tree _ _ _ taken w.walk_folder.new.walk c.loop-entry.invariant.same w.as_str.ensures.value w.in_ok-walk_folder.ensures.walked)));
      }
      | else-branch w ↦ record {
        few = subst (λ (l : Walk). l.entries ≤ 1048576) (sym w.walk-is) (omega (arith, c.take.ensures.few, c.loop-entry.invariant.few));
        same = ap g.F.Folders.tree w.folders-is ∙ c.loop-entry.invariant.same;
        met = subst (SoFar tree c.args.levels (take (i + 1) entries) first) (sym w.walk-is)
            (so_far_as tree tree c.args.levels (take i entries ++ entry ∷ []) (take (i + 1) entries) first taken refl step
            (so_far_file tree c.args.levels (take i entries) entry first mid taken c.loop-entry.invariant.met
            (taken_as entry mid taken c.in_ok-take.field-0 false w.if-branch.false c.in_ok-take.ensures.taken)));
      }
    ]

pub returns-clause-walked : goal.returns-clause-walked
returns-clause-walked g t c =
    let tree = g.F.Folders.tree c.args.folders.now in
    let entries = c.in_ok-entries.entries.kept.items in
    let first : Walk = record { found = c.args.walk.now.found; entries = c.args.walk.now.entries + c.in_ok-entries.entries.count } in
    let far = so_far_as (g.F.Folders.tree c.read_folder.new.folders) tree c.args.levels _ entries first c.loop-entry.walk c.read_folder.ensures.unchanged
    (all_entries _ entries c.loop-entry.entry-index c.loop-entry-test.false c.deref-entry-items.ensures.value) c.loop-entry.invariant.met in
    walked_whole tree c.args.levels c.args.folder.now _ c.in_ok-entries.entries c.args.walk.now first c.loop-entry.walk (omega (arith, c.if-levels-eq0.false)) c.in_ok-entries.ensures.reads refl refl far

pub returns-then-levels-eq0-clause-walked : goal.returns-then-levels-eq0-clause-walked
returns-then-levels-eq0-clause-walked g t c = too_deep (g.F.Folders.tree c.args.folders.now) c.args.levels c.args.folder.now c.args.walk.now.entries c.if-levels-eq0.true

pub returns-in_err-entries-clause-walked : goal.returns-in_err-entries-clause-walked
returns-in_err-entries-clause-walked g t c =
    let p = err_from_is_err_and c.from_residual.result c.from_residual.ensures.1 in
    rw (p.1, p.2)
    (folder_unread (g.F.Folders.tree c.args.folders.now) c.args.levels c.args.folder.now (1048576 - c.args.walk.now.entries) c.args.walk.now c.args.walk.now c.in_err-entries.field-0.0
    (omega (arith, c.if-levels-eq0.false)) (omega (arith, c.requires)) c.in_err-entries.ensures.reads)

pub returns-in_err-take-clause-walked : goal.returns-in_err-take-clause-walked
returns-in_err-take-clause-walked g t c =
    let p = err_from_is_err_and c.from_residual-in_err-take.result c.from_residual-in_err-take.ensures.1 in
    let cut = cut_at c.deref-entry-items.result.now c.in_ok-entries.entries.kept.items c.loop-entry.entry-index c.entry-item.result c.deref-entry-items.ensures.value c.loop-entry-test.true c.entry-item.is in
    rw (p.1, p.2)
    (entry_refused (g.F.Folders.tree c.args.folders.now) c.args.levels c.args.folder.now (1048576 - c.args.walk.now.entries) c.in_ok-entries.entries c.loop-entry.entry-index c.entry-item.result
    c.args.walk.now c.take.new.self c.loop-entry.walk c.take.new.self c.in_err-take.field-0.0 (omega (arith, c.if-levels-eq0.false)) c.in_ok-entries.ensures.reads cut.0 cut.1 c.in_err-take.ensures.taken)

pub returns-in_err-walk_folder-clause-walked : goal.returns-in_err-walk_folder-clause-walked
returns-in_err-walk_folder-clause-walked g t c =
    let p = err_from_is_err_and c.from_residual-in_err-walk_folder.result c.from_residual-in_err-walk_folder.ensures.1 in
    let tree = g.F.Folders.tree c.args.folders.now in
    let items = c.in_ok-entries.entries.kept.items in
    let i = c.loop-entry.entry-index in
    let entry = c.entry-item.result in
    let first : Walk = record { found = c.args.walk.now.found; entries = c.args.walk.now.entries + c.in_ok-entries.entries.count } in
    let cut = cut_at c.deref-entry-items.result.now items i entry c.deref-entry-items.ensures.value c.loop-entry-test.true c.entry-item.is in
    let taken = taken_as entry c.loop-entry.walk c.take.new.self c.in_ok-take.field-0 true c.if-branch.true c.in_ok-take.ensures.taken in
    let far = so_far_as (g.F.Folders.tree c.read_folder.new.folders) tree c.args.levels (take i c.deref-entry-items.result.now) (take i items) first c.loop-entry.walk c.read_folder.ensures.unchanged
    (ap (take i) c.deref-entry-items.ensures.value) c.loop-entry.invariant.met in
    rw (p.1, p.2)
    (folder_below tree c.args.levels c.args.folder.now (1048576 - c.args.walk.now.entries) c.in_ok-entries.entries i entry c.args.walk.now c.walk_folder.new.walk first c.loop-entry.walk c.take.new.self
    c.walk_folder.new.walk c.in_err-walk_folder.field-0.0 (omega (arith, c.if-levels-eq0.false)) c.in_ok-entries.ensures.reads cut.0 cut.1 (taken.folder refl) refl far c.take.ensures.few
    (walks_as (g.F.Folders.tree c.loop-entry.folders) tree (c.args.levels - 1) c.as_str.result.now _ c.take.new.self c.walk_folder.new.walk c.in_err-walk_folder.field-0.0
    (c.loop-entry.invariant.same ∙ c.read_folder.ensures.unchanged) c.as_str.ensures.value c.in_err-walk_folder.ensures.walked))
