use Rattle.std.proofs.Common.{◌≡◌, ◌++◌, map, take}
use Rattle.dj_library.specs.TableRows as rows
use Rattle.dj_hierarchy_rule.specs.Views.{head_view, seen_view}
use Rattle.dj_hierarchy_rule.proofs.head.see_all.Given as goal

-- the heads of the set, and those of the library so far
abbrev pub invariant-loop-row : goal.invariant-loop-row
invariant-loop-row l = map seen_view l.seen.items ≡ map head_view l.heads ++ map rows.head_view (take l.row-index l.classes)
