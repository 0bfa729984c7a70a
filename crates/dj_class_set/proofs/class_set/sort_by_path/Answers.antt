use Rattle.std.proofs.Common.{ℕ}
use Rattle.std.specs.Global.{Vec}
use Rattle.std.specs.Ordering.{nat_cmp}
use Rattle.std.specs.Cmp.Lexicographic.{slice_cmp}
use Rattle.std.specs.String.{string_cmp}
use Rattle.dj_class_set.proofs.ByPath.{sorted_by_first}
use Rattle.dj_class_set.proofs.class_set.sort_by_path.Goals as goal

pub returns-clause-sorted : goal.returns-clause-sorted
returns-clause-sorted c = sorted_by_first string_cmp (λ (a b : Vec ℕ). slice_cmp nat_cmp a.items b.items) c.sort.new.self c.in_ok-sort.ensures.sorted
