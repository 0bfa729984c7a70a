use Rattle.std.proofs.Common.{◌≡◌, ℕ, map, take}
use Rattle.dj_graph.specs.declared.mark.NodeMark.TheVariants.{Closed}
use Rattle.dj_graph.proofs.mark.numbers_of.Given as goal

abbrev pub invariant-loop-mark : goal.invariant-loop-mark
invariant-loop-mark l = map (λ (n : ℕ). Closed n) l.numbers.items ≡ take l.mark-index l.marks
