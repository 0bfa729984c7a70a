use Rattle.dj_resolution.specs.Shared.{HaveRankMarks}
use Rattle.dj_resolution.proofs.sharing.methods_of.Given as goal

-- those so far
abbrev pub invariant-loop-at : goal.invariant-loop-at
invariant-loop-at l = HaveRankMarks l.directory.program l.ranks.ranks.items l.marked.items
