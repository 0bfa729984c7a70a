use Rattle.dj_resolution.specs.Shared.{HavePlainMarks}
use Rattle.dj_resolution.proofs.sharing.plain_methods_of.Given as goal

-- those so far
abbrev pub invariant-loop-at : goal.invariant-loop-at
invariant-loop-at l = HavePlainMarks l.directory.program l.marked.items
