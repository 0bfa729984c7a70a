use Rattle.dj_resolution.specs.Shared.{HaveFieldMarks}
use Rattle.dj_resolution.proofs.sharing.fields_of.Given as goal

-- those so far
abbrev pub invariant-loop-at : goal.invariant-loop-at
invariant-loop-at l = HaveFieldMarks l.directory.program l.marked.items
