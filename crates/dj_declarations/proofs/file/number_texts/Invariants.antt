use Rattle.dj_declarations.specs.MemberRows.{AreNumbered}
use Rattle.dj_declarations.proofs.file.number_texts.Given as goal

-- the numbers so far
abbrev pub invariant-loop-named : goal.invariant-loop-named
invariant-loop-named l = AreNumbered l.pool l.places.items l.table
