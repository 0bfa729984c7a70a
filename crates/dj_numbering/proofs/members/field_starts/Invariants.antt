use Rattle.dj_numbering.specs.Members.{fields_in}
use Rattle.dj_numbering.specs.Numbered.{counts_of}
use Rattle.dj_numbering.proofs.Starts.{IsSummed}
use Rattle.dj_numbering.proofs.members.field_starts.Given as goal

-- the classes so far
abbrev pub invariant-loop-class : goal.invariant-loop-class
invariant-loop-class l = IsSummed (counts_of fields_in l.table) l.class l.each.items l.total
