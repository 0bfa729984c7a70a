use Rattle.dj_resolution.proofs.Knowing.{IsGathered}
use Rattle.dj_resolution.proofs.above.Known.above.Given as goal

-- those that the class lists so far, with those above them
abbrev pub invariant-loop-listed : goal.invariant-loop-listed
invariant-loop-listed l = IsGathered l.table l.self.marks.items l.class l.listed-index l.numbers.list.items l.numbers.bits.items
