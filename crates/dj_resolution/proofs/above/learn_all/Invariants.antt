use Rattle.dj_resolution.specs.Bits.{HaveBits}
use Rattle.dj_resolution.specs.Numbers.{AreKnown, lists_of}
use Rattle.dj_resolution.proofs.above.learn_all.Given as goal

-- what is known so far
abbrev pub invariant-loop-class : goal.invariant-loop-class
invariant-loop-class l = record {
  known : AreKnown l.table (lists_of l.known.lists.items) l.known.marks.items;
  bits : HaveBits (lists_of l.known.lists.items) (lists_of l.known.rows.items) l.known.marks.items;
}
