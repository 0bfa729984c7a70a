use Rattle.std.proofs.Common.{arith}
use Rattle.dj_link_rules.proofs.ClassTexts.{bracket_ends}
use Rattle.dj_link_rules.proofs.class_text.brackets.Goals as goal

pub returns-then-byte-ne91-clause-count : goal.returns-then-byte-ne91-clause-count
returns-then-byte-ne91-clause-count c = omega (arith, c.loop-byte.invariant.0, bracket_ends c.args.text.now c.loop-byte.byte-index c.loop-byte-test.true c.if-byte-ne91.true)
