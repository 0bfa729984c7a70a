use Rattle.std.proofs.Common.{w64}
use Rattle.std.proofs.lemmas.Int.{to_z-of_z}
use Rattle.dj_layout.proofs.Passing.{long_is, near_is, target_fits, others_reach}
use Rattle.dj_layout.proofs.bytes.reaches.Goals as goal

pub returns-then-op-ge200 : goal.returns-then-op-ge200
returns-then-op-ge200 c =
    long_is c.args.instr.now c.args.at c.in-Branch.op c.in-Branch.target c.in-Branch.is c.if-op-ge200.true c.requires.proper c.requires.at c.requires.targets

pub returns-else-op-ge200 : goal.returns-else-op-ge200
returns-else-op-ge200 c =
    near_is c.is_near.result c.args.instr.now c.args.at c.in-Branch.op c.in-Branch.target _ c.in-Branch.is (to_z-of_z w64 c.in-Branch.target (target_fits c.args.instr.now c.in-Branch.op c.in-Branch.target c.in-Branch.is c.requires.targets)) c.if-op-ge200.false c.requires.proper c.is_near.ensures

pub returns-in_default : goal.returns-in_default
returns-in_default c = others_reach c.args.at c.args.instr.now c.requires.at c.requires.targets c.in_default.not-Branch
