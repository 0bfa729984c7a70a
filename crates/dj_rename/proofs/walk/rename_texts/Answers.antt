use Rattle.std.proofs.Common.{ap, length, arith}
use Rattle.dj_rename.proofs.States.{state_start}
use Rattle.dj_rename.proofs.walk.rename_texts.Goals as goal

pub meet_all-requires-clause-state : goal.meet_all-requires-clause-state
meet_all-requires-clause-state c =
    let count = c.requires.valid.count in
    let none = ap length c.new-texts.ensures in
    state_start c.args.pool.now c.new-texts.result c.in_ok-known.known c.as_slice.result.now c.as_slice.ensures (omega (arith, count, none)) c.in_ok-known.ensures
