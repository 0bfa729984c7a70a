use Rattle.std.proofs.Common.{sym, ◌∙◌}
use Rattle.dj_class.specs.CodeViews.{code_of}
use Rattle.dj_straight.specs.Finds.{found_code}
use Rattle.dj_straight.specs.trusted.Straight.{IsStraightCode, IsStraightBody}
use Rattle.dj_straight.proofs.StraightCode.{ok_finds, code_body}
use Rattle.dj_straight.proofs.Unread.{no_code}
use Rattle.dj_straight.proofs.straight.code.code_of_body.Goals as goal

pub returns-in-Ok : goal.returns-in-Ok
returns-in-Ok c =
    let same = code_body c.args.pool.now c.args.body.now (code_of c.in-Ok.code) c.in-Ok.ensures in
    ok_finds c.straight_code.result found_code (IsStraightCode c.args.pool.now (code_of c.in-Ok.code)) (IsStraightBody c.args.pool.now c.args.body.now)
    same.0 same.1 c.straight_code.ensures

pub returns-else-is_memory : goal.returns-else-is_memory
returns-else-is_memory c = λ y straight. no_code c.args.body.now c.in-Err.error c.in-Err.ensures (sym c.is_memory.ensures ∙ c.if-is_memory.false) straight.0 straight.1
