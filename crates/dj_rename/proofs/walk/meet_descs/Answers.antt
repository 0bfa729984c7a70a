use Rattle.std.proofs.lemmas.Result.{err_from_is_err_and}
use Rattle.dj_rename.proofs.PoolTexts.{descs_refused}
use Rattle.dj_rename.proofs.walk.meet_descs.Goals as goal

pub returns-in_err-meet : goal.returns-in_err-meet
returns-in_err-meet c =
    let p = err_from_is_err_and c.from_residual.result c.from_residual.ensures.1 in
    rw (p.1, p.2) (descs_refused c.args.pool.now c.args.texts.now c.loop-desc.texts c.args.descs.now c.loop-desc.desc-index c.in_err-meet.field-0.0 c.loop-desc-test.true c.loop-desc.invariant.steps c.in_err-meet.ensures)
