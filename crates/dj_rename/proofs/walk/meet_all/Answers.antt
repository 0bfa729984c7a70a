use Rattle.std.proofs.lemmas.Result.{err_from_is_err_and}
use Rattle.dj_rename.proofs.Walking.{all_walked, all_stopped}
use Rattle.dj_rename.proofs.walk.meet_all.Goals as goal

pub returns-in_err-meet_constants : goal.returns-in_err-meet_constants
returns-in_err-meet_constants c =
    let p = err_from_is_err_and c.from_residual.result c.from_residual.ensures.1 in
    rw (p.1, p.2) (all_stopped c.args.pool.now c.args.descs.now c.args.texts.now c.in_err-meet_constants.field-0.0 c.in_err-meet_constants.ensures)

pub returns : goal.returns
returns c =
    all_walked c.args.pool.now c.args.descs.now c.args.texts.now c.meet_constants.new.texts c.meet_descs.new.texts c.meet_descs.new.known c.meet_descs.result
    c.in_ok-meet_constants.ensures.0 c.meet_descs.ensures
