use Rattle.std.proofs.Common.{subst}
use Rattle.dj_invocation.specs.Entering.{EntersIfAllowed}
use Rattle.dj_invocation.proofs.Bodies.{entered_steps}
use Rattle.dj_invocation.proofs.invoking.enter_code.Goals as goal

pub returns-then-entered : goal.returns-then-entered
returns-then-entered c =
    entered_steps c.args.method c.args.code.now c.room_of.result c.args.taken c.args.frames.now c.enter.new.frames c.room_of.ensures.method c.room_of.ensures.locals c.room_of.ensures.stack
    (subst (EntersIfAllowed c.args.taken c.room_of.result c.args.frames.now c.enter.new.frames) c.if-entered.true c.in_ok-entered.ensures)

pub returns-else-entered : goal.returns-else-entered
returns-else-entered c =
    subst (EntersIfAllowed c.args.taken c.room_of.result c.args.frames.now c.enter.new.frames) c.if-entered.false c.in_ok-entered.ensures
