use Rattle.std.proofs.Common.{sym, subst}
use Rattle.dj_rename.specs.Renaming.{IsState}
use Rattle.dj_rename.proofs.States.{state_next}
use Rattle.dj_rename.proofs.walk.meet.Goals as goal

pub returns : goal.returns
returns c = (
  c.in_ok-index.ensures.steps,
  subst (IsState c.args.pool.now c.meet_text.new.texts) (sym c.set.ensures)
      (state_next c.args.pool.now c.args.texts.now c.meet_text.new.texts c.args.known.now c.args.wanted c.in_ok-index.index c.requires.state c.requires.wanted c.in_ok-index.ensures),
)
