use Rattle.std.proofs.Common.{subst}
use Rattle.dj_rename.specs.declared.sought.Sought.{Sought}
use Rattle.dj_rename.specs.Renaming.{IsSought, wanted_need}
use Rattle.dj_rename.proofs.Walking.{settled_meets}
use Rattle.dj_rename.proofs.walk.meet_text.Goals as goal

pub returns-in-At : goal.returns-in-At
returns-in-At c =
    let P : Sought → Type 0 = IsSought c.args.pool.now c.args.texts.now (wanted_need c.args.pool.now c.args.wanted) in
    settled_meets c.args.pool.now c.args.texts.now (wanted_need c.args.pool.now c.args.wanted) c.in-At.index c.requires.few (subst P c.in-At.is c.in_ok-index.ensures)
