use Rattle.std.proofs.Common.{sym, subst}
use Rattle.dj_rename.specs.declared.sought.Sought.{Sought}
use Rattle.dj_rename.specs.Renaming.{IsSought, IsState, wanted_need}
use Rattle.dj_rename.proofs.States.{state_found}
use Rattle.dj_rename.proofs.renamed.renamed_index.Goals as goal

pub returns-clause-state : goal.returns-clause-state
returns-clause-state c =
    let P : Sought → Type 0 = IsSought c.args.pool.now c.args.texts.now (wanted_need c.args.pool.now c.args.wanted) in
    subst (IsState c.args.pool.now c.args.texts.now) (sym c.set.ensures)
    (state_found c.args.pool.now c.args.texts.now c.args.known.now c.args.wanted c.in-At.index c.requires.state c.requires.wanted (subst P c.in-At.is c.in_ok-seek.ensures))
