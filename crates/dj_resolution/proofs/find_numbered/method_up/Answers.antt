use Rattle.std.proofs.Common.{◌<◌, length, subst, sym}
use Rattle.dj_model.specs.trusted.Program.{Program}
use Rattle.dj_resolution.specs.Ranked.{AreRanksOf}
use Rattle.dj_resolution.proofs.find_numbered.method_up.Goals as goal

pub has_row-requires-clause-there : goal.has_row-requires-clause-there
has_row-requires-clause-there c = subst (λ (p : Program). c.args.class < length p) (sym c.classes.ensures) c.requires.there

pub has_row-requires-clause-ranks : goal.has_row-requires-clause-ranks
has_row-requires-clause-ranks c = subst (λ (p : Program). AreRanksOf p c.args.ranks.now) (sym c.classes.ensures) c.requires.ranks
