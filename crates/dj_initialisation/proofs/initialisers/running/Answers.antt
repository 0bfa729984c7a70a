use Rattle.std.proofs.Common.{refl, sym}
use Rattle.dj_initialisation.proofs.InitialiserLaws.{runs_reported}
use Rattle.dj_initialisation.proofs.initialisers.running.Goals as goal

pub returns-in-Code : goal.returns-in-Code
returns-in-Code c = runs_reported c.args.image.now c.args.method.number c.args.flags c.in-Code.code _ (sym c.if-not-is_static.ensures) c.in-Code.ensures refl refl refl
