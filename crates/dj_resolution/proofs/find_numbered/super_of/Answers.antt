use Rattle.std.proofs.Common.{◌≡◌, ◌<◌, length, sym, subst}
use Rattle.dj_model.specs.trusted.Program.{Program}
use Rattle.dj_class_table.specs.Tables.{super_number}
use Rattle.dj_resolution.proofs.find_numbered.super_of.Goals as goal

pub super_of-requires : goal.super_of-requires
super_of-requires c = subst (λ (p : Program). c.args.class < length p) (sym c.classes.ensures) c.requires

pub returns : goal.returns
returns c = subst (λ (p : Program). c.super_of.result ≡ super_number p c.args.class) c.classes.ensures c.super_of.ensures
