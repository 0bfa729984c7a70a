use Rattle.std.proofs.Common.{◌≡◌, map, subst}
use Rattle.dj_model.specs.trusted.Program.{Program}
use Rattle.dj_declarations.specs.Files.{bare_class}
use Rattle.dj_class_table.proofs.table.ClassTable.are_bare.Goals as goal

pub returns : goal.returns
returns c = subst (λ (p : Program). map bare_class p ≡ p) c.self.view_is c.self.invariant.bare
