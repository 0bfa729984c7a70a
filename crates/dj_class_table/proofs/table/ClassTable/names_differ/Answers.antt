use Rattle.std.proofs.Common.{◌≡◌, ℕ, Some, subst}
use Rattle.dj_names.specs.trusted.Types.{Name}
use Rattle.dj_model.specs.trusted.Program.{Program}
use Rattle.dj_class_table.specs.Tables.{class_number, name_at}
use Rattle.dj_class_table.proofs.Numbered.{class_number-rise}
use Rattle.dj_class_table.proofs.table.ClassTable.names_differ.Goals as goal

pub returns : goal.returns
returns c =
    subst (λ (p : Program). (k : ℕ) (name : Name) → name_at p k ≡ Some name → class_number p name ≡ Some k) c.self.view_is
    (class_number-rise _ c.self.invariant.rise)
