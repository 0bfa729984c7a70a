-- What a table refuses, a load refuses.
use Rattle.std.proofs.Common.{◌≡◌, List, Result, Err, refl, sym, ap, subst, ◌∙◌}
use Rattle.std.specs.Prelude.{IsErrOf}
use Rattle.dj_names.specs.trusted.Types.{Name}
use Rattle.dj_model.specs.trusted.Program.{Class}
use Rattle.dj_class_table.specs.Tables.{IsLeastShared}
use Rattle.dj_class_table.specs.declared.error.TableError.{TableError}
use Rattle.dj_class_table.specs.declared.error.TableError.TheVariants.{Duplicate, Memory}
use Rattle.dj_loader.specs.declared.error.LoadError.{LoadError}
use Rattle.dj_loader.specs.Loads.{RefusesLoad, table_error}

-- a name that two classes have, or no memory
pub table_refused : (classes : List Class) {T : Type 0} (made : Result T TableError) (error : TableError) (load : LoadError) → made ≡ Err error
    → ((name : Name) → IsErrOf made (Duplicate name) → IsLeastShared classes name) → load ≡ table_error error → RefusesLoad classes load
table_refused classes made (Duplicate name) load is least same = subst (RefusesLoad classes) (sym same) (least name (subst (λ r. IsErrOf r (Duplicate name)) (sym is) refl))
table_refused classes made Memory load is least same = subst (RefusesLoad classes) (sym same) tt
