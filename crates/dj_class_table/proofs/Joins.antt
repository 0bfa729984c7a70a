-- Lists of classes that are joined one after the other are joined as one list.
use Rattle.std.proofs.Common.{◌≡◌, List, [], ◌∷◌, ◌++◌, map, refl, sym, ap}
use Rattle.dj_names.specs.trusted.Library.{Library}
use Rattle.dj_declarations.specs.trusted.Files.{ClassFile, declared_class, declared_program}
use Rattle.dj_model.specs.trusted.Program.{Class}
use Rattle.dj_model.specs.trusted.Libraries.{library_class, inserted, joined}

pub joined-append : (xs ys : List Class) → joined (xs ++ ys) [] ≡ joined xs (joined ys [])
joined-append [] ys = refl
joined-append (x ∷ xs) ys = ap (inserted x) (joined-append xs ys)

pub declared_program-joined : (library : Library) (files : List ClassFile) → declared_program library files ≡ joined (map declared_class files ++ map library_class library) []
unfolding declared_program
declared_program-joined library files = sym (joined-append (map declared_class files) (map library_class library))
