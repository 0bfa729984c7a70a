-- Known classes, few classes, and programs in which Object stands at the top, at plain values.
use Rattle.std.proofs.Common.{◌≡◌, true, false, [], None, Some, codes, refl, ap, arith}
use Rattle.dj_names.specs.declared.descriptor.Ty.{Ty}
use Rattle.dj_names.specs.trusted.Types.{class_type, array_type}
use Rattle.dj_names.specs.trusted.Library.{deterministic_library, lang}
use Rattle.dj_model.specs.trusted.Instructions.{New, ArrayLength}
use Rattle.dj_model.specs.trusted.Program.{Class}
use Rattle.dj_model.specs.trusted.Libraries.{library_program}
use Rattle.dj_program.specs.trusted.Programs.{IsProgramIn}
use Rattle.dj_sim.specs.Objects.{HasBase}
use Rattle.dj_sound.proofs.Facts.{no_file}
use Rattle.dj_accepted.specs.News.{MakesKnown}
use Rattle.dj_accepted.specs.Laws.{IsFew}
use Rattle.dj_accepted.proofs.Base.{base, are_few}

-- a class of the library
known : MakesKnown (library_program deterministic_library) (New (class_type (lang (codes "Object"))))
known = (lang (codes "Object"), refl, refl)

-- one that isn't there
unknown : MakesKnown [] (New (class_type (codes "A"))) → ⊥
unknown (name, same, there) = never there where
  never : false ≡ true → ⊥
  never e = cc

-- no array is made so
array : MakesKnown (library_program deterministic_library) (New (array_type (class_type (lang (codes "Object"))))) → ⊥
array (name, same, there) = let no : 1 ≡ 0 = ap (λ (ty : Ty). ty.dims) same in omega (arith, no)

-- of any other instruction nothing is asked
other : MakesKnown [] ArrayLength
other = tt

none : IsFew []
none = omega arith

-- the library alone is the program of the empty set
library_alone : IsProgramIn deterministic_library [] (library_program deterministic_library)
library_alone = record { classes = []; each = tt; is = refl }

library_few : IsFew (library_program deterministic_library)
library_few = are_few [] [] (library_program deterministic_library) (no_file deterministic_library) library_alone (omega arith)

library_based : HasBase (library_program deterministic_library)
library_based = base [] [] (library_program deterministic_library) (no_file deterministic_library) library_alone library_few

-- without Object there is no top
nothing_based : HasBase [] → ⊥
nothing_based is = never is.object.object is.object.there where
  never : (c : Class) → None ≡ Some c → ⊥
  never c e = cc
