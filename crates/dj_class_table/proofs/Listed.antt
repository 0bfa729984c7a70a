-- The numbers of classes that are listed by the places of their names.
use Rattle.std.proofs.Common.{◌≡◌, ℕ, zero, suc, List, [], ◌∷◌, ◌++◌, map, get_or, Option, Some, None, refl, sym, ap, ◌∙◌}
use Rattle.std.specs.Prelude.{slice_get}
use Rattle.dj_names.specs.trusted.Types.{Name}
use Rattle.dj_model.specs.trusted.Program.{Program}
use Rattle.dj_model.specs.trusted.Linking.{option_list}
use Rattle.dj_class_table.specs.Tables.{class_number, class_numbers}
use Rattle.dj_class_table.specs.ClassRows.{numbers_at}

first_some : (found : Option Name) (name : Name) (rest names : List (Option Name)) → found ∷ rest ≡ Some name ∷ names → found ≡ Some name
first_some found name rest names e = cc

rest_some : (found : Option Name) (name : Name) (rest names : List (Option Name)) → found ∷ rest ≡ Some name ∷ names → rest ≡ names
rest_some found name rest names e = cc

number_there : (program : Program) (names : List Name) (place : ℕ) (name : Name) → slice_get names place ≡ Some name → get_or (map (class_number program) names) place None ≡ class_number program name
number_there program [] place name at = absurd cc
number_there program (first ∷ names) zero name at = ap (class_number program) (first_is first name at) where
  first_is : (first name : Name) → Some first ≡ Some name → first ≡ name
  first_is first name at = cc
number_there program (first ∷ names) (suc place) name at = number_there program names place name at

-- the numbers at the places are those of the names that are listed
pub numbers_listed : (program : Program) (names : List Name) (places : List ℕ) (listed : List Name) → map (slice_get names) places ≡ map Some listed → numbers_at (map (class_number program) names) places ≡ class_numbers program listed
numbers_listed program names [] [] are = refl
numbers_listed program names [] (name ∷ listed) are = absurd cc
numbers_listed program names (place ∷ places) [] are = absurd cc
numbers_listed program names (place ∷ places) (name ∷ listed) are =
    let here = number_there program names place name (first_some _ _ _ _ are) in
    let later = numbers_listed program names places listed (rest_some _ _ _ _ are) in
    λ i. option_list (here i) ++ later i
