-- Classes that stand under absent ones: fewer numbers than names are there.
use Rattle.std.proofs.Common.{◌≡◌, ℕ, zero, suc, ◌<◌, ◌≤◌, Bool, true, false, List, [], ◌∷◌, ◌++◌, length, map, get_or, Option, Some, None, refl, sym, ap, ◌∙◌, arith}
use Rattle.std.specs.Prelude.{◌&&◌, ◌||◌, is_none, is_some, nat_lt, slice_get, option_and_then}
use Rattle.std.specs.Option.{option_map}
use Rattle.std.specs.List.{list_any}
use Rattle.std.proofs.lemmas.Bool.Decides.{nat_tests}
use Rattle.std.proofs.lemmas.List.Folds.{list_any-append}
use Rattle.std.proofs.lemmas.Option.{same_Some, slice_get-get_or}
use Rattle.dj_names.specs.trusted.Types.{Name}
use Rattle.dj_model.specs.trusted.Program.{Program, Class}
use Rattle.dj_model.specs.trusted.Linking.{option_list}
use Rattle.dj_class_table.specs.Tables.{class_number, class_numbers, is_lacking, lacks_above}
use Rattle.dj_class_table.specs.ClassRows.{super_in, interfaces_in, IsTable}

no_more : (program : Program) (names : List Name) → length (class_numbers program names) ≤ length names
no_more program [] = omega arith
no_more program (name ∷ names) = by (class_number program name) (no_more program names) where
  by : (n : Option ℕ) → length (class_numbers program names) ≤ length names → length (option_list n ++ class_numbers program names) ≤ suc (length names)
  by None le = omega arith
  by (Some k) le = omega arith

fewer : (program : Program) (names : List Name) → nat_lt (length (class_numbers program names)) (length names) ≡ list_any (is_lacking program) names
fewer program [] = refl
fewer program (name ∷ names) = by (class_number program name) (no_more program names) (fewer program names) where
  by : (n : Option ℕ) → length (class_numbers program names) ≤ length names → nat_lt (length (class_numbers program names)) (length names) ≡ list_any (is_lacking program) names
      → nat_lt (length (option_list n ++ class_numbers program names)) (suc (length names)) ≡ (is_none n || list_any (is_lacking program) names)
  by None le is = grind (arith, nat_tests)
  by (Some k) le is = grind (arith, nat_tests)

no_super : (program : Program) (superclass : Option Name) → (is_none (option_and_then (class_number program) superclass) && is_some superclass) ≡ list_any (is_lacking program) (option_list superclass)
no_super program None = refl
no_super program (Some name) = by (class_number program name) where
  by : (n : Option ℕ) → (is_none n && true) ≡ (is_none n || false)
  by None = refl
  by (Some k) = refl

pub lacks_reported : (program : Program) (c : Class) → ((is_none (super_in program c) && is_some c.superclass) || nat_lt (length (interfaces_in program c)) (length c.interfaces)) ≡ lacks_above program c
lacks_reported program c =
    (λ i. no_super program c.superclass i || fewer program c.interfaces i)
    ∙ sym (list_any-append (is_lacking program) (option_list c.superclass) c.interfaces)

mapped : {B : Type 0} (f : Class → B) (rows : List Class) (k : ℕ) (c : Class) (d : B) → slice_get rows k ≡ Some c → get_or (map f rows) k d ≡ f c
mapped f [] k c d e = absurd cc
mapped f (x ∷ rows) zero c d e = ap f (same_Some x c e)
mapped f (x ∷ rows) (suc k) c d e = mapped f rows k c d e

pub both_reported : (a b : Bool) → a ≡ false → (a || b) ≡ b
both_reported a b e = ap (λ (x : Bool). x || b) e

-- by what is kept of the class at a place
pub lacks_there : (rows : Program) (supers : List (Option ℕ)) (interfaces : List (List ℕ)) → IsTable rows supers interfaces → (k : ℕ) → k < length rows
    → (c : Class) (super : Option ℕ) (above : List ℕ) → c ≡ get_or rows k c → super ≡ get_or supers k super → above ≡ get_or interfaces k above
    → Some ((is_none super && is_some c.superclass) || nat_lt (length above) (length c.interfaces)) ≡ option_map (lacks_above rows) (slice_get rows k)
lacks_there rows supers interfaces table k lt c super above at_c at_super at_above =
    let here : slice_get rows k ≡ Some c = slice_get-get_or rows k c lt ∙ ap Some (sym at_c) in
    let super_is : super ≡ super_in rows c =
    at_super ∙ ap (λ (xs : List (Option ℕ)). get_or xs k super) table.supers_are ∙ mapped (super_in rows) rows k c super here in
    let above_is : above ≡ interfaces_in rows c =
    at_above ∙ ap (λ (xs : List (List ℕ)). get_or xs k above) table.interfaces_are ∙ mapped (interfaces_in rows) rows k c above here in
    ap Some ((λ i. (is_none (super_is i) && is_some c.superclass) || nat_lt (length (above_is i)) (length c.interfaces)) ∙ lacks_reported rows c)
    ∙ ap (option_map (lacks_above rows)) (sym here)
