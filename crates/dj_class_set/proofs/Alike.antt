-- The library of `check` and the one whose host answers have classes of the same heads; so where the rules 1 to 6 hold no two classes of the files
-- and of either library have one name, and none is its own ancestor.
use Rattle.std.proofs.Common.{◌≡◌, ℕ, zero, suc, ◌≤◌, List, [], ◌∷◌, ◌++◌, map, length, Contains, refl, sym, ap, ◌∙◌, subst, inl, inr, arith}
use Rattle.std.specs.Prelude.{slice_get}
use Rattle.std.proofs.lemmas.List.{map-append}
use Rattle.std.proofs.lemmas.Option.{slice_get-map}
use Rattle.dj_edge.specs.trusted.Held.{File}
use Rattle.dj_names.specs.trusted.Types.{Name}
use Rattle.dj_names.specs.trusted.Library.{Library, deterministic_library, raw_library}
use Rattle.dj_class.specs.trusted.ClassFile.{ClassFile}
use Rattle.dj_library.specs.trusted.Heads.{Head}
use Rattle.dj_model.specs.trusted.Program.{Class}
use Rattle.dj_model.specs.trusted.Linking.{option_list}
use Rattle.dj_model.specs.trusted.Libraries.{library_class}
use Rattle.dj_declarations.specs.trusted.Files.{declared_class}
use Rattle.dj_class_table.specs.Tables.{name_of, name_at, IsShared}
use Rattle.dj_loader.specs.Loads.{StandsUnder, StandsBelow, IsOwnAncestor}
use Rattle.dj_loader.proofs.Lists.{member_of_either, member_prefix, member_back, member_mapped, of_map}
use Rattle.dj_class_set.specs.trusted.Checked.{AreGoodFiles, HoldsHierarchy}
use Rattle.dj_class_set.specs.Late.{IsJudging}
use Rattle.dj_class_set.proofs.NoDoubles.{library_classes, no_name_twice}
use Rattle.dj_class_set.proofs.NoCycles.{head_in, no_cycle}

abbrev pub rows_of : Library → List Class
rows_of library = map library_class library

-- the library's classes stand as those of the deterministic one
abbrev pub IsAlike : Library → Type 0
IsAlike library = map head_in (rows_of library) ≡ map head_in library_classes

raw_alike : IsAlike raw_library
raw_alike = refl

alike : (library : Library) → IsJudging library → IsAlike library
alike library (inl is) = ap (λ (l : Library). map head_in (rows_of l)) is
alike library (inr is) = subst IsAlike (sym is) raw_alike

-- ---- at plain values

raw_few : length raw_library ≤ 4096
raw_few = omega arith

deterministic_few : length deterministic_library ≤ 4096
deterministic_few = omega arith

pub few_rows : (library : Library) → IsJudging library → length library ≤ 4096
few_rows library (inl is) = subst (λ (l : Library). length l ≤ 4096) (sym is) deterministic_few
few_rows library (inr is) = subst (λ (l : Library). length l ≤ 4096) (sym is) raw_few

-- ---- names

abbrev head_name : Head → Name
head_name h = h.name

names_of_heads : (classes : List Class) → map name_of classes ≡ map head_name (map head_in classes)
names_of_heads [] = refl
names_of_heads (c ∷ classes) = ap (λ (names : List Name). c.name ∷ names) (names_of_heads classes)

name_at_named : (xs ys : List Class) → map name_of xs ≡ map name_of ys → (k : ℕ) → name_at xs k ≡ name_at ys k
name_at_named xs ys same k = sym (slice_get-map name_of xs k) ∙ (ap (λ (names : List Name). slice_get names k) same ∙ slice_get-map name_of ys k)

shared_named : (xs ys : List Class) → map name_of xs ≡ map name_of ys → (name : Name) → IsShared xs name → IsShared ys name
shared_named xs ys same name shared = record {
  first = shared.first;
  other = shared.other;
  apart = shared.apart;
  one = sym (name_at_named xs ys same shared.first) ∙ shared.one;
  two = sym (name_at_named xs ys same shared.other) ∙ shared.two;
}

module _ (library : Library) (judging : IsJudging library) where
  rows_named : map name_of (rows_of library) ≡ map name_of library_classes
  rows_named = names_of_heads (rows_of library) ∙ (ap (map head_name) (alike library judging) ∙ sym (names_of_heads library_classes))

  all_named : (declared : List Class) → map name_of (declared ++ rows_of library) ≡ map name_of (declared ++ library_classes)
  all_named declared =
      map-append name_of declared (rows_of library)
      ∙ (ap (λ (names : List Name). map name_of declared ++ names) rows_named ∙ sym (map-append name_of declared library_classes))

  pub none_shared : (files : List File) (classes : List ClassFile) (name : Name) → HoldsHierarchy files → AreGoodFiles files classes
      → IsShared (map declared_class classes ++ rows_of library) name → ⊥
  none_shared files classes name holds good shared =
      no_name_twice files classes name holds good
      (shared_named (map declared_class classes ++ rows_of library) (map declared_class classes ++ library_classes) (all_named (map declared_class classes)) name shared)

  -- ---- what stands above a class

  under_moved : (declared : List Class) (a b : Name) → StandsUnder (declared ++ rows_of library) a b → StandsUnder (declared ++ library_classes) a b
  under_moved declared a b under = elim (member_of_either declared (rows_of library) under.class under.there) [
    | inl prefix ↦ record { class = under.class; there = member_prefix declared library_classes under.class prefix; named = under.named; listed = under.listed }
    | inr row ↦
        let (d, m, e) =
        of_map head_in library_classes (head_in under.class)
        (subst (λ (hs : List Head). Contains hs (head_in under.class)) (alike library judging) (member_mapped head_in (rows_of library) under.class row)) in
        record {
          class = d;
          there = member_back declared library_classes d m;
          named = ap (λ (h : Head). h.name) e ∙ under.named;
          listed = subst (λ (h : Head). Contains (option_list h.superclass ++ h.interfaces) b) (sym e) under.listed;
        }
  ]

  below_moved : (declared : List Class) (n : ℕ) (a b : Name) → StandsBelow n (declared ++ rows_of library) a b → StandsBelow n (declared ++ library_classes) a b
  below_moved declared zero a b under = under_moved declared a b under
  below_moved declared (suc n) a b (between, under, below) = (between, under_moved declared a between under, below_moved declared n between b below)

  pub none_round : (files : List File) (classes : List ClassFile) (name : Name) → HoldsHierarchy files → AreGoodFiles files classes
      → IsOwnAncestor (map declared_class classes ++ rows_of library) name → ⊥
  none_round files classes name holds good (n, below) = no_cycle files classes holds good name (n, below_moved (map declared_class classes) n name name below)
