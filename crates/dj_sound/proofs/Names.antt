-- The names of the classes of accepted files and of a library rise.
use Rattle.std.proofs.Common.{◌≡◌, ℕ, List, [], ◌∷◌, ◌++◌, map, refl, sym, ap, ◌∙◌, subst, IsTrue, Bool, ◌&&◌}
use Rattle.std.specs.Prelude.{slice_get}
use Rattle.std.proofs.lemmas.List.{map-append}
use Rattle.std.proofs.lemmas.Option.{slice_get-map}
use Rattle.dj_edge.specs.trusted.Held.{File}
use Rattle.dj_names.specs.trusted.Types.{Name}
use Rattle.dj_names.specs.trusted.Library.{Library, deterministic_library, raw_library}
use Rattle.dj_class.specs.trusted.ClassFile.{ClassFile}
use Rattle.dj_library.specs.trusted.Heads.{Head}
use Rattle.dj_model.specs.trusted.Program.{Program, Class}
use Rattle.dj_model.specs.trusted.Libraries.{is_name_before}
use Rattle.dj_model.specs.Sound.{names_rise}
use Rattle.dj_declarations.specs.trusted.Files.{declared_class, declared_program}
use Rattle.dj_declarations.specs.Files.{bare_class}
use Rattle.dj_class_table.specs.Tables.{name_of, name_at, IsShared}
use Rattle.dj_class_table.specs.ClassRows.{RiseStrictly}
use Rattle.dj_class_table.proofs.Orders.{names_rise-from_rise, rise-from_names_rise}
use Rattle.dj_class_table.proofs.Joins.{declared_program-joined}
use Rattle.dj_class_table.proofs.Rising.{differ_from_none_shared, rise_joined}
use Rattle.dj_class_set.specs.trusted.Checked.{AreGoodFiles, HoldsHierarchy}
use Rattle.dj_class_set.proofs.NoDoubles.{no_name_twice}
use Rattle.dj_sound.specs.Accepted.{OfAcceptedBy}
use Rattle.dj_sound.specs.Laws.{HasRisingNames, NamesRise}
use Rattle.dj_sound.proofs.Origins.{head_in, rows_of, IsAlike, deterministic_alike, raw_alike, holds_hierarchy, bare}

-- ---- names that two classes share

abbrev head_name : Head → Name
head_name h = h.name

names_of_heads : (classes : List Class) → map name_of classes ≡ map head_name (map head_in classes)
names_of_heads [] = refl
names_of_heads (c ∷ classes) = ap (λ (names : List Name). c.name ∷ names) (names_of_heads classes)

name_at_named : (xs ys : List Class) → map name_of xs ≡ map name_of ys → (k : ℕ) → name_at xs k ≡ name_at ys k
name_at_named xs ys same k = sym (slice_get-map name_of xs k) ∙ (ap (λ (names : List Name). slice_get names k) same ∙ slice_get-map name_of ys k)

shared_named : (xs ys : List Class) → map name_of xs ≡ map name_of ys → (name : Name) → IsShared xs name → IsShared ys name
shared_named xs ys same name shared = record {
  first = shared.first;
  other = shared.other;
  apart = shared.apart;
  one = sym (name_at_named xs ys same shared.first) ∙ shared.one;
  two = sym (name_at_named xs ys same shared.other) ∙ shared.two;
}

module _ (library : Library) (alike : IsAlike library) where
  rows_named : map name_of (rows_of library) ≡ map name_of (rows_of deterministic_library)
  rows_named = names_of_heads (rows_of library) ∙ (ap (map head_name) alike ∙ sym (names_of_heads (rows_of deterministic_library)))

  all_named : (declared : List Class) → map name_of (declared ++ rows_of library) ≡ map name_of (declared ++ rows_of deterministic_library)
  all_named declared =
      map-append name_of declared (rows_of library)
      ∙ (ap (λ (names : List Name). map name_of declared ++ names) rows_named ∙ sym (map-append name_of declared (rows_of deterministic_library)))

  pub none_shared : (files : List File) (classes : List ClassFile) (name : Name) → HoldsHierarchy files → AreGoodFiles files classes
      → IsShared (map declared_class classes ++ rows_of library) name → ⊥
  none_shared files classes name holds good shared =
      no_name_twice files classes name holds good
      (shared_named (map declared_class classes ++ rows_of library) (map declared_class classes ++ rows_of deterministic_library) (all_named (map declared_class classes)) name shared)

  -- ---- in order

  pub declared_rise : (files : List File) (classes : List ClassFile) → HoldsHierarchy files → AreGoodFiles files classes → RiseStrictly (declared_program library classes)
  declared_rise files classes holds good =
      let all = map declared_class classes ++ rows_of library in
      subst RiseStrictly (sym (declared_program-joined library classes))
      (rise_joined all (differ_from_none_shared all (λ name shared. none_shared files classes name holds good shared)))

bare_names_rise : (program : Program) → names_rise (map bare_class program) ≡ names_rise program
bare_names_rise [] = refl
bare_names_rise (c ∷ []) = refl
bare_names_rise (c ∷ d ∷ program) = ap (λ (b : Bool). is_name_before c.name d.name && b) (bare_names_rise (d ∷ program))

pub rising : {judge : Library} (library : Library) → IsAlike library → OfAcceptedBy judge library HasRisingNames
rising library alike files classes program accepted is =
    let declared : IsTrue (names_rise (declared_program library classes)) =
    names_rise-from_rise (declared_program library classes) (declared_rise library alike files classes (holds_hierarchy files classes accepted) accepted.good) in
    subst IsTrue (bare_names_rise program)
    (subst (λ (p : Program). IsTrue (names_rise p)) (sym (bare library files classes program accepted.good is)) declared)

-- by the order itself
pub rises : {judge : Library} (library : Library) → IsAlike library → OfAcceptedBy judge library RiseStrictly
rises library alike files classes program accepted is = rise-from_names_rise program (rising library alike files classes program accepted is)

pub accepted_rise : NamesRise
accepted_rise = record { deterministic = rising deterministic_library deterministic_alike; raw = rising raw_library raw_alike }
