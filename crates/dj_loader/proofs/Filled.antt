-- Classes of a table that get their parts are the classes of the files with theirs, joined with those of the library.
use Rattle.std.proofs.Common.{◌≡◌, ℕ, suc, Bool, true, false, List, [], ◌∷◌, ◌++◌, map, length, get_or, Contains, Option, Some, None, refl, sym, ap, ◌∙◌, subst, arith}
use Rattle.std.specs.Prelude.{slice_get, unwrap_or, if◌then◌else◌}
use Rattle.std.specs.Option.{option_map}
use Rattle.std.proofs.lemmas.List.{map-append, length-map}
use Rattle.std.proofs.lemmas.Option.{same_Some, slice_get_within, slice_get-get_or}
use Rattle.dj_names.specs.trusted.Types.{Name, same_name}
use Rattle.dj_names.specs.trusted.Library.{Library, LibraryClass}
use Rattle.dj_class.specs.trusted.ClassFile.{ClassFile}
use Rattle.dj_model.specs.trusted.Program.{Program, Class, class_at}
use Rattle.dj_model.specs.trusted.Libraries.{library_class, is_name_before, inserted, joined}
use Rattle.dj_declarations.specs.trusted.Files.{declared_class}
use Rattle.dj_class_table.specs.Tables.{class_number, name_of}
use Rattle.dj_class_table.specs.ClassRows.{RiseStrictly}
use Rattle.dj_class_table.proofs.Orders.{names_from_same}
use Rattle.dj_class_table.proofs.Joins.{joined-append}
use Rattle.dj_class_table.proofs.Numbered.{class_at-at, class_number-rise}
use Rattle.dj_program.specs.trusted.Programs.{AreSideBySide, IsClassIn, IsProgramIn}
use Rattle.dj_loader.specs.Loads.{all_classes}
use Rattle.dj_loader.proofs.Lists.{member_first, member_later, member_prefix, member_back, member_mapped, place_of_member, some_of_map}
use Rattle.dj_loader.proofs.Named.{name_there}
use Rattle.dj_loader.proofs.Moved.{in_table}

-- ---- other classes of the same names

module _ (F : Class → Class) (keeps : (c : Class) → (F c).name ≡ c.name) where
  mapped_choice : (b : Bool) (p q : Program) → map F (if b then p else q) ≡ if b then map F p else map F q
  mapped_choice true p q = refl
  mapped_choice false p q = refl

  mapped_inserted : (c : Class) (program : Program) → map F (inserted c program) ≡ inserted (F c) (map F program)
  mapped_inserted c [] = refl
  mapped_inserted c (d ∷ program) =
      let rest : map F (inserted c program) ≡ inserted (F c) (map F program) = mapped_inserted c program in
      let same : is_name_before c.name d.name ≡ is_name_before (F c).name (F d).name = (λ i. is_name_before (sym (keeps c) i) (sym (keeps d) i)) in
      mapped_choice (is_name_before c.name d.name) (c ∷ d ∷ program) (d ∷ inserted c program)
      ∙ ap (λ (p : Program). if is_name_before c.name d.name then F c ∷ F d ∷ map F program else F d ∷ p) rest
      ∙ ap (λ (b : Bool). if b then F c ∷ F d ∷ map F program else F d ∷ inserted (F c) (map F program)) same

  pub mapped_joined : (classes : List Class) (program : Program) → map F (joined classes program) ≡ joined (map F classes) (map F program)
  mapped_joined [] program = refl
  mapped_joined (c ∷ classes) program = mapped_inserted c (joined classes program) ∙ ap (inserted (F c)) (mapped_joined classes program)

-- ---- the class of the same name in a program

-- or the class itself, where none has its name
abbrev found_or : Class → Option Class → Class
found_or c found = unwrap_or found c

abbrev in_program : Program → Class → Class
in_program program c = found_or c (class_at program c.name)

found_name : (program : Program) (name : Name) (c : Class) → class_at program name ≡ Some c → c.name ≡ name
found_name [] name c e = absurd cc
found_name (d ∷ program) name c e = by (same_name d.name name) refl e (found_name program name c) where
  by : (b : Bool) → same_name d.name name ≡ b → (if b then Some d else class_at program name) ≡ Some c → (class_at program name ≡ Some c → c.name ≡ name) → c.name ≡ name
  by true same e rest = ap name_of (sym (same_Some d c e)) ∙ names_from_same d.name name same
  by false same e rest = rest e

in_program_keeps : (program : Program) (c : Class) → (in_program program c).name ≡ c.name
in_program_keeps program c = by (class_at program c.name) refl where
  by : (o : Option Class) → class_at program c.name ≡ o → (found_or c o).name ≡ c.name
  by None is = refl
  by (Some d) is = found_name program c.name d is

-- ---- programs of the same names

class_number_of_names : (xs ys : Program) → map name_of xs ≡ map name_of ys → (name : Name) → class_number xs name ≡ class_number ys name
class_number_of_names [] [] e name = refl
class_number_of_names [] (y ∷ ys) e name = absurd cc
class_number_of_names (x ∷ xs) [] e name = absurd cc
class_number_of_names (x ∷ xs) (y ∷ ys) e name =
    let firsts : x.name ≡ y.name = cc in
    let rests : map name_of xs ≡ map name_of ys = cc in
    let later = class_number_of_names xs ys rests name in
    λ i. if same_name (firsts i) name then Some 0 else option_map suc (later i)

-- by each place
same_from_places : {A : Type 0} (xs ys : List A) → length xs ≡ length ys → ((k : ℕ) (x y : A) → slice_get xs k ≡ Some x → slice_get ys k ≡ Some y → x ≡ y) → xs ≡ ys
same_from_places [] [] e each = refl
same_from_places [] (y ∷ ys) e each = absurd (omega (arith, e))
same_from_places (x ∷ xs) [] e each = absurd (omega (arith, e))
same_from_places (x ∷ xs) (y ∷ ys) e each =
    let first : x ≡ y = each 0 x y refl refl in
    let rest : xs ≡ ys = same_from_places xs ys (omega (arith, e)) (λ k. each (suc k)) in
    λ i. first i ∷ rest i

module _ (table program : Program) (rise : RiseStrictly table) (names : map name_of program ≡ map name_of table) where
  -- a class of the table and the one at its place have one name, by which the other is found
  found_there : (k : ℕ) (c p : Class) → slice_get table k ≡ Some c → slice_get program k ≡ Some p → in_program program c ≡ p
  found_there k c p at there =
      let number : class_number program c.name ≡ Some k = class_number_of_names program table names c.name ∙ class_number-rise table rise k c.name (name_there table k c at) in
      ap (found_or c) (class_at-at program c.name k number ∙ there)

  as_many : length program ≡ length table
  as_many = sym (length-map program name_of) ∙ ap length names ∙ length-map table name_of

  program_mapped : map (in_program program) table ≡ program
  program_mapped =
      same_from_places (map (in_program program) table) program (length-map table (in_program program) ∙ sym as_many) (λ k x y at there.
      let (c, own, is) = some_of_map (in_program program) table k x at in
      sym is ∙ found_there k c y own there)

  there_too : (k : ℕ) (c : Class) → slice_get table k ≡ Some c → (p : Class) × (slice_get program k ≡ Some p)
  there_too k c at =
      let lt = slice_get_within table k c at in
      (get_or program k c, slice_get-get_or program k c (omega (arith, lt, as_many)))

  -- ---- each class with its parts

  -- the class at the place of that of a file is the file's, and a library's is at its own place
  module _ (library : Library) (files : List ClassFile) (is : table ≡ joined (all_classes library files) [])
      (filled : (k : ℕ) (c : ClassFile) (p : Class) → Contains files c → slice_get table k ≡ Some (declared_class c) → slice_get program k ≡ Some p → IsClassIn c p)
      (bare : (k : ℕ) (c : LibraryClass) (p : Class) → Contains library c → slice_get table k ≡ Some (library_class c) → slice_get program k ≡ Some p → p ≡ library_class c) where
    place_in_table : (c : Class) → Contains (all_classes library files) c → (k : ℕ) × (slice_get table k ≡ Some c)
    place_in_table c m = place_of_member table c (in_table (all_classes library files) table is c m)

    class_of_file : (c : ClassFile) → Contains files c → IsClassIn c (in_program program (declared_class c))
    class_of_file c m =
        let (k, at) = place_in_table (declared_class c) (member_prefix (map declared_class files) (map library_class library) (declared_class c) (member_mapped declared_class files c m)) in
        let (p, there) = there_too k (declared_class c) at in
        subst (IsClassIn c) (sym (found_there k (declared_class c) p at there)) (filled k c p m at there)

    class_of_library : (c : LibraryClass) → Contains library c → in_program program (library_class c) ≡ library_class c
    class_of_library c m =
        let (k, at) = place_in_table (library_class c) (member_back (map declared_class files) (map library_class library) (library_class c) (member_mapped library_class library c m)) in
        let (p, there) = there_too k (library_class c) at in
        found_there k (library_class c) p at there ∙ bare k c p m at there

    each_of_files : (cs : List ClassFile) → ((c : ClassFile) → Contains cs c → Contains files c) → AreSideBySide IsClassIn cs (map (in_program program) (map declared_class cs))
    each_of_files [] among = tt
    each_of_files (c ∷ cs) among = (class_of_file c (among c (member_first c cs)), each_of_files cs (λ d m. among d (member_later c cs d m)))

    each_of_library : (cs : Library) → ((c : LibraryClass) → Contains cs c → Contains library c) → map (in_program program) (map library_class cs) ≡ map library_class cs
    each_of_library [] among = refl
    each_of_library (c ∷ cs) among =
        let first : in_program program (library_class c) ≡ library_class c = class_of_library c (among c (member_first c cs)) in
        let rest : map (in_program program) (map library_class cs) ≡ map library_class cs = each_of_library cs (λ d m. among d (member_later c cs d m)) in
        λ i. first i ∷ rest i

    pub is_program_in : IsProgramIn library files program
    is_program_in = record {
      classes = map (in_program program) (map declared_class files);
      each = each_of_files files (λ c m. m);
      is =
          sym program_mapped
          ∙ ap (map (in_program program)) is
          ∙ mapped_joined (in_program program) (in_program_keeps program) (all_classes library files) []
          ∙ ap (λ (cs : List Class). joined cs []) (map-append (in_program program) (map declared_class files) (map library_class library)
          ∙ ap (λ (cs : List Class). map (in_program program) (map declared_class files) ++ cs) (each_of_library library (λ c m. m)))
          ∙ joined-append (map (in_program program) (map declared_class files)) (map library_class library);
    }
