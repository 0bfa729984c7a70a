-- The parts of the classes of a table, by the files that define them.
use Rattle.std.proofs.Common.{◌≡◌, ◌≢◌, ℕ, zero, suc, ◌+◌, ◌<◌, ◌≤◌, ◌⊎◌, List, [], ◌∷◌, ◌++◌, map, take, length, get_or, set, replicate, All, IfSome, Option, Some, None, Contains, refl, sym, ap, ◌∙◌, subst, inl, inr, arith}
use Rattle.std.specs.Prelude.{slice_get}
use Rattle.std.proofs.lemmas.Bool.{cases_lt, cases_eq}
use Rattle.std.proofs.lemmas.List.{length-map, length-take, map_more, length-set, get_or-set_same, get_or-set_other, length-replicate, get_or-replicate, get_or_past, get_or_default}
use Rattle.std.proofs.lemmas.List.Elements.{All-contains}
use Rattle.std.proofs.lemmas.Option.{same_Some, slice_get_within, slice_get_read}
use Rattle.dj_names.specs.trusted.Library.{Library, LibraryClass}
use Rattle.dj_class.specs.declared.class.ClassView.{ClassView}
use Rattle.dj_class.specs.Views.{class_of}
use Rattle.dj_class.specs.trusted.ClassFile.{ClassFile, IsValid}
use Rattle.dj_file_rules.specs.trusted.Violations.{this_name}
use Rattle.dj_model.specs.trusted.Program.{Program, Class, fields_of}
use Rattle.dj_model.specs.trusted.Libraries.{library_class}
use Rattle.dj_declarations.specs.trusted.Files.{declared_class}
use Rattle.dj_class_table.specs.Tables.{class_number, name_at, name_of, methods_of, IsShared}
use Rattle.dj_class_table.specs.ClassRows.{RiseStrictly}
use Rattle.dj_class_table.proofs.Numbered.{class_number-within, class_number-rise}
use Rattle.dj_program.specs.trusted.Programs.{IsClassIn}
use Rattle.dj_image.specs.declared.parts.ClassParts.{ClassParts}
use Rattle.dj_image.specs.Sources.{class_of_source}
use Rattle.dj_image.specs.Parts.{source_of, FitClass, FitClasses}
use Rattle.dj_loader.specs.Loads.{all_classes}
use Rattle.dj_loader.specs.Parting.{IsTableOf, ArePartsOf}
use Rattle.dj_loader.specs.Filed.{AreOwners, AreBareParts, AreFileParts, ArePartsFor, AreFirstParts}
use Rattle.dj_loader.proofs.Lists.{member_prefix, member_of_either, member_mapped, member_at_place, place_of_member, of_map}
use Rattle.dj_loader.proofs.Named.{name_there, number_of_member}
use Rattle.dj_loader.proofs.Moved.{rise_of_table, in_table, out_of_table}
use Rattle.dj_loader.proofs.Sides.{place_in_prefix, place_behind, place_mapped}
use Rattle.dj_loader.proofs.Files.{class_with_parts, file_fits}
use Rattle.dj_loader.proofs.BareFacts.{library_fits, library_stays}

-- ---- owners, one file after the other

nothing_there : (n k : ℕ) → get_or (replicate {A = Option ℕ} n None) k None ≡ None
nothing_there n k = by (cases_lt k n) where
  by : (k < n) ⊎ (n ≤ k) → get_or (replicate {A = Option ℕ} n None) k None ≡ None
  by (inl lt) = get_or-replicate {A = Option ℕ} n k None None lt
  by (inr le) = get_or_past (replicate {A = Option ℕ} n None) k None (omega (arith, length-replicate {A = Option ℕ} n None, le))

-- where no file is there yet
pub none_own : (table : Program) (owners : List (Option ℕ)) → owners ≡ replicate (length table) None → AreOwners table [] owners
none_own table owners are =
    let none : (k : ℕ) → get_or owners k None ≡ None = (λ k. ap (λ (xs : List (Option ℕ)). get_or xs k None) are ∙ nothing_there (length table) k) in
    record {
      count = ap length are ∙ length-replicate (length table) None;
      named = λ k place e. (let no = none k in absurd cc);
      each = λ k place c e. absurd cc;
    }

last_place : {A : Type 0} (xs : List A) (x y : A) (k : ℕ) → slice_get (xs ++ x ∷ []) k ≡ Some y → (slice_get xs k ≡ Some y) ⊎ ((k ≡ length xs) × (x ≡ y))
last_place [] x y zero e = inr (refl, same_Some x y e)
last_place [] x y (suc k) e = absurd cc
last_place (z ∷ xs) x y zero e = inl e
last_place (z ∷ xs) x y (suc k) e = elim (last_place xs x y k e) [ inl prefix ↦ inl prefix | inr (last, is) ↦ inr (ap suc last, is) ]

place_last : {A : Type 0} (xs : List A) (x : A) → slice_get (xs ++ x ∷ []) (length xs) ≡ Some x
place_last [] x = refl
place_last (y ∷ xs) x = place_last xs x

module _ (table : Program) (files : List ClassFile) (c : ClassFile) (owners : List (Option ℕ)) (own : AreOwners table files owners) where
  -- the file defines no class of the table
  pub owners_kept : class_number table (this_name c) ≡ None → AreOwners table (files ++ c ∷ []) owners
  owners_kept none = record {
    count = own.count;
    named = λ k place e. let (d, at, number) = own.named k place e in (d, place_in_prefix files (c ∷ []) place d at, number);
    each = λ k place d at number e.
        elim (last_place files c d place at) [
          | inl prefix ↦ own.each k place d prefix number e
          | inr (last, is) ↦ (let same : class_number table (this_name c) ≡ Some k = ap (λ (f : ClassFile). class_number table (this_name f)) is ∙ number in absurd cc)
        ];
  }

  -- it defines the class of this number
  pub owners_more : (class : ℕ) → class_number table (this_name c) ≡ Some class → (more : List (Option ℕ)) → more ≡ set owners class (Some (length files)) → AreOwners table (files ++ c ∷ []) more
  owners_more class number more are = record {
    count = ap length are ∙ length-set owners class (Some (length files)) ∙ own.count;
    named = λ k place e. named_by k place e (cases_eq k class);
    each = λ k place d at is e. each_by k place d at is e (cases_eq k class);
  } where
    within : class < length owners
    within = let lt = class_number-within table (this_name c) class number in let many = own.count in omega (arith, lt, many)

    here : (k : ℕ) → k ≡ class → get_or more k None ≡ Some (length files)
    here k is = ap (λ (xs : List (Option ℕ)). get_or xs k None) are ∙ ap (λ (n : ℕ). get_or (set owners class (Some (length files))) n None) is ∙ get_or-set_same owners class (Some (length files)) None within

    there : (k : ℕ) → k ≢ class → get_or more k None ≡ get_or owners k None
    there k other = ap (λ (xs : List (Option ℕ)). get_or xs k None) are ∙ get_or-set_other owners class k (Some (length files)) None other

    named_by : (k place : ℕ) → get_or more k None ≡ Some place → (k ≡ class) ⊎ (k ≢ class) → (d : ClassFile) × (slice_get (files ++ c ∷ []) place ≡ Some d) × (class_number table (this_name d) ≡ Some k)
    named_by k place e (inl is) =
        let last : length files ≡ place = same_Some (length files) place (sym (here k is) ∙ e) in
        (c, ap (slice_get (files ++ c ∷ [])) (sym last) ∙ place_last files c, number ∙ ap Some (sym is))
    named_by k place e (inr other) = let (d, at, is) = own.named k place (sym (there k other) ∙ e) in (d, place_in_prefix files (c ∷ []) place d at, is)

    each_by : (k place : ℕ) (d : ClassFile) → slice_get (files ++ c ∷ []) place ≡ Some d → class_number table (this_name d) ≡ Some k → get_or more k None ≡ None → (k ≡ class) ⊎ (k ≢ class) → ⊥
    each_by k place d at is e (inl same) = let owner = here k same in absurd cc
    each_by k place d at is e (inr other) =
        elim (last_place files c d place at) [
          | inl prefix ↦ own.each k place d prefix is (sym (there k other) ∙ e)
          | inr (last, f) ↦ other (same_Some k class (sym is ∙ ap (λ (x : ClassFile). class_number table (this_name x)) (sym f) ∙ number))
        ]

-- each owner is the place of a file
pub owners_inside : (table : Program) (files : List ClassFile) (owners : List (Option ℕ)) → AreOwners table files owners → (n : ℕ) → length files ≡ n → All (λ owner. IfSome owner (λ place. place < n)) owners
owners_inside table files owners own n many k d lt =
    subst (λ (owner : Option ℕ). IfSome owner (λ place. place < n)) (get_or_default owners k None d lt) (by (get_or owners k None) refl) where
      by : (o : Option ℕ) → get_or owners k None ≡ o → IfSome o (λ place. place < n)
      by None e = tt
      by (Some place) e =
          let (c, at, number) = own.named k place e in
          let within = slice_get_within files place c at in
          omega (arith, within, many)

-- ---- parts, one class after the other

pub no_parts : (table : Program) (files : List ClassFile) (owners : List (Option ℕ)) (parts : List ClassParts) → parts ≡ [] → AreFirstParts table files owners 0 parts
no_parts table files owners parts are = record {
  many = ap length are;
  each = λ k p at. (let none : slice_get {X = ClassParts} [] k ≡ Some p = ap (λ (ps : List ClassParts). slice_get ps k) (sym are) ∙ at in absurd cc);
}

pub one_more_part : (table : Program) (files : List ClassFile) (owners : List (Option ℕ)) (class : ℕ) (parts more : List ClassParts) (p : ClassParts)
    → AreFirstParts table files owners class parts → ArePartsFor table files class (get_or owners class None) p → more ≡ parts ++ p ∷ [] → AreFirstParts table files owners (class + 1) more
one_more_part table files owners class parts more p first part are = subst (AreFirstParts table files owners (class + 1)) (sym are) (record {
  many = (let many = first.many in let one = pushed parts p in omega (arith, many, one));
  each = λ k q at.
      elim (last_place parts p q k at) [
        | inl prefix ↦ first.each k q prefix
        | inr (last, is) ↦ subst (λ (x : ClassParts). ArePartsFor table files k (get_or owners k None) x) is
            (subst (λ (n : ℕ). ArePartsFor table files n (get_or owners n None) p) (sym (last ∙ first.many)) part)
      ];
}) where
  pushed : (parts : List ClassParts) (p : ClassParts) → length (parts ++ p ∷ []) ≡ length parts + 1
  pushed [] p = refl
  pushed (x ∷ parts) p = let later = pushed parts p in omega (arith, later)

-- of the class that the file of a place defines
pub file_part : (table : Program) (views : List ClassView) (class place : ℕ) (view : ClassView) (p : ClassParts) → place < length views → view ≡ get_or views place view → AreFileParts (class_of view) p
    → ArePartsFor table (map class_of views) class (Some place) p
file_part table views class place view p lt is are = (class_of view, place_mapped class_of views place view (slice_get_read views (length views) place view refl lt is), are)

pub views_valid : (views : List ClassView) → All (λ view. IsValid (class_of view)) views → (c : ClassFile) → Contains (map class_of views) c → IsValid c
views_valid views all c m = let (view, own, is) = of_map class_of views c m in subst IsValid is (All-contains (λ v. IsValid (class_of v)) views view all own)

-- with one more of the files that are shown
pub owners_next : (table : Program) (views : List ClassView) (i : ℕ) (view : ClassView) (old new : List (Option ℕ)) → i < length views → view ≡ get_or views i view
    → ((files : List ClassFile) → length files ≡ i → AreOwners table files old → AreOwners table (files ++ class_of view ∷ []) new)
    → AreOwners table (map class_of (take i views)) old → AreOwners table (map class_of (take (i + 1) views)) new
owners_next table views i view old new lt is more own =
    let last : map class_of (take i views) ++ class_of view ∷ [] ≡ map class_of (take (i + 1) views) =
    ap (λ (v : ClassView). map class_of (take i views) ++ class_of v ∷ []) is ∙ sym (map_more class_of views i view lt) in
    let many : length (map class_of (take i views)) ≡ i = (let a = length-map (take i views) class_of in let b = length-take i views in omega (arith, a, b, lt)) in
    subst (λ (files : List ClassFile). AreOwners table files new) last (more (map class_of (take i views)) many own)

-- ---- they are those of the table

fit_from_places : (table : Program) (parts : List ClassParts) → length parts ≡ length table → ((k : ℕ) (c : Class) (p : ClassParts) → slice_get table k ≡ Some c → slice_get parts k ≡ Some p → FitClass c p)
    → FitClasses table parts
fit_from_places [] [] many each = tt
fit_from_places [] (p ∷ parts) many each = absurd (omega (arith, many))
fit_from_places (c ∷ table) [] many each = absurd (omega (arith, many))
fit_from_places (c ∷ table) (p ∷ parts) many each = (each 0 c p refl refl, fit_from_places table parts (omega (arith, many)) (λ k. each (suc k)))

declared_name : (c : ClassFile) → (declared_class c).name ≡ this_name c
unfolding declared_class
declared_name c = refl

module _ (library : Library) (files : List ClassFile) (table : Program) (of : IsTableOf library files table) (valid : (c : ClassFile) → Contains files c → IsValid c)
    (owners : List (Option ℕ)) (own : AreOwners table files owners) (parts : List ClassParts) (first : AreFirstParts table files owners (length table) parts) where
  abbrev all : List Class
  all = all_classes library files

  rise : RiseStrictly table
  rise = rise_of_table all table of.is of.loadable.differ

  -- two classes of different places have different names
  apart : (i j : ℕ) (c d : Class) → slice_get all i ≡ Some c → slice_get all j ≡ Some d → i < j → c.name ≡ d.name → ⊥
  apart i j c d at_c at_d lt same =
      of.loadable.differ c.name (record { first = i; other = j; apart = lt; one = name_there all i c at_c; two = name_there all j d at_d ∙ ap Some (sym same) })

  file_at : (v : ℕ) (c : ClassFile) → slice_get files v ≡ Some c → slice_get all v ≡ Some (declared_class c)
  file_at v c at = place_in_prefix (map declared_class files) (map library_class library) v (declared_class c) (place_mapped declared_class files v c at)

  library_at : (v : ℕ) (c : LibraryClass) → slice_get library v ≡ Some c → slice_get all (length files + v) ≡ Some (library_class c)
  library_at v c at =
      ap (λ (n : ℕ). slice_get (all_classes library files) (n + v)) (sym (length-map files declared_class))
      ∙ place_behind (map declared_class files) (map library_class library) v (library_class c) (place_mapped library_class library v c at)

  -- the class that a file defines stands at the number of its name
  file_number : (c : ClassFile) → Contains files c → (k : ℕ) × (slice_get table k ≡ Some (declared_class c)) × (class_number table (this_name c) ≡ Some k)
  file_number c m =
      number_of_member table rise (declared_class c) (this_name c)
      (in_table all table of.is (declared_class c) (member_prefix (map declared_class files) (map library_class library) (declared_class c) (member_mapped declared_class files c m)))
      (declared_name c)

  file_there : (c : ClassFile) (k : ℕ) → Contains files c → class_number table (this_name c) ≡ Some k → slice_get table k ≡ Some (declared_class c)
  file_there c k m number = let (j, at, e) = file_number c m in ap (slice_get table) (same_Some k j (sym number ∙ e)) ∙ at

  -- and has an owner
  owner_there : (c : ClassFile) (k : ℕ) → Contains files c → slice_get table k ≡ Some (declared_class c) → get_or owners k None ≡ None → ⊥
  owner_there c k m at none =
      let (v, own_at) = place_of_member files c m in
      own.each k v c own_at (class_number-rise table rise k (this_name c) (name_there table k (declared_class c) at ∙ ap Some (declared_name c))) none

  -- the class that has an owner is the one that this file defines
  owned_there : (k v : ℕ) (c : ClassFile) → get_or owners k None ≡ Some v → slice_get files v ≡ Some c → slice_get table k ≡ Some (declared_class c)
  owned_there k v c e at =
      let (d, at_d, number) = own.named k v e in
      let same : d ≡ c = same_Some d c (sym at_d ∙ at) in
      file_there c k (member_at_place files v c at) (subst (λ (f : ClassFile). class_number table (this_name f) ≡ Some k) same number)

  -- one file defines a class
  one_file : (i j : ℕ) (c d : ClassFile) → slice_get files i ≡ Some c → slice_get files j ≡ Some d → declared_class c ≡ declared_class d → c ≡ d
  one_file i j c d at_c at_d same =
      elim (cases_lt i j) [
        | inl before ↦ absurd (apart i j (declared_class c) (declared_class d) (file_at i c at_c) (file_at j d at_d) before (ap name_of same))
        | inr le ↦ elim (cases_lt j i) [
          | inl after ↦ absurd (apart j i (declared_class d) (declared_class c) (file_at j d at_d) (file_at i c at_c) after (ap name_of (sym same)))
          | inr ge ↦ (let is : i ≡ j = omega (arith, le, ge) in same_Some c d (sym at_c ∙ ap (slice_get files) is ∙ at_d))
        ]
      ]

  -- and none one of the library
  none_of_library : (c : ClassFile) (d : LibraryClass) → Contains files c → Contains library d → declared_class c ≡ library_class d → ⊥
  none_of_library c d m n same =
      let (i, at_c) = place_of_member files c m in
      let (j, at_d) = place_of_member library d n in
      let lt = slice_get_within files i c at_c in
      apart i (length files + j) (declared_class c) (library_class d) (file_at i c at_c) (library_at j d at_d) (omega (arith, lt)) (ap name_of same)

  library_part : (k : ℕ) (d : LibraryClass) (p : ClassParts) → slice_get table k ≡ Some (library_class d) → ArePartsFor table files k None p → AreBareParts (length (library_class d).methods) 0 p
  library_part k d p at bare = subst (λ (o : Option Class). AreBareParts (length (methods_of o)) (length (fields_of o)) p) at bare

  fit_at : (k : ℕ) (c : Class) (p : ClassParts) → slice_get table k ≡ Some c → slice_get parts k ≡ Some p → FitClass c p
  fit_at k c p at there = by (get_or owners k None) refl (first.each k p there) where
    by_kind : get_or owners k None ≡ None → ArePartsFor table files k None p → Contains (map declared_class files) c ⊎ Contains (map library_class library) c → FitClass c p
    by_kind e bare (inl own_class) = let (f, m, is) = of_map declared_class files c own_class in absurd (owner_there f k m (at ∙ ap Some (sym is)) e)
    by_kind e bare (inr own_class) =
        let (d, m, is) = of_map library_class library c own_class in
        subst (λ (x : Class). FitClass x p) is (library_fits d p (library_part k d p (at ∙ ap Some (sym is)) bare))

    by : (o : Option ℕ) → get_or owners k None ≡ o → ArePartsFor table files k o p → FitClass c p
    by None e bare =
        by_kind e bare (member_of_either (map declared_class files) (map library_class library) c (out_of_table (all_classes library files) table of.is c (member_at_place table k c at)))
    by (Some v) e (f, own_at, are) =
        subst (λ (x : Class). FitClass x p) (same_Some (declared_class f) c (sym (owned_there k v f e own_at) ∙ at)) (file_fits f p (valid f (member_at_place files v f own_at)) are)

  filled_at : (k : ℕ) (c : ClassFile) (p : ClassParts) → Contains files c → slice_get table k ≡ Some (declared_class c) → slice_get parts k ≡ Some p → IsClassIn c (class_of_source (source_of (declared_class c) p))
  filled_at k c p m at there = by (get_or owners k None) refl (first.each k p there) where
    by : (o : Option ℕ) → get_or owners k None ≡ o → ArePartsFor table files k o p → IsClassIn c (class_of_source (source_of (declared_class c) p))
    by None e bare = absurd (owner_there c k m at e)
    by (Some v) e (f, own_at, are) =
        let (i, at_c) = place_of_member files c m in
        let same : f ≡ c = one_file v i f c own_at at_c (same_Some (declared_class f) (declared_class c) (sym (owned_there k v f e own_at) ∙ at)) in
        subst (λ (x : ClassFile). IsClassIn x (class_of_source (source_of (declared_class x) p))) same (class_with_parts f p are)

  bare_at : (k : ℕ) (c : LibraryClass) (p : ClassParts) → Contains library c → slice_get table k ≡ Some (library_class c) → slice_get parts k ≡ Some p → class_of_source (source_of (library_class c) p) ≡ library_class c
  bare_at k c p m at there = by (get_or owners k None) refl (first.each k p there) where
    by : (o : Option ℕ) → get_or owners k None ≡ o → ArePartsFor table files k o p → class_of_source (source_of (library_class c) p) ≡ library_class c
    by None e bare = library_stays c p (library_part k c p at bare)
    by (Some v) e (f, own_at, are) =
        absurd (none_of_library f c (member_at_place files v f own_at) m (same_Some (declared_class f) (library_class c) (sym (owned_there k v f e own_at) ∙ at)))

  pub are_parts : ArePartsOf library files table parts
  are_parts = record { fit = fit_from_places table parts first.many fit_at; filled = filled_at; bare = bare_at }
