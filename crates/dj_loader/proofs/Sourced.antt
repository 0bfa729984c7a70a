-- The program of classes with their parts.
use Rattle.std.proofs.Common.{◌≡◌, ℕ, zero, suc, ◌+◌, Bool, true, false, List, [], ◌∷◌, map, length, Option, Some, refl, sym, ap, ◌∙◌, subst, sum_by, arith}
use Rattle.std.specs.Prelude.{slice_get, if◌then◌else◌}
use Rattle.std.proofs.lemmas.List.{length-map}
use Rattle.std.proofs.lemmas.List.Concat.{length-flat_map}
use Rattle.std.proofs.lemmas.List.Sums.{sum_by-cons}
use Rattle.std.proofs.lemmas.Option.{same_Some}
use Rattle.dj_names.specs.trusted.Library.{Library}
use Rattle.dj_pool.specs.trusted.Pool.{Constant}
use Rattle.dj_class.specs.trusted.ClassFile.{ClassFile}
use Rattle.dj_model.specs.trusted.Program as programs
use Rattle.dj_model.specs.trusted.Program.{Program, Class, Method, Field}
use Rattle.dj_model.specs.trusted.Libraries.{is_name_before, inserted, joined}
use Rattle.dj_class_table.specs.Tables.{name_of}
use Rattle.dj_class_table.specs.ClassRows.{RiseStrictly}
use Rattle.dj_program.specs.trusted.Codes.{CodeParts}
use Rattle.dj_program.specs.trusted.Programs.{IsClassIn, IsProgramIn}
use Rattle.dj_numbering.specs.Members.{methods_in, fields_in, all_methods, all_fields}
use Rattle.dj_image.specs.declared.parts.ClassParts.{ClassParts}
use Rattle.dj_image.specs.Sources.{Source, with_codes, with_values, class_of_source, program_of_sources}
use Rattle.dj_image.specs.Parts.{source_of, sources_of, FitClasses, AreFew}
use Rattle.dj_loader.specs.Loads.{all_classes, methods_of, fields_of, AreFewMembers}
use Rattle.dj_loader.specs.Parting.{ArePartsOf}
use Rattle.dj_loader.proofs.Filled.{is_program_in}

-- ---- as many members

codes_kept : (pool : List Constant) (methods : List Method) (codes : List (Option CodeParts)) → length (with_codes pool methods codes) ≡ length methods
codes_kept pool [] codes = refl
codes_kept pool (m ∷ methods) [] = refl
codes_kept pool (m ∷ methods) (code ∷ codes) = ap suc (codes_kept pool methods codes)

values_kept : (fields : List Field) (values : List (Option programs.Constant)) → length (with_values fields values) ≡ length fields
values_kept [] values = refl
values_kept (f ∷ fields) [] = refl
values_kept (f ∷ fields) (value ∷ values) = ap suc (values_kept fields values)

abbrev method_count : Class → ℕ
method_count c = length c.methods

abbrev field_count : Class → ℕ
field_count c = length c.fields

filled_name : (s : Source) → (class_of_source s).name ≡ s.class.name
unfolding class_of_source
filled_name s = refl

filled_methods : (s : Source) → method_count (class_of_source s) ≡ method_count s.class
unfolding class_of_source
filled_methods s = codes_kept s.pool s.class.methods s.codes

filled_fields : (s : Source) → field_count (class_of_source s) ≡ field_count s.class
unfolding class_of_source
filled_fields s = values_kept s.class.fields s.values

-- ---- side by side

pub names_of_sources : (table : Program) (parts : List ClassParts) → FitClasses table parts → map name_of (program_of_sources (sources_of table parts)) ≡ map name_of table
unfolding sources_of
names_of_sources [] [] fit = refl
names_of_sources [] (p ∷ parts) fit = absurd fit
names_of_sources (c ∷ table) [] fit = absurd fit
names_of_sources (c ∷ table) (p ∷ parts) fit =
    let first : (class_of_source (source_of c p)).name ≡ c.name = filled_name (source_of c p) in
    let rest = names_of_sources table parts fit.1 in
    λ i. first i ∷ rest i

sum_of_sources : (f : Class → ℕ) → ((s : Source) → f (class_of_source s) ≡ f s.class) → (table : Program) (parts : List ClassParts) → FitClasses table parts
    → sum_by f (program_of_sources (sources_of table parts)) ≡ sum_by f table
unfolding sources_of
sum_of_sources f same [] [] fit = refl
sum_of_sources f same [] (p ∷ parts) fit = absurd fit
sum_of_sources f same (c ∷ table) [] fit = absurd fit
sum_of_sources f same (c ∷ table) (p ∷ parts) fit =
    let first : f (class_of_source (source_of c p)) ≡ f c = same (source_of c p) in
    let rest = sum_of_sources f same table parts fit.1 in
    sum_by-cons f (class_of_source (source_of c p)) (program_of_sources (sources_of table parts)) ∙ (λ i. first i + rest i) ∙ sym (sum_by-cons f c table)

source_there : (table : Program) (parts : List ClassParts) → FitClasses table parts → (k : ℕ) (c x : Class) → slice_get table k ≡ Some c → slice_get (program_of_sources (sources_of table parts)) k ≡ Some x
    → (p : ClassParts) × (slice_get parts k ≡ Some p) × (class_of_source (source_of c p) ≡ x)
unfolding sources_of
source_there [] [] fit k c x at there = absurd cc
source_there [] (p ∷ parts) fit k c x at there = absurd fit
source_there (d ∷ table) [] fit k c x at there = absurd fit
source_there (d ∷ table) (p ∷ parts) fit zero c x at there =
    (p, refl, ap (λ (y : Class). class_of_source (source_of y p)) (sym (same_Some d c at)) ∙ same_Some (class_of_source (source_of d p)) x there)
source_there (d ∷ table) (p ∷ parts) fit (suc k) c x at there = source_there table parts fit.1 k c x at there

-- ---- in the order of names there are as many

sum_inserted : (f : Class → ℕ) (c : Class) (rows : Program) → sum_by f (inserted c rows) ≡ f c + sum_by f rows
sum_inserted f c [] = sum_by-cons f c []
sum_inserted f c (d ∷ rows) = by (is_name_before c.name d.name) (sum_inserted f c rows) where
  by : (b : Bool) → sum_by f (inserted c rows) ≡ f c + sum_by f rows → sum_by f (if b then c ∷ d ∷ rows else d ∷ inserted c rows) ≡ f c + sum_by f (d ∷ rows)
  by true later = sum_by-cons f c (d ∷ rows)
  by false later =
      let a = sum_by-cons f d (inserted c rows) in
      let b = sum_by-cons f d rows in
      omega (arith, a, b, later)

sum_joined : (f : Class → ℕ) (classes : List Class) → sum_by f (joined classes []) ≡ sum_by f classes
sum_joined f [] = refl
sum_joined f (c ∷ classes) =
    let a = sum_inserted f c (joined classes []) in
    let b = sum_by-cons f c classes in
    let later = sum_joined f classes in
    omega (arith, a, b, later)

method_lengths : (program : Program) → length (all_methods program) ≡ sum_by method_count program
unfolding all_methods
method_lengths [] = refl
method_lengths (c ∷ program) = length-flat_map methods_in (c ∷ program) ∙ sums (c ∷ program) where
  sums : (rows : Program) → sum_by (λ x. length (methods_in x)) rows ≡ sum_by method_count rows
  sums [] = refl
  sums (x ∷ rows) =
      let a = sum_by-cons (λ y. length (methods_in y)) x rows in
      let b = sum_by-cons method_count x rows in
      let here : length (methods_in x) ≡ length x.methods = length-map x.methods (λ m. record { class = x.name; method = m }) in
      let later = sums rows in
      omega (arith, a, b, here, later)

field_lengths : (program : Program) → length (all_fields program) ≡ sum_by field_count program
unfolding all_fields
field_lengths [] = refl
field_lengths (c ∷ program) = length-flat_map fields_in (c ∷ program) ∙ sums (c ∷ program) where
  sums : (rows : Program) → sum_by (λ x. length (fields_in x)) rows ≡ sum_by field_count rows
  sums [] = refl
  sums (x ∷ rows) =
      let a = sum_by-cons (λ y. length (fields_in y)) x rows in
      let b = sum_by-cons field_count x rows in
      let here : length (fields_in x) ≡ length x.fields = length-map x.fields (λ f. record { class = x.name; field = f }) in
      let later = sums rows in
      omega (arith, a, b, here, later)

module _ (all table : Program) (is : table ≡ joined all []) (parts : List ClassParts) (fit : FitClasses table parts) where
  sum_of_all : (f : Class → ℕ) → ((s : Source) → f (class_of_source s) ≡ f s.class) → sum_by f (program_of_sources (sources_of table parts)) ≡ sum_by f all
  sum_of_all f same = sum_of_sources f same table parts fit ∙ ap (sum_by f) is ∙ sum_joined f all

  pub few_members : AreFewMembers all → AreFew (sources_of table parts)
  few_members few = record {
    methods =
        (let many = method_lengths (program_of_sources (sources_of table parts)) ∙ sum_of_all method_count filled_methods in
        let of = length-flat_map methods_of all in
        omega (arith, many, of, few.methods));
    fields =
        (let many = field_lengths (program_of_sources (sources_of table parts)) ∙ sum_of_all field_count filled_fields in
        let of = length-flat_map fields_of all in
        omega (arith, many, of, few.fields));
  }

-- ---- the program

pub program_with_parts : (library : Library) (files : List ClassFile) (table : Program) (parts : List ClassParts) → table ≡ joined (all_classes library files) [] → RiseStrictly table
    → ArePartsOf library files table parts → IsProgramIn library files (program_of_sources (sources_of table parts))
program_with_parts library files table parts is rise are =
    is_program_in table (program_of_sources (sources_of table parts)) rise (names_of_sources table parts are.fit) library files is
    (λ k c x m at there.
    let (p, own, filled) = source_there table parts are.fit k _ x at there in
    subst (IsClassIn c) filled (are.filled k c p m at own))
    (λ k c x m at there.
    let (p, own, filled) = source_there table parts are.fit k _ x at there in
    sym filled ∙ are.bare k c p m at own)
