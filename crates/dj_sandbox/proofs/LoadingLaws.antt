-- Class files that were judged load with the raw library.
use Rattle.std.proofs.Common.{◌≡◌, ℕ, suc, ◌+◌, ◌&&◌, ◌*◌, ◌<◌, ◌≤◌, true, List, [], ◌∷◌, ◌++◌, map, take, length, get_or, nat_le, All, Contains, refl, sym, ap, ◌∙◌, subst, inl, codes, arith}
use Rattle.std.specs.List.{list_all, flat_map, AllByRecursion}
use Rattle.std.proofs.lemmas.Bool.Decides.{nat_tests}
use Rattle.std.proofs.lemmas.List.{length-append, length-map, take_more, take_all, map-append}
use Rattle.std.proofs.lemmas.List.Elements.{All-from_recursion, All-contains_itself}
use Rattle.dj_edge.specs.trusted.Held.{File}
use Rattle.dj_edge.proofs.Lists.{All-unmap}
use Rattle.dj_names.specs.trusted.Types.{Name}
use Rattle.dj_names.specs.trusted.Library.{raw_library, final_class, lang, string_methods}
use Rattle.dj_class.specs.trusted.ClassFile.{ClassFile, IsClassFile, IsMalformed, IsValid}
use Rattle.dj_class.specs.declared.class.ClassView.{ClassView}
use Rattle.dj_class.specs.Views.{class_of}
use Rattle.dj_report.specs.declared.report.PathFile.{PathFile}
use Rattle.dj_file_rules.specs.Views.{path_file_view}
use Rattle.dj_report.specs.trusted.Lines.{file_line}
use Rattle.dj_early_rules.specs.trusted.Malformed.{HasFaultyMethod}
use Rattle.dj_model.specs.trusted.Program.{Class}
use Rattle.dj_model.specs.trusted.Libraries.{library_class, joined}
use Rattle.dj_declarations.specs.trusted.Files.{declared_method, declared_field, declared_class, declared_program}
use Rattle.dj_resolution.specs.declared.linker.BaseNames.TheVariants as bases
use Rattle.dj_resolution.specs.Linked.{Linked}
use Rattle.dj_image.specs.Parts.{HasString}
use Rattle.dj_loader.specs.Loads.{all_classes, methods_of, fields_of, HasStringIn, AreFewMembers}
use Rattle.dj_loader.specs.Parting.{IsTableOf}
use Rattle.dj_loader.proofs.Strings.{string_there}
use Rattle.dj_loader.proofs.Lists.{member_none}
use Rattle.dj_class_set.specs.trusted.Checked.{AreGoodFiles}
use Rattle.dj_class_set.specs.trusted.RawRules.{AreRawViolations}
use Rattle.dj_class_set.specs.Late.{AreReadFiles, LinksFiles}
use Rattle.dj_class_set.proofs.GoodFiles.{same_good}
use Rattle.dj_class_set.proofs.LateLaws.{read_more, good_files, joined_program}
use Rattle.dj_class_set.proofs.LibraryDescriptors.{both}
use Rattle.dj_class_set.proofs.RawLaws.{silent_holds}
use Rattle.dj_sound.proofs.RawAccepted.{are_raw_accepted}

-- ---- one more file is read

pub one_more_read : (files : List PathFile) (i : ℕ) (d : PathFile) (views : List ClassView) (view : ClassView) → i < length files
    → AreReadFiles (map path_file_view (take i files)) (map class_of views) → IsClassFile (get_or files i d).bytes.now (class_of view)
    → AreReadFiles (map path_file_view (take (i + 1) files)) (map class_of (views ++ view ∷ []))
one_more_read files i d views view lt are is =
    let file = get_or files i d in
    let grown : map path_file_view (take (i + 1) files) ≡ map path_file_view (take i files) ++ path_file_view file ∷ [] =
    ap (map path_file_view) (take_more files i d lt) ∙ map-append path_file_view (take i files) (file ∷ []) in
    let more : map class_of (views ++ view ∷ []) ≡ map class_of views ++ class_of view ∷ [] = map-append class_of views (view ∷ []) in
    subst (λ (fs : List File). AreReadFiles fs (map class_of (views ++ view ∷ []))) (sym grown)
    (subst (AreReadFiles (map path_file_view (take i files) ++ path_file_view file ∷ [])) (sym more)
    (read_more (map path_file_view (take i files)) (map class_of views) (path_file_view file) (class_of view) are is))

pub all_read : (files : List PathFile) (i : ℕ) (views : List ClassView) → length files ≤ i → AreReadFiles (map path_file_view (take i files)) (map class_of views)
    → AreReadFiles (map path_file_view files) (map class_of views)
all_read files i views ge are = subst (λ (fs : List PathFile). AreReadFiles (map path_file_view fs) (map class_of views)) (take_all i files ge) are

-- ---- the library

abbrev rows_pass : ℕ → ℕ → List Class → Type 0
rows_pass methods fields classes = list_all (λ (c : Class). nat_le (length c.methods) methods && nat_le (length c.fields) fields) classes ≡ true

raw_string : HasStringIn raw_library bases.Plain
raw_string = record {
  class = final_class (codes "String") (lang (codes "Comparable") ∷ lang (codes "CharSequence") ∷ []) 0 string_methods;
  there = (1, omega arith, refl);
  named = refl;
}

raw_rows : length raw_library ≤ 64
raw_rows = omega arith

raw_small : rows_pass 65535 65535 (map library_class raw_library)
raw_small = refl

-- ---- members have numbers of 32 bits

within : (n most : ℕ) → nat_le n most ≡ true → n ≤ most
within n most e = grind (arith, nat_tests)

-- no class has more
abbrev AreSmall : List Class → Type 0
AreSmall classes = AllByRecursion (λ (c : Class). (length c.methods ≤ 65535) × (length c.fields ≤ 65535)) classes

small_rows : (classes : List Class) → rows_pass 65535 65535 classes → AreSmall classes
small_rows [] pass = tt
small_rows (c ∷ classes) pass =
    let p = both (nat_le (length c.methods) 65535 && nat_le (length c.fields) 65535) (list_all (λ (d : Class). nat_le (length d.methods) 65535 && nat_le (length d.fields) 65535) classes) pass in
    let q = both (nat_le (length c.methods) 65535) (nat_le (length c.fields) 65535) p.0 in
    ((within (length c.methods) 65535 q.0, within (length c.fields) 65535 q.1), small_rows classes p.1)

small_file : (c : ClassFile) → IsValid c → (length (declared_class c).methods ≤ 65535) × (length (declared_class c).fields ≤ 65535)
unfolding declared_class
small_file c valid =
    let a : length (declared_class c).methods ≡ length c.methods = length-map c.methods (declared_method c.pool) in
    let b : length (declared_class c).fields ≡ length c.fields = length-map c.fields (declared_field c.pool) in
    let m = valid.method_count in
    let f = valid.field_count in
    (omega (arith, a, m), omega (arith, b, f))

small_all : (files : List ClassFile) (rows : List Class) → AllByRecursion IsValid files → AreSmall rows → AreSmall (map declared_class files ++ rows)
small_all [] rows valid small = small
small_all (c ∷ files) rows valid small = (small_file c valid.0, small_all files rows valid.1 small)

methods_few : (classes : List Class) → AreSmall classes → length (flat_map methods_of classes) ≤ length classes * 65535
methods_few [] small = omega arith
methods_few (c ∷ classes) small =
    let rest = methods_few classes small.1 in
    let own = small.0.0 in
    let sum : length (c.methods ++ flat_map methods_of classes) ≡ length c.methods + length (flat_map methods_of classes) = length-append c.methods (flat_map methods_of classes) in
    omega (arith, rest, own, sum)

fields_few : (classes : List Class) → AreSmall classes → length (flat_map fields_of classes) ≤ length classes * 65535
fields_few [] small = omega arith
fields_few (c ∷ classes) small =
    let rest = fields_few classes small.1 in
    let own = small.0.1 in
    let sum : length (c.fields ++ flat_map fields_of classes) ≡ length c.fields + length (flat_map fields_of classes) = length-append c.fields (flat_map fields_of classes) in
    omega (arith, rest, own, sum)

few_of : (files : List ClassFile) → length files ≤ 4096 → AllByRecursion IsValid files → AreFewMembers (all_classes raw_library files)
few_of files few valid =
    let rows = map library_class raw_library in
    let small = small_all files rows valid (small_rows rows raw_small) in
    let a : length (map declared_class files ++ rows) ≡ length (map declared_class files) + length rows = length-append (map declared_class files) rows in
    let b : length (map declared_class files) ≡ length files = length-map files declared_class in
    let c : length rows ≡ length raw_library = length-map raw_library library_class in
    let m = methods_few (map declared_class files ++ rows) small in
    let f = fields_few (map declared_class files ++ rows) small in
    record { methods = omega (arith, few, a, b, c, m, raw_rows); fields = omega (arith, few, a, b, c, f, raw_rows) }

-- ---- of files without rule 1

valids : (files : List File) (classes : List ClassFile) → AreGoodFiles files classes → AllByRecursion IsValid classes
valids [] [] good = tt
valids [] (c ∷ classes) good = absurd good
valids (file ∷ files) [] good = absurd good
valids (file ∷ files) (c ∷ classes) good = (good.0.file.valid, valids files classes good.1)

abbrev IsWhole : ClassFile → Type 0
IsWhole c = HasFaultyMethod c → ⊥

wholes : (files : List File) (classes : List ClassFile) → AreGoodFiles files classes → AllByRecursion IsWhole classes
wholes [] [] good = tt
wholes [] (c ∷ classes) good = absurd good
wholes (file ∷ files) [] good = absurd good
wholes (file ∷ files) (c ∷ classes) good = (λ faulty. good.0.whole (inl faulty), wholes files classes good.1)

pub valid_views : (files : List File) (views : List ClassView) → AreGoodFiles files (map class_of views) → All (λ view. IsValid (class_of view)) views
valid_views files views good = All-unmap class_of IsValid views (All-from_recursion IsValid (map class_of views) (valids files (map class_of views) good))

pub whole_views : (files : List File) (views : List ClassView) → AreGoodFiles files (map class_of views) → All (λ view. HasFaultyMethod (class_of view) → ⊥) views
whole_views files views good = All-unmap class_of IsWhole views (All-from_recursion IsWhole (map class_of views) (wholes files (map class_of views) good))

as_many : (files : List File) (classes : List ClassFile) → AreReadFiles files classes → length classes ≡ length files
as_many [] [] read = refl
as_many [] (c ∷ classes) read = absurd read
as_many (file ∷ files) [] read = absurd read
as_many (file ∷ files) (c ∷ classes) read = ap suc (as_many files classes read.1)

few_classes : (files : List PathFile) (classes : List ClassFile) → length files ≤ 4096 → AreReadFiles (map path_file_view files) classes → length classes ≤ 4096
few_classes files classes few read =
    let a = as_many (map path_file_view files) classes read in
    let c : length (map path_file_view files) ≡ length files = length-map files path_file_view in
    omega (arith, few, a, c)

-- rule 1
not_malformed : (files : List File) (class : Name) → AreRawViolations files class [] → (file : File) → Contains files file → IsMalformed file.1 → ⊥
not_malformed files class silent file m malformed =
    member_none (file_line file.0 1) ((silent.all (file_line file.0 1)).1 (inl (inl (inl (file, m, inl (inl malformed, refl))))))

pub whole_files : (files : List PathFile) → (class : Name) × AreRawViolations (map path_file_view files) class [] → All (λ file. IsMalformed file.bytes.now → ⊥) files
whole_files files (class, silent) =
    let some : List File = map path_file_view files in
    All-unmap path_file_view (λ (file : File). IsMalformed file.1 → ⊥) files
    (λ k d within. not_malformed some class silent (get_or some k d) (All-contains_itself some k d within))

pub good_of : (files : List File) (classes : List ClassFile) → (class : Name) × AreRawViolations files class [] → AreReadFiles files classes → AreGoodFiles files classes
good_of files classes (class, silent) read = good_files files classes (silent_holds files class silent) read

-- ---- what links them has the program's table

pub raw_table : (files : List PathFile) (classes : List ClassFile) (linked : Linked) → length files ≤ 4096 → (class : Name) × AreRawViolations (map path_file_view files) class []
    → AreReadFiles (map path_file_view files) classes → LinksFiles raw_library (map path_file_view files) linked → IsTableOf raw_library classes linked.program
raw_table files classes linked few (class, silent) read (own, own_read, is) =
    let some : List File = map path_file_view files in
    let good : AreGoodFiles some classes = good_of some classes (class, silent) read in
    let same : own ≡ classes = same_good some own classes (good_of some own (class, silent) own_read) good in
    let joins : joined (all_classes raw_library classes) [] ≡ declared_program raw_library classes =
    joined_program raw_library classes (map declared_class classes) (all_classes raw_library classes) refl refl in
    record {
      is = ap (λ (l : Linked). l.program) is ∙ ap (declared_program raw_library) same ∙ sym joins;
      loadable = (are_raw_accepted some class classes good silent).loadable;
      few = few_of classes (few_classes files classes few read) (valids some classes good);
    }

pub raw_plain : (files : List File) (linked : Linked) → LinksFiles raw_library files linked → linked.prefix ≡ []
raw_plain files linked (own, read, is) = ap (λ (l : Linked). l.prefix) is

-- it has the class String
pub raw_has_string : (classes : List ClassFile) (linked : Linked) → IsTableOf raw_library classes linked.program → linked.prefix ≡ [] → HasString linked.program linked.prefix
raw_has_string classes linked of plain =
    subst (HasString linked.program) (sym plain) (string_there raw_library classes linked.program bases.Plain of.is raw_string)
