-- The lines of the rules 17 to 19: the classes of the files and of the library, and when such lines are judged.
use Rattle.std.proofs.Common.{◌≡◌, ℕ, suc, ◌+◌, ◌<◌, ◌≤◌, ◌^◌, ◌↔◌, List, [], ◌∷◌, ◌++◌, map, take, length, get_or, Contains, Some, Result, Ok, Err, IfOk, OnOk, refl, sym, ap, ◌∙◌, subst, inl, inr, arith}
use Rattle.std.specs.Prelude.{MatchResult, is_ok}
use Rattle.std.proofs.lemmas.Bool.{cases_lt}
use Rattle.std.proofs.lemmas.List.{length-append, length-map, take_more, take_all, map-append}
use Rattle.std.proofs.lemmas.List.Elements.{Contains-get_or}
use Rattle.dj_edge.specs.trusted.Held.{File}
use Rattle.dj_names.specs.trusted.Library.{Library}
use Rattle.dj_names.specs.trusted.Types.{Name}
use Rattle.dj_library_types.specs.declared.library.LibClass.{LibClass}
use Rattle.dj_library_types.specs.Views.{library_view}
use Rattle.dj_class.specs.trusted.ClassFile.{ClassFile, IsClassFile, IsMalformed}
use Rattle.dj_model.specs.trusted.Program.{Program, Class}
use Rattle.dj_model.specs.trusted.Libraries.{library_class, inserted, joined}
use Rattle.dj_report.specs.declared.report.PathFile.{PathFile}
use Rattle.dj_report.specs.declared.report.Violation.{Violation}
use Rattle.dj_report.specs.trusted.Lines.{file_line}
use Rattle.dj_report.specs.Lines.{Adds}
use Rattle.dj_report.proofs.Adding.{contains_map}
use Rattle.dj_report.proofs.Sorted.{contains_first, contains_later, contains_none}
use Rattle.dj_file_rules.specs.Views.{path_file_view}
use Rattle.dj_early_rules.specs.trusted.Malformed.{IsRefused}
use Rattle.dj_early_rules.specs.trusted.Rules.{IsEarlyLine}
use Rattle.dj_declarations.specs.trusted.Files.{declared_class, declared_program}
use Rattle.dj_class_table.specs.Tables.{IsShared}
use Rattle.dj_resolution.specs.Linked.{Linked}
use Rattle.dj_rules.specs.trusted.Lines.{IsLinkedLine}
use Rattle.dj_loader.specs.declared.error.LoadError.{LoadError}
use Rattle.dj_loader.specs.declared.error.LoadError.TheVariants as errors
use Rattle.dj_loader.specs.Numbered.{RefusesCycles}
use Rattle.dj_loader.proofs.Moved.{in_table, out_of_table, ancestor_moved}
use Rattle.dj_class_set.specs.trusted.Checked.{AreGoodFiles, HoldsHierarchy, IsLateLine, IsLineBy}
use Rattle.dj_class_set.specs.declared.late.Links.{Links}
use Rattle.dj_class_set.specs.declared.late.Links.TheVariants as links
use Rattle.dj_class_set.specs.Late.{HasHierarchyLine, AreReadFiles, IsDeclaredFrom, AreDeclared, HasMalformed, row_class, LinksFiles, IsJudging, with_library, SharesName, HasCycle, GoesRound, IsLinkOf, AreLinksOf, AreLinks}
use Rattle.dj_class_set.proofs.GoodFiles.{same_good}
use Rattle.dj_class_set.proofs.Alike.{few_rows, none_shared, none_round}

-- ---- under errors of another type

-- what holds of an answer that is there
pub ok_mapped : {T E D : Type 0} (r : Result T E) (s : Result T D) (P : T → Type 0) (R : E → Type 0) → MatchResult r (λ x. s ≡ Ok x) R → is_ok s ≡ is_ok r → IfOk r P → IfOk s P
ok_mapped (Ok x) s P R is same p = subst (λ t. IfOk t P) (sym is) p
ok_mapped (Err e) (Ok y) P R is same p = absurd cc
ok_mapped (Err e) (Err d) P R is same p = tt

pub on_ok_mapped : {T E D : Type 0} (A : Type 0) (r : Result T E) (s : Result T D) (R : E → Type 0) → MatchResult r (λ x. s ≡ Ok x) R → is_ok s ≡ is_ok r → OnOk r A → OnOk s A
on_ok_mapped A (Ok x) s R is same a = subst (λ t. OnOk t A) (sym is) a
on_ok_mapped A (Err e) (Ok y) R is same a = absurd cc
on_ok_mapped A (Err e) (Err d) R is same a = tt

-- ---- the classes of files

pub read_more : (files : List File) (classes : List ClassFile) (file : File) (c : ClassFile) → AreReadFiles files classes → IsClassFile file.1 c → AreReadFiles (files ++ file ∷ []) (classes ++ c ∷ [])
read_more [] [] file c are is = (is, tt)
read_more [] (x ∷ classes) file c are is = absurd are
read_more (other ∷ files) [] file c are is = absurd are
read_more (other ∷ files) (x ∷ classes) file c are is = (are.0, read_more files classes file c are.1 is)

pub none_declared : AreDeclared [] []
none_declared = ([], tt, refl)

pub one_more_declared : (files : List PathFile) (i : ℕ) (d : PathFile) (declared : List Class) (class : Class) → i < length files → AreDeclared (map path_file_view (take i files)) declared
    → IsDeclaredFrom (get_or files i d).bytes.now (Some class) → AreDeclared (map path_file_view (take (i + 1) files)) (declared ++ class ∷ [])
one_more_declared files i d declared class lt (classes, read, are) (c, this, is) =
    let file = get_or files i d in
    let grown : map path_file_view (take (i + 1) files) ≡ map path_file_view (take i files) ++ path_file_view file ∷ [] =
    ap (map path_file_view) (take_more files i d lt) ∙ map-append path_file_view (take i files) (file ∷ []) in (
      classes ++ c ∷ [],
      subst (λ (fs : List File). AreReadFiles fs (classes ++ c ∷ [])) (sym grown) (read_more (map path_file_view (take i files)) classes (path_file_view file) c read this),
      (λ k. are k ++ is k ∷ []) ∙ sym (map-append declared_class classes (c ∷ [])),
    )

pub all_declared : (files : List PathFile) (i : ℕ) (declared : List Class) → length files ≤ i → AreDeclared (map path_file_view (take i files)) declared → AreDeclared (map path_file_view files) declared
all_declared files i declared ge are = subst (λ (fs : List PathFile). AreDeclared (map path_file_view fs) declared) (take_all i files ge) are

-- one that is none
pub has_malformed : (files : List PathFile) (i : ℕ) (d : PathFile) → i < length files → IsMalformed (get_or files i d).bytes.now → HasMalformed (map path_file_view files)
has_malformed files i d lt malformed =
    let file = get_or files i d in
    (path_file_view file, contains_map path_file_view files file (Contains-get_or files i d lt), malformed)

-- ---- those of the library

pub rows_mapped : (rows : List LibClass) → map row_class rows ≡ map library_class (library_view rows)
rows_mapped [] = refl
rows_mapped (row ∷ rows) = ap (λ (cs : List Class). row_class row ∷ cs) (rows_mapped rows)

as_many : (files : List File) (classes : List ClassFile) → AreReadFiles files classes → length classes ≡ length files
as_many [] [] good = refl
as_many [] (c ∷ classes) good = absurd good
as_many (file ∷ files) [] good = absurd good
as_many (file ∷ files) (c ∷ classes) good = ap suc (as_many files classes good.1)

-- there are few classes
pub few_all : (library : Library) (declared all : List Class) → IsJudging library → length declared ≤ 4096 → all ≡ with_library library declared → length all < 2 ^ 31
few_all library declared all judging few is =
    let a : length all ≡ length declared + length (map library_class library) = ap length is ∙ length-append declared (map library_class library) in
    let b : length (map library_class library) ≡ length library = length-map library library_class in
    let c : length library ≤ 4096 = few_rows library judging in
    omega (arith, few, a, b, c)

pub few_declared : (files : List PathFile) (declared : List Class) → length files ≤ 4096 → AreDeclared (map path_file_view files) declared → length declared ≤ 4096
few_declared files declared few (classes, read, are) =
    let b : length declared ≡ length classes = ap length are ∙ length-map classes declared_class in
    let c : length classes ≡ length files = as_many (map path_file_view files) classes read ∙ length-map files path_file_view in
    omega (arith, few, b, c)

-- ---- the program

joined_twice : (xs ys : List Class) (program : Program) → joined (xs ++ ys) program ≡ joined xs (joined ys program)
joined_twice [] ys program = refl
joined_twice (x ∷ xs) ys program = ap (inserted x) (joined_twice xs ys program)

pub joined_program : (library : Library) (classes : List ClassFile) (declared all : List Class) → declared ≡ map declared_class classes
    → all ≡ declared ++ map library_class library → joined all [] ≡ declared_program library classes
unfolding declared_program
joined_program library classes declared all are is =
    ap (λ (cs : List Class). joined cs []) (is ∙ ap (λ (cs : List Class). cs ++ map library_class library) are)
    ∙ joined_twice (map declared_class classes) (map library_class library) []

pub links_files : (library : Library) (files : List File) (declared : List Class) (linked : Linked) → AreDeclared files declared
    → linked ≡ record { program = joined (with_library library declared) []; prefix = [] } → LinksFiles library files linked
links_files library files declared linked (classes, read, are) links =
    let program : joined (with_library library declared) [] ≡ declared_program library classes = joined_program library classes declared (with_library library declared) are refl in
    (classes, read, subst (λ (p : Program). linked ≡ record { program = p; prefix = [] }) program links)

-- how those of the files are linked, by how their classes are
pub are_links : (library : Library) (files : List File) (declared : List Class) (reported : Links) → AreDeclared files declared → AreLinksOf library declared reported
    → AreLinks library files reported
are_links library files declared (links.Linked linked) are is = links_files library files declared linked are is
are_links library files declared links.NotClassFile are is = absurd is
are_links library files declared links.SharedName are is = (declared, are, is)
are_links library files declared links.Cycle are is = (declared, are, is)

-- by how those of a table are
pub are_links_of : (library : Library) (declared : List Class) (table : Program) (reported : Links) → table ≡ joined (with_library library declared) []
    → IsLinkOf table reported → AreLinksOf library declared reported
are_links_of library declared table (links.Linked linked) is of = subst (λ (p : Program). linked ≡ record { program = p; prefix = [] }) is of
are_links_of library declared table links.NotClassFile is of = of
are_links_of library declared table links.SharedName is of = absurd of
are_links_of library declared table links.Cycle is (name, own) =
    let all = with_library library declared in
    (name, ancestor_moved table all (out_of_table all table is) (in_table all table is) name own)

-- what the search for cycles reports
pub cycle_reported : (table : Program) (e : LoadError) (name : Name) → RefusesCycles table e → e ≡ errors.Cycle name → HasCycle table
cycle_reported table e name reported is = (name, (subst (RefusesCycles table) is reported).such)

-- ---- when they are judged

above : (n : ℕ) → (n ≤ 6 → ⊥) → 6 < n
above n past = elim (cases_lt 6 n) [ inl less ↦ less | inr small ↦ absurd (past small) ]

-- the lines that were found are those of the rules 1 to 16
abbrev pub AreFound : List File → List Violation → Type 0
AreFound files early = Adds (IsEarlyLine files) [] early

of_line : (files : List File) (early : List Violation) (v : Violation) → AreFound files early → Contains early v → IsEarlyLine files v
of_line files early v are m = elim ((are v).0 m) [ inl none ↦ absurd (contains_none v none) | inr is ↦ is ]

pub hierarchy_holds : (files : List File) (early : List Violation) → AreFound files early → (HasHierarchyLine early → ⊥) → HoldsHierarchy files
hierarchy_holds files early are none v is = above v.rule (λ small. none (v, (are v).1 (inr is), small))

whole_file : (files : List File) (file : File) → HoldsHierarchy files → Contains files file → IsRefused file.1 → ⊥
whole_file files file holds own refused =
    let line : Violation = file_line file.0 1 in
    let past : 6 < 1 = holds line (inl (file, own, inl (refused, refl))) in
    absurd (omega (arith, past))

-- the class files of files that have no faulty part
good_read : (files : List File) (classes : List ClassFile) → ((file : File) → Contains files file → IsRefused file.1 → ⊥) → AreReadFiles files classes → AreGoodFiles files classes
good_read [] [] whole read = tt
good_read [] (c ∷ classes) whole read = absurd read
good_read (file ∷ files) [] whole read = absurd read
good_read (file ∷ files) (c ∷ classes) whole read = (
  record { file = read.0; whole = λ faulty. whole file (contains_first file files) (inr (c, read.0, faulty)) },
  good_read files classes (λ other own. whole other (contains_later file files other own)) read.1,
)

pub good_files : (files : List File) (classes : List ClassFile) → HoldsHierarchy files → AreReadFiles files classes → AreGoodFiles files classes
good_files files classes holds read = good_read files classes (λ file own. whole_file files file holds own) read

-- where files are not linked, one of the rules 1 to 6 is violated
pub malformed_breaks : (files : List File) → HasMalformed files → HoldsHierarchy files → ⊥
malformed_breaks files (file, own, malformed) holds = whole_file files file holds own (inl malformed)

pub shared_breaks : (library : Library) (files : List File) → IsJudging library → SharesName library files → HoldsHierarchy files → ⊥
shared_breaks library files judging (declared, (classes, read, are), (name, shared)) holds =
    none_shared library judging files classes name holds (good_files files classes holds read) (subst (λ (cs : List Class). IsShared (with_library library cs) name) are shared)

pub cycle_breaks : (library : Library) (files : List File) → IsJudging library → GoesRound library files → HoldsHierarchy files → ⊥
cycle_breaks library files judging (declared, (classes, read, are), round) holds =
    let (name, own) = subst (λ (cs : List Class). HasCycle (with_library library cs)) are round in
    none_round library judging files classes name holds (good_files files classes holds read) own

-- where one of the rules 1 to 6 is violated there are no lines of later rules
pub early_alone : (library : Library) (files : List File) (early : List Violation) → AreFound files early → (HoldsHierarchy files → ⊥) → Adds (IsLineBy library files) [] early
early_alone library files early are broken v = (
  λ m. inr (inl (of_line files early v are m)),
  λ any. elim any [
    | inl none ↦ absurd (contains_none v none)
    | inr line ↦ elim line [
      | inl is ↦ (are v).1 (inr is)
      | inr late ↦ absurd (broken late.hierarchy)
    ]
  ],
)

-- one of the lines shows that one is violated
pub line_breaks : (files : List File) (early : List Violation) → AreFound files early → HasHierarchyLine early → HoldsHierarchy files → ⊥
line_breaks files early are (v, among, small) holds = (let past = holds v (of_line files early v are among) in absurd (omega (arith, small, past)))

-- the lines of the class files that the bytes are
late_line : (library : Library) (files : List File) (classes : List ClassFile) → HoldsHierarchy files → AreGoodFiles files classes → (v : Violation)
    → IsLinkedLine (declared_program library classes) files v ↔ IsLateLine library files v
late_line library files classes holds good v = (
  λ line. record { hierarchy = holds; classes = classes; good = good; line = line },
  λ late. subst (λ (cs : List ClassFile). IsLinkedLine (declared_program library cs) files v) (same_good files late.classes classes late.good good) late.line,
)

-- the late lines that were found are those of the linked classes
abbrev pub AreLateFound : List File → Linked → List Violation → Type 0
AreLateFound files linked late = Adds (IsLinkedLine linked.program files) [] late

late_found : (library : Library) (files : List File) (linked : Linked) (late : List Violation) → LinksFiles library files linked → HoldsHierarchy files
    → AreLateFound files linked late → (v : Violation) → Contains late v ↔ IsLateLine library files v
late_found library files linked late (classes, read, is) holds adds v =
    let good = good_files files classes holds read in
    let reported : Adds (IsLinkedLine (declared_program library classes) files) [] late = subst (λ (l : Linked). Adds (IsLinkedLine l.program files) [] late) is adds in (
      λ m. elim ((reported v).0 m) [ inl none ↦ absurd (contains_none v none) | inr line ↦ (late_line library files classes holds good v).0 line ],
      λ line. (reported v).1 (inr ((late_line library files classes holds good v).1 line)),
    )

pub early_and_late : (library : Library) (files : List File) (linked : Linked) (early late found : List Violation) → AreFound files early → (HasHierarchyLine early → ⊥)
    → LinksFiles library files linked → AreLateFound files linked late → Adds (λ v. Contains late v) early found → Adds (IsLineBy library files) [] found
early_and_late library files linked early late found are none links adds joins v =
    let late_are = late_found library files linked late links (hierarchy_holds files early are none) adds in (
      λ m. inr (elim ((joins v).0 m) [
        | inl old ↦ inl (of_line files early v are old)
        | inr new ↦ inr ((late_are v).0 new)
      ]),
      λ any. (joins v).1 (elim any [
        | inl none ↦ absurd (contains_none v none)
        | inr line ↦ elim line [
          | inl is ↦ inl ((are v).1 (inr is))
          | inr late ↦ inr ((late_are v).1 late)
        ]
      ]),
    )
