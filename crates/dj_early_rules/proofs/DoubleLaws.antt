-- Names that several files have.
use Rattle.std.proofs.Common.{◌≡◌, ℕ, zero, suc, ◌+◌, ◌<◌, ◌≤◌, ◌⊎◌, ◌↔◌, Bool, true, false, not, List, [], ◌∷◌, ◌++◌, map, length, get_or, Bor, Option, Some, None, IsSomeAnd, refl, sym, ap, ◌∙◌, subst, inl, inr, arith, Contains, IsTrue, slice_get}
use Rattle.std.proofs.lemmas.Bool.{cases_lt, cases_eq}
use Rattle.std.proofs.lemmas.Option.{slice_get_read, slice_get_past, slice_get-get_or, get_or_from_slice_get}
use Rattle.std.proofs.lemmas.List.{length-append}
use Rattle.dj_edge.specs.trusted.Held.{File}
use Rattle.dj_class.specs.trusted.ClassFile.{ClassFile}
use Rattle.dj_class.proofs.ClassLaws.{one_class_file}
use Rattle.dj_pool.proofs.Decides.{tests_decide}
use Rattle.dj_labels.proofs.Lists.{contains_at}
use Rattle.dj_report.specs.declared.report.Violation.{Violation}
use Rattle.dj_report.specs.declared.report.PathFile.{PathFile}
use Rattle.dj_report.specs.trusted.Lines.{file_line}
use Rattle.dj_report.specs.Lines.{Gains, Adds, IsLineAmong}
use Rattle.dj_report.proofs.Adding.{adds_same, adds_nothing}
use Rattle.dj_file_rules.specs.trusted.Violations.{this_name}
use Rattle.dj_file_rules.specs.Views.{path_file_view}
use Rattle.dj_early_rules.specs.declared.doubles.NamedFile.{NamedFile}
use Rattle.dj_early_rules.specs.trusted.Malformed.{IsGood}
use Rattle.dj_early_rules.specs.Passes.{SaysName}
use Rattle.dj_early_rules.specs.trusted.Rules.{HasDouble, IsDuplicateLine}
use Rattle.dj_early_rules.specs.Doubles.{IsText, IsBelow, IsNameAt, IsAgainAt, IsRepeated, IsNamedAmong, IsLineAmongNames, IsRepeatedLine, IsNamedAs, AreNamed}
use Rattle.dj_early_rules.proofs.Anys.{slice_get_push}
use Rattle.dj_early_rules.proofs.FileLaws.{refused_not_good}

-- ---- places below a number

pub none_below : (P : ℕ → Type 0) → IsBelow 0 P → ⊥
none_below P (i, lt, is) = absurd (omega (arith, lt))

from_more_below : (P : ℕ → Type 0) (i j : ℕ) → j < i + 1 → P j → IsBelow i P ⊎ P i
from_more_below P i j lt is = elim (cases_eq j i) [
  | inl same ↦ inr (subst P same is)
  | inr apart ↦ inl (j, omega (arith, lt, apart), is)
]

pub more_below : (P : ℕ → Type 0) (i : ℕ) → IsBelow (i + 1) P ↔ (IsBelow i P ⊎ P i)
more_below P i = (
  λ (j, lt, is). from_more_below P i j lt is,
  λ any. elim any [ inl old ↦ (old.0, (let lt = old.1 in omega (arith, lt)), old.2) | inr is ↦ (i, omega arith, is) ],
)

-- ---- names so far

pub some_is : {X : Type 0} (P : X → Type 0) (o : Option X) (x : X) → o ≡ Some x → P x ↔ IsSomeAnd o P
some_is P o x e = ((λ is. subst (λ p. IsSomeAnd p P) (sym e) is), (λ is. subst (λ p. IsSomeAnd p P) e is))

pub from_some : {X : Type 0} (P : X → Type 0) (o : Option X) → IsSomeAnd o P → (x : X) × (o ≡ Some x) × P x
from_some P None is = absurd is
from_some P (Some x) is = (x, refl, is)

pub no_names_yet : (P : ℕ → Type 0) (names : List (List ℕ)) (text : List ℕ) → names ≡ [] → Contains names text ↔ IsBelow 0 P
no_names_yet P names text none = (
  λ (k, lt, e). (let l = ap length none in absurd (omega (arith, lt, l))),
  λ any. absurd (none_below P any),
)

-- ---- one name

pub same_name : (file : NamedFile) (k : Bor (List ℕ)) (a b : List (List ℕ)) → file.name ≡ Some k → Gains (λ t. t ≡ k.now) a b → Gains (IsText file.name) a b
same_name file k a b e gains = subst (λ (n : Option (Bor (List ℕ))). Gains (IsText n) a b) (sym e) gains

-- the name is noted that was seen
pub noted_again : (file : NamedFile) (k : Bor (List ℕ)) (seen a b : List (List ℕ)) → file.name ≡ Some k → Contains seen k.now → Gains (λ t. t ≡ k.now) a b → Gains (λ t. IsText file.name t × Contains seen t) a b
noted_again file k seen a b e there gains =
    subst (λ (n : Option (Bor (List ℕ))). Gains (λ t. IsText n t × Contains seen t) a b) (sym e)
    (adds_same (λ (t : List ℕ). t ≡ k.now) (λ t. (t ≡ k.now) × Contains seen t) a b (λ t. ((λ is. (is, subst (λ (z : List ℕ). Contains seen z) (sym is) there)), (λ is. is.0))) gains)

-- and one that wasn't is not
pub not_again : (file : NamedFile) (k : Bor (List ℕ)) (seen a : List (List ℕ)) → file.name ≡ Some k → (Contains seen k.now → ⊥) → Gains (λ t. IsText file.name t × Contains seen t) a a
not_again file k seen a e new =
    subst (λ (n : Option (Bor (List ℕ))). Gains (λ t. IsText n t × Contains seen t) a a) (sym e)
    (adds_nothing (λ t. (t ≡ k.now) × Contains seen t) a (λ t is. new (subst (λ (z : List ℕ). Contains seen z) is.0 is.1)))

pub was_seen : (there new : Bool) → new ≡ not there → new ≡ false → there ≡ true
was_seen true new e f = refl
was_seen false new e f = let g : true ≡ false = sym e ∙ f in absurd cc

pub was_new : (there new : Bool) → new ≡ not there → new ≡ true → there ≡ true → ⊥
was_new true new e f t = let g : false ≡ true = sym e ∙ f in absurd cc
was_new false new e f t = absurd cc

pub reported_among : (names : List (List ℕ)) (file : NamedFile) (k : Bor (List ℕ)) (b : Bool) → file.name ≡ Some k → (IsTrue b ↔ Contains names k.now) → IsTrue b ↔ IsNamedAmong names file
reported_among names file k b e reported = (
  λ t. record { text = k.now; is = subst (λ (n : Option (Bor (List ℕ))). IsText n k.now) (sym e) refl; among = reported.0 t },
  λ among. reported.1 (subst (λ (z : List ℕ). Contains names z) (subst (λ (n : Option (Bor (List ℕ))). IsText n among.text) e among.is) among.among),
)

-- one file more
pub seen_more : (files : List NamedFile) (i : ℕ) (d : NamedFile) (a b : List (List ℕ)) → i < length files → ((t : List ℕ) → Contains a t ↔ IsBelow i (IsNameAt files t)) → Gains (IsText (get_or files i d).name) a b
    → (t : List ℕ) → Contains b t ↔ IsBelow (i + 1) (IsNameAt files t)
seen_more files i d a b lt before gains t =
    let here = some_is (λ (file : NamedFile). IsText file.name t) (slice_get files i) (get_or files i d) (slice_get-get_or files i d lt) in
    let more = more_below (IsNameAt files t) i in (
      λ m. more.1 (elim ((gains t).0 m) [ inl old ↦ inl ((before t).0 old) | inr is ↦ inr (here.0 is) ]),
      λ any. (gains t).1 (elim (more.0 any) [ inl old ↦ inl ((before t).1 old) | inr is ↦ inr (here.1 is) ]),
    )

pub twice_more : (files : List NamedFile) (i : ℕ) (d : NamedFile) (seen a b : List (List ℕ)) → i < length files → ((t : List ℕ) → Contains seen t ↔ IsBelow i (IsNameAt files t)) → ((t : List ℕ) → Contains a t ↔ IsBelow i (IsAgainAt files t))
    → Gains (λ t. IsText (get_or files i d).name t × Contains seen t) a b → (t : List ℕ) → Contains b t ↔ IsBelow (i + 1) (IsAgainAt files t)
twice_more files i d seen a b lt are before gains t =
    let here = some_is (λ (file : NamedFile). IsText file.name t) (slice_get files i) (get_or files i d) (slice_get-get_or files i d lt) in
    let more = more_below (IsAgainAt files t) i in (
      λ m. more.1 (elim ((gains t).0 m) [ inl old ↦ inl ((before t).0 old) | inr is ↦ inr (here.0 is.0, (are t).0 is.1) ]),
      λ any. (gains t).1 (elim (more.0 any) [ inl old ↦ inl ((before t).1 old) | inr is ↦ inr (here.1 is.0, (are t).1 is.1) ]),
    )

name_within : (files : List NamedFile) (t : List ℕ) (i : ℕ) → IsNameAt files t i → i < length files
name_within files t i is = elim (cases_lt i (length files)) [
  | inl lt ↦ lt
  | inr past ↦ absurd (subst (λ (o : Option NamedFile). IsSomeAnd o (λ file. IsText file.name t)) (slice_get_past files i past) is)
]

pub all_repeated : (files : List NamedFile) (i : ℕ) (names : List (List ℕ)) → length files ≤ i → ((t : List ℕ) → Contains names t ↔ IsBelow i (IsAgainAt files t)) → (t : List ℕ) → Contains names t ↔ IsRepeated files t
all_repeated files i names past are t = (
  λ m. let any = (are t).0 m in (any.0, any.2),
  λ (j, again). (are t).1 (j, (let lt = name_within files t j again.0 in omega (arith, past, lt)), again),
)

-- ---- lines

pub line_by_name : (names : List (List ℕ)) (file : NamedFile) (double : Bool) (a b : List Violation) → (IsTrue double ↔ IsNamedAmong names file) → Adds (λ v. IsTrue double × (v ≡ file_line file.path.now 5)) a b → Adds (IsLineAmongNames names file) a b
line_by_name names file double a b reported = adds_same (λ v. IsTrue double × (v ≡ file_line file.path.now 5)) (IsLineAmongNames names file) a b (λ v. ((λ is. (reported.0 is.0, is.1)), (λ is. (reported.1 is.0, is.1))))

pub lines_by_names : (files : List NamedFile) (names : List (List ℕ)) (a b : List Violation) → ((t : List ℕ) → Contains names t ↔ IsRepeated files t) → Adds (IsLineAmong (IsLineAmongNames names) files) a b → Adds (IsLineAmong (IsRepeatedLine files) files) a b
lines_by_names files names a b are = adds_same (IsLineAmong (IsLineAmongNames names) files) (IsLineAmong (IsRepeatedLine files) files) a b (λ v. (
  λ (file, own, (among, line)). (file, own, ((among.text, among.is, (are among.text).0 among.among), line)),
  λ (file, own, ((t, is, again), line)). (file, own, (record { text = t; is = is; among = (are t).1 again }, line)),
))

-- ---- names of files

-- the name that is reported is that of the class
of_name : (file : PathFile) (name : Option (Bor (List ℕ))) (text : List ℕ) → SaysName file name → IsText name text → (c : ClassFile) × IsGood file.bytes.now c × (this_name c ≡ text)
of_name file None text says is = absurd is
of_name file (Some name) text (c, good, e) is = (c, good, sym (is ∙ e))

to_name : (file : PathFile) (name : Option (Bor (List ℕ))) (c : ClassFile) → SaysName file name → IsGood file.bytes.now c → IsText name (this_name c)
to_name file None c refused good = absurd (refused_not_good file.bytes.now c good refused)
to_name file (Some name) c (d, same, e) good = sym (e ∙ ap this_name (one_class_file tests_decide file.bytes.now d c same.file good.file))

-- ---- places of files

pub from_slice_get_map : {X Y : Type 0} (f : X → Y) (xs : List X) (i : ℕ) (y : Y) → slice_get (map f xs) i ≡ Some y → (x : X) × (slice_get xs i ≡ Some x) × (f x ≡ y)
from_slice_get_map f [] zero y e = absurd cc
from_slice_get_map f [] (suc i) y e = absurd cc
from_slice_get_map f (x ∷ xs) zero y e = (x, refl, cc)
from_slice_get_map f (x ∷ xs) (suc i) y e = from_slice_get_map f xs i y e

pub to_slice_get_map : {X Y : Type 0} (f : X → Y) (xs : List X) (i : ℕ) (x : X) → slice_get xs i ≡ Some x → slice_get (map f xs) i ≡ Some (f x)
to_slice_get_map f [] zero x e = absurd cc
to_slice_get_map f [] (suc i) x e = absurd cc
to_slice_get_map f (z ∷ xs) zero x e = let same : z ≡ x = cc in ap (λ w. Some (f w)) same
to_slice_get_map f (z ∷ xs) (suc i) x e = to_slice_get_map f xs i x e

-- what stands beside, in a list of the same length
pub beside : {X Y : Type 0} (xs : List X) (ys : List Y) (i : ℕ) (x : X) → length ys ≡ length xs → slice_get xs i ≡ Some x → (y : Y) × (slice_get ys i ≡ Some y)
beside [] ys zero x same e = absurd cc
beside [] ys (suc i) x same e = absurd cc
beside (z ∷ xs) [] i x same e = absurd (omega (arith, same))
beside (z ∷ xs) (y ∷ ys) zero x same e = (y, refl)
beside (z ∷ xs) (y ∷ ys) (suc i) x same e = beside xs ys i x (omega (arith, same)) e

-- ---- the line of a file

-- a file with its class and its name
record Stands (files : List PathFile) (named : List NamedFile) (place : ℕ) (c : ClassFile) : Type 0 where
  file : PathFile
  found : slice_get files place ≡ Some file
  good : IsGood file.bytes.now c
  own : NamedFile
  at : slice_get named place ≡ Some own
  is : IsNamedAs file own
  text : IsText own.name (this_name c)

stands_at : (files : List PathFile) (named : List NamedFile) → AreNamed files named → (place : ℕ) (file : File) (c : ClassFile) → slice_get (map path_file_view files) place ≡ Some file → IsGood file.1 c
    → Stands files named place c
stands_at files named are place file c stands good =
    let seen = from_slice_get_map path_file_view files place file stands in
    let own = beside files named place seen.0 are.all seen.1 in
    let is = are.each place seen.0 own.0 seen.1 own.1 in
    let good' : IsGood seen.0.bytes.now c = subst (λ (f : File). IsGood f.1 c) (sym seen.2) good in
    record { file = seen.0; found = seen.1; good = good'; own = own.0; at = own.1; is = is; text = to_name seen.0 own.0.name c is.name good' }

named_at : (files : List PathFile) (named : List NamedFile) → AreNamed files named → (place : ℕ) (own : NamedFile) (text : List ℕ) → slice_get named place ≡ Some own → IsText own.name text
    → (c : ClassFile) × Stands files named place c × (this_name c ≡ text)
named_at files named are place own text at is =
    let seen = beside named files place own (sym are.all) at in
    let reported = are.each place seen.0 own seen.1 at in
    let class = of_name seen.0 own.name text reported.name is in
    (class.0, record { file = seen.0; found = seen.1; good = class.1; own = own; at = at; is = reported; text = subst (IsText own.name) (sym class.2) is }, class.2)

name_at : (named : List NamedFile) (place : ℕ) (own : NamedFile) (text : List ℕ) → slice_get named place ≡ Some own → IsText own.name text → IsNameAt named text place
name_at named place own text at is = (some_is (λ (file : NamedFile). IsText file.name text) (slice_get named place) own at).0 is

-- of two places with a name, one comes after the other
again : (named : List NamedFile) (t : List ℕ) (i j : ℕ) → (j ≡ i → ⊥) → IsNameAt named t i → IsNameAt named t j → IsRepeated named t
again named t i j apart at_i at_j = elim (cases_lt i j) [
  | inl lt ↦ (j, (at_j, (i, lt, at_i)))
  | inr le ↦ (i, (at_i, (j, omega (arith, le, apart), at_j)))
]

-- and of two places with a name, one is another than a third
other_place : (named : List NamedFile) (t : List ℕ) (place : ℕ) → IsRepeated named t → (other : ℕ) × (other ≡ place → ⊥) × IsNameAt named t other
other_place named t place (i, (at_i, (j, lt, at_j))) = elim (cases_eq i place) [
  | inl same ↦ (j, (λ e. absurd (omega (arith, lt, same, e))), at_j)
  | inr apart ↦ (i, apart, at_i)
]

double_at : (files : List PathFile) (named : List NamedFile) → AreNamed files named → (t : List ℕ) (place : ℕ) (c : ClassFile) → this_name c ≡ t → IsRepeated named t → HasDouble (map path_file_view files) place c
double_at files named are t place c name repeated =
    let other = other_place named t place repeated in
    let own = from_some (λ (file : NamedFile). IsText file.name t) (slice_get named other.0) other.2 in
    let found = named_at files named are other.0 own.0 t own.1 own.2 in
    record {
      other = other.0;
      apart = other.1;
      file = path_file_view found.1.file;
      stands = to_slice_get_map path_file_view files other.0 found.1.file found.1.found;
      class = found.0;
      good = found.1.good;
      same = found.2 ∙ sym name;
    }

to_duplicate : (files : List PathFile) (named : List NamedFile) → AreNamed files named → (v : Violation) → IsLineAmong (IsRepeatedLine named) named v → IsDuplicateLine (map path_file_view files) v
to_duplicate files named are v (own, (place, lt, at), ((t, is, repeated), line)) =
    let found = named_at files named are place own t (slice_get_read named (length named) place own refl lt (sym at)) is in
    record {
      place = place;
      file = path_file_view found.1.file;
      stands = to_slice_get_map path_file_view files place found.1.file found.1.found;
      class = found.0;
      good = found.1.good;
      double = double_at files named are t place found.0 found.2 repeated;
      line = line ∙ ap (λ (path : List ℕ). file_line path 5) (path_is found.1 own (slice_get_read named (length named) place own refl lt (sym at)));
    } where
      path_is : {place : ℕ} {c : ClassFile} (s : Stands files named place c) (own : NamedFile) → slice_get named place ≡ Some own → own.path.now ≡ s.file.path.now
      path_is s own at = (are.each _ s.file own s.found at).path

from_duplicate : (files : List PathFile) (named : List NamedFile) → AreNamed files named → (v : Violation) → IsDuplicateLine (map path_file_view files) v → IsLineAmong (IsRepeatedLine named) named v
from_duplicate files named are v is =
    let here = stands_at files named are is.place is.file is.class is.stands is.good in
    let there = stands_at files named are is.double.other is.double.file is.double.class is.double.stands is.double.good in
    let t = this_name is.class in
    let text : IsText there.own.name t = subst (IsText there.own.name) is.double.same there.text in
    let seen = from_slice_get_map path_file_view files is.place is.file is.stands in
    let path : is.file.0 ≡ here.own.path.now = ap (λ (f : File). f.0) (sym seen.2) ∙ sym (are.each is.place seen.0 here.own seen.1 here.at).path in (
      here.own,
      contains_at is.place named here.own here.at,
      (
        (t, here.text, again named t is.place is.double.other is.double.apart (name_at named is.place here.own t here.at here.text) (name_at named is.double.other there.own t there.at text)),
        is.line ∙ ap (λ (p : List ℕ). file_line p 5) path,
      ),
    )

-- the lines of names that files have, as those of the rule
pub duplicate_lines : (files : List PathFile) (named : List NamedFile) (a b : List Violation) → AreNamed files named → Adds (IsLineAmong (IsRepeatedLine named) named) a b → Adds (IsDuplicateLine (map path_file_view files)) a b
duplicate_lines files named a b are = adds_same (IsLineAmong (IsRepeatedLine named) named) (IsDuplicateLine (map path_file_view files)) a b (λ v. (to_duplicate files named are v, from_duplicate files named are v))

-- ---- names that are gathered

-- so far: the first files are named
pub record AreFirstNamed (count : ℕ) (files : List PathFile) (named : List NamedFile) : Type 0 where
  pub all : length named ≡ count
  pub each : (place : ℕ) (file : PathFile) (own : NamedFile) → slice_get files place ≡ Some file → slice_get named place ≡ Some own → IsNamedAs file own

pub none_named : (files : List PathFile) → AreFirstNamed 0 files []
none_named files = record { all = refl; each = λ place file own f e. (let none = slice_get_past {X = NamedFile} [] place (omega arith) in absurd cc) }

one_named : (files : List PathFile) (i : ℕ) (d : PathFile) → i < length files → (place : ℕ) (file : PathFile) → slice_get files place ≡ Some file → place ≡ i → file ≡ get_or files i d
one_named files i d lt place file f same = sym (get_or_from_slice_get files i file d (subst (λ (k : ℕ). slice_get files k ≡ Some file) same f))

pub one_more_named : (files : List PathFile) (i : ℕ) (d : PathFile) (own : NamedFile) (old new : List NamedFile) → i < length files → new ≡ old ++ own ∷ [] → IsNamedAs (get_or files i d) own → AreFirstNamed i files old → AreFirstNamed (i + 1) files new
one_more_named files i d own old new lt are is before = rw are (record {
  all = omega (arith, length-append old (own ∷ []), before.all);
  each = λ place file other f e. elim (slice_get_push old own place other e) [
    | inl earlier ↦ before.each place file other f earlier
    | inr (here, same) ↦ subst (λ (x : NamedFile). IsNamedAs file x) same (subst (λ (y : PathFile). IsNamedAs y own) (sym (one_named files i d lt place file f (here ∙ before.all))) is)
  ];
})

pub all_named : (files : List PathFile) (i : ℕ) (named : List NamedFile) → i ≤ length files → length files ≤ i → AreFirstNamed i files named → AreNamed files named
all_named files i named below past are = record { all = (let e = are.all in omega arith); each = are.each }
