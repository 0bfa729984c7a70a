-- A walk that can't be made: where all places could be met, there are more than a walk meets.
use Rattle.std.proofs.Common.{◌≡◌, ℕ, zero, suc, ◌+◌, ◌-◌, ◌<◌, ◌≤◌, List, [], ◌∷◌, ◌++◌, length, length-append, take-append-drop, drop-cons, map, filter, take, drop, get_or, string_bytes, Option, Some, None, IfSome, option_map, option_and_then, Err, refl, sym, ap, ◌∙◌, subst, arith}
use Rattle.std.proofs.lemmas.List.{map-append, length-map, length-take, length-drop}
use Rattle.dj_edge.specs.declared.files.ListError.{ListError}
use Rattle.dj_edge.specs.declared.files.ListError.TheVariants as list_errors
use Rattle.dj_edge.specs.declared.walk.FolderEntry.{FolderEntry}
use Rattle.dj_edge.specs.declared.walk.EntryKind.TheVariants as kinds
use Rattle.dj_edge.specs.declared.walk.FolderEntries.{FolderEntries}
use Rattle.dj_edge.specs.declared.walk.Walk.{Walk}
use Rattle.dj_edge.specs.Walks.{Place, place_of, Tree, has_class_name, is_kept, inside_of, with_inside, spread, met_in, AreEntries, IsFolderRead, IsTaken, IsUnmet, WalksFolder}
use Rattle.dj_edge.proofs.Walking.{joined, SoFar, spread_alike, to_kept}

-- both parts of what is joined
record Parts (a b : Option (List Place)) (all : List Place) : Type 0 where
  prefix : List Place
  rest : List Place
  is_prefix : a ≡ Some prefix
  is_rest : b ≡ Some rest
  all_is : all ≡ prefix ++ rest

parts_of : (a b : Option (List Place)) (all : List Place) → joined a b ≡ Some all → Parts a b all
parts_of None b all e = absurd cc
parts_of (Some prefix) None all e = absurd cc
parts_of (Some prefix) (Some rest) all e = record { prefix = prefix; rest = rest; is_prefix = refl; is_rest = refl; all_is = cc }

first_there : (x : Place) (o : Option (List Place)) (met : List Place) → option_map (λ (l : List Place). x ∷ l) o ≡ Some met → 1 ≤ length met
first_there x None met e = absurd cc
first_there x (Some l) met e =
    let whole : x ∷ l ≡ met = cc in
    omega (arith, ap length whole)

spread_long : (inside : Tree) (ys all : List Place) → spread inside ys ≡ Some all → length ys ≤ length all
unfolding spread
spread_long inside [] all e = omega arith
spread_long inside (y ∷ ys) all e =
    let p = parts_of (with_inside inside y) (spread inside ys) all e in
    omega (arith, first_there y (inside_of y.1 (has_class_name y.0) (inside y.0)) p.prefix p.is_prefix, spread_long inside ys p.rest p.is_rest, ap length p.all_is, length-append p.prefix p.rest)

-- what is met of the places before one, of that one, and then at least the places behind it
record At (inside : Tree) (xs : List Place) (x : Place) (ys all : List Place) : Type 0 where
  first : List Place
  met : List Place
  reported_first : spread inside xs ≡ Some first
  reported : with_inside inside x ≡ Some met
  long : length first + length met + length ys ≤ length all

at : (inside : Tree) (xs : List Place) (x : Place) (ys all : List Place) → spread inside (xs ++ x ∷ ys) ≡ Some all → At inside xs x ys all
unfolding spread
at inside [] x ys all e =
    let p = parts_of (with_inside inside x) (spread inside ys) all e in
    record {
      first = [];
      met = p.prefix;
      reported_first = refl;
      reported = p.is_prefix;
      long = omega (arith, spread_long inside ys p.rest p.is_rest, ap length p.all_is, length-append p.prefix p.rest);
    }
at inside (y ∷ xs) x ys all e =
    let p = parts_of (with_inside inside y) (spread inside (xs ++ x ∷ ys)) all e in
    let later = at inside xs x ys p.rest p.is_rest in
    record {
      first = p.prefix ++ later.first;
      met = later.met;
      reported_first = ap (λ o. joined o (spread inside xs)) p.is_prefix ∙ ap (λ o. joined (Some p.prefix) o) later.reported_first;
      reported = later.reported;
      long = omega (arith, later.long, ap length p.all_is, length-append p.prefix p.rest, length-append p.prefix later.first);
    }

-- the folder could be read, and what is met in it is that of its places
record Inside (t : Tree) (levels : ℕ) (folder : List ℕ) (places : List Place) : Type 0 where
  all : List Place
  read : t folder ≡ Some all
  spread_is : spread (met_in t (levels - 1)) all ≡ Some places

then_spread : (inside : Tree) (o : Option (List Place)) (places : List Place) → option_and_then (spread inside) o ≡ Some places → (all : List Place) × (o ≡ Some all) × (spread inside all ≡ Some places)
then_spread inside None places e = absurd cc
then_spread inside (Some all) places e = (all, refl, e)

inside : (t : Tree) (levels : ℕ) (folder : List ℕ) (places : List Place) → 0 < levels → met_in t levels folder ≡ Some places → Inside t levels folder places
unfolding met_in
inside t zero folder places some e = absurd (omega arith)
inside t (suc k) folder places some e =
    let p = then_spread (met_in t k) (t folder) places e in
    let less : k ≡ suc k - 1 = omega arith in
    record { all = p.0; read = p.1; spread_is = ap (λ n. spread (met_in t n) p.0) (sym less) ∙ p.2 }

-- the same at an entry that the walk looks at
record Looked (inside : Tree) (entries : FolderEntries) (i : ℕ) (entry : FolderEntry) (places : List Place) : Type 0 where
  first : List Place
  met : List Place
  reported_first : spread inside (map place_of (take i entries.kept.items)) ≡ Some first
  reported : with_inside inside (place_of entry) ≡ Some met
  long : length first + length met + entries.count ≤ length places + i + 1

looked : (t : Tree) (levels : ℕ) (folder : List ℕ) (most : ℕ) (entries : FolderEntries) (i : ℕ) (entry : FolderEntry) (places : List Place) → 0 < levels → AreEntries (Some t) folder most entries
    → i < length entries.kept.items → entries.kept.items ≡ take i entries.kept.items ++ entry ∷ drop (suc i) entries.kept.items → met_in t levels folder ≡ Some places
    → Looked (met_in t (levels - 1)) entries i entry places
looked t levels folder most entries i entry places some read within cut met =
    let p = inside t levels folder places some met in
    let same : p.all ≡ read.places = cc in
    let k = to_kept read.places (spread (met_in t (levels - 1)) read.places) (spread (met_in t (levels - 1)) (filter is_kept read.places)) places (spread_alike (met_in t (levels - 1)) read.places)
    (ap (spread (met_in t (levels - 1))) (sym same) ∙ p.spread_is) in
    let split : filter is_kept read.places ≡ map place_of (take i entries.kept.items) ++ place_of entry ∷ map place_of (drop (suc i) entries.kept.items) =
    sym read.kept ∙ ap (map place_of) cut ∙ map-append place_of (take i entries.kept.items) (entry ∷ drop (suc i) entries.kept.items) in
    let a = at (met_in t (levels - 1)) (map place_of (take i entries.kept.items)) (place_of entry) (map place_of (drop (suc i) entries.kept.items)) k.0
    (ap (spread (met_in t (levels - 1))) (sym split) ∙ k.1) in
    let size : length entries.kept.items ≡ length (filter is_kept read.places) = sym (length-map entries.kept.items place_of) ∙ ap length read.kept in
    record {
      first = a.first;
      met = a.met;
      reported_first = a.reported_first;
      reported = a.reported;
      long = omega (arith, a.long, k.2, read.count, size, length-map (drop (suc i) entries.kept.items) place_of, length-drop (suc i) entries.kept.items);
    }

-- a list at one of its elements
pub cut_at : (items all : List FolderEntry) (i : ℕ) (entry : FolderEntry) → items ≡ all → i < length items → entry ≡ get_or items i entry → (i < length all) × (all ≡ take i all ++ entry ∷ drop (suc i) all)
cut_at items all i entry same within is =
    let inside : i < length all = omega (arith, ap length same) in
    let found : entry ≡ get_or all i entry = is ∙ ap (λ (l : List FolderEntry). get_or l i entry) same in
    (inside, sym (take-append-drop i all) ∙ ap (λ (l : List FolderEntry). take i all ++ l) (drop-cons all i entry inside ∙ ap (λ (e : FolderEntry). e ∷ drop (suc i) all) (sym found)))

-- ---- why a walk fails

pub too_deep : (tree : Option Tree) (levels : ℕ) (folder : List ℕ) (before : ℕ) → levels ≡ 0 → IfSome tree (λ t. IsUnmet (met_in t levels folder) before)
unfolding met_in
too_deep None levels folder before is = tt
too_deep (Some t) zero folder before is = λ places e. absurd cc
too_deep (Some t) (suc k) folder before is = absurd (omega arith)

unread : (t : Tree) (levels : ℕ) (folder : List ℕ) (most before : ℕ) → 0 < levels → before + most ≡ 1048576 → ((places : List Place) → t folder ≡ Some places → most < length places) → IsUnmet (met_in t levels folder) before
unread t levels folder most before some sum more places met =
    let p = inside t levels folder places some met in
    omega (arith, more p.all p.read, spread_long (met_in t (levels - 1)) p.all places p.spread_is)

pub folder_unread : (tree : Option Tree) (levels : ℕ) (folder : List ℕ) (most : ℕ) (before now : Walk) (error : ListError) → 0 < levels → before.entries + most ≡ 1048576 → IsFolderRead tree folder most (Err error)
    → WalksFolder {T = Unit {0}} tree levels folder before now (Err error)
folder_unread None levels folder most before now list_errors.Failed some sum reported = tt
folder_unread (Some t) levels folder most before now list_errors.Failed some sum reported = unread t levels folder most before.entries some sum reported
folder_unread tree levels folder most before now list_errors.Memory some sum reported = tt

refused : (t : Tree) (levels : ℕ) (folder : List ℕ) (most : ℕ) (entries : FolderEntries) (i : ℕ) (entry : FolderEntry) (before : ℕ) → 0 < levels → AreEntries (Some t) folder most entries
    → i < length entries.kept.items → entries.kept.items ≡ take i entries.kept.items ++ entry ∷ drop (suc i) entries.kept.items
    → ((inside : Option (List Place)) → inside_of entry.kind (has_class_name (string_bytes entry.path)) inside ≡ None) → IsUnmet (met_in t levels folder) before
refused t levels folder most entries i entry before some read within cut none places met =
    let l = looked t levels folder most entries i entry places some read within cut met in
    let nothing = none (met_in t (levels - 1) (string_bytes entry.path)) in
    let gone : with_inside (met_in t (levels - 1)) (place_of entry) ≡ None = ap (option_map (λ (l : List Place). place_of entry ∷ l)) nothing in
    absurd (cc (gone, l.reported))

pub entry_refused : (tree : Option Tree) (levels : ℕ) (folder : List ℕ) (most : ℕ) (entries : FolderEntries) (i : ℕ) (entry : FolderEntry) (before now mid taken : Walk) (error : ListError) → 0 < levels
    → AreEntries tree folder most entries → i < length entries.kept.items → entries.kept.items ≡ take i entries.kept.items ++ entry ∷ drop (suc i) entries.kept.items
    → IsTaken entry mid taken (Err error) → WalksFolder {T = Unit {0}} tree levels folder before now (Err error)
entry_refused None levels folder most entries i entry before now mid taken list_errors.Failed some read within cut none = tt
entry_refused (Some t) levels folder most entries i entry before now mid taken list_errors.Failed some read within cut none =
    refused t levels folder most entries i entry before.entries some read within cut none
entry_refused tree levels folder most entries i entry before now mid taken list_errors.Memory some read within cut none = tt

folder_inside : (inside : Tree) (entry : FolderEntry) (met : List Place) → entry.kind ≡ kinds.Folder → with_inside inside (place_of entry) ≡ Some met
    → (places : List Place) × (inside (string_bytes entry.path) ≡ Some places) × (length met ≡ 1 + length places)
folder_inside inside entry met is e =
    let same : option_map (λ (l : List Place). place_of entry ∷ l) (inside (string_bytes entry.path)) ≡ Some met =
    ap (λ k. option_map (λ (l : List Place). place_of entry ∷ l) (inside_of k (has_class_name (string_bytes entry.path)) (inside (string_bytes entry.path)))) (sym is) ∙ e in
    from (inside (string_bytes entry.path)) same where
      from : (o : Option (List Place)) → option_map (λ (l : List Place). place_of entry ∷ l) o ≡ Some met → (places : List Place) × (o ≡ Some places) × (length met ≡ 1 + length places)
      from None e = absurd cc
      from (Some places) e =
          let whole : place_of entry ∷ places ≡ met = cc in
          (places, refl, omega (arith, ap length whole))

below : (t : Tree) (levels : ℕ) (folder : List ℕ) (most : ℕ) (entries : FolderEntries) (i : ℕ) (entry : FolderEntry) (before first mid : Walk) (between : ℕ) → 0 < levels → AreEntries (Some t) folder most entries
    → i < length entries.kept.items → entries.kept.items ≡ take i entries.kept.items ++ entry ∷ drop (suc i) entries.kept.items → entry.kind ≡ kinds.Folder
    → first.entries ≡ before.entries + entries.count → SoFar (Some t) levels (take i entries.kept.items) first mid → between ≡ mid.entries
    → IsUnmet (met_in t (levels - 1) (string_bytes entry.path)) between → IsUnmet (met_in t levels folder) before.entries
below t levels folder most entries i entry before first mid between some read within cut is count far same unmet places met =
    let l = looked t levels folder most entries i entry places some read within cut met in
    let f = folder_inside (met_in t (levels - 1)) entry l.met is l.reported in
    let one : l.first ≡ far.places = cc (l.reported_first, far.reported) in
    omega (arith, unmet f.0 f.1, f.2, l.long, far.entries, count, same, ap length one, length-take i entries.kept.items)

pub folder_below : (tree : Option Tree) (levels : ℕ) (folder : List ℕ) (most : ℕ) (entries : FolderEntries) (i : ℕ) (entry : FolderEntry) (before now first mid between after : Walk) (error : ListError) → 0 < levels
    → AreEntries tree folder most entries → i < length entries.kept.items → entries.kept.items ≡ take i entries.kept.items ++ entry ∷ drop (suc i) entries.kept.items → entry.kind ≡ kinds.Folder
    → first.entries ≡ before.entries + entries.count → SoFar tree levels (take i entries.kept.items) first mid → between.entries ≡ mid.entries
    → WalksFolder {T = Unit {0}} tree (levels - 1) (string_bytes entry.path) between after (Err error) → WalksFolder {T = Unit {0}} tree levels folder before now (Err error)
folder_below None levels folder most entries i entry before now first mid between after list_errors.Failed some read within cut is count far same unmet = tt
folder_below (Some t) levels folder most entries i entry before now first mid between after list_errors.Failed some read within cut is count far same unmet =
    below t levels folder most entries i entry before first mid between.entries some read within cut is count far same unmet
folder_below tree levels folder most entries i entry before now first mid between after list_errors.Memory some read within cut is count far same unmet = tt

pub walks_as : (a b : Option Tree) (levels : ℕ) (x y : List ℕ) (before now : Walk) (error : ListError) → a ≡ b → x ≡ y → WalksFolder {T = Unit {0}} a levels x before now (Err error)
    → WalksFolder {T = Unit {0}} b levels y before now (Err error)
walks_as a b levels x y before now error same path walked =
    subst (λ (l : List ℕ). WalksFolder {T = Unit {0}} b levels l before now (Err error)) path
    (subst (λ (o : Option Tree). WalksFolder {T = Unit {0}} o levels x before now (Err error)) same walked)
