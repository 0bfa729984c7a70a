-- The class files that are held: their paths pass and rise, their bytes are those held, and a sorted listing is them.
use Rattle.std.proofs.Common.{◌≡◌, ◌≢◌, ℕ, ◌<◌, ◌≤◌, min, Bool, true, false, cond, ◌&&◌, T, List, [], ◌∷◌, length, map, filter, All, AllPairs, Option, Some, None, IfSome, string_bytes, refl, sym, ap, ◌∙◌, subst, ⊎_elim, arith}
use Rattle.std.specs.declared.string.String.{String}
use Rattle.std.specs.List.{AllByRecursion}
use Rattle.std.specs.List.Sorted.{IsPermutation, IsSorted}
use Rattle.std.specs.Cmp.Lexicographic.{slice_cmp}
use Rattle.std.specs.Ordering.{nat_cmp, is_lt, is_eq, eq_by_cmp, ordering_reverse}
use Rattle.std.specs.declared.cmp.Ordering.{Ordering}
use Rattle.std.specs.declared.cmp.Ordering.TheVariants.{Less, Equal, Greater}
use Rattle.std.specs.FinMap.{entries, find, put, is_sorted, entries_sorted, get-entries, get-from_entries, entries-insert, len-empty, len-entries, slice_cmp-IsAntisymmetric, nat_cmp-IsAntisymmetric}
use Rattle.std.specs.FinMap.Entries.{below_all, by_order, is_sorted-where_key}
use Rattle.std.specs.String.{string_cmp, string_cmp_total}
use Rattle.std.proofs.lemmas.Cmp.{nat_list_cmp_total, tied_itself}
use Rattle.std.proofs.lemmas.List.{nil_from_length, length-map}
use Rattle.std.proofs.lemmas.Bool.{cases_lt}
use Rattle.std.proofs.lemmas.List.Elements.{All-from_recursion, All-filter, All-weaker, All-head, All-tail, filter_passes}
use Rattle.std.proofs.lemmas.List.Kept.{AllPairs-cons}
use Rattle.std.proofs.lemmas.List.Sorted.{ranks_by, IsPermutation-refl, IsPermutation-cons, IsPermutation-trans, IsPermutation-middle, IsPermutation-map, IsPermutation-sym, length_permutation}
use Rattle.dj_edge.specs.trusted.Held.{Held, File, bytes_at, is_class_path, class_files}
use Rattle.dj_edge.specs.Held.{held_of}
use Rattle.dj_edge.specs.trusted.Counts.{AllDiffer}
use Rattle.dj_edge.specs.trusted.Calls.{IsListing}
use Rattle.dj_edge.specs.InMemory.{PathsDiffer, class_paths}
use Rattle.dj_edge.proofs.Pairs.{AllPairs-nil, AllPairs-head, AllPairs-tail, AllPairs-map, AllPairs-weaker}
use Rattle.dj_edge.proofs.Sorting.{pairs_from_sorted, same_texts}

abbrev pub text_cmp : List ℕ → List ℕ → Ordering
text_cmp = slice_cmp nat_cmp

both : (a b : Bool) → T (a && b) → T a × T b
both true b h = (tt, h)
both false b h = absurd h

less_from_test : (r : Ordering) → T (is_lt r) → r ≡ Less
less_from_test Less h = refl
less_from_test Equal h = absurd h
less_from_test Greater h = absurd h

not_equal_after_less : (r s : Ordering) → r ≡ ordering_reverse s → T (is_lt s) → is_eq r ≡ false
not_equal_after_less r Less e h = ap is_eq e
not_equal_after_less r Equal e h = absurd h
not_equal_after_less r Greater e h = absurd h

not_less_back : (r s : Ordering) → r ≡ ordering_reverse s → s ≡ Less → is_lt r ≡ false
not_less_back r s e is = ap is_lt (e ∙ ap ordering_reverse is)

-- each class file's path begins with the folder and a slash, and ends with .class
pub class_files_pass : (folder : List ℕ) (held : Held) → All (λ file. is_class_path folder file.0 ≡ true) (class_files folder held)
class_files_pass folder held = filter_passes (λ file. is_class_path folder file.0) (entries held)

later_found : (e : File) (all es : List File) → T (below_all text_cmp e.0 es) → AllByRecursion (λ f. find text_cmp f.0 all ≡ Some f.1) es
    → AllByRecursion (λ f. find text_cmp f.0 (e ∷ all) ≡ Some f.1) es
later_found e all [] below found = tt
later_found e all (f ∷ es) below found =
    let parts = both (is_lt (text_cmp e.0 f.0)) (below_all text_cmp e.0 es) below in
    let apart : is_eq (text_cmp f.0 e.0) ≡ false = not_equal_after_less (text_cmp f.0 e.0) (text_cmp e.0 f.0) (nat_list_cmp_total.antisymm f.0 e.0) parts.0 in
    (ap (λ b. cond b (Some e.1) (find text_cmp f.0 all)) apart ∙ found.0, later_found e all es parts.1 found.1)

each_found : (es : List File) → T (is_sorted text_cmp es) → AllByRecursion (λ f. find text_cmp f.0 es ≡ Some f.1) es
each_found [] sorted = tt
each_found (e ∷ es) sorted =
    let parts = both (below_all text_cmp e.0 es) (is_sorted text_cmp es) sorted in
    (ap (λ r. cond (is_eq r) (Some e.1) (find text_cmp e.0 es)) (tied_itself nat_list_cmp_total e.0), later_found e es es parts.0 (each_found es parts.1))

-- each class file has the bytes that are held under its path
pub class_files_held : (folder : List ℕ) (held : Held) → All (λ file. bytes_at held file.0 ≡ Some file.1) (class_files folder held)
class_files_held folder held =
    All-filter (λ file. is_class_path folder file.0) (λ file. bytes_at held file.0 ≡ Some file.1) (entries held)
    (All-weaker (λ file. find text_cmp file.0 (entries held) ≡ Some file.1) (λ file. bytes_at held file.0 ≡ Some file.1) (λ file found. get-entries held file.0 ∙ found) (entries held)
    (All-from_recursion (λ file. find text_cmp file.0 (entries held) ≡ Some file.1) (entries held) (each_found (entries held) (entries_sorted held))))

above_first : (key : List ℕ) (es : List File) → T (below_all text_cmp key es) → AllByRecursion (λ path. text_cmp key path ≡ Less) (map (λ file. file.0) es)
above_first key [] below = tt
above_first key (e ∷ es) below =
    let parts = both (is_lt (text_cmp key e.0)) (below_all text_cmp key es) below in
    (less_from_test (text_cmp key e.0) parts.0, above_first key es parts.1)

keys_rise : (es : List File) → T (is_sorted text_cmp es) → AllPairs (λ a b. text_cmp a b ≡ Less) (map (λ file. file.0) es)
keys_rise [] sorted = AllPairs-nil (λ a b. text_cmp a b ≡ Less)
keys_rise (e ∷ es) sorted =
    let parts = both (below_all text_cmp e.0 es) (is_sorted text_cmp es) sorted in
    AllPairs-cons (λ a b. text_cmp a b ≡ Less) e.0 (map (λ file. file.0) es)
    (All-from_recursion (λ path. text_cmp e.0 path ≡ Less) (map (λ file. file.0) es) (above_first e.0 es parts.0)) (keys_rise es parts.1)

-- each path is below all later ones
pub class_files_rise : (folder : List ℕ) (held : Held) → AllPairs (λ a b. slice_cmp nat_cmp a b ≡ Less) (map (λ file. file.0) (class_files folder held))
class_files_rise folder held = keys_rise (class_files folder held) (is_sorted-where_key text_cmp (is_class_path folder) (entries held) (entries_sorted held))

-- and no later one is below it, which is what a sort leaves
pub class_files_in_order : (folder : List ℕ) (held : Held) → AllPairs (λ a b. is_lt (slice_cmp nat_cmp b a) ≡ false) (map (λ file. file.0) (class_files folder held))
class_files_in_order folder held =
    AllPairs-weaker (λ a b. text_cmp a b ≡ Less) (λ a b. is_lt (text_cmp b a) ≡ false)
    (λ a b less. not_less_back (text_cmp b a) (text_cmp a b) (nat_list_cmp_total.antisymm b a) less) (map (λ file. file.0) (class_files folder held)) (class_files_rise folder held)

less_differs : (a b : List ℕ) → text_cmp a b ≡ Less → a ≢ b
less_differs a b less same =
    let tied : text_cmp a b ≡ Equal = ap (text_cmp a) (sym same) ∙ tied_itself nat_list_cmp_total a in
    cc

pub class_files_differ : (folder : List ℕ) (held : Held) → AllDiffer (map (λ file. file.0) (class_files folder held))
class_files_differ folder held =
    AllPairs-weaker (λ a b. text_cmp a b ≡ Less) (λ a b. a ≢ b) less_differs (map (λ file. file.0) (class_files folder held)) (class_files_rise folder held)

-- the same paths, sorted, are the class files' paths in their order
pub sorted_class_paths : {Z : Type 0} (folder : List ℕ) (held : Held) (paths : List (String Z)) → IsSorted string_cmp paths
    → IsPermutation (map string_bytes paths) (map (λ file. file.0) (class_files folder held)) → map string_bytes paths ≡ map (λ file. file.0) (class_files folder held)
sorted_class_paths {Z} folder held paths sorted moved =
    same_texts (map string_bytes paths) (map (λ file. file.0) (class_files folder held))
    (AllPairs-map string_bytes (λ a b. is_lt (slice_cmp nat_cmp b a) ≡ false) paths
    (pairs_from_sorted (λ a b. is_lt (string_cmp a b)) (ranks_by string_cmp_total (λ (a : String Z). a)) paths sorted))
    (class_files_in_order folder held) moved

-- a listing of all class files, sorted: found are the paths as listed, and paths are they after the sort
pub sorted_listing : {Z : Type 0} (folder : List ℕ) (held : Held) (most : ℕ) (found paths : List (String Z)) → IsListing (Some held) folder most (map string_bytes found)
    → length (class_files folder held) ≤ most → IsPermutation found paths → IsSorted string_cmp paths
    → map string_bytes paths ≡ map (λ file. file.0) (class_files folder held)
sorted_listing folder held most found paths listing few moved sorted =
    sorted_class_paths folder held paths sorted
    (IsPermutation-trans (map string_bytes paths) (map string_bytes found) (map (λ file. file.0) (class_files folder held))
    (IsPermutation-sym (map string_bytes found) (map string_bytes paths) (IsPermutation-map string_bytes found paths moved)) (listing.reported.0 few))

-- the same where a store's contents may be known
pub sorted_where_reported : {Z : Type 0} (reported : Option Held) (folder : List ℕ) (most : ℕ) (found paths : List (String Z)) → IsListing reported folder most (map string_bytes found)
    → IsPermutation found paths → IsSorted string_cmp paths
    → IfSome reported (λ held. length (class_files folder held) ≤ most → map string_bytes paths ≡ map (λ file. file.0) (class_files folder held))
sorted_where_reported None folder most found paths listing moved sorted = tt
sorted_where_reported (Some held) folder most found paths listing moved sorted = λ few. sorted_listing folder held most found paths listing few moved sorted

-- a listing has as many paths as there are class files, up to most
pub length_listing : (folder : List ℕ) (held : Held) (most : ℕ) (paths : List (List ℕ)) → IsListing (Some held) folder most paths
    → length paths ≡ min most (length (class_files folder held))
length_listing folder held most paths listing =
    let files = class_files folder held in
    ⊎_elim (λ (many : most < length files). let cut : length paths ≡ most = listing.reported.1 many in omega arith)
    (λ (few : length files ≤ most).
    let all : length (map (λ (file : File). file.0) files) ≡ length paths = length_permutation paths (map (λ file. file.0) files) (listing.reported.0 few) in
    omega (arith, length-map files (λ (file : File). file.0)))
    (cases_lt most (length files))

-- ---- what is held of a list of files

pub apart_test : (a b : List ℕ) → a ≢ b → eq_by_cmp text_cmp a b ≡ false
apart_test a b apart =
    elim (text_cmp a b) as (λ r. text_cmp a b ≡ r → is_eq r ≡ false) [
      | Less ↦ λ _. refl
      | Equal ↦ λ e. absurd (apart (slice_cmp-IsAntisymmetric nat_cmp-IsAntisymmetric a b e))
      | Greater ↦ λ _. refl
    ] refl

pub none_found : (q : List ℕ) (es : List File) → All (λ path. q ≢ path) (map (λ file. file.0) es) → find text_cmp q es ≡ None
none_found q [] all = refl
none_found q (e ∷ es) all =
    ap (λ b. cond b (Some e.1) (find text_cmp q es)) (apart_test q e.0 (All-head (λ path. q ≢ path) e.0 (map (λ file. file.0) es) all))
    ∙ none_found q es (All-tail (λ path. q ≢ path) e.0 (map (λ file. file.0) es) all)

-- what is held under a path, by the list
pub bytes_at-held_of : (files : List File) (path : List ℕ) → bytes_at (held_of files) path ≡ find text_cmp path files
bytes_at-held_of files path = get-from_entries nat_list_cmp_total files path

put_passes : (a b : Bool) (e n : File) (with_new without : List File) → IsPermutation with_new (cond b (n ∷ without) without)
    → IsPermutation (cond a (e ∷ with_new) with_new) (cond b (n ∷ cond a (e ∷ without) without) (cond a (e ∷ without) without))
put_passes true true e n with_new without h =
    IsPermutation-trans (e ∷ with_new) (e ∷ n ∷ without) (n ∷ e ∷ without) (IsPermutation-cons e with_new (n ∷ without) h) (IsPermutation-middle (e ∷ []) n without)
put_passes true false e n with_new without h = IsPermutation-cons e with_new without h
put_passes false b e n with_new without h = h

some_is_none : {A : Type 0} (x : A) (P : Type 0) → Some x ≡ None → P
some_is_none x P e = absurd cc

-- a new entry is kept beside those that are kept
filter-put : (p : File → Bool) (k v : List ℕ) (es : List File) → find text_cmp k es ≡ None
    → IsPermutation (filter p (put text_cmp k v es)) (filter p ((k, v) ∷ es))
filter-put p k v [] none = IsPermutation-refl (filter p ((k, v) ∷ []))
filter-put p k v (e ∷ es) none =
    elim (text_cmp k e.0) as (λ r. cond (is_eq r) (Some e.1) (find text_cmp k es) ≡ None
    → IsPermutation (filter p (by_order r ((k, v) ∷ e ∷ es) ((e.0, v) ∷ es) (e ∷ put text_cmp k v es))) (filter p ((k, v) ∷ e ∷ es))) [
      | Less ↦ λ _. IsPermutation-refl (filter p ((k, v) ∷ e ∷ es))
      | Equal ↦ λ found. some_is_none e.1 (IsPermutation (filter p ((e.0, v) ∷ es)) (filter p ((k, v) ∷ e ∷ es))) found
      | Greater ↦ λ rest. put_passes (p e) (p (k, v)) e (k, v) (filter p (put text_cmp k v es)) (filter p es) (filter-put p k v es rest)
    ] none

entries_of_none : entries (held_of []) ≡ []
entries_of_none =
    let m : Held = held_of [] in
    nil_from_length (entries m) (sym (len-entries m) ∙ len-empty text_cmp (List ℕ))

kept_first : (b : Bool) (e : File) (xs ys : List File) → IsPermutation xs ys → IsPermutation (cond b (e ∷ xs) xs) (cond b (e ∷ ys) ys)
kept_first true e xs ys h = IsPermutation-cons e xs ys h
kept_first false e xs ys h = h

-- the entries that pass are the files that pass, in another order
filter-entries : (p : File → Bool) (files : List File) → PathsDiffer files → IsPermutation (filter p (entries (held_of files))) (filter p files)
filter-entries p [] differ = subst (λ es. IsPermutation (filter p es) []) (sym entries_of_none) (IsPermutation-refl [])
filter-entries p (e ∷ es) differ =
    let others : AllDiffer (map (λ file. file.0) es) = AllPairs-tail (λ a b. a ≢ b) e.0 (map (λ file. file.0) es) differ in
    let m : Held = held_of es in
    let none : find text_cmp e.0 (entries m) ≡ None =
    sym (get-entries m e.0) ∙ bytes_at-held_of es e.0 ∙ none_found e.0 es (AllPairs-head (λ a b. a ≢ b) e.0 (map (λ file. file.0) es) differ) in
    subst (λ all. IsPermutation (filter p all) (filter p (e ∷ es))) (sym (entries-insert nat_list_cmp_total m e.0 e.1))
    (IsPermutation-trans (filter p (put text_cmp e.0 e.1 (entries m))) (filter p (e ∷ entries m)) (filter p (e ∷ es))
    (filter-put p e.0 e.1 (entries m) none) (kept_first (p e) e (filter p (entries m)) (filter p es) (filter-entries p es others)))

-- the class files' paths in a list whose paths differ are those of what is held of it
pub class_paths_moved : (folder : List ℕ) (files : List File) → PathsDiffer files
    → IsPermutation (class_paths folder files) (map (λ file. file.0) (class_files folder (held_of files)))
class_paths_moved folder files differ =
    let p : File → Bool = λ file. is_class_path folder file.0 in
    IsPermutation-map (λ file. file.0) (filter p files) (filter p (entries (held_of files)))
    (IsPermutation-sym (filter p (entries (held_of files))) (filter p files) (filter-entries p files differ))
