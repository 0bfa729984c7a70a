-- Sorted paths, of which each is kept once, are a listing.
use Rattle.std.proofs.Common.{◌≡◌, ◌≢◌, ℕ, ◌&&◌, ◌++◌, Bool, true, false, cond, nat_eq, codes, List, [], ◌∷◌, map, filter, take, get_or, All, AllPairs, IsTrue, IfOk, Result, None, String, string_bytes, refl, sym, ap, ◌∙◌, subst, arith}
use Rattle.std.specs.List.{Contains, dedup, starts_with, ends_with}
use Rattle.std.specs.List.Sorted.{IsSorted, IsStrictlySortedBy, IsPermutation}
use Rattle.std.specs.Ordering.{nat_cmp}
use Rattle.std.specs.Cmp.Lexicographic.{slice_cmp}
use Rattle.std.specs.declared.cmp.Ordering.TheVariants.{Less, Equal}
use Rattle.std.specs.String.{string_cmp, string_eq, string_cmp_total, string_eq_equiv}
use Rattle.std.proofs.lemmas.Cmp.{nat_list_cmp_total, tied_itself}
use Rattle.std.proofs.lemmas.List.{length-take, take-map, get_or-map, length-map}
use Rattle.std.proofs.lemmas.List.Filters.{All-dedup}
use Rattle.std.proofs.lemmas.List.Kept.{IsStrictlySortedBy-dedup, Any-dedup}
use Rattle.std.proofs.lemmas.List.Elements.{All-take, All-map, All-weaker, All-contains, All-contains_itself, filter_passes}
use Rattle.std.proofs.lemmas.List.Sorted.{All-permutation, IsPermutation-sym}
use Rattle.std.proofs.lemmas.Map.Keys.{Less-from_sorted}
use Rattle.std.proofs.lemmas.Map.Text.{is_eq-slice_cmp}
use Rattle.std.proofs.lemmas.Slice.Eq.{bytes_eq-Decides}
use Rattle.dj_edge.specs.trusted.Held.{is_class_path}
use Rattle.dj_edge.specs.trusted.Counts.{AllDiffer}
use Rattle.dj_edge.specs.trusted.Calls.{IsListing}
use Rattle.dj_edge.specs.Listings.{AreOnce, IsListingOf}
use Rattle.dj_edge.proofs.Pairs.{AllPairs-take, AllPairs-map, AllPairs-weaker, All-unmap}

-- a text below another is not that one
apart : {Z : Type 0} (a b : String Z) → string_cmp a b ≡ Less → string_bytes a ≢ string_bytes b
apart a b less same =
    let tied : slice_cmp nat_cmp (string_bytes b) (string_bytes b) ≡ Equal = tied_itself nat_list_cmp_total (string_bytes b) in
    let back : slice_cmp nat_cmp (string_bytes b) (string_bytes b) ≡ Less = ap (λ (x : List ℕ). slice_cmp nat_cmp x (string_bytes b)) (sym same) ∙ less in
    absurd cc

differ : {Z : Type 0} (paths : List (String Z)) → IsStrictlySortedBy string_cmp paths → AllDiffer (map string_bytes paths)
differ paths sorted =
    let rising : AllPairs (λ a b. string_cmp a b ≡ Less) paths = λ i j d before within. Less-from_sorted string_cmp paths i j d sorted before within in
    AllPairs-map string_bytes (λ a b. a ≢ b) paths
    (AllPairs-weaker (λ a b. string_cmp a b ≡ Less) (λ a b. string_bytes a ≢ string_bytes b) apart paths rising)

-- a text of the list is one of those that are kept
kept : {Z : Type 0} (paths : List (String Z)) (path : String Z) → Contains paths path → Contains (map string_bytes (dedup string_eq paths)) (string_bytes path)
kept {Z} paths path is =
    let found = Any-dedup string_eq_equiv paths path is in
    let same : string_bytes path ≡ string_bytes found.1 = (bytes_eq-Decides (string_bytes path) (string_bytes found.1)).0 found.4 in
    let at : get_or (map string_bytes (dedup string_eq paths)) found.0 (string_bytes path) ≡ string_bytes found.1 =
    get_or-map string_bytes (dedup string_eq paths) found.0 found.1 (string_bytes path) found.2 ∙ ap (string_bytes {Z = Z}) found.3 in
    (found.0, omega (arith, found.2, length-map (dedup string_eq paths) (string_bytes {Z = Z})), at ∙ sym same)

pub once_from_sorted : {Z : Type 0} (most : ℕ) (paths sorted : List (String Z)) → IsPermutation paths sorted → IsSorted string_cmp sorted
    → AreOnce (map string_bytes paths) most (map string_bytes (take most (dedup string_eq sorted)))
once_from_sorted {Z} most paths sorted moved is_sorted =
    let strict : IsStrictlySortedBy string_cmp (dedup string_eq sorted) =
    IsStrictlySortedBy-dedup string_cmp_total (λ x y. sym (is_eq-slice_cmp (string_bytes x) (string_bytes y))) sorted is_sorted in
    record {
      all = map string_bytes (dedup string_eq sorted);
      differ = differ (dedup string_eq sorted) strict;
      among = All-map (Contains (map string_bytes paths)) string_bytes (dedup string_eq sorted)
          (All-dedup string_eq (λ path. Contains (map string_bytes paths) (string_bytes path)) sorted
          (All-permutation (λ path. Contains (map string_bytes paths) (string_bytes path)) paths sorted moved
          (All-unmap string_bytes (λ a b. a ≢ b) (Contains (map string_bytes paths)) paths (All-contains_itself (map string_bytes paths)))));
      whole = All-map (Contains (map string_bytes (dedup string_eq sorted))) string_bytes paths
          (All-permutation (λ path. Contains (map string_bytes (dedup string_eq sorted)) (string_bytes path)) sorted paths (IsPermutation-sym paths sorted moved)
          (All-weaker (Contains sorted) (λ path. Contains (map string_bytes (dedup string_eq sorted)) (string_bytes path)) (kept sorted) sorted (All-contains_itself sorted)));
      first = sym (take-map string_bytes most (dedup string_eq sorted));
    }

-- what is listed are class files, each once, at most this many
pub listing_from_once : (folder : List ℕ) (found : List (List ℕ)) (most : ℕ) (paths : List (List ℕ)) → IsListingOf folder found most paths → IsListing None folder most paths
listing_from_once folder found most paths once =
    let P : List (List ℕ) → Type 0 = λ listed. IsListing None folder most listed in
    let pass : All (λ path. IsTrue (is_class_path folder path)) (filter (is_class_path folder) found) = filter_passes (is_class_path folder) found in
    subst P (sym once.first) (record {
      differ = AllPairs-take (λ a b. a ≢ b) most once.all once.differ;
      bounded = omega (arith, length-take most once.all);
      class_paths = All-take (λ path. IsTrue (is_class_path folder path)) most once.all
          (All-weaker (Contains (filter (is_class_path folder) found)) (λ path. IsTrue (is_class_path folder path))
          (λ path is. All-contains (λ path. IsTrue (is_class_path folder path)) (filter (is_class_path folder) found) path pass is) once.all once.among);
      reported = tt;
      held_paths = tt;
    })

-- ---- the paths that are left

map_step : {X Y : Type 0} (f : X → Y) (x : X) (k : List X) (m : List Y) → map f k ≡ m → (b : Bool) → map f (cond b (x ∷ k) k) ≡ cond b (f x ∷ m) m
map_step f x k m same true = ap (λ l. f x ∷ l) same
map_step f x k m same false = same

map_filter : {X Y : Type 0} (f : X → Y) (test : Y → Bool) (xs : List X) → map f (filter (λ x. test (f x)) xs) ≡ filter test (map f xs)
map_filter f test [] = refl
map_filter f test (x ∷ xs) = map_step f x (filter (λ x. test (f x)) xs) (filter test (map f xs)) (map_filter f test xs) (test (f x))

-- the paths that pass the test are the class files of the folder, where its text with a slash is what they were tested with
pub kept_below : {Z : Type 0} (folder start : List ℕ) (found left : List (String Z)) → start ≡ folder ++ codes "/"
    → left ≡ filter (λ path. starts_with nat_eq (string_bytes path) start && ends_with nat_eq (string_bytes path) (codes ".class")) found
    → map string_bytes left ≡ filter (is_class_path folder) (map string_bytes found)
kept_below {Z} folder start found left from is =
    let e : left ≡ filter (λ path. is_class_path folder (string_bytes path)) found =
    is ∙ ap (λ (s : List ℕ). filter (λ (path : String Z). starts_with nat_eq (string_bytes path) s && ends_with nat_eq (string_bytes path) (codes ".class")) found) from in
    ap (map string_bytes) e ∙ map_filter (string_bytes {Z = Z}) (is_class_path folder) found

pub once_as : {T E : Type 0} (a b : List (List ℕ)) (most : ℕ) (paths_of : T → List (List ℕ)) (listed : Result T E) → a ≡ b → IfOk listed (λ paths. AreOnce a most (paths_of paths))
    → IfOk listed (λ paths. AreOnce b most (paths_of paths))
once_as a b most paths_of listed same once = let P : List (List ℕ) → Type 0 = λ texts. IfOk listed (λ paths. AreOnce texts most (paths_of paths)) in subst P same once
