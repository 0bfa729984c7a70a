-- Listing and reading: what is listed where a store's contents are known, and a step of the reading loop.
use Rattle.std.proofs.Common.{◌≡◌, ℕ, ◌+◌, ◌<◌, ◌≤◌, false, List, [], ◌∷◌, ◌++◌, length, take, drop, map, get_or, All, IsTrue, Option, Some, None, IfSome, string_bytes, unwrap_or, refl, Err, sym, ap, ◌∙◌, subst, take-append-drop, arith}
use Rattle.std.specs.declared.string.String.{String}
use Rattle.std.specs.List.Sorted.{IsPermutation, IsSorted}
use Rattle.std.specs.Ordering.{nat_cmp, is_lt}
use Rattle.std.specs.Cmp.Lexicographic.{slice_cmp}
use Rattle.std.specs.String.{string_cmp, string_cmp_total}
use Rattle.std.proofs.lemmas.List.{length-map, map-append, drop_more}
use Rattle.std.proofs.lemmas.Bool.{cases_lt}
use Rattle.std.proofs.Common.{inl, inr}
use Rattle.std.proofs.lemmas.List.Elements.{All-push, All-from_recursion, recursion_from_All}
use Rattle.std.proofs.lemmas.List.Sums.{sum_by-append}
use Rattle.std.proofs.lemmas.List.Sorted.{All-permutation, length_permutation, ranks_by, IsPermutation-map}
use Rattle.dj_edge.specs.trusted.Held.{File, Held, class_files, is_class_path, bytes_at}
use Rattle.dj_edge.specs.trusted.Counts.{AllDiffer, GrowsByPrefix, IsPrefix}
use Rattle.dj_edge.specs.trusted.Calls.{IsListing, ListCounts}
use Rattle.dj_edge.specs.declared.files.ListError.{ListError}
use Rattle.dj_edge.specs.declared.files.ListError.TheVariants as list_errors
use Rattle.dj_edge.proofs.Growth.{GrowsByPrefix-after, GrowsByPrefix-within, IsPrefix-more, grown_more}
use Rattle.dj_edge.proofs.Listings.{sorted_listing}
use Rattle.dj_edge.proofs.Pairs.{AllPairs-map}
use Rattle.dj_edge.proofs.Sorting.{pairs_from_sorted}
use Rattle.dj_report.specs.declared.report.Limit.{Limit}
use Rattle.dj_report.specs.declared.report.Limit.TheVariants as limits
use Rattle.djvm_cli.specs.declared.load.SourceFile.{SourceFile}
use Rattle.djvm_cli.specs.declared.load.Stop.{Stop}
use Rattle.djvm_cli.specs.declared.load.Stop.TheVariants as stops
use Rattle.djvm_cli.specs.declared.load.NextFile.{NextFile}
use Rattle.djvm_cli.specs.declared.load.NextFile.TheVariants as next_files
use Rattle.djvm_cli.specs.declared.load.Loaded.TheVariants as loads
use Rattle.dj_class_set.specs.ClassSets.{TextsRise}
use Rattle.dj_class_set.specs.trusted.Limits.{most_file_bytes, most_total_bytes, total_bytes, AreWithin}
use Rattle.dj_class_set.proofs.ByPath.{texts_rise}
use Rattle.djvm_cli.specs.Steps.{files_at, Counted, IsLoaded}
use Rattle.djvm_cli.specs.Next.{IsNextRead, IsNext}
use Rattle.djvm_cli.specs.Views.{source_view}
use Rattle.dj_edge.proofs.Lists.{both_reported, All-unmap, mapped_at, mapped_more}

-- ---- listing

-- more paths than the limit are listed of more class files than that
many_in : (folder : List ℕ) (h : Held) (paths : List (List ℕ)) → IsListing (Some h) folder 4097 paths → 4096 < length paths → 4096 < length (class_files folder h)
many_in folder h paths listing many =
    let files : List File = class_files folder h in
    elim (cases_lt 4097 (length files)) [
      | inl more ↦ omega arith
      | inr few ↦
          let size : length (map (λ file. file.0) files) ≡ length paths = length_permutation paths (map (λ (file : File). file.0) files) (listing.reported.0 few) in
          let same : length (map (λ (file : File). file.0) files) ≡ length files = length-map files (λ file. file.0) in
          omega arith
    ]

-- no more paths than the limit are listed of no more class files than that
few_in : (folder : List ℕ) (h : Held) (paths : List (List ℕ)) → IsListing (Some h) folder 4097 paths → length paths ≤ 4096 → length (class_files folder h) ≤ 4097
few_in folder h paths listing few =
    elim (cases_lt 4097 (length (class_files folder h))) [
      | inl more ↦ let size : length paths ≡ 4097 = listing.reported.1 more in absurd (omega arith)
      | inr within ↦ within
    ]

pub listed_many : (held : Option Held) (folder : List ℕ) (paths : List (List ℕ)) → IsListing held folder 4097 paths → 4096 < length paths
    → IfSome held (λ h. 4096 < length (class_files folder h))
listed_many None folder paths listing many = tt
listed_many (Some h) folder paths listing many = many_in folder h paths listing many

pub listed_all : {Z : Type 0} (held : Option Held) (folder : List ℕ) (found paths : List (String Z)) → IsListing held folder 4097 (map string_bytes found)
    → length found ≤ 4096 → IsPermutation found paths → IsSorted string_cmp paths
    → IfSome held (λ h. map string_bytes paths ≡ map (λ file. file.0) (class_files folder h))
listed_all None folder found paths listing few moved sorted = tt
listed_all {Z} (Some h) folder found paths listing few moved sorted =
    let texts : List (List ℕ) = map string_bytes found in
    let size : length texts ≡ length found = length-map found string_bytes in
    let short : length texts ≤ 4096 = omega arith in
    sorted_listing folder h 4097 found paths listing (few_in folder h texts listing short) moved sorted

-- the store failed where a failed listing stops the step
pub listing_stopped : (before now : ℕ) (error : ListError) (stop : Stop) → (stop ≡ stops.Fault → error ≡ list_errors.Failed) → before ≤ now
    → ListCounts {T = ℕ} before now (Err error) → Counted {T = ℕ} before now (Err stop)
listing_stopped before now error stops.Memory is falls counts = falls
listing_stopped before now error stops.Fault is falls counts = subst (λ (e : ListError). ListCounts {T = ℕ} before now (Err e)) (is refl) counts

-- a sort keeps what holds of each path
pub moved_class_paths : {Z : Type 0} (folder : List ℕ) (found paths : List (String Z)) → All (λ path. IsTrue (is_class_path folder path)) (map string_bytes found)
    → IsPermutation found paths → All (λ path. IsTrue (is_class_path folder (string_bytes path))) paths
moved_class_paths {Z} folder found paths all moved =
    All-unmap string_bytes (λ path. IsTrue (is_class_path folder path)) paths
    (All-permutation (λ path. IsTrue (is_class_path folder path)) (map string_bytes found) (map string_bytes paths) (IsPermutation-map string_bytes found paths moved) all)

-- and puts paths that differ in strict order
pub moved_rise : {Z : Type 0} (found paths : List (String Z)) → AllDiffer (map string_bytes found) → IsPermutation found paths → IsSorted string_cmp paths → TextsRise (map string_bytes paths)
moved_rise {Z} found paths differ moved sorted =
    let NotAbove : List ℕ → List ℕ → Type 0 = λ a b. is_lt (slice_cmp nat_cmp b a) ≡ false in
    texts_rise (map string_bytes found) (map string_bytes paths) (IsPermutation-map string_bytes found paths moved) differ
    (AllPairs-map string_bytes NotAbove paths (pairs_from_sorted (λ a b. is_lt (string_cmp a b)) (ranks_by string_cmp_total (λ (a : String Z). a)) paths sorted))

-- ---- a step of the reading loop

-- what was asked so far, and one more path
pub asked_more : {X Y : Type 0} (f : X → Y) (xs : List X) (i : ℕ) (x : X) (y : Y) (old mid new : List Y) → i < length xs → x ≡ get_or xs i x → y ≡ f x
    → mid ≡ old ++ take i (map f xs) → new ≡ mid ++ y ∷ [] → new ≡ old ++ take (i + 1) (map f xs)
asked_more f xs i x y old mid new within is same before step =
    let inside : i < length (map f xs) = omega (arith, length-map xs f) in
    grown_more old mid new (map f xs) i (f x) inside before (step ∙ ap (λ z. mid ++ z ∷ []) (same ∙ sym (mapped_at f xs i x within is)))

-- what was asked so far, and maybe one more path
pub asked_prefix : {X Y : Type 0} (f : X → Y) (xs : List X) (i : ℕ) (x : X) (y : Y) (old mid new : List Y) → i < length xs → x ≡ get_or xs i x → y ≡ f x
    → mid ≡ old ++ take i (map f xs) → GrowsByPrefix mid new (y ∷ []) → GrowsByPrefix old new (map f xs)
asked_prefix {X} {Y} f xs i x y old mid new within is same before step =
    let inside : i < length (map f xs) = omega (arith, length-map xs f) in
    let part : List Y = take i (map f xs) ++ y ∷ [] in
    let prefix : IsPrefix part (map f xs) =
    subst (λ z. IsPrefix (take i (map f xs) ++ z ∷ []) (map f xs)) (mapped_at f xs i x within is ∙ sym same) (IsPrefix-more (map f xs) i (f x) inside) in
    GrowsByPrefix-within old new part (map f xs) (GrowsByPrefix-after old mid new (take i (map f xs)) (y ∷ []) before step) prefix

pub nothing_within : AreWithin []
nothing_within = record { each = tt; together = omega arith }

pub within_more : (files : List File) (file : File) → AreWithin files → length file.1 ≤ most_file_bytes → total_bytes files + length file.1 ≤ most_total_bytes → AreWithin (files ++ file ∷ [])
within_more files file within short few =
    let Short : File → Type 0 = λ f. length f.1 ≤ most_file_bytes in
    let sum : total_bytes (files ++ file ∷ []) ≡ total_bytes files + total_bytes (file ∷ []) = sum_by-append (λ (f : File). length f.1) files (file ∷ []) in
    record {
      each = recursion_from_All Short (files ++ file ∷ []) (All-push Short files file (All-from_recursion Short files within.each) short);
      together = omega arith;
    }

pub total_more : (files : List File) (file : File) → total_bytes (files ++ file ∷ []) ≡ total_bytes files + length file.1
total_more files file = omega (arith, sum_by-append (λ (f : File). length f.1) files (file ∷ []))

parts_at : {X : Type 0} (xs : List X) (i : ℕ) (x : X) → i < length xs → get_or xs i x ≡ x → xs ≡ take i xs ++ x ∷ drop (i + 1) xs
parts_at xs i x within is = sym (take-append-drop i xs) ∙ ap (λ l. take i xs ++ l) (drop_more xs i x within ∙ ap (λ y. y ∷ drop (i + 1) xs) is)

-- a file that passes a limit after others that don't is the first
pub first_past : (files : List File) (i : ℕ) (file : File) (total : ℕ) (limit : Limit) → i < length files → get_or files i file ≡ file → AreWithin (take i files)
    → total ≡ total_bytes (take i files) → IsNext file total (next_files.Passed limit) → IsLoaded files (loads.Passed limit)
first_past files i file total limits.FileCount within is before sum past = past
first_past files i file total limits.Input within is before sum past = past
first_past files i file total limits.File within is before sum past =
    record { prefix = take i files; file = file; rest = drop (i + 1) files; parts = parts_at files i file within is; before = before; past = past }
first_past files i file total limits.Total within is before sum past =
    record {
      prefix = take i files;
      file = file;
      rest = drop (i + 1) files;
      parts = parts_at files i file within is;
      before = before;
      past = (past.0, subst (λ n. most_total_bytes < n + length file.1) sum past.1);
    }

module _ {Z : Type 0} (texts : List (String Z)) (i : ℕ) (s : String Z) (t : List ℕ) (within : i < length texts) (is : s ≡ get_or texts i s) (same : t ≡ string_bytes s) where
  abbrev file_at : Held → List ℕ → File
  file_at h path = (path, unwrap_or (bytes_at h path) [])

  abbrev all_at : Held → List File
  all_at h = files_at h (map string_bytes texts)

  inside : i < length (map string_bytes texts)
  inside = omega (arith, length-map texts string_bytes)

  text_at : get_or (map string_bytes texts) i t ≡ t
  text_at = subst (λ u. get_or (map string_bytes texts) i u ≡ u) (sym same) (mapped_at string_bytes texts i s within is)

  -- the limit that the next file passes is the first of all
  pub passed_reported : (held mid : Option Held) (read : List SourceFile) (total : ℕ) (limit : Limit) (next : NextFile) → mid ≡ held → AreWithin (map source_view read)
      → total ≡ total_bytes (map source_view read) → IfSome held (λ h. map source_view read ≡ take i (all_at h)) → next ≡ next_files.Passed limit
      → IfSome mid (λ h. IsNext (file_at h t) total next) → IfSome held (λ h. IsLoaded (all_at h) (loads.Passed limit))
  passed_reported held mid read total limit next e before sum so_far passed reported =
      both_reported held (λ h. map source_view read ≡ take i (all_at h)) (λ h. IsNext (file_at h t) total next) (λ h. IsLoaded (all_at h) (loads.Passed limit))
      (λ h part past.
      let size : i < length (all_at h) = omega (arith, inside, length-map (map string_bytes texts) (file_at h)) in
      first_past (all_at h) i (file_at h t) total limit size (mapped_at (file_at h) (map string_bytes texts) i t inside (sym text_at))
      (subst AreWithin part before) (sum ∙ ap total_bytes part) (subst (IsNext (file_at h t) total) passed past))
      so_far (subst (λ o. IfSome o (λ h. IsNext (file_at h t) total next)) e reported)

  -- the files that are read, and one more
  pub read_reported : (held mid : Option Held) (read now : List SourceFile) (file : SourceFile) (total : ℕ) (next : NextFile) → mid ≡ held → now ≡ read ++ file ∷ []
      → IfSome held (λ h. map source_view read ≡ take i (all_at h)) → next ≡ next_files.Read file
      → IfSome mid (λ h. IsNext (file_at h t) total next) → IfSome held (λ h. map source_view now ≡ take (i + 1) (all_at h))
  read_reported held mid read now file total next e grown so_far found reported =
      both_reported held (λ h. map source_view read ≡ take i (all_at h)) (λ h. IsNext (file_at h t) total next) (λ h. map source_view now ≡ take (i + 1) (all_at h))
      (λ h part one.
      let view : source_view file ≡ file_at h t = subst (IsNext (file_at h t) total) found one in
      ap (map source_view) grown ∙ map-append source_view read (file ∷ []) ∙ ap (λ f. map source_view read ++ f ∷ []) view
      ∙ mapped_more (file_at h) (map string_bytes texts) i t (map source_view read) inside (sym text_at) part)
      so_far (subst (λ o. IfSome o (λ h. IsNext (file_at h t) total next)) e reported)

  pub read_paths : (read now : List SourceFile) (file : SourceFile) (total : ℕ) (next : NextFile) → now ≡ read ++ file ∷ []
      → map (λ file. string_bytes file.path) read ≡ take i (map string_bytes texts) → next ≡ next_files.Read file → IsNextRead t total next
      → map (λ file. string_bytes file.path) now ≡ take (i + 1) (map string_bytes texts)
  read_paths read now file total next grown so_far found one =
      let path : SourceFile → List ℕ = λ file. string_bytes file.path in
      let facts = subst (IsNextRead t total) found one in
      ap (map path) grown ∙ map-append path read (file ∷ []) ∙ ap (λ p. map path read ++ p ∷ []) (facts.0 ∙ same)
      ∙ mapped_more string_bytes texts i s (map path read) within is so_far

-- the files that are read stay within the limits
pub read_within : (t : List ℕ) (read now : List SourceFile) (file : SourceFile) (total : ℕ) (next : NextFile) → now ≡ read ++ file ∷ [] → AreWithin (map source_view read)
    → total ≡ total_bytes (map source_view read) → next ≡ next_files.Read file → IsNextRead t total next
    → AreWithin (map source_view now) × (total + length file.bytes.items ≡ total_bytes (map source_view now))
read_within t read now file total next grown before sum found one =
    let facts = subst (IsNextRead t total) found one in
    let files : List File = map source_view read in
    let same : map source_view now ≡ files ++ source_view file ∷ [] = ap (map source_view) grown ∙ map-append source_view read (file ∷ []) in
    let few : total_bytes files + length file.bytes.items ≤ most_total_bytes = subst (λ n. n + length file.bytes.items ≤ most_total_bytes) sum facts.2 in (
      subst AreWithin (sym same) (within_more files (source_view file) before facts.1 few),
      ap (λ n. n + length file.bytes.items) sum ∙ sym (total_more files (source_view file)) ∙ ap total_bytes (sym same),
    )
