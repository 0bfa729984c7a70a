-- A folder's files under their paths within it: they are as many, as long and in the same order, and so they are the set of themselves.
use Rattle.std.proofs.Common.{◌≡◌, ℕ, ◌+◌, ◌<◌, ◌≤◌, ◌∙◌, List, [], ◌∷◌, ◌++◌, length, map, drop, get_or, All, AllPairs, IsTrue, string_bytes, refl, sym, ap, subst, arith}
use Rattle.std.specs.Ordering.{nat_cmp, ordering_then}
use Rattle.std.specs.declared.cmp.Ordering.TheVariants.{Less}
use Rattle.std.specs.Cmp.{nat_cmp_total}
use Rattle.std.specs.Cmp.Lexicographic.{slice_cmp}
use Rattle.std.specs.Global.{Vec}
use Rattle.std.proofs.lemmas.Cmp.{tied_itself}
use Rattle.std.proofs.lemmas.List.{length-map, map-append}
use Rattle.std.proofs.lemmas.List.Elements.{All-map, All-from_recursion, recursion_from_All}
use Rattle.std.proofs.lemmas.List.Sums.{sum_by-cons}
use Rattle.dj_edge.specs.trusted.Held.{File, is_class_path}
use Rattle.dj_edge.specs.InMemory.{String, file_in, files_in, PathsDiffer}
use Rattle.dj_edge.proofs.Pairs.{AllPairs-map, AllPairs-unmap}
use Rattle.dj_class_set.specs.ClassSets.{PathsRise, AreByPath}
use Rattle.dj_class_set.specs.trusted.Limits.{most_files, most_file_bytes, most_total_bytes, total_bytes, AreWithin}
use Rattle.dj_class_set.proofs.ByPath.{rising_differ, in_order_already}
use Rattle.djvm_cli.specs.declared.load.SourceFile.{SourceFile}
use Rattle.djvm_cli.specs.trusted.Report.{within_folder}
use Rattle.djvm_cli.specs.Views.{source_view}
use Rattle.djvm_cli.proofs.Folders.{behind_folder}

-- ---- the loop

-- what holds of each file holds of the next one
pub at_turn : {X : Type 0} (P : X → Type 0) (xs : List X) (k : ℕ) (x : X) → All P xs → (k < length xs) × (x ≡ get_or xs k x) → P x
at_turn P xs k x all turn = subst P (sym turn.1) (all k x turn.0)

-- the files that were cut, and one more
pub cut_more : (folder : List ℕ) (files : List SourceFile) (file : SourceFile) (within now : List (String × Vec ℕ)) (cut : String × Vec ℕ) → now ≡ within ++ cut ∷ []
    → file_in cut ≡ within_folder folder (source_view file) → files_in within ≡ map (within_folder folder) (map source_view files)
    → files_in now ≡ map (within_folder folder) (map source_view (files ++ file ∷ []))
cut_more folder files file within now cut grown is so_far =
    ap files_in grown ∙ map-append file_in within (cut ∷ []) ∙ ap (λ f. files_in within ++ f ∷ []) is ∙ ap (λ l. l ++ within_folder folder (source_view file) ∷ []) so_far
    ∙ sym (map-append (within_folder folder) (map source_view files) (source_view file ∷ [])) ∙ ap (map (within_folder folder)) (sym (map-append source_view files (file ∷ [])))

-- ---- order

-- what both texts begin with doesn't say which is below
same_prefix : (prefix a b : List ℕ) → slice_cmp nat_cmp (prefix ++ a) (prefix ++ b) ≡ slice_cmp nat_cmp a b
same_prefix [] a b = refl
same_prefix (x ∷ prefix) a b =
    ap (λ r. ordering_then r (slice_cmp nat_cmp (prefix ++ a) (prefix ++ b))) (tied_itself nat_cmp_total x) ∙ same_prefix prefix a b

-- of two paths that go on behind the folder and a slash the one is below the other where its rest is
less_behind : (folder a b u v : List ℕ) → a ≡ folder ++ 47 ∷ u → b ≡ folder ++ 47 ∷ v → slice_cmp nat_cmp a b ≡ Less → slice_cmp nat_cmp u v ≡ Less
less_behind folder a b u v first second less =
    sym (same_prefix (47 ∷ []) u v) ∙ sym (same_prefix folder (47 ∷ u) (47 ∷ v))
    ∙ subst (λ x. slice_cmp nat_cmp x (folder ++ 47 ∷ v) ≡ Less) first (subst (λ x. slice_cmp nat_cmp a x ≡ Less) second less)

-- ---- the files of a folder

module _ (folder : List ℕ) (files : List SourceFile) where
  abbrev pub cut : List File
  cut = map (within_folder folder) (map source_view files)

  pub length-cut : length cut ≡ length files
  length-cut = length-map (map source_view files) (within_folder folder) ∙ length-map files source_view

  -- cutting keeps the order
  pub cut_rise : All (λ file. IsTrue (is_class_path folder (string_bytes file.path))) files → PathsRise (map source_view files) → PathsRise cut
  cut_rise class_paths rise =
      let Below : List ℕ → List ℕ → Type 0 = λ a b. slice_cmp nat_cmp a b ≡ Less in
      let path_of : File → List ℕ = λ file. file.0 in
      let before_cut : AllPairs (λ (a b : SourceFile). Below (string_bytes a.path) (string_bytes b.path)) files =
      AllPairs-unmap source_view (λ a b. Below a.0 b.0) files (AllPairs-unmap path_of Below (map source_view files) rise) in
      let after_cut : AllPairs (λ (a b : SourceFile). Below (within_folder folder (source_view a)).0 (within_folder folder (source_view b)).0) files =
      λ i j d before within.
      let a : List ℕ = string_bytes (get_or files i d).path in
      let b : List ℕ = string_bytes (get_or files j d).path in
      less_behind folder a b (drop (length folder + 1) a) (drop (length folder + 1) b)
      (behind_folder folder a (class_paths i d (omega arith))) (behind_folder folder b (class_paths j d within)) (before_cut i j d before within) in
      AllPairs-map path_of Below cut
      (AllPairs-map (within_folder folder) (λ a b. Below a.0 b.0) (map source_view files)
      (AllPairs-map source_view (λ a b. Below (within_folder folder a).0 (within_folder folder b).0) files after_cut))

total_cut : (folder : List ℕ) (files : List File) → total_bytes (map (within_folder folder) files) ≡ total_bytes files
total_cut folder [] = refl
total_cut folder (file ∷ files) =
    let size : File → ℕ = λ file. length file.1 in
    omega (arith, total_cut folder files, sum_by-cons size (within_folder folder file) (map (within_folder folder) files), sum_by-cons size file files)

-- and it takes no bytes away
pub cut_within : (folder : List ℕ) (files : List File) → AreWithin files → AreWithin (map (within_folder folder) files)
cut_within folder files within =
    let Short : File → Type 0 = λ file. length file.1 ≤ most_file_bytes in record {
      each = recursion_from_All Short (map (within_folder folder) files) (All-map Short (within_folder folder) files (All-from_recursion Short files within.each));
      together = subst (λ n. n ≤ most_total_bytes) (sym (total_cut folder files)) within.together;
    }

-- ---- their set

module _ (folder : List ℕ) (files : List SourceFile) (within : List (String × Vec ℕ)) (is : files_in within ≡ cut folder files) where
  pub few_cut : length files ≤ most_files → length within ≤ most_files
  few_cut few =
      let same : length (files_in within) ≡ length (cut folder files) = ap length is in
      omega (arith, few, same, length-map within file_in, length-cut folder files)

  pub within_cut : AreWithin (map source_view files) → AreWithin (files_in within)
  within_cut limits = subst AreWithin (sym is) (cut_within folder (map source_view files) limits)

  pub differ_cut : All (λ file. IsTrue (is_class_path folder (string_bytes file.path))) files → PathsRise (map source_view files) → PathsDiffer (files_in within)
  differ_cut class_paths rise = subst PathsDiffer (sym is) (rising_differ (cut folder files) (cut_rise folder files class_paths rise))

  pub set_cut : All (λ file. IsTrue (is_class_path folder (string_bytes file.path))) files → PathsRise (map source_view files) → (set : List File) → AreByPath (files_in within) set → set ≡ cut folder files
  set_cut class_paths rise set are =
      in_order_already (cut folder files) set (cut_rise folder files class_paths rise) (subst (λ (l : List File). AreByPath l set) is are)
