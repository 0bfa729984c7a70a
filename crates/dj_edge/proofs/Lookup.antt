-- What the code over lists of files rests on: the first file with a path, paths that differ, and the first of a listing.
use Rattle.std.proofs.Common.{◌≡◌, ◌≢◌, ℕ, ◌+◌, ◌<◌, Bool, true, false, cond, min, List, [], ◌∷◌, ◌++◌, length, map, filter, take, drop, get_or, reverse, All, Option, Some, None, IsSome, is_some, option_map, string_bytes, refl, sym, ap, ◌∙◌, subst, arith, length-take, get_or-take}
use Rattle.std.specs.Global.{Vec}
use Rattle.std.specs.Str.{bytes_eq}
use Rattle.std.specs.List.Sorted.{IsPermutation}
use Rattle.std.specs.Ordering.{is_eq, eq_by_cmp}
use Rattle.std.specs.FinMap.{find}
use Rattle.std.proofs.lemmas.Cmp.{nat_list_eq_equiv, nat_list_cmp_total, tied_itself}
use Rattle.std.proofs.lemmas.Map.Text.{is_eq-slice_cmp}
use Rattle.std.proofs.lemmas.List.{drop_more, take_more, take-map, take_all, get_or-map, map-append, length-map, reverse-append, get_or_default}
use Rattle.std.proofs.lemmas.List.Elements.{All-cons, All-nil, All-map, All-take, All-weaker}
use Rattle.std.proofs.lemmas.List.Quantifiers.{all_pairs_push}
use Rattle.std.proofs.lemmas.List.Kept.{AllPairs-filter}
use Rattle.std.proofs.lemmas.List.Sorted.{All-permutation, IsPermutation-refl, IsPermutation-reverse, IsPermutation-trans, IsPermutation-sym, length_permutation}
use Rattle.dj_edge.specs.declared.order.Order.{Order}
use Rattle.dj_edge.specs.declared.order.Order.TheVariants.{Given, Reversed}
use Rattle.dj_edge.specs.trusted.Held.{Held, File, bytes_at, is_class_path, class_files}
use Rattle.dj_edge.specs.Held.{held_of}
use Rattle.dj_edge.specs.trusted.Counts.{AllDiffer}
use Rattle.dj_edge.specs.trusted.Calls.{IsListing}
use Rattle.dj_edge.specs.InMemory.{String, file_in, files_in, PathsDiffer, in_order, class_paths}
use Rattle.dj_edge.proofs.Pairs.{AllPairs-take, AllPairs-reverse, AllPairs-map, AllPairs-unmap}
use Rattle.dj_edge.proofs.Listings.{text_cmp, none_found, bytes_at-held_of, class_paths_moved, class_files_pass, class_files_held}

abbrev path_of : File → List ℕ
path_of file = file.0

same_test : (a b : List ℕ) (r : Bool) → bytes_eq a b ≡ r → eq_by_cmp text_cmp b a ≡ r
same_test a b r e = is_eq-slice_cmp b a ∙ nat_list_eq_equiv.symm b a ∙ e

some_is_none : {A : Type 0} (x : A) (P : Type 0) → Some x ≡ None → P
some_is_none x P e = absurd cc

differs_by_test : (a q : List ℕ) → eq_by_cmp text_cmp q a ≡ false → a ≢ q
differs_by_test a q test same =
    let tied : eq_by_cmp text_cmp q a ≡ true = ap (λ b. eq_by_cmp text_cmp q b) same ∙ ap is_eq (tied_itself nat_list_cmp_total q) in
    absurd cc

module _ (path : List ℕ) (files : List (String × Vec ℕ)) (i : ℕ) (x : String × Vec ℕ) (within : i < length files) (is : x ≡ get_or files i x) where
  at_file : find text_cmp path (files_in (drop i files)) ≡ cond (eq_by_cmp text_cmp path (string_bytes x.0)) (Some x.1.items) (find text_cmp path (files_in (drop (i + 1) files)))
  at_file = ap (λ l. find text_cmp path (files_in l)) (drop_more files i x within ∙ ap (λ y. y ∷ drop (i + 1) files) (sym is))

  pub find_here : bytes_eq (string_bytes x.0) path ≡ true → find text_cmp path (files_in (drop i files)) ≡ Some x.1.items
  find_here same = at_file ∙ ap (λ b. cond b (Some x.1.items) (find text_cmp path (files_in (drop (i + 1) files)))) (same_test (string_bytes x.0) path true same)

  pub find_later : bytes_eq (string_bytes x.0) path ≡ false → find text_cmp path (files_in (drop (i + 1) files)) ≡ find text_cmp path (files_in (drop i files))
  find_later other = sym (at_file ∙ ap (λ b. cond b (Some x.1.items) (find text_cmp path (files_in (drop (i + 1) files)))) (same_test (string_bytes x.0) path false other))

-- ---- paths that differ

some_after_none : {A : Type 0} (o : Option A) → IsSome o → o ≡ None → ⊥
some_after_none o some none = absurd cc

pub found_same : {A B : Type 0} (f : A → B) (r : Option A) (o : Option B) (b : Bool) → option_map f r ≡ o → b ≡ is_some r → is_some o ≡ b
found_same f None o b e t = ap is_some (sym e) ∙ sym t
found_same f (Some x) o b e t = ap is_some (sym e) ∙ sym t

pub none_from_test : {A : Type 0} (o : Option A) → is_some o ≡ false → o ≡ None
none_from_test None e = refl
none_from_test (Some x) e = absurd cc

paths_at : (files : List (String × Vec ℕ)) (i : ℕ) (x : String × Vec ℕ) → i < length files → x ≡ get_or files i x
    → files_in (take (i + 1) files) ≡ files_in (take i files) ++ (file_in x) ∷ []
paths_at files i x within is =
    ap files_in (take_more files i x within ∙ ap (λ y. take i files ++ y ∷ []) (sym is)) ∙ map-append file_in (take i files) (x ∷ [])

apart_from_none : (q : List ℕ) (es : List File) → find text_cmp q es ≡ None → All (λ path. path ≢ q) (map (λ file. file.0) es)
apart_from_none q [] none = All-nil (λ path. path ≢ q)
apart_from_none q (e ∷ es) none =
    elim (eq_by_cmp text_cmp q e.0) as (λ b. eq_by_cmp text_cmp q e.0 ≡ b → cond b (Some e.1) (find text_cmp q es) ≡ None → All (λ path. path ≢ q) (map (λ file. file.0) (e ∷ es))) [
      | true ↦ λ _ found. some_is_none e.1 (All (λ path. path ≢ q) (map (λ file. file.0) (e ∷ es))) found
      | false ↦ λ test rest. All-cons (λ path. path ≢ q) e.0 (map (λ file. file.0) es) (differs_by_test e.0 q test) (apart_from_none q es rest)
    ] refl none

-- a file whose path was not there before
pub differ_more : (files : List (String × Vec ℕ)) (i : ℕ) (x : String × Vec ℕ) → i < length files → x ≡ get_or files i x
    → find text_cmp (string_bytes x.0) (files_in (take i files)) ≡ None → PathsDiffer (files_in (take i files)) → PathsDiffer (files_in (take (i + 1) files))
differ_more files i x within is none differ =
    let before : List File = files_in (take i files) in
    let pushed : AllDiffer (map path_of before ++ string_bytes x.0 ∷ []) =
    all_pairs_push (λ a b. a ≢ b) (map path_of before) (string_bytes x.0) differ (λ k d below. apart_from_none (string_bytes x.0) before none k d below) in
    subst AllDiffer (sym (ap (λ l. map path_of l) (paths_at files i x within is) ∙ map-append path_of before (file_in x ∷ []))) pushed

-- a path that was there before
pub not_differ : (files : List (String × Vec ℕ)) (i : ℕ) (x : String × Vec ℕ) → i < length files → x ≡ get_or files i x
    → IsSome (find text_cmp (string_bytes x.0) (files_in (take i files))) → PathsDiffer (files_in files) → ⊥
not_differ files i x within is some differ =
    let q : List ℕ = string_bytes x.0 in
    let paths : List (List ℕ) = map path_of (files_in files) in
    let prefix_is : map path_of (files_in (take i files)) ≡ take i paths =
    sym (take-map path_of i (files_in files) ∙ ap (λ l. map path_of l) (take-map file_in i files)) in
    let size : length paths ≡ length files = length-map (files_in files) path_of ∙ length-map files file_in in
    let inside : i < length paths = omega arith in
    let inner : i < length (files_in files) = omega (arith, length-map files file_in) in
    let here : get_or paths i q ≡ q = get_or-map path_of (files_in files) i (file_in x) q inner ∙ ap path_of (get_or-map file_in files i x (file_in x) within ∙ ap file_in (sym is)) in
    let apart : All (λ path. q ≢ path) (take i paths) = λ k d below same.
    let short : k < i = omega (arith, length-take i paths) in
    let low : k < length paths = omega arith in
    differ k i q short inside (sym (get_or_default paths k d q low) ∙ sym (get_or-take i paths k d short) ∙ sym same ∙ sym here) in
    some_after_none (find text_cmp q (files_in (take i files))) some (none_found q (files_in (take i files)) (subst (All (λ path. q ≢ path)) (sym prefix_is) apart))

-- ---- the first of a listing

map-reverse : {X Y : Type 0} (f : X → Y) (xs : List X) → map f (reverse xs) ≡ reverse (map f xs)
map-reverse f [] = refl
map-reverse f (x ∷ xs) = ap (map f) (reverse-append (x ∷ []) xs) ∙ map-append f (reverse xs) (x ∷ []) ∙ ap (λ l. l ++ f x ∷ []) (map-reverse f xs) ∙ sym (reverse-append (f x ∷ []) (map f xs))

-- the texts of a list that was put in order and cut
pub texts_in_order : {X Y : Type 0} (f : X → Y) (order : Order) (most : ℕ) (xs : List X) (ys : List Y) → map f xs ≡ ys
    → map f (take most (in_order order xs)) ≡ take most (in_order order ys)
texts_in_order f Given most xs ys e = sym (take-map f most xs) ∙ ap (take most) e
texts_in_order f Reversed most xs ys e = sym (take-map f most (reverse xs)) ∙ ap (take most) (map-reverse f xs ∙ ap reverse e)

differ_in_order : (order : Order) (paths : List (List ℕ)) → AllDiffer paths → AllDiffer (in_order order paths)
differ_in_order Given paths differ = differ
differ_in_order Reversed paths differ = AllPairs-reverse (λ a b. a ≢ b) (λ a b apart same. apart (sym same)) paths differ

moved_in_order : {X : Type 0} (order : Order) (xs : List X) → IsPermutation xs (in_order order xs)
moved_in_order Given xs = IsPermutation-refl xs
moved_in_order Reversed xs = IsPermutation-reverse xs

-- the first of the class files' paths in an order are a listing
pub is_listing : (files : List File) (order : Order) (folder : List ℕ) (most : ℕ) (paths : List (List ℕ)) → PathsDiffer files
    → paths ≡ take most (in_order order (class_paths folder files)) → IsListing (Some (held_of files)) folder most paths
is_listing files order folder most paths differ is =
    let passes : File → Bool = λ file. is_class_path folder file.0 in
    let held : Held = held_of files in
    let listed : List (List ℕ) = in_order order (class_paths folder files) in
    let class_differ : AllDiffer (class_paths folder files) =
    AllPairs-map path_of (λ a b. a ≢ b) (filter passes files)
    (AllPairs-filter (λ a b. path_of a ≢ path_of b) passes files (AllPairs-unmap path_of (λ a b. a ≢ b) files differ)) in
    let moved : IsPermutation listed (map path_of (class_files folder held)) =
    IsPermutation-trans listed (class_paths folder files) (map path_of (class_files folder held))
    (IsPermutation-sym (class_paths folder files) listed (moved_in_order order (class_paths folder files))) (class_paths_moved folder files differ) in
    let back : IsPermutation (map path_of (class_files folder held)) listed = IsPermutation-sym listed (map path_of (class_files folder held)) moved in
    let size : length listed ≡ length (class_files folder held) = length_permutation (map path_of (class_files folder held)) listed back ∙ length-map (class_files folder held) path_of in
    let cut : length paths ≡ min most (length listed) = ap length is ∙ length-take most listed in
    let all_pass : All (λ path. is_class_path folder path ≡ true) listed =
    All-permutation (λ path. is_class_path folder path ≡ true) (map path_of (class_files folder held)) listed back
    (All-map (λ path. is_class_path folder path ≡ true) path_of (class_files folder held) (class_files_pass folder held)) in
    let some_held : All (λ path. IsSome (bytes_at held path)) listed =
    All-permutation (λ path. IsSome (bytes_at held path)) (map path_of (class_files folder held)) listed back
    (All-map (λ path. IsSome (bytes_at held path)) path_of (class_files folder held)
    (All-weaker (λ file. bytes_at held file.0 ≡ Some file.1) (λ file. IsSome (bytes_at held file.0)) (λ file found. ap is_some found) (class_files folder held) (class_files_held folder held))) in
    record {
      differ = subst AllDiffer (sym is) (AllPairs-take (λ a b. a ≢ b) most listed (differ_in_order order (class_paths folder files) class_differ));
      bounded = omega arith;
      class_paths = subst (All (λ path. is_class_path folder path ≡ true)) (sym is) (All-take (λ path. is_class_path folder path ≡ true) most listed all_pass);
      reported = (λ few. subst (λ l. IsPermutation l (map path_of (class_files folder held))) (sym (is ∙ take_all most listed (omega arith))) moved, λ many. omega arith);
      held_paths = subst (All (λ path. IsSome (bytes_at held path))) (sym is) (All-take (λ path. IsSome (bytes_at held path)) most listed some_held);
    }

-- what a look-up by the list says of what is held
pub reported_by : (bytes : Option (List ℕ)) (p path : List ℕ) (list files : List (String × Vec ℕ)) → bytes ≡ find text_cmp p (files_in list) → p ≡ path → list ≡ files
    → bytes_at (held_of (files_in files)) path ≡ bytes
reported_by bytes p path list files found same_path same_list =
    bytes_at-held_of (files_in files) path ∙ sym (found ∙ ap (λ l. find text_cmp l (files_in list)) same_path ∙ ap (λ l. find text_cmp path (files_in l)) same_list)
