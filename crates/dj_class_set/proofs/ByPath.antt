-- Lists of files in the order of their paths: a sort makes them, and their members determine them.
use Rattle.std.proofs.Common.{◌≡◌, ◌≢◌, ℕ, ◌+◌, ◌≤◌, ◌∙◌, ◌↔◌, false, List, [], ◌∷◌, length, map, get_or, AllPairs, Contains, IsSorted, IsSortedByKey, IsPermutation, refl, sym, ap, subst, inl, inr, arith}
use Rattle.std.specs.Ordering.{nat_cmp, is_lt, ordering_reverse, ordering_then}
use Rattle.std.specs.declared.cmp.Ordering.{Ordering}
use Rattle.std.specs.declared.cmp.Ordering.TheVariants.{Less, Equal, Greater}
use Rattle.std.specs.Cmp.Lexicographic.{slice_cmp, nat_list_eq_equiv}
use Rattle.std.specs.FinMap.{slice_cmp-IsAntisymmetric, nat_cmp-IsAntisymmetric}
use Rattle.std.specs.Global.{Vec}
use Rattle.std.specs.Str.{bytes_eq}
use Rattle.std.specs.String.{string_cmp, string_cmp_total}
use Rattle.std.proofs.lemmas.Cmp.{nat_list_cmp_total, tied_itself}
use Rattle.std.proofs.lemmas.List.{length-map}
use Rattle.std.proofs.lemmas.List.Elements.{All-contains, All-from_recursion, recursion_from_All}
use Rattle.std.proofs.lemmas.List.Sorted.{ranks_by, All-permutation, Contains-permutation, length_permutation, sum_by-IsPermutation, IsPermutation-map, IsPermutation-sym}
use Rattle.std.proofs.lemmas.Map.Keys.{IsDistinct-IsPermutation}
use Rattle.std.proofs.lemmas.Map.Made.{AllPairs-from_IsDistinct, IsDistinct-from_AllPairs}
use Rattle.std.proofs.lemmas.Slice.Eq.{bytes_eq-Decides}
use Rattle.dj_edge.specs.trusted.Counts.{AllDiffer}
use Rattle.dj_edge.specs.trusted.Held.{File}
use Rattle.dj_edge.specs.InMemory.{String, file_in, files_in, PathsDiffer}
use Rattle.dj_edge.proofs.Pairs.{AllPairs-head, AllPairs-tail, AllPairs-map, AllPairs-unmap, AllPairs-weaker}
use Rattle.dj_edge.proofs.Sorting.{pairs_from_sorted}
use Rattle.dj_report.proofs.Sorted.{contains_first, contains_later, contains_none, contains_cases}
use Rattle.dj_class_set.specs.ClassSets.{TextsRise, PathsRise, IsClassSet, AreByPath}
use Rattle.dj_class_set.specs.trusted.Limits.{most_files, most_file_bytes, most_total_bytes, AreWithin}

-- ---- the order of texts

abbrev text_cmp : List ℕ → List ℕ → Ordering
text_cmp = slice_cmp nat_cmp

one_way : (a b : List ℕ) → text_cmp a b ≡ Less → text_cmp b a ≡ Less → ⊥
one_way a b less more =
    let turned : Less ≡ Greater = sym less ∙ nat_list_cmp_total.antisymm a b ∙ ap ordering_reverse more in
    absurd cc

less_differs : (a b : List ℕ) → text_cmp a b ≡ Less → a ≢ b
less_differs a b less same =
    let tied : text_cmp a b ≡ Equal = ap (text_cmp a) (sym same) ∙ tied_itself nat_list_cmp_total a in
    cc

less_from : (r s : Ordering) → r ≡ ordering_reverse s → is_lt s ≡ false → (r ≡ Equal → ⊥) → r ≡ Less
less_from Less s e back apart = refl
less_from Equal s e back apart = absurd (apart refl)
less_from Greater Less e back apart = absurd cc
less_from Greater Equal e back apart = absurd cc
less_from Greater Greater e back apart = absurd cc

-- texts that differ still do in another order
differ_moved : (xs ys : List (List ℕ)) → IsPermutation xs ys → AllDiffer xs → AllDiffer ys
differ_moved xs ys moved differ =
    AllPairs-from_IsDistinct bytes_eq-Decides ys
    (IsDistinct-IsPermutation bytes_eq (λ a b. nat_list_eq_equiv.symm a b) xs ys moved (IsDistinct-from_AllPairs bytes_eq-Decides xs differ))

-- texts that differ, sorted, rise
pub texts_rise : (xs ys : List (List ℕ)) → IsPermutation xs ys → AllDiffer xs → AllPairs (λ a b. is_lt (slice_cmp nat_cmp b a) ≡ false) ys → TextsRise ys
texts_rise xs ys moved differ sorted =
    let apart : AllDiffer ys = differ_moved xs ys moved differ in
    λ i j d before within.
    let a : List ℕ = get_or ys i d in
    let b : List ℕ = get_or ys j d in
    less_from (text_cmp a b) (text_cmp b a) (nat_list_cmp_total.antisymm a b) (sorted i j d before within)
    (λ tied. apart i j d before within (slice_cmp-IsAntisymmetric nat_cmp-IsAntisymmetric a b tied))

-- ---- the members determine a list in order

module _ {X : Type 0} (R : X → X → Type 0) (never_back : (a b : X) → R a b → R b a → ⊥) where
  first_same : (x y : X) (xs ys : List X) → AllPairs R (x ∷ xs) → AllPairs R (y ∷ ys) → Contains (y ∷ ys) x → Contains (x ∷ xs) y → x ≡ y
  first_same x y xs ys p q m n =
      elim (contains_cases y ys x m) [
        | inl e ↦ sym e
        | inr later ↦ elim (contains_cases x xs y n) [
          | inl e ↦ e
          | inr other ↦ absurd (never_back x y (All-contains (R x) xs y (AllPairs-head R x xs p) other) (All-contains (R y) ys x (AllPairs-head R y ys q) later))
        ]
      ]

  not_first : (x y v : X) (xs ys : List X) → x ≡ y → AllPairs R (x ∷ xs) → Contains xs v → Contains (y ∷ ys) v → Contains ys v
  not_first x y v xs ys e p m n =
      elim (contains_cases y ys v n) [
        | inl same ↦
            let itself : R x x = subst (R x) (sym (e ∙ same)) (All-contains (R x) xs v (AllPairs-head R x xs p) m) in
            absurd (never_back x x itself itself)
        | inr later ↦ later
      ]

  same_from_members : (xs ys : List X) → AllPairs R xs → AllPairs R ys → ((v : X) → Contains xs v ↔ Contains ys v) → xs ≡ ys
  same_from_members [] [] p q h = refl
  same_from_members [] (y ∷ ys) p q h = absurd (contains_none y ((h y).1 (contains_first y ys)))
  same_from_members (x ∷ xs) [] p q h = absurd (contains_none x ((h x).0 (contains_first x xs)))
  same_from_members (x ∷ xs) (y ∷ ys) p q h =
      let firsts : x ≡ y = first_same x y xs ys p q ((h x).0 (contains_first x xs)) ((h y).1 (contains_first y ys)) in
      let rests : xs ≡ ys = same_from_members xs ys (AllPairs-tail R x xs p) (AllPairs-tail R y ys q) (λ v. (
        λ m. not_first x y v xs ys firsts p m ((h v).0 (contains_later x xs v m)),
        λ m. not_first y x v ys xs (sym firsts) q m ((h v).1 (contains_later y ys v m)),
      )) in
      λ i. firsts i ∷ rests i

-- ---- files

abbrev path_of : File → List ℕ
path_of file = file.0

-- the path of the one file is below that of the other
abbrev IsBelow : File → File → Type 0
IsBelow a b = text_cmp a.0 b.0 ≡ Less

files_rise : (files : List File) → PathsRise files → AllPairs IsBelow files
files_rise files rise = AllPairs-unmap path_of (λ a b. text_cmp a b ≡ Less) files rise

pub rising_differ : (files : List File) → PathsRise files → PathsDiffer files
rising_differ files rise = AllPairs-weaker (λ a b. text_cmp a b ≡ Less) (λ a b. a ≢ b) less_differs (map path_of files) rise

-- two sets of the same files are one
pub one_set : (files a b : List File) → AreByPath files a → AreByPath files b → a ≡ b
one_set files a b first second =
    same_from_members IsBelow (λ x y. one_way x.0 y.0) a b (files_rise a first.rise) (files_rise b second.rise)
    (λ file. (λ m. (second.same file).1 ((first.same file).0 m), λ m. (first.same file).1 ((second.same file).0 m)))

-- files in order are the set of themselves
pub in_order_already : (files set : List File) → PathsRise files → AreByPath files set → set ≡ files
in_order_already files set rise are =
    one_set files set files are (record { same = λ file. (λ m. m, λ m. m); rise = rise })

-- ---- a sort

not_less_first : (r s : Ordering) → is_lt (ordering_then r s) ≡ false → is_lt r ≡ false
not_less_first Less s e = e
not_less_first Equal s e = refl
not_less_first Greater s e = refl

-- pairs that are sorted are sorted by the first of each
pub sorted_by_first : {A B : Type 0} (R : A → A → Ordering) (S : B → B → Ordering) (xs : List (A × B)) → IsSorted (λ x y. ordering_then (R x.0 y.0) (S x.1 y.1)) xs
    → IsSortedByKey (λ (x : A × B). x.0) R xs
sorted_by_first {A} {B} R S xs sorted k d low high =
    let a : A × B = get_or xs (k + 1) d in
    let b : A × B = get_or xs k d in
    not_less_first (R a.0 b.0) (S a.1 b.1) (sorted k d low high)

within_moved : (files set : List File) → IsPermutation files set → AreWithin files → AreWithin set
within_moved files set moved within =
    let Short : File → Type 0 = λ file. length file.1 ≤ most_file_bytes in record {
      each = recursion_from_All Short set (All-permutation Short files set moved (All-from_recursion Short files within.each));
      together = subst (λ n. n ≤ most_total_bytes) (sym (sum_by-IsPermutation (λ (file : File). length file.1) files set moved)) within.together;
    }

module _ (files set : List (String × Vec ℕ)) (moved : IsPermutation files set) (sorted : IsSortedByKey (λ (file : String × Vec ℕ). file.0) string_cmp set) (differ : PathsDiffer (files_in files)) where
  files_moved : IsPermutation (files_in files) (files_in set)
  files_moved = IsPermutation-map file_in files set moved

  sorted_rise : PathsRise (files_in set)
  sorted_rise =
      let NotAbove : List ℕ → List ℕ → Type 0 = λ a b. is_lt (text_cmp b a) ≡ false in
      texts_rise (map path_of (files_in files)) (map path_of (files_in set)) (IsPermutation-map path_of (files_in files) (files_in set) files_moved) differ
      (AllPairs-map path_of NotAbove (files_in set)
      (AllPairs-map file_in (λ a b. NotAbove a.0 b.0) set
      (pairs_from_sorted (λ (a b : String × Vec ℕ). is_lt (string_cmp a.0 b.0)) (ranks_by string_cmp_total (λ (file : String × Vec ℕ). file.0)) set sorted)))

  pub sorted_set : length files ≤ most_files → AreWithin (files_in files) → IsClassSet (files_in set)
  sorted_set few within =
      record {
        few = omega (arith, few, length_permutation files set moved, length-map set file_in);
        within = within_moved (files_in files) (files_in set) files_moved within;
        rise = sorted_rise;
      }

  pub sorted_by_path : AreByPath (files_in files) (files_in set)
  sorted_by_path =
      record {
        same = λ file. (
          λ m. Contains-permutation (files_in set) (files_in files) file (IsPermutation-sym (files_in files) (files_in set) files_moved) m,
          λ m. Contains-permutation (files_in files) (files_in set) file files_moved m,
        );
        rise = sorted_rise;
      }
