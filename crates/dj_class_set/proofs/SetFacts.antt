-- Sets of class files at plain values.
use Rattle.std.proofs.Common.{◌≡◌, ℕ, ◌<◌, List, [], ◌∷◌, get_or, codes, refl, ap, inl, inr, arith}
use Rattle.std.specs.Ordering.{nat_cmp}
use Rattle.std.specs.declared.cmp.Ordering.TheVariants.{Less, Equal, Greater}
use Rattle.std.specs.Cmp.Lexicographic.{slice_cmp}
use Rattle.std.proofs.lemmas.List.Elements.{All-nil, All-cons}
use Rattle.std.proofs.lemmas.List.Kept.{AllPairs-cons}
use Rattle.std.proofs.lemmas.List.Sorted.{Contains-permutation, IsPermutation-middle, IsPermutation-sym}
use Rattle.dj_edge.specs.trusted.Held.{File}
use Rattle.dj_edge.proofs.Pairs.{AllPairs-nil}
use Rattle.dj_report.proofs.Sorted.{contains_first, contains_later, contains_none, contains_cases}
use Rattle.dj_class_set.specs.ClassSets.{TextsRise, IsClassSet, AreByPath}

abbrev IsBelow : List ℕ → List ℕ → Type 0
IsBelow a b = slice_cmp nat_cmp a b ≡ Less

two_rise : (a b : List ℕ) → IsBelow a b → TextsRise (a ∷ b ∷ [])
two_rise a b less =
    AllPairs-cons IsBelow a (b ∷ []) (All-cons (IsBelow a) b [] less (All-nil (IsBelow a)))
    (AllPairs-cons IsBelow b [] (All-nil (IsBelow b)) (AllPairs-nil IsBelow))

-- a full stop stands before a slash, a slash before letters, and capitals before small ones
order-stop : TextsRise (codes "A.class" ∷ codes "A/B.class" ∷ [])
order-stop = two_rise (codes "A.class") (codes "A/B.class") refl

order-prefix : TextsRise (codes "A/B.class" ∷ codes "AB.class" ∷ [])
order-prefix = two_rise (codes "A/B.class") (codes "AB.class") refl

order-capital : TextsRise (codes "B.class" ∷ codes "a.class" ∷ [])
order-capital = two_rise (codes "B.class") (codes "a.class") refl

order-falls : TextsRise (codes "B" ∷ codes "A" ∷ []) → ⊥
order-falls rise = let less : Greater ≡ Less = rise 0 1 [] (omega arith) (omega arith) in absurd cc

order-same : TextsRise (codes "A" ∷ codes "A" ∷ []) → ⊥
order-same rise = let less : Equal ≡ Less = rise 0 1 [] (omega arith) (omega arith) in absurd cc

abbrev a : File
a = (codes "A", 1 ∷ [])

abbrev b : File
b = (codes "B", 2 ∷ [])

less_is_other : (m n : ℕ) → m < n → m ≡ n → ⊥
less_is_other m n less same = absurd (omega (arith, less, same))

a_is_b : a ≡ b → ⊥
a_is_b e = less_is_other 65 66 (omega arith) (ap (λ (file : File). get_or file.0 0 0) e)

set-none : AreByPath [] []
set-none = record { same = λ file. (λ m. m, λ m. m); rise = AllPairs-nil IsBelow }

-- the set of two files that stand the other way round
set-sorted : AreByPath (b ∷ a ∷ []) (a ∷ b ∷ [])
set-sorted =
    let moved = IsPermutation-middle (b ∷ []) a [] in
    record {
      same = λ file. (
        λ m. Contains-permutation (a ∷ b ∷ []) (b ∷ a ∷ []) file (IsPermutation-sym (b ∷ a ∷ []) (a ∷ b ∷ []) moved) m,
        λ m. Contains-permutation (b ∷ a ∷ []) (a ∷ b ∷ []) file moved m,
      );
      rise = two_rise (codes "A") (codes "B") refl;
    }

set-unsorted : AreByPath (b ∷ a ∷ []) (b ∷ a ∷ []) → ⊥
set-unsorted are = order-falls are.rise

set-missing : AreByPath (a ∷ b ∷ []) (a ∷ []) → ⊥
set-missing are =
    elim (contains_cases a [] b ((are.same b).1 (contains_later a (b ∷ []) b (contains_first b [])))) [
      | inl e ↦ a_is_b e
      | inr m ↦ contains_none b m
    ]

set-added : AreByPath (a ∷ []) (a ∷ b ∷ []) → ⊥
set-added are =
    elim (contains_cases a [] b ((are.same b).0 (contains_later a (b ∷ []) b (contains_first b [])))) [
      | inl e ↦ a_is_b e
      | inr m ↦ contains_none b m
    ]

set-twice : AreByPath (a ∷ []) (a ∷ a ∷ []) → ⊥
set-twice are = order-same are.rise

-- files that are judged together stand in order
judged-unsorted : IsClassSet (b ∷ a ∷ []) → ⊥
judged-unsorted is = order-falls is.rise
