-- Interfaces above a class, by numbers: this many levels are enough where the listed ones are known.
use Rattle.std.proofs.Common.{◌≡◌, ℕ, zero, suc, ◌+◌, ◌-◌, ◌^◌, ◌<◌, ◌≤◌, true, List, [], ◌∷◌, refl, sym, ◌∙◌, ap, subst, inl, inr, arith}
use Rattle.std.specs.List.{flat_map}
use Rattle.std.proofs.lemmas.Bool.{false≢true}
use Rattle.dj_model.specs.trusted.Program.{Program}
use Rattle.dj_model.specs.trusted.Linking.{most_classes}
use Rattle.dj_class_table.specs.Tables.{interface_numbers}
use Rattle.dj_resolution.specs.Numbers.{has, with_all, numbers_from, numbers_above, IsEnough}
use Rattle.dj_resolution.proofs.Lists.{has_here, has_more, has_cases, flat_has, has_flat, flat_alike, all_keeps, all_has, all_cases, all_there}

-- ---- more levels have no fewer interfaces

more_levels : (program : Program) (n m : ℕ) (classes : List ℕ) (z : ℕ) → has (numbers_from n program classes) z ≡ true → has (numbers_from (n + m) program classes) z ≡ true
unfolding numbers_from
more_levels program zero m classes z there = absurd (false≢true there)
more_levels program (suc n) m classes z there =
    let above : (k : ℕ) × (has classes k ≡ true) × (has (k ∷ numbers_from n program (interface_numbers program k)) z ≡ true) =
    has_flat (λ k. k ∷ numbers_from n program (interface_numbers program k)) classes z there in
    let k = above.0 in
    let next : suc n + m ≡ suc (n + m) = omega arith in
    rw next
    (flat_has (λ k. k ∷ numbers_from (n + m) program (interface_numbers program k)) classes k z above.1 (elim (has_cases (numbers_from n program (interface_numbers program k)) k z above.2) [
      | inl e ↦ has_here (numbers_from (n + m) program (interface_numbers program k)) k z e
      | inr h ↦ has_more (numbers_from (n + m) program (interface_numbers program k)) k z (more_levels program n m (interface_numbers program k) z h)
    ]))

-- what is above an interface that is above is above
above_above : (program : Program) (n m : ℕ) (classes : List ℕ) (j z : ℕ) → has (numbers_from n program classes) j ≡ true → has (numbers_from m program (interface_numbers program j)) z ≡ true → has (numbers_from (n + m) program classes) z ≡ true
unfolding numbers_from
above_above program zero m classes j z there over = absurd (false≢true there)
above_above program (suc n) m classes j z there over =
    let above : (k : ℕ) × (has classes k ≡ true) × (has (k ∷ numbers_from n program (interface_numbers program k)) j ≡ true) =
    has_flat (λ k. k ∷ numbers_from n program (interface_numbers program k)) classes j there in
    let k = above.0 in
    let next : suc n + m ≡ suc (n + m) = omega arith in
    let swapped : m + n ≡ n + m = omega arith in
    rw next
    (flat_has (λ k. k ∷ numbers_from (n + m) program (interface_numbers program k)) classes k z above.1
    (has_more (numbers_from (n + m) program (interface_numbers program k)) k z (elim (has_cases (numbers_from n program (interface_numbers program k)) k j above.2) [
      | inl e ↦ subst (λ (i : ℕ). has (numbers_from (n + m) program (interface_numbers program i)) z ≡ true) (sym e) (subst (λ (i : ℕ). has (numbers_from i program (interface_numbers program j)) z ≡ true) swapped (more_levels program m n (interface_numbers program j) z over))
      | inr h ↦ above_above program n m (interface_numbers program k) j z h over
    ])))

-- ---- levels that are enough

pub enough_more : (program : Program) (levels class : ℕ) → IsEnough program levels class → IsEnough program (levels + 1) class
enough_more program levels class enough = record {
  same = λ n.
      (let more : n + (levels + 1) ≡ (n + 1) + levels = omega arith in
      let one : levels + 1 ≡ 1 + levels = omega arith in
      ap (λ (m : ℕ). numbers_from m program (interface_numbers program class)) more ∙ enough.same (n + 1) ∙ sym (ap (λ (m : ℕ). numbers_from m program (interface_numbers program class)) one ∙ enough.same 1));
}

-- a class needs one level more than those that it lists
pub enough_next : (program : Program) (levels class : ℕ) → ((k : ℕ) → has (interface_numbers program class) k ≡ true → IsEnough program levels k) → IsEnough program (levels + 1) class
unfolding numbers_from
enough_next program levels class each = record {
  same = λ n.
      (let more : n + (levels + 1) ≡ suc (n + levels) = omega arith in
      let one : suc levels ≡ levels + 1 = omega arith in
      ap (λ (m : ℕ). numbers_from m program (interface_numbers program class)) more
      ∙ flat_alike (λ k. k ∷ numbers_from (n + levels) program (interface_numbers program k)) (λ k. k ∷ numbers_from levels program (interface_numbers program k)) (interface_numbers program class)
      (λ k there. ap (λ (ks : List ℕ). k ∷ ks) ((each k there).same n))
      ∙ ap (λ (m : ℕ). numbers_from m program (interface_numbers program class)) one);
}

enough_at : (program : Program) (levels class m : ℕ) → IsEnough program levels class → levels ≤ m → numbers_from m program (interface_numbers program class) ≡ numbers_from levels program (interface_numbers program class)
enough_at program levels class m enough le =
    let whole : m ≡ (m - levels) + levels = omega arith in
    ap (λ (n : ℕ). numbers_from n program (interface_numbers program class)) whole ∙ enough.same (m - levels)

pub most_is : most_classes ≡ suc 4294967295
unfolding most_classes
most_is = refl

listed_above : (program : Program) (levels class m : ℕ) → ((k : ℕ) → has (interface_numbers program class) k ≡ true → IsEnough program levels k) → levels ≤ m
    → numbers_from (suc m) program (interface_numbers program class) ≡ flat_map (λ k. k ∷ numbers_from (suc m) program (interface_numbers program k)) (interface_numbers program class)
unfolding numbers_from
listed_above program levels class m each le =
    flat_alike (λ k. k ∷ numbers_from m program (interface_numbers program k)) (λ k. k ∷ numbers_from (suc m) program (interface_numbers program k)) (interface_numbers program class)
    (λ k there. ap (λ (ks : List ℕ). k ∷ ks) (enough_at program levels k m (each k there) le ∙ sym (enough_at program levels k (suc m) (each k there) (omega (arith, le)))))

-- the interfaces above a class are those that it lists, each with those above it
pub above_listed : (program : Program) (levels class : ℕ) → ((k : ℕ) → has (interface_numbers program class) k ≡ true → IsEnough program levels k) → levels < 2 ^ 32
    → numbers_above program class ≡ flat_map (λ k. k ∷ numbers_above program k) (interface_numbers program class)
unfolding numbers_above
above_listed program levels class each le = rw most_is (listed_above program levels class 4294967295 each (omega (arith, le)))

-- what is above an interface above is above
pub above_through : (program : Program) (levels class : ℕ) → IsEnough program levels class → levels < 2 ^ 32 → (j z : ℕ)
    → has (numbers_above program class) j ≡ true → has (numbers_above program j) z ≡ true → has (numbers_above program class) z ≡ true
unfolding numbers_above
above_through program levels class enough lt j z there over =
    let few : levels ≤ most_classes = rw most_is (omega (arith, lt)) in
    let all : levels ≤ most_classes + most_classes = omega (arith, few) in
    rw (enough_at program levels class most_classes enough few ∙ sym (enough_at program levels class (most_classes + most_classes) enough all))
    (above_above program most_classes most_classes (interface_numbers program class) j z there over)

-- ---- the list so far

-- what is above a number in the list is in the list
pub record IsClosed (program : Program) (list : List ℕ) : Type 0 where
  pub above : (k z : ℕ) → has list k ≡ true → has (numbers_above program k) z ≡ true → has list z ≡ true

pub closed_none : (program : Program) → IsClosed program []
closed_none program = record { above = λ k z there over. absurd (false≢true there) }

pub closed_more : (program : Program) (levels : ℕ) (list : List ℕ) (j : ℕ) → IsClosed program list → IsEnough program levels j → levels < 2 ^ 32
    → IsClosed program (with_all list (j ∷ numbers_above program j))
closed_more program levels list j closed enough lt = record {
  above = λ k z there over.
      elim (all_cases list (j ∷ numbers_above program j) k there) [
        | inl h ↦ all_keeps list (j ∷ numbers_above program j) z (closed.above k z h over)
        | inr h ↦ all_has list (j ∷ numbers_above program j) z (has_more (numbers_above program j) j z (elim (has_cases (numbers_above program j) j k h) [
          | inl e ↦ rw e over
          | inr up ↦ above_through program levels j enough lt k z up over
        ]))
      ];
}

-- a number that is there brings nothing
pub nothing_new : (program : Program) (list : List ℕ) (j : ℕ) → IsClosed program list → has list j ≡ true → with_all list (j ∷ numbers_above program j) ≡ list
nothing_new program list j closed there =
    all_there list (j ∷ numbers_above program j) (λ z h. elim (has_cases (numbers_above program j) j z h) [ inl e ↦ rw (← e) there | inr up ↦ closed.above j z there up ])
