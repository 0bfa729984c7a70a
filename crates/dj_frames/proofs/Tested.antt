-- What tests of conditions say of lists.
use Rattle.std.proofs.Common.{◌≡◌, ℕ, zero, suc, ◌+◌, ◌<◌, Bool, false, List, ◌++◌, length, get_or, subst, arith, inl, inr}
use Rattle.std.specs.Prelude.{◌↔◌, All, AllPairs, IsTrue}
use Rattle.std.proofs.lemmas.Bool.{cases_lt}
use Rattle.std.proofs.lemmas.List.Elements.{All-append}
use Rattle.dj_ops.specs.declared.frames.Frame.{Frame}
use Rattle.dj_frames.proofs.Written.{all_of_prefix, all_of_back}

-- the first list passes, and the second is tested
pub then_second : {A : Type 0} (P : A → Type 0) (xs ys : List A) (r : Bool) → All P xs → (IsTrue r ↔ All P ys) → IsTrue r ↔ All P (xs ++ ys)
then_second P xs ys r first h = (λ t. All-append P xs ys first (h.0 t), λ all. h.1 (all_of_back P xs ys all))

-- the first list fails
pub else_first : {A : Type 0} (P : A → Type 0) (xs ys : List A) (r : Bool) → r ≡ false → (IsTrue r ↔ All P xs) → IsTrue r ↔ All P (xs ++ ys)
else_first P xs ys r fails h = (λ t. absurd cc, λ all. h.1 (all_of_prefix P xs ys all))

-- each frame's number is below the next one's
abbrev pub IsStepwise : List Frame → Type 0
IsStepwise frames = (k : ℕ) (d : Frame) → k + 1 < length frames → (get_or frames k d).at < (get_or frames (k + 1) d).at

pub stepwise_rises : (frames : List Frame) → IsStepwise frames → AllPairs (λ a b. a.at < b.at) frames
stepwise_rises frames steps i zero d lt within = absurd (omega (arith, lt))
stepwise_rises frames steps i (suc j) d lt within =
    let next : j + 1 ≡ suc j = omega arith in
    let step : (get_or frames j d).at < (get_or frames (suc j) d).at = subst (λ (k : ℕ). (get_or frames j d).at < (get_or frames k d).at) next (steps j d (omega (arith, within))) in
    elim (cases_lt i j) [
      | inl below ↦ omega (arith, stepwise_rises frames steps i j d below (omega (arith, within)), step)
      | inr ge ↦ let same : j ≡ i = omega (arith, lt, ge) in subst (λ (k : ℕ). (get_or frames k d).at < (get_or frames (suc j) d).at) same step
    ]
