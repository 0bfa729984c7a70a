-- Numbers that are 0 past the end of their list.
use Rattle.std.proofs.Common.{◌≡◌, ◌≢◌, ◌<◌, ◌≤◌, ◌-◌, ℕ, zero, suc, List, [], ◌∷◌, ◌++◌, get_or, set, take, replicate, length, refl, ap, sym, subst, ◌∙◌, arith}
use Rattle.std.proofs.lemmas.List.{get_or-set_same, get_or-set_other, get_or_past, take_all, length-append, length-replicate}
use Rattle.dj_stack.specs.Parts.{Put}

pub past_end : (xs : List ℕ) (at : ℕ) → (at < length xs → ⊥) → 0 ≡ get_or xs at 0
past_end xs at past = sym (get_or_past xs at 0 (omega (arith, past)))

pub put_within : (xs : List ℕ) (at n : ℕ) → at < length xs → Put xs (set xs at n) at n
put_within xs at n within = record { here = get_or-set_same xs at n 0 within; others = λ i other. get_or-set_other xs at i n 0 other }

pub put_zero : (xs : List ℕ) (at : ℕ) → (at < length xs → ⊥) → Put xs xs at 0
put_zero xs at past = record { here = get_or_past xs at 0 (omega (arith, past)); others = λ i other. refl }

zeros : (m i : ℕ) → get_or {A = ℕ} (replicate {A = ℕ} m 0) i 0 ≡ zero
zeros zero i = refl
zeros (suc m) zero = refl
zeros (suc m) (suc i) = zeros m i

zero_tail : (xs : List ℕ) (m i : ℕ) → get_or (xs ++ replicate {A = ℕ} m 0) i 0 ≡ get_or xs i 0
zero_tail [] m i = zeros m i
zero_tail (x ∷ xs) m zero = refl
zero_tail (x ∷ xs) m (suc i) = zero_tail xs m i

pub at_last : (xs : List ℕ) (n : ℕ) → get_or (xs ++ n ∷ []) (length xs) 0 ≡ n
at_last [] n = refl
at_last (x ∷ xs) n = at_last xs n

pub but_last : (xs : List ℕ) (n i : ℕ) → i ≢ length xs → get_or (xs ++ n ∷ []) i 0 ≡ get_or xs i 0
but_last [] n zero other = absurd (other refl)
but_last [] n (suc i) other = refl
but_last (x ∷ xs) n zero other = refl
but_last (x ∷ xs) n (suc i) other = but_last xs n i (λ same. other (ap suc same))

pub put_past : (xs : List ℕ) (at n : ℕ) → length xs ≤ at → Put xs ((take at xs ++ replicate {A = ℕ} (at - length xs) 0) ++ n ∷ []) at n
put_past xs at n past =
    let all : take at xs ≡ xs = take_all at xs past in
    let count : length (xs ++ replicate {A = ℕ} (at - length xs) 0) ≡ at = omega (arith, past, length-append xs (replicate {A = ℕ} (at - length xs) 0), length-replicate {A = ℕ} (at - length xs) 0) in
    rw all (record {
      here = subst (λ (place : ℕ). get_or ((xs ++ replicate {A = ℕ} (at - length xs) 0) ++ n ∷ []) place 0 ≡ n) count (at_last (xs ++ replicate {A = ℕ} (at - length xs) 0) n);
      others = λ i other. but_last (xs ++ replicate {A = ℕ} (at - length xs) 0) n i (λ same. other (same ∙ count)) ∙ zero_tail xs (at - length xs) i;
    })
