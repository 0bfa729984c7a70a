-- Units of texts, one after another.
use Rattle.std.proofs.Common.{◌≡◌, ℕ, ◌+◌, ◌-◌, ◌*◌, ◌%◌, ◌/◌, ◌^◌, ◌≤◌, ◌<◌, zero, suc, true, false, Bool, ℤ, pos, List, [], ◌∷◌, ◌++◌, length, take, drop, get_or, min, Option, Some, None, nat_eq, if◌then◌else◌, refl, ap, sym, ◌∙◌, arith, append_assoc, append-nil}
use Rattle.std.proofs.lemmas.Int.{ints}
use Rattle.std.specs.Prelude.{slice_get, slice_range, unsigned_abs, FitsSigned, ◌-ℤ◌, ◌&&◌}
use Rattle.std.specs.Int.{w32, w64, int_wrap, cast_signed}
use Rattle.std.specs.List.{starts_with}
use Rattle.std.specs.Cmp.Lexicographic.{pointwise}
use Rattle.std.proofs.lemmas.List.{take_all, take_more, drop_more, get_or-drop, length-drop, length-take, length-take-le}
use Rattle.std.proofs.lemmas.Option.{slice_get_within, get_or_from_slice_get}
use Rattle.std.proofs.lemmas.Bool.{eq-eqb, ne_eqb}
use Rattle.std.proofs.Math.Nat.{mod-eq_of_lt}
use Rattle.dj_names.specs.trusted.Types.{same_name}
use Rattle.dj_model.specs.trusted.Natives.{hash_onto, difference}

-- ---- one unit more

pub range_more : (us : List ℕ) (from at x : ℕ) → from ≤ at → slice_get us at ≡ Some x → slice_range us from (at + 1) ≡ slice_range us from at ++ x ∷ []
range_more us from at x up got =
    let within = slice_get_within us at x got in
    let there : at - from < length (drop from us) = omega (arith, within, length-drop from us) in
    let last : get_or (drop from us) (at - from) x ≡ x =
    get_or-drop from us (at - from) x ∙ ap (λ k. get_or us k x) (omega arith) ∙ get_or_from_slice_get us at x x got in
    ap (λ k. take k (drop from us)) (omega arith) ∙ take_more (drop from us) (at - from) x there ∙ ap (λ u. take (at - from) (drop from us) ++ u ∷ []) last

-- all of them
pub range_all : (us : List ℕ) → slice_range us 0 (length us) ≡ us
range_all us = ap (λ k. take k us) (omega arith) ∙ take_all (length us) us (omega arith)

pub rest_more : (us : List ℕ) (at x : ℕ) → slice_get us at ≡ Some x → drop at us ≡ x ∷ drop (at + 1) us
rest_more us at x got = drop_more us at x (slice_get_within us at x got) ∙ ap (λ u. u ∷ drop (at + 1) us) (get_or_from_slice_get us at x x got)

-- ---- numbers of 32 and 64 bits

pub wrapped_32 : (n : ℕ) → n < 2 ^ 32 → cast_signed w32 n ≡ int_wrap w32 (pos n)
unfolding int_wrap
wrapped_32 n small = ap (cast_signed w32) (sym (mod-eq_of_lt small))

pub wrapped_64 : (n : ℕ) → n < 2 ^ 64 → cast_signed w64 n ≡ int_wrap w64 (pos n)
unfolding int_wrap
wrapped_64 n small = ap (cast_signed w64) (sym (mod-eq_of_lt small))

pub wrapped_low : (n : ℕ) → cast_signed w32 (n % 2 ^ 32) ≡ int_wrap w32 (pos n)
unfolding int_wrap
wrapped_low n = refl

-- ---- hashes

pub hash_more : (hash : ℕ) (us : List ℕ) (x : ℕ) → hash_onto hash (us ++ x ∷ []) ≡ 31 * hash_onto hash us + x
hash_more hash [] x = refl
hash_more hash (u ∷ us) x = hash_more (31 * hash + u) us x

-- ---- differences

left_out : (bs : List ℕ) → difference [] bs ≡ pos 0 -ℤ pos (length bs)
left_out [] = refl
left_out (b ∷ bs) = refl

right_out : (as_ : List ℕ) → difference as_ [] ≡ pos (length as_) -ℤ pos 0
right_out [] = refl
right_out (a ∷ as_) = refl

pub difference_past : (as_ bs : List ℕ) (at : ℕ) → at ≡ min (length as_) (length bs) → difference (drop at as_) (drop at bs) ≡ pos (length as_) -ℤ pos (length bs)
difference_past [] bs at e =
    let first : at ≡ 0 = omega (arith, e) in
    ap (λ k. difference (drop k []) (drop k bs)) first ∙ left_out bs
difference_past (a ∷ as_) [] at e =
    let first : at ≡ 0 = omega (arith, e) in
    ap (λ k. difference (drop k (a ∷ as_)) (drop k [])) first ∙ right_out (a ∷ as_)
difference_past (a ∷ as_) (b ∷ bs) zero e = absurd (omega (arith, e))
difference_past (a ∷ as_) (b ∷ bs) (suc at) e = difference_past as_ bs at (omega (arith, e)) ∙ omega (arith, ints)

pub difference_more : (as_ bs : List ℕ) (at x y : ℕ) → slice_get as_ at ≡ Some x → slice_get bs at ≡ Some y
    → difference (drop at as_) (drop at bs) ≡ (if nat_eq x y then difference (drop (at + 1) as_) (drop (at + 1) bs) else pos x -ℤ pos y)
difference_more as_ bs at x y got other = rw (rest_more as_ at x got, rest_more bs at y other) refl

-- ---- texts that are the same

pub same_more : (as_ bs : List ℕ) (at x y : ℕ) → slice_get as_ at ≡ Some x → slice_get bs at ≡ Some y
    → same_name (drop at as_) (drop at bs) ≡ (nat_eq x y && same_name (drop (at + 1) as_) (drop (at + 1) bs))
same_more as_ bs at x y got other = rw (rest_more as_ at x got, rest_more bs at y other) refl

pub lengths_differ : (as_ bs : List ℕ) → (length as_ ≡ length bs → ⊥) → same_name as_ bs ≡ false
lengths_differ [] [] differ = absurd (differ refl)
lengths_differ [] (b ∷ bs) differ = refl
lengths_differ (a ∷ as_) [] differ = refl
lengths_differ (a ∷ as_) (b ∷ bs) differ = both_false (nat_eq a b) (same_name as_ bs) (lengths_differ as_ bs (λ e. differ (ap suc e))) where
  both_false : (x y : Bool) → y ≡ false → (x && y) ≡ false
  both_false true y e = e
  both_false false y e = refl

pub begins_by : (as_ bs : List ℕ) (n : ℕ) → n ≡ length bs → same_name (take n bs) (take n as_) ≡ starts_with nat_eq as_ bs
begins_by as_ bs n e = ap (λ l. same_name l (take n as_)) (take_all n bs (omega (arith, e))) ∙ ap (λ k. same_name bs (take k as_)) e

pub begins_not : (as_ bs : List ℕ) → length as_ < length bs → starts_with nat_eq as_ bs ≡ false
begins_not as_ bs less = lengths_differ bs (take (length bs) as_) (λ e. omega (arith, e, less, length-take (length bs) as_))

pub same_by : (as_ bs : List ℕ) (n : ℕ) → n ≡ length as_ → n ≡ length bs → same_name (take n as_) (take n bs) ≡ same_name as_ bs
same_by as_ bs n e f = ap (λ l. same_name l (take n bs)) (take_all n as_ (omega (arith, e))) ∙ ap (same_name as_) (take_all n bs (omega (arith, f)))

-- ---- a loop's step on 32 bits

pub low_step : (h x : ℕ) → (31 * (h % 2 ^ 32) % 2 ^ 32 + x) % 2 ^ 32 ≡ (31 * h + x) % 2 ^ 32
low_step h x = omega arith

pub hash_taken : (us : List ℕ) (at x : ℕ) → slice_get us at ≡ Some x → hash_onto 0 (take (at + 1) us) ≡ 31 * hash_onto 0 (take at us) + x
hash_taken us at x got =
    ap (hash_onto 0) (take_more us at x (slice_get_within us at x got) ∙ ap (λ u. take at us ++ u ∷ []) (get_or_from_slice_get us at x x got)) ∙ hash_more 0 (take at us) x

-- ---- a loop's step over two texts

slice_take : (us : List ℕ) (count at : ℕ) → at < count → slice_get (take count us) at ≡ slice_get us at
slice_take us zero at few = absurd (omega (arith, few))
slice_take [] (suc count) at few = refl
slice_take (u ∷ us) (suc count) zero few = refl
slice_take (u ∷ us) (suc count) (suc at) few = slice_take us count at (omega (arith, few))

apart_tested : (x y : ℕ) → (x ≡ y → ⊥) → nat_eq x y ≡ false
apart_tested x y apart = ne_eqb x y apart

alike_tested : (x y : ℕ) → x ≡ y → nat_eq x y ≡ true
alike_tested x y e = eq-eqb x y e

pub step_apart : (as_ bs : List ℕ) (count at x y : ℕ) → at < count → slice_get as_ at ≡ Some x → slice_get bs at ≡ Some y → (x ≡ y → ⊥)
    → same_name (drop at (take count as_)) (drop at (take count bs)) ≡ false
step_apart as_ bs count at x y few got other apart =
    same_more (take count as_) (take count bs) at x y (slice_take as_ count at few ∙ got) (slice_take bs count at few ∙ other)
    ∙ ap (λ b. b && same_name (drop (at + 1) (take count as_)) (drop (at + 1) (take count bs))) (apart_tested x y apart)

pub step_alike : (as_ bs : List ℕ) (count at x y : ℕ) → at < count → slice_get as_ at ≡ Some x → slice_get bs at ≡ Some y → x ≡ y
    → same_name (drop at (take count as_)) (drop at (take count bs)) ≡ same_name (drop (at + 1) (take count as_)) (drop (at + 1) (take count bs))
step_alike as_ bs count at x y few got other alike =
    same_more (take count as_) (take count bs) at x y (slice_take as_ count at few ∙ got) (slice_take bs count at few ∙ other)
    ∙ ap (λ b. b && same_name (drop (at + 1) (take count as_)) (drop (at + 1) (take count bs))) (alike_tested x y alike)

pub difference_apart : (as_ bs : List ℕ) (at x y : ℕ) → slice_get as_ at ≡ Some x → slice_get bs at ≡ Some y → (x ≡ y → ⊥)
    → difference (drop at as_) (drop at bs) ≡ pos x -ℤ pos y
difference_apart as_ bs at x y got other apart =
    difference_more as_ bs at x y got other ∙ ap (λ b. if b then difference (drop (at + 1) as_) (drop (at + 1) bs) else pos x -ℤ pos y) (apart_tested x y apart)

pub difference_alike : (as_ bs : List ℕ) (at x y : ℕ) → slice_get as_ at ≡ Some x → slice_get bs at ≡ Some y → x ≡ y
    → difference (drop at as_) (drop at bs) ≡ difference (drop (at + 1) as_) (drop (at + 1) bs)
difference_alike as_ bs at x y got other alike =
    difference_more as_ bs at x y got other ∙ ap (λ b. if b then difference (drop (at + 1) as_) (drop (at + 1) bs) else pos x -ℤ pos y) (alike_tested x y alike)

pub hashed : (us : List ℕ) (at hash : ℕ) → hash ≡ hash_onto 0 (take at us) % 2 ^ 32 → length us ≤ at → cast_signed w32 hash ≡ int_wrap w32 (pos (hash_onto 0 us))
hashed us at hash e all = ap (cast_signed w32) (e ∙ ap (λ l. hash_onto 0 l % 2 ^ 32) (take_all at us all)) ∙ wrapped_low (hash_onto 0 us)
