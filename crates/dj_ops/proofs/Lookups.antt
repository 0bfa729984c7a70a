-- What a number finds among pairs: in turn, and by halving where their matches rise.
use Rattle.std.proofs.Common.{◌≡◌, ℕ, zero, suc, ◌+◌, ◌-◌, ◌<◌, ◌≤◌, ◌&&◌, Bool, true, false, ℤ, ◌≤ℤ◌, ◌<ℤ◌, List, [], ◌∷◌, ◌++◌, length, drop, get_or, Some, None, int_lt, int_le, if◌then◌else◌, refl, sym, ap, subst, ◌∙◌, arith, inl, inr}
use Rattle.std.specs.List.Sorted.{IsPartitionPoint, IsPartitionedBy}
use Rattle.std.proofs.lemmas.Bool.{cases_lt}
use Rattle.std.proofs.lemmas.Int.{ints}
use Rattle.std.proofs.lemmas.List.{at_drop_more, at_drop_all}
use Rattle.dj_ops.specs.trusted.Lookups.{rises, rises_from}
use Rattle.dj_ops.specs.Lookups.{first_target, is_match, target_if}
use Rattle.dj_ops.proofs.Rising.{Pair, both_from, le_from, lt_from, lt_true, rising_from}

-- ---- a pair more

-- the last match, or z where there is none
abbrev last_from : ℤ → List Pair → ℤ
last_from z [] = z
last_from z (pair ∷ pairs) = last_from pair.0 pairs

regrouped : (a b c : Bool) → (a && (b && c)) ≡ ((a && b) && c)
regrouped true b c = refl
regrouped false b c = refl

with_true : (b : Bool) → (b && true) ≡ b
with_true true = refl
with_true false = refl

grown_from : (z : ℤ) (pairs : List Pair) (item : Pair) → (rises_from z pairs && int_lt (last_from z pairs) item.0) ≡ rises_from z (pairs ++ item ∷ [])
grown_from z [] item = sym (with_true (int_lt z item.0))
grown_from z (pair ∷ pairs) item =
    sym (regrouped (int_lt z pair.0) (rises_from pair.0 pairs) (int_lt (last_from pair.0 pairs) item.0)) ∙ ap (λ (b : Bool). int_lt z pair.0 && b) (grown_from pair.0 pairs item)

last_is : (pair : Pair) (pairs : List Pair) (d : Pair) → (get_or (pair ∷ pairs) (length pairs) d).0 ≡ last_from pair.0 pairs
last_is pair [] d = refl
last_is pair (next ∷ pairs) d = last_is next pairs d

pub rises_first : (pairs : List Pair) (item : Pair) → length pairs ≡ 0 → (rises pairs && true) ≡ rises (pairs ++ item ∷ [])
rises_first [] item none = refl
rises_first (pair ∷ pairs) item none = absurd (omega (arith, none))

pub rises_more : (pairs : List Pair) (item d : Pair) (above : Bool) (last : ℕ) → 0 < length pairs → last ≡ length pairs - 1 → above ≡ int_lt (get_or pairs last d).0 item.0
    → (rises pairs && above) ≡ rises (pairs ++ item ∷ [])
rises_more [] item d above last some at is = absurd (omega (arith, some))
rises_more (pair ∷ pairs) item d above last some at is =
    let here : last ≡ length pairs = omega (arith, at) in
    ap (λ (b : Bool). rises_from pair.0 pairs && b) (is ∙ ap (λ (k : ℕ). int_lt (get_or (pair ∷ pairs) k d).0 item.0) here ∙ ap (λ (z : ℤ). int_lt z item.0) (last_is pair pairs d))
    ∙ grown_from pair.0 pairs item

pub grown : (pairs : List Pair) (item : Pair) (above : Bool) → rises pairs ≡ true → (rises pairs && above) ≡ rises (pairs ++ item ∷ []) → above ≡ rises (pairs ++ item ∷ [])
grown pairs item above rise is = ap (λ (b : Bool). b && above) (sym rise) ∙ is

pub falls_more : (pairs : List Pair) (item : Pair) → rises pairs ≡ false → rises (pairs ++ item ∷ []) ≡ false
falls_more [] item fall = absurd cc
falls_more (pair ∷ pairs) item fall =
    sym (grown_from pair.0 pairs item) ∙ ap (λ (b : Bool). b && int_lt (last_from pair.0 pairs) item.0) fall

-- ---- in turn

first_left : (pairs : List Pair) (wanted : ℤ) (pair : Pair) (b : Bool) → is_match pair.0 wanted ≡ b → first_target (pair ∷ pairs) wanted ≡ (if b then Some pair.1 else first_target pairs wanted)
first_left pairs wanted pair b e = ap (λ b. if b then Some pair.1 else first_target pairs wanted) e

pub pair_met : (pairs : List Pair) (i : ℕ) (wanted : ℤ) (pair : Pair) → i < length pairs → pair ≡ get_or pairs i pair → is_match pair.0 wanted ≡ true
    → first_target (drop i pairs) wanted ≡ Some pair.1
pair_met pairs i wanted pair less is met =
    at_drop_more (λ (pairs : List Pair). first_target pairs wanted) pairs i pair less
    ∙ (ap (λ (pair : Pair). first_target (pair ∷ drop (i + 1) pairs) wanted) (sym is)
    ∙ first_left (drop (i + 1) pairs) wanted pair true met)

pub pair_passed : (pairs : List Pair) (i : ℕ) (wanted : ℤ) (pair : Pair) → i < length pairs → pair ≡ get_or pairs i pair → is_match pair.0 wanted ≡ false
    → first_target (drop (i + 1) pairs) wanted ≡ first_target (drop i pairs) wanted
pair_passed pairs i wanted pair less is other =
    sym (at_drop_more (λ (pairs : List Pair). first_target pairs wanted) pairs i pair less
    ∙ (ap (λ (pair : Pair). first_target (pair ∷ drop (i + 1) pairs) wanted) (sym is)
    ∙ first_left (drop (i + 1) pairs) wanted pair false other))

pub pairs_end : (pairs : List Pair) (i : ℕ) (wanted : ℤ) → length pairs ≤ i → first_target (drop i pairs) wanted ≡ None
pairs_end pairs i wanted past = at_drop_all (λ (pairs : List Pair). first_target pairs wanted) pairs i past

-- ---- by halving

pub parted : (pairs : List Pair) (wanted : ℤ) → rises pairs ≡ true → IsPartitionedBy (λ pair. int_lt pair.0 wanted) pairs
parted pairs wanted rise i j d le lt e = elim (cases_lt i j) [
  | inl before ↦
      (let up = rising_from pairs rise i j d before lt in
      let less = lt_from (get_or pairs j d).0 wanted e in
      lt_true (get_or pairs i d).0 wanted (omega (arith, ints, up, less)))
  | inr after ↦
      let same : i ≡ j = omega (arith, le, after) in
      ap (λ (k : ℕ). int_lt (get_or pairs k d).0 wanted) same ∙ e
]

below_other : (s t : Bool) (a b : ℤ) → int_le a b ≡ s → int_le b a ≡ t → a <ℤ b → (s && t) ≡ false
below_other true true a b e f less = absurd (omega (arith, ints))
below_other false t a b e f less = refl
below_other true false a b e f less = refl

above_other : (s t : Bool) (a b : ℤ) → int_le a b ≡ s → int_le b a ≡ t → b <ℤ a → (s && t) ≡ false
above_other true t a b e f less = absurd (omega (arith, ints))
above_other false t a b e f less = refl

no_match_below : (a wanted : ℤ) → a <ℤ wanted → is_match a wanted ≡ false
no_match_below a wanted less = below_other (int_le a wanted) (int_le wanted a) a wanted refl refl less

no_match_above : (a wanted : ℤ) → wanted <ℤ a → is_match a wanted ≡ false
no_match_above a wanted less = above_other (int_le a wanted) (int_le wanted a) a wanted refl refl less

above_when : (s t : Bool) (a b : ℤ) → int_le a b ≡ s → int_le b a ≡ t → (s && t) ≡ false → b ≤ℤ a → b <ℤ a
above_when true true a b e f other le = absurd cc
above_when false t a b e f other le = grind (arith, ints)
above_when true false a b e f other le = absurd (omega (arith, ints))

is_above : (a wanted : ℤ) → is_match a wanted ≡ false → wanted ≤ℤ a → wanted <ℤ a
is_above a wanted other le = above_when (int_le a wanted) (int_le wanted a) a wanted refl refl other le

-- pairs below the number are passed
skipped : (pairs : List Pair) (i : ℕ) (wanted : ℤ) → ((k : ℕ) (d : Pair) → k < i → (get_or pairs k d).0 <ℤ wanted) → i ≤ length pairs
    → first_target (drop i pairs) wanted ≡ first_target pairs wanted
skipped pairs zero wanted below le = refl
skipped [] (suc i) wanted below le = refl
skipped (pair ∷ pairs) (suc i) wanted below le =
    skipped pairs i wanted (λ k d lt. below (suc k) d (omega (arith, lt))) (omega (arith, le))
    ∙ sym (first_left pairs wanted pair false (no_match_below pair.0 wanted (below 0 pair (omega arith))))

-- and none above it is met
none_above : (z : ℤ) (pairs : List Pair) (wanted : ℤ) → rises_from z pairs ≡ true → wanted <ℤ z → first_target pairs wanted ≡ None
none_above z [] wanted rise less = refl
none_above z (pair ∷ pairs) wanted rise less =
    let both = both_from (int_lt z pair.0) (rises_from pair.0 pairs) rise in
    let next : wanted <ℤ pair.0 = let up = lt_from z pair.0 both.0 in omega (arith, ints, up, less) in
    first_left pairs wanted pair false (no_match_above pair.0 wanted next) ∙ none_above pair.0 pairs wanted both.1 next

rest_rises : (pair : Pair) (pairs : List Pair) → rises (pair ∷ pairs) ≡ true → rises pairs ≡ true
rest_rises pair [] rise = refl
rest_rises pair (next ∷ pairs) rise = (both_from (int_lt pair.0 next.0) (rises_from next.0 pairs) rise).1

rises_after : (pairs : List Pair) (i : ℕ) → rises pairs ≡ true → rises (drop i pairs) ≡ true
rises_after pairs zero rise = rise
rises_after [] (suc i) rise = refl
rises_after (pair ∷ pairs) (suc i) rise = rises_after pairs i (rest_rises pair pairs rise)

module _ (pairs : List Pair) (wanted : ℤ) (i : ℕ) (rise : rises pairs ≡ true) (le : i ≤ length pairs)
    (point : IsPartitionPoint (λ pair. int_lt pair.0 wanted ≡ true) (λ pair. int_lt pair.0 wanted ≡ false) pairs i) where
  at_point : first_target (drop i pairs) wanted ≡ first_target pairs wanted
  at_point = skipped pairs i wanted (λ k d lt. lt_from (get_or pairs k d).0 wanted (point.0 k d (omega arith) lt)) le

  pub past_all : length pairs ≤ i → None ≡ first_target pairs wanted
  past_all past = sym (pairs_end pairs i wanted past) ∙ at_point

  module _ (pair : Pair) (within : i < length pairs) (is : pair ≡ get_or pairs i pair) where
    met : is_match pair.0 wanted ≡ true → Some pair.1 ≡ first_target pairs wanted
    met same = sym (pair_met pairs i wanted pair within is same) ∙ at_point

    missed : is_match pair.0 wanted ≡ false → None ≡ first_target pairs wanted
    missed other =
        let up : rises_from pair.0 (drop (i + 1) pairs) ≡ true =
        subst (λ (first : Pair). rises_from first.0 (drop (i + 1) pairs) ≡ true) (sym is) (sym (at_drop_more rises pairs i pair within) ∙ rises_after pairs i rise) in
        let above : wanted <ℤ pair.0 = is_above pair.0 wanted other (subst (λ (first : Pair). wanted ≤ℤ first.0) (sym is) (le_from (get_or pairs i pair).0 wanted (point.1 i pair (omega arith) within))) in
        sym (none_above pair.0 (drop (i + 1) pairs) wanted up above) ∙ (pair_passed pairs i wanted pair within is other ∙ at_point)

    pub found_at : target_if pair wanted ≡ first_target pairs wanted
    found_at = by_match (is_match pair.0 wanted) refl where
      by_match : (same : Bool) → is_match pair.0 wanted ≡ same → (if same then Some pair.1 else None) ≡ first_target pairs wanted
      by_match true e = met e
      by_match false e = missed e
