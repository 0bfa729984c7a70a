-- Numbers of members: this many stand before each class.
use Rattle.std.proofs.Common.{◌≡◌, ℕ, zero, suc, ◌+◌, ◌-◌, ◌<◌, ◌≤◌, List, [], ◌∷◌, ◌++◌, length, take, sum, get_or, Some, refl, sym, ap, ◌∙◌, subst, arith, inl, inr}
use Rattle.std.specs.Prelude.{slice_get}
use Rattle.std.specs.List.{flat_map}
use Rattle.std.proofs.lemmas.Bool.{cases_lt}
use Rattle.std.proofs.lemmas.List.{length_push, length-append, take_all}
use Rattle.std.proofs.lemmas.List.Sums.{sum_by-cons, sum_by_more}
use Rattle.std.proofs.lemmas.Option.{none-some, same_Some}
use Rattle.dj_model.specs.trusted.Program.{Program, Class}
use Rattle.dj_class_table.specs.declared.place.Place.{Place}
use Rattle.dj_numbering.specs.declared.members.MemberStarts.{MemberStarts}
use Rattle.dj_numbering.specs.Numbered.{counts_of, AreStarts, AreCounted, AreMemberClasses, IsBegun, IsStartOf}

-- ---- sums

sum_cons : (x : ℕ) (xs : List ℕ) → sum (x ∷ xs) ≡ x + sum xs
sum_cons x xs = sum_by-cons (λ (y : ℕ). y) x xs

pub sum_more : (xs : List ℕ) (k : ℕ) → k < length xs → sum (take (k + 1) xs) ≡ sum (take k xs) + get_or xs k 0
sum_more xs k lt = sum_by_more (λ (y : ℕ). y) xs k 0 lt

-- ---- starts

-- this many classes were counted
pub record IsSummed (counts : List ℕ) (k : ℕ) (starts : List ℕ) (start : ℕ) : Type 0 where
  pub long : length starts ≡ k
  pub total : start ≡ sum (take k counts)
  pub each : (j : ℕ) → j < k → get_or starts j 0 ≡ sum (take j counts)

pub summed_begun : (counts : List ℕ) → IsSummed counts 0 [] 0
summed_begun counts = record { long = refl; total = refl; each = λ j lt. absurd (omega (arith, lt)) }

pub get_push : (xs : List ℕ) (x : ℕ) (j : ℕ) → j < length xs → get_or (xs ++ x ∷ []) j 0 ≡ get_or xs j 0
get_push [] x j lt = absurd (omega (arith, lt))
get_push (y ∷ xs) x zero lt = refl
get_push (y ∷ xs) x (suc j) lt = get_push xs x j (omega (arith, lt))

pub get_end : (xs : List ℕ) (x : ℕ) (j : ℕ) → length xs ≡ j → get_or (xs ++ x ∷ []) j 0 ≡ x
get_end [] x zero e = refl
get_end [] x (suc j) e = absurd (omega (arith, e))
get_end (y ∷ xs) x zero e = absurd (omega (arith, e))
get_end (y ∷ xs) x (suc j) e = get_end xs x j (omega (arith, e))

pub summed_more : (counts : List ℕ) (k : ℕ) (starts more : List ℕ) (start next : ℕ) → k < length counts → IsSummed counts k starts start → more ≡ starts ++ start ∷ [] → next ≡ start + get_or counts k 0
    → IsSummed counts (k + 1) more next
summed_more counts k starts more start next lt summed is counted = record {
  long = ap length is ∙ length_push starts start ∙ ap (λ (n : ℕ). n + 1) summed.long;
  total = counted ∙ ap (λ (n : ℕ). n + get_or counts k 0) summed.total ∙ sym (sum_more counts k lt);
  each = λ j below. ap (λ (xs : List ℕ). get_or xs j 0) is ∙ elim (cases_lt j k) [
    | inl before ↦ get_push starts start j (let e = summed.long in omega (arith, before, e)) ∙ summed.each j before
    | inr after ↦
        (let same : k ≡ j = omega (arith, after, below) in
        get_end starts start j (summed.long ∙ same) ∙ summed.total ∙ ap (λ (n : ℕ). sum (take n counts)) same)
  ];
}

pub summed_all : (counts : List ℕ) (k : ℕ) (starts : MemberStarts) → k ≡ length counts → IsSummed counts k starts.each.items starts.total → AreCounted counts starts
summed_all counts k starts end summed = record {
  are = record {
    long = summed.long ∙ end;
    each = λ j lt. summed.each j (omega (arith, lt, end));
  };
  total = summed.total ∙ ap sum (take_all k counts (omega (arith, end)));
}

-- ---- the place of a number

begun : (counts starts : List ℕ) (number : ℕ) → AreStarts counts starts → number < sum counts → IsBegun starts number
begun [] starts number are lt = absurd (omega (arith, lt))
begun (x ∷ counts) starts number are lt =
    let long = are.long in
    let first : get_or starts 0 0 ≡ 0 = are.each 0 (omega arith) in
    record { some = omega (arith, long); first = omega (arith, first) }

pub counted_begun : (counts : List ℕ) (starts : MemberStarts) → AreCounted counts starts → 0 < starts.total → IsBegun starts.each.items 0
counted_begun counts starts counted lt = let total = counted.total in begun counts starts.each.items 0 counted.are (omega (arith, total, lt))

pub begun_later : (starts : List ℕ) (number : ℕ) → IsBegun starts 0 → IsBegun starts number
begun_later starts number begun = let first = begun.first in record { some = begun.some; first = omega (arith, first) }

-- between these the number is counted
pub record IsBetween (starts : List ℕ) (number low high : ℕ) : Type 0 where
  pub order : low < high
  pub within : high ≤ length starts
  pub below : get_or starts low 0 ≤ number
  pub above : high < length starts → number < get_or starts high 0

-- the member of a number, by the counts
pub record IsPlaced (counts : List ℕ) (number : ℕ) (place : Place) : Type 0 where
  pub there : place.class < length counts
  pub within : place.member < get_or counts place.class 0
  pub reached : sum (take place.class counts) + place.member ≡ number

pub placed : (counts starts : List ℕ) (number : ℕ) (place : Place) → AreStarts counts starts → number < sum counts → IsStartOf starts number place → IsPlaced counts number place
placed counts starts number place are lt at =
    let long = are.long in
    let within = at.there in
    let there : place.class < length counts = omega (arith, within, long) in
    let start = are.each place.class there in
    let reached = at.reached in
    let more = sum_more counts place.class there in
    record {
      there = there;
      within = elim (cases_lt (place.class + 1) (length counts)) [
        | inl inside ↦
            (let next = are.each (place.class + 1) inside in
            let before = at.before (omega (arith, inside, long)) in
            omega (arith, next, before, more, start, reached))
        | inr last ↦
            (let all = ap sum (take_all (place.class + 1) counts last) in
            omega (arith, all, lt, more, start, reached))
      ];
      reached = omega (arith, start, reached);
    }

-- ---- the classes of members

abbrev starts_in : List ℕ → ℕ → ℕ → Type 0
starts_in starts number class = IsStartOf starts number (record { class = class; member = number - get_or starts class 0 })

start_in : (starts : List ℕ) (number : ℕ) (place : Place) → IsStartOf starts number place → starts_in starts number place.class
start_in starts number place at =
    let reached = at.reached in
    record { there = at.there; reached = omega (arith, reached); before = at.before }

pub homes_more : (starts classes more : List ℕ) (number : ℕ) (place : Place) → length classes ≡ number → AreMemberClasses starts classes → IsStartOf starts number place → more ≡ classes ++ place.class ∷ []
    → AreMemberClasses starts more
homes_more starts classes more number place long homes at is = record {
  each = λ j lt. elim (cases_lt j number) [
    | inl before ↦
        subst (starts_in starts j) (sym (ap (λ (xs : List ℕ). get_or xs j 0) is ∙ get_push classes place.class j (omega (arith, before, long)))) (homes.each j (omega (arith, before, long)))
    | inr after ↦
        (let count = ap length is ∙ length_push classes place.class in
        let same : number ≡ j = omega (arith, after, lt, count, long) in
        subst (starts_in starts j) (sym (ap (λ (xs : List ℕ). get_or xs j 0) is ∙ get_end classes place.class j (long ∙ same)))
        (subst (λ (n : ℕ). starts_in starts n place.class) same (start_in starts number place at)))
  ];
}

-- ---- lists that are put together

pub some_there : {A : Type 0} (xs : List A) (k : ℕ) → k < length xs → (x : A) × (slice_get xs k ≡ Some x)
some_there [] k lt = absurd (omega (arith, lt))
some_there (x ∷ xs) zero lt = (x, refl)
some_there (x ∷ xs) (suc k) lt = some_there xs k (omega (arith, lt))

module _ {F : Type 0} (items : Class → List F) where
  abbrev counts : Program → List ℕ
  counts = counts_of items

  get_append : (xs ys : List F) (n : ℕ) → n < length xs → slice_get (xs ++ ys) n ≡ slice_get xs n
  get_append [] ys n lt = absurd (omega (arith, lt))
  get_append (x ∷ xs) ys zero lt = refl
  get_append (x ∷ xs) ys (suc n) lt = get_append xs ys n (omega (arith, lt))

  get_after : (xs ys : List F) (n m : ℕ) → m ≡ length xs + n → slice_get (xs ++ ys) m ≡ slice_get ys n
  get_after [] ys n m e = ap (slice_get ys) (let f : m ≡ n = omega (arith, e) in f)
  get_after (x ∷ xs) ys n zero e = absurd (omega (arith, e))
  get_after (x ∷ xs) ys n (suc m) e = get_after xs ys n m (omega (arith, e))

  pub all_count : (program : Program) → length (flat_map items program) ≡ sum (counts program)
  all_count [] = refl
  all_count (c ∷ program) = let e = all_count program in let f = length-append (items c) (flat_map items program) in let g = sum_cons (length (items c)) (counts program) in omega (arith, e, f, g)

  pub before_count : (program : Program) (k : ℕ) → length (flat_map items (take k program)) ≡ sum (take k (counts program))
  before_count [] zero = refl
  before_count [] (suc k) = refl
  before_count (c ∷ program) zero = refl
  before_count (c ∷ program) (suc k) = let e = before_count program k in let f = length-append (items c) (flat_map items (take k program)) in let g = sum_cons (length (items c)) (take k (counts program)) in omega (arith, e, f, g)

  -- the member at a place of a class is the one of its number
  pub member_of_number : (program : Program) (k at number : ℕ) (c : Class) → slice_get program k ≡ Some c → at < length (items c) → sum (take k (counts program)) + at ≡ number
      → slice_get (flat_map items program) number ≡ slice_get (items c) at
  member_of_number [] k at number c is lt e = absurd (none-some c is)
  member_of_number (x ∷ program) zero at number c is lt e =
      let here : x ≡ c = same_Some x c is in
      let same : at ≡ number = omega (arith, e) in
      subst (λ (n : ℕ). slice_get (items x ++ flat_map items program) n ≡ slice_get (items c) at) same
      (get_append (items x) (flat_map items program) at (subst (λ (y : Class). at < length (items y)) (sym here) lt) ∙ ap (λ (y : Class). slice_get (items y) at) here)
  member_of_number (x ∷ program) (suc k) at number c is lt e =
      let f = sum_cons (length (items x)) (take k (counts program)) in
      get_after (items x) (flat_map items program) (sum (take k (counts program)) + at) number (omega (arith, e, f))
      ∙ member_of_number program k at (sum (take k (counts program)) + at) c is lt refl

  pub count_at : (program : Program) (k : ℕ) (c : Class) → slice_get program k ≡ Some c → get_or (counts program) k 0 ≡ length (items c)
  count_at [] k c is = absurd (none-some c is)
  count_at (x ∷ program) zero c is = ap (λ (y : Class). length (items y)) (same_Some x c is)
  count_at (x ∷ program) (suc k) c is = count_at program k c is

  pub counts_length : (program : Program) → length (counts program) ≡ length program
  counts_length [] = refl
  counts_length (c ∷ program) = ap suc (counts_length program)

  -- a number at a place of a class is that of a member
  pub number_within : (program : Program) (k at : ℕ) (c : Class) → slice_get program k ≡ Some c → at < length (items c) → sum (take k (counts program)) + at < length (flat_map items program)
  number_within [] k at c is lt = absurd (none-some c is)
  number_within (x ∷ program) zero at c is lt =
      let here = ap (λ (y : Class). length (items y)) (same_Some x c is) in
      let f = length-append (items x) (flat_map items program) in
      omega (arith, lt, here, f)
  number_within (x ∷ program) (suc k) at c is lt =
      let later = number_within program k at c is lt in
      let f = length-append (items x) (flat_map items program) in
      let g = sum_cons (length (items x)) (take k (counts program)) in
      omega (arith, later, f, g)

  -- the count given for a class is its own
  pub count_there : (program : Program) (k count : ℕ) → k < length program → ((c : Class) → slice_get program k ≡ Some c → count ≡ length (items c)) → count ≡ get_or (counts program) k 0
  count_there program k count lt reported =
      let class : (c : Class) × (slice_get program k ≡ Some c) = some_there program k lt in
      reported class.0 class.1 ∙ sym (count_at program k class.0 class.1)
