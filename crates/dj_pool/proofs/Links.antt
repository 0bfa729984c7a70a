-- Links: which constants do not fit where they stand, and the first of them.
use Rattle.std.proofs.Common.{◌≡◌, ℕ, zero, suc, ◌+◌, ◌<◌, ◌⊎◌, Bool, true, false, not, ◌&&◌, List, [], ◌∷◌, length, Some, None, refl, sym, ap, subst, ◌∙◌, arith, inl, inr}
use Rattle.std.specs.Prelude.{slice_get, nat_le}
use Rattle.std.specs.List.{AllByRecursion}
use Rattle.std.proofs.lemmas.Bool.{leb-true, leb-false, lt-leb}
use Rattle.dj_cursor.proofs.Steps.{cond_either, cond_true, cond_false}
use Rattle.dj_pool.specs.trusted.Pool.{Constant, Hole, takes_two, indexed, IsWhole, IsLinked, IsConstant}
use Rattle.dj_pool.specs.Faults.{IsMislinked}
use Rattle.dj_pool.specs.Tests.{is_linked, is_fit}
use Rattle.dj_pool.specs.Reading.{first_unlinked}
use Rattle.dj_pool.proofs.Decides.{TestsDecide, link_decides}
use Rattle.dj_pool.proofs.Slots.{AreSlots, by_width, indexed_wide, indexed_narrow, indexed_none, narrow_next}

-- ---- one constant

both_true : (a t l : Bool) → (a && not (t && l)) ≡ true → (a ≡ true) × (t ≡ true → l ≡ false)
both_true false t l h = absurd cc
both_true true false l h = (refl, λ k. absurd cc)
both_true true true false h = (refl, λ k. refl)
both_true true true true h = absurd cc

both_again : (a t l : Bool) → a ≡ true → (t ≡ true → l ≡ false) → (a && not (t && l)) ≡ true
both_again false t l p q = absurd cc
both_again true false l p q = refl
both_again true true false p q = refl
both_again true true true p q = let k : true ≡ false = q refl in absurd cc

one_false : (a t l : Bool) → (a && not (t && l)) ≡ false → (a ≡ false) ⊎ ((t ≡ true) × (l ≡ true))
one_false false t l h = inl refl
one_false true false l h = absurd cc
one_false true true false h = absurd cc
one_false true true true h = inr (refl, refl)

apart : {P : Type 0} {b : Bool} → b ≡ true → b ≡ false → P
apart h k = absurd cc

untrue : (b : Bool) → (b ≡ true → ⊥) → b ≡ false
untrue true h = absurd (h refl)
untrue false h = refl

-- linked, and its second index, if it has one, within the pool
pub record Fits (pool : List Constant) (index : ℕ) (k : Constant) : Type 0 where
  pub linked : IsLinked pool k
  pub within : takes_two k ≡ true → index < length pool

pub fit_takes : TestsDecide → (pool : List Constant) (index : ℕ) (k : Constant) → is_fit pool index k ≡ true → Fits pool index k
fit_takes d pool index k h =
    let b = both_true (is_linked pool k) (takes_two k) (nat_le (length pool) index) h in
    record { linked = (link_decides d pool k).takes b.0; within = λ wide. leb-false _ _ (b.1 wide) }

pub fit_again : TestsDecide → (pool : List Constant) (index : ℕ) (k : Constant) → Fits pool index k → is_fit pool index k ≡ true
fit_again d pool index k f =
    both_again (is_linked pool k) (takes_two k) (nat_le (length pool) index) ((link_decides d pool k).again f.linked) (λ wide. lt-leb _ _ (f.within wide))

pub unfit_takes : TestsDecide → (count : ℕ) (pool : List Constant) (index : ℕ) (k : Constant) → count ≡ length pool + 1 → is_fit pool index k ≡ false → IsMislinked count pool index k
unfit_takes d count pool index k len h =
    elim (one_false (is_linked pool k) (takes_two k) (nat_le (length pool) index) h) as (λ _. IsMislinked count pool index k) [
      | inl never ↦ inl (λ l. apart ((link_decides d pool k).again l) never)
      | inr b ↦ inr (b.0, omega (arith, len, leb-true _ _ b.1))
    ]

-- a constant that fits is not mislinked
pub fit_is_linked : TestsDecide → (count : ℕ) (pool : List Constant) (index : ℕ) (k : Constant) → count ≡ length pool + 1 → is_fit pool index k ≡ true → IsMislinked count pool index k → ⊥
fit_is_linked d count pool index k len h wrong =
    let f = fit_takes d pool index k h in
    elim wrong as (λ _. ⊥) [ inl never ↦ never f.linked | inr b ↦ omega (arith, len, f.within b.0, b.1) ]

pub unfit_again : TestsDecide → (count : ℕ) (pool : List Constant) (index : ℕ) (k : Constant) → count ≡ length pool + 1 → IsMislinked count pool index k → is_fit pool index k ≡ false
unfit_again d count pool index k len wrong = untrue (is_fit pool index k) (λ h. fit_is_linked d count pool index k len h wrong)

pub hole_fits : (pool : List Constant) (index : ℕ) → is_fit pool index Hole ≡ true
hole_fits pool index = refl

-- ---- where none is unlinked

-- constants at their indexes, each of them valid in the pool
pub record AreConstants (pool ks : List Constant) : Type 0 where
  pub constants : List Constant
  pub is : ks ≡ indexed constants
  pub each : AllByRecursion (IsConstant pool) constants

-- the search goes on after a constant that fits
goes_on : (pool : List Constant) (index : ℕ) (k : Constant) (ks : List Constant) → first_unlinked pool index (k ∷ ks) ≡ None → (is_fit pool index k ≡ true) × (first_unlinked pool (index + 1) ks ≡ None)
unfolding first_unlinked
goes_on pool index k ks h = cond_either (is_fit pool index k) _ _ h (λ fit r. (fit, r)) (λ unfit r. absurd cc)

wide_next : (k j : Constant) (js : List Constant) → takes_two k ≡ true → AreSlots (j ∷ js) (takes_two k) → (j ≡ Hole) × AreSlots js false
wide_next k j js wide h = subst (λ (b : Bool). AreSlots (j ∷ js) b) wide h

narrow_constants : (pool : List Constant) (k : Constant) (ks : List Constant) → IsConstant pool k → takes_two k ≡ false → AreConstants pool ks → AreConstants pool (k ∷ ks)
narrow_constants pool k ks good narrow a = record {
  constants = k ∷ a.constants;
  is = ap (λ (t : List Constant). k ∷ t) a.is ∙ sym (indexed_narrow k a.constants narrow);
  each = (good, a.each);
}

wide_constants : (pool : List Constant) (k j : Constant) (js : List Constant) → IsConstant pool k → takes_two k ≡ true → j ≡ Hole → AreConstants pool js → AreConstants pool (k ∷ (j ∷ js))
wide_constants pool k j js good wide hole a = record {
  constants = k ∷ a.constants;
  is = ap (λ (t : Constant). k ∷ (t ∷ js)) hole ∙ ap (λ (t : List Constant). k ∷ (Hole ∷ t)) a.is ∙ sym (indexed_wide k a.constants wide);
  each = (good, a.each);
}

no_constants : (pool : List Constant) → AreConstants pool []
no_constants pool = record { constants = []; is = sym indexed_none; each = tt }

pub links_take : TestsDecide → (pool : List Constant) (index : ℕ) (ks : List Constant) → AreSlots ks false → index + length ks ≡ length pool + 1 → first_unlinked pool index ks ≡ None → AreConstants pool ks
links_take d pool index [] slots len h = no_constants pool
links_take d pool index (k ∷ []) slots len h =
    let g = goes_on pool index k [] h in
    let f = fit_takes d pool index k g.0 in
    by_width (takes_two k)
    (λ wide. absurd (omega (arith, len, f.within wide)))
    (λ narrow. narrow_constants pool k [] (slots.0, f.linked) narrow (no_constants pool))
links_take d pool index (k ∷ (j ∷ js)) slots len h =
    let g = goes_on pool index k (j ∷ js) h in
    let f = fit_takes d pool index k g.0 in
    by_width (takes_two k)
    (λ wide.
    let n = wide_next k j js wide slots.1 in
    let r = goes_on pool (index + 1) j js g.1 in
    wide_constants pool k j js (slots.0, f.linked) wide n.0 (links_take d pool (index + 1 + 1) js n.1 (omega (arith, len)) r.1))
    (λ narrow. narrow_constants pool k (j ∷ js) (slots.0, f.linked) narrow (links_take d pool (index + 1) (j ∷ js) (narrow_next k (j ∷ js) narrow slots.1) (omega (arith, len)) g.1))

pub links_again : TestsDecide → (pool : List Constant) (index : ℕ) (ks : List Constant) → AllByRecursion (IsConstant pool) ks → index + length (indexed ks) ≡ length pool + 1 → first_unlinked pool index (indexed ks) ≡ None
unfolding first_unlinked
links_again d pool index [] each len = ap (first_unlinked pool index) indexed_none
links_again d pool index (k ∷ ks) each len =
    by_width (takes_two k)
    (λ wide.
    let e = indexed_wide k ks wide in
    let more : index + 1 + 1 + length (indexed ks) ≡ length pool + 1 = omega (arith, len, ap length e) in
    let fit = fit_again d pool index k (record { linked = each.0.1; within = λ w. omega (arith, more) }) in
    ap (first_unlinked pool index) e ∙ cond_true _ fit (links_again d pool (index + 1 + 1) ks each.1 more))
    (λ narrow.
    let e = indexed_narrow k ks narrow in
    let more : index + 1 + length (indexed ks) ≡ length pool + 1 = omega (arith, len, ap length e) in
    let fit = fit_again d pool index k (record { linked = each.0.1; within = λ w. apart w narrow }) in
    ap (first_unlinked pool index) e ∙ cond_true _ fit (links_again d pool (index + 1) ks each.1 more))

pub are_whole : (pool ks : List Constant) → AllByRecursion (IsConstant pool) ks → AllByRecursion IsWhole ks
are_whole pool [] h = tt
are_whole pool (k ∷ ks) h = (h.0.0, are_whole pool ks h.1)

-- ---- the first that is

-- a constant that does not fit stands here, and all before it do
pub record IsFirst (pool : List Constant) (index : ℕ) (ks : List Constant) (m : ℕ) : Type 0 where
  pub j : ℕ
  pub constant : Constant
  pub m_is : m ≡ index + j
  pub at : slice_get ks j ≡ Some constant
  pub unfit : is_fit pool m constant ≡ false
  pub before : (i : ℕ) (k : Constant) → i < j → slice_get ks i ≡ Some k → is_fit pool (index + i) k ≡ true

at_prefix : (pool : List Constant) (index i : ℕ) (k t : Constant) → i ≡ 0 → is_fit pool index t ≡ true → Some t ≡ Some k → is_fit pool (index + i) k ≡ true
at_prefix pool index i k t none fit e =
    let same : t ≡ k = cc in
    let at : index ≡ index + i = omega (arith, none) in
    subst (λ (n : ℕ). is_fit pool n k ≡ true) at (subst (λ (x : Constant). is_fit pool index x ≡ true) same fit)

before_more : (pool : List Constant) (index j : ℕ) (t : Constant) (ts : List Constant) → is_fit pool index t ≡ true → ((i : ℕ) (k : Constant) → i < j → slice_get ts i ≡ Some k → is_fit pool (index + 1 + i) k ≡ true)
    → (i : ℕ) (k : Constant) → i < suc j → slice_get (t ∷ ts) i ≡ Some k → is_fit pool (index + i) k ≡ true
before_more pool index j t ts fit rest zero k lt e = at_prefix pool index 0 k t refl fit e
before_more pool index j t ts fit rest (suc i) k lt e =
    let at : index + 1 + i ≡ index + suc i = omega arith in
    subst (λ (n : ℕ). is_fit pool n k ≡ true) at (rest i k (omega (arith, lt)) e)

pub first_takes : (pool : List Constant) (index : ℕ) (ks : List Constant) (m : ℕ) → first_unlinked pool index ks ≡ Some m → IsFirst pool index ks m
unfolding first_unlinked
first_takes pool index [] m h = absurd cc
first_takes pool index (k ∷ ks) m h =
    cond_either (is_fit pool index k) _ _ h
    (λ fit r.
    let f = first_takes pool (index + 1) ks m r in
    record { j = suc f.j; constant = f.constant; m_is = omega (arith, f.m_is); at = f.at; unfit = f.unfit; before = before_more pool index f.j k ks fit f.before })
    (λ unfit r.
    let same : index ≡ m = cc in
    record { j = 0; constant = k; m_is = omega (arith, same); at = refl; unfit = subst (λ (n : ℕ). is_fit pool n k ≡ false) same unfit; before = λ i t lt. absurd (omega (arith, lt)) })

pub first_again : (pool : List Constant) (index : ℕ) (ks : List Constant) (j : ℕ) (constant : Constant) → slice_get ks j ≡ Some constant → is_fit pool (index + j) constant ≡ false
    → ((i : ℕ) (k : Constant) → i < j → slice_get ks i ≡ Some k → is_fit pool (index + i) k ≡ true) → first_unlinked pool index ks ≡ Some (index + j)
unfolding first_unlinked
first_again pool index [] j constant at unfit before = absurd cc
first_again pool index (k ∷ ks) zero constant at unfit before =
    let same : constant ≡ k = cc in
    let here : index + 0 ≡ index = omega arith in
    let never : is_fit pool index k ≡ false = subst (λ (n : ℕ). is_fit pool n k ≡ false) here (subst (λ (x : Constant). is_fit pool (index + 0) x ≡ false) same unfit) in
    cond_false _ never (ap Some (sym here))
first_again pool index (k ∷ ks) (suc j) constant at unfit before =
    let here : index + 0 ≡ index = omega arith in
    let there : index + suc j ≡ index + 1 + j = omega arith in
    let fit : is_fit pool index k ≡ true = subst (λ (n : ℕ). is_fit pool n k ≡ true) here (before 0 k (omega arith) refl) in
    let rest = λ (i : ℕ) (x : Constant) (lt : i < j) (e : slice_get ks i ≡ Some x). (let next : index + suc i ≡ index + 1 + i = omega arith in subst (λ (n : ℕ). is_fit pool n x ≡ true) next (before (suc i) x (omega (arith, lt)) e)) in
    cond_true _ fit (first_again pool (index + 1) ks j constant at (subst (λ (n : ℕ). is_fit pool n constant ≡ false) there unfit) rest ∙ ap Some (sym there))
