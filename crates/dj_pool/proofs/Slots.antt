-- What stands at this many indexes: it is spelled so, it is read where it is spelled so, and where reading stops.
use Rattle.std.proofs.Common.{◌≡◌, ℕ, zero, suc, ◌+◌, ◌<◌, ◌≤◌, Bool, true, false, List, [], ◌∷◌, ◌++◌, length, take, Ok, Err, refl, sym, ap, subst, ◌∙◌, arith}
use Rattle.std.specs.Prelude.{⊤}
use Rattle.std.specs.List.{flat_map, AllByRecursion}
use Rattle.dj_cursor.specs.Reading.{Cursor}
use Rattle.dj_cursor.proofs.Bytes.{IsBytes}
use Rattle.dj_cursor.proofs.Steps.{bind_ok, bind_again, bind_err, bind_fails, cond_true, cond_false}
use Rattle.dj_cursor.proofs.Spans.{Spans, Spans-none, Spans-then, Spans-stay, IsBytes-Spans, Reads, step_takes, step_again}
use Rattle.dj_pool.specs.declared.pool.PoolError.{PoolError}
use Rattle.dj_pool.specs.trusted.Pool.{Constant, Hole, takes_two, indexed, constant_bytes, IsWhole}
use Rattle.dj_pool.specs.Reading.{constant_at_cursor, slot_at, slots_at}
use Rattle.dj_pool.proofs.Decides.{TestsDecide}
use Rattle.dj_pool.proofs.ConstantLaws.{constant_reads}

-- ---- what may stand at the indexes

-- whole constants, with a hole after each one that takes two indexes; after such a constant the list begins with its hole
abbrev pub AreSlots : List Constant → Bool → Type 0
AreSlots [] wide = ⊤
AreSlots (k ∷ ks) true = (k ≡ Hole) × AreSlots ks false
AreSlots (k ∷ ks) false = IsWhole k × AreSlots ks (takes_two k)

abbrev pub HasSlots : ℕ → Bool → List Constant → Type 0
HasSlots n wide ks = (length ks ≡ n) × AreSlots ks wide

slots_take : TestsDecide → (n : ℕ) (wide : Bool) (index : ℕ) (c : Cursor) (x : List Constant × Cursor) → IsBytes c.rest → slots_at n wide index c ≡ Ok x → Spans c (flat_map constant_bytes x.0) x.1 × HasSlots n wide x.0
unfolding slots_at slot_at
slots_take d zero wide index c x fits e =
    let made : ([], c) ≡ x = cc in
    subst (λ (y : List Constant × Cursor). Spans c (flat_map constant_bytes y.0) y.1 × HasSlots 0 wide y.0) made (Spans-none c, (refl, tt))
slots_take d (suc n) true index c x fits e =
    let b = bind_ok e in
    let t = slots_take d n false (index + 1) c b.0 fits b.1 in
    let made : (Hole ∷ b.0.0, b.0.1) ≡ x = cc (b.2) in
    subst (λ (y : List Constant × Cursor). Spans c (flat_map constant_bytes y.0) y.1 × HasSlots (suc n) true y.0) made (t.0, (ap suc t.1.0, (refl, t.1.1)))
slots_take d (suc n) false index c x fits e =
    let a = step_takes (constant_reads d index) c fits e in
    let b = bind_ok a.rest in
    let t = slots_take d n (takes_two a.value) (index + 1) a.next b.0 a.fits b.1 in
    let made : (a.value ∷ b.0.0, b.0.1) ≡ x = cc (b.2) in
    subst (λ (y : List Constant × Cursor). Spans c (flat_map constant_bytes y.0) y.1 × HasSlots (suc n) false y.0) made (Spans-then a.spans t.0, (ap suc t.1.0, (a.good, t.1.1)))

slots_again : TestsDecide → (n : ℕ) (wide : Bool) (index : ℕ) (c : Cursor) (ks : List Constant) (next : Cursor) → HasSlots n wide ks → Spans c (flat_map constant_bytes ks) next → slots_at n wide index c ≡ Ok (ks, next)
unfolding slots_at slot_at
slots_again d zero wide index c [] next good s = ap (λ (m : Cursor). Ok ([], m)) (Spans-stay s)
slots_again d zero wide index c (k ∷ ks) next good s = absurd (omega (arith, good.0))
slots_again d (suc n) wide index c [] next good s = absurd (omega (arith, good.0))
slots_again d (suc n) true index c (k ∷ ks) next good s =
    let here : Spans c (flat_map constant_bytes ks) next = subst (λ (h : Constant). Spans c (constant_bytes h ++ flat_map constant_bytes ks) next) good.1.0 s in
    bind_again _ (slots_again d n false (index + 1) c ks next (omega (arith, good.0), good.1.1) here) (ap (λ (h : Constant). Ok (h ∷ ks, next)) (sym good.1.0))
slots_again d (suc n) false index c (k ∷ ks) next good s =
    let a = step_again (constant_reads d index) c k (flat_map constant_bytes ks) next good.1.0 s in
    bind_again _ a.1 (bind_again _ (slots_again d n (takes_two k) (index + 1) a.0 ks next (omega (arith, good.0), good.1.1) a.2) refl)

pub slots_read : TestsDecide → (n : ℕ) (wide : Bool) (index : ℕ) → Reads (slots_at n wide index) (flat_map constant_bytes) (HasSlots n wide)
slots_read d n wide index = record { takes = slots_take d n wide index; again = slots_again d n wide index }

-- ---- constants at their indexes

-- the indexes that a hole takes at the beginning
abbrev pub skip : Bool → ℕ
skip true = 1
skip false = 0

pub by_width : {P : Type 0} (b : Bool) → (b ≡ true → P) → (b ≡ false → P) → P
by_width true one other = one refl
by_width false one other = other refl

pub indexed_wide : (k : Constant) (ks : List Constant) → takes_two k ≡ true → indexed (k ∷ ks) ≡ k ∷ (Hole ∷ indexed ks)
unfolding indexed
indexed_wide k ks h = cond_true _ h refl

pub indexed_narrow : (k : Constant) (ks : List Constant) → takes_two k ≡ false → indexed (k ∷ ks) ≡ k ∷ indexed ks
unfolding indexed
indexed_narrow k ks h = cond_false _ h refl

pub indexed_none : indexed [] ≡ []
unfolding indexed
indexed_none = refl

pub indexed_len : (k : Constant) (ks : List Constant) → length (indexed (k ∷ ks)) ≡ suc (skip (takes_two k) + length (indexed ks))
indexed_len k ks =
    by_width (takes_two k)
    (λ h. let e = ap length (indexed_wide k ks h) in omega (arith, e, ap skip h))
    (λ h. let e = ap length (indexed_narrow k ks h) in omega (arith, e, ap skip h))

-- ---- where reading stops

-- whole constants stand here, which take fewer indexes than this many, and the next is not read
pub record SlotsStop (n : ℕ) (wide : Bool) (index : ℕ) (c : Cursor) (e : PoolError) : Type 0 where
  pub prefix : List Constant
  pub mid : Cursor
  pub spans : Spans c (flat_map constant_bytes prefix) mid
  pub whole : AllByRecursion IsWhole prefix
  pub within : skip wide + length (indexed prefix) < n
  pub fits : IsBytes mid.rest
  pub failed : constant_at_cursor (index + (skip wide + length (indexed prefix))) mid ≡ Err e

abbrev FailsAt : Cursor → PoolError → ℕ → Type 0
FailsAt c e i = constant_at_cursor i c ≡ Err e

pub slots_stop : TestsDecide → (n : ℕ) (wide : Bool) (index : ℕ) (c : Cursor) (e : PoolError) → IsBytes c.rest → slots_at n wide index c ≡ Err e → SlotsStop n wide index c e
unfolding slots_at slot_at
slots_stop d zero wide index c e fits h = absurd cc
slots_stop d (suc n) true index c e fits h =
    bind_err h
    (λ r.
    let s = slots_stop d n false (index + 1) c e fits r in
    let at : (index + 1) + (0 + length (indexed s.prefix)) ≡ index + (1 + length (indexed s.prefix)) = omega arith in
    record { prefix = s.prefix; mid = s.mid; spans = s.spans; whole = s.whole; within = omega (arith, s.within); fits = s.fits; failed = subst (FailsAt s.mid e) at s.failed })
    (λ x r g. absurd cc)
slots_stop d (suc n) false index c e fits h =
    bind_err h
    (λ r.
    let none : length (indexed []) ≡ 0 = ap length indexed_none in
    let at : index ≡ index + (0 + length (indexed [])) = omega (arith, none) in
    record { prefix = []; mid = c; spans = Spans-none c; whole = tt; within = omega (arith, none); fits = fits; failed = subst (FailsAt c e) at r })
    (λ first r g.
    let t = (constant_reads d index).takes c first fits r in
    bind_err g
    (λ r.
    let s = slots_stop d n (takes_two first.0) (index + 1) first.1 e (IsBytes-Spans t.0 fits) r in
    let len = indexed_len first.0 s.prefix in
    let at : (index + 1) + (skip (takes_two first.0) + length (indexed s.prefix)) ≡ index + (0 + length (indexed (first.0 ∷ s.prefix))) = omega (arith, len) in
    record {
      prefix = first.0 ∷ s.prefix;
      mid = s.mid;
      spans = Spans-then t.0 s.spans;
      whole = (t.1, s.whole);
      within = omega (arith, s.within, len);
      fits = s.fits;
      failed = subst (FailsAt s.mid e) at s.failed;
    })
    (λ others r h. absurd cc))

pub slots_halt : TestsDecide → (n : ℕ) (wide : Bool) (index : ℕ) (c mid : Cursor) (prefix : List Constant) (e : PoolError) → skip wide + length (indexed prefix) < n → AllByRecursion IsWhole prefix → Spans c (flat_map constant_bytes prefix) mid
    → constant_at_cursor (index + (skip wide + length (indexed prefix))) mid ≡ Err e → slots_at n wide index c ≡ Err e
unfolding slots_at slot_at
slots_halt d zero wide index c mid prefix e lt whole s failed = absurd (omega (arith, lt))
slots_halt d (suc n) true index c mid prefix e lt whole s failed =
    let at : index + (1 + length (indexed prefix)) ≡ (index + 1) + (0 + length (indexed prefix)) = omega arith in
    bind_fails _ (slots_halt d n false (index + 1) c mid prefix e (omega (arith, lt)) whole s (subst (FailsAt mid e) at failed))
slots_halt d (suc n) false index c mid [] e lt whole s failed =
    let none : length (indexed []) ≡ 0 = ap length indexed_none in
    let at : index + (0 + length (indexed [])) ≡ index = omega (arith, none) in
    bind_fails _ (ap (constant_at_cursor index) (Spans-stay s) ∙ subst (FailsAt mid e) at failed)
slots_halt d (suc n) false index c mid (k ∷ prefix) e lt whole s failed =
    let first = step_again (constant_reads d index) c k (flat_map constant_bytes prefix) mid whole.0 s in
    let len = indexed_len k prefix in
    let at : index + (0 + length (indexed (k ∷ prefix))) ≡ (index + 1) + (skip (takes_two k) + length (indexed prefix)) = omega (arith, len) in
    bind_again _ first.1 (bind_fails _ (slots_halt d n (takes_two k) (index + 1) first.0 mid prefix e (omega (arith, lt, len)) whole.1 first.2 (subst (FailsAt mid e) at failed)))

-- ---- which constants they are

-- constants as far as they take this many indexes, the last of which begins within them
pub record Filled (ks : List Constant) : Type 0 where
  pub prefix : List Constant
  pub last : Constant
  pub whole : AllByRecursion IsWhole (prefix ++ last ∷ [])
  pub below : length (indexed prefix) < length ks
  pub all : length ks ≤ length (indexed (prefix ++ last ∷ []))
  pub is : ks ≡ take (length ks) (indexed (prefix ++ last ∷ []))
  pub bytes : flat_map constant_bytes ks ≡ flat_map constant_bytes (prefix ++ last ∷ [])

filled_next : (k : Constant) (ks : List Constant) → IsWhole k → takes_two k ≡ false → Filled ks → Filled (k ∷ ks)
filled_next k ks good narrow f =
    let one = indexed_narrow k f.prefix narrow in
    let other = indexed_narrow k (f.prefix ++ f.last ∷ []) narrow in
    record {
      prefix = k ∷ f.prefix;
      last = f.last;
      whole = (good, f.whole);
      below = omega (arith, f.below, ap length one);
      all = omega (arith, f.all, ap length other);
      is = ap (λ (t : List Constant). k ∷ t) f.is ∙ ap (λ (t : List Constant). take (suc (length ks)) t) (sym other);
      bytes = ap (λ (t : List ℕ). constant_bytes k ++ t) f.bytes;
    }

filled_wide : (k : Constant) (ks : List Constant) → IsWhole k → takes_two k ≡ true → Filled ks → Filled (k ∷ (Hole ∷ ks))
filled_wide k ks good wide f =
    let one = indexed_wide k f.prefix wide in
    let other = indexed_wide k (f.prefix ++ f.last ∷ []) wide in
    record {
      prefix = k ∷ f.prefix;
      last = f.last;
      whole = (good, f.whole);
      below = omega (arith, f.below, ap length one);
      all = omega (arith, f.all, ap length other);
      is = ap (λ (t : List Constant). k ∷ (Hole ∷ t)) f.is ∙ ap (λ (t : List Constant). take (suc (suc (length ks))) t) (sym other);
      bytes = ap (λ (t : List ℕ). constant_bytes k ++ t) f.bytes;
    }

filled_one : (k : Constant) → IsWhole k → Filled (k ∷ [])
unfolding indexed
filled_one k good = record {
  prefix = [];
  last = k;
  whole = (good, tt);
  below = omega arith;
  all = omega (arith, indexed_len k []);
  is = by_width (takes_two k) (λ h. ap (take 1) (sym (indexed_wide k [] h))) (λ h. ap (take 1) (sym (indexed_narrow k [] h)));
  bytes = refl;
}

filled_two : (k : Constant) → IsWhole k → takes_two k ≡ true → Filled (k ∷ (Hole ∷ []))
unfolding indexed
filled_two k good wide = record {
  prefix = [];
  last = k;
  whole = (good, tt);
  below = omega arith;
  all = omega (arith, ap length (indexed_wide k [] wide));
  is = ap (take 2) (sym (indexed_wide k [] wide));
  bytes = refl;
}

-- after a constant that takes two indexes stands a hole
wide_next : (k j : Constant) (js : List Constant) → takes_two k ≡ true → AreSlots (j ∷ js) (takes_two k) → (j ≡ Hole) × AreSlots js false
wide_next k j js wide h = subst (λ (b : Bool). AreSlots (j ∷ js) b) wide h

pub narrow_next : (k : Constant) (ks : List Constant) → takes_two k ≡ false → AreSlots ks (takes_two k) → AreSlots ks false
narrow_next k ks narrow h = subst (λ (b : Bool). AreSlots ks b) narrow h

pub slots_filled : (ks : List Constant) → 0 < length ks → AreSlots ks false → Filled ks
slots_filled [] some h = absurd (omega (arith, some))
slots_filled (k ∷ []) some h = filled_one k h.0
slots_filled (k ∷ (j ∷ [])) some h =
    by_width (takes_two k)
    (λ wide. let n = wide_next k j [] wide h.1 in subst (λ (t : Constant). Filled (k ∷ (t ∷ []))) (sym n.0) (filled_two k h.0 wide))
    (λ narrow. filled_next k (j ∷ []) h.0 narrow (slots_filled (j ∷ []) (omega arith) (narrow_next k (j ∷ []) narrow h.1)))
slots_filled (k ∷ (j ∷ (i ∷ is))) some h =
    by_width (takes_two k)
    (λ wide. let n = wide_next k j (i ∷ is) wide h.1 in subst (λ (t : Constant). Filled (k ∷ (t ∷ (i ∷ is)))) (sym n.0) (filled_wide k (i ∷ is) h.0 wide (slots_filled (i ∷ is) (omega arith) n.1)))
    (λ narrow. filled_next k (j ∷ (i ∷ is)) h.0 narrow (slots_filled (j ∷ (i ∷ is)) (omega arith) (narrow_next k (j ∷ (i ∷ is)) narrow h.1)))

-- whole constants at the first n of their indexes
pub prefix_slots : (ks : List Constant) (n : ℕ) → AllByRecursion IsWhole ks → AreSlots (take n (indexed ks)) false
unfolding indexed
prefix_slots [] zero h = tt
prefix_slots [] (suc n) h = tt
prefix_slots (k ∷ ks) zero h = tt
prefix_slots (k ∷ ks) (suc zero) h =
    by_width (takes_two k)
    (λ wide. subst (λ (t : List Constant). AreSlots (take 1 t) false) (sym (indexed_wide k ks wide)) (h.0, tt))
    (λ narrow. subst (λ (t : List Constant). AreSlots (take 1 t) false) (sym (indexed_narrow k ks narrow)) (h.0, tt))
prefix_slots (k ∷ ks) (suc (suc n)) h =
    by_width (takes_two k)
    (λ wide. subst (λ (t : List Constant). AreSlots (take (suc (suc n)) t) false) (sym (indexed_wide k ks wide)) (h.0, subst (λ (b : Bool). AreSlots (Hole ∷ take n (indexed ks)) b) (sym wide) (refl, prefix_slots ks n h.1)))
    (λ narrow. subst (λ (t : List Constant). AreSlots (take (suc (suc n)) t) false) (sym (indexed_narrow k ks narrow)) (h.0, subst (λ (b : Bool). AreSlots (take (suc n) (indexed ks)) b) (sym narrow) (prefix_slots ks (suc n) h.1)))

take_none : (n : ℕ) → (let none : List Constant = [] in take n none ≡ none)
take_none zero = refl
take_none (suc n) = refl

-- their bytes, as soon as the last constant begins within them
pub prefix_bytes : (prefix : List Constant) (last : Constant) (n : ℕ) → length (indexed prefix) < n → flat_map constant_bytes (take n (indexed (prefix ++ last ∷ []))) ≡ flat_map constant_bytes (prefix ++ last ∷ [])
unfolding indexed
prefix_bytes prefix last zero lt = absurd (omega (arith, lt))
prefix_bytes [] last (suc zero) lt =
    by_width (takes_two last)
    (λ wide. ap (λ (t : List Constant). flat_map constant_bytes (take 1 t)) (indexed_wide last [] wide))
    (λ narrow. ap (λ (t : List Constant). flat_map constant_bytes (take 1 t)) (indexed_narrow last [] narrow))
prefix_bytes [] last (suc (suc n)) lt =
    by_width (takes_two last)
    (λ wide. ap (λ (t : List Constant). flat_map constant_bytes (take (suc (suc n)) t)) (indexed_wide last [] wide) ∙ ap (λ (t : List Constant). constant_bytes last ++ flat_map constant_bytes t) (take_none n))
    (λ narrow. ap (λ (t : List Constant). flat_map constant_bytes (take (suc (suc n)) t)) (indexed_narrow last [] narrow))
prefix_bytes (k ∷ prefix) last (suc zero) lt = absurd (omega (arith, lt, indexed_len k prefix))
prefix_bytes (k ∷ prefix) last (suc (suc n)) lt =
    by_width (takes_two k)
    (λ wide.
    ap (λ (t : List Constant). flat_map constant_bytes (take (suc (suc n)) t)) (indexed_wide k (prefix ++ last ∷ []) wide)
    ∙ ap (λ (t : List ℕ). constant_bytes k ++ t) (prefix_bytes prefix last n (omega (arith, lt, ap length (indexed_wide k prefix wide)))))
    (λ narrow.
    ap (λ (t : List Constant). flat_map constant_bytes (take (suc (suc n)) t)) (indexed_narrow k (prefix ++ last ∷ []) narrow)
    ∙ ap (λ (t : List ℕ). constant_bytes k ++ t) (prefix_bytes prefix last (suc n) (omega (arith, lt, ap length (indexed_narrow k prefix narrow)))))
