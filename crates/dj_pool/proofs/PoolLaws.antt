-- The pool: what is read is spelled so, what is spelled so is read, and the first fault is reported exactly where it is.
use Rattle.std.proofs.Common.{◌≡◌, ℕ, zero, suc, ◌+◌, ◌-◌, ◌<◌, true, false, eqb, List, [], ◌∷◌, ◌++◌, length, take, Option, Some, None, Result, Ok, Err, refl, sym, ap, subst, ◌∙◌, arith, inl, inr}
use Rattle.std.specs.Prelude.{slice_get}
use Rattle.std.specs.List.{flat_map}
use Rattle.std.proofs.lemmas.Bool.{eqb-true}
use Rattle.std.proofs.lemmas.Bool.Decides.{nat_tests}
use Rattle.std.proofs.lemmas.List.{length-take, take_all}
use Rattle.std.proofs.lemmas.Option.{slice_get_within}
use Rattle.dj_cursor.specs.trusted.Spelling.{u2}
use Rattle.dj_cursor.specs.Reading.{Cursor}
use Rattle.dj_cursor.specs.Faults.{after}
use Rattle.dj_cursor.proofs.Bytes.{IsBytes}
use Rattle.dj_cursor.proofs.Steps.{bind_again, bind_err, bind_fails, never_ok, cond_either, cond_true, cond_false}
use Rattle.dj_cursor.proofs.Spans.{Spans, Spans-then, IsBytes-Spans, Reads, step_takes, step_again}
use Rattle.dj_cursor.proofs.Numbers.{u2_reads}
use Rattle.dj_cursor.proofs.FaultLaws.{Refuses, Spans-after, after-Spans, u2_refuses}
use Rattle.dj_pool.specs.declared.pool.PoolError.{PoolError}
use Rattle.dj_pool.specs.declared.pool.PoolError.TheVariants as pool_errors
use Rattle.dj_pool.specs.trusted.Pool.{Constant, indexed, constant_bytes, pool_bytes, constant_at, IsPool}
use Rattle.dj_pool.specs.Faults.{ConstantFault, IsAmongConstants, IsMislinked, IsUnlinked, ConstantsFault, PoolFault}
use Rattle.dj_pool.specs.Tests.{is_fit}
use Rattle.dj_pool.specs.Reading.{constant_at_cursor, slots_at, first_unlinked, linked, linked_slots_at, pool_at}
use Rattle.dj_pool.proofs.Decides.{TestsDecide}
use Rattle.dj_pool.proofs.ConstantFaults.{constant_refuses}
use Rattle.dj_pool.proofs.Slots.{AreSlots, HasSlots, slots_read, SlotsStop, slots_stop, slots_halt, slots_filled, by_width, prefix_slots, prefix_bytes}
use Rattle.dj_pool.proofs.Links.{AreConstants, links_take, links_again, are_whole, IsFirst, first_takes, first_again, unfit_takes, unfit_again, fit_is_linked}

-- ---- this many indexes, all of them linked

linked_ok : {A : Type 0} (x y : A) (o : Option ℕ) → linked x o ≡ Ok y → (o ≡ None) × (x ≡ y)
linked_ok x y None h = (refl, cc)
linked_ok x y (Some i) h = absurd cc

linked_err : {A : Type 0} (x : A) (o : Option ℕ) (e : PoolError) → linked x o ≡ Err e → (m : ℕ) × (o ≡ Some m) × (e ≡ pool_errors.Link m)
linked_err x None e h = absurd cc
linked_err x (Some i) e h = (i, refl, cc)

linked_fails : {A : Type 0} (x : A) (o : Option ℕ) (m : ℕ) (e : PoolError) → o ≡ Some m → e ≡ pool_errors.Link m → linked x o ≡ Err e
linked_fails x None m e h reported = absurd cc
linked_fails x (Some i) m e h reported = cc

-- this many indexes, with valid constants
abbrev pub AreLinked : ℕ → List Constant → Type 0
AreLinked n ks = (length ks ≡ n) × AreConstants ks ks

linked_takes : TestsDecide → (n : ℕ) (c : Cursor) (x : List Constant × Cursor) → IsBytes c.rest → linked_slots_at n c ≡ Ok x → Spans c (flat_map constant_bytes x.0) x.1 × AreLinked n x.0
unfolding linked_slots_at
linked_takes d n c x fits e =
    let a = step_takes (slots_read d n false 1) c fits e in
    let l = linked_ok _ _ _ a.rest in
    subst (λ (y : List Constant × Cursor). Spans c (flat_map constant_bytes y.0) y.1 × AreLinked n y.0) l.1 (a.spans, (a.good.0, links_take d a.value 1 a.value a.good.1 (omega arith) l.0))

constants_slots : (ks : List Constant) → AreConstants ks ks → AreSlots ks false
constants_slots ks a =
    let whole = prefix_slots a.constants (length (indexed a.constants)) (are_whole ks a.constants a.each) in
    subst (λ (t : List Constant). AreSlots t false) (take_all (length (indexed a.constants)) (indexed a.constants) (omega arith) ∙ sym a.is) whole

linked_again : TestsDecide → (n : ℕ) (c : Cursor) (x : List Constant) (next : Cursor) → AreLinked n x → Spans c (flat_map constant_bytes x) next → linked_slots_at n c ≡ Ok (x, next)
unfolding linked_slots_at
linked_again d n c x next good s =
    let none : first_unlinked x 1 x ≡ None = ap (first_unlinked x 1) good.1.is ∙ links_again d x 1 good.1.constants good.1.each (omega (arith, ap length good.1.is)) in
    bind_again _ ((slots_read d n false 1).again c x next (good.0, constants_slots x good.1) s) (ap (linked (x, next)) none)

pub linked_reads : TestsDecide → (n : ℕ) → Reads (linked_slots_at n) (flat_map constant_bytes) (AreLinked n)
linked_reads d n = record { takes = linked_takes d n; again = linked_again d n }

-- ---- the pool

pool_takes : TestsDecide → (c : Cursor) (x : List Constant × Cursor) → IsBytes c.rest → pool_at c ≡ Ok x → Spans c (pool_bytes x.0) x.1 × IsPool x.0
unfolding pool_at
pool_takes d c x fits e =
    let n = step_takes (u2_reads pool_errors.Cut) c fits e in
    cond_either (eqb n.value 0) _ _ n.rest (λ h r. never_ok r) (λ h r.
    let t = (linked_reads d (n.value - 1)).takes n.next x n.fits r in
    let some : 0 < n.value = grind (arith, nat_tests) in
    let count : n.value ≡ length x.0 + 1 = omega (arith, t.1.0) in
    (subst (λ (k : ℕ). Spans c (u2 k ++ flat_map constant_bytes x.0) x.1) count (Spans-then n.spans t.0), record { constants = t.1.1.constants; indexes = t.1.1.is; each = t.1.1.each; count = omega (arith, n.good) }))

pool_again : TestsDecide → (c : Cursor) (x : List Constant) (next : Cursor) → IsPool x → Spans c (pool_bytes x) next → pool_at c ≡ Ok (x, next)
unfolding pool_at
pool_again d c x next good s =
    let n = step_again (u2_reads pool_errors.Cut) c (length x + 1) (flat_map constant_bytes x) next good.count s in
    let some : eqb (length x + 1) 0 ≡ false = grind (arith, nat_tests) in
    let back : length x ≡ (length x + 1) - 1 = omega arith in
    bind_again _ n.1 (cond_false _ some ((linked_reads d ((length x + 1) - 1)).again n.0 x next (back, record { constants = good.constants; is = good.indexes; each = good.each }) n.2))

pub pool_reads : TestsDecide → Reads pool_at pool_bytes IsPool
pool_reads d = record { takes = pool_takes d; again = pool_again d }

-- ---- faults

among_says : TestsDecide → (n count : ℕ) → count ≡ n + 1 → (c : Cursor) (e : PoolError) → SlotsStop n false 1 c e → IsAmongConstants count c e
among_says d n count is c e s =
    let at : 1 + (0 + length (indexed s.prefix)) ≡ length (indexed s.prefix) + 1 = omega arith in
    let failed : constant_at_cursor (length (indexed s.prefix) + 1) s.mid ≡ Err e = subst (λ (i : ℕ). constant_at_cursor i s.mid ≡ Err e) at s.failed in
    record {
      prefix = s.prefix;
      rest = s.mid.rest;
      parts = s.spans.parts;
      whole = s.whole;
      below = omega (arith, is, s.within);
      fault = subst (λ (m : Cursor). ConstantFault (length (indexed s.prefix) + 1) m e) (Spans-after s.spans) ((constant_refuses d (length (indexed s.prefix) + 1)).says s.mid e s.fits failed);
    }

among_halts : TestsDecide → (n count : ℕ) → count ≡ n + 1 → (c : Cursor) (e : PoolError) → IsAmongConstants count c e → slots_at n false 1 c ≡ Err e
among_halts d n count is c e f =
    let mid : Cursor = after c (flat_map constant_bytes f.prefix) f.rest in
    let at : length (indexed f.prefix) + 1 ≡ 1 + (0 + length (indexed f.prefix)) = omega arith in
    let failed = subst (λ (i : ℕ). constant_at_cursor i mid ≡ Err e) at ((constant_refuses d (length (indexed f.prefix) + 1)).again mid e f.fault) in
    slots_halt d n false 1 c mid f.prefix e (omega (arith, is, f.below)) f.whole (after-Spans c (flat_map constant_bytes f.prefix) f.rest f.parts) failed

-- the constant at an index, where indexes count from 1
constant_from : (pool : List Constant) (i j : ℕ) → i ≡ 1 + j → constant_at pool i ≡ slice_get pool j
constant_from pool zero j h = absurd (omega (arith, h))
constant_from pool (suc i) j h = let same : i ≡ j = omega (arith, h) in ap (slice_get pool) same

fit_before : TestsDecide → (count : ℕ) (ks : List Constant) (i : ℕ) (k : Constant) → count ≡ length ks + 1 → (IsMislinked count ks (suc i) k → ⊥) → is_fit ks (1 + i) k ≡ true
fit_before d count ks i k len right =
    let place : 1 + i ≡ suc i = omega arith in
    by_width (is_fit ks (1 + i) k) (λ fit. fit) (λ unfit. absurd (right (unfit_takes d count ks (suc i) k len (subst (λ (n : ℕ). is_fit ks n k ≡ false) place unfit))))

is_none : (n : ℕ) → (0 < n → ⊥) → eqb n 0 ≡ true
is_none zero h = refl
is_none (suc n) h = absurd (h (omega arith))

is_some : (n : ℕ) → 0 < n → eqb n 0 ≡ false
is_some zero h = absurd (omega (arith, h))
is_some (suc n) h = grind (arith, nat_tests)

-- no constant before the first that does not fit is mislinked
lowest_is : TestsDecide → (count : ℕ) (ks : List Constant) (m : ℕ) → IsFirst ks 1 ks m → count ≡ length ks + 1 → (i : ℕ) (k : Constant) → i < m → constant_at ks i ≡ Some k → IsMislinked count ks i k → ⊥
lowest_is d count ks m f len zero k lt at wrong = absurd cc
lowest_is d count ks m f len (suc i) k lt at wrong =
    let before : i < f.j = omega (arith, lt, f.m_is) in
    let place : 1 + i ≡ suc i = omega arith in
    let fit : is_fit ks (suc i) k ≡ true = subst (λ (n : ℕ). is_fit ks n k ≡ true) place (f.before i k before at) in
    fit_is_linked d count ks (suc i) k len fit wrong

-- the lowest index of a constant that is mislinked is the first that does not fit
first_is : TestsDecide → (count : ℕ) (ks : List Constant) (m : ℕ) (constant : Constant) → count ≡ length ks + 1 → constant_at ks m ≡ Some constant → IsMislinked count ks m constant
    → ((i : ℕ) (k : Constant) → i < m → constant_at ks i ≡ Some k → IsMislinked count ks i k → ⊥) → first_unlinked ks 1 ks ≡ Some m
first_is d count ks zero constant len at wrong lowest = absurd cc
first_is d count ks (suc j) constant len at wrong lowest =
    let place : 1 + j ≡ suc j = omega arith in
    let unfit : is_fit ks (1 + j) constant ≡ false = subst (λ (n : ℕ). is_fit ks n constant ≡ false) (sym place) (unfit_again d count ks (suc j) constant len wrong) in
    let before = λ (i : ℕ) (k : Constant) (lt : i < j) (e : slice_get ks i ≡ Some k). fit_before d count ks i k len (lowest (suc i) k (omega (arith, lt)) e) in
    first_again ks 1 ks j constant at unfit before ∙ ap Some place

unlinked_says : TestsDecide → (n count : ℕ) → count ≡ n + 1 → (c next : Cursor) (ks : List Constant) (m : ℕ) → HasSlots n false ks → Spans c (flat_map constant_bytes ks) next → first_unlinked ks 1 ks ≡ Some m → (e : PoolError) → e ≡ pool_errors.Link m → IsUnlinked count c e
unlinked_says d n count is c next ks m slots s h e reported =
    let f = first_takes ks 1 ks m h in
    let within : f.j < length ks = slice_get_within ks f.j f.constant f.at in
    let some : 0 < length ks = omega (arith, within) in
    let g = slots_filled ks some slots.1 in
    let len : count ≡ length ks + 1 = omega (arith, is, slots.0) in
    record {
      prefix = g.prefix;
      last = g.last;
      rest = next.rest;
      parts = s.parts ∙ ap (λ (t : List ℕ). t ++ next.rest) g.bytes;
      whole = g.whole;
      below = omega (arith, len, g.below);
      all = omega (arith, len, g.all);
      pool = ks;
      pool_is = g.is ∙ ap (λ (k : ℕ). take k (indexed (g.prefix ++ g.last ∷ []))) (omega (arith, len));
      index = m;
      constant = f.constant;
      at = constant_from ks m f.j f.m_is ∙ f.at;
      wrong = unfit_takes d count ks m f.constant len f.unfit;
      lowest = λ i k lt at. lowest_is d count ks m f len i k lt at;
      reported = reported;
    }

unlinked_halts : TestsDecide → (n count : ℕ) → count ≡ n + 1 → (c : Cursor) (e : PoolError) → IsUnlinked count c e → linked_slots_at n c ≡ Err e
unfolding linked_slots_at
unlinked_halts d n count is c e f =
    let n-is : count - 1 ≡ n = omega (arith, is) in
    let pool_is : f.pool ≡ take n (indexed (f.prefix ++ f.last ∷ [])) = f.pool_is ∙ ap (λ (k : ℕ). take k (indexed (f.prefix ++ f.last ∷ []))) n-is in
    let len : length f.pool ≡ n = ap length pool_is ∙ length-take n (indexed (f.prefix ++ f.last ∷ [])) ∙ omega (arith, is, f.all) in
    let slots : AreSlots f.pool false = subst (λ (t : List Constant). AreSlots t false) (sym pool_is) (prefix_slots (f.prefix ++ f.last ∷ []) n f.whole) in
    let bytes : flat_map constant_bytes f.pool ≡ flat_map constant_bytes (f.prefix ++ f.last ∷ []) = ap (flat_map constant_bytes) pool_is ∙ prefix_bytes f.prefix f.last n (omega (arith, is, f.below)) in
    let next : Cursor = after c (flat_map constant_bytes f.pool) f.rest in
    let s : Spans c (flat_map constant_bytes f.pool) next = after-Spans c (flat_map constant_bytes f.pool) f.rest (f.parts ∙ ap (λ (t : List ℕ). t ++ f.rest) (sym bytes)) in
    let count-is : count ≡ length f.pool + 1 = omega (arith, is, len) in
    let found = first_is d count f.pool f.index f.constant count-is f.at f.wrong f.lowest in
    bind_again _ ((slots_read d n false 1).again c f.pool next (len, slots) s) (linked_fails (f.pool, next) (first_unlinked f.pool 1 f.pool) f.index e found f.reported)

pub linked_refuses : TestsDecide → (n count : ℕ) → count ≡ n + 1 → Refuses (linked_slots_at n) (ConstantsFault count)
unfolding linked_slots_at
linked_refuses d n count is = record {
  says = λ c e fits h. bind_err h
      (λ r. inl (among_says d n count is c e (slots_stop d n false 1 c e fits r)))
      (λ x r g.
      let t = (slots_read d n false 1).takes c x fits r in
      let l = linked_err x (first_unlinked x.0 1 x.0) e g in
      inr (unlinked_says d n count is c x.1 x.0 l.0 t.1 t.0 l.1 e l.2));
  again = λ c e fault. elim fault as (λ _. linked_slots_at n c ≡ Err e) [
    | inl f ↦ bind_fails _ (among_halts d n count is c e f)
    | inr f ↦ unlinked_halts d n count is c e f
  ];
}

count_is : (n : ℕ) → 0 < n → n ≡ (n - 1) + 1
count_is n some = omega (arith, some)

err_same : (d e : PoolError) → (let x : Result (List Constant × Cursor) PoolError = Err d in x ≡ Err e) → e ≡ d
err_same d e h = cc

pool_says : TestsDecide → (c : Cursor) (e : PoolError) → IsBytes c.rest → pool_at c ≡ Err e → PoolFault c e
unfolding pool_at
pool_says d c e fits h =
    bind_err h
    (λ r. inl (inl ((u2_refuses pool_errors.Cut).says c e fits r)))
    (λ n r g.
    let t = (u2_reads pool_errors.Cut).takes c n fits r in
    cond_either (eqb n.0 0) _ _ g
    (λ none k. inl (inr (record { value = n.0; rest = n.1.rest; parts = t.0.parts; item = t.1; wrong = λ some. absurd (omega (arith, some, eqb-true _ _ none)); reported = err_same _ _ k })))
    (λ some k.
    let lt : 0 < n.0 = grind (arith, nat_tests) in
    let fault = (linked_refuses d (n.0 - 1) n.0 (count_is n.0 lt)).says n.1 e (IsBytes-Spans t.0 fits) k in
    inr (record { value = n.0; rest = n.1.rest; parts = t.0.parts; good = (t.1, lt); fault = subst (λ (m : Cursor). ConstantsFault n.0 m e) (Spans-after t.0) fault })))

pool_halts : TestsDecide → (c : Cursor) (e : PoolError) → PoolFault c e → pool_at c ≡ Err e
unfolding pool_at
pool_halts d c e fault = elim fault as (λ _. pool_at c ≡ Err e) [
  | inl f ↦ elim f as (λ _. pool_at c ≡ Err e) [
    | inl g ↦ bind_fails _ ((u2_refuses pool_errors.Cut).again c e g)
    | inr g ↦ (
        let next : Cursor = after c (u2 g.value) g.rest in
        let read = (u2_reads pool_errors.Cut).again c g.value next g.item (after-Spans c (u2 g.value) g.rest g.parts) in
        let none : eqb g.value 0 ≡ true = is_none g.value g.wrong in
        bind_again _ read (cond_true _ none (ap (λ (x : PoolError). Err x) (sym g.reported))))
  ]
  | inr f ↦ (
      let next : Cursor = after c (u2 f.value) f.rest in
      let read = (u2_reads pool_errors.Cut).again c f.value next f.good.0 (after-Spans c (u2 f.value) f.rest f.parts) in
      let some : eqb f.value 0 ≡ false = is_some f.value f.good.1 in
      bind_again _ read (cond_false _ some ((linked_refuses d (f.value - 1) f.value (count_is f.value f.good.1)).again next e f.fault)))
]

pub pool_refuses : TestsDecide → Refuses pool_at PoolFault
pool_refuses d = record { says = pool_says d; again = pool_halts d }
