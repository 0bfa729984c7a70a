-- A pool that is read where it stands is spelled there, one that is spelled there is read, and the fault that is reported is the first.
use Rattle.std.proofs.Common.{◌≡◌, ℕ, List, Result, Ok, Err, refl, ap, subst, inl, inr}
use Rattle.dj_cursor.specs.Steps.{Gives}
use Rattle.dj_cursor.specs.Reading.{Cursor, cursor_at}
use Rattle.dj_cursor.proofs.Bytes.{IsBytes, IsBytes-drop}
use Rattle.dj_cursor.proofs.Steps.{bind_err}
use Rattle.dj_cursor.proofs.Spans.{step_takes}
use Rattle.dj_pool.specs.declared.pool.PoolError.{PoolError}
use Rattle.dj_pool.specs.declared.pool.PoolError.TheVariants as pool_errors
use Rattle.dj_pool.specs.Memory.{pool_is_memory}
use Rattle.dj_pool.specs.trusted.Pool.{Constant}
use Rattle.dj_pool.specs.Faults.{PoolFault}
use Rattle.dj_pool.specs.Answers.{IsPoolAt, ReadsPool}
use Rattle.dj_pool.specs.Laws.{OnePool, OneFault, NoPoolWhereFault, PoolOrFault}
use Rattle.dj_pool.specs.Reading.{pool_at, pool_from}
use Rattle.dj_pool.proofs.Decides.{TestsDecide, tests_decide}
use Rattle.dj_pool.proofs.PoolLaws.{pool_reads, pool_refuses}

pool_from_takes : TestsDecide → (bytes : List ℕ) (at : ℕ) (x : List Constant × ℕ) → IsBytes bytes → pool_from bytes at ≡ Ok x → IsPoolAt bytes at x.0 x.1
unfolding pool_from
pool_from_takes d bytes at x fits e =
    let c : Cursor = cursor_at at bytes in
    let p = step_takes (pool_reads d) c (IsBytes-drop at bytes fits) e in
    let made : (p.value, p.next.place) ≡ x = cc (p.rest) in
    subst (λ (y : List Constant × ℕ). IsPoolAt bytes at y.0 y.1) made (record { rest = p.next.rest; parts = p.spans.parts; next_is = p.spans.place; valid = p.good })

pool_at_again : TestsDecide → (bytes : List ℕ) (at : ℕ) (pool : List Constant) (next : ℕ) (h : IsPoolAt bytes at pool next) → (let c : Cursor = cursor_at at bytes in pool_at c ≡ Ok (pool, record { place = next; rest = h.rest }))
pool_at_again d bytes at pool next h = (pool_reads d).again (cursor_at at bytes) pool (record { place = next; rest = h.rest }) h.valid (record { parts = h.parts; place = h.next_is })

pool_from_says : TestsDecide → (bytes : List ℕ) (at : ℕ) (e : PoolError) → IsBytes bytes → pool_from bytes at ≡ Err e → PoolFault (cursor_at at bytes) e
unfolding pool_from
pool_from_says d bytes at e fits h = bind_err h (λ r. (pool_refuses d).says (cursor_at at bytes) e (IsBytes-drop at bytes fits) r) (λ x r g. absurd cc)

pub reads_pool : TestsDecide → (bytes : List ℕ) (at : ℕ) (r : Result (List Constant × ℕ) PoolError) → IsBytes bytes → Gives pool_is_memory (λ (x : List Constant × ℕ). (x.0, x.1)) r (pool_from bytes at) → ReadsPool bytes at r
reads_pool d bytes at (Ok x) fits given = pool_from_takes d bytes at x fits given
reads_pool d bytes at (Err pool_errors.Memory) fits given = tt
reads_pool d bytes at (Err (pool_errors.Cut p)) fits given = pool_from_says d bytes at _ fits given
reads_pool d bytes at (Err (pool_errors.Tag p)) fits given = pool_from_says d bytes at _ fits given
reads_pool d bytes at (Err (pool_errors.Link p)) fits given = pool_from_says d bytes at _ fits given
reads_pool d bytes at (Err (pool_errors.Text p)) fits given = pool_from_says d bytes at _ fits given

-- ---- laws

pub one_pool : OnePool
one_pool bytes at a b m n p q =
    let one = pool_at_again tests_decide bytes at a m p in
    let other = pool_at_again tests_decide bytes at b n q in
    let x : List Constant × Cursor = (a, record { place = m; rest = p.rest }) in
    let y : List Constant × Cursor = (b, record { place = n; rest = q.rest }) in
    let same : x ≡ y = cc in
    record { pool = ap (λ (z : List Constant × Cursor). z.0) same; next = ap (λ (z : List Constant × Cursor). z.1.place) same }

pub one_fault : OneFault
one_fault bytes at d e p q =
    let one = (pool_refuses tests_decide).again (cursor_at at bytes) d p in
    let other = (pool_refuses tests_decide).again (cursor_at at bytes) e q in
    cc

pub no_pool_where_fault : NoPoolWhereFault
no_pool_where_fault bytes at pool next e p q =
    let one = pool_at_again tests_decide bytes at pool next p in
    let other = (pool_refuses tests_decide).again (cursor_at at bytes) e q in
    absurd cc

by_result : {A E P : Type 0} (r : Result A E) → ((x : A) → r ≡ Ok x → P) → ((e : E) → r ≡ Err e → P) → P
by_result (Ok x) one other = one x refl
by_result (Err e) one other = other e refl

pub pool_or_fault : PoolOrFault
pool_or_fault bytes at fits =
    by_result (pool_from bytes at)
    (λ x r. inl (x.0, (x.1, pool_from_takes tests_decide bytes at x fits r)))
    (λ e r. inr (e, pool_from_says tests_decide bytes at e fits r))
