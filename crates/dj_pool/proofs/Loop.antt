-- Reading what stands at the indexes one after the other, as a loop does.
use Rattle.std.proofs.Common.{◌≡◌, ℕ, suc, ◌-◌, ◌+◌, ◌≤◌, ◌<◌, Bool, List, [], ◌∷◌, ◌++◌, Result, Ok, sym, ap, subst, ◌∙◌, arith}
use Rattle.std.proofs.lemmas.List.{append-nil}
use Rattle.dj_cursor.proofs.Steps.{fails_then}
use Rattle.dj_cursor.proofs.Loop.{with_prefix, with_prefix-next}
use Rattle.dj_cursor.specs.Steps.{◌>>=◌, Fails}
use Rattle.dj_cursor.specs.Reading.{Cursor}
use Rattle.dj_pool.specs.declared.pool.PoolError.{PoolError}
use Rattle.dj_pool.specs.trusted.Pool.{Constant, takes_two}
use Rattle.dj_pool.specs.Memory.{pool_is_memory}
use Rattle.dj_pool.specs.Reading.{slot_at, slots_at}

pub slots_go_on : (prefix : List Constant) (count i : ℕ) (wide : Bool) (c : Cursor) (n : Constant) (after : Cursor) (total : Result (List Constant × Cursor) PoolError) → i < count → slot_at wide (i + 1) c ≡ Ok (n, after)
    → with_prefix prefix (slots_at (count - i) wide (i + 1) c) ≡ total → with_prefix (prefix ++ n ∷ []) (slots_at (count - (i + 1)) (takes_two n) (i + 1 + 1) after) ≡ total
unfolding slots_at
slots_go_on prefix count i wide c n after total lt h so_far =
    let k : count - i ≡ suc (count - (i + 1)) = omega arith in
    let one : with_prefix prefix (slots_at (count - i) wide (i + 1) c) ≡ with_prefix (prefix ++ n ∷ []) (slots_at (count - (i + 1)) (takes_two n) (i + 1 + 1) after) = rw (k, h) (with_prefix-next prefix n (slots_at (count - (i + 1)) (takes_two n) (i + 1 + 1) after)) in
    sym one ∙ so_far

pub slots_end : (e : PoolError) (prefix : List Constant) (count i : ℕ) (wide : Bool) (c : Cursor) (total : Result (List Constant × Cursor) PoolError) → i < count → Fails (pool_is_memory e) e (slot_at wide (i + 1) c)
    → with_prefix prefix (slots_at (count - i) wide (i + 1) c) ≡ total → Fails (pool_is_memory e) e total
unfolding slots_at
slots_end e prefix count i wide c total lt h so_far =
    let k : count - i ≡ suc (count - (i + 1)) = omega arith in
    let rest = λ (first : Constant × Cursor). slots_at (count - (i + 1)) (takes_two first.0) (i + 1 + 1) first.1 >>= λ others. Ok (first.0 ∷ others.0, others.1) in
    let add = λ (x : List Constant × Cursor). Ok (prefix ++ x.0, x.1) in
    let failed : Fails (pool_is_memory e) e (with_prefix prefix (slots_at (suc (count - (i + 1))) wide (i + 1) c)) = fails_then (pool_is_memory e) e (slot_at wide (i + 1) c >>= rest) add (fails_then (pool_is_memory e) e (slot_at wide (i + 1) c) rest h) in
    subst (λ t. Fails (pool_is_memory e) e t) so_far (rw k failed)

pub slots_done : (prefix : List Constant) (count i : ℕ) (wide : Bool) (index : ℕ) (c : Cursor) (total : Result (List Constant × Cursor) PoolError) → count ≤ i → with_prefix prefix (slots_at (count - i) wide index c) ≡ total → total ≡ Ok (prefix, c)
unfolding slots_at
slots_done prefix count i wide index c total le so_far =
    let k : count - i ≡ 0 = omega arith in
    let one : with_prefix prefix (slots_at (count - i) wide index c) ≡ Ok (prefix, c) = rw k (ap (λ ns. Ok (ns, c)) (append-nil prefix)) in
    sym so_far ∙ one
