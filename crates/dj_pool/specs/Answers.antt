-- What reading a pool and changing one answer.
use Rattle.std.specs.Prelude.{◌≡◌, ℕ, ◌+◌, ◌-◌, ◌≤◌, ◌<◌, ⊤, List, [], ◌∷◌, ◌++◌, length, drop, slice_set, Some, Result, Ok, Err, IsSomeAnd}
use Rattle.dj_cursor.specs.Reading.{cursor_at}
use Rattle.dj_pool.specs.declared.pool.PoolError.{PoolError}
use Rattle.dj_pool.specs.declared.pool.PoolError.TheVariants as pool_errors
use Rattle.dj_pool.specs.declared.append.AppendError.{AppendError}
use Rattle.dj_pool.specs.declared.append.AppendError.TheVariants as append_errors
use Rattle.dj_pool.specs.trusted.Pool.{Constant, Class, NameAndType, MethodType, indexed, pool_bytes, constant_at, IsPool, IsLinked}
use Rattle.dj_pool.specs.Faults.{PoolFault}

-- the count of the pool is at this place of the bytes, and its last constant ends before the next
pub record IsPoolAt (bytes : List ℕ) (at : ℕ) (pool : List Constant) (next : ℕ) : Type 0 where
  pub rest : List ℕ
  pub parts : drop at bytes ≡ pool_bytes pool ++ rest
  pub next_is : next ≡ at + length (pool_bytes pool)
  pub valid : IsPool pool

-- a pool is read at its place, or its first fault is reported
abbrev pub ReadsPool : List ℕ → ℕ → Result (List Constant × ℕ) PoolError → Type 0
ReadsPool bytes at (Ok x) = IsPoolAt bytes at x.0 x.1
ReadsPool bytes at (Err pool_errors.Memory) = ⊤
ReadsPool bytes at (Err e) = PoolFault (cursor_at at bytes) e

-- ---- appending

-- the greatest index that a constant may have
abbrev pub last_index : ℕ
last_index = 65534

-- the indexes that the constant would take, and those before them
abbrev pub length_with : List Constant → Constant → ℕ
length_with pool k = length pool + length (indexed (k ∷ []))

-- the constant is at the next index, or its last index would pass the greatest, or memory ran out; then the pool is as before
abbrev pub Appends : (before : List Constant) → Constant → (after : List Constant) → Result ℕ AppendError → Type 0
Appends before k now (Ok index) =
    (now ≡ before ++ indexed (k ∷ [])) × (index ≡ length before + 1) × (length_with before k ≤ last_index)
Appends before k now (Err append_errors.Full) = (now ≡ before) × (last_index < length_with before k)
Appends before k now (Err append_errors.Memory) = now ≡ before

-- ---- another text

-- the constant with another text; of a name and descriptor it is the descriptor's
abbrev pub with_text : ℕ → Constant → Constant
with_text text (Class name) = Class text
with_text text (NameAndType name desc) = NameAndType name text
with_text text (MethodType desc) = MethodType text
with_text text k = k

-- a class, a name and descriptor or a method's descriptor
abbrev pub HasText : Constant → Type 0
HasText (Class name) = ⊤
HasText (NameAndType name desc) = ⊤
HasText (MethodType desc) = ⊤
HasText _ = ⊥

-- the constant at the index may have this text
abbrev pub MayHaveText : List Constant → ℕ → ℕ → Type 0
MayHaveText pool index text = IsSomeAnd (constant_at pool index) (λ k. HasText k × IsLinked pool (with_text text k))

-- the constant at the index has the text now, and all else stays
pub record Redirects (before : List Constant) (index text : ℕ) (now : List Constant) : Type 0 where
  pub constant : Constant
  pub at : constant_at before index ≡ Some constant
  pub changed : now ≡ slice_set before (index - 1) (with_text text constant)
