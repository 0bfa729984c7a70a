-- Laws of pools that hold whatever is read or changed.
use Rattle.std.specs.Prelude.{◌≡◌, ℕ, ◌^◌, ◌<◌, ◌≤◌, ◌⊎◌, ◌↔◌, List, [], ◌∷◌, ◌++◌, None, slice_index, option_and_then}
use Rattle.dj_cursor.specs.Reading.{cursor_at}
use Rattle.dj_names.specs.trusted.Descriptors.{IsFieldDescriptor, IsMethodDescriptor}
use Rattle.dj_pool.specs.declared.pool.PoolError.{PoolError}
use Rattle.dj_pool.specs.trusted.Pool.{Constant, indexed, constant_at, text_of, class_text_of, names_of, member_of, text_at, class_name_at, name_and_type_at, NamesText, NamesDesc, IsConstant, IsPool}
use Rattle.dj_pool.specs.Pool.{member_at}
use Rattle.dj_pool.specs.Faults.{PoolFault}
use Rattle.dj_pool.specs.Answers.{IsPoolAt, length_with, last_index, MayHaveText, Redirects}

-- ---- reading

-- at a place there is at most one pool, which ends at one place
pub record IsSame (a b : List Constant) (m n : ℕ) : Type 0 where
  pub pool : a ≡ b
  pub next : m ≡ n

abbrev pub OnePool : Type 0
OnePool = (bytes : List ℕ) (at : ℕ) (a b : List Constant) (m n : ℕ) → IsPoolAt bytes at a m → IsPoolAt bytes at b n → IsSame a b m n

-- a place has one first fault at most
abbrev pub OneFault : Type 0
OneFault = (bytes : List ℕ) (at : ℕ) (d e : PoolError) → PoolFault (cursor_at at bytes) d → PoolFault (cursor_at at bytes) e → d ≡ e

-- there is no pool where there is a fault
abbrev pub NoPoolWhereFault : Type 0
NoPoolWhereFault = (bytes : List ℕ) (at : ℕ) (pool : List Constant) (next : ℕ) (e : PoolError) → IsPoolAt bytes at pool next → PoolFault (cursor_at at bytes) e → ⊥

-- there is a pool at the place, or there is a fault
abbrev pub PoolOrFault : Type 0
PoolOrFault = (bytes : List ℕ) (at : ℕ) → ((i : ℕ) → slice_index bytes i < 2 ^ 8)
    → ((pool : List Constant) × ((next : ℕ) × IsPoolAt bytes at pool next)) ⊎ ((e : PoolError) × PoolFault (cursor_at at bytes) e)

-- ---- changing

-- a valid pool stays so where a constant is appended that is valid there
abbrev pub AppendedIsPool : Type 0
AppendedIsPool = (pool : List Constant) (k : Constant) → IsPool pool → IsConstant pool k → length_with pool k ≤ last_index → IsPool (pool ++ indexed (k ∷ []))

-- the text is a field's descriptor where the index names one, and a method's where it names one of those
pub record KeepsKind (pool : List Constant) (index text : ℕ) : Type 0 where
  pub field : NamesDesc IsFieldDescriptor pool index → NamesText IsFieldDescriptor pool text
  pub method : NamesDesc IsMethodDescriptor pool index → NamesText IsMethodDescriptor pool text

-- a valid pool stays so where a constant gets another text that it may have, of the kind of descriptor that it had
abbrev pub RedirectedIsPool : Type 0
RedirectedIsPool = (before now : List Constant) (index text : ℕ) → IsPool before → text < 2 ^ 16 → MayHaveText before index text → KeepsKind before index text
    → Redirects before index text now → IsPool now

-- ---- looking up

-- in a valid pool nothing that a constant names is missing
pub record LooksUp (pool : List Constant) (index : ℕ) : Type 0 where
  pub text : text_at pool index ≡ None ↔ option_and_then text_of (constant_at pool index) ≡ None
  pub class_name : class_name_at pool index ≡ None ↔ option_and_then class_text_of (constant_at pool index) ≡ None
  pub name_and_type : name_and_type_at pool index ≡ None ↔ option_and_then names_of (constant_at pool index) ≡ None
  pub member : member_at pool index ≡ None ↔ option_and_then member_of (constant_at pool index) ≡ None

abbrev pub PoolLooksUp : Type 0
PoolLooksUp = (pool : List Constant) (index : ℕ) → IsPool pool → LooksUp pool index
