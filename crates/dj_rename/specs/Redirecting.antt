-- The code's own words for the way from a pool to the renamed one.
use Rattle.std.specs.Prelude.{◌≡◌, ℕ, List, ◌++◌, map, take, drop, Some}
use Rattle.dj_names.specs.trusted.Types.{Name}
use Rattle.dj_pool.specs.trusted.Pool.{Constant, Utf8, constant_at, IsPool}
use Rattle.dj_rename.specs.declared.wanted.Wanted.{Wanted}
use Rattle.dj_rename.specs.Pools.{renamed_constant}
use Rattle.dj_rename.specs.Renaming.{wanted_by, wanted_need, IsSettled}

-- the texts of all constants are there
abbrev pub AreSettled : List Constant → List Name → Type 0
AreSettled pool texts = (of i : ℕ) (k : Constant) (w : Wanted) → constant_at pool i ≡ Some k → Some w ≡ wanted_by of k → IsSettled pool texts (wanted_need pool w)

-- the renamed pool, as far as this many constants have their new texts
abbrev pub half_renamed : List Constant → List Name → ℕ → List Constant
half_renamed pool texts n = map (renamed_constant pool texts) (take n pool) ++ (drop n pool ++ map Utf8 texts)

pub record IsHalfway (pool : List Constant) (texts : List Name) (n : ℕ) (now : List Constant) : Type 0 where
  pub is : now ≡ half_renamed pool texts n
  pub valid : IsPool now
