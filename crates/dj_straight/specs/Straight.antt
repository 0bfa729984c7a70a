-- Beside trusted/Straight.antt: what no clause of the call `djvm` reaches.
use Rattle.std.specs.Prelude.{ℕ, List, [], ◌∷◌}
use Rattle.dj_pool.specs.trusted.Pool.{Constant}
use Rattle.dj_class.specs.trusted.ClassFile.{MemberInfo}
use Rattle.dj_straight.specs.trusted.Straight.{IsPlainMethod}

-- the methods have these names, and are straight as far as their code isn't looked at
abbrev pub ArePlainNames : List Constant → List MemberInfo → List (List ℕ) → Type 0
ArePlainNames pool [] [] = Unit {0}
ArePlainNames pool (m ∷ ms) (name ∷ names) = IsPlainMethod pool m name × ArePlainNames pool ms names
ArePlainNames pool _ _ = ⊥
