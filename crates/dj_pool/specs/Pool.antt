-- Beside trusted/Pool.antt: what no clause of the call `djvm` reaches.
use Rattle.std.specs.Prelude.{ℕ, List, Option, option_and_then}
use Rattle.dj_pool.specs.trusted.Pool.{Constant, constant_at, member_of, class_name_at, both, name_and_type_at}

-- ---- what is at an index

-- the texts of the class, the name and the descriptor of the field or method at an index
abbrev pub member_at : List Constant → ℕ → Option (List ℕ × (List ℕ × List ℕ))
member_at pool index =
    option_and_then (λ (m : ℕ × ℕ). both (class_name_at pool m.0) (name_and_type_at pool m.1)) (option_and_then member_of (constant_at pool index))
