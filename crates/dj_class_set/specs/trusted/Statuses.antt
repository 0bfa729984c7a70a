-- Whether a status is one of some.
use Rattle.std.specs.Prelude.{ℕ, List, nat_eq, IsTrue}
use Rattle.std.specs.List.{list_any}

abbrev pub IsAmong : ℕ → List ℕ → Type 0
IsAmong status statuses = IsTrue (list_any (nat_eq status) statuses)
