-- How one unit is spelled: the unit that bytes begin with, and the bytes after it. Public clauses cite it only through Tests.
use Rattle.std.specs.Prelude.{ℕ, ◌+◌, ◌-◌, ◌*◌, Option, Some, None, List, [], ◌∷◌, Bool, nat_lt, nat_le, nat_eq, ◌&&◌, ◌||◌, if◌then◌else◌}

-- the second or third byte of a spelling
abbrev pub is_tail : ℕ → Bool
is_tail b = nat_le 128 b && nat_lt b 192

abbrev pub two_unit_of : ℕ → ℕ → ℕ
two_unit_of a b = (a - 192) * 64 + (b - 128)

abbrev pub three_unit_of : ℕ → ℕ → ℕ → ℕ
three_unit_of a b c = (a - 224) * 4096 + (b - 128) * 64 + (c - 128)

-- a first byte from 192 to 223: the unit 0, or one that one byte can't spell
unfoldable pub two_read : ℕ → ℕ → List ℕ → Option (ℕ × List ℕ)
two_read a b more =
    if (nat_eq (two_unit_of a b) 0 || nat_le 128 (two_unit_of a b)) then Some (two_unit_of a b, more) else None

-- a first byte from 224 on: a unit that two bytes can't spell
unfoldable pub three_read : ℕ → ℕ → List ℕ → Option (ℕ × List ℕ)
three_read a b [] = None
three_read a b (c ∷ more) =
    if (is_tail c && nat_lt a 240 && nat_le 2048 (three_unit_of a b c)) then Some (three_unit_of a b c, more) else None

unfoldable pub long_read : ℕ → List ℕ → Option (ℕ × List ℕ)
long_read a [] = None
long_read a (b ∷ more) =
    if (is_tail b && nat_le 192 a) then (if nat_lt a 224 then two_read a b more else three_read a b more) else None

unfoldable pub unit_read : List ℕ → Option (ℕ × List ℕ)
unit_read [] = None
unit_read (a ∷ more) = if (nat_le 1 a && nat_lt a 128) then Some (a, more) else long_read a more
