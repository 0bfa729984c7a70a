-- Parts of reports: lines, and bytes that are escaped in them.
use Rattle.std.specs.Prelude.{ℕ, ◌+◌, ◌/◌, ◌%◌, ◌&&◌, ◌==◌, Bool, not, List, [], ◌∷◌, ◌++◌, nat_lt, nat_le, if◌then◌else◌}
use Rattle.std.specs.List.{flat_map}

abbrev pub line : List ℕ → List ℕ
line text = text ++ 10 ∷ []

-- an upper-case hexadecimal digit
abbrev pub hex_digit : ℕ → ℕ
hex_digit d = if nat_lt d 10 then 48 + d else 55 + d

-- from 21 to 7E in hexadecimal, but not %
abbrev pub is_plain : ℕ → Bool
is_plain b = nat_le 33 b && nat_le b 126 && not (b == 37)

abbrev pub escaped_byte : ℕ → List ℕ
escaped_byte b = if is_plain b then b ∷ [] else 37 ∷ hex_digit (b / 16) ∷ hex_digit (b % 16) ∷ []

-- a path, a class name or a member: a plain byte as it is, any other as % and two digits
abbrev pub escaped : List ℕ → List ℕ
escaped text = flat_map escaped_byte text
