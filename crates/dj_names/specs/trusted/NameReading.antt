-- How a class's name is spelled, byte by byte.
use Rattle.std.specs.Prelude.{ℕ, Bool, false, not, List, [], ◌∷◌, nat_eq, ◌||◌, ◌&&◌, if◌then◌else◌}

-- a byte that no part of a name has
abbrev pub is_stop : ℕ → Bool
is_stop b = nat_eq b 46 || nat_eq b 59 || nat_eq b 91

-- a byte that can't come next: a stop, or a slash after an empty part; fresh says that a part begins here
abbrev pub is_refused : Bool → ℕ → Bool
is_refused fresh b = is_stop b || (fresh && nat_eq b 47)

-- whether the rest of the bytes completes a class name
unfoldable pub reads_class_name : Bool → List ℕ → Bool
reads_class_name fresh [] = not fresh
reads_class_name fresh (b ∷ more) = if is_refused fresh b then false else reads_class_name (nat_eq b 47) more
