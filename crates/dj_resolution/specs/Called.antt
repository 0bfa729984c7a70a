-- The method that a call takes, like the one to which its operand resolves.
use Rattle.std.specs.Prelude.{◌≡◌, ℕ, ◌≤◌, Bool, Option, Some}
use Rattle.dj_model.specs.trusted.Program.{Program, Method}
use Rattle.dj_model.specs.trusted.Linking.{FoundMethod}
use Rattle.dj_class_table.specs.Tables.{method_there}
use Rattle.dj_class_table.specs.declared.place.Place.{Place}
use Rattle.dj_resolution.specs.Numbers.{SaysMethod, first_some, method_found, most_above, numbers_up}

-- the method that the class declares with the name and the descriptor of the one at a place, where it passes the test
abbrev pub SaysOwn : Program → (Method → Bool) → Place → ℕ → Option Place → Type 0
SaysOwn program test resolved class place = (found : FoundMethod) → method_there program resolved ≡ Some found
    → SaysMethod program place (method_found program test found.method.name found.method.desc class)

-- the first such method of a class, where it is there, and its superclasses
abbrev pub SaysFirst : Program → (Method → Bool) → Place → ℕ → Option ℕ → Option Place → Type 0
SaysFirst program test resolved levels class place = (found : FoundMethod) → method_there program resolved ≡ Some found
    → SaysMethod program place (first_some (method_found program test found.method.name found.method.desc) (numbers_up levels program class))

-- the same, however many levels more are looked at
abbrev pub SaysUp : Program → (Method → Bool) → Place → ℕ → Option Place → Type 0
SaysUp program test resolved class place = (levels : ℕ) → most_above ≤ levels → SaysFirst program test resolved levels (Some class) place
