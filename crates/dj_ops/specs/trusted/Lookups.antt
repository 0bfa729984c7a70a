-- The pairs of a lookupswitch: whether their matches rise, and what a number finds among them.
use Rattle.std.specs.Prelude.{ℤ, ◌&&◌, Bool, true, List, [], ◌∷◌, int_lt}

-- each match is below the next
abbrev pub rises_from : ℤ → List (ℤ × ℤ) → Bool
rises_from z [] = true
rises_from z (pair ∷ pairs) = int_lt z pair.0 && rises_from pair.0 pairs

abbrev pub rises : List (ℤ × ℤ) → Bool
rises [] = true
rises (pair ∷ pairs) = rises_from pair.0 pairs
