-- Local variables with a cell for each that was given a value, at plain values.
use Rattle.std.proofs.Common.{◌≡◌, ◌≢◌, ◌≤◌, ℕ, zero, suc, List, [], ◌∷◌, map, get_or, Some, None, pos, refl, arith}
use Rattle.dj_names.specs.declared.run.Value.TheVariants as values
use Rattle.dj_stack.specs.declared.parts.Kind.TheVariants as kinds
use Rattle.dj_stack.specs.declared.parts.Parts.{Parts}
use Rattle.dj_stack.specs.Parts.{part}
use Rattle.dj_stack.specs.Cells.{cell, variables_in, used_in, SharedOut}

abbrev three : List Parts
three = part kinds.Long 5 1 ∷ part kinds.Int 7 0 ∷ part kinds.Empty 0 0 ∷ []

-- they are counted from 1; 0 is none, and past the last there is none
each_cell : map (cell three) (0 ∷ 1 ∷ 2 ∷ 3 ∷ 4 ∷ []) ≡ None ∷ Some (values.Long (pos 4294967301)) ∷ Some (values.Int (pos 7)) ∷ None ∷ None ∷ []
each_cell = refl

from_one : cell three 1 ≡ Some (values.Int (pos 7)) → ⊥
from_one same = absurd cc

-- the variables in their order, whatever the order of the cells is
in_order : variables_in (2 ∷ 0 ∷ 1 ∷ 3 ∷ []) three ≡ Some (values.Int (pos 7)) ∷ None ∷ Some (values.Long (pos 4294967301)) ∷ None ∷ []
in_order = refl

not_of_cells : variables_in (2 ∷ 1 ∷ []) three ≡ Some (values.Long (pos 4294967301)) ∷ Some (values.Int (pos 7)) ∷ [] → ⊥
not_of_cells same = absurd cc

no_variables : variables_in [] three ≡ []
no_variables = refl

used : map used_in ([] ∷ (0 ∷ 0 ∷ []) ∷ (2 ∷ 0 ∷ 1 ∷ 3 ∷ []) ∷ []) ≡ 0 ∷ 0 ∷ 3 ∷ []
used = refl

-- ---- each cell to one

abbrev places : List ℕ
places = 2 ∷ 0 ∷ 1 ∷ []

at_most_two : (i : ℕ) → get_or places i 0 ≤ 2
at_most_two zero = omega arith
at_most_two (suc zero) = omega arith
at_most_two (suc (suc zero)) = omega arith
at_most_two (suc (suc (suc i))) = omega arith

differ : (i j : ℕ) → ◌≢◌ {A = ℕ} (get_or places i 0) 0 → get_or places i 0 ≡ get_or places j 0 → i ≡ j
differ zero zero some e = refl
differ zero (suc zero) some e = absurd (omega (arith, e))
differ zero (suc (suc zero)) some e = absurd (omega (arith, e))
differ zero (suc (suc (suc j))) some e = absurd (omega (arith, e))
differ (suc zero) j some e = absurd (some refl)
differ (suc (suc zero)) zero some e = absurd (omega (arith, e))
differ (suc (suc zero)) (suc zero) some e = absurd (omega (arith, e))
differ (suc (suc zero)) (suc (suc zero)) some e = refl
differ (suc (suc zero)) (suc (suc (suc j))) some e = absurd (omega (arith, e))
differ (suc (suc (suc i))) j some e = absurd (some refl)

shared : SharedOut places 2
shared = record { all = refl; within = at_most_two; apart = differ }

-- a cell of no variable
one_too_many : SharedOut places 3 → ⊥
one_too_many it = let all : 2 ≡ 3 = it.all in omega (arith, all)

-- a variable's cell that isn't there
one_past_the_end : SharedOut (1 ∷ 3 ∷ []) 2 → ⊥
one_past_the_end it = let within : 3 ≤ 2 = it.within 1 in omega (arith, within)

-- a cell of two variables
one_of_two : SharedOut (1 ∷ 1 ∷ []) 2 → ⊥
one_of_two it = let same : 0 ≡ 1 = it.apart 0 1 (λ (e : 1 ≡ 0). absurd (omega (arith, e))) refl in omega (arith, same)
