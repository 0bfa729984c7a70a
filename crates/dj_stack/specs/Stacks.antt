-- Operands in parts, of which longs have their high halves in a list of their own.
use Rattle.std.specs.Prelude.{ℕ, suc, ◌+◌, List, [], ◌∷◌}
use Rattle.dj_names.specs.declared.run.Value.{Value}
use Rattle.dj_stack.specs.declared.parts.Kind.{Kind}
use Rattle.dj_stack.specs.declared.parts.Kind.TheVariants as kinds
use Rattle.dj_stack.specs.Parts.{at_zero, value_by}

abbrev pub longs_of : Kind → ℕ
longs_of kinds.Empty = 0
longs_of kinds.Int = 0
longs_of kinds.Long = 1
longs_of kinds.Ref = 0

-- how many are longs
abbrev pub longs_in : List Kind → ℕ
longs_in [] = 0
longs_in (kind ∷ kinds) = longs_of kind + longs_in kinds

-- what an operand of this kind adds to the high halves
abbrev pub high_part : Kind → ℕ → List ℕ
high_part kinds.Empty high = []
high_part kinds.Int high = []
high_part kinds.Long high = high ∷ []
high_part kinds.Ref high = []

-- the high halves are those of the longs, in their order
abbrev pub values_by : List Kind → (ℕ → ℕ) → (ℕ → ℕ) → List Value
values_by [] low high = []
values_by (kind ∷ kinds) low high = value_by kind (low 0) (high 0) ∷ values_by kinds (λ i. low (suc i)) (λ i. high (longs_of kind + i))

abbrev pub values_in : List Kind → List ℕ → List ℕ → List Value
values_in kinds lows highs = values_by kinds (at_zero lows) (at_zero highs)
