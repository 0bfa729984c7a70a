-- Operands in parts, at plain values.
use Rattle.std.proofs.Common.{◌≡◌, [], ◌∷◌, map, pos, negsuc, refl, arith}
use Rattle.dj_names.specs.declared.run.Value.TheVariants as values
use Rattle.dj_stack.specs.declared.parts.Kind.TheVariants as kinds
use Rattle.dj_stack.specs.Stacks.{values_in, longs_of, longs_in, high_part}

-- an int's word has its bits; a long has its low half among the words, and its high half among those of the longs
in_order : values_in (kinds.Int ∷ kinds.Long ∷ kinds.Ref ∷ kinds.Long ∷ []) (4294967295 ∷ 5 ∷ 3 ∷ 4294967295 ∷ []) (1 ∷ 4294967295 ∷ [])
    ≡ values.Int (negsuc 0) ∷ values.Long (pos 4294967301) ∷ values.Ref 3 ∷ values.Long (negsuc 0) ∷ []
in_order = refl

none : values_in [] [] [] ≡ []
none = refl

-- the first high half is that of the lower long
another_long : values_in (kinds.Long ∷ kinds.Long ∷ []) (0 ∷ 0 ∷ []) (0 ∷ 1 ∷ []) ≡ values.Long (pos 4294967296) ∷ values.Long (pos 0) ∷ [] → ⊥
another_long same = absurd cc

-- an int takes no high half
passed_over : values_in (kinds.Int ∷ kinds.Long ∷ []) (0 ∷ 0 ∷ []) (1 ∷ []) ≡ values.Int (pos 0) ∷ values.Long (pos 0) ∷ [] → ⊥
passed_over same = absurd cc

kind_counts : values_in (kinds.Int ∷ []) (7 ∷ []) [] ≡ values_in (kinds.Ref ∷ []) (7 ∷ []) [] → ⊥
kind_counts same = absurd cc

count_of_longs : map longs_of (kinds.Empty ∷ kinds.Int ∷ kinds.Long ∷ kinds.Ref ∷ []) ≡ 0 ∷ 0 ∷ 1 ∷ 0 ∷ []
count_of_longs = refl

counted : longs_in (kinds.Long ∷ kinds.Int ∷ kinds.Long ∷ []) ≡ 2
counted = refl

not_each : longs_in (kinds.Long ∷ kinds.Int ∷ []) ≡ 2 → ⊥
not_each same = omega (arith, same)

high_of_a_long : high_part kinds.Long 7 ≡ 7 ∷ []
high_of_a_long = refl

no_high_of_an_int : high_part kinds.Int 7 ≡ 7 ∷ [] → ⊥
no_high_of_an_int same = absurd cc
