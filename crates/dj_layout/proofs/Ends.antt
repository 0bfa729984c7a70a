-- Where instructions start and end, one after the other.
use Rattle.std.proofs.Common.{◌≡◌, ℕ, zero, suc, ◌+◌, ◌*◌, ◌<◌, ◌≤◌, ℤ, pos, ◌-ℤ◌, List, [], ◌∷◌, ◌++◌, map, length, take, get_or, true, false, refl, ap, subst, arith}
use Rattle.std.proofs.lemmas.List.{length-map, length-take}
use Rattle.dj_ops.specs.declared.instruction.Instr.{Instr}
use Rattle.dj_ops.specs.declared.instruction.Instr.TheVariants as instrs
use Rattle.dj_ops.specs.trusted.Forms.{OperandForm, SignedByte, SignedShort, ShortLiteral, LongLiteral, ShortOffset, LongOffset, form_of}
use Rattle.dj_ops.specs.trusted.Instructions.{signed_bytes, literal_bytes, length_at}
use Rattle.dj_ops.proofs.Sizes.{some_bytes, table_length, lookup_length}
use Rattle.dj_labels.specs.trusted.Targets.{with_targets}
use Rattle.dj_layout.specs.trusted.Places.{starts_from, end_from}
use Rattle.dj_layout.specs.Passes.{entry_count}

-- ---- how long an instruction is

signed_short : (form : OperandForm) (z : ℤ) → length (signed_bytes form z) ≤ 4
signed_short SignedByte z = omega arith
signed_short SignedShort z = omega arith
signed_short ShortOffset z = omega arith
signed_short LongOffset z = omega arith
signed_short _ z = omega arith

literal_short : (form : OperandForm) (index : ℕ) → length (literal_bytes form index) ≤ 4
literal_short ShortLiteral index = omega arith
literal_short LongLiteral index = omega arith
literal_short _ index = omega arith

-- but for its entries it has few bytes
pub length_most : (at : ℕ) (instr : Instr) → length_at at instr ≤ 16 + entry_count instr * 8
length_most at (instrs.Push op value) = omega (arith, signed_short (form_of op) value)
length_most at (instrs.Literal op index) = omega (arith, literal_short (form_of op) index)
length_most at (instrs.Local op slot true) = omega arith
length_most at (instrs.Local op slot false) = omega arith
length_most at (instrs.Inc slot by true) = omega arith
length_most at (instrs.Inc slot by false) = omega arith
length_most at (instrs.Branch op target) = omega (arith, signed_short (form_of op) (target -ℤ pos at))
length_most at (instrs.Table low default targets) = omega (arith, table_length at default low targets)
length_most at (instrs.Lookup default pairs) = omega (arith, lookup_length at default pairs)
length_most at _ = omega arith

-- each entry has more than one
pub length_least : (at : ℕ) (instr : Instr) → entry_count instr ≤ length_at at instr
length_least at (instrs.Table low default targets) = omega (arith, table_length at default low targets)
length_least at (instrs.Lookup default pairs) = omega (arith, lookup_length at default pairs)
length_least at _ = omega arith

-- its targets don't matter
signed_same : (form : OperandForm) (a b : ℤ) → length (signed_bytes form a) ≡ length (signed_bytes form b)
signed_same SignedByte a b = refl
signed_same SignedShort a b = refl
signed_same ShortOffset a b = refl
signed_same LongOffset a b = refl
signed_same _ a b = refl

abbrev pub pair_with : (ℤ → ℤ) → ℤ × ℤ → ℤ × ℤ
pair_with f pair = (pair.0, f pair.1)

pub same_length : (f : ℤ → ℤ) (at : ℕ) (instr : Instr) → length_at at (with_targets f instr) ≡ length_at at instr
same_length f at (instrs.Branch op target) = ap suc (signed_same (form_of op) (f target -ℤ pos at) (target -ℤ pos at))
same_length f at (instrs.Table low default targets) = omega (arith, table_length at default low targets, table_length at (f default) low (map f targets), length-map targets f)
same_length f at (instrs.Lookup default pairs) = omega (arith, lookup_length at default pairs, lookup_length at (f default) (map (pair_with f) pairs), length-map pairs (pair_with f))
same_length f at _ = refl

-- ---- ends

pub ends_after : (at : ℕ) (instrs : List Instr) → at + length instrs ≤ end_from at instrs
ends_after at [] = omega arith
ends_after at (i ∷ is) = omega (arith, some_bytes at i, ends_after (at + length_at at i) is)

pub end_rises : (at j k : ℕ) (instrs : List Instr) → j ≤ k → end_from at (take j instrs) ≤ end_from at (take k instrs)
end_rises at zero k instrs le = omega (arith, ends_after at (take k instrs))
end_rises at (suc j) zero instrs le = absurd (omega (arith, le))
end_rises at (suc j) (suc k) [] le = omega arith
end_rises at (suc j) (suc k) (i ∷ is) le = end_rises (at + length_at at i) j k is (omega (arith, le))

pub end_within : (at k : ℕ) (instrs : List Instr) → end_from at (take k instrs) ≤ end_from at instrs
end_within at zero instrs = omega (arith, ends_after at instrs)
end_within at (suc k) [] = omega arith
end_within at (suc k) (i ∷ is) = end_within (at + length_at at i) k is

-- one instruction more
end_next : (at k : ℕ) (instrs : List Instr) (d : Instr) → k < length instrs → end_from at (take (suc k) instrs) ≡ end_from at (take k instrs) + length_at (end_from at (take k instrs)) (get_or instrs k d)
end_next at k [] d lt = absurd (omega (arith, lt))
end_next at zero (i ∷ is) d lt = refl
end_next at (suc k) (i ∷ is) d lt = end_next (at + length_at at i) k is d (omega (arith, lt))

starts_next : (at k : ℕ) (instrs : List Instr) → k < length instrs → starts_from at (take (suc k) instrs) ≡ starts_from at (take k instrs) ++ end_from at (take k instrs) ∷ []
starts_next at k [] lt = absurd (omega (arith, lt))
starts_next at zero (i ∷ is) lt = refl
starts_next at (suc k) (i ∷ is) lt = ap (λ (l : List ℕ). at ∷ l) (starts_next (at + length_at at i) k is (omega (arith, lt)))

one_more : (k : ℕ) → suc k ≡ k + 1
one_more k = omega arith

pub end_more : (at k : ℕ) (instrs : List Instr) (d : Instr) → k < length instrs → end_from at (take (k + 1) instrs) ≡ end_from at (take k instrs) + length_at (end_from at (take k instrs)) (get_or instrs k d)
end_more at k instrs d lt =
    subst (λ (n : ℕ). end_from at (take n instrs) ≡ end_from at (take k instrs) + length_at (end_from at (take k instrs)) (get_or instrs k d)) (one_more k) (end_next at k instrs d lt)

pub starts_more : (at k : ℕ) (instrs : List Instr) → k < length instrs → starts_from at (take (k + 1) instrs) ≡ starts_from at (take k instrs) ++ end_from at (take k instrs) ∷ []
starts_more at k instrs lt =
    subst (λ (n : ℕ). starts_from at (take n instrs) ≡ starts_from at (take k instrs) ++ end_from at (take k instrs) ∷ []) (one_more k) (starts_next at k instrs lt)

-- ---- starts

pub starts_length : (at : ℕ) (instrs : List Instr) → length (starts_from at instrs) ≡ length instrs
starts_length at [] = refl
starts_length at (i ∷ is) = ap suc (starts_length (at + length_at at i) is)

pub start_at : (at k : ℕ) (instrs : List Instr) (d : ℕ) → k < length instrs → get_or (starts_from at instrs) k d ≡ end_from at (take k instrs)
start_at at k [] d lt = absurd (omega (arith, lt))
start_at at zero (i ∷ is) d lt = refl
start_at at (suc k) (i ∷ is) d lt = start_at (at + length_at at i) k is d (omega (arith, lt))

-- no number is past the end of what stands before it
pub number_below : (k : ℕ) (instrs : List Instr) → k ≤ length instrs → k ≤ end_from 0 (take k instrs)
number_below k instrs le = omega (arith, le, ends_after 0 (take k instrs), length-take k instrs)
