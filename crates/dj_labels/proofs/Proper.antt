-- Whether an instruction is proper doesn't hang on its targets.
use Rattle.std.proofs.Common.{◌≡◌, ℕ, ◌<◌, ℤ, pos, ◌+ℤ◌, ◌-ℤ◌, ◌<ℤ◌, FitsSigned, List, [], ◌∷◌, map, length, get_or, w32, sym, subst, subst₂, arith}
use Rattle.std.specs.List.{AllByRecursion}
use Rattle.std.proofs.lemmas.List.{length-map, get_or-map}
use Rattle.dj_ops.specs.declared.instruction.Instr.{Instr}
use Rattle.dj_ops.specs.declared.instruction.Instr.TheVariants as instrs
use Rattle.dj_ops.specs.trusted.Instructions.{IsTable, IsLookup, IsProper}
use Rattle.dj_labels.specs.trusted.Targets.{with_targets}
use Rattle.dj_labels.specs.trusted.Labels.{StandUpTo, address_of}
use Rattle.dj_labels.specs.Laws.{LabelledIsWellFormed}
use Rattle.dj_labels.proofs.Lists.{each_map, each_of_map}

-- a table of as many targets
table_of : (low : ℤ) (a b : List ℤ) → length a ≡ length b → IsTable low a → IsTable low b
table_of low a b same is = record {
  some = omega (arith, is.some, same);
  low_fits = is.low_fits;
  high_fits = subst (λ (n : ℕ). FitsSigned w32 (low +ℤ pos n -ℤ pos 1)) same is.high_fits;
}

abbrev pair_with : (ℤ → ℤ) → ℤ × ℤ → ℤ × ℤ
pair_with f pair = (pair.0, f pair.1)

lookup_from : (f : ℤ → ℤ) (pairs : List (ℤ × ℤ)) → IsLookup (map (pair_with f) pairs) → IsLookup pairs
lookup_from f pairs is = record {
  count = omega (arith, is.count, length-map pairs (pair_with f));
  matches = each_of_map (λ pair. FitsSigned w32 pair.0) (pair_with f) pairs is.matches;
  rising = λ i j d lt within.
      let there : j < length (map (pair_with f) pairs) = omega (arith, within, length-map pairs (pair_with f)) in
      let first : get_or (map (pair_with f) pairs) i (pair_with f d) ≡ pair_with f (get_or pairs i d) = get_or-map (pair_with f) pairs i d (pair_with f d) (omega (arith, lt, within)) in
      let second : get_or (map (pair_with f) pairs) j (pair_with f d) ≡ pair_with f (get_or pairs j d) = get_or-map (pair_with f) pairs j d (pair_with f d) within in
      subst₂ (λ (a b : ℤ × ℤ). a.0 <ℤ b.0) first second (is.rising i j (pair_with f d) lt there);
}

lookup_to : (f : ℤ → ℤ) (pairs : List (ℤ × ℤ)) → IsLookup pairs → IsLookup (map (pair_with f) pairs)
lookup_to f pairs is = record {
  count = omega (arith, is.count, length-map pairs (pair_with f));
  matches = each_map (λ pair. FitsSigned w32 pair.0) (pair_with f) pairs is.matches;
  rising = λ i j d lt within.
      let there : j < length pairs = omega (arith, within, length-map pairs (pair_with f)) in
      let first : get_or (map (pair_with f) pairs) i d ≡ pair_with f (get_or pairs i d) = get_or-map (pair_with f) pairs i d d (omega (arith, lt, there)) in
      let second : get_or (map (pair_with f) pairs) j d ≡ pair_with f (get_or pairs j d) = get_or-map (pair_with f) pairs j d d there in
      subst₂ (λ (a b : ℤ × ℤ). a.0 <ℤ b.0) (sym first) (sym second) (is.rising i j d lt there);
}

-- from one with other targets
pub proper_from : (f : ℤ → ℤ) (instr : Instr) → IsProper (with_targets f instr) → IsProper instr
proper_from f (instrs.Table low default targets) is = table_of low (map f targets) targets (length-map targets f) is
proper_from f (instrs.Lookup default pairs) is = lookup_from f pairs is
proper_from f instr is = is

-- and to one
pub proper_to : (f : ℤ → ℤ) (instr : Instr) → IsProper instr → IsProper (with_targets f instr)
proper_to f (instrs.Table low default targets) is = table_of low targets (map f targets) (sym (length-map targets f)) is
proper_to f (instrs.Lookup default pairs) is = lookup_to f pairs is
proper_to f instr is = is

-- instructions that stand in code are proper, whatever their targets
all_proper : (f : ℤ → ℤ) (code starts : List ℕ) (instrs : List Instr) (end : ℕ) → StandUpTo code starts (map (with_targets f) instrs) end → AllByRecursion IsProper instrs
all_proper f code starts [] end h = tt
all_proper f code [] (i ∷ is) end h = absurd h
all_proper f code (x ∷ xs) (i ∷ is) end h = (proper_from f i h.0.proper, all_proper f code xs is end h.1)

pub well_formed : LabelledIsWellFormed
well_formed code table l h = record {
  proper = all_proper (address_of h.starts) code h.starts l.code (length code) h.cut.each;
  targets = h.targets;
  ranges = h.ranges;
}
