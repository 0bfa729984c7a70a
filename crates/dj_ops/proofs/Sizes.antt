-- How many bytes an instruction has, and that its bytes stand where they are written.
use Rattle.std.proofs.Common.{◌≡◌, ℕ, ◌+◌, ◌*◌, ◌-◌, ◌<◌, ℤ, List, [], ◌∷◌, ◌++◌, length, replicate, take, drop, slice_range, true, false, refl, sym, ap, ap₂, subst, ◌∙◌, arith}
use Rattle.std.specs.List.{flat_map}
use Rattle.std.proofs.lemmas.List.{length-append, length-replicate, length-take, length-drop, take_at, drop_at}
use Rattle.dj_ops.specs.declared.instruction.Instr.{Instr}
use Rattle.dj_ops.specs.declared.instruction.Instr.TheVariants as instrs
use Rattle.dj_ops.specs.trusted.Instructions.{IsProper, IsPadding, IsPaddingOf, AreOffsets, target_bytes, pair_bytes, bytes_with, SpellsInstruction, Stands, padding_count, zeros, written, length_at}

-- ---- the bytes behind a switch's padding

targets_length : (at : ℕ) (targets : List ℤ) → length (flat_map (target_bytes at) targets) ≡ length targets * 4
targets_length at [] = refl
targets_length at (target ∷ targets) = omega (arith, targets_length at targets, length-append (target_bytes at target) (flat_map (target_bytes at) targets))

pairs_length : (at : ℕ) (pairs : List (ℤ × ℤ)) → length (flat_map (pair_bytes at) pairs) ≡ length pairs * 8
pairs_length at [] = refl
pairs_length at (pair ∷ pairs) = omega (arith, pairs_length at pairs, length-append (pair_bytes at pair) (flat_map (pair_bytes at) pairs))

table_with : (padding : List ℕ) (at : ℕ) (default low : ℤ) (targets : List ℤ)
    → length (bytes_with padding at (instrs.Table low default targets)) ≡ 1 + length padding + 12 + length targets * 4
table_with [] at default low targets = omega (arith, targets_length at targets)
table_with (b ∷ padding) at default low targets = omega (arith, table_with padding at default low targets)

lookup_with : (padding : List ℕ) (at : ℕ) (default : ℤ) (pairs : List (ℤ × ℤ))
    → length (bytes_with padding at (instrs.Lookup default pairs)) ≡ 1 + length padding + 8 + length pairs * 8
lookup_with [] at default pairs = omega (arith, pairs_length at pairs)
lookup_with (b ∷ padding) at default pairs = omega (arith, lookup_with padding at default pairs)

pub table_length : (at : ℕ) (default low : ℤ) (targets : List ℤ) → length_at at (instrs.Table low default targets) ≡ 1 + padding_count at + 12 + length targets * 4
table_length at default low targets =
    table_with (replicate (padding_count at) 0) at default low targets ∙ ap (λ (n : ℕ). 1 + n + 12 + length targets * 4) (length-replicate (padding_count at) 0)

pub lookup_length : (at : ℕ) (default : ℤ) (pairs : List (ℤ × ℤ)) → length_at at (instrs.Lookup default pairs) ≡ 1 + padding_count at + 8 + length pairs * 8
lookup_length at default pairs =
    lookup_with (replicate (padding_count at) 0) at default pairs ∙ ap (λ (n : ℕ). 1 + n + 8 + length pairs * 8) (length-replicate (padding_count at) 0)

-- ---- padding

zeros_are : (at : ℕ) → IsPadding at (replicate (padding_count at) 0)
zeros_are at =
    let many : length {A = ℕ} (replicate (padding_count at) 0) ≡ padding_count at = length-replicate (padding_count at) 0 in
    record { few = omega (arith, many); aligned = omega (arith, many) }

padding_length : (at : ℕ) (padding : List ℕ) → IsPadding at padding → length padding ≡ padding_count at
padding_length at padding is = omega (arith, is.few, is.aligned)

zeros_pad : (at : ℕ) (instr : Instr) → IsPaddingOf at instr (zeros at instr)
zeros_pad at (instrs.Table low default targets) = zeros_are at
zeros_pad at (instrs.Lookup default pairs) = zeros_are at
zeros_pad at _ = refl

-- ---- the laws

pub written_spells : (at : ℕ) (instr : Instr) → AreOffsets at instr → SpellsInstruction at instr (written at instr)
written_spells at instr offsets = record { padding = zeros at instr; padded = zeros_pad at instr; offsets = offsets; are = refl }

padded_length : (at : ℕ) (instr : Instr) (padding : List ℕ) → IsPaddingOf at instr padding → length (bytes_with padding at instr) ≡ length_at at instr
padded_length at (instrs.Table low default targets) padding is = omega (arith, table_with padding at default low targets, table_length at default low targets, padding_length at padding is)
padded_length at (instrs.Lookup default pairs) padding is = omega (arith, lookup_with padding at default pairs, lookup_length at default pairs, padding_length at padding is)
padded_length at instr padding is = ap (λ (l : List ℕ). length (bytes_with l at instr)) is

pub spelled_length : (at : ℕ) (instr : Instr) (bytes : List ℕ) → SpellsInstruction at instr bytes → length bytes ≡ length_at at instr
spelled_length at instr bytes s = ap length s.are ∙ padded_length at instr s.padding s.padded

some_with : (padding : List ℕ) (at : ℕ) (instr : Instr) → 0 < length (bytes_with padding at instr)
some_with padding at (instrs.Local op slot true) = omega arith
some_with padding at (instrs.Local op slot false) = omega arith
some_with padding at (instrs.Inc slot by true) = omega arith
some_with padding at (instrs.Inc slot by false) = omega arith
some_with padding at _ = omega arith

-- an instruction has some bytes
pub some_bytes : (at : ℕ) (instr : Instr) → 0 < length_at at instr
some_bytes at instr = some_with (zeros at instr) at instr

between : (before text after : List ℕ) → slice_range (before ++ (text ++ after)) (length before) (length before + length text) ≡ text
between before text after =
    let many : length before + length text - length before ≡ length text = omega arith in
    ap₂ (λ (n : ℕ) (l : List ℕ). take n l) many (drop_at before (text ++ after) (length before) refl) ∙ take_at text after (length text) refl

pub written_stands : (before after : List ℕ) (instr : Instr) → IsProper instr → AreOffsets (length before) instr
    → Stands (before ++ (written (length before) instr ++ after)) (length before) instr (length before + length_at (length before) instr)
written_stands before after instr proper offsets =
    let at : ℕ = length before in
    let text : List ℕ = written at instr in
    record {
      later = omega (arith, some_bytes at instr);
      within = omega (arith, length-append before (text ++ after), length-append text after);
      spelled = subst (λ (t : List ℕ). SpellsInstruction at instr t) (sym (between before text after)) (written_spells at instr offsets);
      proper = proper;
    }

pub next_address : (code : List ℕ) (at next : ℕ) (instr : Instr) → Stands code at instr next → next ≡ at + length_at at instr
next_address code at next instr s =
    omega (arith, s.later, s.within, spelled_length at instr (slice_range code at next) s.spelled, length-take (next - at) (drop at code), length-drop at code)
