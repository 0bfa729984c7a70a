-- Switches: what is read is spelled so, and what is spelled so is read.
use Rattle.std.proofs.Common.{◌≡◌, ℕ, ◌+◌, ◌^◌, ◌<◌, false, ℤ, pos, negsuc, ◌-ℤ◌, ◌<ℤ◌, ◌≤ℤ◌, List, [], ◌∷◌, ◌++◌, length, Ok, FitsSigned, refl, sym, ap, subst, ◌∙◌, append_assoc, arith}
use Rattle.std.specs.Prelude.{unsigned_abs, int_lt, AllPairs}
use Rattle.std.specs.List.{flat_map, AllByRecursion}
use Rattle.std.specs.Int.{w32}
use Rattle.std.proofs.lemmas.Int.{ints}
use Rattle.dj_cursor.specs.trusted.Spelling.{s4}
use Rattle.dj_cursor.specs.Reading.{Cursor}
use Rattle.dj_cursor.proofs.Bytes.{IsBytes}
use Rattle.dj_cursor.proofs.Steps.{bind_again, cond_either, cond_true, cond_false}
use Rattle.dj_cursor.proofs.Spans.{Spans, Spans-then, Reads, step_takes, step_again}
use Rattle.dj_cursor.proofs.Numbers.{block_reads}
use Rattle.dj_cursor.proofs.Parts.{many_reads}
use Rattle.dj_ops.specs.declared.instruction.Instr.{Instr}
use Rattle.dj_ops.specs.declared.instruction.Instr.TheVariants as instrs
use Rattle.dj_ops.specs.trusted.Instructions.{IsTable, IsLookup, IsPadding, offset, IsFar, high_of, target_bytes, pair_bytes, SpellsInstruction, padding_count}
use Rattle.dj_ops.specs.trusted.Lookups.{rises}
use Rattle.dj_ops.specs.Reading.{cut, target, target_at, pair_at, bounds_at, table_from, count_at, lookup_from, padded_at}
use Rattle.dj_ops.proofs.Parts.{both_reads, made_reads, s4_reads, Taken}
use Rattle.dj_ops.proofs.Rising.{rising_from, rises_if, lt_false, le_from}
use Rattle.dj_ops.proofs.Families.{offset_of_target, target_of_offset}

-- ---- targets and pairs

pub target_reads : (at : ℕ) → Reads (target_at at) (target_bytes at) (IsFar at)
unfolding target_at
target_reads at = made_reads s4_reads (target at) (offset at) (target_bytes at) (IsFar at)
    (λ z fits. (ap s4 (sym (offset_of_target at z)), subst (FitsSigned w32) (sym (offset_of_target at z)) fits))
    (λ t far. (far, target_of_offset at t, refl))

abbrev pub IsPair : ℕ → ℤ × ℤ → Type 0
IsPair at pair = FitsSigned w32 pair.0 × IsFar at pair.1

pub pair_reads : (at : ℕ) → Reads (pair_at at) (pair_bytes at) (IsPair at)
unfolding pair_at
pair_reads at = both_reads s4_reads (target_reads at)

abbrev pub Bounds : Type 0
Bounds = ℤ × (ℤ × ℤ)

abbrev pub bounds_bytes : ℕ → Bounds → List ℕ
bounds_bytes at b = target_bytes at b.0 ++ (s4 b.1.0 ++ s4 b.1.1)

abbrev pub AreBounds : ℕ → Bounds → Type 0
AreBounds at b = IsFar at b.0 × (FitsSigned w32 b.1.0 × FitsSigned w32 b.1.1)

pub bounds_reads : (at : ℕ) → Reads (bounds_at at) (bounds_bytes at) (AreBounds at)
unfolding bounds_at
bounds_reads at = both_reads (target_reads at) (both_reads s4_reads s4_reads)

abbrev pub count_bytes : ℕ → ℤ × ℤ → List ℕ
count_bytes at n = target_bytes at n.0 ++ s4 n.1

pub count_reads : (at : ℕ) → Reads (count_at at) (count_bytes at) (λ n. IsFar at n.0 × FitsSigned w32 n.1)
unfolding count_at
count_reads at = both_reads (target_reads at) s4_reads

-- ---- how many there are

abs_of : (z : ℤ) → pos 0 ≤ℤ z → pos (unsigned_abs z) ≡ z
abs_of (pos n) h = refl
abs_of (negsuc n) h = absurd (omega (arith, ints, h))

-- as many targets as there are numbers from low to high
pub high_is : (low high : ℤ) (targets : List ℤ) → low ≤ℤ high → length targets ≡ unsigned_abs (high -ℤ low) + 1 → high_of low targets ≡ high
high_is low high targets rising len =
    let far : pos (unsigned_abs (high -ℤ low)) ≡ high -ℤ low = abs_of (high -ℤ low) (omega (arith, ints, rising)) in
    omega (arith, ints, far, len)

pub targets_are : (low : ℤ) (targets : List ℤ) → 0 < length targets → length targets ≡ unsigned_abs (high_of low targets -ℤ low) + 1
targets_are low targets some =
    let far : pos (unsigned_abs (high_of low targets -ℤ low)) ≡ high_of low targets -ℤ low = abs_of (high_of low targets -ℤ low) (omega (arith, ints, some)) in
    omega (arith, ints, far, some)

-- ---- what is read

-- the same, but for the padding
pub record TableTaken (at : ℕ) (c : Cursor) (x : Instr × Cursor) : Type 0 where
  pub default : ℤ
  pub low : ℤ
  pub targets : List ℤ
  pub default_fits : IsFar at default
  pub targets_fit : AllByRecursion (IsFar at) targets
  pub table : IsTable low targets
  pub instr : instrs.Table low default targets ≡ x.0
  pub spans : Spans c (target_bytes at default ++ (s4 low ++ s4 (high_of low targets)) ++ flat_map (target_bytes at) targets) x.1

table_taken : (at : ℕ) (c : Cursor) (x : Instr × Cursor) → IsBytes c.rest → table_from at c ≡ Ok x → TableTaken at c x
unfolding table_from
table_taken at c x fits e =
    let b = step_takes (bounds_reads at) c fits e in
    let low : ℤ = b.value.1.0 in
    let high : ℤ = b.value.1.1 in
    cond_either (int_lt high low) _ _ b.rest (λ falls d. absurd cc) (λ rising d.
    let t = step_takes (many_reads (target_reads at) (unsigned_abs (high -ℤ low) + 1)) b.next b.fits d in
    let made : (instrs.Table low b.value.0 t.value, t.next) ≡ x = cc (t.rest) in
    let last : high_of low t.value ≡ high = high_is low high t.value (le_from _ _ rising) t.good.0 in
    subst (λ (y : Instr × Cursor). TableTaken at c y) made (record {
      default = b.value.0;
      low = low;
      targets = t.value;
      default_fits = b.good.0;
      targets_fit = t.good.1;
      table = record { some = omega (arith, t.good.0); low_fits = b.good.1.0; high_fits = subst (FitsSigned w32) (sym last) b.good.1.1 };
      instr = refl;
      spans = subst (λ (h : ℤ). Spans c (target_bytes at b.value.0 ++ (s4 low ++ s4 h) ++ flat_map (target_bytes at) t.value) t.next) (sym last) (Spans-then b.spans t.spans);
    }))

pub record LookupTaken (at : ℕ) (c : Cursor) (x : Instr × Cursor) : Type 0 where
  pub default : ℤ
  pub pairs : List (ℤ × ℤ)
  pub default_fits : IsFar at default
  pub fit : AllByRecursion (IsPair at) pairs
  pub few : length pairs < 2 ^ 31
  pub rising : AllPairs (λ a b. a.0 <ℤ b.0) pairs
  pub instr : instrs.Lookup default pairs ≡ x.0
  pub spans : Spans c (target_bytes at default ++ s4 (pos (length pairs)) ++ flat_map (pair_bytes at) pairs) x.1

lookup_taken : (at : ℕ) (c : Cursor) (x : Instr × Cursor) → IsBytes c.rest → lookup_from at c ≡ Ok x → LookupTaken at c x
unfolding lookup_from
lookup_taken at c x fits e =
    let n = step_takes (count_reads at) c fits e in
    let count : ℤ = n.value.1 in
    cond_either (int_lt count (pos 0)) _ _ n.rest (λ negative d. absurd cc) (λ some d.
    let t = step_takes (many_reads (pair_reads at) (unsigned_abs count)) n.next n.fits d in
    cond_either (rises t.value) _ _ t.rest
    (λ rising d.
    let made : (instrs.Lookup n.value.0 t.value, t.next) ≡ x = cc (d) in
    let same : pos (length t.value) ≡ count = ap pos t.good.0 ∙ abs_of count (le_from _ _ some) in
    subst (λ (y : Instr × Cursor). LookupTaken at c y) made (record {
      default = n.value.0;
      pairs = t.value;
      default_fits = n.good.0;
      fit = t.good.1;
      few = omega (arith, ints, same, n.good.1);
      rising = rising_from t.value rising;
      instr = refl;
      spans = subst (λ (z : ℤ). Spans c (target_bytes at n.value.0 ++ s4 z ++ flat_map (pair_bytes at) t.value) t.next) (sym same) (Spans-then n.spans t.spans);
    }))
    (λ falls d. absurd cc))

-- ---- padding

pub is_padding : (at : ℕ) (padding : List ℕ) → length padding ≡ padding_count at → IsPadding at padding
is_padding at padding len = record { few = omega (arith, len); aligned = omega (arith, len) }

pub padding_is : (at : ℕ) (padding : List ℕ) → IsPadding at padding → length padding ≡ padding_count at
padding_is at padding is = omega (arith, is.few, is.aligned)

-- ---- with the padding

table_regroup : (p d l h t : List ℕ) → 170 ∷ (p ++ ((d ++ (l ++ h)) ++ t)) ≡ ((((170 ∷ p) ++ d) ++ l) ++ h) ++ t
table_regroup p d l h t = simp append_assoc

lookup_regroup : (p d n t : List ℕ) → 171 ∷ (p ++ ((d ++ n) ++ t)) ≡ (((171 ∷ p) ++ d) ++ n) ++ t
lookup_regroup p d n t = simp append_assoc

matches_fit : (at : ℕ) (pairs : List (ℤ × ℤ)) → AllByRecursion (IsPair at) pairs → AllByRecursion (λ pair. FitsSigned w32 pair.0) pairs × AllByRecursion (λ pair. IsFar at pair.1) pairs
matches_fit at [] h = (tt, tt)
matches_fit at (pair ∷ pairs) h = let rest = matches_fit at pairs h.1 in ((h.0.0, rest.0), (h.0.1, rest.1))

pairs_fit : (at : ℕ) (pairs : List (ℤ × ℤ)) → AllByRecursion (λ pair. FitsSigned w32 pair.0) pairs → AllByRecursion (λ pair. IsFar at pair.1) pairs → AllByRecursion (IsPair at) pairs
pairs_fit at [] p q = tt
pairs_fit at (pair ∷ pairs) p q = ((p.0, q.0), pairs_fit at pairs p.1 q.1)

pub padded_table_taken : (at : ℕ) (c : Cursor) (x : Instr × Cursor) → IsBytes c.rest → padded_at at (table_from at) c ≡ Ok x → Taken at 170 c x
unfolding padded_at
padded_table_taken at c x fits e =
    let p = step_takes (block_reads cut (padding_count at)) c fits e in
    let t = table_taken at p.next x p.fits p.rest in
    subst (λ (i : Instr). Taken at 170 c (i, x.1)) t.instr (record {
      text = p.value ++ ((target_bytes at t.default ++ (s4 t.low ++ s4 (high_of t.low t.targets))) ++ flat_map (target_bytes at) t.targets);
      spans = Spans-then p.spans t.spans;
      spelled = record {
        padding = p.value;
        padded = is_padding at p.value p.good;
        offsets = (t.default_fits, t.targets_fit);
        are = table_regroup p.value (target_bytes at t.default) (s4 t.low) (s4 (high_of t.low t.targets)) (flat_map (target_bytes at) t.targets);
      };
      proper = t.table;
    })

pub padded_lookup_taken : (at : ℕ) (c : Cursor) (x : Instr × Cursor) → IsBytes c.rest → padded_at at (lookup_from at) c ≡ Ok x → Taken at 171 c x
unfolding padded_at
padded_lookup_taken at c x fits e =
    let p = step_takes (block_reads cut (padding_count at)) c fits e in
    let t = lookup_taken at p.next x p.fits p.rest in
    let fit = matches_fit at t.pairs t.fit in
    subst (λ (i : Instr). Taken at 171 c (i, x.1)) t.instr (record {
      text = p.value ++ ((target_bytes at t.default ++ s4 (pos (length t.pairs))) ++ flat_map (pair_bytes at) t.pairs);
      spans = Spans-then p.spans t.spans;
      spelled = record {
        padding = p.value;
        padded = is_padding at p.value p.good;
        offsets = (t.default_fits, fit.1);
        are = lookup_regroup p.value (target_bytes at t.default) (s4 (pos (length t.pairs))) (flat_map (pair_bytes at) t.pairs);
      };
      proper = record { count = t.few; matches = fit.0; rising = t.rising };
    })

-- ---- what is spelled so

-- what stands behind the opcode
behind : {op : ℕ} {a b : List ℕ} → op ∷ a ≡ op ∷ b → a ≡ b
behind e = cc

pub padded_table_again : (at : ℕ) (default low : ℤ) (targets : List ℤ) (text : List ℕ) (c next : Cursor) → IsTable low targets → SpellsInstruction at (instrs.Table low default targets) (170 ∷ text) → Spans c text next
    → padded_at at (table_from at) c ≡ Ok (instrs.Table low default targets, next)
unfolding padded_at table_from
padded_table_again at default low targets text c next table is spans =
    let high : ℤ = high_of low targets in
    let prefix : List ℕ = target_bytes at default ++ (s4 low ++ s4 high) in
    let back : List ℕ = flat_map (target_bytes at) targets in
    let text-is : text ≡ is.padding ++ (prefix ++ back) = behind (is.are ∙ sym (table_regroup is.padding (target_bytes at default) (s4 low) (s4 high) back)) in
    let p = step_again (block_reads cut (padding_count at)) c is.padding (prefix ++ back) next (padding_is at is.padding is.padded) (subst (λ (t : List ℕ). Spans c t next) text-is spans) in
    let b = step_again (bounds_reads at) p.0 (default, (low, high)) back next (is.offsets.0, (table.low_fits, table.high_fits)) p.2 in
    let rising : int_lt high low ≡ false = lt_false high low (omega (arith, ints, table.some)) in
    let t = (many_reads (target_reads at) (unsigned_abs (high -ℤ low) + 1)).again b.0 targets next (targets_are low targets table.some, is.offsets.1) b.2 in
    bind_again _ p.1 (bind_again _ b.1 (cond_false _ rising (bind_again _ t refl)))

pub padded_lookup_again : (at : ℕ) (default : ℤ) (pairs : List (ℤ × ℤ)) (text : List ℕ) (c next : Cursor) → IsLookup pairs → SpellsInstruction at (instrs.Lookup default pairs) (171 ∷ text) → Spans c text next
    → padded_at at (lookup_from at) c ≡ Ok (instrs.Lookup default pairs, next)
unfolding padded_at lookup_from
padded_lookup_again at default pairs text c next lookup is spans =
    let count : ℤ = pos (length pairs) in
    let prefix : List ℕ = target_bytes at default ++ s4 count in
    let back : List ℕ = flat_map (pair_bytes at) pairs in
    let text-is : text ≡ is.padding ++ (prefix ++ back) = behind (is.are ∙ sym (lookup_regroup is.padding (target_bytes at default) (s4 count) back)) in
    let p = step_again (block_reads cut (padding_count at)) c is.padding (prefix ++ back) next (padding_is at is.padding is.padded) (subst (λ (t : List ℕ). Spans c t next) text-is spans) in
    let few : length pairs < 2 ^ 31 = lookup.count in
    let n = step_again (count_reads at) p.0 (default, count) back next (is.offsets.0, count_fits (length pairs) few) p.2 in
    let t = (many_reads (pair_reads at) (length pairs)).again n.0 pairs next (refl, pairs_fit at pairs lookup.matches is.offsets.1) n.2 in
    let some : int_lt count (pos 0) ≡ false = lt_false count (pos 0) (omega (arith, ints)) in
    bind_again _ p.1 (bind_again _ n.1 (cond_false _ some (bind_again _ t (cond_true _ (rises_if pairs lookup.rising) refl))))
  where
    count_fits : (n : ℕ) → n < 2 ^ 31 → FitsSigned w32 (pos n)
    count_fits n lt = record { sfits = lt }
