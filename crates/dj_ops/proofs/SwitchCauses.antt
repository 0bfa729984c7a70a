-- Switches that are refused: the refusal has its cause, and where the cause is it comes.
use Rattle.std.proofs.Common.{◌≡◌, ℕ, ◌+◌, ◌<◌, ◌⊎◌, false, ℤ, pos, ◌-ℤ◌, ◌≤ℤ◌, List, ◌++◌, length, drop, Ok, Err, FitsSigned, refl, sym, ap, subst, ◌∙◌, append_assoc, arith, inl, inr}
use Rattle.std.specs.Prelude.{unsigned_abs, int_lt}
use Rattle.std.specs.List.{flat_map}
use Rattle.std.specs.Int.{w32}
use Rattle.std.proofs.lemmas.Bool.{false_from_ne_true, true≢false}
use Rattle.std.proofs.lemmas.Int.{ints}
use Rattle.std.proofs.lemmas.List.{drop_at, length-append, length-drop}
use Rattle.dj_cursor.specs.trusted.Spelling.{s4}
use Rattle.dj_cursor.specs.Reading.{Cursor, block_at}
use Rattle.dj_cursor.proofs.Bytes.{IsBytes}
use Rattle.dj_cursor.proofs.Steps.{bind_again, bind_err, bind_fails, cond_either, cond_true, cond_false}
use Rattle.dj_cursor.proofs.Spans.{Spans, IsBytes-Spans}
use Rattle.dj_cursor.proofs.Numbers.{block_reads}
use Rattle.dj_cursor.proofs.Parts.{many_reads}
use Rattle.dj_ops.specs.declared.instruction.Instr.{Instr}
use Rattle.dj_ops.specs.declared.instruction.Instr.TheVariants as instrs
use Rattle.dj_ops.specs.declared.read.OpError.{OpError}
use Rattle.dj_ops.specs.declared.read.OpError.TheVariants as errors
use Rattle.dj_ops.specs.trusted.Instructions.{IsFar, offset, target_bytes, pair_bytes, padding_count}
use Rattle.dj_ops.specs.Refusals.{HasBounds, HasCount, LacksOffsets, LacksPairs, HasFallingBounds, HasNegativeCount, HasUnsortedPairs}
use Rattle.dj_ops.specs.trusted.Lookups.{rises}
use Rattle.dj_ops.specs.Reading.{cut, target, target_at, pair_at, bounds_at, table_from, count_at, lookup_from, padded_at}
use Rattle.dj_ops.proofs.Parts.{OperandReader, failed, Fixed, s4_fixed, block_fixed, made_fixed, both_fixed, many_fixed, outcome, checked_fails}
use Rattle.dj_ops.proofs.Rising.{rising_from, rises_if, lt_true, lt_false, lt_from, le_from}
use Rattle.dj_ops.proofs.Families.{offset_of_target}
use Rattle.dj_ops.proofs.SwitchLaws.{pair_reads, bounds_bytes, bounds_reads, count_bytes, count_reads}

target_fixed : (at : ℕ) → Fixed (target_at at) 4
unfolding target_at
target_fixed at = made_fixed (target at) s4_fixed

pair_fixed : (at : ℕ) → Fixed (pair_at at) 8
unfolding pair_at
pair_fixed at = both_fixed s4_fixed (target_fixed at)

bounds_fixed : (at : ℕ) → Fixed (bounds_at at) 12
unfolding bounds_at
bounds_fixed at = both_fixed (target_fixed at) (both_fixed s4_fixed s4_fixed)

count_fixed : (at : ℕ) → Fixed (count_at at) 8
unfolding count_at
count_fixed at = both_fixed (target_fixed at) s4_fixed

-- ---- the fields that are read

has_bounds : (at : ℕ) (c : Cursor) (x : (ℤ × (ℤ × ℤ)) × Cursor) → IsBytes c.rest → bounds_at at c ≡ Ok x → HasBounds c.rest x.0.1.0 x.0.1.1 x.1.rest
has_bounds at c x fits e =
    let t = (bounds_reads at).takes c x fits e in
    record {
      default = offset at x.0.0;
      default_fits = t.1.0;
      low_fits = t.1.1.0;
      high_fits = t.1.1.1;
      are = t.0.parts ∙ append_assoc (target_bytes at x.0.0) (s4 x.0.1.0 ++ s4 x.0.1.1) x.1.rest ∙ ap (λ (l : List ℕ). target_bytes at x.0.0 ++ l) (append_assoc (s4 x.0.1.0) (s4 x.0.1.1) x.1.rest);
    }

-- a cursor behind such bytes
abbrev behind : Cursor → List ℕ → List ℕ → Cursor
behind c text rest = record { place = c.place + length text; rest = rest }

spans_to : (c : Cursor) (text rest : List ℕ) → c.rest ≡ text ++ rest → Spans c text (behind c text rest)
spans_to c text rest e = record { parts = e; place = refl }

-- fields that stand there are read
record BoundsRead (at : ℕ) (c : Cursor) (low high : ℤ) (offsets : List ℕ) : Type 0 where
  pub default : ℤ
  pub next : Cursor
  pub rest : next.rest ≡ offsets
  pub read : bounds_at at c ≡ Ok ((default, (low, high)), next)

bounds_read : (at : ℕ) (c : Cursor) (low high : ℤ) (offsets : List ℕ) → HasBounds c.rest low high offsets → BoundsRead at c low high offsets
bounds_read at c low high offsets has =
    let d : ℤ = target at has.default in
    let same : target_bytes at d ≡ s4 has.default = ap s4 (offset_of_target at has.default) in
    let text : List ℕ = bounds_bytes at (d, (low, high)) in
    let parts : c.rest ≡ text ++ offsets =
    has.are
    ∙ sym (append_assoc (s4 has.default) (s4 low ++ s4 high) offsets ∙ ap (λ (l : List ℕ). s4 has.default ++ l) (append_assoc (s4 low) (s4 high) offsets))
    ∙ ap (λ (l : List ℕ). (l ++ (s4 low ++ s4 high)) ++ offsets) (sym same) in
    let far : IsFar at d = subst (FitsSigned w32) (sym (offset_of_target at has.default)) has.default_fits in
    record {
      default = d;
      next = behind c text offsets;
      rest = refl;
      read = (bounds_reads at).again c (d, (low, high)) (behind c text offsets) (far, (has.low_fits, has.high_fits)) (spans_to c text offsets parts);
    }

has_count : (at : ℕ) (c : Cursor) (x : (ℤ × ℤ) × Cursor) → IsBytes c.rest → count_at at c ≡ Ok x → HasCount c.rest x.0.1 x.1.rest
has_count at c x fits e =
    let t = (count_reads at).takes c x fits e in
    record {
      default = offset at x.0.0;
      default_fits = t.1.0;
      count_fits = t.1.1;
      are = t.0.parts ∙ append_assoc (target_bytes at x.0.0) (s4 x.0.1) x.1.rest;
    }

record CountRead (at : ℕ) (c : Cursor) (count : ℤ) (pairs : List ℕ) : Type 0 where
  pub default : ℤ
  pub next : Cursor
  pub rest : next.rest ≡ pairs
  pub read : count_at at c ≡ Ok ((default, count), next)

count_read : (at : ℕ) (c : Cursor) (count : ℤ) (pairs : List ℕ) → HasCount c.rest count pairs → CountRead at c count pairs
count_read at c count pairs has =
    let d : ℤ = target at has.default in
    let same : target_bytes at d ≡ s4 has.default = ap s4 (offset_of_target at has.default) in
    let text : List ℕ = count_bytes at (d, count) in
    let parts : c.rest ≡ text ++ pairs =
    has.are ∙ sym (append_assoc (s4 has.default) (s4 count) pairs) ∙ ap (λ (l : List ℕ). (l ++ s4 count) ++ pairs) (sym same) in
    let far : IsFar at d = subst (FitsSigned w32) (sym (offset_of_target at has.default)) has.default_fits in
    record {
      default = d;
      next = behind c text pairs;
      rest = refl;
      read = (count_reads at).again c (d, count) (behind c text pairs) (far, has.count_fits) (spans_to c text pairs parts);
    }

-- ---- tableswitch

table_fails : (P : OpError → Type 0) (at : ℕ) (c : Cursor) (e : OpError) → IsBytes c.rest → (length c.rest < 12 → P errors.Cut) → (LacksOffsets c.rest → P errors.Cut) → (HasFallingBounds c.rest → P errors.BadOperand)
    → table_from at c ≡ Err e → P e
unfolding table_from
table_fails P at c e fits short lacks falls h =
    bind_err h
    (λ r. let d = (bounds_fixed at).fails c e r in subst P (sym d.0) (short d.1))
    (λ x r g.
    let low : ℤ = x.0.1.0 in
    let high : ℤ = x.0.1.1 in
    let bounds : HasBounds c.rest low high x.1.rest = has_bounds at c x fits r in
    cond_either (int_lt high low) _ _ g
    (λ falling d.
    let bad : errors.BadOperand ≡ e = cc in
    subst P bad (falls (record { low = low; high = high; offsets = x.1.rest; bounds = bounds; falling = lt_from _ _ falling })))
    (λ rising d.
    bind_err d
    (λ m. let f = (many_fixed (target_fixed at) (unsigned_abs (high -ℤ low) + 1)).fails x.1 e m in
    subst P (sym f.0) (lacks (record { low = low; high = high; offsets = x.1.rest; bounds = bounds; rising = le_from _ _ rising; short = f.1 })))
    (λ t m k. absurd cc)))

table_short : (at : ℕ) (c : Cursor) → length c.rest < 12 → table_from at c ≡ Err errors.Cut
unfolding table_from
table_short at c lt = bind_fails _ ((bounds_fixed at).short c lt)

table_lacks : (at : ℕ) (c : Cursor) → LacksOffsets c.rest → table_from at c ≡ Err errors.Cut
unfolding table_from
table_lacks at c l =
    let b = bounds_read at c l.low l.high l.offsets l.bounds in
    bind_again _ b.read (cond_false _ (lt_false _ _ l.rising) (bind_fails _ ((many_fixed (target_fixed at) (unsigned_abs (l.high -ℤ l.low) + 1)).short b.next (omega (arith, l.short, ap length b.rest)))))

table_falls : (at : ℕ) (c : Cursor) → HasFallingBounds c.rest → table_from at c ≡ Err errors.BadOperand
unfolding table_from
table_falls at c f =
    let b = bounds_read at c f.low f.high f.offsets f.bounds in
    bind_again _ b.read (cond_true _ (lt_true _ _ f.falling) refl)

-- ---- lookupswitch

abs_of : (z : ℤ) → pos 0 ≤ℤ z → pos (unsigned_abs z) ≡ z
abs_of (pos n) h = refl
abs_of _ h = absurd (omega (arith, ints, h))

lookup_fails : (P : OpError → Type 0) (at : ℕ) (c : Cursor) (e : OpError) → IsBytes c.rest → (length c.rest < 8 → P errors.Cut) → (LacksPairs c.rest → P errors.Cut)
    → (HasNegativeCount c.rest → P errors.BadOperand) → (HasUnsortedPairs at c.rest → P errors.BadOperand) → lookup_from at c ≡ Err e → P e
unfolding lookup_from
lookup_fails P at c e fits short lacks negative unsorted h =
    bind_err h
    (λ r. let d = (count_fixed at).fails c e r in subst P (sym d.0) (short d.1))
    (λ x r g.
    let count : ℤ = x.0.1 in
    let counted : HasCount c.rest count x.1.rest = has_count at c x fits r in
    let after : IsBytes x.1.rest = IsBytes-Spans ((count_reads at).takes c x fits r).0 fits in
    cond_either (int_lt count (pos 0)) _ _ g
    (λ below d.
    let bad : errors.BadOperand ≡ e = cc in
    subst P bad (negative (record { count = count; pairs = x.1.rest; counted = counted; negative = lt_from _ _ below })))
    (λ some d.
    let same : pos (unsigned_abs count) ≡ count = abs_of count (le_from _ _ some) in
    let whole : HasCount c.rest (pos (unsigned_abs count)) x.1.rest = subst (λ (z : ℤ). HasCount c.rest z x.1.rest) (sym same) counted in
    checked_fails (many_fixed (pair_fixed at) (unsigned_abs count)) rises (instrs.Lookup x.0.0) x.1 e d
    (λ is lt. subst P (sym is) (lacks (record { count = unsigned_abs count; pairs = x.1.rest; counted = whole; short = lt })))
    (λ is t read falls.
    let m = (many_reads (pair_reads at) (unsigned_abs count)).takes x.1 t after read in
    let there : HasCount c.rest (pos (length t.0)) (flat_map (pair_bytes at) t.0 ++ t.1.rest) =
    subst (λ (n : ℕ). HasCount c.rest (pos n) (flat_map (pair_bytes at) t.0 ++ t.1.rest)) (sym m.1.0) (subst (HasCount c.rest (pos (unsigned_abs count))) m.0.parts whole) in
    subst P (sym is) (unsorted (record {
      pairs = t.0;
      more = t.1.rest;
      counted = there;
      fit = m.1.1;
      unsorted = λ rising. true≢false (sym (rises_if t.0 rising) ∙ falls);
    })))))

lookup_short : (at : ℕ) (c : Cursor) → length c.rest < 8 → lookup_from at c ≡ Err errors.Cut
unfolding lookup_from
lookup_short at c lt = bind_fails _ ((count_fixed at).short c lt)

some_count : (n : ℕ) → int_lt (pos n) (pos 0) ≡ false
some_count n = lt_false (pos n) (pos 0) (omega (arith, ints))

lookup_lacks : (at : ℕ) (c : Cursor) → LacksPairs c.rest → lookup_from at c ≡ Err errors.Cut
unfolding lookup_from
lookup_lacks at c l =
    let n = count_read at c (pos l.count) l.pairs l.counted in
    bind_again _ n.read (cond_false _ (some_count l.count) (bind_fails _ ((many_fixed (pair_fixed at) l.count).short n.next (omega (arith, l.short, ap length n.rest)))))

lookup_negative : (at : ℕ) (c : Cursor) → HasNegativeCount c.rest → lookup_from at c ≡ Err errors.BadOperand
unfolding lookup_from
lookup_negative at c g =
    let n = count_read at c g.count g.pairs g.counted in
    bind_again _ n.read (cond_true _ (lt_true _ _ g.negative) refl)

lookup_unsorted : (at : ℕ) (c : Cursor) → HasUnsortedPairs at c.rest → lookup_from at c ≡ Err errors.BadOperand
unfolding lookup_from
lookup_unsorted at c u =
    let n = count_read at c (pos (length u.pairs)) (flat_map (pair_bytes at) u.pairs ++ u.more) u.counted in
    let text : List ℕ = flat_map (pair_bytes at) u.pairs in
    let read = (many_reads (pair_reads at) (length u.pairs)).again n.next u.pairs (behind n.next text u.more) (refl, u.fit) (spans_to n.next text u.more n.rest) in
    let falls : rises u.pairs ≡ false = false_from_ne_true (rises u.pairs) (λ h. u.unsorted (rising_from u.pairs h)) in
    bind_again _ n.read (cond_false _ (some_count (length u.pairs)) (bind_again _ read (cond_false _ falls refl)))

-- ---- with the padding

-- what stands behind the padding
after_padding : (at : ℕ) (c : Cursor) (x : List ℕ × Cursor) → IsBytes c.rest → block_at cut (padding_count at) c ≡ Ok x → (x.1.rest ≡ drop (padding_count at) c.rest) × IsBytes x.1.rest
after_padding at c x fits e =
    let t = (block_reads cut (padding_count at)).takes c x fits e in
    (sym (ap (drop (padding_count at)) t.0.parts ∙ drop_at x.0 x.1.rest (padding_count at) t.1), IsBytes-Spans t.0 fits)

padding_length : (at : ℕ) (c : Cursor) (x : List ℕ × Cursor) → block_at cut (padding_count at) c ≡ Ok x → padding_count at + length x.1.rest ≡ length c.rest
padding_length at c x e = (block_fixed (padding_count at)).some c x e

pub padded_table_fails : (P : OpError → Type 0) (at : ℕ) (c : Cursor) (e : OpError) → IsBytes c.rest
    → ((length c.rest < padding_count at + 12) ⊎ LacksOffsets (drop (padding_count at) c.rest) → P errors.Cut) → (HasFallingBounds (drop (padding_count at) c.rest) → P errors.BadOperand)
    → padded_at at (table_from at) c ≡ Err e → P e
unfolding padded_at
padded_table_fails P at c e fits lacks falls h =
    bind_err h
    (λ r. let d = (block_fixed (padding_count at)).fails c e r in subst P (sym d.0) (lacks (inl (omega (arith, d.1)))))
    (λ x r g.
    let after = after_padding at c x fits r in
    table_fails P at x.1 e after.1
    (λ lt. lacks (inl (omega (arith, lt, padding_length at c x r))))
    (λ l. lacks (inr (subst LacksOffsets after.0 l)))
    (λ f. falls (subst HasFallingBounds after.0 f))
    g)

pub padded_lookup_fails : (P : OpError → Type 0) (at : ℕ) (c : Cursor) (e : OpError) → IsBytes c.rest
    → ((length c.rest < padding_count at + 8) ⊎ LacksPairs (drop (padding_count at) c.rest) → P errors.Cut)
    → (HasNegativeCount (drop (padding_count at) c.rest) ⊎ HasUnsortedPairs at (drop (padding_count at) c.rest) → P errors.BadOperand) → padded_at at (lookup_from at) c ≡ Err e → P e
unfolding padded_at
padded_lookup_fails P at c e fits lacks bad h =
    bind_err h
    (λ r. let d = (block_fixed (padding_count at)).fails c e r in subst P (sym d.0) (lacks (inl (omega (arith, d.1)))))
    (λ x r g.
    let after = after_padding at c x fits r in
    lookup_fails P at x.1 e after.1
    (λ lt. lacks (inl (omega (arith, lt, padding_length at c x r))))
    (λ l. lacks (inr (subst LacksPairs after.0 l)))
    (λ n. bad (inl (subst HasNegativeCount after.0 n)))
    (λ u. bad (inr (subst (HasUnsortedPairs at) after.0 u)))
    g)

-- fields that stand there have a padding before them
past_padding : (at : ℕ) (part : OperandReader Instr) (c : Cursor) (e : OpError) → IsBytes c.rest → (length c.rest < padding_count at → errors.Cut ≡ e)
    → ((m : Cursor) → m.rest ≡ drop (padding_count at) c.rest → padding_count at + length m.rest ≡ length c.rest → part m ≡ Err e) → padded_at at part c ≡ Err e
unfolding padded_at
past_padding at part c e fits cut_off go =
    elim (outcome (block_at cut (padding_count at) c)) [
      | inl x ↦ bind_again _ x.1 (go x.0.1 (after_padding at c x.0 fits x.1).0 (padding_length at c x.0 x.1))
      | inr d ↦
          let f = (block_fixed (padding_count at)).fails c d.0 d.1 in
          bind_fails _ (d.1 ∙ ap failed (f.0 ∙ cut_off f.1))
    ]

-- no fields stand there without a padding before them
none_there : {P : Type 0} (at : ℕ) (rest : List ℕ) (a b : List ℕ) → length rest < padding_count at → drop (padding_count at) rest ≡ a ++ b → 0 < length a → P
none_there at rest a b lt e some = absurd (omega (arith, lt, some, ap length e, length-append a b, length-drop (padding_count at) rest))

pub padded_table_lacks : (at : ℕ) (c : Cursor) → IsBytes c.rest → (length c.rest < padding_count at + 12) ⊎ LacksOffsets (drop (padding_count at) c.rest) → padded_at at (table_from at) c ≡ Err errors.Cut
padded_table_lacks at c fits lacks =
    past_padding at (table_from at) c errors.Cut fits (λ lt. refl)
    (λ m rest len. elim lacks [
      | inl short ↦ table_short at m (omega (arith, short, len))
      | inr l ↦ table_lacks at m (subst LacksOffsets (sym rest) l)
    ])

pub padded_table_falls : (at : ℕ) (c : Cursor) → IsBytes c.rest → HasFallingBounds (drop (padding_count at) c.rest) → padded_at at (table_from at) c ≡ Err errors.BadOperand
padded_table_falls at c fits f =
    past_padding at (table_from at) c errors.BadOperand fits
    (λ lt. none_there at c.rest (s4 f.bounds.default) _ lt f.bounds.are (omega arith))
    (λ m rest len. table_falls at m (subst HasFallingBounds (sym rest) f))

pub padded_lookup_lacks : (at : ℕ) (c : Cursor) → IsBytes c.rest → (length c.rest < padding_count at + 8) ⊎ LacksPairs (drop (padding_count at) c.rest) → padded_at at (lookup_from at) c ≡ Err errors.Cut
padded_lookup_lacks at c fits lacks =
    past_padding at (lookup_from at) c errors.Cut fits (λ lt. refl)
    (λ m rest len. elim lacks [
      | inl short ↦ lookup_short at m (omega (arith, short, len))
      | inr l ↦ lookup_lacks at m (subst LacksPairs (sym rest) l)
    ])

pub padded_lookup_bad : (at : ℕ) (c : Cursor) → IsBytes c.rest → HasNegativeCount (drop (padding_count at) c.rest) ⊎ HasUnsortedPairs at (drop (padding_count at) c.rest)
    → padded_at at (lookup_from at) c ≡ Err errors.BadOperand
padded_lookup_bad at c fits bad =
    past_padding at (lookup_from at) c errors.BadOperand fits
    (λ lt. elim bad [
      | inl n ↦ none_there at c.rest (s4 n.counted.default) _ lt n.counted.are (omega arith)
      | inr u ↦ none_there at c.rest (s4 u.counted.default) _ lt u.counted.are (omega arith)
    ])
    (λ m rest len. elim bad [
      | inl n ↦ lookup_negative at m (subst HasNegativeCount (sym rest) n)
      | inr u ↦ lookup_unsorted at m (subst (HasUnsortedPairs at) (sym rest) u)
    ])
