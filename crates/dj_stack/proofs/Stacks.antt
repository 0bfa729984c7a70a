-- Operands in parts, of which longs have their high halves in a list of their own.
use Rattle.std.proofs.Common.{◌≡◌, ◌<◌, ◌≤◌, ◌+◌, ◌-◌, ◌*◌, ℕ, zero, suc, List, [], ◌∷◌, ◌++◌, get_or, take, drop, length, Some, slice_get, refl, ap, sym, subst, ◌∙◌, arith}
use Rattle.std.specs.Int.{w32, w64, cast_signed}
use Rattle.std.proofs.lemmas.List.{get_or_append_left, length-append}
use Rattle.dj_names.specs.declared.run.Value.{Value}
use Rattle.dj_names.specs.declared.run.Value.TheVariants as values
use Rattle.dj_stack.specs.declared.parts.Kind.{Kind}
use Rattle.dj_stack.specs.declared.parts.Kind.TheVariants as kinds
use Rattle.dj_stack.specs.Parts.{at_zero, value_by}
use Rattle.dj_stack.specs.Stacks.{values_by, values_in, longs_of, longs_in, high_part}
use Rattle.dj_stack.proofs.Puts.{at_last, but_last}

-- ---- the values

count : (ks : List Kind) (low high : ℕ → ℕ) → length (values_by ks low high) ≡ length ks
count [] low high = refl
count (k ∷ ks) low high = ap suc (count ks (λ i. low (suc i)) (λ i. high (longs_of k + i)))

pub count_of : (ks : List Kind) (lows highs : List ℕ) → length (values_in ks lows highs) ≡ length ks
count_of ks lows highs = count ks (at_zero lows) (at_zero highs)

found : (ks : List Kind) (low high : ℕ → ℕ) (at : ℕ) (d : Kind) → at < length ks → slice_get (values_by ks low high) at ≡ Some (value_by (get_or ks at d) (low at) (high (longs_in (take at ks))))
found [] low high at d within = absurd (omega (arith, within))
found (k ∷ ks) low high zero d within = refl
found (k ∷ ks) low high (suc at) d within = found ks (λ i. low (suc i)) (λ i. high (longs_of k + i)) at d (omega (arith, within))

pub found_at : (ks : List Kind) (lows highs : List ℕ) (at : ℕ) (d : Kind) → at < length ks → slice_get (values_in ks lows highs) at ≡ Some (value_by (get_or ks at d) (get_or lows at 0) (get_or highs (longs_in (take at ks)) 0))
found_at ks lows highs at d within = found ks (at_zero lows) (at_zero highs) at d within

same_value : (k : Kind) (low low' high high' : ℕ) → low' ≡ low → (longs_of k ≡ 1 → high' ≡ high) → value_by k low' high' ≡ value_by k low high
same_value kinds.Empty low low' high high' l h = ap (λ (n : ℕ). values.Ref n) l
same_value kinds.Int low low' high high' l h = ap (λ (n : ℕ). values.Int (cast_signed w32 n)) l
same_value kinds.Long low low' high high' l h =
    ap (λ (n : ℕ). values.Long (cast_signed w64 (high' * 4294967296 + n))) l ∙ ap (λ (n : ℕ). values.Long (cast_signed w64 (n * 4294967296 + low))) (h refl)
same_value kinds.Ref low low' high high' l h = ap (λ (n : ℕ). values.Ref n) l

other_parts : (ks : List Kind) (low low' high high' : ℕ → ℕ) → ((i : ℕ) → i < length ks → low' i ≡ low i) → ((i : ℕ) → i < longs_in ks → high' i ≡ high i) → values_by ks low' high' ≡ values_by ks low high
other_parts [] low low' high high' lows highs = refl
other_parts (k ∷ ks) low low' high high' lows highs =
    ap (λ (v : Value). v ∷ values_by ks (λ i. low' (suc i)) (λ i. high' (longs_of k + i))) (same_value k (low 0) (low' 0) (high 0) (high' 0) (lows 0 (omega arith)) (λ one. highs 0 (omega (arith, one))))
    ∙ ap (λ (rest : List Value). value_by k (low 0) (high 0) ∷ rest)
    (other_parts ks (λ i. low (suc i)) (λ i. low' (suc i)) (λ i. high (longs_of k + i)) (λ i. high' (longs_of k + i)) (λ i within. lows (suc i) (omega (arith, within))) (λ i within. highs (longs_of k + i) (omega (arith, within))))

snoc : (ks : List Kind) (low high : ℕ → ℕ) (k : Kind) → values_by (ks ++ k ∷ []) low high ≡ values_by ks low high ++ value_by k (low (length ks)) (high (longs_in ks)) ∷ []
snoc [] low high k = refl
snoc (x ∷ ks) low high k = ap (λ (rest : List Value). value_by x (low 0) (high 0) ∷ rest) (snoc ks (λ i. low (suc i)) (λ i. high (longs_of x + i)) k)

-- ---- how many longs there are

pub longs_snoc : (ks : List Kind) (k : Kind) → longs_in (ks ++ k ∷ []) ≡ longs_in ks + longs_of k
longs_snoc [] k = omega arith
longs_snoc (x ∷ ks) k = let rest = longs_snoc ks k in omega (arith, rest)

one_at_most : (k : Kind) → longs_of k ≤ 1
one_at_most kinds.Empty = omega arith
one_at_most kinds.Int = omega arith
one_at_most kinds.Long = omega arith
one_at_most kinds.Ref = omega arith

pub few_longs : (ks : List Kind) → longs_in ks ≤ length ks
few_longs [] = omega arith
few_longs (k ∷ ks) = let rest = few_longs ks in let one = one_at_most k in omega (arith, rest, one)

split : (ks : List Kind) (at : ℕ) → longs_in ks ≡ longs_in (take at ks) + longs_in (drop at ks)
split [] zero = refl
split [] (suc at) = refl
split (k ∷ ks) zero = omega arith
split (k ∷ ks) (suc at) = let rest = split ks at in omega (arith, rest)

pub longs_before : (ks : List Kind) (highs : List ℕ) (at : ℕ) → longs_in ks ≡ length highs → length highs - longs_in (drop at ks) ≡ longs_in (take at ks)
longs_before ks highs at counted = omega (arith, counted, split ks at)

pub longs_after : (ks : List Kind) (at : ℕ) → longs_in (drop at ks) ≤ longs_in ks
longs_after ks at = omega (arith, split ks at)

pub one_more : (ks : List Kind) (at : ℕ) (d : Kind) → at < length ks → longs_in (drop at ks) ≡ longs_of (get_or ks at d) + longs_in (drop (suc at) ks)
one_more [] at d within = absurd (omega (arith, within))
one_more (k ∷ ks) zero d within = refl
one_more (k ∷ ks) (suc at) d within = one_more ks at d (omega (arith, within))

past_all : (ks : List Kind) → longs_in (drop (length ks) ks) ≡ 0
past_all [] = refl
past_all (k ∷ ks) = past_all ks

pub none_past : (ks : List Kind) (n : ℕ) → n ≡ length ks → longs_in (drop n ks) ≡ 0
none_past ks n end = subst (λ (m : ℕ). longs_in (drop m ks) ≡ 0) (sym end) (past_all ks)

-- ---- at the end

length_high : (k : Kind) (high : ℕ) → length (high_part k high) ≡ longs_of k
length_high kinds.Empty high = refl
length_high kinds.Int high = refl
length_high kinds.Long high = refl
length_high kinds.Ref high = refl

last_high : (k : Kind) (highs : List ℕ) (high at : ℕ) → at ≡ length highs → longs_of k ≡ 1 → get_or (highs ++ high_part k high) at 0 ≡ high
last_high kinds.Empty highs high at end one = absurd (omega (arith, one))
last_high kinds.Int highs high at end one = absurd (omega (arith, one))
last_high kinds.Long highs high at end one = subst (λ (n : ℕ). get_or (highs ++ high ∷ []) n 0 ≡ high) (sym end) (at_last highs high)
last_high kinds.Ref highs high at end one = absurd (omega (arith, one))

pub pushed : (ks ks' : List Kind) (lows lows' highs highs' : List ℕ) (k : Kind) (low high : ℕ) → length lows ≡ length ks → longs_in ks ≡ length highs
    → ks' ≡ ks ++ k ∷ [] → lows' ≡ lows ++ low ∷ [] → highs' ≡ highs ++ high_part k high → values_in ks' lows' highs' ≡ values_in ks lows highs ++ value_by k low high ∷ []
pushed ks ks' lows lows' highs highs' k low high alike counted ks_are lows_are highs_are = rw ks_are (rw lows_are (rw highs_are
    (snoc ks (at_zero (lows ++ low ∷ [])) (at_zero (highs ++ high_part k high)) k
    ∙ (ap (λ (vs : List Value). vs ++ value_by k (get_or (lows ++ low ∷ []) (length ks) 0) (get_or (highs ++ high_part k high) (longs_in ks) 0) ∷ [])
    (other_parts ks (at_zero lows) (at_zero (lows ++ low ∷ [])) (at_zero highs) (at_zero (highs ++ high_part k high))
    (λ i within. but_last lows low i (λ e. absurd (omega (arith, e, within, alike))))
    (λ i within. get_or_append_left highs (high_part k high) 0 i (omega (arith, within, counted))))
    ∙ ap (λ (v : Value). values_in ks lows highs ++ v ∷ [])
    (same_value k low (get_or (lows ++ low ∷ []) (length ks) 0) high (get_or (highs ++ high_part k high) (longs_in ks) 0)
    (subst (λ (n : ℕ). get_or (lows ++ low ∷ []) n 0 ≡ low) alike (at_last lows low)) (λ one. last_high k highs high (longs_in ks) counted one))))))

pub counted_more : (ks ks' : List Kind) (highs highs' : List ℕ) (k : Kind) (high : ℕ) → longs_in ks ≡ length highs → ks' ≡ ks ++ k ∷ [] → highs' ≡ highs ++ high_part k high → longs_in ks' ≡ length highs'
counted_more ks ks' highs highs' k high counted ks_are highs_are = rw ks_are (rw highs_are (omega (arith, counted, longs_snoc ks k, length-append highs (high_part k high), length_high k high)))

pub counted_less : (ks ks' : List Kind) (highs highs' : List ℕ) (k : Kind) (high : ℕ) → longs_in ks' ≡ length highs' → ks' ≡ ks ++ k ∷ [] → highs' ≡ highs ++ high_part k high → longs_in ks ≡ length highs
counted_less ks ks' highs highs' k high counted ks_are highs_are =
    let total : longs_in (ks ++ k ∷ []) ≡ length (highs ++ high_part k high) = ap longs_in (sym ks_are) ∙ (counted ∙ ap length highs_are) in
    omega (arith, total, longs_snoc ks k, length-append highs (high_part k high), length_high k high)

pub has_high : (ks ks' : List Kind) (k : Kind) (highs : List ℕ) → longs_in ks' ≡ length highs → ks' ≡ ks ++ k ∷ [] → longs_of k ≤ length highs
has_high ks ks' k highs counted ks_are = let total : longs_in (ks ++ k ∷ []) ≡ length highs = ap longs_in (sym ks_are) ∙ counted in omega (arith, total, longs_snoc ks k)
