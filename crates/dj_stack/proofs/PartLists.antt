-- Lists of parts that are kept apart.
use Rattle.std.proofs.Common.{◌≡◌, ◌≢◌, ◌<◌, ℕ, zero, suc, List, [], ◌∷◌, ◌++◌, get_or, set, length, Some, slice_get, refl, ap, subst, ◌∙◌, arith}
use Rattle.std.proofs.lemmas.List.{get_or-set_same, get_or-set_other}
use Rattle.dj_stack.specs.declared.parts.Kind.{Kind}
use Rattle.dj_stack.specs.declared.parts.Parts.{Parts}
use Rattle.dj_stack.specs.Parts.{part, parts_by, parts_in, at_zero, Put}
use Rattle.dj_stack.proofs.Puts.{at_last, but_last}

count : (ks : List Kind) (low high : ℕ → ℕ) → length (parts_by ks low high) ≡ length ks
count [] low high = refl
count (k ∷ ks) low high = ap suc (count ks (λ i. low (suc i)) (λ i. high (suc i)))

pub count_of : (ks : List Kind) (lows highs : List ℕ) → length (parts_in ks lows highs) ≡ length ks
count_of ks lows highs = count ks (at_zero lows) (at_zero highs)

found : (ks : List Kind) (low high : ℕ → ℕ) (at : ℕ) (d : Kind) → at < length ks → slice_get (parts_by ks low high) at ≡ Some (part (get_or ks at d) (low at) (high at))
found [] low high at d within = absurd (omega (arith, within))
found (k ∷ ks) low high zero d within = refl
found (k ∷ ks) low high (suc at) d within = found ks (λ i. low (suc i)) (λ i. high (suc i)) at d (omega (arith, within))

pub found_at : (ks : List Kind) (lows highs : List ℕ) (at : ℕ) (d : Kind) → at < length ks → slice_get (parts_in ks lows highs) at ≡ Some (part (get_or ks at d) (get_or lows at 0) (get_or highs at 0))
found_at ks lows highs at d within = found ks (at_zero lows) (at_zero highs) at d within

part_same : (k : Kind) (low low' high high' : ℕ) → low' ≡ low → high' ≡ high → part k low' high' ≡ part k low high
part_same k low low' high high' lows highs = ap (λ (n : ℕ). part k n high') lows ∙ ap (part k low) highs

same : (ks : List Kind) (low high low' high' : ℕ → ℕ) → ((i : ℕ) → i < length ks → low' i ≡ low i) → ((i : ℕ) → i < length ks → high' i ≡ high i) → parts_by ks low' high' ≡ parts_by ks low high
same [] low high low' high' lows highs = refl
same (k ∷ ks) low high low' high' lows highs =
    ap (λ (p : Parts). p ∷ parts_by ks (λ i. low' (suc i)) (λ i. high' (suc i))) (part_same k (low 0) (low' 0) (high 0) (high' 0) (lows 0 (omega arith)) (highs 0 (omega arith)))
    ∙ ap (λ (rest : List Parts). part k (low 0) (high 0) ∷ rest)
    (same ks (λ i. low (suc i)) (λ i. high (suc i)) (λ i. low' (suc i)) (λ i. high' (suc i)) (λ i within. lows (suc i) (omega (arith, within))) (λ i within. highs (suc i) (omega (arith, within))))

written : (ks : List Kind) (low high low' high' : ℕ → ℕ) (at : ℕ) (k : Kind) → ((i : ℕ) → i ≢ at → low' i ≡ low i) → ((i : ℕ) → i ≢ at → high' i ≡ high i)
    → parts_by (set ks at k) low' high' ≡ set (parts_by ks low high) at (part k (low' at) (high' at))
written [] low high low' high' at k lows highs = refl
written (old ∷ ks) low high low' high' zero k lows highs =
    ap (λ (rest : List Parts). part k (low' 0) (high' 0) ∷ rest)
    (same ks (λ i. low (suc i)) (λ i. high (suc i)) (λ i. low' (suc i)) (λ i. high' (suc i)) (λ i within. lows (suc i) (λ e. absurd (omega (arith, e)))) (λ i within. highs (suc i) (λ e. absurd (omega (arith, e)))))
written (old ∷ ks) low high low' high' (suc at) k lows highs =
    ap (λ (p : Parts). p ∷ parts_by (set ks at k) (λ i. low' (suc i)) (λ i. high' (suc i)))
    (part_same old (low 0) (low' 0) (high 0) (high' 0) (lows 0 (λ e. absurd (omega (arith, e)))) (highs 0 (λ e. absurd (omega (arith, e)))))
    ∙ ap (λ (rest : List Parts). part old (low 0) (high 0) ∷ rest)
    (written ks (λ i. low (suc i)) (λ i. high (suc i)) (λ i. low' (suc i)) (λ i. high' (suc i)) at k (λ i other. lows (suc i) (λ e. other (omega (arith, e)))) (λ i other. highs (suc i) (λ e. other (omega (arith, e)))))

pub set_at : (ks : List Kind) (lows highs highs' : List ℕ) (at low high : ℕ) (k : Kind) → at < length ks → length lows ≡ length ks → Put highs highs' at high
    → parts_in (set ks at k) (set lows at low) highs' ≡ set (parts_in ks lows highs) at (part k low high)
set_at ks lows highs highs' at low high k within alike put =
    written ks (at_zero lows) (at_zero highs) (at_zero (set lows at low)) (at_zero highs') at k (λ i other. get_or-set_other lows at i low 0 other) (put.others)
    ∙ ap (set (parts_in ks lows highs) at) (part_same k low (get_or (set lows at low) at 0) high (get_or highs' at 0) (get_or-set_same lows at low 0 (omega (arith, within, alike))) (put.here))

snoc : (ks : List Kind) (low high low' high' : ℕ → ℕ) (k : Kind) → ((i : ℕ) → i < length ks → low' i ≡ low i) → ((i : ℕ) → i < length ks → high' i ≡ high i)
    → parts_by (ks ++ k ∷ []) low' high' ≡ parts_by ks low high ++ part k (low' (length ks)) (high' (length ks)) ∷ []
snoc [] low high low' high' k lows highs = refl
snoc (old ∷ ks) low high low' high' k lows highs =
    ap (λ (p : Parts). p ∷ parts_by (ks ++ k ∷ []) (λ i. low' (suc i)) (λ i. high' (suc i))) (part_same old (low 0) (low' 0) (high 0) (high' 0) (lows 0 (omega arith)) (highs 0 (omega arith)))
    ∙ ap (λ (rest : List Parts). part old (low 0) (high 0) ∷ rest)
    (snoc ks (λ i. low (suc i)) (λ i. high (suc i)) (λ i. low' (suc i)) (λ i. high' (suc i)) k (λ i within. lows (suc i) (omega (arith, within))) (λ i within. highs (suc i) (omega (arith, within))))

snoc_lows : (ks : List Kind) (lows highs highs' : List ℕ) (k : Kind) (low high : ℕ) → length lows ≡ length ks → ((i : ℕ) → i < length ks → get_or highs' i 0 ≡ get_or highs i 0) → get_or highs' (length ks) 0 ≡ high
    → parts_in (ks ++ k ∷ []) (lows ++ low ∷ []) highs' ≡ parts_in ks lows highs ++ part k low high ∷ []
snoc_lows ks lows highs highs' k low high alike others here =
    snoc ks (at_zero lows) (at_zero highs) (at_zero (lows ++ low ∷ [])) (at_zero highs') k (λ i within. but_last lows low i (λ e. absurd (omega (arith, e, within, alike)))) others
    ∙ ap (λ (p : Parts). parts_in ks lows highs ++ p ∷ [])
    (part_same k low (get_or (lows ++ low ∷ []) (length ks) 0) high (get_or highs' (length ks) 0) (subst (λ (n : ℕ). get_or (lows ++ low ∷ []) n 0 ≡ low) alike (at_last lows low)) here)

pub pushed : (ks : List Kind) (lows highs highs' : List ℕ) (k : Kind) (at low high : ℕ) → length lows ≡ length ks → at ≡ length ks → Put highs highs' at high
    → parts_in (ks ++ k ∷ []) (lows ++ low ∷ []) highs' ≡ parts_in ks lows highs ++ part k low high ∷ []
pushed ks lows highs highs' k at low high alike last put =
    snoc_lows ks lows highs highs' k low high alike (λ i within. put.others i (λ e. absurd (omega (arith, e, within, last)))) (subst (λ (n : ℕ). get_or highs' n 0 ≡ high) last (put.here))
