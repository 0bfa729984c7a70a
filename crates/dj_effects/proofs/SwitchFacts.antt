-- A table from low on, by its places, and pairs, by the first with a match.
use Rattle.std.proofs.Common.{◌≡◌, ◌≤◌, ℕ, zero, suc, ◌&&◌, Bool, true, false, ℤ, pos, negsuc, ◌+ℤ◌, ◌-ℤ◌, ◌≤ℤ◌, ◌<ℤ◌, List, [], ◌∷◌, length, get_or, ◌<◌, Option, Some, None, slice_get, unwrap_or, unsigned_abs, int_lt, int_le, if◌then◌else◌, refl, sym, ap, subst, ◌∙◌, arith}
use Rattle.std.proofs.lemmas.Int.{ints}
use Rattle.std.specs.Option.{option_map}
use Rattle.dj_ops.specs.Lookups.{first_target}
use Rattle.dj_model.specs.trusted.Numbers.{same_number, target_of}
use Rattle.std.proofs.lemmas.Option.{slice_get-get_or}
use Rattle.dj_model.specs.trusted.Opcodes.{lookup_pairs, table_pairs}

same_when : (s t : Bool) (a b : ℤ) → int_le a b ≡ s → int_le b a ≡ t → a ≤ℤ b → b ≤ℤ a → (s && t) ≡ true
same_when true true a b e f under over = refl
same_when false t a b e f under over = absurd (omega (arith, ints))
same_when true false a b e f under over = absurd (omega (arith, ints))

other_when : (s t : Bool) (a b : ℤ) → int_le a b ≡ s → int_le b a ≡ t → a <ℤ b → (s && t) ≡ false
other_when true true a b e f less = absurd (omega (arith, ints))
other_when false t a b e f less = refl
other_when true false a b e f less = refl

over_when : (s t : Bool) (a b : ℤ) → int_le a b ≡ s → int_le b a ≡ t → b <ℤ a → (s && t) ≡ false
over_when true t a b e f less = absurd (omega (arith, ints))
over_when false t a b e f less = refl

same : (a b : ℤ) → a ≤ℤ b → b ≤ℤ a → same_number a b ≡ true
same a b under over = same_when (int_le a b) (int_le b a) a b refl refl under over

other : (a b : ℤ) → a <ℤ b → same_number a b ≡ false
other a b less = other_when (int_le a b) (int_le b a) a b refl refl less

over : (a b : ℤ) → b <ℤ a → same_number a b ≡ false
over a b less = over_when (int_le a b) (int_le b a) a b refl refl less

-- the place i of the table is that of the number
at_place : (targets : List ℤ) (low z : ℤ) (i default : ℕ) (target : ℤ) → z ≤ℤ (low +ℤ pos i) → (low +ℤ pos i) ≤ℤ z → slice_get targets i ≡ Some target
    → target_of (table_pairs low targets) default z ≡ unsigned_abs target
at_place [] low z i default target under above found = absurd cc
at_place (first ∷ targets) low z zero default target under above found =
    let here : first ≡ target = cc in
    ap (λ b. if b then unsigned_abs first else target_of (table_pairs (low +ℤ pos 1) targets) default z) (same low z (omega (arith, ints)) (omega (arith, ints)))
    ∙ ap unsigned_abs here
at_place (first ∷ targets) low z (suc i) default target under above found =
    ap (λ b. if b then unsigned_abs first else target_of (table_pairs (low +ℤ pos 1) targets) default z) (other low z (omega (arith, ints)))
    ∙ at_place targets (low +ℤ pos 1) z i default target (omega (arith, ints)) (omega (arith, ints)) found

past_places : (targets : List ℤ) (low z : ℤ) (i default : ℕ) → (low +ℤ pos i) ≤ℤ z → length targets ≤ i → target_of (table_pairs low targets) default z ≡ default
past_places [] low z i default above past = refl
past_places (first ∷ targets) low z zero default above past = absurd (omega (arith, past))
past_places (first ∷ targets) low z (suc i) default above past =
    ap (λ b. if b then unsigned_abs first else target_of (table_pairs (low +ℤ pos 1) targets) default z) (other low z (omega (arith, ints)))
    ∙ past_places targets (low +ℤ pos 1) z i default (omega (arith, ints)) (omega (arith, past))

pub table_below : (targets : List ℤ) (low z : ℤ) (default : ℕ) → z <ℤ low → target_of (table_pairs low targets) default z ≡ default
table_below [] low z default less = refl
table_below (first ∷ targets) low z default less =
    ap (λ b. if b then unsigned_abs first else target_of (table_pairs (low +ℤ pos 1) targets) default z) (over low z less)
    ∙ table_below targets (low +ℤ pos 1) z default (omega (arith, ints))

gap : (d : ℤ) → pos 0 ≤ℤ d → pos (unsigned_abs d) ≡ d
gap (pos n) above = refl
gap (negsuc n) above = absurd (omega (arith, ints))

place_under : (low z : ℤ) → low ≤ℤ z → z ≤ℤ (low +ℤ pos (unsigned_abs (z -ℤ low)))
place_under low z above = subst (λ (d : ℤ). z ≤ℤ (low +ℤ d)) (sym (gap (z -ℤ low) (omega (arith, ints)))) (omega (arith, ints))

place_above : (low z : ℤ) → low ≤ℤ z → (low +ℤ pos (unsigned_abs (z -ℤ low))) ≤ℤ z
place_above low z above = subst (λ (d : ℤ). (low +ℤ d) ≤ℤ z) (sym (gap (z -ℤ low) (omega (arith, ints)))) (omega (arith, ints))

pub table_inside : (targets : List ℤ) (low z : ℤ) (default : ℕ) → low ≤ℤ z → unsigned_abs (z -ℤ low) < length targets
    → target_of (table_pairs low targets) default z ≡ unsigned_abs (get_or targets (unsigned_abs (z -ℤ low)) (pos 0))
table_inside targets low z default above less =
    at_place targets low z (unsigned_abs (z -ℤ low)) default (get_or targets (unsigned_abs (z -ℤ low)) (pos 0)) (place_under low z above) (place_above low z above)
    (slice_get-get_or targets (unsigned_abs (z -ℤ low)) (pos 0) less)

at_least : (z low : ℤ) → int_lt z low ≡ false → low ≤ℤ z
at_least z low e = grind (arith, ints)

pub table_found : (targets : List ℤ) (low z distance : ℤ) (default place : ℕ) → int_lt z low ≡ false → place ≡ unsigned_abs distance → distance ≡ z -ℤ low
    → place < length targets → target_of (table_pairs low targets) default z ≡ unsigned_abs (get_or targets place (pos 0))
table_found targets low z distance default place over is same less =
    let here : place ≡ unsigned_abs (z -ℤ low) = is ∙ ap unsigned_abs same in
    table_inside targets low z default (at_least z low over) (subst (λ (k : ℕ). k < length targets) here less)
    ∙ ap (λ (k : ℕ). unsigned_abs (get_or targets k (pos 0))) (sym here)

pub table_outside : (targets : List ℤ) (low z : ℤ) (default : ℕ) → low ≤ℤ z → length targets ≤ unsigned_abs (z -ℤ low)
    → target_of (table_pairs low targets) default z ≡ default
table_outside targets low z default above past = past_places targets low z (unsigned_abs (z -ℤ low)) default (place_above low z above) past

-- ---- pairs

first_decides : (pairs : List (ℤ × ℤ)) (default : ℕ) (z : ℤ) → target_of (lookup_pairs pairs) default z ≡ unwrap_or (option_map unsigned_abs (first_target pairs z)) default
first_decides [] default z = refl
first_decides (pair ∷ pairs) default z = by_match (first_decides pairs default z) (same_number pair.0 z) where
  by_match : target_of (lookup_pairs pairs) default z ≡ unwrap_or (option_map unsigned_abs (first_target pairs z)) default → (same : Bool) → (if same then unsigned_abs pair.1 else target_of (lookup_pairs pairs) default z) ≡ unwrap_or (option_map unsigned_abs (if same then Some pair.1 else first_target pairs z)) default
  by_match rest true = refl
  by_match rest false = rest

pub pair_found : (pairs : List (ℤ × ℤ)) (default : ℕ) (z target : ℤ) → Some target ≡ first_target pairs z → unsigned_abs target ≡ target_of (lookup_pairs pairs) default z
pair_found pairs default z target is = ap (λ (found : Option ℤ). unwrap_or (option_map unsigned_abs found) default) is ∙ sym (first_decides pairs default z)

pub no_pair : (pairs : List (ℤ × ℤ)) (default : ℕ) (z : ℤ) → None ≡ first_target pairs z → default ≡ target_of (lookup_pairs pairs) default z
no_pair pairs default z is = ap (λ (found : Option ℤ). unwrap_or (option_map unsigned_abs found) default) is ∙ sym (first_decides pairs default z)
