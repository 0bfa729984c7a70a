-- Numbers and addresses: each says which the other is, for targets and for rows.
use Rattle.std.proofs.Common.{◌≡◌, ℕ, zero, suc, ◌+◌, ◌<◌, ℤ, pos, negsuc, unsigned_abs, List, [], ◌∷◌, ◌++◌, map, length, get_or, nat_eq, if◌then◌else◌, Contains, refl, sym, ap, subst, ◌∙◌, arith, tests}
use Rattle.std.specs.List.{AllByRecursion}
use Rattle.std.proofs.lemmas.Int.{ints}
use Rattle.std.proofs.lemmas.List.{length-map, length-append, get_or-map, get_or_append_left}
use Rattle.std.proofs.lemmas.List.Elements.{Contains-get_or, All-from_recursion}
use Rattle.std.proofs.lemmas.List.Quantifiers.{all_pairs_push}
use Rattle.dj_ops.specs.declared.instruction.Instr.{Instr}
use Rattle.dj_ops.specs.declared.instruction.Instr.TheVariants as instrs
use Rattle.dj_ops.specs.declared.rows.CatchRow.{CatchRow}
use Rattle.dj_labels.specs.declared.labelled.Protected.{Protected}
use Rattle.dj_labels.specs.trusted.Targets.{targets_of, with_targets}
use Rattle.dj_labels.specs.trusted.Labels.{IsNumber, HasNumbers, IsRange, address_of, addressed, row_of}
use Rattle.dj_labels.specs.Faults.{HasStarts, IsRow}
use Rattle.dj_labels.specs.Passes.{IsRising}
use Rattle.dj_labels.proofs.Lists.{each_then, each_map, map_undone}

-- ---- the place of an address in a list

unfoldable pub place_of : List ℕ → ℕ → ℕ
place_of [] a = 0
place_of (x ∷ xs) a = if nat_eq x a then 0 else suc (place_of xs a)

rest_rises : (x : ℕ) (xs : List ℕ) → IsRising (x ∷ xs) → IsRising xs
rest_rises x xs rise i j d lt within = rise (suc i) (suc j) d (omega (arith, lt)) (omega (arith, within))

place_found : (xs : List ℕ) (i : ℕ) → IsRising xs → i < length xs → place_of xs (get_or xs i 0) ≡ i
unfolding place_of
place_found [] i rise lt = absurd (omega (arith, lt))
place_found (x ∷ xs) zero rise lt = grind (arith, tests)
place_found (x ∷ xs) (suc i) rise lt =
    let rest = place_found xs i (rest_rises x xs rise) (omega (arith, lt)) in
    let apart : x < get_or xs i 0 = rise 0 (suc i) 0 (omega arith) lt in
    grind (arith, tests, rest, apart)

-- ---- targets

-- the number of an address
unfoldable pub number_of : List ℕ → ℤ → ℤ
number_of starts target = pos (place_of starts (unsigned_abs target))

number_found : (starts : List ℕ) (n : ℤ) → IsRising starts → IsNumber (length starts) n → number_of starts (address_of starts n) ≡ n
unfolding number_of
number_found starts (pos n) rise h = ap pos (place_found starts n rise (omega (arith, ints, h.1)))
number_found starts (negsuc n) rise h = absurd (omega (arith, ints, h.0))

pairs_undone : (f g : ℤ → ℤ) (pairs : List (ℤ × ℤ)) → AllByRecursion (λ t. g (f t) ≡ t) (map (λ (pair : ℤ × ℤ). pair.1) pairs) → map (λ (pair : ℤ × ℤ). (pair.0, g pair.1)) (map (λ (pair : ℤ × ℤ). (pair.0, f pair.1)) pairs) ≡ pairs
pairs_undone f g [] h = refl
pairs_undone f g (pair ∷ pairs) h =
    let here : ◌≡◌ {A = ℤ × ℤ} (pair.0, g (f pair.1)) pair = ap (λ (t : ℤ). (pair.0, t)) h.0 in
    let rest : map (λ (pair : ℤ × ℤ). (pair.0, g pair.1)) (map (λ (pair : ℤ × ℤ). (pair.0, f pair.1)) pairs) ≡ pairs = pairs_undone f g pairs h.1 in
    cc

-- what undoes f at each target undoes the replacement
pub targets_undone : (f g : ℤ → ℤ) (instr : Instr) → AllByRecursion (λ t. g (f t) ≡ t) (targets_of instr) → with_targets g (with_targets f instr) ≡ instr
targets_undone f g (instrs.Branch op target) h = ap (λ (t : ℤ). instrs.Branch op t) h.0
targets_undone f g (instrs.Table low default targets) h =
    let here : g (f default) ≡ default = h.0 in
    let rest : map g (map f targets) ≡ targets = map_undone f g targets h.1 in
    cc
targets_undone f g (instrs.Lookup default pairs) h =
    let here : g (f default) ≡ default = h.0 in
    let rest : map (λ (pair : ℤ × ℤ). (pair.0, g pair.1)) (map (λ (pair : ℤ × ℤ). (pair.0, f pair.1)) pairs) ≡ pairs = pairs_undone f g pairs h.1 in
    cc
targets_undone f g instr h = refl

-- numbers, addresses and numbers again
pub code_undone : (starts : List ℕ) (code : List Instr) → IsRising starts → AllByRecursion (HasNumbers (length starts)) code → map (with_targets (number_of starts)) (addressed starts code) ≡ code
code_undone starts code rise h =
    map_undone (with_targets (address_of starts)) (with_targets (number_of starts)) code (each_then (HasNumbers (length starts)) (λ instr. with_targets (number_of starts) (with_targets (address_of starts) instr) ≡ instr)
    (λ instr numbers. targets_undone (address_of starts) (number_of starts) instr (each_then (IsNumber (length starts)) (λ t. number_of starts (address_of starts t) ≡ t) (λ t n. number_found starts t rise n) (targets_of instr) numbers))
    code h)

pair_targets : (f : ℤ → ℤ) (pairs : List (ℤ × ℤ)) → map (λ (pair : ℤ × ℤ). pair.1) (map (λ (pair : ℤ × ℤ). (pair.0, f pair.1)) pairs) ≡ map f (map (λ (pair : ℤ × ℤ). pair.1) pairs)
pair_targets f [] = refl
pair_targets f (pair ∷ pairs) = ap (λ (l : List ℤ). f pair.1 ∷ l) (pair_targets f pairs)

pub targets_replaced : (f : ℤ → ℤ) (instr : Instr) → targets_of (with_targets f instr) ≡ map f (targets_of instr)
targets_replaced f (instrs.Branch op target) = refl
targets_replaced f (instrs.Table low default targets) = refl
targets_replaced f (instrs.Lookup default pairs) = ap (λ (l : List ℤ). f default ∷ l) (pair_targets f pairs)
targets_replaced f instr = refl

-- at the address of a number an instruction starts
starts_at : (starts : List ℕ) (n : ℤ) → IsNumber (length starts) n → Contains (map pos starts) (address_of starts n)
starts_at starts (pos n) h =
    let within : n < length starts = omega (arith, ints, h.1) in
    subst (Contains (map pos starts)) (get_or-map pos starts n 0 (pos 0) within) (Contains-get_or (map pos starts) n (pos 0) (omega (arith, within, length-map starts pos)))
starts_at starts (negsuc n) h = absurd (omega (arith, ints, h.0))

pub has_starts : (starts : List ℕ) (instr : Instr) → HasNumbers (length starts) instr → HasStarts starts (with_targets (address_of starts) instr)
has_starts starts instr h =
    subst (AllByRecursion (Contains (map pos starts))) (sym (targets_replaced (address_of starts) instr))
    (each_map (Contains (map pos starts)) (address_of starts) (targets_of instr) (each_then (IsNumber (length starts)) (λ t. Contains (map pos starts) (address_of starts t)) (starts_at starts) (targets_of instr) h))

pub have_starts : (starts : List ℕ) (code : List Instr) → AllByRecursion (HasNumbers (length starts)) code → AllByRecursion (HasStarts starts) (addressed starts code)
have_starts starts code h =
    each_map (HasStarts starts) (with_targets (address_of starts)) code (each_then (HasNumbers (length starts)) (λ instr. HasStarts starts (with_targets (address_of starts) instr)) (has_starts starts) code h)

-- ---- rows

made : ℕ → ℕ → ℕ → ℕ → Protected
made start end handler catch_type = record { start = start; end = end; handler = handler; catch_type = catch_type }

pub range_in : List ℕ → CatchRow → Protected
range_in bounds row = made (place_of bounds row.start) (place_of bounds row.end) (place_of bounds row.handler) row.catch_type

range_found : (bounds : List ℕ) (range : Protected) → IsRising bounds → range.start < length bounds → range.end < length bounds → range.handler < length bounds → range_in bounds (row_of bounds range) ≡ range
unfolding made range_in
range_found bounds range rise s e h =
    ap (λ (n : ℕ). made n (place_of bounds (get_or bounds range.end 0)) (place_of bounds (get_or bounds range.handler 0)) range.catch_type) (place_found bounds range.start rise s)
    ∙ ap (λ (n : ℕ). made range.start n (place_of bounds (get_or bounds range.handler 0)) range.catch_type) (place_found bounds range.end rise e)
    ∙ ap (λ (n : ℕ). made range.start range.end n range.catch_type) (place_found bounds range.handler rise h)

pub bounds_rise : (starts : List ℕ) (size : ℕ) → IsRising starts → AllByRecursion (λ start. start < size) starts → IsRising (starts ++ size ∷ [])
bounds_rise starts size rise within = all_pairs_push (λ a b. a < b) starts size rise (λ k d lt. All-from_recursion (λ start. start < size) starts within k d lt)

pub ranges_undone : (starts : List ℕ) (size : ℕ) (ranges : List Protected) → IsRising (starts ++ size ∷ []) → AllByRecursion (IsRange (length starts)) ranges → map (range_in (starts ++ size ∷ [])) (map (row_of (starts ++ size ∷ [])) ranges) ≡ ranges
ranges_undone starts size ranges rise h =
    let many : length (starts ++ size ∷ []) ≡ length starts + 1 = length-append starts (size ∷ []) in
    map_undone (row_of (starts ++ size ∷ [])) (range_in (starts ++ size ∷ [])) ranges (each_then (IsRange (length starts)) (λ range. range_in (starts ++ size ∷ []) (row_of (starts ++ size ∷ []) range) ≡ range)
    (λ range is. range_found (starts ++ size ∷ []) range rise (omega (arith, many, is.some, is.within)) (omega (arith, many, is.within)) (omega (arith, many, is.handled)))
    ranges h)

-- the row of a range is a range of instructions
is_row : (starts : List ℕ) (size : ℕ) (range : Protected) → IsRising (starts ++ size ∷ []) → IsRange (length starts) range → IsRow starts size (row_of (starts ++ size ∷ []) range)
is_row starts size range rise is =
    let many : length (starts ++ size ∷ []) ≡ length starts + 1 = length-append starts (size ∷ []) in
    let begins : range.start < length starts = omega (arith, is.some, is.within) in
    record {
      some = rise range.start range.end 0 is.some (omega (arith, many, is.within));
      start = subst (Contains starts) (sym (get_or_append_left starts (size ∷ []) 0 range.start begins)) (Contains-get_or starts range.start 0 begins);
      end = Contains-get_or (starts ++ size ∷ []) range.end 0 (omega (arith, many, is.within));
      handler = subst (Contains starts) (sym (get_or_append_left starts (size ∷ []) 0 range.handler is.handled)) (Contains-get_or starts range.handler 0 is.handled);
    }

pub are_rows : (starts : List ℕ) (size : ℕ) (ranges : List Protected) → IsRising (starts ++ size ∷ []) → AllByRecursion (IsRange (length starts)) ranges → AllByRecursion (IsRow starts size) (map (row_of (starts ++ size ∷ [])) ranges)
are_rows starts size ranges rise h =
    each_map (IsRow starts size) (row_of (starts ++ size ∷ [])) ranges (each_then (IsRange (length starts)) (λ range. IsRow starts size (row_of (starts ++ size ∷ []) range)) (λ range is. is_row starts size range rise is) ranges h)
