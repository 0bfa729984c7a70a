-- Local variables with a cell for each that was given a value.
use Rattle.std.proofs.Common.{◌≡◌, ◌≢◌, ◌<◌, ◌≤◌, ◌-◌, ◌⊎◌, ℕ, zero, suc, List, [], ◌∷◌, ◌++◌, get_or, set, replicate, length, Option, None, Some, slice_get, refl, ap, sym, subst, ◌∙◌, inl, inr, arith}
use Rattle.std.proofs.lemmas.List.{get_or-set_same, get_or-set_other, get_or-map, get_or_push, get_or_append_left, ext_get_or, set-get_or, length-map, length-set, length-append}
use Rattle.std.proofs.lemmas.Option.{slice_get-get_or, get_or_from_slice_get}
use Rattle.std.proofs.lemmas.Bool.{cases_eq}
use Rattle.dj_names.specs.declared.run.Value.{Value}
use Rattle.dj_stack.specs.declared.parts.Kind.TheVariants as kinds
use Rattle.dj_stack.specs.declared.parts.Parts.{Parts}
use Rattle.dj_stack.specs.Parts.{part, local_of}
use Rattle.dj_stack.specs.Cells.{cell, variables_in, used_in, SharedOut}

-- ---- reading

pub count_of : (places : List ℕ) (cells : List Parts) → length (variables_in places cells) ≡ length places
count_of places cells = length-map places (cell cells)

at_place : (places : List ℕ) (cells : List Parts) (i : ℕ) → i < length places → get_or (variables_in places cells) i None ≡ cell cells (get_or places i 0)
at_place places cells i within = get_or-map (cell cells) places i 0 None within

read : (places : List ℕ) (cells : List Parts) (at : ℕ) → at < length places → slice_get (variables_in places cells) at ≡ Some (cell cells (get_or places at 0))
read places cells at within =
    slice_get-get_or (variables_in places cells) at None (omega (arith, within, count_of places cells)) ∙ ap Some (at_place places cells at within)

pub unset : (places : List ℕ) (cells : List Parts) (at : ℕ) → at < length places → get_or places at 0 ≡ 0 → slice_get (variables_in places cells) at ≡ Some None
unset places cells at within none = read places cells at within ∙ ap (λ (place : ℕ). Some (cell cells place)) none

pub stands : (places : List ℕ) (cells : List Parts) (at place : ℕ) (p : Parts) → at < length places → get_or places at 0 ≡ suc place → slice_get cells place ≡ Some p → slice_get (variables_in places cells) at ≡ Some (local_of p)
stands places cells at place p within is found =
    read places cells at within ∙ (ap (λ (n : ℕ). Some (cell cells n)) is ∙ ap (λ (q : Parts). Some (local_of q)) (get_or_from_slice_get cells place p (part kinds.Empty 0 0) found))

pub has_cell : (places : List ℕ) (cells at : ℕ) → SharedOut places cells → get_or places at 0 ≢ 0 → get_or places at 0 - 1 < cells
has_cell places cells at shared some = omega (arith, shared.within at, some)

-- ---- none has a cell

zero_each : (n i : ℕ) → get_or {A = ℕ} (replicate {A = ℕ} n 0) i 0 ≡ zero
zero_each zero i = refl
zero_each (suc n) zero = refl
zero_each (suc n) (suc i) = zero_each n i

used_none : (n : ℕ) → used_in (replicate n 0) ≡ zero
used_none zero = refl
used_none (suc n) = used_none n

pub none_shared : (n : ℕ) → SharedOut (replicate n 0) 0
none_shared n = record { all = used_none n; within = λ i. omega (arith, zero_each n i); apart = λ i j some e. absurd (some (zero_each n i)) }

pub all_none : (n : ℕ) (cells : List Parts) → variables_in (replicate n 0) cells ≡ replicate n None
all_none zero cells = refl
all_none (suc n) cells = ap (λ (rest : List (Option Value)). None ∷ rest) (all_none n cells)

pub shared_by_none : (places : List ℕ) (cells : List Parts) (n : ℕ) → places ≡ replicate {A = ℕ} n 0 → cells ≡ [] → SharedOut places (length cells)
shared_by_none places cells n zeros none =
    subst (λ (ps : List ℕ). SharedOut ps (length cells)) (sym zeros) (subst (λ (cs : List Parts). SharedOut (replicate {A = ℕ} n 0) (length cs)) (sym none) (none_shared n))

pub without_value : (places : List ℕ) (cells : List Parts) (n : ℕ) → places ≡ replicate {A = ℕ} n 0 → variables_in places cells ≡ replicate n None
without_value places cells n zeros = ap (λ (ps : List ℕ). variables_in ps cells) zeros ∙ all_none n cells

pub still_none : (places : List ℕ) (cells : List Parts) (at : ℕ) → at < length places → get_or places at 0 ≡ 0 → variables_in places cells ≡ set (variables_in places cells) at None
still_none places cells at within none =
    sym (ap (set (variables_in places cells) at) (sym (at_place places cells at within ∙ ap (cell cells) none)) ∙ set-get_or (variables_in places cells) at None)

-- ---- one that has a cell is given a value

other_cell : (cells : List Parts) (k place : ℕ) (p : Parts) → place ≢ suc k → cell (set cells k p) place ≡ cell cells place
other_cell cells k zero p other = refl
other_cell cells k (suc m) p other = ap local_of (get_or-set_other cells k m p (part kinds.Empty 0 0) (λ e. other (ap suc e)))

same_variables : (xs ys : List (Option Value)) → length xs ≡ length ys → ((i : ℕ) → i < length xs → get_or xs i None ≡ get_or ys i None) → xs ≡ ys
same_variables xs ys count each = ext_get_or None xs ys count each

again_at : (places : List ℕ) (cells : List Parts) (at k i : ℕ) (p : Parts) → SharedOut places (length cells) → at < length places → get_or places at 0 ≡ suc k → i < length places → (i ≡ at) ⊎ (i ≢ at)
    → cell (set cells k p) (get_or places i 0) ≡ get_or (set (variables_in places cells) at (local_of p)) i None
again_at places cells at k i p shared within is inside (inl here) =
    let fits : k < length cells = omega (arith, shared.within at, is) in
    subst (λ (n : ℕ). cell (set cells k p) (get_or places n 0) ≡ get_or (set (variables_in places cells) at (local_of p)) n None) (sym here)
    (ap (cell (set cells k p)) is ∙ (ap local_of (get_or-set_same cells k p (part kinds.Empty 0 0) fits) ∙ sym (get_or-set_same (variables_in places cells) at (local_of p) None (omega (arith, within, count_of places cells)))))
again_at places cells at k i p shared within is inside (inr other) =
    other_cell cells k (get_or places i 0) p (λ e. other (shared.apart i at (λ none. absurd (omega (arith, e, none))) (e ∙ sym is)))
    ∙ (sym (at_place places cells i inside) ∙ sym (get_or-set_other (variables_in places cells) at i (local_of p) None other))

again : (places : List ℕ) (cells : List Parts) (at k : ℕ) (p : Parts) → SharedOut places (length cells) → at < length places → get_or places at 0 ≡ suc k
    → variables_in places (set cells k p) ≡ set (variables_in places cells) at (local_of p)
again places cells at k p shared within is =
    same_variables (variables_in places (set cells k p)) (set (variables_in places cells) at (local_of p))
    (omega (arith, count_of places (set cells k p), count_of places cells, length-set (variables_in places cells) at (local_of p)))
    (λ i inside. let fits : i < length places = omega (arith, inside, count_of places (set cells k p)) in
    at_place places (set cells k p) i fits ∙ again_at places cells at k i p shared within is fits (cases_eq i at))

pub given_again : (places : List ℕ) (cells : List Parts) (at place : ℕ) (p : Parts) → SharedOut places (length cells) → at < length places → get_or places at 0 ≡ place → 0 < place
    → variables_in places (set cells (place - 1) p) ≡ set (variables_in places cells) at (local_of p)
given_again places cells at place p shared within is some = again places cells at (place - 1) p shared within (is ∙ omega (arith, some))

pub set_count : (places : List ℕ) (cells : List Parts) (k : ℕ) (p : Parts) → SharedOut places (length cells) → SharedOut places (length (set cells k p))
set_count places cells k p shared = subst (λ (n : ℕ). SharedOut places n) (sym (length-set cells k p)) shared

-- ---- one that has no cell is given a value

used_most : (places : List ℕ) → used_in places ≤ length places
used_most [] = omega arith
used_most (zero ∷ places) = let rest = used_most places in omega (arith, rest)
used_most (suc place ∷ places) = let rest = used_most places in omega (arith, rest)

used_fewer : (places : List ℕ) (at : ℕ) → at < length places → get_or places at 0 ≡ 0 → used_in places < length places
used_fewer [] at within none = absurd (omega (arith, within))
used_fewer (zero ∷ places) zero within none = let rest = used_most places in omega (arith, rest)
used_fewer (suc place ∷ places) zero within none = absurd (omega (arith, none))
used_fewer (zero ∷ places) (suc at) within none = let rest = used_fewer places at (omega (arith, within)) none in omega (arith, rest)
used_fewer (suc place ∷ places) (suc at) within none = let rest = used_fewer places at (omega (arith, within)) none in omega (arith, rest)

used_more : (places : List ℕ) (at n : ℕ) → at < length places → get_or places at 0 ≡ 0 → used_in (set places at (suc n)) ≡ suc (used_in places)
used_more [] at n within none = absurd (omega (arith, within))
used_more (zero ∷ places) zero n within none = refl
used_more (suc place ∷ places) zero n within none = absurd (omega (arith, none))
used_more (zero ∷ places) (suc at) n within none = used_more places at n (omega (arith, within)) none
used_more (suc place ∷ places) (suc at) n within none = ap suc (used_more places at n (omega (arith, within)) none)

pub spare_cell : (places : List ℕ) (cells at : ℕ) → SharedOut places cells → at < length places → get_or places at 0 ≡ 0 → cells < length places
spare_cell places cells at shared within none = omega (arith, used_fewer places at within none, shared.all)

within_more : (places : List ℕ) (cells at i : ℕ) → SharedOut places cells → at < length places → (i ≡ at) ⊎ (i ≢ at) → get_or (set places at (suc cells)) i 0 ≤ suc cells
within_more places cells at i shared within (inl here) =
    let is : get_or (set places at (suc cells)) i 0 ≡ suc cells = subst (λ (k : ℕ). get_or (set places at (suc cells)) k 0 ≡ suc cells) (sym here) (get_or-set_same places at (suc cells) 0 within) in
    omega (arith, is)
within_more places cells at i shared within (inr other) = omega (arith, get_or-set_other places at i (suc cells) 0 other, shared.within i)

apart_more : (places : List ℕ) (cells at i j : ℕ) → SharedOut places cells → at < length places → get_or (set places at (suc cells)) i 0 ≢ 0 → get_or (set places at (suc cells)) i 0 ≡ get_or (set places at (suc cells)) j 0
    → (i ≡ at) ⊎ (i ≢ at) → (j ≡ at) ⊎ (j ≢ at) → i ≡ j
apart_more places cells at i j shared within some e (inl here) (inl there) = here ∙ sym there
apart_more places cells at i j shared within some e (inl here) (inr other) =
    let is : get_or (set places at (suc cells)) i 0 ≡ suc cells = subst (λ (k : ℕ). get_or (set places at (suc cells)) k 0 ≡ suc cells) (sym here) (get_or-set_same places at (suc cells) 0 within) in
    absurd (omega (arith, is, e, get_or-set_other places at j (suc cells) 0 other, shared.within j))
apart_more places cells at i j shared within some e (inr other) (inl there) =
    let is : get_or (set places at (suc cells)) j 0 ≡ suc cells = subst (λ (k : ℕ). get_or (set places at (suc cells)) k 0 ≡ suc cells) (sym there) (get_or-set_same places at (suc cells) 0 within) in
    absurd (omega (arith, is, e, get_or-set_other places at i (suc cells) 0 other, shared.within i))
apart_more places cells at i j shared within some e (inr other) (inr another) =
    let ei = get_or-set_other places at i (suc cells) 0 other in
    let ej = get_or-set_other places at j (suc cells) 0 another in
    shared.apart i j (λ none. some (ei ∙ none)) (sym ei ∙ (e ∙ ej))

more : (places : List ℕ) (cells at : ℕ) → SharedOut places cells → at < length places → get_or places at 0 ≡ 0 → SharedOut (set places at (suc cells)) (suc cells)
more places cells at shared within none = record {
  all = used_more places at cells within none ∙ ap suc (shared.all);
  within = λ i. within_more places cells at i shared within (cases_eq i at);
  apart = λ i j some e. apart_more places cells at i j shared within some e (cases_eq i at) (cases_eq j at);
}

pub shared_more : (places : List ℕ) (cells : List Parts) (at : ℕ) (p : Parts) → SharedOut places (length cells) → at < length places → get_or places at 0 ≡ 0
    → SharedOut (set places at (length (cells ++ p ∷ []))) (length (cells ++ p ∷ []))
shared_more places cells at p shared within none =
    let count : length (cells ++ p ∷ []) ≡ suc (length cells) = omega (arith, length-append cells (p ∷ [])) in
    subst (λ (n : ℕ). SharedOut (set places at n) n) (sym count) (more places (length cells) at shared within none)

cell_kept : (cells : List Parts) (p : Parts) (place : ℕ) → place ≤ length cells → cell (cells ++ p ∷ []) place ≡ cell cells place
cell_kept cells p zero within = refl
cell_kept cells p (suc m) within = ap local_of (get_or_append_left cells (p ∷ []) (part kinds.Empty 0 0) m (omega (arith, within)))

first_at : (places : List ℕ) (cells : List Parts) (at i : ℕ) (p : Parts) → SharedOut places (length cells) → at < length places → i < length places → (i ≡ at) ⊎ (i ≢ at)
    → cell (cells ++ p ∷ []) (get_or (set places at (suc (length cells))) i 0) ≡ get_or (set (variables_in places cells) at (local_of p)) i None
first_at places cells at i p shared within inside (inl here) =
    subst (λ (n : ℕ). cell (cells ++ p ∷ []) (get_or (set places at (suc (length cells))) n 0) ≡ get_or (set (variables_in places cells) at (local_of p)) n None) (sym here)
    (ap (cell (cells ++ p ∷ [])) (get_or-set_same places at (suc (length cells)) 0 within)
    ∙ (ap local_of (get_or_push cells p (part kinds.Empty 0 0) (length cells) refl) ∙ sym (get_or-set_same (variables_in places cells) at (local_of p) None (omega (arith, within, count_of places cells)))))
first_at places cells at i p shared within inside (inr other) =
    ap (cell (cells ++ p ∷ [])) (get_or-set_other places at i (suc (length cells)) 0 other)
    ∙ (cell_kept cells p (get_or places i 0) (shared.within i)
    ∙ (sym (at_place places cells i inside) ∙ sym (get_or-set_other (variables_in places cells) at i (local_of p) None other)))

first : (places : List ℕ) (cells : List Parts) (at : ℕ) (p : Parts) → SharedOut places (length cells) → at < length places
    → variables_in (set places at (suc (length cells))) (cells ++ p ∷ []) ≡ set (variables_in places cells) at (local_of p)
first places cells at p shared within =
    let places' = set places at (suc (length cells)) in
    let cells' = cells ++ p ∷ [] in
    same_variables (variables_in places' cells') (set (variables_in places cells) at (local_of p))
    (omega (arith, count_of places' cells', count_of places cells, length-set (variables_in places cells) at (local_of p), length-set places at (suc (length cells))))
    (λ i inside. let fits : i < length places = omega (arith, inside, count_of places' cells', length-set places at (suc (length cells))) in
    at_place places' cells' i (omega (arith, fits, length-set places at (suc (length cells)))) ∙ first_at places cells at i p shared within fits (cases_eq i at))

pub given_first : (places : List ℕ) (cells : List Parts) (at : ℕ) (p : Parts) → SharedOut places (length cells) → at < length places
    → variables_in (set places at (length (cells ++ p ∷ []))) (cells ++ p ∷ []) ≡ set (variables_in places cells) at (local_of p)
given_first places cells at p shared within =
    let count : length (cells ++ p ∷ []) ≡ suc (length cells) = omega (arith, length-append cells (p ∷ [])) in
    subst (λ (n : ℕ). variables_in (set places at n) (cells ++ p ∷ []) ≡ set (variables_in places cells) at (local_of p)) (sym count) (first places cells at p shared within)
