-- Instructions that are laid out stand in their code, and what stands in code is laid out.
use Rattle.std.proofs.Common.{◌≡◌, ℕ, ◌+◌, ℤ, List, [], ◌∷◌, ◌++◌, map, zip, length, refl, sym, ap, ap₂, subst, subst₂, ◌∙◌, append_assoc, arith}
use Rattle.std.specs.List.{flat_map, AllByRecursion}
use Rattle.std.proofs.lemmas.List.{length-append}
use Rattle.dj_ops.specs.declared.instruction.Instr.{Instr}
use Rattle.dj_ops.specs.trusted.Instructions.{IsProper, AreOffsets, Stands, written, length_at}
use Rattle.dj_ops.proofs.Sizes.{written_stands, next_address}
use Rattle.dj_labels.specs.trusted.Targets.{with_targets}
use Rattle.dj_labels.specs.trusted.Labels.{first_of, StandUpTo}
use Rattle.dj_labels.proofs.Proper.{proper_to}
use Rattle.dj_layout.specs.trusted.Places.{starts_from, end_from}
use Rattle.dj_layout.specs.trusted.Layouts.{placed_bytes}
use Rattle.dj_layout.specs.trusted.Faults.{Reaches}
use Rattle.dj_layout.proofs.Ends.{same_length}

-- the instructions from an address on, with their targets replaced
abbrev pub placed_from : (ℤ → ℤ) → ℕ → List Instr → List (ℕ × Instr)
placed_from f at instrs = zip (starts_from at instrs) (map (with_targets f) instrs)

abbrev pub text_from : (ℤ → ℤ) → ℕ → List Instr → List ℕ
text_from f at instrs = flat_map placed_bytes (placed_from f at instrs)

pub first_is : (at : ℕ) (instrs : List Instr) → first_of (starts_from at instrs) (end_from at instrs) ≡ at
first_is at [] = refl
first_is at (i ∷ is) = refl

-- ---- what is laid out stands there

head_stands : (before rest : List ℕ) (at : ℕ) (instr : Instr) → length before ≡ at → IsProper instr → AreOffsets at instr → Stands (before ++ (written at instr ++ rest)) at instr (at + length_at at instr)
head_stands before rest at instr many proper offsets =
    subst (λ (k : ℕ). Stands (before ++ (written k instr ++ rest)) k instr (k + length_at k instr)) many
    (written_stands before rest instr proper (subst (λ (k : ℕ). AreOffsets k instr) (sym many) offsets))

pub stand_from : (f : ℤ → ℤ) (code before : List ℕ) (at : ℕ) (instrs : List Instr) → length before ≡ at → AllByRecursion IsProper instrs → AllByRecursion Reaches (placed_from f at instrs)
    → code ≡ before ++ text_from f at instrs → StandUpTo code (starts_from at instrs) (map (with_targets f) instrs) (end_from at instrs)
stand_from f code before at [] many proper reach e = tt
stand_from f code before at (i ∷ is) many proper reach e =
    let next : ℕ = at + length_at at i in
    let text : List ℕ = written at (with_targets f i) in
    let rest : List ℕ = text_from f next is in
    let head : Stands (before ++ (text ++ rest)) at (with_targets f i) (at + length_at at (with_targets f i)) = head_stands before rest at (with_targets f i) many (proper_to f i proper.0) reach.0 in
    let to : at + length_at at (with_targets f i) ≡ first_of (starts_from next is) (end_from next is) = ap (λ (n : ℕ). at + n) (same_length f at i) ∙ sym (first_is next is) in
    let here : Stands code at (with_targets f i) (first_of (starts_from next is) (end_from next is)) = subst₂ (λ (c : List ℕ) (n : ℕ). Stands c at (with_targets f i) n) (sym e) to head in
    let longer : length (before ++ text) ≡ next = omega (arith, length-append before text, many, same_length f at i) in
    (here, stand_from f code (before ++ text) next is longer proper.1 reach.1 (e ∙ sym (append_assoc before text rest)))

pub text_length : (f : ℤ → ℤ) (at : ℕ) (instrs : List Instr) → at + length (text_from f at instrs) ≡ end_from at instrs
text_length f at [] = omega arith
text_length f at (i ∷ is) =
    omega (arith, length-append (written at (with_targets f i)) (text_from f (at + length_at at i) is), same_length f at i, text_length f (at + length_at at i) is)

-- ---- what stands in code is laid out

pub record SamePlaces (at : ℕ) (instrs : List Instr) (starts : List ℕ) (end : ℕ) : Type 0 where
  pub starts_are : starts ≡ starts_from at instrs
  pub end_is : end ≡ end_from at instrs

pub same_places : (f : ℤ → ℤ) (code starts : List ℕ) (instrs : List Instr) (end at : ℕ) → StandUpTo code starts (map (with_targets f) instrs) end → first_of starts end ≡ at → SamePlaces at instrs starts end
same_places f code [] [] end at h e = record { starts_are = refl; end_is = e }
same_places f code [] (i ∷ is) end at h e = absurd h
same_places f code (x ∷ xs) [] end at h e = absurd h
same_places f code (x ∷ xs) (i ∷ is) end at h e =
    let next : first_of xs end ≡ at + length_at at i =
    next_address code x (first_of xs end) (with_targets f i) h.0 ∙ ap (λ (k : ℕ). k + length_at k (with_targets f i)) e ∙ ap (λ (n : ℕ). at + n) (same_length f at i) in
    let rest = same_places f code xs is end (at + length_at at i) h.1 next in
    record { starts_are = ap₂ (λ (y : ℕ) (ys : List ℕ). y ∷ ys) e rest.starts_are; end_is = rest.end_is }

pub all_reach : (f : ℤ → ℤ) (code starts : List ℕ) (instrs : List Instr) (end : ℕ) → StandUpTo code starts (map (with_targets f) instrs) end → AllByRecursion Reaches (zip starts (map (with_targets f) instrs))
all_reach f code [] [] end h = tt
all_reach f code [] (i ∷ is) end h = absurd h
all_reach f code (x ∷ xs) [] end h = absurd h
all_reach f code (x ∷ xs) (i ∷ is) end h = (h.0.spelled.offsets, all_reach f code xs is end h.1)
