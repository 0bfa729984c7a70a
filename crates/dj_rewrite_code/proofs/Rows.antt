-- The rows of rewritten code fit their fields.
use Rattle.std.proofs.Common.{◌≡◌, ℕ, zero, suc, ◌<◌, ◌≤◌, ◌^◌, List, [], ◌∷◌, ◌++◌, map, length, refl, ap, arith}
use Rattle.std.specs.Prelude.{slice_index}
use Rattle.std.specs.List.{flat_map, AllByRecursion}
use Rattle.dj_labels.specs.declared.labelled.Protected.{Protected}
use Rattle.dj_labels.specs.declared.labelled.Labelled.{Labelled}
use Rattle.dj_labels.specs.trusted.Labels.{row_of}
use Rattle.dj_class.specs.trusted.Code.{IsRow}
use Rattle.dj_groups.specs.Groups.{Group, start, pieces}
use Rattle.dj_groups.specs.Grouped.{protected_pieces, labels_in_groups}

abbrev pub CatchFits : Protected → Type 0
CatchFits range = range.catch_type < 2 ^ 16

append_all : {A : Type 0} (P : A → Type 0) (xs ys : List A) → AllByRecursion P xs → AllByRecursion P ys → AllByRecursion P (xs ++ ys)
append_all P [] ys h k = k
append_all P (x ∷ xs) ys h k = (h.0, append_all P xs ys h.1 k)

pieces_fit : (gs : List Group) (range : Protected) (ps : List (ℕ × ℕ)) → CatchFits range
    → AllByRecursion CatchFits (map (λ (p : ℕ × ℕ). record range { start = p.0; end = p.1; handler = start gs range.handler }) ps)
pieces_fit gs range [] h = tt
pieces_fit gs range (p ∷ ps) h = (h, pieces_fit gs range ps h)

all_pieces : (gs : List Group) (ranges : List Protected) → AllByRecursion CatchFits ranges → AllByRecursion CatchFits (flat_map (protected_pieces gs) ranges)
all_pieces gs [] h = tt
all_pieces gs (range ∷ ranges) h =
    append_all CatchFits (protected_pieces gs range) (flat_map (protected_pieces gs) ranges) (pieces_fit gs range (pieces gs range.start range.end) h.0) (all_pieces gs ranges h.1)

pub pieces_catch : (first : ℕ) (gs : List Group) (labelled : Labelled) → AllByRecursion CatchFits labelled.ranges → AllByRecursion CatchFits (labels_in_groups first gs labelled).ranges
unfolding labels_in_groups
pieces_catch first gs labelled h = all_pieces gs labelled.ranges h

-- an address that is looked up, in or past the list
looked_up : (bounds : List ℕ) (n : ℕ) → AllByRecursion (λ address. address < 2 ^ 16) bounds → slice_index bounds n < 2 ^ 16
looked_up [] n h = omega arith
looked_up (b ∷ bounds) zero h = h.0
looked_up (b ∷ bounds) (suc n) h = looked_up bounds n h.1

pub rows_fit : (bounds : List ℕ) (ranges : List Protected) → AllByRecursion (λ address. address < 2 ^ 16) bounds → AllByRecursion CatchFits ranges → AllByRecursion IsRow (map (row_of bounds) ranges)
rows_fit bounds [] h k = tt
rows_fit bounds (range ∷ ranges) h k = (record { start = looked_up bounds range.start h; end = looked_up bounds range.end h; handler = looked_up bounds range.handler h; catch_type = k.0 }, rows_fit bounds ranges h k.1)

pub bounds_fit : (starts : List ℕ) (end : ℕ) → end ≤ 65535 → AllByRecursion (λ start. start < end) starts → AllByRecursion (λ address. address < 2 ^ 16) (starts ++ end ∷ [])
bounds_fit [] end few h = (omega (arith, few), tt)
bounds_fit (s ∷ starts) end few h = (omega (arith, few, h.0), bounds_fit starts end few h.1)

pub length_map : {A B : Type 0} (f : A → B) (xs : List A) → length (map f xs) ≡ length xs
length_map f [] = refl
length_map f (x ∷ xs) = ap suc (length_map f xs)

-- the catch types are those of the table's rows
pub catches_read : (bounds : List ℕ) (ranges : List Protected) → AllByRecursion IsRow (map (row_of bounds) ranges) → AllByRecursion CatchFits ranges
catches_read bounds [] h = tt
catches_read bounds (range ∷ ranges) h = (h.0.catch_type, catches_read bounds ranges h.1)
