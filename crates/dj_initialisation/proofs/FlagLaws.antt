-- The flags of classes by their numbers are those of the model.
use Rattle.std.proofs.Common.{◌≡◌, ℕ, zero, suc, ◌<◌, ◌≤◌, Bool, true, false, List, [], ◌∷◌, ◌++◌, length, set, get_or, reverse, Option, Some, None, refl, sym, ap, ◌∙◌, arith, if◌then◌else◌}
use Rattle.std.specs.Prelude.{All, unwrap_or}
use Rattle.std.specs.Option.{option_map}
use Rattle.std.proofs.lemmas.Bool.{false≢true}
use Rattle.std.proofs.lemmas.List.{length-set, map-append, reverse-append}
use Rattle.std.proofs.lemmas.List.Elements.{All-head, All-tail, All-nil, All-push, All-same}
use Rattle.dj_names.specs.trusted.Types.{Name, same_name}
use Rattle.dj_model.specs.trusted.Program.{Program}
use Rattle.dj_model.specs.trusted.Linking.{option_list}
use Rattle.dj_model.specs.trusted.Initialisation.{is_initialised, mark, mark_all, not_initialised}
use Rattle.dj_class_table.specs.Tables.{class_number, class_numbers}
use Rattle.dj_class_table.proofs.Numbered.{name_at-number}
use Rattle.dj_resolution.specs.Linked.{class_name}
use Rattle.dj_resolution.proofs.Resolution.{DoNamesDiffer, number_of_name}
use Rattle.dj_initialisation.specs.Flags.{has_begun, not_begun}
use Rattle.dj_initialisation.specs.Waiting.{names_of, marks, waiting_count}

-- ---- one flag

abbrev flag_of : List Bool → Option ℕ → Bool
flag_of flags None = true
flag_of flags (Some k) = has_begun flags k

abbrev marked_at : List Bool → Option ℕ → List Bool
marked_at flags None = flags
marked_at flags (Some k) = set flags k true

no_flag : (k : ℕ) → get_or [] k true ≡ true
no_flag zero = refl
no_flag (suc k) = refl

initialised_at : (program : Program) (flags : List Bool) (name : Name) → is_initialised program flags name ≡ flag_of flags (class_number program name)
unfolding is_initialised
initialised_at [] flags name = refl
initialised_at (c ∷ program) [] name = sym (by (if same_name c.name name then Some 0 else option_map suc (class_number program name))) where
  by : (o : Option ℕ) → flag_of [] o ≡ true
  by None = refl
  by (Some k) = no_flag k
initialised_at (c ∷ program) (flag ∷ flags) name = by (same_name c.name name) (class_number program name) (initialised_at program flags name) where
  by : (b : Bool) (o : Option ℕ) → is_initialised program flags name ≡ flag_of flags o
      → (if b then flag else is_initialised program flags name) ≡ flag_of (flag ∷ flags) (if b then Some 0 else option_map suc o)
  by true o later = refl
  by false None later = later
  by false (Some k) later = later

none_marked : (o : Option ℕ) → marked_at [] o ≡ []
none_marked None = refl
none_marked (Some zero) = refl
none_marked (Some (suc k)) = refl

marked_number : (program : Program) (name : Name) (flags : List Bool) → mark program name flags ≡ marked_at flags (class_number program name)
unfolding mark
marked_number [] name flags = refl
marked_number (c ∷ program) name [] = sym (none_marked (if same_name c.name name then Some 0 else option_map suc (class_number program name)))
marked_number (c ∷ program) name (flag ∷ flags) = by (same_name c.name name) (class_number program name) (marked_number program name flags) where
  by : (b : Bool) (o : Option ℕ) → mark program name flags ≡ marked_at flags o
      → (if b then true ∷ flags else flag ∷ mark program name flags) ≡ marked_at (flag ∷ flags) (if b then Some 0 else option_map suc o)
  by true o later = refl
  by false None later = ap (λ (fs : List Bool). flag ∷ fs) later
  by false (Some k) later = ap (λ (fs : List Bool). flag ∷ fs) later

-- ---- the classes that wait

named : (program : Program) (name : Name) (k : ℕ) → class_number program name ≡ Some k → class_name program k ≡ name
named program name k is = ap (λ (o : Option Name). unwrap_or o []) (name_at-number program name k is)

pub waits : (program : Program) (flags : List Bool) (names : List Name) → not_initialised program flags names ≡ names_of program (not_begun flags (class_numbers program names))
waits program flags [] = refl
waits program flags (name ∷ names) =
    ap (λ (b : Bool). (if b then [] else name ∷ []) ++ not_initialised program (mark program name flags) names) (initialised_at program flags name)
    ∙ ap (λ (fs : List Bool). (if flag_of flags (class_number program name) then [] else name ∷ []) ++ not_initialised program fs names) (marked_number program name flags)
    ∙ by (λ fs. waits program fs names) (class_number program name) refl
  where
    at : ((fs : List Bool) → not_initialised program fs names ≡ names_of program (not_begun fs (class_numbers program names))) → (k : ℕ) → class_name program k ≡ name → (b : Bool)
        → (if b then [] else name ∷ []) ++ not_initialised program (set flags k true) names
        ≡ names_of program ((if b then [] else k ∷ []) ++ not_begun (set flags k true) (class_numbers program names))
    at each k is true = each (set flags k true)
    at each k is false =
        ap (λ (ns : List Name). name ∷ ns) (each (set flags k true))
        ∙ ap (λ (n : Name). n ∷ names_of program (not_begun (set flags k true) (class_numbers program names))) (sym is)

    by : ((fs : List Bool) → not_initialised program fs names ≡ names_of program (not_begun fs (class_numbers program names))) → (o : Option ℕ) → class_number program name ≡ o
        → (if flag_of flags o then [] else name ∷ []) ++ not_initialised program (marked_at flags o) names
        ≡ names_of program (not_begun flags (option_list o ++ class_numbers program names))
    by each None is = each flags
    by each (Some k) is = at each k (named program name k is) (has_begun flags k)

-- ---- marks

pub All-reversed : (P : ℕ → Type 0) (ks : List ℕ) → All P ks → All P (reverse ks)
All-reversed P [] each = All-nil P
All-reversed P (k ∷ ks) each =
    All-same P (reverse (k ∷ ks)) (reverse ks ++ k ∷ []) (reverse-append (k ∷ []) ks)
    (All-push P (reverse ks) k (All-reversed P ks (All-tail P k ks each)) (All-head P k ks each))

pub set_other_order : (flags : List Bool) (i j : ℕ) → set (set flags i true) j true ≡ set (set flags j true) i true
set_other_order [] zero zero = refl
set_other_order [] zero (suc j) = refl
set_other_order [] (suc i) zero = refl
set_other_order [] (suc i) (suc j) = refl
set_other_order (flag ∷ flags) zero zero = refl
set_other_order (flag ∷ flags) zero (suc j) = refl
set_other_order (flag ∷ flags) (suc i) zero = refl
set_other_order (flag ∷ flags) (suc i) (suc j) = ap (λ (fs : List Bool). flag ∷ fs) (set_other_order flags i j)

pub marks_one_more : (flags : List Bool) (k : ℕ) (ks : List ℕ) → marks (set flags k true) ks ≡ set (marks flags ks) k true
marks_one_more flags k [] = refl
marks_one_more flags k (j ∷ ks) = ap (λ (fs : List Bool). marks fs ks) (set_other_order flags k j) ∙ marks_one_more (set flags j true) k ks

pub marks_push : (flags : List Bool) (ks : List ℕ) (k : ℕ) → marks flags (ks ++ k ∷ []) ≡ set (marks flags ks) k true
marks_push flags [] k = refl
marks_push flags (j ∷ ks) k = marks_push (set flags j true) ks k

marks_reverse : (flags : List Bool) (ks : List ℕ) → marks flags (reverse ks) ≡ marks flags ks
marks_reverse flags [] = refl
marks_reverse flags (k ∷ ks) =
    ap (marks flags) (reverse-append (k ∷ []) ks) ∙ marks_push flags (reverse ks) k ∙ ap (λ (fs : List Bool). set fs k true) (marks_reverse flags ks)
    ∙ sym (marks_one_more flags k ks)

pub marks_length : (flags : List Bool) (ks : List ℕ) → length (marks flags ks) ≡ length flags
marks_length flags [] = refl
marks_length flags (k ∷ ks) = marks_length (set flags k true) ks ∙ length-set flags k true

all_marked : (program : Program) (ks : List ℕ) (flags : List Bool) → DoNamesDiffer program → All (λ k. k < length program) ks
    → mark_all program (names_of program ks) flags ≡ marks flags ks
all_marked program [] flags differ within = refl
all_marked program (k ∷ ks) flags differ within =
    ap (mark_all program (names_of program ks))
    (marked_number program (class_name program k) flags ∙ ap (marked_at flags) (number_of_name program k differ (All-head (λ k. k < length program) k ks within)))
    ∙ all_marked program ks (set flags k true) differ (All-tail (λ k. k < length program) k ks within)

pub names_reversed : (program : Program) (ks : List ℕ) → reverse (names_of program ks) ≡ names_of program (reverse ks)
names_reversed program [] = refl
names_reversed program (k ∷ ks) =
    reverse-append (class_name program k ∷ []) (names_of program ks) ∙ ap (λ (ns : List Name). ns ++ class_name program k ∷ []) (names_reversed program ks)
    ∙ sym (map-append (class_name program) (reverse ks) (k ∷ [])) ∙ ap (names_of program) (sym (reverse-append (k ∷ []) ks))

pub marked_names : (program : Program) (ks : List ℕ) (flags : List Bool) → DoNamesDiffer program → All (λ k. k < length program) ks
    → mark_all program (reverse (names_of program ks)) flags ≡ marks flags ks
marked_names program ks flags differ within =
    ap (λ (ns : List Name). mark_all program ns flags) (names_reversed program ks)
    ∙ all_marked program (reverse ks) flags differ (All-reversed (λ k. k < length program) ks within) ∙ marks_reverse flags ks

-- ---- how many wait

pub one_less : (flags : List Bool) (k : ℕ) → has_begun flags k ≡ false → suc (waiting_count (set flags k true)) ≡ waiting_count flags
one_less [] k none = absurd (false≢true (sym none ∙ no_flag k))
one_less (true ∷ flags) zero none = absurd cc
one_less (false ∷ flags) zero none = refl
one_less (true ∷ flags) (suc k) none = one_less flags k none
one_less (false ∷ flags) (suc k) none = ap suc (one_less flags k none)

pub at_most : (flags : List Bool) → waiting_count flags ≤ length flags
at_most [] = omega arith
at_most (true ∷ flags) = let e = at_most flags in omega arith
at_most (false ∷ flags) = let e = at_most flags in omega arith

pub begun_within : (flags : List Bool) (k : ℕ) → has_begun flags k ≡ false → k < length flags
begun_within [] k none = absurd (false≢true (sym none ∙ no_flag k))
begun_within (flag ∷ flags) zero none = omega arith
begun_within (flag ∷ flags) (suc k) none = let e = begun_within flags k none in omega arith
