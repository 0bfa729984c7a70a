-- Lists of what stands above classes, marks, bits and searches, by plain values: A, B below it, C below B; I, which lists J, and A lists I and B lists J.
use Rattle.std.proofs.Common.{◌≡◌, ℕ, zero, suc, ◌<◌, Bool, true, false, List, [], ◌∷◌, map, length, codes, refl, sym, ap, arith, Option, Some, None}
use Rattle.std.specs.Prelude.{get_or, slice_get, nat_eq, if◌then◌else◌}
use Rattle.std.proofs.lemmas.Bool.{false≢true, true≢false}
use Rattle.std.proofs.lemmas.Bool.Decides.{nat_tests}
use Rattle.std.proofs.lemmas.Option.{none-some, same_Some}
use Rattle.dj_names.specs.declared.descriptor.Desc.TheVariants as described_as
use Rattle.dj_names.specs.trusted.Types.{Name}
use Rattle.dj_names.specs.trusted.Library.{int}
use Rattle.dj_model.specs.trusted.Program.{Program, Class, Field, Method}
use Rattle.dj_model.specs.trusted.Linking.{most_classes, any_method, FoundMethod, FoundField}
use Rattle.dj_model.specs.SmallRuns.{class_with, field_with, method_with, code}
use Rattle.dj_class_table.specs.declared.place.Place.{Place}
use Rattle.dj_resolution.specs.Bits.{in_bits, AreBits, words_for, HaveBits, HaveRows}
use Rattle.dj_resolution.specs.Chained.{AreRows, has_field, field_row, once_up, known_count, AreChained, row_at}
use Rattle.dj_resolution.specs.Marked.{is_plain_at, IsCovered}
use Rattle.dj_resolution.specs.Numbers.{has, with_new, first_places, numbers_from, numbers_above, once_above, numbers_up, with_above, AreAbove, marked_count, AreBelow, first_some, method_found, field_found, SaysMethod, SaysField, AreInside, IsNamed}

-- ---- a program

abbrev runs : Name → Method
runs name = method_with 1 name [] None (code [] [])

abbrev x_field : Field
x_field = field_with 1 (codes "x") int None

abbrev class : Name → Option Name → List Name → List Field → List Method → Class
class name superclass interfaces fields methods = record (class_with name fields methods) { superclass = superclass; interfaces = interfaces }

abbrev program : Program
program =
    class (codes "A") None (codes "I" ∷ []) (x_field ∷ []) (runs (codes "m") ∷ [])
    ∷ class (codes "B") (Some (codes "A")) (codes "J" ∷ []) [] (runs (codes "n") ∷ [])
    ∷ class (codes "C") (Some (codes "B")) (codes "J" ∷ codes "I" ∷ codes "J" ∷ []) [] []
    ∷ class (codes "I") None (codes "J" ∷ []) (x_field ∷ []) []
    ∷ class (codes "J") None [] [] []
    ∷ []

-- ---- numbers, each once

there : has (1 ∷ 2 ∷ []) 2 ∷ has (1 ∷ 2 ∷ []) 3 ∷ has [] 0 ∷ [] ≡ true ∷ false ∷ false ∷ []
there = refl

one_more : (with_new (1 ∷ 2 ∷ []) 3 ≡ 1 ∷ 2 ∷ 3 ∷ []) × (with_new (1 ∷ 2 ∷ []) 1 ≡ 1 ∷ 2 ∷ [])
one_more = (refl, refl)

-- where each comes first
once : first_places (3 ∷ 1 ∷ 3 ∷ 2 ∷ 1 ∷ []) ≡ 3 ∷ 1 ∷ 2 ∷ []
once = refl

abbrev first_of : List ℕ → ℕ
first_of [] = 9
first_of (x ∷ xs) = x

not_last_place : first_places (3 ∷ 1 ∷ 3 ∷ []) ≡ 1 ∷ 3 ∷ [] → ⊥
not_last_place e = let bad : 3 ≡ 1 = ap first_of e in omega (arith, bad)

-- ---- what stands above

-- each interface before those above it
above : map (numbers_above program) (0 ∷ 1 ∷ 2 ∷ 3 ∷ 4 ∷ 9 ∷ []) ≡ (3 ∷ 4 ∷ []) ∷ (4 ∷ []) ∷ (4 ∷ 3 ∷ 4 ∷ 4 ∷ []) ∷ (4 ∷ []) ∷ [] ∷ [] ∷ []
unfolding most_classes numbers_from numbers_above
above = refl

above_once : map (once_above program) (0 ∷ 2 ∷ []) ≡ (3 ∷ 4 ∷ []) ∷ (4 ∷ 3 ∷ []) ∷ []
unfolding most_classes numbers_from numbers_above
above_once = refl

-- no more levels than are asked for
levels : map (λ (n : ℕ). numbers_from n program (3 ∷ [])) (0 ∷ 1 ∷ 2 ∷ []) ≡ [] ∷ (3 ∷ []) ∷ (3 ∷ 4 ∷ []) ∷ []
unfolding numbers_from
levels = refl

upward : map (λ (n : ℕ). numbers_up n program (Some 2)) (0 ∷ 1 ∷ 2 ∷ 3 ∷ 4 ∷ []) ≡ [] ∷ (2 ∷ []) ∷ (2 ∷ 1 ∷ []) ∷ (2 ∷ 1 ∷ 0 ∷ []) ∷ (2 ∷ 1 ∷ 0 ∷ []) ∷ []
unfolding numbers_up
upward = refl

abbrev lists : List (List ℕ)
lists = (3 ∷ 4 ∷ []) ∷ (4 ∷ []) ∷ (4 ∷ 3 ∷ []) ∷ (4 ∷ []) ∷ [] ∷ []

lists_above : AreAbove program lists
unfolding most_classes numbers_from numbers_above
lists_above = record { count = refl; each = each } where
  each : (k : ℕ) → k < 5 → get_or lists k [] ≡ once_above program k
  each zero lt = refl
  each (suc zero) lt = refl
  each (suc (suc zero)) lt = refl
  each (suc (suc (suc zero))) lt = refl
  each (suc (suc (suc (suc zero)))) lt = refl
  each (suc (suc (suc (suc (suc k))))) lt = absurd (omega (arith, lt))

one_left_out : AreAbove program ((3 ∷ 4 ∷ []) ∷ (4 ∷ []) ∷ (4 ∷ []) ∷ (4 ∷ []) ∷ [] ∷ []) → ⊥
unfolding most_classes numbers_from numbers_above
one_left_out are = let e : 1 ≡ 2 = ap length (are.each 2 (omega arith)) in omega (arith, e)

list_left_out : AreAbove program [] → ⊥
list_left_out are = let e : 0 ≡ 5 = are.count in omega (arith, e)

-- with those above it, unless it is there
more_above : map (with_above lists (2 ∷ [])) (0 ∷ 2 ∷ 4 ∷ []) ≡ (2 ∷ 0 ∷ 3 ∷ 4 ∷ []) ∷ (2 ∷ []) ∷ (2 ∷ 4 ∷ []) ∷ []
more_above = refl

marks : marked_count [] ∷ marked_count (true ∷ false ∷ true ∷ []) ∷ [] ≡ 0 ∷ 2 ∷ []
marks = refl

-- ---- rows of a class and its superclasses

declare : map (has_field program) (0 ∷ 1 ∷ 3 ∷ 9 ∷ []) ≡ true ∷ false ∷ true ∷ false ∷ []
declare = refl

-- the class itself first, and none that declares no field
field_rows : map (field_row program) (0 ∷ 1 ∷ 2 ∷ 3 ∷ []) ≡ (0 ∷ 3 ∷ []) ∷ [] ∷ (3 ∷ []) ∷ (3 ∷ []) ∷ []
unfolding most_classes numbers_from numbers_above
field_rows = refl

chained : map (once_up program (once_above program)) (0 ∷ 1 ∷ 2 ∷ []) ≡ (3 ∷ 4 ∷ []) ∷ (4 ∷ 3 ∷ []) ∷ (4 ∷ 3 ∷ []) ∷ []
unfolding most_classes numbers_from numbers_above numbers_up
chained = refl

fields_chained : map (once_up program (field_row program)) (0 ∷ 1 ∷ 2 ∷ 4 ∷ []) ≡ (0 ∷ 3 ∷ []) ∷ (0 ∷ 3 ∷ []) ∷ (3 ∷ 0 ∷ []) ∷ [] ∷ []
unfolding most_classes numbers_from numbers_above numbers_up
fields_chained = refl

rows : AreRows (class (codes "J") None [] [] [] ∷ []) (λ (k : ℕ). k ∷ []) ((0 ∷ []) ∷ [])
rows = record { count = refl; each = each } where
  each : (k : ℕ) → k < 1 → get_or ((0 ∷ []) ∷ []) k [] ≡ k ∷ []
  each zero lt = refl
  each (suc k) lt = absurd (omega (arith, lt))

other_row : AreRows (class (codes "J") None [] [] [] ∷ []) (λ (k : ℕ). k ∷ []) ([] ∷ []) → ⊥
other_row are = let e : 0 ≡ 1 = ap length (are.each 0 (omega arith)) in omega (arith, e)

row_left_out : AreRows (class (codes "J") None [] [] [] ∷ []) (λ (k : ℕ). k ∷ []) [] → ⊥
row_left_out are = let e : 0 ≡ 1 = are.count in omega (arith, e)

known : known_count [] ∷ known_count (None ∷ Some 3 ∷ Some 3 ∷ []) ∷ row_at ((1 ∷ 2 ∷ []) ∷ []) 0 ≡ 0 ∷ 2 ∷ 1 ∷ 2 ∷ []
known = refl

-- B and C share a list, and the last two have none
abbrev places : List (Option ℕ)
places = Some 1 ∷ Some 0 ∷ Some 0 ∷ None ∷ None ∷ []

lists_chained : AreChained program (once_above program) ((4 ∷ 3 ∷ []) ∷ (3 ∷ 4 ∷ []) ∷ []) places
unfolding most_classes numbers_from numbers_above numbers_up
lists_chained = record { count = refl; each = each } where
  each : (k place : ℕ) → get_or places k None ≡ Some place → slice_get ((4 ∷ 3 ∷ []) ∷ (3 ∷ 4 ∷ []) ∷ []) place ≡ Some (once_up program (once_above program) k)
  each zero place e = ap (slice_get ((4 ∷ 3 ∷ []) ∷ (3 ∷ 4 ∷ []) ∷ [])) (sym (same_Some 1 place e))
  each (suc zero) place e = ap (slice_get ((4 ∷ 3 ∷ []) ∷ (3 ∷ 4 ∷ []) ∷ [])) (sym (same_Some 0 place e))
  each (suc (suc zero)) place e = ap (slice_get ((4 ∷ 3 ∷ []) ∷ (3 ∷ 4 ∷ []) ∷ [])) (sym (same_Some 0 place e))
  each (suc (suc (suc zero))) place e = absurd (none-some place e)
  each (suc (suc (suc (suc zero)))) place e = absurd (none-some place e)
  each (suc (suc (suc (suc (suc k))))) place e = absurd (none-some place e)

own_alone : AreChained program (once_above program) ((4 ∷ []) ∷ (3 ∷ 4 ∷ []) ∷ []) places → ⊥
unfolding most_classes numbers_from numbers_above numbers_up
own_alone are =
    let e : 4 ∷ [] ≡ 4 ∷ 3 ∷ [] = same_Some (4 ∷ []) (4 ∷ 3 ∷ []) (are.each 1 0 refl) in
    let count : 1 ≡ 2 = ap length e in
    omega (arith, count)

past_lists : AreChained program (once_above program) [] places → ⊥
past_lists are = none-some (once_up program (once_above program) 0) (are.each 0 1 refl)

place_left_out : AreChained program (once_above program) [] [] → ⊥
place_left_out are = let e : 0 ≡ 5 = are.count in omega (arith, e)

-- ---- bits

-- of 5 the numbers 0 and 2, and the first of the second word
bits : map (in_bits (5 ∷ 1 ∷ [])) (0 ∷ 1 ∷ 2 ∷ 63 ∷ 64 ∷ 65 ∷ 128 ∷ []) ≡ true ∷ false ∷ true ∷ false ∷ true ∷ false ∷ false ∷ []
bits = refl

bit_left_out : AreBits (0 ∷ 64 ∷ []) (1 ∷ []) → ⊥
bit_left_out are = false≢true (are 64)

bit_too_many : AreBits (0 ∷ []) (5 ∷ []) → ⊥
bit_too_many are = true≢false (are 2)

words : map words_for (0 ∷ 63 ∷ 64 ∷ 128 ∷ []) ≡ 1 ∷ 1 ∷ 2 ∷ 3 ∷ []
words = refl

rows_left_out : HaveBits ([] ∷ []) [] (false ∷ []) → ⊥
rows_left_out have = let e : 0 ≡ 1 = have.rows_count in omega (arith, e)

words_left_out : HaveBits ([] ∷ []) ([] ∷ []) (true ∷ []) → ⊥
words_left_out have = let e : 0 ≡ 1 = have.words 0 refl in omega (arith, e)

bits_of_other : HaveBits ((0 ∷ []) ∷ []) ((0 ∷ []) ∷ []) (true ∷ []) → ⊥
bits_of_other have = false≢true (have.each 0 refl 0)

abbrev one_list : List (List ℕ)
one_list = (0 ∷ []) ∷ []

abbrev bare_rows : List (List ℕ)
bare_rows = [] ∷ []

-- a list without a row
no_row : HaveRows one_list bare_rows
no_row = record { each = each } where
  each : (k : ℕ) → k < length one_list → 0 < length (get_or bare_rows k []) → AreBits (get_or one_list k []) (get_or bare_rows k [])
  each zero lt some = absurd (omega (arith, some))
  each (suc k) lt some = absurd (omega (arith, lt))

row_of_other : HaveRows one_list one_list → ⊥
row_of_other have = false≢true (have.each 0 (omega arith) (omega arith) 0)

-- ---- bounds

below : AreBelow 0 [] × AreBelow 3 (2 ∷ [])
below = (λ z e. absurd (false≢true e), λ z e. by z (nat_eq 2 z) refl e) where
  by : (z : ℕ) (b : Bool) → nat_eq 2 z ≡ b → (if b then true else false) ≡ true → z < 3
  by z true is e = grind (arith, nat_tests)
  by z false is e = absurd (false≢true e)

not_below : AreBelow 2 (0 ∷ 2 ∷ []) → ⊥
not_below are = let lt : 2 < 2 = are 2 refl in omega (arith, lt)

too_few_inside : AreInside 2 ([] ∷ []) → ⊥
too_few_inside are = let e : 1 ≡ 2 = are.count in omega (arith, e)

outside : AreInside 1 ((1 ∷ []) ∷ []) → ⊥
outside are = let lt : 1 < 1 = are.each 0 1 refl in omega (arith, lt)

-- ---- searches

abbrev seven_and_eight : List ℕ
seven_and_eight = 7 ∷ 8 ∷ []

abbrev item : ℕ → Option ℕ
item k = slice_get seven_and_eight k

-- the first for which something is found
first_found : first_some item (5 ∷ 1 ∷ 0 ∷ []) ≡ Some 8
first_found = refl

none_found : first_some item (5 ∷ 2 ∷ []) ≡ None
none_found = refl

abbrev place : ℕ → ℕ → Place
place class member = record { class = class; member = member }

abbrev found_m : FoundMethod
found_m = record { class = codes "A"; method = runs (codes "m") }

abbrev found_x : FoundField
found_x = record { class = codes "A"; field = x_field }

-- in the class itself alone, and where the test is passed
methods_found : map (method_found program any_method (codes "m") (described_as.Method [] None)) (0 ∷ 1 ∷ 9 ∷ []) ≡ Some found_m ∷ None ∷ None ∷ []
methods_found = refl

none_passes : method_found program (λ (m : Method). false) (codes "m") (described_as.Method [] None) 0 ≡ None
none_passes = refl

fields_found : map (field_found program (codes "x") (described_as.Field int)) (0 ∷ 1 ∷ 9 ∷ []) ≡ Some found_x ∷ None ∷ None ∷ []
fields_found = refl

reported : SaysMethod program (Some (place 0 0)) (Some found_m) × SaysMethod program None None × SaysField program (Some (place 0 0)) (Some found_x)
reported = (refl, refl, refl)

not_reported : SaysMethod program None (Some found_m) → ⊥
not_reported e = none-some (Some found_m) e

reported_of_none : SaysMethod program (Some (place 0 0)) None → ⊥
reported_of_none e = none-some (Some found_m) (sym e)

field_past_end : SaysField program (Some (place 1 0)) (Some found_x) → ⊥
field_past_end e = none-some found_x (same_Some None (Some found_x) e)

-- one that isn't there is not plain
plain : map (is_plain_at program 0) (0 ∷ 1 ∷ []) ≡ true ∷ false ∷ []
plain = refl

-- the item 1 is there, and its bit isn't set
one_not_covered : IsCovered item 2 (1 ∷ []) → ⊥
one_not_covered covered = none-some 8 (sym (covered 1 (omega arith) refl))

covered_by_two : IsCovered item 2 (3 ∷ [])
covered_by_two zero lt unset = absurd (false≢true (sym unset))
covered_by_two (suc zero) lt unset = absurd (false≢true (sym unset))
covered_by_two (suc (suc k)) lt unset = absurd (omega (arith, lt))

named : IsNamed program (place 0 0) found_m (codes "m") (described_as.Method [] None)
named = record { there = refl; named = refl; described = refl }

named_elsewhere : (name : Name) → IsNamed program (place 1 1) found_m name (described_as.Method [] None) → ⊥
named_elsewhere name is = none-some found_m is.there
