-- Ranks of classes, the nearest one that declares a member, and what a call takes, by plain values, each with something that it is not: the classes A, B and C, of which A is the superclass of the others.
use Rattle.std.proofs.Common.{◌≡◌, ℕ, zero, suc, ◌+◌, ◌-◌, ◌<◌, ◌≤◌, true, false, List, [], ◌∷◌, map, length, get_or, Option, Some, None, codes, refl, sym, ap, ◌∙◌, subst, arith}
use Rattle.std.specs.Cmp.Lexicographic.{bytes_decides}
use Rattle.std.proofs.lemmas.Bool.{false≢true, true≢false}
use Rattle.std.proofs.lemmas.Option.{none-some, same_Some}
use Rattle.dj_names.specs.trusted.Types.{Name, same_name}
use Rattle.dj_model.specs.trusted.Program.{Program, Method}
use Rattle.dj_model.specs.trusted.Linking.{most_classes, is_plain, FoundMethod}
use Rattle.dj_model.specs.SmallRuns.{class_with, method_with, code}
use Rattle.dj_class_table.specs.Tables.{super_number}
use Rattle.dj_class_table.specs.declared.place.Place.{Place}
use Rattle.dj_member_index.specs.declared.rows.MemberRow.{MemberRow}
use Rattle.dj_resolution.specs.declared.nearest.Near.{Near}
use Rattle.dj_resolution.specs.declared.ranked.Ranks.{Ranks}
use Rattle.dj_resolution.specs.Bits.{AreBits}
use Rattle.dj_resolution.specs.Called.{SaysOwn, SaysFirst, SaysUp}
use Rattle.dj_resolution.specs.Chained.{IsShort}
use Rattle.dj_resolution.specs.Nearest.{IsNear, HasNearest, IsNearest, nearer}
use Rattle.dj_resolution.specs.Numbers.{SaysMethod, first_some, has, lists_of, method_found, most_above, numbers_up}
use Rattle.dj_resolution.specs.Ranked.{rank_in, HasRow, IsRow, IsRanked, AreRanked, IsRowAbove, AreRanks, AreRanksOf}
use Rattle.dj_resolution.proofs.Bits.{bit_put, bits_more, bits_none}

-- ---- a program

abbrev method : ℕ → Name → Method
method flags name = method_with flags name [] None (code [] [])

-- A has a public method m, B a private n and m, and C a static m
abbrev program : Program
program =
    record (class_with (codes "A") [] (method 1 (codes "m") ∷ [])) { superclass = None }
    ∷ record (class_with (codes "B") [] (method 2 (codes "n") ∷ method 1 (codes "m") ∷ [])) { superclass = Some (codes "A") }
    ∷ record (class_with (codes "C") [] (method 9 (codes "m") ∷ [])) { superclass = Some (codes "A") }
    ∷ []

-- ---- ranks

-- A first, then C and then B
abbrev order : List ℕ
order = 0 ∷ 2 ∷ 1 ∷ []

abbrev ranks : List ℕ
ranks = 0 ∷ 2 ∷ 1 ∷ []

abbrev rows : List (List ℕ)
rows = (1 ∷ []) ∷ (5 ∷ []) ∷ (3 ∷ []) ∷ []

ranked_by : map (rank_in ranks) (0 ∷ 1 ∷ 2 ∷ 9 ∷ []) ≡ 0 ∷ 2 ∷ 1 ∷ 0 ∷ []
ranked_by = refl

not_by_order : rank_in ranks 1 ≡ 1 → ⊥
not_by_order e = absurd (omega (arith, e))

has_row : HasRow rows 1
has_row = omega arith

no_row : HasRow ((1 ∷ []) ∷ [] ∷ []) 1 → ⊥
no_row some = absurd (omega (arith, some))

no_class : HasRow rows 3 → ⊥
no_class some = absurd (omega (arith, some))

-- ---- bits of a class and its superclasses

bits_a : AreBits (0 ∷ []) (1 ∷ [])
bits_a = bits_more [] (0 ∷ []) (0 ∷ []) (1 ∷ []) 0 (bits_none (0 ∷ []) 1 refl) (λ z. bit_put (0 ∷ []) 0 z (omega arith)) refl

pub bits_b : AreBits (2 ∷ 0 ∷ []) (5 ∷ [])
bits_b =
    let own = bits_more [] (2 ∷ []) (0 ∷ []) (4 ∷ []) 2 (bits_none (0 ∷ []) 1 refl) (λ z. bit_put (0 ∷ []) 2 z (omega arith)) refl in
    bits_more (2 ∷ []) (2 ∷ 0 ∷ []) (4 ∷ []) (5 ∷ []) 0 own (λ z. bit_put (4 ∷ []) 0 z (omega arith)) refl

bits_c : AreBits (1 ∷ 0 ∷ []) (3 ∷ [])
bits_c =
    let own = bits_more [] (1 ∷ []) (0 ∷ []) (2 ∷ []) 1 (bits_none (0 ∷ []) 1 refl) (λ z. bit_put (0 ∷ []) 1 z (omega arith)) refl in
    bits_more (1 ∷ []) (1 ∷ 0 ∷ []) (2 ∷ []) (3 ∷ []) 0 own (λ z. bit_put (2 ∷ []) 0 z (omega arith)) refl

-- no more than three levels are above any of them
short : (class : ℕ) → class < 3 → IsShort program 3 class
unfolding numbers_up
short zero lt = record { same = λ n. subst (λ (k : ℕ). numbers_up k program (Some 0) ≡ numbers_up 3 program (Some 0)) (let e : suc (suc (suc n)) ≡ n + 3 = omega arith in e) refl }
short (suc zero) lt = record { same = λ n. subst (λ (k : ℕ). numbers_up k program (Some 1) ≡ numbers_up 3 program (Some 1)) (let e : suc (suc (suc n)) ≡ n + 3 = omega arith in e) refl }
short (suc (suc zero)) lt = record { same = λ n. subst (λ (k : ℕ). numbers_up k program (Some 2) ≡ numbers_up 3 program (Some 2)) (let e : suc (suc (suc n)) ≡ n + 3 = omega arith in e) refl }
short (suc (suc (suc k))) lt = absurd (omega (arith, lt))

row_a : IsRow program ranks rows 3 0
unfolding most_classes numbers_up
row_a = record { bits = bits_a; words = refl; short = short 0 (omega arith) }

row_b : IsRow program ranks rows 3 1
unfolding most_classes numbers_up
row_b = record { bits = bits_b; words = refl; short = short 1 (omega arith) }

row_c : IsRow program ranks rows 3 2
unfolding most_classes numbers_up
row_c = record { bits = bits_c; words = refl; short = short 2 (omega arith) }

-- the bit of its superclass may not be left out, nor one be there of a class beside
without_superclass : IsRow program ranks ((1 ∷ []) ∷ (4 ∷ []) ∷ (3 ∷ []) ∷ []) 3 1 → ⊥
unfolding most_classes numbers_up
without_superclass row = false≢true (row.bits 0)

with_another : IsRow program ranks ((1 ∷ []) ∷ (7 ∷ []) ∷ (3 ∷ []) ∷ []) 3 1 → ⊥
unfolding most_classes numbers_up
with_another row = true≢false (row.bits 1)

-- ---- a class at its rank

no_next : (class other : ℕ) → super_number program class ≡ None → super_number program class ≡ Some other → ⊥
no_next class other none some = none-some other (sym none ∙ some)

is_a : IsRanked program order ranks rows 3 0
is_a = record { row = row_a; placed = refl; bound = omega arith; next = λ other is. absurd (no_next 0 other refl is) }

is_b : IsRanked program order ranks rows 3 1
is_b = record { row = row_b; placed = refl; bound = omega arith; next = λ other is. subst (λ (k : ℕ). HasRow rows k × (rank_in ranks k < 2)) (same_Some 0 other is) (omega arith, omega arith) }

is_c : IsRanked program order ranks rows 3 2
is_c = record { row = row_c; placed = refl; bound = omega arith; next = λ other is. subst (λ (k : ℕ). HasRow rows k × (rank_in ranks k < 1)) (same_Some 0 other is) (omega arith, omega arith) }

-- the class of the rank is another one
at_other_rank : IsRanked program (0 ∷ 1 ∷ 2 ∷ []) ranks rows 3 1 → ⊥
at_other_rank is = let e : 2 ≡ 1 = is.placed in absurd (omega (arith, e))

-- the superclass has the higher rank
above_superclass : IsRanked program (1 ∷ 0 ∷ 2 ∷ []) (1 ∷ 0 ∷ 2 ∷ []) rows 3 1 → ⊥
above_superclass is = let lt : 1 < 0 = (is.next 0 refl).1 in absurd (omega (arith, lt))

ranked : AreRanked program order ranks rows 3
ranked = record { rows_count = refl; ranks_count = refl; each = each } where
  each : (class : ℕ) → HasRow rows class → IsRanked program order ranks rows 3 class
  each zero have = is_a
  each (suc zero) have = is_b
  each (suc (suc zero)) have = is_c
  each (suc (suc (suc k))) have = absurd (omega (arith, have))

rows_left_out : AreRanked program order ranks [] 3 → ⊥
rows_left_out are = let e : 0 ≡ 3 = are.rows_count in absurd (omega (arith, e))

ranks_left_out : AreRanked program order [] rows 3 → ⊥
ranks_left_out are = let e : 0 ≡ 3 = are.ranks_count in absurd (omega (arith, e))

-- bits for B, whose superclass has none
superclass_without : AreRanked program order ranks ([] ∷ (5 ∷ []) ∷ [] ∷ []) 3 → ⊥
superclass_without are = let some : 0 < 0 = ((are.each 1 (omega arith)).next 0 refl).0 in absurd (omega (arith, some))

-- ---- the bits of the superclasses of a class

row_above : IsRowAbove program ranks rows 1 2 (1 ∷ [])
unfolding most_above numbers_up
row_above = record {
  bits = bits_a;
  words = refl;
  short = short 1 (omega arith);
  next = λ other is. subst (λ (k : ℕ). HasRow rows k × (rank_in ranks k < 2)) (same_Some 0 other is) (omega arith, omega arith);
}

-- that of the class itself isn't among them yet
own_bit : IsRowAbove program ranks rows 1 2 (5 ∷ []) → ⊥
unfolding most_above numbers_up
own_bit row = true≢false (row.bits 2)

below_superclass : IsRowAbove program ranks rows 1 0 (1 ∷ []) → ⊥
below_superclass row = let lt : 0 < 0 = (row.next 0 refl).1 in absurd (omega (arith, lt))

-- ---- ranks as they are kept

are_ranks : AreRanks program order ranks rows
are_ranks = record { levels = 3; few = omega arith; ranked = ranked }

no_ranks : AreRanks program order ranks [] → ⊥
no_ranks are = let e : 0 ≡ 3 = are.ranked.rows_count in absurd (omega (arith, e))

ranks_of : (kept : Ranks) → kept.classes.items ≡ order → kept.ranks.items ≡ ranks → lists_of kept.rows.items ≡ rows → AreRanksOf program kept
ranks_of kept order_is ranks_is rows_are =
    subst (λ (o : List ℕ). AreRanks program o kept.ranks.items (lists_of kept.rows.items)) (sym order_is)
    (subst (λ (r : List ℕ). AreRanks program order r (lists_of kept.rows.items)) (sym ranks_is) (subst (AreRanks program order ranks) (sym rows_are) are_ranks))

no_ranks_of : (kept : Ranks) → lists_of kept.rows.items ≡ [] → AreRanksOf program kept → ⊥
no_ranks_of kept rows_are are = let e : 0 ≡ 3 = sym (ap length rows_are) ∙ are.ranked.rows_count in absurd (omega (arith, e))

-- ---- the nearest of some classes

abbrev row : ℕ → ℕ → MemberRow
row class place = record { name = 7; desc = 8; class = class; place = place }

abbrev near : ℕ → ℕ → ℕ → Near
near class rank member = record { class = class; rank = rank; member = member }

abbrev members : List MemberRow
members = row 0 0 ∷ row 1 1 ∷ row 2 0 ∷ []

-- B and A are above, and C isn't
abbrev above : List ℕ
above = 1 ∷ 0 ∷ []

is_near : IsNear above ranks (row 1 1) (Some (near 1 2 1)) × IsNear above ranks (row 2 0) None
is_near = ((refl, (refl, refl, refl)), refl)

not_above : IsNear above ranks (row 2 0) (Some (near 2 1 0)) → ⊥
not_above is = false≢true is.0

none_of_above : IsNear above ranks (row 1 1) None → ⊥
none_of_above e = true≢false e

class_as_rank : IsNear above ranks (row 1 1) (Some (near 1 1 1)) → ⊥
class_as_rank is = let e : 1 ≡ 2 = is.1.1 in absurd (omega (arith, e))

nearest_is_b : IsNearest above ranks members 3 (Some (near 1 2 1))
nearest_is_b = record { at = 1; row = row 1 1; before = omega arith; row_is = refl; class_is = refl; member_is = refl; among = refl; rank_is = refl; highest = highest } where
  highest : (k : ℕ) (other : MemberRow) → k < 3 → get_or members k other ≡ other → has above other.class ≡ true → rank_in ranks other.class ≤ 2
  highest zero other lt is there = subst (λ (r : MemberRow). rank_in ranks r.class ≤ 2) is (omega arith)
  highest (suc zero) other lt is there = subst (λ (r : MemberRow). rank_in ranks r.class ≤ 2) is (omega arith)
  highest (suc (suc zero)) other lt is there = subst (λ (r : MemberRow). rank_in ranks r.class ≤ 2) is (omega arith)
  highest (suc (suc (suc k))) other lt is there = absurd (omega (arith, lt))

-- neither A, which is above B, nor C, which isn't above the class, nor none
not_a : HasNearest above ranks members 3 (near 0 0 0) → ⊥
not_a nearest = let le : 2 ≤ 0 = nearest.highest 1 (row 1 1) (omega arith) refl refl in absurd (omega (arith, le))

not_c : HasNearest above ranks members 3 (near 2 1 0) → ⊥
not_c nearest = false≢true nearest.among

not_none : IsNearest above ranks members 3 None → ⊥
not_none none = true≢false (none 1 (row 1 1) (omega arith) refl)

-- of the first row alone A is
nearest_is_a : IsNearest above ranks members 1 (Some (near 0 0 0))
nearest_is_a = record { at = 0; row = row 0 0; before = omega arith; row_is = refl; class_is = refl; member_is = refl; among = refl; rank_is = refl; highest = highest } where
  highest : (k : ℕ) (other : MemberRow) → k < 1 → get_or members k other ≡ other → has above other.class ≡ true → rank_in ranks other.class ≤ 0
  highest zero other lt is there = subst (λ (r : MemberRow). rank_in ranks r.class ≤ 0) is (omega arith)
  highest (suc k) other lt is there = absurd (omega (arith, lt))

nearers : nearer (Some (near 0 0 0)) (Some (near 1 2 1)) ∷ nearer (Some (near 1 2 1)) (Some (near 0 0 0)) ∷ nearer None (Some (near 0 0 0)) ∷ nearer (Some (near 0 0 0)) None ∷ nearer None None ∷ []
    ≡ Some (near 1 2 1) ∷ Some (near 1 2 1) ∷ Some (near 0 0 0) ∷ Some (near 0 0 0) ∷ None ∷ []
nearers = refl

not_lower : nearer (Some (near 0 0 0)) (Some (near 1 2 1)) ≡ Some (near 0 0 0) → ⊥
not_lower e = let rank : 2 ≡ 0 = ap (λ (n : Near). n.rank) (same_Some (near 1 2 1) (near 0 0 0) e) in absurd (omega (arith, rank))

-- ---- what a call takes

abbrev place : ℕ → ℕ → Place
place class member = record { class = class; member = member }

abbrev found : Name → FoundMethod
found class = record { class = class; method = method 1 (codes "m") }

other_name : (a b : Name) → same_name a b ≡ false → a ≡ b → ⊥
other_name a b differ e = false≢true (sym differ ∙ (bytes_decides a b).1 e)

not_the_same : Some (Some (found (codes "A"))) ≡ Some (Some (found (codes "B"))) → ⊥
not_the_same e =
    let same = same_Some (found (codes "A")) (found (codes "B")) (same_Some (Some (found (codes "A"))) (Some (found (codes "B"))) e) in
    other_name (codes "A") (codes "B") refl (ap (λ (f : FoundMethod). f.class) same)

abbrev Own : ℕ → Option Place → FoundMethod → Type 0
Own class reported f = SaysMethod program reported (method_found program is_plain f.method.name f.method.desc class)

-- like m of B is that of A, and that of C is static
own_of_a : SaysOwn program is_plain (place 1 1) 0 (Some (place 0 0))
own_of_a f at = subst (Own 0 (Some (place 0 0))) (same_Some (found (codes "B")) f at) refl

own_of_c : SaysOwn program is_plain (place 1 1) 2 None
own_of_c f at = subst (Own 2 None) (same_Some (found (codes "B")) f at) refl

not_own_of_c : SaysOwn program is_plain (place 1 1) 2 (Some (place 2 0)) → ⊥
not_own_of_c own = none-some (Some (record { class = codes "C"; method = method 9 (codes "m") })) (sym (own (found (codes "B")) refl))

none_of_a : SaysOwn program is_plain (place 1 1) 0 None → ⊥
none_of_a own = none-some (Some (found (codes "A"))) (own (found (codes "B")) refl)

abbrev First : ℕ → Option ℕ → Option Place → FoundMethod → Type 0
First levels class reported f = SaysMethod program reported (first_some (method_found program is_plain f.method.name f.method.desc) (numbers_up levels program class))

-- of B it is its own, of C that of A, which is a level more, and of no class none
first_of_b : SaysFirst program is_plain (place 0 0) 1 (Some 1) (Some (place 1 1))
unfolding numbers_up
first_of_b f at = subst (First 1 (Some 1) (Some (place 1 1))) (same_Some (found (codes "A")) f at) refl

first_of_c : SaysFirst program is_plain (place 0 0) 2 (Some 2) (Some (place 0 0))
unfolding numbers_up
first_of_c f at = subst (First 2 (Some 2) (Some (place 0 0))) (same_Some (found (codes "A")) f at) refl

one_level : SaysFirst program is_plain (place 0 0) 1 (Some 2) None
unfolding numbers_up
one_level f at = subst (First 1 (Some 2) None) (same_Some (found (codes "A")) f at) refl

first_of_none : SaysFirst program is_plain (place 0 0) 2 None None
unfolding numbers_up
first_of_none f at = subst (First 2 None None) (same_Some (found (codes "A")) f at) refl

passed_over : SaysFirst program is_plain (place 0 0) 2 (Some 1) (Some (place 0 0)) → ⊥
unfolding numbers_up
passed_over first = not_the_same (first (found (codes "A")) refl)

none_of_c : SaysFirst program is_plain (place 0 0) 2 (Some 2) None → ⊥
unfolding numbers_up
none_of_c first = none-some (Some (found (codes "A"))) (first (found (codes "A")) refl)

-- however many levels are looked at
up_of_c : SaysUp program is_plain (place 0 0) 2 (Some (place 0 0))
unfolding most_above numbers_up
up_of_c levels many f at =
    let two : suc (suc (levels - 2)) ≡ levels = omega (arith, many) in
    subst (λ (n : ℕ). First n (Some 2) (Some (place 0 0)) f) two (subst (First (suc (suc (levels - 2))) (Some 2) (Some (place 0 0))) (same_Some (found (codes "A")) f at) refl)

superclass_of_b : SaysUp program is_plain (place 0 0) 1 (Some (place 0 0)) → ⊥
unfolding most_above numbers_up
superclass_of_b up = not_the_same (up most_above (omega arith) (found (codes "A")) refl)

none_up : SaysUp program is_plain (place 0 0) 2 None → ⊥
unfolding most_above numbers_up
none_up up = none-some (Some (found (codes "A"))) (up most_above (omega arith) (found (codes "A")) refl)
