-- What marks say, by plain values.
use Rattle.std.proofs.Common.{◌≡◌, ℕ, zero, suc, ◌<◌, List, [], ◌∷◌, ◌||◌, ◌≤◌, Bool, true, Option, Some, None, get_or, nat_eq, refl, sym, ap, ◌∙◌, subst, arith, inl, inr, if◌then◌else◌}
use Rattle.std.specs.Prelude.{is_some}
use Rattle.std.proofs.lemmas.Bool.{false≢true}
use Rattle.dj_member_index.specs.declared.rows.MemberRow.{MemberRow}
use Rattle.dj_resolution.specs.Bits.{IsHighest, in_bits}
use Rattle.dj_resolution.specs.Marked.{AddsMarks, AreMarks, IsCovered}
use Rattle.dj_resolution.specs.Nearest.{IsNearestMarked}
use Rattle.dj_resolution.specs.Numbers.{has}
use Rattle.dj_resolution.specs.Ranked.{rank_in}
use Rattle.dj_resolution.specs.Shared.{AreRankMarks, IsOfRank}
use Rattle.dj_resolution.proofs.Lists.{has_cases}
use Rattle.dj_resolution.proofs.RankedFacts.{bits_b}

-- ---- marks of classes

-- a member that the classes 1 and 3 declare
abbrev found : ℕ → Option ℕ
found k = if nat_eq k 1 || nat_eq k 3 then Some k else None

both_marked : AreMarks found 4 (10 ∷ [])
both_marked zero lt = refl
both_marked (suc zero) lt = refl
both_marked (suc (suc zero)) lt = refl
both_marked (suc (suc (suc zero))) lt = refl
both_marked (suc (suc (suc (suc k)))) lt = absurd (omega (arith, lt))

-- neither may all classes be marked, nor one too few
all_marked : AreMarks found 4 (15 ∷ []) → ⊥
all_marked are = false≢true (sym (are 0 (omega arith)))

one_missing : AreMarks found 4 (2 ∷ []) → ⊥
one_missing are = false≢true (are 3 (omega arith))

-- that is more than that nothing is found where no bit is set
covered_by_more : IsCovered found 4 (15 ∷ [])
covered_by_more zero lt unset = refl
covered_by_more (suc zero) lt unset = absurd (false≢true (sym unset))
covered_by_more (suc (suc zero)) lt unset = refl
covered_by_more (suc (suc (suc zero))) lt unset = absurd (false≢true (sym unset))
covered_by_more (suc (suc (suc (suc k)))) lt unset = absurd (omega (arith, lt))

-- ---- marks of rows

abbrev row : ℕ → ℕ → MemberRow
row class place = record { name = 0; desc = 1; class = class; place = place }

abbrev rows : List MemberRow
rows = row 1 0 ∷ row 2 7 ∷ row 3 0 ∷ []

-- of these, the rows at place 0
abbrev test : MemberRow → Bool
test one = nat_eq one.place 0

abbrev class_of : MemberRow → ℕ
class_of one = one.class

-- a row that passes the test isn't marked
row_left_out : AddsMarks test class_of rows [] (2 ∷ []) → ⊥
row_left_out adds = false≢true (adds.marked (row 3 0) (2, omega arith, refl) refl)

-- a bit that was set is lost
bit_lost : AddsMarks test class_of rows (1 ∷ []) (10 ∷ []) → ⊥
bit_lost adds = false≢true (adds.kept 0 refl)

-- the bit is neither an old one nor that of a row that passes the test
of_no_row : (found_row : MemberRow) (at : ℕ) → at < 3 → get_or rows at found_row ≡ found_row → test found_row ≡ true → found_row.class ≡ 2 → ⊥
of_no_row found_row zero lt is passes same = let class = ap class_of is ∙ same in absurd (omega (arith, class))
of_no_row found_row (suc zero) lt is passes same = false≢true (ap test is ∙ passes)
of_no_row found_row (suc (suc zero)) lt is passes same = let class = ap class_of is ∙ same in absurd (omega (arith, class))
of_no_row found_row (suc (suc (suc k))) lt is passes same = absurd (omega (arith, lt))

bit_of_no_row : AddsMarks test class_of rows [] (14 ∷ []) → ⊥
bit_of_no_row adds = elim (adds.only 2 refl) [ inl before ↦ false≢true before | inr one ↦ of_no_row one.row one.within.0 one.within.1 one.within.2 one.passes one.number_is ]

-- ---- marks of ranks

abbrev ranks : List ℕ
ranks = 3 ∷ 2 ∷ 1 ∷ 0 ∷ []

abbrev declared : ℕ → Bool
declared k = is_some (found k)

-- the classes 1 and 3 have the ranks 2 and 0
by_ranks : AreRankMarks declared ranks 4 (5 ∷ [])
by_ranks = record { marked = marked; only = λ rank set. of_rank rank (sym (bits_b rank) ∙ set) } where
  marked : (k : ℕ) → k < 4 → rank_in ranks k < 4 → declared k ≡ true → in_bits (5 ∷ []) (rank_in ranks k) ≡ true
  marked zero lt low own = absurd (false≢true own)
  marked (suc zero) lt low own = refl
  marked (suc (suc zero)) lt low own = absurd (false≢true own)
  marked (suc (suc (suc zero))) lt low own = refl
  marked (suc (suc (suc (suc k)))) lt low own = absurd (omega (arith, lt))

  of_rank : (rank : ℕ) → has (2 ∷ 0 ∷ []) rank ≡ true → IsOfRank declared ranks 4 rank
  of_rank rank there = elim (has_cases (0 ∷ []) 2 rank there) [
    | inl second ↦ subst (IsOfRank declared ranks 4) second (record { class = 1; there = omega arith; rank_is = refl; declared = refl })
    | inr rest ↦ elim (has_cases [] 0 rank rest) [
      | inl first ↦ subst (IsOfRank declared ranks 4) first (record { class = 3; there = omega arith; rank_is = refl; declared = refl })
      | inr none ↦ absurd (false≢true none)
    ]
  ]

-- the marks by numbers aren't those by ranks, nor are the first ones alone, nor all
not_by_numbers : AreRankMarks declared ranks 4 (10 ∷ []) → ⊥
not_by_numbers are = false≢true (are.marked 1 (omega arith) (omega arith) refl)

first_alone : AreRankMarks declared ranks 4 (4 ∷ []) → ⊥
first_alone are = false≢true (are.marked 3 (omega arith) (omega arith) refl)

of_other_rank : (class : ℕ) → class < 4 → rank_in ranks class ≡ 1 → declared class ≡ true → ⊥
of_other_rank zero lt rank own = false≢true own
of_other_rank (suc zero) lt rank own = absurd (omega (arith, rank))
of_other_rank (suc (suc zero)) lt rank own = false≢true own
of_other_rank (suc (suc (suc zero))) lt rank own = absurd (omega (arith, rank))
of_other_rank (suc (suc (suc (suc k)))) lt rank own = absurd (omega (arith, lt))

all_ranks_marked : AreRankMarks declared ranks 4 (15 ∷ []) → ⊥
all_ranks_marked are = let one = are.only 1 refl in of_other_rank one.class one.there one.rank_is one.declared

-- ---- the nearest class

-- of the classes 2, 1 and 0, each above the one before it, two are marked
highest : (class : ℕ) → in_bits (3 ∷ []) (rank_in (0 ∷ 1 ∷ 2 ∷ []) class) ≡ true → rank_in (0 ∷ 1 ∷ 2 ∷ []) class ≤ 1
highest zero set = omega arith
highest (suc zero) set = omega arith
highest (suc (suc zero)) set = absurd (false≢true set)
highest (suc (suc (suc k))) set = omega arith

nearest : IsNearestMarked (2 ∷ 1 ∷ 0 ∷ []) (0 ∷ 1 ∷ 2 ∷ []) (3 ∷ []) (Some 1)
nearest = record { among = refl; marked = refl; highest = λ class there set. highest class set }

not_farther : IsNearestMarked (2 ∷ 1 ∷ 0 ∷ []) (0 ∷ 1 ∷ 2 ∷ []) (3 ∷ []) (Some 0) → ⊥
not_farther is = let le = is.highest 1 refl refl in omega (arith, le)

not_unmarked : IsNearestMarked (2 ∷ 1 ∷ 0 ∷ []) (0 ∷ 1 ∷ 2 ∷ []) (3 ∷ []) (Some 2) → ⊥
not_unmarked is = false≢true is.marked

not_none : IsNearestMarked (2 ∷ 1 ∷ 0 ∷ []) (0 ∷ 1 ∷ 2 ∷ []) (3 ∷ []) None → ⊥
not_none is = false≢true (sym (is 1 refl))

-- ---- the highest number of both

not_the_lowest : IsHighest (5 ∷ []) (5 ∷ []) (Some 0) → ⊥
not_the_lowest is = let le = is.highest 2 refl in omega (arith, le)

not_of_one_alone : IsHighest (5 ∷ []) (1 ∷ []) (Some 2) → ⊥
not_of_one_alone is = false≢true is.own

some_common : IsHighest (5 ∷ []) (4 ∷ []) None → ⊥
some_common is = false≢true (sym (is 2))
