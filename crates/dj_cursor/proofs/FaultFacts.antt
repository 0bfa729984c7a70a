-- Faults at plain values, and where there is none.
use Rattle.std.proofs.Common.{◌≡◌, ℕ, ◌<◌, [], ◌∷◌, refl, arith}
use Rattle.dj_cursor.specs.trusted.Spelling.{u1}
use Rattle.dj_cursor.specs.Reading.{Cursor}
use Rattle.dj_cursor.specs.Faults.{IsCut, IsDenied, IsAfter, IsAmong, IsLeft}

-- two bytes at place 7
abbrev two : Cursor
two = record { place = 7; rest = 5 ∷ 6 ∷ [] }

-- three bytes are cut where two are, at their place, and two are not
cut_three : IsCut (λ place. place) 3 two 7
cut_three = record { short = omega arith; reported = refl }

whole_two : (e : ℕ) → IsCut (λ place. place) 2 two e → ⊥
whole_two e cut = let short = cut.short in omega (arith, short)

cut_elsewhere : IsCut (λ place. place) 3 two 8 → ⊥
cut_elsewhere cut = let reported = cut.reported in omega (arith, reported)

-- a byte of 5 where 4 alone is allowed
denied_five : IsDenied u1 (λ n. n < 256) (λ n. n ≡ 4) (λ place. place) two 7
denied_five = record { value = 5; rest = 6 ∷ []; parts = refl; item = omega arith; wrong = λ e. omega (arith, e); reported = refl }

-- the part before is passed over, and its place with it
after_five : IsAfter u1 (λ n. n < 256) (λ n. IsCut (λ place. place) 2) two 8
after_five = record { value = 5; rest = 6 ∷ []; parts = refl; good = omega arith; fault = record { short = omega arith; reported = refl } }

-- the third of three is cut; of two none is
among_three : IsAmong u1 (λ n. n < 256) (IsCut (λ place. place) 1) 3 two 9
among_three = record { prefix = 5 ∷ 6 ∷ []; rest = []; parts = refl; good = (omega arith, (omega arith, tt)); fewer = omega arith; fault = record { short = omega arith; reported = refl } }

-- nothing is faulty among none
among_none : (e : ℕ) → IsAmong u1 (λ n. n < 256) (IsCut (λ place. place) 1) 0 two e → ⊥
among_none e among = let fewer = among.fewer in omega (arith, fewer)

-- bytes are left, and none
left_two : IsLeft (λ place. place) two 7
left_two = record { some = λ e. absurd cc; reported = refl }

left_none : (e : ℕ) → IsLeft (λ place. place) (record { place = 7; rest = [] }) e → ⊥
left_none e left = left.some refl
