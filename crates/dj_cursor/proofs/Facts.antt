-- The definitions at plain values: numbers, signed numbers and tables with their bytes, and what doesn't fit.
use Rattle.std.proofs.Common.{◌≡◌, ◌≢◌, ℕ, ◌+◌, ◌==◌, Bool, List, [], ◌∷◌, Result, Ok, Err, pos, negsuc, refl, ap, arith}
use Rattle.std.specs.Int.{w8, w16, w32, w64}
use Rattle.dj_cursor.specs.declared.cursor.Cut.{Cut}
use Rattle.dj_cursor.specs.trusted.Spelling.{u1, u2, u4, u8, s1, s2, s4, table_bytes}
use Rattle.dj_cursor.specs.Steps.{Gives}
use Rattle.dj_cursor.specs.Reading.{Cursor, start_of, cursor_at, bytes_at, number_at, u2_at, many_at, table_at}

-- ---- spelling

u1-is : u1 202 ≡ 202 ∷ []
u1-is = refl

u2-is : u2 258 ≡ 1 ∷ 2 ∷ []
u2-is = refl

u4-is : u4 3405691582 ≡ 202 ∷ 254 ∷ 186 ∷ 190 ∷ []
u4-is = refl

u8-is : u8 72623859790382856 ≡ 1 ∷ 2 ∷ 3 ∷ 4 ∷ 5 ∷ 6 ∷ 7 ∷ 8 ∷ []
u8-is = refl

-- the low byte doesn't stand first
u2-is_not : u2 258 ≢ 2 ∷ 1 ∷ []
u2-is_not h = absurd cc

s1-is : s1 (negsuc 0) ≡ 255 ∷ []
s1-is = refl

s2-is : s2 (negsuc 1) ≡ 255 ∷ 254 ∷ []
s2-is = refl

s4-is : s4 (pos 258) ≡ 0 ∷ 0 ∷ 1 ∷ 2 ∷ []
s4-is = refl

-- a count, and the parts
table-is : table_bytes u2 (258 ∷ 3 ∷ []) ≡ 0 ∷ 2 ∷ 1 ∷ 2 ∷ 0 ∷ 3 ∷ []
table-is = refl

-- ---- reading

five : List ℕ
five = 1 ∷ 2 ∷ 3 ∷ 4 ∷ 5 ∷ []

abbrev after : ℕ → List ℕ → Cursor
after place rest = record { place = place; rest = rest }

found : {x y : ℕ × Cursor} → (let one : Result (ℕ × Cursor) Cut = Ok x in let other : Result (ℕ × Cursor) Cut = Ok y in one ≡ other) → x ≡ y
found h = cc

abbrev cut : {A : Type 0} → ℕ → Result A Cut
cut place = Err (record { 0 = place })

later : cursor_at 3 five ≡ after 3 (4 ∷ 5 ∷ [])
unfolding five
later = refl

-- past the end there are no bytes
past_end : cursor_at 7 five ≡ after 7 []
unfolding five
past_end = refl

bytes-are : bytes_at 2 (after 7 five) ≡ Ok (1 ∷ 2 ∷ [], after 9 (3 ∷ 4 ∷ 5 ∷ []))
unfolding five
bytes-are = refl

-- all that is left fits
bytes-all : bytes_at 5 (after 7 five) ≡ Ok (five, after 12 [])
unfolding five
bytes-all = refl

-- one byte more doesn't, and the place is the item's
bytes-cut : bytes_at 6 (after 7 five) ≡ cut 7
unfolding five
bytes-cut = refl

byte-is : number_at w8 (start_of five) ≡ Ok (1, after 1 (2 ∷ 3 ∷ 4 ∷ 5 ∷ []))
unfolding five
byte-is = refl

number-is : number_at w16 (start_of five) ≡ Ok (258, after 2 (3 ∷ 4 ∷ 5 ∷ []))
unfolding five
number-is = refl

-- the low byte doesn't stand first
number-is_not : number_at w16 (start_of five) ≢ Ok (513, after 2 (3 ∷ 4 ∷ 5 ∷ []))
unfolding five
number-is_not h =
    let same : 258 ≡ 513 = ap (λ (x : ℕ × Cursor). x.0) (found {x = (258, after 2 (3 ∷ 4 ∷ 5 ∷ []))} h) in
    omega (arith, same)

-- the place moves
number-is_not_here : number_at w16 (start_of five) ≢ Ok (258, after 0 (3 ∷ 4 ∷ 5 ∷ []))
unfolding five
number-is_not_here h =
    let same : 2 ≡ 0 = ap (λ (x : ℕ × Cursor). x.1.place) (found {x = (258, after 2 (3 ∷ 4 ∷ 5 ∷ []))} h) in
    omega (arith, same)

long-is : number_at w32 (start_of five) ≡ Ok (16909060, after 4 (5 ∷ []))
unfolding five
long-is = refl

-- eight bytes don't fit into five
eight-cut : number_at w64 (start_of five) ≡ cut 0
unfolding five
eight-cut = refl

-- ---- parts

abbrev two_bytes : Cursor → Result (ℕ × Cursor) Cut
two_bytes c = u2_at (λ place. record { 0 = place }) c

table-read : table_at (λ place. record { 0 = place }) two_bytes (start_of (0 ∷ 2 ∷ 1 ∷ 2 ∷ 0 ∷ 3 ∷ 9 ∷ [])) ≡ Ok (258 ∷ 3 ∷ [], after 6 (9 ∷ []))
unfolding many_at table_at
table-read = refl

-- the second part doesn't fit, and the place is its own
table-cut : table_at (λ place. record { 0 = place }) two_bytes (start_of (0 ∷ 2 ∷ 1 ∷ 2 ∷ 0 ∷ [])) ≡ cut 4
unfolding many_at table_at
table-cut = refl

-- the count doesn't fit
count-cut : table_at (λ place. record { 0 = place }) two_bytes (start_of (0 ∷ [])) ≡ cut 0
unfolding many_at table_at
count-cut = refl

-- ---- what a reader may answer

abbrev one_is_memory : ℕ → Bool
one_is_memory e = e == 1

abbrev answer : Result ℕ ℕ → Result ℕ ℕ
answer r = r

gives-value : Gives one_is_memory (λ (n : ℕ). n + 1) (answer (Ok 3)) (answer (Ok 4))
gives-value = refl

gives-fault : Gives one_is_memory (λ (n : ℕ). n) (answer (Err 2)) (answer (Err 2))
gives-fault = refl

-- where memory ran out anything may stand there
gives-memory : Gives one_is_memory (λ (n : ℕ). n) (answer (Err 1)) (answer (Ok 4))
gives-memory = tt

-- no other value, and no fault where there is none
gives-other : Gives one_is_memory (λ (n : ℕ). n) (answer (Ok 3)) (answer (Ok 4)) → ⊥
gives-other h = absurd cc

gives-no_fault : Gives one_is_memory (λ (n : ℕ). n) (answer (Err 2)) (answer (Ok 4)) → ⊥
gives-no_fault h = absurd cc
