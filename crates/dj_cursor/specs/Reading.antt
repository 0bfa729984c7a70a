-- Reading lists of bytes from left to right: the first item that doesn't fit is reported by its place.
use Rattle.std.specs.Prelude.{ℕ, zero, suc, ◌+◌, ◌==◌, Bool, List, [], ◌∷◌, length, take, drop, Result, Ok, Err, nat_lt, if◌then◌else◌}
use Rattle.std.specs.Int.{Width, w8, w16, w32, w64, byte_len, from_be_bytes}
use Rattle.dj_cursor.specs.declared.cursor.Cut.{Cut}
use Rattle.dj_cursor.specs.Steps.{◌>>=◌, lifted}

-- where a reader is: a place, and the bytes from there on
pub record Cursor : Type 0 where
  pub place : ℕ
  pub rest : List ℕ

-- the bytes from this place on; past the end there are none
abbrev pub cursor_at : ℕ → List ℕ → Cursor
cursor_at place bytes = record { place = place; rest = drop place bytes }

-- all of the bytes
abbrev pub start_of : List ℕ → Cursor
start_of bytes = record { place = 0; rest = bytes }

-- no bytes are left
abbrev pub at_end : Cursor → Bool
at_end c = length c.rest == 0

-- ---- bytes and numbers

-- this many bytes
abbrev pub bytes_at : ℕ → Cursor → Result (List ℕ × Cursor) Cut
bytes_at n c =
    if nat_lt (length c.rest) n then Err (record { 0 = c.place })
    else Ok (take n c.rest, record { place = c.place + n; rest = drop n c.rest })

-- a number of this width
abbrev pub number_at : Width → Cursor → Result (ℕ × Cursor) Cut
number_at w c = do
  bytes ← bytes_at (byte_len w) c
  Ok (from_be_bytes w bytes.0, bytes.1)

-- ---- the same, with what a cut at a place is to the reader; the digit counts bytes, as in Spelling

abbrev pub block_at : {E : Type 0} → (ℕ → E) → ℕ → Cursor → Result (List ℕ × Cursor) E
block_at cut n c = lifted (λ x. cut x.0) (bytes_at n c)

abbrev pub u1_at : {E : Type 0} → (ℕ → E) → Cursor → Result (ℕ × Cursor) E
u1_at cut c = lifted (λ x. cut x.0) (number_at w8 c)

abbrev pub u2_at : {E : Type 0} → (ℕ → E) → Cursor → Result (ℕ × Cursor) E
u2_at cut c = lifted (λ x. cut x.0) (number_at w16 c)

abbrev pub u4_at : {E : Type 0} → (ℕ → E) → Cursor → Result (ℕ × Cursor) E
u4_at cut c = lifted (λ x. cut x.0) (number_at w32 c)

abbrev pub u8_at : {E : Type 0} → (ℕ → E) → Cursor → Result (ℕ × Cursor) E
u8_at cut c = lifted (λ x. cut x.0) (number_at w64 c)

-- ---- parts

-- this many parts, one after the other
unfoldable pub many_at : {A E : Type 0} → (Cursor → Result (A × Cursor) E) → ℕ → Cursor → Result (List A × Cursor) E
many_at part zero c = Ok ([], c)
many_at part (suc n) c = do
  first ← part c
  others ← many_at part n first.1
  Ok (first.0 ∷ others.0, others.1)

-- a count of two bytes, and this many parts
unfoldable pub table_at : {A E : Type 0} → (ℕ → E) → (Cursor → Result (A × Cursor) E) → Cursor → Result (List A × Cursor) E
table_at cut part c = do
  count ← u2_at cut c
  many_at part count.0 count.1
