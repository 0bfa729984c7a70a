-- The reader's own: reading a pool from left to right, with the first fault that is met.
use Rattle.std.specs.Prelude.{ℕ, zero, suc, ◌+◌, ◌-◌, ◌==◌, ◌||◌, Bool, false, List, [], ◌∷◌, Option, Some, None, Result, Ok, Err, if◌then◌else◌}
use Rattle.std.specs.Int.{w32, w64, cast_signed}
use Rattle.dj_cursor.specs.Steps.{◌>>=◌}
use Rattle.dj_cursor.specs.Reading.{Cursor, cursor_at, block_at, u1_at, u2_at, u4_at, u8_at}
use Rattle.dj_names.specs.Tests.{modified_utf8_test}
use Rattle.dj_pool.specs.declared.pool.PoolError.{PoolError}
use Rattle.dj_pool.specs.declared.pool.PoolError.TheVariants as pool_errors
use Rattle.dj_pool.specs.trusted.Pool.{Constant, Utf8, Integer, Float, Long, Double, Class, Text, Field, Method, InterfaceMethod, NameAndType, Handle, MethodType, Dynamic, Hole, takes_two}
use Rattle.dj_pool.specs.Tests.{is_fit}

-- ---- what follows a tag

-- a text, whose index is this
unfoldable pub utf8_at : ℕ → Cursor → Result (Constant × Cursor) PoolError
utf8_at index c = do
  len ← u2_at pool_errors.Cut c
  text ← block_at pool_errors.Cut len.0 len.1
  if modified_utf8_test text.0 then Ok (Utf8 text.0, text.1) else Err (pool_errors.Text index)

abbrev pub number4 : ℕ → ℕ → Constant
number4 tag n = if tag == 3 then Integer (cast_signed w32 n) else Float n

unfoldable pub number4_at : ℕ → Cursor → Result (Constant × Cursor) PoolError
number4_at tag c = do
  n ← u4_at pool_errors.Cut c
  Ok (number4 tag n.0, n.1)

abbrev pub number8 : ℕ → ℕ → Constant
number8 tag n = if tag == 5 then Long (cast_signed w64 n) else Double n

unfoldable pub number8_at : ℕ → Cursor → Result (Constant × Cursor) PoolError
number8_at tag c = do
  n ← u8_at pool_errors.Cut c
  Ok (number8 tag n.0, n.1)

abbrev pub named : ℕ → ℕ → Constant
named tag n = if tag == 7 then Class n else (if tag == 8 then Text n else MethodType n)

unfoldable pub named_at : ℕ → Cursor → Result (Constant × Cursor) PoolError
named_at tag c = do
  n ← u2_at pool_errors.Cut c
  Ok (named tag n.0, n.1)

abbrev pub paired : ℕ → ℕ → ℕ → Constant
paired tag m n =
    if tag == 9 then Field m n
    else (if tag == 10 then Method m n
    else (if tag == 11 then InterfaceMethod m n
    else (if tag == 12 then NameAndType m n else Dynamic m n)))

unfoldable pub paired_at : ℕ → Cursor → Result (Constant × Cursor) PoolError
paired_at tag c = do
  m ← u2_at pool_errors.Cut c
  n ← u2_at pool_errors.Cut m.1
  Ok (paired tag m.0 n.0, n.1)

unfoldable pub handle_at : Cursor → Result (Constant × Cursor) PoolError
handle_at c = do
  kind ← u1_at pool_errors.Cut c
  member ← u2_at pool_errors.Cut kind.1
  Ok (Handle kind.0 member.0, member.1)

abbrev pub is_named : ℕ → Bool
is_named tag = tag == 7 || (tag == 8 || tag == 16)

abbrev pub is_paired : ℕ → Bool
is_paired tag = tag == 9 || (tag == 10 || (tag == 11 || (tag == 12 || tag == 18)))

-- what follows the tag that is at this place
unfoldable pub untagged_at : ℕ → ℕ → ℕ → Cursor → Result (Constant × Cursor) PoolError
untagged_at index place tag c =
    if tag == 1 then utf8_at index c
    else (if tag == 3 || tag == 4 then number4_at tag c
    else (if tag == 5 || tag == 6 then number8_at tag c
    else (if is_named tag then named_at tag c
    else (if is_paired tag then paired_at tag c
    else (if tag == 15 then handle_at c
    else Err (pool_errors.Tag place))))))

-- ---- the constants

-- one constant of the pool, whose index is this
unfoldable pub constant_at_cursor : ℕ → Cursor → Result (Constant × Cursor) PoolError
constant_at_cursor index c = do
  tag ← u1_at pool_errors.Cut c
  untagged_at index c.place tag.0 tag.1

-- what is at an index: after a long or a double nothing
unfoldable pub slot_at : Bool → ℕ → Cursor → Result (Constant × Cursor) PoolError
slot_at after_wide index c = if after_wide then Ok (Hole, c) else constant_at_cursor index c

-- this many indexes, the first of which is this
unfoldable pub slots_at : ℕ → Bool → ℕ → Cursor → Result (List Constant × Cursor) PoolError
slots_at zero after_wide index c = Ok ([], c)
slots_at (suc n) after_wide index c = do
  first ← slot_at after_wide index c
  others ← slots_at n (takes_two first.0) (index + 1) first.1
  Ok (first.0 ∷ others.0, others.1)

-- ---- the pool

-- the first of the constants that does not fit where it stands, where they count from this index
unfoldable pub first_unlinked : List Constant → ℕ → List Constant → Option ℕ
first_unlinked pool index [] = None
first_unlinked pool index (k ∷ ks) = if is_fit pool index k then first_unlinked pool (index + 1) ks else Some index

-- nothing is unlinked
abbrev pub linked : {A : Type 0} → A → Option ℕ → Result A PoolError
linked x None = Ok x
linked x (Some index) = Err (pool_errors.Link index)

-- this many indexes, all of them linked
unfoldable pub linked_slots_at : ℕ → Cursor → Result (List Constant × Cursor) PoolError
linked_slots_at n c = do
  pool ← slots_at n false 1 c
  linked pool (first_unlinked pool.0 1 pool.0)

unfoldable pub pool_at : Cursor → Result (List Constant × Cursor) PoolError
pool_at c = do
  count ← u2_at pool_errors.Cut c
  if count.0 == 0 then Err (pool_errors.Tag c.place) else linked_slots_at (count.0 - 1) count.1

-- the pool whose count is at this place of the bytes, and the place after it
unfoldable pub pool_from : List ℕ → ℕ → Result (List Constant × ℕ) PoolError
pool_from bytes at = do
  pool ← pool_at (cursor_at at bytes)
  Ok (pool.0, pool.1.place)
