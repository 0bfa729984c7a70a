-- What a pool keeps, and what its keys stand for, at plain values.
use Rattle.std.proofs.Common.{◌≡◌, ℕ, true, pos, List, [], ◌∷◌, ◌++◌, map, codes, refl}
use Rattle.dj_pool.specs.trusted.Pool.{indexed}
use Rattle.dj_asm_pool.specs.declared.key.Key.TheVariants as keys
use Rattle.dj_asm_pool.specs.Keys.{numbered, next_index}
use Rattle.dj_asm_pool.specs.trusted.Entries.{Utf8, Integer, Long, Class, Text, NameAndType, Field, Dynamic, with_parts}
use Rattle.dj_asm_pool.specs.Pooling.{all_kept, keyed_entries}
use Rattle.dj_asm_pool.specs.PoolNeeds.{short_entry, all_parts}

abbrev a : List ℕ
a = codes "a"

abbrev b : List ℕ
b = codes "b"

abbrev c : List ℕ
c = codes "c"

-- a long takes two indexes
numbers : numbered 1 (keys.Utf8 0 ∷ keys.Long (pos 5) ∷ keys.Integer (pos 5) ∷ []) ≡ (keys.Utf8 0, 1) ∷ (keys.Long (pos 5), 2) ∷ (keys.Integer (pos 5), 4) ∷ []
numbers = refl

next : next_index (keys.Utf8 0 ∷ keys.Long (pos 5) ∷ keys.Integer (pos 5) ∷ []) ≡ 5
next = refl

-- a class and a string of one text share it, and what is there isn't put again
shared : all_kept [] (with_parts (Class a) ++ with_parts (Text a) ++ with_parts (Class a) ++ with_parts (NameAndType a b)) ≡ Utf8 a ∷ Class a ∷ Text a ∷ Utf8 b ∷ NameAndType a b ∷ []
shared = refl

-- an int and a long of one number are apart
numbers_apart : all_kept [] (Integer (pos 5) ∷ Long (pos 5) ∷ Integer (pos 5) ∷ Integer (pos 6) ∷ []) ≡ Integer (pos 5) ∷ Long (pos 5) ∷ Integer (pos 6) ∷ []
numbers_apart = refl

-- the keys of a field behind a long, and what they stand for
field : keyed_entries (a ∷ b ∷ c ∷ [])
    (keys.Long (pos 5) ∷ keys.Utf8 0 ∷ keys.Class 3 ∷ keys.Utf8 1 ∷ keys.Utf8 2 ∷ keys.NameAndType 5 6 ∷ keys.Field 4 7 ∷ keys.Text 5 ∷ keys.Dynamic 9 7 ∷ [])
    ≡ Long (pos 5) ∷ Utf8 a ∷ Class a ∷ Utf8 b ∷ Utf8 c ∷ NameAndType b c ∷ Field a b c ∷ Text b ∷ Dynamic 9 b c ∷ []
unfolding indexed
field = refl

-- only texts may be too long
shorts : map short_entry (Utf8 a ∷ Class a ∷ Text a ∷ Long (pos 5) ∷ []) ≡ true ∷ true ∷ true ∷ true ∷ []
shorts = refl

parts : all_parts (Class a ∷ Integer (pos 5) ∷ []) ≡ Utf8 a ∷ Class a ∷ Integer (pos 5) ∷ []
parts = refl
