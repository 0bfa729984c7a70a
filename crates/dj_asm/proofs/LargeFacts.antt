-- What doesn't fit, at plain values.
use Rattle.std.proofs.Common.{◌≡◌, ℕ, length, true, false, pos, List, [], ◌∷◌, map, None, refl, arith, inl, inr}
use Rattle.dj_asm_source.specs.trusted.Lines.{FrameType, Same, Full, Plain, Labelled, Catch, Line, Class, Implements, Field, Abstract, Method, Beside, Framed, Does, End}
use Rattle.dj_asm_pool.specs.trusted.Entries.{Utf8, Long, Class as ClassEntry, widths}
use Rattle.dj_asm_pool.specs.trusted.Room.{HasRoom}
use Rattle.dj_asm.specs.trusted.Large.{is_interface, is_field, is_method, is_catch, HasLongLists, IsOneTooMany}

abbrev lines : List Line
lines =
    Class 1 [] ∷ Implements [] ∷ Field 1 [] [] None ∷ Abstract 1 [] [] ∷ Method 1 [] [] ∷ Beside (Catch None [] [] []) ∷ Beside (Labelled []) ∷ Framed Same ∷ Does (Plain 0) ∷ End ∷ []

interfaces : map is_interface lines ≡ false ∷ true ∷ false ∷ false ∷ false ∷ false ∷ false ∷ false ∷ false ∷ false ∷ []
interfaces = refl

fields : map is_field lines ≡ false ∷ false ∷ true ∷ false ∷ false ∷ false ∷ false ∷ false ∷ false ∷ false ∷ []
fields = refl

-- methods without code count too
methods : map is_method lines ≡ false ∷ false ∷ false ∷ true ∷ true ∷ false ∷ false ∷ false ∷ false ∷ false ∷ []
methods = refl

catches : map is_catch lines ≡ false ∷ false ∷ false ∷ false ∷ false ∷ true ∷ false ∷ false ∷ false ∷ false ∷ []
catches = refl

longs_take_two : widths (Utf8 [] ∷ Long (pos 1) ∷ ClassEntry [] ∷ []) ≡ 4
longs_take_two = refl

-- ---- room in the pool

last_class : HasRoom 65534 (ClassEntry [])
last_class = record { short = tt; last = omega arith }

no_later_class : HasRoom 65535 (ClassEntry []) → ⊥
no_later_class room = let last = room.last in omega (arith, last)

-- a long needs both of its indexes
last_long : HasRoom 65533 (Long (pos 1))
last_long = record { short = tt; last = omega arith }

no_later_long : HasRoom 65534 (Long (pos 1)) → ⊥
no_later_long room = let last = room.last in omega (arith, last)

-- a text has at most 65,535 bytes, whatever its index is
longest_text : (text : List ℕ) → length text ≡ 65535 → HasRoom 65534 (Utf8 text)
longest_text text size = record { short = omega (arith, size); last = omega arith }

no_longer_text : (text : List ℕ) → length text ≡ 65536 → HasRoom 1 (Utf8 text) → ⊥
no_longer_text text size room = let short = room.short in omega (arith, size, short)

-- ---- counts

one_too_many : IsOneTooMany is_interface 65535 (Implements [])
one_too_many = record { such = refl; many = omega arith }

last_one : IsOneTooMany is_interface 65534 (Implements []) → ⊥
last_one past = let many = past.many in omega (arith, many)

another_kind : IsOneTooMany is_interface 65535 (Field 1 [] [] None) → ⊥
another_kind past = let such = past.such in absurd cc

long_locals : (types : List FrameType) → length types ≡ 65536 → HasLongLists (Full types [])
long_locals types size = inl (omega (arith, size))

long_operands : (types : List FrameType) → length types ≡ 65536 → HasLongLists (Full [] types)
long_operands types size = inr (omega (arith, size))

longest_lists : (types : List FrameType) → length types ≡ 65535 → HasLongLists (Full types types) → ⊥
longest_lists types size (inl long) = omega (arith, size, long)
longest_lists types size (inr long) = omega (arith, size, long)

-- only a full frame has such lists
no_lists : HasLongLists Same → ⊥
no_lists long = long
