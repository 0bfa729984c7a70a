-- Entries, their parts, their order and their indexes, at plain values.
use Rattle.std.proofs.Common.{◌≡◌, ℕ, true, false, pos, negsuc, List, [], ◌∷◌, map, codes, refl}
use Rattle.dj_pool.specs.trusted.Pool as pool
use Rattle.dj_pool.specs.trusted.Pool.{Constant, Hole, indexed}
use Rattle.dj_asm_pool.specs.trusted.Entries.{Entry, Utf8, Integer, Long, Class, Text, NameAndType, Field, Method, InterfaceMethod, Dynamic, same_entry, with_parts, each_once, index_of, pool_of}

abbrev a : List ℕ
a = codes "a"

abbrev b : List ℕ
b = codes "b"

abbrev c : List ℕ
c = codes "c"

-- ---- equality

same : map (λ (e : Entry). same_entry e e)
    (Utf8 a ∷ Integer (pos 5) ∷ Long (pos 5) ∷ Class a ∷ Text a ∷ NameAndType a b ∷ Field a b c ∷ Method a b c ∷ InterfaceMethod a b c ∷ Dynamic 1 a b ∷ [])
    ≡ true ∷ true ∷ true ∷ true ∷ true ∷ true ∷ true ∷ true ∷ true ∷ true ∷ []
same = refl

-- texts, classes and strings of one text are apart, and so are an int and a long of one number
other_kinds : map (same_entry (Utf8 a)) (Class a ∷ Text a ∷ Utf8 b ∷ []) ≡ false ∷ false ∷ false ∷ []
other_kinds = refl

other_classes : map (same_entry (Class a)) (Utf8 a ∷ Text a ∷ Class b ∷ []) ≡ false ∷ false ∷ false ∷ []
other_classes = refl

other_strings : map (same_entry (Text a)) (Utf8 a ∷ Class a ∷ Text b ∷ []) ≡ false ∷ false ∷ false ∷ []
other_strings = refl

other_numbers : map (same_entry (Integer (pos 5))) (Long (pos 5) ∷ Integer (pos 6) ∷ Integer (negsuc 4) ∷ []) ≡ false ∷ false ∷ false ∷ []
other_numbers = refl

other_longs : map (same_entry (Long (pos 5))) (Integer (pos 5) ∷ Long (pos 6) ∷ Long (negsuc 4) ∷ []) ≡ false ∷ false ∷ false ∷ []
other_longs = refl

other_names : map (same_entry (NameAndType a b)) (NameAndType b a ∷ NameAndType a c ∷ NameAndType c b ∷ []) ≡ false ∷ false ∷ false ∷ []
other_names = refl

other_members : map (same_entry (Method a b c)) (InterfaceMethod a b c ∷ Field a b c ∷ Method b b c ∷ Method a a c ∷ Method a b b ∷ []) ≡ false ∷ false ∷ false ∷ false ∷ false ∷ []
other_members = refl

other_fields : map (same_entry (Field a b c)) (Method a b c ∷ Field b b c ∷ Field a a c ∷ Field a b b ∷ []) ≡ false ∷ false ∷ false ∷ false ∷ []
other_fields = refl

other_interface_methods : map (same_entry (InterfaceMethod a b c)) (Method a b c ∷ InterfaceMethod b b c ∷ InterfaceMethod a a c ∷ InterfaceMethod a b b ∷ []) ≡ false ∷ false ∷ false ∷ false ∷ []
other_interface_methods = refl

other_call_sites : map (same_entry (Dynamic 1 a b)) (Dynamic 2 a b ∷ Dynamic 1 b b ∷ Dynamic 1 a a ∷ NameAndType a b ∷ []) ≡ false ∷ false ∷ false ∷ false ∷ []
other_call_sites = refl

-- ---- parts come before the entry that has them

parts_of_string : with_parts (Text a) ≡ Utf8 a ∷ Text a ∷ []
parts_of_string = refl

parts_of_field : with_parts (Field a b c) ≡ Utf8 a ∷ Class a ∷ Utf8 b ∷ Utf8 c ∷ NameAndType b c ∷ Field a b c ∷ []
parts_of_field = refl

parts_of_method : with_parts (Method a b c) ≡ Utf8 a ∷ Class a ∷ Utf8 b ∷ Utf8 c ∷ NameAndType b c ∷ Method a b c ∷ []
parts_of_method = refl

parts_of_interface_method : with_parts (InterfaceMethod a b c) ≡ Utf8 a ∷ Class a ∷ Utf8 b ∷ Utf8 c ∷ NameAndType b c ∷ InterfaceMethod a b c ∷ []
parts_of_interface_method = refl

parts_of_call_site : with_parts (Dynamic 7 a b) ≡ Utf8 a ∷ Utf8 b ∷ NameAndType a b ∷ Dynamic 7 a b ∷ []
parts_of_call_site = refl

parts_of_number : with_parts (Integer (pos 5)) ≡ Integer (pos 5) ∷ []
parts_of_number = refl

-- ---- once, at the first need

once : each_once (Utf8 a ∷ Class a ∷ Utf8 b ∷ Utf8 a ∷ Class b ∷ Class a ∷ Utf8 b ∷ []) ≡ Utf8 a ∷ Class a ∷ Utf8 b ∷ Class b ∷ []
unfolding each_once
once = refl

abbrev some : List Entry
some = Utf8 a ∷ Class a ∷ Long (pos 5) ∷ Utf8 b ∷ Integer (pos 5) ∷ NameAndType a b ∷ Method a a b ∷ []

-- indexes count from 1, and a long takes two
indexes : map (index_of some) some ≡ 1 ∷ 2 ∷ 3 ∷ 5 ∷ 6 ∷ 7 ∷ 8 ∷ []
unfolding index_of
indexes = refl

constants : pool_of some
    ≡ pool.Utf8 a ∷ pool.Class 1 ∷ pool.Long (pos 5) ∷ Hole ∷ pool.Utf8 b ∷ pool.Integer (pos 5) ∷ pool.NameAndType 1 5 ∷ pool.Method 2 7 ∷ []
unfolding index_of indexed
constants = refl

others : pool_of (Utf8 a ∷ Utf8 b ∷ Class b ∷ Text b ∷ NameAndType b a ∷ Field b b a ∷ InterfaceMethod b b a ∷ Dynamic 9 b a ∷ [])
    ≡ pool.Utf8 a ∷ pool.Utf8 b ∷ pool.Class 2 ∷ pool.Text 2 ∷ pool.NameAndType 2 1 ∷ pool.Field 3 5 ∷ pool.InterfaceMethod 3 5 ∷ pool.Dynamic 9 5 ∷ []
unfolding index_of indexed
others = refl
