-- The entries of a pool by what they name, before they have indexes.
use Rattle.std.specs.Prelude.{ℕ, ◌+◌, ◌&&◌, Bool, false, not, ℤ, nat_eq, List, [], ◌∷◌, ◌++◌, map, take}
use Rattle.std.specs.List.{filter, prefix_len}
use Rattle.std.specs.Ordering.{int_eq}
use Rattle.dj_names.specs.trusted.Types.{Name, same_name}
use Rattle.dj_pool.specs.trusted.Pool as pool
use Rattle.dj_pool.specs.trusted.Pool.{Constant, indexed}

pub data Entry : Type 0 where
  -- a text
  Utf8 : List ℕ → Entry
  Integer : ℤ → Entry
  Long : ℤ → Entry
  Class : Name → Entry
  -- a string, by its text
  Text : List ℕ → Entry
  NameAndType : Name → Name → Entry
  -- the class, the name and the descriptor
  Field : Name → Name → Name → Entry
  Method : Name → Name → Name → Entry
  InterfaceMethod : Name → Name → Name → Entry
  -- the place in the table of bootstrap methods, the name and the descriptor
  Dynamic : ℕ → Name → Name → Entry

-- whether two pairs of names are the same
abbrev pub same_pair : Name → Name → Name → Name → Bool
same_pair name desc other_name other_desc = same_name name other_name && same_name desc other_desc

abbrev pub same_member : Name → Name → Name → Name → Name → Name → Bool
same_member class name desc other_class other_name other_desc = same_name class other_class && same_pair name desc other_name other_desc

abbrev pub same_entry : Entry → Entry → Bool
same_entry (Utf8 text) (Utf8 other) = same_name text other
same_entry (Integer n) (Integer m) = int_eq n m
same_entry (Long n) (Long m) = int_eq n m
same_entry (Class name) (Class other) = same_name name other
same_entry (Text text) (Text other) = same_name text other
same_entry (NameAndType name desc) (NameAndType n d) = same_pair name desc n d
same_entry (Field class name desc) (Field c n d) = same_member class name desc c n d
same_entry (Method class name desc) (Method c n d) = same_member class name desc c n d
same_entry (InterfaceMethod class name desc) (InterfaceMethod c n d) = same_member class name desc c n d
same_entry (Dynamic place name desc) (Dynamic p n d) = nat_eq place p && same_pair name desc n d
same_entry _ _ = false

-- ---- an entry, with its parts before it

abbrev pub class_with_parts : Name → List Entry
class_with_parts name = Utf8 name ∷ Class name ∷ []

abbrev pub names_with_parts : Name → Name → List Entry
names_with_parts name desc = Utf8 name ∷ Utf8 desc ∷ NameAndType name desc ∷ []

abbrev pub with_parts : Entry → List Entry
with_parts (Class name) = class_with_parts name
with_parts (Text text) = Utf8 text ∷ Text text ∷ []
with_parts (NameAndType name desc) = names_with_parts name desc
with_parts (Field class name desc) = class_with_parts class ++ names_with_parts name desc ++ Field class name desc ∷ []
with_parts (Method class name desc) = class_with_parts class ++ names_with_parts name desc ++ Method class name desc ∷ []
with_parts (InterfaceMethod class name desc) = class_with_parts class ++ names_with_parts name desc ++ InterfaceMethod class name desc ∷ []
with_parts (Dynamic place name desc) = names_with_parts name desc ++ Dynamic place name desc ∷ []
with_parts entry = entry ∷ []

-- ---- each entry once, where it is needed first

unfoldable pub each_once : List Entry → List Entry
each_once [] = []
each_once (entry ∷ entries) = entry ∷ filter (λ other. not (same_entry other entry)) (each_once entries)

-- JVMS 4.4.5: a long takes two indexes
abbrev pub width : Entry → ℕ
width (Long n) = 2
width _ = 1

abbrev pub widths : List Entry → ℕ
widths [] = 0
widths (entry ∷ entries) = width entry + widths entries

-- the entries before the first that is this one
abbrev pub before : List Entry → Entry → List Entry
before entries entry = take (prefix_len (λ other. not (same_entry other entry)) entries) entries

-- the index of an entry; indexes count from 1
unfoldable pub index_of : List Entry → Entry → ℕ
index_of entries entry = 1 + widths (before entries entry)

-- ---- the constants

abbrev pub constant_of : (Entry → ℕ) → Entry → Constant
constant_of index (Utf8 text) = pool.Utf8 text
constant_of index (Integer n) = pool.Integer n
constant_of index (Long n) = pool.Long n
constant_of index (Class name) = pool.Class (index (Utf8 name))
constant_of index (Text text) = pool.Text (index (Utf8 text))
constant_of index (NameAndType name desc) = pool.NameAndType (index (Utf8 name)) (index (Utf8 desc))
constant_of index (Field class name desc) = pool.Field (index (Class class)) (index (NameAndType name desc))
constant_of index (Method class name desc) = pool.Method (index (Class class)) (index (NameAndType name desc))
constant_of index (InterfaceMethod class name desc) = pool.InterfaceMethod (index (Class class)) (index (NameAndType name desc))
constant_of index (Dynamic place name desc) = pool.Dynamic place (index (NameAndType name desc))

-- the pool that has these entries
abbrev pub pool_of : List Entry → List Constant
pool_of entries = indexed (map (constant_of (index_of entries)) entries)
