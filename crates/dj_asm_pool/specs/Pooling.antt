-- The pool as entries are put in it: the code's own words.
use Rattle.std.specs.Prelude.{◌≡◌, ℕ, ◌+◌, ◌<◌, ◌≤◌, ◌&&◌, nat_lt, nat_le, if◌then◌else◌, List, [], ◌∷◌, ◌++◌, length, map, get_or, Contains, Option, Some, None, Result, Ok, Err}
use Rattle.std.specs.List.{AllByRecursion, list_any}
use Rattle.std.specs.Option.{unwrap_or}
use Rattle.dj_names.specs.trusted.Types.{Name}
use Rattle.dj_pool.specs.trusted.Pool as pool
use Rattle.dj_pool.specs.trusted.Pool.{Constant, indexed, text_at, class_name_at, name_and_type_at}
use Rattle.dj_asm_pool.specs.declared.key.Key.{Key}
use Rattle.dj_asm_pool.specs.declared.key.Key.TheVariants as keys
use Rattle.dj_asm_pool.specs.Keys.{most_next}
use Rattle.dj_asm_pool.specs.trusted.Entries.{Entry, Utf8, Integer, Long, Class, Text, NameAndType, Field, Method, InterfaceMethod, Dynamic, same_entry, class_with_parts, names_with_parts, with_parts, width, widths, index_of, constant_of}

-- ---- texts by their numbers

-- this many texts are before the first that is this one
pub record IsNumberOf (texts : List Name) (text : Name) (number : ℕ) : Type 0 where
  pub prefix : List Name
  pub back : List Name
  pub parts : texts ≡ prefix ++ text ∷ back
  pub absent : Contains prefix text → ⊥
  pub number_is : number ≡ length prefix

abbrev pub IsFound : List Name → Name → Option ℕ → Type 0
IsFound texts text (Some number) = IsNumberOf texts text number
IsFound texts text None = Contains texts text → ⊥

-- the text is put last; without memory all stays
abbrev pub PutsText : {E : Type 0} → List Name → Name → List Name → Result ℕ E → Type 0
PutsText before text now (Ok number) = (now ≡ before ++ text ∷ []) × (number ≡ length before)
PutsText before text now (Err e) = now ≡ before

-- ---- constants by their keys

abbrev pub constant_of_key : List Name → Key → Constant
constant_of_key texts (keys.Utf8 number) = pool.Utf8 (get_or texts number [])
constant_of_key texts (keys.Integer n) = pool.Integer n
constant_of_key texts (keys.Long n) = pool.Long n
constant_of_key texts (keys.Class name) = pool.Class name
constant_of_key texts (keys.Text text) = pool.Text text
constant_of_key texts (keys.NameAndType name desc) = pool.NameAndType name desc
constant_of_key texts (keys.Field class names) = pool.Field class names
constant_of_key texts (keys.Method class names) = pool.Method class names
constant_of_key texts (keys.InterfaceMethod class names) = pool.InterfaceMethod class names
constant_of_key texts (keys.Dynamic place names) = pool.Dynamic place names

abbrev pub constants_in : List Name → List Key → List Constant
constants_in texts ks = map (constant_of_key texts) ks

-- the constants of entries, without holes
abbrev pub constants_of : List Entry → List Constant
constants_of es = map (constant_of (index_of es)) es

-- ---- the entries that constants stand for

abbrev pub text_in : List Constant → ℕ → Name
text_in pool index = unwrap_or (text_at pool index) []

abbrev pub class_in : List Constant → ℕ → Name
class_in pool index = unwrap_or (class_name_at pool index) []

abbrev pub names_in : List Constant → ℕ → Name × Name
names_in pool index = unwrap_or (name_and_type_at pool index) ([], [])

abbrev pub entry_in : List Constant → Constant → Entry
entry_in at (pool.Utf8 text) = Utf8 text
entry_in at (pool.Integer n) = Integer n
entry_in at (pool.Long n) = Long n
entry_in at (pool.Class name) = Class (text_in at name)
entry_in at (pool.Text text) = Text (text_in at text)
entry_in at (pool.NameAndType name desc) = NameAndType (text_in at name) (text_in at desc)
entry_in at (pool.Field class names) = Field (class_in at class) (names_in at names).0 (names_in at names).1
entry_in at (pool.Method class names) = Method (class_in at class) (names_in at names).0 (names_in at names).1
entry_in at (pool.InterfaceMethod class names) = InterfaceMethod (class_in at class) (names_in at names).0 (names_in at names).1
entry_in at (pool.Dynamic place names) = Dynamic place (names_in at names).0 (names_in at names).1
entry_in at constant = Utf8 []

abbrev pub entries_in : List Constant → List Entry
entries_in ks = map (entry_in (indexed ks)) ks

-- ---- what a pool keeps of the entries that are needed

-- what an entry's constant names
abbrev pub named_by : Entry → List Entry
named_by (Class name) = Utf8 name ∷ []
named_by (Text text) = Utf8 text ∷ []
named_by (NameAndType name desc) = Utf8 name ∷ Utf8 desc ∷ []
named_by (Field class name desc) = Class class ∷ NameAndType name desc ∷ []
named_by (Method class name desc) = Class class ∷ NameAndType name desc ∷ []
named_by (InterfaceMethod class name desc) = Class class ∷ NameAndType name desc ∷ []
named_by (Dynamic place name desc) = NameAndType name desc ∷ []
named_by entry = []

-- its constant ends where it may
abbrev pub EndsIn : List Entry → Entry → Type 0
EndsIn es e = index_of es e + width e ≤ most_next

-- each entry is put last, unless it is there or the index after all is past the most
abbrev pub kept : List Entry → Entry → List Entry
kept es e = if list_any (same_entry e) es then es else (if nat_lt most_next (1 + widths es) then es else es ++ e ∷ [])

abbrev pub all_kept : List Entry → List Entry → List Entry
all_kept es [] = es
all_kept es (e ∷ more) = all_kept (kept es e) more

-- the number of the key's text is that of the text
abbrev pub HasNumber : List Name → Key → Type 0
HasNumber texts (keys.Utf8 number) = (text : Name) × IsNumberOf texts text number
HasNumber texts key = Unit {0}

-- it is in the pool and ends where it may
abbrev pub HasIndex : List Entry → Entry → Type 0
HasIndex es e = Contains es e × EndsIn es e

-- the keys are those of the entries
pub record AreKeysOf (texts : List Name) (ks : List Key) (es : List Entry) : Type 0 where
  pub numbers : AllByRecursion (HasNumber texts) ks
  pub constants : constants_in texts ks ≡ constants_of es
  pub closed : (e : Entry) → Contains es e → AllByRecursion (HasIndex es) (named_by e)

-- the entries for which the keys stand
abbrev pub keyed_entries : List Name → List Key → List Entry
keyed_entries texts ks = entries_in (constants_in texts ks)

-- ---- answers

-- the index after all is past the most, and nothing more is kept
abbrev pub IsFull : List Entry → Type 0
IsFull es = most_next < 1 + widths es

-- the entry's own index, where its constant ends where it may
abbrev pub PutsOne : (before : List Entry) → Entry → (now : List Entry) → Option ℕ → Type 0
PutsOne before e now (Some index) = (now ≡ kept before e) × ((index ≡ index_of now e) × HasIndex now e)
PutsOne before e now None = (now ≡ kept before e) × ((EndsIn now e → ⊥) × IsFull now)

abbrev pub IsNoText : Key → Type 0
IsNoText (keys.Utf8 number) = ⊥
IsNoText key = Unit {0}

-- the key is that of the entry
pub record IsKeyOf (es : List Entry) (key : Key) (e : Entry) : Type 0 where
  pub no_text : IsNoText key
  pub constant : constant_of_key [] key ≡ constant_of (index_of es) e
  pub named : AllByRecursion (HasIndex es) (named_by e)

-- an entry of these has no index where it may end
pub record OneEndsPast (es entries : List Entry) : Type 0 where
  pub entry : Entry
  pub among : Contains entries entry
  pub past : EndsIn es entry → ⊥

-- all are put, and end where they may
abbrev pub PutsAll : (before entries now : List Entry) → Type 0
PutsAll before entries now = (now ≡ all_kept before entries) × AllByRecursion (HasIndex now) entries

-- one of them ends past the most
abbrev pub Stops : (before entries now : List Entry) → Type 0
Stops before entries now = (now ≡ all_kept before entries) × (OneEndsPast now entries × IsFull now)

-- the index of an entry that is put with its parts, where all of these end where they may
abbrev pub Puts : (before : List Entry) → Entry → (now : List Entry) → Option ℕ → Type 0
Puts before e now (Some index) = PutsAll before (with_parts e) now × (index ≡ index_of now e)
Puts before e now None = Stops before (with_parts e) now

-- the indexes of two of the entries that are put
abbrev pub PutsPair : (before entries : List Entry) → Entry → Entry → (now : List Entry) → Option (ℕ × ℕ) → Type 0
PutsPair before entries a b now (Some indexes) = PutsAll before entries now × ((indexes.0 ≡ index_of now a) × (indexes.1 ≡ index_of now b))
PutsPair before entries a b now None = Stops before entries now

abbrev pub member_parts : Name → Name → Name → List Entry
member_parts class name desc = class_with_parts class ++ names_with_parts name desc

-- ---- look-ups

-- the index of an entry that is in the pool and ends where it may, or 0
unfoldable pub found_index : List Entry → Entry → ℕ
found_index es e = if list_any (same_entry e) es && nat_le (index_of es e + width e) most_next then index_of es e else 0

-- the key is that of the entry, if the pool has its parts
pub record IsSought (es : List Entry) (key : Key) (e : Entry) : Type 0 where
  pub no_text : IsNoText key
  pub constant : constant_of_key [] key ≡ constant_of (found_index es) e
