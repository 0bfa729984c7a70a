-- The code's own words for the way through a pool.
use Rattle.std.specs.Prelude.{◌≡◌, ◌≢◌, ℕ, ◌+◌, ◌≤◌, ◌<◌, ⊤, Bool, true, false, List, [], ◌∷◌, ◌++◌, map, filter, length, get_or, slice_set, Option, Some, None, Result, Ok, Err}
use Rattle.std.specs.List.{list_any}
use Rattle.dj_names.specs.trusted.Types.{Name, same_name}
use Rattle.dj_pool.specs.trusted.Pool.{Constant, Class, NameAndType, MethodType, IsClassText, NamesText}
use Rattle.dj_pool.specs.Answers.{last_index}
use Rattle.dj_declarations.specs.trusted.Files.{name_in}
use Rattle.dj_rename.specs.declared.error.RenameError.{RenameError}
use Rattle.dj_rename.specs.declared.error.RenameError.TheVariants as errors
use Rattle.dj_rename.specs.declared.wanted.Role.{Role}
use Rattle.dj_rename.specs.declared.wanted.Role.TheVariants as roles
use Rattle.dj_rename.specs.declared.wanted.Wanted.{Wanted}
use Rattle.dj_rename.specs.declared.sought.Sought.{Sought}
use Rattle.dj_rename.specs.declared.sought.Sought.TheVariants as sought
use Rattle.dj_rename.specs.Names.{renamed_class, renamed_desc}
use Rattle.dj_rename.specs.Pools.{Need, is_changed, first_places, need_text, place_of, new_index}
use Rattle.dj_rename.specs.Refusals.{most_bytes, IsDescriptor, refusal_from}

-- ---- a text that may get another one

abbrev pub respelled : Role → Name → Name
respelled roles.Class text = renamed_class text
respelled roles.Desc text = renamed_desc text

-- the text is one that the role reads
abbrev pub IsRoleText : Role → Name → Type 0
IsRoleText roles.Class text = IsClassText text
IsRoleText roles.Desc text = IsDescriptor text

abbrev pub role_need : List Constant → Role → ℕ → ℕ → Need
role_need pool role of index = record { of = of; index = index; text = respelled role (name_in pool index) }

abbrev pub wanted_need : List Constant → Wanted → Need
wanted_need pool w = role_need pool w.role w.of w.index

-- the text that a constant names
abbrev pub wanted_by : ℕ → Constant → Option Wanted
wanted_by of (Class name) = Some (record { of = of; index = name; role = roles.Class })
wanted_by of (NameAndType name desc) = Some (record { of = of; index = desc; role = roles.Desc })
wanted_by of (MethodType desc) = Some (record { of = of; index = desc; role = roles.Desc })
wanted_by of k = None

abbrev pub IsWanted : List Constant → Wanted → Type 0
IsWanted pool w = NamesText (IsRoleText w.role) pool w.index

-- ---- where it stands

abbrev pub has_text : List Name → Name → Bool
has_text texts text = list_any (same_name text) texts

-- the first place of the text
abbrev pub IsPlaceOf : List Name → Name → Option ℕ → Type 0
IsPlaceOf texts text (Some place) = (has_text texts text ≡ true) × (place ≡ place_of texts text)
IsPlaceOf texts text None = has_text texts text ≡ false

-- the need's text is there where it has to be
abbrev pub IsSettled : List Constant → List Name → Need → Type 0
IsSettled pool texts need = is_changed pool need ≡ true → has_text texts need.text ≡ true

-- the need's text is there, and gets this index
pub record IsPlaced (pool : List Constant) (texts : List Name) (need : Need) (index : ℕ) : Type 0 where
  pub settled : IsSettled pool texts need
  pub index_is : index ≡ new_index pool texts need

abbrev pub IsSought : List Constant → List Name → Need → Sought → Type 0
IsSought pool texts need (sought.At index) = IsPlaced pool texts need index
IsSought pool texts need (sought.New text) = (text ≡ need.text) × (is_changed pool need ≡ true) × (has_text texts need.text ≡ false)

-- ---- the indexes that are known

pub record Tables : Type 0 where
  pub classes : List ℕ
  pub descs : List ℕ

abbrev pub table : Role → Tables → List ℕ
table roles.Class t = t.classes
table roles.Desc t = t.descs

abbrev pub with_known : Role → ℕ → ℕ → Tables → Tables
with_known roles.Class index new t = record t { classes = slice_set t.classes index new }
with_known roles.Desc index new t = record t { descs = slice_set t.descs index new }

-- what a table has is right; 0 says nothing
abbrev pub IsKnown : List Constant → List Name → Role → ℕ → ℕ → Type 0
IsKnown pool texts role index new = new ≢ 0 → IsPlaced pool texts (role_need pool role index index) new

-- the texts so far have indexes, and the tables are right
pub record IsState (pool : List Constant) (texts : List Name) (tables : Tables) : Type 0 where
  pub few : length pool + length texts ≤ last_index
  pub long : (role : Role) → length (table role tables) ≡ length pool + 1
  pub known : (role : Role) (index : ℕ) → IsKnown pool texts role index (get_or (table role tables) index 0)

-- ---- the way

abbrev pub changed_texts : List Constant → List Need → List Name
changed_texts pool list = map need_text (filter (is_changed pool) list)

-- the needs bring the one list of texts to the other, whatever comes after them
pub record Steps (pool : List Constant) (before : List Name) (list : List Need) (now : List Name) : Type 0 where
  pub places : (more : List Need) → before ++ first_places before (changed_texts pool (list ++ more)) ≡ now ++ first_places now (changed_texts pool more)
  pub refusal : (more : List Need) → refusal_from pool before (list ++ more) ≡ refusal_from pool now more

-- one of the needs can't be met, whatever comes after them
abbrev pub Refuses : List Constant → List Name → List Need → RenameError → Type 0
Refuses pool before list errors.Memory = ⊤
Refuses pool before list e = (more : List Need) → refusal_from pool before (list ++ more) ≡ Some e

-- what a walk over needs answers
abbrev pub Walks : {A : Type 0} → List Constant → List Name → List Need → List Name → Tables → Result A RenameError → Type 0
Walks pool before list now tables (Ok x) = Steps pool before list now × IsState pool now tables
Walks pool before list now tables (Err e) = Refuses pool before list e

-- a text is put last, with its index
pub record Puts (pool : List Constant) (before : List Name) (need : Need) (now : List Name) (index : ℕ) : Type 0 where
  pub now_is : now ≡ before ++ need.text ∷ []
  pub index_is : index ≡ length pool + length before + 1
  pub room : index ≤ last_index
  pub short : length need.text ≤ most_bytes

abbrev pub PutsText : List Constant → List Name → Need → List Name → Result ℕ RenameError → Type 0
PutsText pool before need now (Ok index) = Puts pool before need now index
PutsText pool before need now (Err errors.Full) = last_index < length pool + length before + 1
PutsText pool before need now (Err (errors.Long of)) = (of ≡ need.of) × (length pool + length before + 1 ≤ last_index) × (most_bytes < length need.text)
PutsText pool before need now (Err errors.Memory) = ⊤

-- one need is met
pub record Meets (pool : List Constant) (before : List Name) (need : Need) (now : List Name) (index : ℕ) : Type 0 where
  pub steps : Steps pool before (need ∷ []) now
  pub extra : List Name
  pub more : now ≡ before ++ extra
  pub placed : IsPlaced pool now need index
  pub few : length pool + length now ≤ last_index

abbrev pub MeetsOne : List Constant → List Name → Need → List Name → Result ℕ RenameError → Type 0
MeetsOne pool before need now (Ok index) = Meets pool before need now index
MeetsOne pool before need now (Err e) = Refuses pool before (need ∷ []) e
