-- The constants of a rewritten class.
use Rattle.std.specs.Prelude.{ℕ, suc, ◌+◌, ◌≤◌, ◌<◌, Bool, List, [], ◌∷◌, ◌++◌, map, filter, length, Option, Some, None, if◌then◌else◌, not}
use Rattle.std.specs.List.{list_any, AllByRecursion}
use Rattle.dj_names.specs.trusted.Types.{Name, same_name}
use Rattle.dj_names.specs.trusted.Descriptors.{desc_text}
use Rattle.dj_names.specs.trusted.Library.{LibraryMethod}
use Rattle.dj_names.specs.Library.{accounter_class, accounter_methods}
use Rattle.dj_pool.specs.trusted.Pool.{Constant, Utf8, Class, NameAndType, MethodType, Method}
use Rattle.dj_pool.specs.Answers.{with_text, last_index}
use Rattle.dj_declarations.specs.trusted.Files.{name_in}
use Rattle.dj_rename.specs.Names.{renamed_class, renamed_desc}

-- ---- texts that are renamed

-- a text that gets another one: the index of the constant that names it, or its own where a member names it; its own index; and the other text
pub record Need : Type 0 where
  pub of : ℕ
  pub index : ℕ
  pub text : Name

abbrev pub class_need : List Constant → ℕ → ℕ → Need
class_need pool of index = record { of = of; index = index; text = renamed_class (name_in pool index) }

abbrev pub desc_need : List Constant → ℕ → ℕ → Need
desc_need pool of index = record { of = of; index = index; text = renamed_desc (name_in pool index) }

-- what the constant of an index names
abbrev pub need_of : List Constant → ℕ → Constant → Option Need
need_of pool of (Class name) = Some (class_need pool of name)
need_of pool of (NameAndType name desc) = Some (desc_need pool of desc)
need_of pool of (MethodType desc) = Some (desc_need pool of desc)
need_of pool of k = None

abbrev pub option_list : {A : Type 0} → Option A → List A
option_list None = []
option_list (Some a) = a ∷ []

abbrev pub needs_from : List Constant → ℕ → List Constant → List Need
needs_from pool of [] = []
needs_from pool of (k ∷ ks) = option_list (need_of pool of k) ++ needs_from pool (suc of) ks

-- in this order: the constants, and then the descriptors of the members
unfoldable pub needs : List Constant → List ℕ → List Need
needs pool descs = needs_from pool 1 pool ++ map (λ desc. desc_need pool desc desc) descs

-- ---- appended texts

-- the other text differs
abbrev pub is_changed : List Constant → Need → Bool
is_changed pool need = not (same_name need.text (name_in pool need.index))

-- each text once, at its first place; those in `before` are left out
unfoldable pub first_places : List Name → List Name → List Name
first_places before [] = []
first_places before (text ∷ texts) = if list_any (same_name text) before then first_places before texts else text ∷ first_places (before ++ text ∷ []) texts

abbrev pub need_text : Need → Name
need_text need = need.text

unfoldable pub appended_texts : List Constant → List ℕ → List Name
appended_texts pool descs = first_places [] (map need_text (filter (is_changed pool) (needs pool descs)))

abbrev pub place_of : List Name → Name → ℕ
place_of [] text = 0
place_of (x ∷ texts) text = if same_name x text then 0 else suc (place_of texts text)

-- the index of the text that stands in the place of a text
abbrev pub new_index : List Constant → List Name → Need → ℕ
new_index pool texts need = if is_changed pool need then length pool + 1 + place_of texts need.text else need.index

-- ---- the renamed pool

abbrev pub renamed_constant : List Constant → List Name → Constant → Constant
renamed_constant pool texts k = go (need_of pool 0 k) where
  go : Option Need → Constant
  go None = k
  go (Some need) = with_text (new_index pool texts need) k

unfoldable pub renamed_pool : List Constant → List Name → List Constant
renamed_pool pool texts = map (renamed_constant pool texts) pool ++ map Utf8 texts

abbrev pub renamed_descs : List Constant → List Name → List ℕ → List ℕ
renamed_descs pool texts descs = map (λ desc. new_index pool texts (desc_need pool desc desc)) descs

-- ---- the accounter's constants

-- four for each method, from an index on; the class has the index `class`
abbrev pub method_constants : ℕ → ℕ → List LibraryMethod → List Constant
method_constants class at [] = []
method_constants class at (m ∷ methods) =
    Utf8 m.name ∷ Utf8 (desc_text m.desc) ∷ NameAndType at (at + 1) ∷ Method class (at + 2) ∷ method_constants class (at + 4) methods

unfoldable pub accounter_constants : ℕ → List Constant
accounter_constants first = Utf8 accounter_class ∷ Class first ∷ method_constants (first + 1) (first + 2) accounter_methods

-- the index of the accounter's name
abbrev pub first_index : List Constant → List Name → ℕ
first_index pool texts = length pool + length texts + 1

unfoldable pub rewritten_pool : List Constant → List ℕ → List Constant
rewritten_pool pool descs =
    renamed_pool pool (appended_texts pool descs) ++ accounter_constants (first_index pool (appended_texts pool descs))

-- ---- what doesn't fit

-- a renamed text is too long
abbrev pub IsLongText : List Constant → List ℕ → Type 0
IsLongText pool descs = AllByRecursion (λ (text : Name). length text ≤ 65535) (appended_texts pool descs) → ⊥

-- the pool passes its greatest index
abbrev pub IsFull : List Constant → List ℕ → Type 0
IsFull pool descs = last_index < length (rewritten_pool pool descs)
