-- Used by the code alone: members by the numbers of their texts.
use Rattle.std.specs.Prelude.{◌≡◌, ℕ, ◌+◌, ◌*◌, ◌<◌, ◌≤◌, ◌&&◌, Bool, true, not, List, [], ◌∷◌, All, map, option_and_then, Option, Some, None, get_or, is_some, length, take, nat_eq, slice_get, unwrap_or, if◌then◌else◌}
use Rattle.std.specs.Option.{option_map}
use Rattle.std.specs.List.{AllByRecursion}
use Rattle.std.specs.List.Sorted.{IsNonDecreasingBy}
use Rattle.dj_names.specs.trusted.Types.{Name}
use Rattle.dj_names.specs.trusted.DescReading.{desc_read}
use Rattle.dj_names.specs.declared.native.NativeId.{NativeId}
use Rattle.dj_pool.specs.trusted.Pool.{Constant, text_at}
use Rattle.dj_class.specs.trusted.ClassFile.{MemberInfo}
use Rattle.dj_model.specs.trusted.Program.{Method, Field, Body, Abstract, Native, Runs, is_static}
use Rattle.dj_declarations.specs.declared.members.MemberBody.{MemberBody}
use Rattle.dj_declarations.specs.declared.members.MemberBody.TheVariants as bodies
use Rattle.dj_declarations.specs.declared.members.MemberRow.{MemberRow}
use Rattle.dj_declarations.specs.trusted.Files.{desc_in, no_code, is_bodiless}
use Rattle.dj_declarations.specs.Texts.{Numbers, number_in, text_in}

-- ---- what a row stands for

abbrev pub body_of : MemberBody → Body
body_of bodies.Empty = Abstract
body_of (bodies.Native id) = Native id
body_of bodies.Code = Runs no_code

abbrev pub row_method : Numbers → MemberRow → Method
row_method numbers row = record {
  flags = row.flags;
  name = text_in numbers row.name;
  desc = desc_in (text_in numbers row.desc);
  body = body_of row.body;
}

abbrev pub row_field : Numbers → MemberRow → Field
row_field numbers row = record {
  flags = row.flags;
  name = text_in numbers row.name;
  desc = desc_in (text_in numbers row.desc);
  constant = None;
}

-- its numbers are those of texts, and the second is that of a descriptor
pub record IsSound (numbers : Numbers) (row : MemberRow) : Type 0 where
  pub name : number_in numbers (text_in numbers row.name) ≡ Some row.name
  pub desc : number_in numbers (text_in numbers row.desc) ≡ Some row.desc
  pub described : is_some (desc_read (text_in numbers row.desc)) ≡ true

pub record AreSound (numbers : Numbers) (fields methods : List MemberRow) : Type 0 where
  pub fields_are : All (IsSound numbers) fields
  pub methods_are : All (IsSound numbers) methods

-- the row stands for this method
pub record IsRowOf (numbers : Numbers) (row : MemberRow) (method : Method) : Type 0 where
  pub sound : IsSound numbers row
  pub is : row_method numbers row ≡ method

pub record AreRowsOf (numbers : Numbers) (rows : List MemberRow) (methods : List Method) : Type 0 where
  pub sound : All (IsSound numbers) rows
  pub are : map (row_method numbers) rows ≡ methods

-- ---- the first of equal ones

abbrev pub is_row : ℕ → ℕ → MemberRow → Bool
is_row name desc row = nat_eq row.name name && nat_eq row.desc desc

abbrev pub first_row : ℕ → ℕ → List MemberRow → Option ℕ
first_row name desc [] = None
first_row name desc (row ∷ rows) = if is_row name desc row then Some 0 else option_map (λ place. place + 1) (first_row name desc rows)

-- the place of the first row with the numbers of these texts
abbrev pub place_named : Numbers → List MemberRow → Name → Name → Option ℕ
place_named numbers rows name desc = option_and_then (λ n. option_and_then (λ d. first_row n d rows) (number_in numbers desc)) (number_in numbers name)

-- ---- the places, in the order of the numbers

-- two numbers as one
abbrev pub pair_of : ℕ → ℕ → ℕ
pair_of name desc = name * 65536 + desc

abbrev pub key_by : Option MemberRow → ℕ → ℕ
key_by None place = place
key_by (Some row) place = pair_of row.name row.desc * 65536 + place

-- what the row at a place is ordered by: the numbers, and the place
abbrev pub key_at : List MemberRow → ℕ → ℕ
key_at rows place = key_by (slice_get rows place) place

-- these are the first n places
pub record AreCounted (count : ℕ) (places : List ℕ) : Type 0 where
  pub few : count ≤ 65536
  pub long : length places ≡ count
  pub each : (place : ℕ) → place < count → get_or places place 0 ≡ place

-- the places of all rows, in the order of the numbers
pub record AreOrdered (rows : List MemberRow) (order : List ℕ) : Type 0 where
  pub few : length rows ≤ 65536
  pub within : All (λ place. place < length rows) order
  pub whole : (place : ℕ) → place < length rows → ((k : ℕ) → k < length order → get_or order k place ≡ place → ⊥) → ⊥
  pub ascend : IsNonDecreasingBy (key_at rows) order

-- the row there has these numbers, or it has others
abbrev pub IsAnswer : List MemberRow → ℕ → ℕ → ℕ → Option ℕ → Type 0
IsAnswer rows place name desc None = (row : MemberRow) → slice_get rows place ≡ Some row → pair_of row.name row.desc ≡ pair_of name desc → ⊥
IsAnswer rows place name desc (Some found) = (found ≡ place) × ((row : MemberRow) → slice_get rows place ≡ Some row → is_row name desc row ≡ true)

-- how many of these rows aren't static
abbrev pub instance_rows : List MemberRow → ℕ
instance_rows [] = 0
instance_rows (row ∷ rows) = if not (is_static row.flags) then 1 + instance_rows rows else instance_rows rows

-- how many rows that aren't static come before each place, and before the end
pub record AreCounts (rows : List MemberRow) (counts : List ℕ) : Type 0 where
  pub long : length counts ≡ length rows + 1
  pub each : (place : ℕ) → place ≤ length rows → get_or counts place 0 ≡ instance_rows (take place rows)

-- ---- the rows of a class file

-- the number that is at an index
abbrev pub number_at : List (Option ℕ) → ℕ → ℕ
number_at places index = unwrap_or (get_or places index None) 0

-- there is a room for each index of the pool, and where a number stands it is that of the index's text
pub record AreNumbered (pool : List Constant) (places : List (Option ℕ)) (numbers : Numbers) : Type 0 where
  pub rooms : length places ≡ length pool + 1
  pub reported : (index number : ℕ) (text : List ℕ) → get_or places index None ≡ Some number → text_at pool index ≡ Some text → number_in numbers text ≡ Some number

-- numbers are at the indexes of the member's name and descriptor
pub record IsNamed (places : List (Option ℕ)) (m : MemberInfo) : Type 0 where
  pub name : is_some (get_or places m.name None) ≡ true
  pub desc : is_some (get_or places m.desc None) ≡ true

abbrev pub AreNamed : List (Option ℕ) → List MemberInfo → Type 0
AreNamed places members = AllByRecursion (IsNamed places) members

abbrev pub kept_body : ℕ → MemberBody
kept_body flags = if is_bodiless flags then bodies.Empty else bodies.Code

abbrev pub member_row_of : List (Option ℕ) → MemberBody → MemberInfo → MemberRow
member_row_of places body m = record {
  flags = m.flags;
  name = number_at places m.name;
  desc = number_at places m.desc;
  body = body;
}

abbrev pub method_row_of : List (Option ℕ) → MemberInfo → MemberRow
method_row_of places m = member_row_of places (kept_body m.flags) m

abbrev pub field_row_of : List (Option ℕ) → MemberInfo → MemberRow
field_row_of places f = member_row_of places bodies.Empty f

-- ---- the rows of a library

abbrev pub native_body : Option NativeId → MemberBody
native_body None = bodies.Empty
native_body (Some id) = bodies.Native id
