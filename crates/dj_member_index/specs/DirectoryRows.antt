-- Used by the code alone: members by the numbers of their texts.
use Rattle.std.specs.Prelude.{◌≡◌, ℕ, ◌+◌, ◌-◌, ◌*◌, ◌<◌, ◌≤◌, ◌⊎◌, List, [], ◌∷◌, All, Contains, map, Option, Some, None, length, get_or, slice_get, if◌then◌else◌}
use Rattle.std.specs.Option.{option_map}
use Rattle.std.specs.Borrow.{Bor}
use Rattle.std.specs.Ordering.{nat_cmp}
use Rattle.std.specs.Cmp.Lexicographic.{slice_cmp}
use Rattle.std.specs.BTreeMap.{BTreeMap, get_by, btree_map_len}
use Rattle.std.specs.List.{AllPairs}
use Rattle.std.specs.List.Sorted.{IsNonDecreasingBy}
use Rattle.dj_names.specs.trusted.Types.{Name}
use Rattle.dj_names.specs.declared.descriptor.Desc.{Desc}
use Rattle.dj_names.specs.trusted.Descriptors.{Describes}
use Rattle.dj_model.specs.trusted.Program.{Program, Method, Field, is_named}
use Rattle.dj_declarations.specs.Texts.{text_in}
use Rattle.dj_class_table.specs.Tables.{methods_at, fields_at}
use Rattle.dj_member_index.specs.declared.rows.MemberRow.{MemberRow}

-- ---- members by their names and descriptors

abbrev pub Named : Type 0
Named = Name × Desc

abbrev pub method_named : Method → Named
method_named m = (m.name, m.desc)

abbrev pub field_named : Field → Named
field_named f = (f.name, f.desc)

-- the members of each class
abbrev pub Members : Type 0
Members = ℕ → List Named

abbrev pub methods_named : Program → Members
methods_named program class = map method_named (methods_at program class)

abbrev pub fields_named : Program → Members
fields_named program class = map field_named (fields_at program class)

-- the place of the first one with this name and this descriptor
abbrev pub place_of : List Named → Name → Desc → Option ℕ
place_of [] name desc = None
place_of (m ∷ members) name desc = if is_named name desc m.0 m.1 then Some 0 else option_map (λ place. place + 1) (place_of members name desc)

-- ---- numbers of texts

abbrev pub Texts : Type 0
Texts = BTreeMap (Bor (List ℕ)) ℕ

abbrev pub Numbers : Type 0
Numbers = List ℕ → Option ℕ

abbrev pub number_in : Texts → List ℕ → Option ℕ
number_in texts text = get_by (λ key. slice_cmp nat_cmp text key.now) texts

-- the texts with their numbers
abbrev pub texts_of : Texts → List (Name × ℕ)
texts_of texts = map (λ e. (e.0.now, e.1)) texts.entries

-- a text keeps its number
abbrev pub Keep : Numbers → Numbers → Type 0
Keep old new = (text : List ℕ) (n : ℕ) → old text ≡ Some n → new text ≡ Some n

-- no two texts have one number, and each number is below how many there are
pub record AreDifferent (texts : Texts) : Type 0 where
  pub below : (text : List ℕ) (n : ℕ) → number_in texts text ≡ Some n → n < btree_map_len texts
  pub different : (text other : List ℕ) (n : ℕ) → number_in texts text ≡ Some n → number_in texts other ≡ Some n → text ≡ other

-- the text has this number then
pub record IsNumbered (old new : Texts) (text : List ℕ) (n : ℕ) : Type 0 where
  pub own : number_in new text ≡ Some n
  pub kept : Keep (number_in old) (number_in new)
  pub different : AreDifferent new

-- ---- rows

-- two numbers as one
abbrev pub pair_of : ℕ → ℕ → ℕ
pair_of first second = first * 4294967296 + second

abbrev pub key_of : MemberRow → ℕ
key_of row = pair_of row.name row.desc * 18446744073709551616 + pair_of row.class row.place

-- its numbers have 32 bits
pub record Fits (row : MemberRow) : Type 0 where
  pub desc : row.desc < 4294967296
  pub class : row.class < 4294967296
  pub place : row.place < 4294967296

pub record AreInOrder (rows : List MemberRow) : Type 0 where
  pub fit : All Fits rows
  pub ascend : IsNonDecreasingBy key_of rows

-- the row is of these numbers
pub record IsSuch (name desc class : ℕ) (row : MemberRow) : Type 0 where
  pub name_is : row.name ≡ name
  pub desc_is : row.desc ≡ desc
  pub class_is : row.class ≡ class

-- the place is that of the row, which is of these numbers, or it isn't
abbrev pub IsAnswer : MemberRow → ℕ → ℕ → ℕ → Option ℕ → Type 0
IsAnswer row name desc class None = IsSuch name desc class row → ⊥
IsAnswer row name desc class (Some place) = IsSuch name desc class row × (row.place ≡ place)

-- a row of these numbers has this place, and each such row that one or a later one
pub record IsLeast (rows : List MemberRow) (name desc class place : ℕ) : Type 0 where
  pub row : MemberRow
  pub within : Contains rows row
  pub such : IsSuch name desc class row
  pub place_is : row.place ≡ place
  pub least : (other : MemberRow) → Contains rows other → IsSuch name desc class other → place ≤ other.place

-- the least place of a row of these numbers, or there is none
abbrev pub IsLeastOrNone : List MemberRow → ℕ → ℕ → ℕ → Option ℕ → Type 0
IsLeastOrNone rows name desc class None = (row : MemberRow) → Contains rows row → IsSuch name desc class row → ⊥
IsLeastOrNone rows name desc class (Some place) = IsLeast rows name desc class place

-- ---- the rows of classes

-- the row is that of a member, whose texts have its numbers
pub record IsRow (number : Numbers) (members : Members) (row : MemberRow) : Type 0 where
  pub name : Name
  pub text : List ℕ
  pub desc : Desc
  pub there : slice_get (members row.class) row.place ≡ Some (name, desc)
  pub spelled : Describes text desc
  pub name_is : number name ≡ Some row.name
  pub desc_is : number text ≡ Some row.desc
  pub fits : Fits row

-- a row is that of the member at a place
pub record IsThere (rows : List MemberRow) (class place : ℕ) : Type 0 where
  pub row : MemberRow
  pub within : Contains rows row
  pub class_is : row.class ≡ class
  pub place_is : row.place ≡ place

-- these are the rows of the members of the classes before this one, and of those of this one that stand before the place
pub record AreSoFar (number : Numbers) (members : Members) (class place : ℕ) (rows : List MemberRow) : Type 0 where
  pub each : All (IsRow number members) rows
  pub whole : (k p : ℕ) → ((k < class) ⊎ ((k ≡ class) × (p < place))) → p < length (members k) → IsThere rows k p

-- the numbers of texts, by their places
pub record AreKnown (number : Numbers) (texts : List Name) (known : List ℕ) : Type 0 where
  pub long : length known ≡ length texts
  pub each : (k : ℕ) → k < length texts → number (text_in texts k) ≡ Some (get_or known k 0)

-- all of these texts have numbers then
pub record NumbersAll (old new : Texts) (texts : List Name) (known : List ℕ) : Type 0 where
  pub kept : Keep (number_in old) (number_in new)
  pub different : AreDifferent new
  pub known_are : AreKnown (number_in new) texts known

-- the row has the numbers that stand at these places
pub record IsRowBy (known : List ℕ) (n d class place : ℕ) (row : MemberRow) : Type 0 where
  pub name_is : row.name ≡ get_or known n 0
  pub desc_is : row.desc ≡ get_or known d 0
  pub class_is : row.class ≡ class
  pub place_is : row.place ≡ place
  pub fits : Fits row

-- the rows of one more class, whose members these are
abbrev pub AddsRows : List Name → List ℕ → List Named → ℕ → List MemberRow → List MemberRow → Type 0
AddsRows texts known named class before after = (number : Numbers) (members : Members) → AreKnown number texts known → members class ≡ named → AreSoFar number members class 0 before → AreSoFar number members (class + 1) 0 after

-- the texts and the rows of the classes before this one
pub record IsGathering (program : Program) (class : ℕ) (texts : Texts) (methods fields : List MemberRow) : Type 0 where
  pub different : AreDifferent texts
  pub methods_are : AreSoFar (number_in texts) (methods_named program) class 0 methods
  pub fields_are : AreSoFar (number_in texts) (fields_named program) class 0 fields

-- the rows of all members, in order
pub record AreRows (number : Numbers) (members : Members) (classes : ℕ) (rows : List MemberRow) : Type 0 where
  pub each : All (IsRow number members) rows
  pub whole : (k p : ℕ) → k < classes → p < length (members k) → IsThere rows k p
  pub order : AreInOrder rows

-- ---- the first rows

abbrev pub row_at : List MemberRow → ℕ → MemberRow
row_at rows at = get_or rows at (record { name = 0; desc = 0; class = 0; place = 0 })

-- the rows are of the same name, descriptor and class
abbrev pub AreAlike : MemberRow → MemberRow → Type 0
AreAlike one other = IsSuch one.name one.desc one.class other

-- the row before the one at this place is like it
pub record IsRepeat (rows : List MemberRow) (at : ℕ) : Type 0 where
  pub some : 0 < at
  pub alike : AreAlike (row_at rows at) (row_at rows (at - 1))

-- a row like this one stands among the first ones, and its place is not higher
pub record HasFirst (firsts : List MemberRow) (row : MemberRow) : Type 0 where
  pub first : MemberRow
  pub within : Contains firsts first
  pub alike : AreAlike row first
  pub before : first.place ≤ row.place

-- no two rows are of the same name, descriptor and class
abbrev pub RowsDiffer : List MemberRow → Type 0
RowsDiffer rows = AllPairs (λ one other. AreAlike one other → ⊥) rows

-- of each name, descriptor and class the first row alone, in order
pub record AreFirst (rows firsts : List MemberRow) : Type 0 where
  pub order : AreInOrder firsts
  pub within : (row : MemberRow) → Contains firsts row → Contains rows row
  pub each : (row : MemberRow) → Contains rows row → HasFirst firsts row
  pub once : RowsDiffer firsts

-- the texts differ in their numbers, and the rows are those of the members
pub record IsDirectory (program : Program) (texts : Texts) (methods fields first_methods first_fields : List MemberRow) : Type 0 where
  pub different : AreDifferent texts
  pub methods_are : AreRows (number_in texts) (methods_named program) (length program) methods
  pub fields_are : AreRows (number_in texts) (fields_named program) (length program) fields
  pub first_methods_are : AreFirst methods first_methods
  pub first_fields_are : AreFirst fields first_fields

-- ---- all rows of two numbers

-- the rows stand among others as here, the first of them at this place
pub record StandFrom (rows : List MemberRow) (first : ℕ) (found : List MemberRow) : Type 0 where
  pub within : first + length found ≤ length rows
  pub same : (k : ℕ) (d : MemberRow) → k < length found → get_or found k d ≡ get_or rows (first + k) d

-- these are the rows of these numbers, but for those of a class whose number is the highest, as they stand
pub record AreRowsWith (rows : List MemberRow) (name desc : ℕ) (found : List MemberRow) : Type 0 where
  pub first : ℕ
  pub stand : StandFrom rows first found
  pub each : (row : MemberRow) → Contains found row → Contains rows row × ((row.name ≡ name) × (row.desc ≡ desc))
  pub all : (row : MemberRow) → Contains rows row → row.name ≡ name → row.desc ≡ desc → row.class < 4294967295 → Contains found row
