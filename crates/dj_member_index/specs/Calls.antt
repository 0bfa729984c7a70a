-- What calls look in: of each class the first method of a name and a descriptor, where a call may take it.
use Rattle.std.specs.Prelude.{◌≡◌, ℕ, ◌<◌, ◌≤◌, ◌&&◌, Bool, true, false, not, List, All, Contains, Option, Some, None, IfSome, length, get_or, slice_get}
use Rattle.std.specs.List.Sorted.{IsNonDecreasingBy}
use Rattle.dj_names.specs.trusted.Types.{Name}
use Rattle.dj_names.specs.declared.descriptor.Desc.{Desc}
use Rattle.dj_model.specs.trusted.Program.{Program, Method, is_private, is_static}
use Rattle.dj_model.specs.trusted.Linking.{is_plain, is_not_static}
use Rattle.dj_declarations.specs.Members.{method_place}
use Rattle.dj_class_table.specs.Tables.{methods_at, super_number}
use Rattle.dj_member_index.specs.declared.rows.MemberRow.{MemberRow}
use Rattle.dj_member_index.specs.declared.calls.CallTable.{CallTable}
use Rattle.dj_member_index.specs.declared.calls.Marked.{Marked}
use Rattle.dj_member_index.specs.DirectoryRows.{pair_of, Fits, Texts, AreInOrder, IsDirectory, IsLeast, row_at}
use Rattle.dj_member_index.specs.Spans.{AreNear, AreSpans, StartsFrom}

-- ---- which methods a call may take

-- none that is static, and private ones where that is allowed
abbrev pub takes : Bool → ℕ → Bool
takes true flags = not (is_static flags)
takes false flags = not (is_private flags) && not (is_static flags)

abbrev pub tests : Bool → Method → Bool
tests true = is_not_static
tests false = is_plain

abbrev pub passes : (Method → Bool) → Option Method → Bool
passes test None = false
passes test (Some m) = test m

-- the truth value says whether it is so
abbrev pub IsWhether : Type 0 → Bool → Type 0
IsWhether P true = P
IsWhether P false = P → ⊥

-- ---- what is answered

-- the first method of the class with this name and this descriptor stands at the place, and passes the test
pub record IsFirstOf (program : Program) (test : Method → Bool) (name : Name) (desc : Desc) (class place : ℕ) : Type 0 where
  pub first : method_place (methods_at program class) name desc ≡ Some place
  pub passed : passes test (slice_get (methods_at program class) place) ≡ true

-- the rows are those of the classes whose first method with this name and this descriptor passes the test, with the method's place
pub record DeclareFirst (program : Program) (test : Method → Bool) (name : Name) (desc : Desc) (rows : List MemberRow) : Type 0 where
  pub there : (row : MemberRow) → Contains rows row → row.class < length program
  pub each : (row : MemberRow) → Contains rows row → IsFirstOf program test name desc row.class row.place
  pub all : (class place : ℕ) → class < length program → IsFirstOf program test name desc class place → ((row : MemberRow) → Contains rows row → row.class ≡ class → ⊥) → ⊥

-- the same for the name and the descriptor of the method at a place
abbrev pub DeclareLike : Program → (Method → Bool) → ℕ → ℕ → List MemberRow → Type 0
DeclareLike program test class member rows = (m : Method) → slice_get (methods_at program class) member ≡ Some m → DeclareFirst program test m.name m.desc rows

-- the first method of another class with the name and the descriptor of the method at a place stands there
abbrev pub DeclaresLike : Program → (Method → Bool) → ℕ → ℕ → ℕ → ℕ → Type 0
DeclaresLike program test class member other place = (m : Method) → slice_get (methods_at program class) member ≡ Some m → IsFirstOf program test m.name m.desc other place

-- A walk through the tree of superclasses starts and stops each class. Of the classes between whose start and stop the class is, those count whose first method
-- with this name and this descriptor passes the test. None of them starts after the near one
pub record IsNearestFirst (program : Program) (test : Method → Bool) (name : Name) (desc : Desc) (class : ℕ) (near : Option ℕ) : Type 0 where
  pub start : ℕ → ℕ
  pub stop : ℕ → ℕ
  pub some : (k : ℕ) → k < length program → start k < stop k
  pub nested : (k above : ℕ) → k < length program → super_number program k ≡ Some above → (start above < start k) × (stop k ≤ stop above)
  pub covered : (k place : ℕ) → k < length program → IsFirstOf program test name desc k place → start k ≤ start class → start class < stop k → StartsFrom start near (start k)

-- the same for the name and the descriptor of the method at a place
abbrev pub IsNearestLike : Program → (Method → Bool) → ℕ → ℕ → ℕ → Option ℕ → Type 0
IsNearestLike program test class member below near = (m : Method) → slice_get (methods_at program class) member ≡ Some m → IsNearestFirst program test m.name m.desc below near

-- `first` is the place of the first method of the class with the name and the descriptor of the method at `member`
abbrev pub IsFirstLike : Program → ℕ → ℕ → ℕ → Type 0
IsFirstLike program class member first = (m : Method) → slice_get (methods_at program class) member ≡ Some m → method_place (methods_at program class) m.name m.desc ≡ Some first

-- ---- rows

abbrev pub place_key : MemberRow → ℕ
place_key row = pair_of row.class row.place

-- the rows of all methods, by numbers of texts
pub record AreMethods (program : Program) (rows : List MemberRow) : Type 0 where
  pub texts : Texts
  pub fields : List MemberRow
  pub first_methods : List MemberRow
  pub first_fields : List MemberRow
  pub are : IsDirectory program texts rows fields first_methods first_fields

-- of its class no row of these numbers stands before it, and its method passes the test
pub record IsTakable (program : Program) (test : Method → Bool) (rows : List MemberRow) (row : MemberRow) : Type 0 where
  pub first : IsLeast rows row.name row.desc row.class row.place
  pub passed : passes test (slice_get (methods_at program row.class) row.place) ≡ true

-- these are the rows that a call may take
pub record AreTakable (program : Program) (test : Method → Bool) (rows taken : List MemberRow) : Type 0 where
  pub each : (row : MemberRow) → Contains taken row → Contains rows row × IsTakable program test rows row
  pub all : (row : MemberRow) → Contains rows row → IsTakable program test rows row → Contains taken row
  pub order : AreInOrder taken

-- the row of the method at a place
pub record IsRowAt (rows : List MemberRow) (class place : ℕ) (row : MemberRow) : Type 0 where
  pub within : Contains rows row
  pub class_is : row.class ≡ class
  pub place_is : row.place ≡ place

-- the row that stands there is that of the method at a place
pub record IsPlaced (rows : List MemberRow) (class place at : ℕ) : Type 0 where
  pub within : at < length rows
  pub class_is : (row_at rows at).class ≡ class
  pub place_is : (row_at rows at).place ≡ place

-- rows in the order of their classes and places
pub record ArePlaces (rows : List MemberRow) : Type 0 where
  pub fit : All Fits rows
  pub ascend : IsNonDecreasingBy place_key rows

-- by where rows stand among the second ones, the least place of those of the first ones that have the same numbers
pub record AreFirsts (rows places : List MemberRow) (firsts : List ℕ) : Type 0 where
  pub long : length firsts ≡ length places
  pub each : (at : ℕ) → at < length places → IsLeast rows (row_at places at).name (row_at places at).desc (row_at places at).class (get_or firsts at 0)

-- the marks are those of the rows
pub record AreMarked (program : Program) (plain instance : List MemberRow) (marked : Marked) : Type 0 where
  pub spans_are : AreSpans program marked.spans
  pub plain_are : AreNear marked.spans plain marked.plain
  pub instance_are : AreNear marked.spans instance marked.instance

pub record IsCallTable (program : Program) (calls : CallTable) : Type 0 where
  pub rows : List MemberRow
  pub methods : AreMethods program rows
  pub places : (row : MemberRow) → Contains calls.places.items row → Contains rows row
  pub all_places : (row : MemberRow) → Contains rows row → Contains calls.places.items row
  pub ordered : ArePlaces calls.places.items
  pub firsts_are : AreFirsts rows calls.places.items calls.firsts.items
  pub plain : AreTakable program is_plain rows calls.plain.items
  pub instance : AreTakable program is_not_static rows calls.instance.items
  pub marked : IfSome calls.marked (AreMarked program calls.plain.items calls.instance.items)
