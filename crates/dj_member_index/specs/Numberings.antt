-- The texts that name members of the classes of a program, each by a number.
use Rattle.std.specs.Prelude.{◌≡◌, ℕ, ◌<◌, List, [], ◌∷◌, Contains, Option, Some, None, length, if◌then◌else◌}
use Rattle.std.specs.List.{AllPairs}
use Rattle.dj_names.specs.trusted.Types.{Name, same_name}
use Rattle.dj_names.specs.declared.descriptor.Desc.{Desc}
use Rattle.dj_model.specs.trusted.Program.{Program}
use Rattle.dj_declarations.specs.Members.{method_place, field_place}
use Rattle.dj_class_table.specs.Tables.{methods_at, fields_at}
use Rattle.dj_member_index.specs.declared.rows.MemberRow.{MemberRow}
use Rattle.dj_member_index.specs.DirectoryRows.{IsThere}

-- the classes, and texts with their numbers
pub record Numbering : Type 0 where
  pub program : Program
  pub texts : List (Name × ℕ)

abbrev pub number_among : List (Name × ℕ) → Name → Option ℕ
number_among [] text = None
number_among (t ∷ texts) text = if same_name t.0 text then Some t.1 else number_among texts text

-- the number of a text, where it has one
abbrev pub number_of : Numbering → Name → Option ℕ
number_of numbering text = number_among numbering.texts text

-- no two rows are of one class
abbrev pub ClassesDiffer : List MemberRow → Type 0
ClassesDiffer rows = AllPairs (λ one other. one.class ≡ other.class → ⊥) rows

-- the rows are of the classes that declare a method of this name and this descriptor
pub record DeclareMethods (program : Program) (name : Name) (desc : Desc) (rows : List MemberRow) : Type 0 where
  pub each : (row : MemberRow) → Contains rows row → method_place (methods_at program row.class) name desc ≡ None → ⊥
  pub all : (class : ℕ) → class < length program → ((row : MemberRow) → Contains rows row → row.class ≡ class → ⊥) → method_place (methods_at program class) name desc ≡ None
  pub first : (class place : ℕ) → class < length program → method_place (methods_at program class) name desc ≡ Some place → IsThere rows class place

-- the rows are of the classes that declare a field of this name and this descriptor
pub record DeclareFields (program : Program) (name : Name) (desc : Desc) (rows : List MemberRow) : Type 0 where
  pub each : (row : MemberRow) → Contains rows row → field_place (fields_at program row.class) name desc ≡ None → ⊥
  pub all : (class : ℕ) → class < length program → ((row : MemberRow) → Contains rows row → row.class ≡ class → ⊥) → field_place (fields_at program class) name desc ≡ None
