-- The nearest class that declares a member, by spans of classes in a walk through the tree of superclasses.
use Rattle.std.specs.Prelude.{◌≡◌, ℕ, ◌-◌, ◌<◌, ◌≤◌, List, Contains, Option, Some, None, IfSome, length, get_or}
use Rattle.dj_model.specs.trusted.Program.{Program}
use Rattle.dj_class_table.specs.Tables.{super_number}
use Rattle.dj_member_index.specs.declared.rows.MemberRow.{MemberRow}
use Rattle.dj_member_index.specs.declared.spans.Spans.{Spans}
use Rattle.dj_member_index.specs.declared.marks.SpanMarks.{SpanMarks}
use Rattle.dj_member_index.specs.DirectoryRows.{AreInOrder}

abbrev pub start_in : Spans → ℕ → ℕ
start_in spans class = get_or spans.starts.items class 4294967295

abbrev pub end_in : Spans → ℕ → ℕ
end_in spans class = get_or spans.ends.items class 4294967295

abbrev pub class_in : Spans → ℕ → ℕ
class_in spans step = get_or spans.classes.items step 4294967295

-- the class is entered after the one above it, and left before
abbrev pub IsWithin : Spans → ℕ → Option ℕ → Type 0
IsWithin spans class above = IfSome above (λ k. (start_in spans k < start_in spans class) × (end_in spans class ≤ end_in spans k))

-- the class is entered, then left, both within its superclass
pub record IsNested (program : Program) (spans : Spans) (class : ℕ) : Type 0 where
  pub own : class_in spans (start_in spans class) ≡ class
  pub some : start_in spans class < end_in spans class
  pub within : IsWithin spans class (super_number program class)

abbrev pub AreSpans : Program → Spans → Type 0
AreSpans program spans = (class : ℕ) → class < length program → IsNested program spans class

-- ---- marks

-- the mark of the class of a row at a step
abbrev pub mark_of : MemberRow → ℕ → MemberRow
mark_of row step = record { name = row.name; desc = row.desc; class = step; place = row.class }

-- the start of each row's class is among the marks
pub record AreMarks (spans : Spans) (rows marks : List MemberRow) : Type 0 where
  pub order : AreInOrder marks
  pub starts : (row : MemberRow) → Contains rows row → Contains marks (mark_of row (start_in spans row.class))

-- the mark is that of the start of a span
pub record IsStart (spans : Spans) (mark : MemberRow) : Type 0 where
  pub at : mark.class ≡ start_in spans mark.place
  pub own : class_in spans (start_in spans mark.place) ≡ mark.place

-- the mark is not before the end of a span
pub record IsEnd (spans : Spans) (mark : MemberRow) : Type 0 where
  pub after : start_in spans mark.place ≤ mark.class
  pub past : end_in spans mark.place ≤ mark.class
  pub own : class_in spans (start_in spans mark.place) ≡ mark.place

pub record IsLast (nearest : List (Option ℕ)) (class : ℕ) : Type 0 where
  pub some : 0 < length nearest
  pub is : get_or nearest (length nearest - 1) None ≡ Some class

-- the mark at the place names the class, or says that there is none
pub record IsReported (nearest : List (Option ℕ)) (at : ℕ) (near : Option ℕ) : Type 0 where
  pub there : at < length nearest
  pub is : near ≡ get_or nearest at None

-- a class is named that starts at the step or after it
abbrev pub StartsFrom : (ℕ → ℕ) → Option ℕ → ℕ → Type 0
StartsFrom start None step = ⊥
StartsFrom start (Some class) step = step ≤ start class

-- of the spans that are open after the mark at a place, of its numbers, none starts after that of the class
abbrev pub Covers : Spans → List MemberRow → ℕ → Option ℕ → Type 0
Covers spans marks at near = (mark other : MemberRow) (k : ℕ) → at < length marks → get_or marks at mark ≡ mark → k ≤ at → get_or marks k other ≡ other → IsStart spans other
    → other.name ≡ mark.name → other.desc ≡ mark.desc → mark.class < end_in spans other.place → StartsFrom (start_in spans) near other.class

-- the same for the first marks
abbrev pub AreNearest : Spans → List MemberRow → List (Option ℕ) → Type 0
AreNearest spans marks nearest = (at : ℕ) → at < length nearest → Covers spans marks at (get_or nearest at None)

-- of the spans of these numbers that start before the step, and don't end before it, none starts after that of the class
abbrev pub IsNearestIn : Spans → List MemberRow → ℕ → ℕ → ℕ → Option ℕ → Type 0
IsNearestIn spans marks name desc step near = (mark : MemberRow) → Contains marks mark → IsStart spans mark → mark.name ≡ name → mark.desc ≡ desc → mark.class < step → step ≤ end_in spans mark.place
    → StartsFrom (start_in spans) near mark.class

pub record AreNear (spans : Spans) (rows : List MemberRow) (marks : SpanMarks) : Type 0 where
  pub marks_are : AreMarks spans rows marks.rows.items
  pub nearest_are : AreNearest spans marks.rows.items marks.nearest.items
