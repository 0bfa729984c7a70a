-- Used by the code alone: marks of the rules that parts of a file violate, before lines are made of them.
use Rattle.std.specs.Prelude.{◌≡◌, ℕ, ◌<◌, ◌⊎◌, Bool, IsTrue, List, Option, Some, None, slice_get, Contains}
use Rattle.dj_ops.specs.declared.instruction.Instr.{Instr}
use Rattle.dj_pool.specs.trusted.Pool.{Constant}
use Rattle.dj_class.specs.trusted.ClassFile.{MemberInfo}
use Rattle.dj_labels.specs.declared.labelled.Protected.{Protected}
use Rattle.dj_labels.specs.declared.labelled.Labelled.{Labelled}
use Rattle.dj_report.specs.declared.report.Violation.{Violation}
use Rattle.dj_file_rules.specs.Lines.{pair_text}
use Rattle.dj_early_rules.specs.declared.marks.MarkPlace.{MarkPlace}
use Rattle.dj_early_rules.specs.declared.marks.Mark.{Mark}
use Rattle.dj_early_rules.specs.declared.judged.JudgedText.{JudgedText}
use Rattle.dj_early_rules.specs.Judged.{first_in}
use Rattle.dj_early_rules.specs.trusted.Methods.{InstrViolates, CatchesError, CodeViolates}
use Rattle.dj_early_rules.specs.trusted.Rules.{line_at}

abbrev pub mark_at : MarkPlace → ℕ → Mark
mark_at place rule = record { place = place; rule = rule }

-- the place of the names, at an instruction or as a whole
abbrev pub place_of : ℕ × ℕ → Option ℕ → MarkPlace
place_of names number = record { name = names.0; desc = names.1; number = number }

-- marks at a place of the rules of a condition
abbrev pub MarksAt : MarkPlace → (ℕ → Type 0) → Mark → Type 0
MarksAt place IsSuch mark = (mark.place ≡ place) × IsSuch mark.rule

-- marks of these names, with numbers and rules of a condition
abbrev pub MarksOf : ℕ × ℕ → (Option ℕ → ℕ → Type 0) → Mark → Type 0
MarksOf names IsSuch mark = (mark.place ≡ place_of names mark.place.number) × IsSuch mark.place.number mark.rule

-- one of the first n instructions violates the rule
pub record ViolatesBelow (count : ℕ) (pool : List Constant) (code : List Instr) (number : Option ℕ) (rule : ℕ) : Type 0 where
  pub at : ℕ
  pub below : at < count
  pub number_is : number ≡ Some at
  pub instr : Instr
  pub stands : slice_get code at ≡ Some instr
  pub such : InstrViolates pool instr rule

-- a handler violates the rule
abbrev pub RangeViolates : List Constant → Protected → Option ℕ → ℕ → Type 0
RangeViolates pool range number rule = (number ≡ Some range.handler) × CatchesError pool range.catch_type × (rule ≡ 11)

-- the indexes that stand for the names of the member
abbrev pub names_in : List JudgedText → MemberInfo → ℕ × ℕ
names_in texts m = (first_in texts m.name, first_in texts m.desc)

-- the line of a mark
abbrev pub IsMarkLine : List ℕ → List Constant → Mark → Violation → Type 0
IsMarkLine path pool mark v = v ≡ line_at path (pair_text pool (mark.place.name, mark.place.desc)) mark.place.number mark.rule

-- marks of the handlers of a member of these names
abbrev pub IsAmongRanges : ℕ × ℕ → List Constant → List Protected → Mark → Type 0
IsAmongRanges names pool ranges mark = (range : Protected) × Contains ranges range × MarksOf names (RangeViolates pool range) mark

-- the code violates the rule at the instruction of this number
pub record CodeViolatesAt (pool : List Constant) (labelled : Labelled) (number : Option ℕ) (rule : ℕ) : Type 0 where
  pub at : ℕ
  pub number_is : number ≡ Some at
  pub such : CodeViolates pool labelled at rule

-- marks of labelled code of a member of these names
abbrev pub CodeMark : ℕ × ℕ → List Constant → Labelled → Mark → Type 0
CodeMark names pool labelled = MarksOf names (CodeViolatesAt pool labelled)

-- rule 12 where `float` is true and rule 16 where `interface_code` is, for a member as a whole
abbrev pub RuledWhole : Bool → Bool → Option ℕ → ℕ → Type 0
RuledWhole float interface_code number rule =
    (number ≡ None) × ((IsTrue float × (rule ≡ 12)) ⊎ (IsTrue interface_code × (rule ≡ 16)))

-- marks of members that violate rules
abbrev pub AreMarksOf : List JudgedText → (MemberInfo → Option ℕ → ℕ → Type 0) → List MemberInfo → Mark → Type 0
AreMarksOf texts Violates members mark = (m : MemberInfo) × Contains members m × MarksOf (names_in texts m) (Violates m) mark
