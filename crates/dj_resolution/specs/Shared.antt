-- Members that many classes declare, and marks of these classes.
use Rattle.std.specs.Prelude.{◌≡◌, ℕ, ◌<◌, Bool, true, List, All, Option, Some, None, is_some, length}
use Rattle.dj_names.specs.declared.descriptor.Desc.{Desc}
use Rattle.dj_names.specs.trusted.Types.{Name}
use Rattle.dj_model.specs.trusted.Program.{Program}
use Rattle.dj_model.specs.trusted.Linking.{any_method, is_plain}
use Rattle.dj_declarations.specs.trusted.Files.{desc_in}
use Rattle.dj_declarations.specs.Members.{field_place, method_place}
use Rattle.dj_class_table.specs.Tables.{fields_at, methods_at}
use Rattle.dj_member_index.specs.Numberings.{Numbering}
use Rattle.dj_resolution.specs.declared.chains.Chains.{Chains}
use Rattle.dj_resolution.specs.declared.ranked.Ranks.{Ranks}
use Rattle.dj_resolution.specs.declared.shared.MarkedMember.{MarkedMember}
use Rattle.dj_resolution.specs.declared.shared.Shared.{Shared}
use Rattle.dj_resolution.specs.Bits.{in_bits}
use Rattle.dj_resolution.specs.Chained.{AreFieldChains, AreMethodChains}
use Rattle.dj_resolution.specs.Marked.{AreMarks}
use Rattle.dj_resolution.specs.Numbered.{AreTexts}
use Rattle.dj_resolution.specs.Numbers.{AreAbove, field_found, method_found}
use Rattle.dj_resolution.specs.Ranked.{AreRanksOf, rank_in}

-- ---- what marks say

-- a class that declares the member has this rank
pub record IsOfRank (declares : ℕ → Bool) (ranks : List ℕ) (bound rank : ℕ) : Type 0 where
  pub class : ℕ
  pub there : class < bound
  pub rank_is : rank_in ranks class ≡ rank
  pub declared : declares class ≡ true

-- of the ranks that have a bit, the bits are set of those of the classes that declare the member, and no others
pub record AreRankMarks (declares : ℕ → Bool) (ranks : List ℕ) (bound : ℕ) (marks : List ℕ) : Type 0 where
  pub marked : (k : ℕ) → k < bound → rank_in ranks k < bound → declares k ≡ true → in_bits marks (rank_in ranks k) ≡ true
  pub only : (rank : ℕ) → in_bits marks rank ≡ true → IsOfRank declares ranks bound rank

abbrev pub declares_method : Program → Name → Desc → ℕ → Bool
declares_method program name desc class = is_some (method_found program any_method name desc class)

-- of the methods like the one at a place, these are the marks of those that are neither private nor static
pub record IsPlainMarked (program : Program) (marked : MarkedMember) : Type 0 where
  pub there : marked.class < length program
  pub marks_are : (name : Name) (desc : Desc) → method_place (methods_at program marked.class) name desc ≡ Some marked.member → AreMarks (method_found program is_plain name desc) (length program) marked.words.items

-- these are the marks of all methods like the one at a place, by the ranks of their classes
pub record IsRankMarked (program : Program) (ranks : List ℕ) (marked : MarkedMember) : Type 0 where
  pub there : marked.class < length program
  pub marks_are : (name : Name) (desc : Desc) → method_place (methods_at program marked.class) name desc ≡ Some marked.member → AreRankMarks (declares_method program name desc) ranks (length program) marked.words.items

-- these are the marks of all fields like the one at a place
pub record IsFieldMarked (program : Program) (marked : MarkedMember) : Type 0 where
  pub there : marked.class < length program
  pub marks_are : (name : Name) (desc : Desc) → field_place (fields_at program marked.class) name desc ≡ Some marked.member → AreMarks (field_found program name desc) (length program) marked.words.items

-- ---- all of them

abbrev pub HavePlainMarks : Program → List MarkedMember → Type 0
HavePlainMarks program marked = All (IsPlainMarked program) marked

abbrev pub HaveRankMarks : Program → List ℕ → List MarkedMember → Type 0
HaveRankMarks program ranks marked = All (IsRankMarked program ranks) marked

abbrev pub HaveFieldMarks : Program → List MarkedMember → Type 0
HaveFieldMarks program marked = All (IsFieldMarked program) marked

pub record AreShared (program : Program) (ranks : List ℕ) (shared : Shared) : Type 0 where
  pub plain : HavePlainMarks program shared.plain.items
  pub declared : HaveRankMarks program ranks shared.declared.items
  pub fields : HaveFieldMarks program shared.fields.items

-- ---- the numbers of the texts of a member

-- a descriptor's text that has this number, as the name has the other one
pub record HasTexts (directory : Numbering) (name_number desc_number : ℕ) (name : Name) (desc : Desc) : Type 0 where
  pub text : List ℕ
  pub are : AreTexts directory name_number desc_number name text
  pub spelled : desc_in text ≡ desc

-- the name and the descriptor that have this place in the class have these numbers
abbrev pub AreNumbersAt : (Name → Desc → Option ℕ) → Numbering → ℕ → ℕ → ℕ → Type 0
AreNumbersAt place directory member name_number desc_number = (name : Name) (desc : Desc) → place name desc ≡ Some member → HasTexts directory name_number desc_number name desc

-- the same for a method or a field of a class that is there
pub record IsMethodNumbered (directory : Numbering) (class member name_number desc_number : ℕ) : Type 0 where
  pub there : class < length directory.program
  pub named : AreNumbersAt (method_place (methods_at directory.program class)) directory member name_number desc_number

pub record IsFieldNumbered (directory : Numbering) (class member name_number desc_number : ℕ) : Type 0 where
  pub there : class < length directory.program
  pub named : AreNumbersAt (field_place (fields_at directory.program class)) directory member name_number desc_number

-- ---- all that resolution looks in

pub record AreLists (program : Program) (lists : List (List ℕ)) (method_chains field_chains : Chains) (class_ranks : Ranks) (marks : Shared) : Type 0 where
  pub above : AreAbove program lists
  pub methods : AreMethodChains program method_chains
  pub fields : AreFieldChains program field_chains
  pub ranks : AreRanksOf program class_ranks
  pub shared : AreShared program class_ranks.ranks.items marks
