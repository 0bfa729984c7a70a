-- Laws of groups.
use Rattle.std.specs.Prelude.{◌≡◌, ℕ, ◌+◌, ◌^◌, ◌<◌, ◌≤◌, ⊤, Bool, not, ◌&&◌, ◌||◌, nat_le, nat_lt, List, map, length, Some, slice_get}
use Rattle.std.specs.List.{list_any, AllByRecursion}
use Rattle.dj_names.specs.Types.{in_sandbox}
use Rattle.dj_names.specs.trusted.Library.{deterministic_library}
use Rattle.dj_names.specs.Library.{sandbox_library}
use Rattle.dj_labels.specs.declared.labelled.Labelled.{Labelled}
use Rattle.dj_labels.specs.Labels.{IsWellFormed}
use Rattle.dj_model.specs.trusted.Instructions.{Instruction}
use Rattle.dj_model.specs.trusted.Program.{Class}
use Rattle.dj_model.specs.trusted.Libraries.{joined, library_program}
use Rattle.dj_model.specs.Program.{class_map}
use Rattle.dj_groups.specs.Groups.{Inserted, ObjectBytes, Group, inserted, size, start, group_at, pieces, spelled, regrouped}
use Rattle.dj_groups.specs.Rewritten.{inserted_instruction, own_instruction, rewritten_code, rewritten}
use Rattle.dj_groups.specs.Grouped.{labels_in_groups}

-- ---- places

-- part j of the group of the instruction k stands j after the group's start
abbrev pub StandsInGroup : Type 0
StandsInGroup = (gs : List Group) (is : List Instruction) (k j : ℕ) (i : Instruction) → k < length gs → slice_get is k ≡ Some i → j < size (group_at gs k)
    → slice_get (regrouped inserted_instruction (own_instruction (start gs)) gs is) (start gs k + j) ≡ slice_get (spelled inserted_instruction (own_instruction (start gs)) (group_at gs k, i)) j

-- ---- ranges

-- a number is in a range
abbrev pub is_in : ℕ → ℕ × ℕ → Bool
is_in n p = nat_le p.0 n && nat_lt n p.1

-- what a range of instructions leaves to part j of the group k
abbrev pub keeps : List Group → ℕ → ℕ → Bool
keeps gs k j = not (group_at gs k).arrives || nat_le (length (inserted (group_at gs k))) j

-- The pieces of a range have a part of a group where the range has its instruction, unless the part is inserted before the first instruction of a handler.
abbrev pub InPieces : Type 0
InPieces = (gs : List Group) (from end k j : ℕ) → from < end → j < size (group_at gs k)
    → list_any (is_in (start gs k + j)) (pieces gs from end) ≡ (is_in k (from, end) && keeps gs k j)

-- ---- labelled code

-- what is inserted fits its fields
abbrev pub FitsObject : Inserted → Type 0
FitsObject (ObjectBytes n) = n ≤ 32767
FitsObject x = ⊤

-- labelled code in groups is well formed, where the code is, the calls have indexes and no object is too large
abbrev pub GroupedIsWellFormed : Type 0
GroupedIsWellFormed = (first : ℕ) (gs : List Group) (labelled : Labelled) → length gs ≡ length labelled.code → first + 25 < 2 ^ 16
    → AllByRecursion (λ g. AllByRecursion FitsObject (inserted g)) gs → IsWellFormed labelled → IsWellFormed (labels_in_groups first gs labelled)

-- ---- programs

-- the rewritten classes of files, joined with the library of rewritten classes, are the rewritten program of these files and the deterministic library
abbrev pub ProgramRewritten : Type 0
ProgramRewritten = (classes : List Class)
    → joined (map (class_map in_sandbox (rewritten_code (joined classes (library_program deterministic_library)))) classes) (library_program sandbox_library)
    ≡ rewritten (joined classes (library_program deterministic_library))
