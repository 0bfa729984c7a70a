-- The groups of a method's code as its class file has it, before it is part of an image.
use Rattle.std.specs.Prelude.{◌≡◌, ℕ, zero, suc, ◌+◌, ◌<◌, ◌≤◌, ◌^◌, Bool, true, false, if◌then◌else◌, nat_eq, List, [], map, length, Option, Some, None, Result, Ok, Err}
use Rattle.std.specs.List.{AllByRecursion, flat_map, range_with_len}
use Rattle.std.specs.Global.{Vec}
use Rattle.dj_ops.specs.declared.instruction.Instr.{Instr}
use Rattle.dj_ops.specs.declared.instruction.Instr.TheVariants as instrs
use Rattle.dj_labels.specs.declared.labelled.Protected.{Protected}
use Rattle.dj_labels.specs.declared.labelled.Labelled.{Labelled}
use Rattle.dj_labels.specs.Labels.{IsWellFormed}
use Rattle.dj_pool.specs.trusted.Pool.{Constant, IsPool}
use Rattle.dj_model.specs.trusted.Instructions.{Instruction}
use Rattle.dj_model.specs.trusted.Program.{Program}
use Rattle.dj_groups.specs.Groups.{Group, group_at, group_of, charge_of, groups_of, starts, owns}
use Rattle.dj_groups.specs.Grouped.{protected_pieces, labels_in_groups}
use Rattle.dj_program.specs.trusted.Naming.{instruction_in}
use Rattle.dj_program.specs.trusted.Codes.{CodeParts, code_in}
use Rattle.dj_emit.specs.declared.error.EmitError.{EmitError}
use Rattle.dj_emit.specs.declared.error.EmitError.TheVariants as errors
use Rattle.dj_emit.specs.declared.spelling.Grouped.{Grouped}
use Rattle.dj_emit.specs.declared.parts.Charge.{Charge}
use Rattle.dj_emit.specs.declared.parts.GroupPart.{GroupPart}
use Rattle.dj_emit.specs.Parts.{charge_list, group_seen, groups_seen}
use Rattle.dj_emit.specs.Groups.{FitsSipush, IsKnownNew, IsRefusal}

-- ---- the groups

-- neither the room nor the frames matter to groups
abbrev pub bare_parts : Labelled → CodeParts
bare_parts labelled = record { max_stack = 0; max_locals = 0; labelled = labelled; frames = None }

abbrev pub groups_in : Program → List Constant → Labelled → List Group
groups_in program pool labelled = groups_of program (code_in pool (bare_parts labelled))

-- the code is labelled code of a class with these constants, and its `new` name classes of the program
pub record CanBeGrouped (program : Program) (pool : List Constant) (labelled : Labelled) : Type 0 where
  pub valid : IsPool pool
  pub well : IsWellFormed labelled
  pub few : length labelled.code < 2 ^ 16
  pub news : AllByRecursion (IsKnownNew program) (map (instruction_in pool) labelled.code)

-- ---- what is answered

pub record IsGrouped (first : ℕ) (gs : List Group) (labelled : Labelled) (made : Grouped) : Type 0 where
  pub code : made.code ≡ labels_in_groups first gs labelled
  pub start : made.start ≡ starts gs
  pub own : made.own ≡ owns gs
  -- a class file has room for its rows
  pub few : length (labels_in_groups first gs labelled).ranges ≤ 65535

-- nothing is made where a class file has no room for the rows
abbrev pub AnswersGroups : ℕ → List Group → Labelled → Option Grouped → Type 0
AnswersGroups first gs labelled (Some made) = IsGrouped first gs labelled made
AnswersGroups first gs labelled None = 65535 < length (labels_in_groups first gs labelled).ranges

-- ---- used by the code alone: the group of an instruction

-- the class's index, where the instruction is `new`
abbrev pub new_if : Bool → ℕ → Option ℕ
new_if true index = Some index
new_if false index = None

abbrev pub new_class_of : Instr → Option ℕ
new_class_of (instrs.Class op index) = new_if (nat_eq op 187) index
new_class_of instr = None

abbrev pub IsChargeOf : Program → Instruction → ℕ → Result Charge EmitError → Type 0
IsChargeOf program i number (Ok charge) = charge_list charge ≡ charge_of program i
IsChargeOf program i number (Err (errors.BigObject n)) = (n ≡ number) × ((arrives : Bool) → FitsSipush (group_of program arrives i) → ⊥)
IsChargeOf program i number (Err errors.Memory) = ⊥

abbrev pub IsPartOf : Program → Instruction → ℕ → Bool → Result GroupPart EmitError → Type 0
IsPartOf program i number arrives (Ok part) = group_seen part ≡ group_of program arrives i
IsPartOf program i number arrives (Err (errors.BigObject n)) = (n ≡ number) × (FitsSipush (group_of program arrives i) → ⊥)
IsPartOf program i number arrives (Err errors.Memory) = ⊥

abbrev pub ArePartsOf : List Group → Result (Vec GroupPart) EmitError → Type 0
ArePartsOf gs (Ok parts) = groups_seen parts.items ≡ gs
ArePartsOf gs (Err e) = IsRefusal gs e

-- ---- used by the code alone: how many rows there are

-- of n groups from one on, those whose instruction is the first of a handler
abbrev pub arrivals_from : List Group → ℕ → ℕ → ℕ
arrivals_from gs k zero = 0
arrivals_from gs k (suc n) = (if (group_at gs k).arrives then 1 else 0) + arrivals_from gs (suc k) n

-- for each number, how many are before it
abbrev pub arrivals_before : List Group → List ℕ
arrivals_before gs = map (arrivals_from gs 0) (range_with_len 0 (length gs + 1))

abbrev pub rows_of : List Group → List Protected → List Protected
rows_of gs ranges = flat_map (protected_pieces gs) ranges
