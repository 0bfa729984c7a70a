-- Used by the code alone: the group of the instruction of a number.
use Rattle.std.specs.Prelude.{◌≡◌, ℕ, ◌<◌, ◌^◌, Bool, List, map, length, Some, Result, Ok, Err, slice_get}
use Rattle.std.specs.List.{AllByRecursion}
use Rattle.std.specs.Global.{Vec}
use Rattle.dj_names.specs.trusted.Types.{Name, class_type}
use Rattle.dj_names.specs.trusted.Heaps.{instance_size}
use Rattle.dj_ops.specs.declared.instruction.Instr.{Instr}
use Rattle.dj_ops.specs.declared.instruction.Instr.TheVariants as instrs
use Rattle.dj_ops.specs.trusted.Instructions.{IsProper}
use Rattle.dj_labels.specs.declared.labelled.Labelled.{Labelled}
use Rattle.dj_labels.specs.Labels.{IsWellFormed}
use Rattle.dj_model.specs.trusted.Instructions.{Instruction}
use Rattle.dj_groups.specs.Groups.{Inserted, Group, group_of, charge_of}
use Rattle.dj_program.specs.trusted.Naming.{instruction_in}
use Rattle.dj_image.specs.Imaged.{Imaged, program_of}
use Rattle.dj_image.specs.Codes.{code_at}
use Rattle.dj_emit.specs.declared.error.EmitError.{EmitError}
use Rattle.dj_emit.specs.declared.error.EmitError.TheVariants as errors
use Rattle.dj_emit.specs.declared.parts.Charge.{Charge}
use Rattle.dj_emit.specs.declared.parts.GroupPart.{GroupPart}
use Rattle.dj_emit.specs.Parts.{charge_list, group_seen, groups_seen}
use Rattle.dj_emit.specs.Groups.{FitsSipush, IsKnownNew, IsRefusal, pooled_at, labelled_at, groups_at}

-- an instruction of the method's code, with what its index names
abbrev pub named_at : Imaged → ℕ → Instr → Instruction
named_at imaged method instr = instruction_in (pooled_at imaged method).pool instr

-- the method has this code, which can be put in groups
pub record IsCodeAt (imaged : Imaged) (method : ℕ) (labelled : Labelled) : Type 0 where
  pub own : code_at imaged method ≡ Some (pooled_at imaged method)
  pub is : labelled_at imaged method ≡ labelled
  pub well : IsWellFormed labelled
  pub few : length labelled.code < 2 ^ 16
  pub news : AllByRecursion (IsKnownNew (program_of imaged)) (map (named_at imaged method) labelled.code)

-- the instruction stands there
pub record StandsAt (imaged : Imaged) (method number : ℕ) (instr : Instr) : Type 0 where
  pub own : code_at imaged method ≡ Some (pooled_at imaged method)
  pub stands : slice_get (labelled_at imaged method).code number ≡ Some instr
  pub proper : IsProper instr
  pub known : IsKnownNew (program_of imaged) (named_at imaged method instr)

-- a `new` stands there
pub record IsNewAt (imaged : Imaged) (method number : ℕ) : Type 0 where
  pub index : ℕ
  pub stands : StandsAt imaged method number (instrs.Class 187 index)

-- ---- answers

-- the charge of the instruction, or that its object is too large
abbrev pub IsCharge : Imaged → ℕ → ℕ → Instr → Result Charge EmitError → Type 0
IsCharge imaged method number instr (Ok charge) = charge_list charge ≡ charge_of (program_of imaged) (named_at imaged method instr)
IsCharge imaged method number instr (Err (errors.BigObject n)) =
    (n ≡ number) × ((arrives : Bool) → FitsSipush (group_of (program_of imaged) arrives (named_at imaged method instr)) → ⊥)
IsCharge imaged method number instr (Err errors.Memory) = ⊥

abbrev pub ObjectAt : Imaged → ℕ → ℕ → Result Charge EmitError → Type 0
ObjectAt imaged method number result = (index : ℕ) → StandsAt imaged method number (instrs.Class 187 index) → IsCharge imaged method number (instrs.Class 187 index) result

abbrev pub PartAt : Imaged → ℕ → ℕ → Instr → Bool → Result GroupPart EmitError → Type 0
PartAt imaged method number instr arrives (Ok part) = group_seen part ≡ group_of (program_of imaged) arrives (named_at imaged method instr)
PartAt imaged method number instr arrives (Err (errors.BigObject n)) =
    (n ≡ number) × (FitsSipush (group_of (program_of imaged) arrives (named_at imaged method instr)) → ⊥)
PartAt imaged method number instr arrives (Err errors.Memory) = ⊥

abbrev pub PartsAt : Imaged → ℕ → Result (Vec GroupPart) EmitError → Type 0
PartsAt imaged method (Ok parts) = groups_seen parts.items ≡ groups_at imaged method
PartsAt imaged method (Err e) = IsRefusal (groups_at imaged method) e
