-- The groups of the code of one method of an image.
use Rattle.std.specs.Prelude.{◌≡◌, ℕ, ◌<◌, ◌^◌, ⊤, List, [], take, length, Option, Some, None, unwrap_or, is_some, IsTrue, slice_get}
use Rattle.std.specs.List.{AllByRecursion}
use Rattle.dj_names.specs.trusted.Types.{Name, class_type}
use Rattle.dj_labels.specs.declared.labelled.Labelled.{Labelled}
use Rattle.dj_labels.specs.Labels.{IsWellFormed}
use Rattle.dj_labels.specs.Faults.{IsFirstWithout}
use Rattle.dj_model.specs.trusted.Instructions.{Instruction, New}
use Rattle.dj_model.specs.trusted.Program.{Program, Code, Runs}
use Rattle.dj_model.specs.trusted.Linking.{FoundMethod}
use Rattle.dj_groups.specs.Groups.{Group, inserted, groups_of}
use Rattle.dj_groups.specs.Laws.{FitsObject}
use Rattle.dj_class_table.specs.Tables.{class_number}
use Rattle.dj_program.specs.trusted.Codes.{code_in}
use Rattle.dj_numbering.specs.Members.{all_methods}
use Rattle.dj_image.specs.Imaged.{Imaged, program_of}
use Rattle.dj_image.specs.Codes.{PooledCode, code_at}
use Rattle.dj_emit.specs.declared.error.EmitError.{EmitError}
use Rattle.dj_emit.specs.declared.error.EmitError.TheVariants as errors

-- ---- the groups

abbrev pub no_code : PooledCode
no_code = record { pool = []; parts = record { max_stack = 0; max_locals = 0; labelled = record { code = []; ranges = [] }; frames = None } }

-- the code of the method of this number, with the constants of its class
abbrev pub pooled_at : Imaged → ℕ → PooledCode
pooled_at imaged method = unwrap_or (code_at imaged method) no_code

abbrev pub labelled_at : Imaged → ℕ → Labelled
labelled_at imaged method = (pooled_at imaged method).parts.labelled

abbrev pub groups_at : Imaged → ℕ → List Group
groups_at imaged method = groups_of (program_of imaged) (code_in (pooled_at imaged method).pool (pooled_at imaged method).parts)

-- ---- when they are asked

-- the class of a `new` is one of the program
abbrev pub IsKnownNew : Program → Instruction → Type 0
IsKnownNew program (New class) = (name : Name) × (class ≡ class_type name) × IsTrue (is_some (class_number program name))
IsKnownNew program i = ⊤

pub record HasGroups (imaged : Imaged) (method : ℕ) : Type 0 where
  pub found : FoundMethod
  pub there : slice_get (all_methods (program_of imaged)) method ≡ Some found
  -- the method has code
  pub code : Code
  pub runs : found.method.body ≡ Runs code
  -- as all code is that is read
  pub well : IsWellFormed (labelled_at imaged method)
  pub few : length (labelled_at imaged method).code < 2 ^ 16
  pub news : AllByRecursion (IsKnownNew (program_of imaged)) code.instructions

-- ---- too large objects

-- the object that the instruction makes takes as many bytes as sipush can push, or fewer
abbrev pub FitsSipush : Group → Type 0
FitsSipush g = AllByRecursion FitsObject (inserted g)

-- the refused instruction is the first whose object takes more
abbrev pub IsRefusal : List Group → EmitError → Type 0
IsRefusal gs (errors.BigObject number) = (g : Group) × IsFirstWithout FitsSipush gs number g
IsRefusal gs errors.Memory = ⊤
