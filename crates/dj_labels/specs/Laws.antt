-- Laws of labelled code that hold whatever is labelled.
use Rattle.std.specs.Prelude.{◌≡◌, ℕ, ◌<◌, ◌⊎◌, List, slice_index}
use Rattle.dj_ops.specs.declared.rows.CatchRow.{CatchRow}
use Rattle.dj_labels.specs.declared.labelled.Labelled.{Labelled}
use Rattle.dj_labels.specs.declared.errors.CodeError.{CodeError}
use Rattle.dj_labels.specs.trusted.Labels.{IsLabelled}
use Rattle.dj_labels.specs.Labels.{IsWellFormed}
use Rattle.dj_labels.specs.Faults.{Refuses}

-- code and a table have one labelling at most
abbrev pub OneLabelling : Type 0
OneLabelling = (code : List ℕ) (table : List CatchRow) (a b : Labelled) → IsLabelled code table a → IsLabelled code table b → a ≡ b

-- what is labelled is well formed
abbrev pub LabelledIsWellFormed : Type 0
LabelledIsWellFormed = (code : List ℕ) (table : List CatchRow) (labelled : Labelled) → IsLabelled code table labelled → IsWellFormed labelled

-- where there is a fault nothing is labelled
abbrev pub NoLabelsWhereRefused : Type 0
NoLabelsWhereRefused = (code : List ℕ) (table : List CatchRow) (labelled : Labelled) (e : CodeError) → IsLabelled code table labelled → Refuses code table e → ⊥

-- there is one first fault at most
abbrev pub OneFault : Type 0
OneFault = (code : List ℕ) (table : List CatchRow) (a b : CodeError) → Refuses code table a → Refuses code table b → a ≡ b

pub record HasLabels (code : List ℕ) (table : List CatchRow) : Type 0 where
  pub labelled : Labelled
  pub is : IsLabelled code table labelled

pub record HasFault (code : List ℕ) (table : List CatchRow) : Type 0 where
  pub error : CodeError
  pub cause : Refuses code table error

-- bytes and a table have labels or a first fault
abbrev pub LabelsOrFault : Type 0
LabelsOrFault = (code : List ℕ) (table : List CatchRow) → ((i : ℕ) → slice_index code i < 256) → HasLabels code table ⊎ HasFault code table
