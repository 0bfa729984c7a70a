-- Laws of layout, whatever is laid out.
use Rattle.std.specs.Prelude.{◌≡◌, ℕ, ◌≤◌, ◌⊎◌, List, length}
use Rattle.dj_ops.specs.declared.rows.CatchRow.{CatchRow}
use Rattle.dj_labels.specs.declared.labelled.Labelled.{Labelled}
use Rattle.dj_labels.specs.trusted.Labels.{IsLabelled}
use Rattle.dj_labels.specs.Labels.{IsWellFormed}
use Rattle.dj_layout.specs.declared.laid.Laid.{Laid}
use Rattle.dj_layout.specs.declared.errors.LayError.{LayError}
use Rattle.dj_layout.specs.trusted.Layouts.{IsLaidOut, most_bytes}
use Rattle.dj_layout.specs.Faults.{Refuses}

-- labelled code is laid out in one way at most
abbrev pub OneLayout : Type 0
OneLayout = (labelled : Labelled) (a b : Laid) → IsLaidOut labelled a → IsLaidOut labelled b → a ≡ b

-- the labels of what was laid out are the code again
abbrev pub LabelsAgain : Type 0
LabelsAgain = (labelled other : Labelled) (laid : Laid) → IsLaidOut labelled laid → IsLabelled laid.code laid.table other → other ≡ labelled

-- where there is a fault no code that is short enough has these labels, whoever wrote it
abbrev pub NoCodeWhereRefused : Type 0
NoCodeWhereRefused = (labelled : Labelled) (code : List ℕ) (table : List CatchRow) (e : LayError)
    → length code ≤ most_bytes → IsLabelled code table labelled → Refuses labelled e → ⊥

-- there is one first fault at most
abbrev pub OneFault : Type 0
OneFault = (labelled : Labelled) (a b : LayError) → Refuses labelled a → Refuses labelled b → a ≡ b

pub record HasLayout (labelled : Labelled) : Type 0 where
  pub laid : Laid
  pub is : IsLaidOut labelled laid

pub record HasFault (labelled : Labelled) : Type 0 where
  pub error : LayError
  pub cause : Refuses labelled error

-- well-formed code has a layout or a first fault
abbrev pub LayoutOrFault : Type 0
LayoutOrFault = (labelled : Labelled) → IsWellFormed labelled → HasLayout labelled ⊎ HasFault labelled
