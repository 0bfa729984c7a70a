-- Used by the code alone: what an array's class says of its elements.
use Rattle.std.specs.Prelude.{◌≡◌, ℕ, true, List}
use Rattle.dj_names.specs.declared.descriptor.Ty.{Ty}
use Rattle.dj_names.specs.declared.run.Element.{Element}
use Rattle.dj_library_types.specs.Numbered.{type_at, holds_references}
use Rattle.dj_model.specs.trusted.Natives.{is_reference}

-- where the elements are references, the class is that of an array of references
abbrev pub HoldsElements : List Ty → ℕ → Element → Type 0
HoldsElements types class element = is_reference element ≡ true → holds_references (type_at types class) ≡ true
