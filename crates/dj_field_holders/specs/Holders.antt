-- Which classes of an image have the fields that one of them declares.
use Rattle.std.specs.Prelude.{ℕ, Bool, false, Option, Some, None}
use Rattle.dj_names.specs.trusted.Types.{Name}
use Rattle.dj_model.specs.trusted.Linking.{most_classes}
use Rattle.dj_class_table.specs.Tables.{name_at}
use Rattle.dj_numbering.specs.Typed.{types_of}
use Rattle.dj_member_effects.specs.Numbering.{has_of}
use Rattle.dj_image.specs.Imaged.{Imaged, program_of, typed_of}

-- whether the class of a number, or one of its superclasses, has the name; no array has one, and where there is no name no class has it
abbrev pub has_named : Imaged → Option Name → ℕ → Bool
has_named imaged None class = false
has_named imaged (Some name) class = has_of (program_of imaged) (types_of (typed_of imaged)) name most_classes class

-- for the numbers of a declaring class and of another class, whether the other one is the declaring one or has it among its superclasses
abbrev pub holds : Imaged → ℕ → ℕ → Bool
holds imaged declaring class = has_named imaged (name_at (program_of imaged) declaring) class
