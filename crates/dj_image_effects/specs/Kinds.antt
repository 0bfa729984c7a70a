-- Used by the code alone: kinds of fields by the first letters of their descriptors.
use Rattle.std.specs.Prelude.{ℕ, ◌||◌, List, [], ◌∷◌, Option, Some, None, nat_eq, if◌then◌else◌}
use Rattle.dj_names.specs.declared.descriptor.Kind.{Kind}
use Rattle.dj_names.specs.declared.descriptor.Kind.TheVariants as kinds

-- J, L or a bracket, and F, D or a parenthesis
abbrev pub kind_by : List ℕ → Option Kind
kind_by [] = Some kinds.Int
kind_by (byte ∷ rest) =
    if nat_eq byte 74 then Some kinds.Long
    else if nat_eq byte 76 || nat_eq byte 91 then Some kinds.Ref
    else if nat_eq byte 70 || nat_eq byte 68 || nat_eq byte 40 then None
    else Some kinds.Int
