use Rattle.std.proofs.Common.{◌≡◌, ◌++◌, take}
use Rattle.std.specs.List.{flat_map}
use Rattle.dj_names.specs.trusted.Descriptors.{type_text}
use Rattle.dj_declarations.proofs.spelling.put_types.Given as goal

-- the types so far
abbrev pub invariant-loop-ty : goal.invariant-loop-ty
invariant-loop-ty l = l.text ≡ l.initial.text ++ flat_map type_text (take l.ty-index l.types)
