use Rattle.std.proofs.Common.{◌≡◌, ◌++◌, map, take}
use Rattle.std.specs.List.{flat_map}
use Rattle.dj_names.specs.Types.{type_map, in_sandbox}
use Rattle.dj_names.specs.trusted.Descriptors.{type_text}
use Rattle.dj_rename.proofs.spelled.put_types.Given as goal

-- the types so far
abbrev pub invariant-loop-ty : goal.invariant-loop-ty
invariant-loop-ty l = l.text ≡ l.initial.text ++ flat_map type_text (map (type_map in_sandbox) (take l.ty-index l.types))
