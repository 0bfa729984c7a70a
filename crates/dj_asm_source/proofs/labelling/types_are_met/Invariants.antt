use Rattle.std.proofs.Common.{◌≡◌, map, drop}
use Rattle.std.specs.List.{list_all, flat_map}
use Rattle.dj_asm_source.specs.TypeViews.{type_view}
use Rattle.dj_asm_source.specs.trusted.Labels.{type_uses}
use Rattle.dj_asm_source.specs.LabelReading.{is_met}
use Rattle.dj_asm_source.proofs.labelling.types_are_met.Given as goal

-- the types that are left decide
abbrev pub invariant-loop-ty : goal.invariant-loop-ty
invariant-loop-ty l = list_all (is_met l.table l.count) (flat_map type_uses (map type_view (drop l.ty-index l.types))) ≡ list_all (is_met l.table l.count) (flat_map type_uses (map type_view l.types))
