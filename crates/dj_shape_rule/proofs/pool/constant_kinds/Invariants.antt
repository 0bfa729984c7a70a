use Rattle.std.proofs.Common.{◌≡◌, ◌∷◌, map, take}
use Rattle.dj_shape_rule.specs.declared.pool.ConstantKind.TheVariants as constants
use Rattle.dj_shape_rule.proofs.Keeping.{entry_kind}
use Rattle.dj_shape_rule.proofs.pool.constant_kinds.Given as goal

-- what is kept so far
abbrev pub invariant-loop-entry : goal.invariant-loop-entry
invariant-loop-entry l = l.kept.items ≡ constants.Other ∷ map (entry_kind l.pool) (take l.entry-index l.entries)
