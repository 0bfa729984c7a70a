use Rattle.std.proofs.Common.{◌≡◌, drop}
use Rattle.dj_model.specs.trusted.Members.{kinds_of}
use Rattle.dj_shape_rule.proofs.Keeping.{prefixed}
use Rattle.dj_shape_rule.proofs.pool.kinds_of.Given as goal

-- the kinds so far
abbrev pub invariant-loop-ty : goal.invariant-loop-ty
invariant-loop-ty l = prefixed l.kinds.items (kinds_of (drop l.ty-index l.types)) ≡ kinds_of l.types
