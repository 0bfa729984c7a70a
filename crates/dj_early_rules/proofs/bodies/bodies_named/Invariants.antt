use Rattle.std.proofs.Common.{◌≡◌, map, take}
use Rattle.dj_class.specs.Parts.{attribute_of}
use Rattle.dj_early_rules.specs.trusted.Attributes.{bodies_of}
use Rattle.dj_early_rules.proofs.bodies.bodies_named.Given as goal

-- the bodies so far
abbrev pub invariant-loop-attribute : goal.invariant-loop-attribute
invariant-loop-attribute l = map (λ body. body.now) l.bodies.items ≡ bodies_of l.pool l.name (map attribute_of (take l.attribute-index l.attributes))
