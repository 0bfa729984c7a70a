use Rattle.std.proofs.Common.{◌≡◌, [], map, take, codes}
use Rattle.dj_class.specs.Parts.{attribute_of}
use Rattle.dj_early_rules.specs.trusted.Attributes.{bodies_of}
use Rattle.dj_loader.proofs.values.value_body.Given as goal

-- none so far
abbrev pub invariant-loop-attribute : goal.invariant-loop-attribute
invariant-loop-attribute l = bodies_of l.pool (codes "ConstantValue") (map attribute_of (take l.attribute-index l.attribute-items)) ≡ []
