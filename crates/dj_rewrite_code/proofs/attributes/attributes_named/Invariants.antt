use Rattle.std.proofs.Common.{◌≡◌, map, filter, take}
use Rattle.dj_class.specs.Parts.{attribute_of}
use Rattle.dj_early_rules.specs.trusted.Attributes.{is_named}
use Rattle.dj_rewrite_code.proofs.attributes.attributes_named.Given as goal

abbrev pub invariant-loop-attribute : goal.invariant-loop-attribute
invariant-loop-attribute l = l.found ≡ filter (is_named l.pool l.name) (map attribute_of (take l.attribute-index l.attributes))
