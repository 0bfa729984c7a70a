use Rattle.std.proofs.Common.{◌≡◌, map, take}
use Rattle.dj_class.specs.Parts.{attribute_of}
use Rattle.dj_rewrite_code.specs.Answers.{with_body}
use Rattle.dj_rewrite_code.proofs.attributes.with_bodies.Given as goal

abbrev pub invariant-loop-attribute : goal.invariant-loop-attribute
invariant-loop-attribute l = l.made ≡ map (with_body l.body) (map attribute_of (take l.attribute-index l.attributes))
