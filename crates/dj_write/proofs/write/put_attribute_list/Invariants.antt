use Rattle.std.proofs.Common.{◌≡◌, ◌++◌, take, map}
use Rattle.std.specs.List.{flat_map}
use Rattle.dj_class.specs.trusted.ClassFile.{attribute_bytes}
use Rattle.dj_class.specs.Parts.{attribute_of}
use Rattle.dj_write.proofs.write.put_attribute_list.Given as goal

abbrev pub invariant-loop-attribute : goal.invariant-loop-attribute
invariant-loop-attribute l = l.out.items ≡ l.initial.out.items ++ flat_map attribute_bytes (map attribute_of (take l.attribute-index l.attributes))
