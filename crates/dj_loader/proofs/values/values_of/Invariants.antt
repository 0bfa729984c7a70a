use Rattle.std.proofs.Common.{◌≡◌, map, take}
use Rattle.dj_class.specs.Members.{member_of}
use Rattle.dj_program.specs.trusted.Naming.{constant_in}
use Rattle.dj_loader.specs.Filed.{reported_value}
use Rattle.dj_loader.proofs.values.values_of.Given as goal

-- those of the fields so far
abbrev pub invariant-loop-field : goal.invariant-loop-field
invariant-loop-field l = map (reported_value l.pool) l.values.items ≡ map (constant_in l.pool) (map member_of (take l.field-index l.fields))
