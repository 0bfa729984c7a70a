use Rattle.std.proofs.Common.{◌≡◌, ◌++◌, take, map}
use Rattle.std.specs.List.{flat_map}
use Rattle.dj_class.specs.trusted.ClassFile.{member_bytes}
use Rattle.dj_class.specs.Members.{member_of}
use Rattle.dj_write.proofs.write.put_member_list.Given as goal

abbrev pub invariant-loop-member : goal.invariant-loop-member
invariant-loop-member l = l.out.items ≡ l.initial.out.items ++ flat_map member_bytes (map member_of (take l.member-index l.members))
