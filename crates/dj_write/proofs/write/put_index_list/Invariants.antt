use Rattle.std.proofs.Common.{◌≡◌, ◌++◌, take}
use Rattle.std.specs.List.{flat_map}
use Rattle.dj_cursor.specs.trusted.Spelling.{u2}
use Rattle.dj_write.proofs.write.put_index_list.Given as goal

abbrev pub invariant-loop-index : goal.invariant-loop-index
invariant-loop-index l = l.out.items ≡ l.initial.out.items ++ flat_map u2 (take l.index-index l.indexes)
