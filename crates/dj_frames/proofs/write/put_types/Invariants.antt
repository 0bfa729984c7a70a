use Rattle.std.proofs.Common.{◌≡◌, ◌++◌, take}
use Rattle.std.specs.List.{flat_map}
use Rattle.dj_frames.specs.trusted.StackMaps.{type_bytes}
use Rattle.dj_frames.proofs.write.put_types.Given as goal

abbrev pub invariant-loop-item : goal.invariant-loop-item
invariant-loop-item l = l.out ≡ l.initial.out ++ flat_map (type_bytes l.fn.starts) (take l.item-index l.types)
