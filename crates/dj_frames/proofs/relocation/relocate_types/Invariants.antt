use Rattle.std.proofs.Common.{◌≡◌, map, take}
use Rattle.dj_frames.specs.Moves.{moved_type}
use Rattle.dj_frames.proofs.relocation.relocate_types.Given as goal

abbrev pub invariant-loop-item : goal.invariant-loop-item
invariant-loop-item l = l.moved ≡ map (moved_type l.fn.own) (take l.item-index l.fn.types)
