use Rattle.std.specs.Prelude.{◌^◌, ◌<◌}
use Rattle.std.specs.List.{AllWithin}
use Rattle.dj_frames.proofs.conditions.are_short.Given as goal

abbrev pub invariant-loop-address : goal.invariant-loop-address
invariant-loop-address l = AllWithin (λ address. address < 2 ^ 16) l.fn.addresses 0 l.address-index
