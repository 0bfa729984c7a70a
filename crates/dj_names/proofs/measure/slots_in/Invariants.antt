use Rattle.std.proofs.Common.{◌≡◌, sum_by, take}
use Rattle.dj_names.specs.trusted.Descriptors.{type_slots}
use Rattle.dj_names.proofs.measure.slots_in.Given as goal

-- the slots of the types so far
abbrev pub invariant-loop-param : goal.invariant-loop-param
invariant-loop-param l = l.slots ≡ sum_by type_slots (take l.param-index l.params)
