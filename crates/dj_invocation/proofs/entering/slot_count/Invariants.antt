use Rattle.std.proofs.Common.{◌≡◌, ◌≤◌, ◌*◌, take, length}
use Rattle.dj_model.specs.trusted.Numbers.{is_long}
use Rattle.dj_model.specs.trusted.Values.{in_slots}
use Rattle.dj_invocation.proofs.entering.slot_count.Given as goal

-- the slots of the values so far
abbrev pub invariant-loop-value : goal.invariant-loop-value
invariant-loop-value l = record {
  so_far : l.count ≡ length (in_slots is_long (take l.value-index l.values));
  few : l.count ≤ 2 * l.value-index;
}
