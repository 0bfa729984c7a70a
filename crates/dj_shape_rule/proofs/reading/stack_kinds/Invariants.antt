use Rattle.std.proofs.Common.{◌≡◌, take, Some}
use Rattle.dj_model.specs.trusted.Kinds.{stack_of}
use Rattle.dj_shape_rule.proofs.reading.stack_kinds.Given as goal

abbrev pub invariant-loop-entry : goal.invariant-loop-entry
invariant-loop-entry l = stack_of (take l.entry-index l.entries) ≡ Some l.stack.items
