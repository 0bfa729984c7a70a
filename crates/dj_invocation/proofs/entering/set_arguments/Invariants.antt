use Rattle.std.proofs.Common.{◌≡◌, take, length}
use Rattle.dj_model.specs.trusted.Numbers.{is_long}
use Rattle.dj_model.specs.trusted.Values.{in_slots}
use Rattle.dj_model.specs.trusted.Initialisation.{padded}
use Rattle.dj_stack.specs.Frames.{SameButLocals, top_locals}
use Rattle.dj_invocation.proofs.entering.set_arguments.Given as goal

-- the arguments so far
abbrev pub invariant-loop-argument : goal.invariant-loop-argument
invariant-loop-argument l = record {
  slot_is : l.slot ≡ length (in_slots is_long (take l.argument-index l.arguments));
  locals : top_locals l.frames ≡ padded (length (top_locals l.initial.frames)) (in_slots is_long (take l.argument-index l.arguments));
  rest : SameButLocals l.initial.frames l.frames;
}
