use Rattle.std.proofs.Common.{◌≡◌, drop, take, reverse, List}
use Rattle.dj_names.specs.declared.descriptor.Ty.{Ty}
use Rattle.dj_model.specs.trusted.Members.{are_instances}
use Rattle.dj_stack.specs.Frames.{top_operands}
use Rattle.dj_image.specs.Imaged.{program_of}
use Rattle.dj_invocation.specs.Natives.{AreTyped}
use Rattle.dj_invocation.specs.Receivers.{typed_heap}
use Rattle.dj_invocation.proofs.arguments.are_instances.Given as goal

-- what is left of the types and the arguments decides the rest
abbrev pub invariant-loop-at : goal.invariant-loop-at
invariant-loop-at l = (types : List Ty) → AreTyped l.image (top_operands l.frames) l.count l.classes types
    → are_instances (program_of l.image) l.image.prefix (typed_heap l.image l.heap.heap) (drop l.at types) (drop l.at (reverse (take l.count (top_operands l.frames))))
    ≡ are_instances (program_of l.image) l.image.prefix (typed_heap l.image l.heap.heap) types (reverse (take l.count (top_operands l.frames)))
