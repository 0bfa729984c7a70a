use Rattle.std.proofs.Common.{◌≡◌, take, length}
use Rattle.dj_numbering.specs.Members.{all_methods}
use Rattle.dj_image.specs.Imaged.{program_of}
use Rattle.dj_invocation.proofs.natives.method_count.Given as goal

-- the methods of the classes so far
abbrev pub invariant-loop-class : goal.invariant-loop-class
invariant-loop-class l = l.count ≡ length (all_methods (take l.class (program_of l.image)))
