use Rattle.dj_declarations.specs.Members.{IsDescriptor}
use Rattle.dj_numbering.specs.Members.{resolved_method}
use Rattle.dj_image.specs.Imaged.{program_of, typed_of}
use Rattle.dj_loader_tests.proofs.Within.{resolved_method_within}
use Rattle.dj_loader_tests.proofs.members.resolved_method.Goals as goal

pub returns : goal.returns
returns c =
    resolved_method_within (IsDescriptor c.as_bytes-2.result.now) (program_of c.args.image.now)
    (resolved_method (typed_of c.args.image.now) c.args.class c.as_bytes.result.now c.as_bytes-2.result.now) c.resolve_method.result c.resolve_method.ensures.found c.resolve_method.ensures.none
