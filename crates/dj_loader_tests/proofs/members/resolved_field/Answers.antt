use Rattle.dj_declarations.specs.Members.{IsDescriptor}
use Rattle.dj_numbering.specs.Members.{resolved_field}
use Rattle.dj_image.specs.Imaged.{program_of, typed_of}
use Rattle.dj_loader_tests.proofs.Within.{resolved_field_within}
use Rattle.dj_loader_tests.proofs.members.resolved_field.Goals as goal

pub returns : goal.returns
returns c =
    resolved_field_within (IsDescriptor c.as_bytes-2.result.now) (program_of c.args.image.now)
    (resolved_field (typed_of c.args.image.now) c.args.class c.as_bytes.result.now c.as_bytes-2.result.now) c.resolve_field.result c.resolve_field.ensures.found c.resolve_field.ensures.none
