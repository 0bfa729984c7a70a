use Rattle.dj_image.specs.Imaged.{program_of}
use Rattle.dj_loader_tests.proofs.Nth.{nth_field}
use Rattle.dj_loader_tests.proofs.members.field_at.Goals as goal

pub returns : goal.returns
returns c = nth_field (program_of c.args.image.now) c.args.class c.args.at c.field_at.result c.field_at.ensures
