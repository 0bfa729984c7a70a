use Rattle.dj_image.specs.Imaged.{program_of}
use Rattle.dj_loader_tests.proofs.Nth.{nth_method}
use Rattle.dj_loader_tests.proofs.members.method_at.Goals as goal

pub returns : goal.returns
returns c = nth_method (program_of c.args.image.now) c.args.class c.args.at c.method_at.result c.method_at.ensures
