use Rattle.dj_numbering.specs.Members.{selected}
use Rattle.dj_image.specs.Imaged.{program_of, typed_of}
use Rattle.dj_loader_tests.proofs.Within.{selected_within}
use Rattle.dj_loader_tests.proofs.members.selected_method.Goals as goal

pub returns : goal.returns
returns c = selected_within (program_of c.args.image.now) (selected (typed_of c.args.image.now) c.args.method.number c.args.class) c.select.result c.select.ensures
