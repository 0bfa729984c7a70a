use Rattle.std.proofs.Common.{◌∙◌, map}
use Rattle.dj_names.specs.trusted.Library.{raw_library}
use Rattle.dj_class.specs.Views.{class_of}
use Rattle.dj_sandbox.proofs.LoadingLaws.{raw_has_string}
use Rattle.dj_sandbox.proofs.loading.raw_image.Goals as goal

pub image_from-requires-clause-fits : goal.image_from-requires-clause-fits
image_from-requires-clause-fits c = (raw_library, c.requires.table)

pub image_from-requires-clause-string : goal.image_from-requires-clause-string
image_from-requires-clause-string c = raw_has_string (map class_of c.args.views.now) c.args.linker c.requires.table c.requires.plain

pub returns-in-Ok-clause-program : goal.returns-in-Ok-clause-program
returns-in-Ok-clause-program c = c.in-Ok.ensures.program raw_library c.requires.table

pub returns-in-Ok-clause-prefix : goal.returns-in-Ok-clause-prefix
returns-in-Ok-clause-prefix c = c.in-Ok.ensures.prefix ∙ c.requires.plain
