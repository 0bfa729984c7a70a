use Rattle.dj_image.specs.Imaged.{program_of, typed_of}
use Rattle.dj_numbering.specs.Members.{special_of}
use Rattle.dj_invocation.proofs.Choices.{special_reported}
use Rattle.dj_invocation.proofs.Found.{number_there}
use Rattle.dj_invocation.proofs.choosing.special.Goals as goal

pub returns-clause-there : goal.returns-clause-there
returns-clause-there c = number_there (program_of c.args.image.now) c.special.result (special_of (typed_of c.args.image.now) c.args.method.number c.args.own) c.special.ensures

pub returns-clause-taken : goal.returns-clause-taken
returns-clause-taken c = λ m resolved e there. special_reported c.args.image.now c.args.own c.args.method m resolved c.special.result e there c.special.ensures
