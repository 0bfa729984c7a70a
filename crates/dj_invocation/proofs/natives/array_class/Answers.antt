use Rattle.std.proofs.Common.{arith}
use Rattle.dj_numbering.specs.Typed.{types_of}
use Rattle.dj_image.specs.Imaged.{typed_of}
use Rattle.dj_invocation.proofs.NativeFacts.{chars_reported}
use Rattle.dj_invocation.proofs.natives.array_class.Goals as goal

pub returns-in-Char : goal.returns-in-Char
returns-in-Char c = chars_reported (types_of (typed_of c.args.image.now)) c.chars.result c.args.dims c.args.base (omega arith) c.in-Char.is c.chars.ensures
