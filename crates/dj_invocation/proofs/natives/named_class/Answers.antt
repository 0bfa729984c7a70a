use Rattle.std.proofs.Common.{arith}
use Rattle.dj_invocation.proofs.NativeFacts.{class_reported}
use Rattle.dj_invocation.proofs.natives.named_class.Goals as goal

pub returns : goal.returns
returns c = class_reported c.args.image.now c.linker-linker.result.now c.classes.result.now c.args.dims c.args.name.now c.class_named.result (omega arith) c.linker-linker.ensures c.classes.ensures c.class_named.ensures
