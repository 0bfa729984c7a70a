use Rattle.std.proofs.Common.{List}
use Rattle.dj_pool.specs.trusted.Pool.{Constant}
use Rattle.dj_class.specs.trusted.ClassFile.{MemberInfo}
use Rattle.dj_program.proofs.CodeLaws.{whole_is}
use Rattle.dj_program.proofs.code.method_code.Goals as goal

pub returns : goal.returns
returns c = λ (pool : List Constant) (m : MemberInfo) is. whole_is pool m c.args.code is
