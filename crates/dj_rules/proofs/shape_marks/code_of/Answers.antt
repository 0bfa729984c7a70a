use Rattle.dj_class.specs.Members.{member_of}
use Rattle.dj_program.specs.Views.{parts_of}
use Rattle.dj_rules.proofs.ShapeLaws.{few_read}
use Rattle.dj_rules.proofs.shape_marks.code_of.Goals as goal

pub returns-clause-few : goal.returns-clause-few
returns-clause-few c =
    few_read c.args.pool.now (member_of c.args.method.now) c.args.code (parts_of c.method_code.result) c.requires (c.method_code.ensures c.args.pool.now (member_of c.args.method.now) c.requires)
