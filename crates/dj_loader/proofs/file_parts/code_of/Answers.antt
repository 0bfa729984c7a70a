use Rattle.std.proofs.Common.{subst}
use Rattle.dj_class.specs.Members.{member_of}
use Rattle.dj_early_rules.specs.declared.code.MethodBody.{MethodBody}
use Rattle.dj_early_rules.specs.Passes.{IsMethodView}
use Rattle.dj_loader.proofs.Coded.{bodiless_reported, code_reported}
use Rattle.dj_loader.proofs.file_parts.code_of.Goals as goal

pub returns-in-Bodiless-clause-code : goal.returns-in-Bodiless-clause-code
returns-in-Bodiless-clause-code c =
    bodiless_reported c.args.pool.now (member_of c.args.method.now) c.requires.sound
    (subst (λ (code : MethodBody). IsMethodView c.args.pool.now (member_of c.args.method.now) code) c.in-Bodiless.is c.in_ok-code_of_method.ensures).1

pub returns-in-Whole-clause-code : goal.returns-in-Whole-clause-code
returns-in-Whole-clause-code c =
    let whole = subst (λ (code : MethodBody). IsMethodView c.args.pool.now (member_of c.args.method.now) code) c.in-Whole.is c.in_ok-code_of_method.ensures in (
      code_reported c.args.pool.now (member_of c.args.method.now) c.requires.sound whole.body whole.one,
      c.method_code.ensures c.args.pool.now (member_of c.args.method.now) whole,
    )
