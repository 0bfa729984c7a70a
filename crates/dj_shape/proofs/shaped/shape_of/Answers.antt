use Rattle.std.proofs.Common.{Option, subst}
use Rattle.dj_shape_rule.specs.declared.judge.ShapeFault.{ShapeFault}
use Rattle.dj_shape.proofs.ShapeLaws.{IsAnswer, class_there, spelled_class, shaped, line}
use Rattle.dj_shape.proofs.shaped.shape_of.Goals as goal

pub returns-in-None : goal.returns-in-None
returns-in-None c =
    shaped c.args.image.now c.args.method.number c.method-member.result c.method-member.ensures c.args.parts.now c.requires.parts
    (subst (λ (o : Option ShapeFault). IsAnswer c.method-member.result.flags c.args.parts.now o) c.in-None.is c.in_ok-fault_of.ensures)

pub line_of-requires-clause-there : goal.line_of-requires-clause-there
line_of-requires-clause-there c = class_there c.args.image.now c.args.method.number c.method-member.result c.method-member.ensures

pub line_of-requires-clause-spelled : goal.line_of-requires-clause-spelled
line_of-requires-clause-spelled c =
    spelled_class c.args.image.now c.args.method.number c.method-member.result c.method-member.ensures c.args.parts.now c.requires.parts c.requires.spelled

pub returns-in_ok-line_of-in-Some : goal.returns-in_ok-line_of-in-Some
returns-in_ok-line_of-in-Some c =
    line c.args.image.now c.args.method.number c.method-member.result c.method-member.ensures c.args.parts.now c.requires.parts c.requires.kinds c.in-Some.fault
    (subst (λ (o : Option ShapeFault). IsAnswer c.method-member.result.flags c.args.parts.now o) c.in-Some.is c.in_ok-fault_of.ensures)
    _ c.in_ok-line_of-in-Some.ensures
