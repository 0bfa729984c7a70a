use Rattle.std.proofs.Common.{◌∙◌, length, ap, arith, inl, inr}
use Rattle.dj_model.specs.trusted.Program.{Class}
use Rattle.dj_field_holders.proofs.Holding.{array_reported, class_reported, counted}
use Rattle.dj_field_holders.proofs.superclasses.SuperclassesHolders.has_fields.Goals as goal

pub is_own_or_superclass-requires-clause-there : goal.is_own_or_superclass-requires-clause-there
is_own_or_superclass-requires-clause-there c =
    let long = ap (length {A = Class}) c.classes.ensures in
    omega (arith, long, c.class_count-count.ensures.count, c.if-count-class.false)

pub is_own_or_superclass-requires-clause-other : goal.is_own_or_superclass-requires-clause-other
is_own_or_superclass-requires-clause-other c =
    let long = ap (length {A = Class}) c.classes.ensures in
    omega (arith, long, c.class_count-count.ensures.count, c.if-count-declaring.false)

pub returns-then-count-class : goal.returns-then-count-class
returns-then-count-class c =
    let all = counted c.args.self.now.image.now c.linker-linker.result.now c.classes.result.now c.class_count-count.result c.linker-linker.ensures c.classes.ensures
    c.class_count-count.ensures.count in
    array_reported c.args.self.now.image.now c.are_settled.ensures c.args.class c.args.declaring c.requires (inl (omega (arith, all, c.if-count-class.true)))

pub returns-then-count-declaring : goal.returns-then-count-declaring
returns-then-count-declaring c =
    let all = counted c.args.self.now.image.now c.linker-linker.result.now c.classes.result.now c.class_count-count.result c.linker-linker.ensures c.classes.ensures
    c.class_count-count.ensures.count in
    array_reported c.args.self.now.image.now c.are_settled.ensures c.args.class c.args.declaring c.requires (inr (omega (arith, all, c.if-count-declaring.true)))

pub returns : goal.returns
returns c =
    let all = counted c.args.self.now.image.now c.linker-linker.result.now c.classes.result.now c.class_count-count.result c.linker-linker.ensures c.classes.ensures
    c.class_count-count.ensures.count in
    c.is_own_or_superclass.ensures
    ∙ class_reported c.args.self.now.image.now c.args.class c.args.declaring c.linker-linker.result.now c.linker-linker.ensures
    (omega (arith, all, c.if-count-class.false)) (omega (arith, all, c.if-count-declaring.false))
