use Rattle.std.proofs.Common.{sym, ◌∙◌}
use Rattle.dj_image_effects.specs.declared.uses.ClassUse.TheVariants as classes
use Rattle.dj_image_step.proofs.UsedLaws.{class_used_by}
use Rattle.dj_image_step.proofs.uses.new_class.Goals as goal

pub returns-in-New : goal.returns-in-New
returns-in-New c = λ named is. class_used_by c.args.image.now c.args.instr.now c.args.class named classes.New (sym c.in-New.is ∙ c.class_use.ensures) is

pub returns-in-NewArray : goal.returns-in-NewArray
returns-in-NewArray c = λ named is. class_used_by c.args.image.now c.args.instr.now c.args.class named classes.NewArray (sym c.in-NewArray.is ∙ c.class_use.ensures) is

pub returns-in-Cast : goal.returns-in-Cast
returns-in-Cast c = λ named is. class_used_by c.args.image.now c.args.instr.now c.args.class named classes.Cast (sym c.in-Cast.is ∙ c.class_use.ensures) is

pub returns-in-Instance : goal.returns-in-Instance
returns-in-Instance c = λ named is. class_used_by c.args.image.now c.args.instr.now c.args.class named classes.Instance (sym c.in-Instance.is ∙ c.class_use.ensures) is

pub returns-in-Other : goal.returns-in-Other
returns-in-Other c = λ named is. class_used_by c.args.image.now c.args.instr.now c.args.class named classes.Other (sym c.in-Other.is ∙ c.class_use.ensures) is

pub returns-in-Plain : goal.returns-in-Plain
returns-in-Plain c = λ named is. class_used_by c.args.image.now c.args.instr.now c.args.class named classes.Plain (sym c.in-Plain.is ∙ c.class_use.ensures) is
