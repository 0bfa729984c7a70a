use Rattle.dj_image_step.proofs.TableLaws.{throwable_reported}
use Rattle.dj_image_step.proofs.tables.throwable.Goals as goal

pub returns : goal.returns
returns c =
    throwable_reported c.args.image.now c.linker-linker.result.now c.classes.result.now c.base.result c.throwable_name.result.now c.class_named.result c.linker-linker.ensures c.base.ensures c.classes.ensures
    c.throwable_name.ensures c.class_named.ensures
