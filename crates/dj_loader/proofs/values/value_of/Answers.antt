use Rattle.dj_class.specs.Members.{member_of}
use Rattle.dj_image.specs.Parts.{constant_of_value}
use Rattle.dj_loader.proofs.FieldValues.{value_reported}
use Rattle.dj_loader.proofs.values.value_of.Goals as goal

pub returns : goal.returns
returns c =
    value_reported c.args.pool.now (member_of c.args.field.now) c.in_ok-body.body.now (constant_of_value c.args.pool.now c.value_of_body.result)
    c.in_ok-body.ensures c.value_of_body.ensures
