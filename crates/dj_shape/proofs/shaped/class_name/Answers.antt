use Rattle.dj_shape.proofs.ShapeLaws.{type_within, named_there}
use Rattle.dj_shape.proofs.shaped.class_name.Goals as goal

pub name_of-requires : goal.name_of-requires
name_of-requires c = type_within c.args.image.now c.args.class c.requires

pub returns : goal.returns
returns c = named_there c.args.image.now c.args.class c.name_of.result.now c.requires c.name_of.ensures
