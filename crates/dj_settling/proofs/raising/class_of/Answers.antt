use Rattle.std.proofs.Common.{◌++◌, refl}
use Rattle.dj_names.specs.trusted.Values.{raised_class}
use Rattle.dj_settling.proofs.RaiseLaws.{class_lacks, class_reported}
use Rattle.dj_settling.proofs.raising.class_of.Goals as goal

pub returns : goal.returns
returns c = class_reported c.args.image.now c.args.raised (c.args.image.now.prefix ++ raised_class c.args.raised) c.in-Some.class c.requires refl c.in-Some.ensures

pub unreachable-requires : goal.unreachable-requires
unreachable-requires c = class_lacks c.args.image.now c.args.raised (c.args.image.now.prefix ++ raised_class c.args.raised) c.requires refl c.in-None.ensures
