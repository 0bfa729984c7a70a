use Rattle.std.proofs.Common.{◌≤◌, length, arith}
use Rattle.dj_image.specs.Imaged.{program_of, typed_of}
use Rattle.dj_initialisation.proofs.Members.{types_longer}
use Rattle.dj_initialisation.proofs.PlaceLaws.{classes_more, classes_all}
use Rattle.dj_initialisation.proofs.places.StaticPlaces.of.Goals as goal

pub loop-class-preserved : goal.loop-class-preserved
loop-class-preserved c =
    classes_more (program_of c.args.image.now) c.loop-class.class c.loop-class.each.items c.add_class.new.each.items c.loop-class.count c.in_ok-count.count c.loop-class.invariant c.in_ok-count.ensures

pub returns : goal.returns
returns c =
    let longer = types_longer (typed_of c.args.image.now) in
    let end : length (program_of c.args.image.now) ≤ c.loop-class.class = omega (arith, longer, c.class_count-class-end.ensures) in
    classes_all (program_of c.args.image.now) c.loop-class.class _ c.requires end c.loop-class.invariant
