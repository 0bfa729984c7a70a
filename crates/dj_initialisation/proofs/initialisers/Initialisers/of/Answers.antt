use Rattle.std.proofs.Common.{◌≤◌, length, arith, ap}
use Rattle.dj_image.specs.Imaged.{program_of, typed_of}
use Rattle.dj_initialisation.proofs.Members.{types_longer}
use Rattle.dj_initialisation.proofs.InitialiserLaws.{so_far_more, so_far_all}
use Rattle.dj_initialisation.proofs.initialisers.Initialisers.of.Goals as goal

pub loop-class-init : goal.loop-class-init
loop-class-init c = record { count = ap length c.new-each.ensures.items; each_is = λ k below within. absurd (omega (arith, below)) }

pub loop-class-preserved : goal.loop-class-preserved
loop-class-preserved c =
    so_far_more c.args.image.now c.loop-class.class c.loop-class.each.items c.push.new.self.items c.in_ok-initialiser.initialiser c.loop-class.invariant c.in_ok-initialiser.ensures c.in_ok-push.ensures.items

pub returns : goal.returns
returns c =
    let longer = types_longer (typed_of c.args.image.now) in
    let end : length (program_of c.args.image.now) ≤ c.loop-class.class = omega (arith, longer, c.class_count-class-end.ensures) in
    so_far_all c.args.image.now c.loop-class.class c.loop-class.each.items end c.loop-class.invariant
