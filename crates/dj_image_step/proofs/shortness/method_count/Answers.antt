use Rattle.std.proofs.Common.{◌≡◌, ◌∙◌, length, refl, ap, arith}
use Rattle.std.proofs.lemmas.List.{length-map}
use Rattle.dj_model.specs.trusted.Program.{Class}
use Rattle.dj_declarations.specs.Files.{bare_class}
use Rattle.dj_resolution.specs.Linked.{Linked}
use Rattle.dj_numbering.specs.Members.{all_methods}
use Rattle.dj_image.specs.Imaged.{program_of}
use Rattle.dj_image.proofs.Bare.{bare_program}
use Rattle.dj_invocation.proofs.NativeFacts.{count_sum}
use Rattle.dj_image_step.proofs.shortness.method_count.Goals as goal

pub loop-class-init : goal.loop-class-init
unfolding all_methods
loop-class-init c = refl

pub loop-class-preserved : goal.loop-class-preserved
loop-class-preserved c =
    let same : c.classes-classes.result.now ≡ bare_program (program_of c.args.image.now) = c.classes-classes.ensures ∙ ap (λ (l : Linked). l.program) c.linker-linker.ensures in
    let long = ap (length {A = Class}) same in
    let all = length-map (program_of c.args.image.now) bare_class in
    count_sum (program_of c.args.image.now) c.classes-classes.result.now c.loop-class.class c.loop-class.count c.method_count.result c.in-Some.sum same
    (omega (arith, long, all, c.class_count-class-end.ensures.count)) c.loop-class.invariant c.method_count.ensures (omega arith)
