use Rattle.std.proofs.Common.{sym, ◌∙◌}
use Rattle.dj_numbering.specs.Typed.{types_of}
use Rattle.dj_image.specs.Imaged.{typed_of}
use Rattle.dj_image_effects.proofs.Takings.{component_holds}
use Rattle.dj_image_effects.proofs.asking.holds_elements.Goals as goal

pub returns-in-Ref : goal.returns-in-Ref
returns-in-Ref c = λ is reference. component_holds (types_of (typed_of c.args.image.now)) c.args.class c.component.result c.component.ensures (sym c.is_some.ensures ∙ is)
