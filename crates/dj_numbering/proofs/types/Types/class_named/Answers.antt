use Rattle.std.proofs.Common.{◌≡◌, List, map, sym, ap, ◌∙◌, subst}
use Rattle.dj_names.specs.trusted.Types.{Name}
use Rattle.dj_names.specs.trusted.Descriptors.{type_text}
use Rattle.dj_numbering.specs.declared.shapes.Shape.{Shape}
use Rattle.dj_numbering.specs.Kept.{DoTextsRise, text_in, types_kept}
use Rattle.dj_numbering.proofs.Rising.{texts_rise}
use Rattle.dj_numbering.proofs.types.Types.class_named.Goals as goal

pub number_in-requires-clause-rise : goal.number_in-requires-clause-rise
number_in-requires-clause-rise c =
    let kept = c.self.invariant.arrays_are in
    let lent : map (text_in c.deref.result.now) c.deref-2.result.now ≡ map type_text (types_kept c.self.inside.linker.program c.self.inside.kept) =
    ap (λ (wholes : List Name). map (text_in wholes) c.deref-2.result.now) c.deref.ensures.value ∙ ap (λ (shapes : List Shape). map (text_in c.self.inside.kept.wholes.items) shapes) c.deref-2.ensures.value ∙ kept.texts in
    subst DoTextsRise (sym lent) (texts_rise (types_kept c.self.inside.linker.program c.self.inside.kept) kept.are_arrays.rise)
