use Rattle.std.proofs.Common.{Some, ap, subst, ◌∙◌, ◌<◌, length, arith}
use Rattle.std.proofs.lemmas.List.{get_or_default}
use Rattle.dj_numbering.specs.Typed.{Typed}
use Rattle.dj_numbering.specs.Numbered.{AreObjectPlaces}
use Rattle.dj_numbering.proofs.types.Types.place.Goals as goal

pub returns : goal.returns
returns c =
    let items = c.self.inside.places.items in
    let places = subst (λ (typed : Typed). AreObjectPlaces typed.program items) c.self.view_is c.self.invariant.places_are in
    let long = places.long in
    let there = c.requires in
    let within : c.args.field.number < length items = omega (arith, long, there) in
    ap Some (c.index.ensures ∙ get_or_default items c.args.field.number c.index.result.now 0 within) ∙ places.each c.args.field.number c.requires
