use Rattle.std.proofs.Common.{◌∙◌, List, length, ap, sym, subst}
use Rattle.dj_shape_rule.specs.declared.arena.LocalsPlace.{LocalsPlace}
use Rattle.dj_shape_rule.specs.Reading.{ArePlaces}
use Rattle.dj_shape_rule.proofs.Places.{place_of_all}
use Rattle.dj_shape_rule.proofs.reading.Reader.place.Goals as goal

pub returns : goal.returns
returns c =
    let slots = c.args.self.now.frames.slots.items in
    let entries = c.args.self.now.entries.items in
    place_of_all slots c.last_place.result entries (length c.deref.result.now) (ap length c.deref.ensures.value ∙ c.requires.count)
    (c.last_place.ensures slots entries (subst (λ (l : List LocalsPlace). ArePlaces slots l entries) (sym c.deref.ensures.value) c.requires.places))
