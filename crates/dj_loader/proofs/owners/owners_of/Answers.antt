use Rattle.std.proofs.Common.{◌≡◌, ℕ, ◌+◌, List, Option, length, map, take, sym, ap, ◌∙◌, subst}
use Rattle.std.proofs.lemmas.List.{with_items_is}
use Rattle.dj_class.specs.Views.{class_of}
use Rattle.dj_loader.specs.Filed.{AreOwners}
use Rattle.dj_loader.proofs.Owned.{owners_next}
use Rattle.dj_loader.proofs.owners.owners_of.Goals as goal

pub loop-place-preserved : goal.loop-place-preserved
loop-place-preserved c =
    let table = c.args.table.now in
    let views = c.args.views.now in
    let place = c.loop-place.place in
    let count : length c.note_owner.new.owners ≡ c.loop-place.owners.len = c.note_owner.auto.owners ∙ ap (λ (xs : List (Option ℕ)). length xs) c.deref_mut.ensures.value ∙ sym c.loop-place.owners.ok.0 in
    subst (AreOwners table (map class_of (take (place + 1) views))) (sym (with_items_is c.loop-place.owners c.note_owner.new.owners count))
    (owners_next table views place c.index-views-place.result c.deref_mut.result.now c.note_owner.new.owners c.loop-place-test.true c.index-views-place.is c.note_owner.ensures
    (subst (AreOwners table (map class_of (take place views))) (sym c.deref_mut.ensures.value) c.loop-place.invariant))
