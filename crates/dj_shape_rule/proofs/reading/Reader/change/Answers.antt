use Rattle.std.proofs.Common.{◌≡◌, ◌∙◌, ℕ, List, Option, Some, length, take, ap, sym, subst, arith}
use Rattle.dj_names.specs.declared.descriptor.Kind.{Kind}
use Rattle.dj_model.specs.trusted.Kinds.{form_entries}
use Rattle.dj_shape_rule.specs.declared.arena.LocalsPlace.{LocalsPlace}
use Rattle.dj_shape_rule.specs.Reading.{ArePlaces, ChangesTo, frame_code, kept_entries}
use Rattle.dj_shape_rule.proofs.Places.{kept_few, kept_same, length_take, places_kept}
use Rattle.dj_shape_rule.proofs.reading.Reader.change.Goals as goal

pub place_all-requires-clause-few : goal.place_all-requires-clause-few
place_all-requires-clause-few c =
    let few = kept_few c.args.form.now c.len-before.result c.len.result in
    let first = length_take c.kept_entries.result c.args.self.now.places.items in
    omega (arith, ap length c.truncate.ensures.items, c.kept_entries.ensures, c.len.ensures, c.change.new.entries.ok.0)

pub place_all-requires-clause-places : goal.place_all-requires-clause-places
place_all-requires-clause-places c =
    let slots = c.args.self.now.frames.slots.items in
    let form = c.args.form.now in
    let old = c.args.self.now.entries.items in
    let new = c.change.new.entries.items in
    let n = c.kept_entries.result in
    let changes = rw c.in-Some.is at (c.in_ok-stack.ensures 0 0) in
    let before : c.len-before.result ≡ length old = omega (arith, c.len-before.ensures, c.args.self.now.entries.ok.0) in
    let now : c.len.result ≡ length new = omega (arith, c.len.ensures, c.change.new.entries.ok.0) in
    let n_is : n ≡ kept_entries form (length old) (length new) =
    c.kept_entries.ensures ∙ ap (λ (m : ℕ). kept_entries form m c.len.result) before ∙ ap (λ (m : ℕ). kept_entries form (length old) m) now in
    let same : take n new ≡ take n old =
    subst (λ (m : ℕ). take m new ≡ take m old) (sym n_is) (kept_same (frame_code 0 0 c.args.made.now) old form c.in-Some.stack.items new changes) in
    subst (λ (l : List LocalsPlace). ArePlaces slots l new) (sym c.truncate.ensures.items) (places_kept slots c.args.self.now.places.items old new n same c.requires.places)

pub returns-clause-changes : goal.returns-clause-changes
returns-clause-changes c = λ max_stack max_locals.
    let code = frame_code max_stack max_locals c.args.made.now in
    subst (λ (l : List (Option Kind)). ChangesTo (Some c.in-Some.stack.items) (form_entries code c.args.self.now.entries.items c.args.form.now) l) (sym c.place_all.ensures.entries)
    (rw c.in-Some.is at (c.in_ok-stack.ensures max_stack max_locals))
