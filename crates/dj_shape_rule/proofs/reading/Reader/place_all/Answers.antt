use Rattle.std.proofs.Common.{◌≡◌, ◌∙◌, ◌<◌, ℕ, suc, List, [], ◌∷◌, get_or, length, take, ap, sym, subst, arith}
use Rattle.std.proofs.lemmas.List.{length-append}
use Rattle.dj_model.specs.trusted.Kinds.{entry_slots}
use Rattle.dj_shape_rule.specs.declared.arena.LocalsPlace.{LocalsPlace}
use Rattle.dj_shape_rule.specs.Arena.{IsAt}
use Rattle.dj_shape_rule.specs.Reading.{ArePlaces}
use Rattle.dj_shape_rule.proofs.Places.{grows_more, next_place, places_grown, places_more}
use Rattle.dj_shape_rule.proofs.Links.{at_in}
use Rattle.dj_shape_rule.proofs.reading.Reader.place_all.Goals as goal

pub add_entry-requires : goal.add_entry-requires
add_entry-requires c =
    let r = c.loop-self.self in
    let slots = r.frames.slots.items in
    let entries = r.entries.items in
    at_in slots c.last_place.result _ (c.last_place.ensures slots entries (subst (λ (l : List LocalsPlace). ArePlaces slots l entries) (sym c.deref.ensures.value) c.loop-self.invariant.places))

pub loop-self-preserved : goal.loop-self-preserved
loop-self-preserved c =
    let r = c.loop-self.self in
    let slots = r.frames.slots.items in
    let entries = r.entries.items in
    let places = r.places.items in
    let new = c.add_entry.new.frames.slots.items in
    let place = c.in_ok-place.place in
    let grows = c.add_entry.ensures.grows in
    let test : length places < length entries = omega (arith, c.loop-self-test.true, c.len.ensures, c.len-in-loop-self.ensures, r.places.ok.0, r.entries.ok.0) in
    let at : IsAt slots c.last_place.result (entry_slots (take (length places) entries)) =
    subst (λ (n : ℕ). IsAt slots c.last_place.result (entry_slots (take n entries))) (ap length c.deref.ensures.value)
    (c.last_place.ensures slots entries (subst (λ (l : List LocalsPlace). ArePlaces slots l entries) (sym c.deref.ensures.value) c.loop-self.invariant.places)) in
    let index : c.len-in-loop-self-2.result ≡ length places = omega (arith, c.len-in-loop-self-2.ensures, r.places.ok.0) in
    let entry = c.index-entry.result.now in
    let is : entry ≡ get_or entries (length places) entry = c.index-entry.ensures ∙ ap (λ (n : ℕ). get_or entries n entry) index in
    let next : IsAt new place (entry_slots (take (suc (length places)) entries)) =
    next_place slots new c.last_place.result place entries (length places) entry test is at c.in_ok-place.ensures.added in
    let count = ap length c.in_ok-push.ensures.items ∙ length-append places (place ∷ []) in
    record {
      few = omega (arith, count);
      places = subst (λ (l : List LocalsPlace). ArePlaces new l entries) (sym c.in_ok-push.ensures.items)
          (places_more new places place entries (places_grown slots new places entries r.frames.linked grows.0 c.loop-self.invariant.places) next);
      entries = c.loop-self.invariant.entries;
      grows = grows_more c.args.self.now.frames r.frames c.add_entry.new.frames c.loop-self.invariant.grows grows;
    }
