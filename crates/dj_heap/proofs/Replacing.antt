-- One object of a list that is replaced, as the definitions see it.
use Rattle.std.proofs.Common.{◌≡◌, ℕ, ◌-◌, Bool, true, false, nat_eq, List, map, set, get_or, Option, Some, None, slice_get, option_map, refl, sym, ap, ◌∙◌, subst, if◌then◌else◌}
use Rattle.std.proofs.lemmas.List.{map-set}
use Rattle.std.proofs.lemmas.Option.{slice_get-map, get_or_from_slice_get}
use Rattle.dj_names.specs.trusted.Heaps as heaps
use Rattle.dj_names.specs.trusted.Heaps.{object_at}
use Rattle.dj_heap.specs.declared.object.Object.{Object}
use Rattle.dj_heap.specs.Heaps.{LimitedHeap, Replaces}
use Rattle.dj_heap.specs.Views.{object_view}

not_null : (b : Bool) (found : Option (heaps.Object ℕ)) (object : heaps.Object ℕ) → (if b then None else found) ≡ Some object → found ≡ Some object
not_null true found object e = absurd cc
not_null false found object e = e

seen : (found : Option Object) (object : heaps.Object ℕ) → option_map object_view found ≡ Some object → (o : Object) × (found ≡ Some o) × (object_view o ≡ object)
seen None object e = absurd cc
seen (Some o) object e = (o, refl, cc)

pub replaced : (objects : List Object) (r : ℕ) (old new d : Object) (change : heaps.Object ℕ → heaps.Object ℕ)
    → old ≡ get_or objects (r - 1) d → object_view new ≡ change (object_view old)
    → (object : heaps.Object ℕ) → object_at (map object_view objects) r ≡ Some object
    → map object_view (set objects (r - 1) new) ≡ set (map object_view objects) (r - 1) (change object)
replaced objects r old new d change is changed object at =
    let found = not_null (nat_eq r 0) (slice_get (map object_view objects) (r - 1)) object at in
    let here = seen (slice_get objects (r - 1)) object (sym (slice_get-map object_view objects (r - 1)) ∙ found) in
    let same : old ≡ here.0 = is ∙ get_or_from_slice_get objects (r - 1) here.0 d here.1 in
    let viewed : object_view new ≡ change object = changed ∙ ap change (ap object_view same ∙ here.2) in
    map-set object_view objects (r - 1) new ∙ ap (set (map object_view objects) (r - 1)) viewed

-- in a heap
pub replaces : (h : LimitedHeap) (objects : List Object) (used limit : ℕ)
    → record { heap = record { objects = map object_view objects; used = used }; limit = limit } ≡ h
    → (r : ℕ) (old new d : Object) (change : heaps.Object ℕ → heaps.Object ℕ)
    → old ≡ get_or objects (r - 1) d → object_view new ≡ change (object_view old)
    → Replaces h (record { heap = record { objects = map object_view (set objects (r - 1) new); used = used }; limit = limit }) r change
replaces h objects used limit is_view r old new d change is changed =
    subst (λ (h : LimitedHeap). Replaces h (record { heap = record { objects = map object_view (set objects (r - 1) new); used = used }; limit = limit }) r change) is_view
    (λ object at. ap (λ list. record { heap = record { objects = list; used = used }; limit = limit }) (replaced objects r old new d change is changed object at))
