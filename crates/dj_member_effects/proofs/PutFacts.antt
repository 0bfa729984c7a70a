-- Bits that are put at a place of an instance.
use Rattle.std.proofs.Common.{◌≡◌, ◌≤◌, ◌-◌, ℕ, Bool, true, false, List, length, set, Some, None, slice_get, nat_eq, if◌then◌else◌, refl, sym, ap, subst, ◌∙◌, arith}
use Rattle.std.proofs.lemmas.List.{set_past}
use Rattle.std.proofs.lemmas.Option.{get_or_from_slice_get}
use Rattle.std.proofs.lemmas.List.{set-get_or}
use Rattle.dj_names.specs.trusted.Heaps.{Object, Instance, Heap, object_at}
use Rattle.dj_heap.specs.Heaps.{LimitedHeap, Replaces, with_field}
use Rattle.dj_member_effects.specs.Fields.{HasFields, PutsField}

pub puts_bits : (old new : LimitedHeap) (r at bits : ℕ) → Replaces old new r (λ object. with_field object at bits) → PutsField old new r at bits
puts_bits old new r at bits put class fields there = put (Instance class fields) there

-- where it is there already nothing is put
same_in : (heap : Heap ℕ) (r : ℕ) (object : Object ℕ) → object_at heap.objects r ≡ Some object → set heap.objects (r - 1) object ≡ heap.objects
same_in heap r object there = go (nat_eq r 0) refl there where
  go : (b : Bool) → nat_eq r 0 ≡ b → (if b then None else slice_get heap.objects (r - 1)) ≡ Some object → set heap.objects (r - 1) object ≡ heap.objects
  go true e there = absurd cc
  go false e there =
      ap (set heap.objects (r - 1)) (sym (get_or_from_slice_get heap.objects (r - 1) object object there)) ∙ set-get_or heap.objects (r - 1) object

pub puts_none : (h : LimitedHeap) (r at count bits : ℕ) → HasFields h.heap r count → count ≤ at → PutsField h h r at bits
puts_none h r at count bits f past class fields there =
    let same : Some (Instance f.class f.fields) ≡ Some (Instance class fields) = sym f.object ∙ there in
    let fields_same : f.fields ≡ fields = cc in
    let long : length fields ≤ at = subst (λ (fields : List ℕ). length fields ≤ at) fields_same (omega (arith, f.many, past)) in
    let still : set fields at bits ≡ fields = set_past fields at bits long in
    let whole : set h.heap.objects (r - 1) (Instance class (set fields at bits)) ≡ h.heap.objects =
    ap (λ (fields : List ℕ). set h.heap.objects (r - 1) (Instance class fields)) still ∙ same_in h.heap r (Instance class fields) there in
    ap (λ (objects : List (Object ℕ)). record h { heap = record h.heap { objects = objects } }) (sym whole)
