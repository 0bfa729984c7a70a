use Rattle.std.proofs.Common.{◌≡◌, ◌<◌, ℤ, List, length, unsigned_abs, ap, ◌∙◌, arith, w8, w32, to_z, of_z}
use Rattle.std.proofs.lemmas.Int.{to_z-of_z}
use Rattle.dj_straight.specs.trusted.State.{Heap as ModelHeap}
use Rattle.dj_straight.specs.trusted.Effects.{array_at, with_object, with_element}
use Rattle.dj_straight.specs.Arrays.{byte_array}
use Rattle.dj_straight.proofs.ArrayLaws.{found_bytes, index_within, stored_heap}
use Rattle.dj_straight.proofs.machine.heap.Heap.store.Goals as goal

pub index_mut-requires-2 : goal.index_mut-requires-2
index_mut-requires-2 c =
    let r = c.args.reference in
    let view = ap (λ (heap : ModelHeap). array_at heap.objects r) c.self.view_is in
    let hit = found_bytes c.self.inside.arrays.items r c.requires.0 c.index_mut.result.now (view ∙ c.requires.1) c.index_mut.ensures.value in
    let within : unsigned_abs c.args.index < length c.requires.0 = index_within c.requires.0 c.args.index c.requires.2 in
    let same : length c.index_mut.result.now.items ≡ length c.requires.0 = ap (λ (xs : List ℤ). length xs) hit.1 in
    let index : unsigned_abs (to_z w32 (of_z w32 c.args.index)) ≡ unsigned_abs c.args.index = ap unsigned_abs (to_z-of_z w32 c.args.index c.ranges.index) in
    omega (arith, within, same, index, c.index_mut.result.now.ok.0)

pub returns : goal.returns
returns c = λ contents found.
    let r = c.args.reference in
    let view = ap (λ (heap : ModelHeap). array_at heap.objects r) c.self.view_is in
    let index : unsigned_abs (to_z w32 (of_z w32 c.args.index)) ≡ unsigned_abs c.args.index = ap unsigned_abs (to_z-of_z w32 c.args.index c.ranges.index) in
    let byte : to_z w8 (of_z w8 c.args.byte) ≡ c.args.byte = to_z-of_z w8 c.args.byte c.ranges.byte in
    stored_heap c.self.inside.arrays.items r c.requires.0 contents c.index_mut.result.now _ c.args.index c.args.byte (view ∙ c.requires.1) c.requires.2
    (view ∙ found) c.index_mut.ensures.value (cc)
    ∙ ap (λ (heap : ModelHeap). with_object heap r (byte_array (with_element contents c.args.index c.args.byte))) c.self.view_is
