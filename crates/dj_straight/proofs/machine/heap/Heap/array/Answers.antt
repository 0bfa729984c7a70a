use Rattle.std.proofs.Common.{◌≡◌, get_or, sym, ap, ◌∙◌, ◌<◌, ◌≤◌, ◌-◌, ℤ, List, length, codes, subst, arith}
use Rattle.std.specs.Global.{Vec}
use Rattle.dj_names.specs.declared.run.Element.TheVariants.{Byte}
use Rattle.dj_straight.specs.trusted.State.{Heap as ModelHeap}
use Rattle.dj_straight.specs.trusted.Effects.{array_at, IsArray}
use Rattle.dj_straight.proofs.ArrayLaws.{array_found, array_missing}
use Rattle.dj_straight.proofs.machine.heap.Heap.array.Goals as goal

pub returns-in-Some-clause-found : goal.returns-in-Some-clause-found
returns-in-Some-clause-found c =
    let r = c.args.reference in
    let arrays = c.self.inside.arrays.items in
    let bytes = c.in-Some.bytes.now in
    let found = subst (λ (xs : List (Vec ℤ)). (r - 1 < length xs) × (bytes ≡ get_or xs (r - 1) bytes)) c.deref.ensures.value
    (c.in-Some.ensures.lookup.3.0, c.in-Some.ensures.lookup.1) in
    ap (λ (heap : ModelHeap). array_at heap.objects r) (sym c.self.view_is) ∙ array_found arrays r bytes (omega arith) found.0 found.1
    ∙ ap (IsArray (codes "[B") Byte) (sym c.as_slice.ensures.value)

pub returns-in-None-clause-found : goal.returns-in-None-clause-found
returns-in-None-clause-found c =
    let r = c.args.reference in
    let arrays = c.self.inside.arrays.items in
    let past = subst (λ (xs : List (Vec ℤ)). length xs ≤ r - 1) c.deref.ensures.value c.in-None.ensures.lookup.3 in
    ap (λ (heap : ModelHeap). array_at heap.objects r) (sym c.self.view_is) ∙ array_missing arrays r (omega arith) past
