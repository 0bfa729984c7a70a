use Rattle.std.proofs.Common.{ℕ, ◌<◌, ◌≡◌, true, List, length, slice_get, subst, ap, arith}
use Rattle.std.specs.Global.{Vec}
use Rattle.std.proofs.lemmas.List.{length-map}
use Rattle.dj_model.specs.trusted.Program.{interfaces_of}
use Rattle.dj_resolution.specs.Numbers.{has}
use Rattle.dj_resolution.proofs.Marks.{numbers_below}
use Rattle.dj_resolution.proofs.order.classes_below.Goals as goal

pub put_below-requires-clause-listed : goal.put_below-requires-clause-listed
put_below-requires-clause-listed c = λ z there.
    let lt : z < length c.args.table.now =
    numbers_below c.args.table.now (interfaces_of (slice_get c.args.table.now c.loop-class.class)) z (subst (λ (xs : List ℕ). has xs z ≡ true) c.interfaces_of.ensures there) in
    let same = ap length c.deref_mut.ensures.value in
    let count = length-map c.loop-class.below.items (λ (l : Vec ℕ). l.items) in
    omega (arith, lt, same, count, c.loop-class.invariant.count)
