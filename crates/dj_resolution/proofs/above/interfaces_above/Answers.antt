use Rattle.std.proofs.Common.{◌≡◌, ◌<◌, Bool, List, false, true, length, get_or, subst, ap, arith}
use Rattle.dj_resolution.specs.Numbers.{lists_of}
use Rattle.dj_resolution.proofs.Knowing.{all_known}
use Rattle.dj_resolution.proofs.above.interfaces_above.Goals as goal

pub returns : goal.returns
returns c =
    all_known c.args.table.now (lists_of c.in_ok-lists.field-0.lists.items) c.in_ok-lists.field-0.marks.items c.in_ok-lists.ensures
    (λ k lt.
    (let same = ap length c.deref-mark-items.ensures.value in
    let within : k < c.loop-mark.mark-index = omega (arith, lt, same, c.loop-mark-test.false) in
    subst (λ (marks : List Bool). get_or marks k false ≡ true) c.deref-mark-items.ensures.value (c.loop-mark.invariant k within)))
