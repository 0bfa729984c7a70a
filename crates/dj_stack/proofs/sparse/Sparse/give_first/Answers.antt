use Rattle.std.proofs.Common.{ℕ, List, set, length, sym, subst, arith}
use Rattle.std.proofs.lemmas.List.{length-set}
use Rattle.dj_stack.specs.declared.parts.Parts.{Parts}
use Rattle.dj_stack.specs.Cells.{parts_of, SharedOut}
use Rattle.dj_stack.proofs.Cells.{shared_more}
use Rattle.dj_stack.proofs.sparse.Sparse.give_first.Goals as goal

pub invariant_of-self-clause-shared : goal.invariant_of-self-clause-shared
invariant_of-self-clause-shared c =
    let places = c.args.self.now.places.items in
    subst (λ (n : ℕ). SharedOut (set places c.args.at n) (length (parts_of c.push.new.self))) (sym c.len.ensures)
    (subst (λ (cells : List Parts). SharedOut (set places c.args.at (length cells)) (length cells)) (sym c.push.ensures.parts)
    (shared_more places (parts_of c.args.self.now.cells) c.args.at c.of_local.result c.args.self.now.shared c.requires.within c.requires.none))

pub invariant_of-self-clause-room : goal.invariant_of-self-clause-room
invariant_of-self-clause-room c = omega (arith, length-set c.args.self.now.places.items c.args.at c.len.result, c.push.ensures.room, c.args.self.now.room)

pub invariant_of-self-clause-few : goal.invariant_of-self-clause-few
invariant_of-self-clause-few c = omega (arith, length-set c.args.self.now.places.items c.args.at c.len.result, c.args.self.now.few)
