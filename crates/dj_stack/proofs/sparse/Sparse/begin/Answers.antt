use Rattle.std.proofs.Common.{length}
use Rattle.dj_stack.specs.Cells.{parts_of}
use Rattle.dj_stack.proofs.Cells.{shared_by_none, without_value}
use Rattle.dj_stack.proofs.sparse.Sparse.begin.Goals as goal

pub invariant_of-self-clause-shared : goal.invariant_of-self-clause-shared
invariant_of-self-clause-shared c =
    let zeros = c.set_to_zeros.new.places.items in
    shared_by_none zeros (parts_of c.clear.new.self) (length zeros) c.set_to_zeros.ensures.zeros c.clear.ensures.parts

pub returns-clause-locals : goal.returns-clause-locals
returns-clause-locals c = without_value c.set_to_zeros.new.places.items (parts_of c.clear.new.self) c.args.count c.in_ok-set_to_zeros.ensures.count
