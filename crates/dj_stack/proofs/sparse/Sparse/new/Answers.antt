use Rattle.std.proofs.Common.{rules}
use Rattle.dj_stack.specs.Cells.{parts_of}
use Rattle.dj_stack.proofs.Cells.{shared_by_none}
use Rattle.dj_stack.proofs.sparse.Sparse.new.Goals as goal

pub invariant_of-result-clause-shared : goal.invariant_of-result-clause-shared
invariant_of-result-clause-shared c = shared_by_none c.in_ok-places.places.items (parts_of c.in_ok-cells.cells) 0 (search rules) c.in_ok-cells.ensures.parts
