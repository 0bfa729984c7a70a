use Rattle.dj_numbering.specs.Typed.{type_at}
use Rattle.dj_image.specs.Imaged.{typed_of}
use Rattle.dj_unwinding.proofs.Catching.{IsPast}
use Rattle.dj_unwinding.proofs.rows.handler_in.Given as goal

abbrev pub invariant-loop-at : goal.invariant-loop-at
invariant-loop-at l = IsPast l.image l.method.number (type_at (typed_of l.image) l.class) l.number l.at
