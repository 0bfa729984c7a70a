use Rattle.std.proofs.Common.{All, IfSome, length, ◌<◌}
use Rattle.dj_numbering.proofs.heights.unknown_from.Given as goal

abbrev pub invariant-loop : goal.invariant-loop
invariant-loop l = record {
  path : All (λ k. k < length l.table) l.path.items;
  next : IfSome l.next (λ k. k < length l.table);
}
