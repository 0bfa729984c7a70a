use Rattle.std.proofs.Common.{◌≡◌, [], length, replicate}
use Rattle.dj_resolution.specs.Numbers.{lists_of}
use Rattle.dj_resolution.proofs.empty.empty_rows.Given as goal

-- the rows so far
abbrev pub invariant-loop : goal.invariant-loop
invariant-loop l = record {
  count : length (lists_of l.rows.items) ≡ l.counter;
  none : lists_of l.rows.items ≡ replicate l.counter [];
}
